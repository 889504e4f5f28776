-- Without clocks and identifiers a log's lines are the turns of their rows.
use Rattle.std.proofs.Common.{◌≡◌, ◌∙◌, ℕ, ◌+◌, ◌<◌, ◌^◌, List, [], ◌∷◌, ◌++◌, length, map, Option, Some, None, Result, Ok, Err, refl, sym, ap, append-nil, append_assoc, arith}
use Rattle.std.proofs.lemmas.List.{length-map}
use Rattle.std.specs.Prelude.{codes, unsigned_abs}
use Rattle.std.specs.Fmt.{decimal}
use Rattle.wsm_record.specs.declared.event.RowFault.TheVariants.{BadTag}
use Rattle.wsm_record.specs.Event.{Event}
use Rattle.wsm_record.specs.Schema.{Declared}
use Rattle.wsm_admission.specs.Admission.{counter}
use Rattle.wsm_admission.proofs.Taken.{admitted_count-le}
use Rattle.wsm_admission.specs.Clock.{admitted_count, late_count, refused_count}
use Rattle.wsm_semantics.specs.Query.{Query, verdict_on}
use Rattle.wsm_semantics.specs.Firings.{firings_so_far}
use Rattle.wsm_semantics.specs.Relation.{turn_rows}
use Rattle.wsm_semantics.specs.Lines as lines_of
use Rattle.wsm_semantics.specs.Lines.{End, Out, events, refusal_lines}
use Rattle.wsm_semantics.specs.Text.{line_text, lines_text}
use Rattle.wsm_watermarks.specs.declared.held.Timed.{Timed}
use Rattle.wsm_watermarks.specs.declared.stamp.Stamp.{Stamp}
use Rattle.wsm_lines.specs.Fault.{fault_word}
use Rattle.wsm_lines.specs.declared.fault.LineFault.{LineFault}
use Rattle.wsm_turns.specs.declared.voice.Voice.TheVariants.{Key}
use Rattle.wsm_turns.specs.Voices.{voiced_at}
use Rattle.wsm_turns.specs.Turns.{Kept, fed_with, kept, setting_of, spoken_by, stamp_of, turn_by}
use Rattle.wsm_lines.specs.declared.source.Source.{Source}
use Rattle.wsm_lines.specs.Identifier.{identifier_at}
use Rattle.wsm_lines.specs.Fault.{on_ok, or_none}
use Rattle.wsm_lines.specs.Said.{clock_of, identifier_of, said_of, taken_of}
use Rattle.wsm_lines.specs.Scalar.{Taken}
use Rattle.wsm_log_rows.specs.Rows.{Said}
use Rattle.wsm_log_text.specs.LogText as texts
use Rattle.wsm_log_text.specs.LogText.{event_text, events_text, fault_count, line_behind, turn_text, voiced_in}
use Rattle.wsm_turns.specs.Numbered.{Numbered}
use Rattle.wsm_row_laws.specs.SaidRows.{row_said}
use Rattle.wsm_row_laws.specs.SameRuns.{AreWithout, EndsAlike, WritesAlike, plain, refused_text}

-- the event of a line goes on at its turn, alone
record GoesAlone (q : Query) (k : Kept) (n : ℕ) (o : Option Stamp) (e : Event) : Type 0 where
  goes : (turn_by (setting_of None q) k n o (record { event = e; identifier = None; voice = Key })).goes ≡ record { number = n; event = e } ∷ []
  fed : (turn_by (setting_of None q) k n o (record { event = e; identifier = None; voice = Key })).kept.fed ≡ e ∷ k.fed
  waits : (turn_by (setting_of None q) k n o (record { event = e; identifier = None; voice = Key })).kept.waits ≡ k.waits

goes_alone : (q : Query) (k : Kept) (n : ℕ) (o : Option Stamp) (e : Event) → GoesAlone q k n o e
goes_alone q k n None e = record { goes = refl; fed = refl; waits = refl }
goes_alone q k n (Some stamp) e = record { goes = refl; fed = refl; waits = refl }

-- what is kept of lines that have no identifiers
abbrev kept_of : Query → List Said → Kept
kept_of q lines = kept (setting_of None q) (map plain lines)

-- so the query was fed the events of the rows, and none waits
fed_is : (q : Query) (lines : List Said) → (kept_of q lines).fed ≡ events (map row_said lines)
fed_is q [] = refl
fed_is q (Err why ∷ before) = fed_is q before
fed_is q (Ok e ∷ before) =
    (goes_alone q (kept_of q before) (length (map plain before) + 1) (stamp_of q.declared e) e).fed ∙ ap (λ es. e ∷ es) (fed_is q before)

none_waits : (q : Query) (lines : List Said) → (kept_of q lines).waits ≡ []
none_waits q [] = refl
none_waits q (Err why ∷ before) = none_waits q before
none_waits q (Ok e ∷ before) = (goes_alone q (kept_of q before) (length (map plain before) + 1) (stamp_of q.declared e) e).waits ∙ none_waits q before

faults_are : (lines : List Said) → lines_of.fault_count (map row_said lines) ≡ fault_count (map plain lines)
faults_are [] = refl
faults_are (Ok e ∷ before) = faults_are before
faults_are (Err why ∷ before) = ap (λ n. n + 1) (faults_are before)

few : (n : ℕ) → n < 2 ^ 64 → counter n ≡ n
few n h = omega arith

number_is : (before : List Said) → length before + 1 < 2 ^ 64 → counter (length (map row_said before) + 1) ≡ length before + 1
number_is before h = ap (λ n. counter (n + 1)) (length-map before row_said) ∙ few (length before + 1) h

plain_number : (before : List Said) → length (map plain before) + 1 ≡ length before + 1
plain_number before = ap (λ n. n + 1) (length-map before plain)

module _ (q : Query) (before : List Said) (small : length before + 1 < 2 ^ 64) where
  event_alike : (e : Event) → turn_text q None (map plain before) (plain (Ok e)) ≡ lines_text q.declared (lines_of.turn_lines q (map row_said before) (Ok e))
  event_alike e =
      let k = kept_of q before in
      let n = length (map plain before) + 1 in
      rw (goes_alone q k n (stamp_of q.declared e) e).goes
      (append-nil (event_text q n k.fed e)
      ∙ ap (λ past. event_text q n past e) (fed_is q before)
      ∙ ap (λ m. lines_text q.declared (refusal_lines m (verdict_on q (events (map row_said before)) e) ++ map Out (turn_rows q (events (map row_said before)) e))) (plain_number before ∙ sym (number_is before small)))

  fault_alike : lines_text q.declared (lines_of.turn_lines q (map row_said before) (Err BadTag)) ≡ refused_text (length before + 1) (codes "BadTag")
  fault_alike = rw (number_is before small) (by (decimal (length before + 1)))
    where
      by : (ds : List ℕ) → (codes "refused" ++ 44 ∷ [] ++ ds ++ 44 ∷ [] ++ codes "BadTag") ++ 10 ∷ [] ++ [] ≡ codes "refused," ++ ds ++ codes "," ++ codes "BadTag" ++ codes "\n"
      by ds = simp append_assoc

pub writes_alike : (q : Query) (before : List Said) (x : Said) → length before + 1 < 2 ^ 64 → WritesAlike q before x
writes_alike q before (Ok e) small = record {
  event = λ d is. let same : e ≡ d = cc in ap (λ y. turn_text q None (map plain before) (plain (Ok y))) same ∙ event_alike q before small d;
  fault = λ why is. cc;
  row_fault = λ why is. cc;
}
writes_alike q before (Err w) small = record {
  event = λ d is. cc;
  fault = λ why is. ap (λ (y : Said). turn_text q None (map plain before) (plain y)) is ∙ ap (λ n. refused_text n (fault_word why)) (plain_number before);
  row_fault = λ why is. fault_alike q before small;
}

pub ends_alike : (q : Query) (lines : List Said) → unsigned_abs q.clock.records < 2 ^ 64 → length lines < 2 ^ 64 → EndsAlike q lines
ends_alike q lines records small =
    let k = kept_of q lines in
    let said = map plain lines in
    let past = events (map row_said lines) in
    let most = admitted_count-le q.clock q.shape q.declared past in
    let rows : length said ≡ counter (length (map row_said lines)) = length-map lines plain ∙ sym (ap counter (length-map lines row_said) ∙ few (length lines) small) in
    let admitted : admitted_count q.clock q.shape q.declared past ≡ counter (admitted_count q.clock q.shape q.declared past) = sym (few (admitted_count q.clock q.shape q.declared past) (omega arith)) in
    let faults : fault_count said ≡ lines_of.fault_count (map row_said lines) = sym (faults_are lines) in
    ap (λ (ws : List (Timed Numbered)). let gs = map (λ r. r.row) ws in events_text q k.fed gs ++ line_text q.declared (line_behind q said (fed_with k.fed gs))) (none_waits q lines)
    ∙ ap (λ p. line_text q.declared (line_behind q said p)) (fed_is q lines)
    ∙ (λ i. line_text q.declared (End (rows i) (admitted i) (counter (late_count q.clock q.shape q.declared past)) (counter (faults i + refused_count q.clock q.shape q.declared past)) (counter (length (firings_so_far q past)))))

-- ---- a source without identifiers, and no clocks

key_only : (o : Option Stamp) (names : List (List ℕ)) (name : Option (List ℕ)) → (voiced_at o None names name).voice ≡ Key
key_only None names name = refl
key_only (Some stamp) names name = refl

by_key : (d : Declared) (names : List (List ℕ)) (name : Option (List ℕ)) (r : Result Event LineFault) → (voiced_in None d names name r).voice ≡ Key
by_key d names name (Ok e) = key_only (stamp_of d e) names name
by_key d names name (Err why) = refl

no_identifier : (taken : Result Taken LineFault) → or_none (on_ok taken (identifier_at None)) ≡ None
no_identifier (Ok t) = refl
no_identifier (Err why) = refl

pub are_without : (s : Source) (d : Declared) → s.identifier ≡ None → (lines : List (List ℕ)) → AreWithout s d lines
are_without s d none [] = refl
are_without s d none (line ∷ before) =
    let without : identifier_of s before line ≡ None = ap (λ p. or_none (on_ok (taken_of s before line) (identifier_at p))) none ∙ no_identifier (taken_of s before line) in
    let key = by_key d (texts.names_of s None d before) (clock_of s before line) (said_of s d before line) in
    let first : texts.said_at s None d before line ≡ plain (said_of s d before line) = λ j. spoken_by (without j) (key j) (said_of s d before line) in
    λ j. first j ∷ are_without s d none before j

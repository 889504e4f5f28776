-- The turns of lines, where another history stands for the events that the query was fed.
use Rattle.std.proofs.Common.{◌≡◌, ◌∙◌, ◌++◌, ℕ, ◌+◌, true, false, cond, List, [], ◌∷◌, append-nil, append_assoc, length, length-append, map, ℤ, pos, ◌≤ℤ◌, Option, Some, None, Ok, Err, refl, sym, ap, subst}
use Rattle.wsm_record.specs.Event.{Event}
use Rattle.wsm_windows.specs.Windows.{IsShape}
use Rattle.wsm_watermarks.specs.declared.held.Timed.{Timed}
use Rattle.wsm_watermarks.specs.declared.stamp.Stamp.{Stamp}
use Rattle.wsm_watermarks.specs.Held.{Went}
use Rattle.wsm_semantics.specs.Query.{Query, SessionsByEvent}
use Rattle.wsm_semantics.specs.Lines.{Out, refusal_lines}
use Rattle.wsm_semantics.specs.Summaries.{IsLawful, Plan, Runs}
use Rattle.wsm_semantics.specs.ByKey.{with_records}
use Rattle.wsm_semantics.proofs.LaterMarks.{mark_alike}
use Rattle.wsm_doubles.specs.Memory.{live}
use Rattle.wsm_turns.specs.declared.clocks.Clocks.{Clocks}
use Rattle.wsm_turns.specs.Numbered.{Numbered, timed}
use Rattle.wsm_turns.specs.Turns.{Kept, Said, Setting, Spoken, Turn, fed_with, going, is_double, kept, noted, numbered, passing_by, setting_of, stamp_of, turn_by, turn_of, went_by}
use Rattle.wsm_turns.specs.Voices.{stamp_by}
use Rattle.wsm_head.specs.StandsFor.{StandsFor}
use Rattle.wsm_head.specs.Behind.{KeptFor, TurnsAlike, events_lines, kept_behind, lines_behind, lines_written, turn_lines}
use Rattle.wsm_head.proofs.Following.{follows}

-- what goes on as a record comes hangs on no event that the query was fed
went_same : (clocks : Option Clocks) (k : Kept) (other : List Event) (stamp : Stamp) (row : Timed Numbered) → went_by clocks k stamp row ≡ went_by clocks (record k { fed = other }) stamp row
went_same None k other stamp row = refl
went_same (Some c) k other stamp row = refl

module _ {X : Type 0} (plan : Plan X) (lawful : IsLawful plan) (q : Query) (runs : Runs plan q) (ok : IsShape q.shape) (timely : SessionsByEvent q) (low : pos 0 ≤ℤ q.clock.lateness) (records : ℤ) where
  -- events go on
  stand_with : (past other : List Event) (gs : List Numbered) → StandsFor plan q records past other → StandsFor plan q records (fed_with past gs) (fed_with other gs)
  stand_with past other [] stands = stands
  stand_with past other (g ∷ gs) stands = stand_with (g.event ∷ past) (g.event ∷ other) gs (follows plan lawful q runs ok timely low records past other stands g.event).stands

  -- the same lines are written of them
  lines_with : (past other : List Event) (gs : List Numbered) → StandsFor plan q records past other → events_lines (with_records records q) other gs ≡ events_lines q past gs
  lines_with past other [] stands = refl
  lines_with past other (g ∷ gs) stands =
      let next = follows plan lawful q runs ok timely low records past other stands g.event in
      λ i. (refusal_lines g.number (next.verdict i) ++ map Out (next.rows i)) ++ lines_with (g.event ∷ past) (g.event ∷ other) gs next.stands i

  module _ (clocks : Option Clocks) where
    abbrev w : Setting
    w = setting_of clocks q

    abbrev v : Setting
    v = setting_of clocks (with_records records q)

    -- two turns that are alike
    record Alike (one two : Turn) : Type 0 where
      goes : two.goes ≡ one.goes
      kept : KeptFor plan q records one.kept two.kept

    module _ (other : List Event) where
      goes_on : (k : Kept) (gs : List Numbered) → StandsFor plan q records k.fed other → Alike (going w k gs) (going v (record k { fed = other }) gs)
      goes_on k gs stands =
          let stand = stand_with k.fed other gs stands in
          record {
            goes = refl;
            kept = record {
              others = λ i. record k { fed = fed_with other gs; memory = live q.clock q.shape (mark_alike q q.clock.start records (fed_with k.fed gs) (fed_with other gs) stand.kept.marks i) k.memory };
              stands = stand;
            };
          }

      module _ (k : Kept) (stands : StandsFor plan q records k.fed other) (number : ℕ) where
        stays : Alike (record { goes = []; kept = k }) (record { goes = []; kept = record k { fed = other } })
        stays = record { goes = refl; kept = record { others = refl; stands = stands } }

        passes_by : (o : Option Stamp) (time : ℕ) (x : Spoken) → Alike (passing_by w k number o time x) (passing_by v (record k { fed = other }) number o time x)
        passes_by None time x = goes_on (record k { memory = noted x.identifier time k.memory }) (record { number = number; event = x.event } ∷ []) stands
        passes_by (Some stamp) time x =
            let row = timed stamp.time number x.event in
            let went : Went Numbered = went_by clocks k stamp row in
            let told : Went Numbered → Kept = λ g. record { stamps = stamp ∷ k.stamps; told = g.mark; waits = g.held; fed = k.fed; memory = noted x.identifier stamp.time k.memory } in
            subst (λ (g : Went Numbered). Alike (going w (told went) (map (numbered number) went.out)) (going v (record (told g) { fed = other }) (map (numbered number) g.out))) (went_same clocks k other stamp row)
            (goes_on (told went) (map (numbered number) went.out) stands)

        turns_by : (o : Option Stamp) (x : Spoken) → Alike (turn_by w k number o x) (turn_by v (record k { fed = other }) number o x)
        turns_by None x = goes_on k (record { number = number; event = x.event } ∷ []) stands
        turns_by (Some stamp) x =
            elim (is_double x.identifier k.memory) as (λ b. Alike (cond b (record { goes = []; kept = k }) (passing_by w k number (stamp_by x.voice stamp) stamp.time x)) (cond b (record { goes = []; kept = record k { fed = other } }) (passing_by v (record k { fed = other }) number (stamp_by x.voice stamp) stamp.time x))) [
              | true ↦ stays
              | false ↦ passes_by (stamp_by x.voice stamp) stamp.time x
            ]

        turns_of : {F : Type 0} (x : Said F) → Alike (turn_of w k number x) (turn_of v (record k { fed = other }) number x)
        turns_of (Err why) = stays
        turns_of (Ok x) = turns_by (stamp_of q.declared x.event) x

    pub turns_alike : {F : Type 0} (k other : Kept) (number : ℕ) (x : Said F) → KeptFor plan q records k other → TurnsAlike plan q records clocks k other number x
    turns_alike k other number x h =
        let there = turns_of other.fed k h.stands number x in
        let alike : Alike (turn_of w k number x) (turn_of v other number x) = subst (λ (o : Kept). Alike (turn_of w k number x) (turn_of v o number x)) (sym h.others) there in
        record {
          goes = alike.goes;
          lines = ap (events_lines (with_records records q) other.fed) alike.goes ∙ lines_with k.fed other.fed (turn_of w k number x).goes h.stands;
          kept = alike.kept;
        }

    pub kept_alike : {F : Type 0} (k other : Kept) (before : ℕ) (lines : List (Said F)) → KeptFor plan q records k other → KeptFor plan q records (kept_behind w k before lines) (kept_behind v other before lines)
    kept_alike k other before [] h = h
    kept_alike k other before (x ∷ lines) h =
        (turns_alike (kept_behind w k before lines) (kept_behind v other before lines) (length lines + before + 1) x (kept_alike k other before lines h)).kept

    pub lines_alike : {F : Type 0} (k other : Kept) (before : ℕ) (lines : List (Said F)) → KeptFor plan q records k other → lines_behind (with_records records q) clocks other before lines ≡ lines_behind q clocks k before lines
    lines_alike k other before [] h = refl
    lines_alike k other before (x ∷ lines) h =
        let turn = turns_alike (kept_behind w k before lines) (kept_behind v other before lines) (length lines + before + 1) x (kept_alike k other before lines h) in
        λ i. lines_alike k other before lines h i ++ turn.lines i

-- lines behind others are kept as all of them, and written so
kept_all : {F : Type 0} (w : Setting) (lines before : List (Said F)) → kept_behind w (kept w before) (length before) lines ≡ kept w (lines ++ before)
kept_all w [] before = refl
kept_all w (x ∷ lines) before =
    (λ i. (turn_of w (kept_all w lines before i) (length lines + length before + 1) x).kept)
    ∙ ap (λ (n : ℕ). (turn_of w (kept w (lines ++ before)) (n + 1) x).kept) (sym (length-append lines before))

pub lines_all : {F : Type 0} (q : Query) (clocks : Option Clocks) (lines before : List (Said F)) →
    lines_written q clocks (lines ++ before) ≡ lines_written q clocks before ++ lines_behind q clocks (kept (setting_of clocks q) before) (length before) lines
lines_all q clocks [] before = sym (append-nil (lines_written q clocks before))
lines_all q clocks (x ∷ lines) before =
    let w : Setting = setting_of clocks q in
    let k : Kept = kept w before in
    let number : length (lines ++ before) + 1 ≡ length lines + length before + 1 = ap (λ (n : ℕ). n + 1) (length-append lines before) in
    let turn : turn_lines q clocks (kept w (lines ++ before)) (length (lines ++ before) + 1) x ≡ turn_lines q clocks (kept_behind w k (length before) lines) (length lines + length before + 1) x =
    (λ i. turn_lines q clocks (sym (kept_all w lines before) i) (number i) x) in
    (λ i. lines_all q clocks lines before i ++ turn i)
    ∙ append_assoc (lines_written q clocks before) (lines_behind q clocks k (length before) lines) (turn_lines q clocks (kept_behind w k (length before) lines) (length lines + length before + 1) x)

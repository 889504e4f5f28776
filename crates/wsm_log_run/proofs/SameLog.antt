-- Queries with the same lines for every input write the same for a log.
use Rattle.std.proofs.Common.{◌≡◌, ◌∙◌, ◌++◌, ◌+◌, ◌∷◌, ℕ, Bool, List, [], length, map, Option, Ok, Err, inl, inr, refl, sym, ap, subst}
use Rattle.std.proofs.lemmas.List.{append_cancel_left}
use Rattle.std.specs.Io.KnownBytes.{Appends}
use Rattle.wsm_record.specs.declared.event.Value.{Value}
use Rattle.wsm_record.specs.declared.cell.Cell.{Cell}
use Rattle.wsm_record.specs.Event.{Event}
use Rattle.wsm_admission.specs.Admission.{counter}
use Rattle.wsm_admission.specs.Clock.{admitted_count, late_count, refused_count}
use Rattle.wsm_semantics.specs.declared.out_row.OutRow.{OutRow}
use Rattle.wsm_semantics.specs.declared.ending.Totals.{Totals}
use Rattle.wsm_semantics.specs.Query.{Query, Datum, verdict_on}
use Rattle.wsm_semantics.specs.Relation.{turn_rows}
use Rattle.wsm_semantics.specs.Firings.{firings_so_far}
use Rattle.wsm_semantics.specs.Lines.{Row, Line, Out, Faulty, Refused, End, events, refusal_lines, turn_lines, lines_so_far, all_lines}
use Rattle.wsm_semantics.specs.Text.{line_text, lines_text}
use Rattle.wsm_csv.specs.Device.{TakesPart}
use Rattle.wsm_lines.specs.declared.source.Source.{Source}
use Rattle.wsm_log_text.specs.LogText as texts
use Rattle.wsm_turns.specs.declared.clocks.Clocks.{Clocks}
use Rattle.wsm_turns.specs.Numbered.{Numbered}
use Rattle.wsm_turns.specs.Turns.{at_end, kept, setting_of}
use Rattle.wsm_log_text.specs.LogText.{Said, end_text, event_text, events_text, fault_count, fed_at_end, text, turn_at, turn_text, turns_text}
use Rattle.wsm_log_rows.specs.declared.end.LogEnd.{LogEnd}
use Rattle.wsm_log_rows.specs.declared.end.LogEnd.TheVariants as log
use Rattle.wsm_intake.specs.Run.{BreaksOff, Completes, EndsEarly, LogBroken, LogWritten, read_by}
use Rattle.wsm_query.specs.Tree as tree
use Rattle.wsm_machine.specs.Meaning.{query_of}
use Rattle.wsm_compiler.specs.Program.{program_of}
use Rattle.wsm_compiler.specs.Means.{meant}
use Rattle.wsm_inputs.specs.Begun.{IsAcceptedQuery}
use Rattle.wsm_inputs.proofs.SameLines as same

abbrev row_in : Line → OutRow → OutRow
row_in (Out row) other = row
row_in (Faulty n why) other = other
row_in (Refused n why) other = other
row_in (End a b c d e) other = other

abbrev panes_in : Line → ℕ
panes_in (Out row) = 0
panes_in (Faulty n why) = 0
panes_in (Refused n why) = 0
panes_in (End a b c d e) = e

abbrev head_of : List Line → Line → Line
head_of [] x = x
head_of (y ∷ ys) x = y

abbrev tail_of : List Line → List Line
tail_of [] = []
tail_of (y ∷ ys) = ys

same_out : (xs ys : List OutRow) → map Out xs ≡ map Out ys → xs ≡ ys
same_out [] [] h = refl
same_out [] (y ∷ ys) h = cc
same_out (x ∷ xs) [] h = cc
same_out (x ∷ xs) (y ∷ ys) h =
    let first : x ≡ y = ap (λ ls. row_in (head_of ls (Out x)) x) h in
    let rest : xs ≡ ys = same_out xs ys (ap tail_of h) in
    λ i. first i ∷ rest i

-- a history as rows
abbrev rows_of_events : List Event → List Row
rows_of_events [] = []
rows_of_events (e ∷ past) = Ok e ∷ rows_of_events past

events_again : (past : List Event) → events (rows_of_events past) ≡ past
events_again [] = refl
events_again (e ∷ past) = ap (λ es. e ∷ es) (events_again past)

module _ (q : Query) (sel : ℕ → List Value → Bool) (row : ℕ → List Datum → Option (List Cell)) (lines : (rows : List Row) → all_lines q rows ≡ all_lines (record q { selects = sel; row = row }) rows) where
  abbrev m : Query
  m = record q { selects = sel; row = row }

  turn_same : (before : List Row) (r : Row) → turn_lines q before r ≡ turn_lines m before r
  turn_same before r =
      append_cancel_left (lines_so_far q before) (turn_lines q before r) (turn_lines m before r)
      (same.so_far_same q m lines (r ∷ before) ∙ ap (λ (ls : List Line). ls ++ turn_lines m before r) (sym (same.so_far_same q m lines before)))

  rows_same : (past : List Event) (e : Event) → turn_rows q past e ≡ turn_rows m past e
  rows_same past e =
      let before = rows_of_events past in
      let turns = turn_same before (Ok e) in
      let outs : turn_rows q (events before) e ≡ turn_rows m (events before) e = same_out (turn_rows q (events before) e) (turn_rows m (events before) e)
      (append_cancel_left (refusal_lines (counter (length before + 1)) (verdict_on q (events before) e)) (map Out (turn_rows q (events before) e)) (map Out (turn_rows m (events before) e)) turns) in
      subst (λ es. turn_rows q es e ≡ turn_rows m es e) (events_again past) outs

  panes_same : (past : List Event) → counter (length (firings_so_far q past)) ≡ counter (length (firings_so_far m past))
  panes_same past =
      let before = rows_of_events past in
      subst (λ es. counter (length (firings_so_far q es)) ≡ counter (length (firings_so_far m es))) (events_again past) (ap panes_in (same.end_same_rows q m lines before))

  event_same : (n : ℕ) (past : List Event) (e : Event) → event_text q n past e ≡ event_text m n past e
  event_same n past e = ap (λ (rs : List OutRow). lines_text q.declared (refusal_lines n (verdict_on q past e) ++ map Out rs)) (rows_same past e)

  events_same : (past : List Event) (gs : List Numbered) → events_text q past gs ≡ events_text m past gs
  events_same past [] = refl
  events_same past (g ∷ gs) = (λ i. event_same g.number past g.event i ++ events_same (g.event ∷ past) gs i)

  turn_text_same : (clocks : Option Clocks) (before : List Said) (x : Said) → turn_text q clocks before x ≡ turn_text m clocks before x
  turn_text_same clocks before (Err why) = refl
  turn_text_same clocks before (Ok x) =
      let k = kept (setting_of clocks q) before in
      events_same k.fed (turn_at (setting_of clocks q) k (length before + 1) (Ok x)).goes

  turns_same : (clocks : Option Clocks) (all : List Said) → turns_text q clocks all ≡ turns_text m clocks all
  turns_same clocks [] = refl
  turns_same clocks (x ∷ before) = (λ i. turns_same clocks before i ++ turn_text_same clocks before x i)

  end_same : (clocks : Option Clocks) (all : List Said) → texts.end_line q clocks all ≡ texts.end_line m clocks all
  end_same clocks all =
      let past = fed_at_end q clocks all in
      ap (λ (n : ℕ). End (length all) (admitted_count q.clock q.shape q.declared past) (counter (late_count q.clock q.shape q.declared past)) (counter (fault_count all + refused_count q.clock q.shape q.declared past)) n) (panes_same past)

  end_text_same : (clocks : Option Clocks) (all : List Said) → end_text q clocks all ≡ end_text m clocks all
  end_text_same clocks all =
      let k = kept (setting_of clocks q) all in
      (λ i. events_same k.fed (at_end k) i ++ line_text q.declared (end_same clocks all i))

  text_same : (clocks : Option Clocks) (all : List Said) → text q clocks all ≡ text m clocks all
  text_same clocks all = (λ i. turns_same clocks all i ++ end_text_same clocks all i)

  Completes-same : (known : Option (List ℕ)) (s : Source) (clocks : Option Clocks) (read : List (List ℕ)) (old new : Option (List ℕ)) (totals : Totals) → Completes known s clocks q read old new totals → Completes known s clocks m read old new totals
  Completes-same known s clocks read old new totals h = record { all = h.all; text = subst (Appends old new) (text_same clocks (read_by s clocks q read)) h.text; numbers = h.numbers ∙ end_same clocks (read_by s clocks q read) }

  BreaksOff-same : (known : Option (List ℕ)) (s : Source) (clocks : Option Clocks) (read : List (List ℕ)) (old new : Option (List ℕ)) → BreaksOff known s clocks q read old new → BreaksOff known s clocks m read old new
  BreaksOff-same known s clocks read old new h = record { first = h.first; text = subst (Appends old new) (turns_same clocks (read_by s clocks q read)) h.text }

  EndsEarly-same : (known : Option (List ℕ)) (s : Source) (clocks : Option Clocks) (read : List (List ℕ)) (old new : Option (List ℕ)) (end : LogEnd) → EndsEarly known s clocks q read old new end → EndsEarly known s clocks m read old new end
  EndsEarly-same known s clocks read old new log.Memory h = BreaksOff-same known s clocks read old new h
  EndsEarly-same known s clocks read old new log.ReadFailed h = BreaksOff-same known s clocks read old new h
  EndsEarly-same known s clocks read old new log.WriteFailed (inl h) = inl (record { first = h.first; part = subst (TakesPart old new) (turns_same clocks (read_by s clocks q read)) h.part })
  EndsEarly-same known s clocks read old new log.WriteFailed (inr h) = inr (record { all = h.all; part = subst (TakesPart old new) (text_same clocks (read_by s clocks q read)) h.part })

pub log_written : (text : List ℕ) (q : tree.Query) → IsAcceptedQuery text q → (known : Option (List ℕ)) (s : Source) (clocks : Option Clocks) (old new : Option (List ℕ)) (totals : Totals)
    → LogWritten known s clocks old new (query_of (program_of q)) totals → LogWritten known s clocks old new (meant q) totals
log_written text q a known s clocks old new totals (read, h) =
    (read, Completes-same (query_of (program_of q)) (meant q).selects (meant q).row (same.text_lines text q a) known s clocks read old new totals h)

pub log_broken : (text : List ℕ) (q : tree.Query) → IsAcceptedQuery text q → (known : Option (List ℕ)) (s : Source) (clocks : Option Clocks) (old new : Option (List ℕ)) (end : LogEnd)
    → LogBroken known s clocks old new (query_of (program_of q)) end → LogBroken known s clocks old new (meant q) end
log_broken text q a known s clocks old new end (read, h) =
    (read, EndsEarly-same (query_of (program_of q)) (meant q).selects (meant q).row (same.text_lines text q a) known s clocks read old new end h)

-- How many lines turns have.
use Rattle.std.proofs.Common.{◌≡◌, ℕ, ◌+◌, suc, List, ◌∷◌, ◌++◌, length, map, Option, Some, None, Ok, refl, sym, ap, ◌∙◌, length-append, arith}
use Rattle.std.proofs.lemmas.List.{length-map}
use Rattle.wsm_record.specs.Event.{Event}
use Rattle.wsm_admission.specs.Admission.{counter}
use Rattle.wsm_admission.specs.Clock.{admitted_count}
use Rattle.wsm_admission.specs.declared.verdict.Refusal.{Refusal}
use Rattle.wsm_admission.specs.declared.verdict.Refusal.TheVariants as refusal
use Rattle.wsm_semantics.specs.Query.{Query, verdict_on}
use Rattle.wsm_semantics.specs.Relation.{turn_rows}
use Rattle.wsm_semantics.specs.Lines.{Row, Line, Out, events, lines_so_far, refusal_lines}
use Rattle.wsm_kept.specs.declared.counts.Counts.{Counts}
use Rattle.wsm_kept.specs.Kept.{counts_of}

one_more : (rows n : ℕ) → rows ≡ counter n → counter (rows + 1) ≡ counter (suc n)
one_more rows n h = omega (arith, h)

all_more : (lines told written n : ℕ) → lines ≡ counter n → counter (lines + counter (told + written)) ≡ counter (n + (told + written))
all_more lines told written n h = omega (arith, h)

-- a refusal has as many lines whatever the number of its row is
told_alike : (row : ℕ) (v : Option Refusal) → length (refusal_lines row v) ≡ length (refusal_lines 0 v)
told_alike row None = refl
told_alike row (Some refusal.UnknownKey) = refl
told_alike row (Some refusal.FieldRange) = refl
told_alike row (Some refusal.TimeRange) = refl
told_alike row (Some refusal.TooFarAhead) = refl
told_alike row (Some refusal.Late) = refl
told_alike row (Some refusal.RecordLimit) = refl
told_alike row (Some refusal.NotRising) = refl
told_alike row (Some refusal.UnknownSource) = refl

event_lines : (q : Query) (before : List Row) (e : Event) → length (lines_so_far q (Ok e ∷ before))
    ≡ length (lines_so_far q before) + (length (refusal_lines 0 (verdict_on q (events before) e)) + length (turn_rows q (events before) e))
event_lines q before e =
    let past : List Event = events before in
    let told : List Line = refusal_lines (counter (length before + 1)) (verdict_on q past e) in
    length-append (lines_so_far q before) (told ++ map Out (turn_rows q past e))
    ∙ ap (λ (n : ℕ). length (lines_so_far q before) + n)
    (length-append told (map Out (turn_rows q past e))
    ∙ ap (λ (n : ℕ). n + length (map Out (turn_rows q past e))) (told_alike (counter (length before + 1)) (verdict_on q past e))
    ∙ ap (λ (n : ℕ). length (refusal_lines 0 (verdict_on q past e)) + n) (length-map (turn_rows q past e) Out))

counted_event : (q : Query) (before : List Row) (e : Event) (lines told written : ℕ) → lines ≡ counter (length (lines_so_far q before))
    → told ≡ length (refusal_lines 0 (verdict_on q (events before) e)) → written ≡ length (turn_rows q (events before) e)
    → counter (lines + counter (told + written)) ≡ counter (length (lines_so_far q (Ok e ∷ before)))
counted_event q before e lines told written h k l = all_more lines told written (length (lines_so_far q before)) h
    ∙ ap (λ (n : ℕ). counter (length (lines_so_far q before) + (n + written))) k
    ∙ ap (λ (n : ℕ). counter (length (lines_so_far q before) + (length (refusal_lines 0 (verdict_on q (events before) e)) + n))) l
    ∙ ap counter (sym (event_lines q before e))

same_counts : (c d : Counts) → c.rows ≡ d.rows → c.lines ≡ d.lines → c.admitted ≡ d.admitted → c ≡ d
same_counts c d rows lines admitted = λ i. record { rows = rows i; lines = lines i; admitted = admitted i }

-- a row more that is an event
pub event_counts : (q : Query) (before : List Row) (e : Event) (old new : Counts) (told written : ℕ) → old ≡ counts_of q before
    → told ≡ length (refusal_lines 0 (verdict_on q (events before) e)) → written ≡ length (turn_rows q (events before) e)
    → new.rows ≡ counter (old.rows + 1) → new.lines ≡ counter (old.lines + counter (told + written)) → new.admitted ≡ admitted_count q.clock q.shape q.declared (e ∷ events before)
    → new ≡ counts_of q (Ok e ∷ before)
event_counts q before e old new told written is k l rows lines admitted =
    same_counts new (counts_of q (Ok e ∷ before))
    (rows ∙ one_more old.rows (length before) (ap (λ (c : Counts). c.rows) is))
    (lines ∙ counted_event q before e old.lines told written (ap (λ (c : Counts). c.lines) is) k l)
    admitted

-- What is known of each selected record: its key is declared, its values fit, WHERE is true of it, and
-- its time is one that a record may have and no further ahead of the watermark than the skew. No more
-- records are selected than admitted.
use Rattle.std.proofs.Common.{◌≡◌, ℕ, ◌+◌, ◌<◌, ◌≤◌, true, false, List, [], ◌∷◌, length, ℤ, ◌+ℤ◌, ◌≤ℤ◌, Option, Some, None, sym, subst, arith, length-append}
use Rattle.std.proofs.lemmas.Int.{ints}
use Rattle.std.specs.Prelude.{int_lt}
use Rattle.std.specs.List.{AllByRecursion}
use Rattle.std.proofs.lemmas.Bool.{ltb-true}
use Rattle.wsm_record.specs.Event.{Event, Record, Watermark}
use Rattle.wsm_record.specs.Schema.{fit_fields}
use Rattle.wsm_windows.specs.Windows.{IsTime}
use Rattle.wsm_admission.specs.declared.verdict.Refusal.{Refusal}
use Rattle.wsm_admission.specs.Clock.{admitted_count, admitted_with}
use Rattle.wsm_admission.proofs.FittedHistory.{a_time}
use Rattle.wsm_admission.proofs.Taken.{taken_record}
use Rattle.wsm_admission.proofs.SourceMarks.{watermark_rises}
use Rattle.wsm_semantics.specs.Query.{Query, Datum, mark, verdict_on, selection, selected, selection_of}
use Rattle.wsm_semantics.proofs.Lists.{all-each}
use Rattle.wsm_semantics.proofs.Each.{all-append}
use Rattle.wsm_semantics.proofs.Effects.{by_effect}

-- what is known of a selected record, at a watermark
pub record IsSelected (q : Query) (w : ℤ) (d : Datum) : Type 0 where
  pub key : d.key < length q.declared.keys
  pub fits : fit_fields q.declared.fields d.values ≡ true
  pub selects : q.selects d.key d.values ≡ true
  pub time : IsTime d.time
  pub near : d.time ≤ℤ (w +ℤ q.clock.skew)

not_ahead : (w t skew : ℤ) → int_lt (w +ℤ skew) t ≡ false → t ≤ℤ (w +ℤ skew)
not_ahead w t skew h = grind (arith, ints)

still_near : (t w v skew : ℤ) → w ≤ℤ v → t ≤ℤ (w +ℤ skew) → t ≤ℤ (v +ℤ skew)
still_near t w v skew h k = omega (arith, ints)

module _ (q : Query) where
  -- a later watermark is no further behind
  pub ahead : (w v : ℤ) → w ≤ℤ v → (d : Datum) → IsSelected q w d → IsSelected q v d
  ahead w v rises d h = record { key = h.key; fits = h.fits; selects = h.selects; time = h.time; near = still_near d.time w v q.clock.skew rises h.near }

  selects_one : (e : Event) (past : List Event) → AllByRecursion (IsSelected q (mark q (e ∷ past))) (selection_of q past e)
  selects_one e past =
      by_effect q past (λ e x. AllByRecursion (IsSelected q (mark q (e ∷ past))) (selection x))
      (λ k t vs is_taken selects.
      let taken = taken_record q.clock q.shape q.declared (mark q past) (admitted_count q.clock q.shape q.declared past) (Some k) t vs is_taken in (
        record {
          key = ltb-true k (length q.declared.keys) taken.has_key;
          fits = taken.fits;
          selects = selects;
          time = a_time t taken.in_time;
          near = not_ahead (mark q past) t q.clock.skew taken.near;
        },
        tt,
      ))
      (λ o t _. tt)
      (λ e _. tt)
      e

  -- of each selected record
  pub each_selected : (past : List Event) → AllByRecursion (IsSelected q (mark q past)) (selected q past)
  each_selected [] = tt
  each_selected (e ∷ past) =
      all-append (IsSelected q (mark q (e ∷ past))) (selection_of q past e) (selected q past)
      (selects_one e past)
      (all-each (IsSelected q (mark q past)) (IsSelected q (mark q (e ∷ past))) (selected q past) (ahead (mark q past) (mark q (e ∷ past)) (watermark_rises q.clock q.declared past e)) (each_selected past))

  admits_more : (n : ℕ) (e : Event) (v : Option Refusal) → n ≤ admitted_with n e v
  admits_more n (Record k t vs) None = omega arith
  admits_more n (Record k t vs) (Some r) = omega arith
  admits_more n (Watermark o t) v = omega arith

  one_selected : (e : Event) (past : List Event) (n : ℕ) → length (selection_of q past e) + n ≤ admitted_with n e (verdict_on q past e)
  one_selected e past n =
      by_effect q past (λ e x. length (selection x) + n ≤ admitted_with n e (verdict_on q past e))
      (λ k t vs taken _. subst (λ (v : Option Refusal). 1 + n ≤ admitted_with n (Record (Some k) t vs) v) (sym taken) (omega arith))
      (λ o t _. omega arith)
      (λ e _. let more : n ≤ admitted_with n e (verdict_on q past e) = admits_more n e (verdict_on q past e) in omega arith)
      e

  both_grow : (sel old n all : ℕ) → old ≤ n → sel + n ≤ all → sel + old ≤ all
  both_grow sel old n all h k = omega arith

  -- no more records are selected than admitted
  pub selected_count : (past : List Event) → length (selected q past) ≤ admitted_count q.clock q.shape q.declared past
  selected_count [] = omega arith
  selected_count (e ∷ past) =
      rw (length-append (selection_of q past e) (selected q past))
      (both_grow (length (selection_of q past e)) (length (selected q past)) (admitted_count q.clock q.shape q.declared past) _ (selected_count past) (one_selected e past (admitted_count q.clock q.shape q.declared past)))

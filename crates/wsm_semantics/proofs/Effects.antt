-- What an event does on its turn, case by case: an admitted record that WHERE selects is selected, a
-- watermark may rise, and all else does nothing.
use Rattle.std.proofs.Common.{◌≡◌, ℕ, Bool, true, false, ◌&&◌, cond, List, [], ◌∷◌, map, length, ℤ, ◌≤ℤ◌, Option, Some, None, is_none, refl, sym, ap, subst, ◌∙◌, arith}
use Rattle.std.proofs.lemmas.Int.{ints}
use Rattle.std.specs.Prelude.{int_lt}
use Rattle.wsm_record.specs.declared.event.Value.{Value}
use Rattle.wsm_record.specs.Event.{Event, Record, Watermark}
use Rattle.wsm_admission.specs.declared.verdict.Refusal.{Refusal}
use Rattle.wsm_admission.specs.Clock.{admitted_count, least}
use Rattle.wsm_admission.proofs.SourceMarks.{watermark_rises}
use Rattle.wsm_admission.proofs.Taken.{refused_keeps}
use Rattle.wsm_semantics.specs.Query.{Datum, Query, datum, Effect, Selects, Rises, Nothing, effect_of, selection, selection_of, mark, raises, verdict_on, is_taken}

pub stays_where : (m n : ℤ) → m ≤ℤ n → int_lt m n ≡ false → n ≡ m
stays_where m n h k = grind (arith, ints)

not_past : (m : ℤ) → int_lt m m ≡ false
not_past m = grind (arith, ints)

-- ---- an effect whose record is changed

abbrev pub effect_with : (Datum → Datum) → Effect → Effect
effect_with change (Selects d) = Selects (change d)
effect_with change (Rises old new) = Rises old new
effect_with change Nothing = Nothing

pub selection-with : (change : Datum → Datum) (x : Effect) → selection (effect_with change x) ≡ map change (selection x)
selection-with change (Selects d) = refl
selection-with change (Rises old new) = refl
selection-with change Nothing = refl

-- of a record, and of a watermark
pub selects-with : (change : Datum → Datum) (d : Datum) (b : Bool) → cond b (Selects (change d)) Nothing ≡ effect_with change (cond b (Selects d) Nothing)
selects-with change d true = refl
selects-with change d false = refl

pub rises-with : (change : Datum → Datum) (old new : ℤ) (b : Bool) → cond b (Rises old new) Nothing ≡ effect_with change (cond b (Rises old new) Nothing)
rises-with change old new true = refl
rises-with change old new false = refl

module _ (q : Query) (past : List Event) where
  -- ---- the watermark

  pub refused_stays : (e : Event) (r : Refusal) → verdict_on q past e ≡ Some r → mark q (e ∷ past) ≡ mark q past
  refused_stays e r h = ap least (refused_keeps q.clock q.shape q.declared (admitted_count q.clock q.shape q.declared past) past e r h)

  -- an event that leaves the watermark doesn't raise it
  pub stays_down : (e : Event) → mark q (e ∷ past) ≡ mark q past → raises q past e ≡ false
  stays_down e same = ap (int_lt (mark q past)) same ∙ not_past (mark q past)

  -- and one that doesn't raise it leaves it
  pub down_stays : (e : Event) → raises q past e ≡ false → mark q (e ∷ past) ≡ mark q past
  down_stays e down = stays_where (mark q past) (mark q (e ∷ past)) (watermark_rises q.clock q.declared past e) down

  -- ---- what an event does

  -- an admitted record of which WHERE is true is selected
  pub effect-selected : (k : ℕ) (t : ℤ) (vs : List Value) → verdict_on q past (Record (Some k) t vs) ≡ None → q.selects k vs ≡ true → effect_of q past (Record (Some k) t vs) ≡ Selects (datum (length past) (mark q past) k t vs)
  effect-selected k t vs taken selects i = cond (is_none (taken i) && selects i) (Selects (datum (length past) (mark q past) k t vs)) Nothing

  -- one of which it isn't does nothing
  pub effect-unselected : (k : ℕ) (t : ℤ) (vs : List Value) → q.selects k vs ≡ false → effect_of q past (Record (Some k) t vs) ≡ Nothing
  effect-unselected k t vs h =
      elim (is_taken q past (Record (Some k) t vs)) as (λ b. cond (b && q.selects k vs) (Selects (datum (length past) (mark q past) k t vs)) Nothing ≡ Nothing) [
        | true ↦ ap (λ (b : Bool). cond b (Selects (datum (length past) (mark q past) k t vs)) Nothing) h
        | false ↦ refl
      ]

  -- a watermark that doesn't raise that of the query
  pub effect-down : (o : Option ℕ) (t : ℤ) → raises q past (Watermark o t) ≡ false → effect_of q past (Watermark o t) ≡ Nothing
  effect-down o t down = ap (λ (b : Bool). cond b (Rises (mark q past) (mark q (Watermark o t ∷ past))) Nothing) down

  -- a refused event does nothing
  pub effect-refused : (e : Event) (r : Refusal) → verdict_on q past e ≡ Some r → effect_of q past e ≡ Nothing
  effect-refused (Record None t vs) r h = refl
  effect-refused (Record (Some k) t vs) r h = λ i. cond (is_none (h i) && q.selects k vs) (Selects (datum (length past) (mark q past) k t vs)) Nothing
  effect-refused (Watermark o t) r h = effect-down o t (stays_down (Watermark o t) (refused_stays (Watermark o t) r h))

  -- ---- in each case

  -- what holds of each event with what it does
  pub by_effect : (P : Event → Effect → Type 0) →
      ((k : ℕ) (t : ℤ) (vs : List Value) → verdict_on q past (Record (Some k) t vs) ≡ None → q.selects k vs ≡ true → P (Record (Some k) t vs) (Selects (datum (length past) (mark q past) k t vs))) →
      ((o : Option ℕ) (t : ℤ) → raises q past (Watermark o t) ≡ true → P (Watermark o t) (Rises (mark q past) (mark q (Watermark o t ∷ past)))) →
      ((e : Event) → effect_of q past e ≡ Nothing → P e Nothing) →
      (e : Event) → P e (effect_of q past e)
  by_effect P selected risen nothing (Record None t vs) = nothing (Record None t vs) refl
  by_effect P selected risen nothing (Record (Some k) t vs) = pick (verdict_on q past (Record (Some k) t vs)) (q.selects k vs) refl refl where
    pick : (v : Option Refusal) (b : Bool) → verdict_on q past (Record (Some k) t vs) ≡ v → q.selects k vs ≡ b → P (Record (Some k) t vs) (effect_of q past (Record (Some k) t vs))
    pick None true taken selects = subst (P (Record (Some k) t vs)) (sym (effect-selected k t vs taken selects)) (selected k t vs taken selects)
    pick None false taken other = let none = effect-unselected k t vs other in subst (P (Record (Some k) t vs)) (sym none) (nothing (Record (Some k) t vs) none)
    pick (Some r) b refused other = let none = effect-refused (Record (Some k) t vs) r refused in subst (P (Record (Some k) t vs)) (sym none) (nothing (Record (Some k) t vs) none)
  by_effect P selected risen nothing (Watermark o t) =
      elim (raises q past (Watermark o t)) as (λ b. raises q past (Watermark o t) ≡ b → P (Watermark o t) (cond b (Rises (mark q past) (mark q (Watermark o t ∷ past))) Nothing)) [
        | true ↦ λ up. risen o t up
        | false ↦ λ down. nothing (Watermark o t) (effect-down o t down)
      ] refl

  -- what holds of each record with what it does
  pub by_record : (P : Effect → Type 0) → P Nothing → ((k : ℕ) (t : ℤ) (vs : List Value) → P (Selects (datum (length past) (mark q past) k t vs))) →
      (k : Option ℕ) (t : ℤ) (vs : List Value) → P (effect_of q past (Record k t vs))
  by_record P nothing selected None t vs = nothing
  by_record P nothing selected (Some k) t vs =
      elim (is_taken q past (Record (Some k) t vs) && q.selects k vs) as (λ b. P (cond b (Selects (datum (length past) (mark q past) k t vs)) Nothing)) [
        | true ↦ selected k t vs
        | false ↦ nothing
      ]

  -- ---- what is selected, and where the watermark stays

  pub selects_one : (k : ℕ) (t : ℤ) (vs : List Value) → verdict_on q past (Record (Some k) t vs) ≡ None → q.selects k vs ≡ true → selection_of q past (Record (Some k) t vs) ≡ datum (length past) (mark q past) k t vs ∷ []
  selects_one k t vs taken selects = ap selection (effect-selected k t vs taken selects)

  -- a watermark selects nothing
  pub selects_none : (o : Option ℕ) (t : ℤ) → selection_of q past (Watermark o t) ≡ []
  selects_none o t = elim (raises q past (Watermark o t)) as (λ b. selection (cond b (Rises (mark q past) (mark q (Watermark o t ∷ past))) Nothing) ≡ []) [ true ↦ refl | false ↦ refl ]

  -- what does nothing leaves the watermark
  pub nothing_stays : (e : Event) → effect_of q past e ≡ Nothing → mark q (e ∷ past) ≡ mark q past
  nothing_stays (Record k t vs) none = refl
  nothing_stays (Watermark o t) none =
      elim (raises q past (Watermark o t)) as (λ b. raises q past (Watermark o t) ≡ b → cond b (Rises (mark q past) (mark q (Watermark o t ∷ past))) Nothing ≡ Nothing → mark q (Watermark o t ∷ past) ≡ mark q past) [
        | true ↦ λ up clash. absurd (cc)
        | false ↦ λ down _. down_stays (Watermark o t) down
      ] refl none

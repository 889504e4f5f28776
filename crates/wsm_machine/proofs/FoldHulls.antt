-- What a run folds lies in the hull of what its section folds.
use Rattle.std.proofs.Common.{◌≡◌, ℕ, zero, suc, ◌+◌, true, cond, ◌⊎◌, inl, inr, List, [], ◌∷◌, ◌++◌, length, map, take, Option, Some, None, refl, sym, subst, ap, ◌∙◌, arith}
use Rattle.std.specs.Prelude.{slice_get, slice_set, ℤ}
use Rattle.std.proofs.lemmas.Bool.{and_from, not-false}
use Rattle.std.proofs.lemmas.Option.{same_Some}
use Rattle.wsm_interval.specs.declared.Interval.{Interval}
use Rattle.wsm_interval.specs.Interval.{Holds, hull}
use Rattle.wsm_interval.proofs.SoundOperations.{hull_holds_left, hull_holds_right}
use Rattle.wsm_record.specs.declared.event.Value.{Value}
use Rattle.wsm_record.specs.declared.event.Value.TheVariants as values
use Rattle.wsm_record.specs.declared.words.Kind.{Kind}
use Rattle.wsm_record.specs.declared.words.Kind.TheVariants.{Sum, Min, Max, Any, All}
use Rattle.wsm_record.specs.Types.{kind_type}
use Rattle.wsm_program.specs.declared.instr.Instr.{Instr}
use Rattle.wsm_program.specs.declared.instr.Instr.TheVariants.{Fold}
use Rattle.wsm_program.specs.Instructions.{kind_of}
use Rattle.wsm_rules.specs.declared.known.Known.{Known}
use Rattle.wsm_rules.specs.declared.known.Known.TheVariants.{Number, Truth}
use Rattle.wsm_rules.specs.Labels.{State as Knows, Reached, Visit, visit_of, visits, label_of, label_at}
use Rattle.wsm_rules.specs.Rules.{Setting as Rules, has_type, types_fit, last_number, hull_options, value_folded, values_folded}
use Rattle.wsm_record.specs.declared.cell.Cell.{Cell}
use Rattle.wsm_record.specs.declared.cell.Cell.TheVariants as cell
use Rattle.wsm_machine.specs.Step.{Setting, State, with_fold, value_of}
use Rattle.wsm_machine.specs.Fits.{Fits, FitsAll}
use Rattle.wsm_machine.specs.InRange.{is_number_in, is_value_in, are_values_in}
use Rattle.wsm_machine.proofs.Runs.{goes_after, length-folds}
use Rattle.wsm_machine.proofs.RunsToReturn.{none≢some, StepsKeep, split_all, length-visits}
use Rattle.wsm_machine.proofs.AccumulatorRanges.{holds_true}
use Rattle.wsm_semantics.proofs.Each.{itself}
use Rattle.std.proofs.lemmas.List.{length-map}

-- ---- the hull holds what each place folds

abbrev HoldsIn : Option Interval → ℤ → Type 0
HoldsIn o n = (x : Interval) × (o ≡ Some x) × Holds x n

hull_left : (a b : Option Interval) (n : ℤ) → HoldsIn a n → HoldsIn (hull_options a b) n
hull_left None b n h = none≢some h.1
hull_left (Some x) None n h = h
hull_left (Some x) (Some y) n h = (hull x y, refl, hull_holds_left x y n (subst (λ z. Holds z n) (sym (same_Some x h.0 h.1)) h.2))

hull_right : (a b : Option Interval) (n : ℤ) → HoldsIn b n → HoldsIn (hull_options a b) n
hull_right None b n h = h
hull_right (Some x) None n h = none≢some h.1
hull_right (Some x) (Some y) n h = (hull x y, refl, hull_holds_right x y n (subst (λ z. Holds z n) (sym (same_Some y h.0 h.1)) h.2))

folded_among : (a : ℕ) (front : List Visit) (w : Visit) (rest : List Visit) (n : ℤ) → HoldsIn (value_folded a w.instr w.label) n → HoldsIn (values_folded a (front ++ w ∷ rest)) n
folded_among a [] w rest n h = hull_left (value_folded a w.instr w.label) (values_folded a rest) n h
folded_among a (u ∷ front) w rest n h = hull_right (value_folded a u.instr u.label) (values_folded a (front ++ w ∷ rest)) n (folded_among a front w rest n h)

number_in : (o : Option Interval) (n : ℤ) → HoldsIn o n → is_number_in o (values.Int n) ≡ true
number_in o n h = ap (λ x. is_number_in x (values.Int n)) h.1 ∙ holds_true h.0 n h.2

-- ---- what a FOLD folds

-- the value is of the accumulator's kind, and its number, if it is one, is that of the known interval
folds_value : (k : Kind) (x : Known) (c : Cell) (o : Option Interval) → has_type (kind_type k) x ≡ true → Fits x c → ((y : Interval) (n : ℤ) → x ≡ Number y → Holds y n → HoldsIn o n) → is_value_in o k (value_of c) ≡ true
folds_value Sum (Number y) (cell.Int n) o t f h = number_in o n (h y n refl f)
folds_value Min (Number y) (cell.Int n) o t f h = number_in o n (h y n refl f)
folds_value Max (Number y) (cell.Int n) o t f h = number_in o n (h y n refl f)
folds_value Any Truth (cell.Bool b) (Some x) t f h = refl
folds_value Any Truth (cell.Bool b) None t f h = refl
folds_value All Truth (cell.Bool b) (Some x) t f h = refl
folds_value All Truth (cell.Bool b) None t f h = refl
folds_value k x c o t f h = absurd (first_of (assumption, cc))

got_set : (xs : List (Option Value)) (a b : ℕ) (y z : Value) → slice_get (slice_set xs b (Some y)) a ≡ Some (Some z) → ((a ≡ b) × (y ≡ z)) ⊎ (slice_get xs a ≡ Some (Some z))
got_set [] a b y z e = none≢some e
got_set (x ∷ xs) zero zero y z e = let itself : y ≡ z = cc in inl (refl, itself)
got_set (x ∷ xs) zero (suc b) y z e = inr e
got_set (x ∷ xs) (suc a) zero y z e = inr e
got_set (x ∷ xs) (suc a) (suc b) y z e = elim (got_set xs a b y z e) [ inl h ↦ inl (ap suc h.0, h.1) | inr h ↦ inr h ]

-- ---- what a run folds

-- there is a place for each accumulator, and what is folded there is in range
pub record FoldsFit (v : Rules) (vs : List Visit) (m : State) : Type 0 where
  pub places : length m.folds ≡ length v.kinds
  pub values : (a : ℕ) (x : Value) → slice_get m.folds a ≡ Some (Some x) → is_value_in (values_folded a vs) (kind_of v.kinds a) x ≡ true

module _ (v : Rules) (e : Knows) (c : Setting) where
  -- a FOLD's number lies in the hull of the section's
  fold_in : (a : ℕ) (p : ℕ) (s : Knows) (y : Interval) (ks : List Known) (n : ℤ) → slice_get c.code p ≡ Some (Fold a) → label_at e v.ranges c.code p ≡ Reached s → s.stack ≡ Number y ∷ ks → Holds y n → HoldsIn (values_folded a (visits e v.ranges c.code)) n
  fold_in a p s y ks n here lab top h =
      let split = split_all e v.ranges c.code p (Fold a) here in
      let before = visits e v.ranges (take p c.code) in
      let known : label_of e (length before) before ≡ Reached s = ap (λ q. label_of e q before) (length-visits e v.ranges c.code p (Fold a) here) ∙ lab in
      let folds : value_folded a (Fold a) (label_of e (length before) before) ≡ Some y =
      ap (value_folded a (Fold a)) known ∙ ap (λ b. cond b (last_number s.stack) None) (itself a) ∙ ap last_number top in
      subst (λ vs. HoldsIn (values_folded a vs) n) (sym split.1)
      (folded_among a split.0 (visit_of e v.ranges (Fold a) before) before n (y, folds, h))

  folds_top : (a p : ℕ) (s : Knows) (xs : List Known) (x : Cell) (stack : List Cell) → s.stack ≡ xs → slice_get c.code p ≡ Some (Fold a) → label_at e v.ranges c.code p ≡ Reached s → types_fit v.kinds v.ends (Fold a) xs ≡ true → FitsAll xs (x ∷ stack)
      → is_value_in (values_folded a (visits e v.ranges c.code)) (kind_of v.kinds a) (value_of x) ≡ true
  folds_top a p s [] x stack is here lab types fits = absurd fits
  folds_top a p s (k ∷ ks) x stack is here lab types fits =
      folds_value (kind_of v.kinds a) k x (values_folded a (visits e v.ranges c.code)) types fits.0
      (λ y n eq h. fold_in a p s y ks n here lab (is ∙ ap (λ z. z ∷ ks) eq) h)

  after_fold : (i : Instr) (p : ℕ) (s : Knows) (stack : List Cell) (folds : List (Option Value)) → slice_get c.code p ≡ Some i → label_at e v.ranges c.code p ≡ Reached s → types_fit v.kinds v.ends i s.stack ≡ true → FitsAll s.stack stack
      → ((a : ℕ) (x : Value) → slice_get folds a ≡ Some (Some x) → is_value_in (values_folded a (visits e v.ranges c.code)) (kind_of v.kinds a) x ≡ true)
      → (a : ℕ) (x : Value) → slice_get (with_fold i stack folds) a ≡ Some (Some x) → is_value_in (values_folded a (visits e v.ranges c.code)) (kind_of v.kinds a) x ≡ true
  after_fold (Fold b) p s [] folds here lab types fits old a x g = old a x g
  after_fold (Fold b) p s (y ∷ stack) folds here lab types fits old a x g =
      elim (got_set folds a b (value_of y) x g) [
        | inl new ↦ subst (λ n. is_value_in (values_folded n (visits e v.ranges c.code)) (kind_of v.kinds n) x ≡ true) (sym new.0)
            (subst (λ z. is_value_in (values_folded b (visits e v.ranges c.code)) (kind_of v.kinds b) z ≡ true) new.1 (folds_top b p s s.stack y stack refl here lab types fits))
        | inr kept ↦ old a x kept
      ]
  after_fold i p s stack folds here lab types fits old a x g = old a x g

  pub folds_fit : StepsKeep v e c (FoldsFit v (visits e v.ranges c.code))
  folds_fit i m t here at goes kept = record {
    places = length-folds c m i t goes ∙ kept.places;
    values = subst (λ (n : State). (a : ℕ) (x : Value) → slice_get n.folds a ≡ Some (Some x) → is_value_in (values_folded a (visits e v.ranges c.code)) (kind_of v.kinds a) x ≡ true) (sym (goes_after c m i t goes))
        (after_fold i m.place at.knows m.stack m.folds here at.label (not-false (types_fit v.kinds v.ends i at.knows.stack) at.passes.types) at.fits.values kept.values);
  }

-- ---- as one list

pub are_in : (o : ℕ → Option Interval) (a : ℕ) (ks : List Kind) (vs : List Value) → length vs ≡ length ks → ((j : ℕ) (x : Value) → slice_get vs j ≡ Some x → is_value_in (o (a + j)) (kind_of ks j) x ≡ true) → are_values_in o a ks vs ≡ true
are_in o a [] [] l h = refl
are_in o a (k ∷ ks) (x ∷ vs) l h =
    and_from (is_value_in (o a) k x) (are_values_in o (suc a) ks vs)
    (subst (λ n. is_value_in (o n) k x ≡ true) (plus_none a) (h 0 x refl))
    (are_in o (suc a) ks vs (omega (arith, l)) (λ j y g. subst (λ n. is_value_in (o n) (kind_of ks j) y ≡ true) (plus_more a j) (h (suc j) y g)))
  where
    plus_none : (a : ℕ) → a + 0 ≡ a
    plus_none a = omega arith

    plus_more : (a j : ℕ) → a + suc j ≡ suc a + j
    plus_more a j = omega arith
are_in o a ks vs l h = absurd (omega (arith, l))

unmapped : (vs : List Value) (j : ℕ) (x : Value) → slice_get vs j ≡ Some x → slice_get (map Some vs) j ≡ Some (Some x)
unmapped [] j x g = none≢some g
unmapped (y ∷ vs) zero x g = ap Some g
unmapped (y ∷ vs) (suc j) x g = unmapped vs j x g

-- where every accumulator is folded
pub folded_in : (v : Rules) (seen : List Visit) (m : State) (vs : List Value) → FoldsFit v seen m → m.folds ≡ map Some vs → are_values_in (λ a. values_folded a seen) 0 v.kinds vs ≡ true
folded_in v seen m vs h all =
    are_in (λ a. values_folded a seen) 0 v.kinds vs (sym (length-map vs Some) ∙ ap length (sym all) ∙ h.places)
    (λ j x g. subst (λ n. is_value_in (values_folded n seen) (kind_of v.kinds j) x ≡ true) (from_none j) (h.values j x (ap (λ l. slice_get l j) all ∙ unmapped vs j x g)))
  where
    from_none : (j : ℕ) → j ≡ 0 + j
    from_none j = omega arith

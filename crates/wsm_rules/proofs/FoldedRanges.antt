-- What a section without a fault folds into each accumulator, and that sums of it stay in 64 bits.
use Rattle.std.proofs.Common.{◌≡◌, ℕ, zero, suc, ◌+◌, ◌<◌, Bool, true, false, ◌&&◌, not, cond, ◌⊎◌, inl, inr, List, [], ◌∷◌, ◌++◌, length, drop, get_or, ℤ, ◌*ℤ◌, Option, Some, None, refl, sym, ap, subst, ◌∙◌, arith}
use Rattle.std.proofs.lemmas.Bool.{true≢false, eqb-true}
use Rattle.std.proofs.Math.Seq.{drop-cons}
use Rattle.std.proofs.lemmas.List.{append_assoc}
use Rattle.std.specs.Prelude.{nat_eq, int_lt, slice_get, slice_index_or}
use Rattle.std.specs.Int.{int_min, int_max}
use Rattle.wsm_interval.specs.declared.Interval.{Interval}
use Rattle.wsm_record.specs.Schema.{is_i64}
use Rattle.wsm_record.specs.declared.Kind.{Kind}
use Rattle.wsm_record.specs.declared.Kind.TheVariants.{Sum}
use Rattle.wsm_program.specs.declared.Instr.{Instr}
use Rattle.wsm_program.specs.declared.Instr.TheVariants.{Fold}
use Rattle.wsm_program.specs.Instructions.{kind_of}
use Rattle.wsm_program.specs.Program.{Program}
use Rattle.wsm_rules.specs.declared.known.Known.{Known}
use Rattle.wsm_rules.specs.declared.known.Known.TheVariants.{Number}
use Rattle.wsm_rules.specs.Labels.{State, Reached, Visit}
use Rattle.wsm_rules.specs.Rules.{Setting, sum_leaves, last_is, last_number, value_folded, values_folded, hull_options, accumulated, and_then, folded_from, accumulated_each, ranges_from, range, update_visits, fault_of, first_fault, accumulator_leaves}
use Rattle.wsm_rules.specs.Accumulated.{stays}
use Rattle.wsm_rules.proofs.AcceptedPlaces.{Each, each_passes, passes}

-- ---- lists, an accumulator a place

pub folded_is : (b : ℕ) (ks : List Kind) (vs : List Visit) (xs : List (Option Interval)) → length xs ≡ length ks →
    ((a : ℕ) → a < length ks → slice_index_or xs a None ≡ values_folded (b + a) vs) → xs ≡ folded_from b ks vs
folded_is b [] vs [] e h = refl
folded_is b [] vs (x ∷ xs) e h = absurd (omega (arith, e))
folded_is b (k ∷ ks) vs [] e h = absurd (omega (arith, e))
folded_is b (k ∷ ks) vs (x ∷ xs) e h =
    let here : b + 0 ≡ b = omega arith in
    let first : x ≡ values_folded b vs = h 0 (omega arith) ∙ ap (λ n. values_folded n vs) here in
    let rest : xs ≡ folded_from (suc b) ks vs = folded_is (suc b) ks vs xs (omega (arith, e)) (λ a l. let later : b + suc a ≡ suc b + a = omega arith in h (suc a) (omega (arith, l)) ∙ ap (λ n. values_folded n vs) later) in
    rw (first, rest) refl

pub length-folded_from : (b : ℕ) (ks : List Kind) (vs : List Visit) → length (folded_from b ks vs) ≡ length ks
length-folded_from b [] vs = refl
length-folded_from b (k ∷ ks) vs = ap suc (length-folded_from (suc b) ks vs)

next_each : (r : ℤ) (ks : List Kind) (xs : List (Option Interval)) (p : ℕ) (k : Kind) (x : Option Interval) → p < length ks → p < length xs →
    accumulated_each r (drop p ks) (drop p xs) ≡ and_then (accumulated r (get_or ks p k)) (get_or xs p x) ∷ accumulated_each r (drop (suc p) ks) (drop (suc p) xs)
next_each r ks xs p k x h l = rw (drop-cons ks p k h, drop-cons xs p x l) refl

-- the ranges of one accumulator more
pub accumulated_next : (r : ℤ) (ks : List Kind) (xs : List (Option Interval)) (p : ℕ) (k : Kind) (x : Option Interval) (before now all : List (Option Interval)) (v : Option Interval) → p < length ks → p < length xs →
    before ++ accumulated_each r (drop p ks) (drop p xs) ≡ all → v ≡ and_then (accumulated r (get_or ks p k)) (get_or xs p x) → now ≡ before ++ v ∷ [] →
    now ++ accumulated_each r (drop (p + 1) ks) (drop (p + 1) xs) ≡ all
accumulated_next r ks xs p k x before now all v h l so_far is added =
    let more : p + 1 ≡ suc p = omega arith in
    let rest = accumulated_each r (drop (suc p) ks) (drop (suc p) xs) in
    let next : accumulated_each r (drop p ks) (drop p xs) ≡ v ∷ rest = next_each r ks xs p k x h l ∙ ap (λ w. w ∷ rest) (sym is) in
    ap (λ n. now ++ accumulated_each r (drop n ks) (drop n xs)) more ∙ ap (λ ys. ys ++ rest) added ∙ append_assoc before (v ∷ []) rest ∙ ap (λ ys. before ++ ys) (sym next) ∙ so_far

range_from : (r : ℤ) (b : ℕ) (ks : List Kind) (vs : List Visit) (a : ℕ) →
    slice_index_or (ranges_from r b ks vs) a None ≡ and_then (λ k. and_then (accumulated r k) (values_folded (b + a) vs)) (slice_get ks a)
range_from r b [] vs a = refl
range_from r b (k ∷ ks) vs zero = let here : b ≡ b + 0 = omega arith in ap (λ n. and_then (accumulated r k) (values_folded n vs)) here
range_from r b (k ∷ ks) vs (suc a) =
    let later : suc b + a ≡ b + suc a = omega arith in
    range_from r (suc b) ks vs a ∙ ap (λ n. and_then (λ k. and_then (accumulated r k) (values_folded n vs)) (slice_get ks a)) later

-- the range of an accumulator of a kind
pub range_at : (p : Program) (a : ℕ) (k : Kind) → slice_get p.header.kinds a ≡ Some k → range p a ≡ and_then (accumulated p.header.clock.records k) (values_folded a (update_visits p))
range_at p a k h =
    let first : 0 + a ≡ a = omega arith in
    range_from p.header.clock.records 0 p.header.kinds (update_visits p) a
    ∙ ap (and_then (λ k. and_then (accumulated p.header.clock.records k) (values_folded (0 + a) (update_visits p)))) h
    ∙ ap (λ n. and_then (accumulated p.header.clock.records k) (values_folded n (update_visits p))) first

-- ---- sums

in_least : (r x y : ℤ) → is_i64 (r *ℤ x) ≡ true → is_i64 (r *ℤ y) ≡ true → is_i64 (r *ℤ int_min x y) ≡ true
in_least r x y h l = elim (int_lt y x) as (λ b. is_i64 (r *ℤ cond b y x) ≡ true) [ true ↦ l | false ↦ h ]

in_greatest : (r x y : ℤ) → is_i64 (r *ℤ x) ≡ true → is_i64 (r *ℤ y) ≡ true → is_i64 (r *ℤ int_max x y) ≡ true
in_greatest r x y h l = elim (int_lt y x) as (λ b. is_i64 (r *ℤ cond b x y) ≡ true) [ true ↦ h | false ↦ l ]

and_is : (a b : Bool) → not (not (a && b)) ≡ true → (a ≡ true) × (b ≡ true)
and_is true true e = (refl, refl)
and_is true false e = absurd (true≢false (sym e))
and_is false b e = absurd (true≢false (sym e))

both : (a b : Bool) → a ≡ true → b ≡ true → not (not (a && b)) ≡ true
both true true e h = refl
both true false e h = absurd (true≢false (sym h))
both false b e h = absurd (true≢false (sym e))

-- where the sums of two intervals stay, those of their hull do
stay_hull : (r : ℤ) (k : Kind) (x y : Option Interval) → stays r k x ≡ true → stays r k y ≡ true → stays r k (hull_options x y) ≡ true
stay_hull r k None y h l = l
stay_hull r k (Some x) None h l = h
stay_hull r Sum (Some x) (Some y) h l =
    let low = and_is (is_i64 (r *ℤ x.lo)) (is_i64 (r *ℤ x.hi)) h in
    let high = and_is (is_i64 (r *ℤ y.lo)) (is_i64 (r *ℤ y.hi)) l in
    both (is_i64 (r *ℤ int_min x.lo y.lo)) (is_i64 (r *ℤ int_max x.hi y.hi)) (in_least r x.lo y.lo low.0 high.0) (in_greatest r x.hi y.hi low.1 high.1)
stay_hull r _ (Some x) (Some y) h l = refl

stay_last : (r : ℤ) (k : Kind) (s : List Known) → last_is (sum_leaves r k) s ≡ false → stays r k (last_number s) ≡ true
stay_last r k [] e = refl
stay_last r k (Number x ∷ s) e = ap not e
stay_last r k (_ ∷ s) e = refl

-- what a place without a fault folds stays
stay_value : (c : Setting) (a : ℕ) (i : Instr) (s : State) → accumulator_leaves c.records c.kinds i s.stack ≡ false → stays c.records (kind_of c.kinds a) (value_folded a i (Reached s)) ≡ true
stay_value c a (Fold b) s e =
    elim (nat_eq a b) as (λ t. nat_eq a b ≡ t → stays c.records (kind_of c.kinds a) (cond t (last_number s.stack) None) ≡ true) [
      | true ↦ λ t. rw (eqb-true a b t) (stay_last c.records (kind_of c.kinds b) s.stack e)
      | false ↦ λ t. refl
    ] refl
stay_value c a _ s e = refl

stay_each : (c : Setting) (a : ℕ) (vs : List Visit) → Each (λ v. fault_of c v.place v.instr v.label ≡ None) vs → stays c.records (kind_of c.kinds a) (values_folded a vs) ≡ true
stay_each c a [] h = refl
stay_each c a (v ∷ vs) h =
    let at = passes c v.place v.instr v.label h.0 in
    stay_hull c.records (kind_of c.kinds a) (value_folded a v.instr v.label) (values_folded a vs)
    (subst (λ l. stays c.records (kind_of c.kinds a) (value_folded a v.instr l) ≡ true) (sym at.1) (stay_value c a v.instr at.0 at.2.sums))
    (stay_each c a vs h.1)

index_is : (b : ℕ) (ks : List Kind) (vs : List Visit) (a : ℕ) → (slice_index_or (folded_from b ks vs) a None ≡ None) ⊎ (slice_index_or (folded_from b ks vs) a None ≡ values_folded (b + a) vs)
index_is b [] vs a = inl refl
index_is b (k ∷ ks) vs zero = let here : b ≡ b + 0 = omega arith in inr (ap (λ n. values_folded n vs) here)
index_is b (k ∷ ks) vs (suc a) = let later : suc b + a ≡ b + suc a = omega arith in subst (λ n. (slice_index_or (folded_from (suc b) ks vs) a None ≡ None) ⊎ (slice_index_or (folded_from (suc b) ks vs) a None ≡ values_folded n vs)) later (index_is (suc b) ks vs a)

-- in a section without a fault sums of all records stay
pub stay_all : (c : Setting) (vs : List Visit) → first_fault c vs ≡ None → (a : ℕ) → stays c.records (kind_of c.kinds a) (slice_index_or (folded_from 0 c.kinds vs) a None) ≡ true
stay_all c vs e a =
    elim (index_is 0 c.kinds vs a) [
      | inl h ↦ ap (stays c.records (kind_of c.kinds a)) h
      | inr h ↦ let first : 0 + a ≡ a = omega arith in
          ap (stays c.records (kind_of c.kinds a)) (h ∙ ap (λ n. values_folded n vs) first) ∙ stay_each c a vs (each_passes c vs e)
    ]

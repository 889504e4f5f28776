-- What edges carry to one place, put together in any groups.
use Rattle.std.proofs.Common.{◌≡◌, ℕ, Bool, true, false, ◌&&◌, cond, List, [], ◌∷◌, ◌++◌, refl, sym, ap, subst, arith}
use Rattle.std.proofs.lemmas.Bool.{and_from, and_parts}
use Rattle.std.proofs.lemmas.Int.{ints, clamps}
use Rattle.std.specs.Prelude.{ℤ, nat_eq}
use Rattle.std.specs.Int.{int_min, int_max}
use Rattle.wsm_interval.specs.declared.interval.Interval.{Interval}
use Rattle.wsm_interval.specs.Interval.{interval, hull}
use Rattle.wsm_rules.specs.declared.known.Known.{Known}
use Rattle.wsm_rules.specs.Labels.{State, Label, Unreached, Differing, Reached, same_type, same_types, same_flags, agree, hull_known, hull_lists, hull_states, label_with, hull_all}
use Rattle.wsm_semantics.proofs.Each.{itself}
use Rattle.wsm_machine.proofs.FittingStacks.{no}
use Rattle.wsm_machine.proofs.EdgeLabels.{agreed, flags_are}

min_self : (a : ℤ) → int_min a a ≡ a
min_self a = omega (arith, ints, clamps)

max_self : (a : ℤ) → int_max a a ≡ a
max_self a = omega (arith, ints, clamps)

min_groups : (a b d : ℤ) → int_min a (int_min b d) ≡ int_min (int_min a b) d
min_groups a b d = omega (arith, ints, clamps)

max_groups : (a b d : ℤ) → int_max a (int_max b d) ≡ int_max (int_max a b) d
max_groups a b d = omega (arith, ints, clamps)

min_either : (a b : ℤ) → int_min a b ≡ int_min b a
min_either a b = omega (arith, ints, clamps)

max_either : (a b : ℤ) → int_max a b ≡ int_max b a
max_either a b = omega (arith, ints, clamps)

hull_self : (x : Interval) → hull x x ≡ x
hull_self x = (λ i. interval (min_self x.lo i) (max_self x.hi i))

pub hull_either : (x y : Interval) → hull x y ≡ hull y x
hull_either x y = (λ i. interval (min_either x.lo y.lo i) (max_either x.hi y.hi i))

hull_groups : (x y z : Interval) → hull x (hull y z) ≡ hull (hull x y) z
hull_groups x y z = (λ i. interval (min_groups x.lo y.lo z.lo i) (max_groups x.hi y.hi z.hi i))

pub known_self : (x : Known) → hull_known x x ≡ x
known_self x = grind (arith, hull_self)

pub stack_self : (xs : List Known) → hull_lists xs xs ≡ xs
stack_self [] = refl
stack_self (x ∷ xs) = (λ i. known_self x i ∷ stack_self xs i)

pub type_self : (x : Known) → same_type x x ≡ true
type_self x = grind (arith, itself)

pub types_self : (xs : List Known) → same_types xs xs ≡ true
types_self [] = refl
types_self (x ∷ xs) = and_from (same_type x x) (same_types xs xs) (type_self x) (types_self xs)

pub flags_self : (fs : List Bool) → same_flags fs fs ≡ true
flags_self [] = refl
flags_self (true ∷ fs) = flags_self fs
flags_self (false ∷ fs) = flags_self fs

-- ---- one type is that of the other, and of their hull

same_number : (d e f : ℕ) → nat_eq d e ≡ true → nat_eq d f ≡ true → nat_eq e f ≡ true
same_number d e f h l = grind arith

-- the second of three that the first and the third agree with
type_of_hull : (x y z : Known) → same_type x y ≡ true → same_type (hull_known x y) z ≡ true → same_type y z ≡ true
type_of_hull x y z h l = grind (arith, same_number)

type_with_hull : (x y z : Known) → same_type x y ≡ true → same_type y z ≡ true → same_type x (hull_known y z) ≡ true
type_with_hull x y z h l = grind arith

known_groups : (x y z : Known) → same_type x y ≡ true → same_type y z ≡ true → hull_known x (hull_known y z) ≡ hull_known (hull_known x y) z
known_groups x y z h l = grind (arith, hull_groups)

types_of_hull : (xs ys zs : List Known) → same_types xs ys ≡ true → same_types (hull_lists xs ys) zs ≡ true → same_types ys zs ≡ true
types_of_hull [] [] zs h l = l
types_of_hull (x ∷ xs) (y ∷ ys) [] h l = no l
types_of_hull (x ∷ xs) (y ∷ ys) (z ∷ zs) h l =
    let a = and_parts (same_type x y) (same_types xs ys) h in
    let b = and_parts (same_type (hull_known x y) z) (same_types (hull_lists xs ys) zs) l in
    and_from (same_type y z) (same_types ys zs) (type_of_hull x y z a.0 b.0) (types_of_hull xs ys zs a.1 b.1)
types_of_hull xs ys zs h l = no h

types_with_hull : (xs ys zs : List Known) → same_types xs ys ≡ true → same_types ys zs ≡ true → same_types xs (hull_lists ys zs) ≡ true
types_with_hull [] [] zs h l = refl
types_with_hull (x ∷ xs) (y ∷ ys) [] h l = no l
types_with_hull (x ∷ xs) (y ∷ ys) (z ∷ zs) h l =
    let a = and_parts (same_type x y) (same_types xs ys) h in
    let b = and_parts (same_type y z) (same_types ys zs) l in
    and_from (same_type x (hull_known y z)) (same_types xs (hull_lists ys zs)) (type_with_hull x y z a.0 b.0) (types_with_hull xs ys zs a.1 b.1)
types_with_hull xs ys zs h l = no h

stack_groups : (xs ys zs : List Known) → same_types xs ys ≡ true → same_types ys zs ≡ true → hull_lists xs (hull_lists ys zs) ≡ hull_lists (hull_lists xs ys) zs
stack_groups [] ys zs h l = refl
stack_groups (x ∷ xs) [] zs h l = no h
stack_groups (x ∷ xs) (y ∷ ys) [] h l = no l
stack_groups (x ∷ xs) (y ∷ ys) (z ∷ zs) h l =
    let a = and_parts (same_type x y) (same_types xs ys) h in
    let b = and_parts (same_type y z) (same_types ys zs) l in
    (λ i. known_groups x y z a.0 b.0 i ∷ stack_groups xs ys zs a.1 b.1 i)

-- ---- states

pub agreeing : (s t : State) → same_types s.stack t.stack ≡ true → same_flags s.folded t.folded ≡ true → same_types s.fields t.fields ≡ true → agree s t ≡ true
agreeing s t h l m = and_from (same_types s.stack t.stack) (same_flags s.folded t.folded && same_types s.fields t.fields) h (and_from (same_flags s.folded t.folded) (same_types s.fields t.fields) l m)

agree_of_hull : (s t u : State) → agree s t ≡ true → agree (hull_states s t) u ≡ true → agree t u ≡ true
agree_of_hull s t u h l =
    let a = agreed s t h in
    let b = agreed (hull_states s t) u l in
    let flags = subst (λ fs. same_flags fs u.folded ≡ true) (flags_are s.folded t.folded a.flags) b.flags in
    agreeing t u (types_of_hull s.stack t.stack u.stack a.stacks b.stacks) flags (types_of_hull s.fields t.fields u.fields a.fields b.fields)

agree_with_hull : (s t u : State) → agree s t ≡ true → agree t u ≡ true → agree s (hull_states t u) ≡ true
agree_with_hull s t u h l = grind (arith, agreed, agreeing, types_with_hull)

states_groups : (s t u : State) → agree s t ≡ true → agree t u ≡ true → hull_states s (hull_states t u) ≡ hull_states (hull_states s t) u
states_groups s t u h l = grind (arith, agreed, stack_groups)

-- ---- one state more

abbrev state_or : State → Label → State
state_or s (Reached t) = t
state_or s _ = s

abbrev is_reached : Label → Bool
is_reached (Reached t) = true
is_reached _ = false

abbrev is_unreached : Label → Bool
is_unreached Unreached = true
is_unreached _ = false

never_unreached : (s : State) (l : Label) → is_unreached (label_with s l) ≡ false
never_unreached s l = grind arith

hull_reached : (s t : State) → agree s t ≡ true → label_with s (Reached t) ≡ Reached (hull_states s t)
hull_reached s t h = ap (λ b. cond b (Reached (hull_states s t)) Differing) h

-- a state before others, where they are known with one more
before_others : (s u t : State) (l m : Label) → is_unreached l ≡ false → label_with s l ≡ Reached u → agree u t ≡ true → ((w : State) → l ≡ Reached w → agree w t ≡ true → m ≡ Reached (hull_states w t)) → label_with s m ≡ Reached (hull_states u t)
before_others s u t l m n e a go = grind (arith, agree_of_hull, hull_reached, agree_with_hull, states_groups)

-- what a last edge more makes of a hull
pub hull_with : (ss : List State) (u t : State) → hull_all ss ≡ Reached u → agree u t ≡ true → hull_all (ss ++ t ∷ []) ≡ Reached (hull_states u t)
hull_with [] u t e a = no (ap is_reached e)
hull_with (s ∷ []) u t e a =
    let is : s ≡ u = ap (state_or s) e in
    subst (λ x. label_with x (Reached t) ≡ Reached (hull_states u t)) (sym is) (hull_reached u t a)
hull_with (s ∷ r ∷ ss) u t e a =
    before_others s u t (hull_all (r ∷ ss)) (hull_all ((r ∷ ss) ++ t ∷ [])) (never_unreached r (hull_all ss)) e a (λ w h b. hull_with (r ∷ ss) w t h b)

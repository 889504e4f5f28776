-- What accumulators hold of rows that UPDATE folded is in the range that FIRE reads.
use Rattle.std.proofs.Common.{◌≡◌, ℕ, zero, suc, ◌+◌, ◌≤◌, true, ◌⊎◌, inl, inr, List, [], ◌∷◌, length, Option, Some, None, refl, sym, subst, ap, ◌∙◌, arith}
use Rattle.std.specs.Prelude.{ℤ, pos, negsuc, ◌+ℤ◌, ◌*ℤ◌, ◌≤ℤ◌, int_le, slice_get}
use Rattle.std.specs.Int.{int_min, int_max}
use Rattle.std.specs.List.{list_all}
use Rattle.std.proofs.lemmas.Int.{ints}
use Rattle.std.proofs.Math.IntN.{suc_ℤ-*ℤ, zero-*ℤ}
use Rattle.std.proofs.lemmas.Bool.{and_from, and_parts}
use Rattle.std.proofs.lemmas.Option.{same_Some}
use Rattle.wsm_interval.specs.declared.Interval.{Interval}
use Rattle.wsm_interval.specs.Interval.{interval, Holds, holds}
use Rattle.wsm_record.specs.declared.event.Value.{Value}
use Rattle.wsm_record.specs.declared.event.Value.TheVariants as values
use Rattle.wsm_record.specs.declared.words.Kind.{Kind}
use Rattle.wsm_record.specs.declared.words.Kind.TheVariants.{Sum, Min, Max, Any, All}
use Rattle.wsm_fold.specs.Laws.{joined_to}
use Rattle.wsm_fold.specs.Fold.{join, joins, folds_of, is_of_kind, are_of_kinds}
use Rattle.wsm_program.specs.Program.{Program}
use Rattle.wsm_rules.specs.Rules.{accumulated, and_then, values_folded, update_visits, range}
use Rattle.wsm_rules.proofs.FoldedRanges.{range_at}
use Rattle.wsm_machine.specs.InRange.{is_number_in, is_word, is_value_in, is_acc_in, are_values_in, are_folded_in, accs_in}
use Rattle.wsm_machine.proofs.FittingStacks.{no}
use Rattle.wsm_machine.proofs.RunsToReturn.{none≢some}

-- ---- multiples

once : (x : ℤ) → (pos 1 *ℤ x) ≡ x
once x = omega (arith, ints, suc_ℤ-*ℤ (pos 0) x, zero-*ℤ x)

pub once_more : (n : ℕ) (x : ℤ) → (pos (suc n) *ℤ x) ≡ (pos n *ℤ x) +ℤ x
once_more n x = suc_ℤ-*ℤ (pos n) x

at_most : (m n : ℕ) → n ≤ suc m → (n ≡ suc m) ⊎ (n ≤ m)
at_most m n h = grind arith

pub rises : (m n : ℕ) (x : ℤ) → pos 0 ≤ℤ x → n ≤ m → (pos n *ℤ x) ≤ℤ (pos m *ℤ x)
rises zero n x h l = let none : n ≡ 0 = omega (arith, l) in subst (λ k. (pos k *ℤ x) ≤ℤ (pos 0 *ℤ x)) (sym none) (omega (arith, ints))
rises (suc m) n x h l = elim (at_most m n l) [
  | inl e ↦ subst (λ k. (pos k *ℤ x) ≤ℤ (pos (suc m) *ℤ x)) (sym e) (omega (arith, ints))
  | inr k ↦ omega (arith, ints, once_more m x, rises m n x h k, h)
]

pub falls : (m n : ℕ) (x : ℤ) → x ≤ℤ pos 0 → n ≤ m → (pos m *ℤ x) ≤ℤ (pos n *ℤ x)
falls zero n x h l = let none : n ≡ 0 = omega (arith, l) in subst (λ k. (pos 0 *ℤ x) ≤ℤ (pos k *ℤ x)) (sym none) (omega (arith, ints))
falls (suc m) n x h l = elim (at_most m n l) [
  | inl e ↦ subst (λ k. (pos (suc m) *ℤ x) ≤ℤ (pos k *ℤ x)) (sym e) (omega (arith, ints))
  | inr k ↦ omega (arith, ints, once_more m x, falls m n x h k, h)
]

pub signs : (x : ℤ) → (pos 0 ≤ℤ x) ⊎ (x ≤ℤ pos 0)
signs (pos n) = inl (omega (arith, ints))
signs (negsuc n) = inr (omega (arith, ints))

pub through : {a b c : ℤ} → a ≤ℤ b → b ≤ℤ c → a ≤ℤ c
through h k = omega (arith, ints)

min_left : (a b : ℤ) → int_min a b ≤ℤ a
min_left a b = grind (arith, ints)

min_right : (a b : ℤ) → int_min a b ≤ℤ b
min_right a b = grind (arith, ints)

max_left : (a b : ℤ) → a ≤ℤ int_max a b
max_left a b = grind (arith, ints)

max_right : (a b : ℤ) → b ≤ℤ int_max a b
max_right a b = grind (arith, ints)

-- n times a number, for n from 1 to m, lies between it and m times it
least_multiple : (m n : ℕ) (x : ℤ) → 1 ≤ n → n ≤ m → int_min x (pos m *ℤ x) ≤ℤ (pos n *ℤ x)
least_multiple m n x f l = elim (signs x) [
  | inl h ↦ through (min_left x (pos m *ℤ x)) (subst (λ y. y ≤ℤ (pos n *ℤ x)) (once x) (rises n 1 x h f))
  | inr h ↦ through (min_right x (pos m *ℤ x)) (falls m n x h l)
]

greatest_multiple : (m n : ℕ) (x : ℤ) → 1 ≤ n → n ≤ m → (pos n *ℤ x) ≤ℤ int_max x (pos m *ℤ x)
greatest_multiple m n x f l = elim (signs x) [
  | inl h ↦ through (rises m n x h l) (max_right x (pos m *ℤ x))
  | inr h ↦ through (subst (λ y. (pos n *ℤ x) ≤ℤ y) (once x) (falls n 1 x h f)) (max_left x (pos m *ℤ x))
]

-- ---- what an accumulator holds of n values

abbrev pub NumberIn : (Interval → ℤ → Type 0) → Option Interval → Value → Type 0
NumberIn f (Some x) (values.Int z) = f x z
NumberIn f x v = ⊥

abbrev pub IsTruthValue : Value → Type 0
IsTruthValue (values.Int z) = ⊥
IsTruthValue (values.Bool b) = Unit {0}
IsTruthValue (values.Enum i) = ⊥

-- n times the ends
abbrev pub Multiplied : ℕ → Interval → ℤ → Type 0
Multiplied n x z = ((pos n *ℤ x.lo) ≤ℤ z) × (z ≤ℤ (pos n *ℤ x.hi))

abbrev pub ValueIn : Kind → Option Interval → ℕ → Value → Type 0
ValueIn Sum o n v = NumberIn (Multiplied n) o v
ValueIn Min o n v = NumberIn Holds o v
ValueIn Max o n v = NumberIn Holds o v
ValueIn Any o n v = IsTruthValue v
ValueIn All o n v = IsTruthValue v

pub le_true : (m n : ℤ) → m ≤ℤ n → int_le m n ≡ true
le_true m n h = grind arith

pub le_is : (m n : ℤ) → int_le m n ≡ true → m ≤ℤ n
le_is m n h = grind arith

pub holds_is : (x : Interval) (n : ℤ) → holds x n ≡ true → Holds x n
holds_is x n h = let b = and_parts (int_le x.lo n) (int_le n x.hi) h in (le_is x.lo n b.0, le_is n x.hi b.1)

pub holds_true : (x : Interval) (n : ℤ) → Holds x n → holds x n ≡ true
holds_true x n h = rw (le_true x.lo n h.0) (le_true n x.hi h.1)

-- of one value
one_number : (f : Interval → ℤ → Type 0) → ((x : Interval) (z : ℤ) → Holds x z → f x z) → (o : Option Interval) (z : ℤ) → is_number_in o (values.Int z) ≡ true → NumberIn f o (values.Int z)
one_number f h None z e = no e
one_number f h (Some x) z e = h x z (holds_is x z e)

one_value : (k : Kind) (o : Option Interval) (v : Value) → is_value_in o k v ≡ true → ValueIn k o 1 v
one_value Sum o (values.Int z) e = one_number (Multiplied 1) (λ x z h. (subst (λ y. y ≤ℤ z) (sym (once x.lo)) h.0, subst (λ y. z ≤ℤ y) (sym (once x.hi)) h.1)) o z e
one_value Min o (values.Int z) e = one_number Holds (λ x z h. h) o z e
one_value Max o (values.Int z) e = one_number Holds (λ x z h. h) o z e
one_value Any o (values.Bool b) e = tt
one_value All o (values.Bool b) e = tt
one_value k o v e = no e

-- of one value more
more_numbers : (k : Kind) (op : ℤ → ℤ → ℤ) → ((x y : ℤ) → join k (values.Int x) (values.Int y) ≡ values.Int (op x y)) → (f g h : Interval → ℤ → Type 0)
    → ((x : Interval) (y z : ℤ) → f x y → g x z → h x (op y z)) → (o : Option Interval) (u w : Value) → NumberIn f o u → NumberIn g o w → NumberIn h o (join k u w)
more_numbers k op same f g h holds (Some x) (values.Int y) (values.Int z) a b = subst (NumberIn h (Some x)) (sym (same y z)) (holds x y z a b)
more_numbers k op same f g h holds o u w a b = absurd assumption

added : (n : ℕ) (x : Interval) (y z : ℤ) → Multiplied 1 x y → Multiplied n x z → Multiplied (suc n) x (y +ℤ z)
added n x y z a b = (omega (arith, ints, once x.lo, once_more n x.lo, a.0, b.0), omega (arith, ints, once x.hi, once_more n x.hi, a.1, b.1))

lesser : (x : Interval) (y z : ℤ) → Holds x y → Holds x z → Holds x (int_min y z)
lesser x y z a b = (grind (arith, ints), through (min_left y z) a.1)

greater : (x : Interval) (y z : ℤ) → Holds x y → Holds x z → Holds x (int_max y z)
greater x y z a b = (through a.0 (max_left y z), grind (arith, ints))

more_values : (k : Kind) (o : Option Interval) (n : ℕ) (u w : Value) → ValueIn k o 1 u → ValueIn k o n w → ValueIn k o (suc n) (join k u w)
more_values Sum o n u w a b = more_numbers Sum ◌+ℤ◌ (λ x y. refl) (Multiplied 1) (Multiplied n) (Multiplied (suc n)) (added n) o u w a b
more_values Min o n u w a b = more_numbers Min int_min (λ x y. refl) Holds Holds Holds lesser o u w a b
more_values Max o n u w a b = more_numbers Max int_max (λ x y. refl) Holds Holds Holds greater o u w a b
more_values Any o n u w a b = tt
more_values All o n u w a b = tt

in_accumulated : (m n : ℕ) (k : Kind) (o : Option Interval) (v : Value) → 1 ≤ n → n ≤ m → ValueIn k o n v → is_value_in (and_then (accumulated (pos m) k) o) k v ≡ true
in_accumulated m n Sum (Some x) (values.Int z) f l h =
    holds_true (interval (int_min x.lo (pos m *ℤ x.lo)) (int_max x.hi (pos m *ℤ x.hi))) z (through (least_multiple m n x.lo f l) h.0, through h.1 (greatest_multiple m n x.hi f l))
in_accumulated m n Min (Some x) (values.Int z) f l h = holds_true x z h
in_accumulated m n Max (Some x) (values.Int z) f l h = holds_true x z h
in_accumulated m n Any None (values.Bool b) f l h = refl
in_accumulated m n Any (Some x) (values.Bool b) f l h = refl
in_accumulated m n All None (values.Bool b) f l h = refl
in_accumulated m n All (Some x) (values.Bool b) f l h = refl
in_accumulated m n k o v f l h = absurd h

-- ---- rows

abbrev pub ValuesIn : (ℕ → Option Interval) → ℕ → ℕ → List Kind → List Value → Type 0
ValuesIn o a n [] [] = Unit {0}
ValuesIn o a n (k ∷ ks) (v ∷ vs) = ValueIn k (o a) n v × ValuesIn o (suc a) n ks vs
ValuesIn o a n _ _ = ⊥

one_row : (o : ℕ → Option Interval) (a : ℕ) (ks : List Kind) (vs : List Value) → are_values_in o a ks vs ≡ true → ValuesIn o a 1 ks vs
one_row o a [] [] e = tt
one_row o a (k ∷ ks) (v ∷ vs) e =
    let b = and_parts (is_value_in (o a) k v) (are_values_in o (suc a) ks vs) e in
    (one_value k (o a) v b.0, one_row o (suc a) ks vs b.1)
one_row o a ks vs e = no e

more_rows : (o : ℕ → Option Interval) (a n : ℕ) (ks : List Kind) (us ws : List Value) → ValuesIn o a 1 ks us → ValuesIn o a n ks ws → ValuesIn o a (suc n) ks (joins ks us ws)
more_rows o a n [] us ws h g = tt
more_rows o a n (k ∷ ks) (u ∷ us) (w ∷ ws) h g = (more_values k (o a) n u w h.0 g.0, more_rows o (suc a) n ks us ws h.1 g.1)
more_rows o a n ks us ws h g = absurd assumption

pub rows_in : (o : ℕ → Option Interval) (ks : List Kind) (row : List Value) (rows : List (List Value)) → list_all (are_values_in o 0 ks) (row ∷ rows) ≡ true
    → ValuesIn o 0 (length (row ∷ rows)) ks (joined_to (joins ks) row (folds_of ks rows))
rows_in o ks row [] e = one_row o 0 ks row (and_parts (are_values_in o 0 ks row) true e).0
rows_in o ks row (next ∷ rows) e =
    let b = and_parts (are_values_in o 0 ks row) (list_all (are_values_in o 0 ks) (next ∷ rows)) e in
    more_rows o 0 (length (next ∷ rows)) ks row (joined_to (joins ks) next (folds_of ks rows)) (one_row o 0 ks row b.0) (rows_in o ks next rows b.1)

-- ---- as FIRE reads them

pub plus_none : (a : ℕ) → a ≡ a + 0
plus_none a = omega arith

pub from_none : (j : ℕ) → 0 + j ≡ j
from_none j = omega arith

pub plus_more : (a j : ℕ) → suc a + j ≡ a + suc j
plus_more a j = omega arith

accs_from : (p : Program) (m n a : ℕ) (ks : List Kind) (vs : List Value) → p.header.clock.records ≡ pos m → 1 ≤ n → n ≤ m → ((j : ℕ) → slice_get p.header.kinds (a + j) ≡ slice_get ks j)
    → list_all is_word vs ≡ true → ValuesIn (λ b. values_folded b (update_visits p)) a n ks vs → accs_in p a ks vs ≡ true
accs_from p m n a [] [] r f l at w h = refl
accs_from p m n a (k ∷ ks) (v ∷ vs) r f l at w h =
    let words = and_parts (is_word v) (list_all is_word vs) w in
    let there : range p a ≡ and_then (accumulated (pos m) k) (values_folded a (update_visits p)) =
    range_at p a k (ap (slice_get p.header.kinds) (plus_none a) ∙ at 0) ∙ ap (λ z. and_then (accumulated z k) (values_folded a (update_visits p))) r in
    and_from (is_acc_in (range p a) k v) (accs_in p (suc a) ks vs)
    (and_from (is_value_in (range p a) k v) (is_word v)
    (subst (λ o. is_value_in o k v ≡ true) (sym there) (in_accumulated m n k (values_folded a (update_visits p)) v f l h.0)) words.0)
    (accs_from p m n (suc a) ks vs r f l (λ j. ap (slice_get p.header.kinds) (plus_more a j) ∙ at (suc j)) words.1 h.1)
accs_from p m n a ks vs r f l at w h = absurd h

-- the records of a program as a count
pub counted : (z : ℤ) (n : ℕ) → pos n ≤ℤ z → (m : ℕ) × (z ≡ pos m) × (n ≤ m)
counted (pos m) n h = (m, refl, omega (arith, ints, h))
counted (negsuc m) n h = absurd (omega (arith, ints, h))

-- Where UPDATE folded each row, and there are at most as many as the program allows, what the accumulators hold is what FIRE may read. Numbers are of 64 bits, as those of the code are.
pub accs_of_rows : (p : Program) (rows : List (List Value)) (held : List Value) → list_all (are_folded_in p) rows ≡ true → pos (length rows) ≤ℤ p.header.clock.records
    → folds_of p.header.kinds rows ≡ Some held → list_all is_word held ≡ true → accs_in p 0 p.header.kinds held ≡ true
accs_of_rows p [] held e few is w = none≢some is
accs_of_rows p (row ∷ rows) held e few is w =
    let records = counted p.header.clock.records (length (row ∷ rows)) few in
    accs_from p records.0 (length (row ∷ rows)) 0 p.header.kinds held records.1 (omega arith) records.2 (λ j. ap (slice_get p.header.kinds) (from_none j)) w
    (subst (ValuesIn (λ b. values_folded b (update_visits p)) 0 (length (row ∷ rows)) p.header.kinds) (same_Some (joined_to (joins p.header.kinds) row (folds_of p.header.kinds rows)) held is)
    (rows_in (λ b. values_folded b (update_visits p)) p.header.kinds row rows e))

-- what is in range for FIRE has the accumulators' types
pub accs_types : (p : Program) (a : ℕ) (ks : List Kind) (vs : List Value) → accs_in p a ks vs ≡ true → are_of_kinds ks vs ≡ true
accs_types p a [] [] h = refl
accs_types p a (k ∷ ks) (v ∷ vs) h =
    let r = range p a in
    let b = and_parts (is_acc_in r k v) (accs_in p (suc a) ks vs) h in
    let c = and_parts (is_value_in r k v) (is_word v) b.0 in
    and_from (is_of_kind k v) (are_of_kinds ks vs) (and_parts (is_of_kind k v) (is_number_in r v) c.0).0 (accs_types p (suc a) ks vs b.1)
accs_types p a ks vs h = no h

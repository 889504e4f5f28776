-- Row order is a total order, and rows that compare alike are one.
use Rattle.std.proofs.Common.{◌≡◌, ℕ, true, false, cond, List, [], ◌∷◌, refl, sym, ap, subst, ◌∙◌, arith}
use Rattle.std.specs.Prelude.{ℤ, pos}
use Rattle.std.specs.declared.cmp.Ordering.{Ordering}
use Rattle.std.specs.declared.cmp.Ordering.TheVariants.{Less, Equal, Greater}
use Rattle.std.specs.Ordering.{int_cmp, nat_cmp, is_gt, is_eq, on, then_cmp, ordering_then, ordering_reverse}
use Rattle.std.specs.Cmp.{IsTotalOrder}
use Rattle.std.specs.Cmp.Lexicographic.{slice_cmp}
use Rattle.std.proofs.lemmas.Bool.Decides.{nat_tests}
use Rattle.std.proofs.lemmas.Int.{ints}
use Rattle.std.proofs.lemmas.Cmp.{on_total, then_total, lists_total, nat_cmp_total, int_cmp_total}
use Rattle.std.proofs.lemmas.Map.Lookups.{exact_signed, exact_unsigned}
use Rattle.wsm_record.specs.declared.cell.Cell.{Cell}
use Rattle.wsm_record.specs.declared.cell.Cell.TheVariants.{Int, Bool as Truth, Enum}
use Rattle.wsm_semantics.specs.Relation.{cell_cmp, row_cmp}
use Rattle.wsm_semantics.proofs.Tables.{ordering_then_equal}

-- a cell as three numbers, of which the first two tell the type
abbrev code : Cell → ℕ × (ℕ × ℤ)
code (Int a) = (0, (0, a))
code (Truth b) = (1, (0, pos (cond b 1 0)))
code (Enum e n) = (2, (e, pos n))

abbrev code_cmp : ℕ × (ℕ × ℤ) → ℕ × (ℕ × ℤ) → Ordering
code_cmp = then_cmp (on (λ p. p.0) nat_cmp) (then_cmp (on (λ p. p.1.0) nat_cmp) (on (λ p. p.1.1) int_cmp))

nat_cmp-pos : (a b : ℕ) → nat_cmp a b ≡ int_cmp (pos a) (pos b)
nat_cmp-pos a b = grind (arith, ints, nat_tests)

cell_cmp-code : (a b : Cell) → on code code_cmp a b ≡ cell_cmp a b
cell_cmp-code (Int a) (Int b) = refl
cell_cmp-code (Int a) (Truth b) = refl
cell_cmp-code (Int a) (Enum e b) = refl
cell_cmp-code (Truth a) (Int b) = refl
cell_cmp-code (Truth true) (Truth true) = refl
cell_cmp-code (Truth true) (Truth false) = refl
cell_cmp-code (Truth false) (Truth true) = refl
cell_cmp-code (Truth false) (Truth false) = refl
cell_cmp-code (Truth a) (Enum e b) = refl
cell_cmp-code (Enum d a) (Int b) = refl
cell_cmp-code (Enum d a) (Truth b) = refl
cell_cmp-code (Enum d a) (Enum e b) = ap (ordering_then (nat_cmp d e)) (sym (nat_cmp-pos a b))

cells_total : IsTotalOrder cell_cmp
cells_total = subst IsTotalOrder (λ i. λ a b. cell_cmp-code a b i) (on_total code (then_total (on_total (λ p. p.0) nat_cmp_total) (then_total (on_total (λ p. p.1.0) nat_cmp_total) (on_total (λ p. p.1.1) int_cmp_total))))

row_cmp-slice : (xs ys : List Cell) → slice_cmp cell_cmp xs ys ≡ row_cmp xs ys
row_cmp-slice [] [] = refl
row_cmp-slice [] (y ∷ ys) = refl
row_cmp-slice (x ∷ xs) [] = refl
row_cmp-slice (x ∷ xs) (y ∷ ys) = ap (ordering_then (cell_cmp x y)) (row_cmp-slice xs ys)

pub rows_total : IsTotalOrder row_cmp
rows_total = subst IsTotalOrder (λ i. λ xs ys. row_cmp-slice xs ys i) (lists_total cells_total)

exact_cells : (a b : Cell) → cell_cmp a b ≡ Equal → a ≡ b
exact_cells (Int a) (Int b) h = ap Int (exact_signed a b h)
exact_cells (Int a) (Truth b) h = absurd (cc)
exact_cells (Int a) (Enum e b) h = absurd (cc)
exact_cells (Truth a) (Int b) h = absurd (cc)
exact_cells (Truth true) (Truth true) h = refl
exact_cells (Truth true) (Truth false) h = absurd (cc)
exact_cells (Truth false) (Truth true) h = absurd (cc)
exact_cells (Truth false) (Truth false) h = refl
exact_cells (Truth a) (Enum e b) h = absurd (cc)
exact_cells (Enum d a) (Int b) h = absurd (cc)
exact_cells (Enum d a) (Truth b) h = absurd (cc)
exact_cells (Enum d a) (Enum e b) h = let both = ordering_then_equal (nat_cmp d e) (nat_cmp a b) h in λ i. Enum (exact_unsigned d e both.0 i) (exact_unsigned a b both.1 i)

-- rows that compare alike are one
pub exact_rows : (xs ys : List Cell) → row_cmp xs ys ≡ Equal → xs ≡ ys
exact_rows [] [] h = refl
exact_rows [] (y ∷ ys) h = absurd (cc)
exact_rows (x ∷ xs) [] h = absurd (cc)
exact_rows (x ∷ xs) (y ∷ ys) h = let both = ordering_then_equal (cell_cmp x y) (row_cmp xs ys) h in λ i. exact_cells x y both.0 i ∷ exact_rows xs ys both.1 i

-- an order's answer that is greater, or not
pub untied : (r : Ordering) → is_gt r ≡ true → is_eq r ≡ false
untied Less h = refl
untied Equal h = absurd (cc)
untied Greater h = refl

pub not_greater : (r : Ordering) → (r ≡ Greater → ⊥) → is_gt r ≡ false
not_greater Less h = refl
not_greater Equal h = refl
not_greater Greater h = absurd (h refl)

tied_of : (r : Ordering) → is_eq r ≡ true → r ≡ Equal
tied_of Less h = absurd (cc)
tied_of Equal h = refl
tied_of Greater h = absurd (cc)

-- rows that are told to be equal are
pub same_rows : (xs ys : List Cell) → is_eq (row_cmp xs ys) ≡ true → xs ≡ ys
same_rows xs ys h = exact_rows xs ys (tied_of (row_cmp xs ys) h)

reverse_gt : (r : Ordering) → is_gt r ≡ true → is_gt (ordering_reverse r) ≡ false
reverse_gt Less h = absurd (cc)
reverse_gt Equal h = absurd (cc)
reverse_gt Greater h = refl

-- what is behind another has that one not behind it
pub not_behind : {A : Type 0} {order : A → A → Ordering} → IsTotalOrder order → (x y : A) → is_gt (order x y) ≡ true → is_gt (order y x) ≡ false
not_behind total x y h = ap is_gt (total.antisymm y x) ∙ reverse_gt _ h

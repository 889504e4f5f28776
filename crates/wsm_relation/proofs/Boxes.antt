-- The rows that boxes contain.
use Rattle.std.proofs.Common.{◌≡◌, ℕ, zero, suc, ◌+◌, ◌<◌, ◌≤◌, List, [], ◌∷◌, ◌++◌, length, get_or, take, drop, take-suc, drop-cons, add-one, refl, sym, ap, ◌∙◌, arith}
use Rattle.std.proofs.lemmas.List.{get_or_default}
use Rattle.std.specs.Prelude.{insert, remove}
use Rattle.std.specs.Global.{Box}
use Rattle.wsm_record.specs.declared.cell.Cell.{Cell}
use Rattle.wsm_relation.specs.Rows.{rows_in}
use Rattle.wsm_relation.specs.Bag.{Bag}

pub length-rows_in : (bs : List (Box (List Cell))) → length (rows_in bs) ≡ length bs
length-rows_in [] = refl
length-rows_in (b ∷ bs) = ap suc (length-rows_in bs)

pub get_or-rows_in : (bs : List (Box (List Cell))) (i : ℕ) (d : Box (List Cell)) (e : List Cell) → i < length bs → get_or (rows_in bs) i e ≡ (get_or bs i d).value
get_or-rows_in [] i d e h = absurd (omega arith)
get_or-rows_in (b ∷ bs) zero d e h = refl
get_or-rows_in (b ∷ bs) (suc i) d e h = get_or-rows_in bs i d e (omega arith)

pub take-rows_in : (bs : List (Box (List Cell))) (i : ℕ) → take i (rows_in bs) ≡ rows_in (take i bs)
take-rows_in bs zero = refl
take-rows_in [] (suc i) = refl
take-rows_in (b ∷ bs) (suc i) = ap (λ l. b.value ∷ l) (take-rows_in bs i)

pub drop-rows_in : (bs : List (Box (List Cell))) (i : ℕ) → drop i (rows_in bs) ≡ rows_in (drop i bs)
drop-rows_in bs zero = refl
drop-rows_in [] (suc i) = refl
drop-rows_in (b ∷ bs) (suc i) = drop-rows_in bs i

pub append-rows_in : (bs cs : List (Box (List Cell))) → rows_in (bs ++ cs) ≡ rows_in bs ++ rows_in cs
append-rows_in [] cs = refl
append-rows_in (b ∷ bs) cs = ap (λ l. b.value ∷ l) (append-rows_in bs cs)

pub insert-rows_in : (bs : List (Box (List Cell))) (i : ℕ) (b : Box (List Cell)) → rows_in (insert bs i b) ≡ insert (rows_in bs) i b.value
insert-rows_in bs i b = append-rows_in (take i bs) (b ∷ drop i bs) ∙ rw (take-rows_in bs i, drop-rows_in bs i) refl

pub remove-rows_in : (bs : List (Box (List Cell))) (i : ℕ) → rows_in (remove bs i) ≡ remove (rows_in bs) i
remove-rows_in bs i = append-rows_in (take i bs) (drop (suc i) bs) ∙ rw (take-rows_in bs i, drop-rows_in bs (suc i)) refl

-- ---- at a place

pub value_at : (bs : List (Box (List Cell))) (i : ℕ) (b : Box (List Cell)) → i < length bs → b ≡ get_or bs i b → get_or (rows_in bs) i b.value ≡ b.value
value_at bs i b h is = get_or-rows_in bs i b b.value h ∙ sym (ap (λ x. x.value) is)

pub same_box : (bs : List (Box (List Cell))) (i : ℕ) (a b : Box (List Cell)) → i < length bs → a ≡ get_or bs i a → b ≡ get_or bs i b → a.value ≡ b.value
same_box bs i a b h at bt = ap (λ x. x.value) (at ∙ get_or_default bs i a b h ∙ sym bt)

pub take-next : (bs : List (Box (List Cell))) (i : ℕ) (b : Box (List Cell)) → i < length bs → b ≡ get_or bs i b → take (i + 1) (rows_in bs) ≡ take i (rows_in bs) ++ b.value ∷ []
take-next bs i b h is = rw (add-one, take-suc (rows_in bs) i b.value (omega (arith, length-rows_in bs)), value_at bs i b h is) refl

pub drop-here : (bs : List (Box (List Cell))) (i : ℕ) (b : Box (List Cell)) → i < length bs → b ≡ get_or bs i b → drop i (rows_in bs) ≡ b.value ∷ drop (i + 1) (rows_in bs)
drop-here bs i b h is = rw (add-one, drop-cons (rows_in bs) i b.value (omega (arith, length-rows_in bs)), value_at bs i b h is) refl

drop_past : (rows : List (List Cell)) (i : ℕ) → length rows ≤ i → drop i rows ≡ []
drop_past [] zero h = refl
drop_past [] (suc i) h = refl
drop_past (x ∷ xs) zero h = absurd (omega arith)
drop_past (x ∷ xs) (suc i) h = drop_past xs i (omega arith)

pub drop-end : (bs : List (Box (List Cell))) (i : ℕ) → length bs ≤ i → drop i (rows_in bs) ≡ []
drop-end bs i h = drop_past (rows_in bs) i (omega (arith, length-rows_in bs))

abbrev pub bag : List (List Cell) → ℕ → ℕ → Bag
bag rows room columns = record { rows = rows; room = room; columns = columns }

pub bags_alike : (rows others : List (List Cell)) (room other columns : ℕ) → rows ≡ others → room ≡ other → bag rows room columns ≡ bag others other columns
bags_alike rows others room other columns same alike = λ k. bag (same k) (alike k) columns

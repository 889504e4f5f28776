-- The places of the rows of parts, one row and one part after the other.
use Rattle.std.proofs.Common.{◌≡◌, ℕ, ◌+◌, ◌<◌, List, [], ◌∷◌, ◌++◌, length, get_or, take, Option, None, refl, sym, ap, ◌∙◌, append_assoc, arith}
use Rattle.std.proofs.lemmas.List.{take_more, length-take-le}
use Rattle.wsm_semantics.specs.declared.out_row.OutRow.{OutRow}
use Rattle.wsm_engine.specs.State.{State as EngineState}
use Rattle.wsm_part_engines.specs.declared.row_place.RowPlace.{RowPlace}
use Rattle.wsm_part_engines.specs.Fits.{engine_at}
use Rattle.wsm_part_engines.specs.Slots.{rows_of}
use Rattle.wsm_part_engines.specs.Ordered.{place_in, places_from, all_places}

places-append : (part n : ℕ) (xs : List OutRow) (y : OutRow) (m : ℕ) → n + length xs ≡ m → places_from part n (xs ++ y ∷ []) ≡ places_from part n xs ++ place_in part m y ∷ []
places-append part n [] y m h = let e : n ≡ m = omega (arith, h) in ap (λ (k : ℕ). place_in part k y ∷ []) e
places-append part n (x ∷ xs) y m h = ap (λ (ps : List RowPlace). place_in part n x ∷ ps) (places-append part (n + 1) xs y m (omega (arith, h)))

-- one row more
pub one_row_more : (part i : ℕ) (rows : List OutRow) (row : OutRow) (placed before : List RowPlace) → i < length rows → row ≡ get_or rows i row
    → placed ≡ before ++ places_from part 0 (take i rows) → placed ++ place_in part i row ∷ [] ≡ before ++ places_from part 0 (take (i + 1) rows)
one_row_more part i rows row placed before few is h =
    let len = length-take-le i rows (omega (arith, few)) in
    ap (λ (ps : List RowPlace). ps ++ place_in part i row ∷ []) h
    ∙ append_assoc before (places_from part 0 (take i rows)) (place_in part i row ∷ [])
    ∙ ap (λ (ps : List RowPlace). before ++ ps)
    (sym (places-append part 0 (take i rows) row i (omega (arith, len)))
    ∙ ap (places_from part 0) (ap (λ (r : OutRow). take i rows ++ r ∷ []) is ∙ sym (take_more rows i row few)))

nothing_more : (ps : List RowPlace) → ps ++ [] ≡ ps
nothing_more [] = refl
nothing_more (p ∷ ps) = ap (λ (qs : List RowPlace). p ∷ qs) (nothing_more ps)

all-append : (part : ℕ) (xs : List (Option EngineState)) (y : Option EngineState) (m : ℕ) → part + length xs ≡ m → all_places part (xs ++ y ∷ []) ≡ all_places part xs ++ places_from m 0 (rows_of y)
all-append part [] y m h = let e : part ≡ m = omega (arith, h) in nothing_more (places_from part 0 (rows_of y)) ∙ ap (λ (k : ℕ). places_from k 0 (rows_of y)) e
all-append part (x ∷ xs) y m h =
    ap (λ (ps : List RowPlace). places_from part 0 (rows_of x) ++ ps) (all-append (part + 1) xs y m (omega (arith, h)))
    ∙ sym (append_assoc (places_from part 0 (rows_of x)) (all_places (part + 1) xs) (places_from m 0 (rows_of y)))

-- one part more
pub one_part_more : (part : ℕ) (slots : List (Option EngineState)) (placed more before : List RowPlace) → part < length slots
    → placed ≡ before ++ all_places 0 (take part slots) → more ≡ placed ++ places_from part 0 (rows_of (engine_at slots part)) → more ≡ before ++ all_places 0 (take (part + 1) slots)
one_part_more part slots placed more before few h is =
    let len = length-take-le part slots (omega (arith, few)) in
    is
    ∙ ap (λ (ps : List RowPlace). ps ++ places_from part 0 (rows_of (engine_at slots part))) h
    ∙ append_assoc before (all_places 0 (take part slots)) (places_from part 0 (rows_of (engine_at slots part)))
    ∙ ap (λ (ps : List RowPlace). before ++ ps)
    (sym (all-append 0 (take part slots) (engine_at slots part) part (omega (arith, len))) ∙ ap (all_places 0) (sym (take_more slots part None few)))

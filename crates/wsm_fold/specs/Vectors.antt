-- Worked rows.
use Rattle.std.specs.Prelude.{◌≡◌, refl, true, false, [], ◌∷◌, pos, negsuc, Some, None}
use Rattle.wsm_record.specs.declared.event.Value.TheVariants.{Int, Bool as Truth}
use Rattle.wsm_record.specs.declared.words.Kind.TheVariants.{Sum, Min, Max, Any, All}
use Rattle.wsm_fold.specs.Fold.{fold_of, folds_of, are_of_kinds}

sum : fold_of Sum (Int (pos 7) ∷ Int (negsuc 2) ∷ Int (pos 1) ∷ []) ≡ Some (Int (pos 5))
sum = refl

least : fold_of Min (Int (pos 7) ∷ Int (negsuc 2) ∷ Int (pos 1) ∷ []) ≡ Some (Int (negsuc 2))
least = refl

greatest : fold_of Max (Int (negsuc 6) ∷ Int (negsuc 2) ∷ Int (negsuc 8) ∷ []) ≡ Some (Int (negsuc 2))
greatest = refl

some_true : fold_of Any (Truth false ∷ Truth true ∷ []) ≡ Some (Truth true)
some_true = refl

none_true : fold_of Any (Truth false ∷ Truth false ∷ []) ≡ Some (Truth false)
none_true = refl

all_true : fold_of All (Truth true ∷ Truth true ∷ []) ≡ Some (Truth true)
all_true = refl

one_false : fold_of All (Truth true ∷ Truth false ∷ []) ≡ Some (Truth false)
one_false = refl

-- a single value is its own fold
alone : fold_of Sum (Int (negsuc 0) ∷ []) ≡ Some (Int (negsuc 0))
alone = refl

nothing : fold_of Max [] ≡ None
nothing = refl

-- sums have no bound: 2^63 - 1 and 1
past_64_bits : fold_of Sum (Int (pos 9223372036854775807) ∷ Int (pos 1) ∷ []) ≡ Some (Int (pos 9223372036854775808))
past_64_bits = refl

-- three rows of a program with SUM, ALL and MIN
rows : folds_of (Sum ∷ All ∷ Min ∷ [])
    ((Int (pos 4) ∷ Truth true ∷ Int (pos 4) ∷ []) ∷ (Int (pos 2) ∷ Truth true ∷ Int (pos 2) ∷ []) ∷ (Int (pos 3) ∷ Truth false ∷ Int (pos 3) ∷ []) ∷ [])
    ≡ Some (Int (pos 9) ∷ Truth false ∷ Int (pos 2) ∷ [])
rows = refl

other_type : are_of_kinds (Sum ∷ Any ∷ []) (Int (pos 1) ∷ Int (pos 1) ∷ []) ≡ false
other_type = refl

one_too_few : are_of_kinds (Sum ∷ Any ∷ []) (Int (pos 1) ∷ []) ≡ false
one_too_few = refl

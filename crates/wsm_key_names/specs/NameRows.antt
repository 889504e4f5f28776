-- Worked rows of names.
use Rattle.std.specs.Prelude.{◌≡◌, refl, [], ◌∷◌, List, ℕ, true, false, Ok, Err, map, codes, length}
use Rattle.std.proofs.Math.ListN.{replicate}
use Rattle.wsm_key_names.specs.declared.refusal.KeyNamesRefusal.TheVariants.{BadName, DuplicateName}
use Rattle.wsm_key_names.specs.Names.{is_key_name, learned, names_of_text, names_behind}

-- any byte but a line feed may stand in a name, and words of query texts are names
some_names : map is_key_name (codes "42" ∷ codes "END" ∷ codes "a,b" ∷ codes " " ∷ codes "x\r" ∷ (0 ∷ 255 ∷ []) ∷ replicate 255 120 ∷ [])
    ≡ true ∷ true ∷ true ∷ true ∷ true ∷ true ∷ true ∷ []
some_names = refl

no_names : map is_key_name ([] ∷ codes "a\nb" ∷ replicate 256 120 ∷ []) ≡ false ∷ false ∷ false ∷ []
no_names = refl

-- a carriage return is of the name in front of it
of_three_lines : names_of_text (codes "b\na\r\na") ≡ Ok (codes "b" ∷ codes "a\r" ∷ codes "a" ∷ [])
unfolding names_behind
of_three_lines = refl

no_line : names_of_text [] ≡ Ok []
unfolding names_behind
no_line = refl

an_empty_line : names_of_text (codes "a\n\nb\n") ≡ Err (BadName 2)
unfolding names_behind
an_empty_line = refl

-- the first fault is told
a_name_again : names_of_text (codes "a\nb\na\n\n") ≡ Err (DuplicateName 3)
unfolding names_behind
a_name_again = refl

-- a third name is learned where three may come, a fourth isn't, nor what is none; one that is known stays
learned_names : map (λ (text : List ℕ). length (learned 3 (codes "a" ∷ codes "b" ∷ []) text)) (codes "c" ∷ codes "a" ∷ [] ∷ []) ≡ 3 ∷ 2 ∷ 2 ∷ []
learned_names = refl

no_name_left : learned 2 (codes "a" ∷ codes "b" ∷ []) (codes "c") ≡ codes "a" ∷ codes "b" ∷ []
no_name_left = refl

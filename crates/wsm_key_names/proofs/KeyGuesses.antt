-- Guesses of the numbers of names.
use Rattle.std.proofs.Common.{◌≡◌, ◌∙◌, ◌++◌, ◌∷◌, [], ℕ, zero, suc, List, length, get_or, sym, ap, subst, arith}
use Rattle.std.specs.Prelude.{Some, slice_get}
use Rattle.std.proofs.Math.ListN.{replicate, length-replicate}
use Rattle.std.proofs.lemmas.List.{get_or-replicate}
use Rattle.std.proofs.lemmas.Option.{get_or_from_slice_get, slice_get_within}
use Rattle.wsm_record.specs.Guesses.{AreBytes, spelled}
use Rattle.wsm_record.proofs.NameGuesses.{spelled_injective, spelled_pos}
use Rattle.wsm_key_names.specs.Guesses.{AreGuesses, IsGuess}
use Rattle.wsm_key_names.specs.declared.guesses.Guess.{Guess}

-- a guess for the name of a number
pub guess_is : (names : List (List ℕ)) (name : List ℕ) (guess : Guess) → AreBytes name → slice_get names guess.number ≡ Some name → guess.word ≡ spelled name → IsGuess names guess
guess_is names name guess f at word = λ text g e. at ∙ ap Some (spelled_injective name text f g (sym (e ∙ word)))

-- no text has the word 0
pub none_guessed : (names : List (List ℕ)) (guess : Guess) → guess.word ≡ 0 → IsGuess names guess
none_guessed names guess none = λ text f e. let some = spelled_pos text in absurd (omega (arith, some, e, none))

-- the same guess again and again
pub guesses_alike : (names : List (List ℕ)) (guesses : List Guess) (n : ℕ) (guess : Guess) → guesses ≡ replicate n guess → guess.word ≡ 0 → AreGuesses names guesses
guesses_alike names guesses n guess are none = λ i g e.
    let within = slice_get_within guesses i g e in
    let long = ap length are ∙ length-replicate n guess in
    let same : guess ≡ g = sym (get_or-replicate n i guess guess (omega (arith, within, long))) ∙ ap (λ l. get_or l i guess) (sym are) ∙ get_or_from_slice_get guesses i g guess e in
    subst (IsGuess names) same (none_guessed names guess none)

kept_behind : (names : List (List ℕ)) (i : ℕ) (text name : List ℕ) → slice_get names i ≡ Some text → slice_get (names ++ name ∷ []) i ≡ Some text
kept_behind [] i text name e = cc
kept_behind (x ∷ xs) zero text name e = e
kept_behind (x ∷ xs) (suc i) text name e = kept_behind xs i text name e

-- guesses for some names are guesses for these and one more
pub guesses_more : (names : List (List ℕ)) (name : List ℕ) (guesses : List Guess) → AreGuesses names guesses → AreGuesses (names ++ name ∷ []) guesses
guesses_more names name guesses all i guess at = λ text f e. kept_behind names guess.number text name (all i guess at text f e)

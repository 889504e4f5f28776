-- Words of short texts, and guesses of their numbers.
use Rattle.std.proofs.Common.{◌≡◌, ◌∙◌, ◌<◌, ◌≤◌, ◌++◌, ℕ, zero, suc, List, [], ◌∷◌, length, get_or, refl, sym, ap, subst, arith}
use Rattle.std.specs.Prelude.{Some, slice_get}
use Rattle.std.proofs.Math.ListN.{replicate, length-replicate}
use Rattle.std.proofs.lemmas.List.{get_or-replicate}
use Rattle.std.proofs.lemmas.Option.{get_or_from_slice_get, slice_get_within}
use Rattle.wsm_record.specs.Guesses.{AreBytes, AreGuesses, IsGuess, spelled}
use Rattle.wsm_record.specs.declared.names.Guess.{Guess}

pub spelled_pos : (text : List ℕ) → 1 ≤ spelled text
spelled_pos [] = omega arith
spelled_pos (b ∷ bs) = let rest = spelled_pos bs in omega (arith, rest)

-- texts with the same word are the same
pub spelled_injective : (a b : List ℕ) → AreBytes a → AreBytes b → spelled a ≡ spelled b → a ≡ b
spelled_injective [] [] f g e = refl
spelled_injective [] (b ∷ bs) f g e = let rest = spelled_pos bs in absurd (omega (arith, rest, e))
spelled_injective (a ∷ more) [] f g e = let rest = spelled_pos more in absurd (omega (arith, rest, e))
spelled_injective (a ∷ more) (b ∷ bs) f g e =
    let x : a < 256 = f 0 in
    let y : b < 256 = g 0 in
    let first : a ≡ b = omega (arith, x, y, e) in
    let others : spelled more ≡ spelled bs = omega (arith, x, y, e) in
    let rest : more ≡ bs = spelled_injective more bs (λ i. f (suc i)) (λ i. g (suc i)) others in
    cc

-- a guess for the name of a number
pub guess_is : (names : List (List ℕ)) (name : List ℕ) (guess : Guess) → AreBytes name → slice_get names guess.number ≡ Some name → guess.word ≡ spelled name → IsGuess names guess
guess_is names name guess f at word = λ text g e. at ∙ ap Some (spelled_injective name text f g (sym (e ∙ word)))

-- no text has the word 0
pub none_guessed : (names : List (List ℕ)) (guess : Guess) → guess.word ≡ 0 → IsGuess names guess
none_guessed names guess none = λ text f e. let some = spelled_pos text in absurd (omega (arith, some, e, none))

-- the same guess again and again
pub guesses_alike : (names : List (List ℕ)) (guesses : List Guess) (n : ℕ) (guess : Guess) → guesses ≡ replicate n guess → IsGuess names guess → AreGuesses names guesses
guesses_alike names guesses n guess are is = λ i g e.
    let within = slice_get_within guesses i g e in
    let long = ap length are ∙ length-replicate n guess in
    let same : guess ≡ g = sym (get_or-replicate n i guess guess (omega (arith, within, long))) ∙ ap (λ l. get_or l i guess) (sym are) ∙ get_or_from_slice_get guesses i g guess e in
    subst (IsGuess names) same is

kept_behind : (names : List (List ℕ)) (i : ℕ) (text name : List ℕ) → slice_get names i ≡ Some text → slice_get (names ++ name ∷ []) i ≡ Some text
kept_behind [] i text name e = cc
kept_behind (x ∷ xs) zero text name e = e
kept_behind (x ∷ xs) (suc i) text name e = kept_behind xs i text name e

-- the last of some names has their count for its number
pub last_number : (names : List (List ℕ)) (name : List ℕ) → slice_get (names ++ name ∷ []) (length names) ≡ Some name
last_number [] name = refl
last_number (x ∷ xs) name = last_number xs name

-- guesses for some names are guesses for these and one more
pub guesses_more : (names : List (List ℕ)) (name : List ℕ) (guesses : List Guess) → AreGuesses names guesses → AreGuesses (names ++ name ∷ []) guesses
guesses_more names name guesses all i guess at = λ text f e. kept_behind names guess.number text name (all i guess at text f e)

-- What is tried first for a name: words of short texts, and guesses of their numbers.
use Rattle.std.specs.Prelude.{◌≡◌, ℕ, List, Some, slice_get}
use Rattle.wsm_record.specs.Guesses.{AreBytes, spelled}
use Rattle.wsm_key_names.specs.declared.guesses.Guess.{Guess}

-- the text that a guess has the word of has its number among the names
abbrev pub IsGuess : List (List ℕ) → Guess → Type 0
IsGuess names guess = (text : List ℕ) → AreBytes text → spelled text ≡ guess.word → slice_get names guess.number ≡ Some text

abbrev pub AreGuesses : List (List ℕ) → List Guess → Type 0
AreGuesses names guesses = (i : ℕ) (guess : Guess) → slice_get guesses i ≡ Some guess → IsGuess names guess

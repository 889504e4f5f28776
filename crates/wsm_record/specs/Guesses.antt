-- What is tried first for a text: words of short texts, and guesses of their numbers.
use Rattle.std.specs.Prelude.{◌≡◌, ℕ, ◌+◌, ◌*◌, ◌<◌, List, [], ◌∷◌, Some, slice_get, get_or}
use Rattle.wsm_record.specs.declared.names.Guess.{Guess}

-- the bytes of a text as one number, which no other text has
abbrev pub spelled : List ℕ → ℕ
spelled [] = 1
spelled (b ∷ bs) = b + 256 * spelled bs

abbrev pub AreBytes : List ℕ → Type 0
AreBytes text = (i : ℕ) → get_or text i 0 < 256

-- the text that a guess has the word of has its number among the names
abbrev pub IsGuess : List (List ℕ) → Guess → Type 0
IsGuess names guess = (text : List ℕ) → AreBytes text → spelled text ≡ guess.word → slice_get names guess.number ≡ Some text

abbrev pub AreGuesses : List (List ℕ) → List Guess → Type 0
AreGuesses names guesses = (i : ℕ) (guess : Guess) → slice_get guesses i ≡ Some guess → IsGuess names guess

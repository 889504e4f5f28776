-- What is tried first for a key.
use Rattle.std.specs.Prelude.{◌≡◌, ◌+◌, ◌*◌, ◌^◌, ◌/◌, ℕ, List, Some, slice_get}
use Rattle.wsm_record.specs.Guesses.{AreBytes, spelled}
use Rattle.wsm_deal.specs.declared.guesses.Guess.{Guess}
use Rattle.wsm_deal.specs.declared.words.Words.{Words}

-- the bytes of a text as one number, by its words
abbrev pub worth_of : Words → ℕ
worth_of words = words.head + 2 ^ 64 * words.tail

-- the text that a guess has the words of is one of the names, and of the part of the guess
abbrev pub IsGuess : List (List ℕ) → ℕ → Guess → Type 0
IsGuess names block guess = (text : List ℕ) → AreBytes text → spelled text ≡ worth_of guess.words → (number : ℕ) × (slice_get names number ≡ Some text) × (guess.part ≡ number / block)

abbrev pub AreGuesses : List (List ℕ) → ℕ → List Guess → Type 0
AreGuesses names block guesses = (i : ℕ) (guess : Guess) → slice_get guesses i ≡ Some guess → IsGuess names block guess

-- Guesses of which each is the same, and the words of keys.
use Rattle.std.proofs.Common.{◌≡◌, ◌∙◌, ◌+◌, ◌*◌, ◌^◌, ◌≤◌, [], ◌∷◌, ℕ, List, Option, Some, None, drop, length, get_or, sym, ap, subst, arith, unwrap_or}
use Rattle.std.proofs.Math.ListN.{replicate, length-replicate}
use Rattle.std.proofs.lemmas.List.{get_or-replicate}
use Rattle.std.proofs.lemmas.Option.{get_or_from_slice_get, slice_get_within}
use Rattle.std.specs.Prelude.{IfSome}
use Rattle.std.specs.Int.{from_le_bytes, w64}
use Rattle.wsm_record.specs.Guesses.{AreBytes, spelled}
use Rattle.wsm_record.proofs.NameGuesses.{spelled_injective, spelled_pos}
use Rattle.wsm_deal.specs.KeyGuesses.{AreGuesses, IsGuess, worth_of}
use Rattle.wsm_deal.specs.declared.guesses.Guess.{Guess}
use Rattle.wsm_deal.specs.declared.words.Words.{Words}

-- no text has the words of none
none_guessed : (names : List (List ℕ)) (block : ℕ) (guess : Guess) → worth_of guess.words ≡ 0 → IsGuess names block guess
none_guessed names block guess none = λ text f e. let some = spelled_pos text in absurd (omega (arith, some, e ∙ none))

pub unknown_alike : (names : List (List ℕ)) (block : ℕ) (guesses : List Guess) (n : ℕ) (guess : Guess) → guesses ≡ replicate n guess → worth_of guess.words ≡ 0 → AreGuesses names block guesses
unknown_alike names block guesses n guess are none = λ i g e.
    let within = slice_get_within guesses i g e in
    let long = ap length are ∙ length-replicate n guess in
    let same : guess ≡ g = sym (get_or-replicate n i guess guess (omega (arith, within, long))) ∙ ap (λ l. get_or l i guess) (sym are) ∙ get_or_from_slice_get guesses i g guess e in
    subst (IsGuess names block) same (none_guessed names block guess none)

-- the text of the words that a key has, or of none, is the key
pub key_of_words : (key text : List ℕ) (words : Option Words) → AreBytes key → AreBytes text → IfSome words (λ w. spelled key ≡ worth_of w)
    → spelled text ≡ worth_of (unwrap_or words (record { head = 0; tail = 0 })) → key ≡ text
key_of_words key text None f g is e = let some = spelled_pos text in absurd (omega (arith, some, e))
key_of_words key text (Some words) f g is e = spelled_injective key text f g (is ∙ sym e)

-- a text of eight bytes or more as one number
pub spelled_long : (text : List ℕ) → 8 ≤ length text → spelled text ≡ from_le_bytes w64 (get_or text 0 0 ∷ get_or text 1 0 ∷ get_or text 2 0 ∷ get_or text 3 0 ∷ get_or text 4 0 ∷ get_or text 5 0 ∷ get_or text 6 0 ∷ get_or text 7 0 ∷ []) + 2 ^ 64 * spelled (drop 8 text)
spelled_long [] long = absurd (omega (arith, long))
spelled_long (a ∷ []) long = absurd (omega (arith, long))
spelled_long (a ∷ b ∷ []) long = absurd (omega (arith, long))
spelled_long (a ∷ b ∷ c ∷ []) long = absurd (omega (arith, long))
spelled_long (a ∷ b ∷ c ∷ d ∷ []) long = absurd (omega (arith, long))
spelled_long (a ∷ b ∷ c ∷ d ∷ e ∷ []) long = absurd (omega (arith, long))
spelled_long (a ∷ b ∷ c ∷ d ∷ e ∷ f ∷ []) long = absurd (omega (arith, long))
spelled_long (a ∷ b ∷ c ∷ d ∷ e ∷ f ∷ g ∷ []) long = absurd (omega (arith, long))
spelled_long (a ∷ b ∷ c ∷ d ∷ e ∷ f ∷ g ∷ h ∷ rest) long = omega arith

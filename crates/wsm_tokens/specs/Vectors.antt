-- Texts and their tokens, computed by the definitions.
use Rattle.std.specs.Prelude.{◌≡◌, refl, true, false, ◌++◌, [], ◌∷◌, pos, negsuc, replicate, codes}
use Rattle.wsm_tokens.specs.declared.fault.Fault.TheVariants.{BadCharacter, NumberTooLarge}
use Rattle.wsm_tokens.specs.declared.token.Sign.TheVariants.{Dot, DotDot, Less, LessOrEqual, NotEqual}
use Rattle.wsm_tokens.specs.Tokens.{Word, Mark, Number, Then, End, Bad, tokens, tokens_from, first_of, sign_of}
use Rattle.wsm_tokens.specs.Position.{position_of}
use Rattle.wsm_tokens.specs.Proper.{is_proper}

no_bytes : tokens [] ≡ End 0
unfolding tokens tokens_from
no_bytes = refl

-- a number ends at the first byte that is no digit
number_and_word : tokens (codes "60x ") ≡ Then (Number (pos 60)) 0 (Then (Word (codes "x")) 2 (End 4))
unfolding tokens tokens_from first_of sign_of
number_and_word = refl

range : tokens (codes "0..5") ≡ Then (Number (pos 0)) 0 (Then (Mark DotDot) 1 (Then (Number (pos 5)) 3 (End 4)))
unfolding tokens tokens_from first_of sign_of
range = refl

point : tokens (codes "1.5") ≡ Then (Number (pos 1)) 0 (Then (Mark Dot) 1 (Then (Number (pos 5)) 2 (End 3)))
unfolding tokens tokens_from first_of sign_of
point = refl

-- the longest sign is taken, from the left
longest_signs : tokens (codes "<=<><<") ≡ Then (Mark LessOrEqual) 0 (Then (Mark NotEqual) 2 (Then (Mark Less) 4 (Then (Mark Less) 5 (End 6))))
unfolding tokens tokens_from first_of sign_of
longest_signs = refl

no_token : tokens (codes "a _x") ≡ Then (Word (codes "a")) 0 (Bad BadCharacter 2)
unfolding tokens tokens_from first_of sign_of
no_token = refl

longest_word : tokens (replicate 32 97) ≡ Then (Word (replicate 32 97)) 0 (End 32)
unfolding tokens tokens_from first_of sign_of
longest_word = refl

-- the 33rd byte, a letter, a digit or _
long_word : tokens (32 ∷ replicate 32 97 ++ codes "_") ≡ Bad BadCharacter 33
unfolding tokens tokens_from first_of sign_of
long_word = refl

greatest_number : tokens (codes "0009223372036854775807") ≡ Then (Number (pos 9223372036854775807)) 0 (End 22)
unfolding tokens tokens_from first_of sign_of
greatest_number = refl

great_number : tokens (codes "  9223372036854775808") ≡ Bad NumberTooLarge 2
unfolding tokens tokens_from first_of sign_of
great_number = refl

-- space, tab, carriage return and line feed
blanks : tokens (32 ∷ 9 ∷ 13 ∷ 10 ∷ []) ≡ End 4
unfolding tokens tokens_from first_of sign_of
blanks = refl

first_position : position_of [] 0 ≡ record { line = 1; column = 1 }
unfolding position_of
first_position = refl

-- only a line feed ends a line
second_line : position_of (codes "ab\r\n c") 5 ≡ record { line = 2; column = 2 }
unfolding position_of
second_line = refl

behind_a_line : position_of (codes "KEYS a;\n") 8 ≡ record { line = 2; column = 1 }
unfolding position_of
behind_a_line = refl

keyword : is_proper (Word (codes "SELECT")) ≡ true
keyword = refl

-- 33 bytes
long_is_improper : is_proper (Word (replicate 33 97)) ≡ false
long_is_improper = refl

digit_is_no_word : is_proper (Word (codes "1x")) ≡ false
digit_is_no_word = refl

negative_is_improper : is_proper (Number (negsuc 0)) ≡ false
negative_is_improper = refl

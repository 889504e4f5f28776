-- The tokens that texts have. This project's own rule.
use Rattle.std.specs.Prelude.{Bool, true, false, ◌&&◌, List, length, nat_le, pos, negsuc}
use Rattle.std.specs.List.{list_all}
use Rattle.wsm_record.specs.Name.{is_word}
use Rattle.wsm_record.specs.declared.limits.TheConstants.{MAX_NAME}
use Rattle.wsm_tokens.specs.Tokens.{Token, Word, Mark, Number, Tokens, Then, End, Bad, number_limit}

-- a word of at most 32 bytes, any sign, or a number from 0 to the greatest
abbrev pub is_proper : Token → Bool
is_proper (Word w) = is_word w && nat_le (length w) MAX_NAME
is_proper (Mark s) = true
is_proper (Number (pos n)) = nat_le n number_limit
is_proper (Number (negsuc n)) = false

abbrev pub are_proper : List Token → Bool
are_proper ts = list_all is_proper ts

-- each token up to the end, or to where none can be read
unfoldable pub has_proper : Tokens → Bool
has_proper (Then t at rest) = is_proper t && has_proper rest
has_proper (End at) = true
has_proper (Bad fault at) = true

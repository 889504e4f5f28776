-- A text with tokens written behind it.
use Rattle.std.specs.Prelude.{ℕ, List, [], ◌∷◌, ◌++◌, cond, nat_lt}
use Rattle.wsm_tokens.specs.declared.token.Sign.TheVariants.{Comma}
use Rattle.wsm_tokens.specs.Tokens.{Token, Mark}
use Rattle.wsm_tokens.specs.Written.{token_text}

-- each token behind a space
abbrev pub adds : List ℕ → List Token → List ℕ
adds text [] = text
adds text (t ∷ ts) = adds (text ++ 32 ∷ token_text t) ts

-- a comma stands in front of all places but the first
abbrev pub comma_before : ℕ → List Token
comma_before place = cond (nat_lt 0 place) (Mark Comma ∷ []) []

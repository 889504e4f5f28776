-- Tokens as pairs and lists, by which a proof tells them apart.
use Rattle.std.specs.Prelude.{◌≡◌, refl, ◌⊎◌, ℕ, List, [], ◌∷◌, ℤ, Option, Some, None}
use Rattle.std.specs.Coded.{Coded, code_by, coded×, coded⊎, coded_list, coded_option, coded_ℕ, coded_ℤ}
use Rattle.std.proofs.Common.{inl, inr, ap}
use Rattle.wsm_tokens.specs.declared.fault.Fault.{Fault}
use Rattle.wsm_tokens.specs.declared.token.Sign.{Sign}
use Rattle.wsm_tokens.specs.Tokens.{Token, Word, Mark, Number, Tokens, Then, End, Bad}

abbrev pub split_token : Token → List ℕ ⊎ (Sign ⊎ ℤ)
split_token (Word w) = inl w
split_token (Mark s) = inr (inl s)
split_token (Number n) = inr (inr n)

abbrev pub join_token : List ℕ ⊎ (Sign ⊎ ℤ) → Token
join_token (inl w) = Word w
join_token (inr (inl s)) = Mark s
join_token (inr (inr n)) = Number n

pub token_again : (t : Token) → join_token (split_token t) ≡ t
token_again (Word w) = refl
token_again (Mark s) = refl
token_again (Number n) = refl

abbrev pub token_code : Coded Sign → Coded Token
token_code signs = code_by (List ℕ ⊎ (Sign ⊎ ℤ)) (coded⊎ (coded_list coded_ℕ) (coded⊎ signs coded_ℤ)) split_token join_token token_again

abbrev pub Flat : Type 0
Flat = List (Token × ℕ) × (Option Fault × ℕ)

abbrev pub split_tokens : Tokens → Flat
split_tokens (Then t at rest) = ((t, at) ∷ (split_tokens rest).0, (split_tokens rest).1)
split_tokens (End at) = ([], (None, at))
split_tokens (Bad fault at) = ([], (Some fault, at))

abbrev pub ending : Option Fault → ℕ → Tokens
ending None at = End at
ending (Some fault) at = Bad fault at

abbrev pub join_tokens : List (Token × ℕ) → Option Fault × ℕ → Tokens
join_tokens [] e = ending e.0 e.1
join_tokens (t ∷ ts) e = Then t.0 t.1 (join_tokens ts e)

pub tokens_again : (ts : Tokens) → join_tokens (split_tokens ts).0 (split_tokens ts).1 ≡ ts
tokens_again (Then t at rest) = ap (Then t at) (tokens_again rest)
tokens_again (End at) = refl
tokens_again (Bad fault at) = refl

abbrev pub tokens_code : Coded Sign → Coded Fault → Coded Tokens
tokens_code signs faults =
    code_by Flat (coded× (coded_list (coded× (token_code signs) coded_ℕ)) (coded× (coded_option faults) coded_ℕ)) split_tokens (λ p. join_tokens p.0 p.1) tokens_again

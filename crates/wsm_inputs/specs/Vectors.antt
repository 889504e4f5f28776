-- Tokens of texts, and trees that their tokens tell, computed by the definitions.
use Rattle.std.specs.Prelude.{◌≡◌, refl, ℕ, Bool, true, false, List, [], ◌∷◌, map, pos, negsuc, codes}
use Rattle.wsm_record.specs.Name.{is_reserved}
use Rattle.wsm_tokens.specs.declared.token.Sign.TheVariants as signs
use Rattle.wsm_tokens.specs.Tokens.{Word, Mark, Number as Figure, Tokens, End, Bad, tokens, tokens_from, first_of, sign_of}
use Rattle.wsm_tokens.specs.declared.fault.Fault.TheVariants.{BadCharacter}
use Rattle.wsm_tokens.specs.Written.{put}
use Rattle.wsm_interval.specs.declared.Arithmetic.TheVariants.{Add, Sub, Mul}
use Rattle.wsm_interval.specs.declared.Comparison.TheVariants.{Lt}
use Rattle.wsm_query.specs.declared.expr.Op.TheVariants.{Compute, Compare}
use Rattle.wsm_query.specs.Tree.{Expr, Number, Field, EnumName, KeyName, Brackets, Minus, Not, Binary, And, Or}
use Rattle.wsm_inputs.specs.TextOf.{plain, is_told}

-- blanks are of no account, and the minus sign of a bound 0, but no other one
abbrev texts : List (List ℕ × Tokens)
texts =
    (codes "n  INT -0..5", put (Word (codes "n") ∷ Word (codes "INT") ∷ Figure (pos 0) ∷ Mark signs.DotDot ∷ Figure (pos 5) ∷ []) (End 0))
    ∷ (codes "n INT\n-7.. -0", put (Word (codes "n") ∷ Word (codes "INT") ∷ Mark signs.Minus ∷ Figure (pos 7) ∷ Mark signs.DotDot ∷ Figure (pos 0) ∷ []) (End 0))
    ∷ (codes "n - 0", put (Word (codes "n") ∷ Mark signs.Minus ∷ Figure (pos 0) ∷ []) (End 0))
    ∷ (codes "n #", put (Word (codes "n") ∷ []) (Bad BadCharacter 0))
    ∷ []

texts_plain : map (λ t. (t.0, plain false (tokens t.0))) texts ≡ texts
unfolding plain tokens tokens_from first_of sign_of
texts_plain = refl

abbrev a : Expr
a = Field (codes "a")

abbrev b : Expr
b = Field (codes "b")

abbrev c : Expr
c = Field (codes "c")

-- whether no other tree has the tokens
abbrev trees : List (Expr × Bool)
trees =
    (Binary (Compute Mul) (Brackets (Binary (Compute Add) a b)) c, true)  -- (a + b) * c
    ∷ (Binary (Compute Mul) (Binary (Compute Add) a b) c, false)
    ∷ (Binary (Compute Sub) (Binary (Compute Sub) a b) c, true)  -- a - b - c
    ∷ (Binary (Compute Sub) a (Binary (Compute Sub) b c), false)
    ∷ (Binary (Compute Sub) a (Brackets (Binary (Compute Sub) b c)), true)  -- a - (b - c)
    ∷ (Binary (Compare Lt) (Binary (Compute Add) a b) c, true)  -- a + b < c
    ∷ (Binary (Compare Lt) (Binary (Compare Lt) a b) c, false)
    ∷ (Or (And a b) c, true)  -- a AND b OR c
    ∷ (And (Or a b) c, false)
    ∷ (And a (And b c), false)
    ∷ (And (Not a) (Not (Binary (Compare Lt) b c)), true)  -- NOT a AND NOT b < c
    ∷ (Not (And a b), false)
    ∷ (Binary (Compute Add) a (Not b), false)
    ∷ (Binary (Compute Mul) (Minus a) (Minus (Minus b)), true)  -- -a * - -b
    ∷ (Minus (Binary (Compute Mul) a b), false)
    ∷ (Minus (Number (pos 1)), true)  -- -1
    ∷ (Number (negsuc 0), false)
    ∷ (Field (codes "TRUE"), false)
    ∷ (EnumName (codes "KEY") (codes "a"), false)
    ∷ (KeyName (codes "a"), true)  -- KEY.a
    ∷ []

trees_told : map (λ t. (t.0, is_told t.0)) trees ≡ trees
unfolding is_reserved
trees_told = refl

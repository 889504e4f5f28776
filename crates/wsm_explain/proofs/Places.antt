-- Walks up to a place of a text.
use Rattle.std.proofs.Common.{◌≡◌, ℕ, ◌<◌, Bool, true, false, true≢false, cond, List, refl, sym, arith}
use Rattle.wsm_tokens.specs.declared.position.Position.{Position}
use Rattle.wsm_tokens.specs.Tokens.{Tokens, Then, End, Bad}
use Rattle.wsm_tokens.specs.Read.{behind, count, in_sight}
use Rattle.wsm_explain.specs.Standing.{is_in_front, tokens_at}

picked : (b : Bool) (x y : Tokens) → b ≡ true → cond b x y ≡ x
picked true x y e = refl
picked false x y e = absurd (true≢false (sym e))

left : (b : Bool) (x y : Tokens) → b ≡ false → cond b x y ≡ y
left true x y e = absurd (true≢false e)
left false x y e = refl

-- a token is left where one stands in front
pub front_counts : (text : List ℕ) (p : Position) (ts : Tokens) → is_in_front text p ts ≡ true → 0 < count ts
unfolding count in_sight
front_counts text p (Then t at rest) e = omega arith
front_counts text p (End at) e = absurd (true≢false (sym e))
front_counts text p (Bad fault at) e = absurd (true≢false (sym e))

-- a token that stands in front is passed
pub tokens_on : (text : List ℕ) (p : Position) (ts : Tokens) → is_in_front text p ts ≡ true → tokens_at text p (behind ts) ≡ tokens_at text p ts
unfolding tokens_at in_sight behind
tokens_on text p (Then t at rest) e = sym (picked (is_in_front text p (Then t at rest)) (tokens_at text p rest) (Then t at rest) e)
tokens_on text p (End at) e = absurd (true≢false (sym e))
tokens_on text p (Bad fault at) e = absurd (true≢false (sym e))

-- one that doesn't is where the walk ends
pub tokens_stop : (text : List ℕ) (p : Position) (ts : Tokens) → is_in_front text p ts ≡ false → tokens_at text p ts ≡ ts
unfolding tokens_at in_sight
tokens_stop text p (Then t at rest) e = left (is_in_front text p (Then t at rest)) (tokens_at text p rest) (Then t at rest) e
tokens_stop text p (End at) e = refl
tokens_stop text p (Bad fault at) e = refl

-- Words that stand among tokens.
use Rattle.std.proofs.Common.{◌≡◌, ◌||◌, ℕ, Bool, true, false, List, refl, ap}
use Rattle.wsm_tokens.specs.Tokens.{Tokens, Then, End, Bad}
use Rattle.wsm_tokens.specs.Read.{begins, behind}
use Rattle.wsm_keyed_run.specs.Places.{says}

or_right : (a b : Bool) → b ≡ true → (a || b) ≡ true
or_right true b h = refl
or_right false b h = h

pub says_behind : (word : List ℕ) (ts : Tokens) → says word (behind ts) ≡ true → says word ts ≡ true
unfolding behind
says_behind word (Then t at rest) h = or_right (begins word (Then t at rest)) (says word rest) h
says_behind word (End at) h = h
says_behind word (Bad fault at) h = h

pub says_begun : (word : List ℕ) (ts : Tokens) → begins word ts ≡ true → says word ts ≡ true
unfolding begins
says_begun word (Then t at rest) h = ap (λ (b : Bool). b || says word rest) h
says_begun word (End at) h = absurd (cc)
says_begun word (Bad fault at) h = absurd (cc)

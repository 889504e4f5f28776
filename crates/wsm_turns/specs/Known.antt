-- What is kept of identifiers.
use Rattle.std.specs.Prelude.{◌≡◌, ℕ, Bool, true, false, not, List, ℤ, ◌≤ℤ◌, Option}
use Rattle.wsm_doubles.specs.Memory.{Memory, Recalls, live}
use Rattle.wsm_turns.specs.declared.identifiers.Identifiers.{Identifiers}
use Rattle.wsm_turns.specs.Turns.{Setting, is_double, noted}

-- by the query's clock and windows, what is kept knows what is remembered at a watermark
pub record Remembers (w : Setting) (mark : ℤ) (r : Identifiers) (memory : Memory) : Type 0 where
  pub clock : r.clock ≡ w.clock
  pub shape : r.shape ≡ w.shape
  pub recalls : Recalls w.clock w.shape mark r.doubles memory

-- a record has come with its identifier, if it has one: it passes unless it is a double, and is remembered then at each later watermark
-- as far as it can count there
pub record Passes (w : Setting) (mark : ℤ) (new : Identifiers) (identifier : Option (List ℕ)) (time : ℕ) (memory : Memory) (passes : Bool) : Type 0 where
  pub answer : is_double identifier memory ≡ not passes
  pub double : passes ≡ false → Remembers w mark new memory
  pub noted : passes ≡ true → (later : ℤ) → mark ≤ℤ later → Remembers w later new (live w.clock w.shape later (noted identifier time memory))

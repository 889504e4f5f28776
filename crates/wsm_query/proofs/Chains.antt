-- The rest of a chain, by what stands next.
use Rattle.std.proofs.Common.{◌≡◌, ℕ, List, refl, sym, ◌∙◌, arith}
use Rattle.std.specs.Prelude.{Some, None}
use Rattle.wsm_tokens.specs.declared.fault.Stop.{Stop}
use Rattle.wsm_tokens.specs.Tokens.{Tokens}
use Rattle.wsm_tokens.specs.Read.{Read, Rule, Took, ◌>>=◌, and_then, Stops}
use Rattle.wsm_query.specs.Tree.{Expr}
use Rattle.wsm_query.specs.Grammar.{chain, looked_up}
use Rattle.wsm_query.specs.Steps.{spend}

abbrev pub Table : Type 0
Table = List (List ℕ × (Expr → Expr → Expr))

pub stops_behind : {A B : Type 0} (stop : Stop) (read : Read A) (go : A → Rule B) → Stops stop read → Stops stop (and_then read go)
stops_behind stop read go h = grind arith

pub chain_ends : (n : ℕ) (table : Table) (rule : Rule Expr) (x : Expr) (ts : Tokens) → looked_up table ts ≡ None → chain n table rule x ts ≡ Took x ts
unfolding chain
chain_ends n table rule x ts e = grind arith

pub chain_turns : (n : ℕ) (table : Table) (rule : Rule Expr) (x : Expr) (ts : Tokens) (make : Expr → Expr → Expr) → looked_up table ts ≡ Some make
    → chain n table rule x ts ≡ and_then (spend n ts) (λ m. rule >>= λ y. chain m table rule (make x y))
unfolding chain
chain_turns n table rule x ts make e = grind arith

-- what is read is the rest of a chain behind the tree so far, with n operators left
pub record GoesOn (n : ℕ) (table : Table) (rule : Rule Expr) (x : Expr) (ts : Tokens) (whole : Read Expr) : Type 0 where
  pub same : chain n table rule x ts ≡ whole

pub chain_ended : {n : ℕ} {table : Table} {rule : Rule Expr} {x : Expr} {ts : Tokens} {whole : Read Expr} → GoesOn n table rule x ts whole → looked_up table ts ≡ None → whole ≡ Took x ts
chain_ended {n = n} {table = table} {rule = rule} {x = x} {ts = ts} g e = sym g.same ∙ chain_ends n table rule x ts e

turned : (n : ℕ) (table : Table) (rule : Rule Expr) (x : Expr) (ts : Tokens) (whole : Read Expr) (make : Expr → Expr → Expr) → GoesOn n table rule x ts whole → looked_up table ts ≡ Some make
    → whole ≡ and_then (spend n ts) (λ m. rule >>= λ y. chain m table rule (make x y))
turned n table rule x ts whole make g e = sym g.same ∙ chain_turns n table rule x ts make e

pub full_stops : {n : ℕ} {table : Table} {rule : Rule Expr} {x : Expr} {ts : Tokens} {whole : Read Expr} → GoesOn n table rule x ts whole → (make : Expr → Expr → Expr) → looked_up table ts ≡ Some make
    → (stop : Stop) → Stops stop (spend n ts) → Stops stop whole
full_stops {n = n} {table = table} {rule = rule} {x = x} {ts = ts} {whole = whole} g make e stop h =
    rw (turned n table rule x ts whole make g e) (stops_behind stop (spend n ts) (λ m. rule >>= λ y. chain m table rule (make x y)) h)

pub operand_stops : {n : ℕ} {table : Table} {rule : Rule Expr} {x : Expr} {ts : Tokens} {whole : Read Expr} → GoesOn n table rule x ts whole → (make : Expr → Expr → Expr) → looked_up table ts ≡ Some make
    → (m : ℕ) (us : Tokens) (stop : Stop) → spend n ts ≡ Took m us → Stops stop (rule us) → Stops stop whole
operand_stops {n = n} {table = table} {rule = rule} {x = x} {ts = ts} {whole = whole} g make e m us stop s h =
    rw (turned n table rule x ts whole make g e, s) (stops_behind stop (rule us) (λ y. chain m table rule (make x y)) h)

pub chain_goes_on : {n : ℕ} {table : Table} {rule : Rule Expr} {x : Expr} {ts : Tokens} {whole : Read Expr} → GoesOn n table rule x ts whole → (make : Expr → Expr → Expr) → looked_up table ts ≡ Some make
    → (m : ℕ) (us vs : Tokens) (y z : Expr) → spend n ts ≡ Took m us → rule us ≡ Took y vs → z ≡ make x y → GoesOn m table rule z vs whole
chain_goes_on {n = n} {table = table} {rule = rule} {x = x} {ts = ts} {whole = whole} g make e m us vs y z s r i =
    record { same = sym (turned n table rule x ts whole make g e ∙ rw (s, r, i) refl) }

use Rattle.std.proofs.Common.{rules, ◌≡◌, sym, subst, List, ℕ}
use Rattle.wsm_csv.specs.Number.{AreDigitsOf}
use Rattle.wsm_csv.proofs.WordLemmas.{same_digits}
use Rattle.wsm_csv.proofs.number.Eight.read.Goals as goal

pub returns-then-word-last-clause-value : goal.returns-then-word-last-clause-value
returns-then-word-last-clause-value c =
    let eight = c.self.inside in let are = c.self.invariant.1.1 in
    let same : c.args.bytes ≡ eight.digits = same_digits c.args.bytes eight.digits c.from_le_bytes-word.result c.from_le_bytes-last.result (search rules) c.self.invariant.0 (search rules) are.digits c.from_le_bytes-word.ensures c.from_le_bytes-last.ensures c.if-word-last.true in
    subst (λ (bs : List ℕ). AreDigitsOf bs eight.value) (sym same) are

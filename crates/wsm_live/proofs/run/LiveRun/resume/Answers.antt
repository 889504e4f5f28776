use Rattle.std.proofs.Common.{◌≡◌, ◌∙◌, List, ℕ, nat_eq, length, subst, sym, true}
use Rattle.wsm_live.specs.CutSeen.{cut_seen}
use Rattle.wsm_live.specs.Live.{IsBehind}
use Rattle.wsm_live.proofs.HeadLemmas.{no_bytes, readable_cut, readable_none, some_then, stands_cut, stands_none}
use Rattle.wsm_live.proofs.run.LiveRun.resume.Goals as goal

pub returns-then-is_empty-clause-behind : goal.returns-then-is_empty-clause-behind
returns-then-is_empty-clause-behind g c = λ by before behind says.
    let turn = g.T.LineTaker.turn in
    let none : nat_eq (length c.args.row.now) 0 ≡ true = sym c.is_empty.ensures ∙ c.if-is_empty.true in
    subst (λ (lines : List (List ℕ)). IsBehind turn g.T.LineTaker.stands c.args.self by lines) (sym (stands_none turn g.T.LineTaker.states by before c.args.row.now (no_bytes c.args.row.now none) says)) behind

pub returns-then-is_empty-clause-readable : goal.returns-then-is_empty-clause-readable
returns-then-is_empty-clause-readable g c =
    let none : nat_eq (length c.args.row.now) 0 ≡ true = sym c.is_empty.ensures ∙ c.if-is_empty.true in
    readable_none c.args.row.now (no_bytes c.args.row.now none)

pub returns-in-Some-2-clause-behind : goal.returns-in-Some-2-clause-behind
returns-in-Some-2-clause-behind g c = λ by before behind says.
    let cut = stands_cut g.T.LineTaker.turn g.T.LineTaker.states by before c.args.row.now (cut_seen c.in-Some.cut) says c.in-Some.ensures in
    record {
      taken = some_then _ c.in-Some-2.taker (λ t. g.T.LineTaker.stands t by before) c.in-Some-2.is (c.in_ok-taker.ensures by before behind.taken cut.text);
      count = c.behind.ensures.count ∙ cut.count;
      sum = c.behind.ensures.sum ∙ cut.sum;
    }

pub returns-in-Some-2-clause-readable : goal.returns-in-Some-2-clause-readable
returns-in-Some-2-clause-readable g c = readable_cut c.args.row.now (cut_seen c.in-Some.cut) c.in-Some.ensures

use Rattle.std.proofs.Common.{◌≡◌, ◌∙◌, ap, rules, subst, sym, true}
use Rattle.wsm_live.specs.Head.{StandsFor, behind_row, is_headed, is_readable}
use Rattle.wsm_live.specs.Live.{IsBehind}
use Rattle.wsm_live.proofs.HeadLemmas.{some_then}
use Rattle.wsm_live.proofs.live.resumed_behind.Goals as goal

pub returns-in-Some : goal.returns-in-Some
returns-in-Some g c = λ chunks.
    let turn = g.T.LineTaker.turn in
    let stands = g.T.LineTaker.stands in
    let states = g.T.LineTaker.states in
    let rows = c.args.first.now.rows.now in
    let run = c.in-Some.run' in
    let headed : is_headed c.args.head.now rows ≡ true = search rules in
    let row : c.behind_row.result.now ≡ behind_row c.args.head.now rows = c.behind_row.ensures in
    record {
      behind = λ by before none says.
          some_then _ run (λ r. IsBehind turn stands r by before) c.in-Some.is (c.in_ok-run.ensures.behind by before none (subst (StandsFor turn states by before) (sym row) says));
      longest = some_then _ run (λ r. r.longest ≡ c.args.run.longest) c.in-Some.is c.in_ok-run.ensures.longest;
      headed = headed;
      readable = sym (ap is_readable row) ∙ some_then _ run (λ r. is_readable c.behind_row.result.now ≡ true) c.in-Some.is c.in_ok-run.ensures.readable;
    }

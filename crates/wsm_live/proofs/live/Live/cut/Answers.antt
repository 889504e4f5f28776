use Rattle.std.proofs.Common.{◌∙◌, [], ◌∷◌, inr, sym}
use Rattle.std.proofs.lemmas.Result.{IfOk-weaker}
use Rattle.wsm_journal.specs.Kept.{IsLeftOr}
use Rattle.wsm_journal.proofs.Since.{weaker}
use Rattle.wsm_live.specs.Live.{IsLeftOrCut, head_entry}
use Rattle.wsm_live.proofs.LiveLemmas.{cut_leaves, head_put}
use Rattle.wsm_live.proofs.live.Live.cut.Goals as goal

pub returns-in-Ok-true-clause-cut : goal.returns-in-Ok-true-clause-cut
returns-in-Ok-true-clause-cut g c =
    let turn = g.T.LineTaker.turn in
    let stands = g.T.LineTaker.stands in
    let states = g.T.LineTaker.states in
    let l = c.args.self.now in
    let rows = c.deref-in-Ok-true.result.now in
    let position = c.deref-in-Ok-true-2.result.now in
    let head = head_put turn stands states l c.deref.result.now c.put_head.new.rows.items rows position c.deref.ensures.value c.deref-in-Ok-true.ensures.value c.deref-in-Ok-true-2.ensures.value (c.in-Ok-true.ensures.rows c.in-Ok-true.field-0-test) in
    IfOk-weaker c.replace_by_head.result _ _ (λ is_cut done yes. record { head = head_entry rows position; is_head = head; records = done yes }) c.replace_by_head.ensures.replaced

pub returns-in-Ok-true-clause-said : goal.returns-in-Ok-true-clause-said
returns-in-Ok-true-clause-said g c = λ by before behind.
    let can = sym (c.in-Ok-true.ensures.said by before behind) ∙ c.in-Ok-true.field-0-test in
    IfOk-weaker c.replace_by_head.result _ _ (λ is_cut when yes. can) c.replace_by_head.ensures.when

pub returns-in-Ok-true-clause-unsaid : goal.returns-in-Ok-true-clause-unsaid
returns-in-Ok-true-clause-unsaid g c = λ by before behind.
    let turn = g.T.LineTaker.turn in
    let stands = g.T.LineTaker.stands in
    let states = g.T.LineTaker.states in
    let l = c.args.self.now in
    let rows = c.deref-in-Ok-true.result.now in
    let position = c.deref-in-Ok-true-2.result.now in
    let head = head_put turn stands states l c.deref.result.now c.put_head.new.rows.items rows position c.deref.ensures.value c.deref-in-Ok-true.ensures.value c.deref-in-Ok-true-2.ensures.value (c.in-Ok-true.ensures.rows c.in-Ok-true.field-0-test) in
    IfOk-weaker c.replace_by_head.result _ _ (λ is_cut when no. inr (record { head = head_entry rows position; is_head = head; unfit = sym when ∙ no })) c.replace_by_head.ensures.when

pub returns-in-Ok-true-clause-any_moment : goal.returns-in-Ok-true-clause-any_moment
returns-in-Ok-true-clause-any_moment g c =
    let turn = g.T.LineTaker.turn in
    let stands = g.T.LineTaker.stands in
    let states = g.T.LineTaker.states in
    let l = c.args.self.now in
    let rows = c.deref-in-Ok-true.result.now in
    let position = c.deref-in-Ok-true-2.result.now in
    let head = head_put turn stands states l c.deref.result.now c.put_head.new.rows.items rows position c.deref.ensures.value c.deref-in-Ok-true.ensures.value c.deref-in-Ok-true-2.ensures.value (c.in-Ok-true.ensures.rows c.in-Ok-true.field-0-test) in
    let folder = g.F.JournalFolder.folder l.journal.folder in
    weaker g.F.JournalFolder.moment g.F.JournalFolder.left_since l.journal.folder c.replace_by_head.new.journal.folder (IsLeftOr folder (head_entry rows position ∷ [])) (IsLeftOrCut turn stands states l folder)
    c.replace_by_head.ensures.any_moment (cut_leaves turn stands states l (head_entry rows position) folder head)

use Rattle.wsm_journal.specs.Kept.{HasOneMore, entry_behind}
use Rattle.wsm_journal.proofs.Since.{started}
use Rattle.wsm_journal.proofs.Folders.{kept_leaves}
use Rattle.std.proofs.Common.{◌≡◌, ◌∙◌, List, ℕ, ap, length, subst}
use Rattle.wsm_follow.specs.Ended.{ended_lines}
use Rattle.wsm_live.specs.Kept.{read_lines, rows_of}
use Rattle.wsm_live.specs.Live.{Took}
use Rattle.wsm_live.proofs.RowLemmas.{kept_read}
use Rattle.wsm_live.proofs.live.Live.append.Goals as goal

pub returns-in_err-count-clause-any_moment : goal.returns-in_err-count-clause-any_moment
returns-in_err-count-clause-any_moment g c =
    let f = g.F.JournalFolder.folder in
    let s = c.args.self.now.journal in
    let lines = ended_lines c.args.text.now in
    let e = entry_behind s.last (length lines) (rows_of lines) c.args.position.now in
    started g.F.JournalFolder.moment g.F.JournalFolder.left_since s.folder (HasOneMore (f s.folder) e) (λ left since. kept_leaves (f s.folder) s.last e c.requires.settled left (g.met.F.JournalFolder.only_now s.folder left since))

pub returns-clause-takes : goal.returns-clause-takes
returns-clause-takes g c =
    let run = c.args.self.now.run in
    let text = c.args.text.now in
    let rows : c.deref-2.result.now ≡ rows_of (ended_lines text) = c.deref-2.ensures.value ∙ c.in_ok-count.ensures.rows in
    subst (λ (ls : List (List ℕ)). Took g.T.LineTaker.turn g.T.LineTaker.stands ls run c.take.new.self c.args.out.now.items c.take.new.out.items) (ap (read_lines run.longest) rows ∙ kept_read run.longest text) c.in_ok-take.ensures.takes

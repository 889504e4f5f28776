use Rattle.std.proofs.Common.{◌≡◌, get_or, sym, ◌∙◌}
use Rattle.std.proofs.lemmas.Option.{get_or_from_slice_get}
use Rattle.std.specs.Prelude.{slice_set}
use Rattle.std.specs.List.{remove}
use Rattle.wsm_windows.specs.Windows.{window}
use Rattle.wsm_sessions.proofs.SessionEdits.{joined_edits}
use Rattle.wsm_sessions.proofs.sessions.join.Goals as goal

pub returns-clause-items : goal.returns-clause-items
returns-clause-items c =
    let ws = c.args.windows.now.items in
    let i = c.args.i in
    let w = c.remove-first.result in
    let v = c.get.result in
    let first : w ≡ get_or ws i w = sym (get_or_from_slice_get ws i w w c.remove-first.ensures.item) in
    let second : v ≡ get_or (remove ws i) i v = sym (get_or_from_slice_get (remove ws i) i v v (rw c.remove-first.ensures.items at c.get.ensures)) in
    let both : c.joined.result ≡ window (get_or ws i w).start (get_or (remove ws i) i v).end = c.joined.ensures ∙ (λ k. window (first k).start (second k).end) in
    c.set.ensures.items ∙ (λ k. slice_set (c.remove-first.ensures.items k) i (both k)) ∙ joined_edits ws i w v c.requires

use Rattle.std.proofs.Common.{sym, ◌∙◌}
use Rattle.wsm_list.proofs.Tables.{len_is}
use Rattle.wsm_list.proofs.StoredEdits.{length_is}
use Rattle.wsm_list.proofs.list.ListTablePaneTablePane.len.Goals as goal

pub returns : goal.returns
returns c = rw (← c.self.view_is) (c.len.ensures ∙ sym (length_is _ _ c.self.invariant.stored) ∙ sym (len_is _ c.self.invariant.stored.sorted))

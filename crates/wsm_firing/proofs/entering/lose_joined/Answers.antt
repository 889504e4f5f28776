use Rattle.std.proofs.Common.{rules, ◌≡◌, false, SFits, w64, to_z-of_z}
use Rattle.std.specs.FinMap as map
use Rattle.wsm_windows.specs.Windows.{IsShape}
use Rattle.wsm_panes.specs.Held.{are_sessions, entries_of}
use Rattle.wsm_firing.proofs.RowsAfterRecord.{told_apart, told_entered}
use Rattle.wsm_firing.proofs.entering.lose_joined.Goals as goal

pub returns-in-Istream : goal.returns-in-Istream
returns-in-Istream c =
    let time : SFits w64 c.args.time = c.ranges.time in
    let held = c.args.held.now in let s = c.lose_linked.new.streams in record {
      told = λ plan lateness mark relation told.
          told_entered s.form s.numbers relation plan held.shape lateness mark c.args.key c.args.time (entries_of held) c.lose_linked.ensures.shape (map.entries_sorted held.panes) (simp to_z-of_z at c.lose_linked.ensures.few) ((simp to_z-of_z at c.lose_linked.ensures.told) relation told);
      alike = c.lose_linked.ensures.alike;
    }

pub returns-else-has_sessions-clause-told : goal.returns-else-has_sessions-clause-told
returns-else-has_sessions-clause-told c = λ plan lateness mark relation told.
    let held = c.args.held.now in let s = c.args.streams.now in
    let shape : IsShape held.shape = search rules in
    let apart : are_sessions held.shape ≡ false = search rules in
    told_apart s.form s.numbers relation plan held.shape lateness mark c.args.key c.args.time (entries_of held) shape (map.entries_sorted held.panes) apart told

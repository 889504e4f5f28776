use Rattle.std.proofs.Common.{◌≡◌, ◌∙◌, Some, map, ap}
use Rattle.wsm_doubles.specs.Entries.{entry_of}
use Rattle.wsm_saved.specs.Lists.{read_list}
use Rattle.wsm_saved.proofs.Listing.{list_read}
use Rattle.wsm_saved_turns.specs.Turns.{EntryFits, entry_text, read_entry}
use Rattle.wsm_saved_turns.specs.Back.{entry_reads_back}
use Rattle.wsm_saved_turns.proofs.Reading.{both, none_some}
use Rattle.wsm_saved_turns.proofs.doubles.restore_doubles.Goals as goal

pub returns-clause-restored : goal.returns-clause-restored
returns-clause-restored c = λ known rest fits is.
    let whole : read_list read_entry c.args.from.now ≡ Some (known, rest) = list_read entry_text read_entry EntryFits entry_reads_back known rest c.args.from.now fits is in
    let restored = rw c.in-Some.is at c.in_ok-entries.ensures in
    let same = both (map entry_of c.in-Some.entries.items) known c.restore_entries.new.from rest (restored ∙ whole) in
    (c.in_ok-resume.ensures ∙ ap (map entry_of) c.deref.ensures.value ∙ same.0, same.1)

pub returns-in_default-clause-from_saved : goal.returns-in_default-clause-from_saved
returns-in_default-clause-from_saved c = λ known rest fits is.
    let whole : read_list read_entry c.args.from.now ≡ Some (known, rest) = list_read entry_text read_entry EntryFits entry_reads_back known rest c.args.from.now fits is in
    let restored = rw c.in_default.is at c.in_ok-entries.ensures in
    absurd (none_some _ (restored ∙ whole))

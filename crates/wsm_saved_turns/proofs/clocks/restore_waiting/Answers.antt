use Rattle.std.proofs.Common.{◌≡◌, ◌∙◌, Some, ap}
use Rattle.wsm_saved_turns.specs.Back.{stand_back}
use Rattle.wsm_saved_turns.specs.Turns.{read_stand, stand_of, standing_of}
use Rattle.wsm_saved_turns.proofs.Reading.{and_so, both, none_some}
use Rattle.wsm_saved_turns.proofs.clocks.restore_waiting.Goals as goal

pub returns-in-Some-clause-restored : goal.returns-in-Some-clause-restored
returns-in-Some-clause-restored c = λ was stamps told waits rest hears fits is.
    let whole : read_stand c.args.from.now ≡ Some (stand_of was, rest) = ap read_stand is ∙ stand_back (stand_of was) rest fits.stand in
    let restored = rw c.in-Some.is at c.in_ok-standing.ensures in
    let same = both (standing_of c.in-Some.standing) (stand_of was) c.restore_standing.new.from rest (restored ∙ whole) in
    and_so _ _ (λ new hear. (hear, same.1)) c.resume_waiting.result (c.resume_waiting.ensures.restored was stamps told waits hears fits same.0)

pub returns-in-Some-clause-from_saved : goal.returns-in-Some-clause-from_saved
returns-in-Some-clause-from_saved c = λ was stamps told waits rest hears fits is.
    let whole : read_stand c.args.from.now ≡ Some (stand_of was, rest) = ap read_stand is ∙ stand_back (stand_of was) rest fits.stand in
    let restored = rw c.in-Some.is at c.in_ok-standing.ensures in
    let same = both (standing_of c.in-Some.standing) (stand_of was) c.restore_standing.new.from rest (restored ∙ whole) in
    c.resume_waiting.ensures.from_saved was stamps told waits hears same.0

pub returns-in-None-clause-from_saved : goal.returns-in-None-clause-from_saved
returns-in-None-clause-from_saved c = λ was stamps told waits rest hears fits is.
    let whole : read_stand c.args.from.now ≡ Some (stand_of was, rest) = ap read_stand is ∙ stand_back (stand_of was) rest fits.stand in
    let restored = rw c.in-None.is at c.in_ok-standing.ensures in
    absurd (none_some _ (restored ∙ whole))

use Rattle.std.proofs.Common.{◌≡◌, Option, Some, subst, sym}
use Rattle.wsm_turns.specs.declared.clocks.Clocks.{Clocks}
use Rattle.wsm_turns.specs.Waits.{Hear}
use Rattle.wsm_saved_turns.proofs.Resuming.{with_clocks}
use Rattle.wsm_saved_turns.proofs.clocks.restore_clocks.Goals as goal

pub returns-in-Some-2-clause-restored : goal.returns-in-Some-2-clause-restored
returns-in-Some-2-clause-restored c = λ was stamps told waits rest hear fits is.
    let clocks = c.in-Some.clocks in
    let count = c.args.count in
    let waiting = c.in-Some-2.waiting in
    let left = c.restore_waiting.new.from in
    let back = rw c.in-Some-2.is at c.in_ok-waiting.ensures.restored in
    let hears = with_clocks clocks count was stamps told waits rest c.args.from.now (λ w. back w stamps told waits rest) (rw c.in-Some.is at hear) fits is in
    subst (λ (k : Option Clocks). Hear k count (Some waiting) stamps told waits × (left ≡ rest)) (sym c.in-Some.is) hears

pub returns-in-None-clause-from_saved : goal.returns-in-None-clause-from_saved
returns-in-None-clause-from_saved c = λ was stamps told waits rest hear fits is.
    let some = rw c.in-None.is at c.in_ok-waiting.ensures.from_saved in
    with_clocks c.in-Some.clocks c.args.count was stamps told waits rest c.args.from.now (λ w. some w stamps told waits rest) (rw c.in-Some.is at hear) fits is

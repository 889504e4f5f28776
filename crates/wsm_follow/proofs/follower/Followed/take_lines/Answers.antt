use Rattle.wsm_follow.proofs.follower.Followed.take_lines.Goals as goal

pub returns-clause-sums : goal.returns-clause-sums
returns-clause-sums g c known is _ =
    let told = c.in_ok-sums.ensures.sums known is in
    let sums = rw c.in-Some.is at told in
    record { head = sums.0; tail = sums.1 }

use Rattle.std.proofs.Common.{rules, ap, of_z}
use Rattle.std.specs.Int.{w128}
use Rattle.std.specs.Ordering.{int_eq}
use Rattle.std.proofs.lemmas.Bool.{false_from_ne_true}
use Rattle.std.proofs.lemmas.Bool.Decides.{Decides-int_eq}
use Rattle.wsm_values.proofs.clock.candidate.Goals as goal

pub returns-else-there-offset : goal.returns-else-there-offset
returns-else-there-offset c =
    let there = c.in_ok-there.there in
    let offset = c.in_ok-offset.offset in
    let differ = false_from_ne_true (int_eq there offset) (λ same. c.if-there-offset.false (ap (of_z w128) ((Decides-int_eq there offset).0 same))) in
    search (rules, differ)

use Rattle.std.proofs.Common.{◌≡◌, ◌∙◌, List, Some, ap, map, option_map, subst, sym}
use Rattle.wsm_follow.specs.Listed.{listing}
use Rattle.wsm_follow.specs.Logs.{AreInTurn}
use Rattle.wsm_follow.specs.Names.{Listing, first_readable}
use Rattle.wsm_follow.specs.declared.order.Listed.{Listed}
use Rattle.wsm_follow.proofs.follower.first_beginning.Goals as goal

pub returns-in-Some-clause-begins : goal.returns-in-Some-clause-begins
returns-in-Some-clause-begins g c known logs =
    let files : List Listing = map listing c.as_slice.result.now in
    let order : AreInTurn known files = subst (λ (fs : List Listed). AreInTurn known (map listing fs)) (sym c.as_slice.ensures.value) (subst (AreInTurn known) (sym c.in_ok-files.ensures) (c.in_ok-list.ensures.listed known logs)) in
    let oldest : first_readable files ≡ Some (listing c.in-Some.file.now) = sym c.first_readable.ensures ∙ ap (option_map (λ f. listing f.now)) c.in-Some.is in (
      files,
      record {
        in_turn = order;
        first = ap (option_map (λ (f : Listing). f.file)) oldest ∙ ap Some (sym c.in_ok-front_in-in-Some.ensures.0);
        begins = c.in_ok-front_in-in-Some.ensures.1;
      },
    )

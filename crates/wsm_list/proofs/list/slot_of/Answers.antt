use Rattle.std.proofs.Common.{subst, sym, ◌∙◌, arith}
use Rattle.wsm_list.specs.Search.{IsAt}
use Rattle.wsm_list.specs.Stored.{shown}
use Rattle.wsm_list.proofs.Gaps.{found_at}
use Rattle.wsm_list.proofs.Guessed.{guessed}
use Rattle.wsm_list.proofs.StoredEdits.{length_is}
use Rattle.wsm_list.proofs.list.slot_of.Goals as goal

pub returns-then-is_at : goal.returns-then-is_at
returns-then-is_at c = guessed c.args.slots.now.slots c.args.row.now.row c.requires.stored c.requires.listed c.args.place c.args.guess (sym c.is_at.ensures ∙ c.if-is_at.true)

pub get-requires : goal.get-requires
get-requires c =
    let es = shown c.args.slots.now.slots c.args.row.now.row in
    let at = found_at c.args.place es c.requires.stored.sorted c.requires.there in
    let long = length_is _ _ c.requires.stored in
    omega (arith, at.within, long, c.count_before.ensures.count)

pub returns-else-is_at : goal.returns-else-is_at
returns-else-is_at c =
    let es = shown c.args.slots.now.slots c.args.row.now.row in
    record {
      number = c.count_before.result;
      here = c.get.ensures.here;
      once = c.get.ensures.once;
      is = subst (IsAt es c.args.place) (sym c.count_before.ensures.count) (found_at c.args.place es c.requires.stored.sorted c.requires.there);
    }

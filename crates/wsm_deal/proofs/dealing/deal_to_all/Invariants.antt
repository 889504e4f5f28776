use Rattle.csv.specs.Records.{fields_of}
use Rattle.wsm_deal.specs.Parts.{Befores, EachHas, Hands, NoneFailed, one_more}
use Rattle.wsm_deal.specs.declared.shares.Goal.TheVariants.{All}
use Rattle.wsm_deal.proofs.EachPart.{EachAt, FirstThen, HasAt}
use Rattle.wsm_deal.proofs.dealing.deal_to_all.Given as goal

-- the first parts have the row, and each device works
abbrev pub invariant-loop-part : goal.invariant-loop-part
invariant-loop-part g l = record {
  has : (olds : Befores) (hands : Hands) → EachHas g.D.Device.taken olds hands l.fn.parts
      → EachAt (FirstThen l.part-index (HasAt g.D.Device.taken olds (one_more All (fields_of l.row) hands)) (HasAt g.D.Device.taken olds hands)) l.parts;
  works : NoneFailed g.D.Device.has_failed l.parts;
}

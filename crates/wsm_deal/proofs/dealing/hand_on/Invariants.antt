use Rattle.wsm_deal.specs.Parts.{Befores, EachHas, Hands, NoneFailed}
use Rattle.wsm_deal.proofs.dealing.hand_on.Given as goal

-- each part has its rows, and its device works
abbrev pub invariant-loop-part : goal.invariant-loop-part
invariant-loop-part g l = record {
  has : (olds : Befores) (hands : Hands) → EachHas g.D.Device.taken olds hands l.fn.parts → EachHas g.D.Device.taken olds hands l.parts;
  works : NoneFailed g.D.Device.has_failed l.parts;
}

use Rattle.std.proofs.Common.{◌≡◌, ◌<◌, ℕ, Some, true}
use Rattle.std.specs.Prelude.{slice_get}
use Rattle.wsm_deal.specs.Parts.{Befores, EachHas, Hands, NoneFailed}
use Rattle.wsm_deal.proofs.EachPart.{EachAt, FirstThen, HasAt, TookAt}
use Rattle.wsm_deal.proofs.dealing.finish.Given as goal

-- the first parts are finished, and each device works
abbrev pub invariant-loop-part : goal.invariant-loop-part
invariant-loop-part g l = record {
  took : (olds : Befores) (hands : Hands) → EachHas g.D.Device.taken olds hands l.fn.parts
      → EachAt (FirstThen l.part-index (TookAt g.D.Device.taken olds hands) (HasAt g.D.Device.taken olds hands)) l.parts;
  flushed : (k : ℕ) (p : _) → slice_get l.parts k ≡ Some p → k < l.part-index → g.D.Device.is_flushed p.out ≡ true;
  works : NoneFailed g.D.Device.has_failed l.parts;
}

use Rattle.std.proofs.Common.{SFits, w64, sym, to_z-of_z, ◌∙◌}
use Rattle.wsm_list.proofs.Earlier.{earlier_before}
use Rattle.wsm_list.proofs.search.ends_before.Goals as goal

pub returns : goal.returns
returns c =
    let end : SFits w64 c.args.end = c.ranges.end in
    λ h. earlier_before _ _ c.requires.stored c.args.at c.place_of.result c.args.end c.requires.within c.place_of.ensures (sym (simp to_z-of_z at c.ends_earlier.ensures) ∙ h)

use Rattle.std.proofs.Common.{◌≡◌, ◌∙◌, ◌++◌, ◌∷◌, [], ℕ, List, Option, ap, false, map}
use Rattle.std.proofs.lemmas.List.{map-append}
use Rattle.wsm_deal.specs.Parts.{Has, out_of}
use Rattle.wsm_deal.specs.declared.part.Part.{Part}
use Rattle.wsm_deal.proofs.EachPart.{each_push}
use Rattle.wsm_deal.proofs.dealing.add_part.Goals as goal

pub returns-clause-new : goal.returns-clause-new
returns-clause-new g c =
    each_push (λ (p : Part g.row.D.Denot). (old : Option (List ℕ)) × Has g.D.Device.taken old [] p) c.args.parts.now.items c.push.new.self.items c.new.result
    c.in_ok-push.ensures.items c.requires.new (g.D.Device.taken c.args.out, c.new.ensures.none)

pub returns-clause-works : goal.returns-clause-works
returns-clause-works g c =
    each_push (λ (p : Part g.row.D.Denot). g.D.Device.has_failed p.out ≡ false) c.args.parts.now.items c.push.new.self.items c.new.result
    c.in_ok-push.ensures.items c.requires.works (ap g.D.Device.has_failed c.new.ensures.device ∙ c.requires.device)

pub returns-clause-devices : goal.returns-clause-devices
returns-clause-devices g c =
    let out : Part g.row.D.Denot → g.row.D.Denot = out_of in
    let old = c.args.parts.now.items in
    ap (map out) c.in_ok-push.ensures.items ∙ map-append out old (c.new.result ∷ []) ∙ ap (λ (d : g.row.D.Denot). map out old ++ d ∷ []) c.new.ensures.device

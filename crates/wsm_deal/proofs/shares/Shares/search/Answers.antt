use Rattle.std.proofs.Common.{◌∙◌, sym, map, bytes_eq}
use Rattle.wsm_record.proofs.Lists.{position-map}
use Rattle.wsm_deal.proofs.Shared.{part_found}
use Rattle.wsm_deal.proofs.shares.Shares.search.Goals as goal

pub returns-in-Some : goal.returns-in-Some
returns-in-Some c =
    let keys = c.self.inside.names.keys in
    part_found c.args.self.now (map (λ v. v.items) keys) c.self.inside.block c.args.key.now _ c.self.view_is
    (c.in-Some.ensures.index ∙ sym (position-map (bytes_eq c.args.key.now) (λ v. v.items) keys))

pub returns-in-None : goal.returns-in-None
returns-in-None c =
    let keys = c.self.inside.names.keys in
    part_found c.args.self.now (map (λ v. v.items) keys) c.self.inside.block c.args.key.now _ c.self.view_is
    (c.in-None.ensures.index ∙ sym (position-map (bytes_eq c.args.key.now) (λ v. v.items) keys))

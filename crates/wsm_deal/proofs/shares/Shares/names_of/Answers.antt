use Rattle.std.proofs.Common.{◌≡◌, ◌∙◌, ap, arith, length, map, min, sym}
use Rattle.std.proofs.lemmas.List.{drop-map, take-map}
use Rattle.std.specs.Prelude.{◌+◌, ◌*◌, drop, take}
use Rattle.wsm_deal.specs.Deal.{Sharing}
use Rattle.wsm_deal.specs.Runs.{block_of}
use Rattle.wsm_deal.proofs.KeysTexts.{cut_is}
use Rattle.wsm_deal.proofs.shares.Shares.names_of.Goals as goal

pub returns : goal.returns
returns c =
    let block = c.self.inside.block in
    let keys = c.self.inside.names.keys in
    let names = c.as_slice-names.result.now in
    let front = c.args.part * block in
    let start = c.min-start.result in
    let end = c.min-end.result in
    let starts : start ≡ min front (length names) = omega (arith, c.min-start.ensures, c.saturating_mul.ensures) in
    let ends : end ≡ min (start + block) (length names) = omega (arith, c.min-end.ensures, c.saturating_add.ensures) in
    ap (map (λ v. v.items)) (cut_is names front block start end starts ends)
    ∙ sym (take-map (λ v. v.items) block (drop front names))
    ∙ ap (take block) (sym (drop-map (λ v. v.items) front names))
    ∙ ap (λ (ks : _). take block (drop front (map (λ v. v.items) ks))) c.as_slice-names.ensures.keys
    ∙ ap (λ (s : Sharing). block_of s c.args.part) c.self.view_is

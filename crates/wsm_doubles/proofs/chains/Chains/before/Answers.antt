use Rattle.std.proofs.Common.{◌≡◌, ◌∙◌, ℕ, ◌<◌, ◌≤◌, ap, arith, get_or, length, subst, sym}
use Rattle.std.proofs.lemmas.List.{get_or_read, length-map}
use Rattle.wsm_doubles.specs.declared.chains.Link.{Link}
use Rattle.wsm_doubles.specs.Chains.{Hashed, bucket_of, hashes_of, no_link}
use Rattle.wsm_doubles.proofs.Linked.{last-le}
use Rattle.wsm_doubles.proofs.chains.Chains.before.Goals as goal

pub returns-clause-earlier : goal.returns-clause-earlier
returns-clause-earlier c =
    let links = c.self.inside.links.items in
    let buckets = length c.self.inside.heads.items in
    let within : c.args.number < length links = omega (arith, c.requires, ap (λ (t : Hashed). length t.hashes) c.self.view_is, length-map links (λ (l : Link). l.hash)) in
    let read : c.index.result.now ≡ get_or links c.args.number no_link = get_or_read links c.args.number c.index.result.now within c.index.ensures no_link in
    subst (λ (n : ℕ). n ≤ c.args.number) (sym ((λ i. (read i).before) ∙ c.self.invariant.befores c.args.number within))
    (last-le (record { hashes = hashes_of links; buckets = buckets }) (bucket_of buckets (get_or links c.args.number no_link).hash) c.args.number)

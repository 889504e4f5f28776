use Rattle.std.proofs.Common.{◌≡◌, ℕ, ◌+◌, ◌<◌, List, get_or, length, rules, set, subst, sym}
use Rattle.std.proofs.lemmas.List.{get_or_read}
use Rattle.wsm_doubles.specs.declared.chains.Link.{Link}
use Rattle.wsm_doubles.specs.Chains.{AreLinked}
use Rattle.wsm_doubles.proofs.Linked.{linked}
use Rattle.wsm_doubles.proofs.chains.Chains.push.Goals as goal

pub invariant_of-self-2 : goal.invariant_of-self-2
invariant_of-self-2 c =
    let heads = c.self.inside.heads.items in
    let links = c.self.inside.links.items in
    let bucket = c.bucket_of-bucket.result in
    let within : bucket < length heads = search rules in
    let before : c.index-before.result.now ≡ get_or heads bucket 0 = get_or_read heads bucket c.index-before.result.now within c.index-before.ensures 0 in
    let numbered : length links ≡ c.len-number.result = search rules in
    subst (λ (n : ℕ). AreLinked (set heads bucket (n + 1)) c.push.new.self.items) numbered
    (subst (λ (ls : List Link). AreLinked (set heads bucket (length links + 1)) ls) (sym (c.in_ok-push.ensures.items))
    (linked heads links (record { hash = c.args.hash; before = c.index-before.result.now }) bucket (search rules) within before c.self.invariant))

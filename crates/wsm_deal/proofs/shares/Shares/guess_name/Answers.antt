use Rattle.std.proofs.Common.{◌≡◌, ◌∙◌, List, ℕ, Some, ap, length, map, refl, sym, bytes_eq, position, slice_get}
use Rattle.std.proofs.lemmas.Bool.{ltb-true}
use Rattle.std.proofs.lemmas.Option.{slice_get_read}
use Rattle.std.proofs.lemmas.Slice.Eq.{bytes_eq-Decides}
use Rattle.wsm_deal.proofs.DistinctKeys.{number_of_distinct}
use Rattle.wsm_deal.proofs.Shared.{part_at}
use Rattle.wsm_deal.proofs.shares.Shares.guess_name.Goals as goal

-- the only key with these bytes
pub returns-then-eq : goal.returns-then-eq
returns-then-eq c =
    let key = c.args.key.now in
    let keys = c.self.inside.names.keys in
    let names : List (List ℕ) = map (λ v. v.items) keys in
    let all = c.as_slice.result.now in
    let number = c.in_ok-number.field-0.now.number in
    let v = c.in_ok-name.name.now in
    let within = ltb-true number (length all) (sym c.in_ok-name.ensures.lookup.0) in
    let here : slice_get all number ≡ Some v = slice_get_read all (length all) number v refl within c.in_ok-name.ensures.lookup.1 in
    let at : slice_get keys number ≡ Some v = rw c.as_slice.ensures.keys at here in
    let is : v.items ≡ key = sym c.as_slice-2.ensures.value ∙ (bytes_eq-Decides c.as_slice-2.result.now key).0 (sym c.eq.ensures ∙ c.if-eq.true) in
    let found : position (bytes_eq key) names ≡ Some number =
    ap (λ (k : List ℕ). position (bytes_eq k) names) (sym is) ∙ number_of_distinct (λ v. v.items) keys number v c.as_slice.ensures.unique at in
    part_at c.args.self.now names c.self.inside.block number key c.self.view_is (sym found)

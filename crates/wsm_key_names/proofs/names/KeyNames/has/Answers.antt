use Rattle.std.proofs.Common.{◌≡◌, ◌∙◌, List, ℕ, Some, ap, length, refl, sym, slice_get, [], false}
use Rattle.std.specs.Prelude.{option_map}
use Rattle.std.proofs.lemmas.Bool.{ltb-true}
use Rattle.std.proofs.lemmas.Option.{slice_get-map, slice_get_read}
use Rattle.std.proofs.lemmas.Slice.Eq.{bytes_eq-Decides}
use Rattle.wsm_record.specs.Name.{repeats_after}
use Rattle.wsm_record.proofs.Lists.{position-distinct}
use Rattle.wsm_key_names.proofs.names.KeyNames.has.Goals as goal

-- the only name with these bytes
pub returns-in-Some : goal.returns-in-Some
returns-in-Some c = λ same.
    let keys = c.self.inside.names.keys in
    let all = c.as_slice.result.now in
    let names = c.args.self.now in
    let number = c.args.number in
    let v = c.in-Some.text.now in
    let distinct : repeats_after [] names ≡ false = ap (repeats_after []) (sym c.self.view_is) ∙ c.self.invariant.1.0 in
    let within = ltb-true number (length all) (sym c.in-Some.ensures.lookup.0) in
    let here : slice_get all number ≡ Some v = slice_get_read all (length all) number v refl within c.in-Some.ensures.lookup.1 in
    let at : slice_get keys number ≡ Some v = rw c.as_slice.ensures.keys at here in
    let is : v.items ≡ c.args.name.now = sym c.as_slice-in-Some.ensures.value ∙ (bytes_eq-Decides c.as_slice-in-Some.result.now c.args.name.now).0 (sym c.eq.ensures ∙ same) in
    let there : slice_get names number ≡ Some c.args.name.now = sym (ap (λ (l : List (List ℕ)). slice_get l number) c.self.view_is) ∙ slice_get-map (λ v. v.items) keys number ∙ ap (option_map (λ v. v.items)) at ∙ ap Some is in
    position-distinct names number c.args.name.now distinct there

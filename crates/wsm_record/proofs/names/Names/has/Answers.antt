use Rattle.std.proofs.Common.{◌≡◌, ◌∙◌, sym, ap, Some, List, ℕ, slice_get}
use Rattle.std.specs.Prelude.{option_map}
use Rattle.std.proofs.lemmas.Option.{slice_get-map}
use Rattle.std.proofs.lemmas.Slice.Eq.{bytes_eq-Decides}
use Rattle.wsm_record.proofs.names.Names.has.Goals as goal

pub returns-in-Some : goal.returns-in-Some
returns-in-Some c = λ same.
    let keys = c.self.inside.texts.keys in
    let found : slice_get keys c.args.number ≡ Some c.in-Some.name.now = ap (slice_get keys) (sym c.from.ensures) ∙ sym c.in-Some.ensures.key in
    let is : c.in-Some.name.now.items ≡ c.args.text.now = sym c.as_slice.ensures.value ∙ (bytes_eq-Decides c.as_slice.result.now c.args.text.now).0 (sym c.eq.ensures ∙ same) in
    sym (ap (λ (l : List (List ℕ)). slice_get l c.args.number) c.self.view_is) ∙ slice_get-map (λ v. v.items) keys c.args.number ∙ ap (option_map (λ v. v.items)) found ∙ ap Some is

use Rattle.std.proofs.Common.{◌≡◌, ◌∙◌, ℕ, List, IfOk, string_bytes, take, ap, subst}
use Rattle.serde_json.specs.Data.{Data}
use Rattle.serde_json.specs.View.{view}
use Rattle.wsm_explain.specs.Explained.{spot_data}
use Rattle.wsm_explain.specs.Standing.{standing_data}
use Rattle.wsm_explain.proofs.explaining.text_fault_value.Goals as goal

pub returns : goal.returns
returns c =
    let text = c.args.text.now in
    let p = c.args.position in
    let front = c.front.ensures ∙ ap (λ (n : ℕ). take n text) c.spot_at-spot.ensures.begin in
    let standing = c.in_ok-standing.ensures ∙ ap (λ (f : List ℕ). standing_data f p) front in
    subst (λ (d : Data). IfOk c.spot_value.result (λ v. view v ≡ d))
    (λ i. spot_data p (c.spot_at-spot.ensures.length i) (standing i) (string_bytes c.args.told)) c.spot_value.ensures

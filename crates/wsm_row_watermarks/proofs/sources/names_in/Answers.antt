use Rattle.std.proofs.Common.{◌≡◌, ℕ, List, [], ◌∷◌, ◌++◌, IfSome, ap₂, subst, ◌∙◌}
use Rattle.wsm_record.specs.Name.{is_name}
use Rattle.wsm_row_watermarks.proofs.SpeltNames.{all_at, one_more}
use Rattle.wsm_row_watermarks.proofs.sources.names_in.Goals as goal

pub unwrap-name-requires : goal.unwrap-name-requires
unwrap-name-requires c = c.new.ensures.which ∙ all_at is_name c.args.names.now c.loop-number.number c.text_of.result.now c.requires c.text_of.ensures

pub loop-number-preserved : goal.loop-number-preserved
loop-number-preserved c =
    let text = c.text_of.result.now in
    let same : c.unwrap-name.result ≡ text = subst (λ o. IfSome o (λ (name : List ℕ). name ≡ text)) c.unwrap-name.ensures c.new.ensures.text in
    c.in_ok-push.ensures.items
    ∙ (ap₂ (λ (xs : List (List ℕ)) (x : List ℕ). xs ++ x ∷ []) c.loop-number.invariant same ∙ one_more c.args.names.now c.loop-number.number text c.text_of.ensures)

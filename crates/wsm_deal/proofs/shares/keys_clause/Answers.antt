use Rattle.std.proofs.Common.{◌≡◌, ◌∙◌, ◌∷◌, ◌++◌, [], List, ℕ, ap, append-nil, map, sym}
use Rattle.std.proofs.lemmas.List.{map_more}
use Rattle.std.specs.Prelude.{◌+◌, codes, take}
use Rattle.wsm_deal.specs.KeysText.{further_text}
use Rattle.wsm_deal.proofs.KeysTexts.{further_more, regrouped}
use Rattle.wsm_deal.proofs.shares.keys_clause.Goals as goal

pub loop-name-init : goal.loop-name-init
unfolding further_text
loop-name-init c =
    let first = c.args.first.now in
    c.in_ok-extend_from_slice-2.ensures.items
    ∙ ap (λ (t : List ℕ). t ++ first) (c.in_ok-extend_from_slice.ensures.items ∙ ap (λ (t : List ℕ). t ++ codes "KEYS ") c.new-text.ensures.items)
    ∙ ap (λ (t : List ℕ). codes "KEYS " ++ t) (sym (append-nil first))

pub loop-name-preserved : goal.loop-name-preserved
loop-name-preserved c =
    let first = c.args.first.now in
    let rest = c.args.rest.now in
    let i = c.loop-name.name-index in
    let names = map (λ v. v.items) (take i rest) in
    let name = c.name-item.result.items in
    let more : map (λ v. v.items) (take (i + 1) rest) ≡ names ++ name ∷ [] =
    map_more (λ v. v.items) rest i c.name-item.result c.loop-name-test.true ∙ ap (λ (v : _). names ++ v.items ∷ []) (sym c.name-item.is) in
    c.in_ok-extend_from_slice-4.ensures.items
    ∙ ap (λ (t : List ℕ). c.extend_from_slice-in-loop-name.new.self.items ++ t) c.deref.ensures.value
    ∙ ap (λ (t : List ℕ). t ++ name) (c.in_ok-extend_from_slice-3.ensures.items ∙ ap (λ (t : List ℕ). t ++ codes ", ") c.loop-name.invariant)
    ∙ regrouped (codes "KEYS ") first (further_text names) (codes ", ") name
    ∙ ap (λ (t : List ℕ). codes "KEYS " ++ (first ++ t)) (sym (further_more names name))
    ∙ ap (λ (ns : List (List ℕ)). codes "KEYS " ++ (first ++ further_text ns)) (sym more)

use Rattle.std.proofs.Common.{◌≡◌, ◌≢◌, ◌<◌, ap, get_or, length, sym, subst, ◌∙◌, arith}
use Rattle.std.proofs.lemmas.Bool.{true≢false}
use Rattle.std.proofs.lemmas.Cmp.{tied_itself}
use Rattle.wsm_windows.specs.Places.{place_cmp}
use Rattle.wsm_windows.proofs.Places.{places_total}
use Rattle.wsm_list.specs.Search.{IsGapFor}
use Rattle.wsm_list.specs.Stored.{shown}
use Rattle.wsm_slots.proofs.Order.{Decides-eq_place}
use Rattle.wsm_list.proofs.Gaps.{gap_other}
use Rattle.wsm_list.proofs.StoredEdits.{at_place, length_is, place_there}
use Rattle.wsm_list.proofs.search.search.Goals as goal

-- all stand before it
pub returns-then-at-len-clause-absent : goal.returns-then-at-len-clause-absent
returns-then-at-len-clause-absent c =
    let es = shown c.args.slots.now.slots c.args.row.now.row in
    let here = c.count_before-at.ensures.count in
    let long = length_is _ _ c.requires in
    subst (IsGapFor es c.args.place) (sym here) (gap_other c.args.place es c.requires.sorted (λ d within is. omega (arith, within, here, long, c.len.ensures, c.if-at-len.true)))

pub returns-then-eq-clause-found : goal.returns-then-eq-clause-found
returns-then-eq-clause-found c =
    let es = shown c.args.slots.now.slots c.args.row.now.row in
    let at = c.count_before-at.result in
    let within : at < length c.args.row.now.row = omega (arith, c.count_before-at.ensures.within, c.len.ensures, c.if-at-len.false) in
    let same : c.place_at.result ≡ c.args.place = (Decides-eq_place c.place_at.result c.args.place).0 (sym c.eq.ensures ∙ c.if-eq.true) in
    at_place _ _ c.requires at c.place_at.result c.args.place within c.place_at.ensures (ap (place_cmp c.args.place) same ∙ tied_itself places_total c.args.place)

pub returns-else-eq-clause-absent : goal.returns-else-eq-clause-absent
returns-else-eq-clause-absent c =
    let es = shown c.args.slots.now.slots c.args.row.now.row in
    let at = c.count_before-at.result in
    let here = c.count_before-at.ensures.count in
    let within : at < length c.args.row.now.row = omega (arith, c.count_before-at.ensures.within, c.len.ensures, c.if-at-len.false) in
    let apart : (d : _) → (get_or es at d).0 ≢ c.args.place = λ d is. true≢false (sym ((Decides-eq_place c.place_at.result c.args.place).1 (sym (place_there _ _ c.requires at c.place_at.result d within c.place_at.ensures) ∙ is)) ∙ sym c.eq.ensures ∙ c.if-eq.false) in
    subst (IsGapFor es c.args.place) (sym here) (gap_other c.args.place es c.requires.sorted (λ d inside. subst (λ n. (get_or es n d).0 ≢ c.args.place) here (apart d)))

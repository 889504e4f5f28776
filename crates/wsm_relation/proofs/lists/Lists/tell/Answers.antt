use Rattle.std.proofs.Common.{◌≡◌, ◌+◌, ◌≤◌, ◌/◌, ◌∷◌, ◌++◌, [], List, length, sym, ap, subst, ◌∙◌, inl, inr, arith, SFits, w64, to_z-of_z}
use Rattle.wsm_record.specs.declared.cell.Cell.{Cell}
use Rattle.wsm_relation.specs.declared.steps.Step.{Step}
use Rattle.wsm_relation.specs.Delta.{AreKept, number_of, shifted, summed}
use Rattle.wsm_relation.specs.Kept.{Kept, numbers_in}
use Rattle.wsm_relation.specs.Words.{HasWords}
use Rattle.wsm_relation.proofs.Numbers.{number-shifted, shifted-delta}
use Rattle.wsm_relation.proofs.Netted.{length-shifted, length-there, fits-number, fits_step, ones-steps}
use Rattle.wsm_relation.proofs.Settled.{kept-more, summed-more}
use Rattle.wsm_relation.proofs.lists.Lists.tell.Goals as goal

-- what it comes to where there is a place
same : (c : goal.After-push_reserved-2) → summed c.self.inside.rows.items c.self.inside.told.items c.self.inside.standing.items ≡ numbers_in c.args.self.now
same c = ap numbers_in c.self.view_is ∙ c.make_place.ensures.numbers.numbers

room : (c : goal.After-push_reserved-2) → c.self.inside.room ≡ c.args.self.now.room
room c = ap (λ (k : Kept). k.room) c.self.view_is ∙ c.make_place.ensures.numbers.room

-- what is told afterwards: one more, at the next place
told : (c : goal.After-push_reserved-2) → c.push_reserved-2.new.self.items ≡ c.self.inside.told.items ++ c.told.result ∷ []
told c = c.push_reserved-2.ensures.items

at_next : (c : goal.After-push_reserved-2) → c.told.result.place ≡ length c.self.inside.rows.items
at_next c = omega (arith, c.told.ensures.place, c.len-place.ensures, c.self.inside.rows.ok.0)

number : (c : goal.After-push_reserved-2) → c.told.result.number ≡ c.args.step
number c = let step : SFits w64 c.args.step = c.ranges.step in c.told.ensures.number ∙ to_z-of_z step

rows : (c : goal.After-push_reserved-2) → c.push_reserved.new.self.items ≡ c.self.inside.rows.items ++ c.args.row.now ∷ []
rows c = c.push_reserved.ensures.items

-- and what it is, summed up
summed_up : (c : goal.After-push_reserved-2) → summed c.push_reserved.new.self.items c.push_reserved-2.new.self.items c.self.inside.standing.items ≡ shifted c.args.row.now c.args.step (numbers_in c.args.self.now)
summed_up c =
    let a = c.self.inside in
    (λ k. summed (rows c k) (told c k) a.standing.items)
    ∙ summed-more a.rows.items a.told.items a.standing.items c.args.row.now c.args.step c.told.result c.self.invariant.kept c.requires.step (at_next c) (number c)
    ∙ ap (shifted c.args.row.now c.args.step) (same c)

pub invariant_of-self : goal.invariant_of-self
invariant_of-self c =
    let a = c.self.inside in let i = c.self.invariant in let row = c.args.row.now in let step = c.args.step in
    let es = numbers_in c.args.self.now in
    let delta = c.make_place.ensures.numbers.delta in
    let sum = fits_step (number_of row es) step (fits-number row es (rw (same c) at i.kept.fits)) c.requires.low c.requires.high in
    let few : length (shifted row step es) ≤ a.room = elim c.requires.room [
      | inl there ↦ omega (arith, length-there row step es delta there, i.few, ap length (same c))
      | inr less ↦ omega (arith, length-shifted row step es, less, room c)
    ] in
    let place : length a.rows.items ≤ a.room + a.room / 2 = subst (λ (k : Kept). length k.rows ≤ k.room + k.room / 2) (sym c.self.view_is) c.make_place.ensures.place in
    let kept = kept-more a.rows.items a.told.items a.standing.items row step c.told.result i.kept c.requires.step (at_next c) (number c) (subst (λ (cells : List Cell). HasWords cells c.told.result) c.as_slice.ensures c.told.ensures.words) (rw (← same c) at sum) in record {
      kept = subst (λ (p : List (List Cell) × List Step). AreKept p.0 p.1 a.standing.items) (λ k. (sym (rows c) k, sym (told c) k)) kept;
      few = rw (summed_up c) few;
      fixed = i.fixed;
      small = i.small;
      within = omega (arith, c.push_reserved.ensures.len, place, i.fixed, a.rows.ok.0);
      few_told = omega (arith, c.push_reserved.ensures.len, c.push_reserved-2.ensures.len, i.few_told);
      no_others = i.no_others;
      none_aside = i.none_aside;
      rows_room = c.push_reserved.ensures.capacity ∙ i.rows_room;
      others_room = i.others_room;
      told_room = c.push_reserved-2.ensures.capacity ∙ i.told_room;
      standing_room = i.standing_room;
      spare_room = i.spare_room;
    }

pub returns-clause-each : goal.returns-clause-each
returns-clause-each c = λ r. ap (number_of r) (summed_up c) ∙ number-shifted r c.args.row.now c.args.step (numbers_in c.args.self.now) c.make_place.ensures.numbers.delta

pub returns-clause-numbers : goal.returns-clause-numbers
returns-clause-numbers c = record {
  numbers = summed_up c;
  room = room c;
  delta = shifted-delta c.args.row.now c.args.step (numbers_in c.args.self.now) (ones-steps ((c.args.row.now, c.args.step) ∷ []) (c.requires.step, tt)).0 c.make_place.ensures.numbers.delta;
}

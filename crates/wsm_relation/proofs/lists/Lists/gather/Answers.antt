use Rattle.std.proofs.Common.{rules, ◌≡◌, ◌<◌, ◌∷◌, ◌++◌, [], List, length, get_or, vec_len, sym, ap, subst, ◌∙◌, arith, SFits, w64, to_z-of_z}
use Rattle.std.proofs.lemmas.List.{get_or_default}
use Rattle.wsm_record.specs.declared.cell.Cell.{Cell}
use Rattle.wsm_relation.specs.declared.lists.Lists.TheInside.{Inside}
use Rattle.wsm_relation.specs.declared.steps.Step.{Step}
use Rattle.wsm_relation.specs.Delta.{ArePlaces, row_at, steps_in}
use Rattle.wsm_relation.proofs.Entries.{gathered, gathered-places, place_there}
use Rattle.wsm_relation.proofs.lists.Lists.gather.Goals as goal

pub loop-i-preserved : goal.loop-i-preserved
loop-i-preserved c =
    let a = c.self.inside in let l = c.loop-i.self-inside in let same = c.loop-i.invariant.same in
    let rows = a.rows.items in let standing = a.standing.items in
    let step = c.index-step.result.now in let row = c.index.result.now in
    let less : c.loop-i.i < length standing = omega (arith, c.loop-i-test.true, c.len.ensures, ap (λ (b : Inside). vec_len b.standing) same, a.standing.ok.0) in
    let own : SFits w64 step.number = search rules in let first : SFits w64 step.first = search rules in let second : SFits w64 step.second = search rules in
    let there : step ≡ get_or standing c.loop-i.i step = c.index-step.ensures ∙ ap (λ (b : Inside). get_or b.standing.items c.loop-i.i step) same in
    let is : row ≡ row_at rows step.place = c.index.ensures ∙ ap (λ (b : Inside). get_or b.rows.items step.place row) same ∙ get_or_default rows step.place row [] (place_there (length rows) standing c.loop-i.i step less there c.self.invariant.kept.places) in
    let len : length l.others.items ≡ c.loop-i.i = omega (arith, l.others.ok.0, c.loop-i.invariant.rows) in
    let told : c.push_reserved-in-loop-i.new.self.items ≡ l.told.items ++ record step { place = c.loop-i.i } ∷ [] =
    c.push_reserved-in-loop-i.ensures.items ∙ (λ k. l.told.items ++ record { place = c.loop-i.i; number = to_z-of_z own k; first = to_z-of_z first k; second = to_z-of_z second k } ∷ []) in
    record {
      numbers =
          (λ k. steps_in (c.push_reserved.ensures.items k) (told k))
          ∙ gathered rows l.others.items standing l.told.items c.loop-i.i step row there is less len c.loop-i.invariant.places c.loop-i.invariant.numbers;
      places = subst (λ (p : List (List Cell) × List Step). ArePlaces (length p.0) p.1) (λ k. (sym c.push_reserved.ensures.items k, sym told k))
          (gathered-places rows l.others.items standing l.told.items c.loop-i.i step row there is less len c.loop-i.invariant.places);
      rows = omega (arith, c.push_reserved.ensures.len, c.loop-i.invariant.rows);
      len = omega (arith, c.push_reserved-in-loop-i.ensures.len, c.loop-i.invariant.len);
      within = omega (arith, less, a.standing.ok.0);
      others = c.push_reserved.ensures.capacity ∙ c.loop-i.invariant.others;
      told = c.push_reserved-in-loop-i.ensures.capacity ∙ c.loop-i.invariant.told;
      same = ap (λ (b : Inside). record b { others = c.push_reserved.new.self; told = c.push_reserved-in-loop-i.new.self }) same;
    }

use Rattle.std.proofs.Common.{◌≡◌, ◌≤◌, ◌+◌, ◌∙◌, ◌++◌, ℕ, true, List, [], ◌∷◌, map, refl, sym, subst}
use Rattle.std.specs.List.{AllByRecursion}
use Rattle.wsm_watermarks.specs.declared.held.Timed.{Timed}
use Rattle.wsm_watermarks.specs.Held.{Item, Passed, is_far, mark_item}
use Rattle.wsm_watermarks.proofs.Letting.{GoesOn, goes_last, goes_one}
use Rattle.wsm_turns.specs.Numbered.{Numbered}
use Rattle.wsm_turns.specs.Turns.{numbered}
use Rattle.wsm_turns.proofs.Going.{took_more}
use Rattle.wsm_turns.proofs.waiting.let_go.Goals as goal

pub loop-row-init : goal.loop-row-init
loop-row-init g c = record { room = refl; took = ([], record { items = refl; mark = refl; rows = refl }, g.met.T.Taker.none c.args.taker.now) }

pub loop-row-preserved-in_ok-hand : goal.loop-row-preserved-in_ok-hand
loop-row-preserved-in_ok-hand g c = record {
  room = c.next.ensures.room ∙ c.loop-row.invariant.room;
  took =
      let (gone, goes, took) = c.loop-row.invariant.took in
      let rule = c.args.marks.now.rule in
      let top = c.args.marks.now.mark in
      let mark = c.loop-row.mark in
      let next = c.mark_for-next.result in
      let row = c.in-Some.row in
      let old = c.args.held.now.rows in
      let rest = c.next.new.self.rows in
      let one : GoesOn rule c.args.ahead top c.args.last mark old (row ∷ rest) [] gone = subst (λ (rs : List (Timed Numbered)). GoesOn rule c.args.ahead top c.args.last mark old rs [] gone) c.in-Some.ensures.rows goes in (
        gone ++ (mark_item mark next ++ Passed row ∷ []),
        subst (λ (m : ℕ). GoesOn rule c.args.ahead top c.args.last m old rest [] (gone ++ (mark_item mark m ++ Passed row ∷ []))) (sym c.mark_for-next.ensures)
            (goes_one rule c.args.ahead top c.args.last mark row rest old [] gone (subst (λ (m : ℕ). row.time ≤ m + c.args.ahead) c.mark.ensures c.in-Some.ensures.near) one),
        took_more g.T.Taker.took g.met.T.Taker.join c.args.taker.now c.loop-row.taker c.hand_mark.new.taker c.hand.new.taker c.args.number gone (mark_item mark next) row took c.in_ok-hand_mark.ensures c.in_ok-hand.ensures,
      );
}

pub loop-row-preserved : goal.loop-row-preserved
loop-row-preserved g c = record {
  room = c.next.ensures.room ∙ c.loop-row.invariant.room;
  took =
      let (gone, goes, took) = c.loop-row.invariant.took in
      let rule = c.args.marks.now.rule in
      let top = c.args.marks.now.mark in
      let mark = c.loop-row.mark in
      let next = c.mark_for-next.result in
      let row = c.in-Some.row in
      let old = c.args.held.now.rows in
      let rest = c.next.new.self.rows in
      let one : GoesOn rule c.args.ahead top c.args.last mark old (row ∷ rest) [] gone = subst (λ (rs : List (Timed Numbered)). GoesOn rule c.args.ahead top c.args.last mark old rs [] gone) c.in-Some.ensures.rows goes in (
        gone ++ (mark_item mark next ++ Passed row ∷ []),
        subst (λ (m : ℕ). GoesOn rule c.args.ahead top c.args.last m old rest [] (gone ++ (mark_item mark m ++ Passed row ∷ []))) (sym c.mark_for-next.ensures)
            (goes_one rule c.args.ahead top c.args.last mark row rest old [] gone (subst (λ (m : ℕ). row.time ≤ m + c.args.ahead) c.mark.ensures c.in-Some.ensures.near) one),
        took_more g.T.Taker.took g.met.T.Taker.join c.args.taker.now c.loop-row.taker c.hand_mark.new.taker c.hand.new.taker c.args.number gone (mark_item mark next) row took c.in_ok-hand_mark.ensures c.in_ok-hand.ensures,
      );
}

pub returns-clause-mark : goal.returns-clause-mark
returns-clause-mark g c =
    let (gone, goes, took) = c.loop-row.invariant.took in
    (goes_last c.args.marks.now.rule c.args.ahead c.args.marks.now.mark c.args.last c.loop-row.mark c.args.held.now.rows c.loop-row.held.rows [] gone goes (subst (λ (m : ℕ). AllByRecursion (λ r. is_far (m + c.args.ahead) r ≡ true) c.loop-row.held.rows) c.mark.ensures c.in_default.ensures.none)).mark

pub returns-clause-rows : goal.returns-clause-rows
returns-clause-rows g c =
    let (gone, goes, took) = c.loop-row.invariant.took in
    sym c.in_default.ensures.rows
    ∙ (goes_last c.args.marks.now.rule c.args.ahead c.args.marks.now.mark c.args.last c.loop-row.mark c.args.held.now.rows c.loop-row.held.rows [] gone goes (subst (λ (m : ℕ). AllByRecursion (λ r. is_far (m + c.args.ahead) r ≡ true) c.loop-row.held.rows) c.mark.ensures c.in_default.ensures.none)).rows

pub returns-clause-took : goal.returns-clause-took
returns-clause-took g c =
    let (gone, goes, took) = c.loop-row.invariant.took in
    subst (λ (l : List (Item Numbered)). g.T.Taker.took c.args.taker.now c.loop-row.taker (map (numbered c.args.number) l))
    (goes_last c.args.marks.now.rule c.args.ahead c.args.marks.now.mark c.args.last c.loop-row.mark c.args.held.now.rows c.loop-row.held.rows [] gone goes (subst (λ (m : ℕ). AllByRecursion (λ r. is_far (m + c.args.ahead) r ≡ true) c.loop-row.held.rows) c.mark.ensures c.in_default.ensures.none)).items
    took

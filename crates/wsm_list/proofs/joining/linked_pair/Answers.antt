use Rattle.std.proofs.Common.{pos, ◌≡◌, List, Some, [], ◌∷◌, refl, sym, ap, subst, ◌∙◌, SFits, w64, to_z-of_z, arith}
use Rattle.std.specs.Prelude.{IsSome, length}
use Rattle.std.specs.FinMap as map
use Rattle.wsm_record.specs.declared.event.Value.{Value}
use Rattle.wsm_windows.specs.Places.{at}
use Rattle.wsm_semantics.specs.Replay.{datum}
use Rattle.wsm_semantics.specs.Summaries.{Pane, linked}
use Rattle.wsm_sessions.specs.Placing.{those_linked}
use Rattle.wsm_list.specs.Joining.{first_two}
use Rattle.wsm_slots.specs.Panes.{taking}
use Rattle.wsm_list.proofs.Merged.{parts_at}
use Rattle.wsm_list.proofs.Taken.{first_found, second_in, no_entry, one_entry, two_entries}
use Rattle.wsm_list.proofs.joining.linked_pair.Goals as goal
use Rattle.wsm_list.proofs.joining.linked_pair.Goals.{In-Two}

pub returns-in-None : goal.returns-in-None
returns-in-None c =
    let time : SFits w64 c.args.time = c.ranges.time in
    let m = c.args.table.now.panes in
    let ls = no_entry _ (parts_at (taking [] []) c.args.sessions.now.gap c.args.key c.args.time m c.args.sessions.now.windows c.requires.agree [] (ap those_linked (sym c.in-None.is) ∙ simp to_z-of_z at c.linked.ensures)) in
    record {
      pair = sym (ap first_two ls);
      few = omega (arith, ap length ls);
    }

pub returns-in-One : goal.returns-in-One
returns-in-One c =
    let time : SFits w64 c.args.time = c.ranges.time in
    let m = c.args.table.now.panes in
    let one = one_entry _ (at c.args.key c.in-One.field-0) (parts_at (taking [] []) c.args.sessions.now.gap c.args.key c.args.time m c.args.sessions.now.windows c.requires.agree (c.in-One.field-0 ∷ []) (ap those_linked (sym c.in-One.is) ∙ simp to_z-of_z at c.linked.ensures)) in
    record {
      pair = sym (ap first_two one.1);
      few = omega (arith, ap length one.1);
    }

linked_two : (c : In-Two) → (v : Pane (List Value)) × ((w : Pane (List Value)) × (linked c.args.sessions.now.gap (datum 0 (pos 0) c.args.key c.args.time []) (map.entries c.args.table.now.panes) ≡ (at c.args.key c.in-Two.first, v) ∷ (at c.args.key c.in-Two.second, w) ∷ []))
linked_two c =
    let time : SFits w64 c.args.time = c.ranges.time in
    two_entries _ (at c.args.key c.in-Two.first) (at c.args.key c.in-Two.second)
    (parts_at (taking [] []) c.args.sessions.now.gap c.args.key c.args.time c.args.table.now.panes c.args.sessions.now.windows c.requires.agree (c.in-Two.first ∷ c.in-Two.second ∷ []) (ap those_linked (sym c.in-Two.is) ∙ simp to_z-of_z at c.linked.ensures))

pub seen-pane-requires : goal.seen-pane-requires
seen-pane-requires c =
    let m = c.args.table.now.panes in
    let two = linked_two (goal.at.seen-pane-requires c).In-Two in
    subst IsSome (sym (ap (map.get m) c.at.ensures ∙ first_found c.args.sessions.now.gap (datum 0 (pos 0) c.args.key c.args.time []) m (at c.args.key c.in-Two.first) (at c.args.key c.in-Two.second) two.0 two.1.0 two.1.1)) refl

pub seen-other-requires : goal.seen-other-requires
seen-other-requires c =
    let m = c.args.table.now.panes in
    let two = linked_two (goal.at.seen-other-requires c).In-Two in
    subst IsSome (sym (ap (map.get m) c.at-in-Two.ensures ∙ second_in c.args.sessions.now.gap (datum 0 (pos 0) c.args.key c.args.time []) m (at c.args.key c.in-Two.first) (at c.args.key c.in-Two.second) two.0 two.1.0 two.1.1)) refl

some_is : {A : Type 0} (a b : A) → Some a ≡ Some b → a ≡ b
some_is a b h = cc

pub returns-in-Two : goal.returns-in-Two
returns-in-Two c =
    let gap = c.args.sessions.now.gap in let m = c.args.table.now.panes in
    let p = at c.args.key c.in-Two.first in let r = at c.args.key c.in-Two.second in
    let two = linked_two (goal.at.returns-in-Two c).In-Two in
    let first = some_is _ _ (sym c.seen-pane.ensures ∙ ap (map.get m) c.at.ensures ∙ first_found gap (datum 0 (pos 0) c.args.key c.args.time []) m p r two.0 two.1.0 two.1.1) in
    let second = some_is _ _ (sym c.seen-other.ensures ∙ ap (map.get m) c.at-in-Two.ensures ∙ second_in gap (datum 0 (pos 0) c.args.key c.args.time []) m p r two.0 two.1.0 two.1.1) in
    record {
      pair = (λ i. Some (first i, second i)) ∙ sym (ap first_two two.1.1);
      few = omega (arith, ap length two.1.1);
    }

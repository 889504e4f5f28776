use Rattle.std.proofs.Common.{◌≡◌, ◌+◌, ◌≤◌, [], true, ℤ, List, Some, None, pos, refl, sym, ap, ◌∙◌, length, SFits, w64, to_z-of_z, arith, rules}
use Rattle.std.specs.FinMap as map
use Rattle.wsm_record.specs.Modes.{retracts}
use Rattle.wsm_record.specs.declared.event.Value.{Value}
use Rattle.wsm_windows.specs.declared.place.Place.{Place}
use Rattle.wsm_semantics.specs.HeldBounds.{rows_of_panes}
use Rattle.wsm_semantics.specs.Query.{Datum}
use Rattle.wsm_semantics.specs.Replay.{datum}
use Rattle.wsm_semantics.specs.Retractions.{retracted_in}
use Rattle.wsm_semantics.specs.Summaries.{entered, withdrawn_entering}
use Rattle.wsm_panes.specs.Held.{entries_of, joined_panes}
use Rattle.wsm_firing.proofs.RetractJoined.{one_fewer, pair_put, pair_unmarked, two_held, withdraws_none, withdraws_pair}
use Rattle.wsm_firing.proofs.RowsByMode.{retracted_none, room_two}
use Rattle.wsm_firing.proofs.retracting.retract_linked.Goals as goal
use Rattle.wsm_firing.proofs.retracting.retract_linked.Goals.{After-joined, In-Some}

-- what is joined is joined by a record at any mark
joined_is : (c : After-joined) (mark : ℤ) (values : List Value) → c.joined.result ≡ joined_panes c.args.held.now.shape (datum 0 mark c.args.key c.args.time values) (entries_of c.args.held.now)
joined_is c mark values =
    let time : SFits w64 c.args.time = c.ranges.time in
    (simp to_z-of_z at c.joined.ensures.pair) ∙ sym (pair_unmarked c.args.held.now.shape mark c.args.key c.args.time values (entries_of c.args.held.now))

-- the two
two_are : (c : In-Some) → c.joined.result ≡ joined_panes c.args.held.now.shape (datum 0 (pos 0) c.args.key c.args.time []) (entries_of c.args.held.now) →
    joined_panes c.args.held.now.shape (datum 0 (pos 0) c.args.key c.args.time []) (entries_of c.args.held.now) ≡ Some (c.in-Some.pair.0, c.in-Some.pair.1)
two_are c is = sym is ∙ c.in-Some.is

pub retract_pair-requires : goal.retract_pair-requires
retract_pair-requires c =
    let es = entries_of c.args.held.now in let sh = c.args.held.now.shape in let d : Datum = datum 0 (pos 0) c.args.key c.args.time [] in
    let two = two_are (goal.at.retract_pair-requires c).In-Some (joined_is (goal.at.retract_pair-requires c).After-joined (pos 0) []) in
    omega (arith, ap length c.requires.can.empty, c.requires.can.enough, two_held sh d es c.in-Some.pair.0 c.in-Some.pair.1 two)

pub returns-in-Some : goal.returns-in-Some
returns-in-Some c = record {
  room = c.retract_pair.ensures.room;
  rows = λ plan mark values.
      let es = entries_of c.args.held.now in let sh = c.args.held.now.shape in let d : Datum = datum 0 mark c.args.key c.args.time values in
      let v = c.in-Some.pair.0 in let w = c.in-Some.pair.1 in
      let time : SFits w64 c.args.time = c.ranges.time in
      let retract : retracts c.args.mode ≡ true = c.requires.retracts in
      let two : joined_panes sh d es ≡ Some (v, w) = sym (joined_is (goal.at.returns-in-Some c).After-joined mark values) ∙ c.in-Some.is in
      let pair = withdraws_pair plan d es sh v w (simp to_z-of_z at c.joined.ensures.few) two in
      pair_put plan d es sh v w pair c.args.mode retract c.args.rows.now.written c.retract_pair.new.rows.written c.requires.can.empty (c.retract_pair.ensures.rows pair.first pair.second pair.key pair.other_key);
  few = λ plan lateness mark most few_before few.
      let es = entries_of c.args.held.now in let sh = c.args.held.now.shape in let d : Datum = datum 0 mark c.args.key c.args.time [] in
      let v = c.in-Some.pair.0 in let w = c.in-Some.pair.1 in
      let retract : retracts c.args.mode ≡ true = c.requires.retracts in
      let two : joined_panes sh d es ≡ Some (v, w) = sym (joined_is (goal.at.returns-in-Some c).After-joined mark []) ∙ c.in-Some.is in
      let some : Place = record { end = pos 0; start = pos 0; key = c.args.key } in
      let put = c.retract_pair.ensures.rows some some refl refl in
      let n = length (entered plan sh lateness d es) in
      let fewer : n + 1 ≤ length es = one_fewer plan d es lateness (map.entries_sorted c.args.held.now.panes) sh v w two in
      let room : 2 + rows_of_panes c.args.mode n ≤ rows_of_panes c.args.mode most = room_two c.args.mode retract n most (omega (arith, fewer, few_before)) in
      omega (arith, room, put.few, ap length c.requires.can.empty);
}

pub returns-in_default : goal.returns-in_default
returns-in_default c = record {
  few = search rules;
  room = refl;
  rows = λ plan mark values.
      let es = entries_of c.args.held.now in let sh = c.args.held.now.shape in let d : Datum = datum 0 mark c.args.key c.args.time values in
      let none : joined_panes sh d es ≡ None = sym (joined_is (goal.at.returns-in_default c).After-joined mark values) ∙ c.in_default.is in
      let nothing : retracted_in c.args.mode (withdrawn_entering plan sh d es) ≡ [] = ap (retracted_in c.args.mode) (withdraws_none plan d es sh none) ∙ retracted_none c.args.mode in
      c.requires.can.empty ∙ sym nothing;
}

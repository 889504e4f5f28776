use Rattle.std.proofs.Common.{◌∙◌, sym, refl, SFits, w64, to_z-of_z}
use Rattle.std.specs.FinMap as map
use Rattle.std.specs.FinMap.Entries.{find}
use Rattle.wsm_windows.specs.Places.{place_cmp}
use Rattle.wsm_machine.specs.Meaning.{plan_of, query_of}
use Rattle.wsm_panes.specs.Held.{entries_of}
use Rattle.wsm_firing.proofs.AtPlace.{not_called}
use Rattle.wsm_firing.proofs.LeftToFire.{no_rows, no_tally}
use Rattle.wsm_firing.proofs.StandingRows.{tells_none}
use Rattle.wsm_firing.proofs.operator.WindowOperator.fire_at.Goals as goal

pub returns-else-is_called : goal.returns-else-is_called
returns-else-is_called c =
    let p = c.args.verified.now in let held = c.args.self.now.state.held in let es = entries_of held in
    let mark : SFits w64 c.args.mark = c.ranges.mark in
    let none =
    not_called (plan_of p) (query_of p) c.args.mark c.args.place es (map.entries_sorted held.panes) (find place_cmp c.args.place es) refl
    (sym (simp to_z-of_z at c.is_called.ensures) ∙ c.if-is_called.false) in
    record {
      panes = sym none.panes;
      keeps = record { keys = refl; shape = refl; live = refl; widths = refl };
      tells = tells_none c.args.self.now.state.streams es;
      rows = no_rows p c.args.self.now.state.rows.written _ none.firings;
      room = refl;
      tally = no_tally p c.args.tally.now _ none.firings;
    }

pub fire_called-requires : goal.fire_called-requires
fire_called-requires c = record {
  ready = c.requires.ready;
  can = let mark : SFits w64 c.args.mark = c.ranges.mark in simp to_z-of_z c.requires.can;
}

pub returns-then-is_called : goal.returns-then-is_called
returns-then-is_called c = let mark : SFits w64 c.args.mark = c.ranges.mark in simp to_z-of_z at c.fire_called.ensures

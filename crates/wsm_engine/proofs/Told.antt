-- What the streams were told, and what the relation at the last instant is by it.
use Rattle.std.proofs.Common.{◌≡◌, ℕ, ◌≤◌, Bool, true, false, cond, List, [], ◌∷◌, Option, length, refl, sym, ap, subst, ◌∙◌, arith}
use Rattle.std.specs.List.{AllByRecursion}
use Rattle.wsm_record.specs.declared.event.Value.{Value}
use Rattle.wsm_record.specs.declared.cell.Cell.{Cell}
use Rattle.wsm_record.specs.declared.words.Form.{Form}
use Rattle.wsm_record.specs.declared.words.Form.TheVariants as form
use Rattle.wsm_windows.specs.declared.window.PaneKind.{PaneKind}
use Rattle.wsm_windows.specs.Windows.{IsPlaced}
use Rattle.wsm_windows.specs.declared.place.Place.{Place}
use Rattle.wsm_windows.specs.Places.{window_of}
use Rattle.wsm_semantics.specs.Query.{Query}
use Rattle.wsm_semantics.specs.Summaries.{Pane, Plan, all_fired, relation_of}
use Rattle.wsm_semantics.proofs.RowsBound.{length-sorted_rows}
use Rattle.wsm_firing.specs.Streams.{Told, IsTold, AreAlike, CanAdvance, CanTell, relation_kept, standing_rows}
use Rattle.wsm_firing.proofs.StreamRows.{before_is, changed_none}
use Rattle.wsm_firing.proofs.StandingRows.{few_rows}
use Rattle.wsm_semantics.specs.HeldBounds.{most_panes, most_rows}
use Rattle.wsm_program.specs.Program.{Program}
use Rattle.wsm_machine.specs.Meaning.{query_of}
use Rattle.wsm_slots.specs.declared.widths.Widths.{Widths}
use Rattle.wsm_panes.specs.Held.{Held, IsKept, entries_of}
use Rattle.wsm_firing.specs.Operator.{AreReady}
use Rattle.wsm_firing.specs.declared.operator.WindowOperator.{WindowOperator}
use Rattle.wsm_engine.specs.Operator.{AreTold, IsOf, last_relation}
use Rattle.wsm_engine.proofs.HeldByHistory.{Panes}

pub last_is : (s : Told) (es : Panes) (before : List (List Cell)) → IsTold s before (standing_rows es) → last_relation s es ≡ before
last_is s es before told = before_is s.form s.numbers before (standing_rows es) told

pub are_told : (most : ℕ) (s : Told) (es : Panes) (before : List (List Cell)) → IsTold s before (standing_rows es) → length before ≤ most → AreTold most s es
are_told most s es before told few =
    let same : last_relation s es ≡ before = last_is s es before told in
    record { told = subst (λ b. IsTold s b (standing_rows es)) (sym same) told; few = subst (λ b. length b ≤ most) (sym same) few }

pub can_tell : (most : ℕ) (s t : Told) (es fs : Panes) → AreTold most s es → s.room ≡ most → AreAlike s t → ((relation : List (List Cell)) → IsTold s relation (standing_rows es) → IsTold t relation (standing_rows fs)) → length fs ≤ most → CanTell t fs
can_tell most s t es fs was room alike further few = record {
  before = last_relation s es;
  told = further (last_relation s es) was.told;
  few_before = omega (arith, was.few, room, alike.room);
  few = omega (arith, few, room, alike.room);
}

pub same_alike : (s : Told) → AreAlike s s
same_alike s = record { form = refl; room = refl }

pub can_advance : (s : Told) (es : Panes) → CanTell s es → CanAdvance s
can_advance s es can = record { before = can.before; now = standing_rows es; told = can.told; within = record { few_before = can.few_before; few_now = omega (arith, can.few, few_rows es) } }

few_kept : (f : Form) (before now : List (List Cell)) (n : ℕ) → length before ≤ n → length now ≤ n → length (relation_kept f before now) ≤ n
few_kept form.Panes before now n b m = b
few_kept form.Istream before now n b m = m
few_kept form.Dstream before now n b m = m
few_kept form.Rstream before now n b m = b

pub few_once : (f : Form) (rose : Bool) (before now : List (List Cell)) (n : ℕ) → length before ≤ n → length now ≤ n → length (cond rose (relation_kept f before now) before) ≤ n
few_once f true before now n b m = few_kept f before now n b m
few_once f false before now n b m = b

-- and be told further, at the next instant where there is one
pub can_go_on : (s t : Told) (rose : Bool) (es : Panes) → (can : CanTell s es) → AreAlike s t → IsTold t (cond rose (relation_kept s.form can.before (relation_of es)) can.before) (standing_rows es) → CanTell t es
can_go_on s t rose es can alike told = record {
  before = cond rose (relation_kept s.form can.before (relation_of es)) can.before;
  told = told;
  few_before =
      let some : length (relation_of es) ≤ s.room = omega (arith, can.few, length-sorted_rows (standing_rows es), few_rows es) in
      let few = few_once s.form rose can.before (relation_of es) s.room can.few_before some in
      omega (arith, few, alike.room);
  few = omega (arith, can.few, alike.room);
}

-- before the first event
pub none_told : (f : Form) (room : ℕ) → IsTold (record { form = f; room = room; numbers = [] }) [] []
none_told form.Panes room = refl
none_told form.Istream room = changed_none []
none_told form.Dstream room = changed_none []
none_told form.Rstream room = record { none = refl; changed = changed_none [] }

pub open_is : (s : Told) (es : Panes) (f : Form) (room : ℕ) → s ≡ record { form = f; room = room; numbers = [] } → es ≡ [] → IsTold s [] (standing_rows es)
open_is s es f room is none =
    subst (λ (t : Told). IsTold t [] (standing_rows es)) (sym is) (subst (λ (fs : Panes). IsTold (record { form = f; room = room; numbers = [] }) [] (standing_rows fs)) (sym none) (none_told f room))

-- the operator is the program's still
pub of_next : (p : Program) (r n : WindowOperator) → IsOf p r → IsKept r.state.held n.state.held → AreAlike r.state.streams n.state.streams → n.state.rows.room ≡ r.state.rows.room → AreTold (most_panes (query_of p)) n.state.streams (entries_of n.state.held) → IsOf p n
of_next p r n of keeps alike rows told = record {
  judged = of.judged;
  lawful = of.lawful;
  keys = keeps.keys ∙ of.keys;
  shape = keeps.shape ∙ of.shape;
  live = keeps.live ∙ of.live;
  widths = keeps.widths ∙ of.widths;
  form = alike.form ∙ of.form;
  room = alike.room ∙ of.room;
  rows = subst (λ n. most_rows (query_of p) ≤ n) (sym rows) of.rows;
  streams = told;
}

-- panes that are the program's still are ready for its firings
pub ready_of : (p : Program) (r : WindowOperator) (h : Held) (s : Told) → IsOf p r → IsKept r.state.held h → CanTell s (entries_of h) → AreReady p h s
ready_of p r h s of keeps tells = record {
  wide = ap (λ (w : Widths). w.columns) (keeps.widths ∙ of.widths);
  windows = ap (λ (w : Widths). w.windows) (keeps.widths ∙ of.widths);
  tells = tells;
}

pub alike_on : (s t u : Told) → AreAlike s t → AreAlike t u → AreAlike s u
alike_on s t u a b = record { form = b.form ∙ a.form; room = b.room ∙ a.room }

-- a pane that fires stays where it is
pub placed_fired : (plan : Plan (List Value)) (q : Query) (kind : Place → Pane (List Value) → Option PaneKind) (es : Panes) → AllByRecursion (λ e. IsPlaced (window_of e.0)) es → AllByRecursion (λ e. IsPlaced (window_of e.0)) (all_fired plan q kind es)
placed_fired plan q kind [] all = tt
placed_fired plan q kind (e ∷ es) all = (all.0, placed_fired plan q kind es all.1)

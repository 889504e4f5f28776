-- As an event comes to the operator of a program, what it is given can be done, and what is done is what
-- the definitions say.
use Rattle.std.proofs.Common.{◌≡◌, ℕ, ◌+◌, ◌*◌, ◌<◌, ◌≤◌, ◌++◌, Bool, true, false, leb, cond, List, [], ◌∷◌, length, ℤ, pos, Option, Some, None, Ok, Result, Fits, SFits, w16, w64, refl, sym, ap, subst, ◌∙◌, arith, append-nil}
use Rattle.std.proofs.lemmas.Bool.{and_parts, leb-true}
use Rattle.std.proofs.lemmas.Int.{ints, fits_signed_from_abs}
use Rattle.wsm_record.specs.declared.event.Value.{Value}
use Rattle.wsm_record.specs.declared.cell.Cell.{Cell}
use Rattle.wsm_record.specs.declared.words.Form.{Form}
use Rattle.wsm_record.specs.declared.words.Form.TheVariants as form
use Rattle.wsm_record.specs.declared.words.Kind.{Kind}
use Rattle.wsm_record.specs.Event.{Event, Record, Watermark}
use Rattle.wsm_record.specs.Name.{is_between}
use Rattle.wsm_record.specs.Schema.{Declared, are_names_after, is_name_list, is_schema}
use Rattle.wsm_windows.specs.declared.window.Window.{Window}
use Rattle.wsm_windows.specs.declared.window.Shape.{Shape}
use Rattle.wsm_windows.specs.declared.window.Shape.TheVariants.{Fixed, Sliding, Session}
use Rattle.wsm_windows.specs.Windows.{IsTime}
use Rattle.wsm_admission.specs.declared.verdict.Admitted.{Admitted}
use Rattle.wsm_admission.specs.declared.verdict.Admitted.TheVariants as admitted
use Rattle.wsm_admission.specs.declared.verdict.Refusal.{Refusal}
use Rattle.wsm_admission.specs.Admission.{answer}
use Rattle.wsm_semantics.specs.declared.out_row.OutRow.{OutRow}
use Rattle.wsm_semantics.specs.Query.{Datum, mark, verdict_on}
use Rattle.wsm_semantics.specs.HeldBounds.{most_panes, most_rows, rows_of_panes}
use Rattle.wsm_semantics.specs.Summaries.{entered}
use Rattle.wsm_semantics.specs.Replay.{datum}
use Rattle.wsm_semantics.specs.Relation.{chosen_rows, stream_rows}
use Rattle.wsm_program.specs.Program.{Program}
use Rattle.wsm_program.proofs.Lawful.{header_schema, program_header}
use Rattle.wsm_rules.specs.Costs.{needed}
use Rattle.wsm_machine.specs.Meaning.{query_of, plan_of, selects, updated, where_run, update_run, record_cost_by}
use Rattle.wsm_machine.specs.Sound.{IsDatumInRange}
use Rattle.wsm_machine.proofs.TurnCosts.{record_cost_within}
use Rattle.wsm_panes.specs.Held.{Held, entries_of, with_entered, session_entered, joins_sessions, windows_entered, CanEnter}
use Rattle.wsm_slots.specs.Panes.{taking}
use Rattle.wsm_firing.specs.ByRecord.{CanFireByRecord}
use Rattle.wsm_firing.proofs.Entered.{entered_alone}
use Rattle.wsm_firing.specs.ByWatermark.{CanFireByWatermark}
use Rattle.wsm_firing.specs.Streams.{HasRoomFor, relation_kept}
use Rattle.wsm_firing.specs.declared.operator.WindowOperator.{WindowOperator}
use Rattle.wsm_engine.specs.Operator.{IsAlone, IsOf, Comes, entering_cost}
use Rattle.wsm_engine.proofs.RecordsByPlan.{entered_same}
use Rattle.wsm_engine.proofs.Limits.{record_stated}
use Rattle.wsm_engine.proofs.HeldByHistory.{Panes, kept_panes, kept_within}
use Rattle.wsm_engine.proofs.RecordRoom.{declared, ranged, timely, can_enter, now, now_within}
use Rattle.wsm_engine.proofs.Firings.{can_by_record, can_by_watermark}
use Rattle.wsm_engine.proofs.EngineTurns.{as_before}

none_refuses : (m n : ℤ) (e : Event) (v : Option Refusal) (a : Admitted) → Ok a ≡ answer m n e v → v ≡ None
none_refuses m n e None a h = refl
none_refuses m n e (Some r) a h = absurd (cc)

module _ (m : ℤ) (k : ℕ) (t : ℤ) (vs : List Value) where
  joins_same : (sh : Shape) (es : Panes) → joins_sessions sh (datum 0 (pos 0) k t []) es ≡ joins_sessions sh (datum 0 m k t vs) es
  joins_same (Fixed size) es = refl
  joins_same (Sliding size period) es = refl
  joins_same (Session gap) es = refl

module _ (p : Program) (past : List Event) (r : WindowOperator) (of : IsOf p r) (m : ℤ) where
  abbrev es : Panes
  es = kept_panes p (needed p) of.judged of.lawful past

  abbrev late : ℤ
  late = p.header.clock.lateness

  -- ---- a selected record

  module _ (k : ℕ) (t : ℤ) (vs : List Value) (comes : Comes p past r.state.held m (Ok admitted.Record) (Record (Some k) t vs)) (chosen : selects p k vs ≡ true) where
    abbrev d : Datum
    d = datum 0 m k t vs

    abbrev after : Panes → Panes
    after panes = entered (plan_of p) p.header.shape p.header.clock.lateness (datum 0 m k t vs) panes

    taken : verdict_on (query_of p) past (Record (Some k) t vs) ≡ None
    taken = none_refuses m (mark (query_of p) (Record (Some k) t vs ∷ past)) (Record (Some k) t vs) (verdict_on (query_of p) past (Record (Some k) t vs)) admitted.Record comes.answered

    -- it can be put in by what UPDATE gave
    pub enters : (kinds : List Kind) (values : List Value) → p.header.kinds ≡ kinds → updated p k vs ≡ values → CanEnter r.state.held kinds k t values p.header.clock.lateness m
    enters kinds values same is =
        subst (λ (n : ℤ). CanEnter r.state.held kinds k t values late n) (sym comes.marked)
        (subst (λ xs. CanEnter r.state.held xs k t values late (mark (query_of p) past)) same
        (subst (λ xs. CanEnter r.state.held p.header.kinds k t xs late (mark (query_of p) past)) is
        (can_enter p (needed p) of.judged of.lawful past k t vs taken chosen r.state.held of.keys of.shape of.live of.widths comes.panes (subst IsTime comes.marked comes.timely))))

    pub entered_is : (kinds : List Kind) (values : List Value) → p.header.kinds ≡ kinds → updated p k vs ≡ values →
        with_entered kinds k t values p.header.clock.lateness m r.state.held ≡ entered (plan_of p) p.header.shape p.header.clock.lateness (datum 0 m k t vs) (entries_of r.state.held)
    entered_is kinds values same is =
        (λ i. entered (taking (sym same i) (sym is i)) (of.shape i) late (datum 0 m k t []) (entries_of r.state.held)) ∙ entered_same p m k t vs p.header.shape late (entries_of r.state.held)

    joins_is : joins_sessions r.state.held.shape (datum 0 (pos 0) k t []) (entries_of r.state.held) ≡ joins_sessions p.header.shape d (entries_of r.state.held)
    joins_is = (λ i. joins_sessions (of.shape i) (datum 0 (pos 0) k t []) (entries_of r.state.held)) ∙ joins_same m k t vs p.header.shape (entries_of r.state.held)

    windows_is : windows_entered r.state.held.shape t late m ≡ windows_entered p.header.shape t late m
    windows_is i = windows_entered (of.shape i) t late m

    pub cost_is : (windows steps joins : ℕ) (joined : Bool) (kinds : List Kind) → windows ≡ windows_entered r.state.held.shape t p.header.clock.lateness m → (update_run p k vs).steps ≡ steps → joined ≡ joins_sessions r.state.held.shape (datum 0 (pos 0) k t []) (entries_of r.state.held)
        → p.header.kinds ≡ kinds → joins ≡ cond joined (length kinds) 0 → windows * steps + joins ≡ entering_cost p m k t vs (entries_of r.state.held)
    cost_is windows steps joins joined kinds w s j same g =
        (λ i. (w ∙ windows_is) i * sym s i + g i)
        ∙ (λ i. windows_entered p.header.shape t late m * (update_run p k vs).steps + cond ((j ∙ joins_is) i) (length (sym same i)) 0)

    -- what it costs is stated
    pub cost_stated : (where_run p k vs).steps + entering_cost p m k t vs (entries_of r.state.held) ≤ 1000000000000000000
    cost_stated =
        let all : record_cost_by p (entries_of r.state.held) d ≤ p.header.budget.per_record =
        record_cost_within p (needed p) of.judged of.lawful d (subst (λ (n : ℤ). IsDatumInRange p (datum 0 n k t vs)) (sym comes.marked) (ranged p (needed p) of.judged of.lawful past k t vs taken)) (entries_of r.state.held) in
        let is : (where_run p k vs).steps + cond (selects p k vs) (entering_cost p m k t vs (entries_of r.state.held)) 0 ≤ p.header.budget.per_record = all in
        let most : p.header.budget.per_record ≤ 1000000000000000000 = record_stated p of.lawful in
        least _ _ _ (subst (λ b. (where_run p k vs).steps + cond b (entering_cost p m k t vs (entries_of r.state.held)) 0 ≤ p.header.budget.per_record) chosen is) most
      where
        least : (a b c : ℕ) → a ≤ b → b ≤ c → a ≤ c
        least a b c h l = omega (arith, h, l)

    -- what is held with it is the history's
    after_is : after (entries_of r.state.held) ≡ now p (needed p) of.judged of.lawful past k t vs taken
    after_is = ap after comes.panes ∙ (λ i. entered (plan_of p) p.header.shape late (datum 0 (comes.marked i) k t vs) es)

    -- there is room for the panes that it entered
    pub few_entered : (panes : Panes) → panes ≡ entered (plan_of p) p.header.shape p.header.clock.lateness (datum 0 m k t vs) (entries_of r.state.held) → length panes ≤ most_panes (query_of p)
    few_entered panes a = subst (λ xs. length xs ≤ most_panes (query_of p)) (sym (a ∙ after_is)) (now_within p (needed p) of.judged of.lawful past k t vs taken chosen)

    -- the panes that it entered can be fired, behind so many rows, also where the one window that it has is told
    pub can_fire : (capacity rows : ℕ) (alone : Option Window) (panes : Panes) → rows + rows_of_panes p.header.mode (length panes) ≤ capacity → IsAlone p m k t (entries_of r.state.held) alone
        → panes ≡ entered (plan_of p) p.header.shape p.header.clock.lateness (datum 0 m k t vs) (entries_of r.state.held) → CanFireByRecord p capacity rows m k t alone panes
    can_fire capacity rows alone panes room told a =
        let session = session_entered p.header.shape (datum 0 (pos 0) k t []) (entries_of r.state.held) in
        let can : CanFireByRecord p capacity rows m k t session panes =
        subst (CanFireByRecord p capacity rows m k t session) (sym (a ∙ after_is))
        (subst (λ o. CanFireByRecord p capacity rows m k t o (now p (needed p) of.judged of.lawful past k t vs taken)) (sym (ap (session_entered p.header.shape (datum 0 (pos 0) k t [])) comes.panes))
        (subst (λ n. CanFireByRecord p capacity rows n k t (session_entered p.header.shape (datum 0 (pos 0) k t []) es) (now p (needed p) of.judged of.lawful past k t vs taken)) (sym comes.marked)
        (can_by_record p (needed p) of.judged of.lawful past k t vs taken chosen capacity rows (subst IsTime comes.marked comes.timely) (subst (λ (xs : Panes). rows + rows_of_panes p.header.mode (length xs) ≤ capacity) (a ∙ after_is) room)))) in
        record { entered = entered_alone p m k t session panes can.entered alone told; can = can.can }

  -- ---- a watermark

  module _ (o : Option ℕ) (t new : ℤ) (comes : Comes p past r.state.held m (Ok (admitted.Watermark m new)) (Watermark o t)) where
    accepted : verdict_on (query_of p) past (Watermark o t) ≡ None
    accepted = none_refuses m (mark (query_of p) (Watermark o t ∷ past)) (Watermark o t) (verdict_on (query_of p) past (Watermark o t)) (admitted.Watermark m new) comes.answered

    pub new_is : new ≡ mark (query_of p) (Watermark o t ∷ past)
    new_is = let h : Ok (admitted.Watermark m new) ≡ answer m (mark (query_of p) (Watermark o t ∷ past)) (Watermark o t) None = comes.answered ∙ ap (answer m _ (Watermark o t)) accepted in cc

    pub a_mark : IsTime new
    a_mark = subst IsTime (sym new_is) comes.next

    -- the panes that it comes to can be fired
    pub can_fire_at : (capacity : ℕ) → most_rows (query_of p) ≤ capacity → CanFireByWatermark p capacity m new (entries_of r.state.held)
    can_fire_at capacity room =
        subst (CanFireByWatermark p capacity m new) (sym comes.panes)
        (subst (λ n. CanFireByWatermark p capacity n new es) (sym comes.marked)
        (subst (λ n. CanFireByWatermark p capacity (mark (query_of p) past) n es) (sym new_is) (can_by_watermark p (needed p) of.judged of.lawful past o t accepted capacity room)))

  -- as many panes are held as there is room for
  pub held_within : (a : Result Admitted Refusal) (e : Event) → Comes p past r.state.held m a e → length (entries_of r.state.held) ≤ most_panes (query_of p)
  held_within a e comes = subst (λ xs. length xs ≤ most_panes (query_of p)) (sym comes.panes) (kept_within p (needed p) of.judged of.lawful past)

-- ---- times of 64 bits

fits : (t : ℤ) → IsTime t → SFits w64 t
fits t h = fits_signed_from_abs w64 t (omega (arith, ints, h.low, h.high))

pub time_fits : (p : Program) (past : List Event) (r : WindowOperator) (of : IsOf p r) (m : ℤ) (k : ℕ) (t : ℤ) (vs : List Value) (a : Result Admitted Refusal) (e : Event) → Comes p past r.state.held m a e → a ≡ Ok admitted.Record → e ≡ Record (Some k) t vs → SFits w64 t
time_fits p past r of m k t vs a e comes is ev =
    fits t (timely p (needed p) of.judged of.lawful past k t vs
    (none_refuses m (mark (query_of p) (Record (Some k) t vs ∷ past)) (Record (Some k) t vs) _ admitted.Record (sym is ∙ comes.answered ∙ ap (λ (f : Event). answer m (mark (query_of p) (f ∷ past)) f (verdict_on (query_of p) past f)) ev)))

-- ---- places of 16 bits

few_keys : (d : Declared) → is_schema d ≡ true → length d.keys ≤ 1000
unfolding is_schema
few_keys d h =
    let names : is_name_list d.keys ≡ true = (and_parts (is_name_list d.keys) _ h).0 in
    let count : is_between 1 1000 (length d.keys) ≡ true = (and_parts (is_between 1 1000 (length d.keys)) (are_names_after [] d.keys) names).0 in
    leb-true (length d.keys) 1000 (and_parts (leb 1 (length d.keys)) (leb (length d.keys) 1000) count).1

pub key_fits : (p : Program) (past : List Event) (r : WindowOperator) (of : IsOf p r) (m : ℤ) (k : ℕ) (t : ℤ) (vs : List Value) (a : Result Admitted Refusal) (e : Event) → Comes p past r.state.held m a e → a ≡ Ok admitted.Record → e ≡ Record (Some k) t vs → Fits w16 k
key_fits p past r of m k t vs a e comes is ev =
    let known : k < length p.header.schema.keys = declared p (needed p) of.judged of.lawful past k t vs
    (none_refuses m (mark (query_of p) (Record (Some k) t vs ∷ past)) (Record (Some k) t vs) _ admitted.Record (sym is ∙ comes.answered ∙ ap (λ (f : Event). answer m (mark (query_of p) (f ∷ past)) f (verdict_on (query_of p) past f)) ev)) in
    let few : length p.header.schema.keys ≤ 1000 = few_keys p.header.schema (header_schema p.header (program_header p of.lawful)) in
    omega (arith, known, few)

-- an accepted watermark is the event's, and goes from the mark
from_the_mark : (m n : ℤ) (e : Event) (v : Option Refusal) (old new : ℤ) → Ok (admitted.Watermark old new) ≡ answer m n e v → (old ≡ m) × ((o : Option ℕ) × (t : ℤ) × (e ≡ Watermark o t))
from_the_mark m n (Record k t vs) None old new h = absurd (cc)
from_the_mark m n (Watermark o t) None old new h = (cc, (o, t, refl))
from_the_mark m n e (Some r) old new h = absurd (cc)

module _ (p : Program) (past : List Event) (h : Held) (m : ℤ) (a : Result Admitted Refusal) (e : Event) (comes : Comes p past h m a e) where
  -- the same of an answer to a record or a watermark
  pub comes_with : (k : Option ℕ) (t : ℤ) (vs : List Value) → a ≡ Ok admitted.Record → e ≡ Record k t vs → Comes p past h m (Ok admitted.Record) (Record k t vs)
  comes_with k t vs is ev = record {
    marked = comes.marked;
    timely = comes.timely;
    next = subst (λ (f : Event). IsTime (mark (query_of p) (f ∷ past))) ev comes.next;
    answered = sym is ∙ comes.answered ∙ ap (λ (f : Event). answer m (mark (query_of p) (f ∷ past)) f (verdict_on (query_of p) past f)) ev;
    panes = comes.panes;
  }

  pub from_mark : (old new : ℤ) → a ≡ Ok (admitted.Watermark old new) → (old ≡ m) × ((o : Option ℕ) × (t : ℤ) × (e ≡ Watermark o t))
  from_mark old new is = from_the_mark m (mark (query_of p) (e ∷ past)) e (verdict_on (query_of p) past e) old new (sym is ∙ comes.answered)

  pub comes_at : (old new : ℤ) → a ≡ Ok (admitted.Watermark old new) → (o : Option ℕ) × (t : ℤ) × Comes p past h old (Ok (admitted.Watermark old new)) (Watermark o t)
  comes_at old new is =
      let (from, (o, t, ev)) = from_mark old new is in (
        o,
        t,
        record {
          marked = from ∙ comes.marked;
          timely = subst IsTime (sym from) comes.timely;
          next = subst (λ (f : Event). IsTime (mark (query_of p) (f ∷ past))) ev comes.next;
          answered = sym is ∙ comes.answered ∙ (λ i. answer (sym from i) (mark (query_of p) (ev i ∷ past)) (ev i) (verdict_on (query_of p) past (ev i)));
          panes = comes.panes;
        },
      )

  -- the old mark has 64 bits
  pub old_fits : (old new : ℤ) → a ≡ Ok (admitted.Watermark old new) → SFits w64 m → SFits w64 old
  old_fits old new is fit = subst (SFits w64) (sym (from_mark old new is).0) fit

-- and so has the new one
pub mark_fits : (p : Program) (past : List Event) (r : WindowOperator) (m : ℤ) (a : Result Admitted Refusal) (e : Event) → Comes p past r.state.held m a e → IsOf p r → (old new : ℤ) → a ≡ Ok (admitted.Watermark old new) → SFits w64 new
mark_fits p past r m a e comes of old new is = let (o, t, at) = comes_at p past r.state.held m a e comes old new is in fits new (a_mark p past r of old o t new at)

-- ---- what a watermark writes

-- the rows of what fires, and then those of a stream, are those of the form
pub rows_then : (f : Form) (rose : Bool) (fired : List OutRow) (m : ℤ) (before now : List (List Cell)) → chosen_rows f fired [] ++ cond rose (stream_rows f m before now) [] ≡ chosen_rows f fired (cond rose (stream_rows f m before now) [])
rows_then form.Panes true fired m before after = append-nil fired
rows_then form.Panes false fired m before after = append-nil fired
rows_then form.Istream rose fired m before now = refl
rows_then form.Dstream rose fired m before now = refl
rows_then form.Rstream rose fired m before now = refl

-- there is room for those of a stream
pub room_for : (f : Form) (fired rows : List OutRow) (len n capacity : ℕ) → rows ≡ chosen_rows f fired [] → length rows ≡ len → n ≤ capacity → HasRoomFor f n len capacity
room_for form.Panes fired rows len n capacity is long few = tt
room_for form.Istream fired rows len n capacity is long few = omega (arith, ap length is, long, few)
room_for form.Dstream fired rows len n capacity is long few = omega (arith, ap length is, long, few)
room_for form.Rstream fired rows len n capacity is long few = omega (arith, ap length is, long, few)

-- the relation that is kept is another only where the watermark rose
pub kept_once : (f : Form) (rose : Bool) (before now : List (List Cell)) → cond rose (relation_kept f before now) before ≡ relation_kept f before (cond rose now before)
kept_once f true before after = refl
kept_once f false before after = sym (as_before f before)

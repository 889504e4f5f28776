-- A selected record can be put in: there is room, and every sum stays in 64 bits.
use Rattle.std.proofs.Common.{◌≡◌, ◌≢◌, ℕ, ◌+◌, ◌*◌, ◌≤◌, ◌<◌, ◌^◌, true, List, [], ◌∷◌, map, length, ℤ, pos, ◌+ℤ◌, ◌-ℤ◌, ◌≤ℤ◌, Option, Some, None, Ok, IsTrue, refl, sym, ap, subst, ◌∙◌, arith}
use Rattle.std.proofs.lemmas.Int.{ints}
use Rattle.std.proofs.lemmas.Bool.{and_parts, ltb-true}
use Rattle.std.specs.Prelude.{filter, nat_eq, nat_lt, unsigned_abs, IfSome}
use Rattle.std.specs.Int.{div_ceil}
use Rattle.std.proofs.lemmas.Nat.{mul-le}
use Rattle.std.specs.List.{AllByRecursion}
use Rattle.wsm_record.specs.declared.event.Value.{Value}
use Rattle.wsm_record.specs.Event.{Event, Record}
use Rattle.wsm_windows.specs.declared.window.Shape.{Shape}
use Rattle.wsm_windows.specs.declared.window.Shape.TheVariants.{Fixed, Sliding, Session}
use Rattle.wsm_windows.specs.Life.{live_bound}
use Rattle.wsm_windows.specs.Windows.{IsShape, IsTime, IsWindowOfShape, period_of, size_of}
use Rattle.wsm_windows.specs.declared.place.Place.{Place}
use Rattle.wsm_windows.specs.Places.{window_of}
use Rattle.wsm_interval.specs.Interval.{interval, holds}
use Rattle.wsm_admission.specs.Clock.{marks_of}
use Rattle.wsm_admission.proofs.FittedHistory.{a_time}
use Rattle.wsm_admission.proofs.Taken.{IsTaken, taken_record}
use Rattle.wsm_fold.specs.Fold.{are_of_kinds, joins}
use Rattle.wsm_fold.specs.Accumulators.{SumsFit}
use Rattle.wsm_semantics.specs.Query.{Query, Datum, mark, verdict_on}
use Rattle.wsm_semantics.specs.Panes.{held}
use Rattle.wsm_semantics.specs.HeldBounds.{most_panes}
use Rattle.wsm_semantics.specs.Kept as kept
use Rattle.wsm_semantics.specs.Kept.{Kept, kept_in, is_linked}
use Rattle.wsm_semantics.specs.Summaries.{Pane, fired_count, linked, entered, joined, joined_folds, summaries, pane_of}
use Rattle.wsm_semantics.specs.HeldRecords.{AtMost, total}
use Rattle.wsm_semantics.specs.Replay.{datum}
use Rattle.wsm_semantics.proofs.Lists.{length_each, filter-all, all-each}
use Rattle.wsm_semantics.proofs.Each.{all-both, filter-map, map-all}
use Rattle.wsm_semantics.proofs.Images.{entered-summaries, where-summaries}
use Rattle.wsm_semantics.proofs.Turnless as turnless
use Rattle.wsm_semantics.proofs.KeptLaw.{enters}
use Rattle.wsm_semantics.proofs.Assigned.{IsAssigned}
use Rattle.wsm_semantics.proofs.AssignedStep.{grid_of}
use Rattle.wsm_semantics.proofs.HeldBound.{held_at_key, held_bounded}
use Rattle.wsm_semantics.proofs.HeldPanes.{IsHeldPane, held_panes}
use Rattle.wsm_semantics.proofs.HeldRecords.{each_of, total-where}
use Rattle.wsm_program.specs.declared.instr.SectionId.TheVariants.{Fire}
use Rattle.wsm_program.specs.Program.{Program, is_program}
use Rattle.wsm_program.specs.declared.program.Costs.{Costs}
use Rattle.wsm_rules.specs.Rules.{judge}
use Rattle.wsm_rules.proofs.Lawful.{lawful as program_lawful}
use Rattle.wsm_machine.specs.InRange.{in_range}
use Rattle.wsm_machine.specs.Meaning.{query_of, plan_of, selects, updated, pane_inputs}
use Rattle.wsm_machine.specs.Sound.{AreSound, IsSoundEntry, IsSoundPane, IsDatumInRange}
use Rattle.wsm_machine.proofs.AccumulatorRanges.{accs_types}
use Rattle.wsm_machine.proofs.CountedSessions.{sessions_by_event}
use Rattle.wsm_machine.proofs.QueryFolds.{plan_lawful}
use Rattle.wsm_machine.proofs.SoundPanes.{joined_all_sound}
use Rattle.wsm_machine.proofs.SoundSteps.{record_in_range, room_for_record, all_can_fire, joins_fit}
use Rattle.wsm_machine.proofs.RunAnswers.{pane_fits}
use Rattle.wsm_machine.proofs.SoundAccumulators.{row_folded, may_fire}
use Rattle.wsm_ring.specs.declared.ring.Ring.{Ring}
use Rattle.wsm_slots.specs.declared.widths.Widths.{Widths}
use Rattle.wsm_panes.specs.Held.{Held, entries_of, ring_of, with_entered, IsRoomy, CanEnter}
use Rattle.wsm_slots.specs.Panes.{taking, CanTake}
use Rattle.wsm_ring.specs.Ring.{IsNear, IsOfRing, IsRing, LieInRing}
use Rattle.wsm_ring.proofs.Live.{held_near, some_live}
use Rattle.wsm_ring.proofs.Rings.{grid_start}
use Rattle.wsm_engine.specs.Operator.{widths_of}
use Rattle.wsm_engine.proofs.Limits.{clock_within, panes_few}
use Rattle.wsm_engine.proofs.RecordsByPlan.{entered_same}
use Rattle.wsm_engine.proofs.HeldByHistory.{Panes, admitted, kept_panes, kept_sound, admitted_few}

fire_types : (p : Program) (key n : ℕ) (held : List Value) → IsTrue (in_range p Fire (pane_inputs key n held)) → IsTrue (are_of_kinds p.header.kinds held)
fire_types p key n held h =
    accs_types p 0 p.header.kinds held (and_parts (holds (interval (pos 1) p.header.clock.records) (pos n)) _ (and_parts (nat_lt key (length p.header.schema.keys)) _ h).1).1

-- ---- shapes whose windows lie on a grid

is_assigned : (shape : Shape) → ((gap : ℤ) → shape ≢ Session gap) → IsAssigned shape
is_assigned (Fixed size) grid = tt
is_assigned (Sliding size period) grid = tt
is_assigned (Session gap) grid = absurd (grid gap refl)

grid_bound : (shape : Shape) (skew late : ℤ) → ((gap : ℤ) → shape ≢ Session gap) → live_bound shape skew late ≡ div_ceil (unsigned_abs ((skew +ℤ late) +ℤ size_of shape)) (unsigned_abs (period_of shape))
grid_bound (Fixed size) skew late grid = refl
grid_bound (Sliding size period) skew late grid = refl
grid_bound (Session gap) skew late grid = absurd (grid gap refl)

of_ring : (shape : Shape) → IsShape shape → ((gap : ℤ) → shape ≢ Session gap) → (keys live : ℕ) (r : Place) → r.key < keys → (u : ℤ) → IsWindowOfShape shape u (window_of r)
    → IsOfRing (record { size = size_of shape; period = period_of shape; keys = keys; bound = live }) r
of_ring (Fixed size) ok grid keys live r key u w = record { key = key; start = grid_start r.start w.k size ok.period_low w.start; end = w.end }
of_ring (Sliding size period) ok grid keys live r key u w = record { key = key; start = grid_start r.start w.k period ok.period_low w.start; end = w.end }
of_ring (Session gap) ok grid keys live r key u w = absurd (grid gap refl)

module _ (p : Program) (costs : Costs) (judged : judge p ≡ Ok costs) (lawful : IsTrue (is_program p)) (past : List Event)
    (k : ℕ) (t : ℤ) (vs : List Value) (taken : verdict_on (query_of p) past (Record (Some k) t vs) ≡ None) where
  abbrev n : ℕ
  n = admitted p costs judged lawful past

  abbrev es : Panes
  es = kept_panes p costs judged lawful past

  abbrev d : Datum
  d = datum 0 (mark (query_of p) past) k t vs

  sound : AreSound p n es
  sound = kept_sound p costs judged lawful past

  facts : IsTaken p.header.clock p.header.shape p.header.schema (mark (query_of p) past) n (Some k) t vs
  facts = taken_record p.header.clock p.header.shape p.header.schema (mark (query_of p) past) n (Some k) t vs taken

  -- the record is in range
  pub ranged : IsDatumInRange p d
  ranged = record_in_range p costs judged lawful p.header.clock (marks_of p.header.clock p.header.schema past) n 0 (mark (query_of p) past) k t vs taken

  pub room : pos (n + 1) ≤ℤ p.header.clock.records
  room = room_for_record p costs judged lawful (marks_of p.header.clock p.header.schema past) n k t vs taken

  pub timely : IsTime t
  timely = a_time t facts.in_time

  pub declared : k < length p.header.schema.keys
  declared = ltb-true k (length p.header.schema.keys) facts.has_key

  -- ---- sums

  few_records : (m : ℕ) → m ≤ n → m < 2 ^ 62
  few_records m l = let most = (program_lawful p lawful).records.1 in omega (arith, ints, l, room, most)

  takes : (e : Place × Pane (List Value)) → IsSoundPane p e.1 → e.1.count ≤ n → ((held : List Value) → e.1.folded ≡ Some held → IsTrue (in_range p Fire (pane_inputs e.0.key (fired_count p.header.mode e.1) held)))
      → (o : Option (List Value)) → e.1.folded ≡ o → IfSome o (CanTake p.header.kinds (updated p k vs))
  takes e is l can None h = tt
  takes e is l can (Some held) h = record {
    types = fire_types p e.0.key (fired_count p.header.mode e.1) held (can held h);
    sums = pane_fits p costs judged lawful d ranged n e.1 held is l room h;
  }

  -- each pane can take the record
  roomy : AllByRecursion (IsRoomy p.header.kinds (updated p k vs)) es
  roomy =
      all-both (λ e. IsSoundEntry p e × (e.1.count ≤ n)) (λ e. (held : List Value) → e.1.folded ≡ Some held → IsTrue (in_range p Fire (pane_inputs e.0.key (fired_count p.header.mode e.1) held)))
      (IsRoomy p.header.kinds (updated p k vs))
      (λ e is can. record {
        count = few_records e.1.count is.1;
        unshown = few_records e.1.unshown (omega (arith, is.0.pane.unshown, is.1));
        takes = takes e is.0.pane is.1 can e.1.folded refl;
      }) es
      (all-both (IsSoundEntry p) (λ e. e.1.count ≤ n) (λ e. IsSoundEntry p e × (e.1.count ≤ n)) (λ e a b. (a, b)) es sound.each (each_of p.header.shape n es sound.counts))
      (all_can_fire p costs judged lawful n es (admitted_few p costs judged lawful past) sound)

  -- two sessions that the record joins can be joined, and can take it
  joinable : (gap : ℤ) → p.header.shape ≡ Session gap → (e f : Place × Pane (List Value)) (rest : Panes) → linked gap d es ≡ e ∷ f ∷ rest → (xs ys : List Value) → e.1.folded ≡ Some xs → f.1.folded ≡ Some ys
      → SumsFit p.header.kinds xs ys × SumsFit p.header.kinds (joins p.header.kinds xs ys) (updated p k vs)
  joinable gap session e f rest is xs ys ex fy =
      let parts : AllByRecursion (IsSoundEntry p) (e ∷ f ∷ rest) = subst (AllByRecursion (IsSoundEntry p)) is (filter-all (IsSoundEntry p) (λ x. is_linked gap d x.0) es sound.each) in
      let all : total es ≤ n = subst (λ (sh : Shape). AtMost sh n es) session sound.counts in
      let some : total (e ∷ f ∷ rest) ≤ total es = subst (λ ps. total ps ≤ total es) is (total-where (is_linked gap d) es) in
      let both : IsSoundPane p (joined (plan_of p) e.1 f.1) = joined_all_sound p (e ∷ f ∷ []) (parts.0, (parts.1.0, tt)) in (
        joins_fit p costs judged lawful n es gap d e f rest xs ys session (admitted_few p costs judged lawful past) sound is ex fy,
        pane_fits p costs judged lawful d ranged n (joined (plan_of p) e.1 f.1) (joins p.header.kinds xs ys) both
            (least e.1.count f.1.count (total rest) (total es) some all) room (λ i. joined_folds (plan_of p) (ex i) (fy i)),
      )
    where
      least : (a b c m : ℕ) → a + (b + c) ≤ m → m ≤ n → a + b ≤ n
      least a b c m h l = omega (arith, h, l)

  -- ---- room

  types : IsTrue (are_of_kinds p.header.kinds (updated p k vs))
  types = fire_types p k 1 (updated p k vs) (may_fire p costs judged k 1 (updated p k vs) declared (row_folded p costs judged lawful d ranged) (program_lawful p lawful).records.0)

  -- the panes once the record is put in
  abbrev pub now : Panes
  now = entered (plan_of p) p.header.shape p.header.clock.lateness d es

  module _ (chosen : selects p k vs ≡ true) where
    abbrev e : Event
    e = Record (Some k) t vs

    abbrev q : Query
    q = query_of p

    -- they are those that are held with it
    pub now_held : now ≡ summaries (plan_of p) p.header.mode (map (kept_in q past) (held q (e ∷ past)))
    now_held =
        turnless.entered-turnless (plan_of p) 0 (length past) (mark q past) k t vs p.header.shape p.header.clock.lateness es
        ∙ entered-summaries (plan_of p) p.header.mode (plan_lawful p) p.header.shape p.header.clock.lateness (datum (length past) (mark q past) k t vs) (kept.kept q past)
        ∙ ap (summaries (plan_of p) p.header.mode) (enters q (program_lawful p lawful).shape (sessions_by_event p lawful) past k t vs taken chosen)

    length_summed : (xs : List (Place × Kept)) → length (summaries (plan_of p) p.header.mode xs) ≡ length xs
    length_summed xs = length_each (λ (x : Place × Kept). (x.0, pane_of (plan_of p) p.header.mode x.0.key x.1)) xs

    pub now_within : length now ≤ most_panes q
    now_within =
        subst (λ n. n ≤ most_panes q) (sym (ap length now_held ∙ length_summed _ ∙ length_each (kept_in q past) (held q (e ∷ past))))
        (held_bounded q (program_lawful p lawful).shape (sessions_by_event p lawful) (clock_within p lawful) (e ∷ past))

    of_key : length (filter (λ x. nat_eq x.0.key k) now) ≤ live_bound p.header.shape p.header.clock.skew p.header.clock.lateness
    of_key =
        subst (λ n. n ≤ live_bound p.header.shape p.header.clock.skew p.header.clock.lateness)
        (sym (
        ap (λ (xs : Panes). length (filter (λ x. nat_eq x.0.key k) xs)) now_held
        ∙ ap length (where-summaries (plan_of p) p.header.mode (λ r. nat_eq r.key k) (map (kept_in q past) (held q (e ∷ past))))
        ∙ length_summed _
        ∙ ap length (filter-map (kept_in q past) (λ x. nat_eq x.0.key k) (held q (e ∷ past)))
        ∙ length_each (kept_in q past) _
        ))
        (held_at_key q (program_lawful p lawful).shape (sessions_by_event p lawful) (clock_within p lawful) (e ∷ past) k)

    -- ---- where windows lie on a grid

    -- the ring for the windows that can be live
    abbrev ring : Ring
    ring = record { size = size_of p.header.shape; period = period_of p.header.shape; keys = length p.header.schema.keys; bound = live_bound p.header.shape p.header.clock.skew p.header.clock.lateness }

    module _ (grid : (gap : ℤ) → p.header.shape ≢ Session gap) where
      ok : IsShape p.header.shape
      ok = (program_lawful p lawful).shape

      abbrev span : ℕ
      span = unsigned_abs ((p.header.clock.skew +ℤ p.header.clock.lateness) +ℤ size_of p.header.shape)

      enough : ring.bound ≡ div_ceil span (unsigned_abs ring.period)
      enough = grid_bound p.header.shape p.header.clock.skew p.header.clock.lateness grid

      is_ring : IsRing ring
      is_ring =
          let is = program_lawful p lawful in
          let live : 1 ≤ ring.bound = some_live span (unsigned_abs ring.period) ring.bound (omega (arith, ints, ok.period_low)) (omega (arith, ints, ok.period_low, ok.period_high, is.skew.low, is.lateness.low)) enough in
          let keys : 1 ≤ ring.keys = omega (arith, declared) in
          let all : ring.keys * ring.bound ≤ 100000 = panes_few p costs judged lawful in
          let some : 1 * ring.bound ≤ ring.keys * ring.bound = mul-le 1 ring.bound ring.keys ring.bound keys (omega arith) in
          record {
            period_low = ok.period_low;
            period_high = ok.period_high;
            keys = keys;
            bound = live;
            windows = omega (arith, some, all);
            slots = omega (arith, all);
          }

      abbrev low : ℤ
      low = ((mark q (e ∷ past) -ℤ p.header.clock.lateness) -ℤ size_of p.header.shape) +ℤ pos 1

      near_place : (x : Place × List Datum) → IsHeldPane q (e ∷ past) x → IsNear ring low x.0
      near_place x pane =
          let assigned : IsAssigned q.shape = is_assigned p.header.shape grid in
          let (u, window) = grid_of q ok assigned (e ∷ past) x.0 pane.placed in
          held_near ring p.header.clock.skew p.header.clock.lateness (mark q (e ∷ past)) ok.period_low enough x.0
          (of_ring p.header.shape ok grid ring.keys ring.bound x.0 pane.key u window)
          (record { live = pane.live; near = pane.near })

      lie_near : AllByRecursion (λ x. IsNear ring low x.0) now
      lie_near =
          let Near : Place × Pane (List Value) → Type 0 = λ x. IsNear ring low x.0 in
          subst (AllByRecursion Near) (sym now_held)
          (map-all Near _ (map (kept_in q past) (held q (e ∷ past)))
          (map-all _ (kept_in q past) (held q (e ∷ past))
          (all-each (IsHeldPane q (e ∷ past)) _ (held q (e ∷ past)) (λ x pane. near_place x pane) (held_panes q ok (sessions_by_event p lawful) (e ∷ past)))))

      pub lie_in_ring : LieInRing ring now
      lie_in_ring = record { ring = is_ring; low = low; near = lie_near }

    pub can_enter : (h : Held) → h.keys ≡ length p.header.schema.keys → h.shape ≡ p.header.shape → h.live ≡ live_bound p.header.shape p.header.clock.skew p.header.clock.lateness → h.widths ≡ widths_of p.header → entries_of h ≡ es → IsTime (mark (query_of p) past)
        → CanEnter h p.header.kinds k t (updated p k vs) p.header.clock.lateness (mark (query_of p) past)
    can_enter h keys shape live widths is marked =
        let same_ring : ring_of h ≡ ring = λ i. record { size = size_of (shape i); period = period_of (shape i); keys = keys i; bound = live i } in
        let with : with_entered p.header.kinds k t (updated p k vs) p.header.clock.lateness (mark (query_of p) past) h ≡ now =
        (λ i. entered (taking p.header.kinds (updated p k vs)) (shape i) p.header.clock.lateness (datum 0 (mark (query_of p) past) k t []) (is i)) ∙ entered_same p (mark (query_of p) past) k t vs p.header.shape p.header.clock.lateness es in
        record {
          declared = subst (λ m. k < m) (sym keys) declared;
          timely = timely;
          late = (program_lawful p lawful).lateness;
          marked = marked;
          few = (program_lawful p lawful).kinds;
          wide = ap (λ (w : Widths). w.accumulators) (sym widths);
          types = types;
          room = subst (λ xs. length xs ≤ h.keys * h.live) (sym with) (subst (λ m. length now ≤ m * h.live) (sym keys) (subst (λ m. length now ≤ length p.header.schema.keys * m) (sym live) now_within));
          live = subst (λ xs. length (filter (λ x. nat_eq x.0.key k) xs) ≤ h.live) (sym with) (subst (λ m. length (filter (λ x. nat_eq x.0.key k) now) ≤ m) (sym live) of_key);
          apart = λ grid. subst (λ xs. LieInRing (ring_of h) xs) (sym with) (subst (λ (r : Ring). LieInRing r now) (sym same_ring) (lie_in_ring (λ gap is. grid gap (shape ∙ is))));
          panes = subst (AllByRecursion (IsRoomy p.header.kinds (updated p k vs))) (sym is) roomy;
          joins = λ gap session x y rest linked xs ys ex fy. joinable gap (sym shape ∙ session) x y rest (ap (linked_by gap) (sym is) ∙ linked) xs ys ex fy;
        }
      where
        linked_by : ℤ → Panes → Panes
        linked_by gap xs = linked gap d xs

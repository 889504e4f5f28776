-- The panes that a verified program holds are sound after each turn: of a record in range, and of a
-- watermark.
use Rattle.std.proofs.Common.{◌≡◌, ℕ, ◌+◌, ◌<◌, true, false, cond, List, [], ◌∷◌, length, ℤ, Option, Some, None, IsTrue, refl, sym, subst, arith}
use Rattle.std.specs.Prelude.{filter, not, Ok, nat_lt, IfSome}
use Rattle.std.specs.List.{AllByRecursion}
use Rattle.std.specs.Ordering.{eq_by_cmp}
use Rattle.std.specs.FinMap.Entries.{put, find}
use Rattle.std.proofs.lemmas.Bool.Decides.{nat_tests}
use Rattle.std.proofs.lemmas.Bool.{and_parts}
use Rattle.wsm_record.specs.declared.event.Value.{Value}
use Rattle.wsm_record.specs.declared.words.Mode.{Mode}
use Rattle.wsm_record.specs.declared.words.Mode.TheVariants.{Discarding, Accumulating, Retracting}
use Rattle.wsm_record.specs.Schema.{fit_fields}
use Rattle.wsm_windows.specs.declared.window.PaneKind.{PaneKind}
use Rattle.wsm_windows.specs.declared.window.Window.{Window}
use Rattle.wsm_windows.specs.declared.window.Shape.{Shape}
use Rattle.wsm_windows.specs.declared.window.Shape.TheVariants.{Fixed, Sliding, Session}
use Rattle.wsm_windows.specs.Life.{live_windows_of}
use Rattle.wsm_windows.specs.declared.place.Place.{Place}
use Rattle.wsm_windows.specs.Places.{place_cmp, at}
use Rattle.wsm_windows.proofs.Places.{places_exact}
use Rattle.wsm_semantics.specs.Query.{Datum}
use Rattle.wsm_semantics.specs.Panes.{is_live_at}
use Rattle.wsm_semantics.specs.Kept.{is_linked}
use Rattle.wsm_semantics.specs.Summaries.{Pane, fired_count, left_folded, with_folded, session_with, linked, with_record, joined, joined_with, joined_all, assigned, merged_session, entered, fired_pane, all_fired, kind_by_record, kind_by_watermark, after_record, at_watermark, after_watermark}
use Rattle.wsm_semantics.specs.HeldRecords.{AtMost}
use Rattle.wsm_semantics.proofs.Lists.{filter-all, put-all}
use Rattle.wsm_semantics.proofs.HeldRecords.{at_most-after_record, at_most-fired, at_most-after_watermark}
use Rattle.wsm_program.specs.Program.{Program, is_program}
use Rattle.wsm_program.specs.declared.program.Costs.{Costs}
use Rattle.wsm_rules.specs.Rules.{judge}
use Rattle.wsm_rules.proofs.Lawful as lawful_programs
use Rattle.wsm_machine.specs.Meaning.{query_of, plan_of}
use Rattle.wsm_machine.specs.Sound.{AreFolds, AreFoldsOf, IsSoundPane, IsSoundEntry, AreSound, IsDatumInRange}
use Rattle.wsm_machine.proofs.SoundAccumulators.{folds_of_parts, row_folded, folds_with}

abbrev Panes : Type 0
Panes = List (Place × Pane (List Value))

-- ---- how many records the next firing of a pane is computed over

module _ {X : Type 0} where
  counted-joined : (m : Mode) (a b h : Pane X) → h.count ≡ a.count + b.count → h.unshown ≡ a.unshown + b.unshown → fired_count m a + fired_count m b ≡ fired_count m h
  counted-joined Accumulating a b h c u = sym c
  counted-joined Discarding a b h c u = sym u
  counted-joined Retracting a b h c u = sym c

  counted-alone : (m : Mode) (h : Pane X) → h.count ≡ 1 → h.unshown ≡ 1 → 1 ≡ fired_count m h
  counted-alone Accumulating h c u = sym c
  counted-alone Discarding h c u = sym u
  counted-alone Retracting h c u = sym c

  counted-more : (m : Mode) (a h : Pane X) → h.count ≡ a.count + 1 → h.unshown ≡ a.unshown + 1 → fired_count m a + 1 ≡ fired_count m h
  counted-more Accumulating a h c u = sym c
  counted-more Discarding a h c u = sym u
  counted-more Retracting a h c u = sym c

module _ (p : Program) where
  joined_sound : (a b : Pane (List Value)) → IsSoundPane p a → IsSoundPane p b → IsSoundPane p (joined (plan_of p) a b)
  joined_sound a b f g = record {
    unshown = omega (arith, f.unshown, g.unshown);
    folds = subst (λ n. AreFoldsOf p n (joined (plan_of p) a b).folded) (counted-joined p.header.mode a b (joined (plan_of p) a b) refl refl)
        (folds_of_parts p (fired_count p.header.mode a) (fired_count p.header.mode b) a.folded b.folded f.folds g.folds);
  }

  joined_with_sound : (h : Pane (List Value)) (o : Option (Pane (List Value))) → IsSoundPane p h → IfSome o (IsSoundPane p) → IsSoundPane p (joined_with (plan_of p) h o)
  joined_with_sound h None f g = f
  joined_with_sound h (Some k) f g = joined_sound h k f g

  -- parts that are joined
  pub joined_all_sound : (es : Panes) → AllByRecursion (IsSoundEntry p) es → IfSome (joined_all (plan_of p) es) (IsSoundPane p)
  joined_all_sound [] h = tt
  joined_all_sound (e ∷ es) h = joined_with_sound e.1 (joined_all (plan_of p) es) h.0.pane (joined_all_sound es h.1)

  pub find_sound : (r : Place) (es : Panes) → AllByRecursion (IsSoundEntry p) es → IfSome (find place_cmp r es) (IsSoundPane p)
  find_sound r [] h = tt
  find_sound r (e ∷ es) h =
      elim (eq_by_cmp place_cmp r e.0) as (λ b. IfSome (cond b (Some e.1) (find place_cmp r es)) (IsSoundPane p)) [ true ↦ h.0.pane | false ↦ find_sound r es h.1 ]

  -- ---- firings and drops

  left_sound : (m : Mode) (h : Pane (List Value)) (k : Pane (List Value)) → k.count ≡ h.count → k.unshown ≡ 0 → k.folded ≡ left_folded m h.folded
      → AreFoldsOf p (fired_count m h) h.folded → AreFoldsOf p (fired_count m k) k.folded
  left_sound Accumulating h k c u l f = subst (AreFoldsOf p k.count) (sym l) (subst (λ n. AreFoldsOf p n h.folded) (sym c) f)
  left_sound Discarding h k c u l f = subst (AreFoldsOf p k.unshown) (sym l) u
  left_sound Retracting h k c u l f = subst (AreFoldsOf p k.count) (sym l) (subst (λ n. AreFoldsOf p n h.folded) (sym c) f)

  fired_sound : (r : Place) (kind : Option PaneKind) (h : Pane (List Value)) → IsSoundPane p h → IsSoundPane p (fired_pane (plan_of p) p.header.mode r kind h)
  fired_sound r None h f = f
  fired_sound r (Some kind) h f = record {
    unshown = omega arith;
    folds = left_sound p.header.mode h (fired_pane (plan_of p) p.header.mode r (Some kind) h) refl refl refl f.folds;
  }

  all_fired_sound : (kind : Place → Pane (List Value) → Option PaneKind) (es : Panes) → AllByRecursion (IsSoundEntry p) es → AllByRecursion (IsSoundEntry p) (all_fired (plan_of p) (query_of p) kind es)
  all_fired_sound kind [] h = tt
  all_fired_sound kind (e ∷ es) h = (record { key = h.0.key; pane = fired_sound e.0 (kind e.0 e.1) e.1 h.0.pane }, all_fired_sound kind es h.1)

  -- an accepted watermark, before and after the drops
  pub sound_at_watermark : (old new : ℤ) (n : ℕ) (es : Panes) → AreSound p n es → AreSound p n (at_watermark (plan_of p) (query_of p) old new es)
  sound_at_watermark old new n es h = record {
    each = all_fired_sound (kind_by_watermark (query_of p) old new) es h.each;
    counts = at_most-fired (plan_of p) (query_of p) (kind_by_watermark (query_of p) old new) p.header.shape n es h.counts;
  }

  pub sound_after_watermark : (old new : ℤ) (n : ℕ) (es : Panes) → AreSound p n es → AreSound p n (after_watermark (plan_of p) (query_of p) old new es)
  sound_after_watermark old new n es h = record {
    each = filter-all (IsSoundEntry p) (λ e. is_live_at (query_of p) new e.0) (at_watermark (plan_of p) (query_of p) old new es) (sound_at_watermark old new n es h).each;
    counts = at_most-after_watermark (plan_of p) (query_of p) old new n es h.counts;
  }

  -- ---- records

  session_key : (gap : ℤ) (d : Datum) (es : Panes) → (session_with gap d es).key ≡ d.key
  session_key gap d [] = refl
  session_key gap d (e ∷ es) = refl

  module _ (costs : Costs) (judged : judge p ≡ Ok costs) (lawful : IsTrue (is_program p)) (d : Datum) (ranged : IsDatumInRange p d) where
    -- a record in a pane
    pub with_record_sound : (o : Option (Pane (List Value))) → IfSome o (IsSoundPane p) → IsSoundPane p (with_record (plan_of p) d o)
    with_record_sound None h = record {
      unshown = omega arith;
      folds = subst (λ n. AreFolds p n (with_folded (plan_of p) d None)) (counted-alone p.header.mode (with_record (plan_of p) d None) refl refl) (row_folded p costs judged lawful d ranged);
    }
    with_record_sound (Some k) h = record {
      unshown = omega (arith, h.unshown);
      folds = subst (λ n. AreFolds p n (with_folded (plan_of p) d k.folded)) (counted-more p.header.mode k (with_record (plan_of p) d (Some k)) refl refl) (folds_with p costs judged lawful (fired_count p.header.mode k) d k.folded ranged h.folds);
    }

    pub key_declared : d.key < length p.header.schema.keys
    key_declared = let b : nat_lt d.key (length p.header.schema.keys) ≡ true = (and_parts (nat_lt d.key (length p.header.schema.keys)) (fit_fields p.header.schema.fields d.values) ranged).0 in grind (arith, nat_tests)

    pub put_sound : (r : Place) → r.key ≡ d.key → (o : Option (Pane (List Value))) → IfSome o (IsSoundPane p) → (es : Panes) → AllByRecursion (IsSoundEntry p) es
        → AllByRecursion (IsSoundEntry p) (put place_cmp r (with_record (plan_of p) d o) es)
    put_sound r own o f es h =
        put-all place_cmp places_exact (IsSoundEntry p) r (with_record (plan_of p) d o) es
        (record { key = subst (λ k. k < length p.header.schema.keys) (sym own) key_declared; pane = with_record_sound o f }) h

    assigned_sound : (ws : List Window) (es : Panes) → AllByRecursion (IsSoundEntry p) es → AllByRecursion (IsSoundEntry p) (assigned (plan_of p) d ws es)
    assigned_sound [] es h = h
    assigned_sound (w ∷ ws) es h =
        let o : Option (Pane (List Value)) = find place_cmp (at d.key w) es in
        assigned_sound ws (put place_cmp (at d.key w) (with_record (plan_of p) d o) es) (put_sound (at d.key w) refl o (find_sound (at d.key w) es h) es h)

    merged_sound : (gap : ℤ) (es : Panes) → AllByRecursion (IsSoundEntry p) es → AllByRecursion (IsSoundEntry p) (merged_session (plan_of p) gap d es)
    merged_sound gap es h =
        let parts : Panes = linked gap d es in
        put_sound (session_with gap d parts) (session_key gap d parts) (joined_all (plan_of p) parts)
        (joined_all_sound parts (filter-all (IsSoundEntry p) (λ e. is_linked gap d e.0) es h))
        (filter (λ e. not (is_linked gap d e.0)) es) (filter-all (IsSoundEntry p) (λ e. not (is_linked gap d e.0)) es h)

    pub entered_sound : (sh : Shape) (lateness : ℤ) (es : Panes) → AllByRecursion (IsSoundEntry p) es → AllByRecursion (IsSoundEntry p) (entered (plan_of p) sh lateness d es)
    entered_sound (Fixed size) lateness es h = assigned_sound (live_windows_of (Fixed size) d.time lateness d.mark) es h
    entered_sound (Sliding size period) lateness es h = assigned_sound (live_windows_of (Sliding size period) d.time lateness d.mark) es h
    entered_sound (Session gap) lateness es h = merged_sound gap es h

    -- a selected record
    pub sound_after_record : (w : ℤ) (n : ℕ) (es : Panes) → AreSound p n es → AreSound p (n + 1) (after_record (plan_of p) (query_of p) w d es)
    sound_after_record w n es h = record {
      each = all_fired_sound (kind_by_record (query_of p) w d) (entered (plan_of p) p.header.shape p.header.clock.lateness d es) (entered_sound p.header.shape p.header.clock.lateness es h.each);
      counts = at_most-after_record (plan_of p) (query_of p) (lawful_programs.lawful p lawful).shape w d n es h.counts;
    }

-- before the first record
pub sound_opened : (p : Program) → AreSound p 0 []
sound_opened p = record { each = tt; counts = none p.header.shape }
  where
    none : (sh : Shape) → AtMost {X = List Value} sh 0 []
    none (Fixed size) = tt
    none (Sliding size period) = tt
    none (Session gap) = omega arith

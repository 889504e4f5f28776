-- How far a walk over the panes that a watermark comes to has come, and a step of it.
use Rattle.std.proofs.Common.{◌≡◌, ◌≤◌, ◌+◌, ◌+ℤ◌, ◌≤ℤ◌, ◌∷◌, [], ◌++◌, ℤ, ℕ, List, Option, Some, None, T, true, length, drop, refl, sym, subst, ◌∙◌, arith}
use Rattle.std.proofs.lemmas.List.{drop_all}
use Rattle.std.specs.Prelude.{pos, slice_get}
use Rattle.std.specs.List.{AllByRecursion}
use Rattle.std.specs.Option.{is_some}
use Rattle.std.specs.FinMap.Entries.{find, put, is_sorted}
use Rattle.wsm_record.specs.declared.event.Value.{Value}
use Rattle.wsm_windows.specs.declared.window.PaneKind.{PaneKind}
use Rattle.wsm_windows.specs.Windows.{IsPlaced}
use Rattle.wsm_windows.specs.declared.place.Place.{Place}
use Rattle.wsm_windows.specs.Places.{place_cmp, window_of}
use Rattle.wsm_semantics.specs.declared.out_row.OutRow.{OutRow}
use Rattle.wsm_semantics.specs.Summaries.{Fired, Pane, all_fired, fired_count, fired_pane, kind_by_watermark}
use Rattle.wsm_program.specs.Program.{Program}
use Rattle.wsm_machine.specs.Meaning.{plan_of, query_of}
use Rattle.wsm_slots.specs.Walk.{place_due}
use Rattle.wsm_firing.specs.declared.tally.Tally.{Tally}
use Rattle.wsm_firing.specs.Tally.{tally_of, tally_with}
use Rattle.wsm_firing.specs.ByWatermark.{IsNextToFire, fires_by_watermark}
use Rattle.wsm_firing.specs.Firing.{CanAdd, rows_of}
use Rattle.wsm_firing.proofs.SameKinds.{none_fires}
use Rattle.wsm_firing.proofs.Behind as behind
use Rattle.wsm_firing.proofs.LeftToFire as counting
use Rattle.wsm_firing.proofs.LeftToFire.{ComesTo}
use Rattle.wsm_firing.proofs.Jumps.{fired_on, fires_on}
use Rattle.wsm_firing.proofs.StandingRows.{Panes}
use Rattle.wsm_firing.proofs.Walk as walk
use Rattle.wsm_firing.proofs.Walk.{fired_first}

-- the kind of firing that a pane has
abbrev pub kind : Program → ℤ → ℤ → Place → Pane (List Value) → Option PaneKind
kind p old new = kind_by_watermark (query_of p) old new

-- so many panes have fired or don't fire, and what was counted and written comes to all with what is left to fire
pub record HasPassed (p : Program) (old new : ℤ) (es : Panes) (before : List OutRow) (room passed : ℕ) (now : Panes) (tally : Tally) (rows : List OutRow) : Type 0 where
  pub fired : now ≡ fired_first (plan_of p) (query_of p) (kind p old new) passed es
  pub comes : ComesTo p room before tally rows (fires_by_watermark p old new (drop passed es)) (fires_by_watermark p old new es)

-- a walk has passed at least as many panes as it has taken turns, and is at the place of the next one, if that is due
pub record HasWalked (p : Program) (old new : ℤ) (es : Panes) (before : List OutRow) (room turns : ℕ) (now : Panes) (place : Option Place) (tally : Tally) (rows : List OutRow) : Type 0 where
  pub passed : ℕ
  pub onward : turns ≤ passed
  pub due : place ≡ place_due new (slice_get now passed)
  pub so_far : HasPassed p old new es before room passed now tally rows

-- all that fire have fired, and were counted and written behind the rows before
pub record HasFired (p : Program) (old new : ℤ) (es : Panes) (before : List OutRow) (now : Panes) (counted : Tally) (written : List OutRow) : Type 0 where
  pub panes : now ≡ all_fired (plan_of p) (query_of p) (kind p old new) es
  pub rows : written ≡ before ++ rows_of p (fires_by_watermark p old new es)
  pub tally : counted ≡ tally_of p (fires_by_watermark p old new es)

module _ {p : Program} {old new : ℤ} {es : Panes} {before : List OutRow} {room : ℕ} where
  pub as_passed : {n : ℕ} {now then : Panes} {t u : Tally} {rs ss : List OutRow} → then ≡ now → u ≡ t → ss ≡ rs → HasPassed p old new es before room n now t rs → HasPassed p old new es before room n then u ss
  as_passed {n} panes tally rows passed =
      subst (λ (x : Panes × Tally × List OutRow). HasPassed p old new es before room n x.0 x.1 x.2) (λ i. (sym panes i, sym tally i, sym rows i)) passed

  -- a walk goes on to the next pane that can fire
  pub walks_on : (expired : ℤ) (turns from : ℕ) {now : Panes} {place : Option Place} {tally : Tally} {rows : List OutRow} →
      new ≤ℤ (expired +ℤ (query_of p).clock.lateness) → turns ≤ from → HasPassed p old new es before room from now tally rows → IsNextToFire expired old new now from place →
      HasWalked p old new es before room turns now place tally rows
  walks_on expired turns from {now} {place} {tally} {rows} expires far so_far on =
      let onward : from ≤ on.at = on.onward in
      record {
        passed = on.at;
        onward = omega (arith, far, onward);
        due = on.next;
        so_far = record {
          fired = fired_on (plan_of p) (query_of p) expired old new es now from place expires so_far.fired on;
          comes =
              subst (λ fs. ComesTo p room before tally rows fs (fires_by_watermark p old new es))
              (fires_on (plan_of p) (query_of p) expired old new es now from place expires so_far.fired on) so_far.comes;
        };
      }

module _ {p : Program} {old new : ℤ} {es : Panes} {before : List OutRow} {room turns : ℕ} {now : Panes} {place : Option Place} {tally : Tally} {rows : List OutRow} (walked : HasWalked p old new es before room turns now place tally rows) where
  ends : AllByRecursion (λ e. kind p old new e.0 e.1 ≡ None) (drop walked.passed es) → HasFired p old new es before now tally rows
  ends still =
      let none = none_fires (plan_of p) (query_of p) (kind p old new) (drop walked.passed es) still in
      record {
        panes = walked.so_far.fired ∙ walk.rest_stays (plan_of p) (query_of p) (kind p old new) walked.passed es still;
        rows = counting.last_rows p room before tally rows _ (fires_by_watermark p old new es) none walked.so_far.comes;
        tally = counting.last_tally p room before tally rows _ (fires_by_watermark p old new es) none walked.so_far.comes;
      }

  -- it ends after a turn for each pane
  pub ends_behind_all : length es ≤ turns → HasFired p old new es before now tally rows
  ends_behind_all all =
      let none : drop walked.passed es ≡ [] = drop_all walked.passed es (omega (arith, walked.onward, all)) in
      ends (subst (AllByRecursion (λ e. kind p old new e.0 e.1 ≡ None)) (sym none) tt)

  -- it ends where no pane is due
  pub ends_at_none : pos 0 ≤ℤ (query_of p).clock.lateness → T (is_sorted place_cmp es) → place ≡ None → HasFired p old new es before now tally rows
  ends_at_none prompt sorted none =
      ends (behind.none_due (query_of p) prompt old new es walked.passed sorted
      (walk.still_due (plan_of p) (query_of p) (kind p old new) new walked.passed 0 walked.passed es now es walked.so_far.fired refl ∙ sym walked.due ∙ none))

  -- ---- a step, at the pane that is due

  module _ {here : Place} (is : place ≡ Some here) (in_order : T (is_sorted place_cmp now)) where
    due_here : place_due new (slice_get now walked.passed) ≡ Some here
    due_here = sym walked.due ∙ is

    pub is_held : is_some (find place_cmp here now) ≡ true
    is_held = walk.held_due new now walked.passed here in_order due_here

    -- so it is once it was passed
    module _ {then : Panes} (fired : then ≡ fired_first (plan_of p) (query_of p) (kind p old new) (walked.passed + 1) es) where
      still_due : place_due new (slice_get then walked.passed) ≡ Some here
      still_due = walk.still_due (plan_of p) (query_of p) (kind p old new) new walked.passed (walked.passed + 1) walked.passed es now then walked.so_far.fired fired ∙ due_here

      pub is_still_held : T (is_sorted place_cmp then) → is_some (find place_cmp here then) ≡ true
      is_still_held in_order = walk.held_due new then walked.passed here in_order still_due

      pub still_there : (pane : Pane (List Value)) × (slice_get then walked.passed ≡ Some (here, pane))
      still_there = let entry = walk.entry_due new (slice_get then walked.passed) here still_due in (entry.0, entry.1)

    module _ {pane : Pane (List Value)} (found : find place_cmp here now ≡ Some pane) where
      there : slice_get now walked.passed ≡ Some (here, pane)
      there = walk.entry_found new now walked.passed here in_order due_here pane found

      module _ (sorted : T (is_sorted place_cmp es)) where
        pub is_placed : AllByRecursion (λ e. IsPlaced (window_of e.0)) es → IsPlaced (window_of here)
        is_placed all =
            walk.holds_at (λ e. IsPlaced (window_of e.0)) es walked.passed (here, pane) all
            (walk.as_it_was (plan_of p) (query_of p) (kind p old new) es now walked.passed (here, pane) walked.so_far.fired sorted there)

        -- it doesn't fire
        pub stays : kind p old new here pane ≡ None → HasPassed p old new es before room (walked.passed + 1) now tally rows
        stays none = record {
          fired = walk.stays_next (plan_of p) (query_of p) (kind p old new) es now walked.passed (here, pane) walked.so_far.fired sorted there none;
          comes =
              subst (λ fs. ComesTo p room before tally rows fs (fires_by_watermark p old new es))
              (walk.fired_next (plan_of p) (query_of p) (kind p old new) es now walked.passed (here, pane) walked.so_far.fired sorted there None none) walked.so_far.comes;
        }

        -- it fires
        module _ {k : PaneKind} (fires : kind p old new here pane ≡ Some k) where
          abbrev pub firing : Fired (List Value)
          firing = record { kind = k; place = here; count = fired_count p.header.mode pane; folded = pane.folded }

          abbrev pub left : List (Fired (List Value))
          left = fires_by_watermark p old new (drop (walked.passed + 1) es)

          splits : ComesTo p room before tally rows ((firing ∷ []) ++ left) (fires_by_watermark p old new es)
          splits =
              subst (λ fs. ComesTo p room before tally rows fs (fires_by_watermark p old new es))
              (walk.fired_next (plan_of p) (query_of p) (kind p old new) es now walked.passed (here, pane) walked.so_far.fired sorted there (Some k) fires) walked.so_far.comes

          pub can_fire : CanAdd p room (length rows) tally (firing ∷ [])
          can_fire = counting.can_add p room before tally rows (firing ∷ []) left (fires_by_watermark p old new es) splits

          pub has_fired : HasPassed p old new es before room (walked.passed + 1) (put place_cmp here (fired_pane (plan_of p) p.header.mode here (Some k) pane) now) (tally_with p tally (firing ∷ [])) (rows ++ rows_of p (firing ∷ []))
          has_fired = record {
            fired = walk.fires_next (plan_of p) (query_of p) (kind p old new) es now walked.passed (here, pane) walked.so_far.fired sorted there k fires;
            comes = counting.next p room before tally rows (firing ∷ []) left (fires_by_watermark p old new es) splits;
          }

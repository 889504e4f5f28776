-- A history without some records that came up to the times of their keys: for windows that begin late enough it is the image of
-- the whole.
use Rattle.std.proofs.Common.{◌≡◌, ℕ, Bool, true, ◌&&◌, List, [], ◌∷◌, ◌++◌, ℤ, ◌≤ℤ◌, refl, sym, ap, ◌∙◌, arith}
use Rattle.std.proofs.lemmas.Int.{ints}
use Rattle.std.proofs.lemmas.Bool.{and_parts}
use Rattle.std.specs.Prelude.{filter, filter_map}
use Rattle.std.specs.List.{AllByRecursion}
use Rattle.wsm_record.specs.Event.{Event, Record, Watermark}
use Rattle.wsm_windows.specs.Windows.{IsShape}
use Rattle.wsm_windows.specs.declared.place.Place.{Place}
use Rattle.wsm_semantics.specs.Query.{Datum, Query, SessionsByEvent, selected, selection_of}
use Rattle.wsm_semantics.specs.Firings.{Firing, firings, firings_so_far, holds, shows}
use Rattle.wsm_semantics.specs.StandingFirings.{is_within}
use Rattle.wsm_semantics.specs.FromWatermark.{begun_at, Step, Stays, Goes, Times, whole, rest, IsRecordUpTo, LeavesOut, EndsBy, BeginAlike}
use Rattle.wsm_semantics.proofs.Lists.{all-each}
use Rattle.wsm_semantics.proofs.Each.{all-after, and_of, filter-append, filter-each, filter-filter}
use Rattle.wsm_semantics.proofs.PanesOrder.{panes_of}
use Rattle.wsm_semantics.proofs.ShownPanes.{does}
use Rattle.wsm_semantics.proofs.Within.{within}
use Rattle.wsm_semantics.proofs.FiringsSoFar.{one_home, shows_key, shows_back, shows_on}
use Rattle.wsm_semantics.proofs.KeptLaw as kept_law
use Rattle.wsm_semantics.proofs.Homes.{IsHome, each_home, shown_by_late}
use Rattle.wsm_semantics.proofs.Counted.{Covers, Finds, fired_at, fires_none, firings_at, is_pane_at, panes_new}
use Rattle.wsm_semantics.proofs.StepImage.{Lacks}
use Rattle.wsm_semantics.proofs.LaterMarks.{marks_of_steps, verdict_of_steps}
use Rattle.wsm_semantics.proofs.LaterTurns.{is_new, none_new, selects_old, Rooms, rooms_before}
use Rattle.wsm_semantics.proofs.LaterPanes.{Lates, new_there}

-- ---- one history

-- what passes the narrower test passes the wider, of those of which it is known
filter-found : {A : Type 0} (P : A → Type 0) (t u : A → Bool) → ((y : A) → P y → t y ≡ true → u y ≡ true) → (ys : List A) → AllByRecursion P ys → filter t (filter u ys) ≡ filter t ys
filter-found P t u f ys each = filter-filter t u ys ∙ filter-each (λ y. u y && t y) t ys (all-each P (λ y. (u y && t y) ≡ t y) ys (λ y p. and_of (u y) (t y) (f y p)) each)

no_sooner : (p h g : Place) → p ≡ h → h.start ≤ℤ g.start → p.start ≤ℤ g.start
no_sooner p h g same first = let begins : p.start ≡ h.start = ap (λ (r : Place). r.start) same in omega (arith, ints)

-- firings of such windows alone tell of their panes
pub finds_late : (q : Query) → IsShape q.shape → SessionsByEvent q → (x : Times) (late : Place → Bool) → Lates x late → Finds q late
finds_late q ok timely x late lates = record {
  shown = λ past e p here placed. shown_by_late q ok timely late past e p placed (λ r key later. lates.later p r here key later);
  standing = λ past p all here placed is.
      let t : Firing → Bool = λ g. shows q.shape p g.place && is_within g.contents all in
      sym (filter-found (IsHome q past) t (fired_at late)
      (λ g known h.
      let (s, inside) = and_parts (shows q.shape p g.place) (is_within g.contents all) h in
      let firing = known.firing in
      let same : p ≡ firing.home =
      one_home q (kept_law.places q ok timely) past p firing.home placed firing.placed (shows_on q.shape p g.place firing.home s (shows_back q.shape firing.home g.place firing.shown))
      g.contents firing.filled firing.part (λ d k. ap (λ (ds : List Datum). holds d ds) (sym is) ∙ within g.contents all inside d k) firing.inside in
      lates.later p g.place here (shows_key q.shape p g.place s) (no_sooner p firing.home g.place same known.first))
      (firings_so_far q past) (each_home q ok timely past));
}

-- where no record came after the time none of these windows fires
pub none_fired : (q : Query) (x : Times) (late : Place → Bool) → Lates x late → ((ds : List Datum) → Covers q late (is_new x) ds) → (past : List Event) → EndsBy q x past → filter (fired_at late) (firings_so_far q past) ≡ []
none_fired q x late lates covers [] ends = refl
none_fired q x late lates covers (e ∷ past) ends =
    filter-append (fired_at late) (firings_so_far q past) (firings q past e)
    ∙ (λ i. none_fired q x late lates covers past (all-after (λ d. d.time ≤ℤ x d.key) (selection_of q past e) (selected q past) ends) i ++ now i)
  where
    now : filter (fired_at late) (firings q past e) ≡ []
    now =
        firings_at q late past e
        ∙ ap (filter_map (does q past e)) (panes_new q late (is_new x) (new_there q x late lates) (selected q (e ∷ past)) (covers (selected q (e ∷ past)))
        ∙ ap (λ (ds : List Datum). filter (is_pane_at late) (panes_of q ds)) (none_new x (selected q (e ∷ past)) ends))

-- a record that came up to the time of its key fires none of them
pub old_none : (q : Query) (x : Times) (late : Place → Bool) → Lates x late → (past : List Event) (e : Event) → IsRecordUpTo x e → filter (fired_at late) (firings q past e) ≡ []
old_none q x late lates past (Watermark o t) old = absurd old
old_none q x late lates past (Record k t vs) old = fires_none q late (is_new x) (new_there q x late lates) past k t vs (selects_old q x past (Record k t vs) old)

-- ---- two histories

-- which steps may be left out, for some windows
pub record Serves (q : Query) (start records : ℤ) (x : Times) (late : Place → Bool) (May : List Step → Type 0) (older other : List Event) (longer : ℕ) : Type 0 where
  pub begun : BeginAlike q start records x older other longer
  pub lates : Lates x late
  pub out : (steps : List Step) → May steps → LeavesOut x steps
  pub covered : (steps : List Step) → May steps → Covers q late (is_new x) (selected q (whole steps older)) × Covers q late (is_new x) (selected (begun_at start records q) (rest steps other))
  pub stays : (e : Event) (steps : List Step) → May (Stays e ∷ steps) → May steps
  pub goes : (e : Event) (steps : List Step) → May (Goes e ∷ steps) → May steps
  pub before : (filter (fired_at late) (firings_so_far q older) ≡ []) × (filter (fired_at late) (firings_so_far (begun_at start records q) other) ≡ [])

-- where none is refused for RECORDS
abbrev pub WithRoom : Query → ℤ → ℤ → (List Step → Type 0) → List Event → List Event → List Step → Type 0
WithRoom q start records May older other steps = May steps × Rooms q start records older other steps

pub lacks_old : (q : Query) → IsShape q.shape → SessionsByEvent q → (start records : ℤ) (x : Times) (late : Place → Bool) (May : List Step → Type 0) (older other : List Event) (longer : ℕ) → Serves q start records x late May older other longer →
    Lacks q start records late (is_new x) (WithRoom q start records May older other) older other longer
lacks_old q ok timely start records x late May older other longer serves =
    let anew : Query = begun_at start records q in
    let begun = serves.begun in
    record {
      unturned = λ f d. refl;
      stand = new_there q x late serves.lates;
      finds = finds_late q ok timely x late serves.lates;
      finds_anew = finds_late anew ok timely x late serves.lates;
      turns = begun.turns;
      stays = λ e steps may. (serves.stays e steps may.0, rooms_before q start records older other e steps may.1);
      goes = λ e steps may. (serves.goes e steps may.0, (may.1.0.1, may.1.1));
      marks = λ steps may. marks_of_steps q start records x older other begun.marks steps (serves.out steps may.0);
      verdict = λ e steps may. verdict_of_steps q start records x older other begun.marks steps (serves.out (Stays e ∷ steps) may.0) e may.1.0 may.1.1;
      enters = λ e steps may. selects_old q x (whole steps older) e (serves.out (Goes e ∷ steps) may.0).0;
      silent = λ e steps may. old_none q x late serves.lates (whole steps older) e (serves.out (Goes e ∷ steps) may.0).0;
      covered = λ steps may. serves.covered steps may.0;
      none_selected = (none_new x (selected q older) begun.before, none_new x (selected anew other) begun.before_other);
      none_fired = serves.before;
    }

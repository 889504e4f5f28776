-- The panes whose windows begin after some time of their key hang on the records after it alone.
use Rattle.std.proofs.Common.{◌≡◌, ℕ, Bool, true, false, ◌&&◌, cond, List, ◌∷◌, ◌++◌, map, ℤ, pos, ◌≤ℤ◌, ◌<ℤ◌, refl, sym, ap, subst, ◌∙◌, arith}
use Rattle.std.proofs.lemmas.Int.{ints}
use Rattle.std.proofs.lemmas.Bool.{and_parts}
use Rattle.std.proofs.Math.Bool.{and-false}
use Rattle.std.specs.Prelude.{filter, int_le, int_lt, nat_eq}
use Rattle.std.specs.List.{AllByRecursion}
use Rattle.wsm_record.specs.Event.{Event}
use Rattle.wsm_windows.specs.declared.window.Window.{Window}
use Rattle.wsm_windows.specs.declared.window.Shape.{Shape}
use Rattle.wsm_windows.specs.declared.window.Shape.TheVariants.{Fixed, Sliding, Session}
use Rattle.wsm_windows.specs.Windows.{IsShape, has_inside}
use Rattle.wsm_windows.specs.Life.{is_live, live_windows_of}
use Rattle.wsm_windows.specs.declared.place.Place.{Place}
use Rattle.wsm_windows.specs.Places.{at, window_of}
use Rattle.wsm_semantics.specs.Query.{Datum, Query, Effect, Selects, Rises, Nothing, effect_of, selected, selection}
use Rattle.wsm_semantics.specs.Sessions.{sessions}
use Rattle.wsm_semantics.specs.Panes.{of_key}
use Rattle.wsm_semantics.specs.FromWatermark.{Times, begins_after, is_after, is_beyond, is_beside, PartsNoSession}
use Rattle.wsm_semantics.proofs.Lists.{all-each}
use Rattle.wsm_semantics.proofs.Decided.{less_than, less_up_to}
use Rattle.wsm_semantics.proofs.Tables.{among}
use Rattle.wsm_semantics.proofs.Each.{same_key, passed, filter-each, filter_swap, filter-map}
use Rattle.wsm_semantics.proofs.Turns.{inside_there}
use Rattle.wsm_semantics.proofs.SessionTimes.{inside_is}
use Rattle.wsm_semantics.proofs.SessionPlaces.{other_key, among-passing, times_of, sessions_of, places-sessions}
use Rattle.wsm_semantics.proofs.KeptLaw.{gap_is_long}
use Rattle.wsm_semantics.proofs.MovedPanes.{among_new, placed}
use Rattle.wsm_semantics.proofs.Counted.{Covers, StandNew}
use Rattle.wsm_semantics.proofs.LaterTurns.{is_new}
use Rattle.wsm_semantics.proofs.LaterSessions.{begins_late, begins_beyond, AreBeside, is_past, late-sessions, beyond-sessions, were_beside}

-- ---- where windows begin

-- such windows begin after the time of their key, and so do those of it that begin no sooner
pub record Lates (x : Times) (late : Place → Bool) : Type 0 where
  pub past : (p : Place) → late p ≡ true → x p.key <ℤ p.start
  pub later : (p r : Place) → late p ≡ true → p.key ≡ r.key → p.start ≤ℤ r.start → late r ≡ true

starts_past : (shape : Shape) → IsShape shape → (x start : ℤ) → begins_after shape x start ≡ true → x <ℤ start
starts_past (Fixed size) ok x start h = grind (arith, ints)
starts_past (Sliding size period) ok x start h = grind (arith, ints)
starts_past (Session gap) ok x start h = let long : pos 1 ≤ℤ gap = ok.period_low in grind (arith, ints)

begins_later : (shape : Shape) (x start after : ℤ) → begins_after shape x start ≡ true → start ≤ℤ after → begins_after shape x after ≡ true
begins_later (Fixed size) x start after h k = grind (arith, ints)
begins_later (Sliding size period) x start after h k = grind (arith, ints)
begins_later (Session gap) x start after h k = grind (arith, ints)

pub after_lates : (q : Query) → IsShape q.shape → (x : Times) → Lates x (is_after q x)
after_lates q ok x = record {
  past = λ p h. starts_past q.shape ok (x p.key) p.start h;
  later = λ p r h key later. ap (λ (k : ℕ). begins_after q.shape (x k) r.start) (sym key) ∙ begins_later q.shape (x p.key) p.start r.start h later;
}

pub beyond_lates : (x : Times) → Lates x (is_beyond x)
beyond_lates x = record {
  past = λ p h. less_than (x p.key) p.start h;
  later = λ p r h key later. ap (λ (k : ℕ). int_lt (x k) r.start) (sym key) ∙ less_up_to (x p.key) p.start r.start h later;
}

past_it : (x start t : ℤ) → x <ℤ start → start ≤ℤ t → int_lt x t ≡ true
past_it x start t h k = grind (arith, ints)

-- ---- windows that don't merge

outside : (x t start end : ℤ) → int_lt x t ≡ false → int_lt x start ≡ true → (int_le start t && int_lt t end) ≡ false
outside x t start end h k = grind (arith, ints)

module _ (x : Times) where
  -- none of an earlier record begins after the time
  none_late : (p : Place) → int_lt (x p.key) p.start ≡ true → (d : Datum) → is_new x d ≡ false → (l : ℤ) (ws : List Window) →
      among p (map (at d.key) (filter (λ w. is_live w l d.mark) (filter (has_inside d.time) ws))) ≡ false
  none_late p late d old l ws =
      elim (nat_eq d.key p.key) as (λ b. nat_eq d.key p.key ≡ b → among p (map (at d.key) (filter (λ w. is_live w l d.mark) (filter (has_inside d.time) ws))) ≡ false) [
        | true ↦ λ same.
            let early : int_lt (x p.key) d.time ≡ false = ap (λ (k : ℕ). int_lt (x k) d.time) (sym (same_key d.key p.key same)) ∙ old in
            among-passing p d.key (λ w. is_live w l d.mark) (filter (has_inside d.time) ws)
            ∙ ap (λ (b : Bool). is_live (window_of p) l d.mark && b) (among-passing p d.key (has_inside d.time) ws ∙ ap (λ (b : Bool). b && among p (map (at d.key) ws)) (outside (x p.key) d.time p.start p.end early late))
            ∙ and-false (is_live (window_of p) l d.mark)
        | false ↦ λ apart. other_key p d.key (filter (λ w. is_live w l d.mark) (filter (has_inside d.time) ws)) apart
      ] refl

  among_fixed : (size l : ℤ) (p : Place) → int_lt (x p.key) p.start ≡ true → (ds : List Datum) → among p (placed (Fixed size) l (filter (is_new x) ds) (filter (is_new x) ds)) ≡ among p (placed (Fixed size) l ds ds)
  among_fixed size l p late ds =
      let given : Datum → List Place = λ d. map (at d.key) (live_windows_of (Fixed size) d.time l d.mark) in
      among_new (is_new x) p given given (λ d _. refl) (λ d old. none_late p late d old l _) ds

  among_sliding : (size period l : ℤ) (p : Place) → int_lt (x p.key) p.start ≡ true → (ds : List Datum) →
      among p (placed (Sliding size period) l (filter (is_new x) ds) (filter (is_new x) ds)) ≡ among p (placed (Sliding size period) l ds ds)
  among_sliding size period l p late ds =
      let given : Datum → List Place = λ d. map (at d.key) (live_windows_of (Sliding size period) d.time l d.mark) in
      among_new (is_new x) p given given (λ d _. refl) (λ d old. none_late p late d old l _) ds

  -- ---- sessions

  times_new : (gap : ℤ) (k : ℕ) (ds : List Datum) → filter (is_past (x k)) (times_of gap ds k) ≡ times_of gap (filter (is_new x) ds) k
  times_new gap k ds =
      filter-map (λ (d : Datum). d.time) (is_past (x k)) (of_key k ds)
      ∙ ap (map (λ (d : Datum). d.time))
      (filter-each (λ (d : Datum). int_lt (x k) d.time) (is_new x) (of_key k ds) (all-each (λ (d : Datum). nat_eq d.key k ≡ true) (λ (d : Datum). int_lt (x k) d.time ≡ is_new x d) (of_key k ds) (λ d same. ap (λ (j : ℕ). int_lt (x j) d.time) (sym (same_key d.key k same))) (passed (λ d. nat_eq d.key k) ds))
      ∙ filter_swap (is_new x) (λ d. nat_eq d.key k) ds)

  -- sessions that pass a test are those of the later times
  among_sessions : (gap : ℤ) → pos 1 ≤ℤ gap → (l : ℤ) (p : Place) (test : Window → Bool) → test (window_of p) ≡ true → (ds : List Datum) →
      filter test (sessions gap (times_of gap ds p.key)) ≡ filter test (sessions gap (filter (is_past (x p.key)) (times_of gap ds p.key))) →
      among p (placed (Session gap) l (filter (is_new x) ds) (filter (is_new x) ds)) ≡ among p (placed (Session gap) l ds ds)
  among_sessions gap long l p test passes ds same =
      let new : List Datum = filter (is_new x) ds in
      let here : (ws : List Window) → among p (map (at p.key) ws) ≡ among p (map (at p.key) (filter test ws)) =
      λ ws. sym (among-passing p p.key test ws ∙ ap (λ (b : Bool). b && among p (map (at p.key) ws)) passes) in
      places-sessions gap new long p
      ∙ here (sessions_of gap new p.key)
      ∙ ap (λ (ts : List ℤ). among p (map (at p.key) (filter test (sessions gap ts)))) (sym (times_new gap p.key ds))
      ∙ ap (λ (ws : List Window). among p (map (at p.key) ws)) (sym same)
      ∙ sym (here (sessions_of gap ds p.key))
      ∙ sym (places-sessions gap ds long p)

-- ---- windows that begin late enough

after_shape : (x : Times) (shape : Shape) (l : ℤ) → IsShape shape → (ds : List Datum) (p : Place) → begins_after shape (x p.key) p.start ≡ true →
    among p (placed shape l (filter (is_new x) ds) (filter (is_new x) ds)) ≡ among p (placed shape l ds ds)
after_shape x (Fixed size) l ok ds p late = among_fixed x size l p late ds
after_shape x (Sliding size period) l ok ds p late = among_sliding x size period l p late ds
after_shape x (Session gap) l ok ds p late = among_sessions x gap ok.period_low l p (begins_late gap ok.period_low (x p.key)) late ds (late-sessions gap ok.period_low (x p.key) (times_of gap ds p.key))

pub after_covers : (q : Query) → IsShape q.shape → (x : Times) (ds : List Datum) → Covers q (is_after q x) (is_new x) ds
after_covers q ok x ds p late = after_shape x q.shape q.clock.lateness ok ds p late

-- ---- sessions that a time doesn't part

-- the times part no session of some records
abbrev pub PartNone : Query → Times → List Datum → Type 0
PartNone q x ds = (gap : ℤ) → q.shape ≡ Session gap → (key : ℕ) → AllByRecursion (λ w. is_beside gap (x key) w ≡ true) (sessions gap (times_of gap ds key))

pub beyond_covers : (q : Query) → IsShape q.shape → (x : Times) (ds : List Datum) → PartNone q x ds → Covers q (is_beyond x) (is_new x) ds
beyond_covers q ok x ds none p late = of_shape q.shape refl where
  of_shape : (shape : Shape) → q.shape ≡ shape → among p (placed q.shape q.clock.lateness (filter (is_new x) ds) (filter (is_new x) ds)) ≡ among p (placed q.shape q.clock.lateness ds ds)
  of_shape (Fixed size) is = subst (λ (s : Shape). among p (placed s q.clock.lateness (filter (is_new x) ds) (filter (is_new x) ds)) ≡ among p (placed s q.clock.lateness ds ds)) (sym is) (among_fixed x size q.clock.lateness p late ds)
  of_shape (Sliding size period) is = subst (λ (s : Shape). among p (placed s q.clock.lateness (filter (is_new x) ds) (filter (is_new x) ds)) ≡ among p (placed s q.clock.lateness ds ds)) (sym is) (among_sliding x size period q.clock.lateness p late ds)
  of_shape (Session gap) is =
      let long : pos 1 ≤ℤ gap = gap_is_long q gap is ok in
      subst (λ (s : Shape). among p (placed s q.clock.lateness (filter (is_new x) ds) (filter (is_new x) ds)) ≡ among p (placed s q.clock.lateness ds ds)) (sym is)
      (among_sessions x gap long q.clock.lateness p (begins_beyond gap long (x p.key)) late ds (beyond-sessions gap long (x p.key) (times_of gap ds p.key) (none gap is p.key)))

-- nor did they before an event
before_effect : (gap : ℤ) (long : pos 1 ≤ℤ gap) (t : ℤ) (key : ℕ) (ds : List Datum) (y : Effect) → AreBeside gap long t (sessions gap (times_of gap (selection y ++ ds) key)) → AreBeside gap long t (sessions gap (times_of gap ds key))
before_effect gap long t key ds (Rises old new) h = h
before_effect gap long t key ds Nothing h = h
before_effect gap long t key ds (Selects d) h =
    elim (nat_eq d.key key) as (λ b. AreBeside gap long t (sessions gap (map (λ (y : Datum). y.time) (cond b (d ∷ of_key key ds) (of_key key ds)))) → AreBeside gap long t (sessions gap (times_of gap ds key))) [
      | true ↦ λ k. were_beside gap long t d.time (times_of gap ds key) k
      | false ↦ λ k. k
    ] h

pub parted_none : (q : Query) → IsShape q.shape → (x : Times) (past : List Event) (e : Event) → PartsNoSession q x (e ∷ past) → PartsNoSession q x past
parted_none q ok x past e none gap is key = before_effect gap (gap_is_long q gap is ok) (x key) key (selected q past) (effect_of q past e) (none gap is key)

-- ---- records there

-- a record of such a place comes after the time
pub new_there : (q : Query) (x : Times) (late : Place → Bool) → Lates x late → StandNew q late (is_new x)
new_there q x late lates p h d there =
    ap (λ (k : ℕ). int_lt (x k) d.time) (same_key d.key p.key (and_parts _ _ there).0)
    ∙ past_it (x p.key) p.start d.time (lates.past p h) (inside_is d.time (window_of p) (inside_there q p d there)).0

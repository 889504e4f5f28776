-- What the rows of sessions come to, of a span of time that cuts no session: a firing began in the span where its records came
-- in it, as all of them are in one session of now.
use Rattle.std.proofs.Common.{◌≡◌, ℕ, Bool, true, false, ◌&&◌, ◌||◌, not, List, ℤ, pos, ◌+ℤ◌, ◌-ℤ◌, ◌≤ℤ◌, refl, sym, ap, subst, ◌∙◌, ⊎_elim, arith}
use Rattle.std.proofs.lemmas.Int.{ints}
use Rattle.std.proofs.lemmas.Bool.{and_parts, or_cases}
use Rattle.std.specs.Prelude.{Contains, int_le, int_lt, nat_eq}
use Rattle.std.specs.List.{AllByRecursion, list_any}
use Rattle.std.proofs.Math.Bool.{and-true}
use Rattle.wsm_record.specs.declared.words.Mode.TheVariants.{Discarding}
use Rattle.wsm_record.specs.declared.words.Form.TheVariants.{Panes}
use Rattle.wsm_record.specs.Event.{Event}
use Rattle.wsm_windows.specs.declared.window.Window.{Window}
use Rattle.wsm_windows.specs.declared.window.Shape.{Shape}
use Rattle.wsm_windows.specs.declared.window.Shape.TheVariants.{Session}
use Rattle.wsm_windows.specs.Windows.{window, has_inside, IsShape}
use Rattle.wsm_windows.proofs.Members.{kept}
use Rattle.wsm_windows.specs.declared.place.Place.{Place}
use Rattle.wsm_windows.specs.Places.{at, window_of}
use Rattle.wsm_semantics.specs.Query.{Query, Datum, SessionsByEvent, mark, selected}
use Rattle.wsm_semantics.specs.Panes.{is_there, contents, windows_among}
use Rattle.wsm_semantics.specs.Firings.{Firing, holds, is_shown, shows}
use Rattle.wsm_semantics.specs.FromWatermark.{is_beside}
use Rattle.wsm_semantics.specs.Amounts.{amount_written, Amount, amount_of, AddsAmounts, begins_in, comes_in, amount_owed, CutsNoSession}
use Rattle.wsm_semantics.proofs.Lists.{all-each}
use Rattle.wsm_semantics.proofs.Each.{itself, same_key, same_answers, all-both, all-swap, some_of}
use Rattle.wsm_semantics.proofs.Turns.{inside_there}
use Rattle.wsm_semantics.proofs.MergedRecords.{selected_falls, holds-filter}
use Rattle.wsm_semantics.proofs.SessionTimes.{inside_is, of-all, covered}
use Rattle.wsm_semantics.proofs.SessionPlaces.{one_of, times_of, sessions_of}
use Rattle.wsm_semantics.proofs.SessionStep.{among_places}
use Rattle.wsm_semantics.proofs.FiringsSoFar.{shown_alike}
use Rattle.wsm_semantics.proofs.KeptLaw.{gap_is_long}
use Rattle.wsm_semantics.proofs.ShownOnce.{shown_when_dropped}
use Rattle.wsm_semantics.proofs.Homes.{IsHome, each_home}
use Rattle.wsm_semantics.proofs.NeededLive.{Lasts, all_last, of_times, each_own}
use Rattle.wsm_semantics.proofs.Amounts.{IsFired, takes, whole_sum}
use Rattle.wsm_semantics.proofs.AmountWindows.{where_held, each_contained, each_held}

-- ---- a session that no cut parts

ended_by : (x s p t e gap : ℤ) → p ≤ℤ t → (t +ℤ gap) ≤ℤ e → int_le e (x +ℤ gap) ≡ true → int_lt x p ≡ int_lt x t
ended_by x s p t e gap h k m = grind (arith, ints)

begun_after : (x s p t : ℤ) → s ≤ℤ p → p ≤ℤ t → int_lt x s ≡ true → int_lt x p ≡ int_lt x t
begun_after x s p t h k m = grind (arith, ints)

-- what begins in it and a later time of it are on one side
one_side : (x s p t e gap : ℤ) → s ≤ℤ p → p ≤ℤ t → (t +ℤ gap) ≤ℤ e → (int_lt x s || int_le e (x +ℤ gap)) ≡ true → int_lt x p ≡ int_lt x t
one_side x s p t e gap h k lasts beside =
    ⊎_elim (λ begins. begun_after x s p t h k begins) (λ ended. ended_by x s p t e gap k lasts ended) (or_cases (int_lt x s) (int_le e (x +ℤ gap)) beside)

from_it : (a t : ℤ) → int_le a t ≡ int_lt (a -ℤ pos 1) t
from_it a t = same_answers (int_le a t) (int_lt (a -ℤ pos 1) t) (on a t) (back a t) where
  on : (a t : ℤ) → int_le a t ≡ true → int_lt (a -ℤ pos 1) t ≡ true
  on a t h = grind (arith, ints)

  back : (a t : ℤ) → int_lt (a -ℤ pos 1) t ≡ true → int_le a t ≡ true
  back a t h = grind (arith, ints)

before_it : (t b : ℤ) → int_lt t b ≡ not (int_lt (b -ℤ pos 1) t)
before_it t b = by (int_lt (b -ℤ pos 1) t) refl where
  early : (t b : ℤ) → int_lt (b -ℤ pos 1) t ≡ false → int_lt t b ≡ true
  early t b h = grind (arith, ints)

  late : (t b : ℤ) → int_lt (b -ℤ pos 1) t ≡ true → int_lt t b ≡ false
  late t b h = grind (arith, ints)

  by : (c : Bool) → int_lt (b -ℤ pos 1) t ≡ c → int_lt t b ≡ not c
  by true h = late t b h
  by false h = early t b h

over_by : (u t e gap : ℤ) → int_lt t u ≡ true → (int_lt (u -ℤ pos 1) t ≡ false)
over_by u t e gap h = grind (arith, ints)

gone_by : (x e gap l w : ℤ) → int_le e (x +ℤ gap) ≡ true → ((x +ℤ gap) +ℤ l) ≤ℤ w → (e +ℤ l) ≤ℤ w
gone_by x e gap l w h k = grind (arith, ints)

not_yet : (x s t : ℤ) → int_lt x s ≡ true → s ≤ℤ t → int_lt x t ≡ false → ⊥
not_yet x s t h k m = grind (arith, ints)

module _ (q : Query) (ok : IsShape q.shape) (timely : SessionsByEvent q) (discarding : q.mode ≡ Discarding) (panes_alone : q.form ≡ Panes) (c : ℕ) (amount : Amount) (adds : AddsAmounts q c amount) (gap : ℤ) (is : q.shape ≡ Session gap) (past : List Event) where
  pub long : pos 1 ≤ℤ gap
  long = gap_is_long q gap is ok

  abbrev sel : List Datum
  sel = selected q past

  abbrev ws : ℕ → List Window
  ws key = sessions_of gap sel key

  -- what is known of a selected record: where it is told, and that its sessions last a gap past it
  pub record IsKnown (d : Datum) : Type 0 where
    pub told : (r : Place) → holds d (contents q past r) ≡ is_there q r d
    pub lasts : AllByRecursion (Lasts gap long d.time) (ws d.key)
    pub covers : list_any (has_inside d.time) (ws d.key) ≡ true
    pub listed : Contains sel d

  own_times : (P : ℕ → ℤ → Type 0) → ((key : ℕ) → AllByRecursion (P key) (times_of gap sel key)) → AllByRecursion (λ d. P d.key d.time) sel
  own_times P each =
      all-each (λ d. nat_eq d.key d.key ≡ true → P d.key d.time) (λ d. P d.key d.time) sel (λ d f. f (itself d.key))
      (each_own (λ key_of d. nat_eq d.key key_of.key ≡ true → P key_of.key d.time) sel (λ k. of_times (P k.key) k.key sel (each k.key)))

  known : AllByRecursion IsKnown sel
  known =
      all-both (λ d. (r : Place) → holds d (contents q past r) ≡ is_there q r d) (λ d. AllByRecursion (Lasts gap long d.time) (ws d.key) × (list_any (has_inside d.time) (ws d.key) ≡ true) × Contains sel d) IsKnown
      (λ d told rest. record { told = told; lasts = rest.0; covers = rest.1; listed = rest.2 }) sel
      (all-swap (λ r d. holds d (contents q past r) ≡ is_there q r d) sel (λ r. holds-filter (is_there q r) sel (selected_falls q past)))
      (all-both (λ d. AllByRecursion (Lasts gap long d.time) (ws d.key)) (λ d. (list_any (has_inside d.time) (ws d.key) ≡ true) × Contains sel d) (λ d. AllByRecursion (Lasts gap long d.time) (ws d.key) × (list_any (has_inside d.time) (ws d.key) ≡ true) × Contains sel d)
      (λ d a b. (a, b.0, b.1)) sel
      (own_times (λ key t. AllByRecursion (Lasts gap long t) (ws key)) (λ key. all_last gap long (times_of gap sel key)))
      (all-both (λ d. list_any (has_inside d.time) (ws d.key) ≡ true) (Contains sel) (λ d. (list_any (has_inside d.time) (ws d.key) ≡ true) × Contains sel d) (λ d a b. (a, b)) sel
      (own_times (λ key t. list_any (has_inside t) (ws key) ≡ true) (λ key. covered gap long (times_of gap sel key)))
      (each_contained sel)))

  abbrev home : Datum → Place
  home d = at d.key (window (pos 0) (pos 0))

  shows_key : (p r : Place) → shows q.shape p r ≡ nat_eq p.key r.key
  shows_key p r = ap (λ (s : Shape). shows s p r) is

  module _ (key : ℕ) (from until : ℤ) (cut_from : CutsNoSession q gap key from past) (cut_until : CutsNoSession q gap key until past) where
    abbrev here : Place → Bool
    here p = begins_in key from until p

    abbrev mine : Datum → Bool
    mine d = comes_in key from until d

    -- a firing of the key began in the span where its record came in it
    sides : (x : ℤ) → AllByRecursion (λ w. is_beside gap x w ≡ true) (ws key) → (d : Datum) (g : Firing) → IsKnown d → IsHome q past g → IsFired q past g → holds d g.fired ≡ true → is_there q g.place d ≡ true → d.key ≡ key →
        int_lt x g.place.start ≡ int_lt x d.time
    sides x beside d g kn h fired held there same =
        let r : Place = h.firing.home in
        let in_home : is_there q r d ≡ true = sym (kn.told r) ∙ h.firing.inside d (fired.inside d held) in
        let of_home : r.key ≡ d.key = sym (same_key d.key r.key (and_parts _ _ in_home).0) in
        let session = one_of r r.key (ws r.key) (sym (among_places q gap is long past r) ∙ h.firing.placed) in
        let lasts : (d.time +ℤ gap) ≤ℤ r.end =
        of-all (Lasts gap long d.time) (window_of r) (ws r.key) (subst (λ (k : ℕ). AllByRecursion (Lasts gap long d.time) (ws k)) (sym of_home) kn.lasts) session (inside_there q r d in_home) in
        let next : (int_lt x r.start || int_le r.end (x +ℤ gap)) ≡ true =
        of-all (λ w. is_beside gap x w ≡ true) (window_of r) (ws r.key) (subst (λ (k : ℕ). AllByRecursion (λ w. is_beside gap x w ≡ true) (ws k)) (sym (of_home ∙ same)) beside) session in
        one_side x r.start g.place.start d.time r.end gap h.first (inside_is d.time (window_of g.place) (inside_there q g.place d there)).0 lasts next

    session_match : (d : Datum) (g : Firing) → IsKnown d → IsHome q past g → IsFired q past g → (holds d g.fired ≡ true → is_there q g.place d ≡ true) → takes (amount_of amount) here d g ≡ (mine d && (shows q.shape (home d) g.place && holds d g.fired))
    session_match d g kn h fired inside =
        where_held (here g.place) (mine d) (shows q.shape (home d) g.place) (holds d g.fired)
        (λ held.
        let there : is_there q g.place d ≡ true = inside held in
        let of_key : nat_eq d.key g.place.key ≡ true = (and_parts _ _ there).0 in
        let same : g.place.key ≡ d.key = sym (same_key d.key g.place.key of_key) in
        ap (λ (k : ℕ). nat_eq k key && (int_le from g.place.start && int_lt g.place.start until)) same
        ∙ elim (nat_eq d.key key) as (λ b. nat_eq d.key key ≡ b → (b && (int_le from g.place.start && int_lt g.place.start until)) ≡ (b && (int_le from d.time && int_lt d.time until))) [
          | true ↦ λ mine_key.
              let k : d.key ≡ key = same_key d.key key mine_key in
              let begins : int_le from g.place.start ≡ int_le from d.time = from_it from g.place.start ∙ sides (from -ℤ pos 1) cut_from d g kn h fired held there k ∙ sym (from_it from d.time) in
              let ends : int_lt g.place.start until ≡ int_lt d.time until = before_it g.place.start until ∙ ap not (sides (until -ℤ pos 1) cut_until d g kn h fired held there k) ∙ sym (before_it d.time until) in
              λ i. begins i && ends i
          | false ↦ λ _. refl
        ] refl
        ∙ sym (and-true (mine d))
        ∙ ap (λ (b : Bool). mine d && b) (sym (shows_key (home d) g.place ∙ of_key)))

    shown_at_last : (((until -ℤ pos 1) +ℤ gap) +ℤ q.clock.lateness) ≤ℤ mark q past → (d : Datum) → IsKnown d → mine d ≡ true → is_shown q past (home d) d ≡ true
    shown_at_last gone d kn owed =
        let parts = and_parts (nat_eq d.key key) (int_le from d.time && int_lt d.time until) owed in
        let same : d.key ≡ key = same_key d.key key parts.0 in
        let x : ℤ = until -ℤ pos 1 in
        let early : int_lt x d.time ≡ false = over_by until d.time (pos 0) gap (and_parts _ _ parts.1).1 in
        let Listed : Window → Type 0 = λ w. Contains (ws d.key) w × (is_beside gap x w ≡ true) in
        let listed : AllByRecursion Listed (ws d.key) =
        all-both (Contains (ws d.key)) (λ w. is_beside gap x w ≡ true) Listed (λ w a b. (a, b)) (ws d.key) (each_contained (ws d.key)) (subst (λ (k : ℕ). AllByRecursion (λ w. is_beside gap x w ≡ true) (ws k)) (sym same) cut_until) in
        let (w, in_them, inside) = some_of Listed (has_inside d.time) (ws d.key) listed kn.covers in
        let ended : int_le w.end (x +ℤ gap) ≡ true =
        ⊎_elim (λ begins. absurd (not_yet x w.start d.time begins (inside_is d.time w inside).0 early)) (λ over. over) (or_cases (int_lt x w.start) (int_le w.end (x +ℤ gap)) in_them.1) in
        let stands : Contains (windows_among q.shape q.clock.lateness sel d) w = subst (λ (s : Shape). Contains (windows_among s q.clock.lateness sel d) w) (sym is) (kept (has_inside d.time) (ws d.key) w in_them.0 inside) in
        shown_alike q past (home d) (at d.key w) d (shows_key (home d) (at d.key w) ∙ itself d.key)
        ∙ shown_when_dropped q ok timely past d w (record { is_selected = kn.listed; is_among = stands }) (gone_by x w.end gap q.clock.lateness (mark q past) ended gone)

    pub of_sessions : (((until -ℤ pos 1) +ℤ gap) +ℤ q.clock.lateness) ≤ℤ mark q past → amount_written q past c here ≡ amount_owed q past amount key from until
    of_sessions gone =
        whole_sum q ok timely discarding panes_alone c amount adds past here mine home
        (each_held q past (λ d g. takes (amount_of amount) here d g ≡ (mine d && (shows q.shape (home d) g.place && holds d g.fired))) discarding (IsHome q past) (each_home q ok timely past) IsKnown known
        (λ d g kn h fired inside. session_match d g kn h fired inside))
        (all-each IsKnown (λ d. mine d ≡ true → is_shown q past (home d) d ≡ true) sel (shown_at_last gone) known)

-- What is written of the sessions of a span of time that cuts none, once they were dropped, where panes retract: each of its records is
-- in one of them, and in the firing that stands for it.
use Rattle.std.proofs.Common.{◌≡◌, ℕ, suc, Bool, true, false, ◌&&◌, ◌||◌, cond, not, List, ℤ, pos, ◌+ℤ◌, ◌-ℤ◌, ◌≤ℤ◌, refl, sym, ap, subst, ◌∙◌, ⊎_elim, arith}
use Rattle.std.proofs.lemmas.Int.{ints}
use Rattle.std.proofs.lemmas.Bool.{and_parts, and_from, or_cases, or_left}
use Rattle.std.specs.Prelude.{Contains, int_le, int_lt, nat_eq}
use Rattle.std.specs.List.{AllByRecursion, list_any}
use Rattle.std.specs.Ordering.{eq_by_cmp}
use Rattle.wsm_record.specs.declared.words.Mode.TheVariants.{Retracting}
use Rattle.wsm_record.specs.declared.words.Form.TheVariants.{Panes}
use Rattle.wsm_record.specs.Event.{Event}
use Rattle.wsm_windows.specs.declared.window.Window.{Window}
use Rattle.wsm_windows.specs.declared.window.Shape.{Shape}
use Rattle.wsm_windows.specs.declared.window.Shape.TheVariants.{Session}
use Rattle.wsm_windows.specs.Windows.{has_inside, IsShape}
use Rattle.wsm_windows.specs.declared.place.Place.{Place}
use Rattle.wsm_windows.specs.Places.{place_cmp, at, window_of}
use Rattle.wsm_windows.proofs.Places.{tie_is}
use Rattle.wsm_semantics.specs.Query.{Query, Datum, SessionsByEvent, mark, selected}
use Rattle.wsm_semantics.specs.Panes.{is_there, contents, panes, places}
use Rattle.wsm_semantics.specs.Firings.{holds, shows}
use Rattle.wsm_semantics.specs.FromWatermark.{is_beside}
use Rattle.wsm_semantics.specs.Amounts.{sum_of, amount_written, Amount, amount_of, AddsAmounts, begins_in, comes_in, amount_owed, CutsNoSession}
use Rattle.wsm_semantics.proofs.Lists.{all-each, filter-all}
use Rattle.wsm_semantics.proofs.Decided.{not_less}
use Rattle.wsm_semantics.proofs.Tables.{among}
use Rattle.wsm_semantics.proofs.Assigned.{contains_among}
use Rattle.wsm_semantics.proofs.Each.{itself, same_key, same_answers, all-both, all-swap, list_any-more, passed, some_of}
use Rattle.wsm_semantics.proofs.Turns.{inside_there}
use Rattle.wsm_semantics.proofs.MergedRecords.{selected_falls, holds-filter}
use Rattle.wsm_semantics.proofs.SessionTimes.{IsOneOf, inside_is, of-all, covered}
use Rattle.wsm_semantics.proofs.SessionPlaces.{one_of, times_of, sessions_of, there_is}
use Rattle.wsm_semantics.proofs.SessionStep.{among_places}
use Rattle.wsm_semantics.proofs.ShownPanes.{IsPane, each_pane, found}
use Rattle.wsm_semantics.proofs.FiringsSoFar.{IsFiring, PlacesLaw, first_of}
use Rattle.wsm_semantics.proofs.Homes.{IsHome}
use Rattle.wsm_semantics.proofs.KeptLaw as kept_law
use Rattle.wsm_semantics.proofs.KeptLaw.{gap_is_long}
use Rattle.wsm_semantics.proofs.NeededLive.{Lasts, all_last, of_times, each_own}
use Rattle.wsm_semantics.proofs.Sums.{sum_of-each, sum_of-filter, sum_of-none}
use Rattle.wsm_semantics.proofs.AmountWindows.{each_contained}
use Rattle.wsm_amounts.proofs.Sums.{sum_of-one, sum_of-turned}
use Rattle.wsm_amounts.proofs.WholePanes.{AreGone, Agrees, IsTold, Stands, pane_amount, of_panes, told}
use Rattle.wsm_amounts.proofs.Companion.{distinct_panes}

-- ---- a session that no cut parts

ended_by : (x s p t e gap : ℤ) → p ≤ℤ t → (t +ℤ gap) ≤ℤ e → int_le e (x +ℤ gap) ≡ true → int_lt x p ≡ int_lt x t
ended_by x s p t e gap h k m = grind (arith, ints)

begun_after : (x s p t : ℤ) → s ≤ℤ p → p ≤ℤ t → int_lt x s ≡ true → int_lt x p ≡ int_lt x t
begun_after x s p t h k m = grind (arith, ints)

-- what begins in it and a later time of it are on one side
one_side : (x s p t e gap : ℤ) → s ≤ℤ p → p ≤ℤ t → (t +ℤ gap) ≤ℤ e → (int_lt x s || int_le e (x +ℤ gap)) ≡ true → int_lt x p ≡ int_lt x t
one_side x s p t e gap h k lasts beside =
    ⊎_elim (λ begins. begun_after x s p t h k begins) (λ ended. ended_by x s p t e gap k lasts ended) (or_cases (int_lt x s) (int_le e (x +ℤ gap)) beside)

from_it : (a t : ℤ) → int_le a t ≡ int_lt (a -ℤ pos 1) t
from_it a t = same_answers (int_le a t) (int_lt (a -ℤ pos 1) t) (on a t) (back a t) where
  on : (a t : ℤ) → int_le a t ≡ true → int_lt (a -ℤ pos 1) t ≡ true
  on a t h = grind (arith, ints)

  back : (a t : ℤ) → int_lt (a -ℤ pos 1) t ≡ true → int_le a t ≡ true
  back a t h = grind (arith, ints)

before_it : (t b : ℤ) → int_lt t b ≡ not (int_lt (b -ℤ pos 1) t)
before_it t b = by (int_lt (b -ℤ pos 1) t) refl where
  early : (t b : ℤ) → int_lt (b -ℤ pos 1) t ≡ false → int_lt t b ≡ true
  early t b h = grind (arith, ints)

  late : (t b : ℤ) → int_lt (b -ℤ pos 1) t ≡ true → int_lt t b ≡ false
  late t b h = grind (arith, ints)

  by : (c : Bool) → int_lt (b -ℤ pos 1) t ≡ c → int_lt t b ≡ not c
  by true h = late t b h
  by false h = early t b h

begun_later : (until s : ℤ) → int_lt s until ≡ true → int_lt (until -ℤ pos 1) s ≡ true → ⊥
begun_later until s h k = grind (arith, ints)

gone_by : (x e gap l w : ℤ) → int_le e (x +ℤ gap) ≡ true → ((x +ℤ gap) +ℤ l) ≤ℤ w → (e +ℤ l) ≤ℤ w
gone_by x e gap l w h k = grind (arith, ints)

itself_up_to : (s : ℤ) → s ≤ℤ s
itself_up_to s = omega (arith, ints)

module _ (q : Query) (ok : IsShape q.shape) (timely : SessionsByEvent q) (low : pos 0 ≤ℤ q.clock.lateness) (retracting : q.mode ≡ Retracting) (panes_alone : q.form ≡ Panes) (c : ℕ) (amount : Amount) (adds : AddsAmounts q c amount) (gap : ℤ) (is : q.shape ≡ Session gap) (past : List Event) where
  abbrev f : Datum → ℤ
  f = amount_of amount

  abbrev law : PlacesLaw q
  law = kept_law.places q ok timely

  long : pos 1 ≤ℤ gap
  long = gap_is_long q gap is ok

  abbrev sel : List Datum
  sel = selected q past

  abbrev ws : ℕ → List Window
  ws key = sessions_of gap sel key

  -- what is known of a selected record: where it is told, that its sessions last a gap past it, and that one has it
  record IsKnown (d : Datum) : Type 0 where
    pub told : (r : Place) → holds d (contents q past r) ≡ is_there q r d
    pub lasts : AllByRecursion (Lasts gap long d.time) (ws d.key)
    pub covers : list_any (has_inside d.time) (ws d.key) ≡ true

  own_times : (P : ℕ → ℤ → Type 0) → ((key : ℕ) → AllByRecursion (P key) (times_of gap sel key)) → AllByRecursion (λ d. P d.key d.time) sel
  own_times P each =
      all-each (λ d. nat_eq d.key d.key ≡ true → P d.key d.time) (λ d. P d.key d.time) sel (λ d f. f (itself d.key))
      (each_own (λ key_of d. nat_eq d.key key_of.key ≡ true → P key_of.key d.time) sel (λ k. of_times (P k.key) k.key sel (each k.key)))

  known : AllByRecursion IsKnown sel
  known =
      all-both (λ d. (r : Place) → holds d (contents q past r) ≡ is_there q r d) (λ d. AllByRecursion (Lasts gap long d.time) (ws d.key) × (list_any (has_inside d.time) (ws d.key) ≡ true)) IsKnown
      (λ d told rest. record { told = told; lasts = rest.0; covers = rest.1 }) sel
      (all-swap (λ r d. holds d (contents q past r) ≡ is_there q r d) sel (λ r. holds-filter (is_there q r) sel (selected_falls q past)))
      (all-both (λ d. AllByRecursion (Lasts gap long d.time) (ws d.key)) (λ d. list_any (has_inside d.time) (ws d.key) ≡ true) (λ d. AllByRecursion (Lasts gap long d.time) (ws d.key) × (list_any (has_inside d.time) (ws d.key) ≡ true))
      (λ d a b. (a, b)) sel
      (own_times (λ key t. AllByRecursion (Lasts gap long t) (ws key)) (λ key. all_last gap long (times_of gap sel key)))
      (own_times (λ key t. list_any (has_inside t) (ws key) ≡ true) (λ key. covered gap long (times_of gap sel key))))

  shows_key : (p r : Place) → shows q.shape p r ≡ nat_eq p.key r.key
  shows_key p r = ap (λ (s : Shape). shows s p r) is

  key_of : (r : Place) (d : Datum) → is_there q r d ≡ true → d.key ≡ r.key
  key_of r d there = same_key d.key r.key (and_parts _ _ there).0

  -- two places with a record are one
  one_place : (p r : Place) → among p (places q past) ≡ true → among r (places q past) ≡ true → (d : Datum) → is_there q p d ≡ true → is_there q r d ≡ true → p ≡ r
  one_place p r placed_p placed_r d in_p in_r =
      let keys : p.key ≡ r.key = sym (key_of p d in_p) ∙ key_of r d in_r in
      law.apart past p r placed_p placed_r (shows_key p r ∙ ap (λ (k : ℕ). nat_eq p.key k) (sym keys) ∙ itself p.key) d in_p in_r

  -- a place is a session
  session_of : (r : Place) → among r (places q past) ≡ true → IsOneOf (window_of r) (ws r.key)
  session_of r placed = one_of r r.key (ws r.key) (sym (among_places q gap is long past r) ∙ placed)

  module _ (key : ℕ) (from until : ℤ) (cut_from : CutsNoSession q gap key from past) (cut_until : CutsNoSession q gap key until past) where
    abbrev here : Place → Bool
    here p = begins_in key from until p

    abbrev mine : Datum → Bool
    mine d = comes_in key from until d

    -- a start in a session of the key, and a later time of a record of it
    sides : (x : ℤ) → AllByRecursion (λ w. is_beside gap x w ≡ true) (ws key) → (r : Place) → among r (places q past) ≡ true → (d : Datum) → IsKnown d → is_there q r d ≡ true → d.key ≡ key → (start : ℤ) → r.start ≤ℤ start → start ≤ℤ d.time →
        int_lt x start ≡ int_lt x d.time
    sides x beside r placed d kn there same start begun before =
        let of_home : r.key ≡ d.key = sym (key_of r d there) in
        let session : IsOneOf (window_of r) (ws r.key) = session_of r placed in
        let lasts : (d.time +ℤ gap) ≤ℤ r.end =
        of-all (Lasts gap long d.time) (window_of r) (ws r.key) (subst (λ (k : ℕ). AllByRecursion (Lasts gap long d.time) (ws k)) (sym of_home) kn.lasts) session (inside_there q r d there) in
        let next : (int_lt x r.start || int_le r.end (x +ℤ gap)) ≡ true =
        of-all (λ w. is_beside gap x w ≡ true) (window_of r) (ws r.key) (subst (λ (k : ℕ). AllByRecursion (λ w. is_beside gap x w ≡ true) (ws k)) (sym (of_home ∙ same)) beside) session in
        one_side x r.start start d.time r.end gap begun before lasts next

    -- a place that begins in a session, before a record of it, is of the span where the record is
    same_side : (p r : Place) → among r (places q past) ≡ true → (d : Datum) → IsKnown d → is_there q r d ≡ true → p.key ≡ d.key → r.start ≤ℤ p.start → p.start ≤ℤ d.time → here p ≡ mine d
    same_side p r placed d kn there same begun before =
        ap (λ (k : ℕ). nat_eq k key && (int_le from p.start && int_lt p.start until)) same
        ∙ elim (nat_eq d.key key) as (λ b. nat_eq d.key key ≡ b → (b && (int_le from p.start && int_lt p.start until)) ≡ (b && (int_le from d.time && int_lt d.time until))) [
          | true ↦ λ mine_key.
              let k : d.key ≡ key = same_key d.key key mine_key in
              let begins : int_le from p.start ≡ int_le from d.time = from_it from p.start ∙ sides (from -ℤ pos 1) cut_from r placed d kn there k p.start begun before ∙ sym (from_it from d.time) in
              let ends : int_lt p.start until ≡ int_lt d.time until = before_it p.start until ∙ ap not (sides (until -ℤ pos 1) cut_until r placed d kn there k p.start begun before) ∙ sym (before_it d.time until) in
              λ i. begins i && ends i
          | false ↦ λ _. refl
        ] refl

    -- so is the session itself
    side_of : (r : Place) → among r (places q past) ≡ true → (d : Datum) → IsKnown d → is_there q r d ≡ true → here r ≡ mine d
    side_of r placed d kn there = same_side r r placed d kn there (sym (key_of r d there)) (itself_up_to r.start) (inside_is d.time (window_of r) (inside_there q r d there)).0

    -- and the firing that stands for it
    agrees : Agrees q ok timely low retracting panes_alone c amount adds past here
    agrees x pane g stands =
        let k : Stands q (IsTold q ok timely low retracting panes_alone c amount adds past) x.0 x.1 g = told q ok timely low retracting panes_alone c amount adds past x g stands in
        let h : IsHome q past g = k.told.home in
        let fired : IsFiring q past g = h.firing in
        let (d, rest, first) = fired.filled in
        let kn : IsKnown d = (subst (AllByRecursion IsKnown) first (subst (AllByRecursion IsKnown) (sym fired.part) (filter-all IsKnown (λ y. holds y g.contents) sel known))).0 in
        let there : is_there q g.place d ≡ true =
        (subst (AllByRecursion (λ y. is_there q g.place y ≡ true)) first (subst (AllByRecursion (λ y. is_there q g.place y ≡ true)) (sym fired.whole) (passed (is_there q g.place) (selected q (first_of (suc g.turn) past))))).0 in
        let held : holds d g.contents ≡ true = ap (holds d) first ∙ or_left _ _ (itself d.turn) in
        let in_x : is_there q x.0 d ≡ true = sym (kn.told x.0) ∙ ap (holds d) (sym pane.0) ∙ k.inside d held in
        let in_home : is_there q fired.home d ≡ true = sym (kn.told fired.home) ∙ fired.inside d held in
        let at_home : x.0 ≡ fired.home = one_place x.0 fired.home pane.1 fired.placed d in_x in_home in
        let begun : x.0.start ≤ℤ g.place.start = subst (λ (p : Place). p.start ≤ℤ g.place.start) (sym at_home) h.first in
        same_side g.place x.0 pane.1 d kn in_x (sym (key_of g.place d there)) begun (inside_is d.time (window_of g.place) (inside_there q g.place d there)).0
        ∙ sym (side_of x.0 pane.1 d kn in_x)

    -- ---- each record in one session

    abbrev meets : Datum → Place × List Datum → Bool
    meets d x = here x.0 && is_there q x.0 d

    of_pane : (x : Place × List Datum) → IsPane q past x → pane_amount amount here x ≡ sum_of (λ d. cond (meets d x) (f d) (pos 0)) sel
    of_pane x pane =
        elim (here x.0) as (λ b. cond b (sum_of f x.1) (pos 0) ≡ sum_of (λ d. cond (b && is_there q x.0 d) (f d) (pos 0)) sel) [
          | true ↦ ap (sum_of f) pane.0 ∙ sum_of-filter f (is_there q x.0) sel
          | false ↦ sym (sum_of-none sel)
        ]

    some_pane : (d : Datum) → IsKnown d → list_any (meets d) (panes q past) ≡ mine d
    some_pane d kn = same_answers (list_any (meets d) (panes q past)) (mine d)
        (λ k.
        let (x, pane, both) = some_of (IsPane q past) (meets d) (panes q past) (each_pane q past) k in
        let parts = and_parts (here x.0) (is_there q x.0 d) both in
        sym (side_of x.0 pane.1 d kn parts.1) ∙ parts.0)
        (λ owed.
        let (w, listed, inside) = some_of (Contains (ws d.key)) (has_inside d.time) (ws d.key) (each_contained (ws d.key)) kn.covers in
        let r : Place = at d.key w in
        let placed : among r (places q past) ≡ true = among_places q gap is long past r ∙ contains_among d.key (ws d.key) w listed in
        let there : is_there q r d ≡ true = there_is q gap is r d ∙ and_from _ _ (itself d.key) inside in
        list_any-more (IsPane q past) (λ x. eq_by_cmp place_cmp r x.0) (meets d)
        (λ x _ tie. ap (λ (p : Place). here p && is_there q p d) (sym (tie_is r x.0 tie)) ∙ and_from _ _ (side_of r placed d kn there ∙ owed) there)
        (panes q past) (each_pane q past) (found q past r placed))

    one_record : (d : Datum) → IsKnown d → sum_of (λ x. cond (meets d x) (f d) (pos 0)) (panes q past) ≡ cond (mine d) (f d) (pos 0)
    one_record d kn =
        sum_of-one (IsPane q past) (meets d) (f d)
        (λ x y a b h k. one_place x.0 y.0 a.1 b.1 d (and_parts (here x.0) (is_there q x.0 d) h).1 (and_parts (here y.0) (is_there q y.0 d) k).1)
        (panes q past) (each_pane q past) (distinct_panes q past)
        ∙ ap (λ (b : Bool). cond b (f d) (pos 0)) (some_pane d kn)

    of_records : sum_of (pane_amount amount here) (panes q past) ≡ amount_owed q past amount key from until
    of_records =
        sum_of-each (pane_amount amount here) (λ x. sum_of (λ d. cond (meets d x) (f d) (pos 0)) sel) (panes q past)
        (all-each (IsPane q past) (λ x. pane_amount amount here x ≡ sum_of (λ d. cond (meets d x) (f d) (pos 0)) sel) (panes q past) of_pane (each_pane q past))
        ∙ sum_of-turned (λ x d. cond (meets d x) (f d) (pos 0)) (panes q past) sel
        ∙ sum_of-each (λ d. sum_of (λ x. cond (meets d x) (f d) (pos 0)) (panes q past)) (λ d. cond (mine d) (f d) (pos 0)) sel
        (all-each IsKnown (λ d. sum_of (λ x. cond (meets d x) (f d) (pos 0)) (panes q past) ≡ cond (mine d) (f d) (pos 0)) sel one_record known)
        ∙ sym (sum_of-filter f mine sel)

    -- ---- the law

    pub of_sessions : (((until -ℤ pos 1) +ℤ gap) +ℤ q.clock.lateness) ≤ℤ mark q past → amount_written q past c here ≡ amount_owed q past amount key from until
    of_sessions gone = of_panes q ok timely low retracting panes_alone c amount adds past here agrees were_dropped ∙ of_records where
      were_dropped : AreGone q past here
      were_dropped x pane h =
          let x_key : x.0.key ≡ key = same_key x.0.key key (and_parts (nat_eq x.0.key key) (int_le from x.0.start && int_lt x.0.start until) h).0 in
          let begins : int_lt x.0.start until ≡ true = (and_parts (int_le from x.0.start) (int_lt x.0.start until) (and_parts (nat_eq x.0.key key) (int_le from x.0.start && int_lt x.0.start until) h).1).1 in
          let next : (int_lt (until -ℤ pos 1) x.0.start || int_le x.0.end ((until -ℤ pos 1) +ℤ gap)) ≡ true =
          of-all (λ w. is_beside gap (until -ℤ pos 1) w ≡ true) (window_of x.0) (ws x.0.key) (subst (λ (k : ℕ). AllByRecursion (λ w. is_beside gap (until -ℤ pos 1) w ≡ true) (ws k)) (sym x_key) cut_until) (session_of x.0 pane.1) in
          let ended : int_le x.0.end ((until -ℤ pos 1) +ℤ gap) ≡ true =
          ⊎_elim (λ later. absurd (begun_later until x.0.start begins later)) (λ over. over) (or_cases (int_lt (until -ℤ pos 1) x.0.start) (int_le x.0.end ((until -ℤ pos 1) +ℤ gap)) next) in
          not_less (mark q past) (x.0.end +ℤ q.clock.lateness) (gone_by (until -ℤ pos 1) x.0.end gap q.clock.lateness (mark q past) ended gone)

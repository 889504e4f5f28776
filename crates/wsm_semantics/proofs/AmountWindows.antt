-- What the rows of windows that don't merge come to: of one window, and of a span of fixed ones, each record of which stands
-- in one window, which begins in the span where the record comes in it.
use Rattle.std.proofs.Common.{◌≡◌, ℕ, Bool, true, false, ◌&&◌, cond, List, [], ◌∷◌, length, ℤ, pos, ◌+ℤ◌, ◌*ℤ◌, ◌≤ℤ◌, ◌<ℤ◌, Some, refl, sym, ap, subst, ◌∙◌, arith}
use Rattle.std.proofs.lemmas.Int.{ints}
use Rattle.std.proofs.lemmas.Bool.{true≢false, and_parts, and_from}
use Rattle.std.proofs.lemmas.List.Elements.{All-contains, All-contains_itself, All-from_recursion, recursion_from_All}
use Rattle.std.specs.Prelude.{Contains, filter, int_le, int_lt, nat_eq}
use Rattle.std.specs.List.{AllByRecursion, list_any}
use Rattle.std.specs.Ordering.{eq_by_cmp}
use Rattle.std.proofs.Math.Bool.{and-false, and-true}
use Rattle.wsm_record.specs.declared.words.Mode.TheVariants.{Discarding}
use Rattle.wsm_record.specs.declared.words.Form.TheVariants.{Panes}
use Rattle.wsm_record.specs.Event.{Event}
use Rattle.wsm_windows.specs.declared.window.Window.{Window}
use Rattle.wsm_windows.specs.declared.window.Shape.{Shape}
use Rattle.wsm_windows.specs.declared.window.Shape.TheVariants.{Fixed, Sliding, Session}
use Rattle.wsm_windows.specs.Windows.{window, has_inside, windows_of_shape, last_start, IsWindowOf, IsWindowOfShape, IsShape, period_of}
use Rattle.wsm_windows.specs.Life.{is_live}
use Rattle.wsm_windows.proofs.Members.{exactly_shape}
use Rattle.wsm_windows.specs.declared.place.Place.{Place}
use Rattle.wsm_windows.specs.Places.{place_cmp, at, window_of}
use Rattle.wsm_windows.proofs.Places.{tie_is}
use Rattle.wsm_admission.specs.Clock.{admitted_count, is_late_by}
use Rattle.wsm_admission.proofs.Taken.{taken_record}
use Rattle.wsm_semantics.specs.Query.{Query, Datum, SessionsByEvent, datum, mark, selected, selection, selection_of}
use Rattle.wsm_semantics.specs.Panes.{is_there, stands_in, places, is_live_at}
use Rattle.wsm_semantics.specs.Firings.{Firing, firings_so_far, holds, is_shown, shows}
use Rattle.wsm_semantics.specs.Amounts.{sum_of, amount_written, Amount, amount_of, AddsAmounts, begins_in, comes_in, amount_owed, OfWindow}
use Rattle.wsm_semantics.proofs.Lists.{all-each}
use Rattle.wsm_semantics.proofs.Decided.{less_from, less_than, no_less, not_false, not_less}
use Rattle.wsm_semantics.proofs.Tables.{among}
use Rattle.wsm_semantics.proofs.Assigned.{IsAssigned, OnGrid}
use Rattle.wsm_semantics.proofs.AssignedStep.{among_places, grid_of}
use Rattle.wsm_semantics.proofs.Each.{and_of, itself, same_key, same_answers, all-any, all-append, all-both, each_fails, filter-filter, some_of}
use Rattle.wsm_semantics.proofs.Effects.{by_effect}
use Rattle.wsm_semantics.proofs.LiveRecords.{live_inside}
use Rattle.wsm_semantics.proofs.FiringsSoFar.{IsFiring, PlacesLaw, each_firing, shows_itself, shows_own}
use Rattle.wsm_semantics.proofs.KeptLaw as kept_law
use Rattle.wsm_semantics.proofs.DroppedShown.{dropped_shown}
use Rattle.wsm_semantics.proofs.ShownOnce.{new_have}
use Rattle.wsm_semantics.proofs.WindowEnds.{begins_by, begins_from, last_window}
use Rattle.wsm_semantics.proofs.Amounts.{IsFired, each_fired, takes, Matches, shown_sum, whole_sum}

-- ---- what is told of those that pass, and of pairs

pub passed_back : {A : Type 0} (P : A → Type 0) (t : A → Bool) (xs : List A) → AllByRecursion P (filter t xs) → AllByRecursion (λ x. t x ≡ true → P x) xs
passed_back P t [] h = tt
passed_back P t (x ∷ xs) h = (
  λ passes. (subst (λ (b : Bool). AllByRecursion P (cond b (x ∷ filter t xs) (filter t xs))) passes h).0,
  passed_back P t xs (elim (t x) as (λ b. AllByRecursion P (cond b (x ∷ filter t xs) (filter t xs)) → AllByRecursion P (filter t xs)) [ true ↦ λ k. k.1 | false ↦ λ k. k ] h),
)

pub each_pair : {A B : Type 0} (P : A → B → Type 0) (xs : List A) (ys : List B) → AllByRecursion (λ y. AllByRecursion (λ x. P x y) xs) ys → AllByRecursion (λ x. AllByRecursion (P x) ys) xs
each_pair P xs [] h = all-any (λ x. Unit {0}) (λ x. tt) xs
each_pair P xs (y ∷ ys) h = all-both (λ x. P x y) (λ x. AllByRecursion (P x) ys) (λ x. AllByRecursion (P x) (y ∷ ys)) (λ x a b. (a, b)) xs h.0 (each_pair P xs ys h.1)

pub each_contained : {A : Type 0} (xs : List A) → AllByRecursion (Contains xs) xs
each_contained xs = recursion_from_All (Contains xs) xs (All-contains_itself xs)

pub of_each : {A : Type 0} (P : A → Type 0) (xs : List A) (x : A) → AllByRecursion P xs → Contains xs x → P x
of_each P xs x all there = All-contains P xs x (All-from_recursion P xs all) there

-- a test that has one outcome where something is held
pub where_held : (a m s held : Bool) → (held ≡ true → a ≡ (m && s)) → (a && held) ≡ (m && (s && held))
where_held a m s true h = and-true a ∙ h refl ∙ ap (λ (b : Bool). m && b) (sym (and-true s))
where_held a m s false h = and-false a ∙ sym (ap (λ (b : Bool). m && b) (and-false s) ∙ and-false m)

-- ---- a firing's records are in its window

module _ (q : Query) (past : List Event) where
  pub in_its_window : (g : Firing) → IsFired q past g → AllByRecursion (λ d. holds d g.fired ≡ true → is_there q g.place d ≡ true) (selected q past)
  in_its_window g h =
      passed_back (λ d. is_there q g.place d ≡ true) (λ d. holds d g.fired) (selected q past) (subst (AllByRecursion (λ d. is_there q g.place d ≡ true)) h.part h.there)

  -- of pairs of a record and a firing that has it
  pub each_held : (P : Datum → Firing → Type 0) → q.mode ≡ Discarding → (R : Firing → Type 0) → AllByRecursion R (firings_so_far q past) → (S : Datum → Type 0) → AllByRecursion S (selected q past) →
      ((d : Datum) (g : Firing) → S d → R g → IsFired q past g → (holds d g.fired ≡ true → is_there q g.place d ≡ true) → P d g) → AllByRecursion (λ d. AllByRecursion (P d) (firings_so_far q past)) (selected q past)
  each_held P discarding R told S known f =
      each_pair P (selected q past) (firings_so_far q past)
      (all-both R (IsFired q past) (λ g. AllByRecursion (λ d. P d g) (selected q past))
      (λ g r h. all-both S (λ d. holds d g.fired ≡ true → is_there q g.place d ≡ true) (λ d. P d g) (λ d s k. f d g s r h k) (selected q past) known (in_its_window g h))
      (firings_so_far q past) told (each_fired q discarding past))

  pub nothing_known : {A : Type 0} (xs : List A) → AllByRecursion (λ x. Unit {0}) xs
  nothing_known {A} xs = all-any (λ (x : A). Unit {0}) (λ x. tt) xs

-- ---- one window

pub no_session : (s : Shape) → ((gap : ℤ) → s ≡ Session gap → ⊥) → IsAssigned s
no_session (Fixed size) h = tt
no_session (Sliding size period) h = tt
no_session (Session gap) h = absurd (h gap refl)

pub shows_same : (s : Shape) → IsAssigned s → (p r : Place) → shows s p r ≡ eq_by_cmp place_cmp p r
shows_same (Fixed size) a p r = refl
shows_same (Sliding size period) a p r = refl
shows_same (Session gap) a p r = absurd a

module _ (q : Query) (ok : IsShape q.shape) (timely : SessionsByEvent q) (discarding : q.mode ≡ Discarding) (panes_alone : q.form ≡ Panes) (c : ℕ) (amount : Amount) (adds : AddsAmounts q c amount) where
  abbrev law : PlacesLaw q
  law = kept_law.places q ok timely

  module _ (assigned : IsAssigned q.shape) (past : List Event) where
    abbrev sel : List Datum
    sel = selected q past

    -- a window that was dropped has shown its records
    pub shown_in : (p : Place) → OnGrid q.shape q.clock.lateness ok assigned p → is_live_at q (mark q past) p ≡ false → AllByRecursion (λ d. is_there q p d ≡ true → is_shown q past p d ≡ true) sel
    shown_in p grid dead =
        elim (list_any (is_there q p) sel) as (λ b. list_any (is_there q p) sel ≡ b → AllByRecursion (λ d. is_there q p d ≡ true → is_shown q past p d ≡ true) sel) [
          | true ↦ λ some.
              passed_back (λ d. is_shown q past p d ≡ true) (is_there q p) sel
              (dropped_shown q timely (shows_own q law) (new_have q ok timely q.shape refl) past p (among_places q ok assigned past p grid ∙ some) dead)
          | false ↦ λ none. all-each (λ d. is_there q p d ≡ false) (λ d. is_there q p d ≡ true → is_shown q past p d ≡ true) sel (λ d out there. absurd (true≢false (sym there ∙ out))) (each_fails (is_there q p) sel none)
        ] refl

    module _ (p : Place) where
      abbrev at_place : Place → Bool
      at_place r = eq_by_cmp place_cmp p r

      window_match : (d : Datum) (g : Firing) → (holds d g.fired ≡ true → is_there q g.place d ≡ true) → takes (amount_of amount) at_place d g ≡ (is_there q p d && (shows q.shape p g.place && holds d g.fired))
      window_match d g inside =
          where_held (at_place g.place) (is_there q p d) (shows q.shape p g.place) (holds d g.fired)
          (λ held.
          sym (and_of (is_there q p d) (at_place g.place) (λ tie. ap (λ (r : Place). is_there q r d) (tie_is p g.place tie) ∙ inside held))
          ∙ ap (λ (b : Bool). is_there q p d && b) (sym (shows_same q.shape assigned p g.place)))

      matches : AllByRecursion (Matches q ok timely discarding panes_alone c amount adds past at_place (is_there q p) (λ d. p)) sel
      matches =
          each_held q past (λ d g. takes (amount_of amount) at_place d g ≡ (is_there q p d && (shows q.shape p g.place && holds d g.fired))) discarding (λ g. Unit {0}) (nothing_known q past (firings_so_far q past)) (λ d. Unit {0}) (nothing_known q past sel)
          (λ d g _ _ _ inside. window_match d g inside)

    pub of_window : (key : ℕ) (u : ℤ) (w : Window) → IsWindowOfShape q.shape u w → OfWindow q c amount past key w
    of_window key u w grid = let p : Place = at key w in record {
      shown =
          shown_sum q ok timely discarding panes_alone c amount adds past (at_place p) (is_there q p) (λ d. p) (matches p)
          ∙ ap (sum_of (amount_of amount)) (sym (filter-filter (is_shown q past p) (is_there q p) sel));
      dropped = λ gone.
          whole_sum q ok timely discarding panes_alone c amount adds past (at_place p) (is_there q p) (λ d. p) (matches p)
          (shown_in p (u, grid) (not_less (mark q past) (w.end +ℤ q.clock.lateness) gone));
    }

-- ---- fixed windows: the one of a time

on_it : (k start t : ℤ) → start ≡ k → start ≤ℤ t → k ≤ℤ t
on_it k start t is h = omega (arith, ints)

below_it : (start last k : ℤ) → int_lt start last ≡ true → last ≡ k → start <ℤ k
below_it start last k h is = grind (arith, ints)

starts_at : (start k : ℤ) → start ≡ k → k ≤ℤ start
starts_at start k is = omega (arith, ints)

no_window_between : (start k before k2 last t end size : ℤ) → start ≡ k → k ≤ℤ before → (before +ℤ size) ≤ℤ k2 → last ≡ k2 → last ≤ℤ t → t <ℤ end → end ≡ start +ℤ size → ⊥
no_window_between start k before k2 last t end size a b c d e f g = omega (arith, ints)

both_ways : (start k last : ℤ) → start ≡ k → k ≤ℤ last → last ≤ℤ start → start ≡ last
both_ways start k last a b c = omega (arith, ints)

pub one_start : (size t : ℤ) → pos 1 ≤ℤ size → (v : Window) → IsWindowOf size size t v → v.start ≡ last_start size t
one_start size t long v h =
    let last : ℤ = last_start size t in
    let n = last_window size t long in
    elim (int_lt v.start last) as (λ b. int_lt v.start last ≡ b → v.start ≡ last) [
      | true ↦ λ less.
          absurd (no_window_between v.start (h.k *ℤ size) (last_start size v.start) (n.0 *ℤ size) last t v.end size h.start (begins_by size h.k v.start long (starts_at v.start (h.k *ℤ size) h.start))
          (begins_from size n.0 v.start long (below_it v.start last (n.0 *ℤ size) less n.1)) n.1 n.2 h.until h.end)
      | false ↦ λ less. both_ways v.start (h.k *ℤ size) last h.start (begins_by size h.k t long (on_it (h.k *ℤ size) v.start t h.start h.from)) (no_less v.start last less)
    ] refl

abbrev pub window_at : ℤ → ℤ → Window
window_at size t = window (last_start size t) (last_start size t +ℤ size)

pub one_window : (size t : ℤ) → pos 1 ≤ℤ size → (v : Window) → IsWindowOf size size t v → v ≡ window_at size t
one_window size t long v h =
    let start : v.start ≡ last_start size t = one_start size t long v h in
    let end : v.end ≡ (last_start size t +ℤ size) = h.end ∙ ap (λ (s : ℤ). s +ℤ size) start in
    λ i. window (start i) (end i)

inside_both : (start t end : ℤ) → start ≤ℤ t → t <ℤ end → (int_le start t && int_lt t end) ≡ true
inside_both start t end h k = grind (arith, ints)

inside_parts : (start t end : ℤ) → (int_le start t && int_lt t end) ≡ true → (start ≤ℤ t) × (t <ℤ end)
inside_parts start t end h = (grind (arith, ints), grind (arith, ints))

-- ---- and where it begins

le_from : (a b : ℤ) → int_le a b ≡ true → a ≤ℤ b
le_from a b h = grind (arith, ints)

le_so : (a b : ℤ) → a ≤ℤ b → int_le a b ≡ true
le_so a b h = grind (arith, ints)

up_to : (a last t : ℤ) → a ≤ℤ last → last ≤ℤ t → a ≤ℤ t
up_to a last t h k = omega (arith, ints)

not_both : (last b : ℤ) → int_lt last b ≡ true → b ≤ℤ last → ⊥
not_both last b h k = absurd (true≢false (sym h ∙ not_less last b k))

from_same : (size i t : ℤ) → pos 1 ≤ℤ size → int_le (i *ℤ size) (last_start size t) ≡ int_le (i *ℤ size) t
from_same size i t long =
    let a : ℤ = i *ℤ size in
    let last : ℤ = last_start size t in
    same_answers (int_le a last) (int_le a t) (λ h. le_so a t (up_to a last t (le_from a last h) (last_window size t long).2)) (λ h. le_so a last (begins_by size i t long (le_from a t h)))

until_same : (size j t : ℤ) → pos 1 ≤ℤ size → int_lt (last_start size t) (j *ℤ size) ≡ int_lt t (j *ℤ size)
until_same size j t long =
    let b : ℤ = j *ℤ size in
    let last : ℤ = last_start size t in
    same_answers (int_lt last b) (int_lt t b)
    (λ h. elim (int_lt t b) as (λ c. int_lt t b ≡ c → c ≡ true) [ true ↦ λ _. refl | false ↦ λ k. absurd (not_both last b h (begins_by size j t long (no_less t b k))) ] refl)
    (λ h. less_from last t b (last_window size t long).2 h)

next_start : (last k before b size : ℤ) → last ≡ k → k ≤ℤ before → (before +ℤ size) ≤ℤ b → (last +ℤ size) ≤ℤ b
next_start last k before b size h m n = omega (arith, ints)

passed_it : (last size b l w : ℤ) → (last +ℤ size) ≤ℤ b → (b +ℤ l) ≤ℤ w → ((last +ℤ size) +ℤ l) ≤ℤ w
passed_it last size b l w h k = omega (arith, ints)

-- a window that begins before the end of a span of whole windows ends by it
ends_in : (size j t : ℤ) → pos 1 ≤ℤ size → int_lt (last_start size t) (j *ℤ size) ≡ true → (last_start size t +ℤ size) ≤ℤ (j *ℤ size)
ends_in size j t long h =
    let last : ℤ = last_start size t in
    let n = last_window size t long in
    next_start last (n.0 *ℤ size) (last_start size last) (j *ℤ size) size n.1 (begins_by size n.0 last long (starts_at last (n.0 *ℤ size) n.1)) (begins_from size j last long (less_than last (j *ℤ size) h))

module _ (q : Query) (ok : IsShape q.shape) (timely : SessionsByEvent q) (size : ℤ) (is : q.shape ≡ Fixed size) where
  long_enough : pos 1 ≤ℤ size
  long_enough = subst (λ (s : Shape). pos 1 ≤ℤ period_of s) is ok.period_low

  -- where a record stands
  abbrev pub home : Datum → Place
  home d = at d.key (window_at size d.time)

  there_fixed : (p : Place) (d : Datum) → is_there q p d ≡ (nat_eq d.key p.key && (has_inside d.time (window_of p) && is_live (window_of p) q.clock.lateness d.mark))
  there_fixed p d = ap (λ (s : Shape). nat_eq d.key p.key && stands_in s q.clock.lateness (window_of p) d) is

  -- it was live before its turn
  lives_then : (by_window : Bool) (w t : ℤ) → is_late_by by_window q.shape q.clock.lateness w t ≡ false → is_live (window_at size t) q.clock.lateness w ≡ true
  lives_then false w t prompt =
      let n = last_window size t long_enough in
      live_inside w t q.clock.lateness (window_at size t) prompt (inside_both (last_start size t) t (last_start size t +ℤ size) n.2 n.3)
  lives_then true w t prompt =
      let ws : List Window = windows_of_shape q.shape t in
      let any : list_any (λ v. is_live v q.clock.lateness w) ws ≡ true = not_false (list_any (λ v. is_live v q.clock.lateness w) ws) prompt in
      let (v, there, live) = some_of (Contains ws) (λ v. is_live v q.clock.lateness w) ws (each_contained ws) any in
      let grid : IsWindowOfShape q.shape t v = (exactly_shape q.shape t v ok).0 there in
      subst (λ (x : Window). is_live x q.clock.lateness w ≡ true) (one_window size t long_enough v (subst (λ (s : Shape). IsWindowOfShape s t v) is grid)) live

  stands_home : (past : List Event) → AllByRecursion (λ d. is_there q (home d) d ≡ true) (selected q past)
  stands_home [] = tt
  stands_home (e ∷ past) =
      all-append (λ d. is_there q (home d) d ≡ true) (selection_of q past e) (selected q past)
      (by_effect q past (λ e x. AllByRecursion (λ d. is_there q (home d) d ≡ true) (selection x))
      (λ k t vs taken _.
      let admitted = taken_record q.clock q.shape q.declared (mark q past) (admitted_count q.clock q.shape q.declared past) (Some k) t vs taken in
      let n = last_window size t long_enough in
      let d : Datum = datum (length past) (mark q past) k t vs in (
        there_fixed (home d) d
            ∙ and_from (nat_eq k k) _ (itself k) (and_from _ _ (inside_both (last_start size t) t (last_start size t +ℤ size) n.2 n.3) (lives_then q.clock.from_window (mark q past) t admitted.prompt)),
        tt,
      ))
      (λ o t _. tt)
      (λ e _. tt)
      e)
      (stands_home past)

  -- a place with the record is the one where it stands
  place_is : (past : List Event) (p : Place) → among p (places q past) ≡ true → (d : Datum) → is_there q p d ≡ true → p ≡ home d
  place_is past p placed d there =
      let parts = and_parts _ _ (sym (there_fixed p d) ∙ there) in
      let grid = grid_of q ok (subst IsAssigned (sym is) tt) past p placed in
      let of_u : IsWindowOf size size grid.0 (window_of p) = subst (λ (s : Shape). IsWindowOfShape s grid.0 (window_of p)) is grid.1 in
      let inside = inside_parts p.start d.time p.end (and_parts _ _ parts.1).0 in
      let w : window_of p ≡ window_at size d.time =
      one_window size d.time long_enough (window_of p) (record { k = of_u.k; start = of_u.start; end = of_u.end; from = inside.0; until = inside.1 }) in
      λ i. at (sym (same_key d.key p.key parts.0) i) (w i)

  module _ (discarding : q.mode ≡ Discarding) (panes_alone : q.form ≡ Panes) (c : ℕ) (amount : Amount) (adds : AddsAmounts q c amount) (past : List Event) (key : ℕ) (i j : ℤ) where
    abbrev here : Place → Bool
    here p = begins_in key (i *ℤ size) (j *ℤ size) p

    abbrev mine : Datum → Bool
    mine d = comes_in key (i *ℤ size) (j *ℤ size) d

    begins_there : (d : Datum) → here (home d) ≡ mine d
    begins_there d = λ n. nat_eq d.key key && (from_same size i d.time long_enough n && until_same size j d.time long_enough n)

    span_match : (d : Datum) (g : Firing) → IsFiring q past g → (holds d g.fired ≡ true → is_there q g.place d ≡ true) → takes (amount_of amount) here d g ≡ (mine d && (shows q.shape (home d) g.place && holds d g.fired))
    span_match d g firing inside =
        where_held (here g.place) (mine d) (shows q.shape (home d) g.place) (holds d g.fired)
        (λ held.
        let at_home : firing.home ≡ g.place = tie_is firing.home g.place (ap (λ (s : Shape). shows s firing.home g.place) (sym is) ∙ firing.shown) in
        let same : g.place ≡ home d = place_is past g.place (ap (λ (p : Place). among p (places q past)) (sym at_home) ∙ firing.placed) d (inside held) in
        ap here same ∙ begins_there d
        ∙ sym (and-true (mine d))
        ∙ ap (λ (b : Bool). mine d && b) (sym (ap (shows q.shape (home d)) same ∙ shows_itself q.shape (home d))))

    shown_at_last : ((j *ℤ size) +ℤ q.clock.lateness) ≤ℤ mark q past → AllByRecursion (λ d. mine d ≡ true → is_shown q past (home d) d ≡ true) (selected q past)
    shown_at_last gone =
        all-both (Contains (selected q past)) (λ d. is_there q (home d) d ≡ true) (λ d. mine d ≡ true → is_shown q past (home d) d ≡ true)
        (λ d listed there owed.
        let n = last_window size d.time long_enough in
        let assigned : IsAssigned q.shape = subst IsAssigned (sym is) tt in
        let begins : int_lt (last_start size d.time) (j *ℤ size) ≡ true = until_same size j d.time long_enough ∙ (and_parts _ _ (and_parts _ _ owed).1).1 in
        let grid : IsWindowOfShape q.shape d.time (window_at size d.time) = subst (λ (s : Shape). IsWindowOfShape s d.time (window_at size d.time)) (sym is) (record { k = n.0; start = n.1; end = refl; from = n.2; until = n.3 }) in
        let dead : is_live_at q (mark q past) (home d) ≡ false =
        not_less (mark q past) ((last_start size d.time +ℤ size) +ℤ q.clock.lateness) (passed_it (last_start size d.time) size (j *ℤ size) q.clock.lateness (mark q past) (ends_in size j d.time long_enough begins) gone) in
        of_each (λ x. is_there q (home d) x ≡ true → is_shown q past (home d) x ≡ true) (selected q past) d
        (shown_in q ok timely discarding panes_alone c amount adds assigned past (home d) (d.time, grid) dead) listed there)
        (selected q past) (each_contained (selected q past)) (stands_home past)

    pub of_span : ((j *ℤ size) +ℤ q.clock.lateness) ≤ℤ mark q past → amount_written q past c here ≡ amount_owed q past amount key (i *ℤ size) (j *ℤ size)
    of_span gone =
        whole_sum q ok timely discarding panes_alone c amount adds past here mine home
        (each_held q past (λ d g. takes (amount_of amount) here d g ≡ (mine d && (shows q.shape (home d) g.place && holds d g.fired))) discarding (IsFiring q past) (each_firing q (kept_law.places q ok timely) past) (λ d. Unit {0}) (nothing_known q past (selected q past))
        (λ d g _ firing _ inside. span_match d g firing inside))
        (shown_at_last gone)

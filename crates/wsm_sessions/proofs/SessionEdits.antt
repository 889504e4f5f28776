-- What the edits of a list of sessions make of it.
use Rattle.std.proofs.Common.{◌≡◌, ℕ, zero, suc, ◌+◌, ◌<◌, ◌≤◌, Bool, true, false, ◌||◌, List, [], ◌∷◌, ◌++◌, drop, length, get_or, length-append, add-one, ℤ, pos, ◌+ℤ◌, ◌≤ℤ◌, refl, sym, subst, ap, ◌∙◌, inl, inr, arith}
use Rattle.std.proofs.lemmas.Int.{ints}
use Rattle.std.proofs.lemmas.Bool.{cases_Bool, true≢false}
use Rattle.std.specs.Prelude.{filter, int_le, int_lt, insert, slice_get, slice_set, Some}
use Rattle.std.specs.Int.{int_max, int_min}
use Rattle.std.specs.List.{AllByRecursion, list_any, remove}
use Rattle.std.specs.List.Sorted.{IsPartitionedBy}
use Rattle.std.proofs.lemmas.Option.{same_Some}
use Rattle.wsm_windows.specs.declared.window.Window.{Window}
use Rattle.wsm_windows.specs.Windows.{window}
use Rattle.wsm_semantics.specs.Sessions.{ends_after, ends_by, starts_from, links, with_session}
use Rattle.wsm_semantics.proofs.Each.{passed}
use Rattle.wsm_semantics.proofs.Sessions.{StartFrom, AreApart, sessions_apart}
use Rattle.wsm_semantics.proofs.SessionTimes.{apart-filter, linked_all, two_at_most}
use Rattle.wsm_semantics.proofs.SessionOrder.{in_order, begins, extends, joins}
use Rattle.wsm_sessions.specs.Live.{IsOfTimes}
use Rattle.wsm_sessions.specs.declared.placed.Placed.TheVariants.{New, Extends, Joins}
use Rattle.wsm_sessions.specs.Placing.{first_ends_by, starts_before, placed, placed_at, joined_at}
use Rattle.wsm_sessions.proofs.Ended.{ended_count}
use Rattle.wsm_sessions.proofs.Seams.{any_passes, insert_seam, get_seam, get_behind, set_seam, within_seam, within_behind}

-- ---- where windows start

before_seam : (reach : ℤ) (ps qs : List Window) → starts_before reach (ps ++ qs) (length ps) ≡ starts_before reach qs 0
before_seam reach [] qs = refl
before_seam reach (p ∷ ps) qs = before_seam reach ps qs

before_behind : (reach : ℤ) (ps qs : List Window) → starts_before reach (ps ++ qs) (suc (length ps)) ≡ starts_before reach qs 1
before_behind reach [] qs = refl
before_behind reach (p ∷ ps) qs = before_behind reach ps qs

pub before_at : (reach : ℤ) (ws : List Window) (i : ℕ) (d : Window) → i < length ws → int_lt (get_or ws i d).start reach ≡ starts_before reach ws i
before_at reach [] i d h = absurd (omega arith)
before_at reach (w ∷ ws) zero d h = refl
before_at reach (w ∷ ws) (suc i) d h = before_at reach ws i d (omega arith)

pub before_past : (reach : ℤ) (ws : List Window) (i : ℕ) → length ws ≤ i → false ≡ starts_before reach ws i
before_past reach [] i h = refl
before_past reach (w ∷ ws) zero h = absurd (omega arith)
before_past reach (w ∷ ws) (suc i) h = before_past reach ws i (omega arith)

pub before_within : (reach : ℤ) (ws : List Window) (i : ℕ) → starts_before reach ws i ≡ true → i < length ws
before_within reach [] i h = absurd (true≢false (sym h))
before_within reach (w ∷ ws) zero h = omega arith
before_within reach (w ∷ ws) (suc i) h = let rest = before_within reach ws i h in omega (arith, rest)

joined_seam : (ps qs : List Window) (w v : Window) → joined_at (ps ++ w ∷ v ∷ qs) (length ps) ≡ ps ++ window w.start v.end ∷ qs
joined_seam [] qs w v = refl
joined_seam (p ∷ []) qs w v = refl
joined_seam (p ∷ q ∷ ps) qs w v = ap (λ (vs : List Window). p ∷ vs) (joined_seam (q ∷ ps) qs w v)

-- the first is taken out, and the second written over
pub joined_edits : (ws : List Window) (i : ℕ) (d e : Window) → i + 1 < length ws → slice_set (remove ws i) i (window (get_or ws i d).start (get_or (remove ws i) i e).end) ≡ joined_at ws i
joined_edits [] i d e h = absurd (omega (arith, h))
joined_edits (w ∷ []) i d e h = absurd (omega (arith, h))
joined_edits (w ∷ v ∷ ws) zero d e h = refl
joined_edits (w ∷ v ∷ ws) (suc i) d e h = ap (λ (vs : List Window). w ∷ vs) (joined_edits (v ∷ ws) i d e (omega (arith, h)))

far : (reach : ℤ) (ws : List Window) → AllByRecursion (λ w. starts_from reach w ≡ true) ws → starts_before reach ws 0 ≡ false
far reach [] h = refl
far reach (w ∷ ws) h = later reach w h.0 where
  later : (reach : ℤ) (w : Window) → int_le reach w.start ≡ true → int_lt w.start reach ≡ false
  later reach w h = grind (arith, ints)

near : (gap t : ℤ) (w : Window) → links gap t w ≡ true → int_lt w.start (t +ℤ gap) ≡ true
near gap t w h = grind (arith, ints)

-- ---- what it was told that a time does

new_is : (n i : ℕ) (ls : List Window) → placed_at n ls ≡ New i → (n ≡ i) × (ls ≡ [])
new_is n i [] h = (cc, refl)
new_is n i (w ∷ []) h = absurd (cc)
new_is n i (w ∷ v ∷ ls) h = absurd (cc)

extends_is : (n i : ℕ) (ls : List Window) → placed_at n ls ≡ Extends i → (n ≡ i) × ((w : Window) × (ls ≡ w ∷ []))
extends_is n i [] h = absurd (cc)
extends_is n i (w ∷ []) h = (cc, (w, refl))
extends_is n i (w ∷ v ∷ ls) h = absurd (cc)

joins_is : (n i : ℕ) (ls : List Window) → length ls ≤ 2 → placed_at n ls ≡ Joins i → (n ≡ i) × ((w : Window) × ((v : Window) × (ls ≡ w ∷ v ∷ [])))
joins_is n i [] le h = absurd (cc)
joins_is n i (w ∷ []) le h = absurd (cc)
joins_is n i (w ∷ v ∷ []) le h = (cc, (w, (v, refl)))
joins_is n i (w ∷ v ∷ x ∷ ls) le h = absurd (omega arith)

-- ---- ends rise

ends_at : (gap e : ℤ) → pos 1 ≤ℤ gap → (ws : List Window) → AreApart gap ws → StartFrom e ws → (j : ℕ) (d : Window) → j < length ws → e ≤ℤ (get_or ws j d).end
ends_at gap e long [] a f j d h = absurd (omega arith)
ends_at gap e long (w ∷ ws) a f zero d h = let x : e ≤ℤ w.start = f.0 in let y : (w.start +ℤ gap) ≤ℤ w.end = a.0 in omega (arith, ints)
ends_at gap e long (w ∷ ws) a f (suc j) d h = ends_at gap e long ws a.2 f.1 j d (omega arith)

ended_sooner : (t : ℤ) (w v : Window) → w.end ≤ℤ v.end → int_le v.end t ≡ true → int_le w.end t ≡ true
ended_sooner t w v h k = grind (arith, ints)

pub parted : (gap t : ℤ) → pos 1 ≤ℤ gap → (ws : List Window) → AreApart gap ws → IsPartitionedBy (ends_by t) ws
parted gap t long [] a i j d le h k = absurd (omega arith)
parted gap t long (w ∷ ws) a zero zero d le h k = k
parted gap t long (w ∷ ws) a zero (suc j) d le h k = ended_sooner t w (get_or ws j d) (ends_at gap w.end long ws a.2 a.1 j d (omega arith)) k
parted gap t long (w ∷ ws) a (suc i) zero d le h k = absurd (omega arith)
parted gap t long (w ∷ ws) a (suc i) (suc j) d le h k = parted gap t long ws a.2 i j d (omega arith) (omega arith) k

-- where the first goes on past a time, all do
all_after : (t : ℤ) (d : Window) (ws : List Window) → ((j : ℕ) → j < length ws → ends_by t (get_or ws j d) ≡ false) → filter (ends_after t) ws ≡ ws
all_after t d [] later = refl
all_after t d (w ∷ ws) later =
    let here : int_le w.end t ≡ false = later zero (omega arith) in
    let after : ends_after t w ≡ true = grind (arith, ints) in
    rw after (ap (λ l. w ∷ l) (all_after t d ws (λ j h. later (suc j) (omega (arith, h)))))

pub first_after : (t : ℤ) (ws : List Window) → IsPartitionedBy (ends_by t) ws → first_ends_by t ws ≡ false → filter (ends_after t) ws ≡ ws
first_after t [] parts first = refl
first_after t (w ∷ ws) parts first = all_after t w (w ∷ ws) (λ j h. elim (cases_Bool (ends_by t (get_or (w ∷ ws) j w))) [
  | inl ended ↦ absurd (true≢false (sym (parts zero j w (omega arith) h ended) ∙ first))
  | inr later ↦ later
])

-- those that end by a time are the first
pub left_after : (t : ℤ) (ws : List Window) → IsPartitionedBy (ends_by t) ws → filter (ends_after t) ws ≡ drop (length (filter (ends_by t) ws)) ws
left_after t [] parts = refl
left_after t (w ∷ ws) parts = elim (cases_Bool (ends_by t w)) [
  | inl ended ↦
      let gone : ends_after t w ≡ false = grind (arith, ints) in
      rw (ended, gone) (left_after t ws (λ i j d le h k. parts (suc i) (suc j) d (omega (arith, le)) (omega (arith, h)) k))
  | inr later ↦
      let none : 0 ≡ length (filter (ends_by t) (w ∷ ws)) = ended_count t (w ∷ ws) parts 0 (omega arith) refl (inr later) in
      first_after t (w ∷ ws) parts later ∙ ap (λ n. drop n (w ∷ ws)) none
]

pub apart_of : (gap : ℤ) → pos 1 ≤ℤ gap → (ws : List Window) → IsOfTimes gap ws → AreApart gap ws
apart_of gap long ws h = subst (AreApart gap) (sym h.are) (sessions_apart gap long h.times)

-- ---- the window at a place

from_at : (e : ℤ) (ws : List Window) → StartFrom e ws → (j : ℕ) (v : Window) → slice_get ws j ≡ Some v → e ≤ℤ v.start
from_at e [] f j v h = absurd (cc)
from_at e (w ∷ ws) f zero v h = subst (λ (x : Window). e ≤ℤ x.start) (same_Some w v h) f.0
from_at e (w ∷ ws) f (suc j) v h = from_at e ws f.1 j v h

pub lasts_at : (gap : ℤ) (ws : List Window) → AreApart gap ws → (i : ℕ) (w : Window) → slice_get ws i ≡ Some w → (w.start +ℤ gap) ≤ℤ w.end
lasts_at gap [] a i w h = absurd (cc)
lasts_at gap (x ∷ ws) a zero w h = subst (λ (y : Window). (y.start +ℤ gap) ≤ℤ y.end) (same_Some x w h) a.0
lasts_at gap (x ∷ ws) a (suc i) w h = lasts_at gap ws a.2 i w h

pub behind_at : (gap : ℤ) (ws : List Window) → AreApart gap ws → (i : ℕ) (w : Window) → slice_get ws i ≡ Some w → (j : ℕ) (v : Window) → i < j → slice_get ws j ≡ Some v → w.end ≤ℤ v.start
behind_at gap [] a i w h j v l k = absurd (cc)
behind_at gap (x ∷ ws) a zero w h zero v l k = absurd (omega arith)
behind_at gap (x ∷ ws) a zero w h (suc j) v l k = from_at w.end ws (subst (λ (y : Window). StartFrom y.end ws) (same_Some x w h) a.1) j v k
behind_at gap (x ∷ ws) a (suc i) w h zero v l k = absurd (omega arith)
behind_at gap (x ∷ ws) a (suc i) w h (suc j) v l k = behind_at gap ws a.2 i w h j v (omega arith) k

-- ---- those that a time is linked to

module _ (gap : ℤ) (long : pos 1 ≤ℤ gap) (t : ℤ) where
  abbrev reach : ℤ
  reach = t +ℤ gap

  abbrev Linked : List Window → Type 0
  Linked ls = AllByRecursion (λ w. links gap t w ≡ true) ls

  abbrev Far : List Window → Type 0
  Far vs = AllByRecursion (λ w. starts_from reach w ≡ true) vs

  none_first : (ls vs : List Window) → Linked ls → starts_before reach (ls ++ vs) 0 ≡ false → ls ≡ []
  none_first [] vs l h = refl
  none_first (w ∷ ls) vs l h = absurd (true≢false (sym (near gap t w l.0) ∙ h))

  one_first : (ls vs : List Window) → Linked ls → Far vs → starts_before reach (ls ++ vs) 0 ≡ true → starts_before reach (ls ++ vs) 1 ≡ false → (w : Window) × (ls ≡ w ∷ [])
  one_first [] vs l f h k = absurd (true≢false (sym h ∙ far reach vs f))
  one_first (w ∷ []) vs l f h k = (w, refl)
  one_first (w ∷ v ∷ ls) vs l f h k = absurd (true≢false (sym (near gap t v l.1.0) ∙ k))

  two_first : (ls vs : List Window) → Far vs → length ls ≤ 2 → starts_before reach (ls ++ vs) 0 ≡ true → starts_before reach (ls ++ vs) 1 ≡ true → (w : Window) × (v : Window) × (ls ≡ w ∷ v ∷ [])
  two_first [] vs f le h k = absurd (true≢false (sym h ∙ far reach vs f))
  two_first (w ∷ []) vs f le h k = absurd (true≢false (sym k ∙ far reach vs f))
  two_first (w ∷ v ∷ []) vs f le h k = (w, v, refl)
  two_first (w ∷ v ∷ x ∷ ls) vs f le h k = absurd (omega arith)

  module _ (ws : List Window) (apart : AreApart gap ws) where
    abbrev ended : List Window
    ended = filter (ends_by t) ws

    abbrev linked : List Window
    linked = filter (links gap t) ws

    abbrev later : List Window
    later = filter (starts_from reach) ws

    are_linked : Linked linked
    are_linked = linked_all gap long t ws

    are_far : Far later
    are_far = passed (starts_from reach) ws

    first_at : starts_before reach ws (length ended) ≡ starts_before reach (linked ++ later) 0
    first_at = ap (λ (vs : List Window). starts_before reach vs (length ended)) (in_order gap long t ws apart) ∙ before_seam reach ended (linked ++ later)

    second_at : starts_before reach ws (suc (length ended)) ≡ starts_before reach (linked ++ later) 1
    second_at = ap (λ (vs : List Window). starts_before reach vs (suc (length ended))) (in_order gap long t ws apart) ∙ before_behind reach ended (linked ++ later)

    pub none_at : starts_before reach ws (length ended) ≡ false → linked ≡ []
    none_at h = none_first linked later are_linked (sym first_at ∙ h)

    pub one_at : starts_before reach ws (length ended) ≡ true → starts_before reach ws (suc (length ended)) ≡ false → (w : Window) × (linked ≡ w ∷ [])
    one_at h k = one_first linked later are_linked are_far (sym first_at ∙ h) (sym second_at ∙ k)

    pub two_at : starts_before reach ws (length ended) ≡ true → starts_before reach ws (suc (length ended)) ≡ true → (w : Window) × (v : Window) × (linked ≡ w ∷ v ∷ [])
    two_at h k = two_first linked later are_far (two_at_most gap long t linked (apart-filter gap (links gap t) ws apart) are_linked) (sym first_at ∙ h) (sym second_at ∙ k)

    -- what is found is what the time does
    pub found_new : starts_before reach ws (length ended) ≡ false → New (length ended) ≡ placed gap t ws
    found_new h = ap (placed_at (length ended)) (sym (none_at h))

    pub found_extends : starts_before reach ws (length ended) ≡ true → starts_before reach ws (length ended + 1) ≡ false → Extends (length ended) ≡ placed gap t ws
    found_extends h k = ap (placed_at (length ended)) (sym (one_at h (sym (ap (starts_before reach ws) (add-one (length ended))) ∙ k)).1)

    pub found_joins : starts_before reach ws (length ended) ≡ true → starts_before reach ws (length ended + 1) ≡ true → Joins (length ended) ≡ placed gap t ws
    found_joins h k = ap (placed_at (length ended)) (sym (two_at h (sym (ap (starts_before reach ws) (add-one (length ended))) ∙ k)).2)

    -- ---- the edits

    -- a time that begins a session
    pub begun : (i : ℕ) → placed gap t ws ≡ New i → (i ≤ length ws) × ((list_any (links gap t) ws ≡ false) × (insert ws i (window t reach) ≡ with_session gap t ws))
    begun i h =
        let at = new_is (length ended) i linked h in
        let parts = begins gap long t ws apart at.1 in
        let long_so : length ws ≡ length ended + length later = ap length parts.0 ∙ length-append ended later in (
          omega (arith, at.0),
          (
            any_passes (links gap t) ws ∙ ap (list_any (links gap t)) at.1,
            ap (λ (k : ℕ). insert ws k (window t reach)) (sym at.0) ∙ ap (λ (vs : List Window). insert vs (length ended) (window t reach)) parts.0 ∙ insert_seam ended later (window t reach) ∙ sym parts.1,
          ),
        )

    -- one that extends a session, whatever is read past the end
    pub extended : (i : ℕ) → placed gap t ws ≡ Extends i →
        (i < length ws) × ((d : Window) → slice_set ws i (window (int_min (get_or ws i d).start t) (int_max (get_or ws i d).end reach)) ≡ with_session gap t ws)
    extended i h =
        let at = extends_is (length ended) i linked h in
        let w : Window = at.1.0 in
        let parts = extends gap long t ws apart w at.1.1 in
        let within = subst (λ (vs : List Window). length ended < length vs) (sym parts.0) (within_seam ended later w) in
        let v : Window → Window = λ x. window (int_min x.start t) (int_max x.end reach) in (
          omega (arith, at.0, within),
          λ d.
              let read : get_or ws i d ≡ w = ap (λ (k : ℕ). get_or ws k d) (sym at.0) ∙ ap (λ (vs : List Window). get_or vs (length ended) d) parts.0 ∙ get_seam ended later w d in
              (λ k. slice_set ws (sym at.0 k) (v (read k))) ∙ ap (λ (vs : List Window). slice_set vs (length ended) (v w)) parts.0 ∙ set_seam ended later w (v w) ∙ sym parts.1,
        )

    -- one that joins two
    pub joined : (i : ℕ) → placed gap t ws ≡ Joins i → (i + 1 < length ws) × (joined_at ws i ≡ with_session gap t ws)
    joined i h =
        let at = joins_is (length ended) i linked (two_at_most gap long t linked (apart-filter gap (links gap t) ws apart) are_linked) h in
        let w : Window = at.1.0 in
        let v : Window = at.1.1.0 in
        let parts = joins gap long t ws apart w v at.1.1.1 in
        let within = subst (λ (vs : List Window). suc (length ended) < length vs) (sym parts.0) (within_behind ended later w v) in
        let next : i + 1 ≡ suc (length ended) = add-one i ∙ ap suc (sym at.0) in
        (omega (arith, next, within), ap (joined_at ws) (sym at.0) ∙ ap (λ (vs : List Window). joined_at vs (length ended)) parts.0 ∙ joined_seam ended later w v ∙ sym parts.1)

    -- ---- those that it is linked to, at their places

    pub linked_one : (i : ℕ) → placed gap t ws ≡ Extends i → (d : Window) → get_or ws i d ∷ [] ≡ linked
    linked_one i h d =
        let at = extends_is (length ended) i linked h in
        let w : Window = at.1.0 in
        let parts = extends gap long t ws apart w at.1.1 in
        let read : get_or ws i d ≡ w = ap (λ (k : ℕ). get_or ws k d) (sym at.0) ∙ ap (λ (vs : List Window). get_or vs (length ended) d) parts.0 ∙ get_seam ended later w d in
        ap (λ (v : Window). v ∷ []) read ∙ sym at.1.1

    pub linked_two : (i : ℕ) → placed gap t ws ≡ Joins i → (d e : Window) → get_or ws i d ∷ get_or ws (i + 1) e ∷ [] ≡ linked
    linked_two i h d e =
        let at = joins_is (length ended) i linked (two_at_most gap long t linked (apart-filter gap (links gap t) ws apart) are_linked) h in
        let w : Window = at.1.0 in
        let v : Window = at.1.1.0 in
        let parts = joins gap long t ws apart w v at.1.1.1 in
        let first : get_or ws i d ≡ w = ap (λ (k : ℕ). get_or ws k d) (sym at.0) ∙ ap (λ (vs : List Window). get_or vs (length ended) d) parts.0 ∙ get_seam ended (v ∷ later) w d in
        let second : get_or ws (i + 1) e ≡ v =
        ap (λ (k : ℕ). get_or ws k e) (add-one i ∙ ap suc (sym at.0)) ∙ ap (λ (vs : List Window). get_or vs (suc (length ended)) e) parts.0 ∙ get_behind ended later w v e in
        (λ k. first k ∷ second k ∷ []) ∙ sym at.1.1.1

    -- ---- whether it is linked to any

    any_first : (w : Window) (rest ls : List Window) → Linked ls → ls ≡ w ∷ rest → list_any (links gap t) ls ≡ true
    any_first w rest ls l e = ap (list_any (links gap t)) e ∙ ap (λ (b : Bool). b || list_any (links gap t) rest) (subst Linked e l).0

    pub extends_linked : (i : ℕ) → placed gap t ws ≡ Extends i → true ≡ list_any (links gap t) ws
    extends_linked i h = let at = extends_is (length ended) i linked h in sym (any_passes (links gap t) ws ∙ any_first at.1.0 [] linked are_linked at.1.1)

    pub joins_linked : (i : ℕ) → placed gap t ws ≡ Joins i → true ≡ list_any (links gap t) ws
    joins_linked i h =
        let at = joins_is (length ended) i linked (two_at_most gap long t linked (apart-filter gap (links gap t) ws apart) are_linked) h in
        sym (any_passes (links gap t) ws ∙ any_first at.1.0 (at.1.1.0 ∷ []) linked are_linked at.1.1.1)

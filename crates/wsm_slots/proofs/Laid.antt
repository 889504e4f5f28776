-- What is done to one slot of those that lie in four lists.
use Rattle.std.proofs.Common.{◌≡◌, Bool, true, false, cond, inl, inr, ℕ, ℤ, zero, suc, ◌+◌, ◌*◌, ◌^◌, ◌<◌, ◌≤◌, List, [], ◌∷◌, ◌++◌, length, get_or, set, take, drop, replicate, Option, Some, None, refl, sym, ap, ◌∙◌, arith}
use Rattle.std.proofs.Math.Nat.{suc-mul, mul-le-mul_right}
use Rattle.std.proofs.lemmas.List.{length-append, length-take-le, length-drop, take-append-drop, take-take, take_at, drop_at, take-append-le, drop-append-le, drop-take, drop-drop}
use Rattle.std.proofs.lemmas.Bool.{cases_Bool, true≢false}
use Rattle.std.specs.Option.{is_some}
use Rattle.std.specs.Prelude.{IfSome, IsTrue, option_map, slice_get}
use Rattle.wsm_record.specs.declared.event.Value.{Value}
use Rattle.wsm_record.specs.declared.cell.Cell.{Cell}
use Rattle.wsm_record.specs.declared.words.Kind.{Kind}
use Rattle.wsm_record.specs.declared.words.Mode.{Mode}
use Rattle.wsm_record.specs.Modes.{is_over_all}
use Rattle.wsm_windows.specs.declared.place.Place.{Place}
use Rattle.wsm_windows.specs.declared.window.Window.{Window}
use Rattle.wsm_windows.specs.Places.{window_of}
use Rattle.wsm_fold.proofs.Rows.{length-are_of_kinds}
use Rattle.wsm_fold.specs.Fold.{are_of_kinds, joins}
use Rattle.wsm_semantics.specs.Summaries.{Pane, kept_window, left_folded}
use Rattle.wsm_slots.specs.declared.head.Head.{Head}
use Rattle.wsm_slots.specs.declared.head.Holds.{Holds}
use Rattle.wsm_slots.specs.declared.head.Holds.TheVariants.{Nothing, Unfolded, Folded}
use Rattle.wsm_slots.specs.declared.widths.Widths.{Widths}
use Rattle.wsm_slots.specs.Panes.{CanRecord, CanTake, once_fired, with_one_more}
use Rattle.wsm_slots.specs.Layout.{HasPart, IsLaidOut, entries_by, entry_by, folded_by, folded_on, head_fired, head_with_one_more, is_folded, is_held, left_by, part_at, place_by, standing_by, unfolded, with_part, with_window}
use Rattle.wsm_slots.specs.RowWords.{cells_by}
use Rattle.wsm_slots.specs.Slots.{slot_at}

-- ---- a part of a list of as many parts as there are slots

more_parts : (i w : ℕ) → suc i * w ≡ w + i * w
more_parts i w = omega (arith, suc-mul i w)

pub part_within : (i w count : ℕ) → i < count → i * w + w ≤ count * w
part_within i w count h = omega (arith, suc-mul i w, mul-le-mul_right {m = suc i} {n = count} w (omega (arith, h)))

pub part_ends : {A : Type 0} (i w : ℕ) (xs : List A) → HasPart i w xs → i * w + w ≤ length xs
part_ends i w xs has = omega (arith, has.size, part_within i w has.count has.within)

pub length-part : {A : Type 0} (i w : ℕ) (xs : List A) → i * w + w ≤ length xs → length (part_at i w xs) ≡ w
length-part i w xs h = length-take-le w (drop (i * w) xs) (omega (arith, length-drop (i * w) xs, h))

pub length-with_part : {A : Type 0} (i w : ℕ) (xs ys : List A) → i * w + w ≤ length xs → length ys ≡ w → length (with_part i w xs ys) ≡ length xs
length-with_part i w xs ys h long =
    omega (arith, length-append (take (i * w) xs) (ys ++ drop w (drop (i * w) xs)), length-append ys (drop w (drop (i * w) xs)), length-take-le (i * w) xs (omega (arith, h)), length-drop w (drop (i * w) xs), length-drop (i * w) xs, long, h)

pub same_part : {A : Type 0} (i w : ℕ) (xs : List A) → with_part i w xs (part_at i w xs) ≡ xs
same_part i w xs = ap (λ ys. take (i * w) xs ++ ys) (take-append-drop w (drop (i * w) xs)) ∙ take-append-drop (i * w) xs

part_first : {A : Type 0} (w : ℕ) (xs : List A) → part_at 0 w xs ≡ take w xs
part_first w xs = let none : 0 * w ≡ 0 = omega arith in ap (λ n. take w (drop n xs)) none

part_next : {A : Type 0} (i w : ℕ) (xs : List A) → part_at (suc i) w xs ≡ part_at i w (drop w xs)
part_next i w xs = ap (λ n. take w (drop n xs)) (more_parts i w) ∙ ap (take w) (sym (drop-drop (i * w) w xs))

with_first : {A : Type 0} (w : ℕ) (xs ys : List A) → with_part 0 w xs ys ≡ ys ++ drop w xs
with_first w xs ys = let none : 0 * w ≡ 0 = omega arith in ap (λ n. take n xs ++ (ys ++ drop w (drop n xs))) none

with_next : {A : Type 0} (i w : ℕ) (xs ys : List A) → with_part (suc i) w xs ys ≡ take (w + i * w) xs ++ (ys ++ drop w (drop (w + i * w) xs))
with_next i w xs ys = ap (λ n. take n xs ++ (ys ++ drop w (drop n xs))) (more_parts i w)

with_next_front : {A : Type 0} (i w : ℕ) (xs ys : List A) → w + i * w ≤ length xs → take w (with_part (suc i) w xs ys) ≡ take w xs
with_next_front i w xs ys h =
    ap (take w) (with_next i w xs ys)
    ∙ take-append-le w (take (w + i * w) xs) (ys ++ drop w (drop (w + i * w) xs)) (omega (arith, length-take-le (w + i * w) xs h))
    ∙ take-take w (w + i * w) xs (omega arith)

with_next_back : {A : Type 0} (i w : ℕ) (xs ys : List A) → w + i * w ≤ length xs → drop w (with_part (suc i) w xs ys) ≡ with_part i w (drop w xs) ys
with_next_back i w xs ys h =
    ap (drop w) (with_next i w xs ys)
    ∙ drop-append-le w (take (w + i * w) xs) (ys ++ drop w (drop (w + i * w) xs)) (omega (arith, length-take-le (w + i * w) xs h))
    ∙ ap (λ zs. zs ++ (ys ++ drop w (drop (w + i * w) xs))) (drop-take w (i * w) xs)
    ∙ ap (λ zs. take (i * w) (drop w xs) ++ (ys ++ drop w zs)) (sym (drop-drop (i * w) w xs))

-- ---- the windows of slots, where they are kept

window_next : (i : ℕ) (ws : List Window) → slice_get (drop 1 ws) i ≡ slice_get ws (suc i)
window_next i [] = refl
window_next i (v ∷ ws) = refl

written_first : (ws : List Window) (o : Option Window) → drop 1 (with_window 0 ws o) ≡ drop 1 ws
written_first ws None = refl
written_first [] (Some u) = refl
written_first (v ∷ ws) (Some u) = refl

written_front : (i : ℕ) (ws : List Window) (o : Option Window) → slice_get (with_window (suc i) ws o) 0 ≡ slice_get ws 0
written_front i ws None = refl
written_front i [] (Some u) = refl
written_front i (v ∷ ws) (Some u) = refl

written_back : (i : ℕ) (ws : List Window) (o : Option Window) → drop 1 (with_window (suc i) ws o) ≡ with_window i (drop 1 ws) o
written_back i ws None = refl
written_back i [] (Some u) = refl
written_back i (v ∷ ws) (Some u) = refl

window_set : (ws : List Window) (i : ℕ) (u : Window) → i < length ws → slice_get (set ws i u) i ≡ Some u
window_set [] i u h = absurd (omega (arith, h))
window_set (v ∷ ws) zero u h = refl
window_set (v ∷ ws) (suc i) u h = window_set ws i u (omega (arith, h))

-- a slot has a window exactly where they are kept
some_window : (b : Bool) (ws : List Window) (i n : ℕ) → length ws ≡ cond b n 0 → i < n → is_some (slice_get ws i) ≡ b
some_window b [] i zero e h = absurd (omega (arith, h))
some_window true [] i (suc n) e h = absurd (omega (arith, e))
some_window false [] i n e h = refl
some_window false (v ∷ ws) i n e h = absurd (omega (arith, e))
some_window true (v ∷ ws) zero n e h = refl
some_window true (v ∷ ws) (suc i) n e h = some_window true ws i (length ws) refl (omega (arith, e, h))

none_window : (b : Bool) (ws : List Window) (n : ℕ) → length ws ≡ cond b n 0 → b ≡ false → (i : ℕ) → slice_get ws i ≡ None
none_window true ws n e off i = absurd (true≢false off)
none_window false [] n e off i = refl
none_window false (v ∷ ws) n e off i = absurd (omega (arith, e))

-- what is read where it was written, if it is to be kept
window_written : (b : Bool) (ws : List Window) (i n : ℕ) → length ws ≡ cond b n 0 → i < n → (u : Window) → slice_get (set ws i u) i ≡ cond b (Some u) None
window_written true ws i n e h u = window_set ws i u (omega (arith, e, h))
window_written false [] i n e h u = refl
window_written false (v ∷ ws) i n e h u = absurd (omega (arith, e))

-- ---- the entries

module _ (w c : ℕ) where
  pub length-entries : (hs : List Head) (fs : List Value) (rs : List ℤ) (ws : List Window) → length (entries_by w c hs fs rs ws) ≡ length hs
  length-entries [] fs rs ws = refl
  length-entries (h ∷ hs) fs rs ws = ap suc (length-entries hs (drop w fs) (drop c rs) (drop 1 ws))

  -- what a slot has
  pub entry_at : (hs : List Head) (fs : List Value) (rs : List ℤ) (ws : List Window) (i : ℕ) (d : Head) → i < length hs → slot_at (entries_by w c hs fs rs ws) i ≡ entry_by (get_or hs i d) (part_at i w fs) (cells_by (get_or hs i d).kinds (part_at i c rs)) (slice_get ws i)
  entry_at [] fs rs ws i d h = absurd (omega (arith, h))
  entry_at (x ∷ hs) fs rs ws zero d h = rw (part_first w fs, part_first c rs) refl
  entry_at (x ∷ hs) fs rs ws (suc i) d h =
      rw (part_next i w fs, part_next i c rs)
      (entry_at hs (drop w fs) (drop c rs) (drop 1 ws) i d (omega (arith, h)) ∙ ap (entry_by (get_or hs i d) (part_at i w (drop w fs)) (cells_by (get_or hs i d).kinds (part_at i c (drop c rs)))) (window_next i ws))

  -- to write a slot is to set its entry
  pub entries_set : (hs : List Head) (fs : List Value) (rs : List ℤ) (ws : List Window) (i : ℕ) (x : Head) (f : List Value) (r : List ℤ) (o : Option Window) → i < length hs → i * w + w ≤ length fs → i * c + c ≤ length rs → length f ≡ w → length r ≡ c
      → entries_by w c (set hs i x) (with_part i w fs f) (with_part i c rs r) (with_window i ws o) ≡ set (entries_by w c hs fs rs ws) i (entry_by x f (cells_by x.kinds r) (slice_get (with_window i ws o) i))
  entries_set [] fs rs ws i x f r o h p q lf lr = absurd (omega (arith, h))
  entries_set (y ∷ hs) fs rs ws zero x f r o h p q lf lr =
      rw (with_first w fs f, with_first c rs r, take_at f (drop w fs) w lf, take_at r (drop c rs) c lr, drop_at f (drop w fs) w lf, drop_at r (drop c rs) c lr)
      (ap (λ vs. entry_by x f (cells_by x.kinds r) (slice_get (with_window 0 ws o) 0) ∷ entries_by w c hs (drop w fs) (drop c rs) vs) (written_first ws o))
  entries_set (y ∷ hs) fs rs ws (suc i) x f r o h p q lf lr =
      let pw : w + i * w ≤ length fs = omega (arith, p, more_parts i w) in
      let qc : c + i * c ≤ length rs = omega (arith, q, more_parts i c) in
      rw (with_next_front i w fs f pw, with_next_front i c rs r qc, with_next_back i w fs f pw, with_next_back i c rs r qc)
      ((λ k. entry_by y (take w fs) (cells_by y.kinds (take c rs)) (written_front i ws o k) ∷ entries_by w c (set hs i x) (with_part i w (drop w fs) f) (with_part i c (drop c rs) r) (written_back i ws o k))
      ∙ ap (λ es. entry_by y (take w fs) (cells_by y.kinds (take c rs)) (slice_get ws 0) ∷ es)
      (entries_set hs (drop w fs) (drop c rs) (drop 1 ws) i x f r o (omega (arith, h)) (omega (arith, pw, length-drop w fs)) (omega (arith, qc, length-drop c rs)) lf lr
      ∙ ap (λ (v : Option Window). set (entries_by w c hs (drop w fs) (drop c rs) (drop 1 ws)) i (entry_by x f (cells_by x.kinds r) v)) (ap (λ vs. slice_get vs i) (sym (written_back i ws o)) ∙ window_next i (with_window (suc i) ws o))))

module _ (w : Widths) (hs : List Head) (fs : List Value) (rs : List ℤ) (ws : List Window) (laid : IsLaidOut w hs fs rs ws) (i : ℕ) (h : i < length hs) where
  -- the window of a slot is there exactly where windows are kept
  pub has_window : is_some (slice_get ws i) ≡ w.windows
  has_window = some_window w.windows ws i (length hs) laid.of_windows h

  pub no_window : w.windows ≡ false → slice_get ws i ≡ None
  no_window off = none_window w.windows ws (length hs) laid.of_windows off i

  -- one that is written is there then, where it is to be kept
  pub kept_there : (u : Window) → slice_get (set ws i u) i ≡ cond w.windows (Some u) None
  kept_there u = window_written w.windows ws i (length hs) laid.of_windows h u

  pub has_folds : HasPart i w.accumulators fs
  has_folds = record { count = length hs; within = h; size = laid.of_folds }

  pub has_row : HasPart i w.columns rs
  has_row = record { count = length hs; within = h; size = laid.of_words }

  folds_end : i * w.accumulators + w.accumulators ≤ length fs
  folds_end = part_ends i w.accumulators fs has_folds

  row_ends : i * w.columns + w.columns ≤ length rs
  row_ends = part_ends i w.columns rs has_row

  -- to write a head, what is folded, or the row and the window, with its head
  pub set_head : (x : Head) → entries_by w.accumulators w.columns (set hs i x) fs rs ws ≡ set (entries_by w.accumulators w.columns hs fs rs ws) i (entry_by x (part_at i w.accumulators fs) (cells_by x.kinds (part_at i w.columns rs)) (slice_get ws i))
  set_head x =
      rw (same_part i w.accumulators fs, same_part i w.columns rs) at
      (entries_set w.accumulators w.columns hs fs rs ws i x (part_at i w.accumulators fs) (part_at i w.columns rs) None h folds_end row_ends (length-part i w.accumulators fs folds_end) (length-part i w.columns rs row_ends))

  pub set_folds : (x : Head) (f : List Value) → length f ≡ w.accumulators
      → entries_by w.accumulators w.columns (set hs i x) (with_part i w.accumulators fs f) rs ws ≡ set (entries_by w.accumulators w.columns hs fs rs ws) i (entry_by x f (cells_by x.kinds (part_at i w.columns rs)) (slice_get ws i))
  set_folds x f long =
      rw (same_part i w.columns rs) at
      (entries_set w.accumulators w.columns hs fs rs ws i x f (part_at i w.columns rs) None h folds_end row_ends long (length-part i w.columns rs row_ends))

  pub set_row : (x : Head) (r : List ℤ) (o : Option Window) → length r ≡ w.columns
      → entries_by w.accumulators w.columns (set hs i x) fs (with_part i w.columns rs r) (with_window i ws o) ≡ set (entries_by w.accumulators w.columns hs fs rs ws) i (entry_by x (part_at i w.accumulators fs) (cells_by x.kinds r) (slice_get (with_window i ws o) i))
  set_row x r o long =
      rw (same_part i w.accumulators fs) at
      (entries_set w.accumulators w.columns hs fs rs ws i x (part_at i w.accumulators fs) r o h folds_end row_ends (length-part i w.accumulators fs folds_end) long)

-- ---- an entry

none_is : (o : Option (Place × Pane (List Value))) → o ≡ None → is_some o ≡ true → ⊥
none_is None e some = true≢false (sym some)
none_is (Some x) e some = cc

-- a slot that has an entry holds it
pub is_there : (h : Head) (f : List Value) (r : List Cell) (v : Option Window) → is_some (entry_by h f r v) ≡ true → is_held h.holds ≡ true
is_there h f r v some = elim (cases_Bool (is_held h.holds)) [
  | inl there ↦ there
  | inr free ↦ absurd (none_is (entry_by h f r v) (rw free refl) some)
]

length-joins : (kinds : List Kind) (xs ys : List Value) → length ys ≡ length kinds → length xs ≡ length ys → length (joins kinds xs ys) ≡ length ys
length-joins [] xs [] p q = refl
length-joins [] xs (y ∷ ys) p q = absurd (omega (arith, p))
length-joins (k ∷ ks) xs [] p q = absurd (omega (arith, p))
length-joins (k ∷ ks) [] (y ∷ ys) p q = absurd (omega (arith, q))
length-joins (k ∷ ks) (x ∷ xs) (y ∷ ys) p q = ap suc (length-joins ks xs ys (omega (arith, p)) (omega (arith, q)))

module _ (kinds : List Kind) (values : List Value) (h : Head) (f : List Value) (r : List Cell) (v : Option Window) where
  abbrev more : Option (Place × Pane (List Value)) → Option (Place × Pane (List Value))
  more = option_map (λ e. (e.0, with_one_more kinds values (Some e.1)))

  pub recorded : is_held h.holds ≡ true → entry_by (head_with_one_more h) (folded_on (is_folded h.holds) kinds f values) r v ≡ more (entry_by h f r v)
  recorded there = elim (cases_Bool (is_folded h.holds)) [
    | inl on ↦ rw (there, on) refl
    | inr anew ↦ rw (there, anew) refl
  ]

-- at another place
pub moved_to : (p : Place) (h x : Head) → x ≡ record h { end = p.end; start = p.start; key = p.key } → (f : List Value) (r : List ℤ) (v : Option Window) → entry_by x f (cells_by x.kinds r) v ≡ option_map (λ e. (p, e.1)) (entry_by h f (cells_by h.kinds r) v)
moved_to p h x is f r v = elim (cases_Bool (is_held h.holds)) [
  | inl there ↦ rw (is, there) refl
  | inr free ↦ rw (is, free) refl
]

left_held : (mode : Mode) (x : Holds) → is_held (left_by mode x) ≡ is_held x
left_held mode x = elim (cases_Bool (is_over_all mode)) [
  | inl all ↦ rw all refl
  | inr new ↦ rw new (none x)
]
  where
    none : (x : Holds) → is_held (unfolded x) ≡ is_held x
    none Nothing = refl
    none Unfolded = refl
    none Folded = refl

left_is : (mode : Mode) (x : Holds) (f : List Value) → folded_by (is_folded (left_by mode x)) f ≡ left_folded mode (folded_by (is_folded x) f)
left_is mode x f = elim (cases_Bool (is_over_all mode)) [
  | inl all ↦ rw all refl
  | inr new ↦ rw new (none x)
]
  where
    none : (x : Holds) → folded_by (is_folded (unfolded x)) f ≡ None
    none Nothing = refl
    none Unfolded = refl
    none Folded = refl

module _ (mode : Mode) (h : Head) (f : List Value) (r : List Cell) (v : Option Window) where
  abbrev fires : Option (List Cell) → Option (Place × Pane (List Value)) → Option (Place × Pane (List Value))
  fires row = option_map (λ e. (e.0, once_fired mode e.0 row e.1))

  pub fired_with : (kinds : ℕ) (row : List Cell) → entry_by (head_fired mode true kinds h) f row (kept_window mode (window_of (place_by h))) ≡ fires (Some row) (entry_by h f r v)
  fired_with kinds row = elim (cases_Bool (is_held h.holds)) [
    | inl there ↦ rw (left_held mode h.holds, there, left_is mode h.holds f) refl
    | inr free ↦ rw (left_held mode h.holds, free) refl
  ]

  pub fired_without : (kinds : ℕ) (s : List Cell) → entry_by (head_fired mode false kinds h) f s (kept_window mode (window_of (place_by h))) ≡ fires None (entry_by h f r v)
  fired_without kinds s = elim (cases_Bool (is_held h.holds)) [
    | inl there ↦ rw (left_held mode h.holds, there, left_is mode h.holds f) refl
    | inr free ↦ rw (left_held mode h.holds, free) refl
  ]

-- ---- free slots

pub entries_free : (w c n : ℕ) (h : Head) (fs : List Value) (rs : List ℤ) (ws : List Window) → is_held h.holds ≡ false → entries_by w c (replicate n h) fs rs ws ≡ replicate n None
entries_free w c zero h fs rs ws free = refl
entries_free w c (suc n) h fs rs ws free =
    let here : entry_by h (take w fs) (cells_by h.kinds (take c rs)) (slice_get ws 0) ≡ None = rw free refl in
    ap (λ o. o ∷ entries_by w c (replicate n h) (drop w fs) (drop c rs) (drop 1 ws)) here ∙ ap (λ os. None ∷ os) (entries_free w c n h (drop w fs) (drop c rs) (drop 1 ws) free)

-- ---- what a slot has, where it is one

pub held_within : {X : Type 0} (os : List (Option X)) (i : ℕ) → is_some (slot_at os i) ≡ true → i < length os
held_within [] i some = absurd (true≢false (sym some))
held_within (o ∷ os) zero some = omega arith
held_within (o ∷ os) (suc i) some = omega (arith, held_within os i some)

module _ (w c : ℕ) (hs : List Head) (fs : List Value) (rs : List ℤ) (ws : List Window) (i : ℕ) where
  pub slot_within : i < length (entries_by w c hs fs rs ws) → i < length hs
  slot_within h = omega (arith, h, length-entries w c hs fs rs ws)

  pub slot_held : is_some (slot_at (entries_by w c hs fs rs ws) i) ≡ true → i < length hs
  slot_held some = slot_within (held_within (entries_by w c hs fs rs ws) i some)

  -- the entry of a head that was read
  pub entry_read : (h : Head) → i < length hs → h ≡ get_or hs i h → slot_at (entries_by w c hs fs rs ws) i ≡ entry_by h (part_at i w fs) (cells_by h.kinds (part_at i c rs)) (slice_get ws i)
  entry_read h within read = entry_at w c hs fs rs ws i h within ∙ ap (λ x. entry_by x (part_at i w fs) (cells_by x.kinds (part_at i c rs)) (slice_get ws i)) (sym read)

  pub head_held : (h : Head) → is_some (slot_at (entries_by w c hs fs rs ws) i) ≡ true → h ≡ get_or hs i h → is_held h.holds ≡ true
  head_held h some read = is_there h (part_at i w fs) (cells_by h.kinds (part_at i c rs)) (slice_get ws i) (ap is_some (sym (entry_read h (slot_held some) read)) ∙ some)

-- what can be recorded in a slot's pane
pub can_record : (kinds : List Kind) (values : List Value) (h : Head) (f : List Value) (r : List Cell) (v : Option Window) → is_held h.holds ≡ true → IfSome (entry_by h f r v) (λ e. CanRecord kinds values e.1)
    → (h.count < 2 ^ 63) × (h.unshown < 2 ^ 63) × (is_folded h.holds ≡ true → CanTake kinds values f)
can_record kinds values h f r v there can =
    let this : CanRecord kinds values (record { count = h.count; unshown = h.unshown; folded = folded_by (is_folded h.holds) f; stands = standing_by h.stands v r }) = rw there at can in
    (this.count, this.unshown, λ on. rw on at this.takes)

pub length-folded_on : (b : Bool) (kinds : List Kind) (held values : List Value) (w : ℕ) → IsTrue (are_of_kinds kinds values) → length values ≡ w → length held ≡ w → length (folded_on b kinds held values) ≡ w
length-folded_on true kinds held values w types wide long = length-joins kinds held values (length-are_of_kinds kinds values types) (long ∙ sym wide) ∙ wide
length-folded_on false kinds held values w types wide long = wide

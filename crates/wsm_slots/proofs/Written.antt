-- A pane that is written into a slot.
use Rattle.std.proofs.Common.{◌≡◌, Bool, true, false, cond, ℕ, ℤ, suc, ◌/◌, ◌+◌, ◌*◌, ◌<◌, ◌≤◌, List, [], ◌∷◌, length, set, Option, Some, None, refl, sym, ap, ◌∙◌, arith}
use Rattle.std.proofs.lemmas.List.{length-set}
use Rattle.std.specs.Option.{is_some}
use Rattle.std.specs.Prelude.{IfSome, option_map, slice_get}
use Rattle.wsm_record.specs.declared.event.Value.{Value}
use Rattle.wsm_record.specs.declared.cell.Cell.{Cell}
use Rattle.wsm_record.specs.declared.words.Mode.{Mode}
use Rattle.wsm_record.specs.Modes.{retracts}
use Rattle.wsm_windows.specs.declared.place.Place.{Place}
use Rattle.wsm_windows.specs.declared.window.Window.{Window}
use Rattle.wsm_windows.specs.Places.{window_of}
use Rattle.wsm_semantics.specs.declared.standing.Standing.{Standing}
use Rattle.wsm_semantics.specs.declared.standing.Standing.TheVariants as standing
use Rattle.wsm_semantics.specs.Summaries.{Pane, kept_window, standing_row}
use Rattle.wsm_slots.specs.declared.head.Head.{Head}
use Rattle.wsm_slots.specs.declared.head.Stands.{Stands}
use Rattle.wsm_slots.specs.declared.head.Stands.TheVariants.{Unfired, NoRow, FiredRow, Joined}
use Rattle.wsm_slots.specs.declared.widths.Widths.{Widths}
use Rattle.wsm_slots.specs.Layout.{HasPart, HasWindow, IsAsWide, IsLaidOut, IsWritten, entries_by, entry_by, folded_by, head_fired, head_of, holds_by, is_folded, is_held, part_at, place_by, standing_by, stands_by, with_any, with_part, with_window}
use Rattle.wsm_slots.specs.Panes.{once_fired}
use Rattle.wsm_slots.specs.RowWords.{cells_by}
use Rattle.wsm_slots.specs.View.{window_stood}
use Rattle.wsm_slots.proofs.Laid.{entries_set, fired_with, fired_without, has_folds, has_row, kept_there, length-part, length-with_part, no_window, part_ends, same_part, set_row}

abbrev any_or : {A : Type 0} → Option (List A) → List A → List A
any_or None ys = ys
any_or (Some xs) ys = xs

pub folded_wide : (b : Bool) (f : List Value) (w : ℕ) → length f ≡ w → IfSome (folded_by b f) (λ ys. length ys ≡ w)
folded_wide true f w wide = wide
folded_wide false f w wide = tt

pub folded_few : (b : Bool) (f : List Value) → length f ≤ 16 → IfSome (folded_by b f) (λ ys. length ys ≤ 16)
folded_few true f few = few
folded_few false f few = tt

pub length-cells_by : (kinds : ℕ) (words : List ℤ) → length (cells_by kinds words) ≡ length words
length-cells_by kinds [] = refl
length-cells_by kinds (word ∷ words) = ap suc (length-cells_by (kinds / 4) words)

pub standing_wide : (s : Stands) (v : Option Window) (r : List Cell) (n : ℕ) → length r ≡ n → IfSome (standing_row (standing_by s v r)) (λ ys. length ys ≡ n)
standing_wide Unfired v r n wide = tt
standing_wide NoRow v r n wide = tt
standing_wide FiredRow v r n wide = wide
standing_wide Joined v r n wide = tt

pub standing_window : (s : Stands) (v : Option Window) (r : List Cell) (b : Bool) → is_some v ≡ b → HasWindow b (standing_by s v r)
standing_window Unfired v r b has = tt
standing_window NoRow v r b has = has
standing_window FiredRow v r b has = has
standing_window Joined v r b has = tt

held_any : (o : Option (List Value)) → is_held (holds_by (is_some o)) ≡ true
held_any None = refl
held_any (Some xs) = refl

folded_by_any : (o : Option (List Value)) (f : List Value) → folded_by (is_folded (holds_by (is_some o))) (any_or o f) ≡ o
folded_by_any None f = refl
folded_by_any (Some xs) f = refl

-- the window is the one that stands, where one does
abbrev HasStood : Standing → Option Window → Type 0
HasStood standing.Unfired v = Unit {0}
HasStood (standing.Row window columns) v = v ≡ window
HasStood standing.Joined v = Unit {0}

-- the row too
abbrev IsRow : Option (List Cell) → List Cell → Type 0
IsRow row r = IfSome row (λ cells. r ≡ cells)

standing_by_any : (s : Standing) (v : Option Window) (r : List Cell) → HasStood s v → IsRow (standing_row s) r → standing_by (stands_by s) v r ≡ s
standing_by_any standing.Unfired v r has is = refl
standing_by_any (standing.Row window None) v r has is = ap (λ o. standing.Row o None) has
standing_by_any (standing.Row window (Some row)) v r has is = λ k. standing.Row (has k) (Some (is k))
standing_by_any standing.Joined v r has is = refl

entry_of_pane : (place : Place) (pane : Pane (List Value)) (kinds : ℕ) (f : List Value) (r : List Cell) (v : Option Window) → HasStood pane.stands v → IsRow (standing_row pane.stands) r → entry_by (head_of place pane kinds) (any_or pane.folded f) r v ≡ Some (place, pane)
entry_of_pane place pane kinds f r v has is =
    rw (held_any pane.folded) (λ k. Some (place, record { count = pane.count; unshown = pane.unshown; folded = folded_by_any pane.folded f k; stands = standing_by_any pane.stands v r has is k }))

with_any_is : {A : Type 0} (i w : ℕ) (xs : List A) (o : Option (List A)) → IfSome o (λ ys. length ys ≡ w) → with_any i xs o ≡ with_part i w xs (any_or o (part_at i w xs))
with_any_is i w xs None wide = sym (same_part i w xs)
with_any_is i w xs (Some ys) wide = ap (λ n. with_part i n xs ys) wide

length-any_or : {A : Type 0} (i w : ℕ) (xs : List A) (o : Option (List A)) → i * w + w ≤ length xs → IfSome o (λ ys. length ys ≡ w) → length (any_or o (part_at i w xs)) ≡ w
length-any_or i w xs None within wide = length-part i w xs within
length-any_or i w xs (Some ys) within wide = wide

pub length-with_any : {A : Type 0} (i w : ℕ) (xs : List A) (o : Option (List A)) → i * w + w ≤ length xs → IfSome o (λ ys. length ys ≡ w) → length (with_any i xs o) ≡ length xs
length-with_any i w xs o within wide = ap length (with_any_is i w xs o wide) ∙ length-with_part i w xs (any_or o (part_at i w xs)) within (length-any_or i w xs o within wide)

pub length-with_window : (i : ℕ) (ws : List Window) (o : Option Window) → length (with_window i ws o) ≡ length ws
length-with_window i ws None = refl
length-with_window i ws (Some u) = length-set ws i u

pub if_mapped : {X Y : Type 0} (f : X → Y) (F : Y → Type 0) (o : Option X) → IfSome (option_map f o) F → IfSome o (λ x. F (f x))
if_mapped f F None h = h
if_mapped f F (Some x) h = h

pub of_mapped : {X Y : Type 0} (f : X → Y) (F : Y → Type 0) (o : Option X) → IfSome o (λ x. F (f x)) → IfSome (option_map f o) F
of_mapped f F None h = h
of_mapped f F (Some x) h = h

pub some_mapped : {X Y : Type 0} (f : X → Y) (o : Option X) → is_some o ≡ is_some (option_map f o)
some_mapped f None = refl
some_mapped f (Some x) = refl

-- the part of a slot, where there are values of its width
pub has_any : {A B : Type 0} (i w : ℕ) (xs : List A) (o : Option (List B)) → HasPart i w xs → IfSome o (λ ys. length ys ≡ w) → IfSome o (λ ys. HasPart i (length ys) xs)
has_any i w xs None has wide = wide
has_any i w xs (Some ys) has wide = rw wide has

-- no more than a row can have
pub few_any : (o : Option (List Cell)) (c : ℕ) → IfSome o (λ ys. length ys ≡ c) → c ≤ 16 → IfSome o (λ ys. length ys ≤ 16)
few_any None c wide few = tt
few_any (Some ys) c wide few = omega (arith, wide, few)

-- the words that a slot has once its row is written, or those that it had where there is no row
pub record WrittenRow (i c : ℕ) (row : Option (List Cell)) (old new : List ℤ) (kinds : ℕ) : Type 0 where
  pub part : List ℤ
  pub size : length part ≡ c
  pub words : new ≡ with_part i c old part
  pub cells : IsRow row (cells_by kinds part)

module _ (i c : ℕ) (old new : List ℤ) (kinds : ℕ) (within : i * c + c ≤ length old) where
  pub written_row : (row : Option (List Cell)) → IfSome row (λ ys. length ys ≡ c) → IsWritten i row old new kinds → WrittenRow i c row old new kinds
  written_row None wide is = record { part = part_at i c old; size = length-part i c old within; words = is ∙ sym (same_part i c old); cells = tt }
  written_row (Some row) wide is = record { part = is.part; size = is.size ∙ wide; words = is.words ∙ ap (λ n. with_part i n old is.part) wide; cells = is.cells }

  pub length-written : (row : Option (List Cell)) → WrittenRow i c row old new kinds → length new ≡ length old
  length-written row is = ap length is.words ∙ length-with_part i c old is.part within is.size

module _ (w : Widths) (hs : List Head) (fs : List Value) (rs : List ℤ) (ws : List Window) (laid : IsLaidOut w hs fs rs ws) (i : ℕ) (h : i < length hs) where
  -- where the window that stands is written, it is there
  stood_there : (s : Standing) → HasWindow w.windows s → HasStood s (slice_get (with_window i ws (window_stood s)) i)
  stood_there standing.Unfired has = tt
  stood_there (standing.Row None columns) has = no_window w hs fs rs ws laid i h (sym has)
  stood_there (standing.Row (Some u) columns) has = kept_there w hs fs rs ws laid i h u ∙ ap (λ b. cond b (Some u) None) (sym has)
  stood_there standing.Joined has = tt

  -- to write a head with all that its pane has is to set the entry
  module _ (place : Place) (pane : Pane (List Value)) (wide : IsAsWide w pane) (kinds : ℕ) (ys : List ℤ) (row : WrittenRow i w.columns (standing_row pane.stands) rs ys kinds) where
    set_pane : entries_by w.accumulators w.columns (set hs i (head_of place pane kinds)) (with_any i fs pane.folded) ys (with_window i ws (window_stood pane.stands)) ≡ set (entries_by w.accumulators w.columns hs fs rs ws) i (Some (place, pane))
    set_pane =
        let x = head_of place pane kinds in
        let f = any_or pane.folded (part_at i w.accumulators fs) in
        let vs = with_window i ws (window_stood pane.stands) in
        let folds_in = part_ends i w.accumulators fs (has_folds w hs fs rs ws laid i h) in let row_in = part_ends i w.columns rs (has_row w hs fs rs ws laid i h) in
        (λ k. entries_by w.accumulators w.columns (set hs i x) (with_any_is i w.accumulators fs pane.folded wide.folds k) (row.words k) vs)
        ∙ entries_set w.accumulators w.columns hs fs rs ws i x f row.part (window_stood pane.stands) h folds_in row_in (length-any_or i w.accumulators fs pane.folded folds_in wide.folds) row.size
        ∙ ap (set (entries_by w.accumulators w.columns hs fs rs ws) i) (entry_of_pane place pane kinds (part_at i w.accumulators fs) (cells_by kinds row.part) (slice_get vs i) (stood_there pane.stands wide.window) row.cells)

    -- with the values that it has
    pub put_is : (x : Head) (xs : List Value) (zs : List ℤ) (vs : List Window) → x ≡ head_of place pane kinds → xs ≡ with_any i fs pane.folded → zs ≡ ys → vs ≡ with_window i ws (window_stood pane.stands)
        → entries_by w.accumulators w.columns (set hs i x) xs zs vs ≡ set (entries_by w.accumulators w.columns hs fs rs ws) i (Some (place, pane))
    put_is x xs zs vs head folds words window = (λ k. entries_by w.accumulators w.columns (set hs i (head k)) (folds k) (words k) (window k)) ∙ set_pane

  module _ (mode : Mode) (x : Head) (kept : w.windows ≡ retracts mode) where
    abbrev fired_window : Option Window
    fired_window = Some (window_of (place_by x))

    window_is : slice_get (with_window i ws fired_window) i ≡ kept_window mode (window_of (place_by x))
    window_is = kept_there w hs fs rs ws laid i h (window_of (place_by x)) ∙ ap (λ b. cond b (Some (window_of (place_by x))) None) kept

    -- to write a head that fired, its window, and the row if there is one, is to have the entry have fired
    pub set_fired : (o : Option (List Cell)) (kinds : ℕ) (ys : List ℤ) → WrittenRow i w.columns o rs ys kinds
        → entries_by w.accumulators w.columns (set hs i (head_fired mode (is_some o) kinds x)) fs ys (with_window i ws fired_window)
        ≡ set (entries_by w.accumulators w.columns hs fs rs ws) i (option_map (λ e. (e.0, once_fired mode e.0 o e.1)) (entry_by x (part_at i w.accumulators fs) (cells_by x.kinds (part_at i w.columns rs)) (slice_get ws i)))
    set_fired o kinds ys row =
        let y = head_fired mode (is_some o) kinds x in
        ap (λ zs. entries_by w.accumulators w.columns (set hs i y) fs zs (with_window i ws fired_window)) row.words
        ∙ set_row w hs fs rs ws laid i h y row.part fired_window row.size
        ∙ ap (λ v. set (entries_by w.accumulators w.columns hs fs rs ws) i (entry_by y (part_at i w.accumulators fs) (cells_by kinds row.part) v)) window_is
        ∙ ap (set (entries_by w.accumulators w.columns hs fs rs ws) i) (entry_is o (cells_by kinds row.part) row.cells)
      where
        entry_is : (o : Option (List Cell)) (r : List Cell) → IsRow o r → entry_by (head_fired mode (is_some o) kinds x) (part_at i w.accumulators fs) r (kept_window mode (window_of (place_by x)))
            ≡ option_map (λ e. (e.0, once_fired mode e.0 o e.1)) (entry_by x (part_at i w.accumulators fs) (cells_by x.kinds (part_at i w.columns rs)) (slice_get ws i))
        entry_is None r is = fired_without mode x (part_at i w.accumulators fs) (cells_by x.kinds (part_at i w.columns rs)) (slice_get ws i) kinds r
        entry_is (Some row) r is =
            ap (λ s. entry_by (head_fired mode true kinds x) (part_at i w.accumulators fs) s (kept_window mode (window_of (place_by x)))) is
            ∙ fired_with mode x (part_at i w.accumulators fs) (cells_by x.kinds (part_at i w.columns rs)) (slice_get ws i) kinds row

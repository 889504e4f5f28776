-- Windows that are assigned to a record by its time alone, fixed or sliding: where records stand,
-- and what a record does to the panes that are held.
use Rattle.std.proofs.Common.{◌≡◌, ℕ, zero, suc, Bool, true, false, ◌&&◌, ◌||◌, List, [], ◌∷◌, map, ℤ, refl, sym, ap, subst, ◌∙◌, arith}
use Rattle.std.proofs.lemmas.Int.{ints}
use Rattle.std.proofs.lemmas.Bool.{true≢false, eqb-true, and_parts, and_from}
use Rattle.std.specs.Prelude.{Contains, flat_map, nat_eq}
use Rattle.std.specs.List.{list_any}
use Rattle.std.specs.Ordering.{eq_by_cmp, is_eq}
use Rattle.std.specs.Cmp.{tied_itself}
use Rattle.wsm_windows.specs.declared.window.Window.{Window}
use Rattle.wsm_windows.specs.declared.window.Shape.{Shape}
use Rattle.wsm_windows.specs.declared.window.Shape.TheVariants.{Fixed, Sliding, Session}
use Rattle.wsm_windows.specs.Windows.{has_inside, IsWindowOf, IsWindowOfShape, IsShape}
use Rattle.wsm_windows.specs.Life.{is_live, live_windows_of}
use Rattle.wsm_windows.proofs.LiveWindows.{exactly_live, past_mark, at_mark}
use Rattle.wsm_windows.specs.declared.place.Place.{Place}
use Rattle.wsm_windows.specs.Places.{place_cmp, at, window_of}
use Rattle.wsm_windows.proofs.Places.{tie_is, places_total}
use Rattle.wsm_semantics.specs.Query.{Datum}
use Rattle.wsm_semantics.specs.Panes.{windows_among, stands_in}
use Rattle.wsm_semantics.proofs.Tables.{among}
use Rattle.wsm_semantics.proofs.Each.{itself, list_any-append, same_answers}
-- what both of two tests say
pub use Rattle.std.proofs.lemmas.Bool.{and_parts as both}

-- each window is assigned by a record's time alone
abbrev pub IsAssigned : Shape → Type 0
IsAssigned (Fixed size) = Unit {0}
IsAssigned (Sliding size period) = Unit {0}
IsAssigned (Session gap) = ⊥

pub tied : (p r : Place) → p ≡ r → eq_by_cmp place_cmp p r ≡ true
tied p r e = subst (λ (x : Place). eq_by_cmp place_cmp p x ≡ true) e (ap is_eq (tied_itself places_total p))

pub contains_among : (k : ℕ) (ws : List Window) (w : Window) → Contains ws w → among (at k w) (map (at k) ws) ≡ true
contains_among k [] w (i, less, e) = absurd (omega arith)
contains_among k (x ∷ xs) w (zero, less, e) = ap (λ (b : Bool). b || among (at k w) (map (at k) xs)) (tied (at k w) (at k x) (ap (at k) (sym e)))
contains_among k (x ∷ xs) w (suc i, less, e) =
    let later : among (at k w) (map (at k) xs) ≡ true = contains_among k xs w (i, omega arith, e) in
    elim (eq_by_cmp place_cmp (at k w) (at k x)) as (λ b. (b || among (at k w) (map (at k) xs)) ≡ true) [ true ↦ refl | false ↦ later ]

among_contains : (p : Place) (k : ℕ) (ws : List Window) → among p (map (at k) ws) ≡ true → (w : Window) × Contains ws w × (p ≡ at k w)
among_contains p k [] h = absurd (true≢false (sym h))
among_contains p k (x ∷ xs) h =
    elim (eq_by_cmp place_cmp p (at k x)) as (λ b. eq_by_cmp place_cmp p (at k x) ≡ b → (b || among p (map (at k) xs)) ≡ true → (w : Window) × Contains (x ∷ xs) w × (p ≡ at k w)) [
      | true ↦ λ e _. (x, (0, omega arith, refl), tie_is p (at k x) e)
      | false ↦ λ e h. let (w, (i, less, is), same) = among_contains p k xs h in (w, (suc i, omega arith, is), same)
    ] refl h

pub windows_assigned : (shape : Shape) (l : ℤ) → IsAssigned shape → (ds : List Datum) (d : Datum) → windows_among shape l ds d ≡ live_windows_of shape d.time l d.mark
windows_assigned (Fixed size) l a ds d = refl
windows_assigned (Sliding size period) l a ds d = refl
windows_assigned (Session gap) l a ds d = absurd a

-- inside, and live before the record's turn
stands_parts : (shape : Shape) (l : ℤ) → IsAssigned shape → (w : Window) (d : Datum) → stands_in shape l w d ≡ true → (has_inside d.time w ≡ true) × (is_live w l d.mark ≡ true)
stands_parts (Fixed size) l a w d h = and_parts _ _ h
stands_parts (Sliding size period) l a w d h = and_parts _ _ h
stands_parts (Session gap) l a w d h = absurd a

stands_from : (shape : Shape) (l : ℤ) → IsAssigned shape → (w : Window) (d : Datum) → has_inside d.time w ≡ true → is_live w l d.mark ≡ true → stands_in shape l w d ≡ true
stands_from (Fixed size) l a w d h k = and_from _ _ h k
stands_from (Sliding size period) l a w d h k = and_from _ _ h k
stands_from (Session gap) l a w d h k = absurd a

inside_grid : (size period t : ℤ) (w : Window) → IsWindowOf size period t w → has_inside t w ≡ true
inside_grid size period t w h = let from = h.from in let until = h.until in grind (arith, ints)

inside_of : (shape : Shape) → IsAssigned shape → (t : ℤ) (w : Window) → IsWindowOfShape shape t w → has_inside t w ≡ true
inside_of (Fixed size) a t w h = inside_grid size size t w h
inside_of (Sliding size period) a t w h = inside_grid size period t w h
inside_of (Session gap) a t w h = absurd a

moved_grid : (size period u t : ℤ) (w : Window) → IsWindowOf size period u w → has_inside t w ≡ true → IsWindowOf size period t w
moved_grid size period u t w h i = record { k = h.k; start = h.start; end = h.end; from = grind (arith, ints); until = grind (arith, ints) }

-- a window is one of each time that is inside
moved : (shape : Shape) → IsAssigned shape → (u t : ℤ) (w : Window) → IsWindowOfShape shape u w → has_inside t w ≡ true → IsWindowOfShape shape t w
moved (Fixed size) a u t w h i = moved_grid size size u t w h i
moved (Sliding size period) a u t w h i = moved_grid size period u t w h i
moved (Session gap) a u t w h i = absurd a

module _ (shape : Shape) (l : ℤ) (ok : IsShape shape) (assigned : IsAssigned shape) where
  -- the windows of a record that were live before its turn
  abbrev pub windows : Datum → List Window
  windows d = live_windows_of shape d.time l d.mark

  -- where a record stands
  abbrev pub stands : Datum → List Place
  stands d = map (at d.key) (windows d)

  -- the record stands there
  abbrev pub there : Place → Datum → Bool
  there p d = nat_eq d.key p.key && stands_in shape l (window_of p) d

  -- the window of some time
  abbrev pub OnGrid : Place → Type 0
  OnGrid p = (u : ℤ) × IsWindowOfShape shape u (window_of p)

  pub on_grid : (p : Place) (d : Datum) → among p (stands d) ≡ true → OnGrid p
  on_grid p d h =
      let (w, c, is) = among_contains p d.key (windows d) h in
      let live = (exactly_live shape d.time l d.mark (windows d) ok refl w).0 c in
      (d.time, subst (λ (r : Place). IsWindowOfShape shape d.time (window_of r)) (sym is) live.of_time)

  stands_there : (p : Place) (d : Datum) → among p (stands d) ≡ true → there p d ≡ true
  stands_there p d h =
      let (w, c, is) = among_contains p d.key (windows d) h in
      let live = (exactly_live shape d.time l d.mark (windows d) ok refl w).0 c in
      subst (λ (r : Place). there r d ≡ true) (sym is)
      (rw (itself d.key) (stands_from shape l assigned w d (inside_of shape assigned d.time w live.of_time) (at_mark w l d.mark live.live)))

  -- where a record stands was live before its turn
  pub live_there : (p : Place) (d : Datum) → there p d ≡ true → is_live (window_of p) l d.mark ≡ true
  live_there p d h = (stands_parts shape l assigned (window_of p) d (and_parts _ _ h).1).1

  there_stands : (p : Place) → OnGrid p → (d : Datum) → there p d ≡ true → among p (stands d) ≡ true
  there_stands p (u, grid) d h =
      let (k, i) = and_parts _ _ h in
      let parts = stands_parts shape l assigned (window_of p) d i in
      let c : Contains (windows d) (window_of p) =
      (exactly_live shape d.time l d.mark (windows d) ok refl (window_of p)).1
      (record { of_time = moved shape assigned u d.time (window_of p) grid parts.0; live = past_mark (window_of p) l d.mark parts.1 }) in
      subst (λ (r : Place). among r (stands d) ≡ true) (ap (λ (j : ℕ). at j (window_of p)) (eqb-true d.key p.key k)) (contains_among d.key (windows d) (window_of p) c)

  -- a place on the grid is a record's exactly where the record stands in it
  pub own : (p : Place) → OnGrid p → (d : Datum) → among p (stands d) ≡ there p d
  own p grid d = same_answers _ _ (stands_there p d) (there_stands p grid d)

  pub among_all : (p : Place) → OnGrid p → (ds : List Datum) → among p (flat_map stands ds) ≡ list_any (there p) ds
  among_all p grid [] = refl
  among_all p grid (d ∷ ds) = list_any-append (eq_by_cmp place_cmp p) (stands d) (flat_map stands ds) ∙ (λ i. own p grid d i || among_all p grid ds i)

  pub on_grid_all : (p : Place) (ds : List Datum) → among p (flat_map stands ds) ≡ true → OnGrid p
  on_grid_all p [] h = absurd (true≢false (sym h))
  on_grid_all p (d ∷ ds) h =
      elim (among p (stands d)) as (λ b. among p (stands d) ≡ b → (b || among p (flat_map stands ds)) ≡ true → OnGrid p) [
        | true ↦ λ e _. on_grid p d e
        | false ↦ λ e h. on_grid_all p ds h
      ] refl (sym (list_any-append (eq_by_cmp place_cmp p) (stands d) (flat_map stands ds)) ∙ h)

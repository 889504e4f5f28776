-- The rows that stand for panes as one of them changes, by their counts.
use Rattle.std.proofs.Common.{◌≡◌, ℕ, suc, ◌+◌, ◌≤◌, Bool, true, false, cond, T, List, [], ◌∷◌, length, Option, Some, None, refl, sym, ap, ◌∙◌, arith}
use Rattle.std.specs.List.{cons_option}
use Rattle.std.specs.Ordering.{is_eq, is_lt}
use Rattle.std.specs.declared.cmp.Ordering.{Ordering}
use Rattle.std.specs.declared.cmp.Ordering.TheVariants.{Less, Equal, Greater}
use Rattle.std.specs.FinMap.Entries.{put, find, is_sorted, below_all, by_order}
use Rattle.wsm_record.specs.declared.event.Value.{Value}
use Rattle.wsm_record.specs.declared.cell.Cell.{Cell}
use Rattle.wsm_windows.specs.declared.place.Place.{Place}
use Rattle.wsm_windows.specs.Places.{place_cmp}
use Rattle.wsm_windows.proofs.Places.{places_total}
use Rattle.wsm_semantics.specs.Summaries.{Pane, standing_row}
use Rattle.wsm_relation.specs.Rows.{count_of}
use Rattle.wsm_semantics.proofs.RowBags.{once}
use Rattle.wsm_firing.specs.Streams.{Told, IsTold, AreAlike, CanTell, CanLose, CanGain, Tells, standing_rows}
use Rattle.wsm_slots.proofs.Order.{lesser}
use Rattle.wsm_firing.proofs.AtPlace.{first_of, second_of}
use Rattle.wsm_firing.proofs.StreamRows.{Rows, told_same}

-- how often a row is there, where there is one
abbrev pub count_in : List Cell → Option (List Cell) → ℕ
count_in q None = 0
count_in q (Some r) = once q r

pub count_cons : (q : List Cell) (o : Option (List Cell)) (rows : Rows) → count_of q (cons_option o rows) ≡ count_in q o + count_of q rows
count_cons q None rows = omega arith
count_cons q (Some r) rows = refl

pub length_cons : (o : Option (List Cell)) (rows : Rows) → length (cons_option o rows) ≤ suc (length rows)
length_cons None rows = omega arith
length_cons (Some r) rows = omega arith

-- what the records of a pane are folded to
abbrev pub Folded : Type 0
Folded = List Value

abbrev pub Panes : Type 0
Panes = List (Place × Pane Folded)

abbrev pub row_at : Pane Folded → Option (List Cell)
row_at h = standing_row h.stands

-- the row at a place, if one stands there
abbrev pub row_found : Option (Pane Folded) → Option (List Cell)
row_found None = None
row_found (Some h) = standing_row h.stands

-- the panes but the one at a place
abbrev pub without : Place → Panes → Panes
without p [] = []
without p (e ∷ es) = cond (is_eq (place_cmp p e.0)) es (e ∷ without p es)

pub few_rows : (es : Panes) → length (standing_rows es) ≤ length es
few_rows [] = omega arith
few_rows (e ∷ es) = omega (arith, few_rows es, length_cons (row_at e.1) (standing_rows es))

count_here : (q : List Cell) (b : Bool) (e : Place × Pane Folded) (es rest : Panes) (o : Option (Pane Folded)) → count_of q (standing_rows es) ≡ count_in q (row_found o) + count_of q (standing_rows rest) →
    count_of q (standing_rows (e ∷ es)) ≡ count_in q (row_found (cond b (Some e.1) o)) + count_of q (standing_rows (cond b es (e ∷ rest)))
count_here q true e es rest o h = count_cons q (row_at e.1) (standing_rows es)
count_here q false e es rest o h = omega (arith, h, count_cons q (row_at e.1) (standing_rows es), count_cons q (row_at e.1) (standing_rows rest))

-- the rows are that at the place and those of the others
pub count_found : (q : List Cell) (p : Place) (es : Panes) → count_of q (standing_rows es) ≡ count_in q (row_found (find place_cmp p es)) + count_of q (standing_rows (without p es))
count_found q p [] = refl
count_found q p (e ∷ es) = count_here q (is_eq (place_cmp p e.0)) e es (without p es) (find place_cmp p es) (count_found q p es)

further : (p x : Place) (es : Panes) → place_cmp p x ≡ Less → T (below_all place_cmp x es) → without p es ≡ es
further p x [] less below = refl
further p x (e ∷ es) less below =
    let next : place_cmp p e.0 ≡ Less = places_total.trans p x e.0 less (lesser _ (first_of (is_lt (place_cmp x e.0)) (below_all place_cmp x es) below)) in
    rw next (ap (λ (fs : Panes). e ∷ fs) (further p x es less (second_of (is_lt (place_cmp x e.0)) (below_all place_cmp x es) below)))

-- once a pane is put there, its row and those of the others
pub count_put : (q : List Cell) (p : Place) (h : Pane Folded) (es : Panes) → T (is_sorted place_cmp es) → count_of q (standing_rows (put place_cmp p h es)) ≡ count_in q (row_at h) + count_of q (standing_rows (without p es))
count_put q p h [] sorted = count_cons q (row_at h) []
count_put q p h (e ∷ es) sorted =
    let rest = count_put q p h es (second_of (below_all place_cmp e.0 es) (is_sorted place_cmp es) sorted) in
    elim (place_cmp p e.0) as (λ o. place_cmp p e.0 ≡ o → count_of q (standing_rows (by_order o ((p, h) ∷ e ∷ es) ((e.0, h) ∷ es) (e ∷ put place_cmp p h es))) ≡ count_in q (row_at h) + count_of q (standing_rows (cond (is_eq o) es (e ∷ without p es)))) [
      | Less ↦ λ less.
          let same : without p es ≡ es = further p e.0 es less (first_of (below_all place_cmp e.0 es) (is_sorted place_cmp es) sorted) in
          rw same (count_cons q (row_at h) (standing_rows (e ∷ es)))
      | Equal ↦ λ tie. count_cons q (row_at h) (standing_rows es)
      | Greater ↦ λ more. omega (arith, rest, count_cons q (row_at e.1) (standing_rows (put place_cmp p h es)), count_cons q (row_at e.1) (standing_rows (without p es)))
    ] refl

fewer_here : (b : Bool) (h : Pane Folded) (e : Place × Pane Folded) (es rest : Panes) (o : Option (Pane Folded)) → cond b (Some e.1) o ≡ Some h → (o ≡ Some h → suc (length rest) ≡ length es) → suc (length (cond b es (e ∷ rest))) ≡ suc (length es)
fewer_here true h e es rest o is f = refl
fewer_here false h e es rest o is f = ap suc (f is)

pub fewer : (p : Place) (h : Pane Folded) (es : Panes) → find place_cmp p es ≡ Some h → suc (length (without p es)) ≡ length es
fewer p h [] is = absurd (cc)
fewer p h (e ∷ es) is = fewer_here (is_eq (place_cmp p e.0)) h e es (without p es) (find place_cmp p es) is (fewer p h es)

more_here : (o : Ordering) (p : Place) (v h : Pane Folded) (e : Place × Pane Folded) (es rest : Panes) (f : Option (Pane Folded)) → (f ≡ Some h → length rest ≡ length es) → (o ≡ Less → f ≡ None) → cond (is_eq o) (Some e.1) f ≡ Some h →
    length (by_order o ((p, v) ∷ e ∷ es) ((e.0, v) ∷ es) (e ∷ rest)) ≡ suc (length es)
more_here Less p v h e es rest f same none is = absurd (let k : None ≡ Some h = sym (none refl) ∙ is in cc)
more_here Equal p v h e es rest f same none is = refl
more_here Greater p v h e es rest f same none is = ap suc (same is)

none_further : (p x : Place) (es : Panes) → place_cmp p x ≡ Less → T (below_all place_cmp x es) → find place_cmp p es ≡ None
none_further p x [] less below = refl
none_further p x (e ∷ es) less below =
    let next : place_cmp p e.0 ≡ Less = places_total.trans p x e.0 less (lesser _ (first_of (is_lt (place_cmp x e.0)) (below_all place_cmp x es) below)) in
    rw next (none_further p x es less (second_of (is_lt (place_cmp x e.0)) (below_all place_cmp x es) below))

-- a pane that is replaced leaves as many
pub as_many_put : (p : Place) (v h : Pane Folded) (es : Panes) → T (is_sorted place_cmp es) → find place_cmp p es ≡ Some h → length (put place_cmp p v es) ≡ length es
as_many_put p v h [] sorted is = absurd (cc)
as_many_put p v h (e ∷ es) sorted is =
    more_here (place_cmp p e.0) p v h e es (put place_cmp p v es) (find place_cmp p es) (as_many_put p v h es (second_of (below_all place_cmp e.0 es) (is_sorted place_cmp es) sorted))
    (λ less. none_further p e.0 es less (first_of (below_all place_cmp e.0 es) (is_sorted place_cmp es) sorted)) is

-- ---- a pane that is held is replaced

module _ (p : Place) (h : Pane Folded) (es : Panes) (sorted : T (is_sorted place_cmp es)) (there : find place_cmp p es ≡ Some h) where
  abbrev rest : Rows
  rest = standing_rows (without p es)

  count_there : (q : List Cell) → count_of q (standing_rows es) ≡ count_of q (cons_option (row_at h) rest)
  count_there q = count_found q p es ∙ ap (λ (o : Option (Pane Folded)). count_in q (row_found o) + count_of q rest) there ∙ sym (count_cons q (row_at h) rest)

  few_rest : (o : Option (List Cell)) → length (cons_option o rest) ≤ length es
  few_rest o = omega (arith, length_cons o rest, few_rows (without p es), fewer p h es there)

  pub can_lose : (s : Told) → CanTell s es → CanLose s (row_at h)
  can_lose s can = record {
    before = can.before;
    rest = rest;
    told = told_same s.form s.numbers can.before (standing_rows es) (cons_option (row_at h) rest) count_there can.told;
    within = record { few_before = can.few_before; few_now = omega (arith, few_rest (row_at h), can.few) };
  }

  module _ (s t : Told) (lost : (before now : Rows) → IsTold s before (cons_option (row_at h) now) → IsTold t before now) where
    told_lost : (before : Rows) → IsTold s before (standing_rows es) → IsTold t before rest
    told_lost before told = lost before rest (told_same s.form s.numbers before (standing_rows es) (cons_option (row_at h) rest) count_there told)

    pub can_gain : AreAlike s t → (o : Option (List Cell)) → CanTell s es → CanGain t o
    can_gain alike o can = record {
      before = can.before;
      now = rest;
      told = told_lost can.before can.told;
      within = record { few_before = omega (arith, can.few_before, alike.room); few_now = omega (arith, few_rest o, can.few, alike.room) };
    }

    pub tells_fired : (u : Told) (v : Pane Folded) → AreAlike s t → AreAlike t u → ((before now : Rows) → IsTold t before now → IsTold u before (cons_option (row_at v) now)) → Tells s u es (put place_cmp p v es)
    tells_fired u v alike then gained = record {
      told = λ before told. told_same u.form u.numbers before (cons_option (row_at v) rest) (standing_rows (put place_cmp p v es)) (λ q. count_cons q (row_at v) rest ∙ sym (count_put q p v es sorted)) (gained before rest (told_lost before told));
      alike = record { form = then.form ∙ alike.form; room = then.room ∙ alike.room };
      as_many = as_many_put p v h es sorted there;
    }

-- ---- one after another

pub tells_none : (s : Told) (es : Panes) → Tells s s es es
tells_none s es = record { told = λ before told. told; alike = record { form = refl; room = refl }; as_many = refl }

pub tells_on : (s t u : Told) (es fs gs : Panes) → Tells s t es fs → Tells t u fs gs → Tells s u es gs
tells_on s t u es fs gs a b = record {
  told = λ before told. b.told before (a.told before told);
  alike = record { form = b.alike.form ∙ a.alike.form; room = b.alike.room ∙ a.alike.room };
  as_many = b.as_many ∙ a.as_many;
}

pub can_tell_on : (s t : Told) (es fs : Panes) → Tells s t es fs → CanTell s es → CanTell t fs
can_tell_on s t es fs tells can = record {
  before = can.before;
  told = tells.told can.before can.told;
  few_before = omega (arith, can.few_before, tells.alike.room);
  few = omega (arith, can.few, tells.alike.room, tells.as_many);
}

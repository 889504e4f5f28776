-- What was fired so far with what is left to fire comes to all firings.
use Rattle.std.proofs.Common.{◌≡◌, ℕ, suc, ◌+◌, ◌^◌, ◌<◌, ◌≤◌, max, List, [], ◌∷◌, ◌++◌, map, length, Option, Some, None, refl, sym, ap, subst, ◌∙◌, arith, append_assoc, append-nil, length-append}
use Rattle.std.proofs.lemmas.List.Elements.{filter_map-append}
use Rattle.std.specs.Prelude.{sum, fold, filter_map}
use Rattle.std.specs.List.{AllByRecursion, cons_option}
use Rattle.wsm_record.specs.declared.event.Value.{Value}
use Rattle.wsm_record.specs.declared.words.Form.{Form}
use Rattle.wsm_record.specs.declared.words.Form.TheVariants as form
use Rattle.wsm_semantics.specs.declared.out_row.OutRow.{OutRow}
use Rattle.wsm_semantics.specs.Summaries.{Fired, row_of}
use Rattle.wsm_semantics.specs.Relation.{chosen_rows}
use Rattle.wsm_program.specs.Program.{Program}
use Rattle.wsm_machine.specs.Meaning.{plan_of, pane_cost_by}
use Rattle.wsm_machine.specs.Sound.{MayFire}
use Rattle.wsm_panes.specs.Held.{Held, IsKept}
use Rattle.wsm_firing.specs.declared.tally.Tally.{Tally}
use Rattle.wsm_firing.specs.Tally.{greatest, nothing, tally_of, tally_with}
use Rattle.wsm_firing.specs.Firing.{rows_of, CanAdd}

-- ---- tallies

tally_is : (a b : Tally) → a.fired ≡ b.fired → a.steps_max ≡ b.steps_max → a.steps_total ≡ b.steps_total → a ≡ b
tally_is a b f m t i = record { fired = f i; steps_max = m i; steps_total = t i }

fold_sum : (a : ℕ) (ns : List ℕ) → fold (λ x n. x + n) a ns ≡ a + sum ns
fold_sum a [] = omega arith
fold_sum a (n ∷ ns) = omega (arith, fold_sum (a + n) ns, fold_sum (0 + n) ns)

module _ (p : Program) where
  abbrev Firings : Type 0
  Firings = List (Fired (List Value))

  tally-append : (t : Tally) (xs ys : Firings) → tally_with p (tally_with p t xs) ys ≡ tally_with p t (xs ++ ys)
  tally-append t [] ys = refl
  tally-append t (f ∷ fs) ys = tally-append (tally_with p t (f ∷ [])) fs ys

  counted : (t : Tally) (fs : Firings) → (tally_with p t fs).fired ≡ t.fired + length fs
  counted t [] = omega arith
  counted t (f ∷ fs) = omega (arith, counted (tally_with p t (f ∷ [])) fs)

  most : (t : Tally) (fs : Firings) → (tally_with p t fs).steps_max ≡ max t.steps_max (greatest (map (pane_cost_by p) fs))
  most t [] = omega arith
  most t (f ∷ fs) = omega (arith, most (tally_with p t (f ∷ [])) fs)

  total : (t : Tally) (fs : Firings) → (tally_with p t fs).steps_total ≡ t.steps_total + sum (map (pane_cost_by p) fs)
  total t [] = omega arith
  total t (f ∷ fs) = omega (arith, total (tally_with p t (f ∷ [])) fs, fold_sum (0 + pane_cost_by p f) (map (pane_cost_by p) fs))

  pub tally_all : (fs : Firings) → tally_with p nothing fs ≡ tally_of p fs
  tally_all fs = tally_is _ _ (omega (arith, counted nothing fs)) (omega (arith, most nothing fs)) (omega (arith, total nothing fs))

  -- ---- rows

  chosen-append : (f : Form) (xs ys : List OutRow) → chosen_rows f (xs ++ ys) [] ≡ chosen_rows f xs [] ++ chosen_rows f ys []
  chosen-append form.Panes xs ys = refl
  chosen-append form.Istream xs ys = refl
  chosen-append form.Dstream xs ys = refl
  chosen-append form.Rstream xs ys = refl

  rows-append : (xs ys : Firings) → rows_of p (xs ++ ys) ≡ rows_of p xs ++ rows_of p ys
  rows-append xs ys = ap (λ rs. chosen_rows p.header.form rs []) (filter_map-append (row_of (plan_of p)) xs ys) ∙ chosen-append p.header.form (filter_map (row_of (plan_of p)) xs) (filter_map (row_of (plan_of p)) ys)

  -- a firing writes a row at most
  few_chosen : (f : Form) (rs : List OutRow) → length (chosen_rows f rs []) ≤ length rs
  few_chosen form.Panes rs = omega arith
  few_chosen form.Istream rs = omega arith
  few_chosen form.Dstream rs = omega arith
  few_chosen form.Rstream rs = omega arith

  few_rows : (fs : Firings) → length (rows_of p fs) ≤ length fs
  few_rows fs = omega (arith, few_chosen p.header.form (filter_map (row_of (plan_of p)) fs), few_mapped (row_of (plan_of p)) fs)
    where
      few_mapped : {A B : Type 0} (f : A → Option B) (xs : List A) → length (filter_map f xs) ≤ length xs
      few_mapped f [] = omega arith
      few_mapped f (x ∷ xs) = elim (f x) as (λ o. length (cons_option o (filter_map f xs)) ≤ suc (length xs)) [
        | None ↦ omega (arith, few_mapped f xs)
        | Some y ↦ omega (arith, few_mapped f xs)
      ]

  -- ---- what is left

  -- the rows and the tally so far, with those of what is left, are those of all behind the rows before
  pub record ComesTo (capacity : ℕ) (before : List OutRow) (tally : Tally) (rows : List OutRow) (left all : Firings) : Type 0 where
    pub tallied : tally_with p tally left ≡ tally_of p all
    pub written : rows ++ rows_of p left ≡ before ++ rows_of p all
    pub each : AllByRecursion (MayFire p) left
    pub room : length rows + length left ≤ capacity
    pub fired : length all < 2 ^ 64
    pub steps : (tally_of p all).steps_total < 2 ^ 64

  pub first : (capacity n : ℕ) (tally : Tally) (rows : List OutRow) (fs : Firings) → tally ≡ nothing → n ≡ length rows → CanAdd p capacity n nothing fs → ComesTo capacity rows tally rows fs fs
  first capacity n tally rows fs none many can = record {
    tallied = ap (λ (t : Tally). tally_with p t fs) none ∙ tally_all fs;
    written = refl;
    each = can.each;
    room = omega (arith, can.room, many);
    fired = omega (arith, can.fired);
    steps = subst (λ (t : Tally). t.steps_total < 2 ^ 64) (tally_all fs) can.steps;
  }

  split_each : (xs ys : Firings) → AllByRecursion (MayFire p) (xs ++ ys) → AllByRecursion (MayFire p) xs × AllByRecursion (MayFire p) ys
  split_each [] ys h = (tt, h)
  split_each (x ∷ xs) ys h = let rest = split_each xs ys h.1 in ((h.0, rest.0), rest.1)

  module _ (capacity : ℕ) (before : List OutRow) (tally : Tally) (rows : List OutRow) (some left all : Firings) (so_far : ComesTo capacity before tally rows (some ++ left) all) where
    all_fired_is : (t : Tally) → t ≡ tally_of p all → t.fired ≡ length all
    all_fired_is t is = ap (λ (t : Tally). t.fired) is

    -- some of them can be next
    pub can_add : CanAdd p capacity (length rows) tally some
    can_add = record {
      each = (split_each some left so_far.each).0;
      room = omega (arith, so_far.room, length-append some left);
      fired = omega (arith, so_far.fired, counted tally (some ++ left), all_fired_is _ so_far.tallied, length-append some left);
      steps = less _ (ap (λ (t : Tally). t.steps_total) (tally-append tally some left ∙ so_far.tallied)) so_far.steps;
    } where
      less : (m : ℕ) → (tally_with p (tally_with p tally some) left).steps_total ≡ m → m < 2 ^ 64 → (tally_with p tally some).steps_total < 2 ^ 64
      less m is l = omega (arith, is, l, total (tally_with p tally some) left)

    -- once they fired
    pub next : ComesTo capacity before (tally_with p tally some) (rows ++ rows_of p some) left all
    next = record {
      tallied = tally-append tally some left ∙ so_far.tallied;
      written = append_assoc rows (rows_of p some) (rows_of p left) ∙ ap (λ rs. rows ++ rs) (sym (rows-append some left)) ∙ so_far.written;
      each = (split_each some left so_far.each).1;
      room = omega (arith, so_far.room, length-append rows (rows_of p some), length-append some left, few_rows some);
      fired = so_far.fired;
      steps = so_far.steps;
    }

  none_chosen : (f : Form) → chosen_rows f [] [] ≡ []
  none_chosen form.Panes = refl
  none_chosen form.Istream = refl
  none_chosen form.Dstream = refl
  none_chosen form.Rstream = refl

  -- no firing writes or counts anything
  pub no_rows : (rows : List OutRow) (fs : Firings) → fs ≡ [] → rows ≡ rows ++ rows_of p fs
  no_rows rows fs none = sym (ap (λ fs. rows ++ rows_of p fs) none ∙ ap (λ rs. rows ++ rs) (none_chosen p.header.form) ∙ append-nil rows)

  pub no_tally : (t : Tally) (fs : Firings) → fs ≡ [] → t ≡ tally_with p t fs
  no_tally t fs none = sym (ap (tally_with p t) none)

  -- nothing is left
  pub last_tally : (capacity : ℕ) (before : List OutRow) (tally : Tally) (rows : List OutRow) (left all : Firings) → left ≡ [] → ComesTo capacity before tally rows left all → tally ≡ tally_of p all
  last_tally capacity before tally rows left all none so_far = no_tally tally left none ∙ so_far.tallied

  pub last_rows : (capacity : ℕ) (before : List OutRow) (tally : Tally) (rows : List OutRow) (left all : Firings) → left ≡ [] → ComesTo capacity before tally rows left all → rows ≡ before ++ rows_of p all
  last_rows capacity before tally rows left all none so_far = no_rows rows left none ∙ so_far.written

pub kept_on : (a b c : Held) → IsKept a b → IsKept b c → IsKept a c
kept_on a b c h k = record { keys = k.keys ∙ h.keys; shape = k.shape ∙ h.shape; live = k.live ∙ h.live; widths = k.widths ∙ h.widths }

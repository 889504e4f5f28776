-- A turn of a verified program executes at most as many instructions as it states for a record, and a
-- firing at most as many as it states for a pane.
use Rattle.std.proofs.Common.{◌≡◌, ℕ, zero, suc, ◌+◌, ◌-◌, ◌*◌, ◌/◌, ◌%◌, ◌<◌, ◌≤◌, min, Bool, true, false, cond, List, [], ◌∷◌, length, ℤ, None, Ok, IsTrue, refl, sym, ap, subst, ◌∙◌, arith, length-append}
use Rattle.std.proofs.lemmas.Int.{ints}
use Rattle.std.proofs.Math.Nat.{div-lt_iff_lt-mul, div-add-mod'}
use Rattle.std.specs.Prelude.{◌-ℤ◌, unsigned_abs, option_map}
use Rattle.std.specs.Int.{div_ceil}
use Rattle.std.proofs.lemmas.Bool.{ltb-false}
use Rattle.wsm_record.specs.declared.event.Value.{Value}
use Rattle.wsm_windows.specs.declared.window.Shape.{Shape}
use Rattle.wsm_windows.specs.declared.window.Shape.TheVariants.{Fixed, Sliding, Session}
use Rattle.wsm_windows.specs.Windows.{IsShape, has_inside, last_start, windows_up_to, windows_of, windows_of_shape}
use Rattle.wsm_windows.specs.declared.place.Place.{Place}
use Rattle.wsm_windows.specs.Life.{is_live}
use Rattle.wsm_semantics.specs.Query.{Datum}
use Rattle.wsm_semantics.specs.Summaries.{Pane}
use Rattle.wsm_program.specs.declared.instr.SectionId.TheVariants.{Where, Update, Fire}
use Rattle.wsm_program.specs.Program.{Program, is_program}
use Rattle.wsm_program.specs.declared.program.Costs.{Costs}
use Rattle.wsm_rules.specs.declared.rejection.Rejection.{Rejection}
use Rattle.wsm_rules.specs.declared.rejection.Rule.{Rule}
use Rattle.wsm_rules.specs.Costs.{longest_path, windows_of_a_record, join_steps, needed}
use Rattle.wsm_rules.specs.Rules.{judge, first_of}
use Rattle.wsm_rules.proofs.AcceptedPlaces.{accepted}
use Rattle.wsm_rules.proofs.Lawful as lawful_programs
use Rattle.wsm_rules.proofs.Lawful.{product_few}
use Rattle.wsm_machine.specs.InRange.{in_range}
use Rattle.wsm_machine.specs.Meaning.{record_inputs, pane_inputs, where_run, update_run, fire_run, selects, record_steps, joins_sessions, record_cost_by, windows_entered}
use Rattle.wsm_machine.specs.Sound.{IsDatumInRange}
use Rattle.wsm_machine.proofs.CompleteRuns.{steps_within}
use Rattle.wsm_semantics.proofs.ManyKeys.{length-filter}

through : {a b c : ℕ} → a ≤ b → b ≤ c → a ≤ c
through h k = omega (arith, h, k)

-- ---- windows of a record

length-windows_up_to : (n : ℕ) (size period start : ℤ) → length (windows_up_to n size period start) ≡ n
length-windows_up_to zero size period start = refl
length-windows_up_to (suc n) size period start =
    length-append (windows_up_to n size period (start -ℤ period)) _ ∙ ap (λ k. k + 1) (length-windows_up_to n size period (start -ℤ period)) ∙ omega arith

below : (q r p span : ℕ) → r < p → span ≡ q * p + r → span + p - 1 < (q + min 1 r + 1) * p
below q zero p span h e = let once : (q + min 1 0 + 1) * p ≡ q * p + p = omega arith in omega (arith, h, e, once)
below q (suc r) p span h e =
    let low : min 1 (suc r) ≡ 1 = omega arith in
    let twice : (q + min 1 (suc r) + 1) * p ≡ q * p + p + p = ap (λ m. (q + m + 1) * p) low ∙ two_more q p in
    omega (arith, h, e, twice)
  where
    two_more : (q p : ℕ) → (q + 1 + 1) * p ≡ q * p + p + p
    two_more q p = omega arith

rounded_up : (span p : ℕ) → 0 < p → (span + p - 1) / p ≤ div_ceil span p
rounded_up span p h =
    let less : (span + p - 1) / p < div_ceil span p + 1 = (div-lt_iff_lt-mul h).1 (below (span / p) (span % p) p span (omega (arith, h)) (sym (div-add-mod' span p))) in
    omega (arith, less)

once : (s : ℕ) → 0 < s → (s + s - 1) / s ≤ 1
once s h = let less : (s + s - 1) / s < 2 = (div-lt_iff_lt-mul h).1 (omega (arith, h)) in omega (arith, less)

pub windows_few : (sh : Shape) (t : ℤ) → IsShape sh → length (windows_of_shape sh t) ≤ windows_of_a_record sh
windows_few (Fixed size) t ok =
    let n : ℕ = (unsigned_abs size + unsigned_abs size - 1) / unsigned_abs size in
    through
    (subst (λ k. length (windows_of size size t) ≤ k) (length-windows_up_to n size size (last_start size t)) (length-filter (has_inside t) (windows_up_to n size size (last_start size t))))
    (once (unsigned_abs size) (omega (arith, ints, ok.period_low)))
windows_few (Sliding size period) t ok =
    let n : ℕ = (unsigned_abs size + unsigned_abs period - 1) / unsigned_abs period in
    through
    (subst (λ k. length (windows_of size period t) ≤ k) (length-windows_up_to n size period (last_start period t)) (length-filter (has_inside t) (windows_up_to n size period (last_start period t))))
    (rounded_up (unsigned_abs size) (unsigned_abs period) (omega (arith, ints, ok.period_low)))
windows_few (Session gap) t ok = omega arith

-- no more of them are live
pub entered_few : (sh : Shape) (lateness : ℤ) (d : Datum) → IsShape sh → windows_entered sh d.time lateness d.mark ≤ windows_of_a_record sh
entered_few (Fixed size) lateness d ok = through (length-filter (λ w. is_live w lateness d.mark) (windows_of_shape (Fixed size) d.time)) (windows_few (Fixed size) d.time ok)
entered_few (Sliding size period) lateness d ok = through (length-filter (λ w. is_live w lateness d.mark) (windows_of_shape (Sliding size period) d.time)) (windows_few (Sliding size period) d.time ok)
entered_few (Session gap) lateness d ok = omega arith

-- ---- what is stated

-- what is needed is stated
pub record States (p : Program) (n : Costs) : Type 0 where
  pub per_record : n.per_record ≤ p.header.budget.per_record
  pub per_pane : n.per_pane ≤ p.header.budget.per_pane
  pub held : n.held ≤ p.header.budget.held

none_first : (f : Rule → Rejection) (r s t : Rule) (a b c : Bool) → option_map f (first_of ((r, a) ∷ (s, b) ∷ (t, c) ∷ [])) ≡ None → (a ≡ false) × (b ≡ false) × (c ≡ false)
none_first f r s t false false false h = (refl, refl, refl)
none_first f r s t a b c h = absurd (cc)

pub stated : (p : Program) (costs : Costs) → judge p ≡ Ok costs → States p (needed p)
stated p costs judged =
    let none = none_first _ _ _ _ _ _ _ (accepted p costs judged).budget in
    record { per_record = ltb-false _ _ none.0; per_pane = ltb-false _ _ none.1; held = ltb-false _ _ none.2 }

-- ---- turns and firings

module _ (p : Program) (costs : Costs) (judged : judge p ≡ Ok costs) (lawful : IsTrue (is_program p)) where
  -- a record that enters so many windows, and joins two sessions or not
  pub record_within : (d : Datum) → IsDatumInRange p d → (windows : ℕ) (joins : Bool) → windows ≤ windows_of_a_record p.header.shape
      → cond joins (length p.header.kinds) 0 ≤ join_steps p.header.shape (length p.header.kinds) → record_steps p d.key d.values windows joins ≤ p.header.budget.per_record
  record_within d ranged windows joins few joined =
      let selection : (where_run p d.key d.values).steps ≤ longest_path p.selection = steps_within p costs judged lawful Where (record_inputs d.key d.values) ranged in
      let update : (update_run p d.key d.values).steps ≤ longest_path p.update = steps_within p costs judged lawful Update (record_inputs d.key d.values) ranged in
      let all : windows * (update_run p d.key d.values).steps ≤ windows_of_a_record p.header.shape * longest_path p.update = product_few windows (update_run p d.key d.values).steps (windows_of_a_record p.header.shape) (longest_path p.update) few update in
      most (selects p d.key d.values) (where_run p d.key d.values).steps (windows * (update_run p d.key d.values).steps) (cond joins (length p.header.kinds) 0)
      (longest_path p.selection) (windows_of_a_record p.header.shape * longest_path p.update) (join_steps p.header.shape (length p.header.kinds)) p.header.budget.per_record
      selection all joined (stated p costs judged).per_record
    where
      most : (b : Bool) (w u j w' u' j' n : ℕ) → w ≤ w' → u ≤ u' → j ≤ j' → w' + u' + j' ≤ n → w + cond b (u + j) 0 ≤ n
      most true w u j w' u' j' n h k l m = omega (arith, h, k, l, m)
      most false w u j w' u' j' n h k l m = omega (arith, h, k, l, m)

  joins_few : (sh : Shape) (d : Datum) (panes : List (Place × Pane (List Value))) (n : ℕ) → cond (joins_sessions sh d panes) n 0 ≤ join_steps sh n
  joins_few (Fixed size) d panes n = omega arith
  joins_few (Sliding size period) d panes n = omega arith
  joins_few (Session gap) d panes n = elim (joins_sessions (Session gap) d panes) as (λ b. cond b n 0 ≤ n) [ true ↦ omega arith | false ↦ omega arith ]

  -- a record, by the panes that are held
  pub record_cost_within : (d : Datum) → IsDatumInRange p d → (panes : List (Place × Pane (List Value))) → record_cost_by p panes d ≤ p.header.budget.per_record
  record_cost_within d ranged panes =
      record_within d ranged (windows_entered p.header.shape d.time p.header.clock.lateness d.mark) (joins_sessions p.header.shape d panes)
      (entered_few p.header.shape p.header.clock.lateness d (lawful_programs.lawful p lawful).shape) (joins_few p.header.shape d panes (length p.header.kinds))

  -- a firing that FIRE may read
  pub fire_within : (key n : ℕ) (held : List Value) → IsTrue (in_range p Fire (pane_inputs key n held)) → (fire_run p key n held).steps ≤ p.header.budget.per_pane
  fire_within key n held ranged =
      through (steps_within p costs judged lawful Fire (pane_inputs key n held) ranged) (stated p costs judged).per_pane

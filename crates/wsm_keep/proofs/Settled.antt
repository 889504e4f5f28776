-- Times that are settled and part no session are no later than those up to which all may go; and the later sessions alone
-- decide on these.
use Rattle.std.proofs.Common.{◌≡◌, ℕ, Bool, true, false, ◌||◌, cond, List, [], ◌∷◌, map, ℤ, pos, ◌+ℤ◌, ◌-ℤ◌, ◌*ℤ◌, ◌≤ℤ◌, ◌<ℤ◌, refl, sym, ap, subst, ◌∙◌, arith}
use Rattle.std.proofs.lemmas.Int.{ints}
use Rattle.std.specs.Prelude.{filter, int_lt, int_le}
use Rattle.std.specs.List.{AllByRecursion}
use Rattle.wsm_record.specs.Event.{Event}
use Rattle.wsm_windows.specs.declared.window.Window.{Window}
use Rattle.wsm_windows.specs.declared.window.Shape.{Shape}
use Rattle.wsm_windows.specs.declared.window.Shape.TheVariants.{Fixed, Sliding, Session}
use Rattle.wsm_windows.specs.Windows.{IsShape, last_start, first_start}
use Rattle.wsm_semantics.specs.Query.{Query, Datum, mark, selected}
use Rattle.wsm_semantics.specs.Sessions.{sessions}
use Rattle.wsm_semantics.specs.Panes.{of_key}
use Rattle.wsm_semantics.specs.FromWatermark.{Times, is_beside, IsSettled, PartsNoSession, last_end, unparted_time, dropped_time, dropped_times}
use Rattle.wsm_semantics.proofs.Each.{all_of, passed}
use Rattle.wsm_semantics.proofs.LaterSessions.{beyond-sessions}
use Rattle.wsm_semantics.proofs.WindowEnds.{begins_by, last_window}
use Rattle.wsm_keep.proofs.BeyondTimes.{begin_later}

-- ---- no later

behind_first : (x last p next : ℤ) → x <ℤ (last +ℤ p) → last ≤ℤ next → x ≤ℤ ((next +ℤ p) -ℤ pos 1)
behind_first x last p next h k = omega (arith, ints)

starts_by : (a last size t : ℤ) → last ≡ a → (last +ℤ size) ≤ℤ t → a ≤ℤ (t -ℤ size)
starts_by a last size t is h = omega (arith, ints)

grid_no_later : (size period x t : ℤ) → pos 1 ≤ℤ period → (last_start period x +ℤ size) ≤ℤ t → x ≤ℤ (first_start size period t -ℤ pos 1)
grid_no_later size period x t long h =
    let k = last_window period x long in
    let by : (k.0 *ℤ period) ≤ℤ last_start period (t -ℤ size) = begins_by period k.0 (t -ℤ size) long (starts_by (k.0 *ℤ period) (last_start period x) size t k.1 h) in
    behind_first x (last_start period x) period (last_start period (t -ℤ size)) k.3 (subst (λ (a : ℤ). a ≤ℤ last_start period (t -ℤ size)) (sym k.1) by)

before_it : (x t gap start end : ℤ) → x ≤ℤ t → (int_lt x start || int_le end (x +ℤ gap)) ≡ true → (int_lt t start || int_le end (t +ℤ gap)) ≡ false → x ≤ℤ (start -ℤ pos 1)
before_it x t gap start end h k l = grind (arith, ints)

over_too : (x t gap start end : ℤ) → x ≤ℤ t → (int_lt x start || int_le end (x +ℤ gap)) ≡ true → int_lt x start ≡ false → (int_lt t start || int_le end (t +ℤ gap)) ≡ true
over_too x t gap start end h k l = grind (arith, ints)

module _ (gap x t : ℤ) (sooner : x ≤ℤ t) where
  abbrev AreBeside : List Window → Type 0
  AreBeside ws = AllByRecursion (λ w. is_beside gap x w ≡ true) ws

  sessions_no_later : (ws : List Window) → AreBeside ws → x ≤ℤ unparted_time gap t ws
  sessions_no_later [] beside = sooner
  sessions_no_later (w ∷ ws) beside =
      elim (is_beside gap t w) as (λ b. is_beside gap t w ≡ b → x ≤ℤ cond b (unparted_time gap t ws) (w.start -ℤ pos 1)) [
        | true ↦ λ _. sessions_no_later ws beside.1
        | false ↦ λ parted. before_it x t gap w.start w.end sooner beside.0 parted
      ] refl

  -- sessions that are over by then part none
  beyond_part : (ws : List Window) → AreBeside ws → unparted_time gap t ws ≡ unparted_time gap t (filter (λ w. int_lt x w.start) ws)
  beyond_part [] beside = refl
  beyond_part (w ∷ ws) beside =
      elim (int_lt x w.start) as (λ b. int_lt x w.start ≡ b → cond (is_beside gap t w) (unparted_time gap t ws) (w.start -ℤ pos 1) ≡ unparted_time gap t (cond b (w ∷ filter (λ w. int_lt x w.start) ws) (filter (λ w. int_lt x w.start) ws))) [
        | true ↦ λ _. ap (λ (y : ℤ). cond (is_beside gap t w) y (w.start -ℤ pos 1)) (beyond_part ws beside.1)
        | false ↦ λ early. ap (λ (b : Bool). cond b (unparted_time gap t ws) (w.start -ℤ pos 1)) (over_too x t gap w.start w.end sooner beside.0 early) ∙ beyond_part ws beside.1
      ] refl

-- ---- sessions of later times

-- of all times the later ones alone decide
pub later_decide : (gap : ℤ) → pos 1 ≤ℤ gap → (x t : ℤ) → x ≤ℤ t → (ts us : List ℤ) → AllByRecursion (λ w. is_beside gap x w ≡ true) (sessions gap ts) → filter (λ u. int_lt x u) ts ≡ us →
    unparted_time gap t (sessions gap ts) ≡ unparted_time gap t (sessions gap us)
later_decide gap long x t sooner ts us beside are =
    beyond_part gap x t sooner (sessions gap ts) beside
    ∙ ap (unparted_time gap t) (beyond-sessions gap long x ts beside)
    ∙ ap (λ (vs : List ℤ). unparted_time gap t (filter (λ w. int_lt x w.start) (sessions gap vs))) are
    ∙ ap (unparted_time gap t) (all_of (λ w. int_lt x w.start) (sessions gap us) (begin_later gap x us (subst (AllByRecursion (λ u. int_lt x u ≡ true)) are (passed (λ u. int_lt x u) ts))))

-- ---- after a history

settled_by : (end l m : ℤ) → (end +ℤ l) ≤ℤ m → end ≤ℤ (m -ℤ l)
settled_by end l m h = omega (arith, ints)

pub sooner_by : (x gap l m : ℤ) → ((x +ℤ gap) +ℤ l) ≤ℤ m → x ≤ℤ ((m -ℤ l) -ℤ gap)
sooner_by x gap l m h = omega (arith, ints)

pub no_later : (q : Query) → IsShape q.shape → (x : Times) (past : List Event) → IsSettled q x (mark q past) → PartsNoSession q x past → (key : ℕ) → x key ≤ℤ dropped_times q past key
no_later q ok x past settled whole key = of_shape q.shape refl ok (settled key) where
  l : ℤ
  l = q.clock.lateness

  m : ℤ
  m = mark q past

  ts : List ℤ
  ts = map (λ (d : Datum). d.time) (of_key key (selected q past))

  of_shape : (s : Shape) → q.shape ≡ s → IsShape s → (last_end s (x key) +ℤ l) ≤ℤ m → x key ≤ℤ dropped_time s (m -ℤ l) ts
  of_shape (Fixed size) is ok h = grid_no_later size size (x key) (m -ℤ l) ok.period_low (settled_by (last_start size (x key) +ℤ size) l m h)
  of_shape (Sliding size period) is ok h = grid_no_later size period (x key) (m -ℤ l) ok.period_low (settled_by (last_start period (x key) +ℤ size) l m h)
  of_shape (Session gap) is ok h = sessions_no_later gap (x key) ((m -ℤ l) -ℤ gap) (sooner_by (x key) gap l m h) (sessions gap ts) (whole gap is key)

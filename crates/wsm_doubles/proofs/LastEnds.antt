-- A record is late, counted from windows, once the watermark and the lateness have come to the end of the last window of its time.
use Rattle.std.proofs.Common.{◌≡◌, Bool, true, false, ◌||◌, not, List, ℤ, pos, ◌+ℤ◌, ◌-ℤ◌, ◌*ℤ◌, ◌≤ℤ◌, ◌<ℤ◌, refl, sym, ap, ◌∙◌, arith}
use Rattle.std.proofs.lemmas.Int.{ints}
use Rattle.std.specs.Prelude.{◌↔◌, Contains, int_le, int_lt}
use Rattle.std.specs.List.{list_any}
use Rattle.wsm_windows.specs.declared.window.Window.{Window}
use Rattle.wsm_windows.specs.declared.window.Shape.{Shape}
use Rattle.wsm_windows.specs.declared.window.Shape.TheVariants.{Fixed, Sliding, Session}
use Rattle.wsm_windows.specs.Windows.{window, windows_of_shape, last_start, IsWindowOf, IsShape}
use Rattle.wsm_windows.specs.Life.{is_live}
use Rattle.wsm_windows.proofs.Members.{exactly_shape}
use Rattle.wsm_admission.specs.declared.clock.Clock.{Clock}
use Rattle.wsm_admission.specs.Clock.{is_late, is_late_by}
use Rattle.wsm_semantics.proofs.AmountWindows.{each_contained}
use Rattle.wsm_semantics.proofs.Each.{same_answers, some_of}
use Rattle.wsm_semantics.proofs.NeededLive.{any_of}
use Rattle.wsm_semantics.proofs.WindowEnds.{begins_by, last_window}
use Rattle.wsm_doubles.specs.Late.{last_end}

starts_by : (start k t : ℤ) → start ≡ k → start ≤ℤ t → k ≤ℤ t
starts_by start k t is h = omega (arith, ints)

lives_on : (end start k last size l w : ℤ) → end ≡ start +ℤ size → start ≡ k → k ≤ℤ last → int_lt w (end +ℤ l) ≡ true → int_lt w ((last +ℤ size) +ℤ l) ≡ true
lives_on end start k last size l w is at h live = grind (arith, ints)

ends_past : (t period last size : ℤ) → t <ℤ (last +ℤ period) → period ≤ℤ size → t <ℤ (last +ℤ size)
ends_past t period last size h k = omega (arith, ints)

last_of : (size period t : ℤ) → pos 1 ≤ℤ period → period ≤ℤ size → IsWindowOf size period t (window (last_start period t) (last_start period t +ℤ size))
last_of size period t long longer =
    let n = last_window period t long in
    record { k = n.0; start = n.1; end = refl; from = n.2; until = ends_past t period (last_start period t) size n.3 longer }

-- some of the windows of a time on a grid is live where the last is
live_on_grid : (size period l t w : ℤ) → pos 1 ≤ℤ period → period ≤ℤ size → (ws : List Window) → ((v : Window) → Contains ws v ↔ IsWindowOf size period t v) →
    list_any (λ v. is_live v l w) ws ≡ int_lt w ((last_start period t +ℤ size) +ℤ l)
live_on_grid size period l t w long longer ws are =
    let last : ℤ = last_start period t in
    same_answers (list_any (λ v. is_live v l w) ws) (int_lt w ((last +ℤ size) +ℤ l))
    (λ some.
    let (v, there, live) = some_of (Contains ws) (λ v. is_live v l w) ws (each_contained ws) some in
    let h : IsWindowOf size period t v = (are v).0 there in
    lives_on v.end v.start (h.k *ℤ period) last size l w h.end h.start (begins_by period h.k t long (starts_by v.start (h.k *ℤ period) t h.start h.from)) live)
    (λ on. any_of (λ v. is_live v l w) ws (window last (last +ℤ size)) ((are (window last (last +ℤ size))).1 (last_of size period t long longer)) on)

or_nothing : (b : Bool) → (b || false) ≡ b
or_nothing true = refl
or_nothing false = refl

live_by_end : (shape : Shape) → IsShape shape → (l t w : ℤ) → list_any (λ v. is_live v l w) (windows_of_shape shape t) ≡ int_lt w (last_end shape t +ℤ l)
live_by_end (Fixed size) ok l t w = live_on_grid size size l t w ok.period_low ok.period_high (windows_of_shape (Fixed size) t) (λ v. exactly_shape (Fixed size) t v ok)
live_by_end (Sliding size period) ok l t w = live_on_grid size period l t w ok.period_low ok.period_high (windows_of_shape (Sliding size period) t) (λ v. exactly_shape (Sliding size period) t v ok)
live_by_end (Session gap) ok l t w = or_nothing (int_lt w ((t +ℤ gap) +ℤ l))

not_past : (w end bound l : ℤ) → bound ≡ w -ℤ l → int_lt w (end +ℤ l) ≡ true → int_le end bound ≡ false
not_past w end bound l is h = grind (arith, ints)

past : (w end bound l : ℤ) → bound ≡ w -ℤ l → int_lt w (end +ℤ l) ≡ false → int_le end bound ≡ true
past w end bound l is h = grind (arith, ints)

by_bound : (w end bound l : ℤ) → bound ≡ w -ℤ l → int_le end bound ≡ not (int_lt w (end +ℤ l))
by_bound w end bound l is = elim (int_lt w (end +ℤ l)) as (λ b. int_lt w (end +ℤ l) ≡ b → int_le end bound ≡ not b) [
  | true ↦ λ h. not_past w end bound l is h
  | false ↦ λ h. past w end bound l is h
] refl

pub late_by_window : (c : Clock) (shape : Shape) → IsShape shape → (w t end bound : ℤ) → c.from_window ≡ true → end ≡ last_end shape t → bound ≡ w -ℤ c.lateness → int_le end bound ≡ is_late c shape w t
late_by_window c shape ok w t end bound from at is =
    ap (λ (e : ℤ). int_le e bound) at
    ∙ by_bound w (last_end shape t) bound c.lateness is
    ∙ ap not (sym (live_by_end shape ok c.lateness t w))
    ∙ ap (λ (b : Bool). is_late_by b shape c.lateness w t) (sym from)

behind : (w t bound l : ℤ) → bound ≡ w -ℤ l → int_lt (t +ℤ l) w ≡ true → int_lt t bound ≡ true
behind w t bound l is h = grind (arith, ints)

not_behind : (w t bound l : ℤ) → bound ≡ w -ℤ l → int_lt (t +ℤ l) w ≡ false → int_lt t bound ≡ false
not_behind w t bound l is h = grind (arith, ints)

pub late_by_time : (c : Clock) (shape : Shape) (w t time bound : ℤ) → c.from_window ≡ false → time ≡ t → bound ≡ w -ℤ c.lateness → int_lt time bound ≡ is_late c shape w t
late_by_time c shape w t time bound from at is =
    ap (λ (e : ℤ). int_lt e bound) at
    ∙ (elim (int_lt (t +ℤ c.lateness) w) as (λ b. int_lt (t +ℤ c.lateness) w ≡ b → int_lt t bound ≡ b) [
      | true ↦ λ h. behind w t bound c.lateness is h
      | false ↦ λ h. not_behind w t bound c.lateness is h
    ] refl)
    ∙ ap (λ (b : Bool). is_late_by b shape c.lateness w t) (sym from)

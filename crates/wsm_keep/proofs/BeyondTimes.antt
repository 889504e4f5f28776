-- The sessions of times that come after another begin after it.
use Rattle.std.proofs.Common.{◌≡◌, true, false, cond, List, [], ◌∷◌, ℤ, ◌+ℤ◌, inl, inr, sym, subst}
use Rattle.std.specs.Prelude.{int_lt}
use Rattle.std.specs.List.{AllByRecursion}
use Rattle.wsm_windows.specs.declared.window.Window.{Window}
use Rattle.wsm_windows.specs.Windows.{window}
use Rattle.wsm_semantics.specs.Sessions.{rising, sessions, sessions_of_rising, with_earlier, with_time}
use Rattle.wsm_semantics.proofs.SessionTimes.{IsOneOf}

module _ (gap x : ℤ) where
  abbrev pub AreLater : List ℤ → Type 0
  AreLater ts = AllByRecursion (λ t. int_lt x t ≡ true) ts

  abbrev pub BeginLater : List Window → Type 0
  BeginLater ws = AllByRecursion (λ w. int_lt x w.start ≡ true) ws

  later_earlier : (t : ℤ) (ws : List Window) → int_lt x t ≡ true → BeginLater ws → BeginLater (with_earlier gap t ws)
  later_earlier t [] h k = (h, tt)
  later_earlier t (w ∷ ws) h k =
      elim (int_lt w.start (t +ℤ gap)) as (λ b. BeginLater (cond b (window t w.end ∷ ws) (window t (t +ℤ gap) ∷ w ∷ ws))) [
        | true ↦ (h, k.1)
        | false ↦ (h, k)
      ]

  of_rising : (ts : List ℤ) → AreLater ts → BeginLater (sessions_of_rising gap ts)
  of_rising [] h = tt
  of_rising (t ∷ ts) h = later_earlier t (sessions_of_rising gap ts) h.0 (of_rising ts h.1)

  later_put : (t : ℤ) (ts : List ℤ) → int_lt x t ≡ true → AreLater ts → AreLater (with_time t ts)
  later_put t [] h k = (h, tt)
  later_put t (u ∷ us) h k =
      elim (int_lt t u) as (λ b. AreLater (cond b (t ∷ u ∷ us) (u ∷ with_time t us))) [
        | true ↦ (h, k)
        | false ↦ (k.0, later_put t us h k.1)
      ]

  later_rising : (ts : List ℤ) → AreLater ts → AreLater (rising ts)
  later_rising [] h = tt
  later_rising (t ∷ ts) h = later_put t (rising ts) h.0 (later_rising ts h.1)

  pub begin_later : (ts : List ℤ) → AreLater ts → BeginLater (sessions gap ts)
  begin_later ts h = of_rising (rising ts) (later_rising ts h)

  pub one_later : (w : Window) (ws : List Window) → IsOneOf w ws → BeginLater ws → int_lt x w.start ≡ true
  one_later w [] one h = absurd one
  one_later w (v ∷ vs) (inl is) h = subst (λ (u : Window). int_lt x u.start ≡ true) (sym is) h.0
  one_later w (v ∷ vs) (inr one) h = one_later w vs one h.1

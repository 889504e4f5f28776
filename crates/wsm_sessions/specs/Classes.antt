-- What sessions are, by the links of times alone: classes of the chains of links.
use Rattle.std.specs.Prelude.{◌≡◌, ◌↔◌, true, List, [], ◌∷◌, Contains, ℤ, ◌+ℤ◌, ◌-ℤ◌, ◌<ℤ◌, ◌≤ℤ◌}
use Rattle.wsm_windows.specs.declared.window.Window.{Window}
use Rattle.wsm_windows.specs.Windows.{has_inside}
use Rattle.wsm_semantics.specs.Sessions as session

-- less than a gap apart
pub record IsLinked (gap t u : ℤ) : Type 0 where
  pub ahead : t <ℤ (u +ℤ gap)
  pub behind : u <ℤ (t +ℤ gap)

-- some of the times, each linked to the next, with t before the first and u after the last
abbrev pub IsChain : ℤ → List ℤ → ℤ → ℤ → List ℤ → Type 0
IsChain gap times t u [] = IsLinked gap t u
IsChain gap times t u (v ∷ vs) = IsLinked gap t v × Contains times v × IsChain gap times v u vs

pub record AreConnected (gap : ℤ) (times : List ℤ) (t u : ℤ) : Type 0 where
  pub between : List ℤ
  pub chain : IsChain gap times t u between

-- a time that it is linked to is in the window
pub record HasLinked (gap : ℤ) (times : List ℤ) (t : ℤ) (w : Window) : Type 0 where
  pub time : ℤ
  pub among : Contains times time
  pub inside : has_inside time w ≡ true
  pub linked : IsLinked gap t time

-- the window is that of a class, from its least time to a gap after its greatest
pub record IsClass (gap : ℤ) (times : List ℤ) (w : Window) : Type 0 where
  pub least : Contains times w.start
  pub greatest : Contains times (w.end -ℤ gap)
  pub bounds : (t : ℤ) → Contains times t → has_inside t w ≡ true → (t +ℤ gap) ≤ℤ w.end
  pub class : (t u : ℤ) → Contains times t → Contains times u → has_inside t w ≡ true → ((has_inside u w ≡ true) ↔ AreConnected gap times t u)
  pub links : (t : ℤ) → ((session.links gap t w ≡ true) ↔ HasLinked gap times t w)

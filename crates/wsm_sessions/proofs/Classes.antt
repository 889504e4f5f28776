-- The sessions of times are the classes of the chains of links.
use Rattle.std.proofs.Common.{◌≡◌, ℕ, zero, suc, ◌⊎◌, inl, inr, true, false, ◌||◌, cond, List, [], ◌∷◌, Some, ℤ, pos, ◌+ℤ◌, ◌-ℤ◌, ◌≤ℤ◌, ◌<ℤ◌, refl, sym, subst, ap, ◌∙◌, arith}
use Rattle.std.proofs.lemmas.Int.{ints}
use Rattle.std.proofs.lemmas.Bool.{true≢false}
use Rattle.std.specs.Prelude.{Contains, int_lt, slice_get}
use Rattle.std.specs.List.{AllByRecursion, list_any}
use Rattle.std.proofs.lemmas.Option.{same_Some}
use Rattle.wsm_windows.specs.declared.window.Window.{Window}
use Rattle.wsm_windows.specs.Windows.{window, has_inside}
use Rattle.wsm_semantics.specs.Sessions.{with_time, rising, with_earlier, sessions_of_rising, sessions, links}
use Rattle.wsm_semantics.proofs.Lists.{all-each}
use Rattle.wsm_semantics.proofs.Sessions.{StartFrom, AreApart, TimesFrom, AreRising, is_rising, apart_rising, from_times, sessions_apart, sooner}
use Rattle.wsm_semantics.proofs.SessionTimes.{IsOneOf, of-all, inside_is, covered, one_inside, both_linked}
use Rattle.wsm_sessions.specs.Classes.{IsLinked, IsChain, HasLinked, IsClass}
use Rattle.wsm_windows.proofs.Members.{is_inside}

-- ---- one of some times

abbrev In : ℤ → List ℤ → Type 0
In t [] = ⊥
In t (u ∷ us) = (t ≡ u) ⊎ In t us

contained : (t : ℤ) (us : List ℤ) → In t us → Contains us t
contained t [] h = absurd h
contained t (u ∷ us) (inl e) = (0, omega arith, sym e)
contained t (u ∷ us) (inr m) = let h = contained t us m in (suc h.0, omega (arith, h.1), h.2)

in_contained : (t : ℤ) (us : List ℤ) → Contains us t → In t us
in_contained t [] h = absurd (omega (arith, h.1))
in_contained t (u ∷ us) (zero, l, e) = inl (sym e)
in_contained t (u ∷ us) (suc k, l, e) = inr (in_contained t us (k, omega arith, e))

of_times : (P : ℤ → Type 0) (t : ℤ) (us : List ℤ) → AllByRecursion P us → In t us → P t
of_times P t [] h m = absurd m
of_times P t (u ∷ us) h (inl e) = subst P (sym e) h.0
of_times P t (u ∷ us) h (inr m) = of_times P t us h.1 m

in_more : (t u : ℤ) (us : List ℤ) → In t (u ∷ us) → In t (with_time u us)
in_more t u [] m = m
in_more t u (x ∷ us) m = elim (int_lt u x) as (λ b. In t (cond b (u ∷ x ∷ us) (x ∷ with_time u us))) [
  | true ↦ m
  | false ↦ turned (in_more t u us) m
] where
  turned : (In t (u ∷ us) → In t (with_time u us)) → In t (u ∷ x ∷ us) → In t (x ∷ with_time u us)
  turned f (inl e) = inr (f (inl e))
  turned f (inr (inl e)) = inl e
  turned f (inr (inr k)) = inr (f (inr k))

in_less : (t u : ℤ) (us : List ℤ) → In t (with_time u us) → In t (u ∷ us)
in_less t u [] m = m
in_less t u (x ∷ us) m = elim (int_lt u x) as (λ b. In t (cond b (u ∷ x ∷ us) (x ∷ with_time u us)) → In t (u ∷ x ∷ us)) [
  | true ↦ λ k. k
  | false ↦ turned (in_less t u us)
] m where
  deeper : In t (u ∷ us) → In t (u ∷ x ∷ us)
  deeper (inl e) = inl e
  deeper (inr k) = inr (inr k)

  turned : (In t (with_time u us) → In t (u ∷ us)) → In t (x ∷ with_time u us) → In t (u ∷ x ∷ us)
  turned f (inl e) = inr (inl e)
  turned f (inr k) = deeper (f k)

to_rising : (t : ℤ) (us : List ℤ) → In t us → In t (rising us)
to_rising t [] m = m
to_rising t (u ∷ us) (inl e) = in_more t u (rising us) (inl e)
to_rising t (u ∷ us) (inr m) = in_more t u (rising us) (inr (to_rising t us m))

from_rising : (t : ℤ) (us : List ℤ) → In t (rising us) → In t us
from_rising t [] m = m
from_rising t (u ∷ us) m = split (from_rising t us) (in_less t u (rising us) m) where
  split : (In t (rising us) → In t us) → In t (u ∷ rising us) → In t (u ∷ us)
  split f (inl e) = inl e
  split f (inr k) = inr (f k)

-- ---- chains

module _ (gap : ℤ) where
  abbrev Chain : List ℤ → ℤ → ℤ → List ℤ → Type 0
  Chain ts t u [] = IsLinked gap t u
  Chain ts t u (v ∷ vs) = IsLinked gap t v × In v ts × Chain ts v u vs

  chain_in : (ts us : List ℤ) → ((x : ℤ) → In x ts → In x us) → (t u : ℤ) (vs : List ℤ) → Chain ts t u vs → Chain us t u vs
  chain_in ts us f t u [] c = c
  chain_in ts us f t u (v ∷ vs) c = (c.0, f v c.1, chain_in ts us f v u vs c.2)

  said : (ts : List ℤ) (t u : ℤ) (vs : List ℤ) → Chain ts t u vs → IsChain gap ts t u vs
  said ts t u [] c = c
  said ts t u (v ∷ vs) c = (c.0, contained v ts c.1, said ts v u vs c.2)

  unsaid : (ts : List ℤ) (t u : ℤ) (vs : List ℤ) → IsChain gap ts t u vs → Chain ts t u vs
  unsaid ts t u [] c = c
  unsaid ts t u (v ∷ vs) c = (c.0, in_contained v ts c.1, unsaid ts v u vs c.2)

  turn : (t u : ℤ) → IsLinked gap t u → IsLinked gap u t
  turn t u l = record { ahead = l.behind; behind = l.ahead }

  abbrev Joined : List ℤ → ℤ → ℤ → Type 0
  Joined ts t u = (vs : List ℤ) × Chain ts t u vs

  append : (ts : List ℤ) (t v u : ℤ) (vs : List ℤ) → Chain ts t v vs → In v ts → Joined ts v u → Joined ts t u
  append ts t v u [] c m j = (v ∷ j.0, (c, m, j.1))
  append ts t v u (x ∷ vs) c m j = let h = append ts x v u vs c.2 m j in (x ∷ h.0, (c.0, c.1, h.1))

  backward : (ts : List ℤ) (t u : ℤ) (vs : List ℤ) → Chain ts t u vs → Joined ts u t
  backward ts t u [] c = ([], turn t u c)
  backward ts t u (v ∷ vs) c = let h = backward ts v u vs c.2 in append ts u v t h.0 h.1 c.1 ([], turn t v c.0)

  -- a time in the window that is at most x, and less than a gap before it
  record Latest (ts : List ℤ) (w : Window) (x : ℤ) : Type 0 where
    time : ℤ
    among : In time ts
    inside : has_inside time w ≡ true
    before : time ≤ℤ x
    near : x <ℤ (time +ℤ gap)

  -- a window whose times are linked to its start by chains
  record Good (ts : List ℤ) (w : Window) : Type 0 where
    least : In w.start ts
    greatest : In (w.end -ℤ gap) ts
    bounds : (u : ℤ) → In u ts → has_inside u w ≡ true → (u +ℤ gap) ≤ℤ w.end
    chained : (u : ℤ) → In u ts → has_inside u w ≡ true → Joined ts w.start u
    lasts : (w.start +ℤ gap) ≤ℤ w.end
    filled : (x : ℤ) → has_inside x w ≡ true → Latest ts w x

  good_later : (t : ℤ) (ts : List ℤ) (w : Window) → t <ℤ w.start → Good ts w → Good (t ∷ ts) w
  good_later t ts w h g = record {
    least = inr g.least;
    greatest = inr g.greatest;
    bounds = λ u m i. elim m [ inl e ↦ absurd (outside u e i) | inr k ↦ g.bounds u k i ];
    chained = λ u m i. elim m [ inl e ↦ absurd (outside u e i) | inr k ↦ let c = g.chained u k i in (c.0, chain_in ts (t ∷ ts) (λ x n. inr n) w.start u c.0 c.1) ];
    lasts = g.lasts;
    filled = λ x i. let l = g.filled x i in record { time = l.time; among = inr l.among; inside = l.inside; before = l.before; near = l.near };
  } where
    outside : (u : ℤ) → u ≡ t → has_inside u w ≡ true → ⊥
    outside u e i = let k : w.start ≤ℤ u = (inside_is u w i).0 in omega (arith, ints)

  module _ (long : pos 1 ≤ℤ gap) where
    itself : (t u : ℤ) → u ≡ t → IsLinked gap t u
    itself t u e = record { ahead = omega (arith, ints); behind = omega (arith, ints) }

    latest : (t : ℤ) → t ≡ (t +ℤ gap) -ℤ gap
    latest t = omega (arith, ints)

    alone : (t : ℤ) (ts : List ℤ) → TimesFrom (t +ℤ gap) ts → Good (t ∷ ts) (window t (t +ℤ gap))
    alone t ts far = record {
      least = inl refl;
      greatest = inl (sym (latest t));
      bounds = λ u m i. elim m [ inl e ↦ omega (arith, ints) | inr k ↦ absurd (outside u k i) ];
      chained = λ u m i. elim m [ inl e ↦ ([], itself t u e) | inr k ↦ absurd (outside u k i) ];
      lasts = omega (arith, ints);
      filled = λ x i. let a : t ≤ℤ x = (inside_is x (window t (t +ℤ gap)) i).0 in let b : x <ℤ (t +ℤ gap) = (inside_is x (window t (t +ℤ gap)) i).1 in
          record { time = t; among = inl refl; inside = is_inside t (window t (t +ℤ gap)) (omega (arith, ints)) (omega (arith, ints)); before = a; near = b };
    } where
      outside : (u : ℤ) → In u ts → has_inside u (window t (t +ℤ gap)) ≡ true → ⊥
      outside u m i = let a : (t +ℤ gap) ≤ℤ u = of_times (λ x. (t +ℤ gap) ≤ℤ x) u ts far m in let b : u <ℤ (t +ℤ gap) = (inside_is u (window t (t +ℤ gap)) i).1 in omega (arith, ints)

    longer : (t : ℤ) (ts : List ℤ) (w : Window) → t ≤ℤ w.start → w.start <ℤ (t +ℤ gap) → (w.start +ℤ gap) ≤ℤ w.end → TimesFrom w.start ts → Good ts w → Good (t ∷ ts) (window t w.end)
    longer t ts w le near lasts from g = record {
      least = inl refl;
      greatest = inr g.greatest;
      bounds = λ u m i. elim m [ inl e ↦ omega (arith, ints) | inr k ↦ g.bounds u k (inside u k i) ];
      chained = λ u m i. elim m [
        | inl e ↦ ([], itself t u e)
        | inr k ↦ let c = g.chained u k (inside u k i) in (w.start ∷ c.0, (first, inr g.least, chain_in ts (t ∷ ts) (λ x n. inr n) w.start u c.0 c.1))
      ];
      lasts = omega (arith, ints);
      filled = fills;
    } where
      wider : (u : ℤ) → has_inside u w ≡ true → has_inside u (window t w.end) ≡ true
      wider u i = let a : w.start ≤ℤ u = (inside_is u w i).0 in is_inside u (window t w.end) (omega (arith, ints)) (inside_is u w i).1

      fills : (x : ℤ) → has_inside x (window t w.end) ≡ true → Latest (t ∷ ts) (window t w.end) x
      fills x i =
          let a : t ≤ℤ x = (inside_is x (window t w.end) i).0 in
          let b : x <ℤ w.end = (inside_is x (window t w.end) i).1 in
          elim (int_lt x w.start) as (λ c. int_lt x w.start ≡ c → Latest (t ∷ ts) (window t w.end) x) [
            | true ↦ λ h.
                let sooner : x <ℤ w.start = grind (arith, ints) in
                record { time = t; among = inl refl; inside = is_inside t (window t w.end) (omega (arith, ints)) (omega (arith, ints)); before = a; near = omega (arith, ints) }
            | false ↦ λ h.
                let from_start : w.start ≤ℤ x = grind (arith, ints) in
                let l = g.filled x (is_inside x w from_start b) in record { time = l.time; among = inr l.among; inside = wider l.time l.inside; before = l.before; near = l.near }
          ] refl

      first : IsLinked gap t w.start
      first = record { ahead = omega (arith, ints); behind = near }

      inside : (u : ℤ) → In u ts → has_inside u (window t w.end) ≡ true → has_inside u w ≡ true
      inside u m i = is_inside u w (of_times (λ x. w.start ≤ℤ x) u ts from m) (inside_is u (window t w.end) i).1

    -- no time is before the first window
    abbrev Begun : List ℤ → List Window → Type 0
    Begun ts [] = ts ≡ []
    Begun ts (w ∷ ws) = TimesFrom w.start ts

    begun : (ts : List ℤ) → AreRising ts → Begun ts (sessions_of_rising gap ts)
    begun [] h = refl
    begun (t ∷ ts) h = headed (sessions_of_rising gap ts) where
      from : TimesFrom t (t ∷ ts)
      from = (omega (arith, ints), h.0)

      headed : (ws : List Window) → Begun (t ∷ ts) (with_earlier gap t ws)
      headed [] = from
      headed (w ∷ ws) = elim (int_lt w.start (t +ℤ gap)) as (λ b. Begun (t ∷ ts) (cond b (window t w.end ∷ ws) (window t (t +ℤ gap) ∷ w ∷ ws))) [ true ↦ from | false ↦ from ]

    later_good : (t x : ℤ) (ts : List ℤ) → t <ℤ x → (ws : List Window) → StartFrom x ws → AllByRecursion (Good ts) ws → AllByRecursion (Good (t ∷ ts)) ws
    later_good t x ts h [] f g = tt
    later_good t x ts h (w ∷ ws) f g = let from : x ≤ℤ w.start = f.0 in (good_later t ts w (omega (arith, ints)) g.0, later_good t x ts h ws f.1 g.1)

    good_earlier : (t : ℤ) (ts : List ℤ) (ws : List Window) → AreApart gap ws → StartFrom t ws → Begun ts ws → AllByRecursion (Good ts) ws → AllByRecursion (Good (t ∷ ts)) (with_earlier gap t ws)
    good_earlier t ts [] a f b g = (alone t ts (subst (TimesFrom (t +ℤ gap)) (sym b) tt), tt)
    good_earlier t ts (w ∷ ws) a f b g =
        let lasts : (w.start +ℤ gap) ≤ℤ w.end = a.0 in
        let from : t ≤ℤ w.start = f.0 in
        elim (int_lt w.start (t +ℤ gap)) as (λ c. int_lt w.start (t +ℤ gap) ≡ c → AllByRecursion (Good (t ∷ ts)) (cond c (window t w.end ∷ ws) (window t (t +ℤ gap) ∷ w ∷ ws))) [
          | true ↦ λ h.
              let near : w.start <ℤ (t +ℤ gap) = grind (arith, ints) in
              (longer t ts w from near lasts b g.0, later_good t w.end ts (omega (arith, ints)) ws a.1 g.1)
          | false ↦ λ h.
              let far : (t +ℤ gap) ≤ℤ w.start = grind (arith, ints) in
              let rest : StartFrom (t +ℤ gap) (w ∷ ws) = (far, sooner (t +ℤ gap) w.end (omega (arith, ints)) ws a.1) in
              (alone t ts (all-each (λ x. w.start ≤ℤ x) (λ x. (t +ℤ gap) ≤ℤ x) ts (λ x m. omega (arith, ints)) b), later_good t (t +ℤ gap) ts (omega (arith, ints)) (w ∷ ws) rest g)
        ] refl

    good_rising : (ts : List ℤ) → AreRising ts → AllByRecursion (Good ts) (sessions_of_rising gap ts)
    good_rising [] h = tt
    good_rising (t ∷ ts) h = good_earlier t ts (sessions_of_rising gap ts) (apart_rising gap long ts h.1) (from_times gap long t ts h.0) (begun ts h.1) (good_rising ts h.1)

    good : (ts : List ℤ) → AllByRecursion (Good ts) (sessions gap ts)
    good ts = all-each (Good (rising ts)) (Good ts) (sessions gap ts) (λ w g. record {
      least = from_rising w.start ts g.least;
      greatest = from_rising (w.end -ℤ gap) ts g.greatest;
      bounds = λ u m i. g.bounds u (to_rising u ts m) i;
      chained = λ u m i. let c = g.chained u (to_rising u ts m) i in (c.0, chain_in (rising ts) ts (λ x n. from_rising x ts n) w.start u c.0 c.1);
      lasts = g.lasts;
      filled = λ x i. let l = g.filled x i in record { time = l.time; among = from_rising l.time ts l.among; inside = l.inside; before = l.before; near = l.near };
    }) (good_rising (rising ts) (is_rising ts))

    -- ---- linked times are in one session

    some_one : (t : ℤ) (ws : List Window) → list_any (has_inside t) ws ≡ true → (w : Window) × IsOneOf w ws × (has_inside t w ≡ true)
    some_one t [] h = absurd (true≢false (sym h))
    some_one t (w ∷ ws) h = elim (has_inside t w) as (λ b. has_inside t w ≡ b → (b || list_any (has_inside t) ws) ≡ true → (v : Window) × IsOneOf v (w ∷ ws) × (has_inside t v ≡ true)) [
      | true ↦ λ e k. (w, inl refl, e)
      | false ↦ λ e k. let s = some_one t ws k in (s.0, inr s.1, s.2)
    ] refl h

    module _ (ts : List ℤ) (w : Window) (one : IsOneOf w (sessions gap ts)) where
      step : (t v : ℤ) → In t ts → In v ts → IsLinked gap t v → has_inside t w ≡ true → has_inside v w ≡ true
      step t v m n l i =
          let s = some_one v (sessions gap ts) (of_times (λ x. list_any (has_inside x) (sessions gap ts) ≡ true) v ts (covered gap long ts) n) in
          let x : Window = s.0 in
          let mine : (t +ℤ gap) ≤ℤ w.end = (of-all (Good ts) w (sessions gap ts) (good ts) one).bounds t m i in
          let its : (v +ℤ gap) ≤ℤ x.end = (of-all (Good ts) x (sessions gap ts) (good ts) s.1).bounds v n s.2 in
          let start : w.start ≤ℤ t = (inside_is t w i).0 in
          let other : x.start ≤ℤ v = (inside_is v x s.2).0 in
          let ahead : t <ℤ (v +ℤ gap) = l.ahead in
          let behind : v <ℤ (t +ℤ gap) = l.behind in
          elim (int_lt v t) as (λ b. int_lt v t ≡ b → has_inside v w ≡ true) [
            | true ↦ λ h.
                let less : v <ℤ t = grind (arith, ints) in
                let same : x ≡ w = one_inside gap long (sessions gap ts) (sessions_apart gap long ts) t x w s.1 one (is_inside t x (omega (arith, ints)) (omega (arith, ints))) i in
                subst (λ (y : Window). has_inside v y ≡ true) same s.2
            | false ↦ λ h. let more : t ≤ℤ v = grind (arith, ints) in is_inside v w (omega (arith, ints)) (omega (arith, ints))
          ] refl

      along : (t u : ℤ) (vs : List ℤ) → In t ts → In u ts → Chain ts t u vs → has_inside t w ≡ true → has_inside u w ≡ true
      along t u [] m n c i = step t u m n c i
      along t u (v ∷ vs) m n c i = along v u vs c.1 n c.2 (step t v m c.1 c.0 i)

      near_links : (t : ℤ) → w.start <ℤ (t +ℤ gap) → t <ℤ w.end → links gap t w ≡ true
      near_links t h k = grind (arith, ints)

      linked_is : (t : ℤ) → HasLinked gap ts t w → links gap t w ≡ true
      linked_is t h =
          let g = of-all (Good ts) w (sessions gap ts) (good ts) one in
          let u : ℤ = h.time in
          let a : w.start ≤ℤ u = (inside_is u w h.inside).0 in
          let b : (u +ℤ gap) ≤ℤ w.end = g.bounds u (in_contained u ts h.among) h.inside in
          let ahead : t <ℤ (u +ℤ gap) = h.linked.ahead in
          let behind : u <ℤ (t +ℤ gap) = h.linked.behind in
          near_links t (omega (arith, ints)) (omega (arith, ints))

      has_linked : (t : ℤ) → links gap t w ≡ true → HasLinked gap ts t w
      has_linked t h =
          let g = of-all (Good ts) w (sessions gap ts) (good ts) one in
          let both = both_linked gap long t w h in
          let a : w.start <ℤ (t +ℤ gap) = both.0 in
          let b : t <ℤ w.end = both.1 in
          let lasts : (w.start +ℤ gap) ≤ℤ w.end = g.lasts in
          elim (int_lt t w.start) as (λ c. int_lt t w.start ≡ c → HasLinked gap ts t w) [
            | true ↦ λ k.
                let sooner : t <ℤ w.start = grind (arith, ints) in
                record { time = w.start; among = contained w.start ts g.least; inside = is_inside w.start w (omega (arith, ints)) (omega (arith, ints)); linked = record { ahead = omega (arith, ints); behind = a } }
            | false ↦ λ k.
                let from_start : w.start ≤ℤ t = grind (arith, ints) in
                let l = g.filled t (is_inside t w from_start b) in
                let before : l.time ≤ℤ t = l.before in
                record { time = l.time; among = contained l.time ts l.among; inside = l.inside; linked = record { ahead = l.near; behind = omega (arith, ints) } }
          ] refl

      pub is_class : IsClass gap ts w
      is_class =
          let g = of-all (Good ts) w (sessions gap ts) (good ts) one in record {
            least = contained w.start ts g.least;
            greatest = contained (w.end -ℤ gap) ts g.greatest;
            bounds = λ t m i. g.bounds t (in_contained t ts m) i;
            class = λ t u m n i. (
              (λ j.
                  let a = g.chained t (in_contained t ts m) i in
                  let b = g.chained u (in_contained u ts n) j in
                  let back = backward ts w.start t a.0 a.1 in
                  let c = append ts t w.start u back.0 back.1 g.least b in
                  record { between = c.0; chain = said ts t u c.0 c.1 }),
              (λ c. along t u c.between (in_contained t ts m) (in_contained u ts n) (unsaid ts t u c.between c.chain) i),
            );
            links = λ t. (has_linked t, linked_is t);
          }

    -- the window at a place
    one_at : (ws : List Window) (i : ℕ) (w : Window) → slice_get ws i ≡ Some w → IsOneOf w ws
    one_at [] i w h = absurd (cc)
    one_at (v ∷ ws) zero w h = inl (sym (same_Some v w h))
    one_at (v ∷ ws) (suc i) w h = inr (one_at ws i w h)

    pub class_at : (ts : List ℤ) (ws : List Window) → ws ≡ sessions gap ts → (i : ℕ) (w : Window) → slice_get ws i ≡ Some w → IsClass gap ts w
    class_at ts ws e i w h = is_class ts w (one_at (sessions gap ts) i w (ap (λ (vs : List Window). slice_get vs i) (sym e) ∙ h))

-- each time is in a session
pub in_one : (gap : ℤ) → pos 1 ≤ℤ gap → (ts : List ℤ) (ws : List Window) → ws ≡ sessions gap ts → (t : ℤ) → Contains ts t → list_any (has_inside t) ws ≡ true
in_one gap long ts ws e t m = ap (list_any (has_inside t)) e ∙ of_times (λ x. list_any (has_inside x) (sessions gap ts) ≡ true) t ts (covered gap long ts) (in_contained t ts m)

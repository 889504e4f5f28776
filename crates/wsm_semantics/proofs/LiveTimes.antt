-- The live sessions of some times are the sessions of the times that live: those in a session that
-- ends after a limit.
use Rattle.std.proofs.Common.{◌≡◌, Bool, true, false, ◌&&◌, ◌||◌, cond, List, [], ◌∷◌, ℤ, pos, ◌+ℤ◌, ◌≤ℤ◌, ◌<ℤ◌, refl, sym, ap, ◌∙◌, arith}
use Rattle.std.proofs.lemmas.Int.{ints}
use Rattle.std.specs.Prelude.{filter, int_le, int_lt}
use Rattle.std.specs.List.{AllByRecursion, list_any}
use Rattle.std.proofs.Math.Bool.{and-false}
use Rattle.wsm_windows.specs.declared.window.Window.{Window}
use Rattle.wsm_windows.specs.Windows.{window, has_inside}
use Rattle.wsm_semantics.specs.Sessions.{with_time, rising, with_earlier, sessions_of_rising, sessions, ends_after}
use Rattle.wsm_semantics.proofs.Lists.{filter-all, all-each}
use Rattle.wsm_semantics.proofs.Decided.{inside_itself}
use Rattle.wsm_semantics.proofs.Each.{filter-each}
use Rattle.wsm_semantics.proofs.Sessions.{StartFrom, AreApart, TimesFrom, AreRising, is_rising, apart_rising, from_times, head_linked, head_apart, sooner}
use Rattle.wsm_semantics.proofs.SessionTimes.{not_inside_after}

-- ---- rising times that pass a test

put_before : (t : ℤ) (ts : List ℤ) → AllByRecursion (λ u. t <ℤ u) ts → with_time t ts ≡ t ∷ ts
put_before t [] h = refl
put_before t (u ∷ us) h =
    let less : t <ℤ u = h.0 in
    let e : int_lt t u ≡ true = grind (arith, ints) in
    ap (λ (b : Bool). cond b (t ∷ u ∷ us) (u ∷ with_time t us)) e

module _ (p : ℤ → Bool) where
  filter-with_time : (t : ℤ) (us : List ℤ) → AreRising us → filter p (with_time t us) ≡ cond (p t) (with_time t (filter p us)) (filter p us)
  filter-with_time t [] h = refl
  filter-with_time t (x ∷ us) h =
      let R : List ℤ = filter p us in
      elim (int_lt t x) as (λ b. int_lt t x ≡ b → filter p (cond b (t ∷ x ∷ us) (x ∷ with_time t us)) ≡ cond (p t) (with_time t (cond (p x) (x ∷ R) R)) (cond (p x) (x ∷ R) R)) [
        | true ↦ λ k.
            let less : t <ℤ x = grind (arith, ints) in
            let After : ℤ → Type 0 = λ u. t <ℤ u in
            let all : AllByRecursion After (x ∷ us) = (less, all-each (λ u. x ≤ℤ u) After us (λ u m. omega (arith, ints)) h.0) in
            ap (λ (ts : List ℤ). cond (p t) ts (filter p (x ∷ us))) (sym (put_before t (filter p (x ∷ us)) (filter-all After p (x ∷ us) all)))
        | false ↦ λ k.
            ap (λ (ts : List ℤ). cond (p x) (x ∷ ts) ts) (filter-with_time t us h.1)
            ∙ elim (p x) as (λ b. cond b (x ∷ cond (p t) (with_time t R) R) (cond (p t) (with_time t R) R) ≡ cond (p t) (with_time t (cond b (x ∷ R) R)) (cond b (x ∷ R) R)) [
              | true ↦ elim (p t) as (λ b. x ∷ cond b (with_time t R) R ≡ cond b (with_time t (x ∷ R)) (x ∷ R)) [
                | true ↦ ap (λ (b : Bool). cond b (t ∷ x ∷ R) (x ∷ with_time t R)) (sym k)
                | false ↦ refl
              ]
              | false ↦ refl
            ]
      ] refl

  filter-rising : (ts : List ℤ) → filter p (rising ts) ≡ rising (filter p ts)
  filter-rising [] = refl
  filter-rising (t ∷ ts) =
      filter-with_time t (rising ts) (is_rising ts)
      ∙ ap (λ (us : List ℤ). cond (p t) (with_time t us) us) (filter-rising ts)
      ∙ elim (p t) as (λ b. cond b (with_time t (rising (filter p ts))) (rising (filter p ts)) ≡ rising (cond b (t ∷ filter p ts) (filter p ts))) [ true ↦ refl | false ↦ refl ]

-- ---- times that live

module _ (limit : ℤ) where
  -- the time lies in one of the sessions that ends after the limit
  abbrev pub lives_in : List Window → ℤ → Bool
  lives_in ws u = list_any (λ w. ends_after limit w && has_inside u w) ws

  not_inside : (u : ℤ) (w : Window) → u <ℤ w.start → (ends_after limit w && has_inside u w) ≡ false
  not_inside u w h = let e : has_inside u w ≡ false = not_inside_after u w h in ap (λ (b : Bool). ends_after limit w && b) e ∙ and-false (ends_after limit w)

  none_later : (u x : ℤ) → u <ℤ x → (ws : List Window) → StartFrom x ws → lives_in ws u ≡ false
  none_later u x h [] f = refl
  none_later u x h (w ∷ ws) f =
      let from : x ≤ℤ w.start = f.0 in
      λ i. not_inside u w (omega (arith, ints)) i || none_later u x h ws f.1 i

  -- no time is before the first session
  abbrev TimesIn : List ℤ → List Window → Type 0
  TimesIn ts [] = ts ≡ []
  TimesIn ts (w ∷ ws) = TimesFrom w.start ts

  inside_after : (u e x : ℤ) → u ≤ℤ x → int_lt x e ≡ (int_le u x && int_lt x e)
  inside_after u e x h = let k : int_le u x ≡ true = grind (arith, ints) in ap (λ (b : Bool). b && int_lt x e) (sym k)

  past_end : (u e x : ℤ) → e ≤ℤ x → (int_le u x && int_lt x e) ≡ false
  past_end u e x h = let k : int_lt x e ≡ false = grind (arith, ints) in ap (λ (b : Bool). int_le u x && b) k ∙ and-false (int_le u x)

  kept_or_not : (a b c : Bool) → b ≡ true → c ≡ false → ((a && b) || c) ≡ a
  kept_or_not true b c h k = ap (λ (d : Bool). d || c) h
  kept_or_not false b c h k = k

  module _ (gap : ℤ) (long : pos 1 ≤ℤ gap) where
    abbrev live : List Window → List Window
    live ws = filter (ends_after limit) ws

    times_in : (ts : List ℤ) → AreRising ts → TimesIn ts (sessions_of_rising gap ts)
    times_in [] h = refl
    times_in (t ∷ ts) h = headed (sessions_of_rising gap ts) where
      from : TimesFrom t (t ∷ ts)
      from = (omega (arith, ints), h.0)

      headed : (ws : List Window) → TimesIn (t ∷ ts) (with_earlier gap t ws)
      headed [] = from
      headed (w ∷ ws) = elim (int_lt w.start (t +ℤ gap)) as (λ b. TimesIn (t ∷ ts) (cond b (window t w.end ∷ ws) (window t (t +ℤ gap) ∷ w ∷ ws))) [ true ↦ from | false ↦ from ]

    -- one time more, which is at most all
    live_earlier : (u : ℤ) (us : List ℤ) (ws : List Window) → AreApart gap ws → StartFrom u ws → TimesIn us ws →
        sessions_of_rising gap (filter (lives_in ws) us) ≡ live ws → sessions_of_rising gap (filter (lives_in (with_earlier gap u ws)) (u ∷ us)) ≡ live (with_earlier gap u ws)
    live_earlier u us [] apart from times is =
        let v : Window = window u (u +ℤ gap) in
        ap (λ (ts : List ℤ). sessions_of_rising gap (filter (lives_in (v ∷ [])) (u ∷ ts))) times
        ∙ ap (λ (b : Bool). sessions_of_rising gap (cond b (u ∷ []) [])) (kept_or_not (ends_after limit v) (has_inside u v) false (inside_itself u (u +ℤ gap) (omega (arith, ints))) refl)
        ∙ elim (ends_after limit v) as (λ b. sessions_of_rising gap (cond b (u ∷ []) []) ≡ cond b (v ∷ []) []) [ true ↦ refl | false ↦ refl ]
    live_earlier u us (w ∷ ws) apart from times is =
        let lasts : (w.start +ℤ gap) ≤ℤ w.end = apart.0 in
        let first : u ≤ℤ w.start = from.0 in
        let F : List ℤ = filter (lives_in (w ∷ ws)) us in
        elim (int_lt w.start (u +ℤ gap)) as (λ b. int_lt w.start (u +ℤ gap) ≡ b →
        sessions_of_rising gap (filter (lives_in (cond b (window u w.end ∷ ws) (window u (u +ℤ gap) ∷ w ∷ ws))) (u ∷ us)) ≡ live (cond b (window u w.end ∷ ws) (window u (u +ℤ gap) ∷ w ∷ ws))) [
          | true ↦ λ h.
              let near : w.start <ℤ (u +ℤ gap) = grind (arith, ints) in
              let v : Window = window u w.end in
              let mine : lives_in (v ∷ ws) u ≡ ends_after limit w =
              kept_or_not (ends_after limit w) (has_inside u v) (lives_in ws u) (inside_itself u w.end (omega (arith, ints))) (none_later u w.end (omega (arith, ints)) ws apart.1) in
              let others : filter (lives_in (v ∷ ws)) us ≡ F =
              filter-each (lives_in (v ∷ ws)) (lives_in (w ∷ ws)) us
              (all-each (λ x. w.start ≤ℤ x) (λ x. lives_in (v ∷ ws) x ≡ lives_in (w ∷ ws) x) us
              (λ x m. ap (λ (b : Bool). (ends_after limit w && b) || lives_in ws x) (sym (inside_after u w.end x (omega (arith, ints))) ∙ inside_after w.start w.end x m))
              times) in
              (λ i. sessions_of_rising gap (cond (mine i) (u ∷ others i) (others i)))
              ∙ elim (ends_after limit w) as (λ b. sessions_of_rising gap F ≡ cond b (w ∷ live ws) (live ws) → sessions_of_rising gap (cond b (u ∷ F) F) ≡ cond b (v ∷ live ws) (live ws)) [
                | true ↦ λ k. ap (with_earlier gap u) k ∙ head_linked gap long u w (live ws) near
                | false ↦ λ k. k
              ] is
          | false ↦ λ h.
              let far : (u +ℤ gap) ≤ℤ w.start = grind (arith, ints) in
              let v : Window = window u (u +ℤ gap) in
              let rest : StartFrom (u +ℤ gap) (w ∷ ws) = (far, sooner (u +ℤ gap) w.end (omega (arith, ints)) ws apart.1) in
              let mine : lives_in (v ∷ w ∷ ws) u ≡ ends_after limit v =
              kept_or_not (ends_after limit v) (has_inside u v) (lives_in (w ∷ ws) u) (inside_itself u (u +ℤ gap) (omega (arith, ints))) (none_later u (u +ℤ gap) (omega (arith, ints)) (w ∷ ws) rest) in
              let others : filter (lives_in (v ∷ w ∷ ws)) us ≡ F =
              filter-each (lives_in (v ∷ w ∷ ws)) (lives_in (w ∷ ws)) us
              (all-each (λ x. w.start ≤ℤ x) (λ x. lives_in (v ∷ w ∷ ws) x ≡ lives_in (w ∷ ws) x) us
              (λ x m. ap (λ (b : Bool). b || lives_in (w ∷ ws) x) (ap (λ (b : Bool). ends_after limit v && b) (past_end u (u +ℤ gap) x (omega (arith, ints))) ∙ and-false (ends_after limit v)))
              times) in
              (λ i. sessions_of_rising gap (cond (mine i) (u ∷ others i) (others i)))
              ∙ elim (ends_after limit v) as (λ b. sessions_of_rising gap (cond b (u ∷ F) F) ≡ cond b (v ∷ live (w ∷ ws)) (live (w ∷ ws))) [
                | true ↦ ap (with_earlier gap u) is ∙ head_apart gap long u (live (w ∷ ws)) (filter-all (λ x. (u +ℤ gap) ≤ℤ x.start) (ends_after limit) (w ∷ ws) rest)
                | false ↦ is
              ]
        ] refl

    live_rising : (ts : List ℤ) → AreRising ts → sessions_of_rising gap (filter (lives_in (sessions_of_rising gap ts)) ts) ≡ live (sessions_of_rising gap ts)
    live_rising [] h = refl
    live_rising (t ∷ ts) h = live_earlier t ts (sessions_of_rising gap ts) (apart_rising gap long ts h.1) (from_times gap long t ts h.0) (times_in ts h.1) (live_rising ts h.1)

    -- the sessions of the times that live are the live sessions
    pub sessions-live : (ts : List ℤ) → sessions gap (filter (lives_in (sessions gap ts)) ts) ≡ filter (ends_after limit) (sessions gap ts)
    sessions-live ts = ap (sessions_of_rising gap) (sym (filter-rising (lives_in (sessions gap ts)) ts)) ∙ live_rising (rising ts) (is_rising ts)

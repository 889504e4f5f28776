-- The live sessions of one key, by rising start, as a list that a time is put into: which ones it is
-- linked to, in what place, and what is left where sessions are dropped.
use Rattle.std.proofs.Common.{◌≡◌, Bool, true, false, ◌&&◌, cond, List, [], ◌∷◌, ◌++◌, ℤ, pos, ◌+ℤ◌, ◌≤ℤ◌, ◌<ℤ◌, refl, sym, subst, ap, ◌∙◌, arith}
use Rattle.std.proofs.lemmas.Int.{ints, clamps}
use Rattle.std.specs.Prelude.{filter, int_le, int_lt}
use Rattle.std.specs.Int.{int_max, int_min}
use Rattle.std.specs.List.{AllByRecursion}
use Rattle.wsm_windows.specs.declared.window.Window.{Window}
use Rattle.wsm_windows.specs.Windows.{window}
use Rattle.wsm_semantics.specs.Sessions.{with_time, ends_by, starts_from, links, session_of, with_session}
use Rattle.wsm_semantics.proofs.Sessions.{StartFrom, AreApart, sooner, none_ends_by, none_linked, all_later}
use Rattle.wsm_semantics.proofs.SessionTimes.{apart-filter, both_linked, linked_all}

-- ---- a time may stand anywhere among the times

same_time : (t u : ℤ) → int_lt t u ≡ false → int_lt u t ≡ false → t ≡ u
same_time t u h k = grind (arith, ints)

first_two : (t u : ℤ) (xs : List ℤ) → cond (int_lt t u) (t ∷ u ∷ xs) (u ∷ t ∷ xs) ≡ cond (int_lt u t) (u ∷ t ∷ xs) (t ∷ u ∷ xs)
first_two t u xs =
    elim (int_lt t u) as (λ b. int_lt t u ≡ b → cond b (t ∷ u ∷ xs) (u ∷ t ∷ xs) ≡ cond (int_lt u t) (u ∷ t ∷ xs) (t ∷ u ∷ xs)) [
      | true ↦ λ h. let e : int_lt u t ≡ false = grind (arith, ints) in ap (λ (b : Bool). cond b (u ∷ t ∷ xs) (t ∷ u ∷ xs)) (sym e)
      | false ↦ λ h. elim (int_lt u t) as (λ b. int_lt u t ≡ b → u ∷ t ∷ xs ≡ cond b (u ∷ t ∷ xs) (t ∷ u ∷ xs)) [
        | true ↦ λ k. refl
        | false ↦ λ k. let e : t ≡ u = same_time t u h k in λ i. sym e i ∷ e i ∷ xs
      ] refl
    ] refl

pub with_time-swap : (t u : ℤ) (xs : List ℤ) → with_time t (with_time u xs) ≡ with_time u (with_time t xs)
with_time-swap t u [] = first_two t u []
with_time-swap t u (x ∷ xs) =
    elim (int_lt u x) as (λ b. int_lt u x ≡ b → with_time t (cond b (u ∷ x ∷ xs) (x ∷ with_time u xs)) ≡ with_time u (cond (int_lt t x) (t ∷ x ∷ xs) (x ∷ with_time t xs))) [
      | true ↦ λ h. elim (int_lt t x) as (λ c. int_lt t x ≡ c → with_time t (u ∷ x ∷ xs) ≡ with_time u (cond c (t ∷ x ∷ xs) (x ∷ with_time t xs))) [
        | true ↦ λ k.
            ap (λ (c : Bool). cond (int_lt t u) (t ∷ u ∷ x ∷ xs) (u ∷ cond c (t ∷ x ∷ xs) (x ∷ with_time t xs))) k
            ∙ first_two t u (x ∷ xs)
            ∙ ap (λ (c : Bool). cond (int_lt u t) (u ∷ t ∷ x ∷ xs) (t ∷ cond c (u ∷ x ∷ xs) (x ∷ with_time u xs))) (sym h)
        | false ↦ λ k.
            let e : int_lt t u ≡ false = grind (arith, ints) in
            (λ i. cond (e i) (t ∷ u ∷ x ∷ xs) (u ∷ cond (k i) (t ∷ x ∷ xs) (x ∷ with_time t xs)))
            ∙ ap (λ (c : Bool). cond c (u ∷ x ∷ with_time t xs) (x ∷ with_time u (with_time t xs))) (sym h)
      ] refl
      | false ↦ λ h. elim (int_lt t x) as (λ c. int_lt t x ≡ c → cond c (t ∷ x ∷ with_time u xs) (x ∷ with_time t (with_time u xs)) ≡ with_time u (cond c (t ∷ x ∷ xs) (x ∷ with_time t xs))) [
        | true ↦ λ k.
            let e : int_lt u t ≡ false = grind (arith, ints) in
            sym (λ i. cond (e i) (u ∷ t ∷ x ∷ xs) (t ∷ cond (h i) (u ∷ x ∷ xs) (x ∷ with_time u xs)))
        | false ↦ λ k.
            ap (λ (ys : List ℤ). x ∷ ys) (with_time-swap t u xs)
            ∙ ap (λ (c : Bool). cond c (u ∷ x ∷ with_time t xs) (x ∷ with_time u (with_time t xs))) (sym h)
      ] refl
    ] refl

-- ---- sessions that lie apart

module _ (gap : ℤ) (long : pos 1 ≤ℤ gap) where
  -- first those that ended by a time, then those that it is linked to, then those a gap after it
  pub in_order : (t : ℤ) (ws : List Window) → AreApart gap ws → ws ≡ filter (ends_by t) ws ++ (filter (links gap t) ws ++ filter (starts_from (t +ℤ gap)) ws)
  in_order t [] a = refl
  in_order t (w ∷ ws) a =
      let lasts : (w.start +ℤ gap) ≤ℤ w.end = a.0 in
      let rest = in_order t ws a.2 in
      let P : List Window = filter (ends_by t) ws in
      let L : List Window = filter (links gap t) ws in
      let S : List Window = filter (starts_from (t +ℤ gap)) ws in
      elim (int_le w.end t) as (λ b. int_le w.end t ≡ b → w ∷ ws ≡ cond b (w ∷ P) P ++ (cond (links gap t w) (w ∷ L) L ++ cond (int_le (t +ℤ gap) w.start) (w ∷ S) S)) [
        | true ↦ λ h.
            let l : links gap t w ≡ false = ended_apart t w h in
            let s : int_le (t +ℤ gap) w.start ≡ false = grind (arith, ints) in
            ap (λ (vs : List Window). w ∷ vs) rest ∙ sym (λ i. w ∷ (P ++ (cond (l i) (w ∷ L) L ++ cond (s i) (w ∷ S) S)))
        | false ↦ λ h.
            let lives : t <ℤ w.end = grind (arith, ints) in
            let none : P ≡ [] = none_ends_by gap long t ws a.2 (sooner t w.end (omega (arith, ints)) ws a.1) in
            elim (int_lt w.start (t +ℤ gap)) as (λ b. int_lt w.start (t +ℤ gap) ≡ b → w ∷ ws ≡ P ++ (cond (b && int_lt t w.end) (w ∷ L) L ++ cond (int_le (t +ℤ gap) w.start) (w ∷ S) S)) [
              | true ↦ λ k.
                  let l : int_lt t w.end ≡ true = grind (arith, ints) in
                  let s : int_le (t +ℤ gap) w.start ≡ false = grind (arith, ints) in
                  ap (λ (vs : List Window). w ∷ vs) (rest ∙ ap (λ (vs : List Window). vs ++ (L ++ S)) none)
                  ∙ sym (λ i. none i ++ (cond (l i) (w ∷ L) L ++ cond (s i) (w ∷ S) S))
              | false ↦ λ k.
                  let s : int_le (t +ℤ gap) w.start ≡ true = grind (arith, ints) in
                  let far : StartFrom (t +ℤ gap) ws = sooner (t +ℤ gap) w.end (after w.start w.end t lasts s) ws a.1 in
                  sym (λ i. none i ++ (none_linked gap long t ws far i ++ cond (s i) (w ∷ all_later gap long (t +ℤ gap) ws far i) S))
            ] refl
      ] refl
    where
      ended_apart : (t : ℤ) (w : Window) → int_le w.end t ≡ true → links gap t w ≡ false
      ended_apart t w h = grind (arith, ints)

      after : (start end t : ℤ) → (start +ℤ gap) ≤ℤ end → int_le (t +ℤ gap) start ≡ true → (t +ℤ gap) ≤ℤ end
      after start end t h k = grind (arith, ints)

  -- ---- what a time does to sessions: it begins one, extends one or joins two

  -- before and after those that it is linked to
  abbrev before : ℤ → List Window → List Window
  before t ws = filter (ends_by t) ws

  abbrev beyond : ℤ → List Window → List Window
  beyond t ws = filter (starts_from (t +ℤ gap)) ws

  module _ (t : ℤ) (ws : List Window) (apart : AreApart gap ws) where
    around : (ls : List Window) → filter (links gap t) ws ≡ ls → (ws ≡ before t ws ++ (ls ++ beyond t ws)) × (with_session gap t ws ≡ before t ws ++ session_of gap t ls ∷ beyond t ws)
    around ls h = (in_order t ws apart ∙ ap (λ (vs : List Window). before t ws ++ (vs ++ beyond t ws)) h, ap (λ (vs : List Window). before t ws ++ session_of gap t vs ∷ beyond t ws) h)

    -- a time that is linked to none
    pub begins : filter (links gap t) ws ≡ [] → (ws ≡ before t ws ++ beyond t ws) × (with_session gap t ws ≡ before t ws ++ window t (t +ℤ gap) ∷ beyond t ws)
    begins h = around [] h

    -- to one
    pub extends : (w : Window) → filter (links gap t) ws ≡ w ∷ [] →
        (ws ≡ before t ws ++ w ∷ beyond t ws) × (with_session gap t ws ≡ before t ws ++ window (int_min w.start t) (int_max w.end (t +ℤ gap)) ∷ beyond t ws)
    extends w h = around (w ∷ []) h

    -- to two
    pub joins : (w v : Window) → filter (links gap t) ws ≡ w ∷ v ∷ [] → (ws ≡ before t ws ++ w ∷ v ∷ beyond t ws) × (with_session gap t ws ≡ before t ws ++ window w.start v.end ∷ beyond t ws)
    joins w v h =
        let parts = around (w ∷ v ∷ []) h in
        let two : AreApart gap (w ∷ v ∷ []) = subst (AreApart gap) h (apart-filter gap (links gap t) ws apart) in
        let both : AllByRecursion (λ x. links gap t x ≡ true) (w ∷ v ∷ []) = subst (AllByRecursion (λ x. links gap t x ≡ true)) h (linked_all gap long t ws) in
        (parts.0, parts.1 ∙ λ i. before t ws ++ window (start w v two both i) (end w v two both i) ∷ beyond t ws)
      where
        least : (w v : Window) (t : ℤ) → (w.start +ℤ gap) ≤ℤ w.end → w.end ≤ℤ v.start → v.start <ℤ (t +ℤ gap) → int_min w.start (int_min v.start t) ≡ w.start
        least w v t a b c = omega (arith, ints, clamps)

        greatest : (w v : Window) (t : ℤ) → w.end ≤ℤ v.start → (v.start +ℤ gap) ≤ℤ v.end → t <ℤ w.end → int_max w.end (int_max v.end (t +ℤ gap)) ≡ v.end
        greatest w v t a b c = omega (arith, ints, clamps)

        start : (w v : Window) → AreApart gap (w ∷ v ∷ []) → AllByRecursion (λ x. links gap t x ≡ true) (w ∷ v ∷ []) → int_min w.start (int_min v.start t) ≡ w.start
        start w v two both = least w v t two.0 two.1.0 (both_linked gap long t v both.1.0).0

        end : (w v : Window) → AreApart gap (w ∷ v ∷ []) → AllByRecursion (λ x. links gap t x ≡ true) (w ∷ v ∷ []) → int_max w.end (int_max v.end (t +ℤ gap)) ≡ v.end
        end w v two both = greatest w v t two.1.0 two.2.0 (both_linked gap long t w both.0).1

-- Times and the sessions of one key: each time lies in exactly one session, each session has a time,
-- a time is linked to two sessions at most, and to none that ended by it.
use Rattle.std.proofs.Common.{◌≡◌, ◌≤◌, Bool, true, false, ◌||◌, cond, List, [], ◌∷◌, ◌++◌, length, ℤ, pos, ◌+ℤ◌, ◌≤ℤ◌, ◌<ℤ◌, ◌⊎◌, inl, inr, refl, sym, ap, subst, ◌∙◌, arith}
use Rattle.std.proofs.lemmas.Int.{ints, clamps}
use Rattle.std.proofs.lemmas.Bool.{true≢false, or_right}
use Rattle.std.proofs.lemmas.List.Folds.{list_any-append}
use Rattle.std.specs.Prelude.{filter}
use Rattle.std.specs.Int.{int_max, int_min}
use Rattle.std.specs.List.{AllByRecursion, list_any}
use Rattle.wsm_windows.specs.declared.window.Window.{Window}
use Rattle.wsm_windows.specs.Windows.{window, has_inside}
use Rattle.wsm_semantics.specs.Sessions.{sessions, ends_by, starts_from, links, session_of, with_session}
use Rattle.wsm_semantics.proofs.Lists.{IsNonEmpty, some_pass, filter-all, all-each}
use Rattle.wsm_semantics.proofs.Each.{passed, all-append, same_answers}
use Rattle.wsm_semantics.proofs.Sessions.{StartFrom, AreApart, holds_time, sessions-more, sessions_apart}
use Rattle.wsm_windows.proofs.Members.{is_inside}

all-middle : {A : Type 0} (P : A → Type 0) (xs ys : List A) (y : A) → AllByRecursion P (xs ++ y ∷ ys) → P y
all-middle P [] ys y h = h.0
all-middle P (x ∷ xs) ys y h = all-middle P xs ys y h.1

-- one of some windows
abbrev pub IsOneOf : Window → List Window → Type 0
IsOneOf a [] = ⊥
IsOneOf a (w ∷ ws) = (a ≡ w) ⊎ IsOneOf a ws

pub of-all : (P : Window → Type 0) (a : Window) (ws : List Window) → AllByRecursion P ws → IsOneOf a ws → P a
of-all P a [] h m = absurd m
of-all P a (w ∷ ws) h (inl e) = subst P (sym e) h.0
of-all P a (w ∷ ws) h (inr m) = of-all P a ws h.1 m

pub inside_is : (u : ℤ) (w : Window) → has_inside u w ≡ true → (w.start ≤ℤ u) × (u <ℤ w.end)
inside_is u w h = (grind (arith, ints), grind (arith, ints))

not_inside_before : (u : ℤ) (w : Window) → w.end ≤ℤ u → has_inside u w ≡ false
not_inside_before u w h = grind (arith, ints)

pub not_inside_after : (u : ℤ) (w : Window) → u <ℤ w.start → has_inside u w ≡ false
not_inside_after u w h = grind (arith, ints)

wider : (u : ℤ) (w v : Window) → has_inside u v ≡ true → has_inside u (window (int_min w.start v.start) (int_max w.end v.end)) ≡ true
wider u w v h = let k = inside_is u v h in let a : v.start ≤ℤ u = k.0 in let b : u <ℤ v.end = k.1 in is_inside u _ (omega (arith, ints, clamps)) (omega (arith, ints, clamps))

wide : (u : ℤ) (w v : Window) → has_inside u w ≡ true → has_inside u (window (int_min w.start v.start) (int_max w.end v.end)) ≡ true
wide u w v h = let k = inside_is u w h in let a : w.start ≤ℤ u = k.0 in let b : u <ℤ w.end = k.1 in is_inside u _ (omega (arith, ints, clamps)) (omega (arith, ints, clamps))

none_before : (u x : ℤ) → x ≤ℤ u → (ws : List Window) → AllByRecursion (λ w. w.end ≤ℤ x) ws → list_any (has_inside u) ws ≡ false
none_before u x h [] f = refl
none_before u x h (w ∷ ws) f =
    let e : w.end ≤ℤ x = f.0 in
    λ i. not_inside_before u w (omega (arith, ints)) i || none_before u x h ws f.1 i

pub none_after : (u x : ℤ) → u <ℤ x → (ws : List Window) → StartFrom x ws → list_any (has_inside u) ws ≡ false
none_after u x h [] f = refl
none_after u x h (w ∷ ws) f =
    let e : x ≤ℤ w.start = f.0 in
    λ i. not_inside_after u w (omega (arith, ints)) i || none_after u x h ws f.1 i

-- one of three
of_three : (a b c : Bool) → (a || (b || c)) ≡ true → (a ≡ true) ⊎ ((b ≡ true) ⊎ (c ≡ true))
of_three true b c h = inl refl
of_three false true c h = inr (inl refl)
of_three false false c h = inr (inr h)

module _ (gap : ℤ) where
  pub sorted : (t : ℤ) (w : Window) → (ends_by t w || (links gap t w || starts_from (t +ℤ gap) w)) ≡ true
  sorted t w = grind (arith, ints)

  -- an answer that the head doesn't give
  skips : (test : Window → Bool) (w : Window) → test w ≡ false → (b : Bool) (ws : List Window) → list_any test (cond b (w ∷ ws) ws) ≡ list_any test ws
  skips test w h true ws = ap (λ (b : Bool). b || list_any test ws) h
  skips test w h false ws = refl

  takes : (test : Window → Bool) (w : Window) → test w ≡ true → (b : Bool) → b ≡ true → (ws : List Window) → list_any test (cond b (w ∷ ws) ws) ≡ true
  takes test w h b is ws = ap (λ (c : Bool). list_any test (cond c (w ∷ ws) ws)) is ∙ ap (λ (c : Bool). c || list_any test ws) h

  -- each session ends by the time, is linked to it or starts a gap after it
  sorted_out : (t : ℤ) (test : Window → Bool) (ws : List Window) →
      list_any test ws ≡ (list_any test (filter (ends_by t) ws) || (list_any test (filter (links gap t) ws) || list_any test (filter (starts_from (t +ℤ gap)) ws)))
  sorted_out t test [] = refl
  sorted_out t test (w ∷ ws) =
      let P : List Window = filter (ends_by t) ws in
      let L : List Window = filter (links gap t) ws in
      let S : List Window = filter (starts_from (t +ℤ gap)) ws in
      let p : Bool = ends_by t w in
      let l : Bool = links gap t w in
      let s : Bool = starts_from (t +ℤ gap) w in
      elim (test w) as (λ b. test w ≡ b → (b || list_any test ws) ≡ (list_any test (cond p (w ∷ P) P) || (list_any test (cond l (w ∷ L) L) || list_any test (cond s (w ∷ S) S)))) [
        | true ↦ λ h. sym (pick (list_any test (cond p (w ∷ P) P)) (list_any test (cond l (w ∷ L) L)) (list_any test (cond s (w ∷ S) S)) p l s
            (λ k. takes test w h p k P) (λ k. takes test w h l k L) (λ k. takes test w h s k S) (of_three p l s (sorted t w)))
        | false ↦ λ h. sorted_out t test ws ∙ sym (λ i. skips test w h p P i || (skips test w h l L i || skips test w h s S i))
      ] refl
    where
      pick : (x y z a b c : Bool) → (a ≡ true → x ≡ true) → (b ≡ true → y ≡ true) → (c ≡ true → z ≡ true) → (a ≡ true) ⊎ ((b ≡ true) ⊎ (c ≡ true)) → (x || (y || z)) ≡ true
      pick x y z a b c f g h (inl k) = ap (λ (d : Bool). d || (y || z)) (f k)
      pick x y z a b c f g h (inr (inl k)) = or_right x (y || z) (ap (λ (d : Bool). d || z) (g k))
      pick x y z a b c f g h (inr (inr k)) = or_right x (y || z) (or_right y z (h k))

  -- what is inside a linked session is inside the joined one
  inside_joined : (u t : ℤ) (ws : List Window) → list_any (has_inside u) ws ≡ true → has_inside u (session_of gap t ws) ≡ true
  inside_joined u t [] h = absurd (true≢false (sym h))
  inside_joined u t (w ∷ ws) h =
      elim (has_inside u w) as (λ b. has_inside u w ≡ b → (b || list_any (has_inside u) ws) ≡ true → has_inside u (session_of gap t (w ∷ ws)) ≡ true) [
        | true ↦ λ k _. wide u w (session_of gap t ws) k
        | false ↦ λ k l. wider u w (session_of gap t ws) (inside_joined u t ws l)
      ] refl h

  stays_covered : (t u : ℤ) (ws : List Window) → list_any (has_inside u) ws ≡ true → list_any (has_inside u) (with_session gap t ws) ≡ true
  stays_covered t u ws h =
      let P : List Window = filter (ends_by t) ws in
      let L : List Window = filter (links gap t) ws in
      let S : List Window = filter (starts_from (t +ℤ gap)) ws in
      list_any-append (has_inside u) P (session_of gap t L ∷ S)
      ∙ pick (list_any (has_inside u) P) (list_any (has_inside u) L) (list_any (has_inside u) S) (has_inside u (session_of gap t L)) (inside_joined u t L)
      (of_three _ _ _ (sym (sorted_out t (has_inside u) ws) ∙ h))
    where
      pick : (a b c d : Bool) → (b ≡ true → d ≡ true) → (a ≡ true) ⊎ ((b ≡ true) ⊎ (c ≡ true)) → (a || (d || c)) ≡ true
      pick a b c d f (inl k) = ap (λ (x : Bool). x || (d || c)) k
      pick a b c d f (inr (inl k)) = or_right a (d || c) (ap (λ (x : Bool). x || c) (f k))
      pick a b c d f (inr (inr k)) = or_right a (d || c) (or_right d c k)

  before_middle : (ps qs : List Window) (v : Window) → AreApart gap (ps ++ v ∷ qs) → AllByRecursion (λ w. w.end ≤ℤ v.start) ps × StartFrom v.end qs
  before_middle [] qs v a = (tt, a.1)
  before_middle (p ∷ ps) qs v a = let h = before_middle ps qs v a.2 in ((all-middle (λ w. p.end ≤ℤ w.start) ps qs v a.1, h.0), h.1)

  pub apart-filter : (p : Window → Bool) (ws : List Window) → AreApart gap ws → AreApart gap (filter p ws)
  apart-filter p [] a = tt
  apart-filter p (w ∷ ws) a = elim (p w) as (λ b. AreApart gap (cond b (w ∷ filter p ws) (filter p ws))) [
    | true ↦ (a.0, filter-all (λ v. w.end ≤ℤ v.start) p ws a.1, apart-filter p ws a.2)
    | false ↦ apart-filter p ws a.2
  ]

  module _ (long : pos 1 ≤ℤ gap) where
    holds_itself : (t : ℤ) (ws : List Window) → has_inside t (session_of gap t ws) ≡ true
    holds_itself t ws =
        let h = holds_time gap long t ws in
        let a : (session_of gap t ws).start ≤ℤ t = h.0 in
        let b : (t +ℤ gap) ≤ℤ (session_of gap t ws).end = h.1 in
        is_inside t _ a (omega (arith, ints))

    -- each time lies in a session
    pub covered : (ts : List ℤ) → AllByRecursion (λ u. list_any (has_inside u) (sessions gap ts) ≡ true) ts
    covered [] = tt
    covered (t ∷ ts) =
        let ws : List Window = sessions gap ts in
        subst (λ (vs : List Window). AllByRecursion (λ u. list_any (has_inside u) vs ≡ true) (t ∷ ts)) (sym (sessions-more gap long t ts)) (
          list_any-append (has_inside t) (filter (ends_by t) ws) _
              ∙ or_right (list_any (has_inside t) (filter (ends_by t) ws)) _ (ap (λ (b : Bool). b || list_any (has_inside t) (filter (starts_from (t +ℤ gap)) ws)) (holds_itself t (filter (links gap t) ws))),
          all-each (λ u. list_any (has_inside u) ws ≡ true) (λ u. list_any (has_inside u) (with_session gap t ws) ≡ true) ts (λ u h. stays_covered t u ws h) (covered ts),
        )

    one_at_most : (u : ℤ) (ws : List Window) → AreApart gap ws → AllByRecursion (λ w. has_inside u w ≡ true) ws → length ws ≤ 1
    one_at_most u [] a h = omega arith
    one_at_most u (w ∷ []) a h = omega arith
    one_at_most u (w ∷ v ∷ ws) a h = absurd (clash w v (inside_is u w h.0).1 (inside_is u v h.1.0).0 a.1.0) where
      clash : (w v : Window) → u <ℤ w.end → v.start ≤ℤ u → w.end ≤ℤ v.start → ⊥
      clash w v a b c = omega (arith, ints)

    -- each time lies in exactly one session
    pub exactly_one : (ts : List ℤ) → AllByRecursion (λ u. length (filter (has_inside u) (sessions gap ts)) ≡ 1) ts
    exactly_one ts =
        all-each (λ u. list_any (has_inside u) (sessions gap ts) ≡ true) (λ u. length (filter (has_inside u) (sessions gap ts)) ≡ 1) ts
        (λ u h. one (filter (has_inside u) (sessions gap ts)) (some_pass (has_inside u) (sessions gap ts) h)
        (one_at_most u (filter (has_inside u) (sessions gap ts)) (apart-filter (has_inside u) (sessions gap ts) (sessions_apart gap long ts)) (passed (has_inside u) (sessions gap ts))))
        (covered ts)
      where
        one : (ws : List Window) → IsNonEmpty ws → length ws ≤ 1 → length ws ≡ 1
        one [] (w, vs, e) h = absurd (cc)
        one (w ∷ ws) n h = omega arith

    -- each session has a time
    pub owned : (ts : List ℤ) → AllByRecursion (λ w. list_any (λ t. has_inside t w) ts ≡ true) (sessions gap ts)
    owned [] = tt
    owned (t ∷ ts) =
        let ws : List Window = sessions gap ts in
        let Has : Window → Type 0 = λ w. list_any (λ u. has_inside u w) (t ∷ ts) ≡ true in
        let old : AllByRecursion Has ws = all-each (λ w. list_any (λ u. has_inside u w) ts ≡ true) Has ws (λ w h. or_right (has_inside t w) _ h) (owned ts) in
        subst (AllByRecursion Has) (sym (sessions-more gap long t ts))
        (all-append Has (filter (ends_by t) ws) _ (filter-all Has (ends_by t) ws old)
        (ap (λ (b : Bool). b || list_any (λ u. has_inside u (session_of gap t (filter (links gap t) ws))) ts) (holds_itself t (filter (links gap t) ws)), filter-all Has (starts_from (t +ℤ gap)) ws old))

    -- of the times in sessions, the joined one holds those of the sessions that it joins
    pub inside_of_joined : (t u : ℤ) (ts : List ℤ) → list_any (has_inside u) (sessions gap ts) ≡ true →
        has_inside u (session_of gap t (filter (links gap t) (sessions gap ts))) ≡ list_any (has_inside u) (filter (links gap t) (sessions gap ts))
    inside_of_joined t u ts h =
        let ws : List Window = sessions gap ts in
        let P : List Window = filter (ends_by t) ws in
        let L : List Window = filter (links gap t) ws in
        let S : List Window = filter (starts_from (t +ℤ gap)) ws in
        let v : Window = session_of gap t L in
        let apart = before_middle P S v (subst (AreApart gap) (sessions-more gap long t ts) (sessions_apart gap long (t ∷ ts))) in
        same_answers _ _
        (λ k.
        let in_v = inside_is u v k in
        drop_sides (list_any (has_inside u) P) (list_any (has_inside u) L) (list_any (has_inside u) S)
        (none_before u v.start in_v.0 P apart.0) (none_after u v.end in_v.1 S apart.1) (sym (sorted_out t (has_inside u) ws) ∙ h))
        (inside_joined u t L)
      where
        drop_sides : (a b c : Bool) → a ≡ false → c ≡ false → (a || (b || c)) ≡ true → b ≡ true
        drop_sides a true c h k l = refl
        drop_sides a false c h k l = absurd (true≢false (sym l ∙ λ i. h i || k i))

    -- two sessions with a time inside are one
    pub one_inside : (ws : List Window) → AreApart gap ws → (u : ℤ) (a b : Window) → IsOneOf a ws → IsOneOf b ws → has_inside u a ≡ true → has_inside u b ≡ true → a ≡ b
    one_inside [] apart u a b m n h k = absurd m
    one_inside (w ∷ ws) apart u a b (inl d) (inl e) h k = d ∙ sym e
    one_inside (w ∷ ws) apart u a b (inl d) (inr n) h k =
        absurd (let x = (inside_is u a h).1 in let y = (inside_is u b k).0 in let z : w.end ≤ℤ b.start = of-all (λ v. w.end ≤ℤ v.start) b ws apart.1 n in let same : a.end ≡ w.end = ap (λ (v : Window). v.end) d in clash a.end w.end b.start u x y z same)
      where
        clash : (a w b u : ℤ) → u <ℤ a → b ≤ℤ u → w ≤ℤ b → a ≡ w → ⊥
        clash a w b u x y z s = omega (arith, ints)
    one_inside (w ∷ ws) apart u a b (inr m) (inl e) h k =
        absurd (let x = (inside_is u b k).1 in let y = (inside_is u a h).0 in let z : w.end ≤ℤ a.start = of-all (λ v. w.end ≤ℤ v.start) a ws apart.1 m in let same : b.end ≡ w.end = ap (λ (v : Window). v.end) e in clash b.end w.end a.start u x y z same)
      where
        clash : (a w b u : ℤ) → u <ℤ a → b ≤ℤ u → w ≤ℤ b → a ≡ w → ⊥
        clash a w b u x y z s = omega (arith, ints)
    one_inside (w ∷ ws) apart u a b (inr m) (inr n) h k = one_inside ws apart.2 u a b m n h k

    pub both_linked : (t : ℤ) (w : Window) → links gap t w ≡ true → (w.start <ℤ (t +ℤ gap)) × (t <ℤ w.end)
    both_linked t w h = (grind (arith, ints), grind (arith, ints))

    pub linked_all : (t : ℤ) (ws : List Window) → AllByRecursion (λ w. links gap t w ≡ true) (filter (links gap t) ws)
    linked_all t [] = tt
    linked_all t (w ∷ ws) = elim (links gap t w) as (λ b. links gap t w ≡ b → AllByRecursion (λ w. links gap t w ≡ true) (cond b (w ∷ filter (links gap t) ws) (filter (links gap t) ws))) [
      | true ↦ λ h. (h, linked_all t ws)
      | false ↦ λ h. linked_all t ws
    ] refl

    pub two_at_most : (t : ℤ) (ws : List Window) → AreApart gap ws → AllByRecursion (λ w. links gap t w ≡ true) ws → length ws ≤ 2
    two_at_most t [] a h = omega arith
    two_at_most t (w ∷ []) a h = omega arith
    two_at_most t (w ∷ v ∷ []) a h = omega arith
    two_at_most t (w ∷ v ∷ x ∷ ws) a h =
        absurd (clash t gap w v x (both_linked t w h.0).1 (both_linked t x h.1.1.0).0 a.1.0 a.2.0 a.2.1.0)
      where
        clash : (t gap : ℤ) (w v x : Window) → t <ℤ w.end → x.start <ℤ (t +ℤ gap) → w.end ≤ℤ v.start → (v.start +ℤ gap) ≤ℤ v.end → v.end ≤ℤ x.start → ⊥
        clash t gap w v x a b c d e = omega (arith, ints)

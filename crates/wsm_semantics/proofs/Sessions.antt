-- The sessions of one key with one time more: it takes the place of those that it is linked to.
use Rattle.std.proofs.Common.{◌≡◌, Bool, true, false, ◌&&◌, cond, List, [], ◌∷◌, ◌++◌, ℤ, pos, ◌+ℤ◌, ◌≤ℤ◌, ◌<ℤ◌, refl, sym, ap, ◌∙◌, arith}
use Rattle.std.proofs.lemmas.Int.{ints, clamps}
use Rattle.std.specs.Prelude.{filter, int_le, int_lt}
use Rattle.std.specs.Int.{int_max, int_min}
use Rattle.std.specs.List.{AllByRecursion}
use Rattle.std.proofs.Math.Bool.{and-false}
use Rattle.wsm_windows.specs.declared.window.Window.{Window}
use Rattle.wsm_windows.specs.Windows.{window}
use Rattle.wsm_semantics.specs.Sessions.{with_time, rising, with_earlier, sessions_of_rising, sessions, ends_by, starts_from, links, session_of, with_session}
use Rattle.wsm_semantics.proofs.Lists.{filter-all, all-each}
use Rattle.wsm_semantics.proofs.Each.{all-append}

-- none starts before x
abbrev pub StartFrom : ℤ → List Window → Type 0
StartFrom x ws = AllByRecursion (λ w. x ≤ℤ w.start) ws

-- each lasts a gap or more and starts no sooner than those before it end
abbrev pub AreApart : ℤ → List Window → Type 0
AreApart gap [] = Unit {0}
AreApart gap (w ∷ ws) = ((w.start +ℤ gap) ≤ℤ w.end) × StartFrom w.end ws × AreApart gap ws

abbrev pub TimesFrom : ℤ → List ℤ → Type 0
TimesFrom x ts = AllByRecursion (λ t. x ≤ℤ t) ts

abbrev pub AreRising : List ℤ → Type 0
AreRising [] = Unit {0}
AreRising (t ∷ ts) = TimesFrom t ts × AreRising ts

pub sooner : (x y : ℤ) → x ≤ℤ y → (ws : List Window) → StartFrom y ws → StartFrom x ws
sooner x y h ws f = all-each (λ w. y ≤ℤ w.start) (λ w. x ≤ℤ w.start) ws (λ w k. omega (arith, ints)) f

least : (t s : ℤ) → t ≤ℤ s → int_min t s ≡ t
least t s h = omega (arith, ints, clamps)

greatest : (e u : ℤ) → e ≤ℤ u → int_max e u ≡ u
greatest e u h = omega (arith, ints, clamps)

least_second : (t s : ℤ) → t ≤ℤ s → int_min s t ≡ t
least_second t s h = omega (arith, ints, clamps)

greatest_first : (u e : ℤ) → u ≤ℤ e → int_max e u ≡ e
greatest_first u e h = omega (arith, ints, clamps)

lower : (s v x : ℤ) → s <ℤ x → int_min s v <ℤ x
lower s v x h = omega (arith, ints, clamps)

times_from : (x t : ℤ) (ts : List ℤ) → x ≤ℤ t → TimesFrom x ts → TimesFrom x (with_time t ts)
times_from x t [] h f = (h, tt)
times_from x t (u ∷ us) h f =
    elim (int_lt t u) as (λ b. TimesFrom x (cond b (t ∷ u ∷ us) (u ∷ with_time t us))) [
      | true ↦ (h, f)
      | false ↦ (f.0, times_from x t us h f.1)
    ]

stays_rising : (t : ℤ) (ts : List ℤ) → AreRising ts → AreRising (with_time t ts)
stays_rising t [] h = (tt, tt)
stays_rising t (u ∷ us) h =
    elim (int_lt t u) as (λ b. int_lt t u ≡ b → AreRising (cond b (t ∷ u ∷ us) (u ∷ with_time t us))) [
      | true ↦ λ k. let less : t ≤ℤ u = grind (arith, ints) in ((less, all-each (λ x. u ≤ℤ x) (λ x. t ≤ℤ x) us (λ x m. omega (arith, ints)) h.0), h)
      | false ↦ λ k. let more : u ≤ℤ t = grind (arith, ints) in (times_from u t us more h.0, stays_rising t us h.1)
    ] refl

pub is_rising : (ts : List ℤ) → AreRising (rising ts)
is_rising [] = tt
is_rising (t ∷ ts) = stays_rising t (rising ts) (is_rising ts)

module _ (gap : ℤ) (long : pos 1 ≤ℤ gap) where
  pub none_ends_by : (t : ℤ) (ws : List Window) → AreApart gap ws → StartFrom t ws → filter (ends_by t) ws ≡ []
  none_ends_by t [] a f = refl
  none_ends_by t (w ∷ ws) a f =
      let lasts : (w.start +ℤ gap) ≤ℤ w.end = a.0 in
      let from : t ≤ℤ w.start = f.0 in
      let e : int_le w.end t ≡ false = grind (arith, ints) in
      ap (λ (b : Bool). cond b (w ∷ filter (ends_by t) ws) (filter (ends_by t) ws)) e ∙ none_ends_by t ws a.2 f.1

  pub none_linked : (t : ℤ) (ws : List Window) → StartFrom (t +ℤ gap) ws → filter (links gap t) ws ≡ []
  none_linked t [] f = refl
  none_linked t (w ∷ ws) f =
      let from : (t +ℤ gap) ≤ℤ w.start = f.0 in
      let e : int_lt w.start (t +ℤ gap) ≡ false = grind (arith, ints) in
      ap (λ (b : Bool). cond (b && int_lt t w.end) (w ∷ filter (links gap t) ws) (filter (links gap t) ws)) e ∙ none_linked t ws f.1

  pub all_later : (t : ℤ) (ws : List Window) → StartFrom t ws → filter (starts_from t) ws ≡ ws
  all_later t [] f = refl
  all_later t (w ∷ ws) f =
      let from : t ≤ℤ w.start = f.0 in
      let e : int_le t w.start ≡ true = grind (arith, ints) in
      ap (λ (b : Bool). cond b (w ∷ filter (starts_from t) ws) (filter (starts_from t) ws)) e ∙ ap (λ (vs : List Window). w ∷ vs) (all_later t ws f.1)

  -- a session holds the time and those that it is linked to
  pub holds_time : (t : ℤ) (ws : List Window) → ((session_of gap t ws).start ≤ℤ t) × ((t +ℤ gap) ≤ℤ (session_of gap t ws).end)
  holds_time t [] = (omega (arith, ints), omega (arith, ints))
  holds_time t (w ∷ ws) = let h = holds_time t ws in least t (t +ℤ gap) w (session_of gap t ws) h.0 h.1 where
    least : (t u : ℤ) (w v : Window) → v.start ≤ℤ t → u ≤ℤ v.end → (int_min w.start v.start ≤ℤ t) × (u ≤ℤ int_max w.end v.end)
    least t u w v h k = (omega (arith, ints, clamps), omega (arith, ints, clamps))

  pub starts_no_sooner : (t x : ℤ) (ws : List Window) → x ≤ℤ t → StartFrom x ws → x ≤ℤ (session_of gap t ws).start
  starts_no_sooner t x [] h f = h
  starts_no_sooner t x (w ∷ ws) h f = of_both x w (session_of gap t ws) f.0 (starts_no_sooner t x ws h f.1) where
    of_both : (x : ℤ) (w v : Window) → x ≤ℤ w.start → x ≤ℤ v.start → x ≤ℤ int_min w.start v.start
    of_both x w v h k = omega (arith, ints, clamps)

  stays_from : (t x : ℤ) (ws : List Window) → x ≤ℤ t → StartFrom x ws → StartFrom x (with_session gap t ws)
  stays_from t x ws h f =
      let From : Window → Type 0 = λ w. x ≤ℤ w.start in
      all-append From (filter (ends_by t) ws) _
      (filter-all From (ends_by t) ws f)
      (starts_no_sooner t x (filter (links gap t) ws) h (filter-all From (links gap t) ws f), filter-all From (starts_from (t +ℤ gap)) ws f)

  module _ (t : ℤ) where
    -- after a session that ends by the time
    before_cons : (w : Window) (ws : List Window) → (w.start +ℤ gap) ≤ℤ w.end → w.end ≤ℤ t → with_session gap t (w ∷ ws) ≡ w ∷ with_session gap t ws
    before_cons w ws lasts h =
        let a : int_le w.end t ≡ true = grind (arith, ints) in
        let b : int_lt t w.end ≡ false = grind (arith, ints) in
        let c : int_le (t +ℤ gap) w.start ≡ false = grind (arith, ints) in
        let d : (int_lt w.start (t +ℤ gap) && int_lt t w.end) ≡ false = ap (λ (x : Bool). int_lt w.start (t +ℤ gap) && x) b ∙ and-false (int_lt w.start (t +ℤ gap)) in
        λ i. cond (a i) (w ∷ filter (ends_by t) ws) (filter (ends_by t) ws) ++ session_of gap t (cond (d i) (w ∷ filter (links gap t) ws) (filter (links gap t) ws)) ∷ cond (c i) (w ∷ filter (starts_from (t +ℤ gap)) ws) (filter (starts_from (t +ℤ gap)) ws)

    -- a session that it is linked to comes first
    linked_cons : (w : Window) (ws : List Window) → w.start <ℤ (t +ℤ gap) → t <ℤ w.end → AreApart gap ws → StartFrom t ws →
        with_session gap t (w ∷ ws) ≡ session_of gap t (w ∷ filter (links gap t) ws) ∷ filter (starts_from (t +ℤ gap)) ws
    linked_cons w ws h k apart from =
        let a : int_le w.end t ≡ false = grind (arith, ints) in
        let b : int_lt w.start (t +ℤ gap) ≡ true = grind (arith, ints) in
        let c : int_lt t w.end ≡ true = grind (arith, ints) in
        let d : int_le (t +ℤ gap) w.start ≡ false = grind (arith, ints) in
        (λ i. cond (a i) (w ∷ filter (ends_by t) ws) (none_ends_by t ws apart from i) ++ session_of gap t (cond (b i && c i) (w ∷ filter (links gap t) ws) (filter (links gap t) ws)) ∷ cond (d i) (w ∷ filter (starts_from (t +ℤ gap)) ws) (filter (starts_from (t +ℤ gap)) ws))

    -- none ends by the time
    none_before : (ws : List Window) → AreApart gap ws → StartFrom t ws → with_session gap t ws ≡ session_of gap t (filter (links gap t) ws) ∷ filter (starts_from (t +ℤ gap)) ws
    none_before ws apart from = λ i. none_ends_by t ws apart from i ++ session_of gap t (filter (links gap t) ws) ∷ filter (starts_from (t +ℤ gap)) ws

    -- all start a gap after the time
    after_all : (ws : List Window) → AreApart gap ws → StartFrom (t +ℤ gap) ws → with_session gap t ws ≡ window t (t +ℤ gap) ∷ ws
    after_all ws apart from =
        none_before ws apart (sooner t (t +ℤ gap) (omega (arith, ints)) ws from)
        ∙ λ i. session_of gap t (none_linked t ws from i) ∷ all_later (t +ℤ gap) ws from i

  pub head_linked : (t : ℤ) (w : Window) (ws : List Window) → w.start <ℤ (t +ℤ gap) → with_earlier gap t (w ∷ ws) ≡ window t w.end ∷ ws
  head_linked t w ws h = let e : int_lt w.start (t +ℤ gap) ≡ true = grind (arith, ints) in ap (λ (b : Bool). cond b (window t w.end ∷ ws) (window t (t +ℤ gap) ∷ w ∷ ws)) e

  pub head_apart : (t : ℤ) (ws : List Window) → StartFrom (t +ℤ gap) ws → with_earlier gap t ws ≡ window t (t +ℤ gap) ∷ ws
  head_apart t [] f = refl
  head_apart t (w ∷ ws) f =
      let from : (t +ℤ gap) ≤ℤ w.start = f.0 in
      let e : int_lt w.start (t +ℤ gap) ≡ false = grind (arith, ints) in
      ap (λ (b : Bool). cond b (window t w.end ∷ ws) (window t (t +ℤ gap) ∷ w ∷ ws)) e

  -- a time before all sessions
  earliest : (t : ℤ) (ws : List Window) → AreApart gap ws → StartFrom t ws → with_earlier gap t ws ≡ with_session gap t ws
  earliest t [] a f = refl
  earliest t (w ∷ ws) a f =
      let lasts : (w.start +ℤ gap) ≤ℤ w.end = a.0 in
      let from : t ≤ℤ w.start = f.0 in
      elim (int_lt w.start (t +ℤ gap)) as (λ b. int_lt w.start (t +ℤ gap) ≡ b → with_earlier gap t (w ∷ ws) ≡ with_session gap t (w ∷ ws)) [
        | true ↦ λ h.
            let near : w.start <ℤ (t +ℤ gap) = grind (arith, ints) in
            let rest : StartFrom (t +ℤ gap) ws = sooner (t +ℤ gap) w.end (omega (arith, ints)) ws a.1 in
            head_linked t w ws near
            ∙ sym (
            linked_cons t w ws near (omega (arith, ints)) a.2 f.1
            ∙ (λ i. session_of gap t (w ∷ none_linked t ws rest i) ∷ all_later (t +ℤ gap) ws rest i)
            ∙ (λ i. window (least_second t w.start from i) (greatest_first (t +ℤ gap) w.end (omega (arith, ints)) i) ∷ ws)
            )
        | false ↦ λ h.
            let far : (t +ℤ gap) ≤ℤ w.start = grind (arith, ints) in
            let rest : StartFrom (t +ℤ gap) (w ∷ ws) = (far, sooner (t +ℤ gap) w.end (omega (arith, ints)) ws a.1) in
            head_apart t (w ∷ ws) rest ∙ sym (after_all t (w ∷ ws) a rest)
      ] refl

  -- a time that is no later than the sessions and than one time more
  commutes : (u t : ℤ) (ws : List Window) → u ≤ℤ t → AreApart gap ws → StartFrom u ws → with_earlier gap u (with_session gap t ws) ≡ with_session gap t (with_earlier gap u ws)
  commutes u t [] h a f =
      elim (int_lt t (u +ℤ gap)) as (λ b. int_lt t (u +ℤ gap) ≡ b → with_earlier gap u (with_session gap t []) ≡ with_session gap t (with_earlier gap u [])) [
        | true ↦ λ k.
            let near : t <ℤ (u +ℤ gap) = grind (arith, ints) in
            head_linked u (window t (t +ℤ gap)) [] near
            ∙ sym (
            linked_cons t (window u (u +ℤ gap)) [] (omega (arith, ints)) near tt tt
            ∙ (λ i. window (least u t h i) (greatest (u +ℤ gap) (t +ℤ gap) (omega (arith, ints)) i) ∷ [])
            )
        | false ↦ λ k.
            let far : (u +ℤ gap) ≤ℤ t = grind (arith, ints) in
            head_apart u (window t (t +ℤ gap) ∷ []) (far, tt)
            ∙ sym (before_cons t (window u (u +ℤ gap)) [] (omega (arith, ints)) far)
      ] refl
  commutes u t (w ∷ ws) h a f =
      let lasts : (w.start +ℤ gap) ≤ℤ w.end = a.0 in
      let from : u ≤ℤ w.start = f.0 in
      elim (int_lt w.start (u +ℤ gap)) as (λ b. int_lt w.start (u +ℤ gap) ≡ b → with_earlier gap u (with_session gap t (w ∷ ws)) ≡ with_session gap t (with_earlier gap u (w ∷ ws))) [
        | true ↦ λ k.
            let near : w.start <ℤ (u +ℤ gap) = grind (arith, ints) in
            let joined : with_earlier gap u (w ∷ ws) ≡ window u w.end ∷ ws = head_linked u w ws near in
            elim (int_le w.end t) as (λ b. int_le w.end t ≡ b → with_earlier gap u (with_session gap t (w ∷ ws)) ≡ with_session gap t (with_earlier gap u (w ∷ ws))) [
              | true ↦ λ l.
                  let ends : w.end ≤ℤ t = grind (arith, ints) in
                  ap (with_earlier gap u) (before_cons t w ws lasts ends)
                  ∙ head_linked u w (with_session gap t ws) near
                  ∙ sym (ap (with_session gap t) joined ∙ before_cons t (window u w.end) ws (omega (arith, ints)) ends)
              | false ↦ λ l.
                  let lives : t <ℤ w.end = grind (arith, ints) in
                  let rest : StartFrom t ws = sooner t w.end (omega (arith, ints)) ws a.1 in
                  let v : Window = session_of gap t (filter (links gap t) ws) in
                  let to : v.start ≤ℤ t = (holds_time t (filter (links gap t) ws)).0 in
                  let later : t ≤ℤ v.start = starts_no_sooner t t (filter (links gap t) ws) (omega (arith, ints)) (filter-all (λ x. t ≤ℤ x.start) (links gap t) ws rest) in
                  ap (with_earlier gap u) (linked_cons t w ws (omega (arith, ints)) lives a.2 rest)
                  ∙ head_linked u (session_of gap t (w ∷ filter (links gap t) ws)) (filter (starts_from (t +ℤ gap)) ws) (lower w.start v.start (u +ℤ gap) near)
                  ∙ sym (
                  ap (with_session gap t) joined
                  ∙ linked_cons t (window u w.end) ws (omega (arith, ints)) lives a.2 rest
                  ∙ (λ i. window (least u v.start (omega (arith, ints)) i) (int_max w.end v.end) ∷ filter (starts_from (t +ℤ gap)) ws)
                  )
            ] refl
        | false ↦ λ k.
            let far : (u +ℤ gap) ≤ℤ w.start = grind (arith, ints) in
            let rest : StartFrom (u +ℤ gap) (w ∷ ws) = (far, sooner (u +ℤ gap) w.end (omega (arith, ints)) ws a.1) in
            let alone : with_earlier gap u (w ∷ ws) ≡ window u (u +ℤ gap) ∷ w ∷ ws = head_apart u (w ∷ ws) rest in
            elim (int_le (u +ℤ gap) t) as (λ b. int_le (u +ℤ gap) t ≡ b → with_earlier gap u (with_session gap t (w ∷ ws)) ≡ with_session gap t (with_earlier gap u (w ∷ ws))) [
              | true ↦ λ l.
                  let ends : (u +ℤ gap) ≤ℤ t = grind (arith, ints) in
                  head_apart u (with_session gap t (w ∷ ws)) (stays_from t (u +ℤ gap) (w ∷ ws) ends rest)
                  ∙ sym (ap (with_session gap t) alone ∙ before_cons t (window u (u +ℤ gap)) (w ∷ ws) (omega (arith, ints)) ends)
              | false ↦ λ l.
                  let near : t <ℤ (u +ℤ gap) = grind (arith, ints) in
                  let after : StartFrom t (w ∷ ws) = sooner t (u +ℤ gap) (omega (arith, ints)) (w ∷ ws) rest in
                  let v : Window = session_of gap t (filter (links gap t) (w ∷ ws)) in
                  let to = holds_time t (filter (links gap t) (w ∷ ws)) in
                  let start : v.start ≤ℤ t = to.0 in
                  let end : (t +ℤ gap) ≤ℤ v.end = to.1 in
                  let later : t ≤ℤ v.start = starts_no_sooner t t (filter (links gap t) (w ∷ ws)) (omega (arith, ints)) (filter-all (λ x. t ≤ℤ x.start) (links gap t) (w ∷ ws) after) in
                  ap (with_earlier gap u) (none_before t (w ∷ ws) a after)
                  ∙ head_linked u v (filter (starts_from (t +ℤ gap)) (w ∷ ws)) (omega (arith, ints))
                  ∙ sym (
                  ap (with_session gap t) alone
                  ∙ linked_cons t (window u (u +ℤ gap)) (w ∷ ws) (omega (arith, ints)) near a after
                  ∙ (λ i. window (least u v.start (omega (arith, ints)) i) (greatest (u +ℤ gap) v.end (omega (arith, ints)) i) ∷ filter (starts_from (t +ℤ gap)) (w ∷ ws))
                  )
            ] refl
      ] refl

  -- ---- rising times

  pub from_times : (x : ℤ) (ts : List ℤ) → TimesFrom x ts → StartFrom x (sessions_of_rising gap ts)
  from_times x [] f = tt
  from_times x (t ∷ ts) f = headed x t (sessions_of_rising gap ts) f.0 (from_times x ts f.1) where
    headed : (x t : ℤ) (ws : List Window) → x ≤ℤ t → StartFrom x ws → StartFrom x (with_earlier gap t ws)
    headed x t [] h f = (h, tt)
    headed x t (w ∷ ws) h f =
        elim (int_lt w.start (t +ℤ gap)) as (λ b. StartFrom x (cond b (window t w.end ∷ ws) (window t (t +ℤ gap) ∷ w ∷ ws))) [
          | true ↦ (h, f.1)
          | false ↦ (h, f)
        ]

  pub apart_rising : (ts : List ℤ) → AreRising ts → AreApart gap (sessions_of_rising gap ts)
  apart_rising [] h = tt
  apart_rising (t ∷ ts) h = headed t (sessions_of_rising gap ts) (apart_rising ts h.1) (from_times t ts h.0) where
    headed : (t : ℤ) (ws : List Window) → AreApart gap ws → StartFrom t ws → AreApart gap (with_earlier gap t ws)
    headed t [] a f = (omega (arith, ints), tt, tt)
    headed t (w ∷ ws) a f =
        let lasts : (w.start +ℤ gap) ≤ℤ w.end = a.0 in
        let from : t ≤ℤ w.start = f.0 in
        elim (int_lt w.start (t +ℤ gap)) as (λ b. int_lt w.start (t +ℤ gap) ≡ b → AreApart gap (cond b (window t w.end ∷ ws) (window t (t +ℤ gap) ∷ w ∷ ws))) [
          | true ↦ λ h. (omega (arith, ints), a.1, a.2)
          | false ↦ λ h.
              let far : (t +ℤ gap) ≤ℤ w.start = grind (arith, ints) in
              (omega (arith, ints), (far, sooner (t +ℤ gap) w.end (omega (arith, ints)) ws a.1), a)
        ] refl

  with_more : (t : ℤ) (us : List ℤ) → AreRising us → sessions_of_rising gap (with_time t us) ≡ with_session gap t (sessions_of_rising gap us)
  with_more t [] h = refl
  with_more t (u ∷ us) h =
      elim (int_lt t u) as (λ b. int_lt t u ≡ b → sessions_of_rising gap (cond b (t ∷ u ∷ us) (u ∷ with_time t us)) ≡ with_session gap t (sessions_of_rising gap (u ∷ us))) [
        | true ↦ λ k.
            let less : t ≤ℤ u = grind (arith, ints) in
            earliest t (sessions_of_rising gap (u ∷ us)) (apart_rising (u ∷ us) h) (from_times t (u ∷ us) (less, all-each (λ x. u ≤ℤ x) (λ x. t ≤ℤ x) us (λ x m. omega (arith, ints)) h.0))
        | false ↦ λ k.
            let more : u ≤ℤ t = grind (arith, ints) in
            ap (with_earlier gap u) (with_more t us h.1)
            ∙ commutes u t (sessions_of_rising gap us) more (apart_rising us h.1) (from_times u us h.0)
      ] refl

  -- the sessions with one time more: it takes the place of those that it is linked to
  pub sessions-more : (t : ℤ) (ts : List ℤ) → sessions gap (t ∷ ts) ≡ with_session gap t (sessions gap ts)
  sessions-more t ts = with_more t (rising ts) (is_rising ts)

  -- sessions lie apart, each a gap long or more
  pub sessions_apart : (ts : List ℤ) → AreApart gap (sessions gap ts)
  sessions_apart ts = apart_rising (rising ts) (is_rising ts)

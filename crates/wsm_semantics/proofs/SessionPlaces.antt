-- Where records stand in sessions: the places are the sessions of each key, and with one record more
-- its session takes the place of those that it is linked to.
use Rattle.std.proofs.Common.{◌≡◌, ℕ, Bool, true, false, ◌&&◌, ◌||◌, cond, not, List, [], ◌∷◌, map, ℤ, pos, ◌+ℤ◌, ◌≤ℤ◌, inl, inr, refl, sym, ap, ◌∙◌, arith}
use Rattle.std.proofs.lemmas.Int.{ints}
use Rattle.std.proofs.lemmas.Bool.{true≢false, eqb-true, or_right}
use Rattle.std.proofs.lemmas.List.{map-append}
use Rattle.std.proofs.lemmas.Map.Views.{any-filter_same}
use Rattle.std.specs.Prelude.{filter, flat_map, nat_eq}
use Rattle.std.specs.List.{list_any}
use Rattle.std.specs.Ordering.{eq_by_cmp}
use Rattle.wsm_record.proofs.Lists.{list_any-map}
use Rattle.wsm_windows.specs.declared.window.Window.{Window}
use Rattle.wsm_windows.specs.Windows.{has_inside}
use Rattle.wsm_windows.specs.declared.place.Place.{Place}
use Rattle.wsm_windows.specs.Places.{place_cmp, at, window_of}
use Rattle.wsm_windows.proofs.Places.{tie_is}
use Rattle.wsm_windows.specs.declared.window.Shape.TheVariants.{Session}
use Rattle.wsm_semantics.specs.Query.{Query, Datum}
use Rattle.wsm_semantics.specs.Sessions.{sessions, ends_by, starts_from, links, session_of}
use Rattle.wsm_semantics.specs.Panes.{of_key, is_there, stands_in}
use Rattle.wsm_semantics.specs.Kept.{is_linked}
use Rattle.wsm_semantics.proofs.Tables.{among}
use Rattle.wsm_semantics.proofs.Each.{list_any-append, and_of, list_any-filter, itself}
use Rattle.wsm_semantics.proofs.Sessions.{sessions-more}
use Rattle.wsm_semantics.proofs.SessionTimes.{IsOneOf, of-all, owned}

pub other_key_apart : (p r : Place) → nat_eq r.key p.key ≡ false → eq_by_cmp place_cmp p r ≡ false
other_key_apart p r h =
    elim (eq_by_cmp place_cmp p r) as (λ b. eq_by_cmp place_cmp p r ≡ b → b ≡ false) [
      | true ↦ λ e. sym (itself p.key) ∙ ap (λ (x : Place). nat_eq x.key p.key) (tie_is p r e) ∙ h
      | false ↦ λ e. refl
    ] refl

-- a key's places are no place of another key
pub other_key : (p : Place) (k : ℕ) (ws : List Window) → nat_eq k p.key ≡ false → among p (map (at k) ws) ≡ false
other_key p k [] h = refl
other_key p k (w ∷ ws) h = λ i. other_key_apart p (at k w) h i || other_key p k ws h i

-- among the windows that pass a test is a window that passes it
pub among-passing : (p : Place) (k : ℕ) (test : Window → Bool) (ws : List Window) → among p (map (at k) (filter test ws)) ≡ (test (window_of p) && among p (map (at k) ws))
among-passing p k test ws =
    list_any-map (eq_by_cmp place_cmp p) (at k) (filter test ws)
    ∙ any-filter_same (λ w. eq_by_cmp place_cmp p (at k w)) test (test (window_of p)) (λ w e. ap (λ (x : Place). test (window_of x)) (sym (tie_is p (at k w) e))) ws
    ∙ ap (λ (b : Bool). test (window_of p) && b) (sym (list_any-map (eq_by_cmp place_cmp p) (at k) ws))

pub one_of : (p : Place) (k : ℕ) (ws : List Window) → among p (map (at k) ws) ≡ true → IsOneOf (window_of p) ws
one_of p k [] h = absurd (true≢false (sym h))
one_of p k (w ∷ ws) h =
    elim (eq_by_cmp place_cmp p (at k w)) as (λ b. eq_by_cmp place_cmp p (at k w) ≡ b → (b || among p (map (at k) ws)) ≡ true → IsOneOf (window_of p) (w ∷ ws)) [
      | true ↦ λ e _. inl (ap window_of (tie_is p (at k w) e))
      | false ↦ λ e l. inr (one_of p k ws l)
    ] refl h

both_or : (a b c : Bool) → ((a && c) || (b && c)) ≡ ((a || b) && c)
both_or true true true = refl
both_or true true false = refl
both_or true false true = refl
both_or true false false = refl
both_or false b c = refl

-- of the key, and inside the window
abbrev pub in_window : Place → Datum → Bool
in_window p d = nat_eq d.key p.key && has_inside d.time (window_of p)

-- a session has no other condition
pub there_is : (q : Query) (gap : ℤ) → q.shape ≡ Session gap → (p : Place) (d : Datum) → is_there q p d ≡ in_window p d
there_is q gap is p d = λ i. nat_eq d.key p.key && stands_in (is i) q.clock.lateness (window_of p) d

module _ (gap : ℤ) (ds : List Datum) where
  abbrev pub times_of : ℕ → List ℤ
  times_of k = map (λ x. x.time) (of_key k ds)

  abbrev pub sessions_of : ℕ → List Window
  sessions_of k = sessions gap (times_of k)

  -- where a record stands
  abbrev pub stands : Datum → List Place
  stands d = map (at d.key) (filter (has_inside d.time) (sessions_of d.key))

  -- a session of its key
  abbrev pub is_session : Place → Bool
  is_session p = among p (map (at p.key) (sessions_of p.key))

  among_one : (p : Place) (d : Datum) → among p (stands d) ≡ (in_window p d && is_session p)
  among_one p d =
      elim (nat_eq d.key p.key) as (λ b. nat_eq d.key p.key ≡ b → among p (stands d) ≡ ((b && has_inside d.time (window_of p)) && is_session p)) [
        | true ↦ λ e.
            ap (λ (k : ℕ). among p (map (at k) (filter (has_inside d.time) (sessions_of k)))) (eqb-true d.key p.key e)
            ∙ among-passing p p.key (has_inside d.time) (sessions_of p.key)
        | false ↦ λ e. other_key p d.key (filter (has_inside d.time) (sessions_of d.key)) e
      ] refl

  among_some : (p : Place) (xs : List Datum) → among p (flat_map stands xs) ≡ (list_any (in_window p) xs && is_session p)
  among_some p [] = refl
  among_some p (x ∷ xs) =
      list_any-append (eq_by_cmp place_cmp p) (stands x) (flat_map stands xs)
      ∙ (λ i. among_one p x i || among_some p xs i)
      ∙ both_or (in_window p x) (list_any (in_window p) xs) (is_session p)

  module _ (long : pos 1 ≤ℤ gap) where
    -- each session has a record
    pub has_record : (p : Place) → is_session p ≡ true → list_any (in_window p) ds ≡ true
    has_record p h =
        sym (list_any-filter (λ x. has_inside x.time (window_of p)) (λ x. nat_eq x.key p.key) ds)
        ∙ sym (list_any-map (λ t. has_inside t (window_of p)) (λ x. x.time) (of_key p.key ds))
        ∙ of-all (λ w. list_any (λ t. has_inside t w) (times_of p.key) ≡ true) (window_of p) (sessions_of p.key) (owned gap long (times_of p.key)) (one_of p p.key (sessions_of p.key) h)

    -- the places of records are the sessions
    pub places-sessions : (p : Place) → among p (flat_map stands ds) ≡ is_session p
    places-sessions p = among_some p ds ∙ and_of (list_any (in_window p) ds) (is_session p) (has_record p)

module _ (gap : ℤ) (long : pos 1 ≤ℤ gap) (ds : List Datum) (d : Datum) where
  -- the session that a record comes into
  abbrev pub joined_place : Place
  joined_place = at d.key (session_of gap d.time (filter (links gap d.time) (sessions_of gap ds d.key)))

  sorted : (t : ℤ) (w : Window) → (ends_by t w || starts_from (t +ℤ gap) w) ≡ not (links gap t w)
  sorted t w = grind (arith, ints)

  placed : (a c l e s : Bool) → (a || c) ≡ not l → ((a && s) || (e || (c && s))) ≡ (e || (not l && s))
  placed a c l true s h = or_right (a && s) true refl
  placed true c l false s h = most c s ∙ ap (λ (b : Bool). b && s) h where
    most : (c s : Bool) → (s || (c && s)) ≡ s
    most true true = refl
    most true false = refl
    most false true = refl
    most false false = refl
  placed false c l false s h = ap (λ (b : Bool). b && s) h

  -- the sessions with one record more
  pub session_after : (p : Place) → is_session gap (d ∷ ds) p ≡ (eq_by_cmp place_cmp p joined_place || (not (is_linked gap d p) && is_session gap ds p))
  session_after p =
      let t : ℤ = d.time in
      let old : List Datum = of_key p.key ds in
      let ws : List Window = sessions_of gap ds p.key in
      elim (nat_eq d.key p.key) as (λ b. nat_eq d.key p.key ≡ b →
      among p (map (at p.key) (sessions gap (map (λ x. x.time) (cond b (d ∷ old) old)))) ≡ (eq_by_cmp place_cmp p joined_place || (not (b && links gap t (window_of p)) && is_session gap ds p))) [
        | true ↦ λ e.
            let same : d.key ≡ p.key = eqb-true d.key p.key e in
            let v : Window = session_of gap t (filter (links gap t) ws) in
            ap (λ (vs : List Window). among p (map (at p.key) vs)) (sessions-more gap long t (times_of gap ds p.key))
            ∙ ap (among p) (map-append (at p.key) (filter (ends_by t) ws) (v ∷ filter (starts_from (t +ℤ gap)) ws))
            ∙ list_any-append (eq_by_cmp place_cmp p) (map (at p.key) (filter (ends_by t) ws)) (at p.key v ∷ map (at p.key) (filter (starts_from (t +ℤ gap)) ws))
            ∙ (λ i. among-passing p p.key (ends_by t) ws i || (eq_by_cmp place_cmp p (at p.key v) || among-passing p p.key (starts_from (t +ℤ gap)) ws i))
            ∙ placed (ends_by t (window_of p)) (starts_from (t +ℤ gap) (window_of p)) (links gap t (window_of p)) (eq_by_cmp place_cmp p (at p.key v)) (is_session gap ds p) (sorted t (window_of p))
            ∙ ap (λ (k : ℕ). eq_by_cmp place_cmp p (at k (session_of gap t (filter (links gap t) (sessions_of gap ds k)))) || (not (links gap t (window_of p)) && is_session gap ds p)) (sym same)
        | false ↦ λ e. sym (ap (λ (b : Bool). b || is_session gap ds p) (other_key_apart p joined_place e))
      ] refl

  -- a record inside a session is linked to it
  pub inside_links : (p : Place) → in_window p d ≡ true → is_linked gap d p ≡ true
  inside_links p h = elim (nat_eq d.key p.key) as (λ b. (b && has_inside d.time (window_of p)) ≡ true → (b && links gap d.time (window_of p)) ≡ true) [
    | true ↦ λ k. wider d.time (window_of p) k
    | false ↦ λ k. k
  ] h where
    wider : (t : ℤ) (w : Window) → has_inside t w ≡ true → links gap t w ≡ true
    wider t w k = grind (arith, ints)

-- A record put into its session: which panes it is linked to, by the sessions of its key, and which
-- sessions its key has then.
use Rattle.std.proofs.Common.{◌≡◌, ℕ, suc, Bool, true, false, cond, List, [], ◌∷◌, ◌++◌, map, length, ℤ, pos, ◌+ℤ◌, ◌<ℤ◌, ◌≤ℤ◌, Some, None, refl, sym, ap, ◌∙◌, arith}
use Rattle.std.proofs.lemmas.Int.{ints}
use Rattle.std.specs.Prelude.{◌&&◌, not, filter, int_lt, nat_eq}
use Rattle.std.specs.Int.{int_max, int_min}
use Rattle.std.specs.Ordering.{eq_by_cmp, int_cmp, nat_cmp, ordering_then}
use Rattle.std.specs.declared.cmp.Ordering.TheVariants.{Less, Equal, Greater}
use Rattle.std.specs.FinMap.Entries.{put, find, by_order, find-put, find-where_key, same_entries, is_sorted, is_sorted-put, is_sorted-where_key}
use Rattle.wsm_windows.specs.declared.window.Window.{Window}
use Rattle.wsm_windows.specs.Windows.{window}
use Rattle.wsm_windows.specs.declared.place.Place.{Place}
use Rattle.wsm_windows.specs.Places.{place_cmp, at, window_of}
use Rattle.wsm_windows.proofs.Places.{places_total, places_exact, tie_is}
use Rattle.wsm_semantics.specs.Query.{Datum}
use Rattle.wsm_semantics.specs.Kept.{is_linked}
use Rattle.wsm_semantics.specs.Sessions.{links, ends_by, starts_from, session_of, with_session}
use Rattle.wsm_semantics.specs.Summaries.{Pane, session_with}
use Rattle.wsm_semantics.proofs.Lists.{all-each}
use Rattle.wsm_semantics.proofs.Each.{passed, same_key, none_of, all_of, filter-append, itself as same_number, as_true}
use Rattle.wsm_semantics.proofs.Sessions.{AreApart, StartFrom}
use Rattle.wsm_semantics.proofs.SessionOrder.{in_order}
use Rattle.wsm_slots.specs.Panes.{windows_of_key}
use Rattle.wsm_slots.proofs.Order.{to_T}
use Rattle.wsm_list.proofs.Tables.{alike}

-- ---- the panes that a record is linked to

at_its_key : (k : ℕ) (p : Place) → nat_eq k p.key ≡ true → p ≡ at k (window_of p)
at_its_key k p h = let same : k ≡ p.key = same_key k p.key h in λ i. record { end = p.end; start = p.start; key = sym same i }

module _ {X : Type 0} (gap : ℤ) (d : Datum) where
  -- they are at the windows of its key that it is linked to
  pub linked_places : (es : List (Place × X)) → map (λ e. e.0) (filter (λ e. is_linked gap d e.0) es) ≡ map (at d.key) (filter (links gap d.time) (windows_of_key d.key es))
  linked_places [] = refl
  linked_places (e ∷ es) =
      elim (nat_eq d.key e.0.key) as (λ b. nat_eq d.key e.0.key ≡ b →
      map (λ e. e.0) (cond (b && links gap d.time (window_of e.0)) (e ∷ filter (λ e. is_linked gap d e.0) es) (filter (λ e. is_linked gap d e.0) es))
      ≡ map (at d.key) (filter (links gap d.time) (map (λ (e : Place × X). window_of e.0) (cond b (e ∷ filter (λ e. nat_eq d.key e.0.key) es) (filter (λ e. nat_eq d.key e.0.key) es))))) [
        | false ↦ λ h. linked_places es
        | true ↦ λ h.
            elim (links gap d.time (window_of e.0)) as (λ b.
            map (λ e. e.0) (cond b (e ∷ filter (λ e. is_linked gap d e.0) es) (filter (λ e. is_linked gap d e.0) es))
            ≡ map (at d.key) (cond b (window_of e.0 ∷ filter (links gap d.time) (windows_of_key d.key es)) (filter (links gap d.time) (windows_of_key d.key es)))) [
              | false ↦ linked_places es
              | true ↦ λ i. at_its_key d.key e.0 h i ∷ linked_places es i
            ]
      ] refl

  -- the windows of its key that it isn't linked to
  pub unlinked_windows : (es : List (Place × X)) → windows_of_key d.key (filter (λ e. not (is_linked gap d e.0)) es) ≡ filter (λ w. not (links gap d.time w)) (windows_of_key d.key es)
  unlinked_windows [] = refl
  unlinked_windows (e ∷ es) =
      let rest : List (Place × X) = filter (λ e. not (is_linked gap d e.0)) es in
      elim (nat_eq d.key e.0.key) as (λ b. nat_eq d.key e.0.key ≡ b →
      windows_of_key d.key (cond (not (b && links gap d.time (window_of e.0))) (e ∷ rest) rest)
      ≡ filter (λ w. not (links gap d.time w)) (map (λ (e : Place × X). window_of e.0) (cond b (e ∷ filter (λ e. nat_eq d.key e.0.key) es) (filter (λ e. nat_eq d.key e.0.key) es)))) [
        | false ↦ λ h. ap (λ b. map (λ (e : Place × X). window_of e.0) (cond b (e ∷ filter (λ e. nat_eq d.key e.0.key) rest) (filter (λ e. nat_eq d.key e.0.key) rest))) h ∙ unlinked_windows es
        | true ↦ λ h.
            elim (links gap d.time (window_of e.0)) as (λ b.
            windows_of_key d.key (cond (not b) (e ∷ rest) rest)
            ≡ cond (not b) (window_of e.0 ∷ filter (λ w. not (links gap d.time w)) (windows_of_key d.key es)) (filter (λ w. not (links gap d.time w)) (windows_of_key d.key es))) [
              | true ↦ unlinked_windows es
              | false ↦ ap (λ b. map (λ (e : Place × X). window_of e.0) (cond b (e ∷ filter (λ e. nat_eq d.key e.0.key) rest) (filter (λ e. nat_eq d.key e.0.key) rest))) h ∙ ap (λ (ws : List Window). window_of e.0 ∷ ws) (unlinked_windows es)
            ]
      ] refl

  -- a key that isn't the record's keeps its windows
  pub other_windows : (k : ℕ) → nat_eq d.key k ≡ false → (es : List (Place × X)) → windows_of_key k (filter (λ e. not (is_linked gap d e.0)) es) ≡ windows_of_key k es
  other_windows k other [] = refl
  other_windows k other (e ∷ es) =
      let rest : List (Place × X) = filter (λ e. not (is_linked gap d e.0)) es in
      elim (nat_eq k e.0.key) as (λ b. nat_eq k e.0.key ≡ b →
      windows_of_key k (cond (not (is_linked gap d e.0)) (e ∷ rest) rest) ≡ map (λ (e : Place × X). window_of e.0) (cond b (e ∷ filter (λ e. nat_eq k e.0.key) es) (filter (λ e. nat_eq k e.0.key) es))) [
        | true ↦ λ h.
            let apart : nat_eq d.key e.0.key ≡ false = ap (nat_eq d.key) (sym (same_key k e.0.key h)) ∙ other in
            ap (λ b. windows_of_key k (cond (not (b && links gap d.time (window_of e.0))) (e ∷ rest) rest)) apart
            ∙ ap (λ b. map (λ (e : Place × X). window_of e.0) (cond b (e ∷ filter (λ e. nat_eq k e.0.key) rest) (filter (λ e. nat_eq k e.0.key) rest))) h
            ∙ ap (λ (ws : List Window). window_of e.0 ∷ ws) (other_windows k other es)
        | false ↦ λ h.
            elim (is_linked gap d e.0) as (λ b. windows_of_key k (cond (not b) (e ∷ rest) rest) ≡ windows_of_key k es) [
              | true ↦ other_windows k other es
              | false ↦ ap (λ b. map (λ (e : Place × X). window_of e.0) (cond b (e ∷ filter (λ e. nat_eq k e.0.key) rest) (filter (λ e. nat_eq k e.0.key) rest))) h ∙ other_windows k other es
            ]
      ] refl

  -- a put at another key too
  pub put_other : (k : ℕ) (p : Place) (v : X) → nat_eq k p.key ≡ false → (es : List (Place × X)) → windows_of_key k (put place_cmp p v es) ≡ windows_of_key k es
  put_other k p v other [] = ap (λ b. map (λ (e : Place × X). window_of e.0) (cond b ((p, v) ∷ []) [])) other
  put_other k p v other (e ∷ es) =
      elim (place_cmp p e.0) as (λ o. windows_of_key k (by_order o ((p, v) ∷ e ∷ es) ((e.0, v) ∷ es) (e ∷ put place_cmp p v es)) ≡ windows_of_key k (e ∷ es)) [
        | Less ↦ ap (λ b. map (λ (e : Place × X). window_of e.0) (cond b ((p, v) ∷ filter (λ e. nat_eq k e.0.key) (e ∷ es)) (filter (λ e. nat_eq k e.0.key) (e ∷ es)))) other
        | Equal ↦ elim (nat_eq k e.0.key) as (λ b. map (λ (e : Place × X). window_of e.0) (cond b ((e.0, v) ∷ filter (λ e. nat_eq k e.0.key) es) (filter (λ e. nat_eq k e.0.key) es)) ≡ map (λ (e : Place × X). window_of e.0) (cond b (e ∷ filter (λ e. nat_eq k e.0.key) es) (filter (λ e. nat_eq k e.0.key) es))) [ true ↦ refl | false ↦ refl ]
        | Greater ↦ elim (nat_eq k e.0.key) as (λ b. map (λ (e : Place × X). window_of e.0) (cond b (e ∷ filter (λ e. nat_eq k e.0.key) (put place_cmp p v es)) (filter (λ e. nat_eq k e.0.key) (put place_cmp p v es))) ≡ map (λ (e : Place × X). window_of e.0) (cond b (e ∷ filter (λ e. nat_eq k e.0.key) es) (filter (λ e. nat_eq k e.0.key) es))) [
          | true ↦ ap (λ (ws : List Window). window_of e.0 ∷ ws) (put_other k p v other es)
          | false ↦ put_other k p v other es
        ]
      ]

-- ---- a pane put among those of its key

-- its session comes behind those that end by its start, and before those that start from its end on
later_end : (p r : Place) → r.end <ℤ p.end → place_cmp p r ≡ Greater
later_end p r h =
    let a : int_lt p.end r.end ≡ false = grind (arith, ints) in
    let b : int_lt r.end p.end ≡ true = grind (arith, ints) in
    λ i. ordering_then (cond (a i) Less (cond (b i) Greater Equal)) (ordering_then (int_cmp p.start r.start) (nat_cmp p.key r.key))

sooner_end : (p r : Place) → p.end <ℤ r.end → place_cmp p r ≡ Less
sooner_end p r h =
    let a : int_lt p.end r.end ≡ true = grind (arith, ints) in
    λ i. ordering_then (cond (a i) Less (cond (int_lt r.end p.end) Greater Equal)) (ordering_then (int_cmp p.start r.start) (nat_cmp p.key r.key))

module _ {X : Type 0} (gap : ℤ) (long : pos 1 ≤ℤ gap) (k : ℕ) (s : Window) (v : X) where
  put_first : (fs : List (Place × X)) (ys : List Window) → map (λ (e : Place × X). window_of e.0) fs ≡ ys → AreApart gap (s ∷ ys) → map (λ (e : Place × X). window_of e.0) (put place_cmp (at k s) v fs) ≡ s ∷ ys
  put_first [] ys e apart = ap (λ (ws : List Window). s ∷ ws) e
  put_first (f ∷ fs) [] e apart = absurd (let n : suc (length fs) ≡ 0 = (let g : length (map (λ (e : Place × X). window_of e.0) (f ∷ fs)) ≡ 0 = ap length e in omega (arith, g, length-map fs)) in omega (arith, n))
    where
      length-map : (fs : List (Place × X)) → length (map (λ (e : Place × X). window_of e.0) fs) ≡ length fs
      length-map [] = refl
      length-map (f ∷ fs) = ap suc (length-map fs)
  put_first (f ∷ fs) (y ∷ ys) e apart =
      let same : window_of f.0 ≡ y = heads e in
      let start : s.end ≤ℤ y.start = apart.1.0 in
      let lasts : (y.start +ℤ gap) ≤ℤ y.end = apart.2.0 in
      let its_end : f.0.end ≡ y.end = ap (λ (w : Window). w.end) same in
      ap (λ o. map (λ (e : Place × X). window_of e.0) (by_order o ((at k s, v) ∷ f ∷ fs) ((f.0, v) ∷ fs) (f ∷ put place_cmp (at k s) v fs))) (sooner_end (at k s) f.0 (omega (arith, ints)))
      ∙ ap (λ (ws : List Window). s ∷ ws) e
    where
      heads : window_of f.0 ∷ map (λ (e : Place × X). window_of e.0) fs ≡ y ∷ ys → window_of f.0 ≡ y
      heads h = cc

  put_between : (xs ys : List Window) (fs : List (Place × X)) → map (λ (e : Place × X). window_of e.0) fs ≡ xs ++ ys → AreApart gap (xs ++ s ∷ ys) → map (λ (e : Place × X). window_of e.0) (put place_cmp (at k s) v fs) ≡ xs ++ s ∷ ys
  put_between [] ys fs e apart = put_first fs ys e apart
  put_between (x ∷ xs) ys [] e apart = absurd (let n : 0 ≡ suc (length (xs ++ ys)) = ap length e in omega (arith, n))
  put_between (x ∷ xs) ys (f ∷ fs) e apart =
      let same : window_of f.0 ≡ x = heads e in
      let rest : map (λ (e : Place × X). window_of e.0) fs ≡ xs ++ ys = tails e in
      let start : x.end ≤ℤ s.start = among xs apart.1 in
      let lasts : (s.start +ℤ gap) ≤ℤ s.end = itself xs apart.2 in
      let its_end : f.0.end ≡ x.end = ap (λ (w : Window). w.end) same in
      ap (λ o. map (λ (e : Place × X). window_of e.0) (by_order o ((at k s, v) ∷ f ∷ fs) ((f.0, v) ∷ fs) (f ∷ put place_cmp (at k s) v fs))) (later_end (at k s) f.0 (omega (arith, ints)))
      ∙ (λ i. same i ∷ put_between xs ys fs rest apart.2 i)
    where
      heads : window_of f.0 ∷ map (λ (e : Place × X). window_of e.0) fs ≡ x ∷ (xs ++ ys) → window_of f.0 ≡ x
      heads h = cc

      tails : window_of f.0 ∷ map (λ (e : Place × X). window_of e.0) fs ≡ x ∷ (xs ++ ys) → map (λ (e : Place × X). window_of e.0) fs ≡ xs ++ ys
      tails h = cc

      among : (zs : List Window) → StartFrom x.end (zs ++ s ∷ ys) → x.end ≤ℤ s.start
      among [] h = h.0
      among (z ∷ zs) h = among zs h.1

      itself : (zs : List Window) → AreApart gap (zs ++ s ∷ ys) → (s.start +ℤ gap) ≤ℤ s.end
      itself [] h = h.0
      itself (z ∷ zs) h = itself zs h.2

-- a put and a test that passes its place can change places
put_passes : {X : Type 0} (test : Place → Bool) (p : Place) (v : X) → test p ≡ true → (es : List (Place × X)) → is_sorted place_cmp es ≡ true → filter (λ e. test e.0) (put place_cmp p v es) ≡ put place_cmp p v (filter (λ e. test e.0) es)
put_passes test p v passes es sorted =
    same_entries place_cmp places_total places_exact _ _
    (is_sorted-where_key place_cmp test (put place_cmp p v es) (is_sorted-put place_cmp places_total p v es (to_T _ sorted)))
    (is_sorted-put place_cmp places_total p v _ (is_sorted-where_key place_cmp test es (to_T _ sorted)))
    (λ q.
    find-where_key place_cmp test q (alike test q) (put place_cmp p v es)
    ∙ ap (λ o. cond (test q) o None) (find-put place_cmp places_total q p v es)
    ∙ swapped q (eq_by_cmp place_cmp q p) refl
    ∙ sym (find-put place_cmp places_total q p v (filter (λ e. test e.0) es) ∙ ap (λ o. cond (eq_by_cmp place_cmp q p) (Some v) o) (find-where_key place_cmp test q (alike test q) es)))
  where
    swapped : (q : Place) (b : Bool) → eq_by_cmp place_cmp q p ≡ b → cond (test q) (cond (eq_by_cmp place_cmp q p) (Some v) (find place_cmp q es)) None ≡ cond (eq_by_cmp place_cmp q p) (Some v) (cond (test q) (find place_cmp q es) None)
    swapped q true h =
        let here : test q ≡ true = ap test (tie_is q p h) ∙ passes in
        (λ i. cond (here i) (cond (h i) (Some v) (find place_cmp q es)) None) ∙ sym (ap (λ b. cond b (Some v) (cond (test q) (find place_cmp q es) None)) h)
    swapped q false h = ap (λ b. cond (test q) (cond b (Some v) (find place_cmp q es)) None) h ∙ sym (ap (λ b. cond b (Some v) (cond (test q) (find place_cmp q es) None)) h)

-- the sessions that a time isn't linked to
apart_from : (gap t : ℤ) → pos 1 ≤ℤ gap → (ws : List Window) → AreApart gap ws → filter (λ w. not (links gap t w)) ws ≡ filter (ends_by t) ws ++ filter (starts_from (t +ℤ gap)) ws
apart_from gap t long ws apart =
    let far : Window → Bool = λ w. not (links gap t w) in
    let ended = filter (ends_by t) ws in
    let near = filter (links gap t) ws in
    let later = filter (starts_from (t +ℤ gap)) ws in
    ap (filter far) (in_order gap long t ws apart)
    ∙ filter-append far ended (near ++ later)
    ∙ (λ i.
    all_of far ended (all-each (λ w. ends_by t w ≡ true) (λ w. far w ≡ true) ended (λ w h. past w h) (passed (ends_by t) ws)) i
    ++ filter-append far near later i)
    ∙ (λ i.
    ended
    ++ (none_of far near (all-each (λ w. links gap t w ≡ true) (λ w. far w ≡ false) near (λ w h. ap not h) (passed (links gap t) ws)) i
    ++ all_of far later (all-each (λ w. starts_from (t +ℤ gap) w ≡ true) (λ w. far w ≡ true) later (λ w h. ahead w h) (passed (starts_from (t +ℤ gap)) ws)) i))
  where
    past : (w : Window) → ends_by t w ≡ true → not (links gap t w) ≡ true
    past w h = let e : int_lt t w.end ≡ false = grind (arith, ints) in (λ i. not (int_lt w.start (t +ℤ gap) && e i)) ∙ no (int_lt w.start (t +ℤ gap)) where
      no : (b : Bool) → not (b && false) ≡ true
      no true = refl
      no false = refl

    ahead : (w : Window) → starts_from (t +ℤ gap) w ≡ true → not (links gap t w) ≡ true
    ahead w h = let e : int_lt w.start (t +ℤ gap) ≡ false = grind (arith, ints) in λ i. not (e i && int_lt t w.end)

-- the key's sessions with the record
pub entered_windows : {X : Type 0} (gap : ℤ) → pos 1 ≤ℤ gap → (d : Datum) (v : X) (es : List (Place × X)) → is_sorted place_cmp es ≡ true → AreApart gap (windows_of_key d.key es) → AreApart gap (with_session gap d.time (windows_of_key d.key es))
    → windows_of_key d.key (put place_cmp (at d.key (session_of gap d.time (filter (links gap d.time) (windows_of_key d.key es)))) v (filter (λ e. not (is_linked gap d e.0)) es)) ≡ with_session gap d.time (windows_of_key d.key es)
entered_windows {X = X} gap long d v es sorted apart after =
    let ws = windows_of_key d.key es in
    let s : Window = session_of gap d.time (filter (links gap d.time) ws) in
    let rest = filter (λ e. not (is_linked gap d e.0)) es in
    let left : is_sorted place_cmp rest ≡ true = as_true _ (is_sorted-where_key place_cmp (λ p. not (is_linked gap d p)) es (to_T _ sorted)) in
    ap (map (λ (e : Place × X). window_of e.0)) (put_passes (λ p. nat_eq d.key p.key) (at d.key s) v (same_number d.key) rest left)
    ∙ put_between gap long d.key s v (filter (ends_by d.time) ws) (filter (starts_from (d.time +ℤ gap)) ws) (filter (λ e. nat_eq d.key e.0.key) rest) (unlinked_windows gap d es ∙ apart_from gap d.time long ws apart) after

-- ---- the session of a record

pub session_is : {X : Type 0} (gap : ℤ) (d : Datum) (ls : List (Place × Pane X)) → session_with gap d ls ≡ at d.key (session_of gap d.time (map (λ (e : Place × Pane X). window_of e.0) ls))
session_is gap d [] = refl
session_is gap d (e ∷ ls) = ap (λ (p : Place). at d.key (window (int_min e.0.start p.start) (int_max e.0.end p.end))) (session_is gap d ls)

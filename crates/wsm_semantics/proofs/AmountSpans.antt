-- What the rows of windows that begin in a span come to, where windows don't merge: once they were dropped each record is in one
-- firing set of each of them that it stands in.
use Rattle.std.proofs.Common.{◌≡◌, ℕ, suc, ◌+◌, Bool, true, false, ◌&&◌, ◌||◌, cond, List, [], ◌∷◌, map, length, ℤ, pos, ◌+ℤ◌, ◌-ℤ◌, ◌≤ℤ◌, ◌<ℤ◌, refl, sym, ap, subst, ◌∙◌, arith}
use Rattle.std.proofs.lemmas.Int.{ints}
use Rattle.std.proofs.lemmas.Bool.{true≢false, and_parts}
use Rattle.std.proofs.lemmas.List.Elements.{All-head, All-tail}
use Rattle.std.specs.Prelude.{All, Contains, filter, int_le, int_lt, nat_eq}
use Rattle.std.specs.List.{AllByRecursion, list_any}
use Rattle.std.specs.Ordering.{eq_by_cmp}
use Rattle.std.proofs.Math.Bool.{and-true}
use Rattle.wsm_record.proofs.Lists.{list_any-map}
use Rattle.wsm_record.specs.declared.words.Mode.TheVariants.{Discarding}
use Rattle.wsm_record.specs.declared.words.Form.TheVariants.{Panes}
use Rattle.wsm_record.specs.Event.{Event}
use Rattle.wsm_windows.specs.declared.window.Window.{Window}
use Rattle.wsm_windows.specs.declared.window.Shape.{Shape}
use Rattle.wsm_windows.specs.declared.window.Shape.TheVariants.{Fixed, Sliding, Session}
use Rattle.wsm_windows.specs.Windows.{windows_of_shape, size_of, IsWindowOfShape, IsRising, IsShape}
use Rattle.wsm_windows.specs.Life.{is_live, live_windows_of}
use Rattle.wsm_windows.proofs.Members.{rising_shape}
use Rattle.wsm_windows.proofs.LiveWindows.{exactly_live, rising_filter}
use Rattle.wsm_windows.specs.declared.place.Place.{Place}
use Rattle.wsm_windows.specs.Places.{place_cmp, at, window_of}
use Rattle.wsm_windows.proofs.Places.{tie_is}
use Rattle.wsm_semantics.specs.Query.{Query, Datum, SessionsByEvent, mark, selected}
use Rattle.wsm_semantics.specs.Panes.{of_key, is_there, places, windows_among}
use Rattle.wsm_semantics.specs.Firings.{Firing, firings_so_far, holds, is_shown}
use Rattle.wsm_semantics.specs.FiringSets.{has_in_set}
use Rattle.wsm_semantics.specs.Amounts.{sum_of, amount_written, Amount, amount_of, AddsAmounts, begins_in, many, starts_in, windows_in}
use Rattle.wsm_semantics.proofs.Lists.{all-each, filter_same}
use Rattle.wsm_semantics.proofs.Tables.{among}
use Rattle.wsm_semantics.proofs.Assigned.{IsAssigned, tied, own, windows_assigned}
use Rattle.wsm_semantics.proofs.AssignedStep.{grid_of}
use Rattle.wsm_semantics.proofs.Each.{same_key, same_answers, all-any, all-both, all-passed, filter-each, none_of}
use Rattle.wsm_semantics.proofs.Within.{IsPart}
use Rattle.wsm_semantics.proofs.SessionPlaces.{among-passing}
use Rattle.wsm_semantics.proofs.FiringsSoFar.{IsFiring, PlacesLaw, each_firing, shows_own}
use Rattle.wsm_semantics.proofs.KeptLaw as kept_law
use Rattle.wsm_semantics.proofs.FiredOnce.{once_if, fired_where_shown}
use Rattle.wsm_semantics.proofs.ShownOnce.{shown_when_dropped}
use Rattle.wsm_semantics.proofs.Sums.{sum_of-each, sum_of-filter}
use Rattle.wsm_semantics.proofs.Amounts.{IsFired, each_fired, takes, written_sum, by_record}
use Rattle.wsm_semantics.proofs.AmountWindows.{where_held, each_contained, each_held, shows_same}

-- ---- what passes one of two tests that none passes both

module _ {A : Type 0} (a b h : A → Bool) (apart : (x : A) → a x ≡ true → b x ≡ false) where
  one_count : (x : A) (xs ys zs : List A) (p r t : Bool) → (p ≡ true → r ≡ false) → length xs ≡ length ys + length zs →
      length (cond ((p || r) && t) (x ∷ xs) xs) ≡ length (cond (p && t) (x ∷ ys) ys) + length (cond (r && t) (x ∷ zs) zs)
  one_count x xs ys zs true true t f is = absurd (true≢false (f refl))
  one_count x xs ys zs true false true f is = omega (arith, is)
  one_count x xs ys zs true false false f is = is
  one_count x xs ys zs false true true f is = omega (arith, is)
  one_count x xs ys zs false true false f is = is
  one_count x xs ys zs false false t f is = is

  length-both : (xs : List A) → length (filter (λ x. (a x || b x) && h x) xs) ≡ length (filter (λ x. a x && h x) xs) + length (filter (λ x. b x && h x) xs)
  length-both [] = refl
  length-both (x ∷ xs) =
      one_count x (filter (λ y. (a y || b y) && h y) xs) (filter (λ y. a y && h y) xs) (filter (λ y. b y && h y) xs) (a x) (b x) (h x) (apart x) (length-both xs)

-- ---- windows by rising start

turned_round : (p r : Place) → eq_by_cmp place_cmp p r ≡ eq_by_cmp place_cmp r p
turned_round p r = same_answers (eq_by_cmp place_cmp p r) (eq_by_cmp place_cmp r p) (λ h. tied r p (sym (tie_is p r h))) (λ h. tied p r (sym (tie_is r p h)))

not_itself : (s t : ℤ) → s <ℤ t → s ≡ t → ⊥
not_itself s t h k = omega (arith, ints)

later_apart : (k : ℕ) (w : Window) (ws : List Window) → All (λ v. w.start <ℤ v.start) ws → list_any (λ v. eq_by_cmp place_cmp (at k w) (at k v)) ws ≡ false
later_apart k w [] h = refl
later_apart k w (v ∷ ws) h = λ i. first i || later_apart k w ws (All-tail (λ (x : Window). w.start <ℤ x.start) v ws h) i where
  first : eq_by_cmp place_cmp (at k w) (at k v) ≡ false
  first = elim (eq_by_cmp place_cmp (at k w) (at k v)) as (λ b. eq_by_cmp place_cmp (at k w) (at k v) ≡ b → b ≡ false) [
    | true ↦ λ tie. absurd (not_itself w.start v.start (All-head (λ (x : Window). w.start <ℤ x.start) v ws h) (ap (λ (p : Place). p.start) (tie_is (at k w) (at k v) tie)))
    | false ↦ λ _. refl
  ] refl

one_more : (n : ℕ) → 1 + n ≡ suc n
one_more n = omega arith

-- firings of windows, each of which has one that has the record
module _ (d : Datum) (gs : List Firing) where
  abbrev hits : Window → Firing → Bool
  hits w g = eq_by_cmp place_cmp g.place (at d.key w)

  abbrev any_of : List Window → Firing → Bool
  any_of ws g = list_any (λ w. hits w g) ws

  counted : (ws : List Window) → IsRising ws → AllByRecursion (λ w. length (filter (λ g. hits w g && holds d g.fired) gs) ≡ 1) ws → length (filter (λ g. any_of ws g && holds d g.fired) gs) ≡ length ws
  counted [] rising each = ap (length {A = Firing}) (none_of (λ g. false) gs (all-any (λ g. false ≡ false) (λ g. refl) gs))
  counted (w ∷ ws) rising each =
      length-both (hits w) (any_of ws) (λ g. holds d g.fired)
      (λ g tie. ap (λ (p : Place). list_any (λ v. eq_by_cmp place_cmp p (at d.key v)) ws) (tie_is g.place (at d.key w) tie) ∙ later_apart d.key w ws rising.0) gs
      ∙ (λ i. each.0 i + counted ws rising.1 each.1 i)
      ∙ one_more (length ws)

-- ---- the law

ends_with : (shape : Shape) → IsAssigned shape → (t : ℤ) (w : Window) → IsWindowOfShape shape t w → w.end ≡ w.start +ℤ size_of shape
ends_with (Fixed size) a t w h = h.end
ends_with (Sliding size period) a t w h = h.end
ends_with (Session gap) a t w h = absurd a

gone_by : (start end size until l m : ℤ) → end ≡ start +ℤ size → int_lt start until ≡ true → (((until -ℤ pos 1) +ℤ size) +ℤ l) ≤ℤ m → (end +ℤ l) ≤ℤ m
gone_by start end size until l m is h k = grind (arith, ints)

module _ (q : Query) (ok : IsShape q.shape) (timely : SessionsByEvent q) (discarding : q.mode ≡ Discarding) (panes_alone : q.form ≡ Panes) (c : ℕ) (amount : Amount) (adds : AddsAmounts q c amount) (assigned : IsAssigned q.shape) (past : List Event) (key : ℕ) (from until : ℤ) where
  abbrev law : PlacesLaw q
  law = kept_law.places q ok timely

  abbrev sel : List Datum
  sel = selected q past

  abbrev gs : List Firing
  gs = firings_so_far q past

  abbrev here : Place → Bool
  here p = begins_in key from until p

  abbrev mine : Datum → Bool
  mine d = nat_eq d.key key

  -- the windows of a record, and those that begin in the span
  abbrev ws : Datum → List Window
  ws d = windows_among q.shape q.clock.lateness sel d

  abbrev some : Datum → List Window
  some d = filter (starts_in from until) (ws d)

  among_any : (d : Datum) (p : Place) (vs : List Window) → among p (map (at d.key) vs) ≡ list_any (λ w. eq_by_cmp place_cmp p (at d.key w)) vs
  among_any d p vs = list_any-map (eq_by_cmp place_cmp p) (at d.key) vs

  abbrev IsMatch : Datum → Firing → Type 0
  IsMatch d g = takes (amount_of amount) here d g ≡ (mine d && (any_of d gs (some d) g && holds d g.fired))

  match : (d : Datum) (g : Firing) → IsFiring q past g → (holds d g.fired ≡ true → is_there q g.place d ≡ true) → IsMatch d g
  match d g firing inside =
      where_held (here g.place) (mine d) (any_of d gs (some d) g) (holds d g.fired)
      (λ held.
      let there : is_there q g.place d ≡ true = inside held in
      let same : g.place.key ≡ d.key = sym (same_key d.key g.place.key (and_parts _ _ there).0) in
      let at_home : firing.home ≡ g.place = tie_is firing.home g.place (sym (shows_same q.shape assigned firing.home g.place) ∙ firing.shown) in
      let placed : among g.place (places q past) ≡ true = ap (λ (p : Place). among p (places q past)) (sym at_home) ∙ firing.placed in
      let stands : among g.place (map (at d.key) (ws d)) ≡ true =
      ap (λ (vs : List Window). among g.place (map (at d.key) vs)) (windows_assigned q.shape q.clock.lateness assigned sel d)
      ∙ own q.shape q.clock.lateness ok assigned g.place (grid_of q ok assigned past g.place placed) d ∙ there in
      ap (λ (k : ℕ). nat_eq k key && (int_le from g.place.start && int_lt g.place.start until)) same
      ∙ ap (λ (b : Bool). mine d && b)
      (sym (sym (among_any d g.place (some d)) ∙ among-passing g.place d.key (starts_in from until) (ws d) ∙ ap (λ (b : Bool). starts_in from until (window_of g.place) && b) stands ∙ and-true (starts_in from until (window_of g.place)))))

  matches : AllByRecursion (λ d. AllByRecursion (IsMatch d) gs) sel
  matches = each_held q past IsMatch discarding (IsFiring q past) (each_firing q law past) (λ d. Unit {0}) (all-any (λ d. Unit {0}) (λ d. tt) sel) (λ d g _ firing _ inside. match d g firing inside)

  module _ (gone : (((until -ℤ pos 1) +ℤ size_of q.shape) +ℤ q.clock.lateness) ≤ℤ mark q past) where
    once_each : (d : Datum) → Contains sel d → (w : Window) → Contains (ws d) w → starts_in from until w ≡ true → length (filter (λ g. hits d gs w g && holds d g.fired) gs) ≡ 1
    once_each d listed w stands begins =
        let l : ℤ = q.clock.lateness in
        let among_live : Contains (live_windows_of q.shape d.time l d.mark) w = subst (λ (vs : List Window). Contains vs w) (windows_assigned q.shape l assigned sel d) stands in
        let of_time : IsWindowOfShape q.shape d.time w = ((exactly_live q.shape d.time l d.mark (live_windows_of q.shape d.time l d.mark) ok refl w).0 among_live).of_time in
        let shown : is_shown q past (at d.key w) d ≡ true =
        shown_when_dropped q ok timely past d w (record { is_selected = listed; is_among = stands })
        (gone_by w.start w.end (size_of q.shape) until l (mark q past) (ends_with q.shape assigned d.time w of_time) (and_parts _ _ begins).1 gone) in
        ap (length {A = Firing}) (filter_same (λ g. hits d gs w g && holds d g.fired) (has_in_set q (at d.key w) d)
        (λ g. ap (λ (b : Bool). b && holds d g.fired) (turned_round g.place (at d.key w) ∙ sym (shows_same q.shape assigned (at d.key w) g.place))) gs)
        ∙ fired_where_shown q discarding (shows_own q law) past (at d.key w) d
        ∙ ap once_if shown

    rises : (d : Datum) → IsRising (some d)
    rises d =
        rising_filter (starts_in from until) (ws d)
        (subst IsRising (sym (windows_assigned q.shape q.clock.lateness assigned sel d)) (rising_filter (λ w. is_live w q.clock.lateness d.mark) (windows_of_shape q.shape d.time) (rising_shape q.shape d.time ok)))

    how_often : (d : Datum) → Contains sel d → AllByRecursion (IsMatch d) gs → length (filter (takes (amount_of amount) here d) gs) ≡ cond (mine d) (windows_in q past from until d) 0
    how_often d listed h =
        ap (length {A = Firing}) (filter-each (takes (amount_of amount) here d) (λ g. mine d && (any_of d gs (some d) g && holds d g.fired)) gs h)
        ∙ elim (mine d) as (λ b. length (filter (λ g. b && (any_of d gs (some d) g && holds d g.fired)) gs) ≡ cond b (length (some d)) 0) [
          | true ↦
              counted d gs (some d) (rises d)
              (all-passed (Contains (ws d)) (λ w. length (filter (λ g. hits d gs w g && holds d g.fired) gs) ≡ 1) (starts_in from until) (once_each d listed) (ws d) (each_contained (ws d)))
          | false ↦ ap (length {A = Firing}) (none_of (λ g. false) gs (all-any (λ g. false ≡ false) (λ g. refl) gs))
        ]

    so_many : (b : Bool) (n : ℕ) (x : ℤ) → many (cond b n 0) x ≡ cond b (many n x) (pos 0)
    so_many true n x = refl
    so_many false n x = refl

    pub of_spread : amount_written q past c here ≡ sum_of (λ d. many (windows_in q past from until d) (amount_of amount d)) (of_key key sel)
    of_spread =
        let f : Datum → ℤ = amount_of amount in
        let g : Datum → ℤ = λ d. many (windows_in q past from until d) (f d) in
        written_sum q c amount adds here panes_alone discarding past
        ∙ by_record f here sel gs (all-each (IsFired q past) (λ g. IsPart sel g.fired) gs (λ g h. h.part) (each_fired q discarding past))
        ∙ sum_of-each (λ d. many (length (filter (takes f here d) gs)) (f d)) (λ d. cond (mine d) (g d) (pos 0)) sel
        (all-both (Contains sel) (λ d. AllByRecursion (IsMatch d) gs) (λ d. many (length (filter (takes f here d) gs)) (f d) ≡ cond (mine d) (g d) (pos 0))
        (λ d listed h. ap (λ (n : ℕ). many n (f d)) (how_often d listed h) ∙ so_many (mine d) (windows_in q past from until d) (f d)) sel (each_contained sel) matches)
        ∙ sym (sum_of-filter g mine sel)

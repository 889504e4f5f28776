-- Records at other turns and under other numbers of their keys, where both rise as the first do: places keep their order, and
-- of two firings each tells what it told of the other.
use Rattle.std.proofs.Common.{◌≡◌, ℕ, ◌<◌, Bool, true, false, ◌&&◌, cond, not, List, map, length, ℤ, Option, Some, None, refl, sym, ap, ◌∙◌, arith}
use Rattle.std.proofs.lemmas.Bool.Decides.{nat_tests}
use Rattle.std.specs.Prelude.{filter, nat_eq, nat_lt, option_map}
use Rattle.std.specs.List.{last_or, list_any}
use Rattle.std.specs.Ordering.{eq_by_cmp, int_cmp, is_eq, nat_cmp, ordering_then}
use Rattle.wsm_record.proofs.Lists.{list_any-map}
use Rattle.wsm_record.specs.declared.event.Value.{Value}
use Rattle.wsm_record.specs.declared.cell.Cell.{Cell}
use Rattle.wsm_record.specs.declared.words.Mode.{Mode}
use Rattle.wsm_record.specs.Modes.{is_over_all}
use Rattle.wsm_record.specs.Schema.{Declared}
use Rattle.wsm_windows.specs.declared.window.PaneKind.{PaneKind}
use Rattle.wsm_windows.specs.declared.window.Shape.{Shape}
use Rattle.wsm_windows.specs.declared.window.Shape.TheVariants.{Fixed, Sliding, Session}
use Rattle.wsm_windows.specs.declared.place.Place.{Place}
use Rattle.wsm_windows.specs.Places.{place_cmp}
use Rattle.wsm_semantics.specs.Query.{Datum, Query, Effect, Selects, Rises, Nothing}
use Rattle.wsm_semantics.specs.Firings.{Firing, firing_of, firing_set, holds, kind_on, kind_on_record, kind_on_watermark, shows}
use Rattle.wsm_semantics.specs.StandingFirings.{is_within, candidates, holds_all, greatest_of}
use Rattle.wsm_semantics.specs.Retractions.{is_same}
use Rattle.wsm_semantics.proofs.Lists.{filter_same, length_each}
use Rattle.wsm_semantics.proofs.Each.{itself, same_answers, same_key, all-any, filter-map, list_any-each}
use Rattle.wsm_semantics.proofs.Effects.{effect_with}
use Rattle.wsm_semantics.proofs.Given.{map-itself, list_all-map, list_all-same, last_or-map}

-- ---- numbers that rise

-- later ones are later there too
abbrev pub IsRising : (ℕ → ℕ) → Type 0
IsRising f = (m n : ℕ) → m < n → f m < f n

module _ (f : ℕ → ℕ) (rises : IsRising f) where
  apart : (m n : ℕ) → f m ≡ f n → (b c : Bool) → nat_lt m n ≡ b → nat_lt n m ≡ c → m ≡ n
  apart m n same true c h k = absurd (let less : f m < f n = rises m n (grind (arith, nat_tests)) in omega arith)
  apart m n same false true h k = absurd (let less : f n < f m = rises n m (grind (arith, nat_tests)) in omega arith)
  apart m n same false false h k = grind (arith, nat_tests)

  -- numbers are the same where they are there
  pub same_number : (m n : ℕ) → nat_eq (f m) (f n) ≡ nat_eq m n
  same_number m n = same_answers (nat_eq (f m) (f n)) (nat_eq m n)
      (λ h. ap (nat_eq m) (sym (apart m n (same_key (f m) (f n) h) (nat_lt m n) (nat_lt n m) refl refl)) ∙ itself m)
      (λ h. ap (λ (k : ℕ). nat_eq (f m) (f k)) (sym (same_key m n h)) ∙ itself (f m))

  by_tests : (m n : ℕ) (b c : Bool) → nat_lt m n ≡ b → nat_lt n m ≡ c → nat_cmp (f m) (f n) ≡ nat_cmp m n
  by_tests m n true c h k = let less : f m < f n = rises m n (grind (arith, nat_tests)) in grind (arith, nat_tests)
  by_tests m n false true h k = let less : f n < f m = rises n m (grind (arith, nat_tests)) in grind (arith, nat_tests)
  by_tests m n false false h k = let same : f m ≡ f n = ap f (let i : m ≡ n = grind (arith, nat_tests) in i) in grind (arith, nat_tests)

  pub same_order : (m n : ℕ) → nat_cmp (f m) (f n) ≡ nat_cmp m n
  same_order m n = by_tests m n (nat_lt m n) (nat_lt n m) refl refl

-- ---- records, places and firings there

pub record Moves : Type 0 where
  pub turn : ℕ → ℕ
  pub key : ℕ → ℕ
  pub turns : IsRising turn
  pub keys : IsRising key

-- at other turns alone, and under other numbers alone
abbrev pub by_turns : (f : ℕ → ℕ) → IsRising f → Moves
by_turns f rises = record { turn = f; key = λ k. k; turns = rises; keys = λ j k h. h }

abbrev pub by_keys : (number : ℕ → ℕ) → IsRising number → Moves
by_keys number rises = record { turn = λ n. n; key = number; turns = λ m n h. h; keys = rises }

-- what a query has of its own, and a query that has else what another has
pub record Own : Type 0 where
  pub start : ℤ
  pub records : ℤ
  pub declared : Declared
  pub selects : ℕ → List Value → Bool
  pub row : ℕ → List Datum → Option (List Cell)

abbrev pub like : Query → Own → Query
like q o = record q { clock = record q.clock { start = o.start; records = o.records }; declared = o.declared; selects = o.selects; row = o.row }

abbrev pub own : Query → Own
own q = record { start = q.clock.start; records = q.clock.records; declared = q.declared; selects = q.selects; row = q.row }

module _ (m : Moves) where
  abbrev pub moved : Datum → Datum
  moved d = record d { turn = m.turn d.turn; key = m.key d.key }

  abbrev pub place_moved : Place → Place
  place_moved p = record { end = p.end; start = p.start; key = m.key p.key }

  abbrev pub pane_moved : Place × List Datum → Place × List Datum
  pane_moved x = (place_moved x.0, map moved x.1)

  abbrev pub firing_moved : Firing → Firing
  firing_moved g = record { turn = m.turn g.turn; kind = g.kind; place = place_moved g.place; contents = map moved g.contents; fired = map moved g.fired }

  pub same_turn : (i j : ℕ) → nat_eq (m.turn i) (m.turn j) ≡ nat_eq i j
  same_turn = same_number m.turn m.turns

  pub key_moved : (j k : ℕ) → nat_eq (m.key j) (m.key k) ≡ nat_eq j k
  key_moved = same_number m.key m.keys

  pub places_moved : (p r : Place) → place_cmp (place_moved p) (place_moved r) ≡ place_cmp p r
  places_moved p r = λ i. ordering_then (int_cmp p.end r.end) (ordering_then (int_cmp p.start r.start) (same_order m.key m.keys p.key r.key i))

  ties_moved : (p r : Place) → eq_by_cmp place_cmp (place_moved p) (place_moved r) ≡ eq_by_cmp place_cmp p r
  ties_moved p r = ap is_eq (places_moved p r)

  -- ---- which firings tell of which

  pub shows_moved : (shape : Shape) (p r : Place) → shows shape (place_moved p) (place_moved r) ≡ shows shape p r
  shows_moved (Fixed size) p r = ties_moved p r
  shows_moved (Sliding size period) p r = ties_moved p r
  shows_moved (Session gap) p r = key_moved p.key r.key

  pub holds_moved : (d : Datum) (ds : List Datum) → holds (moved d) (map moved ds) ≡ holds d ds
  holds_moved d ds =
      list_any-map (λ x. nat_eq x.turn (m.turn d.turn)) moved ds
      ∙ list_any-each (λ x. nat_eq (m.turn x.turn) (m.turn d.turn)) (λ x. nat_eq x.turn d.turn) ds (all-any (λ x. nat_eq (m.turn x.turn) (m.turn d.turn) ≡ nat_eq x.turn d.turn) (λ x. same_turn x.turn d.turn) ds)

  within_moved : (xs ys : List Datum) → is_within (map moved xs) (map moved ys) ≡ is_within xs ys
  within_moved xs ys =
      list_all-map (λ d. holds d (map moved ys)) moved xs
      ∙ list_all-same (λ d. holds (moved d) (map moved ys)) (λ d. holds d ys) (λ d. holds_moved d ys) xs

  holds_all_moved : (fs : List Firing) (g : Firing) → holds_all (map firing_moved fs) (firing_moved g) ≡ holds_all fs g
  holds_all_moved fs g =
      list_all-map (λ h. is_within h.contents (map moved g.contents)) firing_moved fs
      ∙ list_all-same (λ h. is_within (map moved h.contents) (map moved g.contents)) (λ h. is_within h.contents g.contents) (λ h. within_moved h.contents g.contents) fs

  pub greatest_moved : (fs : List Firing) → greatest_of (map firing_moved fs) ≡ option_map firing_moved (greatest_of fs)
  greatest_moved fs =
      ap (last_or None) (filter-map firing_moved (holds_all (map firing_moved fs)) fs)
      ∙ ap (λ (gs : List Firing). last_or None (map firing_moved gs)) (filter_same (λ g. holds_all (map firing_moved fs) (firing_moved g)) (holds_all fs) (holds_all_moved fs) fs)
      ∙ last_or-map firing_moved None (filter (holds_all fs) fs)

  pub candidates_moved : (q : Query) (p : Place) (all : List Datum) (fs : List Firing) → candidates q (place_moved p) (map moved all) (map firing_moved fs) ≡ map firing_moved (candidates q p all fs)
  candidates_moved q p all fs =
      filter-map firing_moved (λ g. shows q.shape (place_moved p) g.place && is_within g.contents (map moved all)) fs
      ∙ ap (map firing_moved) (filter_same (λ g. shows q.shape (place_moved p) (place_moved g.place) && is_within (map moved g.contents) (map moved all)) (λ g. shows q.shape p g.place && is_within g.contents all)
      (λ g i. shows_moved q.shape p g.place i && within_moved g.contents all i) fs)

  same_moved : (g h : Firing) → is_same (firing_moved g) (firing_moved h) ≡ is_same g h
  same_moved g h = λ i. same_turn g.turn h.turn i && ties_moved g.place h.place i

  -- those of some that others don't have
  pub gone_moved : (now olds : List Firing) → filter (λ g. not (list_any (is_same g) (map firing_moved now))) (map firing_moved olds) ≡ map firing_moved (filter (λ g. not (list_any (is_same g) now)) olds)
  gone_moved now olds =
      filter-map firing_moved (λ g. not (list_any (is_same g) (map firing_moved now))) olds
      ∙ ap (map firing_moved) (filter_same (λ g. not (list_any (is_same (firing_moved g)) (map firing_moved now))) (λ g. not (list_any (is_same g) now))
      (λ g. ap not (list_any-map (is_same (firing_moved g)) firing_moved now
      ∙ list_any-each (λ h. is_same (firing_moved g) (firing_moved h)) (is_same g) now (all-any (λ h. is_same (firing_moved g) (firing_moved h) ≡ is_same g h) (same_moved g) now))) olds)

  -- ---- what fires

  pub length_moved : (ds : List Datum) → length (map moved ds) ≡ length ds
  length_moved ds = length_each moved ds

  pub set_moved : (mode : Mode) (all unshown : List Datum) → firing_set mode (map moved all) (map moved unshown) ≡ map moved (firing_set mode all unshown)
  set_moved mode all unshown = elim (is_over_all mode) as (λ b. cond b (map moved all) (map moved unshown) ≡ map moved (cond b all unshown)) [ true ↦ refl | false ↦ refl ]

  pub firing_of_moved : (i j : ℕ) → m.turn j ≡ i → (p : Place) (all set : List Datum) (kind : Option PaneKind) →
      firing_of i (place_moved p) (map moved all) (map moved set) kind ≡ option_map firing_moved (firing_of j p all set kind)
  firing_of_moved i j turn p all set None = refl
  firing_of_moved i j turn p all set (Some kind) = sym (λ i. Some (record { turn = turn i; kind = kind; place = place_moved p; contents = map moved all; fired = map moved set }))

  pub kind_moved : (q : Query) (o : Own) (x : Effect) (p : Place) (all left : List Datum) → kind_on q (effect_with moved x) (place_moved p) (map moved all) (map moved left) ≡ kind_on (like q o) x p all left
  kind_moved q o (Selects d) p all left = λ i. cond (holds_moved d all i) (kind_on_record q d.mark p.end (length_moved left i)) None
  kind_moved q o (Rises old new) p all left =
      λ i. kind_on_watermark q old new p ((ap (λ (ds : List Datum). length ds) (set_moved q.mode all left) ∙ length_moved (firing_set q.mode all left)) i) (length_moved left i)
  kind_moved q o Nothing p all left = refl

-- ---- where nothing is moved

abbrev pub unmoved : Moves
unmoved = by_turns (λ n. n) (λ m n h. h)

pub records_unmoved : (ds : List Datum) → map (moved unmoved) ds ≡ ds
records_unmoved ds = map-itself (moved unmoved) (λ d. refl) ds

pub panes_unmoved : (xs : List (Place × List Datum)) → map (pane_moved unmoved) xs ≡ xs
panes_unmoved xs = map-itself (pane_moved unmoved) (λ x i. (x.0, records_unmoved x.1 i)) xs

pub firings_unmoved : (fs : List Firing) → map (firing_moved unmoved) fs ≡ fs
firings_unmoved fs = map-itself (firing_moved unmoved) (λ f i. record { turn = f.turn; kind = f.kind; place = f.place; contents = records_unmoved f.contents i; fired = records_unmoved f.fired i }) fs

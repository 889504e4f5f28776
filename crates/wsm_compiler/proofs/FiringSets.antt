-- What a firing's row is computed over, after any history: at least one record and at most as many as the clock allows, all of the
-- firing's key and in range.
use Rattle.std.proofs.Common.{◌≡◌, ℕ, ◌≤◌, Bool, true, false, ◌&&◌, not, cond, List, [], ◌∷◌, length, ℤ, Option, Some, None, refl, arith}
use Rattle.std.specs.Prelude.{◌+ℤ◌, filter, filter_map, nat_eq, nat_lt, int_le, int_lt, unsigned_abs}
use Rattle.std.specs.Option.{IfSome}
use Rattle.std.specs.List.{AllByRecursion, cons_option, last_or}
use Rattle.std.proofs.lemmas.Bool.{eqb-true, and_parts}
use Rattle.wsm_semantics.proofs.Each.{all-append}
use Rattle.wsm_record.specs.declared.event.Value.{Value}
use Rattle.wsm_record.specs.declared.words.Mode.{Mode}
use Rattle.wsm_record.specs.declared.words.Mode.TheVariants.{Discarding}
use Rattle.wsm_record.specs.Event.{Event, Record}
use Rattle.wsm_record.specs.Schema.{fit_fields}
use Rattle.wsm_windows.specs.declared.window.PaneKind.{PaneKind}
use Rattle.wsm_windows.specs.declared.window.PaneKind.TheVariants.{OnTime, Final}
use Rattle.wsm_windows.specs.Life.{is_due}
use Rattle.wsm_windows.specs.declared.place.Place.{Place}
use Rattle.wsm_windows.specs.Places.{place_cmp, window_of}
use Rattle.wsm_windows.proofs.Places.{places_exact}
use Rattle.wsm_admission.proofs.Taken.{taken_record, admitted_count-le}
use Rattle.wsm_semantics.specs.Query.{Query as Meant, Datum, Effect, Selects, Rises, Nothing, effect_of, selection, verdict_on, selection_of, selected}
use Rattle.wsm_semantics.specs.Panes.{is_there, stands_in, contents, places, with_contents, panes, held}
use Rattle.wsm_semantics.specs.Firings.{Firing, firing_set, kind_on_record, kind_on_watermark, firing_of, fire, holds, is_shown, firings, firings_so_far}
use Rattle.wsm_semantics.specs.Retractions.{standing_for, withdrawn}
use Rattle.wsm_semantics.specs.StandingFirings.{candidates, greatest_of, holds_all, standing}
use Rattle.wsm_semantics.proofs.Effects.{by_effect}
use Rattle.wsm_semantics.proofs.SelectedRecords.{selected_count}
use Rattle.wsm_semantics.proofs.Lists.{filter-all, put-all}
use Rattle.wsm_machine.proofs.SoundFirings.{enough_some}
use Rattle.wsm_semantics.proofs.ManyKeys.{length-filter}

all_found : {A B : Type 0} (P : B → Type 0) (g : A → Option B) (xs : List A) → AllByRecursion (λ x. IfSome (g x) P) xs → AllByRecursion P (filter_map g xs)
all_found P g [] h = tt
all_found {A} {B} P g (x ∷ xs) h = one (g x) h.0 (all_found P g xs h.1)
  where
    one : (o : Option B) → IfSome o P → AllByRecursion P (filter_map g xs) → AllByRecursion P (cons_option o (filter_map g xs))
    one None k rest = rest
    one (Some y) k rest = (k, rest)

pub all_each : {A : Type 0} (P Q : A → Type 0) → ((x : A) → P x → Q x) → (xs : List A) → AllByRecursion P xs → AllByRecursion Q xs
all_each P Q f [] h = tt
all_each P Q f (x ∷ xs) h = (f x h.0, all_each P Q f xs h.1)

at_least : (n : ℕ) → nat_lt 0 n ≡ true → 1 ≤ n
at_least n h = grind arith

module _ (m : Meant) where
  -- a declared key, and values that fit
  abbrev pub Fits : Datum → Type 0
  Fits d = (nat_lt d.key (length m.declared.keys) && fit_fields m.declared.fields d.values) ≡ true

  pub record IsFiringSet (key : ℕ) (ds : List Datum) : Type 0 where
    pub same : AllByRecursion (λ d. d.key ≡ key) ds
    pub some : 1 ≤ length ds
    pub few : length ds ≤ unsigned_abs m.clock.records
    pub each : AllByRecursion Fits ds

  abbrev pub IsOfSet : Firing → Type 0
  IsOfSet f = IsFiringSet f.place.key f.fired

  -- ---- selected records

  pub taken_fits : (past : List Event) (key : ℕ) (time : ℤ) (values : List Value) → verdict_on m past (Record (Some key) time values) ≡ None → (nat_lt key (length m.declared.keys) && fit_fields m.declared.fields values) ≡ true
  taken_fits past key time values h = grind (arith, taken_record)

  one_fits : (e : Event) (past : List Event) → AllByRecursion Fits (selection_of m past e)
  one_fits e past = by_effect m past (λ e x. AllByRecursion Fits (selection x)) (λ key time values taken _. (taken_fits past key time values taken, tt)) (λ o t _. tt) (λ e _. tt) e

  all_fit : (past : List Event) → AllByRecursion Fits (selected m past)
  all_fit [] = tt
  all_fit (e ∷ past) = all-append Fits (selection_of m past e) (selected m past) (one_fits e past) (all_fit past)

  -- ---- panes

  -- records of a place
  record AreOf (p : Place) (ds : List Datum) : Type 0 where
    same : AllByRecursion (λ d. d.key ≡ p.key) ds
    few : length ds ≤ unsigned_abs m.clock.records
    each : AllByRecursion Fits ds

  keys_there : (p : Place) (ds : List Datum) → AllByRecursion (λ d. d.key ≡ p.key) (filter (is_there m p) ds)
  keys_there p [] = tt
  keys_there p (d ∷ ds) = by_test (is_there m p d) refl (keys_there p ds)
    where
      by_test : (b : Bool) → is_there m p d ≡ b → AllByRecursion (λ d. d.key ≡ p.key) (filter (is_there m p) ds) → AllByRecursion (λ d. d.key ≡ p.key) (cond b (d ∷ filter (is_there m p) ds) (filter (is_there m p) ds))
      by_test true h rest = (eqb-true d.key p.key (and_parts (nat_eq d.key p.key) (stands_in m.shape m.clock.lateness (window_of p) d) h).0, rest)
      by_test false h rest = rest

  at_most : (a b c d : ℕ) → a ≤ b → b ≤ c → c ≤ d → a ≤ d
  at_most a b c d h i j = omega (arith, h, i, j)

  contents_are : (past : List Event) (p : Place) → AreOf p (contents m past p)
  contents_are past p = grind (arith, keys_there, at_most, length-filter, selected_count, admitted_count-le, filter-all, all_fit)

  abbrev IsPaneOf : Place × List Datum → Type 0
  IsPaneOf e = AreOf e.0 e.1

  entries : (c : Place → List Datum) → ((p : Place) → AreOf p (c p)) → (ps : List Place) → AllByRecursion IsPaneOf (with_contents c ps)
  entries c h [] = tt
  entries c h (p ∷ ps) = put-all place_cmp places_exact IsPaneOf p (c p) (with_contents c ps) (h p) (entries c h ps)

  panes_are : (past : List Event) → AllByRecursion IsPaneOf (panes m past)
  panes_are past = entries (contents m past) (contents_are past) (places m past)

  -- ---- firings

  part_of : (p : Place) (t : Datum → Bool) (all : List Datum) → AreOf p all → AreOf p (filter t all)
  part_of p t all h =
      let l = length-filter t all in
      record {
        same = filter-all (λ d. d.key ≡ p.key) t all h.same;
        few = omega (arith, l, h.few);
        each = filter-all Fits t all h.each;
      }

  -- all records of a pane, or those that weren't shown
  set_of : (mode : Mode) (p : Place) (t : Datum → Bool) (all : List Datum) → AreOf p all → 1 ≤ length (firing_set mode all (filter t all)) → IsFiringSet p.key (firing_set mode all (filter t all))
  set_of Discarding p t all h some = let f = part_of p t all h in record { same = f.same; some = some; few = f.few; each = f.each }
  set_of mode p t all h some = record { same = h.same; some = some; few = h.few; each = h.each }

  some_unshown : (mode : Mode) (t : Datum → Bool) (all : List Datum) → 1 ≤ length (filter t all) → 1 ≤ length (firing_set mode all (filter t all))
  some_unshown mode t all h = grind (arith, length-filter)

  chosen : (b : Bool) (k : PaneKind) (x : PaneKind) → cond b (Some k) None ≡ Some x → b ≡ true
  chosen b k x h = grind arith

  on_record : (w end : ℤ) (unshown : ℕ) (k : PaneKind) → kind_on_record m w end unshown ≡ Some k → 1 ≤ unshown
  on_record w end unshown k h = grind (arith, enough_some, chosen)

  on_watermark : (due final : Bool) (set unshown : ℕ) (k : PaneKind) → cond (due && nat_lt 0 set) (Some OnTime) (cond (final && nat_lt 0 unshown) (Some Final) None) ≡ Some k → (1 ≤ unshown → 1 ≤ set) → 1 ≤ set
  on_watermark due final set unshown k h more = by_test (due && nat_lt 0 set) refl h
    where
      by_test : (b : Bool) → (due && nat_lt 0 set) ≡ b → cond b (Some OnTime) (cond (final && nat_lt 0 unshown) (Some Final) None) ≡ Some k → 1 ≤ set
      by_test true e h = at_least set (and_parts due (nat_lt 0 set) e).1
      by_test false e h = more (at_least unshown (and_parts final (nat_lt 0 unshown) (chosen (final && nat_lt 0 unshown) Final k h)).1)

  fired : (turn : ℕ) (p : Place) (all set : List Datum) (o : Option PaneKind) → ((k : PaneKind) → o ≡ Some k → IsFiringSet p.key set) → IfSome (firing_of turn p all set o) IsOfSet
  fired turn p all set o h = grind arith

  passes : (b : Bool) (o : Option PaneKind) (k : PaneKind) → cond b o None ≡ Some k → o ≡ Some k
  passes b o k h = grind arith

  one_fires : (shown : Datum → Bool) (turn : ℕ) (x : Effect) (p : Place) (all : List Datum) → AreOf p all → IfSome (fire shown m turn x p all) IsOfSet
  one_fires shown turn (Selects d) p all h =
      let t : Datum → Bool = λ x. not (shown x) in
      let unshown = filter t all in
      let kind = kind_on_record m d.mark p.end (length unshown) in
      let set = firing_set m.mode all unshown in
      fired turn p all set (cond (holds d all) kind None)
      (λ k is. set_of m.mode p t all h (some_unshown m.mode t all (on_record d.mark p.end (length unshown) k (passes (holds d all) kind k is))))
  one_fires shown turn (Rises old new) p all h =
      let t : Datum → Bool = λ d. not (shown d) in
      let unshown = filter t all in
      let set = firing_set m.mode all unshown in
      let kind = kind_on_watermark m old new p (length set) (length unshown) in
      let end = p.end +ℤ m.clock.lateness in
      fired turn p all set kind
      (λ k is. set_of m.mode p t all h (on_watermark (is_due (window_of p) old new) (int_lt old end && int_le end new) (length set) (length unshown) k is (some_unshown m.mode t all)))
  one_fires shown turn Nothing p all h = tt

  pub firings_of_sets : (past : List Event) (e : Event) → AllByRecursion IsOfSet (firings m past e)
  firings_of_sets past e =
      all_found IsOfSet (λ p. fire (is_shown m past p.0) m (length past) (effect_of m past e) p.0 p.1) (panes m (e ∷ past))
      (all_each IsPaneOf (λ p. IfSome (fire (is_shown m past p.0) m (length past) (effect_of m past e) p.0 p.1) IsOfSet) (λ p h. one_fires (is_shown m past p.0) (length past) (effect_of m past e) p.0 p.1 h) (panes m (e ∷ past)) (panes_are (e ∷ past)))

  pub so_far_of_sets : (past : List Event) → AllByRecursion IsOfSet (firings_so_far m past)
  so_far_of_sets [] = tt
  so_far_of_sets (e ∷ past) = all-append IsOfSet (firings_so_far m past) (firings m past e) (so_far_of_sets past) (firings_of_sets past e)

  -- the firing that stands for a place is one of them
  last_is : (o : Option Firing) (fs : List Firing) → IfSome o IsOfSet → AllByRecursion IsOfSet fs → IfSome (last_or o fs) IsOfSet
  last_is o [] h l = h
  last_is o (f ∷ fs) h l = last_is (Some f) fs l.0 l.1

  greatest_is : (fs : List Firing) → AllByRecursion IsOfSet fs → IfSome (greatest_of fs) IsOfSet
  greatest_is fs h = last_is None (filter (holds_all fs) fs) tt (filter-all IsOfSet (holds_all fs) fs h)

  pub standing_of_set : (fs : List Firing) (p : Place) (all : List Datum) → AllByRecursion IsOfSet fs → IfSome (standing m fs p all) IsOfSet
  standing_of_set fs p all h = greatest_is (candidates m p all fs) (filter-all IsOfSet _ fs h)

  standing_of_sets : (fs : List Firing) → AllByRecursion IsOfSet fs → (ps : List (Place × List Datum)) → AllByRecursion (λ p. IfSome (standing m fs p.0 p.1) IsOfSet) ps
  standing_of_sets fs h [] = tt
  standing_of_sets fs h (p ∷ ps) = (standing_of_set fs p.0 p.1 h, standing_of_sets fs h ps)

  -- and so is each that is withdrawn
  pub withdrawn_of_sets : (past : List Event) (e : Event) → AllByRecursion IsOfSet (withdrawn m past e)
  withdrawn_of_sets past e =
      let fs = firings_so_far m past in
      filter-all IsOfSet _ (standing_for m past (held m past)) (all_found IsOfSet (λ p. standing m fs p.0 p.1) (held m past) (standing_of_sets fs (so_far_of_sets past) (held m past)))

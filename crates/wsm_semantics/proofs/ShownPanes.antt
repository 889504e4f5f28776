-- What one turn shows, for any query: panes fire by their records and those unshown, and a pane that
-- fires has shown all of its records.
use Rattle.std.proofs.Common.{◌≡◌, ℕ, suc, ◌≤◌, ◌<◌, Bool, true, false, ◌&&◌, ◌||◌, cond, not, List, [], ◌∷◌, length, ℤ, Option, Some, None, is_some, refl, sym, ap, ◌∙◌, arith}
use Rattle.std.proofs.lemmas.Bool.Decides.{nat_tests}
use Rattle.std.specs.Prelude.{filter, filter_map, nat_eq}
use Rattle.std.specs.List.{AllByRecursion, cons_option, list_any}
use Rattle.std.specs.Ordering.{eq_by_cmp}
use Rattle.std.specs.FinMap.Entries.{is_some-find}
use Rattle.std.proofs.Math.Bool.{and-false, or-false, and-true}
use Rattle.std.proofs.lemmas.Bool.{or_right}
use Rattle.wsm_record.proofs.Lists.{list_any-map}
use Rattle.wsm_record.specs.declared.event.Value.{Value}
use Rattle.wsm_record.specs.Event.{Event, Record, Watermark}
use Rattle.wsm_windows.specs.declared.window.PaneKind.{PaneKind}
use Rattle.wsm_windows.specs.declared.place.Place.{Place}
use Rattle.wsm_windows.specs.Places.{place_cmp}
use Rattle.wsm_windows.proofs.Places.{tie_is, places_exact}
use Rattle.wsm_semantics.specs.Query.{Query, Datum, datum, Effect, Rises, Nothing, effect_of, mark, raises, verdict_on, selected}
use Rattle.wsm_semantics.specs.Panes.{is_there, places, contents, panes, with_contents}
use Rattle.wsm_semantics.specs.Firings.{Firing, firings, firing_of, firing_set, holds, is_shown, kind_on, kind_on_record, kind_on_watermark, shows}
use Rattle.wsm_semantics.proofs.Lists.{filter-all, all-each, filter_same, put-all}
use Rattle.wsm_semantics.proofs.Effects.{down_stays, effect-selected}
use Rattle.wsm_semantics.proofs.Turns.{idle}
use Rattle.wsm_semantics.proofs.Tables.{among, find-with_contents}
use Rattle.wsm_semantics.proofs.Assigned.{tied}
use Rattle.wsm_semantics.proofs.Each.{all-any, filter-each, none_of, list_any-each, list_any-and, list_any-none}
use Rattle.wsm_semantics.proofs.MergedRecords.{Below, selected_below}

-- ---- each pane has its records

pub each_among : (all ps : List Place) → ((p : Place) → among p ps ≡ true → among p all ≡ true) → AllByRecursion (λ p. among p all ≡ true) ps
each_among all [] within = tt
each_among all (p ∷ ps) within = (
  within p (ap (λ (b : Bool). b || among p ps) (tied p p refl)),
  each_among all ps (λ r h. within r (or_right (eq_by_cmp place_cmp r p) (among r ps) h)),
)

-- a place with its records
abbrev pub IsPane : Query → List Event → Place × List Datum → Type 0
IsPane q past x = (x.1 ≡ contents q past x.0) × (among x.0 (places q past) ≡ true)

pub each_pane : (q : Query) (past : List Event) → AllByRecursion (IsPane q past) (panes q past)
each_pane q past = filled (places q past) (each_among (places q past) (places q past) (λ p h. h)) where
  filled : (ps : List Place) → AllByRecursion (λ p. among p (places q past) ≡ true) ps → AllByRecursion (IsPane q past) (with_contents (contents q past) ps)
  filled [] h = tt
  filled (p ∷ ps) h = put-all place_cmp places_exact (IsPane q past) p (contents q past p) (with_contents (contents q past) ps) (refl, h.0) (filled ps h.1)

-- a place with records is found among the panes
pub found : (q : Query) (past : List Event) (p : Place) → among p (places q past) ≡ true → list_any (λ x. eq_by_cmp place_cmp p x.0) (panes q past) ≡ true
found q past p h =
    sym (list_any-map (eq_by_cmp place_cmp p) (λ x. x.0) (panes q past))
    ∙ sym (is_some-find place_cmp p (panes q past))
    ∙ ap is_some (find-with_contents (contents q past) p (places q past))
    ∙ ap (λ (b : Bool). is_some (cond b (Some (contents q past p)) None)) h

pub contents_below : (q : Query) (past : List Event) (p : Place) → Below (length past) (contents q past p)
contents_below q past p = filter-all (λ x. x.turn < length past) (is_there q p) (selected q past) (selected_below q past)

-- ---- what fires

-- the records of a place that no firing showed
abbrev pub unshown_of : Query → List Event → Place → List Datum → List Datum
unshown_of q past p all = filter (λ d. not (is_shown q past p d)) all

-- the kind of what a place does on a turn
abbrev pub kind_of : Query → List Event → Event → Place → List Datum → Option PaneKind
kind_of q past e p all = kind_on q (effect_of q past e) p all (unshown_of q past p all)

-- at a selected record
pub kind-selected : (q : Query) (past : List Event) (k : ℕ) (t : ℤ) (vs : List Value) → verdict_on q past (Record (Some k) t vs) ≡ None → q.selects k vs ≡ true → (p : Place) (all : List Datum) →
    kind_of q past (Record (Some k) t vs) p all ≡ cond (holds (datum (length past) (mark q past) k t vs) all) (kind_on_record q (mark q past) p.end (length (unshown_of q past p all))) None
kind-selected q past k t vs taken selects p all = ap (λ (x : Effect). kind_on q x p all (unshown_of q past p all)) (effect-selected q past k t vs taken selects)

-- at a watermark, also one that leaves that of the query
pub kind-watermark : (q : Query) (past : List Event) (o : Option ℕ) (t : ℤ) (p : Place) (all : List Datum) →
    let unshown = unshown_of q past p all in kind_of q past (Watermark o t) p all ≡ kind_on_watermark q (mark q past) (mark q (Watermark o t ∷ past)) p (length (firing_set q.mode all unshown)) (length unshown)
kind-watermark q past o t p all =
    let old : ℤ = mark q past in
    let new : ℤ = mark q (Watermark o t ∷ past) in
    let unshown : List Datum = unshown_of q past p all in
    let n : ℕ = length (firing_set q.mode all unshown) in
    elim (raises q past (Watermark o t)) as (λ b. raises q past (Watermark o t) ≡ b → kind_on q (cond b (Rises old new) Nothing) p all unshown ≡ kind_on_watermark q old new p n (length unshown)) [
      | true ↦ λ _. refl
      | false ↦ λ down. sym (ap (λ (m : ℤ). kind_on_watermark q old m p n (length unshown)) (down_stays q past (Watermark o t) down) ∙ idle q past old p n (length unshown))
    ] refl

-- what a pane does on a turn
abbrev pub does : Query → List Event → Event → Place × List Datum → Option Firing
does q past e x = firing_of (length past) x.0 x.1 (firing_set q.mode x.1 (unshown_of q past x.0 x.1)) (kind_of q past e x.0 x.1)

pub firings_are : (q : Query) (past : List Event) (e : Event) → firings q past e ≡ filter_map (does q past e) (panes q (e ∷ past))
firings_are q past e = refl

-- a firing that shows a place's record is of a pane that fires, shows the place and holds the record
showing : (q : Query) (past : List Event) (e : Event) (p : Place) (d : Datum) (xs : List (Place × List Datum)) →
    list_any (λ f. shows q.shape p f.place && holds d f.contents) (filter_map (does q past e) xs) ≡ list_any (λ x. is_some (kind_of q past e x.0 x.1) && (shows q.shape p x.0 && holds d x.1)) xs
showing q past e p d [] = refl
showing q past e p d (x ∷ xs) =
    elim (kind_of q past e x.0 x.1) as (λ o.
    list_any (λ f. shows q.shape p f.place && holds d f.contents) (cons_option (firing_of (length past) x.0 x.1 (firing_set q.mode x.1 (unshown_of q past x.0 x.1)) o) (filter_map (does q past e) xs))
    ≡ ((is_some o && (shows q.shape p x.0 && holds d x.1)) || list_any (λ y. is_some (kind_of q past e y.0 y.1) && (shows q.shape p y.0 && holds d y.1)) xs)) [
      | None ↦ showing q past e p d xs
      | Some k ↦ ap (λ (b : Bool). (shows q.shape p x.0 && holds d x.1) || b) (showing q past e p d xs)
    ]

pub shown_now : (q : Query) (past : List Event) (e : Event) (p : Place) (d : Datum) →
    list_any (λ f. shows q.shape p f.place && holds d f.contents) (firings q past e) ≡ list_any (λ x. is_some (kind_of q past e x.0 x.1) && (shows q.shape p x.0 && holds d x.1)) (panes q (e ∷ past))
shown_now q past e p d =
    ap (list_any (λ f. shows q.shape p f.place && holds d f.contents)) (firings_are q past e)
    ∙ showing q past e p d (panes q (e ∷ past))

unlike : (m n k : ℕ) → m < n → n ≤ k → nat_eq m k ≡ false
unlike m n k h l = grind (arith, nat_tests)

none_holds : (n : ℕ) (d : Datum) → n ≤ d.turn → (ds : List Datum) → Below n ds → holds d ds ≡ false
none_holds n d h [] b = refl
none_holds n d h (x ∷ ds) b = λ i. unlike x.turn n d.turn b.0 h i || none_holds n d h ds b.1 i

-- a record that didn't come yet isn't shown
pub not_shown_yet : (q : Query) (past : List Event) (p : Place) (d : Datum) → length past ≤ d.turn → is_shown q past p d ≡ false
not_shown_yet q [] p d h = refl
not_shown_yet q (e ∷ past) p d h =
    let now : list_any (λ f. shows q.shape p f.place && holds d f.contents) (firings q past e) ≡ false =
    shown_now q past e p d
    ∙ list_any-none (λ x. is_some (kind_of q past e x.0 x.1) && (shows q.shape p x.0 && holds d x.1)) (panes q (e ∷ past))
    (all-each (IsPane q (e ∷ past)) (λ x. (is_some (kind_of q past e x.0 x.1) && (shows q.shape p x.0 && holds d x.1)) ≡ false) (panes q (e ∷ past))
    (λ x is. ap (λ (ds : List Datum). is_some (kind_of q past e x.0 x.1) && (shows q.shape p x.0 && holds d ds)) is.0
    ∙ ap (λ (b : Bool). is_some (kind_of q past e x.0 x.1) && (shows q.shape p x.0 && b)) (none_holds (suc (length past)) d h (contents q (e ∷ past) x.0) (contents_below q (e ∷ past) x.0))
    ∙ ap (λ (b : Bool). is_some (kind_of q past e x.0 x.1) && b) (and-false (shows q.shape p x.0))
    ∙ and-false (is_some (kind_of q past e x.0 x.1)))
    (each_pane q (e ∷ past))) in
    λ i. not_shown_yet q past p d (omega arith) i || now i

-- ---- what is unshown afterwards

abbrev pub unshown_by : Option PaneKind → List Datum → List Datum
unshown_by None unshown = unshown
unshown_by (Some kind) unshown = []

-- a record of a pane is shown by the firings of this pane alone
abbrev pub ShowsOwn : Query → List Event → Type 0
ShowsOwn q past = (p : Place) → among p (places q past) ≡ true →
    AllByRecursion (λ d. (r : Place) → among r (places q past) ≡ true → (shows q.shape p r && holds d (contents q past r)) ≡ eq_by_cmp place_cmp p r) (contents q past p)

module _ (q : Query) (past : List Event) (e : Event) (own : ShowsOwn q (e ∷ past)) where
  module _ (p : Place) (there : among p (places q (e ∷ past)) ≡ true) where
    abbrev kind : Option PaneKind
    kind = kind_of q past e p (contents q (e ∷ past) p)

    -- a record of a pane is shown by this turn where the pane fires
    shows_where : (d : Datum) → ((r : Place) → among r (places q (e ∷ past)) ≡ true → (shows q.shape p r && holds d (contents q (e ∷ past) r)) ≡ eq_by_cmp place_cmp p r) →
        is_shown q (e ∷ past) p d ≡ (is_shown q past p d || is_some kind)
    shows_where d hit =
        ap (λ (b : Bool). is_shown q past p d || b) (
        shown_now q past e p d
        ∙ list_any-each _ (λ x. is_some kind && eq_by_cmp place_cmp p x.0) (panes q (e ∷ past))
        (all-each (IsPane q (e ∷ past)) (λ x. (is_some (kind_of q past e x.0 x.1) && (shows q.shape p x.0 && holds d x.1)) ≡ (is_some kind && eq_by_cmp place_cmp p x.0)) (panes q (e ∷ past)) (λ x is. one x is) (each_pane q (e ∷ past)))
        ∙ list_any-and (λ x. eq_by_cmp place_cmp p x.0) (is_some kind) (panes q (e ∷ past))
        ∙ ap (λ (b : Bool). is_some kind && b) (found q (e ∷ past) p there)
        ∙ and-true (is_some kind)
        )
      where
        one : (x : Place × List Datum) → IsPane q (e ∷ past) x → (is_some (kind_of q past e x.0 x.1) && (shows q.shape p x.0 && holds d x.1)) ≡ (is_some kind && eq_by_cmp place_cmp p x.0)
        one x is =
            ap (λ (ds : List Datum). is_some (kind_of q past e x.0 x.1) && (shows q.shape p x.0 && holds d ds)) is.0
            ∙ ap (λ (b : Bool). is_some (kind_of q past e x.0 x.1) && b) (hit x.0 is.1)
            ∙ elim (eq_by_cmp place_cmp p x.0) as (λ b. eq_by_cmp place_cmp p x.0 ≡ b → (is_some (kind_of q past e x.0 x.1) && b) ≡ (is_some kind && b)) [
              | true ↦ λ t. ap (λ (ds : List Datum). is_some (kind_of q past e x.0 ds) && true) is.0 ∙ ap (λ (r : Place). is_some (kind_of q past e r (contents q (e ∷ past) r)) && true) (sym (tie_is p x.0 t))
              | false ↦ λ t. and-false (is_some (kind_of q past e x.0 x.1)) ∙ sym (and-false (is_some kind))
            ] refl

    -- a pane that fires has shown all, and another what it had
    pub unshown-after : unshown_of q (e ∷ past) p (contents q (e ∷ past) p) ≡ unshown_by kind (unshown_of q past p (contents q (e ∷ past) p))
    unshown-after =
        filter-each (λ d. not (is_shown q (e ∷ past) p d)) (λ d. not (is_shown q past p d || is_some kind)) (contents q (e ∷ past) p)
        (all-each _ (λ d. not (is_shown q (e ∷ past) p d) ≡ not (is_shown q past p d || is_some kind)) (contents q (e ∷ past) p) (λ d hit. ap not (shows_where d hit)) (own p there))
        ∙ elim kind as (λ o. filter (λ d. not (is_shown q past p d || is_some o)) (contents q (e ∷ past) p) ≡ unshown_by o (unshown_of q past p (contents q (e ∷ past) p))) [
          | None ↦ filter_same _ _ (λ d. ap not (or-false (is_shown q past p d))) (contents q (e ∷ past) p)
          | Some k ↦ none_of _ (contents q (e ∷ past) p) (all-any (λ d. not (is_shown q past p d || true) ≡ false) (λ d. ap not (or_right (is_shown q past p d) true refl)) (contents q (e ∷ past) p))
        ]

-- What a selected record and a watermark leave of what is kept, what they fire, and the
-- relation: by what was kept of the held panes alone, of any query of which it is known where its
-- panes are and how a record enters them.
use Rattle.std.proofs.Common.{◌≡◌, ℕ, Bool, true, false, ◌&&◌, ◌||◌, cond, List, [], ◌∷◌, ◌++◌, map, length, ℤ, pos, ◌+ℤ◌, ◌≤ℤ◌, Option, Some, None, refl, sym, ap, subst, ◌∙◌, arith}
use Rattle.std.proofs.lemmas.Int.{ints}
use Rattle.std.proofs.lemmas.Bool.{true≢false, and_parts}
use Rattle.std.specs.Option.{IfSome}
use Rattle.std.specs.Prelude.{filter, int_le, int_lt, nat_eq, nat_lt, option_and_then}
use Rattle.std.specs.List.{AllByRecursion, last_or, list_any}
use Rattle.wsm_record.specs.declared.event.Value.{Value}
use Rattle.wsm_record.specs.Event.{Event, Record, Watermark}
use Rattle.wsm_windows.specs.declared.window.PaneKind.{PaneKind}
use Rattle.wsm_windows.specs.declared.window.PaneKind.TheVariants.{OnTime, Final}
use Rattle.wsm_windows.specs.declared.place.Place.{Place}
use Rattle.wsm_admission.proofs.SourceMarks.{watermark_rises}
use Rattle.wsm_semantics.specs.Query.{Query, Datum, SessionsByEvent, mark, verdict_on, selected, datum}
use Rattle.wsm_semantics.specs.Panes.{is_there, contents, panes, held, is_live_at}
use Rattle.wsm_semantics.specs.Firings.{Firing, firings, firings_so_far, firing_set, kind_on_record, shows}
use Rattle.wsm_semantics.specs.StandingFirings.{is_within, candidates, holds_all, greatest_of, standing}
use Rattle.wsm_semantics.specs.Relation.{sorted_rows, relation_at}
use Rattle.wsm_semantics.specs.Kept.{Kept, kept, kept_in, entered, fires, all_fired, stands_by, stands_in, kind_by_record, kind_by_watermark, kept_at_watermark, kept_after_record, fired_by_record, kept_after_watermark, fired_by_watermark, standing_row, relation_of}
use Rattle.wsm_semantics.proofs.Lists.{filter-all, filter_within, all-each}
use Rattle.wsm_semantics.proofs.Effects.{selects_one, selects_none}
use Rattle.wsm_semantics.proofs.Turns.{panes-same}
use Rattle.wsm_semantics.proofs.Each.{all-any, filter-map, filter_map-each, filter_map-map, itself, passed}
use Rattle.wsm_semantics.proofs.ShownPanes.{IsPane, each_pane, contents_below, kind_of, kind-selected, kind-watermark, unshown_of}
use Rattle.wsm_semantics.proofs.FiringsSoFar.{PlacesLaw, shows_key}
use Rattle.wsm_semantics.proofs.KeptTurns.{kept_by_turn, firings_by_turn, none_of_turn, lives_there}

-- a selected record is entered into what is kept as into the held panes
abbrev pub EntersPanes : Query → Type 0
EntersPanes q = (past : List Event) (k : ℕ) (t : ℤ) (vs : List Value) → verdict_on q past (Record (Some k) t vs) ≡ None → q.selects k vs ≡ true →
    entered q.shape q.clock.lateness (datum (length past) (mark q past) k t vs) (kept q past) ≡ map (kept_in q past) (held q (Record (Some k) t vs ∷ past))

-- ---- the row that stands for a pane

row_by : (q : Query) (p : Place) (cs : List Firing) (o : Option Firing) → IfSome o (λ f. p.key ≡ f.place.key) → (cs ≡ [] → o ≡ None) → standing_row q p (stands_by cs o) ≡ option_and_then (λ f. q.row f.place.key f.fired) o
row_by q p [] o h none = sym (ap (option_and_then (λ f. q.row f.place.key f.fired)) (none refl))
row_by q p (f ∷ fs) (Some g) h none = ap (λ (k : ℕ). q.row k g.fired) h
row_by q p (f ∷ fs) None h none = refl

-- the greatest of some firings is one of them
pub greatest_is : (P : Firing → Type 0) (fs : List Firing) → AllByRecursion P fs → IfSome (greatest_of fs) P
greatest_is P fs h = last_is None (filter (holds_all fs) fs) tt (filter-all P (holds_all fs) fs h) where
  last_is : (o : Option Firing) (gs : List Firing) → IfSome o P → AllByRecursion P gs → IfSome (last_or o gs) P
  last_is o [] k each = k
  last_is o (g ∷ gs) k each = last_is (Some g) gs each.0 each.1

-- the firing that stands for a pane is of its key
pub standing_key : (q : Query) (past : List Event) (p : Place) (all : List Datum) → IfSome (standing q (firings_so_far q past) p all) (λ f. p.key ≡ f.place.key)
standing_key q past p all =
    let may : Firing → Bool = λ f. shows q.shape p f.place && is_within f.contents all in
    greatest_is (λ f. p.key ≡ f.place.key) (candidates q p all (firings_so_far q past))
    (all-each (λ f. may f ≡ true) (λ f. p.key ≡ f.place.key) (candidates q p all (firings_so_far q past)) (λ f h. shows_key q.shape p f.place (and_parts _ _ h).0) (passed may (firings_so_far q past)))

-- its row is the one that stands
row-standing : (q : Query) (past : List Event) (p : Place) (all : List Datum) → standing_row q p (stands_in q past p all) ≡ option_and_then (λ f. q.row f.place.key f.fired) (standing q (firings_so_far q past) p all)
row-standing q past p all =
    let cs : List Firing = candidates q p all (firings_so_far q past) in
    row_by q p cs (greatest_of cs) (standing_key q past p all) (λ none. ap greatest_of none)

-- ---- how long a pane lives

not_due : (old end l : ℤ) → pos 0 ≤ℤ l → int_lt old (end +ℤ l) ≡ false → int_lt old end ≡ false
not_due old end l low h = grind (arith, ints)

pub lives_before : (w t l end : ℤ) → w ≤ℤ t → int_lt t (end +ℤ l) ≡ true → int_lt w (end +ℤ l) ≡ true
lives_before w t l end less h = grind (arith, ints)

module _ (q : Query) (low : pos 0 ≤ℤ q.clock.lateness) (timely : SessionsByEvent q) (law : PlacesLaw q) (past : List Event) where
  -- ---- an admitted and selected record

  module _ (enters : EntersPanes q) (k : ℕ) (t : ℤ) (vs : List Value) (taken : verdict_on q past (Record (Some k) t vs) ≡ None) (selects : q.selects k vs ≡ true) where
    abbrev d : Datum
    d = datum (length past) (mark q past) k t vs

    abbrev e : Event
    e = Record (Some k) t vs

    abbrev by_record : Place → Kept → Option PaneKind
    by_record p h = kind_by_record q (mark q past) d p h

    -- the pane has the record
    has_new : (p : Place) → list_any (λ x. nat_eq x.turn (length past)) (contents q (e ∷ past) p) ≡ is_there q p d
    has_new p =
        ap (λ (sel : List Datum). list_any (λ x. nat_eq x.turn (length past)) (filter (is_there q p) (sel ++ selected q past))) (selects_one q past k t vs taken selects)
        ∙ elim (is_there q p d) as (λ b. list_any (λ x. nat_eq x.turn (length past)) (cond b (d ∷ contents q past p) (contents q past p)) ≡ b) [
          | true ↦ ap (λ (b : Bool). b || list_any (λ x. nat_eq x.turn (length past)) (contents q past p)) (itself (length past))
          | false ↦ none_of_turn (length past) (contents q past p) (contents_below q past p)
        ]

    pub record_kind : (x : Place × List Datum) → IsPane q (e ∷ past) x → kind_of q past e x.0 x.1 ≡ by_record x.0 (kept_in q past x).1
    record_kind x pane =
        kind-selected q past k t vs taken selects x.0 x.1
        ∙ ap (λ (b : Bool). cond b (kind_on_record q (mark q past) x.0.end (length (unshown_of q past x.0 x.1))) None)
        (ap (list_any (λ y. nat_eq y.turn (length past))) pane.0 ∙ has_new x.0)

    pub dead_by_record : (x : Place × List Datum) → IsPane q (e ∷ past) x → is_live_at q (mark q past) x.0 ≡ false → kind_of q past e x.0 x.1 ≡ None
    dead_by_record x pane dead =
        record_kind x pane
        ∙ elim (is_there q x.0 d) as (λ b. is_there q x.0 d ≡ b → cond b (kind_on_record q (mark q past) x.0.end (length (unshown_of q past x.0 x.1))) None ≡ None) [
          | true ↦ λ h. absurd (true≢false (sym (lives_there q past timely k t vs taken x.0 h) ∙ dead))
          | false ↦ λ h. refl
        ] refl

    -- what is kept after it
    pub kept-record : kept q (e ∷ past) ≡ kept_after_record q (mark q past) d (kept q past)
    kept-record =
        kept_by_turn q law past e by_record record_kind (held q (e ∷ past))
        (filter-all (IsPane q (e ∷ past)) (λ x. is_live_at q (mark q past) x.0) (panes q (e ∷ past)) (each_pane q (e ∷ past)))
        ∙ ap (all_fired q by_record) (sym (enters past k t vs taken selects))

    -- what it fires
    pub firings-record : firings q past e ≡ fired_by_record q (mark q past) d (kept q past)
    firings-record =
        firings_by_turn q law past e by_record record_kind (is_live_at q (mark q past)) dead_by_record
        ∙ ap (fires q (length past) by_record) (sym (enters past k t vs taken selects))

  -- ---- a watermark

  module _ (o : Option ℕ) (t : ℤ) where
    abbrev w : Event
    w = Watermark o t

    abbrev new : ℤ
    new = mark q (w ∷ past)

    abbrev by_watermark : Place → Kept → Option PaneKind
    by_watermark p h = kind_by_watermark q (mark q past) new p h

    watermark_kind : (x : Place × List Datum) → IsPane q (w ∷ past) x → kind_of q past w x.0 x.1 ≡ by_watermark x.0 (kept_in q past x).1
    watermark_kind x pane = kind-watermark q past o t x.0 x.1

    pub dead_by_watermark : (x : Place × List Datum) → IsPane q (w ∷ past) x → is_live_at q (mark q past) x.0 ≡ false → kind_of q past w x.0 x.1 ≡ None
    dead_by_watermark x pane dead =
        let old : ℤ = mark q past in
        let u : List Datum = unshown_of q past x.0 x.1 in
        watermark_kind x pane
        ∙ (λ i. cond ((not_due old x.0.end q.clock.lateness low dead i && int_le x.0.end new) && nat_lt 0 (length (firing_set q.mode x.1 u))) (Some OnTime)
        (cond ((dead i && int_le (x.0.end +ℤ q.clock.lateness) new) && nat_lt 0 (length u)) (Some Final) None))

    -- the panes are those of before
    same_panes : panes q (w ∷ past) ≡ panes q past
    same_panes = panes-same q past w (selects_none q past o t)

    -- the held panes that live on
    held_on : held q (w ∷ past) ≡ filter (λ x. is_live_at q new x.0) (held q past)
    held_on = ap (filter (λ x. is_live_at q new x.0)) same_panes ∙ sym (filter_within (λ x. is_live_at q new x.0) (λ x. is_live_at q (mark q past) x.0) (λ x h. lives_before (mark q past) new q.clock.lateness x.0.end (watermark_rises q.clock q.declared past w) h) (panes q past))

    -- what is kept before its drops
    pub kept_before_drops : kept_at_watermark q (mark q past) new (kept q past) ≡ map (kept_in q (w ∷ past)) (held q past)
    kept_before_drops = sym (kept_by_turn q law past w by_watermark watermark_kind (held q past) (filter-all (IsPane q (w ∷ past)) (λ x. is_live_at q (mark q past) x.0) (panes q past) (subst (AllByRecursion (IsPane q (w ∷ past))) same_panes (each_pane q (w ∷ past)))))

    -- what is kept after it
    pub kept-watermark : kept q (w ∷ past) ≡ kept_after_watermark q (mark q past) new (kept q past)
    kept-watermark =
        ap (map (kept_in q (w ∷ past))) held_on
        ∙ sym (filter-map (kept_in q (w ∷ past)) (λ x. is_live_at q new x.0) (held q past))
        ∙ ap (filter (λ x. is_live_at q new x.0)) (sym kept_before_drops)

    -- what it fires
    pub firings-watermark : firings q past w ≡ fired_by_watermark q (length past) (mark q past) new (kept q past)
    firings-watermark =
        firings_by_turn q law past w by_watermark watermark_kind (is_live_at q (mark q past)) dead_by_watermark
        ∙ ap (λ (ps : List (Place × List Datum)). fires q (length past) by_watermark (map (kept_in q past) (filter (λ x. is_live_at q (mark q past) x.0) ps))) same_panes

    -- the relation at it is the one that the kept panes stand for, after its firings and before its drops
    pub relation-watermark : relation_at q past w ≡ relation_of q (kept_at_watermark q (mark q past) new (kept q past))
    relation-watermark =
        sym (ap (relation_of q) kept_before_drops
        ∙ ap sorted_rows (
        filter_map-map (λ x. standing_row q x.0 x.1.stands) (kept_in q (w ∷ past)) (held q past)
        ∙ filter_map-each (λ x. standing_row q x.0 (stands_in q (w ∷ past) x.0 x.1)) (λ x. option_and_then (λ f. q.row f.place.key f.fired) (standing q (firings_so_far q (w ∷ past)) x.0 x.1)) (held q past)
        (all-any (λ x. standing_row q x.0 (stands_in q (w ∷ past) x.0 x.1) ≡ option_and_then (λ f. q.row f.place.key f.fired) (standing q (firings_so_far q (w ∷ past)) x.0 x.1)) (λ x. row-standing q (w ∷ past) x.0 x.1) (held q past))))

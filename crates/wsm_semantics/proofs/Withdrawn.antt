-- What an event withdraws was written of those firings that stood for held panes and are lost: where a
-- pane fires, and where it is joined with another that fired.
use Rattle.std.proofs.Common.{◌≡◌, ℕ, Bool, true, false, cond, not, List, [], ◌∷◌, ℤ, Option, Some, None, is_some, refl, sym, ap, ◌∙◌}
use Rattle.std.proofs.lemmas.Bool.{and_from}
use Rattle.std.specs.Prelude.{filter, filter_map, option_and_then}
use Rattle.std.specs.Option.{IfSome}
use Rattle.std.specs.List.{AllByRecursion, cons_option, list_any}
use Rattle.wsm_record.specs.declared.cell.Cell.{Cell}
use Rattle.wsm_record.specs.Event.{Event, Watermark}
use Rattle.wsm_windows.specs.declared.window.PaneKind.{PaneKind}
use Rattle.wsm_windows.specs.declared.place.Place.{Place}
use Rattle.wsm_semantics.specs.Query.{Query, Datum, Effect, Nothing, effect_of, mark, selection, selection_of}
use Rattle.wsm_semantics.specs.Panes.{places, is_live_at, contents, panes, held}
use Rattle.wsm_semantics.specs.Firings.{Firing, firings_so_far, kind_on}
use Rattle.wsm_semantics.specs.StandingFirings.{candidates, greatest_of, standing}
use Rattle.wsm_semantics.specs.Retractions.{panes_before_drops, standing_for, is_same, withdrawn, written_of}
use Rattle.wsm_semantics.specs.Kept.{Kept, kept, kept_in, stands_in, stands_by, written_by, kind_by_watermark, withdrawn_by_record, withdrawn_by_watermark}
use Rattle.wsm_semantics.proofs.Lists.{all-each, filter_map_none}
use Rattle.wsm_semantics.proofs.Tables.{among}
use Rattle.wsm_semantics.proofs.Effects.{selects_none}
use Rattle.wsm_semantics.proofs.Turns.{places-same, contents-same}
use Rattle.wsm_semantics.proofs.Assigned.{tied}
use Rattle.wsm_semantics.proofs.Each.{itself, all-any, all-passed, filter_map-each, filter_map-map}
use Rattle.wsm_semantics.proofs.ShownPanes.{IsPane, each_pane, kind_of, kind-watermark, unshown_of}
use Rattle.wsm_semantics.proofs.FiringsSoFar.{PlacesLaw, shows_itself}
use Rattle.wsm_semantics.proofs.EventTurns.{standing_key}
use Rattle.wsm_semantics.proofs.StandsStill.{any_of, stands_now}

-- ---- lists

pub chosen_none : {B : Type 0} (b : Bool) → cond {A = Option B} b None None ≡ None
chosen_none true = refl
chosen_none false = refl

then-chosen : {B C : Type 0} (w : B → Option C) (b : Bool) (o : Option B) → option_and_then w (cond b o None) ≡ cond b (option_and_then w o) None
then-chosen w true o = refl
then-chosen w false o = refl

module _ {A B : Type 0} where
  -- what is given by those that are lost
  lost_given : (t : B → Bool) (lost : A → Bool) (g : A → Option B) (xs : List A) → AllByRecursion (λ x. IfSome (g x) (λ y. t y ≡ not (lost x))) xs →
      filter (λ y. not (t y)) (filter_map g xs) ≡ filter_map (λ x. cond (lost x) (g x) None) xs
  lost_given t lost g [] h = refl
  lost_given t lost g (x ∷ xs) h =
      elim (g x) as (λ o. IfSome o (λ y. t y ≡ not (lost x)) → filter (λ y. not (t y)) (cons_option o (filter_map g xs)) ≡ cons_option (cond (lost x) o None) (filter_map (λ x. cond (lost x) (g x) None) xs)) [
        | None ↦ λ _. lost_given t lost g xs h.1 ∙ ap (λ (o : Option B). cons_option o (filter_map (λ x. cond (lost x) (g x) None) xs)) (sym (chosen_none (lost x)))
        | Some y ↦ λ is.
            ap (λ (b : Bool). cond (not b) (y ∷ filter (λ y. not (t y)) (filter_map g xs)) (filter (λ y. not (t y)) (filter_map g xs))) is
            ∙ elim (lost x) as (λ b. cond (not (not b)) (y ∷ filter (λ y. not (t y)) (filter_map g xs)) (filter (λ y. not (t y)) (filter_map g xs)) ≡ cons_option (cond b (Some y) None) (filter_map (λ x. cond (lost x) (g x) None) xs)) [
              | true ↦ ap (λ (ys : List B). y ∷ ys) (lost_given t lost g xs h.1)
              | false ↦ lost_given t lost g xs h.1
            ]
      ] h.0

module _ {A B C : Type 0} where
  pub filter_map-filter_map : (w : B → Option C) (g : A → Option B) (xs : List A) → filter_map w (filter_map g xs) ≡ filter_map (λ x. option_and_then w (g x)) xs
  filter_map-filter_map w g [] = refl
  filter_map-filter_map w g (x ∷ xs) =
      elim (g x) as (λ o. filter_map w (cons_option o (filter_map g xs)) ≡ cons_option (option_and_then w o) (filter_map (λ x. option_and_then w (g x)) xs)) [
        | None ↦ filter_map-filter_map w g xs
        | Some y ↦ ap (cons_option (w y)) (filter_map-filter_map w g xs)
      ]

-- ---- what was written

written-by : (q : Query) (p : Place) (cs : List Firing) (o : Option Firing) → IfSome o (λ f. p.key ≡ f.place.key) → (cs ≡ [] → o ≡ None) → option_and_then (written_of q) o ≡ written_by q p (stands_by cs o)
written-by q p [] o h none = ap (option_and_then (written_of q)) (none refl)
written-by q p (c ∷ cs) None h none = refl
written-by q p (c ∷ cs) (Some f) h none = λ i. option_and_then (λ columns. Some (record { end = f.place.end; start = f.place.start; key = sym h i }, columns)) (q.row (sym h i) f.fired)

-- what was written of the firing that stands for a pane
pub written-standing : (q : Query) (past : List Event) (p : Place) (all : List Datum) → option_and_then (written_of q) (standing q (firings_so_far q past) p all) ≡ written_by q p (stands_in q past p all)
written-standing q past p all =
    let cs : List Firing = candidates q p all (firings_so_far q past) in
    written-by q p cs (greatest_of cs) (standing_key q past p all) (λ none. ap greatest_of none)

-- ---- the held panes

-- a pane that is held
pub record IsHeld (q : Query) (past : List Event) (x : Place × List Datum) : Type 0 where
  pub all : x.1 ≡ contents q past x.0
  pub placed : among x.0 (places q past) ≡ true
  pub live : is_live_at q (mark q past) x.0 ≡ true

pub each_held : (q : Query) (past : List Event) → AllByRecursion (IsHeld q past) (held q past)
each_held q past =
    all-passed (IsPane q past) (IsHeld q past) (λ x. is_live_at q (mark q past) x.0)
    (λ x pane live. record { all = pane.0; placed = pane.1; live = live })
    (panes q past) (each_pane q past)

-- what was written of the firings that an event withdraws
abbrev pub written_withdrawn : Query → List Event → Event → List (Place × List Cell)
written_withdrawn q past e = filter_map (written_of q) (withdrawn q past e)

-- that is what a machine that keeps panes withdraws by a record
abbrev pub IsWithdrawn : Query → List Event → Event → Datum → Type 0
IsWithdrawn q past e d = written_withdrawn q past e ≡ withdrawn_by_record q (mark q past) d (kept q past)

pub itself_same : (f : Firing) → is_same f f ≡ true
itself_same f = and_from _ _ (itself f.turn) (tied f.place f.place refl)

-- what stands still, unless the pane fires
pub fires_or : (b c : Bool) → c ≡ true → cond b false c ≡ not b
fires_or true c h = refl
fires_or false c h = h

module _ (q : Query) (law : PlacesLaw q) (past : List Event) (e : Event) where
  -- the firings that stand after the event
  abbrev pub now : List Firing
  now = standing_for q (e ∷ past) (panes_before_drops q past e)

  abbrev stood : Place × List Datum → Option Firing
  stood x = standing q (firings_so_far q past) x.0 x.1

  -- which held panes lose the firing that stood for them
  abbrev pub Loses : (Place × List Datum → Bool) → Place × List Datum → Type 0
  Loses lost x = IfSome (standing q (firings_so_far q past) x.0 x.1) (λ f. list_any (is_same f) now ≡ not (lost x))

  -- where these are known, what was written of those firings is withdrawn
  pub withdrawn-lost : (lost : Place × List Datum → Bool) → AllByRecursion (Loses lost) (held q past) →
      written_withdrawn q past e ≡ filter_map (λ x. cond (lost x) (written_by q x.0 (stands_in q past x.0 x.1)) None) (held q past)
  withdrawn-lost lost each =
      ap (filter_map (written_of q)) (lost_given (λ f. list_any (is_same f) now) lost stood (held q past) each)
      ∙ filter_map-filter_map (written_of q) (λ x. cond (lost x) (stood x) None) (held q past)
      ∙ filter_map-each _ _ (held q past)
      (all-any _ (λ x. then-chosen (written_of q) (lost x) (stood x) ∙ ap (λ (o : Option (Place × List Cell)). cond (lost x) o None) (written-standing q past x.0 x.1)) (held q past))

  -- a pane that the event leaves as it was loses what stood for it where it fires
  pub loses_fired : (x : Place × List Datum) → IsHeld q past x → among x.0 (places q (e ∷ past)) ≡ true → contents q (e ∷ past) x.0 ≡ contents q past x.0 →
      Loses (λ x. is_some (kind_of q past e x.0 (contents q (e ∷ past) x.0))) x
  loses_fired x h there same = by_stood (stood x) refl where
    by_stood : (o : Option Firing) → stood x ≡ o → IfSome o (λ f. list_any (is_same f) now ≡ not (is_some (kind_of q past e x.0 (contents q (e ∷ past) x.0))))
    by_stood None is = tt
    by_stood (Some f) is =
        let before : standing q (firings_so_far q past) x.0 (contents q past x.0) ≡ Some f = ap (standing q (firings_so_far q past) x.0) (sym h.all) ∙ is in
        stands_now q law past e x.0 x.0 there h.live (shows_itself q.shape x.0) (λ d k. k) f before
        ∙ fires_or (is_some (kind_of q past e x.0 (contents q (e ∷ past) x.0))) (any_of (is_same f) (standing q (firings_so_far q past) x.0 (contents q (e ∷ past) x.0)))
        (ap (λ (ds : List Datum). any_of (is_same f) (standing q (firings_so_far q past) x.0 ds)) same ∙ ap (any_of (is_same f)) before ∙ itself_same f)

  -- an event that selects nothing withdraws what stood for the panes that fire
  module _ (none : selection_of q past e ≡ []) where
    still_there : (p : Place) → among p (places q past) ≡ true → among p (places q (e ∷ past)) ≡ true
    still_there p h = ap (among p) (places-same q past e none) ∙ h

    pub withdrawn-unselected : written_withdrawn q past e ≡ filter_map (λ x. cond (is_some (kind_of q past e x.0 (contents q (e ∷ past) x.0))) (written_by q x.0 (stands_in q past x.0 x.1)) None) (held q past)
    withdrawn-unselected =
        withdrawn-lost (λ x. is_some (kind_of q past e x.0 (contents q (e ∷ past) x.0)))
        (all-each (IsHeld q past) (Loses (λ x. is_some (kind_of q past e x.0 (contents q (e ∷ past) x.0)))) (held q past)
        (λ x h. loses_fired x h (still_there x.0 h.placed) (contents-same q past e none x.0)) (each_held q past))

-- an event that does nothing withdraws nothing
pub withdrawn-nothing : (q : Query) (law : PlacesLaw q) (past : List Event) (e : Event) → effect_of q past e ≡ Nothing → written_withdrawn q past e ≡ []
withdrawn-nothing q law past e none =
    withdrawn-unselected q law past e (ap selection none)
    ∙ ap (λ (x : Effect). filter_map (λ y. cond (is_some (kind_on q x y.0 (contents q (e ∷ past) y.0) (unshown_of q past y.0 (contents q (e ∷ past) y.0)))) (written_by q y.0 (stands_in q past y.0 y.1)) None) (held q past)) none
    ∙ filter_map_none {B = Place × List Cell} (λ x. None) (held q past) (λ x. refl)

-- a watermark withdraws what stood for the panes that fire
pub withdrawn-watermark : (q : Query) (law : PlacesLaw q) (past : List Event) (o : Option ℕ) (t : ℤ) →
    written_withdrawn q past (Watermark o t) ≡ withdrawn_by_watermark q (mark q past) (mark q (Watermark o t ∷ past)) (kept q past)
withdrawn-watermark q law past o t =
    withdrawn-unselected q law past (Watermark o t) (selects_none q past o t)
    ∙ filter_map-each _ (λ x. fired_written (kept_in q past x)) (held q past)
    (all-each (IsHeld q past) _ (held q past)
    (λ x h. ap (λ (ds : List Datum). cond (is_some (kind_of q past (Watermark o t) x.0 ds)) (written_by q x.0 (stands_in q past x.0 x.1)) None)
    (contents-same q past (Watermark o t) (selects_none q past o t) x.0 ∙ sym h.all)
    ∙ ap (λ (k : Option PaneKind). cond (is_some k) (written_by q x.0 (stands_in q past x.0 x.1)) None) (kind-watermark q past o t x.0 x.1))
    (each_held q past))
    ∙ sym (filter_map-map fired_written (kept_in q past) (held q past))
  where
    fired_written : Place × Kept → Option (Place × List Cell)
    fired_written e = cond (is_some (kind_by_watermark q (mark q past) (mark q (Watermark o t ∷ past)) e.0 e.1)) (written_by q e.0 e.1.stands) None

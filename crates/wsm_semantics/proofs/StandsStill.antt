-- Which firings that stood for a pane stand after an event: none where the pane that takes it in fires,
-- or where another firing or none stands for that one.
use Rattle.std.proofs.Common.{◌≡◌, suc, Bool, true, false, ◌&&◌, ◌||◌, cond, List, [], ◌∷◌, length, Option, Some, None, is_some, refl, sym, ap, subst, ◌∙◌}
use Rattle.std.proofs.lemmas.Bool.{true≢false, and_parts, and_from, eqb-true}
use Rattle.std.proofs.Math.Bool.{and-true, and-false}
use Rattle.std.specs.Prelude.{filter_map, nat_eq}
use Rattle.std.specs.Option.{IfSome}
use Rattle.std.specs.List.{cons_option, list_any}
use Rattle.std.specs.Ordering.{eq_by_cmp}
use Rattle.wsm_record.specs.Event.{Event}
use Rattle.wsm_windows.specs.declared.window.PaneKind.{PaneKind}
use Rattle.wsm_windows.specs.declared.place.Place.{Place}
use Rattle.wsm_windows.specs.Places.{place_cmp}
use Rattle.wsm_windows.proofs.Places.{tie_is}
use Rattle.wsm_semantics.specs.Query.{Query, Datum, mark, selected, selection_of}
use Rattle.wsm_semantics.specs.Panes.{places, is_there, is_live_at, contents, panes}
use Rattle.wsm_semantics.specs.Firings.{Firing, shows, firings_so_far}
use Rattle.wsm_semantics.specs.StandingFirings.{is_within, candidates, standing}
use Rattle.wsm_semantics.specs.Retractions.{panes_before_drops, standing_for, is_same}
use Rattle.wsm_semantics.proofs.Lists.{filter-all, all-each}
use Rattle.wsm_semantics.proofs.Tables.{among}
use Rattle.wsm_semantics.proofs.Assigned.{tied}
use Rattle.wsm_semantics.proofs.Each.{all-any, all-passed, list_any-and, list_any-each, list_any-filter, list_any-more}
use Rattle.wsm_semantics.proofs.MergedRecords.{unlike}
use Rattle.wsm_semantics.proofs.Within.{Within, within, wider, part_stays}
use Rattle.wsm_semantics.proofs.ShownPanes.{IsPane, each_pane, found, kind_of}
use Rattle.wsm_semantics.proofs.FiringsSoFar.{PlacesLaw, IsFiring, first_of, each_firing, one_home, shows_back, shows_on}
use Rattle.wsm_semantics.proofs.StandsTurn.{firing_as, stands-now, stands-still}
use Rattle.wsm_semantics.proofs.EventTurns.{greatest_is}

-- ---- the firing that stands

-- a firing that may stand for a place with its contents
pub record CanStand (q : Query) (past : List Event) (p : Place) (all : List Datum) (f : Firing) : Type 0 where
  pub fired : IsFiring q past f
  pub shown : shows q.shape p f.place ≡ true
  pub inside : Within f.contents all

pub if_some : {A : Type 0} (P : A → Type 0) (o : Option A) (x : A) → IfSome o P → o ≡ Some x → P x
if_some P o x h is = subst (λ (o : Option _). IfSome o P) is h

-- what an option gives passes
abbrev pub any_of : {A : Type 0} → (A → Bool) → Option A → Bool
any_of t None = false
any_of t (Some x) = t x

list_any-filter_map : {A B : Type 0} (t : B → Bool) (g : A → Option B) (xs : List A) → list_any t (filter_map g xs) ≡ list_any (λ x. any_of t (g x)) xs
list_any-filter_map t g [] = refl
list_any-filter_map t g (x ∷ xs) =
    elim (g x) as (λ o. list_any t (cons_option o (filter_map g xs)) ≡ (any_of t o || list_any (λ x. any_of t (g x)) xs)) [
      | None ↦ list_any-filter_map t g xs
      | Some y ↦ ap (λ (b : Bool). t y || b) (list_any-filter_map t g xs)
    ]

module _ (q : Query) (law : PlacesLaw q) (past : List Event) where
  pub can_stand : (p : Place) (all : List Datum) → IfSome (standing q (firings_so_far q past) p all) (CanStand q past p all)
  can_stand p all =
      greatest_is (CanStand q past p all) (candidates q p all (firings_so_far q past))
      (all-passed (IsFiring q past) (CanStand q past p all) (λ f. shows q.shape p f.place && is_within f.contents all)
      (λ f of_f may. let parts = and_parts (shows q.shape p f.place) (is_within f.contents all) may in record { fired = of_f; shown = parts.0; inside = within f.contents all parts.1 })
      (firings_so_far q past) (each_firing q law past))

  -- firings of one turn and place have the same contents
  pub same_contents : (f g : Firing) → IsFiring q past f → IsFiring q past g → is_same f g ≡ true → (f.place ≡ g.place) × (f.contents ≡ g.contents)
  same_contents f g of_f of_g h =
      let parts = and_parts (nat_eq f.turn g.turn) (eq_by_cmp place_cmp f.place g.place) h in
      let turn : f.turn ≡ g.turn = eqb-true f.turn g.turn parts.0 in
      let place : f.place ≡ g.place = tie_is f.place g.place parts.1 in
      (place, of_f.whole ∙ (λ i. contents q (first_of (suc (turn i)) past) (place i)) ∙ sym of_g.whole)

  -- ---- after an event

  module _ (e : Event) where
    abbrev after : Place → List Datum → Option Firing
    after p all = standing q (firings_so_far q (e ∷ past)) p all

    -- a pane r of before, which a pane p of after takes in, and the firing that stood for it
    module _ (r p : Place) (placed : among p (places q (e ∷ past)) ≡ true) (live : is_live_at q (mark q past) p ≡ true) (shown : shows q.shape p r ≡ true)
        (inside : (d : Datum) → is_there q r d ≡ true → is_there q p d ≡ true) (f : Firing) (stood : standing q (firings_so_far q past) r (contents q past r) ≡ Some f) where
      of_f : CanStand q past r (contents q past r) f
      of_f = if_some (CanStand q past r (contents q past r)) (standing q (firings_so_far q past) r (contents q past r)) f (can_stand r (contents q past r)) stood

      abbrev all : List Datum
      all = contents q (e ∷ past) p

      -- it stands for p where this doesn't fire and it could stand for it before
      abbrev pub still : Bool
      still = cond (is_some (kind_of q past e p all)) false (any_of (is_same f) (standing q (firings_so_far q past) p all))

      -- a firing of this turn is another
      is_new : (s : Place) (there : among s (places q (e ∷ past)) ≡ true) (k : PaneKind) → is_same f (firing_as q law past e s there k) ≡ false
      is_new s there k = ap (λ (b : Bool). b && eq_by_cmp place_cmp f.place s) (unlike f.turn (length past) of_f.fired.came)

      of_its_own : any_of (is_same f) (after p all) ≡ still
      of_its_own =
          elim (kind_of q past e p all) as (λ o. kind_of q past e p all ≡ o → any_of (is_same f) (after p all) ≡ cond (is_some o) false (any_of (is_same f) (standing q (firings_so_far q past) p all))) [
            | None ↦ λ none. ap (any_of (is_same f)) (stands-still q law past e p placed none)
            | Some k ↦ λ is. ap (any_of (is_same f)) (stands-now q law past e p placed k is) ∙ is_new p placed k
          ] refl

      -- a firing of before that is the same stands for p
      same_home : (s : Place) → among s (places q (e ∷ past)) ≡ true → (g : Firing) → CanStand q past s (contents q (e ∷ past) s) g → is_same f g ≡ true → p ≡ s
      same_home s there g of_g same =
          let alike = same_contents f g of_f.fired of_g.fired same in
          one_home q law (e ∷ past) p s placed there
          (shows_on q.shape p r s shown (shows_on q.shape r f.place s of_f.shown (shows_back q.shape s f.place (ap (shows q.shape s) alike.0 ∙ of_g.shown))))
          f.contents of_f.fired.filled (part_stays q past e f.contents of_f.fired.part)
          (λ d k. wider (is_there q r) (is_there q p) inside (selection_of q past e) (selected q past) d (of_f.inside d k))
          (λ d k. of_g.inside d (ap (λ (xs : List Datum). list_any (λ x. nat_eq x.turn d.turn) xs) (sym alike.1) ∙ k))

      elsewhere : (s : Place) → among s (places q (e ∷ past)) ≡ true → eq_by_cmp place_cmp p s ≡ false → any_of (is_same f) (after s (contents q (e ∷ past) s)) ≡ false
      elsewhere s there other =
          let c : List Datum = contents q (e ∷ past) s in
          elim (kind_of q past e s c) as (λ o. kind_of q past e s c ≡ o → any_of (is_same f) (after s c) ≡ false) [
            | Some k ↦ λ is. ap (any_of (is_same f)) (stands-now q law past e s there k is) ∙ is_new s there k
            | None ↦ λ none. ap (any_of (is_same f)) (stands-still q law past e s there none) ∙ by_firing (standing q (firings_so_far q past) s c) (can_stand s c)
          ] refl
        where
          by_firing : (o : Option Firing) → IfSome o (CanStand q past s (contents q (e ∷ past) s)) → any_of (is_same f) o ≡ false
          by_firing None h = refl
          by_firing (Some g) h =
              elim (is_same f g) as (λ b. is_same f g ≡ b → b ≡ false) [
                | true ↦ λ same. absurd (true≢false (sym (tied p s (same_home s there g h same)) ∙ other))
                | false ↦ λ _. refl
              ] refl

      one_of : (y : Place × List Datum) → IsPane q (e ∷ past) y → any_of (is_same f) (after y.0 y.1) ≡ (still && eq_by_cmp place_cmp p y.0)
      one_of y is =
          ap (λ (ds : List Datum). any_of (is_same f) (after y.0 ds)) is.0
          ∙ elim (eq_by_cmp place_cmp p y.0) as (λ b. eq_by_cmp place_cmp p y.0 ≡ b → any_of (is_same f) (after y.0 (contents q (e ∷ past) y.0)) ≡ (still && b)) [
            | true ↦ λ t. sym (ap (λ (s : Place). any_of (is_same f) (after s (contents q (e ∷ past) s))) (tie_is p y.0 t)) ∙ of_its_own ∙ sym (and-true still)
            | false ↦ λ t. elsewhere y.0 is.1 t ∙ sym (and-false still)
          ] refl

      found_live : list_any (λ y. eq_by_cmp place_cmp p y.0) (panes_before_drops q past e) ≡ true
      found_live =
          list_any-filter (λ y. eq_by_cmp place_cmp p y.0) (λ y. is_live_at q (mark q past) y.0) (panes q (e ∷ past))
          ∙ list_any-more (λ y. Unit {0}) (λ y. eq_by_cmp place_cmp p y.0) (λ y. is_live_at q (mark q past) y.0 && eq_by_cmp place_cmp p y.0)
          (λ y _ t. and_from _ _ (ap (is_live_at q (mark q past)) (sym (tie_is p y.0 t)) ∙ live) t)
          (panes q (e ∷ past)) (all-any (λ y. Unit {0}) (λ y. tt) (panes q (e ∷ past))) (found q (e ∷ past) p placed)

      -- whether it is among those that stand after the event
      pub stands_now : list_any (is_same f) (standing_for q (e ∷ past) (panes_before_drops q past e)) ≡ still
      stands_now =
          list_any-filter_map (is_same f) (λ y. after y.0 y.1) (panes_before_drops q past e)
          ∙ list_any-each (λ y. any_of (is_same f) (after y.0 y.1)) (λ y. still && eq_by_cmp place_cmp p y.0) (panes_before_drops q past e)
          (all-each (IsPane q (e ∷ past)) (λ y. any_of (is_same f) (after y.0 y.1) ≡ (still && eq_by_cmp place_cmp p y.0)) (panes_before_drops q past e) one_of
          (filter-all (IsPane q (e ∷ past)) (λ y. is_live_at q (mark q past) y.0) (panes q (e ∷ past)) (each_pane q (e ∷ past))))
          ∙ list_any-and (λ y. eq_by_cmp place_cmp p y.0) still (panes_before_drops q past e)
          ∙ ap (λ (b : Bool). still && b) found_live
          ∙ and-true still

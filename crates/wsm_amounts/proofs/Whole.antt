-- A place that has shown all of its records has a firing that stands for it and has them all: the last that it fired, since no record
-- came to it that it didn't show.
use Rattle.std.proofs.Common.{◌≡◌, ℕ, Bool, true, false, cond, not, List, [], ◌∷◌, ◌++◌, length, ℤ, ◌+ℤ◌, Option, Some, None, refl, sym, ap, subst, ◌∙◌, arith}
use Rattle.std.proofs.lemmas.Bool.{true≢false}
use Rattle.std.specs.Prelude.{filter}
use Rattle.std.specs.List.{AllByRecursion}
use Rattle.wsm_record.specs.declared.event.Value.{Value}
use Rattle.wsm_record.specs.Event.{Event, Record, Watermark}
use Rattle.wsm_windows.specs.declared.window.PaneKind.{PaneKind}
use Rattle.wsm_windows.specs.Windows.{IsShape}
use Rattle.wsm_windows.specs.declared.place.Place.{Place}
use Rattle.wsm_semantics.specs.Query.{Query, Datum, SessionsByEvent, datum, mark, verdict_on, selection, selected, selection_of}
use Rattle.wsm_semantics.specs.Panes.{is_there, contents, places, is_live_at}
use Rattle.wsm_semantics.specs.Firings.{is_shown, firings_so_far}
use Rattle.wsm_semantics.specs.StandingFirings.{standing}
use Rattle.wsm_semantics.proofs.Decided.{not_less}
use Rattle.wsm_semantics.proofs.Each.{none_of}
use Rattle.wsm_semantics.proofs.Lists.{all-each}
use Rattle.wsm_semantics.proofs.Tables.{among}
use Rattle.wsm_semantics.proofs.Effects.{by_effect, selects_one, selects_none}
use Rattle.wsm_semantics.proofs.Turns.{places-same, contents-same}
use Rattle.wsm_semantics.proofs.ShownPanes.{kind_of, not_shown_yet, unshown_of, unshown_by, unshown-after}
use Rattle.wsm_semantics.proofs.FiringsSoFar.{PlacesLaw, shows_own}
use Rattle.wsm_semantics.proofs.StandsTurn.{firing_as, stands-now, stands-still}
use Rattle.wsm_semantics.proofs.KeptLaw as kept_law
use Rattle.wsm_semantics.proofs.DroppedShown.{AllShown, dropped_shown}
use Rattle.wsm_semantics.proofs.ShownOnce.{new_have}
use Rattle.wsm_amounts.specs.Whole.{IsPlaced, StandsWhole, StandWhole}

pub passed_all : (t : Datum → Bool) (xs : List Datum) → filter (λ d. not (t d)) xs ≡ [] → AllByRecursion (λ d. t d ≡ true) xs
passed_all t [] h = tt
passed_all t (x ∷ xs) h =
    elim (t x) as (λ b. t x ≡ b → cond (not b) (x ∷ filter (λ d. not (t d)) xs) (filter (λ d. not (t d)) xs) ≡ [] → AllByRecursion (λ d. t d ≡ true) (x ∷ xs)) [
      | true ↦ λ e k. (e, passed_all t xs k)
      | false ↦ λ e k. absurd (cc)
    ] refl h

none_left : (t : Datum → Bool) (xs : List Datum) → AllByRecursion (λ d. t d ≡ true) xs → filter (λ d. not (t d)) xs ≡ []
none_left t xs h = none_of (λ d. not (t d)) xs (all-each (λ d. t d ≡ true) (λ d. not (t d) ≡ false) xs (λ d k. ap not k) h)

module _ (q : Query) (ok : IsShape q.shape) (timely : SessionsByEvent q) where
  abbrev law : PlacesLaw q
  law = kept_law.places q ok timely

  -- a place that an event leaves as it was
  abbrev pub IsLeft : List Event → Event → Place → Type 0
  IsLeft past e p = (among p (places q past) ≡ true) × (contents q (e ∷ past) p ≡ contents q past p)

  -- a place all of whose records were shown before an event
  abbrev pub WasShown : List Event → Event → Place → Type 0
  WasShown past e p = AllByRecursion (λ d. is_shown q past p d ≡ true) (contents q (e ∷ past) p)

  -- is left by it, since its record wasn't
  pub left_by : (past : List Event) (p : Place) (e : Event) → among p (places q (e ∷ past)) ≡ true → WasShown past e p → IsLeft past e p
  left_by past p = by_effect q past (λ e x. among p (places q (e ∷ past)) ≡ true → WasShown past e p → IsLeft past e p) recorded (λ o t _. same (Watermark o t) (selects_none q past o t)) (λ e none. same e (ap selection none)) where
    same : (e : Event) → selection_of q past e ≡ [] → among p (places q (e ∷ past)) ≡ true → WasShown past e p → IsLeft past e p
    same e none placed _ = (ap (among p) (sym (places-same q past e none)) ∙ placed, contents-same q past e none p)

    recorded : (k : ℕ) (t : ℤ) (vs : List Value) → verdict_on q past (Record (Some k) t vs) ≡ None → q.selects k vs ≡ true →
        among p (places q (Record (Some k) t vs ∷ past)) ≡ true → WasShown past (Record (Some k) t vs) p → IsLeft past (Record (Some k) t vs) p
    recorded k t vs taken selects placed shown =
        let e : Event = Record (Some k) t vs in
        let d : Datum = datum (length past) (mark q past) k t vs in
        let all : contents q (e ∷ past) p ≡ cond (is_there q p d) (d ∷ contents q past p) (contents q past p) =
        ap (λ (ds : List Datum). filter (is_there q p) (ds ++ selected q past)) (selects_one q past k t vs taken selects) in
        let away : is_there q p d ≡ false =
        elim (is_there q p d) as (λ b. is_there q p d ≡ b → b ≡ false) [
          | true ↦ λ there.
              absurd (true≢false
              (sym (subst (AllByRecursion (λ x. is_shown q past p x ≡ true)) (all ∙ ap (λ (b : Bool). cond b (d ∷ contents q past p) (contents q past p)) there) shown).0
              ∙ not_shown_yet q past p d (omega arith)))
          | false ↦ λ _. refl
        ] refl in
        (new_have q ok timely q.shape refl past k t vs taken selects p placed away, all ∙ ap (λ (b : Bool). cond b (d ∷ contents q past p) (contents q past p)) away)

  -- those of a place that doesn't fire were shown before
  pub shown_before_quiet : (past : List Event) (e : Event) (p : Place) → IsPlaced q (e ∷ past) p → kind_of q past e p (contents q (e ∷ past) p) ≡ None → AllShown q (e ∷ past) p → WasShown past e p
  shown_before_quiet past e p placed none shown =
      let all : List Datum = contents q (e ∷ past) p in
      passed_all (is_shown q past p) all
      (sym (ap (λ (o : Option PaneKind). unshown_by o (unshown_of q past p all)) none)
      ∙ sym (unshown-after q past e (shows_own q law (e ∷ past)) p placed)
      ∙ none_left (is_shown q (e ∷ past) p) all shown)

  -- where all of its records were shown, one stands that has them
  pub stands_whole : (past : List Event) (p : Place) → IsPlaced q past p → AllShown q past p → StandsWhole q past p
  stands_whole [] p placed shown = absurd (true≢false (sym placed))
  stands_whole (e ∷ past) p placed shown = by_kind (stands_whole past p) (kind_of q past e p (contents q (e ∷ past) p)) refl where
    by_kind : (IsPlaced q past p → AllShown q past p → StandsWhole q past p) → (o : Option PaneKind) → kind_of q past e p (contents q (e ∷ past) p) ≡ o → StandsWhole q (e ∷ past) p
    by_kind stood (Some k) is = record { firing = firing_as q law past e p placed k; stands = stands-now q law past e p placed k is; whole = refl }
    by_kind stood None none =
        let before : WasShown past e p = shown_before_quiet past e p placed none shown in
        let left : IsLeft past e p = left_by past p e placed before in
        let old : StandsWhole q past p = stood left.0 (subst (AllByRecursion (λ d. is_shown q past p d ≡ true)) left.1 before) in
        record { firing = old.firing; stands = stands-still q law past e p placed none ∙ ap (standing q (firings_so_far q past) p) left.1 ∙ old.stands; whole = old.whole ∙ sym left.1 }

  -- so has each that was dropped
  pub stands_when_dead : (past : List Event) (p : Place) → IsPlaced q past p → is_live_at q (mark q past) p ≡ false → StandsWhole q past p
  stands_when_dead past p placed dead = stands_whole past p placed (dropped_shown q timely (shows_own q law) (new_have q ok timely q.shape refl) past p placed dead)

  pub stand_whole : StandWhole q
  stand_whole past p placed dropped = stands_when_dead past p placed (not_less (mark q past) (p.end +ℤ q.clock.lateness) dropped)

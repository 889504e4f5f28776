-- A part of a history lacks the records of other keys: so it holds and fires for its keys what the whole does.
use Rattle.std.proofs.Common.{◌≡◌, ℕ, Bool, true, false, cond, List, [], ◌∷◌, ◌++◌, map, length, Some, refl, sym, ap, subst, ◌∙◌}
use Rattle.std.proofs.lemmas.Bool.{true≢false}
use Rattle.std.specs.Prelude.{filter}
use Rattle.std.specs.List.{AllByRecursion}
use Rattle.wsm_record.specs.Event.{Event, Record, Watermark}
use Rattle.wsm_admission.specs.Clock.{marks_of}
use Rattle.wsm_windows.specs.declared.place.Place.{Place}
use Rattle.wsm_semantics.specs.Query.{Query, mark, selected, verdict_on}
use Rattle.wsm_semantics.specs.Panes.{held}
use Rattle.wsm_semantics.specs.Firings.{Firing, firings, firings_so_far, shows}
use Rattle.wsm_semantics.specs.ByKey.{Keys, is_of, of_keys, where_of, HasRoom, pane_at, firing_at, is_at, turn_of}
use Rattle.wsm_semantics.specs.FromWatermark.{Step, Stays, Goes, whole, rest}
use Rattle.wsm_semantics.proofs.Lists.{length_each}
use Rattle.wsm_semantics.proofs.Each.{filter-append, passed}
use Rattle.wsm_semantics.proofs.FiringsSoFar.{shows_key}
use Rattle.wsm_semantics.proofs.Moves.{own}
use Rattle.wsm_semantics.proofs.Counted.{AllAt, Owns, all_at, finds_own, fires_none, live_at, owns_shown}
use Rattle.wsm_semantics.proofs.ImageFirings.{Image}
use Rattle.wsm_semantics.proofs.ImageStanding.{Told, Turn, held_alike}
use Rattle.wsm_semantics.proofs.StepTurns.{rest_is, turn, whole_is}
use Rattle.wsm_semantics.proofs.StepImage.{Lacks, image_at, told_at, turn_at}
use Rattle.wsm_semantics.proofs.KeyParts.{marks_of_part, verdict_of_part}
use Rattle.wsm_semantics.proofs.KeyTurns.{AreOf, are_of, is_said, rest_of, selects_others, steps_of, turn_is}
use Rattle.wsm_semantics.proofs.KeyPanes.{among_alone, panes_own, said_there}

-- a firing of the keys
abbrev pub is_fired_at : Keys → Firing → Bool
is_fired_at keys g = is_at keys g.place

module _ (q : Query) (keys : Keys) where
  -- what shows records of a key is of the key
  shows_own : (p r : Place) → shows q.shape p r ≡ true → is_at keys r ≡ is_at keys p
  shows_own p r shown = ap (λ (k : ℕ). keys (Some k)) (sym (shows_key q.shape p r shown))

  pub owns_key : (past : List Event) → Owns q (is_at keys) past
  owns_key = owns_shown q (is_at keys) shows_own

  -- an event of another part fires none of them
  pub others_none : (past : List Event) (e : Event) → is_of keys e ≡ false → filter (is_fired_at keys) (firings q past e) ≡ []
  others_none past (Watermark o t) other = absurd (true≢false other)
  others_none past (Record k t vs) other = fires_none q (is_at keys) (is_said keys) (said_there keys q) past k t vs (selects_others q keys past (Record k t vs) other)

  abbrev pub MayPart : List Step → Type 0
  MayPart steps = AreOf keys steps × HasRoom q (whole steps [])

  pub lacks : Lacks q q.clock.start q.clock.records (is_at keys) (is_said keys) MayPart [] [] 0
  lacks = record {
    unturned = λ f d. refl;
    stand = said_there keys q;
    finds = finds_own q (is_at keys) (λ p r here shown. shows_own p r shown ∙ here);
    finds_anew = finds_own q (is_at keys) (λ p r here shown. shows_own p r shown ∙ here);
    turns = refl;
    stays = λ e steps may. (may.0.1, may.1.1);
    goes = λ e steps may. (may.0.1, may.1.1);
    marks = λ steps may. ap (marks_of q.clock q.declared) (rest_of keys steps may.0) ∙ marks_of_part q.clock q.declared keys (whole steps []);
    verdict = λ e steps may. ap (λ (es : List Event). verdict_on q es e) (rest_of keys steps may.0.1) ∙ verdict_of_part q keys (whole steps []) e may.1;
    enters = λ e steps may. selects_others q keys (whole steps []) e may.0.0;
    silent = λ e steps may. others_none (whole steps []) e may.0.0;
    covered = λ steps may. (
      λ p here. among_alone keys q.shape q.clock.lateness p here (selected q (whole steps [])),
      λ p here. among_alone keys q.shape q.clock.lateness p here (selected q (rest steps [])),
    );
    none_selected = (refl, refl);
    none_fired = (refl, refl);
  }

  -- ---- the whole and the part

  abbrev pub image : List Event → Image q (own q)
  image past = image_at q q.clock.start q.clock.records (is_at keys) (is_said keys) MayPart [] [] 0 lacks (steps_of keys past)

  may : (past : List Event) → HasRoom q past → MayPart (steps_of keys past)
  may past room = (are_of keys past, subst (HasRoom q) (sym (whole_is (is_of keys) past)) room)

  told : (past : List Event) → HasRoom q past → Told q (own q) (image past) past (of_keys keys past)
  told past room =
      subst (λ (es : List Event). Told q (own q) (image past) es (of_keys keys past)) (whole_is (is_of keys) past)
      (subst (Told q (own q) (image past) (whole (steps_of keys past) [])) (rest_is (is_of keys) past)
      (told_at q q.clock.start q.clock.records (is_at keys) (is_said keys) MayPart [] [] 0 lacks (steps_of keys past) (may past room)))

  pub may_stay : (past : List Event) (e : Event) → HasRoom q (e ∷ past) → is_of keys e ≡ true → MayPart (Stays e ∷ steps_of keys past)
  may_stay past e room here = ((here, are_of keys past), subst (λ (es : List Event). HasRoom q (e ∷ es)) (sym (whole_is (is_of keys) past)) room)

  pub may_go : (past : List Event) (e : Event) → HasRoom q (e ∷ past) → is_of keys e ≡ false → MayPart (Goes e ∷ steps_of keys past)
  may_go past e room other = ((other, are_of keys past), subst (λ (es : List Event). HasRoom q (e ∷ es)) (sym (whole_is (is_of keys) past)) room)

  -- where an event is of the part
  pub turn_of_part : (past : List Event) (e : Event) → HasRoom q (e ∷ past) → is_of keys e ≡ true → Turn q (own q) (image past) past (of_keys keys past) e e
  turn_of_part past e room here =
      subst (λ (es : List Event). Turn q (own q) (image past) es (of_keys keys past) e e) (whole_is (is_of keys) past)
      (subst (λ (es : List Event). Turn q (own q) (image past) (whole (steps_of keys past) []) es e e) (rest_is (is_of keys) past)
      (turn_at q q.clock.start q.clock.records (is_at keys) (is_said keys) MayPart [] [] 0 lacks e (steps_of keys past) (may_stay past e room here)))

  -- all of the part is of the keys
  pub all_of_part : (past : List Event) (e : Event) → is_of keys e ≡ true → AllAt q (is_at keys) (of_keys keys past) e
  all_of_part past e here = all_at q (is_at keys) (of_keys keys past) e (panes_own keys q (of_keys keys past) (passed (is_of keys) past)) (panes_own keys q (e ∷ of_keys keys past) (here, passed (is_of keys) past))

  all_fired : (past : List Event) → AllByRecursion (λ e. is_of keys e ≡ true) past → filter (is_fired_at keys) (firings_so_far q past) ≡ firings_so_far q past
  all_fired [] all = refl
  all_fired (e ∷ past) all =
      filter-append (is_fired_at keys) (firings_so_far q past) (firings q past e)
      ∙ (λ i. all_fired past all.1 i ++ (all_at q (is_at keys) past e (panes_own keys q past all.1) (panes_own keys q (e ∷ past) all)).firings i)

  -- ---- what is held and fires

  -- at the turns of the part
  abbrev now : List Event → ℕ → ℕ
  now past = turn [] [] 0 (steps_of keys past)

  pub held_of_part : (past : List Event) → HasRoom q past → filter (λ x. is_at keys x.0) (held q past) ≡ map (pane_at (turn_of keys past)) (held q (of_keys keys past))
  held_of_part past room =
      held_alike q (own q) (image past) past (of_keys keys past) (told past room)
      ∙ ap (map (pane_at (now past))) (live_at q (is_at keys) (of_keys keys past) (panes_own keys q (of_keys keys past) (passed (is_of keys) past)) (mark q (of_keys keys past)))
      ∙ (λ i. map (pane_at (λ n. turn_is keys past n i)) (held q (of_keys keys past)))

  pub firings_of_part : (past : List Event) (e : Event) → HasRoom q (e ∷ past) → filter (is_fired_at keys) (firings q past e) ≡ where_of keys e (map (firing_at (turn_of keys past)) (firings q (of_keys keys past) e))
  firings_of_part past e room =
      let part : List Event = of_keys keys past in
      elim (is_of keys e) as (λ b. is_of keys e ≡ b → filter (is_fired_at keys) (firings q past e) ≡ cond b (map (firing_at (turn_of keys past)) (firings q part e)) []) [
        | true ↦ λ here.
            (turn_of_part past e room here).fired
            ∙ ap (map (firing_at (now past))) (all_of_part past e here).firings
            ∙ (λ i. map (firing_at (λ n. turn_is keys past n i)) (firings q part e))
        | false ↦ λ other. others_none past e other
      ] refl

  pub fired_count : (past : List Event) → HasRoom q past → length (firings_so_far q (of_keys keys past)) ≡ length (filter (is_fired_at keys) (firings_so_far q past))
  fired_count past room =
      let part : List Firing = firings_so_far q (of_keys keys past) in
      sym (ap (λ (fs : List Firing). length fs) ((told past room).fired ∙ ap (map (firing_at (now past))) (all_fired (of_keys keys past) (passed (is_of keys) past))) ∙ length_each (firing_at (now past)) part)

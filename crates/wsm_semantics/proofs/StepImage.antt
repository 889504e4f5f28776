-- A history and one that lacks some of its events, which may begin elsewhere: where what both have does the same in both, and what
-- the second lacks enters none of some panes, the second is for these the image of the first.
use Rattle.std.proofs.Common.{◌≡◌, ℕ, ◌+◌, List, [], ◌∷◌, ◌++◌, map, length, ℤ, Bool, sym, ap, ◌∙◌}
use Rattle.std.proofs.lemmas.List.{map-append}
use Rattle.std.specs.Prelude.{filter}
use Rattle.wsm_record.specs.Event.{Event}
use Rattle.wsm_admission.specs.Clock.{marks_of, least}
use Rattle.wsm_windows.specs.declared.place.Place.{Place}
use Rattle.wsm_semantics.specs.Query.{Datum, Query, Effect, effect_of, selected, selection, selection_of, verdict_on}
use Rattle.wsm_semantics.specs.Panes.{panes}
use Rattle.wsm_semantics.specs.Firings.{firings, firings_so_far}
use Rattle.wsm_semantics.specs.ByKey.{at_turn}
use Rattle.wsm_semantics.specs.FromWatermark.{begun_at, Step, Stays, Goes, whole, rest}
use Rattle.wsm_semantics.proofs.Lists.{filter_same}
use Rattle.wsm_semantics.proofs.Each.{filter-append, filter-map}
use Rattle.wsm_semantics.proofs.Effects.{effect_with, selection-with}
use Rattle.wsm_semantics.proofs.Moves.{IsRising, Own, by_turns, firing_moved, own}
use Rattle.wsm_semantics.proofs.Counted.{Covers, Finds, StandNew, fired_at}
use Rattle.wsm_semantics.proofs.ImageFirings.{Both, Image, PanesAlike, fired_goes, panes_image}
use Rattle.wsm_semantics.proofs.ImageStanding.{Told, Turn, turn_alike}
use Rattle.wsm_semantics.proofs.LaterMarks.{effect_alike}
use Rattle.wsm_semantics.proofs.StepTurns.{AreTurns, turn, rising-turn, turn_now, are_turns}

-- what the second is the image of the first by, wherever steps may be so: the panes that count, and the records that these hang on
pub record Lacks (q : Query) (start records : ℤ) (late : Place → Bool) (new : Datum → Bool) (May : List Step → Type 0) (older other : List Event) (longer : ℕ) : Type 0 where
  pub unturned : (f : ℕ → ℕ) (d : Datum) → new (at_turn f d) ≡ new d
  pub stand : StandNew q late new
  pub finds : Finds q late
  pub finds_anew : Finds (begun_at start records q) late
  pub turns : length older ≡ length other + longer
  pub stays : (e : Event) (steps : List Step) → May (Stays e ∷ steps) → May steps
  pub goes : (e : Event) (steps : List Step) → May (Goes e ∷ steps) → May steps
  pub marks : (steps : List Step) → May steps → marks_of (begun_at start records q).clock q.declared (rest steps other) ≡ marks_of q.clock q.declared (whole steps older)
  pub verdict : (e : Event) (steps : List Step) → May (Stays e ∷ steps) → verdict_on (begun_at start records q) (rest steps other) e ≡ verdict_on q (whole steps older) e
  pub enters : (e : Event) (steps : List Step) → May (Goes e ∷ steps) → filter new (selection_of q (whole steps older) e) ≡ []
  pub silent : (e : Event) (steps : List Step) → May (Goes e ∷ steps) → filter (fired_at late) (firings q (whole steps older) e) ≡ []
  pub covered : (steps : List Step) → May steps → Covers q late new (selected q (whole steps older)) × Covers q late new (selected (begun_at start records q) (rest steps other))
  pub none_selected : (filter new (selected q older) ≡ []) × (filter new (selected (begun_at start records q) other) ≡ [])
  pub none_fired : (filter (fired_at late) (firings_so_far q older) ≡ []) × (filter (fired_at late) (firings_so_far (begun_at start records q) other) ≡ [])

abbrev pub begun : Query → ℤ → ℤ → Own
begun q start records = record (own q) { start = start; records = records }

module _ (q : Query) (start records : ℤ) (late : Place → Bool) (new : Datum → Bool) (May : List Step → Type 0) (older other : List Event) (longer : ℕ) (lacks : Lacks q start records late new May older other longer) where
  abbrev o : Own
  o = begun q start records

  abbrev anew : Query
  anew = begun_at start records q

  module _ (f : ℕ → ℕ) (rises : IsRising f) where
    abbrev pub image : Image q o
    image = record { moves = by_turns f rises; here = late; there = late; finds = lacks.finds; finds_there = lacks.finds_anew }

    abbrev Turns : List Step → Type 0
    Turns steps = AreTurns older other longer f steps

    effect_same : (e : Event) (steps : List Step) → May (Stays e ∷ steps) → Turns (Stays e ∷ steps) → effect_of q (whole steps older) e ≡ effect_with (at_turn f) (effect_of anew (rest steps other) e)
    effect_same e steps may turns = effect_alike q start records (whole steps older) (rest steps other) (lacks.marks steps (lacks.stays e steps may)) f turns.0 e (lacks.verdict e steps may)

    selected_same : (steps : List Step) → May steps → Turns steps → filter new (selected q (whole steps older)) ≡ map (at_turn f) (filter new (selected anew (rest steps other)))
    selected_same [] may turns = lacks.none_selected.0 ∙ sym (ap (map (at_turn f)) lacks.none_selected.1)
    selected_same (Stays e ∷ steps) may turns =
        let H : List Event = whole steps older in
        let R : List Event = rest steps other in
        let now : filter new (selection_of q H e) ≡ map (at_turn f) (filter new (selection_of anew R e)) =
        ap (λ (y : Effect). filter new (selection y)) (effect_same e steps may turns) ∙ ap (filter new) (selection-with (at_turn f) (effect_of anew R e)) ∙ filter-map (at_turn f) new (selection_of anew R e)
        ∙ ap (map (at_turn f)) (filter_same (λ d. new (at_turn f d)) new (lacks.unturned f) (selection_of anew R e)) in
        filter-append new (selection_of q H e) (selected q H)
        ∙ (λ i. now i ++ selected_same steps (lacks.stays e steps may) turns.1 i)
        ∙ sym (map-append (at_turn f) (filter new (selection_of anew R e)) (filter new (selected anew R)))
        ∙ ap (map (at_turn f)) (sym (filter-append new (selection_of anew R e) (selected anew R)))
    selected_same (Goes e ∷ steps) may turns =
        filter-append new (selection_of q (whole steps older) e) (selected q (whole steps older))
        ∙ (λ i. lacks.enters e steps may i ++ selected_same steps (lacks.goes e steps may) turns i)

    panes_same : (steps : List Step) → May steps → Turns steps → PanesAlike q o image (panes q (whole steps older)) (panes anew (rest steps other))
    panes_same steps may turns =
        panes_image q o image.moves late new new lacks.stand lacks.stand (selected q (whole steps older)) (selected anew (rest steps other)) (lacks.covered steps may).0 (lacks.covered steps may).1 (selected_same steps may turns)

    both : (e : Event) (steps : List Step) → May (Stays e ∷ steps) → Turns (Stays e ∷ steps) → Both q o image (whole steps older) (rest steps other) e e
    both e steps may turns = record { turn = turns.0; effect = effect_same e steps may turns; panes = panes_same (Stays e ∷ steps) may turns }

    pub told : (steps : List Step) → May steps → Turns steps → Told q o image (whole steps older) (rest steps other)
    told [] may turns = record { marks = ap least (lacks.marks [] may); panes = panes_same [] may turns; fired = lacks.none_fired.0 ∙ sym (ap (map (firing_moved image.moves)) lacks.none_fired.1) }
    told (Stays e ∷ steps) may turns =
        (turn_alike q o image (whole steps older) (rest steps other) e e (told steps (lacks.stays e steps may) turns.1) (ap least (lacks.marks (Stays e ∷ steps) may)) (both e steps may turns)).next
    told (Goes e ∷ steps) may turns = record {
      marks = ap least (lacks.marks (Goes e ∷ steps) may);
      panes = panes_same (Goes e ∷ steps) may turns;
      fired = fired_goes q o image (whole steps older) (rest steps other) (told steps (lacks.goes e steps may) turns).fired e (lacks.silent e steps may);
    }

  -- ---- by the turns of the steps

  abbrev pub image_at : List Step → Image q o
  image_at steps = image (turn older other longer steps) (rising-turn older other longer steps)

  pub told_at : (steps : List Step) → May steps → Told q o (image_at steps) (whole steps older) (rest steps other)
  told_at steps may = told (turn older other longer steps) (rising-turn older other longer steps) steps may (are_turns older other longer lacks.turns steps)

  -- an event that both have, and one that the second lacks
  pub turn_at : (e : Event) (steps : List Step) → May (Stays e ∷ steps) → Turn q o (image_at steps) (whole steps older) (rest steps other) e e
  turn_at e steps may =
      turn_alike q o (image_at steps) (whole steps older) (rest steps other) e e (told_at steps (lacks.stays e steps may)) (ap least (lacks.marks (Stays e ∷ steps) may))
      (both (turn older other longer steps) (rising-turn older other longer steps) e steps may (turn_now older other longer lacks.turns steps, are_turns older other longer lacks.turns steps))

  pub told_before : (e : Event) (steps : List Step) → May (Goes e ∷ steps) → Told q o (image_at (Goes e ∷ steps)) (whole steps older) (rest steps other)
  told_before e steps may = told (turn older other longer (Goes e ∷ steps)) (rising-turn older other longer (Goes e ∷ steps)) steps (lacks.goes e steps may) (are_turns older other longer lacks.turns (Goes e ∷ steps))

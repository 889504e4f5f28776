-- The rows at some windows of a history that lacks some events of another: where rows go by no turn, the same; and on the turn of
-- an event that it lacks none.
use Rattle.std.proofs.Common.{◌≡◌, ℕ, Bool, List, [], ◌∷◌, ◌++◌, ℤ, sym, ◌∙◌}
use Rattle.std.specs.Prelude.{filter, filter_map}
use Rattle.wsm_record.specs.declared.words.Form.TheVariants.{Panes}
use Rattle.wsm_record.specs.declared.words.Mode.TheVariants.{Retracting}
use Rattle.wsm_record.specs.Event.{Event}
use Rattle.wsm_windows.specs.declared.place.Place.{Place}
use Rattle.wsm_semantics.specs.Query.{Datum, Query}
use Rattle.wsm_semantics.specs.Firings.{pane_rows, row_of}
use Rattle.wsm_semantics.specs.Relation.{turn_rows}
use Rattle.wsm_semantics.specs.ByKey.{IgnoresTurns}
use Rattle.wsm_semantics.specs.ByNumber.{row_by}
use Rattle.wsm_semantics.specs.FromWatermark.{begun_at, Step, Stays, Goes, whole, rest, is_row_at}
use Rattle.wsm_semantics.proofs.Given.{map-itself}
use Rattle.wsm_semantics.proofs.Moves.{Own}
use Rattle.wsm_semantics.proofs.Counted.{Owns, pane_rows-at, pane_rows_at, retract_rows_at, turn_rows-at}
use Rattle.wsm_semantics.proofs.ImageFirings.{Image}
use Rattle.wsm_semantics.proofs.ImageStanding.{Turn}
use Rattle.wsm_semantics.proofs.ImageRows.{pane_rows_alike, retract_none, row_itself, rows_at_alike}
use Rattle.wsm_semantics.proofs.StepTurns.{turn}
use Rattle.wsm_semantics.proofs.StepImage.{Lacks, begun, image_at, told_at, told_before, turn_at}

module _ (q : Query) (start records : ℤ) (late : Place → Bool) (new : Datum → Bool) (May : List Step → Type 0) (older other : List Event) (longer : ℕ) (lacks : Lacks q start records late new May older other longer) (e : Event) (steps : List Step) where
  abbrev o : Own
  o = begun q start records

  abbrev anew : Query
  anew = begun_at start records q

  abbrev H : List Event
  H = whole steps older

  abbrev R : List Event
  R = rest steps other

  abbrev here : List Step → Image q o
  here ss = image_at q start records late new May older other longer lacks ss

  -- an event that both have
  module _ (ignores : IgnoresTurns q) (may : May (Stays e ∷ steps)) where
    both : Turn q o (here steps) H R e e
    both = turn_at q start records late new May older other longer lacks e steps may

    pub pane_rows_stay : filter (is_row_at late) (pane_rows q H e) ≡ filter (is_row_at late) (pane_rows anew R e)
    pane_rows_stay =
        pane_rows-at q late H e
        ∙ pane_rows_alike q o (here steps) (ignores (turn older other longer steps)) H R e e both.fired
        ∙ map-itself (row_by (λ key. key)) row_itself (pane_rows_at anew late R e)
        ∙ sym (pane_rows-at anew late R e)

    pub turn_rows_stay : q.form ≡ Panes → (q.mode ≡ Retracting → Owns q late H × Owns q late (e ∷ H)) → (q.mode ≡ Retracting → Owns anew late R × Owns anew late (e ∷ R)) →
        filter (is_row_at late) (turn_rows q H e) ≡ filter (is_row_at late) (turn_rows anew R e)
    turn_rows_stay panes owns owns_anew =
        turn_rows-at q late panes H e owns
        ∙ rows_at_alike q o (here steps) (ignores (turn older other longer steps)) H R e e both
        ∙ map-itself (row_by (λ key. key)) row_itself (retract_rows_at anew late q.mode R e ++ pane_rows_at anew late R e)
        ∙ sym (turn_rows-at anew late panes R e owns_anew)

  -- one that the second lacks
  pub turn_rows_go : May (Goes e ∷ steps) → q.form ≡ Panes → (q.mode ≡ Retracting → Owns q late H × Owns q late (e ∷ H)) → filter (is_row_at late) (turn_rows q H e) ≡ []
  turn_rows_go may panes owns =
      turn_rows-at q late panes H e owns
      ∙ (λ i. retract_none q o (here (Goes e ∷ steps)) H R e (told_before q start records late new May older other longer lacks e steps may) (told_at q start records late new May older other longer lacks (Goes e ∷ steps) may) q.mode i
      ++ filter_map (row_of q) (lacks.silent e steps may i))

-- What is told by the names so far is told by all.
use Rattle.std.proofs.Common.{◌≡◌, ◌∙◌, ◌++◌, ℕ, List, Result, Ok, Err, sym, ap, subst}
use Rattle.std.specs.Prelude.{OnOk}
use Rattle.wsm_record.specs.Event.{Event}
use Rattle.wsm_program.specs.Program.{Program}
use Rattle.wsm_turns.specs.Numbered.{Numbered}
use Rattle.wsm_keyed_told.specs.declared.told.KeyedTold.{KeyedTold}
use Rattle.wsm_keyed_told.specs.KeyedLines.{events_text}
use Rattle.wsm_keyed_told.specs.Tells.{Tells}
use Rattle.wsm_keyed_intake.specs.Turns.{Grows}

module _ (p : Program) (old new : KeyedTold) (past : List Event) (gs : List Numbered) (all : List (List ℕ)) (grows : Grows old.names all) (tells : Tells p old new past gs) where
  pub told_text : new.lines.items ≡ old.lines.items ++ events_text p all past gs
  told_text = tells.text grows.0 ∙ ap (λ (ns : List (List ℕ)). old.lines.items ++ events_text p ns past gs) (sym grows.1)

  pub told_grows : Grows new.names all
  told_grows = subst (λ (ns : List (List ℕ)). Grows ns all) (sym tells.names) grows

-- what holds for each holds for all
pub on_ok_all : {A B E : Type 0} (r : Result A E) (P : B → Type 0) → ((b : B) → OnOk r (P b)) → OnOk r ((b : B) → P b)
on_ok_all (Ok a) P h = h
on_ok_all (Err e) P h = tt

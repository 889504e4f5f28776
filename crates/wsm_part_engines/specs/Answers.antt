-- What parts answer to the next event: what one query over all names answers.
use Rattle.std.specs.Prelude.{◌≡◌, ◌≢◌, ℕ, Bool, true, List, ◌∷◌, ◌++◌, Option}
use Rattle.wsm_record.specs.declared.words.Form.TheVariants.{Panes}
use Rattle.wsm_record.specs.Event.{Event}
use Rattle.wsm_admission.specs.declared.verdict.Refusal.{Refusal}
use Rattle.wsm_semantics.specs.Query.{effect_of, verdict_on}
use Rattle.wsm_semantics.specs.Relation.{turn_rows}
use Rattle.wsm_program.specs.Program.{Program}
use Rattle.wsm_engine.specs.Meaning.{selects_record}
use Rattle.wsm_part_programs.specs.Keyless.{IsKeyless}
use Rattle.wsm_part_programs.specs.Names.{of_names}
use Rattle.wsm_part_engines.specs.declared.refusal.PartsRefusal.{PartsRefusal}
use Rattle.wsm_part_engines.specs.declared.refusal.PartsRefusal.TheVariants.{Memory, Streams, ReadsKey}
use Rattle.wsm_part_engines.specs.State.{State}
use Rattle.wsm_part_engines.specs.Fits.{Fits, is_named}

-- parts take an event, whose key has a name: what they keep then fits the history with the event in front, and the verdict and their
-- rows are those of the query over all names
pub record Feeds (old new : State) (e : Event) (refusal : Option Refusal) : Type 0 where
  pub fits : (p : Program) (names : List (List ℕ)) (past : List Event) → Fits p names old past → is_named names e ≡ true → Fits p names new (e ∷ past)
  pub verdict : (p : Program) (names : List (List ℕ)) (past : List Event) → Fits p names old past → is_named names e ≡ true →
      refusal ≡ verdict_on (of_names p names) past e
  pub rows : (p : Program) (names : List (List ℕ)) (past : List Event) → Fits p names old past → is_named names e ≡ true →
      new.rows ≡ turn_rows (of_names p names) past e

-- it is known whether the event is a record that the query over all names selects
abbrev pub IsSelected : State → Event → Bool → Type 0
IsSelected old e selected = (p : Program) (names : List (List ℕ)) (past : List Event) → Fits p names old past → is_named names e ≡ true →
    selected ≡ selects_record (effect_of (of_names p names) past e)

-- one of panes that reads no key
pub record MayBeRun (p : Program) : Type 0 where
  pub panes : p.header.form ≡ Panes
  pub keyless : IsKeyless p

-- why a program isn't run by parts
abbrev pub IsWhy : Program → PartsRefusal → Type 0
IsWhy p Memory = Unit {0}
IsWhy p Streams = p.header.form ≢ Panes
IsWhy p ReadsKey = IsKeyless p → ⊥

-- more names may come: what fits a history over some names fits it over more
abbrev pub NamesMayCome : Type 0
NamesMayCome = (p : Program) (names more : List (List ℕ)) (s : State) (past : List Event) → Fits p names s past → Fits p (names ++ more) s past

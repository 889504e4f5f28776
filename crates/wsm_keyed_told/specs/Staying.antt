-- What stays of the events that parts take, by the query over any names.
use Rattle.std.specs.Prelude.{◌≡◌, ℕ, ℤ, List, ◌∷◌}
use Rattle.wsm_record.specs.Event.{Event}
use Rattle.wsm_windows.specs.Windows.{IsShape, IsSpan}
use Rattle.wsm_semantics.specs.Query.{Query, effect_of, mark, verdict_on}
use Rattle.wsm_program.specs.Program.{Program}
use Rattle.wsm_engine.specs.Meaning.{selects_record}
use Rattle.wsm_part_programs.specs.Names.{of_names}
use Rattle.wsm_part_engines.specs.declared.reply.PartsReply.{PartsReply}
use Rattle.wsm_part_engines.specs.Fits.{AreNamed}
use Rattle.wsm_keep.specs.declared.keeper.Keeper.{Keeper}
use Rattle.wsm_keep.specs.Holds.{rows_with}
use Rattle.wsm_keep.specs.Keeper as keeper
use Rattle.wsm_keep.specs.Keeper.{IsLawfulQuery}
use Rattle.wsm_saved.specs.Events.{EventFits, event_text}
use Rattle.wsm_saved.specs.Lists.{EachFits}

-- calls may be made
pub record IsReady (k : Keeper) : Type 0 where
  pub shape : IsShape k.shape
  pub lateness : IsSpan k.lateness

-- a keeper has what it should of events, each with its saved text, from which it comes back
pub record Cuts (q : Query) (k : Keeper) (past : List Event) : Type 0 where
  pub lawful : IsLawfulQuery q
  pub fits : keeper.Fits q k (rows_with event_text past)
  pub each : EachFits EventFits past

-- it does by any names that all of them have
abbrev pub CutsAll : Program → Keeper → List Event → Type 0
CutsAll p k past = (all : List (List ℕ)) → AreNamed all past → Cuts (of_names p all) k past

-- what was replied to an event is what the query says of it, and these are the watermarks before and behind it
pub record IsAnswered (q : Query) (past : List Event) (e : Event) (reply : PartsReply) (first last : ℤ) : Type 0 where
  pub verdict : reply.refusal ≡ verdict_on q past e
  pub selected : reply.selected ≡ selects_record (effect_of q past e)
  pub before : first ≡ mark q past
  pub now : last ≡ mark q (e ∷ past)

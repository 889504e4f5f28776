-- The modes of refinement, discarding, accumulating, and accumulating and retracting, are those of the
-- Dataflow Model (Akidau et al. 2015). Which forms may be written of each is this project's own rule.
use Rattle.std.specs.Prelude.{Bool, true, false}
use Rattle.wsm_record.specs.declared.words.Form.{Form}
use Rattle.wsm_record.specs.declared.words.Form.TheVariants.{Panes}
use Rattle.wsm_record.specs.declared.words.Mode.{Mode}
use Rattle.wsm_record.specs.declared.words.Mode.TheVariants.{Discarding, Accumulating, Retracting}

-- a firing is computed over all records of its pane, and not over those alone that no firing showed
abbrev pub is_over_all : Mode → Bool
is_over_all Discarding = false
is_over_all Accumulating = true
is_over_all Retracting = true

-- what stood for a pane is withdrawn
abbrev pub retracts : Mode → Bool
retracts Discarding = false
retracts Accumulating = false
retracts Retracting = true

-- a stream of changes needs panes that accumulate, and that withdraw nothing
abbrev pub may_write : Mode → Form → Bool
may_write Accumulating f = true
may_write Discarding Panes = true
may_write Discarding f = false
may_write Retracting Panes = true
may_write Retracting f = false

-- Which ends say of a run that it keeps to what its program states.
use Rattle.std.proofs.Common.{Result, Ok, Err}
use Rattle.wsm_semantics.specs.declared.ending.Totals.{Totals}
use Rattle.wsm_inputs.specs.declared.end.End.{End}
use Rattle.wsm_inputs.specs.declared.end.End.TheVariants.{Refused, Rejected, Memory, ReadFailed, WriteFailed}
use Rattle.wsm_inputs.specs.declared.input.Input.{Input}
use Rattle.wsm_inputs.specs.Inputs.{EndsBefore}
use Rattle.wsm_inputs.specs.Stated.{RunsStated, Stated}

-- of one that was begun each end may say so
pub begun_stated : (i : Input) (result : Result Totals End) → RunsStated i → Stated i result
begun_stated i (Ok totals) runs = runs
begun_stated i (Err (Refused why)) runs = tt
begun_stated i (Err (Rejected why)) runs = tt
begun_stated i (Err Memory) runs = tt
begun_stated i (Err ReadFailed) runs = runs
begun_stated i (Err WriteFailed) runs = runs

-- an end before the begin says nothing of it
pub unbegun_stated : (i : Input) (why : End) → EndsBefore i why → Stated i (Err why)
unbegun_stated i (Refused why) before = tt
unbegun_stated i (Rejected why) before = tt
unbegun_stated i Memory before = tt
unbegun_stated i ReadFailed before = absurd before
unbegun_stated i WriteFailed before = absurd before

-- The end of a run over a log, as that of a run of a query.
use Rattle.wsm_log_rows.specs.declared.end.LogEnd.{LogEnd}
use Rattle.wsm_log_rows.specs.declared.end.LogEnd.TheVariants as log
use Rattle.wsm_inputs.specs.declared.end.End.{End}
use Rattle.wsm_inputs.specs.declared.end.End.TheVariants.{Memory, ReadFailed, WriteFailed}

abbrev pub end_of_log : LogEnd → End
end_of_log log.Memory = Memory
end_of_log log.ReadFailed = ReadFailed
end_of_log log.WriteFailed = WriteFailed

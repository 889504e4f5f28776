-- What is written of a program that is judged.
use Rattle.std.specs.Prelude.{◌≡◌, ℕ, Bool, true, false, List, [], ◌++◌, Option, Result, Ok, Err, IfErr, IfOk, OnOk, is_ok, if◌then◌else◌, codes}
use Rattle.std.specs.Fmt.{decimal}
use Rattle.std.specs.Io.KnownBytes.{Appends, Keeps}
use Rattle.wsm_program.specs.Program.{Program}
use Rattle.wsm_bytecode.specs.Text.{text}
use Rattle.wsm_program.specs.declared.program.Costs.{Costs}
use Rattle.wsm_rules.specs.declared.rejection.Rejection.{Rejection}
use Rattle.wsm_rules.specs.Rules.{judge}
use Rattle.wsm_rules.specs.Text.{rejection_text}
use Rattle.wsm_csv.specs.Device.{TakesPart}
use Rattle.wsm_inputs.specs.declared.end.InputRefusal.{InputRefusal}
use Rattle.wsm_inputs.specs.declared.end.End.{End}
use Rattle.wsm_inputs.specs.declared.end.End.TheVariants.{Refused, Memory, WriteFailed}
use Rattle.wsm_inputs.specs.Ends.{hides_memory}

-- `accepted,RECORD,PANE,HELD` with the needed numbers, or `rejected,PART,PLACE,NAME`; a line feed
abbrev pub verdict : Result Costs Rejection → List ℕ
verdict (Ok need) = codes "accepted," ++ decimal need.per_record ++ codes "," ++ decimal need.per_pane ++ codes "," ++ decimal need.held ++ codes "\n"
verdict (Err why) = codes "rejected," ++ rejection_text why ++ codes "\n"

-- to explain, the listing comes first
abbrev pub listing : Bool → Program → List ℕ
listing explain p = if explain then text p else []

abbrev pub report : Bool → Program → List ℕ
report explain p = listing explain p ++ verdict (judge p)

-- the program that was read was reported, and it is told whether it is accepted
pub record Reports (read : Result Program InputRefusal) (explain : Bool) (old new : Option (List ℕ)) (accepted : Bool) : Type 0 where
  pub program : Program
  pub read_as : read ≡ Ok program
  pub written : Appends old new (report explain program)
  pub tells : accepted ≡ is_ok (judge program)

-- a refusal is that of the bytes; only where the device has failed a part of the report was written, else nothing
abbrev pub StopsBy : Result Program InputRefusal → Bool → Option (List ℕ) → Option (List ℕ) → End → Type 0
StopsBy read explain old new (Refused why) = (read ≡ Err why) × Keeps old new
StopsBy read explain old new Memory = Keeps old new
StopsBy read explain old new WriteFailed = (p : Program) × (read ≡ Ok p) × TakesPart old new (report explain p)
StopsBy read explain old new end = ⊥

-- an input that was read so is judged: its program is reported; a refusal or want of memory stops it
pub record Judges (read : Result Program InputRefusal) (explain : Bool) (old new : Option (List ℕ)) (is_flushed has_failed : Bool) (result : Result Bool End) : Type 0 where
  pub reports : IfOk result (Reports read explain old new)
  pub stops : IfErr result (StopsBy read explain old new)
  pub flushed : OnOk result (is_flushed ≡ true)
  pub write_failed : result ≡ Err WriteFailed → has_failed ≡ true
  pub memory_apart : IfErr result (λ end. hides_memory end ≡ false)

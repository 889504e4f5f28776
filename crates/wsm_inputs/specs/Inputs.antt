-- How an input is judged, what it means, and how a run of it ends.
use Rattle.std.specs.Prelude.{◌≡◌, ◌⊎◌, ℕ, Bool, true, false, List, Option, Result, Ok, Err, IfErr, IfOk, OnOk, is_ok}
use Rattle.std.specs.Io.KnownBytes.{Keeps}
use Rattle.wsm_program.specs.Program.{Program}
use Rattle.wsm_rules.specs.Rules.{judge}
use Rattle.wsm_rules.specs.declared.rejection.Rejection.{Rejection}
use Rattle.wsm_query.specs.Tree.{Query}
use Rattle.wsm_machine.specs.Meaning.{query_of}
use Rattle.wsm_compiler.specs.Means.{meant}
use Rattle.wsm_semantics.specs.Query.{Query as Meant}
use Rattle.wsm_semantics.specs.declared.ending.Totals.{Totals}
use Rattle.wsm_inputs.specs.declared.input.Input.{Input}
use Rattle.wsm_inputs.specs.declared.input.Input.TheVariants as input
use Rattle.wsm_inputs.specs.declared.end.InputRefusal.{InputRefusal}
use Rattle.wsm_inputs.specs.declared.end.End.{End}
use Rattle.wsm_inputs.specs.declared.end.End.TheVariants as ends
use Rattle.wsm_inputs.specs.Begun.{IsAcceptedProgram, IsAcceptedQuery}
use Rattle.wsm_inputs.specs.Ends.{hides_memory}
use Rattle.wsm_inputs.specs.Judged.{bytes_judged, compiled, text_judged}

-- the program of an input, or why there is none
abbrev pub judged : Input → Result Program InputRefusal
judged (input.Text text) = compiled (text_judged text.now)
judged (input.Program bytes) = bytes_judged bytes.now

-- the input says the program, and it is accepted
pub record IsAccepted (i : Input) (p : Program) : Type 0 where
  pub judged : judged i ≡ Ok p
  pub accepted : is_ok (judge p) ≡ true

-- the input is accepted, and this is what it means
abbrev pub Means : Input → Meant → Type 0
Means (input.Text text) m = (q : Query) × IsAcceptedQuery text.now q × (m ≡ meant q)
Means (input.Program bytes) m = (p : Program) × IsAcceptedProgram bytes.now p × (m ≡ query_of p)

-- an input that isn't accepted, or want of memory
abbrev pub EndsBefore : Input → End → Type 0
EndsBefore i (ends.Refused why) = judged i ≡ Err why
EndsBefore i (ends.Rejected why) = (p : Program) × (judged i ≡ Ok p) × (judge p ≡ Err why)
EndsBefore i ends.Memory = Unit {0}
EndsBefore i end = ⊥

-- a run that isn't begun: it ends so, or for want of memory, and nothing was written
pub record NeverBegins (why : End) (old new : Option (List ℕ)) (result : Result Totals End) : Type 0 where
  pub end : (result ≡ Err why) ⊎ (result ≡ Err ends.Memory)
  pub kept : Keeps old new

-- How a run of an input ends at a device that took this before and behind it, where what is said of a run that ends well and
-- of one that ends early hangs on what is read. One of an input that isn't accepted never begins.
pub record EndsAs (i : Input) (well : Meant → Totals → Type 0) (early : Meant → End → Type 0) (old new : Option (List ℕ)) (is_flushed has_failed : Bool) (result : Result Totals End) : Type 0 where
  pub refused : (why : InputRefusal) → judged i ≡ Err why → NeverBegins (ends.Refused why) old new result
  pub rejected : (p : Program) (why : Rejection) → judged i ≡ Ok p → judge p ≡ Err why → NeverBegins (ends.Rejected why) old new result
  pub completes : (m : Meant) → Means i m → IfOk result (well m)
  pub ends_early : (m : Meant) → Means i m → IfErr result (early m)
  pub flushed : OnOk result (is_flushed ≡ true)
  pub write_failed : result ≡ Err ends.WriteFailed → has_failed ≡ true
  pub memory_apart : IfErr result (λ end. hides_memory end ≡ false)

-- How the text of a query and the bytes of a program are judged.
use Rattle.std.specs.Prelude.{◌≡◌, ℕ, List, Option, Some, None, Result, Ok, Err}
use Rattle.wsm_tokens.specs.declared.fault.ParseRefusal.{ParseRefusal}
use Rattle.wsm_tokens.specs.declared.fault.ParseRefusal.TheVariants as parsing
use Rattle.wsm_query.specs.Tree.{Query}
use Rattle.wsm_query.specs.Parse.{parse}
use Rattle.wsm_check.specs.declared.refusal.CheckRefusal.{CheckRefusal}
use Rattle.wsm_check.specs.declared.refusal.CheckRefusal.TheVariants as checking
use Rattle.wsm_check.specs.Checks.{refusal}
use Rattle.wsm_program.specs.declared.refusal.DecodeRefusal.{DecodeRefusal}
use Rattle.wsm_program.specs.declared.refusal.DecodeRefusal.TheVariants.{Memory}
use Rattle.wsm_program.specs.Program.{Program}
use Rattle.wsm_bytecode.specs.Reading.{decode}
use Rattle.wsm_compiler.specs.Program.{program_of}
use Rattle.wsm_rules.specs.declared.rejection.Rejection.{Rejection}
use Rattle.wsm_inputs.specs.declared.end.InputRefusal.{InputRefusal}
use Rattle.wsm_inputs.specs.declared.end.InputRefusal.TheVariants.{Text, Check, Bytes}
use Rattle.wsm_inputs.specs.declared.end.End.{End}
use Rattle.wsm_inputs.specs.declared.end.End.TheVariants as ends

-- no definition of reading or checking wants memory: what stands for it never comes
abbrev never : InputRefusal
never = Bytes Memory

abbrev pub refusal_of_text : ParseRefusal → InputRefusal
refusal_of_text (parsing.Text fault position) = Text fault position
refusal_of_text parsing.Memory = never

abbrev pub refusal_of_check : CheckRefusal → InputRefusal
refusal_of_check (checking.Fault fault part) = Check fault part
refusal_of_check checking.Memory = never

-- the query, unless a check refuses it
abbrev pub unless_refused : Option CheckRefusal → Query → Result Query InputRefusal
unless_refused None q = Ok q
unless_refused (Some why) q = Err (refusal_of_check why)

-- the query that was read, unless a check refuses it
abbrev pub checked : Result Query ParseRefusal → Result Query InputRefusal
checked (Ok q) = unless_refused (refusal q) q
checked (Err why) = Err (refusal_of_text why)

-- the first fault of the grammar; else the first check that fails; else the query
unfoldable pub text_judged : List ℕ → Result Query InputRefusal
text_judged text = checked (parse text)

-- the program of the query, or why there is none
abbrev pub compiled : Result Query InputRefusal → Result Program InputRefusal
compiled (Ok q) = Ok (program_of q)
compiled (Err why) = Err why

abbrev pub read_or_refused : Result Program DecodeRefusal → Result Program InputRefusal
read_or_refused (Ok p) = Ok p
read_or_refused (Err why) = Err (Bytes why)

-- the program that the bytes spell, or their first fault from the left
unfoldable pub bytes_judged : List ℕ → Result Program InputRefusal
bytes_judged bytes = read_or_refused (decode bytes)

-- an end by the refusal that was judged, or for want of memory
abbrev pub EndsBy : {A : Type 0} → Result A InputRefusal → End → Type 0
EndsBy judged (ends.Refused why) = judged ≡ Err why
EndsBy judged ends.Memory = Unit {0}
EndsBy judged end = ⊥

-- an end by the verifier's rejection, or for want of memory
abbrev pub RejectsBy : {A : Type 0} → Result A Rejection → End → Type 0
RejectsBy judged (ends.Rejected why) = judged ≡ Err why
RejectsBy judged ends.Memory = Unit {0}
RejectsBy judged end = ⊥

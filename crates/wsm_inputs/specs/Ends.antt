-- How a run, a judgement or a compilation ends early.
use Rattle.std.specs.Prelude.{ℕ, Bool, true, false, List, ◌++◌, codes, if◌then◌else◌}
use Rattle.std.specs.Fmt.{decimal}
use Rattle.wsm_tokens.specs.declared.fault.ParseRefusal.{ParseRefusal}
use Rattle.wsm_tokens.specs.declared.fault.ParseRefusal.TheVariants as parse
use Rattle.wsm_tokens.specs.Position.{position_text}
use Rattle.wsm_tokens.specs.Refusal.{fault_text}
use Rattle.wsm_check.specs.declared.refusal.CheckRefusal.{CheckRefusal}
use Rattle.wsm_check.specs.declared.refusal.CheckRefusal.TheVariants as check
use Rattle.wsm_check.specs.Text as check_text
use Rattle.wsm_program.specs.declared.refusal.DecodeRefusal.{DecodeRefusal}
use Rattle.wsm_program.specs.declared.refusal.DecodeRefusal.TheVariants as bytes
use Rattle.wsm_program.specs.Text as bytes_text
use Rattle.wsm_rules.specs.declared.rejection.Rejection.{Rejection}
use Rattle.wsm_rules.specs.declared.rejection.Rule.{Rule}
use Rattle.wsm_rules.specs.declared.rejection.Rule.TheVariants as rule
use Rattle.wsm_rules.specs.Text.{part_text, rule_name}
use Rattle.wsm_csv.specs.declared.rows.ReadEnd.{ReadEnd}
use Rattle.wsm_csv.specs.declared.rows.ReadEnd.TheVariants as read
use Rattle.wsm_deal.specs.declared.dealing.DealEnd.{DealEnd}
use Rattle.wsm_deal.specs.declared.dealing.DealEnd.TheVariants as dealing
use Rattle.wsm_deal.specs.declared.shares.SharesRefusal.{SharesRefusal}
use Rattle.wsm_deal.specs.declared.shares.SharesRefusal.TheVariants as shares
use Rattle.wsm_deal.specs.Text as keys_text
use Rattle.wsm_inputs.specs.declared.end.InputRefusal.{InputRefusal}
use Rattle.wsm_inputs.specs.declared.end.InputRefusal.TheVariants.{Text, Check, Bytes, Keys}
use Rattle.wsm_inputs.specs.declared.end.End.{End}
use Rattle.wsm_inputs.specs.declared.end.End.TheVariants.{Refused, Rejected, Memory, ReadFailed, WriteFailed}

-- the program's exit status
abbrev pub status : End → ℕ
status (Refused why) = 3
status (Rejected why) = 4
status Memory = 5
status ReadFailed = 6
status WriteFailed = 7

-- the number by which a rule of the verifier is told; none is told for want of memory
abbrev pub rule_number : Rule → ℕ
rule_number rule.StackUnderflow = 1
rule_number rule.StackOverflow = 2
rule_number rule.Type = 3
rule_number rule.BadJump = 4
rule_number rule.Join = 5
rule_number rule.Unreachable = 6
rule_number rule.NoReturn = 7
rule_number rule.NotHere = 8
rule_number rule.FoldTwice = 9
rule_number rule.FoldMissing = 10
rule_number rule.MayOverflow = 11
rule_number rule.MayDivideByZero = 12
rule_number rule.AccumulatorRange = 13
rule_number rule.BudgetRecord = 14
rule_number rule.BudgetPane = 15
rule_number rule.BudgetHeld = 16
rule_number rule.Memory = 17

-- as `P2 Unexpected at 1:8`, `C1 UnknownName in where` or `B3 Truncated`
abbrev pub refusal_text : InputRefusal → List ℕ
refusal_text (Text fault position) = fault_text fault ++ codes " at " ++ position_text position
refusal_text (Check fault part) = check_text.fault_text fault ++ codes " in " ++ check_text.part_text part
refusal_text (Bytes fault) = bytes_text.refusal_text fault
refusal_text (Keys fault) = keys_text.refusal_text fault

-- as `V12 MayDivideByZero in fire at 2`
abbrev pub rejection_text : Rejection → List ℕ
rejection_text why =
    codes "V" ++ decimal (rule_number why.rule) ++ codes " " ++ rule_name why.rule ++ codes " in " ++ part_text why.part ++ codes " at " ++ decimal why.place

-- what the program prints behind its name
abbrev pub end_text : End → List ℕ
end_text (Refused why) = refusal_text why
end_text (Rejected why) = rejection_text why
end_text Memory = codes "out of memory"
end_text ReadFailed = codes "read failed"
end_text WriteFailed = codes "write failed"

abbrev pub end_of_text : ParseRefusal → End
end_of_text (parse.Text fault position) = Refused (Text fault position)
end_of_text parse.Memory = Memory

abbrev pub end_of_check : CheckRefusal → End
end_of_check (check.Fault fault part) = Refused (Check fault part)
end_of_check check.Memory = Memory

abbrev pub end_of_bytes : DecodeRefusal → End
end_of_bytes bytes.Memory = Memory
end_of_bytes fault = Refused (Bytes fault)

abbrev pub is_of_memory : Rule → Bool
is_of_memory rule.Memory = true
is_of_memory why = false

abbrev pub end_of_rejection : Rejection → End
end_of_rejection why = if is_of_memory why.rule then Memory else Rejected why

abbrev pub end_of_read : ReadEnd → End
end_of_read read.Failed = ReadFailed
end_of_read read.Memory = Memory

abbrev pub end_of_keys : SharesRefusal → End
end_of_keys shares.Memory = Memory
end_of_keys fault = Refused (Keys fault)

abbrev pub end_of_dealing : DealEnd → End
end_of_dealing dealing.ReadFailed = ReadFailed
end_of_dealing dealing.Memory = Memory
end_of_dealing dealing.WriteFailed = WriteFailed

-- want of memory is told as a fault of the bytes or of the program: no answer does so
abbrev pub hides_memory : End → Bool
hides_memory (Refused (Bytes bytes.Memory)) = true
hides_memory (Refused (Keys shares.Memory)) = true
hides_memory (Rejected why) = is_of_memory why.rule
hides_memory end = false

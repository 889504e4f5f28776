-- What a part of a program, a rule and a rejection are printed as.
use Rattle.std.specs.Prelude.{ℕ, List, ◌++◌, codes}
use Rattle.std.specs.Fmt.{decimal}
use Rattle.wsm_program.specs.Text.{section_name}
use Rattle.wsm_rules.specs.declared.rejection.Part.{Part}
use Rattle.wsm_rules.specs.declared.rejection.Part.TheVariants.{Code, Budget}
use Rattle.wsm_rules.specs.declared.rejection.Rule.{Rule}
use Rattle.wsm_rules.specs.declared.rejection.Rule.TheVariants as rules
use Rattle.wsm_rules.specs.declared.rejection.Rejection.{Rejection}

abbrev pub part_text : Part → List ℕ
part_text (Code section) = section_name section
part_text Budget = codes "budget"

abbrev pub rule_name : Rule → List ℕ
rule_name rules.StackUnderflow = codes "StackUnderflow"
rule_name rules.StackOverflow = codes "StackOverflow"
rule_name rules.Type = codes "Type"
rule_name rules.BadJump = codes "BadJump"
rule_name rules.Join = codes "Join"
rule_name rules.Unreachable = codes "Unreachable"
rule_name rules.NoReturn = codes "NoReturn"
rule_name rules.NotHere = codes "NotHere"
rule_name rules.FoldTwice = codes "FoldTwice"
rule_name rules.FoldMissing = codes "FoldMissing"
rule_name rules.MayOverflow = codes "MayOverflow"
rule_name rules.MayDivideByZero = codes "MayDivideByZero"
rule_name rules.AccumulatorRange = codes "AccumulatorRange"
rule_name rules.BudgetRecord = codes "BudgetRecord"
rule_name rules.BudgetPane = codes "BudgetPane"
rule_name rules.BudgetHeld = codes "BudgetHeld"
rule_name rules.Memory = codes "Memory"

-- as fire,2,MayDivideByZero
abbrev pub rejection_text : Rejection → List ℕ
rejection_text r = part_text r.part ++ codes "," ++ decimal r.place ++ codes "," ++ rule_name r.rule

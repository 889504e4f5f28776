-- What a section, an instruction and a refusal are printed as.
use Rattle.std.specs.Prelude.{ℕ, List, [], ◌∷◌, map, ℤ, pos, codes}
use Rattle.std.specs.List.{join_with_byte}
use Rattle.std.specs.Fmt.{signed_decimal}
use Rattle.wsm_program.specs.declared.instr.Instr.{Instr}
use Rattle.wsm_program.specs.declared.instr.SectionId.{SectionId}
use Rattle.wsm_program.specs.declared.instr.SectionId.TheVariants.{Where, Update, Fire}
use Rattle.wsm_program.specs.declared.instr.Argument.{Argument}
use Rattle.wsm_program.specs.declared.instr.Argument.TheVariants as arguments
use Rattle.wsm_program.specs.declared.refusal.DecodeRefusal.{DecodeRefusal}
use Rattle.wsm_program.specs.declared.refusal.DecodeRefusal.TheVariants as refusals
use Rattle.wsm_program.specs.Instructions as table
use Rattle.wsm_program.specs.Instructions.{truth}
use Rattle.wsm_program.specs.Comparisons.{comparison_number}

abbrev pub section_name : SectionId → List ℕ
section_name Where = codes "where"
section_name Update = codes "update"
section_name Fire = codes "fire"

-- a word of a line: letters, or a number in decimal
pub data Word : Type 0 where
  Letters : (bytes : List ℕ) → Word
  Number : (value : ℤ) → Word

abbrev argument_words : Argument → List Word
argument_words arguments.Nothing = []
argument_words (arguments.Number n) = Number n ∷ []
argument_words (arguments.Truth b) = Number (pos (truth b)) ∷ []
argument_words (arguments.Name e i) = Number (pos e) ∷ Number (pos i) ∷ []
argument_words (arguments.Field f) = Number (pos f) ∷ []
argument_words (arguments.Accumulator a) = Number (pos a) ∷ []
argument_words (arguments.Target t) = Number (pos t) ∷ []
argument_words (arguments.Test test t) = Number (pos test.field) ∷ Number (pos (comparison_number test.comparison)) ∷ Number test.number ∷ Number (pos t) ∷ []

-- the name and the operands
abbrev pub instr_words : Instr → List Word
instr_words i = Letters (table.name i) ∷ argument_words (table.argument i)

abbrev pub word_text : Word → List ℕ
word_text (Letters bytes) = bytes
word_text (Number n) = signed_decimal n

-- the words joined by one space
abbrev pub line_text : List Word → List ℕ
line_text ws = join_with_byte 32 (map word_text ws)

abbrev pub instr_text : Instr → List ℕ
instr_text i = line_text (instr_words i)

abbrev pub refusal_text : DecodeRefusal → List ℕ
refusal_text refusals.BadMagic = codes "B1 BadMagic"
refusal_text refusals.Version = codes "B2 Version"
refusal_text refusals.Truncated = codes "B3 Truncated"
refusal_text refusals.UnknownOpcode = codes "B4 UnknownOpcode"
refusal_text refusals.Operand = codes "B5 Operand"
refusal_text refusals.TrailingBytes = codes "B6 TrailingBytes"
refusal_text refusals.Memory = codes "B7 Memory"

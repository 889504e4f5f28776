-- The lines of the disassembly.
use Rattle.std.specs.Prelude.{ℕ, suc, List, [], ◌∷◌, ◌++◌, pos}
use Rattle.std.specs.List.{flat_map}
use Rattle.wsm_program.specs.declared.instr.Instr.{Instr}
use Rattle.wsm_program.specs.declared.instr.SectionId.{SectionId}
use Rattle.wsm_program.specs.declared.instr.SectionId.TheVariants.{Where, Update, Fire}
use Rattle.wsm_program.specs.Program.{Program}
use Rattle.wsm_program.specs.Text.{Word, Letters, Number, instr_words, section_name, line_text}

-- section, place, name, operands, for the instructions from a place on
abbrev pub section_lines : List ℕ → ℕ → List Instr → List (List Word)
section_lines name place [] = []
section_lines name place (i ∷ is) = (Letters name ∷ Number (pos place) ∷ instr_words i) ∷ section_lines name (suc place) is

abbrev pub lines : Program → List (List Word)
lines p = section_lines (section_name Where) 0 p.selection ++ section_lines (section_name Update) 0 p.update ++ section_lines (section_name Fire) 0 p.fire

-- each line ended by one line feed
abbrev pub lines_text : List (List Word) → List ℕ
lines_text ls = flat_map (λ l. line_text l ++ 10 ∷ []) ls

unfoldable pub text : Program → List ℕ
text p = lines_text (lines p)

abbrev pub section_text : SectionId → ℕ → List Instr → List ℕ
section_text id place instrs = lines_text (section_lines (section_name id) place instrs)

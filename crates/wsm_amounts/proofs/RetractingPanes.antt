-- A program whose panes retract what they showed writes panes.
use Rattle.std.proofs.Common.{◌≡◌, true, refl, sym, ap, ◌∙◌}
use Rattle.std.specs.Prelude.{IsTrue}
use Rattle.wsm_record.specs.declared.words.Form.{Form}
use Rattle.wsm_record.specs.declared.words.Form.TheVariants.{Panes, Istream, Dstream, Rstream}
use Rattle.wsm_record.specs.declared.words.Mode.{Mode}
use Rattle.wsm_record.specs.declared.words.Mode.TheVariants.{Retracting}
use Rattle.wsm_record.specs.Modes.{may_write}
use Rattle.wsm_program.specs.Program.{Program, is_program}
use Rattle.wsm_program.proofs.Lawful.{header_parts, program_header}

-- panes that retract are written, and no stream of them
panes_alone : (f : Form) → may_write Retracting f ≡ true → f ≡ Panes
panes_alone Panes h = refl
panes_alone Istream h = absurd (cc)
panes_alone Dstream h = absurd (cc)
panes_alone Rstream h = absurd (cc)

pub writes_panes : (p : Program) → IsTrue (is_program p) → p.header.mode ≡ Retracting → p.header.form ≡ Panes
writes_panes p whole retracting = panes_alone p.header.form (ap (λ (m : Mode). may_write m p.header.form) (sym retracting) ∙ (header_parts p.header (program_header p whole)).form)

-- A program whose panes discard what they showed writes panes.
use Rattle.std.proofs.Common.{◌≡◌, true, refl, sym, ap, ◌∙◌}
use Rattle.wsm_record.specs.declared.words.Form.{Form}
use Rattle.wsm_record.specs.declared.words.Form.TheVariants.{Panes, Istream, Dstream, Rstream}
use Rattle.wsm_record.specs.declared.words.Mode.{Mode}
use Rattle.wsm_record.specs.declared.words.Mode.TheVariants.{Discarding}
use Rattle.wsm_record.specs.Modes.{may_write}
use Rattle.std.specs.Prelude.{IsTrue}
use Rattle.wsm_program.specs.Program.{Program, is_program}
use Rattle.wsm_program.proofs.Lawful.{header_parts, program_header}

-- panes that discard are written, and no stream of them
panes_alone : (f : Form) → may_write Discarding f ≡ true → f ≡ Panes
panes_alone Panes h = refl
panes_alone Istream h = absurd (cc)
panes_alone Dstream h = absurd (cc)
panes_alone Rstream h = absurd (cc)

pub writes_panes : (p : Program) → IsTrue (is_program p) → p.header.mode ≡ Discarding → p.header.form ≡ Panes
writes_panes p whole discarding = panes_alone p.header.form (ap (λ (m : Mode). may_write m p.header.form) (sym discarding) ∙ (header_parts p.header (program_header p whole)).form)

use Rattle.std.proofs.Common.{◌≡◌, true, refl, sym, ap, ◌∙◌}
use Rattle.wsm_record.specs.declared.words.Form.{Form}
use Rattle.wsm_record.specs.declared.words.Form.TheVariants.{Panes, Istream, Dstream, Rstream}
use Rattle.wsm_record.specs.declared.words.Mode.{Mode}
use Rattle.wsm_record.specs.declared.words.Mode.TheVariants.{Retracting}
use Rattle.wsm_record.specs.Modes.{may_write}
use Rattle.wsm_semantics.proofs.LastingLaw.{adds_up}
use Rattle.wsm_semantics.proofs.LastingOnce.{lasting_once}
use Rattle.wsm_program.proofs.Lawful.{header_parts, program_header}
use Rattle.wsm_rules.proofs.Lawful.{lawful}
use Rattle.wsm_machine.specs.Meaning.{query_of}
use Rattle.wsm_machine.proofs.CountedSessions.{sessions_by_event}
use Rattle.wsm_engine.proofs.laws.standing.Goals as goal

-- panes that retract are written, and no stream of them
panes_alone : (f : Form) → may_write Retracting f ≡ true → f ≡ Panes
panes_alone Panes h = refl
panes_alone Istream h = absurd (cc)
panes_alone Dstream h = absurd (cc)
panes_alone Rstream h = absurd (cc)

pub returns : goal.returns
returns c p whole retracting past =
    let ok = (lawful p whole).shape in
    let timely = sessions_by_event p whole in
    let low = (lawful p whole).lateness.low in
    let written = header_parts p.header (program_header p whole) in
    let panes : p.header.form ≡ Panes = panes_alone p.header.form (ap (λ (m : Mode). may_write m p.header.form) (sym retracting) ∙ written.form) in
    record { rows = adds_up (query_of p) ok timely low retracting panes past; once = lasting_once (query_of p) ok timely low past }

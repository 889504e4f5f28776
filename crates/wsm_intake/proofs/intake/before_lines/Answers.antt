use Rattle.std.proofs.Common.{◌≡◌, ◌∙◌, ℕ, [], Option, length, ap, subst}
use Rattle.wsm_record.specs.Schema.{Declared}
use Rattle.wsm_program.specs.Program.{Program}
use Rattle.wsm_turns.specs.Clocks.{count_in}
use Rattle.wsm_turns.specs.Named.{Knows}
use Rattle.wsm_turns.specs.Turns.{start_of}
use Rattle.wsm_turns.specs.Waits.{Hear}
use Rattle.wsm_intake.proofs.intake.before_lines.Goals as goal

pub returns-clause-waiting : goal.returns-clause-waiting
returns-clause-waiting c =
    let count : c.key_count.result ≡ length c.args.verified.header.schema.keys =
    c.key_count.ensures.count ∙ ap (λ (d : Declared). length d.keys) (c.schema.ensures ∙ ap (λ (p : Program). p.header.schema) c.in_ok-told.ensures.program) in
    let all : c.count_in-count.result ≡ count_in c.args.clocks (length c.args.verified.header.schema.keys) = c.count_in-count.ensures.count ∙ ap (count_in c.args.clocks) count in
    subst (λ (n : ℕ). Hear c.args.clocks n c.in_ok-waiting.waiting [] (start_of c.args.clocks) []) all c.in_ok-waiting.ensures

pub returns-clause-names : goal.returns-clause-names
returns-clause-names c = subst (λ (n : Option ℕ). Knows n c.in_ok-names.names []) c.named_in.ensures c.in_ok-names.ensures

use Rattle.std.proofs.Common.{◌≡◌, ◌∙◌, ap, get_or, map, refl, true, arith}
use Rattle.std.proofs.lemmas.List.{take_all}
use Rattle.clap.specs.Words.{Shape, app_of, shape_of}
use Rattle.wsm_words.specs.declared.commands.Subcommand.{Subcommand}
use Rattle.wsm_words.specs.declared.commands.Subcommand.TheVariants as sub
use Rattle.wsm_words.specs.Words.{shape_by, with_shapes}
use Rattle.wsm_words.proofs.Plain.{third_fails}
use Rattle.wsm_words.proofs.Rules.{next_shape}
use Rattle.wsm_words.proofs.commands.with_subcommands.Goals as goal

-- each subcommand is plain
plain : (s : Subcommand) → (shape_by s).is_plain ≡ true
plain sub.Run = refl
plain sub.Compile = refl
plain sub.Migrate = refl
plain sub.Verify = refl
plain sub.Explain = refl
plain sub.Deal = refl
plain sub.Rows = refl
plain sub.Keep = refl
plain sub.Watermarks = refl
plain sub.Live = refl

plain_of : (shape : Shape) (s : Subcommand) → shape ≡ shape_by s → shape.is_plain ≡ true
plain_of shape s is = ap (λ (x : Shape). x.is_plain) is ∙ plain s

pub loop-subcommand-init : goal.loop-subcommand-init
loop-subcommand-init c = refl

pub loop-subcommand-preserved : goal.loop-subcommand-preserved
loop-subcommand-preserved c =
    let is = c.in_ok-command_of.ensures in
    let next = get_or c.args.subcommands.now c.loop-subcommand.subcommand-index sub.Run in
    next_shape shape_by c.args.subcommands.now c.loop-subcommand.subcommand-index sub.Run (app_of c.args.command) (app_of c.loop-subcommand.command)
    (app_of c.in_ok-command.command) (shape_of c.in_ok-command_of.field-0) (omega arith)
    (c.in_ok-command.ensures.shape (third_fails _ _ _ _ (plain_of (shape_of c.in_ok-command_of.field-0) next is))) is
    c.loop-subcommand.invariant

pub returns : goal.returns
returns c =
    c.loop-subcommand.invariant
    ∙ ap (with_shapes (app_of c.args.command)) (ap (map shape_by) (take_all c.loop-subcommand.subcommand-index c.args.subcommands.now (omega arith)))

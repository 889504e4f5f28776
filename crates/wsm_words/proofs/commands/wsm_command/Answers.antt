use Rattle.std.proofs.Common.{◌∷◌, ◌∙◌, [], ap}
use Rattle.clap.specs.Words.{App}
use Rattle.wsm_words.specs.Words.{compile_shape, deal_shape, explain_shape, keep_shape, live_shape, migrate_shape, rows_shape, run_shape, verify_shape, watermarks_shape, with_shapes}
use Rattle.wsm_words.proofs.commands.wsm_command.Goals as goal

pub returns : goal.returns
returns c =
    c.in_ok-wsm.ensures
    ∙ ap (λ (a : App). with_shapes a (run_shape ∷ compile_shape ∷ migrate_shape ∷ verify_shape ∷ explain_shape ∷ deal_shape ∷ rows_shape ∷ keep_shape ∷ watermarks_shape ∷ live_shape ∷ []))
    c.in_ok-required_command.ensures

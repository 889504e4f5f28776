use Rattle.std.proofs.Common.{◌∙◌, ℕ, List, ap}
use Rattle.std.specs.Io.KnownBytes.{prepend_known}
use Rattle.wsm_log.proofs.Following.{HasRest-start, prepend_known-nil}
use Rattle.wsm_log.proofs.lines.Lines.new.Goals as goal

pub returns : goal.returns
returns g c =
    let left = g.R.Read.remaining c.args.reader in
    record {
      most = c.in_ok-new.ensures.most ∙ c.in-Some.ensures.1;
      rest = HasRest-start c.args.longest g.R.Read.remaining _ _ (ap (λ (held : List ℕ). prepend_known held left) c.in_ok-new.ensures.ahead ∙ prepend_known-nil left) (λ over. cc);
    }

use Rattle.std.proofs.Common.{◌∙◌, sym, ap, bytes_eq, position}
use Rattle.wsm_record.proofs.Lists.{position-map}
use Rattle.wsm_record.proofs.names.Names.search.Goals as goal

pub returns-in-Some : goal.returns-in-Some
returns-in-Some c =
    c.in-Some.ensures.index
    ∙ sym (position-map (bytes_eq c.args.text.now) (λ v. v.items) c.self.inside.texts.keys)
    ∙ ap (position (bytes_eq c.args.text.now)) c.self.view_is

pub returns-in-None : goal.returns-in-None
returns-in-None c =
    c.in-None.ensures.index
    ∙ sym (position-map (bytes_eq c.args.text.now) (λ v. v.items) c.self.inside.texts.keys)
    ∙ ap (position (bytes_eq c.args.text.now)) c.self.view_is

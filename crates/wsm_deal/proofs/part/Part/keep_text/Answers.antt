use Rattle.std.proofs.Common.{◌∙◌, ◌++◌, List, ℕ, ap, refl}
use Rattle.csv.specs.Records.{fields_of}
use Rattle.wsm_deal.proofs.Outcomes.{on_ok_map}
use Rattle.wsm_deal.proofs.PartTexts.{Has-added}
use Rattle.wsm_deal.proofs.part.Part.keep_text.Goals as goal

pub returns-clause-adds : goal.returns-clause-adds
returns-clause-adds g c = λ old rows has.
    on_ok_map c.add_text.result (λ is. Has-added g.D.Device.taken old rows (fields_of c.args.row.now) c.args.self.now c.open.new.self _ has
    c.open.ensures.out c.in_ok-open.ensures.begun c.in_ok-open.ensures.text refl refl (is ∙ ap (λ (t : List ℕ). c.open.new.self.text.items ++ t) c.requires.text)) c.add_text.ensures

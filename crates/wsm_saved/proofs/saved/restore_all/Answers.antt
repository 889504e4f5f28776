use Rattle.std.proofs.Common.{◌≡◌, ◌∙◌, ℕ, List, Option, Some, None, option_and_then, ap}
use Rattle.wsm_journal.specs.Reading.{number_of}
use Rattle.wsm_saved.specs.Lists.{read_list, read_some}
use Rattle.wsm_saved.proofs.Listing.{list_read}
use Rattle.wsm_saved.proofs.saved.restore_all.Goals as goal

pub returns-in-Some-clause-back : goal.returns-in-Some-clause-back
returns-in-Some-clause-back g c = λ xs rest fits is.
    let whole : read_list g.T.Saved.read c.args.from.now ≡ Some (xs, rest) = list_read g.T.Saved.text g.T.Saved.read g.T.Saved.Fits g.met.T.Saved.back xs rest c.args.from.now fits is in
    let some : Some (c.in-Some.count, c.number.new.self) ≡ number_of c.args.from.now = c.in-Some.ensures in
    let all : read_some g.T.Saved.read c.in-Some.count c.number.new.self ≡ Some (xs, rest) =
    ap (λ (o : Option (ℕ × List ℕ)). option_and_then (λ p. read_some g.T.Saved.read p.0 p.1) o) some ∙ whole in
    rw all at c.restore_some.ensures

pub returns-in-None-clause-back : goal.returns-in-None-clause-back
returns-in-None-clause-back g c = λ xs rest fits is.
    let whole : read_list g.T.Saved.read c.args.from.now ≡ Some (xs, rest) = list_read g.T.Saved.text g.T.Saved.read g.T.Saved.Fits g.met.T.Saved.back xs rest c.args.from.now fits is in
    let none : None ≡ number_of c.args.from.now = c.in-None.ensures in
    ap (λ (o : Option (ℕ × List ℕ)). option_and_then (λ p. read_some g.T.Saved.read p.0 p.1) o) none ∙ whole

use Rattle.std.proofs.Common.{◌≡◌, ◌∙◌, ◌++◌, Ok, Err, List, ℕ, subst, take}
use Rattle.wsm_fed.specs.Fed.{step}
use Rattle.wsm_fed.specs.Seen.{Hears, stand_in}
use Rattle.wsm_fed.specs.declared.held.Held.{Held}
use Rattle.wsm_fed.proofs.FedLemmas.{ends_broken, ends_line}
use Rattle.wsm_fed.proofs.fed.Fed.end_line.Goals as goal

pub returns-in-Ok-clause-ends : goal.returns-in-Ok-clause-ends
returns-in-Ok-clause-ends c =
    let f = c.args.self.now in
    let line : c.deref.result.now ≡ take f.most (f.part.items ++ c.args.line.now) = c.deref.ensures.value ∙ c.in_ok-add.ensures.part in
    let heard = subst (λ (h : Held). Hears (step (stand_in h) c.deref.result.now) c.hear.new.self (Ok c.in-Ok.is_chunk)) c.in_ok-add.ensures.held c.in-Ok.ensures in
    ends_line f c.hear.new.self c.add.new.self.most c.clear.new.self.items c.args.line.now c.in-Ok.is_chunk c.requires.given c.requires.line (subst (λ (l : List ℕ). Hears (step (stand_in f.held) l) c.hear.new.self (Ok c.in-Ok.is_chunk)) line heard) c.clear.ensures.items c.in_ok-add.ensures.most

pub returns-in-Err-clause-ends : goal.returns-in-Err-clause-ends
returns-in-Err-clause-ends c =
    let f = c.args.self.now in
    let line : c.deref.result.now ≡ take f.most (f.part.items ++ c.args.line.now) = c.deref.ensures.value ∙ c.in_ok-add.ensures.part in
    let heard = subst (λ (h : Held). Hears (step (stand_in h) c.deref.result.now) c.hear.new.self (Err c.in-Err.fault)) c.in_ok-add.ensures.held c.in-Err.ensures in
    ends_broken f c.hear.new.self c.args.line.now c.in-Err.fault c.requires.given c.requires.line (subst (λ (l : List ℕ). Hears (step (stand_in f.held) l) c.hear.new.self (Err c.in-Err.fault)) line heard)

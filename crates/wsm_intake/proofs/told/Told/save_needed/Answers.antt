use Rattle.wsm_intake.specs.Staying.{Cuts}
use Rattle.wsm_log_text.proofs.NeededEvents.{some_in}
use Rattle.wsm_intake.proofs.told.Told.save_needed.Goals as goal

pub returns-in_ok-add_list-in-Some-clause-serves : goal.returns-in_ok-add_list-in-Some-clause-serves
returns-in_ok-add_list-in-Some-clause-serves c = λ p past serves. record {
  program = serves.program;
  fits = serves.fits;
  staying = c.in_ok-add_list-in-Some.ensures.cuts p past (some_in (λ k. Cuts p k past) c.args.self.now.staying c.in-Some.staying c.in-Some.is serves.staying);
}

pub returns-in_ok-add_list-in-Some-clause-saved : goal.returns-in_ok-add_list-in-Some-clause-saved
returns-in_ok-add_list-in-Some-clause-saved c = λ p past serves kept.
    c.in_ok-add_list-in-Some.ensures.listed p past (some_in (λ k. Cuts p k past) c.args.self.now.staying c.in-Some.staying c.in-Some.is serves.staying)

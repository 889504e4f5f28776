use Rattle.std.proofs.Common.{sym, ap, ◌∙◌}
use Rattle.wsm_keep.specs.declared.keeper.Keeper.{Keeper}
use Rattle.wsm_keep.specs.Keeper.{HasSettings}
use Rattle.wsm_keep.proofs.Behind.{next_for_panes, next_for_streams}
use Rattle.wsm_keep.proofs.Cuts.{settings_of, on_ok, on_ok_all}
use Rattle.wsm_keep.proofs.keeper.Keeper.queue_row.Goals as goal

pub returns-in-Panes-clause-fits : goal.returns-in-Panes-clause-fits
returns-in-Panes-clause-fits c = λ q rows e lawful fits told.
    let old = c.args.self.now in
    let new = c.queue_for_panes.new.self in
    let done = c.queue_for_panes.ensures in
    let same : HasSettings old new = record { shape = ap (λ (k : Keeper). k.shape) done.others; lateness = ap (λ (k : Keeper). k.lateness) done.others; form = ap (λ (k : Keeper). k.form) done.others } in
    on_ok c.queue_for_panes.result
    (λ queue. record {
      of = settings_of q old new same fits.of;
      queues = next_for_panes q lawful.shape lawful.timely old rows fits.queues e c.args.text.now c.args.judged told new (sym fits.of.form ∙ c.in-Panes.is) (ap (λ (k : Keeper). k.since) done.others) done.before queue;
    })
    done.queue

pub returns-in_default : goal.returns-in_default
returns-in_default c =
    let old = c.args.self.now in
    let new = c.queue_for_streams.new.self in
    let done = c.queue_for_streams.ensures in
    let same : HasSettings old new = record { shape = ap (λ (k : Keeper). k.shape) done.others; lateness = ap (λ (k : Keeper). k.lateness) done.others; form = ap (λ (k : Keeper). k.form) done.others } in
    record {
      shape = same.shape;
      lateness = same.lateness;
      begins = ap (λ (k : Keeper). k.begins) done.others;
      fits = λ q rows e lawful fits told.
          on_ok_all c.queue_for_streams.result
          (λ before queue since. record {
            of = settings_of q old new same fits.of;
            queues = next_for_streams q lawful.shape lawful.timely old rows fits.queues e c.args.text.now c.args.judged told new (λ panes. c.in_default.not-Panes (fits.of.form ∙ panes)) before queue since;
          })
          done.before done.queue done.since;
    }

use Rattle.std.proofs.Common.{rules, ◌-ℤ◌, ℤ, [], SFits, w64, to_z-of_z, refl, sym, ap, subst, ◌∙◌}
use Rattle.wsm_semantics.specs.FromWatermark.{Times, dropped_time}
use Rattle.wsm_keep.specs.declared.keeper.Keeper.{Keeper}
use Rattle.wsm_keep.specs.Holds.{read, times_in}
use Rattle.wsm_keep.specs.Begins.{HasCounted}
use Rattle.wsm_keep.specs.Items.{times_of}
use Rattle.wsm_keep.specs.Staying.{events_in, thinned, done_by}
use Rattle.wsm_keep.proofs.Cuts.{cut_counts, cut_is}
use Rattle.wsm_keep.proofs.keeper.Keeper.cut.Goals as goal

pub returns-clause-cut : goal.returns-clause-cut
returns-clause-cut c = λ q rows lawful fits.
    let k = c.args.self.now in
    let expired : SFits w64 c.in-Some.expired = search rules in
    let before : SFits w64 k.before = search rules in
    let late : SFits w64 k.lateness = search rules in
    let new : Keeper = record k { queue = c.in_ok-self.field-0; begins = c.leave_beyond.new.begins; most = c.max-self.result } in
    cut_is q lawful k new rows fits (times_of c.in_ok-firsts.firsts)
    (λ key. c.in_ok-firsts.ensures key ∙ ap (λ (t : ℤ). dropped_time k.shape t (times_in key k.queue)) (to_z-of_z expired ∙ c.in-Some.ensures.value ∙ (λ i. to_z-of_z before i -ℤ to_z-of_z late i)))
    (record { shape = refl; lateness = refl; form = refl }) refl refl
    (c.in_ok-self.ensures ∙ ap (thinned done_by (times_of c.in_ok-firsts.firsts) []) c.replace-queue.ensures.value)

pub returns-clause-counted : goal.returns-clause-counted
returns-clause-counted c = λ q rows lawful panes fits begun.
    let k = c.args.self.now in
    let expired : SFits w64 c.in-Some.expired = search rules in
    let before : SFits w64 k.before = search rules in
    let late : SFits w64 k.lateness = search rules in
    let x : Times = times_of c.in_ok-firsts.firsts in
    let new : Keeper = record k { queue = c.in_ok-self.field-0; begins = c.leave_beyond.new.begins; most = c.max-self.result } in
    subst (HasCounted q (events_in read rows)) (sym c.leave_beyond.ensures)
    (cut_counts q lawful k new rows fits x
    (λ key. c.in_ok-firsts.ensures key ∙ ap (λ (t : ℤ). dropped_time k.shape t (times_in key k.queue)) (to_z-of_z expired ∙ c.in-Some.ensures.value ∙ (λ i. to_z-of_z before i -ℤ to_z-of_z late i)))
    panes k.begins.items begun)

use Rattle.std.proofs.Common.{◌≡◌, ◌∙◌, ◌∷◌, List, SFits, w64, to_z-of_z, sym, ap}
use Rattle.std.specs.Prelude.{is_none}
use Rattle.wsm_record.specs.Event.{Event, event_of}
use Rattle.wsm_semantics.specs.Query.{effect_of, is_taken, mark}
use Rattle.wsm_engine.specs.Meaning.{selects_record}
use Rattle.wsm_cut.proofs.Judging.{none_is}
use Rattle.wsm_keep.specs.Holds.{read, rows_with}
use Rattle.wsm_keep.specs.Staying.{events_in}
use Rattle.wsm_keep.proofs.OfEvents.{events_with}
use Rattle.wsm_saved.specs.Events.{event_text}
use Rattle.wsm_part_programs.specs.Names.{of_names}
use Rattle.wsm_log_text.proofs.NeededEvents.{some_in}
use Rattle.wsm_keyed_told.specs.Staying.{Cuts, CutsAll}
use Rattle.wsm_keyed_told.proofs.ByNames.{Naming, on_ok_all}
use Rattle.std.proofs.lemmas.Result.{on_ok_weaker}
use Rattle.wsm_keyed_told.proofs.staying.note.Goals as goal

pub returns-in-Some : goal.returns-in-Some
returns-in-Some c = λ p past cuts answered.
    let e = event_of c.args.event.now in
    let first : SFits w64 c.args.before = c.ranges.before in
    let next : SFits w64 c.args.mark = c.ranges.mark in
    let rows = rows_with event_text past in
    let here = some_in (λ k. CutsAll p k past) c.args.staying.now c.in-Some.staying c.in-Some.is cuts in
    let back : past ≡ events_in read rows = sym (events_with event_text past) in
    on_ok_weaker c.take.result (λ each all named. each (all, named))
    (on_ok_all c.take.result (λ (n : Naming (e ∷ past)). Cuts (of_names p n.0) c.take.new.self (e ∷ past)) (λ n.
    let q = of_names p n.0 in
    let is = answered n.0 n.1 in
    c.take.ensures q past (here n.0 n.1.1) (c.judge_told-judged.ensures q rows
    (none_is c.args.reply.now.refusal c.is_none-is_taken.result c.is_none-is_taken.ensures ∙ ap is_none is.verdict ∙ ap (λ (es : List Event). is_taken q es e) back)
    (is.selected ∙ ap (λ (es : List Event). selects_record (effect_of q es e)) back)
    (to_z-of_z first ∙ is.before ∙ ap (mark q) back)
    (to_z-of_z next ∙ is.now ∙ ap (λ (es : List Event). mark q (e ∷ es)) back))))

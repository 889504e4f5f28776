use Rattle.std.proofs.Common.{◌≡◌, ◌∙◌, ◌++◌, ℕ, List, [], length, map, sym, ap, subst, append-nil}
use Rattle.wsm_record.specs.Event.{event_of}
use Rattle.wsm_turns.specs.Turns.{watermark}
use Rattle.wsm_head.specs.StandsFor.{program_with}
use Rattle.wsm_saved.specs.Events.{event_text}
use Rattle.wsm_saved.specs.Lists.{list_text}
use Rattle.wsm_saved_turns.proofs.Reading.{both}
use Rattle.wsm_log_text.specs.Needed.{needed_in_order}
use Rattle.wsm_log_text.specs.Standing.{AreFacts, Says}
use Rattle.wsm_keyed_intake.specs.KeyedLog.{KeyedLog, names_of, setting_by}
use Rattle.wsm_keyed_intake.specs.Saved.{IsReadBy, facts_by, query_with, rest_text}
use Rattle.wsm_keyed_intake.proofs.SavedFacts.{facts_of_count, says_of_count}
use Rattle.wsm_keyed_intake.proofs.intake.KeyedIntake.resume.Goals as goal

pub returns : goal.returns
returns c = λ log before on saved.
    let clocks = c.args.clocks in
    let g : KeyedLog = record log { clocks = clocks } in
    let standing = c.in-Some.standing in
    let events = map event_of c.deref.result.now in
    let by : (later : List (List ℕ)) → (names : c.in-Some-2.names ≡ names_of g before) × IsReadBy g saved.records (names_of g (later ++ before)) before c.args.text.now (saved.by later) standing events = λ later.
    let all = names_of g (later ++ before) in
    let s = saved.by later in
    let q = query_with g saved.records all in
    let w = setting_by clocks (program_with saved.records g.program) all in
    let mark = watermark w s.other.fed in
    let f = facts_by g all before q s.other s.waiting s.known in
    let needed = needed_in_order q s.other.fed in
    let facts = facts_of_count clocks (length all) c.block.result w mark f c.requires.named s.facts in
    let stands = rw c.in-Some.is at c.in_ok-standing.ensures w mark f (rest_text (names_of g before) needed)
    (subst (λ (n : ℕ). AreFacts clocks n w mark f) (sym c.count_in-count.ensures.count) facts) (c.new-from.ensures ∙ s.is) in
    let names = rw c.in-Some-2.is at c.in_ok-names.ensures (names_of g before) (list_text event_text needed) saved.names stands.1 in
    let read = rw c.in-Some-3.is at c.in_ok-events.ensures.back needed [] s.events (names.1 ∙ sym (append-nil (list_text event_text needed))) in (
      names.0,
      record {
        says = says_of_count clocks c.block.result (length all) standing f c.requires.named (subst (λ (n : ℕ). Says clocks n standing f) c.count_in-count.ensures.count stands.0);
        needs = ap (map event_of) c.deref.ensures.value ∙ (both (map event_of c.in-Some-3.events.items) needed c.restore_all.new.from [] read).0;
      },
    ) in
    c.go_on.ensures g before c.args.text.now saved on (record { names = (by []).0; by = λ later. (by later).1 })

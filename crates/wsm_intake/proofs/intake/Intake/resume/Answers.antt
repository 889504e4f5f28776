use Rattle.std.proofs.Common.{◌≡◌, ◌∙◌, ℕ, [], length, map, sym, ap, subst, append-nil}
use Rattle.wsm_record.specs.Event.{event_of}
use Rattle.wsm_record.specs.Schema.{Declared}
use Rattle.wsm_program.specs.Program.{Program}
use Rattle.wsm_machine.specs.Meaning.{query_of}
use Rattle.wsm_turns.specs.Clocks.{count_in}
use Rattle.wsm_turns.specs.Turns.{watermark}
use Rattle.wsm_head.specs.StandsFor.{program_with}
use Rattle.wsm_saved.specs.Events.{event_text}
use Rattle.wsm_saved.specs.Lists.{list_text}
use Rattle.wsm_saved_turns.proofs.Reading.{both}
use Rattle.wsm_intake.specs.Turns.{setting_by}
use Rattle.wsm_log_text.specs.Standing.{AreFacts, Says}
use Rattle.wsm_intake.specs.Saved.{facts_of}
use Rattle.wsm_log_text.specs.Needed.{needed_in_order}
use Rattle.wsm_intake.proofs.intake.Intake.resume.Goals as goal

pub returns : goal.returns
returns c = λ s p before on saved.
    let clocks = c.args.clocks in
    let mid = program_with saved.records p in
    let w = setting_by clocks mid in
    let mark = watermark w saved.other.fed in
    let f = facts_of s clocks p before (query_of mid) saved.other saved.waiting saved.known in
    let needed = needed_in_order (query_of mid) saved.other.fed in
    let keys : c.key_count.result ≡ length p.header.schema.keys =
    c.key_count.ensures.count ∙ ap (λ (d : Declared). length d.keys) (c.schema.ensures ∙ ap (λ (m : Program). m.header.schema) on.fits.holds.told.program) in
    let count : c.count_in-count.result ≡ count_in clocks (length p.header.schema.keys) = c.count_in-count.ensures.count ∙ ap (count_in clocks) keys in
    let facts = subst (λ (n : ℕ). AreFacts clocks n w mark f) (sym count) saved.facts in
    let stands = rw c.in-Some.is at c.in_ok-standing.ensures w mark f (list_text event_text needed) facts (c.new-from.ensures ∙ saved.is) in
    let events = rw c.in-Some-2.is at c.in_ok-events.ensures.back needed [] saved.events (stands.1 ∙ sym (append-nil (list_text event_text needed))) in
    c.go_on.ensures s clocks p before c.args.text.now saved on (record {
      says = subst (λ (n : ℕ). Says clocks n c.in-Some.standing f) count stands.0;
      needs = ap (map event_of) c.deref.ensures.value ∙ (both (map event_of c.in-Some-2.events.items) needed c.restore_all.new.from [] events).0;
    })

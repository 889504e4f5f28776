use Rattle.std.proofs.Common.{◌≡◌, ◌∙◌, ◌++◌, ◌+◌, ◌∷◌, ℕ, List, Ok, Option, append_assoc, length, map, sym, ap, subst}
use Rattle.std.proofs.lemmas.Result.{on_ok_weaker}
use Rattle.wsm_record.specs.Event.{Event, event_of}
use Rattle.wsm_admission.specs.Admission.{counter}
use Rattle.wsm_admission.specs.Clock.{fits_declared}
use Rattle.wsm_admission.specs.declared.verdict.Refusal.{Refusal}
use Rattle.wsm_semantics.specs.ByNumber.{event_by}
use Rattle.wsm_semantics.specs.Lines.{Out, events, refusal_lines}
use Rattle.wsm_semantics.specs.Query.{verdict_on}
use Rattle.wsm_semantics.specs.Relation.{turn_rows}
use Rattle.wsm_semantics.specs.Text.{lines_text}
use Rattle.wsm_program.specs.Program.{Program}
use Rattle.wsm_part_programs.specs.Names.{of_names}
use Rattle.wsm_part_engines.specs.Answers.{Feeds}
use Rattle.wsm_part_engines.specs.Fits as parts
use Rattle.wsm_key_names.specs.Reading.{numbered}
use Rattle.wsm.proofs.RowTurns.{one_more}
use Rattle.wsm_keyed_run.specs.declared.turns.KeyedTurns.{KeyedTurns}
use Rattle.wsm_keyed_told.specs.KeyedLines.{keyed_lines}
use Rattle.wsm_keyed_told.proofs.KeyedLines.{keyed_both, keyed_refusal}
use Rattle.wsm_keyed_told.proofs.More.{by_more}
use Rattle.wsm_keyed_run.specs.Turns.{Counts}
use Rattle.wsm_keyed_run.proofs.Turn.{placed}
use Rattle.wsm_keyed_run.proofs.turns.KeyedTurns.feed.Goals as goal

pub feed-requires-clause-placed : goal.feed-requires-clause-placed
feed-requires-clause-placed c = subst (parts.IsPlaced _) (sym c.event.ensures) (placed _ _ c.requires.placed)

pub feed-requires-clause-judged : goal.feed-requires-clause-judged
feed-requires-clause-judged c = c.values_fit.ensures ∙ c.requires.judged ∙ ap (fits_declared c.args.self.now.parts.program.header.schema) (sym c.event.ensures)

pub returns-clause-adds : goal.returns-clause-adds
returns-clause-adds c = λ p before ready.
    let old = c.args.self.now in
    let e = numbered old.events in
    let past = events before in
    let counts = ready.counts in
    let d = p.header.schema in
    let names = old.events.names in
    let is = ready.named.0 in
    let same : parts.by_number (length old.parts.program.header.schema.keys) c.part.result (event_of c.event.result.now) ≡ e =
    λ i. event_by (parts.number_of (sym c.requires.blocks i) (c.part.ensures i)) (c.event.ensures i) in
    let feeds : Feeds old.parts c.feed.new.self e c.in_ok-reply.reply.refusal = subst (λ (x : Event). Feeds old.parts c.feed.new.self x c.in_ok-reply.reply.refusal) same c.in_ok-reply.ensures.feeds in
    let fed : KeyedTurns = record old { parts = c.feed.new.self } in
    let next : Counts p fed (Ok e ∷ before) = record { lawful = counts.lawful; panes = counts.panes; parts = feeds.fits p names past counts.parts is; faults = counts.faults } in
    let mid = c.tell.new.self in
    let others : mid ≡ record fed { lines = mid.lines } = c.in_ok-tell.ensures.others in
    let told : Counts p mid (Ok e ∷ before) = subst (λ (t : KeyedTurns). Counts p t (Ok e ∷ before)) (sym others) (record { lawful = next.lawful; panes = next.panes; parts = next.parts; faults = next.faults }) in
    on_ok_weaker c.add_rows.result (λ added.
    record {
      counts = record { lawful = told.lawful; panes = told.panes; parts = told.parts; faults = told.faults };
      events = ap (λ (t : KeyedTurns). t.events) others;
      lines = λ more.
          let all = names ++ more in
          let by = by_more names more p counts.lawful counts.panes old.parts c.feed.new.self past e c.in_ok-reply.reply.refusal feeds counts.parts is in
          let refusal = verdict_on (of_names p all) past e in
          let rows = turn_rows (of_names p all) past e in
          let n = counter (length before + 1) in
          let first : mid.lines.items ≡ old.lines.items ++ keyed_lines d all (refusal_lines n refusal) =
          c.in_ok-tell.ensures.lines p (Ok e ∷ before) next d
          ∙ ap (λ (n : ℕ). old.lines.items ++ lines_text d (refusal_lines n c.in_ok-reply.reply.refusal)) (one_more (length before))
          ∙ ap (λ (r : Option Refusal). old.lines.items ++ lines_text d (refusal_lines n r)) by.verdict
          ∙ ap (λ (l : List ℕ). old.lines.items ++ l) (keyed_refusal d all n refusal) in
          let schema : mid.parts.program.header.schema ≡ d = ap (λ (m : Program). m.header.schema) told.parts.program in
          let second : c.add_rows.new.lines.items ≡ mid.lines.items ++ keyed_lines d all (map Out rows) =
          added
          ∙ (λ i. mid.lines.items ++ keyed_lines (schema i) (c.names.ensures i) (map Out (others i).parts.rows))
          ∙ (λ i. mid.lines.items ++ keyed_lines d (others i).events.names (map Out c.feed.new.self.rows))
          ∙ ap (λ (l : List ℕ). mid.lines.items ++ l) by.lines in
          second ∙ ap (λ (l : List ℕ). l ++ keyed_lines d all (map Out rows)) first ∙ append_assoc old.lines.items (keyed_lines d all (refusal_lines n refusal)) (keyed_lines d all (map Out rows))
          ∙ ap (λ (l : List ℕ). old.lines.items ++ l) (sym (keyed_both d all (refusal_lines n refusal) (map Out rows)));
    }) c.add_rows.ensures

use Rattle.std.proofs.Common.{◌≡◌, ◌∷◌, ℕ, ℤ, List, Some, None}
use Rattle.wsm_record.specs.declared.event.Value.{Value}
use Rattle.wsm_record.specs.Event.{Event, Record, Watermark}
use Rattle.wsm_semantics.specs.Query.{verdict_on}
use Rattle.wsm_program.specs.Program.{Program}
use Rattle.wsm_rules.specs.Costs.{needed}
use Rattle.wsm_machine.specs.Meaning.{query_of}
use Rattle.wsm_engine.specs.Laws.{RecordEnds}
use Rattle.wsm_inputs.specs.Stated.{TakenEnds}
use Rattle.wsm_inputs.proofs.stated.keeps_to_stated.Goals as goal

taken : (p : Program) → ((past : List Event) (key : ℕ) (time : ℤ) (values : List Value) → verdict_on (query_of p) past (Record (Some key) time values) ≡ None → RecordEnds p key values)
    → (past : List Event) (e : Event) → TakenEnds p past e
taken p ends past (Record (Some key) time values) = ends past key time values
taken p ends past (Record None time values) = tt
taken p ends past (Watermark source time) = tt

pub returns : goal.returns
returns c = λ past e.
    let p = c.args.verified.now in
    let judged = c.program.ensures.accepted in
    let lawful = rw c.program.ensures.program at c.header-header.ensures.lawful in
    record {
      record_ends = taken p (c.never_traps.ensures.records p (needed p) judged lawful) past e;
      firings_end = c.never_traps.ensures.firings p (needed p) judged lawful past e;
      held = c.held_within.ensures p (needed p) judged lawful (e ∷ past);
      record_within = c.spends_within.ensures.records p (needed p) judged lawful past e;
      panes_within = c.spends_within.ensures.panes p (needed p) judged lawful past e;
    }

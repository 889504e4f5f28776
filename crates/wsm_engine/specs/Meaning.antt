-- What an engine means: how it fits a history, and what it answers to the next event.
use Rattle.std.specs.Prelude.{◌≡◌, ◌≤◌, ◌+◌, Bool, true, false, List, [], ◌∷◌, map, length, sum, IfSome, Result}
use Rattle.wsm_record.specs.declared.words.Form.{Form}
use Rattle.wsm_record.specs.declared.words.Form.TheVariants as form
use Rattle.wsm_record.specs.Event.{Event}
use Rattle.wsm_admission.specs.declared.verdict.Admitted.{Admitted}
use Rattle.wsm_admission.specs.declared.verdict.Refusal.{Refusal}
use Rattle.wsm_admission.specs.declared.verdict.Refusal.TheVariants as refusal
use Rattle.wsm_admission.specs.Clock.{admitted_count, late_count, refused_count}
use Rattle.wsm_admission.specs.Admission as admission
use Rattle.wsm_admission.specs.Admission.{counter}
use Rattle.wsm_semantics.specs.Query.{Query, Effect, Selects, Rises, Nothing, effect_of, verdict_on}
use Rattle.wsm_semantics.specs.Firings.{firings, firings_so_far}
use Rattle.wsm_semantics.specs.Relation.{relation, turn_rows}
use Rattle.wsm_semantics.specs.Kept.{kept}
use Rattle.wsm_semantics.specs.Summaries.{summaries}
use Rattle.wsm_program.specs.Program.{Program}
use Rattle.wsm_machine.specs.Meaning.{query_of, plan_of, record_cost, pane_cost}
use Rattle.wsm_firing.specs.Tally.{greatest}
use Rattle.wsm_engine.specs.declared.reply.Reply.{Reply}
use Rattle.wsm_semantics.specs.declared.ending.Totals.{Totals}
use Rattle.wsm_engine.specs.State.{State}

-- an event selects a record
abbrev pub selects_record : Effect → Bool
selects_record (Selects d) = true
selects_record (Rises old new) = false
selects_record Nothing = false

-- the reply of a program to an event after a history
abbrev pub reply_to : Program → List Event → Event → Reply
reply_to p past e = let q = query_of p in let costs = map (pane_cost p) (firings q past e) in record {
  refusal = verdict_on q past e;
  selected = selects_record (effect_of q past e);
  record_steps = record_cost p past e;
  fired = length (firings q past e);
  pane_steps_max = greatest costs;
  pane_steps_total = sum costs;
}

-- what the events of a history come to
abbrev pub totals_of : Query → List Event → Totals
totals_of q past = record {
  rows = counter (length past);
  admitted = admitted_count q.clock q.shape q.declared past;
  late = counter (late_count q.clock q.shape q.declared past);
  refused = counter (refused_count q.clock q.shape q.declared past);
  panes = counter (length (firings_so_far q past));
}

-- the form writes what a relation gains or loses
abbrev pub KeepsRelation : Form → Type 0
KeepsRelation form.Istream = Unit {0}
KeepsRelation form.Dstream = Unit {0}
KeepsRelation form.Rstream = ⊥
KeepsRelation form.Panes = ⊥

-- what is kept is the history's; a relation is kept where changes against it are written
pub record Fits (s : State) (past : List Event) : Type 0 where
  pub clock : s.machine.admission.clock ≡ (query_of s.program).clock
  pub admission : admission.Fits (query_of s.program).shape (query_of s.program).declared s.machine.admission past
  pub panes : s.machine.panes ≡ summaries (plan_of s.program) (query_of s.program).mode (kept (query_of s.program) past)
  pub relation : KeepsRelation (query_of s.program).form → s.machine.relation ≡ relation (query_of s.program) past
  pub fed : s.machine.fed ≡ counter (length past)
  pub fired : s.machine.fired ≡ counter (length (firings_so_far (query_of s.program) past))

-- a refusal is counted, as late or as refused
abbrev pub counted : Refusal → admission.State → admission.State
counted refusal.Late s = record s { late = counter (s.late + 1) }
counted _ s = record s { refused = counter (s.refused + 1) }

-- a refused event is counted, and changes nothing else; it writes no row
abbrev pub refused_state : State → Refusal → State
refused_state s r = record s { machine = record s.machine { admission = counted r s.machine.admission; fed = counter (s.machine.fed + 1) }; rows = [] }

-- the answer to an event, by what an engine keeps
abbrev pub answer_by : State → Event → Result Admitted Refusal
answer_by s e = admission.decision s.program.header.shape s.program.header.schema s.machine.admission e

-- an engine takes an event: what it keeps then fits the history with the event in front, and its reply
-- and its rows are the definition's for that history
pub record Feeds (old new : State) (e : Event) (result : Reply) : Type 0 where
  pub program : new.program ≡ old.program
  pub fits : (past : List Event) → Fits old past → Fits new (e ∷ past)
  pub reply : (past : List Event) → Fits old past → result ≡ reply_to old.program past e
  pub rows : (past : List Event) → Fits old past → new.rows ≡ turn_rows (query_of old.program) past e
  pub room : new.room ≡ old.room
  pub admission : new.machine.admission ≡ admission.after (answer_by old e) e old.machine.admission
  pub refused : IfSome result.refusal (λ r. new ≡ refused_state old r)
  pub record_within : result.record_steps ≤ old.program.header.budget.per_record
  pub pane_within : result.pane_steps_max ≤ old.program.header.budget.per_pane

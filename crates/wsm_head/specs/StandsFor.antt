-- A history of events that stands for another: the same follows on both, whatever comes, by verdicts and rows. The second is of the
-- query with another RECORDS, of which as many are left as of the first. So what RECORDS refuse is alike as well.
use Rattle.std.specs.Prelude.{◌≡◌, ◌⊎◌, ℕ, ◌+◌, ◌-◌, List, ◌∷◌, ℤ, pos, unsigned_abs}
use Rattle.wsm_record.specs.declared.words.Form.TheVariants as form
use Rattle.wsm_record.specs.Event.{Event}
use Rattle.wsm_admission.specs.Clock.{admitted_count}
use Rattle.wsm_semantics.specs.Query.{Query, verdict_on}
use Rattle.wsm_semantics.specs.Relation.{relation, turn_rows}
use Rattle.wsm_semantics.specs.Summaries.{Plan}
use Rattle.wsm_semantics.specs.ByKey.{with_records}
use Rattle.wsm_semantics.specs.FromKept.{KeepAlike}
use Rattle.wsm_semantics.specs.Needed.{needed}
use Rattle.wsm_program.specs.Program.{Program}

-- how many records of a history were taken
abbrev pub taken : Query → List Event → ℕ
taken q past = admitted_count q.clock q.shape q.declared past

-- the same is kept of both: marks, panes, for a stream the relation, and how many records may still be taken
pub record StandsFor {X : Type 0} (plan : Plan X) (q : Query) (records : ℤ) (past other : List Event) : Type 0 where
  pub kept : KeepAlike plan q q.clock.start records past other
  pub relation : (q.form ≡ form.Panes) ⊎ (relation q past ≡ relation (with_records records q) other)
  pub left : unsigned_abs records + taken q past ≡ unsigned_abs q.clock.records + taken (with_records records q) other

-- then an event has the same verdict after both and writes the same rows, and behind it the one stands for the other
pub record Follows {X : Type 0} (plan : Plan X) (q : Query) (records : ℤ) (past other : List Event) (e : Event) : Type 0 where
  pub verdict : verdict_on (with_records records q) other e ≡ verdict_on q past e
  pub rows : turn_rows (with_records records q) other e ≡ turn_rows q past e
  pub stands : StandsFor plan q records (e ∷ past) (e ∷ other)

-- the RECORDS by which as many are left behind the needed events as behind the history
abbrev pub records_left : Query → List Event → ℤ
records_left q past = pos ((unsigned_abs q.clock.records - taken q past) + taken q (needed q past))

-- a program with another RECORDS
abbrev pub program_with : ℤ → Program → Program
program_with records p = record p { header = record p.header { clock = record p.header.clock { records = records } } }

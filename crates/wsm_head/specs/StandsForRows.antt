-- Worked rows on how many RECORDS are left behind the needed events. Histories are written oldest row first.
use Rattle.std.specs.Prelude.{◌≡◌, refl, ℕ, List, [], ◌∷◌, reverse, pos, Some, None}
use Rattle.wsm_record.specs.declared.event.Value.TheVariants.{Int}
use Rattle.wsm_record.specs.Event.{Event, Record}
use Rattle.wsm_windows.specs.declared.window.Shape.TheVariants.{Fixed}
use Rattle.wsm_admission.specs.declared.verdict.Refusal.TheVariants.{RecordLimit}
use Rattle.wsm_semantics.specs.Query.{Query, verdict_on}
use Rattle.wsm_semantics.specs.Lines.{events}
use Rattle.wsm_semantics.specs.Rows.{base, a, w}
use Rattle.wsm_semantics.specs.ByKey.{with_records}
use Rattle.wsm_semantics.specs.Needed.{needed}
use Rattle.wsm_head.specs.StandsFor.{records_left, taken}

-- windows of 10, LATENESS 10, RECORDS 5
abbrev q : Query
q = record base { shape = Fixed (pos 10); clock = record base.clock { records = pos 5 } }

abbrev past : List Event
past = events (reverse (a 5 1 ∷ w 18 ∷ w 20 ∷ a 15 2 ∷ a 20 3 ∷ w 30 ∷ a 28 4 ∷ w 32 ∷ []))

abbrev record_at : ℕ → Event
record_at time = Record (Some 0) (pos time) (Int (pos 1) ∷ [])

-- four were taken, of which two are needed
four_taken : taken q past ≡ 4
four_taken = refl

two_needed : taken q (needed q past) ≡ 2
two_needed = refl

-- so that one more may be taken
one_left : records_left q past ≡ pos 3
one_left = refl

one_more : verdict_on q past (record_at 33) ≡ None × verdict_on (with_records (pos 3) q) (needed q past) (record_at 33) ≡ None
one_more = (refl, refl)

-- and then none
none_left : verdict_on q (record_at 33 ∷ past) (record_at 34) ≡ Some RecordLimit × verdict_on (with_records (pos 3) q) (record_at 33 ∷ needed q past) (record_at 34) ≡ Some RecordLimit
none_left = (refl, refl)

-- by the RECORDS of the whole more would be
by_those_of_the_whole : verdict_on q (record_at 33 ∷ needed q past) (record_at 34) ≡ None
by_those_of_the_whole = refl

-- What the cost of a record counts of sessions is what it counts of the panes that are held.
use Rattle.std.proofs.Common.{◌≡◌, ℕ, Bool, true, false, List, ◌∷◌, length, ℤ, Some, IsTrue, refl, sym, ap, ◌∙◌}
use Rattle.std.specs.Prelude.{nat_lt}
use Rattle.wsm_record.specs.declared.event.Value.{Value}
use Rattle.wsm_record.specs.Event.{Event, Record}
use Rattle.wsm_windows.specs.declared.window.Shape.{Shape}
use Rattle.wsm_windows.specs.declared.window.Shape.TheVariants.{Fixed, Sliding, Session}
use Rattle.wsm_windows.specs.Windows.{IsShape}
use Rattle.wsm_admission.specs.Clock.{admitted_count, is_late, is_late_by}
use Rattle.wsm_admission.proofs.Taken.{taken_record}
use Rattle.wsm_semantics.specs.Query.{Query, Datum, SessionsByEvent, mark, verdict_on, is_taken, selected}
use Rattle.wsm_semantics.specs.Panes.{windows_among}
use Rattle.wsm_semantics.specs.Kept.{kept}
use Rattle.wsm_semantics.specs.Replay.{datum}
use Rattle.wsm_semantics.proofs.Decided.{none_is}
use Rattle.wsm_semantics.proofs.OneSession.{stands_in_one, as_many_linked}
use Rattle.wsm_program.specs.Program.{Program, is_program, is_timely}
use Rattle.wsm_program.proofs.Lawful.{header_parts, program_header}
use Rattle.wsm_rules.proofs.Lawful.{lawful}
use Rattle.wsm_machine.specs.Meaning.{query_of, joins_two, joins_kept, windows_entered, CountsSessions}

stands_once : (sh : Shape) → IsShape sh → (lateness : ℤ) (ds : List Datum) (d : Datum) → length (windows_among sh lateness (d ∷ ds) d) ≡ windows_entered sh d.time lateness d.mark
stands_once (Fixed size) ok lateness ds d = refl
stands_once (Sliding size period) ok lateness ds d = refl
stands_once (Session gap) ok lateness ds d = stands_in_one gap ok.period_low d ds

joins_alike : (q : Query) → SessionsByEvent q → (sh : Shape) → q.shape ≡ sh → IsShape sh → (past : List Event) (d : Datum) → is_late q.clock q.shape (mark q past) d.time ≡ false → joins_two sh (selected q past) d ≡ joins_kept sh d (kept q past)
joins_alike q timely (Fixed size) is ok past d prompt = refl
joins_alike q timely (Sliding size period) is ok past d prompt = refl
joins_alike q timely (Session gap) is ok past d prompt =
    ap (λ (n : ℕ). nat_lt 1 n) (sym (as_many_linked q gap ok.period_low is past d (ap (λ (by : Bool). is_late_by by q.shape q.clock.lateness (mark q past) d.time) (sym (timely gap is)) ∙ prompt)))

-- a program's sessions are late by the record's time
pub sessions_by_event : (p : Program) → IsTrue (is_program p) → SessionsByEvent (query_of p)
sessions_by_event p whole gap is =
    by_event p.header.shape p.header.clock.from_window is (header_parts p.header (program_header p whole)).timely
  where
    by_event : (shape : Shape) (from_window : Bool) → shape ≡ Session gap → is_timely from_window shape ≡ true → from_window ≡ false
    by_event shape false same timely = refl
    by_event (Fixed size) true same timely = absurd (cc)
    by_event (Sliding size period) true same timely = absurd (cc)
    by_event (Session g) true same timely = absurd (cc)

pub counts_sessions : (p : Program) → IsTrue (is_program p) → CountsSessions (query_of p)
counts_sessions p whole = record {
  stands_in = λ past key time values taken selects. stands_once p.header.shape (lawful p whole).shape p.header.clock.lateness (selected (query_of p) past) (datum (length past) (mark (query_of p) past) key time values);
  joins_them = λ past key time values taken selects. joins_alike (query_of p) (sessions_by_event p whole) p.header.shape refl (lawful p whole).shape past (datum (length past) (mark (query_of p) past) key time values) (in_time past key time values taken);
} where
  in_time : (past : List Event) (key : ℕ) (time : ℤ) (values : List Value) → is_taken (query_of p) past (Record (Some key) time values) ≡ true → is_late (query_of p).clock p.header.shape (mark (query_of p) past) time ≡ false
  in_time past key time values taken =
      (taken_record (query_of p).clock p.header.shape p.header.schema (mark (query_of p) past) (admitted_count (query_of p).clock p.header.shape p.header.schema past) (Some key) time values
      (none_is (verdict_on (query_of p) past (Record (Some key) time values)) taken)).prompt

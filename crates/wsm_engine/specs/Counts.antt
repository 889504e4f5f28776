-- What a decider counts, and what is known of an event before it is decided on.
use Rattle.std.specs.Prelude.{◌≡◌, ℕ, ◌+◌, Bool, true, false, Result, Ok, Err, unsigned_abs}
use Rattle.wsm_record.specs.Event.{Event}
use Rattle.wsm_record.specs.Schema.{Declared}
use Rattle.wsm_windows.specs.declared.window.Shape.{Shape}
use Rattle.wsm_admission.specs.declared.verdict.Admitted.{Admitted}
use Rattle.wsm_admission.specs.declared.verdict.Admitted.TheVariants as admitted
use Rattle.wsm_admission.specs.declared.verdict.Refusal.{Refusal}
use Rattle.wsm_admission.specs.Clock.{fits_declared}
use Rattle.wsm_admission.specs.Admission.{State, IsInRange, counter, decision}
use Rattle.wsm_engine.specs.declared.deciding.Decider.TheInside.{Inside}
use Rattle.wsm_engine.specs.declared.deciding.Known.{Known}
use Rattle.wsm_engine.specs.declared.deciding.Known.TheVariants.{Values, Taken}

-- what an admission keeps, with so many records more that were admitted, and so many that were refused
abbrev pub with_counts : State → ℕ → ℕ → State
with_counts s handed limited = record s { admitted = s.admitted + handed; refused = counter (s.refused + limited) }

abbrev pub counts_of : Inside → State
counts_of a = with_counts a.admission a.handed a.limited

pub record IsCounted (a : Inside) : Type 0 where
  pub range : IsInRange (counts_of a)
  pub limit : a.limit ≡ unsigned_abs a.admission.clock.records

-- what is known is so: whether the values of an event fit what is declared, or that it is a record which is admitted
abbrev pub IsKnown : Shape → Declared → State → Event → Known → Type 0
IsKnown shape declared s e (Values fit) = fit ≡ fits_declared declared e
IsKnown shape declared s e Taken = decision shape declared s e ≡ Ok admitted.Record

-- a record is taken
abbrev pub is_record : Result Admitted Refusal → Bool
is_record (Ok admitted.Record) = true
is_record (Ok (admitted.Watermark old new)) = false
is_record (Err r) = false

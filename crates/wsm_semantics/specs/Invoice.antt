-- The invoice: where panes discard what they showed, and each record is delivered at least once and comes in time at first, what
-- is written of a span of time is what its records come to: each counts once, whatever was delivered again, in whatever order,
-- and whatever fired when.
use Rattle.std.specs.Prelude.{◌≡◌, ℕ, Bool, true, false, ◌&&◌, List, [], ◌∷◌, filter, Contains, ℤ, pos, ◌+ℤ◌, ◌-ℤ◌, ◌*ℤ◌, ◌≤ℤ◌, int_lt, int_le, nat_eq, Option, Some, None}
use Rattle.std.specs.List.{AllByRecursion}
use Rattle.wsm_windows.specs.declared.window.Shape.TheVariants.{Fixed, Session}
use Rattle.wsm_semantics.specs.Query.{Query, mark, verdict_on}
use Rattle.wsm_semantics.specs.Amounts.{sum_of, amount_written, Amount, begins_in, CutsNoSession}
use Rattle.wsm_semantics.specs.Deliveries.{Sent, Delivery, Comes, Told, event_of, came, once_all, once_live}

-- ---- what is delivered

-- no two have one identifier
abbrev pub AreApart : List Sent → Type 0
AreApart [] = Unit {0}
AreApart (s ∷ ss) = AllByRecursion (λ r. nat_eq s.identifier r.identifier ≡ false) ss × AreApart ss

abbrev pub IsOneOf : List Sent → Delivery → Type 0
IsOneOf records (Comes s) = Contains records s
IsOneOf records (Told source time) = Unit {0}

-- each of some records at least once, and no other
pub record Delivers (records : List Sent) (ds : List Delivery) : Type 0 where
  pub apart : AreApart records
  pub each : AllByRecursion (λ s. came s.identifier ds ≡ true) records
  pub alone : AllByRecursion (IsOneOf records) ds

-- each is taken when it first comes
abbrev pub ComeInTime : Query → List Delivery → Type 0
ComeInTime q [] = Unit {0}
ComeInTime q (Comes s ∷ ds) = (came s.identifier ds ≡ false → verdict_on q (once_all ds) (event_of s) ≡ None) × ComeInTime q ds
ComeInTime q (Told source time ∷ ds) = ComeInTime q ds

-- ---- what is owed

abbrev pub is_of_key : ℕ → Option ℕ → Bool
is_of_key key None = false
is_of_key key (Some k) = nat_eq k key

-- a record of the key and of a span of time, of which WHERE is true
abbrev pub is_billed : Query → ℕ → ℤ → ℤ → Sent → Bool
is_billed q key from until s = is_of_key key s.key && ((int_le from s.time && int_lt s.time until) && q.selects key s.values)

abbrev pub amount_billed : Query → Amount → ℕ → ℤ → ℤ → List Sent → ℤ
amount_billed q amount key from until records = sum_of (λ s. amount key s.values) (filter (is_billed q key from until) records)

-- ---- the law

pub record Invoices (q : Query) (c : ℕ) (amount : Amount) : Type 0 where
  pub spans : (size : ℤ) → q.shape ≡ Fixed size → (records : List Sent) (ds : List Delivery) → Delivers records ds → ComeInTime q ds → (key : ℕ) (i j : ℤ) → ((j *ℤ size) +ℤ q.clock.lateness) ≤ℤ mark q (once_live q ds) →
      amount_written q (once_live q ds) c (begins_in key (i *ℤ size) (j *ℤ size)) ≡ amount_billed q amount key (i *ℤ size) (j *ℤ size) records
  pub sessions : (gap : ℤ) → q.shape ≡ Session gap → (records : List Sent) (ds : List Delivery) → Delivers records ds → ComeInTime q ds → (key : ℕ) (from until : ℤ) →
      CutsNoSession q gap key from (once_live q ds) → CutsNoSession q gap key until (once_live q ds) → (((until -ℤ pos 1) +ℤ gap) +ℤ q.clock.lateness) ≤ℤ mark q (once_live q ds) →
      amount_written q (once_live q ds) c (begins_in key from until) ≡ amount_billed q amount key from until records

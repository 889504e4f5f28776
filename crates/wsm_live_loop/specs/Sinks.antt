-- What sinks told, against what was handed out.
use Rattle.std.specs.Prelude.{◌≡◌, ◌≢◌, ◌<◌, ◌≤◌, ◌==◌, ℕ, Bool, true, false, List, [], ◌++◌, Option, Some, None, All, Any, IfSome, IsSomeAnd, MatchOption, if◌then◌else◌, codes, decimal, string_bytes, refl}
use Rattle.std.specs.List.{list_any, slice_split, starts_with}
use Rattle.std.specs.Fmt.{digits}
use denote.Ref.{Bor}
use Rattle.wsm_live_files.specs.declared.taken.Taken.{Taken}
use Rattle.wsm_live_files.specs.declared.taken.Told.{Told}
use Rattle.wsm_live_loop.specs.declared.sinks.Handed.{Handed}
use Rattle.wsm_live_loop.specs.declared.stop.LiveStop.{LiveStop}
use Rattle.wsm_live_loop.specs.declared.stop.LiveStop.TheVariants as stops
use Rattle.wsm_live_loop.specs.declared.stop.SinkFault.{SinkFault}
use Rattle.wsm_live_loop.specs.declared.stop.SinkFault.TheVariants as fault

-- ---- sums

-- what a numbered line begins with
abbrev pub front_of : (number sum : ℕ) → List ℕ
front_of number sum = decimal number ++ (codes "," ++ (decimal sum ++ codes ","))

-- whether one of the lines of a text begins with these bytes
abbrev pub has_line : List ℕ → List ℕ → Bool
has_line front text = list_any (λ line. starts_with ◌==◌ line front) (slice_split (λ byte. byte == 10) text)

behind_another : has_line (front_of 2 77) (codes "1,21,pane\n2,77,refused\n") ≡ true
unfolding digits
behind_another = refl

of_another_sum : has_line (front_of 2 7) (codes "1,21,pane\n2,77,refused\n") ≡ false
unfolding digits
of_another_sum = refl

-- whether the sum up to the line of a number is among numbered lines; none of them says another where they aren't there
abbrev pub is_among : (number sum : ℕ) → Option (Bor (List ℕ)) → Bool
is_among number sum None = true
is_among number sum (Some lines) = has_line (front_of number sum) lines.now

-- whether the sum that a sink told is that of the lines that were handed out: of those that are cut, or among the others
abbrev pub has_sum : Handed → Told → Bool
has_sum h told = if told.count == h.front.count then told.sum == h.front.sum else is_among told.count told.sum h.lines

-- ---- one sink

-- a sink has lines of this run, all that are cut and none that wasn't handed out
pub record IsServed (h : Handed) (told : Told) : Type 0 where
  pub name : h.name ≡ Some told.name
  pub cut : h.front.count ≤ told.count
  pub handed : told.count ≤ h.count
  pub sum : has_sum h told ≡ true

-- why it isn't so, by what is looked at first
abbrev pub IsRefused : Handed → Told → SinkFault → Type 0
IsRefused h told fault.NoText = ⊥
IsRefused h told fault.OtherRun = h.name ≢ Some told.name
IsRefused h told fault.Ahead = (h.name ≡ Some told.name) × (h.count < told.count)
IsRefused h told fault.Behind = (h.name ≡ Some told.name) × (told.count ≤ h.count) × (told.count < h.front.count)
IsRefused h told fault.OtherLines = (h.name ≡ Some told.name) × (told.count ≤ h.count) × (h.front.count ≤ told.count) × (has_sum h told ≡ false)

-- ---- the files of sinks

abbrev pub IsServedBy : Handed → Taken → Type 0
IsServedBy h taken = (told : Told) × (taken.told ≡ Some told) × IsServed h told

abbrev pub IsRefusedBy : Handed → Taken → SinkFault → Type 0
IsRefusedBy h taken why = MatchOption taken.told (why ≡ fault.NoText) (λ told. IsRefused h told why)

-- how it ends by a file: it is named, with why it is refused, unless memory was
abbrev pub IsEndedBy : Handed → Taken → LiveStop → Type 0
IsEndedBy h taken (stops.Sink file why) = (string_bytes file ≡ string_bytes taken.file) × IsRefusedBy h taken why
IsEndedBy h taken stops.Memory = Unit {0}
IsEndedBy h taken stop = ⊥

-- ---- all sinks

abbrev pub HasAtLeast : ℕ → Taken → Type 0
HasAtLeast least taken = IfSome taken.told (λ (told : Told). least ≤ told.count)

abbrev pub HasCount : ℕ → Taken → Type 0
HasCount count taken = IsSomeAnd taken.told (λ (told : Told). told.count ≡ count)

-- how many lines the sink has that is furthest behind: none has fewer, and one no more; none where there is no sink
abbrev pub IsLeast : Option ℕ → List Taken → Type 0
IsLeast None all = all ≡ []
IsLeast (Some least) all = All (HasAtLeast least) all × Any (HasCount least) all

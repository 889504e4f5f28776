-- What is read of a local time is an instant at which the clock shows it.
use Rattle.std.proofs.Common.{◌≡◌, refl, ap, ◌∙◌, ℤ, pos, ◌+ℤ◌, ◌-ℤ◌, Bool, true, false, if◌then◌else◌, Option, Some, None, option_and_then, arith}
use Rattle.std.specs.Prelude.{IfSome}
use Rattle.std.specs.Ordering.{int_eq}
use Rattle.std.proofs.lemmas.Int.{ints}
use Rattle.std.proofs.lemmas.Bool.Decides.{Decides-int_eq}
use Rattle.jiff_core.specs.Timestamp.{nanos_of_seconds}
use Rattle.wsm_values.specs.declared.clock.Fold.{Fold}
use Rattle.wsm_values.specs.declared.clock.Fold.TheVariants.{Refused, First, Second}
use Rattle.wsm_values.specs.Clock.{Clock, offset_nanos, if_holds, by_offset, candidate, chosen, instant_at}

-- the clock shows the local time at the instant
abbrev pub Shows : Clock → ℤ → ℤ → Type 0
Shows clock local n = n +ℤ nanos_of_seconds (clock n) ≡ local

if-some : (test : Bool) (P : ℤ → Type 0) (n : ℤ) → (test ≡ true → P n) → IfSome (if test then Some n else None) P
if-some true P n holds = holds refl
if-some false P n holds = tt

within-some : (early late : Bool) (f : ℤ → Option ℤ) (P : ℤ → Type 0) (n : ℤ) → IfSome (f n) P →
    IfSome (option_and_then f (if early then None else (if late then None else Some n))) P
within-some true late f P n holds = tt
within-some false true f P n holds = tt
within-some false false f P n holds = holds

chosen-some : (fold : Fold) (first second : Option ℤ) (P : ℤ → Type 0) → IfSome first P → IfSome second P →
    IfSome (chosen fold first second) P
chosen-some fold None second P a b = b
chosen-some fold (Some first) None P a b = a
chosen-some Refused (Some first) (Some second) P a b = if-some (int_eq first second) P first (λ same. a)
chosen-some First (Some first) (Some second) P a b = a
chosen-some Second (Some first) (Some second) P a b = b

if_holds-shows : (clock : Clock) (local offset : ℤ) →
    IfSome (if_holds (local -ℤ offset) offset (nanos_of_seconds (clock (local -ℤ offset)))) (Shows clock local)
if_holds-shows clock local offset =
    let there = nanos_of_seconds (clock (local -ℤ offset)) in
    if-some (int_eq there offset) (Shows clock local) (local -ℤ offset) (λ same.
    let e : there ≡ offset = (Decides-int_eq there offset).0 same in omega (arith, ints))

candidate-shows : (clock : Clock) (local n : ℤ) → IfSome (candidate clock local n) (Shows clock local)
candidate-shows clock local n =
    let offset = nanos_of_seconds (clock n) in
    let instant = local -ℤ offset in
    within-some _ _ (by_offset clock local) (Shows clock local) offset
    (within-some _ _ (if_holds instant offset) (Shows clock local) (nanos_of_seconds (clock instant)) (if_holds-shows clock local offset))

-- at the instant that is read of a local time the clock shows that time
pub instant_at-shows : (clock : Clock) (fold : Fold) (local : ℤ) → IfSome (instant_at clock fold local) (Shows clock local)
instant_at-shows clock fold local =
    let day = pos 86400000000000 in
    chosen-some fold _ _ (Shows clock local) (candidate-shows clock local (local -ℤ day)) (candidate-shows clock local (local +ℤ day))

if_holds-finds : (n offset : ℤ) → if_holds n offset offset ≡ Some n
if_holds-finds n offset = ap (λ b. if b then Some n else None) ((Decides-int_eq offset offset).1 refl)

-- by the offset that holds at some time an instant is found at which the clock shows the local time by that offset
pub candidate-finds : (clock : Clock) (local n some_time : ℤ) → Shows clock local n →
    offset_nanos clock n ≡ Some (nanos_of_seconds (clock n)) → offset_nanos clock some_time ≡ Some (nanos_of_seconds (clock n)) →
    candidate clock local some_time ≡ Some n
candidate-finds clock local n some_time shows here there =
    let offset = nanos_of_seconds (clock n) in
    let same : local -ℤ offset ≡ n = omega (arith, ints) in
    ap (option_and_then (by_offset clock local)) there
    ∙ ap (λ i. option_and_then (if_holds i offset) (offset_nanos clock i)) same
    ∙ ap (option_and_then (if_holds n offset)) here
    ∙ if_holds-finds n offset

chosen-first : (n : ℤ) (second : Option ℤ) → chosen First (Some n) second ≡ Some n
chosen-first n None = refl
chosen-first n (Some m) = refl

chosen-second : (first : Option ℤ) (n : ℤ) → chosen Second first (Some n) ≡ Some n
chosen-second None n = refl
chosen-second (Some m) n = refl

-- the first instant is the one by the offset of the day before
pub first-finds : (clock : Clock) (local n : ℤ) → Shows clock local n →
    offset_nanos clock n ≡ Some (nanos_of_seconds (clock n)) →
    offset_nanos clock (local -ℤ pos 86400000000000) ≡ Some (nanos_of_seconds (clock n)) →
    instant_at clock First local ≡ Some n
first-finds clock local n shows here there =
    let behind = candidate clock local (local +ℤ pos 86400000000000) in
    ap (λ found. chosen First found behind) (candidate-finds clock local n (local -ℤ pos 86400000000000) shows here there) ∙ chosen-first n behind

-- and the second is the one by the offset of the day behind
pub second-finds : (clock : Clock) (local n : ℤ) → Shows clock local n →
    offset_nanos clock n ≡ Some (nanos_of_seconds (clock n)) →
    offset_nanos clock (local +ℤ pos 86400000000000) ≡ Some (nanos_of_seconds (clock n)) →
    instant_at clock Second local ≡ Some n
second-finds clock local n shows here there =
    let before = candidate clock local (local -ℤ pos 86400000000000) in
    ap (chosen Second before) (candidate-finds clock local n (local +ℤ pos 86400000000000) shows here there) ∙ chosen-second before n

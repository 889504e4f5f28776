-- The stamps of what was said.
use Rattle.std.proofs.Common.{◌≡◌, ℕ, suc, ◌+◌, ◌<◌, ◌≤◌, ◌^◌, Bool, true, false, ◌&&◌, List, [], ◌∷◌, length, Option, Some, None, Ok, Err, refl, sym, ap, arith}
use Rattle.std.specs.Prelude.{if◌then◌else◌, nat_lt, unsigned_abs}
use Rattle.std.proofs.lemmas.Bool.{and_parts}
use Rattle.std.proofs.lemmas.Int.{ints}
use Rattle.std.proofs.lemmas.Bool.Decides.{nat_tests}
use Rattle.wsm_record.specs.Event.{Event, Record, Watermark}
use Rattle.wsm_record.specs.Schema.{Declared, fit_fields}
use Rattle.wsm_windows.specs.Limits.{is_time}
use Rattle.wsm_admission.specs.Clock.{is_key}
use Rattle.wsm_watermarks.specs.declared.stamp.Stamp.{Stamp}
use Rattle.wsm_turns.specs.declared.voice.Voice.{Voice}
use Rattle.wsm_turns.specs.declared.voice.Voice.TheVariants.{Key, Named, Silent}
use Rattle.wsm_turns.specs.Voices.{stamp_by}
use Rattle.wsm_turns.specs.Turns.{Kept, Said, Setting, Spoken, Turn, is_double, kept, passing_by, stamp_of, turn_by}

-- the turn of a record that is a double, or isn't
abbrev passing_if : Bool → Setting → Kept → ℕ → Stamp → Spoken → Turn
passing_if b w k number stamp x = if b then record { goes = []; kept = k } else passing_by w k number (stamp_by x.voice stamp) stamp.time x

few_told : (w : Setting) (k : Kept) (number : ℕ) (o : Option Stamp) (time : ℕ) (x : Spoken) (n : ℕ) → length k.stamps ≤ n → length (passing_by w k number o time x).kept.stamps ≤ suc n
few_told w k number None time x n h = omega (arith, h)
few_told w k number (Some stamp) time x n h = let g : suc (length k.stamps) ≤ suc n = omega (arith, h) in g

few_passing : (w : Setting) (k : Kept) (number : ℕ) (stamp : Stamp) (x : Spoken) (b : Bool) (n : ℕ) → length k.stamps ≤ n →
    length (passing_if b w k number stamp x).kept.stamps ≤ suc n
few_passing w k number stamp x true n h = omega (arith, h)
few_passing w k number stamp x false n h = few_told w k number (stamp_by x.voice stamp) stamp.time x n h

-- the turn of an event adds one at most
pub few_by : (w : Setting) (k : Kept) (number : ℕ) (o : Option Stamp) (x : Spoken) (n : ℕ) → length k.stamps ≤ n → length (turn_by w k number o x).kept.stamps ≤ suc n
few_by w k number None x n h = omega (arith, h)
few_by w k number (Some stamp) x n h = few_passing w k number stamp x (is_double x.identifier k.memory) n h

-- there is at most one for each line
pub few_stamps : {F : Type 0} (w : Setting) (all : List (Said F)) → length (kept w all).stamps ≤ length all
few_stamps w [] = omega arith
few_stamps w (Err why ∷ all) = let h = few_stamps w all in omega arith
few_stamps w (Ok x ∷ all) = few_by w (kept w all) (length all + 1) (stamp_of w.declared x.event) x (length all) (few_stamps w all)

if_some : {A : Type 0} (b : Bool) (x y : A) → (if b then Some x else None) ≡ Some y → (b ≡ true) × (x ≡ y)
if_some true x y h = (refl, ap (λ o. elim o [ Some z ↦ z | None ↦ x ]) h)
if_some false x y h = cc

-- its clock is a declared key
pub clock_known : (d : Declared) (e : Event) (stamp : Stamp) → stamp_of d e ≡ Some stamp → stamp.clock < length d.keys
clock_known d (Record None time values) stamp h = cc
clock_known d (Record (Some key) time values) stamp h =
    let (holds, is) = if_some (is_key d (Some key) && (fit_fields d.fields values && is_time time)) (record { clock = key; time = unsigned_abs time }) stamp h in
    let known : nat_lt key (length d.keys) ≡ true = (and_parts (is_key d (Some key)) (fit_fields d.fields values && is_time time) holds).0 in
    let clock : key ≡ stamp.clock = ap (λ (s : Stamp). s.clock) is in
    grind (arith, nat_tests)
clock_known d (Watermark source time) stamp h = cc

-- its time is one that a signed number can have
pub time_small : (d : Declared) (e : Event) (stamp : Stamp) → stamp_of d e ≡ Some stamp → stamp.time < 2 ^ 63
time_small d (Record None time values) stamp h = cc
time_small d (Record (Some key) time values) stamp h =
    let (holds, is) = if_some (is_key d (Some key) && (fit_fields d.fields values && is_time time)) (record { clock = key; time = unsigned_abs time }) stamp h in
    let in_range : is_time time ≡ true = (and_parts (fit_fields d.fields values) (is_time time) (and_parts (is_key d (Some key)) (fit_fields d.fields values && is_time time) holds).1).1 in
    let same : unsigned_abs time ≡ stamp.time = ap (λ (s : Stamp). s.time) is in
    grind (arith, ints, nat_tests)
time_small d (Watermark source time) stamp h = cc

abbrev time_in : Stamp → Option Stamp → ℕ
time_in stamp None = stamp.time
time_in stamp (Some told) = told.time

-- whatever its voice is, it tells its time
pub told_time : (voice : Voice) (stamp told : Stamp) → stamp_by voice stamp ≡ Some told → told.time ≡ stamp.time
told_time Key stamp told h = sym (ap (time_in stamp) h)
told_time (Named clock) stamp told h = sym (ap (time_in stamp) h)
told_time Silent stamp told h = sym (ap (time_in stamp) h)

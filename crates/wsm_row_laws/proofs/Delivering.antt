-- Without clocks a run feeds what passes of the deliveries.
use Rattle.std.proofs.Common.{◌≡◌, ◌∙◌, ℕ, ◌+◌, Bool, true, false, ◌&&◌, List, [], ◌∷◌, ◌++◌, length, ℤ, pos, Option, Some, None, Ok, Err, refl, sym, ap, arith}
use Rattle.std.proofs.lemmas.Bool.{and_parts}
use Rattle.std.proofs.lemmas.Int.{ints}
use Rattle.std.specs.Prelude.{if◌then◌else◌, unsigned_abs}
use Rattle.wsm_record.specs.Event.{Event, Record, Watermark}
use Rattle.wsm_record.specs.Schema.{Declared, fit_fields}
use Rattle.wsm_windows.specs.Limits.{is_time}
use Rattle.wsm_admission.specs.Clock.{is_key}
use Rattle.wsm_watermarks.specs.declared.stamp.Stamp.{Stamp}
use Rattle.wsm_semantics.specs.Query.{Query}
use Rattle.wsm_doubles.specs.Memory.{knows}
use Rattle.wsm_doubles.specs.Passing.{TextPassing, passes, passing_texts}
use Rattle.wsm_turns.specs.declared.voice.Voice.{Voice}
use Rattle.wsm_turns.specs.declared.voice.Voice.TheVariants.{Key, Named, Silent}
use Rattle.wsm_turns.specs.Voices.{stamp_by}
use Rattle.wsm_turns.specs.Turns.{Kept, kept, passing_by, setting_of, stamp_of, turn_by}
use Rattle.wsm_log_text.specs.LogText.{Said}
use Rattle.wsm_row_laws.specs.Delivered.{AreSent, deliveries, delivery_of, seen}

if_some : {A : Type 0} (b : Bool) (x y : A) → (if b then Some x else None) ≡ Some y → (b ≡ true) × (x ≡ y)
if_some true x y h = (refl, ap (λ o. elim o [ Some z ↦ z | None ↦ x ]) h)
if_some false x y h = cc

-- the time of a stamp is that of its record
whole : (t : ℤ) → is_time t ≡ true → pos (unsigned_abs t) ≡ t
whole t h = grind (arith, ints)

time_is : (d : Declared) (key : Option ℕ) (time : ℤ) (values : _) (stamp : Stamp) → stamp_of d (Record key time values) ≡ Some stamp → pos stamp.time ≡ time
time_is d None time values stamp h = cc
time_is d (Some key) time values stamp h =
    let (holds, is) = if_some (is_key d (Some key) && (fit_fields d.fields values && is_time time)) (record { clock = key; time = unsigned_abs time }) stamp h in
    let in_range : is_time time ≡ true = (and_parts (fit_fields d.fields values) (is_time time) (and_parts (is_key d (Some key)) (fit_fields d.fields values && is_time time) holds).1).1 in
    sym (ap (λ (s : Stamp). pos s.time) is) ∙ whole time in_range

-- a record with an identifier passes, or is a double
abbrev with_one : Query → Event → List ℕ → ℤ → TextPassing → TextPassing
with_one q e i time o = if knows i o.memory then o else passes q e ((i, time) ∷ o.memory) o.passed

-- whatever its voice is
seen_by : (q : Query) (k : Kept) (n : ℕ) (stamp : Stamp) (e : Event) (i : List ℕ) (v u : Voice) →
    seen (passing_by (setting_of None q) k n (stamp_by v stamp) stamp.time (record { event = e; identifier = Some i; voice = u })).kept ≡ passes q e ((i, pos stamp.time) ∷ k.memory) k.fed
seen_by q k n stamp e i Key u = refl
seen_by q k n stamp e i (Named clock) u = refl
seen_by q k n stamp e i Silent u = refl

seen_if : (q : Query) (k : Kept) (n : ℕ) (stamp : Stamp) (e : Event) (i : List ℕ) (v : Voice) (b : Bool) →
    seen (if b then record { goes = []; kept = k } else passing_by (setting_of None q) k n (stamp_by v stamp) stamp.time (record { event = e; identifier = Some i; voice = v })).kept
    ≡ (if b then seen k else passes q e ((i, pos stamp.time) ∷ k.memory) k.fed)
seen_if q k n stamp e i v true = refl
seen_if q k n stamp e i v false = seen_by q k n stamp e i v v

one_more : (q : Query) (k : Kept) (n : ℕ) (before : List Said) (e : Event) (o : Option (List ℕ)) (v : Voice) (i : List ℕ) (stamp : Stamp) → o ≡ Some i → stamp_of q.declared e ≡ Some stamp
    → seen k ≡ passing_texts q (deliveries before)
    → seen (turn_by (setting_of None q) k n (stamp_of q.declared e) (record { event = e; identifier = o; voice = v })).kept ≡ passing_texts q (delivery_of e o ++ deliveries before)
one_more q k n before (Watermark source time) o v i stamp has tells h = cc
one_more q k n before (Record key time values) None v i stamp has tells h = cc
one_more q k n before (Record key time values) (Some j) v i stamp has tells h =
    let e = Record key time values in
    ap (λ (s : Option Stamp). seen (turn_by (setting_of None q) k n s (record { event = e; identifier = Some j; voice = v })).kept) tells
    ∙ seen_if q k n stamp e j v (knows j k.memory)
    ∙ ap (λ (t : ℤ). with_one q e j t (seen k)) (time_is q.declared key time values stamp tells)
    ∙ ap (with_one q e j time) h

pub feeds : (q : Query) (lines : List Said) → AreSent q.declared lines → seen (kept (setting_of None q) lines) ≡ passing_texts q (deliveries lines)
feeds q [] are = refl
feeds q (Err why ∷ before) are = feeds q before are
feeds q (Ok x ∷ before) are =
    one_more q (kept (setting_of None q) before) (length before + 1) before x.event x.identifier x.voice are.0.identifier are.0.stamp are.0.has are.0.tells (feeds q before are.1)

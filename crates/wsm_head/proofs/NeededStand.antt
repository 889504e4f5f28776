-- The needed events stand for a history, by as many RECORDS as are left.
use Rattle.std.proofs.Common.{◌≡◌, ◌⊎◌, ℕ, ◌+◌, ◌-◌, ◌≤◌, ◌<◌, Bool, true, false, cond, not, List, [], ◌∷◌, ℤ, pos, ◌≤ℤ◌, Option, Some, None, inl, inr, refl, sym, ap, ◌∙◌, arith}
use Rattle.std.proofs.lemmas.Bool.Decides.{nat_tests}
use Rattle.std.specs.Prelude.{◌≢◌, int_le, nat_le, unsigned_abs}
use Rattle.wsm_record.specs.declared.words.Form.{Form}
use Rattle.wsm_record.specs.declared.words.Form.TheVariants.{Panes, Istream, Dstream, Rstream}
use Rattle.wsm_record.specs.Event.{Event, Record, Watermark}
use Rattle.wsm_record.specs.Schema.{fit_fields}
use Rattle.wsm_windows.specs.Windows.{IsShape}
use Rattle.wsm_admission.specs.declared.verdict.Refusal.{Refusal}
use Rattle.wsm_admission.specs.declared.verdict.Refusal.TheVariants.{NotRising, RecordLimit, TimeRange}
use Rattle.wsm_admission.specs.Clock.{admitted_with, is_key, is_late, is_time, is_too_far_ahead, least, mark_at, marks_of, watermark_refusal}
use Rattle.wsm_admission.proofs.Taken.{admitted_count-le}
use Rattle.wsm_semantics.specs.Query.{Query, SessionsByEvent, mark, verdict_on}
use Rattle.wsm_semantics.specs.Relation.{relation}
use Rattle.wsm_semantics.specs.Summaries.{IsLawful, Plan, Runs}
use Rattle.wsm_semantics.specs.ByKey.{HasRoom, with_records}
use Rattle.wsm_semantics.specs.FromKept.{KeepAlike}
use Rattle.wsm_semantics.specs.Needed.{needed, needed_by}
use Rattle.wsm_semantics.proofs.KeyParts.{first_rule, no_fewer}
use Rattle.wsm_semantics.proofs.LaterMarks.{next_marks}
use Rattle.wsm_semantics.proofs.NeededEvents.{needed_room, panes_alike, streams_related}
use Rattle.wsm_head.specs.StandsFor.{StandsFor, records_left, taken}

-- ---- where RECORDS aren't used up none was refused for them

room_left : (key fields time ahead late : Bool) → first_rule key fields time ahead late false ≢ Some RecordLimit
room_left true fields time ahead late h = absurd cc
room_left false true time ahead late h = absurd cc
room_left false false true ahead late h = absurd cc
room_left false false false true late h = absurd cc
room_left false false false false true h = absurd cc
room_left false false false false false h = absurd cc

of_watermark : (o : Option ℤ) (t : ℤ) → watermark_refusal o t ≢ Some RecordLimit
of_watermark None t h = absurd cc
of_watermark (Some m) t h = by (is_time t) (int_le t m) h
  where
    by : (timely low : Bool) → cond (not timely) (Some TimeRange) (cond low (Some NotRising) None) ≢ Some RecordLimit
    by false low h = absurd cc
    by true true h = absurd cc
    by true false h = absurd cc

below : (a b n : ℕ) → a ≤ b → b < n → (a < n) × (nat_le n a ≡ false)
below a b n h k = (omega (arith, h, k), grind (arith, nat_tests))

at_most : (a : ℕ) → a ≤ a
at_most a = omega arith

module _ (q : Query) where
  more : (past : List Event) (e : Event) → taken q past ≤ taken q (e ∷ past)
  more past e = no_fewer (taken q past) (taken q past) e (verdict_on q past e) (at_most (taken q past))

  not_full : (past : List Event) (e : Event) → nat_le (unsigned_abs q.clock.records) (taken q past) ≡ false → verdict_on q past e ≢ Some RecordLimit
  not_full past (Watermark o t) few = of_watermark (mark_at (marks_of q.clock q.declared past) o) t
  not_full past (Record key t vs) few = λ full.
      let first : Bool → Option Refusal = first_rule (not (is_key q.declared key)) (not (fit_fields q.declared.fields vs)) (not (is_time t)) (is_too_far_ahead q.clock (mark q past) t) (is_late q.clock q.shape (mark q past) t) in
      room_left (not (is_key q.declared key)) (not (fit_fields q.declared.fields vs)) (not (is_time t)) (is_too_far_ahead q.clock (mark q past) t) (is_late q.clock q.shape (mark q past) t) (sym (ap first few) ∙ full)

  pub has_room : (past : List Event) → taken q past < unsigned_abs q.clock.records → HasRoom q past
  has_room [] few = tt
  has_room (e ∷ past) few =
      let before = below (taken q past) (taken q (e ∷ past)) (unsigned_abs q.clock.records) (more past e) few in
      (not_full past e before.1, has_room past before.0)

-- ---- by RECORDS that are enough for a history its events have the verdicts that they have where none is refused for RECORDS

same_rule : (key fields time ahead late full other : Bool) → first_rule key fields time ahead late full ≢ Some RecordLimit → (first_rule key fields time ahead late full ≡ None → other ≡ false) →
    first_rule key fields time ahead late other ≡ first_rule key fields time ahead late full
same_rule true fields time ahead late full other h k = refl
same_rule false true time ahead late full other h k = refl
same_rule false false true ahead late full other h k = refl
same_rule false false false true late full other h k = refl
same_rule false false false false true full other h k = refl
same_rule false false false false false true other h k = absurd (h refl)
same_rule false false false false false false other h k = ap (λ (b : Bool). cond b (Some RecordLimit) None) (k refl)

module _ (q : Query) (records : ℤ) where
  abbrev other_query : Query
  other_query = with_records records q

  -- the same marks, as many records taken, and none refused for RECORDS
  record IsAlike (past : List Event) : Type 0 where
    marks : marks_of other_query.clock q.declared past ≡ marks_of q.clock q.declared past
    count : taken other_query past ≡ taken q past
    room : HasRoom other_query past

  verdict_by : (past : List Event) (e : Event) → IsAlike past → verdict_on q past e ≢ Some RecordLimit → taken q (e ∷ past) ≤ unsigned_abs records → verdict_on other_query past e ≡ verdict_on q past e
  verdict_by past (Watermark o t) alike room few = ap (λ (ms : List ℤ). watermark_refusal (mark_at ms o) t) alike.marks
  verdict_by past (Record key t vs) alike room few =
      let first : ℤ → Bool → Option Refusal = λ m full. first_rule (not (is_key q.declared key)) (not (fit_fields q.declared.fields vs)) (not (is_time t)) (is_too_far_ahead q.clock m t) (is_late q.clock q.shape m t) full in
      let full : Bool = nat_le (unsigned_abs records) (taken other_query past) in
      ap (λ (m : ℤ). first m full) (ap least alike.marks)
      ∙ same_rule (not (is_key q.declared key)) (not (fit_fields q.declared.fields vs)) (not (is_time t)) (is_too_far_ahead q.clock (mark q past) t) (is_late q.clock q.shape (mark q past) t)
      (nat_le (unsigned_abs q.clock.records) (taken q past)) full room
      (λ none. enough (unsigned_abs records) (taken other_query past) (taken q past) (verdict_on q past (Record key t vs)) none alike.count few)
    where
      enough : (r b a : ℕ) (v : Option Refusal) → v ≡ None → b ≡ a → admitted_with a (Record key t vs) v ≤ r → nat_le r b ≡ false
      enough r b a None h same few = grind (arith, nat_tests)
      enough r b a (Some why) h same few = cc

  alike_by : (past : List Event) → HasRoom q past → taken q past ≤ unsigned_abs records → IsAlike past
  alike_by [] room few = record { marks = refl; count = refl; room = tt }
  alike_by (e ∷ past) room few =
      let before = alike_by past room.1 (let n = more q past e in omega (arith, n, few)) in
      let verdict = verdict_by past e before room.0 few in
      record {
        marks = next_marks q q.clock.start records past past before.marks e;
        count = λ i. admitted_with (before.count i) e (verdict i);
        room = (λ full. room.0 (sym verdict ∙ full), before.room);
      }

-- as many are taken of the needed events by other RECORDS, where these are enough
pub taken_alike : (q : Query) (records : ℤ) (past : List Event) → taken q past < unsigned_abs q.clock.records → unsigned_abs q.clock.records ≤ unsigned_abs records → taken (with_records records q) (needed q past) ≡ taken q (needed q past)
taken_alike q records past few enough =
    let most = admitted_count-le q.clock q.shape q.declared (needed q past) in
    let within : taken q (needed q past) ≤ unsigned_abs records = omega (arith, most, enough) in
    (alike_by q records (needed q past) (needed_room q past [] (has_room q past few)) within).count

-- ---- the needed events

left_behind : (n a b c : ℕ) → a ≤ n → c ≡ b → ((n - a) + b) + a ≡ n + c
left_behind n a b c h same = omega (arith, h, same)

enough_left : (n a b : ℕ) → b ≤ (n - a) + b
enough_left n a b = omega arith

module _ {X : Type 0} (plan : Plan X) (lawful : IsLawful plan) (q : Query) (runs : Runs plan q) (ok : IsShape q.shape) (timely : SessionsByEvent q) (low : pos 0 ≤ℤ q.clock.lateness) (past : List Event) (room : HasRoom q past) where
  abbrev records : ℤ
  records = records_left q past

  alike : IsAlike q records (needed q past)
  alike = alike_by q records (needed q past) (needed_room q past [] room) (enough_left (unsigned_abs q.clock.records) (taken q past) (taken q (needed q past)))

  abbrev Related : List Event → Type 0
  Related other = KeepAlike plan q q.clock.start records past other × ((q.form ≡ Panes) ⊎ (relation q past ≡ relation (with_records records q) other))

  by_stream : (form : Form) → KeepAlike plan q q.clock.start records past (needed_by form q past) × (relation q past ≡ relation (with_records records q) (needed_by form q past)) → Related (needed_by form q past)
  by_stream form h = (h.0, inr h.1)

  related : (form : Form) → q.form ≡ form → HasRoom (with_records records q) (needed_by form q past) → Related (needed_by form q past)
  related Panes is roomy = (panes_alike plan lawful q runs ok timely low records past room roomy, inl is)
  related Istream is roomy = by_stream Istream (streams_related plan lawful q runs ok timely low records past room roomy)
  related Dstream is roomy = by_stream Dstream (streams_related plan lawful q runs ok timely low records past room roomy)
  related Rstream is roomy = by_stream Rstream (streams_related plan lawful q runs ok timely low records past room roomy)

  pub needed_stand : StandsFor plan q records past (needed q past)
  needed_stand =
      let h = related q.form refl alike.room in
      record {
        kept = h.0;
        relation = h.1;
        left = left_behind (unsigned_abs q.clock.records) (taken q past) (taken q (needed q past)) (taken (with_records records q) (needed q past)) (admitted_count-le q.clock q.shape q.declared past) alike.count;
      }

-- ---- what stands for one that stands for another

both_left : (r n s a b c : ℕ) → r + a ≡ n + b → s + b ≡ r + c → s + a ≡ n + c
both_left r n s a b c h k = omega (arith, h, k)

pub stand_through : {X : Type 0} (plan : Plan X) (q : Query) (records fewer : ℤ) (past mid other : List Event) → StandsFor plan q records past mid → StandsFor plan (with_records records q) fewer mid other → StandsFor plan q fewer past other
stand_through plan q records fewer past mid other first second = record {
  kept = record { marks = second.kept.marks ∙ first.kept.marks; panes = first.kept.panes ∙ second.kept.panes };
  relation = by first.relation second.relation;
  left = both_left (unsigned_abs records) (unsigned_abs q.clock.records) (unsigned_abs fewer) (taken q past) (taken (with_records records q) mid) (taken (with_records fewer q) other) first.left second.left;
}
  where
    by : (q.form ≡ Panes) ⊎ (relation q past ≡ relation (with_records records q) mid) → (q.form ≡ Panes) ⊎ (relation (with_records records q) mid ≡ relation (with_records fewer q) other) → (q.form ≡ Panes) ⊎ (relation q past ≡ relation (with_records fewer q) other)
    by (inl panes) second = inl panes
    by (inr same) (inl panes) = inl panes
    by (inr same) (inr then) = inr (same ∙ then)

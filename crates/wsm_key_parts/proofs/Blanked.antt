-- A history in which each refused event is one that goes to no part: nothing else changes, also where more keys are declared and more
-- records may be admitted. So what is refused need not be handed on.
use Rattle.std.proofs.Common.{◌≡◌, ℕ, ◌≤◌, Bool, true, false, cond, not, List, [], ◌∷◌, length, ℤ, pos, ◌≤ℤ◌, Option, Some, None, is_none, refl, sym, ap, subst, ◌∙◌, arith}
use Rattle.std.proofs.lemmas.Bool.Decides.{nat_tests}
use Rattle.std.specs.Prelude.{filter, nat_le, nat_lt, unsigned_abs}
use Rattle.std.specs.List.{AllByRecursion}
use Rattle.wsm_record.specs.declared.words.Form.TheVariants.{Panes}
use Rattle.wsm_record.specs.Event.{Event, Record, Watermark}
use Rattle.wsm_windows.specs.Windows.{IsShape}
use Rattle.wsm_admission.specs.declared.verdict.Refusal.{Refusal}
use Rattle.wsm_admission.specs.declared.verdict.Refusal.TheVariants.{RecordLimit}
use Rattle.wsm_admission.specs.Clock.{marks_of, least, mark_at, watermark_refusal, is_key, is_too_far_ahead, is_late, admitted_count, admitted_with}
use Rattle.wsm_admission.proofs.Taken.{taken_record}
use Rattle.wsm_semantics.specs.Query.{Query, SessionsByEvent, verdict_on, is_taken}
use Rattle.wsm_semantics.specs.Relation.{turn_rows}
use Rattle.wsm_semantics.specs.ByKey.{Keys, is_of, of_keys, where_of, HasRoom, IgnoresTurns, is_row_of}
use Rattle.wsm_semantics.proofs.Each.{passed}
use Rattle.wsm_semantics.proofs.FiringsSoFar.{not_some}
use Rattle.wsm_semantics.proofs.KeyParts.{first_rule, one_more, no_fewer}
use Rattle.wsm_semantics.proofs.KeyRows.{rows_by_key}
use Rattle.wsm_key_parts.specs.Parts.{declared_keys, over}
use Rattle.wsm_key_parts.proofs.Alike.{Alike, alike_after, alike_blank, rows_alike, blank}

more_keys : (key few many : ℕ) → few ≤ many → nat_lt key few ≡ true → nat_lt key many ≡ true
more_keys key few many h k = grind (arith, nat_tests)

more_room : (limit more admitted fewer : ℕ) → limit ≤ more → fewer ≤ admitted → nat_le limit admitted ≡ false → nat_le more fewer ≡ false
more_room limit more admitted fewer h k l = grind (arith, nat_tests)

module _ (q : Query) (keys : List (List ℕ)) (records : ℤ) (more : length q.declared.keys ≤ length keys) (wide : unsigned_abs q.clock.records ≤ unsigned_abs records) where
  abbrev among : Query
  among = over keys records q

  abbrev admitted : List Event → ℕ
  admitted past = admitted_count q.clock q.shape q.declared past

  abbrev admitted_there : List Event → ℕ
  admitted_there past = admitted_count among.clock among.shape among.declared past

  declared_there : (key : Option ℕ) → is_key q.declared key ≡ true → is_key among.declared key ≡ true
  declared_there None h = h
  declared_there (Some k) h = more_keys k (length q.declared.keys) (length keys) more h

  -- where as many records or fewer were admitted, and the marks are the same, what is taken is taken
  pub still_taken : (past other : List Event) → marks_of among.clock among.declared other ≡ marks_of q.clock q.declared past → admitted_there other ≤ admitted past →
      (e : Event) → verdict_on q past e ≡ None → verdict_on among other e ≡ None
  still_taken past other marks fewer (Watermark s t) taken = ap (λ (ms : List ℤ). watermark_refusal (mark_at ms s) t) marks ∙ taken
  still_taken past other marks fewer (Record key t vs) taken =
      let is = taken_record q.clock q.shape q.declared (least (marks_of q.clock q.declared past)) (admitted past) key t vs taken in
      let there = declared_there key is.has_key in
      let ahead = ap (λ (ms : List ℤ). is_too_far_ahead q.clock (least ms) t) marks ∙ is.near in
      let late = ap (λ (ms : List ℤ). is_late q.clock q.shape (least ms) t) marks ∙ is.prompt in
      let full = more_room (unsigned_abs q.clock.records) (unsigned_abs records) (admitted past) (admitted_there other) wide fewer is.room in
      λ i. first_rule (not (there i)) (not (is.fits i)) (not (is.in_time i)) (ahead i) (late i) (full i)

  -- none is refused for RECORDS
  pub no_limit : (past : List Event) (e : Event) → HasRoom among past → verdict_on among past e ≡ None → HasRoom among (e ∷ past)
  no_limit past e h taken = (λ full. not_some RecordLimit (sym full ∙ taken), h)

-- ---- blanks

module _ (q : Query) where
  abbrev pub blanked : List Event → List Event
  blanked [] = []
  blanked (e ∷ past) = cond (is_taken q past e) e blank ∷ blanked past

module _ (q : Query) (ok : IsShape q.shape) (timely : SessionsByEvent q) (low : pos 0 ≤ℤ q.clock.lateness)
    (keys : List (List ℕ)) (records : ℤ) (more : length q.declared.keys ≤ length keys) (wide : unsigned_abs q.clock.records ≤ unsigned_abs records) where
  abbrev pub there : Query
  there = over keys records q

  pub record Follows (past other : List Event) : Type 0 where
    pub alike : Alike q ok timely low keys records past other
    pub fewer : admitted_count there.clock there.shape there.declared other ≤ admitted_count q.clock q.shape q.declared past
    pub room : HasRoom there other

  taken_there : (past other : List Event) → Follows past other → (e : Event) → verdict_on q past e ≡ None → verdict_on there other e ≡ None
  taken_there past other f e taken = still_taken q keys records more wide past other f.alike.marks f.fewer e taken

  after_taken : (past other : List Event) → Follows past other → (e : Event) → verdict_on q past e ≡ None → Follows (e ∷ past) (e ∷ other)
  after_taken past other f e taken =
      let taken_too = taken_there past other f e taken in
      let few = admitted_count there.clock there.shape there.declared other in
      let many = admitted_count q.clock q.shape q.declared past in
      record {
        alike = alike_after q ok timely low keys records past other f.alike e taken taken_too;
        fewer = subst (λ (v : Option Refusal). admitted_with few e v ≤ admitted_with many e (verdict_on q past e)) (sym taken_too)
            (subst (λ (v : Option Refusal). admitted_with few e None ≤ admitted_with many e v) (sym taken) (one_more few many e None f.fewer));
        room = no_limit q keys records more wide other e f.room taken_too;
      }

  after_refused : (past other : List Event) → Follows past other → (e : Event) (r : Refusal) → verdict_on q past e ≡ Some r → Follows (e ∷ past) (blank ∷ other)
  after_refused past other f e r refused = record {
    alike = alike_blank q ok timely low keys records past other f.alike e r refused;
    fewer = no_fewer (admitted_count there.clock there.shape there.declared other) (admitted_count q.clock q.shape q.declared past) e (verdict_on q past e) f.fewer;
    room = (λ full. absurd (cc), f.room);
  }

  pub follows : (past : List Event) → Follows past (blanked q past)
  follows [] = record { alike = record { marks = refl; turns = refl; kept = refl }; fewer = omega arith; room = tt }
  follows (e ∷ past) =
      elim (verdict_on q past e) as (λ v. verdict_on q past e ≡ v → Follows (e ∷ past) (cond (is_none v) e blank ∷ blanked q past)) [
        | None ↦ λ taken. after_taken past (blanked q past) (follows past) e taken
        | Some r ↦ λ refused. after_refused past (blanked q past) (follows past) e r refused
      ] refl

  -- what is taken is taken there
  pub taken_behind : (past : List Event) (e : Event) → verdict_on q past e ≡ None → verdict_on there (blanked q past) e ≡ None
  taken_behind past e taken = taken_there past (blanked q past) (follows past) e taken

  pub room_behind : (past : List Event) (e : Event) → verdict_on q past e ≡ None → HasRoom there (e ∷ blanked q past)
  room_behind past e taken = no_limit q keys records more wide (blanked q past) e (follows past).room (taken_behind past e taken)

  module _ (form : q.form ≡ Panes) (ignores : IgnoresTurns q) where
    same_rows : (past : List Event) (e : Event) → verdict_on q past e ≡ None → turn_rows there (blanked q past) e ≡ turn_rows q past e
    same_rows past e taken = rows_alike q ok timely low keys records past (blanked q past) (follows past).alike e taken (taken_behind past e taken) form

    -- the rows for some keys are those that the part of these writes behind what is taken
    pub rows_of_part : (some : Keys) (past : List Event) (e : Event) → verdict_on q past e ≡ None → filter (is_row_of some) (turn_rows q past e) ≡ where_of some e (turn_rows there (of_keys some (blanked q past)) e)
    rows_of_part some past e taken =
        ap (filter (is_row_of some)) (sym (same_rows past e taken))
        ∙ rows_by_key there ignores form some (blanked q past) e (room_behind past e taken)

    -- ---- all rows are of declared keys

    is_declared : (past : List Event) (e : Event) → verdict_on q past e ≡ None → is_of (declared_keys q) e ≡ true
    is_declared past (Watermark s t) taken = refl
    is_declared past (Record None t vs) taken = refl
    is_declared past (Record (Some k) t vs) taken = (taken_record q.clock q.shape q.declared (least (marks_of q.clock q.declared past)) (admitted_count q.clock q.shape q.declared past) (Some k) t vs taken).has_key

    all_declared : (past : List Event) → of_keys (declared_keys q) (blanked q past) ≡ blanked q past
    all_declared [] = refl
    all_declared (e ∷ past) =
        elim (verdict_on q past e) as (λ v. verdict_on q past e ≡ v → of_keys (declared_keys q) (cond (is_none v) e blank ∷ blanked q past) ≡ cond (is_none v) e blank ∷ blanked q past) [
          | None ↦ λ taken. ap (λ (b : Bool). cond b (e ∷ of_keys (declared_keys q) (blanked q past)) (of_keys (declared_keys q) (blanked q past))) (is_declared past e taken) ∙ ap (λ (es : List Event). e ∷ es) (all_declared past)
          | Some r ↦ λ refused. ap (λ (es : List Event). blank ∷ es) (all_declared past)
        ] refl

    pub rows_declared : (past : List Event) (e : Event) → verdict_on q past e ≡ None → AllByRecursion (λ r. is_row_of (declared_keys q) r ≡ true) (turn_rows q past e)
    rows_declared past e taken =
        subst (AllByRecursion (λ r. is_row_of (declared_keys q) r ≡ true))
        (rows_of_part (declared_keys q) past e taken
        ∙ ap (λ (b : Bool). cond b (turn_rows there (of_keys (declared_keys q) (blanked q past)) e) []) (is_declared past e taken)
        ∙ ap (λ (h : List Event). turn_rows there h e) (all_declared past)
        ∙ same_rows past e taken)
        (passed (is_row_of (declared_keys q)) (turn_rows q past e))

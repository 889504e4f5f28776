-- Behind the events that were taken each event has the verdict and the rows that it has behind all.
use Rattle.std.proofs.Common.{◌≡◌, ℕ, ◌≤◌, Bool, true, false, cond, List, [], ◌∷◌, ℤ, pos, ◌≤ℤ◌, Some, None, is_none, refl, sym, ap, subst, ◌∙◌, arith}
use Rattle.std.proofs.lemmas.Bool.{true≢false}
use Rattle.std.specs.Prelude.{unsigned_abs}
use Rattle.wsm_record.specs.declared.words.Form.TheVariants.{Panes}
use Rattle.wsm_record.specs.Event.{Event, Record, Watermark}
use Rattle.wsm_windows.specs.Windows.{IsShape}
use Rattle.wsm_admission.specs.declared.verdict.Refusal.{Refusal}
use Rattle.wsm_admission.specs.Clock.{marks_of, least, admitted_count, admitted_with, verdict_at}
use Rattle.wsm_admission.proofs.Taken.{taken_record}
use Rattle.wsm_semantics.specs.declared.out_row.OutRow.{OutRow}
use Rattle.wsm_semantics.specs.declared.out_row.OutRow.TheVariants.{Pane, Retract, Istream, Dstream, Rstream}
use Rattle.wsm_semantics.specs.Query.{Query, SessionsByEvent, verdict_on}
use Rattle.wsm_semantics.specs.Relation.{turn_rows}
use Rattle.wsm_semantics.specs.ByKey.{Keys, is_of, of_keys, HasRoom, IgnoresTurns, is_row_of, with_records}
use Rattle.wsm_semantics.proofs.Lists.{all-each}
use Rattle.wsm_semantics.proofs.Each.{all_of}
use Rattle.wsm_semantics.proofs.KeyParts.{marks_of_part, room_of_part}
use Rattle.wsm_key_parts.specs.TakenAlone.{taken, TakenAlone}
use Rattle.wsm_key_parts.specs.Parts.{declared_keys}
use Rattle.wsm_key_parts.proofs.Alike.{blank, refused_rows}
use Rattle.wsm_key_parts.proofs.Blanked.{blanked, follows, rows_of_part, rows_declared}

-- all keys, and not what is of none
abbrev any_key : Keys
any_key None = false
any_key (Some n) = true

of_any : (q : Query) (r : OutRow) → is_row_of (declared_keys q) r ≡ true → is_row_of any_key r ≡ true
of_any q (Pane kind key window columns) h = refl
of_any q (Retract key window columns) h = refl
of_any q (Istream mark columns) h = h
of_any q (Dstream mark columns) h = h
of_any q (Rstream mark columns) h = h

as_many_with : (n : ℕ) (e : Event) (r : Refusal) → admitted_with n e (Some r) ≡ n
as_many_with n (Record k t vs) r = refl
as_many_with n (Watermark s t) r = refl

module _ (q : Query) where
  has_key : (past : List Event) (e : Event) → verdict_on q past e ≡ None → is_of any_key e ≡ true
  has_key past (Watermark s t) is = refl
  has_key past (Record (Some k) t vs) is = refl
  has_key past (Record None t vs) is =
      absurd (true≢false (sym ((taken_record q.clock q.shape q.declared (least (marks_of q.clock q.declared past)) (admitted_count q.clock q.shape q.declared past) None t vs is).has_key)))

  -- what is left where blanks go
  taken_is : (past : List Event) → of_keys any_key (blanked q past) ≡ taken q past
  taken_is [] = refl
  taken_is (e ∷ past) =
      elim (verdict_on q past e) as (λ v. verdict_on q past e ≡ v → of_keys any_key (cond (is_none v) e blank ∷ blanked q past) ≡ cond (is_none v) (e ∷ taken q past) (taken q past)) [
        | None ↦ λ is. ap (λ (b : Bool). cond b (e ∷ of_keys any_key (blanked q past)) (of_keys any_key (blanked q past))) (has_key past e is) ∙ ap (λ (es : List Event). e ∷ es) (taken_is past)
        | Some r ↦ λ _. taken_is past
      ] refl

  module _ (ok : IsShape q.shape) (timely : SessionsByEvent q) (low : pos 0 ≤ℤ q.clock.lateness) where
    room : (records : ℤ) → unsigned_abs q.clock.records ≤ unsigned_abs records → (past : List Event) → HasRoom (with_records records q) (taken q past)
    room records wide past =
        subst (HasRoom (with_records records q)) (taken_is past)
        (room_of_part (with_records records q) any_key (blanked q past) (follows q ok timely low q.declared.keys records (omega arith) wide past).room)

    same_marks : (past : List Event) → marks_of q.clock q.declared (taken q past) ≡ marks_of q.clock q.declared past
    same_marks past =
        ap (marks_of q.clock q.declared) (sym (taken_is past))
        ∙ marks_of_part q.clock q.declared any_key (blanked q past)
        ∙ (follows q ok timely low q.declared.keys q.clock.records (omega arith) (omega arith) past).alike.marks

    abbrev count : List Event → ℕ
    count past = admitted_count q.clock q.shape q.declared past

    verdict_by : (past : List Event) → count (taken q past) ≡ count past → (e : Event) → verdict_on q (taken q past) e ≡ verdict_on q past e
    verdict_by past same e = λ i. verdict_at q.clock q.shape q.declared (same_marks past i) (same i) e

    same_count : (past : List Event) → count (taken q past) ≡ count past
    same_count [] = refl
    same_count (e ∷ past) =
        let before = same_count past in
        elim (verdict_on q past e) as (λ v. verdict_on q past e ≡ v → count (cond (is_none v) (e ∷ taken q past) (taken q past)) ≡ admitted_with (count past) e v) [
          | None ↦ λ is. λ i. admitted_with (before i) e ((verdict_by past before e ∙ is) i)
          | Some r ↦ λ _. before ∙ sym (as_many_with (count past) e r)
        ] refl

    verdict : (past : List Event) (e : Event) → verdict_on q (taken q past) e ≡ verdict_on q past e
    verdict past e = verdict_by past (same_count past) e

    module _ (form : q.form ≡ Panes) (ignores : IgnoresTurns q) where
      rows_behind : (past : List Event) (e : Event) → verdict_on q past e ≡ None → turn_rows q (taken q past) e ≡ turn_rows q past e
      rows_behind past e is =
          ap (λ (h : List Event). turn_rows q h e) (sym (taken_is past))
          ∙ sym (ap (λ (b : Bool). cond b (turn_rows q (of_keys any_key (blanked q past)) e) []) (has_key past e is))
          ∙ sym (rows_of_part q ok timely low q.declared.keys q.clock.records (omega arith) (omega arith) form ignores any_key past e is)
          ∙ all_of (is_row_of any_key) (turn_rows q past e)
          (all-each (λ r. is_row_of (declared_keys q) r ≡ true) (λ r. is_row_of any_key r ≡ true) (turn_rows q past e) (of_any q)
          (rows_declared q ok timely low q.declared.keys q.clock.records (omega arith) (omega arith) form ignores past e is))

      rows : (past : List Event) (e : Event) → turn_rows q (taken q past) e ≡ turn_rows q past e
      rows past e =
          elim (verdict_on q past e) as (λ v. verdict_on q past e ≡ v → turn_rows q (taken q past) e ≡ turn_rows q past e) [
            | None ↦ λ is. rows_behind past e is
            | Some r ↦ λ is. refused_rows q ok timely low form (taken q past) e r (verdict past e ∙ is) ∙ sym (refused_rows q ok timely low form past e r is)
          ] refl

      pub taken_alone : TakenAlone q
      taken_alone = record { room = room; verdict = verdict; rows = rows }

-- Line by line a front and its parts write what the query over all keys writes.
use Rattle.std.proofs.Common.{◌≡◌, ℕ, ◌+◌, ◌<◌, ◌≤◌, List, [], ◌∷◌, ◌++◌, length, map, ℤ, pos, ◌≤ℤ◌, Option, Some, None, Ok, Err, cond, refl, sym, ap, subst, ◌∙◌, arith}
use Rattle.std.proofs.lemmas.List.{length-append}
use Rattle.std.specs.Prelude.{unsigned_abs}
use Rattle.std.specs.List.{sum_by}
use Rattle.wsm_record.specs.declared.event.RowFault.{RowFault}
use Rattle.wsm_record.specs.declared.words.Form.TheVariants.{Panes}
use Rattle.wsm_record.specs.Event.{Event}
use Rattle.wsm_windows.specs.Windows.{IsShape}
use Rattle.wsm_admission.specs.declared.clock.Clock.{Clock}
use Rattle.wsm_admission.specs.declared.verdict.Refusal.{Refusal}
use Rattle.wsm_admission.specs.Clock.{verdict_at, marks_of, least, admitted_count, late_count, refused_count}
use Rattle.wsm_admission.specs.Admission.{Fits, counter, marks_with}
use Rattle.wsm_admission.proofs.FittedHistory.{Fits-after, clock-after, opened_fits}
use Rattle.wsm_semantics.specs.Query.{Query, SessionsByEvent, verdict_on}
use Rattle.wsm_semantics.specs.Firings.{Firing, firings, firings_so_far}
use Rattle.wsm_semantics.specs.Relation.{turn_rows}
use Rattle.wsm_semantics.specs.ByKey.{IgnoresTurns, is_of}
use Rattle.wsm_semantics.specs.Lines.{Row, Out, Faulty, End, events, fault_count, refusal_lines, turn_lines, end_line}
use Rattle.wsm_semantics.proofs.Effects.{effect-refused}
use Rattle.wsm_semantics.proofs.Turns.{firings-nothing}
use Rattle.wsm_key_parts.specs.Merged.{merged}
use Rattle.wsm_key_parts.specs.Parts.{Parts, query_in, before_in, keys_in, placed, fed_before, fed_after, all_parts, verdict_by, rows_in, fired_in, rows_by, fired_by, fed_by, part_turn, part_lines, part_end, after_rows, WritesTogether}
use Rattle.wsm_key_parts.proofs.Alike.{refused_rows}
use Rattle.wsm_key_parts.proofs.PartTurns.{IsFed, all_rows, part_fed, part_takes, part_passed, part_first}
use Rattle.wsm_key_parts.proofs.Counted.{told, all_fired}

counted_twice : (a b : ℕ) → counter (a + counter b) ≡ counter (a + b)
counted_twice a b = omega arith

module _ (places : List (List ℕ)) (records : ℤ) (q : Query) (ok : IsShape q.shape) (timely : SessionsByEvent q) (low : pos 0 ≤ℤ q.clock.lateness)
    (form : q.form ≡ Panes) (ignores : IgnoresTurns q) (some : 0 < length places) (wide : unsigned_abs q.clock.records ≤ unsigned_abs records) where
  abbrev FedFor : ℕ → List Event → List Event → Type 0
  FedFor part past fed = IsFed places records q ok timely low form ignores some wide part past fed

  -- the same of the query by which firings are counted
  abbrev FedTold : ℕ → List Event → List Event → Type 0
  FedTold part past fed = IsFed places records (told q) ok timely low form (λ f key ds. refl) some wide part past fed

  -- what is kept is the history's
  record FitsAll (s : Parts) (rows : List Row) : Type 0 where
    front : Fits q.shape q.declared s.front (events rows)
    clock : s.front.clock ≡ q.clock
    read : s.read ≡ length rows
    faulty : s.faulty ≡ fault_count rows
    fired : s.fired ≡ length (firings_so_far q (events rows))
    fed : (part : ℕ) → FedFor part (events rows) (s.fed part)
    fed_told : (part : ℕ) → FedTold part (events rows) (s.fed part)

  module _ (s : Parts) (rows : List Row) (fits : FitsAll s rows) where
    abbrev past : List Event
    past = events rows

    same_marks : s.front.marks ≡ marks_of q.clock q.declared past
    same_marks = fits.front.marks ∙ ap (λ (c : Clock). marks_of c q.declared past) fits.clock

    same_admitted : s.front.admitted ≡ admitted_count q.clock q.shape q.declared past
    same_admitted = fits.front.admitted ∙ ap (λ (c : Clock). admitted_count c q.shape q.declared past) fits.clock

    module _ (e : Event) where
      same_verdict : verdict_by places records q s e ≡ verdict_on q past e
      same_verdict = λ i. verdict_at q.clock q.shape q.declared (same_marks i) (same_admitted i) e

      -- what the parts were fed goes by the marks of the history
      abbrev before_at : List ℤ → ℕ → Option (List Event)
      before_at marks part = cond (is_of (keys_in (length places) part) e) (fed_before q.clock.start marks e (s.fed part)) None

      rows_are : (v : Option Refusal) → verdict_on q past e ≡ v → rows_by places records q s e v ≡ turn_rows q past e
      rows_are None taken =
          (λ i. merged (λ part. rows_in places records q part e (before_at (same_marks i) part)) (all_parts places records q))
          ∙ sym (all_rows places records q ok timely low form ignores some wide past e taken s.fed fits.fed)
      rows_are (Some r) refused = sym (refused_rows q ok timely low form past e r refused)

      fired_are : (v : Option Refusal) → verdict_on q past e ≡ v → fired_by places records q s e v ≡ length (firings q past e)
      fired_are None taken =
          (λ i. sum_by (λ part. fired_in places records q part e (before_at (same_marks i) part)) (all_parts places records q))
          ∙ all_fired places records q ok timely low form some wide past e taken s.fed fits.fed_told
      fired_are (Some r) refused = sym (ap (λ (fs : List Firing). length fs) (firings-nothing q past e (effect-refused q past e r refused)))

      takes : verdict_by places records q s e ≡ None → (part : ℕ) → part < length q.declared.keys → (before : List Event) → before_in places records q s e part ≡ Some before →
          verdict_on (query_in places records q part) before (placed (length places) e) ≡ None
      takes is part few before which =
          part_takes places records q ok timely low form ignores some wide part past e (sym same_verdict ∙ is) few (s.fed part) (fits.fed part) before
          ((λ i. before_at (sym same_marks i) part) ∙ which)

      fed_are : (v : Option Refusal) → verdict_on q past e ≡ v → (part : ℕ) → FedFor part (e ∷ past) (fed_by places records q s e v part)
      fed_are None taken part =
          subst (λ (ms : List ℤ). FedFor part (e ∷ past) (fed_after (placed (length places) e) (s.fed part) (before_at ms part))) (sym same_marks)
          (part_fed places records q ok timely low form ignores some wide part past e taken (s.fed part) (fits.fed part))
      fed_are (Some r) refused part = part_passed places records q ok timely low form ignores some wide part past e r refused (s.fed part) (fits.fed part)

      fed_told_are : (v : Option Refusal) → verdict_on q past e ≡ v → (part : ℕ) → FedTold part (e ∷ past) (fed_by places records q s e v part)
      fed_told_are None taken part =
          subst (λ (ms : List ℤ). FedTold part (e ∷ past) (fed_after (placed (length places) e) (s.fed part) (before_at ms part))) (sym same_marks)
          (part_fed places records (told q) ok timely low form (λ f key ds. refl) some wide part past e taken (s.fed part) (fits.fed_told part))
      fed_told_are (Some r) refused part = part_passed places records (told q) ok timely low form (λ f key ds. refl) some wide part past e r refused (s.fed part) (fits.fed_told part)

      -- one event more
      next_event : FitsAll (part_turn places records q s (Ok e)) (Ok e ∷ rows)
      next_event = record {
        front = Fits-after q.shape q.declared s.front past fits.front e;
        clock = clock-after s.front.mark (least (marks_with s.front.marks e)) s.front e (verdict_at s.front.clock q.shape q.declared s.front.marks s.front.admitted e) ∙ fits.clock;
        read = let is = fits.read in omega (arith, is);
        faulty = fits.faulty;
        fired = (λ i. fits.fired i + (ap (fired_by places records q s e) same_verdict ∙ fired_are (verdict_on q past e) refl) i)
            ∙ sym (length-append (firings_so_far q past) (firings q past e));
        fed = λ part. subst (λ (v : Option Refusal). FedFor part (e ∷ past) (fed_by places records q s e v part)) (sym same_verdict) (fed_are (verdict_on q past e) refl part);
        fed_told = λ part. subst (λ (v : Option Refusal). FedTold part (e ∷ past) (fed_by places records q s e v part)) (sym same_verdict) (fed_told_are (verdict_on q past e) refl part);
      }

    -- one row more that is no event
    next_fault : (why : RowFault) → FitsAll (part_turn places records q s (Err why)) (Err why ∷ rows)
    next_fault why = record {
      front = fits.front;
      clock = fits.clock;
      read = let is = fits.read in omega (arith, is);
      faulty = ap (λ (n : ℕ). n + 1) fits.faulty;
      fired = fits.fired;
      fed = fits.fed;
      fed_told = fits.fed_told;
    }

    -- what is written on the turn of a row
    lines_are : (row : Row) → part_lines places records q s row ≡ turn_lines q rows row
    lines_are (Err why) = ap (λ (n : ℕ). Faulty (counter (n + 1)) why ∷ []) fits.read
    lines_are (Ok e) =
        λ i. refusal_lines (counter (fits.read i + 1)) (same_verdict e i) ++ map Out ((ap (rows_by places records q s e) (same_verdict e) ∙ rows_are e (verdict_on q past e) refl) i)

    end_is : part_end places records q s ≡ end_line q rows
    end_is =
        let late = fits.front.late ∙ ap (λ (c : Clock). counter (late_count c q.shape q.declared past)) fits.clock in
        let refused = fits.front.refused ∙ ap (λ (c : Clock). counter (refused_count c q.shape q.declared past)) fits.clock in
        let lost = (λ i. counter (fits.faulty i + refused i)) ∙ counted_twice (fault_count rows) (refused_count q.clock q.shape q.declared past) in
        λ i. End (counter (fits.read i)) (counter (same_admitted i)) (late i) (lost i) (counter (fits.fired i))

  fits_after : (rows : List Row) → FitsAll (after_rows places records q rows) rows
  fits_after [] = record {
    front = opened_fits q.clock q.shape q.declared;
    clock = refl;
    read = refl;
    faulty = refl;
    fired = refl;
    fed = λ part. part_first places records q ok timely low form ignores some wide part;
    fed_told = λ part. part_first places records (told q) ok timely low form (λ f key ds. refl) some wide part;
  }
  fits_after (Ok e ∷ rows) = next_event (after_rows places records q rows) rows (fits_after rows) e
  fits_after (Err why ∷ rows) = next_fault (after_rows places records q rows) rows (fits_after rows) why

  pub writes_together : WritesTogether places records q
  writes_together = record {
    lines = λ before row. lines_are (after_rows places records q before) before (fits_after before) row;
    end = λ rows. end_is (after_rows places records q rows) rows (fits_after rows);
    verdict = λ before e. same_verdict (after_rows places records q before) before (fits_after before) e;
    rows = λ before e.
        ap (rows_by places records q (after_rows places records q before) e) (same_verdict (after_rows places records q before) before (fits_after before) e)
        ∙ rows_are (after_rows places records q before) before (fits_after before) e (verdict_on q (events before) e) refl;
    clock = λ rows. (fits_after rows).clock;
    front = λ rows. (fits_after rows).front;
    fired = λ rows. (fits_after rows).fired;
    taken = λ rows e is part few before which. takes (after_rows places records q rows) rows (fits_after rows) e is part few before which;
  }

-- The turn of an event: what a front and engines come to, and write, is what the query over all names does.
use Rattle.std.proofs.Common.{◌≡◌, ◌≢◌, ℕ, suc, ◌+◌, ◌*◌, ◌<◌, ◌≤◌, Bool, true, false, cond, List, [], ◌∷◌, length, map, ℤ, Option, Some, None, Result, Ok, nat_eq, nat_lt, refl, sym, ap, subst, ◌∙◌, inl, inr, arith}
use Rattle.std.proofs.lemmas.Bool.{cases_lt}
use Rattle.std.proofs.lemmas.Bool.Decides.{nat_tests}
use Rattle.std.proofs.lemmas.List.{get_or_past}
use Rattle.std.proofs.Math.Nat.{div-le_self, mul-le-mul_left}
use Rattle.std.specs.Prelude.{◌/◌, IsTrue}
use Rattle.std.specs.List.{AllByRecursion, range_with_len, sum_by}
use Rattle.wsm_record.specs.declared.event.Value.{Value}
use Rattle.wsm_record.specs.declared.words.Form.TheVariants.{Panes}
use Rattle.wsm_record.specs.Event.{Event, Record, Watermark}
use Rattle.wsm_record.proofs.Schemas.{has_keys}
use Rattle.wsm_admission.specs.declared.verdict.Refusal.{Refusal}
use Rattle.wsm_admission.specs.Admission as admission
use Rattle.wsm_admission.specs.declared.clock.Clock.{Clock}
use Rattle.wsm_admission.specs.declared.verdict.Admitted.{Admitted}
use Rattle.wsm_admission.specs.Clock.{admitted_count, late_count, least, refused_count, verdict_at, watermark_of}
use Rattle.wsm_admission.specs.Admission.{answer, counter, decision, marks_with}
use Rattle.wsm_semantics.specs.declared.out_row.OutRow.{OutRow}
use Rattle.wsm_semantics.specs.declared.out_row.OutRow.TheVariants.{Pane, Retract, Istream, Dstream, Rstream}
use Rattle.wsm_semantics.specs.Query.{Query, mark, verdict_on}
use Rattle.wsm_semantics.specs.declared.ending.Totals.{Totals}
use Rattle.wsm_semantics.specs.Firings.{firings, firings_so_far}
use Rattle.wsm_semantics.specs.Relation.{turn_rows}
use Rattle.wsm_semantics.specs.ByKey.{is_of, is_row_of}
use Rattle.wsm_semantics.specs.ByNumber.{row_by}
use Rattle.wsm_semantics.proofs.Lists.{all-each}
use Rattle.wsm_program.specs.Program.{Program, is_program}
use Rattle.wsm_program.proofs.Lawful.{header_schema, program_header}
use Rattle.wsm_rules.proofs.Lawful.{lawful}
use Rattle.wsm_machine.specs.Meaning.{query_of}
use Rattle.wsm_machine.proofs.CountedSessions.{sessions_by_event}
use Rattle.wsm_engine.specs.State.{State as EngineState}
use Rattle.wsm_engine.specs.Meaning.{totals_of}
use Rattle.wsm_key_parts.specs.Merged.{in_order}
use Rattle.wsm_key_parts.specs.OpenedLate.{openers}
use Rattle.wsm_key_parts.specs.Parts.{DecidesByPlaces, Parts, before_in, declared_keys, fed_after, fed_before, fed_by, fired_by, fired_in, number_in, placed, query_in, rows_by, rows_in, verdict_by}
use Rattle.wsm_key_parts.proofs.Blanked.{rows_declared}
use Rattle.wsm_key_parts.proofs.Deciding.{decides_by_places}
use Rattle.wsm_key_parts.proofs.MergedParts.{stays_in_order}
use Rattle.wsm_part_programs.specs.Keyless.{IsKeyless}
use Rattle.wsm_part_programs.specs.Names.{of_names, WritesNames}
use Rattle.wsm_part_programs.proofs.Law.{one_program, together, turns_ignored}
use Rattle.wsm_part_engines.specs.State.{State}
use Rattle.wsm_part_engines.specs.Fits.{AreNamed, FitsBy, IsFed, IsPlaced, by_number, engine_at, is_named, number_of, parts_after}
use Rattle.wsm_part_engines.specs.Slots.{AreOf, FeedsAll, Holds, IsOf, fed_with, fired_on, rows_of, rows_on}
use Rattle.wsm_part_engines.specs.Ordered.{all_places, arranged, places_from, row_at}
use Rattle.wsm_part_engines.specs.Takes.{Took}
use Rattle.wsm_part_engines.proofs.TurnRows.{is_own, numbered_order, rows_of_one}
use Rattle.wsm_part_engines.proofs.Arranged.{rows_arranged}
use Rattle.wsm_part_engines.proofs.Parted.{events_all, flat_as_far, flat_one, other_part, own_part, place_is, same_numbers, sum_as_far, sum_one}

-- what a part was fed before a record
abbrev pub before_of : ℤ → List ℤ → List Event → List Event
before_of start marks [] = openers start 0 marks
before_of start marks (f ∷ fed) = f ∷ fed

pub record_before : (start : ℤ) (marks : List ℤ) (key : Option ℕ) (t : ℤ) (vs : List Value) (fed : List Event) → fed_before start marks (Record key t vs) fed ≡ Some (before_of start marks fed)
record_before start marks key t vs [] = refl
record_before start marks key t vs (f ∷ fed) = refl

one_more : (fed next n : ℕ) → fed ≡ counter n → next ≡ counter (fed + 1) → next ≡ counter (suc n)
one_more fed next n h k = omega arith

more_fired : (fired n panes more : ℕ) → fired ≡ counter n → panes ≡ more → counter (fired + panes) ≡ counter (n + more)
more_fired fired n panes more h k = omega arith

more_counted : (fired n panes more : ℕ) → fired ≡ counter n → panes ≡ counter more → counter (fired + panes) ≡ counter (n + more)
more_counted fired n panes more h k = omega arith

holds_of : (slot : Option EngineState) (fed : List Event) → IsFed slot fed → Holds slot fed
holds_of None fed is = is
holds_of (Some s) fed is = is.0

no_engine : (slot : Option EngineState) (fed : List Event) → IsFed slot fed → fed ≡ [] → slot ≡ None
no_engine None fed is none = refl
no_engine (Some s) fed is none = let k = is.3 in absurd (cc)

module _ (p : Program) (whole : IsTrue (is_program p)) (panes_form : p.header.form ≡ Panes) (keyless : IsKeyless p) (names : List (List ℕ)) where
  abbrev q : Query
  q = of_names p names

  abbrev places : List (List ℕ)
  places = p.header.schema.keys

  abbrev block : ℕ
  block = length places

  abbrev records : ℤ
  records = p.header.clock.records

  abbrev start : ℤ
  start = p.header.clock.start

  law : WritesNames p names
  law = together p whole panes_form names

  some : 0 < block
  some = has_keys p.header.schema (header_schema p.header (program_header p whole))

  part_program : (part : ℕ) → query_in places records q part ≡ query_of p
  part_program part = one_program p keyless names part

  own_is : (r : OutRow) → is_row_of (declared_keys (query_of p)) r ≡ is_own block r
  own_is (Pane kind key w cs) = refl
  own_is (Retract key w cs) = refl
  own_is (Istream m cs) = refl
  own_is (Dstream m cs) = refl
  own_is (Rstream m cs) = refl

  abbrev kept : List Event → Parts
  kept past = parts_after p names past

  module _ (past : List Event) (e : Event) where
    abbrev verdict : Option Refusal
    verdict = verdict_by places records q (kept past) e

    pub verdict_there : verdict ≡ verdict_on q past e
    verdict_there = law.verdict (map Ok past) e ∙ ap (λ (h : List Event). verdict_on q h e) (events_all past)

    pub rows_there : (v : Option Refusal) → verdict ≡ v → rows_by places records q (kept past) e v ≡ turn_rows q past e
    rows_there v is = ap (rows_by places records q (kept past) e) (sym is) ∙ law.rows (map Ok past) e ∙ ap (λ (h : List Event). turn_rows q h e) (events_all past)

    module _ (taken : verdict ≡ None) (part : ℕ) (few : part < length names) (before : List Event) (which : before_in places records q (kept past) e part ≡ Some before) where
      pub own_rows : AllByRecursion (λ r. is_own block r ≡ true) (turn_rows (query_of p) before (placed block e))
      own_rows =
          let there : verdict_on (query_of p) before (placed block e) ≡ None =
          subst (λ (r : Query). verdict_on r before (placed block e) ≡ None) (part_program part) (law.taken (map Ok past) e taken part few before which) in
          all-each (λ r. is_row_of (declared_keys (query_of p)) r ≡ true) (λ r. is_own block r ≡ true) (turn_rows (query_of p) before (placed block e)) (λ r h. sym (own_is r) ∙ h)
          (rows_declared (query_of p) (lawful p whole).shape (sessions_by_event p whole) (lawful p whole).lateness.low (query_of p).declared.keys (query_of p).clock.records (omega arith) (omega arith) panes_form (turns_ignored p) before (placed block e) there)

      pub in_part : rows_in places records q part e (Some before) ≡ map (row_by (number_of block part)) (turn_rows (query_of p) before (placed block e))
      in_part =
          ap (λ (r : Query). map (row_by (number_in block (length names) part)) (turn_rows r before (placed block e))) (part_program part)
          ∙ same_numbers block (length names) part (turn_rows (query_of p) before (placed block e)) own_rows

    pub fired_part : (part : ℕ) (before : List Event) → fired_in places records q part e (Some before) ≡ length (firings (query_of p) before (placed block e))
    fired_part part before = ap (λ (r : Query). length (firings r before (placed block e))) (part_program part)

  -- ---- what is past the names is fed nothing

  none_taken : (past : List Event) (e : Event) → is_named names e ≡ true → (part : ℕ) → length names ≤ part → (kept past).fed part ≡ [] → fed_by places records q (kept past) e None part ≡ []
  none_taken past (Record None t vs) named part h none = none
  none_taken past (Record (Some n) t vs) named part h none =
      let low = div-le_self n block in
      let less : n < length names = grind (arith, nat_tests) in
      let other : nat_eq part (n / block) ≡ false = differs part (n / block) (omega (arith, low, less, h)) in
      ap (λ (b : Bool). fed_after (placed block (Record (Some n) t vs)) ((kept past).fed part) (cond b (fed_before start (kept past).front.marks (Record (Some n) t vs) ((kept past).fed part)) None)) other ∙ none
    where
      differs : (a b : ℕ) → b < a → nat_eq a b ≡ false
      differs a b less = grind (arith, nat_tests)
  none_taken past (Watermark s t) named part h none =
      ap (λ (fed : List Event). fed_after (placed block (Watermark s t)) fed (fed_before start (kept past).front.marks (Watermark s t) fed)) none

  fed_within : (past : List Event) → AreNamed names past → (part : ℕ) → length names ≤ part → (kept past).fed part ≡ []
  fed_within [] named part h = refl
  fed_within (e ∷ past) named part h = by (fed_within past named.1 part h) (verdict past e) where
    by : (kept past).fed part ≡ [] → (v : Option Refusal) → fed_by places records q (kept past) e v part ≡ []
    by none (Some r) = none
    by none None = none_taken past e named.0 part h none

  -- ---- the front's decision

  decides : DecidesByPlaces places q
  decides = decides_by_places places q some

  pub placed_back : (part : ℕ) (e : Event) → IsPlaced block e → placed block (by_number block part e) ≡ e
  placed_back part (Record None t vs) place = refl
  placed_back part (Record (Some k) t vs) place = ap (λ (n : ℕ). Record (Some n) t vs) (place_is block part k place)
  placed_back part (Watermark source t) place = refl

  is_declared : (e : Event) → is_named names e ≡ true → is_of (declared_keys q) e ≡ true
  is_declared (Record None t vs) known = refl
  is_declared (Record (Some n) t vs) known = known
  is_declared (Watermark source t) known = refl

  module _ (past : List Event) (front : admission.State) (same : front ≡ (kept past).front) (part : ℕ) (e : Event) (place : IsPlaced block e) (known : is_named names (by_number block part e) ≡ true)
      (a : Result Admitted Refusal) (decided : a ≡ decision p.header.shape p.header.schema front e) where
    abbrev numbered : Event
    numbered = by_number block part e

    decided_is : a ≡ decision q.shape q.declared (kept past).front numbered
    decided_is =
        decided
        ∙ (λ i. decision p.header.shape p.header.schema (same i) (sym (placed_back part e place) i))
        ∙ decides.decision (kept past).front numbered (is_declared numbered known)

    pub answered : a ≡ answer (kept past).front.mark (least (marks_with (kept past).front.marks numbered)) numbered (verdict past numbered)
    answered =
        decided_is
        ∙ ap (λ (c : Clock). answer (kept past).front.mark (least (marks_with (kept past).front.marks numbered)) numbered (verdict_at c q.shape q.declared (kept past).front.marks (kept past).front.admitted numbered)) (law.clock (map Ok past))

    pub front_next : (next : admission.State) → next ≡ admission.after a e front → next ≡ (kept (numbered ∷ past)).front
    front_next next is =
        is
        ∙ (λ i. admission.after a (sym (placed_back part e place) i) (same i))
        ∙ decides.after (kept past).front numbered a
        ∙ ap (λ (r : Result Admitted Refusal). admission.after r numbered (kept past).front) decided_is

  -- ---- the end

  pub totals_are : (front : admission.State) (engines : List (Option EngineState)) (fed fired : ℕ) (rows : List OutRow) (past : List Event) → FitsBy names (record { program = p; front = front; engines = engines; fed = fed; fired = fired; rows = rows }) past
      → (let t : Totals = record { rows = fed; admitted = front.admitted; late = front.late; refused = front.refused; panes = fired } in t) ≡ totals_of q past
  totals_are front engines fed fired rows past fits =
      let there : admission.Fits q.shape q.declared (kept past).front past = subst (admission.Fits q.shape q.declared (kept past).front) (events_all past) (law.front (map Ok past)) in
      let clock = law.clock (map Ok past) in
      let admitted : front.admitted ≡ admitted_count q.clock q.shape q.declared past =
      ap (λ (f : admission.State). f.admitted) fits.front ∙ there.admitted ∙ ap (λ (c : Clock). admitted_count c q.shape q.declared past) clock in
      let late : front.late ≡ counter (late_count q.clock q.shape q.declared past) =
      ap (λ (f : admission.State). f.late) fits.front ∙ there.late ∙ ap (λ (c : Clock). counter (late_count c q.shape q.declared past)) clock in
      let refused : front.refused ≡ counter (refused_count q.clock q.shape q.declared past) =
      ap (λ (f : admission.State). f.refused) fits.front ∙ there.refused ∙ ap (λ (c : Clock). counter (refused_count c q.shape q.declared past)) clock in
      let fires : fired ≡ counter (length (firings_so_far q past)) =
      fits.fired ∙ ap counter (law.fired (map Ok past)) ∙ ap (λ (h : List Event). counter (length (firings_so_far q h))) (events_all past) in
      λ i. record { rows = fits.fed i; admitted = admitted i; late = late i; refused = refused i; panes = fires i }

  pub mark_is : (front : admission.State) (engines : List (Option EngineState)) (fed fired : ℕ) (rows : List OutRow) (past : List Event) → FitsBy names (record { program = p; front = front; engines = engines; fed = fed; fired = fired; rows = rows }) past
      → front.mark ≡ mark q past
  mark_is front engines fed fired rows past fits =
      let there : admission.Fits q.shape q.declared (kept past).front past = subst (admission.Fits q.shape q.declared (kept past).front) (events_all past) (law.front (map Ok past)) in
      ap (λ (f : admission.State). f.mark) fits.front ∙ there.mark ∙ ap (λ (c : Clock). watermark_of c q.declared past) (law.clock (map Ok past))

  -- ---- turns

  abbrev pub at : admission.State → List (Option EngineState) → ℕ → ℕ → List OutRow → State
  at front engines fed fired rows = record { program = p; front = front; engines = engines; fed = fed; fired = fired; rows = rows }

  module _ (front : admission.State) (engines : List (Option EngineState)) (fed fired : ℕ) (rows : List OutRow) (past : List Event) (fits : FitsBy names (at front engines fed fired rows) past) where
    abbrev s : Parts
    s = kept past

    -- a refused event
    pub refused_turn : (e : Event) (r : Refusal) → verdict past e ≡ Some r → (front' : admission.State) (fed' : ℕ) (rows' : List OutRow) → front' ≡ (kept (e ∷ past)).front → fed' ≡ counter (fed + 1)
        → FitsBy names (at front' engines fed' fired rows') (e ∷ past)
    refused_turn e r refused front' fed' rows' is more = record {
      front = is;
      engines = λ part. subst (λ (v : Option Refusal). IsFed (engine_at engines part) (fed_by places records q s e v part)) (sym refused) (fits.engines part);
      fed = one_more fed fed' (length past) fits.fed more;
      fired =
          let none : fired_by places records q s e (verdict past e) ≡ 0 = ap (fired_by places records q s e) refused in
          fits.fired ∙ ap counter (let k : s.fired ≡ s.fired + fired_by places records q s e (verdict past e) = omega (arith, none) in k);
    }

    -- a record that is taken
    module _ (part k : ℕ) (t : ℤ) (vs : List Value) (place : k < block) (known : nat_lt (part * block + k) (length names) ≡ true) where
      abbrev e : Event
      e = Record (Some (part * block + k)) t vs

      abbrev e0 : Event
      e0 = Record (Some k) t vs

      abbrev before : List Event
      before = before_of start s.front.marks (s.fed part)

      placed_is : placed block e ≡ e0
      placed_is = ap (λ (n : ℕ). Record (Some n) t vs) (place_is block part k place)

      few : part < length names
      few =
          let less : part * block + k < length names = lower (part * block + k) (length names) known in
          let more : part * 1 ≤ part * block = mul-le-mul_left part (let one : 1 ≤ block = omega (arith, some) in one) in
          omega (arith, less, more)
        where
          lower : (a b : ℕ) → nat_lt a b ≡ true → a < b
          lower a b h = grind (arith, nat_tests)

      which : before_in places records q s e part ≡ Some before
      which = ap (λ (b : Bool). cond b (fed_before start s.front.marks e (s.fed part)) None) (own_part block part k place) ∙ record_before start s.front.marks (Some (part * block + k)) t vs (s.fed part)

      elsewhere : (other : ℕ) → other ≢ part → before_in places records q s e other ≡ None
      elsewhere other ne = ap (λ (b : Bool). cond b (fed_before start s.front.marks e (s.fed other)) None) (other_part block part other k place ne)

      module _ (taken : verdict past e ≡ None) (news : List (Option EngineState)) (panes : ℕ) (took : Took p before e0 (engine_at news part) panes)
          (others : (other : ℕ) → other ≢ part → engine_at news other ≡ engine_at engines other) where
        fed_own : (kept (e ∷ past)).fed part ≡ e0 ∷ before
        fed_own =
            ap (λ (v : Option Refusal). fed_by places records q s e v part) taken
            ∙ ap (fed_after (placed block e) (s.fed part)) which
            ∙ ap (λ (f : Event). f ∷ before) placed_is

        fed_other : (other : ℕ) → other ≢ part → (kept (e ∷ past)).fed other ≡ s.fed other
        fed_other other ne = ap (λ (v : Option Refusal). fed_by places records q s e v other) taken ∙ ap (fed_after (placed block e) (s.fed other)) (elsewhere other ne)

        at_other : (other : ℕ) → other ≢ part → IsFed (engine_at news other) ((kept (e ∷ past)).fed other)
        at_other other ne =
            subst (IsFed (engine_at news other)) (sym (fed_other other ne)) (subst (λ (slot : Option EngineState). IsFed slot (s.fed other)) (sym (others other ne)) (fits.engines other))

        fed_next : (other : ℕ) → IsFed (engine_at news other) ((kept (e ∷ past)).fed other)
        fed_next other =
            elim (cases_lt other part) [
              | inl less ↦ at_other other (let ne : other ≢ part = omega (arith, less) in ne)
              | inr least ↦ elim (cases_lt part other) [
                | inl more ↦ at_other other (let ne : other ≢ part = omega (arith, more) in ne)
                | inr most ↦
                    let is : part ≡ other = omega (arith, least, most) in
                    subst (λ (n : ℕ). IsFed (engine_at news n) ((kept (e ∷ past)).fed n)) is (subst (IsFed (engine_at news part)) (sym fed_own) took.fits)
              ]
            ]

        fired_own : fired_by places records q s e (verdict past e) ≡ panes
        fired_own =
            ap (fired_by places records q s e) taken
            ∙ sum_one (λ other. fired_in places records q other e (before_in places records q s e other)) part 0 (length names) (omega arith) (omega (arith, few)) (λ other ne. ap (fired_in places records q other e) (elsewhere other ne))
            ∙ ap (fired_in places records q part e) which
            ∙ fired_part past e part before
            ∙ ap (λ (f : Event). length (firings (query_of p) before f)) placed_is
            ∙ sym took.fired

        pub record_turn : (front' : admission.State) (fed' : ℕ) (rows' : List OutRow) → front' ≡ (kept (e ∷ past)).front → fed' ≡ counter (fed + 1) → FitsBy names (at front' news fed' (counter (fired + panes)) rows') (e ∷ past)
        record_turn front' fed' rows' is more = record {
          front = is;
          engines = fed_next;
          fed = one_more fed fed' (length past) fits.fed more;
          fired = more_fired fired s.fired panes (fired_by places records q s e (verdict past e)) fits.fired (sym fired_own);
        }

        own_here : AllByRecursion (λ r. is_own block r ≡ true) (rows_of (engine_at news part))
        own_here = subst (AllByRecursion (λ r. is_own block r ≡ true)) (ap (turn_rows (query_of p) before) placed_is ∙ sym took.rows) (own_rows past e taken part few before which)

        pub record_rows : map (row_at block news) (places_from part 0 (rows_of (engine_at news part))) ≡ turn_rows q past e
        record_rows =
            rows_of_one block news part own_here
            ∙ ap (map (row_by (number_of block part))) (took.rows ∙ sym (stays_in_order (query_of p) panes_form before e0))
            ∙ sym (numbered_order block part (turn_rows (query_of p) before e0))
            ∙ ap in_order (
            ap (λ (f : Event). map (row_by (number_of block part)) (turn_rows (query_of p) before f)) (sym placed_is)
            ∙ sym (in_part past e taken part few before which)
            ∙ ap (rows_in places records q part e) (sym which)
            ∙ sym (flat_one (λ other. rows_in places records q other e (before_in places records q s e other)) part 0 (length names) (omega arith) (omega (arith, few)) (λ other ne. ap (rows_in places records q other e) (elsewhere other ne))))
            ∙ rows_there past e None taken

    -- a watermark that is taken
    module _ (source : Option ℕ) (t : ℤ) (named : AreNamed names past) (of : AreOf p engines) (taken : verdict past (Watermark source t) ≡ None)
        (news : List (Option EngineState)) (panes : ℕ) (all : FeedsAll engines news (Watermark source t) panes) where
      abbrev w : Event
      w = Watermark source t

      abbrev marks : List ℤ
      marks = s.front.marks

      next_is : (slot new : Option EngineState) (fed : List Event) → IsFed slot fed → (slot ≡ None → new ≡ None) → Holds new (fed_with slot w fed) → IsFed new (fed_after w fed (fed_before start marks w fed))
      next_is None new [] is none holds = subst (λ (o : Option EngineState). IsFed o []) (sym (none refl)) refl
      next_is None new (f ∷ fed) is none holds = absurd (cc)
      next_is (Some st) new [] is none holds = let k = is.3 in absurd (cc)
      next_is (Some st) None (f ∷ fed) is none holds = holds
      next_is (Some st) (Some x) (f ∷ fed) is none holds = (holds, w, f ∷ fed, refl)

      fed_on : (part : ℕ) → IsFed (engine_at news part) ((kept (w ∷ past)).fed part)
      fed_on part =
          subst (λ (v : Option Refusal). IsFed (engine_at news part) (fed_by places records q s w v part)) (sym taken)
          (next_is (engine_at engines part) (engine_at news part) (s.fed part) (fits.engines part) (all.each part).1.none ((all.each part).1.fits (s.fed part) (holds_of (engine_at engines part) (s.fed part) (fits.engines part))))

      fired_at : (part : ℕ) (slot : Option EngineState) (fed : List Event) → IsFed slot fed → IsOf p slot → fired_on slot fed w ≡ fired_in places records q part w (fed_before start marks w fed)
      fired_at part None [] is own = refl
      fired_at part None (f ∷ fed) is own = absurd (cc)
      fired_at part (Some st) [] is own = let k = is.3 in absurd (cc)
      fired_at part (Some st) (f ∷ fed) is own = ap (λ (r : Program). length (firings (query_of r) (f ∷ fed) w)) own ∙ sym (fired_part past w part (f ∷ fed))

      fired_all : sum_by (λ part. fired_on (engine_at engines part) (s.fed part) w) (range_with_len 0 (length engines)) ≡ fired_by places records q s w (verdict past w)
      fired_all =
          sum_as_far (λ part. fired_on (engine_at engines part) (s.fed part) w) (λ part. fired_in places records q part w (before_in places records q s w part)) 0 (length engines) (length names)
          (λ part h. fired_at part (engine_at engines part) (s.fed part) (fits.engines part) (of part))
          (λ part h. ap (λ (slot : Option EngineState). fired_on slot (s.fed part) w) (get_or_past engines part None (omega (arith, h))))
          (λ part h. ap (λ (slot : Option EngineState). fired_on slot (s.fed part) w) (no_engine (engine_at engines part) (s.fed part) (fits.engines part) (fed_within past named part (omega (arith, h)))))
          ∙ ap (fired_by places records q s w) (sym taken)

      pub watermark_turn : (front' : admission.State) (fed' : ℕ) (rows' : List OutRow) → front' ≡ (kept (w ∷ past)).front → fed' ≡ counter (fed + 1) → FitsBy names (at front' news fed' (counter (fired + panes)) rows') (w ∷ past)
      watermark_turn front' fed' rows' is more = record {
        front = is;
        engines = fed_on;
        fed = one_more fed fed' (length past) fits.fed more;
        fired = more_counted fired s.fired panes (fired_by places records q s w (verdict past w)) fits.fired
            (all.fired s.fed (λ part. holds_of (engine_at engines part) (s.fed part) (fits.engines part)) ∙ ap counter fired_all);
      }

      -- the rows of a part
      record IsPart (part : ℕ) : Type 0 where
        own : AllByRecursion (λ r. is_own block r ≡ true) (rows_of (engine_at news part))
        written : map (row_by (number_of block part)) (rows_of (engine_at news part)) ≡ rows_in places records q part w (before_in places records q s w part)

      by_slot : (part : ℕ) (slot : Option EngineState) (fed : List Event) → part < length names → before_in places records q s w part ≡ fed_before start marks w fed → IsFed slot fed → IsOf p slot
          → rows_of (engine_at news part) ≡ rows_on slot fed w → IsPart part
      by_slot part None [] less there is own rows = record {
        own = subst (AllByRecursion (λ r. is_own block r ≡ true)) (sym rows) tt;
        written = ap (map (row_by (number_of block part))) rows ∙ sym (ap (rows_in places records q part w) there);
      }
      by_slot part None (f ∷ fed) less there is own rows = absurd (cc)
      by_slot part (Some st) [] less there is own rows = let k = is.3 in absurd (cc)
      by_slot part (Some st) (f ∷ fed) less there is own rows =
          let same : rows_of (engine_at news part) ≡ turn_rows (query_of p) (f ∷ fed) w = rows ∙ ap (λ (r : Program). turn_rows (query_of r) (f ∷ fed) w) own in
          record {
            own = subst (AllByRecursion (λ r. is_own block r ≡ true)) (sym same) (own_rows past w taken part less (f ∷ fed) there);
            written = ap (map (row_by (number_of block part))) same ∙ sym (in_part past w taken part less (f ∷ fed) there) ∙ sym (ap (rows_in places records q part w) there);
          }

      rows_at : (part : ℕ) → rows_of (engine_at news part) ≡ rows_on (engine_at engines part) (s.fed part) w
      rows_at part = (all.each part).1.rows (s.fed part) (holds_of (engine_at engines part) (s.fed part) (fits.engines part))

      none_past : (part : ℕ) → length names ≤ part → rows_of (engine_at news part) ≡ []
      none_past part h =
          rows_at part ∙ ap (λ (slot : Option EngineState). rows_on slot (s.fed part) w) (no_engine (engine_at engines part) (s.fed part) (fits.engines part) (fed_within past named part h))

      is_part : (part : ℕ) → IsPart part
      is_part part =
          elim (cases_lt part (length names)) [
            | inl less ↦ by_slot part (engine_at engines part) (s.fed part) less refl (fits.engines part) (of part) (rows_at part)
            | inr more ↦ record {
              own = subst (AllByRecursion (λ r. is_own block r ≡ true)) (sym (none_past part more)) tt;
              written = ap (map (row_by (number_of block part))) (none_past part more)
                  ∙ sym (ap (λ (fed : List Event). rows_in places records q part w (fed_before start marks w fed)) (fed_within past named part more));
            }
          ]

      still_on : (slot : Option EngineState) (fed : List Event) → IsOf p slot → in_order (rows_on slot fed w) ≡ rows_on slot fed w
      still_on None fed own = refl
      still_on (Some st) fed own = subst (λ (r : Program). in_order (turn_rows (query_of r) fed w) ≡ turn_rows (query_of r) fed w) (sym own) (stays_in_order (query_of p) panes_form fed w)

      pub watermark_rows : map (row_at block news) (arranged (all_places 0 news)) ≡ turn_rows q past w
      watermark_rows =
          rows_arranged block news (λ part. (is_part part).own) (λ part. ap in_order (rows_at part) ∙ still_on (engine_at engines part) (s.fed part) (of part) ∙ sym (rows_at part))
          ∙ ap in_order (flat_as_far (λ part. map (row_by (number_of block part)) (rows_of (engine_at news part))) (λ part. rows_in places records q part w (before_in places records q s w part)) 0 (length news) (length names)
          (λ part h. (is_part part).written)
          (λ part h. ap (λ (slot : Option EngineState). map (row_by (number_of block part)) (rows_of slot)) (get_or_past news part None (omega (arith, h))))
          (λ part h. ap (map (row_by (number_of block part))) (none_past part (omega (arith, h)))))
          ∙ rows_there past w None taken

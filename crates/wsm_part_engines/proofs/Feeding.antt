-- What parts answer to an event, by what their front decides and their engines take.
use Rattle.std.proofs.Common.{◌≡◌, ◌≢◌, ℕ, ◌+◌, Bool, true, false, List, [], ◌∷◌, length, map, ℤ, Option, Some, None, Result, Ok, Err, refl, sym, ap, subst, ◌∙◌}
use Rattle.std.specs.Prelude.{IsTrue}
use Rattle.wsm_record.specs.declared.event.Value.{Value}
use Rattle.wsm_record.specs.declared.words.Form.TheVariants.{Panes}
use Rattle.wsm_record.specs.Event.{Event, Record, Watermark}
use Rattle.wsm_admission.specs.declared.verdict.Admitted.{Admitted}
use Rattle.wsm_admission.specs.declared.verdict.Admitted.TheVariants as admitted
use Rattle.wsm_admission.specs.declared.verdict.Refusal.{Refusal}
use Rattle.wsm_admission.specs.Admission as admission
use Rattle.wsm_admission.specs.Admission.{answer, counter, decision, marks_with}
use Rattle.wsm_admission.specs.Clock.{least}
use Rattle.wsm_semantics.specs.declared.out_row.OutRow.{OutRow}
use Rattle.wsm_semantics.specs.Query.{effect_of, verdict_on}
use Rattle.wsm_semantics.specs.Relation.{turn_rows}
use Rattle.wsm_program.specs.Program.{Program, is_program}
use Rattle.wsm_machine.specs.Meaning.{query_of}
use Rattle.wsm_engine.specs.State.{State as EngineState}
use Rattle.wsm_engine.specs.Meaning.{selects_record}
use Rattle.wsm_key_parts.specs.Parts.{fed_before, verdict_by}
use Rattle.wsm_part_programs.specs.Keyless.{IsKeyless}
use Rattle.wsm_part_programs.specs.Names.{of_names}
use Rattle.wsm_part_engines.specs.State.{State}
use Rattle.wsm_part_engines.specs.Fits.{AreNamed, FitsBy, IsFed, IsPlaced, by_number, engine_at, is_named, parts_after}
use Rattle.wsm_part_engines.specs.Slots.{AreOf, FeedsAll, rows_of}
use Rattle.wsm_part_engines.specs.Ordered.{all_places, arranged, places_from, row_at}
use Rattle.wsm_part_engines.specs.Takes.{Took}
use Rattle.wsm_part_engines.specs.Answers.{Feeds, IsSelected}
use Rattle.wsm_part_engines.proofs.Parted.{IsRecord, IsWatermark, is_record, is_watermark, none_refuses, one_refuses}
use Rattle.wsm_part_engines.proofs.Selecting.{by_refusal, by_watermark, selected_alike}
use Rattle.wsm_part_engines.proofs.Turns.{answered, before_of, front_next, record_before, record_rows, record_turn, refused_turn, rows_there, verdict_there, watermark_rows, watermark_turn}

module _ (p : Program) (whole : IsTrue (is_program p)) (panes_form : p.header.form ≡ Panes) (keyless : IsKeyless p) where
  abbrev block : ℕ
  block = length p.header.schema.keys

  abbrev at : admission.State → List (Option EngineState) → ℕ → ℕ → List OutRow → State
  at front engines fed fired rows = record { program = p; front = front; engines = engines; fed = fed; fired = fired; rows = rows }

  abbrev verdict : List (List ℕ) → List Event → Event → Option Refusal
  verdict names past e = verdict_by p.header.schema.keys p.header.clock.records (of_names p names) (parts_after p names past) e

  module _ (front next : admission.State) (engines news : List (Option EngineState)) (fed fed' fired fired' : ℕ) (rows rows' : List OutRow) (part : ℕ) (e : Event) (place : IsPlaced block e)
      (a : Result Admitted Refusal) (decided : a ≡ decision p.header.shape p.header.schema front e) (turned : next ≡ admission.after a e front) (more : fed' ≡ counter (fed + 1)) where
    abbrev numbered : Event
    numbered = by_number block part e

    abbrev old : State
    old = at front engines fed fired rows

    abbrev new : State
    new = at next news fed' fired' rows'

    -- what has to be shown at each names
    abbrev FitsNext : Type 0
    FitsNext = (names : List (List ℕ)) (past : List Event) → FitsBy names old past → AreNamed names past → is_named names numbered ≡ true → FitsBy names new (numbered ∷ past)

    abbrev Says : Option Refusal → Type 0
    Says v = (names : List (List ℕ)) (past : List Event) → FitsBy names old past → is_named names numbered ≡ true → verdict names past numbered ≡ v

    abbrev Writes : Type 0
    Writes = (names : List (List ℕ)) (past : List Event) → FitsBy names old past → AreNamed names past → is_named names numbered ≡ true → rows' ≡ turn_rows (of_names p names) past numbered

    feeds_by : (v : Option Refusal) → FitsNext → Says v → Writes → Feeds old new numbered v
    feeds_by v fits says writes = record {
      fits = λ r names past is known. record {
        program = is.program;
        named = (known, is.named);
        kept = λ all named. fits all past (is.kept all named.1) named.1 named.0;
      };
      verdict = λ r names past is known.
          subst (λ (x : Program). v ≡ verdict_on (of_names x names) past numbered) is.program
          (sym (says names past (is.kept names is.named) known) ∙ verdict_there p whole panes_form keyless names past numbered);
      rows = λ r names past is known. subst (λ (x : Program). rows' ≡ turn_rows (of_names x names) past numbered) is.program (writes names past (is.kept names is.named) is.named known);
    }

    module _ (names : List (List ℕ)) (past : List Event) (fits : FitsBy names old past) (known : is_named names numbered ≡ true) where
      answers : a ≡ answer (parts_after p names past).front.mark (least (marks_with (parts_after p names past).front.marks numbered)) numbered (verdict names past numbered)
      answers = answered p whole panes_form keyless names past front fits.front part e place known a decided

      fronts : next ≡ (parts_after p names (numbered ∷ past)).front
      fronts = front_next p whole panes_form keyless names past front fits.front part e place known a decided next turned

      taken_by : (x : Admitted) → a ≡ Ok x → verdict names past numbered ≡ None
      taken_by x is = none_refuses (parts_after p names past).front.mark (least (marks_with (parts_after p names past).front.marks numbered)) numbered (verdict names past numbered) x (sym answers ∙ is)

      refused_by : (r : Refusal) → a ≡ Err r → verdict names past numbered ≡ Some r
      refused_by r is = one_refuses (parts_after p names past).front.mark (least (marks_with (parts_after p names past).front.marks numbered)) numbered (verdict names past numbered) r (sym answers ∙ is)

    -- whether it is selected, by each names
    abbrev Chooses : Bool → Type 0
    Chooses b = (names : List (List ℕ)) (past : List Event) → FitsBy names old past → is_named names numbered ≡ true → b ≡ selects_record (effect_of (of_names p names) past numbered)

    chooses_by : (b : Bool) → Chooses b → IsSelected old numbered b
    chooses_by b chooses r names past is known =
        subst (λ (x : Program). b ≡ selects_record (effect_of (of_names x names) past numbered)) is.program (chooses names past (is.kept names is.named) known)

    -- ---- a refused event

    pub refused_selects : (r : Refusal) → a ≡ Err r → IsSelected old numbered false
    refused_selects r is =
        chooses_by false
        (λ names past fits known. by_refusal (of_names p names) past numbered r (sym (verdict_there p whole panes_form keyless names past numbered) ∙ refused_by names past fits known r is))

    pub refused_feeds : (r : Refusal) → a ≡ Err r → news ≡ engines → fired' ≡ fired → rows' ≡ [] → Feeds old new numbered (Some r)
    refused_feeds r is same_engines same_fired none =
        feeds_by (Some r)
        (λ names past fits named known.
        subst (λ (es : List (Option EngineState)). FitsBy names (at next es fed' fired' rows') (numbered ∷ past)) (sym same_engines)
        (subst (λ (n : ℕ). FitsBy names (at next engines fed' n rows') (numbered ∷ past)) (sym same_fired)
        (refused_turn p whole panes_form keyless names front engines fed fired rows past fits numbered r (refused_by names past fits known r is) next fed' rows' (fronts names past fits known) more)))
        (λ names past fits known. refused_by names past fits known r is)
        (λ names past fits named known. none ∙ rows_there p whole panes_form keyless names past numbered (Some r) (refused_by names past fits known r is))

    -- ---- a record that is taken

    module _ (is : a ≡ Ok admitted.Record) (marks : List ℤ) (same_marks : marks ≡ front.marks) (panes : ℕ) (counts : fired' ≡ counter (fired + panes))
        (one : (before held : List Event) → IsFed (engine_at engines part) before → fed_before p.header.clock.start marks e before ≡ Some held → Took p held e (engine_at news part) panes)
        (others : (other : ℕ) → other ≢ part → engine_at news other ≡ engine_at engines other)
        (written : rows' ≡ map (row_at block news) (places_from part 0 (rows_of (engine_at news part)))) where
      module _ (names : List (List ℕ)) (past : List Event) (fits : FitsBy names old past) where
        took : (k : ℕ) (t : ℤ) (vs : List Value) → e ≡ Record (Some k) t vs
            → Took p (before_of p.header.clock.start (parts_after p names past).front.marks ((parts_after p names past).fed part)) (Record (Some k) t vs) (engine_at news part) panes
        took k t vs here =
            let fed_there = (parts_after p names past).fed part in
            let held = before_of p.header.clock.start (parts_after p names past).front.marks fed_there in
            subst (λ (f : Event). Took p held f (engine_at news part) panes) here
            (one fed_there held (fits.engines part)
            ((λ i. fed_before p.header.clock.start ((same_marks ∙ ap (λ (f : admission.State). f.marks) fits.front) i) (here i) fed_there)
            ∙ record_before p.header.clock.start (parts_after p names past).front.marks (Some k) t vs fed_there))

        fits_record : (e0 : Event) → e ≡ e0 → IsPlaced block e0 → is_named names (by_number block part e0) ≡ true → verdict names past (by_number block part e0) ≡ None → IsRecord (by_number block part e0)
            → next ≡ (parts_after p names (by_number block part e0 ∷ past)).front → FitsBy names new (by_number block part e0 ∷ past)
        fits_record (Record None t vs) here placed known taken kind fronts = absurd (cc)
        fits_record (Record (Some k) t vs) here placed known taken kind fronts =
            subst (λ (n : ℕ). FitsBy names (at next news fed' n rows') (by_number block part (Record (Some k) t vs) ∷ past)) (sym counts)
            (record_turn p whole panes_form keyless names front engines fed fired rows past fits part k t vs placed known taken news panes (took k t vs here) others next fed' rows' fronts more)
        fits_record (Watermark source t) here placed known taken kind fronts = absurd kind

        writes_record : (e0 : Event) → e ≡ e0 → IsPlaced block e0 → is_named names (by_number block part e0) ≡ true → verdict names past (by_number block part e0) ≡ None → IsRecord (by_number block part e0)
            → rows' ≡ turn_rows (of_names p names) past (by_number block part e0)
        writes_record (Record None t vs) here placed known taken kind = absurd (cc)
        writes_record (Record (Some k) t vs) here placed known taken kind =
            written ∙ record_rows p whole panes_form keyless names front engines fed fired rows past fits part k t vs placed known taken news panes (took k t vs here) others
        writes_record (Watermark source t) here placed known taken kind = absurd kind

        record_there : (known : is_named names numbered ≡ true) → IsRecord numbered
        record_there known =
            is_record (parts_after p names past).front.mark (least (marks_with (parts_after p names past).front.marks numbered)) numbered (verdict names past numbered) (sym (answers names past fits known) ∙ is)

      module _ (selected : Bool) (picks : (before held : List Event) → IsFed (engine_at engines part) before → fed_before p.header.clock.start marks e before ≡ Some held → selected ≡ selects_record (effect_of (query_of p) held e)) where
        selects_by : (names : List (List ℕ)) (past : List Event) → FitsBy names old past → (e0 : Event) → e ≡ e0 → IsPlaced block e0 → is_named names (by_number block part e0) ≡ true → verdict names past (by_number block part e0) ≡ None
            → IsRecord (by_number block part e0) → selected ≡ selects_record (effect_of (of_names p names) past (by_number block part e0))
        selects_by names past fits (Record None t vs) here placed known taken kind = absurd (cc)
        selects_by names past fits (Record (Some k) t vs) here placed known taken kind =
            let fed_there = (parts_after p names past).fed part in
            let held = before_of p.header.clock.start (parts_after p names past).front.marks fed_there in
            picks fed_there held (fits.engines part)
            ((λ i. fed_before p.header.clock.start ((same_marks ∙ ap (λ (f : admission.State). f.marks) fits.front) i) (here i) fed_there)
            ∙ record_before p.header.clock.start (parts_after p names past).front.marks (Some k) t vs fed_there)
            ∙ ap (λ (f : Event). selects_record (effect_of (query_of p) held f)) here
            ∙ selected_alike p whole panes_form keyless names past part k t vs placed known taken
        selects_by names past fits (Watermark source t) here placed known taken kind = absurd kind

        pub record_selects : IsSelected old numbered selected
        record_selects =
            chooses_by selected
            (λ names past fits known. selects_by names past fits e refl place known (taken_by names past fits known admitted.Record is) (record_there names past fits known))

      pub record_feeds : Feeds old new numbered None
      record_feeds =
          feeds_by None
          (λ names past fits named known. fits_record names past fits e refl place known (taken_by names past fits known admitted.Record is) (record_there names past fits known) (fronts names past fits known))
          (λ names past fits known. taken_by names past fits known admitted.Record is)
          (λ names past fits named known. writes_record names past fits e refl place known (taken_by names past fits known admitted.Record is) (record_there names past fits known))

    -- ---- a watermark that is taken

    module _ (x y : ℤ) (is : a ≡ Ok (admitted.Watermark x y)) (of : AreOf p engines) (panes : ℕ) (counts : fired' ≡ counter (fired + panes))
        (all : FeedsAll engines news e panes) (written : rows' ≡ map (row_at block news) (arranged (all_places 0 news))) where
      module _ (names : List (List ℕ)) (past : List Event) (fits : FitsBy names old past) (named : AreNamed names past) where
        fits_watermark : (e0 : Event) → e ≡ e0 → verdict names past (by_number block part e0) ≡ None → IsWatermark (by_number block part e0)
            → next ≡ (parts_after p names (by_number block part e0 ∷ past)).front → FitsBy names new (by_number block part e0 ∷ past)
        fits_watermark (Record k t vs) here taken kind fronts = absurd kind
        fits_watermark (Watermark source t) here taken kind fronts =
            subst (λ (n : ℕ). FitsBy names (at next news fed' n rows') (Watermark source t ∷ past)) (sym counts)
            (watermark_turn p whole panes_form keyless names front engines fed fired rows past fits source t named of taken news panes (subst (λ (f : Event). FeedsAll engines news f panes) here all) next fed' rows' fronts more)

        writes_watermark : (e0 : Event) → e ≡ e0 → verdict names past (by_number block part e0) ≡ None → IsWatermark (by_number block part e0) → rows' ≡ turn_rows (of_names p names) past (by_number block part e0)
        writes_watermark (Record k t vs) here taken kind = absurd kind
        writes_watermark (Watermark source t) here taken kind =
            written ∙ watermark_rows p whole panes_form keyless names front engines fed fired rows past fits source t named of taken news panes (subst (λ (f : Event). FeedsAll engines news f panes) here all)

        watermark_there : (known : is_named names numbered ≡ true) → IsWatermark numbered
        watermark_there known =
            is_watermark (parts_after p names past).front.mark (least (marks_with (parts_after p names past).front.marks numbered)) numbered (verdict names past numbered) x y (sym (answers names past fits known) ∙ is)

      selects_none : (names : List (List ℕ)) (past : List Event) (e0 : Event) → IsWatermark (by_number block part e0) → false ≡ selects_record (effect_of (of_names p names) past (by_number block part e0))
      selects_none names past (Record k t vs) kind = absurd kind
      selects_none names past (Watermark source t) kind = by_watermark (of_names p names) past source t

      watermark_here : (names : List (List ℕ)) (past : List Event) → FitsBy names old past → is_named names numbered ≡ true → IsWatermark numbered
      watermark_here names past fits known =
          is_watermark (parts_after p names past).front.mark (least (marks_with (parts_after p names past).front.marks numbered)) numbered (verdict names past numbered) x y (sym (answers names past fits known) ∙ is)

      pub watermark_selects : IsSelected old numbered false
      watermark_selects = chooses_by false (λ names past fits known. selects_none names past e (watermark_here names past fits known))

      pub watermark_feeds : Feeds old new numbered None
      watermark_feeds =
          feeds_by None
          (λ names past fits named known. fits_watermark names past fits named e refl (taken_by names past fits known (admitted.Watermark x y) is) (watermark_there names past fits named known) (fronts names past fits known))
          (λ names past fits known. taken_by names past fits known (admitted.Watermark x y) is)
          (λ names past fits named known. writes_watermark names past fits named e refl (taken_by names past fits known (admitted.Watermark x y) is) (watermark_there names past fits named known))

-- What is true of engines once they took an event.
use Rattle.std.proofs.Common.{◌≡◌, ◌≢◌, ℕ, suc, ◌+◌, ◌<◌, List, [], ◌∷◌, length, Option, Some, None, refl, sym, ap, subst, ◌∙◌, inl, inr, arith, cond, true, false}
use Rattle.std.proofs.lemmas.Bool.{cases_lt}
use Rattle.std.proofs.lemmas.List.{get_or_past}
use Rattle.std.specs.Prelude.{Bool, ℤ, IsTrue}
use Rattle.std.specs.List.{AllByRecursion}
use Rattle.wsm_record.specs.Event.{Event, Record, Watermark}
use Rattle.wsm_semantics.specs.declared.out_row.OutRow.{OutRow}
use Rattle.wsm_semantics.specs.Firings.{firings}
use Rattle.wsm_semantics.specs.Query.{effect_of}
use Rattle.wsm_semantics.specs.Relation.{turn_rows}
use Rattle.wsm_semantics.proofs.Each.{all-append}
use Rattle.wsm_machine.specs.Meaning.{query_of}
use Rattle.wsm_program.specs.Program.{Program, is_program}
use Rattle.wsm_bytecode.specs.Spelling.{spelling}
use Rattle.wsm_engine.specs.State.{State as EngineState}
use Rattle.wsm_engine.specs.Meaning.{Fits as EngineFits, selects_record}
use Rattle.wsm_key_parts.specs.OpenedLate.{openers}
use Rattle.wsm_key_parts.specs.Parts.{fed_before}
use Rattle.wsm_part_engines.specs.Fits.{engine_at, IsFed}
use Rattle.wsm_part_engines.specs.Slots.{AreOf, IsOf, Feeds, FeedsAll, FeedsOne, Holds, Opens, fed_with, fired_on, rows_of, rows_on, selected_on}
use Rattle.wsm_part_engines.specs.Ordered.{IsRow, places_from, all_places, are_of_one, arranged, in_row_order}
use Rattle.wsm_part_engines.specs.Takes.{Took}
use Rattle.wsm_part_engines.proofs.RowPlaces.{all_ordered}

-- ---- the rows that are told

module _ (slots : List (Option EngineState)) where
  rows_from : (part i : ℕ) (rows : List OutRow) → part < length slots → i + length rows ≡ length (rows_of (engine_at slots part)) → AllByRecursion (IsRow slots) (places_from part i rows)
  rows_from part i [] few len = tt
  rows_from part i (row ∷ rows) few len = (record { part = few; row = omega (arith, len) }, rows_from part (i + 1) rows few (omega (arith, len)))

  pub rows_there : (part : ℕ) → AllByRecursion (IsRow slots) (places_from part 0 (rows_of (engine_at slots part)))
  rows_there part =
      elim (cases_lt part (length slots)) [
        | inl less ↦ rows_from part 0 (rows_of (engine_at slots part)) less (omega arith)
        | inr past ↦ subst (λ (s : Option EngineState). AllByRecursion (IsRow slots) (places_from part 0 (rows_of s))) (sym (get_or_past slots part None past)) tt
      ]

  all_from : (part : ℕ) (some : List (Option EngineState)) → ((k : ℕ) → engine_at slots (part + k) ≡ engine_at some k) → AllByRecursion (IsRow slots) (all_places part some)
  all_from part [] same = tt
  all_from part (slot ∷ some) same =
      let is : engine_at slots part ≡ slot = (let e : part ≡ part + 0 = omega arith in ap (engine_at slots) e) ∙ same 0 in
      all-append (IsRow slots) (places_from part 0 (rows_of slot)) (all_places (part + 1) some)
      (subst (λ (s : Option EngineState). AllByRecursion (IsRow slots) (places_from part 0 (rows_of s))) is (rows_there part))
      (all_from (part + 1) some (λ k. (let e : part + 1 + k ≡ part + suc k = omega arith in ap (engine_at slots) e) ∙ same (suc k)))

  pub all_there : AllByRecursion (IsRow slots) (arranged (all_places 0 slots))
  all_there =
      let each = all_from 0 slots (λ k. let e : 0 + k ≡ k = omega arith in ap (engine_at slots) e) in
      elim (are_of_one (all_places 0 slots)) as (λ b. AllByRecursion (IsRow slots) (cond b (all_places 0 slots) (in_row_order (all_places 0 slots)))) [
        | true ↦ each
        | false ↦ all_ordered (IsRow slots) (all_places 0 slots) each
      ]

-- ---- the program that they run

pub all_of : (p : Program) (olds news : List (Option EngineState)) (e : Event) (panes : ℕ) → AreOf p olds → FeedsAll olds news e panes → AreOf p news
all_of p olds news e panes of fed part = (fed.each part).1.of p (of part)

module _ (p : Program) (bytes : List ℕ) (marks : List ℤ) (part : ℕ) (olds mids : List (Option EngineState)) (opens : Opens bytes marks part olds mids) where
  pub mids_of : IsTrue (is_program p) → bytes ≡ spelling p → AreOf p olds → AreOf p mids
  mids_of lawful spelled of other =
      elim (cases_lt other part) [
        | inl less ↦ at_other (let ne : other ≢ part = omega (arith, less) in ne)
        | inr least ↦ elim (cases_lt part other) [
          | inl more ↦ at_other (let ne : other ≢ part = omega (arith, more) in ne)
          | inr most ↦ let is : part ≡ other = omega (arith, least, most) in subst (λ (n : ℕ). IsOf p (engine_at mids n)) is (here (engine_at olds part) refl)
        ]
      ]
    where
      at_other : other ≢ part → IsOf p (engine_at mids other)
      at_other ne = subst (IsOf p) (sym (opens.others other ne)) (of other)

      here : (slot : Option EngineState) → engine_at olds part ≡ slot → IsOf p (engine_at mids part)
      here None is = let there = opens.opened is in subst (IsOf p) (sym there.1) (there.2.program p lawful spelled)
      here (Some s) is = subst (IsOf p) (sym (opens.kept s is)) (subst (IsOf p) is (of part))

pub one_of : (p : Program) (part : ℕ) (mids news : List (Option EngineState)) (e : Event) (panes : ℕ) → AreOf p mids → FeedsOne part mids news e panes → AreOf p news
one_of p part mids news e panes of fed other =
    elim (cases_lt other part) [
      | inl less ↦ subst (IsOf p) (sym (fed.others other (let ne : other ≢ part = omega (arith, less) in ne))) (of other)
      | inr least ↦ elim (cases_lt part other) [
        | inl more ↦ subst (IsOf p) (sym (fed.others other (let ne : other ≢ part = omega (arith, more) in ne))) (of other)
        | inr most ↦ let is : part ≡ other = omega (arith, least, most) in subst (λ (n : ℕ). IsOf p (engine_at news n)) is (fed.one.of p (of part))
      ]
    ]

-- ---- what a record comes to

none_before : (start : ℤ) (marks : List ℤ) (e : Event) (before : List Event) (fed : List Event) → fed ≡ [] → fed_before start marks e fed ≡ Some before → openers start 0 marks ≡ before
none_before start marks (Record k t vs) before [] none is = cc
none_before start marks (Watermark s t) before [] none is = absurd (cc)
none_before start marks e before (f ∷ fed) none is = absurd (cc)

some_before : (start : ℤ) (marks : List ℤ) (e : Event) (before fed : List Event) (f : Event) (rest : List Event) → fed ≡ f ∷ rest → fed_before start marks e fed ≡ Some before → fed ≡ before
some_before start marks e before [] f rest some is = absurd (cc)
some_before start marks (Record k t vs) before (g ∷ fed) f rest some is = cc
some_before start marks (Watermark s t) before (g ∷ fed) f rest some is = cc

holds_fed : (slot : Option EngineState) (e : Event) (before : List Event) → Holds slot (e ∷ before) → IsFed slot (e ∷ before)
holds_fed None e before h = h
holds_fed (Some s) e before h = (h, e, before, refl)

module _ (p : Program) (slot new : Option EngineState) (e : Event) (panes : ℕ) (feeds : Feeds slot new e panes) where
  -- an engine that is opened takes it
  took_by : (s : EngineState) (before : List Event) → slot ≡ Some s → s.program ≡ p → EngineFits s before → Took p before e new panes
  took_by s before is own fits =
      let holds : Holds slot before = subst (λ (t : Option EngineState). Holds t before) (sym is) fits in
      record {
        fits = holds_fed new e before (subst (λ (t : Option EngineState). Holds new (fed_with t e before)) is (feeds.fits before holds));
        rows = feeds.rows before holds ∙ ap (λ (t : Option EngineState). rows_on t before e) is ∙ ap (λ (q : Program). turn_rows (query_of q) before e) own;
        fired = feeds.fired before holds ∙ ap (λ (t : Option EngineState). fired_on t before e) is ∙ ap (λ (q : Program). length (firings (query_of q) before e)) own;
      }

-- a part's engine that is open runs the program behind what the part was fed
record IsOpen (p : Program) (slot : Option EngineState) (before : List Event) : Type 0 where
  engine : EngineState
  is : slot ≡ Some engine
  own : engine.program ≡ p
  fits : EngineFits engine before

module _ (p : Program) (bytes : List ℕ) (marks : List ℤ) (part : ℕ) (olds mids : List (Option EngineState)) (opens : Opens bytes marks part olds mids) (lawful : IsTrue (is_program p)) (spelled : bytes ≡ spelling p) (of : AreOf p olds)
    (e : Event) (fed before : List Event) (held : IsFed (engine_at olds part) fed) (there : fed_before p.header.clock.start marks e fed ≡ Some before) where
  is_open : IsOpen p (engine_at mids part) before
  is_open = by_slot (engine_at olds part) refl held
    where
      by_slot : (slot : Option EngineState) → engine_at olds part ≡ slot → IsFed slot fed → IsOpen p (engine_at mids part) before
      by_slot None is none =
          let opened = opens.opened is in
          let own : opened.0.program ≡ p = opened.2.program p lawful spelled in
          record {
            engine = opened.0;
            is = opened.1;
            own = own;
            fits = subst (EngineFits opened.0) (ap (λ (q : Program). openers q.header.clock.start 0 marks) own ∙ none_before p.header.clock.start marks e before fed none there) opened.2.fits;
          }
      by_slot (Some s) is held = record {
        engine = s;
        is = opens.kept s is;
        own = subst (IsOf p) is (of part);
        fits = subst (EngineFits s) (some_before p.header.clock.start marks e before fed held.1 held.2 held.3 there) held.0;
      }

  pub took : (new : Option EngineState) (panes : ℕ) → Feeds (engine_at mids part) new e panes → Took p before e new panes
  took new panes feeds = took_by p (engine_at mids part) new e panes feeds is_open.engine before is_open.is is_open.own is_open.fits

  pub chosen : (selected : Bool) → ((past : List Event) → Holds (engine_at mids part) past → selected ≡ selected_on (engine_at mids part) past e) → selected ≡ selects_record (effect_of (query_of p) before e)
  chosen selected by =
      by before (subst (λ (t : Option EngineState). Holds t before) (sym is_open.is) is_open.fits)
      ∙ ap (λ (t : Option EngineState). selected_on t before e) is_open.is
      ∙ ap (λ (q : Program). selects_record (effect_of (query_of q) before e)) is_open.own

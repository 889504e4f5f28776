-- The turn of an event that is taken: each part writes the rows of its keys, and together they are those of the query over all keys.
use Rattle.std.proofs.Common.{◌≡◌, ◌⊎◌, inl, inr, ℕ, zero, suc, ◌+◌, ◌<◌, ◌≤◌, Bool, true, false, cond, List, [], ◌∷◌, ◌++◌, length, map, ℤ, pos, ◌≤ℤ◌, Option, Some, None, is_none, refl, sym, ap, subst, ◌∙◌, arith}
use Rattle.std.specs.Prelude.{filter, flat_map, int_lt, unsigned_abs}
use Rattle.std.specs.List.{range_with_len}
use Rattle.wsm_record.specs.declared.words.Form.TheVariants.{Panes}
use Rattle.wsm_record.specs.Event.{Event, Record, Watermark}
use Rattle.wsm_windows.specs.Windows.{IsShape}
use Rattle.wsm_admission.specs.declared.verdict.Refusal.{Refusal}
use Rattle.wsm_admission.specs.Clock.{marks_of}
use Rattle.wsm_semantics.specs.declared.out_row.OutRow.{OutRow}
use Rattle.wsm_semantics.specs.Query.{Query, SessionsByEvent, verdict_on}
use Rattle.wsm_semantics.specs.Relation.{turn_rows}
use Rattle.wsm_semantics.specs.ByKey.{Keys, is_of, of_keys, where_of, IgnoresTurns, is_row_of}
use Rattle.wsm_semantics.specs.ByNumber.{Numbers, event_by}
use Rattle.wsm_semantics.proofs.Lists.{IsNonEmpty, all-each}
use Rattle.wsm_semantics.proofs.FiringsSoFar.{not_some}
use Rattle.wsm_semantics.proofs.NumberRows.{same_by_numbers}
use Rattle.wsm_key_parts.specs.Merged.{merged, in_order}
use Rattle.wsm_key_parts.specs.Parts.{keys_in, placed, number_in, over, query_in, fed_before, fed_after, all_parts, rows_in, declared_keys}
use Rattle.wsm_key_parts.specs.OpenedLate.{AreQuiet, openers}
use Rattle.wsm_key_parts.proofs.Merged.{merged_is, IsOfOne}
use Rattle.wsm_key_parts.proofs.TurnOrder.{turn_in_order}
use Rattle.wsm_key_parts.proofs.Alike.{blank, none_held}
use Rattle.wsm_key_parts.proofs.Blanked.{blanked, follows, taken_behind, rows_of_part, rows_declared}
use Rattle.wsm_key_parts.proofs.Late.{keeps_nothing, Opened, goes_on, late_rows, passes_by, opens, taken_since}
use Rattle.wsm_key_parts.proofs.Places.{filled, filled_more, are_numbers, placed_back, each_of_one}

nothing_there : {A : Type 0} → IsNonEmpty {A = A} [] → ⊥
nothing_there h = let e = h.2 in absurd (cc)

-- watermarks have no key
openers_by : (number : Numbers) (start : ℤ) (a : ℕ) (ms : List ℤ) → map (event_by number) (openers start a ms) ≡ openers start a ms
openers_by number start a [] = refl
openers_by number start a (m ∷ ms) =
    let rest : List Event = openers start (a + 1) ms in
    elim (int_lt start m) as (λ b. map (event_by number) (cond b (Watermark (Some a) m ∷ rest) rest) ≡ cond b (Watermark (Some a) m ∷ rest) rest) [
      | true ↦ ap (λ (es : List Event). Watermark (Some a) m ∷ es) (openers_by number start (a + 1) ms)
      | false ↦ openers_by number start (a + 1) ms
    ]

flat_alike : (f g : ℕ → List OutRow) (a n : ℕ) → ((s : ℕ) → a ≤ s → s < a + n → f s ≡ g s) → flat_map f (range_with_len a n) ≡ flat_map g (range_with_len a n)
flat_alike f g a zero same = refl
flat_alike f g a (suc n) same = λ i. same a (omega arith) (omega arith) i ++ flat_alike f g (a + 1) n (λ s l h. same s (omega (arith, l)) (omega (arith, h))) i

module _ (places : List (List ℕ)) (records : ℤ) (q : Query) (ok : IsShape q.shape) (timely : SessionsByEvent q) (low : pos 0 ≤ℤ q.clock.lateness)
    (form : q.form ≡ Panes) (ignores : IgnoresTurns q) (some : 0 < length places) (wide : unsigned_abs q.clock.records ≤ unsigned_abs records) where
  abbrev all : ℕ
  all = length q.declared.keys

  abbrev keys : List (List ℕ)
  keys = filled all (length places)

  abbrev more : all ≤ length (filled all (length places))
  more = filled_more all (length places) some

  abbrev there : Query
  there = over keys records q

  abbrev behind : List Event → List Event
  behind past = blanked q past

  abbrev marks : List Event → List ℤ
  marks past = marks_of q.clock q.declared past

  module _ (part : ℕ) where
    abbrev own_keys : Keys
    own_keys = keys_in (length places) part

    abbrev number : Numbers
    number = number_in (length places) all part

    -- what a part was fed, by the numbers of all keys
    abbrev OpenedBy : List Event → List Event → Type 0
    OpenedBy past fed = Opened there ok timely low own_keys refl (behind past) (map (event_by number) fed)

    abbrev IsClosed : List Event → Type 0
    IsClosed past = AreQuiet (of_keys own_keys (behind past))

    -- a part isn't opened as long as it had no record, and then it was fed what tells of it
    abbrev pub IsFed : List Event → List Event → Type 0
    IsFed past fed = ((fed ≡ []) × IsClosed past) ⊎ (IsNonEmpty fed × OpenedBy past fed)

    abbrev IsWatermark : Event → Type 0
    IsWatermark (Record k t vs) = ⊥
    IsWatermark (Watermark s t) = Unit {0}

    -- what it was fed as an event of its own comes
    abbrev IsReady : List Event → Event → List Event → Option (List Event) → Type 0
    IsReady past e fed None = IsWatermark e × (fed ≡ []) × IsClosed past
    IsReady past e fed (Some before) = OpenedBy past before

    opened_now : (past : List Event) → IsClosed past → OpenedBy past (openers q.clock.start 0 (marks past))
    opened_now past closed =
        subst (Opened there ok timely low own_keys refl (behind past))
        (ap (openers q.clock.start 0) (follows q ok timely low keys records more wide past).alike.marks ∙ sym (openers_by number q.clock.start 0 (marks past)))
        (opens there ok timely low own_keys refl (behind past) closed)

    ready : (past : List Event) (e : Event) (fed : List Event) → IsFed past fed → IsReady past e fed (fed_before q.clock.start (marks past) e fed)
    ready past (Record k t vs) [] (inl closed) = opened_now past closed.1
    ready past (Record k t vs) [] (inr opened) = absurd (nothing_there opened.0)
    ready past (Record k t vs) (f ∷ fed) (inl closed) = let e = closed.0 in absurd (cc)
    ready past (Record k t vs) (f ∷ fed) (inr opened) = opened.1
    ready past (Watermark s t) [] (inl closed) = (tt, refl, closed.1)
    ready past (Watermark s t) [] (inr opened) = absurd (nothing_there opened.0)
    ready past (Watermark s t) (f ∷ fed) (inl closed) = let e = closed.0 in absurd (cc)
    ready past (Watermark s t) (f ∷ fed) (inr opened) = opened.1

    -- ---- an event of the part that is taken

    module _ (past : List Event) (e : Event) (taken : verdict_on q past e ≡ None) where
      abbrev taken_too : verdict_on there (behind past) e ≡ None
      taken_too = taken_behind q ok timely low keys records more wide past e taken

      next_is : behind (e ∷ past) ≡ e ∷ behind past
      next_is = ap (λ (v : Option Refusal). cond (is_none v) e blank ∷ behind past) taken

      abbrev its_rows : List OutRow
      its_rows = filter (is_row_of own_keys) (turn_rows q past e)

      its_rows_are : its_rows ≡ where_of own_keys e (turn_rows there (of_keys own_keys (behind past)) e)
      its_rows_are = rows_of_part q ok timely low keys records more wide form ignores own_keys past e taken

      module _ (own : is_of own_keys e ≡ true) where
        its_own : its_rows ≡ turn_rows there (of_keys own_keys (behind past)) e
        its_own = its_rows_are ∙ ap (λ (b : Bool). cond b (turn_rows there (of_keys own_keys (behind past)) e) []) own

        quiet_rows : (e : Event) → IsWatermark e → IsClosed past → turn_rows there (of_keys own_keys (behind past)) e ≡ []
        quiet_rows (Record k t vs) is closed = absurd is
        quiet_rows (Watermark s t) is closed = none_held there ok timely low form (of_keys own_keys (behind past)) s t (keeps_nothing there (of_keys own_keys (behind past)) closed)

        written : part < all → (fed : List Event) (before : Option (List Event)) → IsReady past e fed before → its_rows ≡ rows_in places records q part e before
        written few fed None is = its_own ∙ quiet_rows e is.0 is.2
        written few fed (Some before) opened =
            its_own
            ∙ late_rows there ok timely low own_keys refl (behind past) (map (event_by number) before) opened e taken_too own form ignores
            ∙ ap (turn_rows there (map (event_by number) before)) (sym (placed_back (length places) all part some e own))
            ∙ (same_by_numbers there number places (are_numbers places records q all part few)).rows before (placed (length places) e)

        still_quiet : (e : Event) → IsWatermark e → IsClosed past → AreQuiet (of_keys own_keys (e ∷ behind past))
        still_quiet (Record k t vs) is closed = absurd is
        still_quiet (Watermark s t) is closed = (tt, closed)

        fed_next : (fed : List Event) (before : Option (List Event)) → IsReady past e fed before → IsFed (e ∷ past) (fed_after (placed (length places) e) fed before)
        fed_next fed None is = inl (is.1, subst (λ (h : List Event). AreQuiet (of_keys own_keys h)) (sym next_is) (still_quiet e is.0 is.2))
        fed_next fed (Some before) opened =
            inr (
              (placed (length places) e, before, refl),
              subst (λ (h : List Event). Opened there ok timely low own_keys refl h (map (event_by number) (placed (length places) e ∷ before))) (sym next_is)
                  (subst (λ (f : Event). Opened there ok timely low own_keys refl (e ∷ behind past) (f ∷ map (event_by number) before)) (sym (placed_back (length places) all part some e own))
                  (goes_on there ok timely low own_keys refl (behind past) (map (event_by number) before) opened e taken_too own)),
            )

      -- ---- an event of another

      module _ (other : is_of own_keys e ≡ false) where
        none_written : its_rows ≡ []
        none_written = its_rows_are ∙ ap (λ (b : Bool). cond b (turn_rows there (of_keys own_keys (behind past)) e) []) other

        fed_still : (fed : List Event) → IsFed past fed → IsFed (e ∷ past) fed
        fed_still fed (inl closed) =
            inl (closed.0, subst AreQuiet (sym (ap (of_keys own_keys) next_is ∙ ap (λ (b : Bool). cond b (e ∷ of_keys own_keys (behind past)) (of_keys own_keys (behind past))) other)) closed.1)
        fed_still fed (inr opened) =
            inr (
              opened.0,
              subst (λ (h : List Event). Opened there ok timely low own_keys refl h (map (event_by number) fed)) (sym next_is)
                  (passes_by there ok timely low own_keys refl (behind past) (map (event_by number) fed) opened.1 e other),
            )

      -- ---- either

      abbrev pub before_by : List Event → Option (List Event)
      before_by fed = cond (is_of own_keys e) (fed_before q.clock.start (marks past) e fed) None

      -- the part's rows
      pub part_rows : part < all → (fed : List Event) → IsFed past fed → its_rows ≡ rows_in places records q part e (before_by fed)
      part_rows few fed is =
          elim (is_of own_keys e) as (λ b. is_of own_keys e ≡ b → its_rows ≡ rows_in places records q part e (cond b (fed_before q.clock.start (marks past) e fed) None)) [
            | true ↦ λ own. written own few fed (fed_before q.clock.start (marks past) e fed) (ready past e fed is)
            | false ↦ λ other. none_written other
          ] refl

      -- what it was fed then
      pub part_fed : (fed : List Event) → IsFed past fed → IsFed (e ∷ past) (fed_after (placed (length places) e) fed (before_by fed))
      part_fed fed is =
          elim (is_of own_keys e) as (λ b. is_of own_keys e ≡ b → IsFed (e ∷ past) (fed_after (placed (length places) e) fed (cond b (fed_before q.clock.start (marks past) e fed) None))) [
            | true ↦ λ own. fed_next own fed (fed_before q.clock.start (marks past) e fed) (ready past e fed is)
            | false ↦ λ other. fed_still other fed is
          ] refl

      -- what it is fed it takes
      pub part_takes : part < all → (fed : List Event) → IsFed past fed → (before : List Event) → before_by fed ≡ Some before → verdict_on (query_in places records q part) before (placed (length places) e) ≡ None
      part_takes few fed is before which =
          elim (is_of own_keys e) as (λ b. is_of own_keys e ≡ b → cond b (fed_before q.clock.start (marks past) e fed) None ≡ Some before → verdict_on (query_in places records q part) before (placed (length places) e) ≡ None) [
            | true ↦ λ own k. takes own before (subst (IsReady past e fed) k (ready past e fed is))
            | false ↦ λ _ k. absurd (not_some before (sym k))
          ] refl which
        where
          takes : is_of own_keys e ≡ true → (before : List Event) → OpenedBy past before → verdict_on (query_in places records q part) before (placed (length places) e) ≡ None
          takes own before opened =
              sym ((same_by_numbers there number places (are_numbers places records q all part few)).verdict before (placed (length places) e))
              ∙ ap (verdict_on there (map (event_by number) before)) (placed_back (length places) all part some e own)
              ∙ taken_since there ok timely low own_keys refl (behind past) (map (event_by number) before) opened e taken_too

    -- ---- a refused event

    pub part_passed : (past : List Event) (e : Event) (r : Refusal) → verdict_on q past e ≡ Some r → (fed : List Event) → IsFed past fed → IsFed (e ∷ past) fed
    part_passed past e r refused fed is =
        let next : behind (e ∷ past) ≡ blank ∷ behind past = ap (λ (v : Option Refusal). cond (is_none v) e blank ∷ behind past) refused in
        elim is [
          | inl closed ↦ inl (closed.0, subst (λ (h : List Event). AreQuiet (of_keys own_keys h)) (sym next) closed.1)
          | inr opened ↦ inr (
            opened.0,
            subst (λ (h : List Event). Opened there ok timely low own_keys refl h (map (event_by number) fed)) (sym next)
                (passes_by there ok timely low own_keys refl (behind past) (map (event_by number) fed) opened.1 blank refl),
          )
        ]

    -- before the first event
    pub part_first : IsFed [] []
    part_first = inl (refl, tt)

  -- ---- all parts

  module _ (past : List Event) (e : Event) (taken : verdict_on q past e ≡ None) (fed : ℕ → List Event) (is : (part : ℕ) → IsFed part past (fed part)) where
    pub all_rows : turn_rows q past e ≡ merged (λ part. rows_in places records q part e (before_by part past e taken (fed part))) (all_parts places records q)
    all_rows =
        sym (merged_is (keys_in (length places)) (all_parts places records q) (turn_rows q past e) (turn_in_order q past e form)
        (all-each (λ r. is_row_of (declared_keys q) r ≡ true) (IsOfOne (keys_in (length places)) (all_parts places records q)) (turn_rows q past e) (λ r h. each_of_one q (length places) r h)
        (rows_declared q ok timely low keys records more wide form ignores past e taken)))
        ∙ ap in_order (flat_alike (λ part. filter (is_row_of (keys_in (length places) part)) (turn_rows q past e)) (λ part. rows_in places records q part e (before_by part past e taken (fed part))) 0 all
        (λ part from until. part_rows part past e taken (omega (arith, until)) (fed part) (is part)))

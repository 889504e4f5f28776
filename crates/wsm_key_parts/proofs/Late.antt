-- A part that is opened late: where none of its records came so far, it may begin with the marks alone. What it writes from then on
-- is the same.
use Rattle.std.proofs.Common.{◌≡◌, ℕ, zero, suc, ◌+◌, ◌≤◌, Bool, true, false, cond, not, List, [], ◌∷◌, ◌++◌, length, map, replicate, ℤ, pos, ◌≤ℤ◌, Option, Some, None, refl, sym, ap, subst, ◌∙◌, arith}
use Rattle.std.proofs.lemmas.List.{length-append, length-replicate}
use Rattle.std.specs.Prelude.{filter, int_le, int_lt}
use Rattle.std.specs.List.{AllByRecursion}
use Rattle.wsm_record.specs.declared.words.Form.TheVariants.{Panes}
use Rattle.wsm_record.specs.Event.{Event, Record, Watermark}
use Rattle.wsm_windows.specs.Windows.{IsShape}
use Rattle.wsm_admission.specs.declared.verdict.Refusal.{Refusal}
use Rattle.wsm_admission.specs.declared.verdict.Refusal.TheVariants.{RecordLimit, TimeRange, NotRising}
use Rattle.wsm_admission.specs.Clock.{marks_of, mark_at, watermark_refusal, is_time, admitted_count, admitted_with}
use Rattle.wsm_semantics.specs.Query.{Datum, Query, SessionsByEvent, mark, verdict_on, selected}
use Rattle.wsm_semantics.specs.Panes.{is_live_at}
use Rattle.wsm_semantics.specs.Kept.{kept, kept_in}
use Rattle.wsm_semantics.specs.Relation.{turn_rows}
use Rattle.wsm_semantics.specs.ByKey.{Keys, is_of, of_keys, HasRoom, IgnoresTurns, is_row_of}
use Rattle.wsm_semantics.proofs.Lists.{filter_within}
use Rattle.wsm_semantics.proofs.Each.{all-append, filter-append}
use Rattle.wsm_semantics.proofs.Effects.{selects_none}
use Rattle.wsm_semantics.proofs.PanesOrder.{panes_of}
use Rattle.wsm_semantics.proofs.KeyParts.{marks_of_part, verdict_of_part, one_more, no_fewer}
use Rattle.wsm_semantics.proofs.KeyRows.{rows_by_key}
use Rattle.wsm_key_parts.specs.OpenedLate.{openers, IsQuiet, AreQuiet, AreTaken, fed_since, OpensLate}
use Rattle.wsm_key_parts.proofs.Alike.{Alike, alike_after, rows_alike, blank}
use Rattle.wsm_key_parts.proofs.Blanked.{still_taken, no_limit}
use Rattle.wsm_key_parts.proofs.Openers.{opened_marks, openers_taken}

-- ---- histories without a record of a declared key

no_limit_by : (timely low : Bool) → cond (not timely) (Some TimeRange) (cond low (Some NotRising) None) ≡ Some RecordLimit → ⊥
no_limit_by false low h = absurd (cc)
no_limit_by true true h = absurd (cc)
no_limit_by true false h = absurd (cc)

never_limited : (m : Option ℤ) (t : ℤ) → watermark_refusal m t ≡ Some RecordLimit → ⊥
never_limited None t h = absurd (cc)
never_limited (Some m) t h = no_limit_by (is_time t) (int_le t m) h

module _ (q : Query) where
  selects_nothing : (h : List Event) → AreQuiet h → selected q h ≡ []
  selects_nothing [] quiet = refl
  selects_nothing (Record None t vs ∷ h) quiet = selects_nothing h quiet.1
  selects_nothing (Record (Some k) t vs ∷ h) quiet = absurd quiet.0
  selects_nothing (Watermark s t ∷ h) quiet = (λ i. selects_none q h s t i ++ selects_nothing h quiet.1 i)

  pub keeps_nothing : (h : List Event) → AreQuiet h → kept q h ≡ []
  keeps_nothing h quiet = ap (λ (ds : List Datum). map (kept_in q h) (filter (λ x. is_live_at q (mark q h) x.0) (panes_of q ds))) (selects_nothing h quiet)

  pub admits_nothing : (h : List Event) → AreQuiet h → admitted_count q.clock q.shape q.declared h ≡ 0
  admits_nothing [] quiet = refl
  admits_nothing (Record None t vs ∷ h) quiet = admits_nothing h quiet.1
  admits_nothing (Record (Some k) t vs ∷ h) quiet = absurd quiet.0
  admits_nothing (Watermark s t ∷ h) quiet = admits_nothing h quiet.1

  has_room : (h : List Event) → AreQuiet h → HasRoom q h
  has_room [] quiet = tt
  has_room (Record None t vs ∷ h) quiet = (λ full. absurd (cc), has_room h quiet.1)
  has_room (Record (Some k) t vs ∷ h) quiet = absurd quiet.0
  has_room (Watermark s t ∷ h) quiet = (never_limited (mark_at (marks_of q.clock q.declared h) s) t, has_room h quiet.1)

-- ---- blanks and openers

quiet_blanks : (n : ℕ) → AreQuiet (replicate n blank)
quiet_blanks zero = tt
quiet_blanks (suc n) = (tt, quiet_blanks n)

abbrev IsMark : Event → Type 0
IsMark (Record k t vs) = ⊥
IsMark (Watermark s t) = Unit {0}

are_marks : (start : ℤ) (a : ℕ) (ms : List ℤ) → AllByRecursion IsMark (openers start a ms)
are_marks start a [] = tt
are_marks start a (m ∷ ms) =
    elim (int_lt start m) as (λ b. AllByRecursion IsMark (cond b (Watermark (Some a) m ∷ openers start (a + 1) ms) (openers start (a + 1) ms))) [
      | true ↦ (tt, are_marks start (a + 1) ms)
      | false ↦ are_marks start (a + 1) ms
    ]

marks_are_quiet : (h : List Event) → AllByRecursion IsMark h → AreQuiet h
marks_are_quiet [] marks = tt
marks_are_quiet (Record k t vs ∷ h) marks = absurd marks.0
marks_are_quiet (Watermark s t ∷ h) marks = (tt, marks_are_quiet h marks.1)

module _ (keys : Keys) where
  -- watermarks are of each part
  marks_stay : (h : List Event) → AllByRecursion IsMark h → of_keys keys h ≡ h
  marks_stay [] marks = refl
  marks_stay (Record k t vs ∷ h) marks = absurd marks.0
  marks_stay (Watermark s t ∷ h) marks = ap (λ (es : List Event). Watermark s t ∷ es) (marks_stay h marks.1)

  module _ (none : keys None ≡ false) where
    blanks_go : (n : ℕ) → of_keys keys (replicate n blank) ≡ []
    blanks_go zero = refl
    blanks_go (suc n) = ap (λ (b : Bool). cond b (blank ∷ of_keys keys (replicate n blank)) (of_keys keys (replicate n blank))) none ∙ blanks_go n

    without_blanks : (h : List Event) (n : ℕ) → of_keys keys h ≡ h → of_keys keys (h ++ replicate n blank) ≡ h
    without_blanks h n own = filter-append (is_of keys) h (replicate n blank) ∙ (λ i. own i ++ blanks_go n i) ∙ nothing_more h
      where
        nothing_more : (h : List Event) → h ++ [] ≡ h
        nothing_more [] = refl
        nothing_more (e ∷ h) = ap (λ (es : List Event). e ∷ es) (nothing_more h)

of_part_again : (keys : Keys) (h : List Event) → of_keys keys (of_keys keys h) ≡ of_keys keys h
of_part_again keys h = filter_within (is_of keys) (is_of keys) (λ e own. own) h

-- ---- the part that is opened late

module _ (q : Query) (ok : IsShape q.shape) (timely : SessionsByEvent q) (low : pos 0 ≤ℤ q.clock.lateness) (keys : Keys) (none : keys None ≡ false) where
  abbrev count : List Event → ℕ
  count h = admitted_count q.clock q.shape q.declared h

  abbrev marks : List Event → List ℤ
  marks h = marks_of q.clock q.declared h

  abbrev SameKept : List Event → List Event → Type 0
  SameKept h g = Alike q ok timely low q.declared.keys q.clock.records h g

  -- a part's own events behind all, and others that it was fed: two histories as long as one another, of which these are the part's
  pub record Opened (all fed : List Event) : Type 0 where
    pub whole : List Event
    pub anew : List Event
    pub alike : SameKept whole anew
    pub whole_is : of_keys keys whole ≡ of_keys keys all
    pub anew_is : of_keys keys anew ≡ fed
    pub whole_room : HasRoom q whole
    pub anew_room : HasRoom q anew
    pub fewer : count whole ≤ count all
    pub as_many : count anew ≡ count whole

  module _ (all fed : List Event) (o : Opened all fed) where
    same_marks : marks o.whole ≡ marks all
    same_marks =
        sym (marks_of_part q.clock q.declared keys o.whole)
        ∙ ap marks o.whole_is
        ∙ marks_of_part q.clock q.declared keys all

    module _ (e : Event) (taken : verdict_on q all e ≡ None) where
      taken_whole : verdict_on q o.whole e ≡ None
      taken_whole = still_taken q q.declared.keys q.clock.records (omega arith) (omega arith) all o.whole same_marks o.fewer e taken

      pub taken_anew : verdict_on q o.anew e ≡ None
      taken_anew =
          let fewer : count o.anew ≤ count o.whole = omega (arith, o.as_many) in
          still_taken q q.declared.keys q.clock.records (omega arith) (omega arith) o.whole o.anew o.alike.marks fewer e taken_whole

      -- an event of its own
      module _ (own : is_of keys e ≡ true) where
        pub goes_on : Opened (e ∷ all) (e ∷ fed)
        goes_on = record {
          whole = e ∷ o.whole;
          anew = e ∷ o.anew;
          alike = alike_after q ok timely low q.declared.keys q.clock.records o.whole o.anew o.alike e taken_whole taken_anew;
          whole_is = λ i. cond (is_of keys e) (e ∷ o.whole_is i) (o.whole_is i);
          anew_is = ap (λ (b : Bool). cond b (e ∷ of_keys keys o.anew) (of_keys keys o.anew)) own ∙ ap (λ (es : List Event). e ∷ es) o.anew_is;
          whole_room = no_limit q q.declared.keys q.clock.records (omega arith) (omega arith) o.whole e o.whole_room taken_whole;
          anew_room = no_limit q q.declared.keys q.clock.records (omega arith) (omega arith) o.anew e o.anew_room taken_anew;
          fewer = subst (λ (v : Option Refusal). admitted_with (count o.whole) e v ≤ admitted_with (count all) e (verdict_on q all e)) (sym taken_whole)
              (subst (λ (v : Option Refusal). admitted_with (count o.whole) e None ≤ admitted_with (count all) e v) (sym taken) (one_more (count o.whole) (count all) e None o.fewer));
          as_many = λ i. admitted_with (o.as_many i) e ((taken_anew ∙ sym taken_whole) i);
        }

        -- its rows are those that it writes behind what it was fed
        pub late_rows : q.form ≡ Panes → IgnoresTurns q → turn_rows q (of_keys keys all) e ≡ turn_rows q fed e
        late_rows form ignores =
            let opened : (h : List Event) → cond (is_of keys e) (turn_rows q h e) [] ≡ turn_rows q h e = λ h. ap (λ (b : Bool). cond b (turn_rows q h e) []) own in
            ap (λ (h : List Event). turn_rows q h e) (sym o.whole_is)
            ∙ sym (opened (of_keys keys o.whole))
            ∙ sym (rows_by_key q ignores form keys o.whole e (no_limit q q.declared.keys q.clock.records (omega arith) (omega arith) o.whole e o.whole_room taken_whole))
            ∙ ap (filter (is_row_of keys)) (sym (rows_alike q ok timely low q.declared.keys q.clock.records o.whole o.anew o.alike e taken_whole taken_anew form))
            ∙ rows_by_key q ignores form keys o.anew e (no_limit q q.declared.keys q.clock.records (omega arith) (omega arith) o.anew e o.anew_room taken_anew)
            ∙ opened (of_keys keys o.anew)
            ∙ ap (λ (h : List Event). turn_rows q h e) o.anew_is

    -- an event of another part
    pub passes_by : (e : Event) → is_of keys e ≡ false → Opened (e ∷ all) fed
    passes_by e other = record {
      whole = o.whole;
      anew = o.anew;
      alike = o.alike;
      whole_is = o.whole_is ∙ sym (ap (λ (b : Bool). cond b (e ∷ of_keys keys all) (of_keys keys all)) other);
      anew_is = o.anew_is;
      whole_room = o.whole_room;
      anew_room = o.anew_room;
      fewer = no_fewer (count o.whole) (count all) e (verdict_on q all e) o.fewer;
      as_many = o.as_many;
    }

  -- ---- how it is opened

  module _ (all : List Event) (quiet : AreQuiet (of_keys keys all)) where
    abbrev fed_first : List Event
    fed_first = openers q.clock.start 0 (marks all)

    abbrev own : List Event
    own = of_keys keys all

    abbrev lengthened : List Event
    lengthened = own ++ replicate (length fed_first) blank

    abbrev lengthened_anew : List Event
    lengthened_anew = fed_first ++ replicate (length own) blank

    quiet_first : AreQuiet fed_first
    quiet_first = marks_are_quiet fed_first (are_marks q.clock.start 0 (marks all))

    quiet_whole : AreQuiet lengthened
    quiet_whole = all-append IsQuiet own (replicate (length fed_first) blank) quiet (quiet_blanks (length fed_first))

    quiet_anew : AreQuiet lengthened_anew
    quiet_anew = all-append IsQuiet fed_first (replicate (length own) blank) quiet_first (quiet_blanks (length own))

    whole_own : of_keys keys lengthened ≡ own
    whole_own = without_blanks keys none own (length fed_first) (of_part_again keys all)

    anew_own : of_keys keys lengthened_anew ≡ fed_first
    anew_own = without_blanks keys none fed_first (length own) (marks_stay keys fed_first (are_marks q.clock.start 0 (marks all)))

    as_long : length lengthened_anew ≡ length lengthened
    as_long =
        let a = length-append fed_first (replicate (length own) blank) in
        let b = length-append own (replicate (length fed_first) blank) in
        let c = length-replicate (length own) blank in
        let d = length-replicate (length fed_first) blank in
        omega (arith, a, b, c, d)

    marks_alike : marks lengthened_anew ≡ marks lengthened
    marks_alike =
        sym (marks_of_part q.clock q.declared keys lengthened_anew)
        ∙ ap marks anew_own
        ∙ opened_marks q.clock q.declared all
        ∙ sym (marks_of_part q.clock q.declared keys all)
        ∙ ap marks (sym whole_own)
        ∙ marks_of_part q.clock q.declared keys lengthened

    pub opens : Opened all fed_first
    opens = record {
      whole = lengthened;
      anew = lengthened_anew;
      alike = record { marks = marks_alike; turns = as_long; kept = keeps_nothing q lengthened_anew quiet_anew ∙ sym (keeps_nothing q lengthened quiet_whole) };
      whole_is = whole_own;
      anew_is = anew_own;
      whole_room = has_room q lengthened quiet_whole;
      anew_room = has_room q lengthened_anew quiet_anew;
      fewer = let zero : count lengthened ≡ 0 = admits_nothing q lengthened quiet_whole in omega (arith, zero);
      as_many = admits_nothing q lengthened_anew quiet_anew ∙ sym (admits_nothing q lengthened quiet_whole);
    }

  -- ---- what follows

  since : (past events : List Event) → AreQuiet (of_keys keys past) → AreTaken q past events → Opened (events ++ past) (fed_since q keys past events)
  since past [] quiet taken = opens past quiet
  since past (e ∷ events) quiet taken =
      let before : Opened (events ++ past) (fed_since q keys past events) = since past events quiet taken.1 in
      elim (is_of keys e) as (λ b. is_of keys e ≡ b → Opened (e ∷ events ++ past) (cond b (e ∷ of_keys keys events) (of_keys keys events) ++ openers q.clock.start 0 (marks past))) [
        | true ↦ λ own. goes_on (events ++ past) (fed_since q keys past events) before e taken.0 own
        | false ↦ λ other. passes_by (events ++ past) (fed_since q keys past events) before e other
      ] refl

  pub taken_since : (all fed : List Event) (o : Opened all fed) (e : Event) → verdict_on q all e ≡ None → verdict_on q fed e ≡ None
  taken_since all fed o e taken =
      let there = taken_anew all fed o e taken in
      ap (λ (h : List Event). verdict_on q h e) (sym o.anew_is)
      ∙ verdict_of_part q keys o.anew e (no_limit q q.declared.keys q.clock.records (omega arith) (omega arith) o.anew e o.anew_room there)
      ∙ there

  pub opens_late : q.form ≡ Panes → IgnoresTurns q → OpensLate q keys
  opens_late form ignores = record {
    opened = λ past. openers_taken q past;
    verdict = λ past events e quiet taken own. taken_since (events ++ past) (fed_since q keys past events) (since past events quiet taken.1) e taken.0;
    rows = λ past events e quiet taken own. sym (late_rows (events ++ past) (fed_since q keys past events) (since past events quiet taken.1) e taken.0 own form ignores);
  }

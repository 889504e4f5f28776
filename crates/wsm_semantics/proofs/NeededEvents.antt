-- What is kept of a history is kept of its needed events: of the records by what is settled, and of the watermarks since what
-- one of them leaves of panes is what several leave one after another.
use Rattle.std.proofs.Common.{◌≡◌, ◌≢◌, ℕ, ◌≤◌, Bool, true, false, ◌&&◌, cond, not, List, [], ◌∷◌, ◌++◌, length, ℤ, pos, ◌≤ℤ◌, Option, Some, None, is_none, refl, sym, ap, subst, ◌∙◌, arith}
use Rattle.std.specs.Prelude.{int_le, int_lt}
use Rattle.wsm_record.specs.declared.words.Form.{Form}
use Rattle.wsm_record.specs.declared.words.Form.TheVariants.{Panes, Istream, Dstream, Rstream}
use Rattle.wsm_record.specs.Event.{Event, Record, Watermark}
use Rattle.wsm_windows.specs.Windows.{IsShape}
use Rattle.wsm_windows.specs.declared.place.Place.{Place}
use Rattle.wsm_admission.specs.declared.verdict.Refusal.{Refusal}
use Rattle.wsm_admission.specs.declared.verdict.Refusal.TheVariants.{TimeRange, NotRising, RecordLimit}
use Rattle.wsm_admission.specs.Clock.{marks_of, least, is_time, admitted_count, admitted_with, verdict_at, watermark_refusal, mark_at}
use Rattle.wsm_admission.proofs.SourceMarks.{watermark_rises, accepted_watermark}
use Rattle.wsm_semantics.specs.Query.{Query, SessionsByEvent, datum, Selects, Nothing, effect_of, mark, raises, verdict_on, is_taken}
use Rattle.wsm_semantics.specs.Relation.{relation, turn_rows}
use Rattle.wsm_semantics.specs.Kept.{kept, kept_after_watermark}
use Rattle.wsm_semantics.specs.Summaries.{Plan, Pane, IsLawful, Runs, after_watermark, summaries}
use Rattle.wsm_semantics.specs.ByKey.{HasRoom}
use Rattle.wsm_semantics.specs.FromWatermark.{begun_at, Step, Stays, Goes, Times, whole, rest, IsSettled, PartsNoSession, BothHaveRoom, dropped_times}
use Rattle.wsm_semantics.specs.FromKept.{KeepAlike, FollowAlike}
use Rattle.wsm_semantics.specs.Needed.{is_selected_after, is_one_of, needed_without, needed_by_panes, needed_by_streams, needed_by, needed, NeededAlone, WritesAlike}
use Rattle.wsm_semantics.proofs.Decided.{none_is}
use Rattle.wsm_semantics.proofs.KeptLaw as kept_law
use Rattle.wsm_semantics.proofs.Effects.{stays_down, effect-down}
use Rattle.wsm_semantics.proofs.EventTurns.{kept-watermark}
use Rattle.wsm_semantics.proofs.KeptTurns.{kept-nothing}
use Rattle.wsm_semantics.proofs.Images.{after_watermark-summaries}
use Rattle.wsm_semantics.proofs.KeyParts.{fewer_admitted, one_more, no_fewer}
use Rattle.wsm_semantics.proofs.LaterMarks.{next_marks}
use Rattle.wsm_semantics.proofs.LaterParts.{over_settled, over_parts_none}
use Rattle.wsm_semantics.proofs.LaterKept.{summaries_settled}
use Rattle.wsm_semantics.proofs.KeptAlike.{twice, verdict_kept, next_alike, relation_alike, relation_risen, follow_alike}
use Rattle.wsm_semantics.proofs.NeededMarks.{Lag, steps_of, later, steps_whole, steps_out, later_marks, fewer, later_verdict, later_room, lags, below, needed_marks, taken}

-- ---- none is refused for RECORDS

-- a history that has the marks of another, admitted no more, and has room
pub record IsLess (q : Query) (past some : List Event) : Type 0 where
  pub marks : marks_of q.clock q.declared some ≡ marks_of q.clock q.declared past
  pub fewer : admitted_count q.clock q.shape q.declared some ≤ admitted_count q.clock q.shape q.declared past
  pub room : HasRoom q some

never_full : (o : Option ℤ) (t : ℤ) → watermark_refusal o t ≢ Some RecordLimit
never_full None t h = absurd cc
never_full (Some m) t h = by (is_time t) (int_le t m) h where
  by : (in_time low : Bool) → cond (not in_time) (Some TimeRange) (cond low (Some NotRising) None) ≢ Some RecordLimit
  by false low h = absurd cc
  by true true h = absurd cc
  by true false h = absurd cc

module _ (q : Query) where
  abbrev count : List Event → ℕ
  count past = admitted_count q.clock q.shape q.declared past

  same_verdict : (past some : List Event) (e : Event) → marks_of q.clock q.declared some ≡ marks_of q.clock q.declared past → count some ≤ count past → verdict_on q past e ≢ Some RecordLimit → verdict_on q some e ≡ verdict_on q past e
  same_verdict past some e marks fewer room =
      ap (λ (ms : List ℤ). verdict_at q.clock q.shape q.declared ms (count some) e) marks ∙ fewer_admitted q.clock q.shape q.declared (marks_of q.clock q.declared past) (count some) (count past) e fewer room

  -- an event more of both
  one_of_both : (past some : List Event) (e : Event) → marks_of q.clock q.declared some ≡ marks_of q.clock q.declared past → count some ≤ count past → verdict_on q past e ≢ Some RecordLimit → (verdict_on q some e ≢ Some RecordLimit) × (count (e ∷ some) ≤ count (e ∷ past))
  one_of_both past some e marks fewer room =
      let v : verdict_on q some e ≡ verdict_on q past e = same_verdict past some e marks fewer room in (
        λ full. room (sym v ∙ full),
        subst (λ (r : Option Refusal). admitted_with (count some) e r ≤ admitted_with (count past) e (verdict_on q past e)) (sym v) (one_more (count some) (count past) e (verdict_on q past e) fewer),
      )

  pub less_on : (past some : List Event) (e : Event) → IsLess q past some → HasRoom q (e ∷ past) → IsLess q (e ∷ past) (e ∷ some)
  less_on past some e less room =
      let both = one_of_both past some e less.marks less.fewer room.0 in
      record { marks = next_marks q q.clock.start q.clock.records past some less.marks e; fewer = both.1; room = (both.0, less.room) }

  pub less_after : (events past some : List Event) → (HasRoom q past → IsLess q past some) → HasRoom q (events ++ past) → IsLess q (events ++ past) (events ++ some)
  less_after [] past some less room = less room
  less_after (e ∷ events) past some less room = less_on (events ++ past) (events ++ some) e (less_after events past some less room.1) room

  module _ (x : Times) where
    room_of_needed : (past : List Event) → HasRoom q past → (told : List ℕ) → (count (needed_without q x told past) ≤ count past) × HasRoom q (needed_without q x told past)
    room_of_needed [] room told = (omega arith, tt)
    room_of_needed (Record key t vs ∷ past) room told =
        let e : Event = Record key t vs in
        elim (is_selected_after q x past e) as (λ b. let some = cond b (e ∷ needed_without q x [] past) (needed_without q x told past) in (count some ≤ count (e ∷ past)) × HasRoom q some) [
          | true ↦
              let before = room_of_needed past room.1 [] in
              let both = one_of_both past (needed_without q x [] past) e (needed_marks q q.clock.records x past) before.0 room.0 in
              (both.1, (both.0, before.1))
          | false ↦ let before = room_of_needed past room.1 told in (no_fewer (count (needed_without q x told past)) (count past) e (verdict_on q past e) before.0, before.1)
        ]
    room_of_needed (Watermark None t ∷ past) room told = room_of_needed past room.1 told
    room_of_needed (Watermark (Some n) t ∷ past) room told =
        let w : Event = Watermark (Some n) t in
        elim (is_taken q past w && not (is_one_of told n)) as (λ b. let some = cond b (w ∷ needed_without q x (n ∷ told) past) (needed_without q x told past) in (count some ≤ count (w ∷ past)) × HasRoom q some) [
          | true ↦
              let before = room_of_needed past room.1 (n ∷ told) in
              (before.0, (never_full (mark_at (marks_of q.clock q.declared (needed_without q x (n ∷ told) past)) (Some n)) t, before.1))
          | false ↦ room_of_needed past room.1 told
        ]

  panes_less : (past : List Event) → HasRoom q past → IsLess q past (needed_by_panes q past)
  panes_less past room =
      let x : Times = dropped_times q past in
      let h = room_of_needed x past room [] in
      record { marks = needed_marks q q.clock.records x past; fewer = h.0; room = h.1 }

  streams_less : (past : List Event) → HasRoom q past → IsLess q past (needed_by_streams q past)
  streams_less [] room = record { marks = refl; fewer = omega arith; room = tt }
  streams_less (e ∷ past) room =
      elim (raises q past e) as (λ b. IsLess q (e ∷ past) (e ∷ cond b (needed_by_panes q past) (needed_by_streams q past))) [
        | true ↦ less_on past (needed_by_panes q past) e (panes_less past room.1) room
        | false ↦ less_on past (needed_by_streams q past) e (streams_less past room.1) room
      ]

  by_form_less : (form : Form) (past : List Event) → HasRoom q past → IsLess q past (needed_by form q past)
  by_form_less Panes past room = panes_less past room
  by_form_less Istream past room = streams_less past room
  by_form_less Dstream past room = streams_less past room
  by_form_less Rstream past room = streams_less past room

  pub needed_verdict : (past events : List Event) (e : Event) → HasRoom q (e ∷ events ++ past) → verdict_on q (events ++ needed q past) e ≡ verdict_on q (events ++ past) e
  needed_verdict past events e room =
      let less = less_after events past (needed q past) (by_form_less q.form past) room.1 in
      same_verdict (events ++ past) (events ++ needed q past) e less.marks less.fewer room.0

  -- whatever comes, as long as the history has room
  pub needed_room : (past events : List Event) → HasRoom q (events ++ past) → HasRoom q (events ++ needed q past)
  needed_room past events room = (less_after events past (needed q past) (by_form_less q.form past) room).room

-- ---- what is kept

module _ {X : Type 0} (plan : Plan X) (lawful : IsLawful plan) (q : Query) (runs : Runs plan q) (ok : IsShape q.shape) (timely : SessionsByEvent q) (low : pos 0 ≤ℤ q.clock.lateness) (records : ℤ) where
  abbrev start : ℤ
  start = q.clock.start

  abbrev new : Query
  new = begun_at start records q

  abbrev sums : Query → List Event → List (Place × Pane X)
  sums r past = summaries plan q.mode (kept r past)

  -- a rise to where the watermark is leaves what is kept
  still : (past : List Event) → kept_after_watermark q (mark new past) (mark new past) (kept new past) ≡ kept new past
  still past =
      let w : Event = Watermark None (pos 0) in
      sym (kept-watermark new low timely (kept_law.places new ok timely) past None (pos 0))
      ∙ kept-nothing new past w (effect-down new past None (pos 0) (stays_down new past w refl))

  module _ (x : Times) where
    abbrev mid : List Event → List Event
    mid past = later q x past

    abbrev needs_of : List ℕ → List Event → List Event
    needs_of told past = needed_without q x told past

    -- what is kept of events, with a rise to where the watermark of another history is
    abbrev raised_to : List Event → List Event → List (Place × Pane X)
    raised_to some past = summaries plan q.mode (kept_after_watermark q (mark new some) (mark q past) (kept new some))

    mid_mark : (past : List Event) → mark q (mid past) ≡ mark q past
    mid_mark past = ap least (later_marks q x past)

    below_mid : (past some : List Event) (told : List ℕ) → Lag q records x told past some → mark new some ≤ℤ mark q (mid past)
    below_mid past some told lag = subst (λ (m : ℤ). mark new some ≤ℤ m) (sym (mid_mark past)) (below q records x past some told lag)

    -- with all marks alike the same is kept
    pub keep_alike : (past : List Event) → sums q (mid past) ≡ raised_to (needs_of [] past) (mid past) → KeepAlike plan q start records (mid past) (needs_of [] past)
    keep_alike past panes =
        let some : List Event = needs_of [] past in
        let marks : marks_of new.clock new.declared some ≡ marks_of q.clock q.declared (mid past) = needed_marks q records x past ∙ sym (later_marks q x past) in
        record {
          marks = marks;
          panes =
              panes
              ∙ ap (λ (m : ℤ). summaries plan q.mode (kept_after_watermark q (mark new some) m (kept new some))) (sym (ap least marks))
              ∙ ap (summaries plan q.mode) (still some);
        }

    -- a watermark of the history
    passes : (past some : List Event) (told : List ℕ) → Lag q records x told past some → (o : Option ℕ) (t : ℤ) → sums q (mid past) ≡ raised_to some (mid past) → sums q (Watermark o t ∷ mid past) ≡ raised_to some (Watermark o t ∷ mid past)
    passes past some told lag o t panes =
        let w : Event = Watermark o t in
        let a : ℤ = mark new some in
        let m : ℤ = mark q (mid past) in
        let n : ℤ = mark q (w ∷ mid past) in
        ap (summaries plan q.mode) (kept-watermark q low timely (kept_law.places q ok timely) (mid past) o t)
        ∙ sym (after_watermark-summaries plan q m n (kept q (mid past)))
        ∙ ap (after_watermark plan q m n) panes
        ∙ after_watermark-summaries plan q m n (kept_after_watermark q a m (kept new some))
        ∙ ap (summaries plan q.mode) (twice q a m n (below_mid past some told lag) (watermark_rises q.clock q.declared (mid past) w) (kept new some))

    -- that is needed
    passes_on : (past some : List Event) (told others : List ℕ) → Lag q records x others past some → (o : Option ℕ) (t : ℤ) → Lag q records x told (Watermark o t ∷ past) (Watermark o t ∷ some) →
        sums q (mid past) ≡ raised_to some (mid past) → sums q (Watermark o t ∷ mid past) ≡ raised_to (Watermark o t ∷ some) (Watermark o t ∷ mid past)
    passes_on past some told others lag o t next panes =
        let w : Event = Watermark o t in
        let a : ℤ = mark new some in
        let c : ℤ = mark new (w ∷ some) in
        let m : ℤ = mark q (w ∷ mid past) in
        passes past some others lag o t panes
        ∙ ap (summaries plan q.mode) (
        sym (twice q a c m (watermark_rises new.clock new.declared some w) (below_mid (w ∷ past) (w ∷ some) told next) (kept new some))
        ∙ ap (kept_after_watermark q c m) (sym (kept-watermark new low timely (kept_law.places new ok timely) some o t)))

    pub panes_of_needed : (past : List Event) → HasRoom q past → (told : List ℕ) → HasRoom new (needs_of told past) → sums q (mid past) ≡ raised_to (needs_of told past) (mid past)
    panes_of_needed [] room told roomy = refl
    panes_of_needed (Record None t vs ∷ past) room told roomy = panes_of_needed past room.1 told roomy
    panes_of_needed (Record (Some k) t vs ∷ past) room told roomy =
        elim (int_lt (x k) t) as (λ b. HasRoom new (cond (b && chosen) (e ∷ needs_of [] past) (needs_of told past)) →
        let es = rest (cond b (Stays e) (Goes e) ∷ steps_of q x past) [] in sums q es ≡ raised_to (cond (b && chosen) (e ∷ needs_of [] past) (needs_of told past)) es) [
          | true ↦ elim chosen as (λ c. chosen ≡ c → HasRoom new (cond c (e ∷ needs_of [] past) (needs_of told past)) → sums q (e ∷ mid past) ≡ raised_to (cond c (e ∷ needs_of [] past) (needs_of told past)) (e ∷ mid past)) [
            | true ↦ λ _ roomy.
                let some : List Event = needs_of [] past in
                let before : KeepAlike plan q start records (mid past) some = keep_alike past (panes_of_needed past room.1 [] roomy.1) in
                let next : KeepAlike plan q start records (e ∷ mid past) (e ∷ some) =
                next_alike plan lawful q runs ok timely low start records (mid past) some before e
                (verdict_kept plan q start records (mid past) some before e ((λ full. room.0 (sym (later_verdict q x past e room) ∙ full), later_room q x past room.1), roomy)) in
                next.panes
                ∙ ap (summaries plan q.mode) (sym (still (e ∷ some)))
                ∙ ap (λ (m : ℤ). summaries plan q.mode (kept_after_watermark q (mark new (e ∷ some)) m (kept new (e ∷ some)))) (ap least next.marks)
            | false ↦ λ other roomy.
                let none : effect_of q (mid past) e ≡ Nothing =
                ap (λ (v : Option Refusal). cond (is_none v && q.selects k vs) (Selects (datum (length (mid past)) (mark q (mid past)) k t vs)) Nothing) (later_verdict q x past e room)
                ∙ ap (λ (b : Bool). cond b (Selects (datum (length (mid past)) (mark q (mid past)) k t vs)) Nothing) other in
                ap (summaries plan q.mode) (kept-nothing q (mid past) e none) ∙ panes_of_needed past room.1 told roomy
          ] refl
          | false ↦ λ roomy. panes_of_needed past room.1 told roomy
        ] roomy
      where
        e : Event
        e = Record (Some k) t vs

        chosen : Bool
        chosen = is_taken q past e && q.selects k vs
    panes_of_needed (Watermark None t ∷ past) room told roomy = passes past (needs_of told past) told (lags q records x past told) None t (panes_of_needed past room.1 told roomy)
    panes_of_needed (Watermark (Some n) t ∷ past) room told roomy =
        elim (is_taken q past w) as (λ b. is_taken q past w ≡ b → HasRoom new (cond (b && not (is_one_of told n)) (w ∷ needs_of (n ∷ told) past) (needs_of told past)) →
        sums q (w ∷ mid past) ≡ raised_to (cond (b && not (is_one_of told n)) (w ∷ needs_of (n ∷ told) past) (needs_of told past)) (w ∷ mid past)) [
          | true ↦ λ is. elim (is_one_of told n) as (λ b. HasRoom new (cond (not b) (w ∷ needs_of (n ∷ told) past) (needs_of told past)) → sums q (w ∷ mid past) ≡ raised_to (cond (not b) (w ∷ needs_of (n ∷ told) past) (needs_of told past)) (w ∷ mid past)) [
            | true ↦ λ roomy. passes past (needs_of told past) told (lags q records x past told) (Some n) t (panes_of_needed past room.1 told roomy)
            | false ↦ λ roomy.
                let some : List Event = needs_of (n ∷ told) past in
                let lag = lags q records x past (n ∷ told) in
                passes_on past some told (n ∷ told) lag (Some n) t
                (taken q records x past n t told some lag (accepted_watermark q.clock q.declared past (Some n) t (none_is (verdict_on q past w) is))) (panes_of_needed past room.1 (n ∷ told) roomy.1)
          ]
          | false ↦ λ _ roomy. passes past (needs_of told past) told (lags q records x past told) (Some n) t (panes_of_needed past room.1 told roomy)
        ] refl roomy
      where
        w : Event
        w = Watermark (Some n) t

  -- ---- the needed events

  pub panes_alike : (past : List Event) → HasRoom q past → HasRoom new (needed_by_panes q past) → KeepAlike plan q start records past (needed_by_panes q past)
  panes_alike past room roomy =
      let x : Times = dropped_times q past in
      let steps : List Step = steps_of q x past in
      let is : whole steps [] ≡ past = steps_whole q x past in
      let alike : KeepAlike plan q start records (later q x past) (needed_by_panes q past) = keep_alike x past (panes_of_needed x past room [] roomy) in
      record {
        marks = alike.marks ∙ later_marks q x past;
        panes =
            ap (λ (es : List Event). sums q es) (sym is)
            ∙ summaries_settled q ok timely low q.clock.records x steps
            (steps_out q x past, subst (PartsNoSession q x) (sym is) (over_parts_none q ok past), (subst (HasRoom q) (sym is) room, later_room q x past room))
            (subst (λ (es : List Event). IsSettled q x (mark q es)) (sym is) (over_settled q ok past)) plan
            ∙ alike.panes;
      }

  abbrev Related : List Event → List Event → Type 0
  Related past other = KeepAlike plan q start records past other × (relation q past ≡ relation new other)

  pub streams_related : (past : List Event) → HasRoom q past → HasRoom new (needed_by_streams q past) → Related past (needed_by_streams q past)
  streams_related [] room roomy = (record { marks = refl; panes = refl }, refl)
  streams_related (e ∷ past) room roomy =
      elim (raises q past e) as (λ b. raises q past e ≡ b → HasRoom new (e ∷ cond b (needed_by_panes q past) (needed_by_streams q past)) → Related (e ∷ past) (e ∷ cond b (needed_by_panes q past) (needed_by_streams q past))) [
        | true ↦ λ up roomy.
            let some : List Event = needed_by_panes q past in
            let alike : KeepAlike plan q start records past some = panes_alike past room.1 roomy.1 in
            let verdict = verdict_kept plan q start records past some alike e (room, roomy) in
            (next_alike plan lawful q runs ok timely low start records past some alike e verdict, relation_risen plan lawful q runs ok timely low start records past some alike e verdict up)
        | false ↦ λ _ roomy.
            let some : List Event = needed_by_streams q past in
            let before : Related past some = streams_related past room.1 roomy.1 in
            let verdict = verdict_kept plan q start records past some before.0 e (room, roomy) in
            (next_alike plan lawful q runs ok timely low start records past some before.0 e verdict, relation_alike plan lawful q runs ok timely low start records past some before.0 e verdict before.1)
      ] refl roomy

  by_form : (form : Form) (past : List Event) → HasRoom q past → HasRoom new (needed_by form q past) → KeepAlike plan q start records past (needed_by form q past)
  by_form Panes past room roomy = panes_alike past room roomy
  by_form Istream past room roomy = (streams_related past room roomy).0
  by_form Dstream past room roomy = (streams_related past room roomy).0
  by_form Rstream past room roomy = (streams_related past room roomy).0

  pub needed_alike : (past : List Event) → BothHaveRoom q start records past (needed q past) → KeepAlike plan q start records past (needed q past)
  needed_alike past room = by_form q.form past room.0 room.1

  -- ---- what follows

  room_before : (r : Query) (events past : List Event) → HasRoom r (events ++ past) → HasRoom r past
  room_before r [] past room = room
  room_before r (e ∷ events) past room = room_before r events past room.1

  follow : (past : List Event) (events : List Event) → BothHaveRoom q start records (events ++ past) (events ++ needed q past) → FollowAlike plan q start records past (needed q past)
  follow past events room =
      follow_alike plan lawful q runs ok timely low start records past (needed q past) (needed_alike past (room_before q events past room.0, room_before new events (needed q past) room.1))

  pub needed_follow : (past : List Event) → FollowAlike plan q start records past (needed q past)
  needed_follow past = record {
    kept = λ events room. (follow past events room).kept events room;
    verdict = λ events e room. (follow past (e ∷ events) room).verdict events e room;
    firings = λ events e room. (follow past (e ∷ events) room).firings events e room;
    rows = λ panes_alone events e room. (follow past (e ∷ events) room).rows panes_alone events e room;
    streams = λ same events e room. (follow past (e ∷ events) room).streams same events e room;
  }

  pub needed_writes : (past : List Event) → WritesAlike q start records past (needed q past)
  needed_writes past events e room = of_form q.form refl room where
    Both : Form → Type 0
    Both form = BothHaveRoom q start records (e ∷ events ++ past) (e ∷ events ++ needed_by form q past)

    base : (form : Form) → Both form → HasRoom q past × HasRoom new (needed_by form q past)
    base form room = (room_before q (e ∷ events) past room.0, room_before new (e ∷ events) (needed_by form q past) room.1)

    of_stream : (form : Form) → Both form → Related past (needed_by form q past) → turn_rows q (events ++ past) e ≡ turn_rows new (events ++ needed_by form q past) e
    of_stream form room related = (follow_alike plan lawful q runs ok timely low start records past (needed_by form q past) related.0).streams related.1 events e room

    of_form : (form : Form) → q.form ≡ form → Both form → turn_rows q (events ++ past) e ≡ turn_rows new (events ++ needed_by form q past) e
    of_form Panes is room = let b = base Panes room in (follow_alike plan lawful q runs ok timely low start records past (needed_by_panes q past) (panes_alike past b.0 b.1)).rows is events e room
    of_form Istream is room = let b = base Istream room in of_stream Istream room (streams_related past b.0 b.1)
    of_form Dstream is room = let b = base Dstream room in of_stream Dstream room (streams_related past b.0 b.1)
    of_form Rstream is room = let b = base Rstream room in of_stream Rstream room (streams_related past b.0 b.1)

pub needed_alone : {X : Type 0} (plan : Plan X) → IsLawful plan → (q : Query) → Runs plan q → IsShape q.shape → SessionsByEvent q → pos 0 ≤ℤ q.clock.lateness → (past : List Event) → NeededAlone plan q past
needed_alone plan lawful q runs ok timely low past =
    let follow = needed_follow plan lawful q runs ok timely low q.clock.records past in
    record {
      room = needed_room q past;
      kept = λ events room. follow.kept events (room, needed_room q past events room);
      verdict = needed_verdict q past;
      firings = λ events e room. follow.firings events e (room, needed_room q past (e ∷ events) room);
      rows = λ events e room. needed_writes plan lawful q runs ok timely low q.clock.records past events e (room, needed_room q past (e ∷ events) room);
    }

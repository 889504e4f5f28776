-- The rows that are written for lines of rows, as `csv` reads them: the events of the turns.
use Rattle.std.proofs.Common.{◌≡◌, ◌∙◌, inl, inr, ℕ, zero, suc, ◌+◌, ◌<◌, ◌≤◌, max, min, Bool, true, false, cond, List, [], ◌∷◌, ◌++◌, drop, length, map, take, ℤ, pos, Option, Some, None, Ok, Err, refl, sym, ap, subst, append-nil, arith}
use Rattle.std.specs.Prelude.{◌==◌, ◌&&◌, int_lt, nat_lt, option_map, unsigned_abs}
use Rattle.std.specs.List.{AllByRecursion}
use Rattle.std.proofs.lemmas.Bool.Decides.{nat_tests}
use Rattle.std.proofs.lemmas.Int.{ints}
use Rattle.std.proofs.lemmas.List.{map-append}
use Rattle.wsm_record.specs.declared.event.Value.{Value}
use Rattle.wsm_record.specs.declared.limits.TheConstants.{LATEST_TIME}
use Rattle.wsm_record.specs.Event.{Event, Record, Watermark}
use Rattle.wsm_record.specs.Schema.{Declared, is_i64, is_schema}
use Rattle.wsm_admission.specs.Clock.{source_mark}
use Rattle.wsm_semantics.specs.Lines.{Row}
use Rattle.wsm_watermarks.specs.declared.held.Timed.{Timed}
use Rattle.wsm_watermarks.specs.declared.rule.Rule.{Rule}
use Rattle.wsm_watermarks.specs.declared.stamp.Stamp.{Stamp}
use Rattle.wsm_watermarks.specs.Held.{Item, Mark, Passed, Went, all_passed, is_near, last_mark, left, let_go, mark_for, mark_item, queued, went_on}
use Rattle.wsm_watermarks.specs.Agreement.{mark_after}
use Rattle.wsm_watermarks.proofs.KeptRows.{all_queued, all_weaker}
use Rattle.wsm_turns.specs.declared.clocks.Clocks.{Clocks}
use Rattle.wsm_turns.specs.declared.voice.Voice.TheVariants.{Key}
use Rattle.wsm_turns.specs.Noted.{noted_by, raised}
use Rattle.wsm_turns.specs.Numbered.{Numbered, timed}
use Rattle.wsm_turns.specs.Turns.{Kept, Setting, Spoken, Turn, at_end, is_double, numbered, passing_by, stamp_of, stamped, turn_by, went_by}
use Rattle.wsm_row_watermarks.specs.Lines.{Line, Said, is_first, line_of, lines_read, text_of}
use Rattle.wsm_row_watermarks.specs.Turns.{RowTurn, State, events_text, gone, last_row, marked, mark_row, recorded, recorded_by, rest_text, row_turn, rows_text, setting_in, state_of, text, told_at, turn_by_said, with_feed}
use Rattle.wsm_row_laws.specs.Fed.{AreFed, AreLines, all_fed, events_of, fed_by, fed_of, last_fed}
use Rattle.wsm_row_laws.specs.SaidRows.{IsSayable}
use Rattle.wsm_row_laws.proofs.LineRows.{LineReads, Reads, line_reads, read_all, reads_join, reads_none, row_of}
use Rattle.wsm_row_laws.proofs.GoingRows.{Goes, GoesAt, events_read, mark_reads, stamped_sayable}

abbrev Waits : Type 0
Waits = List (Timed Numbered)

-- ---- what goes on of records, and what waits

abbrev AllItems : (Timed Numbered → Type 0) → List (Item Numbered) → Type 0
AllItems P [] = Unit {0}
AllItems P (Mark m ∷ is) = AllItems P is
AllItems P (Passed r ∷ is) = P r × AllItems P is

-- what goes on, and what waits then, is such
record AllWent (P : Timed Numbered → Type 0) (w : Went Numbered) : Type 0 where
  out : AllItems P w.out
  held : AllByRecursion P w.held

module _ (P : Timed Numbered → Type 0) where
  items_append : (is js : List (Item Numbered)) → AllItems P is → AllItems P js → AllItems P (is ++ js)
  items_append [] js h k = k
  items_append (Mark m ∷ is) js h k = items_append is js h k
  items_append (Passed r ∷ is) js h k = (h.0, items_append is js h.1 k)

  items_mark : (old new : ℕ) → AllItems P (mark_item old new)
  items_mark old new = one (nat_lt old new)
    where
      one : (b : Bool) → AllItems P (cond b (Mark new ∷ []) [])
      one true = tt
      one false = tt

  items_all : (rs : Waits) → AllByRecursion P rs → AllItems P (all_passed rs)
  items_all [] all = tt
  items_all (r ∷ rs) all = (all.0, items_all rs all.1)

  all_take : (n : ℕ) (rs : Waits) → AllByRecursion P rs → AllByRecursion P (take n rs)
  all_take zero rs all = tt
  all_take (suc n) [] all = tt
  all_take (suc n) (r ∷ rs) all = (all.0, all_take n rs all.1)

  all_drop : (n : ℕ) (rs : Waits) → AllByRecursion P rs → AllByRecursion P (drop n rs)
  all_drop zero rs all = all
  all_drop (suc n) [] all = tt
  all_drop (suc n) (r ∷ rs) all = all_drop n rs all.1

  all_left : (limit : ℕ) (rs : Waits) → AllByRecursion P rs → AllByRecursion P (left limit rs)
  all_left limit [] all = tt
  all_left limit (r ∷ rs) all = one (is_near limit r) (all_left limit rs all.1)
    where
      one : (b : Bool) → AllByRecursion P (left limit rs) → AllByRecursion P (cond b (left limit rs) (r ∷ rs))
      one true rest = rest
      one false rest = all

  items_gone : (rule : Rule) (ahead top mark : ℕ) (rs : Waits) → AllByRecursion P rs → AllItems P (let_go rule ahead top mark rs)
  items_gone rule ahead top mark [] all = tt
  items_gone rule ahead top mark (r ∷ rs) all = one (is_near (top + ahead) r) (items_gone rule ahead top (mark_for rule top mark r.time) rs all.1)
    where
      one : (b : Bool) → AllItems P (let_go rule ahead top (mark_for rule top mark r.time) rs)
          → AllItems P (cond b (mark_item mark (mark_for rule top mark r.time) ++ Passed r ∷ let_go rule ahead top (mark_for rule top mark r.time) rs) [])
      one true rest =
          items_append (mark_item mark (mark_for rule top mark r.time)) (Passed r ∷ let_go rule ahead top (mark_for rule top mark r.time) rs) (items_mark mark (mark_for rule top mark r.time)) (all.0, rest)
      one false rest = tt

  module _ (rule : Rule) (ahead room told top : ℕ) (rs : Waits) (r : Timed Numbered) where
    abbrev let_out : List (Item Numbered)
    let_out = let_go rule ahead top told rs

    abbrev first : List (Item Numbered)
    first = let_out ++ mark_item (last_mark told let_out) top

    abbrev still : Waits
    still = left (top + ahead) rs

    abbrev near : Went Numbered
    near = record { out = first ++ Passed r ∷ []; mark = max (last_mark told let_out) top; held = still }

    abbrev far : Went Numbered
    far = record { out = first ++ all_passed (drop room (queued r still)); mark = max (last_mark told let_out) top; held = take room (queued r still) }

    -- as a record comes both are of what waited and of it
    all_went : AllByRecursion P rs → P r → AllWent P (went_on rule ahead room (record { out = []; mark = told; held = rs }) (r, top))
    all_went all p =
        let some = items_append let_out (mark_item (last_mark told let_out) top) (items_gone rule ahead top told rs all) (items_mark (last_mark told let_out) top) in
        let waiting = all_left (top + ahead) rs all in
        one (is_near (top + ahead) r) some waiting (all_queued P r still p waiting)
      where
        one : (b : Bool) → AllItems P first → AllByRecursion P still → AllByRecursion P (queued r still) → AllWent P (cond b near far)
        one true some waiting queue = record { out = items_append first (Passed r ∷ []) some (p, tt); held = waiting }
        one false some waiting queue =
            record { out = items_append first (all_passed (drop room (queued r still))) some (items_all (drop room (queued r still)) (all_drop room (queued r still) queue)); held = all_take room (queued r still) queue }

  went_items : (clocks : Option Clocks) (k : Kept) (stamp : Stamp) (r : Timed Numbered) → AllByRecursion P k.waits → P r → AllWent P (went_by clocks k stamp r)
  went_items None k stamp r all p = record { out = (p, tt); held = all }
  went_items (Some c) k stamp r all p = all_went c.rule c.ahead c.room k.told (mark_after c.rule (stamp ∷ k.stamps)) k.waits r all p

  noted_items : (clocks : Option Clocks) (k : Kept) (mark : ℕ) → AllByRecursion P k.waits → AllWent P (noted_by clocks k mark)
  noted_items None k mark all = record { out = tt; held = all }
  noted_items (Some c) k mark all =
      let top : ℕ = mark_after (raised mark c).rule k.stamps in
      record { out = items_gone (raised mark c).rule 0 top k.told k.waits all; held = all_left (top + 0) k.waits all }

-- ---- what waits

-- a record of a line that came, which a row can say
abbrev IsWaiting : Declared → ℕ → Timed Numbered → Type 0
IsWaiting d n r = (0 < r.row.number) × (r.row.number ≤ n) × IsSayable d (Ok r.row.event)

abbrev AreWaiting : Declared → ℕ → Waits → Type 0
AreWaiting d n rs = AllByRecursion (IsWaiting d n) rs

later : (d : Declared) (n : ℕ) (r : Timed Numbered) → IsWaiting d n r → IsWaiting d (n + 1) r
later d n r (some, few, is) = (some, omega (arith, few), is)

-- it goes on at another line as the row that says it
other_goes : (d : Declared) (number of : ℕ) (line : List ℕ) (e : Event) → (of == number) ≡ false → IsSayable d (Ok e) → GoesAt d number line of e
other_goes d number of line (Record key time values) other is = inr (other, is)
other_goes d number of line (Watermark source time) other is = absurd is

waits_go : (d : Declared) (n : ℕ) (line : List ℕ) (r : Timed Numbered) → IsWaiting d n r → Goes d (n + 1) line r.row
waits_go d n line r (some, few, is) = other_goes d (n + 1) r.row.number line r.row.event (other r.row.number few) is
  where
    other : (m : ℕ) → m ≤ n → (m == n + 1) ≡ false
    other m h = grind (arith, nat_tests, h)

waits_end : (d : Declared) (n : ℕ) (r : Timed Numbered) → IsWaiting d n r → Goes d 0 [] r.row
waits_end d n r (some, few, is) = other_goes d 0 r.row.number [] r.row.event (other r.row.number some) is
  where
    other : (m : ℕ) → 0 < m → (m == 0) ≡ false
    other m h = grind (arith, nat_tests, h)

mark_i64 : (m : ℕ) → is_i64 (pos (min m (unsigned_abs LATEST_TIME))) ≡ true
mark_i64 m = small (min m (unsigned_abs LATEST_TIME)) (least m)
  where
    small : (n : ℕ) → n ≤ 10000000000000000 → is_i64 (pos n) ≡ true
    small n h = grind (arith, ints, h)

    least : (n : ℕ) → min n 10000000000000000 ≤ 10000000000000000
    least n = grind arith

items_go : (d : Declared) (number : ℕ) (line : List ℕ) (is : List (Item Numbered)) → AllItems (λ r. Goes d number line r.row) is → AllByRecursion (Goes d number line) (map (numbered number) is)
items_go d number line [] all = tt
items_go d number line (Mark m ∷ is) all = ((refl, mark_i64 m), items_go d number line is all)
items_go d number line (Passed r ∷ is) all = (all.0, items_go d number line is all.1)

-- ---- one turn

record TurnReads (d : Declared) (n : ℕ) (t : RowTurn) (events : List Row) : Type 0 where
  reads : Reads d t.text events
  waits : AreWaiting d n t.state.kept.waits

module _ (w : Setting) (h : is_schema w.declared ≡ true) (s : State) (n : ℕ) (line : Line) (waits : AreWaiting w.declared n s.kept.waits) where
  abbrev d : Declared
  d = w.declared

  abbrev number : ℕ
  number = n + 1

  abbrev TurnGoes : RowTurn → Type 0
  TurnGoes t = TurnReads d number t (events_of t.goes)

  still_waits : AreWaiting d number s.kept.waits
  still_waits = all_weaker (IsWaiting d n) (IsWaiting d number) (λ r is. later d n r is) s.kept.waits waits

  waits_going : AllByRecursion (λ r. Goes d number line.text r.row) s.kept.waits
  waits_going = all_weaker (IsWaiting d n) (λ r. Goes d number line.text r.row) (λ r is. waits_go d n line.text r is) s.kept.waits waits

  same_number : (number == number) ≡ true
  same_number = same number
    where
      same : (m : ℕ) → (m == m) ≡ true
      same m = grind (arith, nat_tests)

  -- a record
  module _ (key : Option ℕ) (time : ℤ) (values : List Value) (identifier : Option (List ℕ)) (reads : Reads d (with_feed line.text) (Ok (Record key time values) ∷ [])) where
    abbrev e : Event
    e = Record key time values

    abbrev x : Spoken
    x = record { event = e; identifier = identifier; voice = Key }

    own : Goes d number line.text (record { number = number; event = e })
    own = inl (same_number, reads)

    stamped_reads : (stamp : Stamp) → stamp_of d e ≡ Some stamp → TurnGoes (recorded_by w s number line (stamped (setting_in w s) s.kept number stamp x))
    stamped_reads stamp is =
        let r : Timed Numbered = timed stamp.time number e in
        let went = went_by s.clocks s.kept stamp r in
        let going = went_items (λ q. Goes d number line.text q.row) s.clocks s.kept stamp r waits_going own in
        let waiting = went_items (IsWaiting d number) s.clocks s.kept stamp r still_waits (omega arith, omega arith, stamped_sayable d key time values stamp h is) in
        record { reads = events_read d h number line.text (map (numbered number) went.out) (items_go d number line.text went.out going.out); waits = waiting.held }

    passing_reads : (stamp : Stamp) → stamp_of d e ≡ Some stamp → (b : Bool)
        → TurnGoes (recorded_by w s number line (cond b (record { goes = []; kept = s.kept }) (stamped (setting_in w s) s.kept number stamp x)))
    passing_reads stamp is true = record { reads = reads_none d; waits = still_waits }
    passing_reads stamp is false = stamped_reads stamp is

    record_by : (o : Option Stamp) → stamp_of d e ≡ o → TurnGoes (recorded_by w s number line (turn_by (setting_in w s) s.kept number o x))
    record_by None is = record { reads = events_read d h number line.text (record { number = number; event = e } ∷ []) (own, tt); waits = still_waits }
    record_by (Some stamp) is = passing_reads stamp is (is_double identifier s.kept.memory)

  -- a watermark
  module _ (source : Option ℕ) (time : ℤ) (reads : Reads d (with_feed line.text) (Ok (Watermark source time) ∷ [])) where
    mark_by : (o : Option ℕ) → TurnGoes (marked w s number line (Watermark source time) o)
    mark_by None = record { reads = reads; waits = still_waits }
    mark_by (Some mark) =
        let went = noted_by s.clocks s.kept mark in
        let front = map (numbered number) went.out in
        let going = noted_items (λ q. Goes d number line.text q.row) s.clocks s.kept mark waits_going in
        let waiting = noted_items (IsWaiting d number) s.clocks s.kept mark still_waits in
        let first = events_read d h number line.text front (items_go d number line.text went.out going.out) in
        let both = reads_join d (events_text d number line.text front) (with_feed line.text) (events_of front) (Ok (Watermark source time) ∷ []) first reads in
        record {
          reads = subst (λ (es : List Row). Reads d (events_text d number line.text front ++ with_feed line.text) es) (sym (map-append (λ g. Ok g.event) front (record { number = number; event = Watermark source time } ∷ []))) both;
          waits = waiting.held;
        }

  event_by : (i : Option (List ℕ)) (e : Event) → Reads d (with_feed line.text) (Ok e ∷ []) → (x : Spoken) → x.event ≡ e → x.identifier ≡ i → TurnGoes (turn_by_said w s number line (Ok x))
  event_by i (Record key time values) reads x is same =
      subst (λ (y : Spoken). TurnGoes (turn_by_said w s number line (Ok y))) (λ j. record { event = sym is j; identifier = sym same j; voice = x.voice })
      (record_by key time values i reads (stamp_of d (Record key time values)) refl)
  event_by i (Watermark source time) reads x is same =
      subst (λ (y : Spoken). TurnGoes (turn_by_said w s number line (Ok y))) (λ j. record { event = sym is j; identifier = sym same j; voice = x.voice })
      (mark_by source time reads (told_at source time))

  said_reads : (said : Said) → Reads d (with_feed line.text) (row_of said line.text) → TurnReads d number (turn_by_said w s number line said) (fed_by said line.text (turn_by_said w s number line said).goes)
  said_reads (Err why) reads = record { reads = reads; waits = still_waits }
  said_reads (Ok x) reads = event_by x.identifier x.event reads x refl refl

-- ---- all lines

record AreRead (w : Setting) (lines : List Line) : Type 0 where
  reads : Reads w.declared (rows_text w lines) (fed_of w lines)
  waits : AreWaiting w.declared (length lines) (state_of w lines).kept.waits

lines_are : (w : Setting) (once : Option ℕ) → is_schema w.declared ≡ true → (lines : List (List ℕ)) → AreLines lines → AreRead w (lines_read w.declared once lines)
lines_are w once h [] all = record { reads = reads_none w.declared; waits = tt }
lines_are w once h (raw ∷ before) all =
    let line : Line = line_of w.declared once (text_of (is_first before) raw) in
    let so_far = lines_are w once h before all.1 in
    let past : List Line = lines_read w.declared once before in
    let s : State = state_of w past in
    let one = said_reads w h s (length past) line so_far.waits line.said (line_reads w.declared once (is_first before) raw all.0) in
    let next : length past + 1 ≡ suc (length past) = omega arith in record {
      reads = reads_join w.declared (rows_text w past) (row_turn w s (length past + 1) line).text (fed_of w past) (fed_by line.said line.text (row_turn w s (length past + 1) line).goes) so_far.reads one.reads;
      waits = subst (λ (m : ℕ). AreWaiting w.declared m (row_turn w s (length past + 1) line).state.kept.waits) next one.waits;
    }

last_reads : (d : Declared) (last : Bool) (first : ℤ) → is_schema d ≡ true → Reads d (last_row d last first) (last_fed last first)
last_reads d last first h = one (last && int_lt first LATEST_TIME)
  where
    one : (b : Bool) → Reads d (cond b (mark_row d LATEST_TIME) []) (cond b (Ok (Watermark (Some 0) LATEST_TIME) ∷ []) [])
    one true = mark_reads d LATEST_TIME h refl
    one false = reads_none d

ends_go : (d : Declared) (n : ℕ) (rs : Waits) → AreWaiting d n rs → AllByRecursion (Goes d 0 []) (map (λ r. r.row) rs)
ends_go d n [] all = tt
ends_go d n (r ∷ rs) all = (waits_end d n r all.0, ends_go d n rs all.1)

pub all_read : (w : Setting) (once : Option ℕ) (last : Bool) → is_schema w.declared ≡ true → (lines : List (List ℕ)) → AreLines lines → Reads w.declared (text w last (lines_read w.declared once lines)) (all_fed w last (lines_read w.declared once lines))
all_read w once last h lines all =
    let past : List Line = lines_read w.declared once lines in
    let are = lines_are w once h lines all in
    let k : Kept = (state_of w past).kept in
    let first : ℤ = source_mark w.clock 0 (gone w past) in
    let ends = events_read w.declared h 0 [] (at_end k) (ends_go w.declared (length past) k.waits are.waits) in
    let behind = reads_join w.declared (events_text w.declared 0 [] (at_end k)) (last_row w.declared last first) (events_of (at_end k)) (last_fed last first) ends (last_reads w.declared last first h) in
    reads_join w.declared (rows_text w past) (rest_text w last past) (fed_of w past) (events_of (at_end k) ++ last_fed last first) are.reads behind

pub rows_fed : (w : Setting) (once : Option ℕ) (last : Bool) (lines : List (List ℕ)) → is_schema w.declared ≡ true → AreLines lines → (rows : List (List (List ℕ))) × AreFed w once last lines rows
rows_fed w once last lines h all =
    let reads = all_read w once last h lines all in
    (reads.rows, record { all = read_all w.declared (text w last (lines_read w.declared once lines)) (all_fed w last (lines_read w.declared once lines)) reads; events = reads.said })

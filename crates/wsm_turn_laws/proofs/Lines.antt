-- The turns of lines, one behind the other.
use Rattle.std.proofs.Common.{◌≡◌, ◌≤◌, ◌<◌, ◌+◌, ℕ, Bool, true, false, ◌&&◌, cond, List, [], ◌∷◌, ◌++◌, length, map, ℤ, pos, ◌≤ℤ◌, Option, Some, None, Ok, Err, refl, sym, ap, subst, ◌∙◌, arith}
use Rattle.std.proofs.lemmas.Bool.{and_parts}
use Rattle.std.proofs.lemmas.Bool.Decides.{nat_tests}
use Rattle.std.proofs.lemmas.Int.{ints}
use Rattle.std.proofs.lemmas.List.Sorted.{IsPermutation-refl}
use Rattle.std.specs.Prelude.{bytes_eq, nat_eq, if◌then◌else◌, unsigned_abs}
use Rattle.std.specs.List.{count_by}
use Rattle.std.specs.Int.{int_max}
use Rattle.wsm_record.specs.declared.event.Value.{Value}
use Rattle.wsm_record.specs.Event.{Event, Record, Watermark}
use Rattle.wsm_record.specs.Schema.{Declared, fit_fields}
use Rattle.wsm_windows.specs.Limits.{is_time}
use Rattle.wsm_admission.specs.Clock.{is_key, source_mark}
use Rattle.wsm_admission.proofs.SourceMarks.{watermark_rises}
use Rattle.wsm_watermarks.specs.declared.stamp.Stamp.{Stamp}
use Rattle.wsm_watermarks.specs.declared.held.Timed.{Timed}
use Rattle.wsm_watermarks.specs.Agreement.{mark_after}
use Rattle.wsm_watermarks.specs.Held.{Went, went_on}
use Rattle.wsm_watermarks.proofs.KeptRows.{ready_from, ready_on}
use Rattle.wsm_watermarks.proofs.Marks.{mark_rises}
use Rattle.wsm_semantics.specs.Query.{Query, mark}
use Rattle.wsm_doubles.specs.Memory.{Memory, live}
use Rattle.wsm_doubles.specs.Passing.{SentText, TextPassing, Told, passes}
use Rattle.wsm_doubles.proofs.Forgotten.{live-live}
use Rattle.wsm_turns.specs.declared.clocks.Clocks.{Clocks}
use Rattle.wsm_turns.specs.Numbered.{Numbered, timed}
use Rattle.wsm_turns.specs.declared.voice.Voice.{Voice}
use Rattle.wsm_turns.specs.declared.voice.Voice.TheVariants.{Key, Named, Silent}
use Rattle.wsm_turns.specs.Voices.{stamp_by}
use Rattle.wsm_turns.specs.Turns.{Kept, Said, Setting, Spoken, going, is_double, kept, noted, numbered, passing, passing_by, setting_of, stamp_of, stamped, turn_by, unstamped}
use Rattle.wsm_turn_laws.specs.Delivered.{Suits, AllLeaveMark, delivered, identifier_at, identifier_by, identifier_of, LeavesMark, records_of, sent_of}
use Rattle.wsm_turn_laws.proofs.Counts.{count-append, count-cons, one_if}
use Rattle.wsm_turn_laws.proofs.Following.{Follows, OwnNumbers, follows_double, follows_on, follows_still, is_there, kept_noted, kept_own, may_come, not_there, untag}
use Rattle.wsm_turn_laws.proofs.Moves.{at_most, moves_behind, moves_live}
use Rattle.wsm_turn_laws.proofs.Passing.{goes_alone}
use Rattle.wsm_turn_laws.proofs.Standing.{GoesOn, IsRow, held, sent, sent_alone, sent_event, sent_time, times}
use Rattle.wsm_turn_laws.proofs.Taking.{takes}

-- ---- identifiers

abbrev pub AreNamed : {F : Type 0} → Declared → (ℕ → List ℕ) → List (Said F) → Type 0
AreNamed d name [] = Unit {0}
AreNamed d name (Err why ∷ before) = AreNamed d name before
AreNamed d name (Ok x ∷ before) = (name (length before + 1) ≡ identifier_of d (length before + 1) x) × AreNamed d name before

named_by : {F : Type 0} (d : Declared) (name : ℕ → List ℕ) (lines : List (Said F)) → ((n : ℕ) → n ≤ length lines → name n ≡ identifier_at d lines n) → AreNamed d name lines
named_by d name [] h = tt
named_by d name (Err why ∷ before) h = named_by d name before (λ n le. h n (omega (arith, le)))
named_by d name (Ok x ∷ before) h = (
  (h (length before + 1) (omega arith) ∙ ap (λ (b : Bool). cond b (identifier_of d (length before + 1) x) (identifier_at d before (length before + 1))) (itself (length before + 1))),
  named_by d name before (λ n le. h n (omega (arith, le)) ∙ ap (λ (b : Bool). cond b (identifier_of d (length before + 1) x) (identifier_at d before n)) (other n (length before + 1) (omega (arith, le)))),
)
  where
    itself : (n : ℕ) → nat_eq n n ≡ true
    itself n = grind (arith, nat_tests)

    other : (m n : ℕ) → m < n → nat_eq m n ≡ false
    other m n h = grind (arith, nat_tests)

pub are_named : {F : Type 0} (d : Declared) (lines : List (Said F)) → AreNamed d (identifier_at d lines) lines
are_named d lines = named_by d (identifier_at d lines) lines (λ n le. refl)

other : (m n : ℕ) → m < n → bytes_eq (1 ∷ n ∷ []) (1 ∷ m ∷ []) ≡ false
other m n less = ap (λ (b : Bool). b && true) (greater m n less)
  where
    greater : (m n : ℕ) → m < n → nat_eq n m ≡ false
    greater m n h = grind (arith, nat_tests)

-- no line's own identifier is that of another
own_of : (m n : ℕ) (identifier : Option (List ℕ)) (stamp : Option Stamp) → m < n → bytes_eq (1 ∷ n ∷ []) (identifier_by m stamp identifier) ≡ false
own_of m n (Some i) (Some stamp) less = refl
own_of m n None (Some stamp) less = other m n less
own_of m n identifier None less = other m n less

-- which clock it is makes no other identifier
of_clock : (n : ℕ) (a b : Stamp) (identifier : Option (List ℕ)) → identifier_by n (Some a) identifier ≡ identifier_by n (Some b) identifier
of_clock n a b (Some i) = refl
of_clock n a b None = refl

-- ---- times

if_some : {A : Type 0} (b : Bool) (x y : A) → (if b then Some x else None) ≡ Some y → (b ≡ true) × (x ≡ y)
if_some true x y h = (refl, ap (λ o. elim o [ Some z ↦ z | None ↦ x ]) h)
if_some false x y h = cc

whole : (t : ℤ) → is_time t ≡ true → t ≡ pos (unsigned_abs t)
whole t h = grind (arith, ints)

-- a record of that time
record IsAt (time : ℕ) (e : Event) : Type 0 where
  key : Option ℕ
  values : List Value
  is : e ≡ Record key (pos time) values

stamped_at : (d : Declared) (e : Event) (stamp : Stamp) → stamp_of d e ≡ Some stamp → IsAt stamp.time e
stamped_at d (Watermark source time) stamp h = absurd cc
stamped_at d (Record None time values) stamp h = absurd cc
stamped_at d (Record (Some key) time values) stamp h =
    let (holds, is) = if_some (is_key d (Some key) && (fit_fields d.fields values && is_time time)) (record { clock = key; time = unsigned_abs time }) stamp h in
    let in_range : is_time time ≡ true = (and_parts (fit_fields d.fields values) (is_time time) (and_parts (is_key d (Some key)) (fit_fields d.fields values && is_time time) holds).1).1 in
    record { key = Some key; values = values; is = ap (λ (t : ℤ). Record (Some key) t values) (whole time in_range ∙ ap (λ (s : Stamp). pos s.time) is) }

-- ---- turns

more : (m n : ℕ) → n ≡ m + 1 → m + 1 ≡ n
more m n h = sym h

module _ (own_numbers : OwnNumbers) (q : Query) (c : Clocks) (name : ℕ → List ℕ) (ok : Suits c q) where
  abbrev setting : Setting
  setting = setting_of (Some c) q

  held_none : (i : List ℕ) (k : Kept) (o : TextPassing) → times i (held q name k.waits ++ o.memory) ≡ 0 → times i (held q name k.waits) ≡ 0
  held_none i k o none = let apart = count-append (λ e. bytes_eq i e.0) (held q name k.waits) o.memory in omega (arith, apart, none)

  -- what says nothing of time goes on at once
  follows_plain : (count : ℕ) (records : List SentText) (k : Kept) (e : Event) → Follows q name c.rule count records k → LeavesMark e → name (count + 1) ≡ 1 ∷ (count + 1) ∷ []
      → Follows q name c.rule (count + 1) (sent_of (name (count + 1)) e ++ records) (going setting k (record { number = count + 1; event = e } ∷ [])).kept
  follows_plain count records k (Record key time values) h leaves own =
      let n : ℕ = count + 1 in
      let s : SentText = record { identifier = name n; key = key; time = time; values = values } in
      let g : Numbered = record { number = n; event = Record key time values } in
      let all : Memory = held q name k.waits ++ h.passing.memory in
      let none : times (name n) all ≡ 0 = subst (λ (i : List ℕ). times i all ≡ 0) (sym own) (h.own n (omega arith)) in
      follows_on q name c.rule ok.shape ok.lateness count records k (going setting k (g ∷ [])).kept (s ∷ []) (g ∷ []) k.memory h
      (goes_alone q name s g h.deliveries h.passing h.doubles k.waits k.told h.is h.stands none refl)
      (λ p. subst (λ (i : List ℕ). count_by p k.memory ≡ count_by (untag p) ((i, time) ∷ all)) (sym own) (kept_own n time k.memory all h.same p))
      (λ m more.
      let is = count-cons (λ e. bytes_eq (1 ∷ m ∷ []) e.0) (name n, time) all in
      let other : bytes_eq (1 ∷ m ∷ []) (name n) ≡ false = ap (bytes_eq (1 ∷ m ∷ [])) own ∙ own_of n m None None more in
      let no : one_if (bytes_eq (1 ∷ m ∷ []) (name n)) ≡ 0 = ap one_if other in
      let rest = h.own m (omega (arith, more)) in
      omega (arith, is, no, rest))
      refl refl h.sorted h.ahead h.told (λ time_of timed. ((may_come q name c.rule own_numbers count records k s h (held_none (name n) k h.passing none) time_of timed, tt), timed.2))
  follows_plain count records k (Watermark source time) h leaves own =
      let g : Numbered = record { number = count + 1; event = Watermark source time } in
      let past : List Event = Watermark source time ∷ h.passing.passed in
      let w : ℤ = mark q past in
      let same : source_mark q.clock 0 past ≡ source_mark q.clock 0 h.passing.passed = ap (λ (b : Bool). cond (b && is_time time) (int_max (source_mark q.clock 0 h.passing.passed) time) (source_mark q.clock 0 h.passing.passed)) leaves in
      let moves = moves_behind q.clock q.shape w (held q name k.waits) h.passing.memory (live q.clock q.shape w h.passing.memory) (moves_live q.clock q.shape w h.passing.memory) in
      follows_on q name c.rule ok.shape ok.lateness count records k (going setting k (g ∷ [])).kept [] (g ∷ []) k.memory h
      (record {
        deliveries = Told source time ∷ h.deliveries;
        passing = passes q (Watermark source time) h.passing.memory h.passing.passed;
        left = h.doubles;
        is = ap (λ (p : TextPassing). passes q (Watermark source time) p.memory p.passed) h.is;
        stands = record {
          once = λ i. let n = h.stands.once i in let m = moves.less (λ e. bytes_eq i e.0) in omega (arith, n, m);
          theirs = h.stands.theirs;
          low = subst (λ (m : ℤ). m ≤ℤ pos k.told) (sym same) h.stands.low;
          of_time = h.stands.of_time;
          prompt = live-live q.clock q.shape w w (at_most w) h.passing.memory;
        };
        moves = moves;
        rises = watermark_rises q.clock q.declared h.passing.passed (Watermark source time);
        passed = refl;
        brought = IsPermutation-refl (records_of h.deliveries ++ (h.doubles ++ map (sent q name) k.waits));
        among = λ i there. there;
        timed = λ time_of may was. record { came_so = was.came_so; left_so = was.left_so; wait_so = was.wait_so };
      })
      h.same (λ m more. h.own m (omega (arith, more))) refl refl h.sorted h.ahead h.told (λ time_of timed. (tt, timed))

  -- a record with its time, and its identifier
  module _ (count : ℕ) (records : List SentText) (k : Kept) (stamp : Stamp) (x : Spoken) (h : Follows q name c.rule count records k) (at : IsAt stamp.time x.event) (names : name (count + 1) ≡ identifier_by (count + 1) (Some stamp) x.identifier) where
    abbrev row : Timed Numbered
    row = timed stamp.time (count + 1) x.event

    abbrev top : ℕ
    top = mark_after c.rule (stamp ∷ k.stamps)

    abbrev before : Went Numbered
    before = record { out = []; mark = k.told; held = k.waits }

    abbrev after : Went Numbered
    after = went_on c.rule c.ahead c.room before (row, top)

    abbrev all : Memory
    all = held q name k.waits ++ h.passing.memory

    of_time : IsRow row
    of_time = record { key = at.key; values = at.values; is = at.is }

    follows_stamped : is_double x.identifier k.memory ≡ false → Follows q name c.rule (count + 1) (sent q name row ∷ records) (stamped setting k (count + 1) stamp x).kept
    follows_stamped new =
        let n : ℕ = count + 1 in
        let rises : k.told ≤ top = let le = mark_rises c.rule stamp k.stamps in let is = h.told in omega (arith, le, is) in
        let ready = ready_on c.rule c.ahead c.room before (row, top) (record { sorted = h.sorted; ahead = h.ahead }) rises in
        let ready_after = ready_from c.ahead top after ready in
        let none : times (name n) all ≡ 0 = subst (λ (i : List ℕ). times i all ≡ 0) (sym names) (not_there x.identifier n stamp k.memory all h.same (h.own n (omega arith)) new) in
        let goes = takes q name ok.shape ok.lateness c.rule c.ahead c.room n h.deliveries h.passing h.doubles k.waits k.told top row h.is h.stands (record { sorted = h.sorted; ahead = h.ahead }) rises none of_time in
        let time : (sent q name row).time ≡ pos stamp.time = sent_time (name n) row of_time in
        follows_on q name c.rule ok.shape ok.lateness count records k (stamped setting k n stamp x).kept (sent q name row ∷ []) (map (numbered n) after.out) (noted x.identifier stamp.time k.memory) h
        (subst (λ (m : ℕ). GoesOn q name (sent q name row ∷ []) h.deliveries h.passing h.doubles k.waits after.held m (map (numbered n) after.out)) (sym ready.mark) goes)
        (λ p. kept_noted x.identifier n stamp stamp.time k.memory all h.same p ∙ (λ j. count_by (untag p) ((sym names j, sym time j) ∷ all)))
        (λ m more.
        let is = count-cons (λ e. bytes_eq (1 ∷ m ∷ []) e.0) (name n, (sent q name row).time) all in
        let other : bytes_eq (1 ∷ m ∷ []) (name n) ≡ false = ap (bytes_eq (1 ∷ m ∷ [])) names ∙ own_of n m x.identifier (Some stamp) more in
        let no : one_if (bytes_eq (1 ∷ m ∷ []) (name n)) ≡ 0 = ap one_if other in
        let rest = h.own m (omega (arith, more)) in
        omega (arith, is, no, rest))
        refl refl ready_after.sorted ready_after.ahead ready.mark (λ time_of timed. ((may_come q name c.rule own_numbers count records k (sent q name row) h (held_none (name n) k h.passing none) time_of timed, tt), timed.2))

    -- it tells no time, so it goes on at once
    follows_unstamped : is_double x.identifier k.memory ≡ false → Follows q name c.rule (count + 1) (sent q name row ∷ records) (unstamped setting k (count + 1) stamp.time x).kept
    follows_unstamped new =
        let n : ℕ = count + 1 in
        let g : Numbered = record { number = n; event = x.event } in
        let none : times (name n) all ≡ 0 = subst (λ (i : List ℕ). times i all ≡ 0) (sym names) (not_there x.identifier n stamp k.memory all h.same (h.own n (omega arith)) new) in
        let time : (sent q name row).time ≡ pos stamp.time = sent_time (name n) row of_time in
        follows_on q name c.rule ok.shape ok.lateness count records k (unstamped setting k n stamp.time x).kept (sent q name row ∷ []) (g ∷ []) (noted x.identifier stamp.time k.memory) h
        (goes_alone q name (sent q name row) g h.deliveries h.passing h.doubles k.waits k.told h.is h.stands none (sym (sent_event (name n) x.event at.key (pos stamp.time) at.values at.is)))
        (λ p. kept_noted x.identifier n stamp stamp.time k.memory all h.same p ∙ (λ j. count_by (untag p) ((sym names j, sym time j) ∷ all)))
        (λ m more.
        let is = count-cons (λ e. bytes_eq (1 ∷ m ∷ []) e.0) (name n, (sent q name row).time) all in
        let other : bytes_eq (1 ∷ m ∷ []) (name n) ≡ false = ap (bytes_eq (1 ∷ m ∷ [])) names ∙ own_of n m x.identifier (Some stamp) more in
        let no : one_if (bytes_eq (1 ∷ m ∷ []) (name n)) ≡ 0 = ap one_if other in
        let rest = h.own m (omega (arith, more)) in
        omega (arith, is, no, rest))
        refl refl h.sorted h.ahead h.told (λ time_of timed. ((may_come q name c.rule own_numbers count records k (sent q name row) h (held_none (name n) k h.passing none) time_of timed, tt), timed.2))

  -- by the clock of its key, by one that its line names, or by none
  module _ (count : ℕ) (records : List SentText) (k : Kept) (stamp : Stamp) (x : Spoken) (h : Follows q name c.rule count records k) (at : IsAt stamp.time x.event) (names : name (count + 1) ≡ identifier_by (count + 1) (Some stamp) x.identifier) where
    abbrev delivery : SentText
    delivery = sent q name (timed stamp.time (count + 1) x.event)

    follows_voiced : (voice : Voice) → is_double x.identifier k.memory ≡ false → Follows q name c.rule (count + 1) (delivery ∷ records) (passing_by setting k (count + 1) (stamp_by voice stamp) stamp.time x).kept
    follows_voiced Key new = follows_stamped count records k stamp x h at names new
    follows_voiced (Named clock) new =
        let told : Stamp = record { clock = clock; time = stamp.time } in
        follows_stamped count records k told x h (record { key = at.key; values = at.values; is = at.is }) (names ∙ of_clock (count + 1) stamp told x.identifier) new
    follows_voiced Silent new = follows_unstamped count records k stamp x h at names new

    follows_passing : Follows q name c.rule (count + 1) (delivery ∷ records) (passing setting k (count + 1) stamp x).kept
    follows_passing = either (is_double x.identifier k.memory) refl
      where
        either : (b : Bool) → is_double x.identifier k.memory ≡ b → Follows q name c.rule (count + 1) (delivery ∷ records) (cond b (record { goes = []; kept = k }) (passing_by setting k (count + 1) (stamp_by x.voice stamp) stamp.time x)).kept
        either false new = follows_voiced x.voice new
        either true known =
            follows_double q name c.rule own_numbers count records k delivery h
            (subst (λ (i : List ℕ). 0 < times i (held q name k.waits ++ h.passing.memory)) (sym names) (is_there x.identifier (count + 1) stamp k.memory (held q name k.waits ++ h.passing.memory) h.same known))

  follows_turn : (count : ℕ) (records : List SentText) (k : Kept) (x : Spoken) (o : Option Stamp) → stamp_of q.declared x.event ≡ o → Follows q name c.rule count records k → LeavesMark x.event
      → name (count + 1) ≡ identifier_by (count + 1) o x.identifier → Follows q name c.rule (count + 1) (sent_of (name (count + 1)) x.event ++ records) (turn_by setting k (count + 1) o x).kept
  follows_turn count records k x None tells h leaves names = follows_plain count records k x.event h leaves names
  follows_turn count records k x (Some stamp) tells h leaves names =
      let at : IsAt stamp.time x.event = stamped_at q.declared x.event stamp tells in
      subst (λ (ss : List SentText). Follows q name c.rule (count + 1) (ss ++ records) (passing setting k (count + 1) stamp x).kept) (sym (sent_alone (name (count + 1)) x.event at.key (pos stamp.time) at.values at.is))
      (follows_passing count records k stamp x h at names)

  pub follows : {F : Type 0} (lines : List (Said F)) → AreNamed q.declared name lines → AllLeaveMark lines → Follows q name c.rule (length lines) (delivered q.declared lines) (kept setting lines)
  follows [] names leave = record {
    deliveries = [];
    passing = record { passed = []; memory = [] };
    doubles = [];
    is = refl;
    fed = refl;
    stands = record { once = λ i. omega arith; theirs = tt; low = ok.start; of_time = tt; prompt = refl };
    same = λ p. refl;
    own = λ n more. refl;
    sorted = tt;
    ahead = tt;
    told = refl;
    brought = IsPermutation-refl [];
    timed = λ time_of timed. record { came_so = tt; left_so = tt; wait_so = tt };
  }
  follows (Err why ∷ before) names leave =
      subst (λ (n : ℕ). Follows q name c.rule n (delivered q.declared before) (kept setting before)) (more (length before) (length (Err why ∷ before)) (omega arith))
      (follows_still q name c.rule (length before) (delivered q.declared before) (kept setting before) (follows before names leave))
  follows (Ok x ∷ before) names leave =
      let k : Kept = kept setting before in
      let n : ℕ = length before + 1 in
      let is : name n ≡ identifier_of q.declared n x = names.0 in
      let new : Kept = (turn_by setting k n (stamp_of q.declared x.event) x).kept in
      let records : List SentText = delivered q.declared before in
      let turn : Follows q name c.rule n (sent_of (name n) x.event ++ records) new =
      follows_turn (length before) records k x (stamp_of q.declared x.event) refl (follows before names.1 leave.1) leave.0 is in
      let named : Follows q name c.rule n (sent_of (identifier_of q.declared n x) x.event ++ records) new =
      subst (λ (i : List ℕ). Follows q name c.rule n (sent_of i x.event ++ records) new) is turn in
      subst (λ (m : ℕ). Follows q name c.rule m (sent_of (identifier_of q.declared n x) x.event ++ records) new) (more (length before) (length (Ok x ∷ before)) (omega arith)) named

-- Records that wait and their doubles, beside what passed of deliveries.
use Rattle.std.proofs.Common.{◌≡◌, ◌≤◌, ◌<◌, ◌+◌, ℕ, zero, suc, Bool, true, false, cond, List, [], ◌∷◌, ◌++◌, length, map, ℤ, pos, ◌+ℤ◌, ◌≤ℤ◌, Option, refl, sym, ap, subst, ◌∙◌, arith}
use Rattle.std.proofs.lemmas.Bool.{true≢false}
use Rattle.std.proofs.lemmas.Bool.Decides.{nat_tests}
use Rattle.std.proofs.lemmas.Int.{ints}
use Rattle.std.proofs.lemmas.List.{append_assoc}
use Rattle.std.proofs.lemmas.List.Elements.{All-from_recursion, recursion_from_All}
use Rattle.std.proofs.lemmas.List.Sorted.{All-permutation, IsPermutation-append_right, IsPermutation-map, IsPermutation-trans}
use Rattle.std.specs.Prelude.{IsPermutation, bytes_eq, nat_eq}
use Rattle.std.specs.List.{AllByRecursion, count_by, fold, range_with_len}
use Rattle.std.specs.Int.{int_min}
use Rattle.wsm_record.specs.declared.event.Value.{Value}
use Rattle.wsm_record.specs.Event.{Event, Record, Watermark}
use Rattle.wsm_record.specs.Schema.{Declared, source_count}
use Rattle.wsm_windows.specs.declared.window.Shape.{Shape}
use Rattle.wsm_windows.specs.Windows.{IsShape}
use Rattle.wsm_admission.specs.declared.clock.Clock.{Clock}
use Rattle.wsm_admission.specs.Clock.{is_late, least, source_mark, watermark_of}
use Rattle.wsm_watermarks.specs.declared.held.Timed.{Timed}
use Rattle.wsm_watermarks.proofs.KeptRows.{all_weaker}
use Rattle.wsm_watermarks.proofs.Served.{prompt}
use Rattle.wsm_semantics.specs.Query.{Query, mark}
use Rattle.wsm_semantics.proofs.Each.{all-after}
use Rattle.wsm_doubles.specs.Memory.{Memory, live}
use Rattle.wsm_doubles.specs.Passing.{SentText, TextDelivery, TextPassing, event_of, passing_texts}
use Rattle.wsm_turns.specs.Numbered.{Numbered}
use Rattle.wsm_turns.specs.Turns.{fed_with}
use Rattle.wsm_turn_laws.specs.Delivered.{records_of, sent_of}
use Rattle.wsm_turn_laws.proofs.Counts.{count-append, count-permuted}
use Rattle.wsm_turn_laws.proofs.Moves.{Entry, Moves, at_most, in_turn, moves_behind, moves_held, moves_order, moves_then}
use Rattle.wsm_turn_laws.proofs.Timed.{MayCome, StaysTimed, has}

-- ---- the watermark of a query

least_to : (m : ℤ) (ms : List ℤ) → fold int_min m ms ≤ℤ m
least_to m [] = omega (arith, ints)
least_to m (n ∷ ms) = let h = least_to (int_min m n) ms in let k = less m n in in_turn (fold int_min (int_min m n) ms) (int_min m n) m h k
  where
    less : (m n : ℤ) → int_min m n ≤ℤ m
    less m n = grind (arith, ints)

first_least : (f : ℕ → ℤ) (n : ℕ) → 0 < n → least (map f (range_with_len 0 n)) ≤ℤ f 0
first_least f zero h = absurd (omega arith)
first_least f (suc n) h = least_to (f 0) (map f (range_with_len (0 + 1) n))

some_source : (n : ℕ) → 0 < cond (nat_eq n 0) 1 n
some_source n = grind (arith, nat_tests)

-- it isn't past the mark of the first source
first_mark : (c : Clock) (d : Declared) (past : List Event) → watermark_of c d past ≤ℤ source_mark c 0 past
first_mark c d past = first_least (λ s. source_mark c s past) (source_count d) (some_source (length d.sources))

module _ (q : Query) where
  -- a record of a time that the mark of the first source isn't past isn't late
  pub not_late : IsShape q.shape → pos 0 ≤ℤ q.clock.lateness → (past : List Event) (told time : ℕ) → source_mark q.clock 0 past ≤ℤ pos told → told ≤ time → is_late q.clock q.shape (mark q past) (pos time) ≡ false
  not_late shape lateness past told time is before =
      prompt q.clock q.shape (mark q past) (pos time) shape (within (mark q past) (source_mark q.clock 0 past) told time q.clock.lateness (first_mark q.clock q.declared past) is before lateness)
    where
      within : (w m : ℤ) (told time : ℕ) (lateness : ℤ) → w ≤ℤ m → m ≤ℤ pos told → told ≤ time → pos 0 ≤ℤ lateness → w ≤ℤ (pos time +ℤ lateness)
      within w m told time lateness a b d e = omega (arith, ints)

-- ---- records that wait

-- a record of the time
pub record IsRow (r : Timed Numbered) : Type 0 where
  pub key : Option ℕ
  pub values : List Value
  pub is : r.row.event ≡ Record key (pos r.time) values

abbrev key_in : Event → Option ℕ
key_in (Record key time values) = key
key_in (Watermark source time) = source

abbrev time_in : Event → ℤ
time_in (Record key time values) = time
time_in (Watermark source time) = time

abbrev values_in : Event → List Value
values_in (Record key time values) = values
values_in (Watermark source time) = []

-- a record with an identifier
abbrev pub sent_in : List ℕ → Event → SentText
sent_in identifier e = record { identifier = identifier; key = key_in e; time = time_in e; values = values_in e }

-- it is that record
pub sent_time : (i : List ℕ) (r : Timed Numbered) → IsRow r → (sent_in i r.row.event).time ≡ pos r.time
sent_time i r row = ap time_in row.is

pub sent_event : (i : List ℕ) (e : Event) (key : Option ℕ) (time : ℤ) (values : List Value) → e ≡ Record key time values → event_of (sent_in i e) ≡ e
sent_event i e key time values is = ap (λ (f : Event). event_of (sent_in i f)) is ∙ sym is

pub sent_alone : (i : List ℕ) (e : Event) (key : Option ℕ) (time : ℤ) (values : List Value) → e ≡ Record key time values → sent_of i e ≡ sent_in i e ∷ []
sent_alone i e key time values is = ap (sent_of i) is ∙ ap (λ (f : Event). sent_in i f ∷ []) (sym is)

-- those that come, in front of what is remembered
abbrev pub news : List SentText → Memory → Memory
news [] memory = memory
news (s ∷ extra) memory = (s.identifier, s.time) ∷ news extra memory

news-append : (later extra : List SentText) (memory : Memory) → news (later ++ extra) memory ≡ news later (news extra memory)
news-append [] extra memory = refl
news-append (s ∷ later) extra memory = ap (λ (m : Memory). (s.identifier, s.time) ∷ m) (news-append later extra memory)

moves_news : (c : Clock) (shape : Shape) (at : ℤ) (extra : List SentText) (a b : Memory) → Moves c shape at a b → Moves c shape at (news extra a) (news extra b)
moves_news c shape at [] a b one = one
moves_news c shape at (s ∷ extra) a b one = moves_behind c shape at ((s.identifier, s.time) ∷ []) (news extra a) (news extra b) (moves_news c shape at extra a b one)

-- as often as an identifier is there
abbrev pub times : List ℕ → Memory → ℕ
times i memory = count_by (λ k. bytes_eq i k.0) memory

fed_with-append : (past : List Event) (gs hs : List Numbered) → fed_with past (gs ++ hs) ≡ fed_with (fed_with past gs) hs
fed_with-append past [] hs = refl
fed_with-append past (g ∷ gs) hs = fed_with-append (g.event ∷ past) gs hs

all-before : {A : Type 0} (P : A → Type 0) (xs ys : List A) → AllByRecursion P (xs ++ ys) → AllByRecursion P xs
all-before P [] ys h = tt
all-before P (x ∷ xs) ys h = (h.0, all-before P xs ys h.1)

module _ (q : Query) (name : ℕ → List ℕ) where
  -- a record that waits by its identifier and its time, and as it is delivered
  abbrev pub entry : Timed Numbered → Entry
  entry r = (name r.row.number, pos r.time)

  abbrev pub held : List (Timed Numbered) → Memory
  held rows = map entry rows

  abbrev pub sent : Timed Numbered → SentText
  sent r = sent_in (name r.row.number) r.row.event

  -- an identifier waits or is remembered, and once; doubles are of those that wait
  pub record Stands (o : TextPassing) (doubles : List SentText) (rows : List (Timed Numbered)) (told : ℕ) : Type 0 where
    pub once : (i : List ℕ) → times i (held rows ++ o.memory) ≤ 1
    pub theirs : AllByRecursion (λ s. 0 < times s.identifier (held rows)) doubles
    pub low : source_mark q.clock 0 o.passed ≤ℤ pos told
    pub of_time : AllByRecursion IsRow rows
    pub prompt : live q.clock q.shape (mark q o.passed) o.memory ≡ o.memory

  -- deliveries with these further ones, of which so much passes as goes on
  pub record GoesOn (extra : List SentText) (ds : List TextDelivery) (o : TextPassing) (doubles : List SentText) (rows rest : List (Timed Numbered)) (last : ℕ) (gs : List Numbered) : Type 0 where
    pub deliveries : List TextDelivery
    pub passing : TextPassing
    pub left : List SentText
    pub is : passing_texts q deliveries ≡ passing
    pub stands : Stands passing left rest last
    pub moves : Moves q.clock q.shape (mark q passing.passed) (news extra (held rows ++ o.memory)) (held rest ++ passing.memory)
    pub rises : mark q o.passed ≤ℤ mark q passing.passed
    pub passed : passing.passed ≡ fed_with o.passed gs
    pub brought : IsPermutation (extra ++ (records_of ds ++ (doubles ++ map sent rows))) (records_of deliveries ++ (left ++ map sent rest))
    pub among : (i : List ℕ) → has i ds ≡ true → has i deliveries ≡ true
    pub timed : (time_of : ℕ → ℤ) → AllByRecursion (MayCome time_of ds) extra → StaysTimed time_of ds doubles (map sent rows) → StaysTimed time_of deliveries left (map sent rest)

  pub goes_then : (extra later : List SentText) (ds : List TextDelivery) (o : TextPassing) (doubles : List SentText) (rows mid rest : List (Timed Numbered)) (first last : ℕ) (gs hs : List Numbered)
      → (one : GoesOn extra ds o doubles rows mid first gs) → GoesOn later one.deliveries one.passing one.left mid rest last hs → GoesOn (later ++ extra) ds o doubles rows rest last (gs ++ hs)
  goes_then extra later ds o doubles rows mid rest first last gs hs one two =
      let start : Memory = held rows ++ o.memory in
      let all : List SentText = records_of ds ++ (doubles ++ map sent rows) in
      let half : List SentText = records_of one.deliveries ++ (one.left ++ map sent mid) in
      let end : List SentText = records_of two.deliveries ++ (two.left ++ map sent rest) in
      record {
        deliveries = two.deliveries;
        passing = two.passing;
        left = two.left;
        is = two.is;
        stands = two.stands;
        moves =
            subst (λ (m : Memory). Moves q.clock q.shape (mark q two.passing.passed) m (held rest ++ two.passing.memory)) (sym (news-append later extra start))
            (moves_then q.clock q.shape (mark q one.passing.passed) (mark q two.passing.passed) (news later (news extra start)) (news later (held mid ++ one.passing.memory)) (held rest ++ two.passing.memory) two.rises
            (moves_news q.clock q.shape (mark q one.passing.passed) later (news extra start) (held mid ++ one.passing.memory) one.moves) two.moves);
        rises = in_turn (mark q o.passed) (mark q one.passing.passed) (mark q two.passing.passed) one.rises two.rises;
        passed = two.passed ∙ ap (λ (past : List Event). fed_with past hs) one.passed ∙ sym (fed_with-append o.passed gs hs);
        brought =
            subst (λ (ss : List SentText). IsPermutation ss end) (sym (append_assoc later extra all))
            (IsPermutation-trans (later ++ (extra ++ all)) (later ++ half) end (IsPermutation-append_right later (extra ++ all) half one.brought) two.brought);
        among = λ i there. two.among i (one.among i there);
        timed = λ time_of may h.
            two.timed time_of
            (all_weaker (MayCome time_of ds) (MayCome time_of one.deliveries) (λ s k. (k.0, λ none. k.1 (none_before (has s.identifier ds) (has s.identifier one.deliveries) (one.among s.identifier) none))) later (all-before (MayCome time_of ds) later extra may))
            (one.timed time_of (all-after (MayCome time_of ds) later extra may) h);
      }
    where
      none_before : (a b : Bool) → (a ≡ true → b ≡ true) → b ≡ false → a ≡ false
      none_before false b f h = refl
      none_before true b f h = absurd (true≢false (sym (f refl) ∙ h))

  -- nothing goes on yet, and what waits is put in another order
  pub in_order : (ds : List TextDelivery) (o : TextPassing) (doubles : List SentText) (rows others : List (Timed Numbered)) (told : ℕ) → passing_texts q ds ≡ o → Stands o doubles rows told → IsPermutation rows others → GoesOn [] ds o doubles rows others told []
  in_order ds o doubles rows others told is k order =
      let entries : IsPermutation (held rows) (held others) = IsPermutation-map entry rows others order in
      let count : (p : Entry → Bool) → count_by p (held others) ≡ count_by p (held rows) = λ p. count-permuted p (held rows) (held others) entries in
      record {
        deliveries = ds;
        passing = o;
        left = doubles;
        is = is;
        stands = record {
          once = λ i.
              let a = count-append (λ k. bytes_eq i k.0) (held rows) o.memory in
              let b = count-append (λ k. bytes_eq i k.0) (held others) o.memory in
              let n = count (λ k. bytes_eq i k.0) in
              let h = k.once i in
              omega (arith, a, b, n, h);
          theirs = all_weaker (λ s. 0 < times s.identifier (held rows)) (λ s. 0 < times s.identifier (held others)) (λ s h. let n = count (λ k. bytes_eq s.identifier k.0) in omega (arith, n, h)) doubles k.theirs;
          low = k.low;
          of_time = recursion_from_All IsRow others (All-permutation IsRow rows others order (All-from_recursion IsRow rows k.of_time));
          prompt = k.prompt;
        };
        moves = moves_held q.clock q.shape (mark q o.passed) (held rows) (held others) o.memory (moves_order q.clock q.shape (mark q o.passed) (held rows) (held others) entries);
        rises = at_most (mark q o.passed);
        passed = refl;
        brought = IsPermutation-append_right (records_of ds) (doubles ++ map sent rows) (doubles ++ map sent others) (IsPermutation-append_right doubles (map sent rows) (map sent others) (IsPermutation-map sent rows others order));
        among = λ i there. there;
        timed = λ time_of may h. record {
          came_so = h.came_so;
          left_so = h.left_so;
          wait_so = recursion_from_All (MayCome time_of ds) (map sent others) (All-permutation (MayCome time_of ds) (map sent rows) (map sent others) (IsPermutation-map sent rows others order) (All-from_recursion (MayCome time_of ds) (map sent rows) h.wait_so));
        };
      }

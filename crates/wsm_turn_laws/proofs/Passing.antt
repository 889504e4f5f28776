-- A step: a watermark, a record that comes, one that waits, one that waited with its doubles.
use Rattle.std.proofs.Common.{◌≡◌, ◌≤◌, ◌<◌, ◌+◌, ℕ, Bool, true, false, ◌&&◌, ◌||◌, not, cond, min, List, [], ◌∷◌, ◌++◌, map, ℤ, pos, ◌≤ℤ◌, Some, refl, sym, ap, subst, ◌∙◌, arith}
use Rattle.std.proofs.lemmas.Bool.{not-true}
use Rattle.std.proofs.lemmas.Int.{ints}
use Rattle.std.proofs.lemmas.List.Sorted.{IsPermutation-filter_both, IsPermutation-refl, IsPermutation-sym}
use Rattle.std.proofs.lemmas.Slice.Eq.{bytes_eq-Decides}
use Rattle.std.specs.Prelude.{IsPermutation, bytes_eq, if◌then◌else◌, unsigned_abs}
use Rattle.std.specs.List.{AllByRecursion, filter}
use Rattle.std.specs.Int.{int_max}
use Rattle.wsm_record.specs.declared.limits.TheConstants.{LATEST_TIME}
use Rattle.wsm_record.specs.Event.{Event, Watermark}
use Rattle.wsm_windows.specs.Windows.{IsShape}
use Rattle.wsm_admission.specs.Clock.{is_late, is_source, is_time, source_mark}
use Rattle.wsm_admission.proofs.SourceMarks.{watermark_rises}
use Rattle.wsm_watermarks.specs.declared.held.Timed.{Timed}
use Rattle.wsm_watermarks.proofs.KeptRows.{all_weaker}
use Rattle.wsm_semantics.specs.Query.{Query, mark}
use Rattle.wsm_semantics.proofs.Each.{all-passed, passed}
use Rattle.wsm_doubles.specs.Memory.{Memory, knows, live}
use Rattle.wsm_doubles.specs.Passing.{Comes, SentText, TextDelivery, TextPassing, Told, event_of, passes, passing_texts}
use Rattle.wsm_doubles.proofs.Forgotten.{live-live}
use Rattle.wsm_turns.specs.Numbered.{Numbered}
use Rattle.wsm_turns.specs.Turns.{mark_at}
use Rattle.wsm_turn_laws.specs.Delivered.{records_of}
use Rattle.wsm_turn_laws.proofs.Counts.{count-append, count-cons, none-of_count, one_if}
use Rattle.wsm_turn_laws.proofs.Moves.{Entry, Moves, at_most, moves_behind, moves_live, moves_not, moves_over}
use Rattle.wsm_turn_laws.proofs.Orders.{one_and_its_kind, to_front}
use Rattle.wsm_turn_laws.proofs.Standing.{GoesOn, IsRow, Stands, entry, held, not_late, sent, sent_event, sent_time, times}
use Rattle.wsm_turn_laws.proofs.Timed.{IsNoLater, has-lay, lay, timed_comes, timed_kind}

itself : (i : List ℕ) → bytes_eq i i ≡ true
itself i = (bytes_eq-Decides i i).1 refl

marked : (b : Bool) (m : ℤ) (told new latest : ℕ) → m ≤ℤ pos told → told ≤ new → (if b then int_max m (pos (min new latest)) else m) ≤ℤ pos new
marked true m told new latest h k = grind (arith, ints)
marked false m told new latest h k = omega (arith, ints)

-- one more entry of an identifier that isn't there
one_more : (i : List ℕ) (k : Entry) (memory : Memory) → times k.0 memory ≡ 0 → times i memory ≤ 1 → times i (k ∷ memory) ≤ 1
one_more i k memory none h = let is = count-cons (λ e. bytes_eq i e.0) k memory in let n = one (bytes_eq i k.0) refl in omega (arith, is, n)
  where
    one : (b : Bool) → bytes_eq i k.0 ≡ b → cond b 1 0 + times i memory ≤ 1
    one false is = omega (arith, h)
    one true is =
        let same : i ≡ k.0 = (bytes_eq-Decides i k.0).0 is in
        let n : times i memory ≡ 0 = subst (λ (j : List ℕ). times j memory ≡ 0) (sym same) none in
        omega (arith, n)

records-lay : (ss : List SentText) (ds : List TextDelivery) → records_of (lay ss ds) ≡ ss ++ records_of ds
records-lay [] ds = refl
records-lay (s ∷ ss) ds = ap (λ (us : List SentText). s ∷ us) (records-lay ss ds)

module _ (q : Query) where
  -- what passes as a record comes that isn't known
  pub comes : (s : SentText) (ds : List TextDelivery) (o : TextPassing) → passing_texts q ds ≡ o → knows s.identifier o.memory ≡ false
      → passing_texts q (Comes s ∷ ds) ≡ passes q (event_of s) ((s.identifier, s.time) ∷ o.memory) o.passed
  comes s ds o is unknown =
      ap (λ (p : TextPassing). if knows s.identifier p.memory then p else passes q (event_of s) ((s.identifier, s.time) ∷ p.memory) p.passed) is
      ∙ ap (λ (b : Bool). cond b o (passes q (event_of s) ((s.identifier, s.time) ∷ o.memory) o.passed)) unknown

  pub left_out : (s : SentText) (ds : List TextDelivery) (o : TextPassing) → passing_texts q ds ≡ o → knows s.identifier o.memory ≡ true → passing_texts q (Comes s ∷ ds) ≡ o
  left_out s ds o is known =
      ap (λ (p : TextPassing). if knows s.identifier p.memory then p else passes q (event_of s) ((s.identifier, s.time) ∷ p.memory) p.passed) is
      ∙ ap (λ (b : Bool). cond b o (passes q (event_of s) ((s.identifier, s.time) ∷ o.memory) o.passed)) known

  all_left_out : (ss : List SentText) (ds : List TextDelivery) (o : TextPassing) → passing_texts q ds ≡ o → AllByRecursion (λ s. knows s.identifier o.memory ≡ true) ss → passing_texts q (lay ss ds) ≡ o
  all_left_out [] ds o is all = is
  all_left_out (s ∷ ss) ds o is all = left_out s (lay ss ds) o (all_left_out ss ds o is all.1) all.0

  module _ (name : ℕ → List ℕ) where
    -- a watermark
    pub tells : (ds : List TextDelivery) (o : TextPassing) (doubles : List SentText) (rows : List (Timed Numbered)) (told number new : ℕ) → passing_texts q ds ≡ o → Stands q name o doubles rows told → told ≤ new
        → GoesOn q name [] ds o doubles rows rows new (record { number = number; event = mark_at new } ∷ [])
    tells ds o doubles rows told number new is k rises =
        let t : ℕ = min new (unsigned_abs LATEST_TIME) in
        let past : List Event = Watermark (Some 0) (pos t) ∷ o.passed in
        let w : ℤ = mark q past in
        let moves = moves_behind q.clock q.shape w (held q name rows) o.memory (live q.clock q.shape w o.memory) (moves_live q.clock q.shape w o.memory) in
        record {
          deliveries = Told (Some 0) (pos t) ∷ ds;
          passing = passes q (Watermark (Some 0) (pos t)) o.memory o.passed;
          left = doubles;
          is = ap (λ (p : TextPassing). passes q (Watermark (Some 0) (pos t)) p.memory p.passed) is;
          stands = record {
            once = λ i. let h = k.once i in let n = moves.less (λ e. bytes_eq i e.0) in omega (arith, h, n);
            theirs = k.theirs;
            low = marked (is_source 0 (Some 0) && is_time (pos t)) (source_mark q.clock 0 o.passed) told new (unsigned_abs LATEST_TIME) k.low rises;
            of_time = k.of_time;
            prompt = live-live q.clock q.shape w w (at_most w) o.memory;
          };
          moves = moves;
          rises = watermark_rises q.clock q.declared o.passed (Watermark (Some 0) (pos t));
          passed = refl;
          brought = IsPermutation-refl (records_of ds ++ (doubles ++ map (sent q name) rows));
          among = λ i there. there;
          timed = λ time_of may h. record { came_so = h.came_so; left_so = h.left_so; wait_so = h.wait_so };
        }

    -- a record that goes on as it comes
    pub goes_alone : (s : SentText) (g : Numbered) (ds : List TextDelivery) (o : TextPassing) (doubles : List SentText) (rows : List (Timed Numbered)) (told : ℕ) → passing_texts q ds ≡ o → Stands q name o doubles rows told
        → times s.identifier (held q name rows ++ o.memory) ≡ 0 → g.event ≡ event_of s → GoesOn q name (s ∷ []) ds o doubles rows rows told (g ∷ [])
    goes_alone s g ds o doubles rows told is k none event =
        let entry : Entry = (s.identifier, s.time) in
        let w : ℤ = mark q (event_of s ∷ o.passed) in
        let moves = moves_over q.clock q.shape w (held q name rows) o.memory entry in
        let apart = count-append (λ e. bytes_eq s.identifier e.0) (held q name rows) o.memory in
        let unknown : times s.identifier o.memory ≡ 0 = omega (arith, apart, none) in
        record {
          deliveries = Comes s ∷ ds;
          passing = passes q (event_of s) (entry ∷ o.memory) o.passed;
          left = doubles;
          is = comes s ds o is (none-of_count (λ e. bytes_eq s.identifier e.0) o.memory unknown);
          stands = record {
            once = λ i. let h = one_more i entry (held q name rows ++ o.memory) none (k.once i) in let n = moves.less (λ e. bytes_eq i e.0) in omega (arith, h, n);
            theirs = k.theirs;
            low = k.low;
            of_time = k.of_time;
            prompt = live-live q.clock q.shape w w (at_most w) (entry ∷ o.memory);
          };
          moves = moves;
          rises = watermark_rises q.clock q.declared o.passed (event_of s);
          passed = ap (λ (e : Event). e ∷ o.passed) (sym event);
          brought = IsPermutation-refl (s ∷ (records_of ds ++ (doubles ++ map (sent q name) rows)));
          among = λ i there. has-lay i (s ∷ []) ds there;
          timed = λ time_of may h. timed_comes time_of s ds doubles (map (sent q name) rows) may.0 h;
        }

    -- a record that waits as it comes
    pub waits_first : (r : Timed Numbered) (ds : List TextDelivery) (o : TextPassing) (doubles : List SentText) (rows : List (Timed Numbered)) (told : ℕ) → passing_texts q ds ≡ o → Stands q name o doubles rows told
        → times (name r.row.number) (held q name rows ++ o.memory) ≡ 0 → IsRow r → (sent q name r).time ≡ pos r.time → GoesOn q name (sent q name r ∷ []) ds o doubles rows (r ∷ rows) told []
    waits_first r ds o doubles rows told is k none row time =
        let w : ℤ = mark q o.passed in
        let all : Memory = held q name rows ++ o.memory in
        record {
          deliveries = ds;
          passing = o;
          left = doubles;
          is = is;
          stands = record {
            once = λ i. one_more i (entry q name r) all none (k.once i);
            theirs = all_weaker (λ s. 0 < times s.identifier (held q name rows)) (λ s. 0 < times s.identifier (held q name (r ∷ rows)))
                (λ s h. let n = count-cons (λ e. bytes_eq s.identifier e.0) (entry q name r) (held q name rows) in omega (arith, n, h)) doubles k.theirs;
            low = k.low;
            of_time = (row, k.of_time);
            prompt = k.prompt;
          };
          moves = subst (λ (t : ℤ). Moves q.clock q.shape w ((name r.row.number, t) ∷ all) (entry q name r ∷ all)) (sym time) (moves_not q.clock q.shape w (entry q name r ∷ all));
          rises = at_most w;
          passed = refl;
          brought = IsPermutation-sym (records_of ds ++ (doubles ++ sent q name r ∷ map (sent q name) rows)) (sent q name r ∷ (records_of ds ++ (doubles ++ map (sent q name) rows))) (to_front (records_of ds) doubles (map (sent q name) rows) (sent q name r));
          among = λ i there. there;
          timed = λ time_of may h. record { came_so = h.came_so; left_so = h.left_so; wait_so = (may.0, h.wait_so) };
        }

    -- a record that waited goes on, and behind it its doubles that came meanwhile
    pub goes_with_doubles : IsShape q.shape → pos 0 ≤ℤ q.clock.lateness → (r : Timed Numbered) (g : Numbered) (ds : List TextDelivery) (o : TextPassing) (doubles : List SentText) (rows : List (Timed Numbered)) (told : ℕ)
        → passing_texts q ds ≡ o → Stands q name o doubles (r ∷ rows) told → told ≤ r.time → g.event ≡ r.row.event → GoesOn q name [] ds o doubles (r ∷ rows) rows told (g ∷ [])
    goes_with_doubles shape lateness r g ds o doubles rows told is k behind event =
        let i : List ℕ = name r.row.number in
        let s : SentText = sent q name r in
        let row : IsRow r = k.of_time.0 in
        let time : s.time ≡ pos r.time = sent_time i r row in
        let w : ℤ = mark q (event_of s ∷ o.passed) in
        let after : Memory = live q.clock q.shape w ((i, s.time) ∷ o.memory) in
        let kind : List SentText = filter (λ d. bytes_eq d.identifier i) doubles in
        let others : List SentText = filter (λ d. not (bytes_eq d.identifier i)) doubles in
        let late : is_late q.clock q.shape w s.time ≡ false = subst (λ (t : ℤ). is_late q.clock q.shape w t ≡ false) (sym time) (not_late q shape lateness (event_of s ∷ o.passed) told r.time k.low behind) in
        let kept : after ≡ (i, s.time) ∷ live q.clock q.shape w o.memory = ap (λ (b : Bool). cond (not b) ((i, s.time) ∷ live q.clock q.shape w o.memory) (live q.clock q.shape w o.memory)) late in
        let known : (d : SentText) → bytes_eq d.identifier i ≡ true → knows d.identifier after ≡ true =
        λ d same. ap (knows d.identifier) kept ∙ ap (λ (b : Bool). b || knows d.identifier (live q.clock q.shape w o.memory)) same in
        let apart = count-append (λ e. bytes_eq i e.0) (held q name rows) o.memory in
        let first = count-cons (λ e. bytes_eq i e.0) (entry q name r) (held q name rows ++ o.memory) in
        let here : one_if (bytes_eq i i) ≡ 1 = ap one_if (itself i) in
        let once = k.once i in
        let unknown : times i o.memory ≡ 0 = omega (arith, apart, first, here, once) in
        let moves : Moves q.clock q.shape w (held q name (r ∷ rows) ++ o.memory) (held q name rows ++ after) =
        subst (λ (t : ℤ). Moves q.clock q.shape w (((i, t) ∷ held q name rows) ++ o.memory) (held q name rows ++ after)) time (moves_over q.clock q.shape w (held q name rows) o.memory (i, s.time)) in
        let passing : TextPassing = passes q (event_of s) ((i, s.time) ∷ o.memory) o.passed in
        let parted : IsPermutation doubles (kind ++ others) = IsPermutation-filter_both (λ d. bytes_eq d.identifier i) (λ d. not (bytes_eq d.identifier i)) (λ d. refl) doubles in
        record {
          deliveries = lay kind (Comes s ∷ ds);
          passing = passing;
          left = others;
          is = all_left_out kind (Comes s ∷ ds) passing (comes s ds o is (none-of_count (λ e. bytes_eq i e.0) o.memory unknown))
              (all_weaker (λ d. bytes_eq d.identifier i ≡ true) (λ d. knows d.identifier after ≡ true) known kind (passed (λ d. bytes_eq d.identifier i) doubles));
          stands = record {
            once = λ j. let h = k.once j in let n = moves.less (λ e. bytes_eq j e.0) in omega (arith, h, n);
            theirs = all-passed (λ d. 0 < times d.identifier (held q name (r ∷ rows))) (λ d. 0 < times d.identifier (held q name rows)) (λ d. not (bytes_eq d.identifier i))
                (λ d h other. still d.identifier h (not-true (bytes_eq d.identifier i) other)) doubles k.theirs;
            low = k.low;
            of_time = k.of_time.1;
            prompt = live-live q.clock q.shape w w (at_most w) ((i, s.time) ∷ o.memory);
          };
          moves = moves;
          rises = watermark_rises q.clock q.declared o.passed (event_of s);
          passed = ap (λ (e : Event). e ∷ o.passed) (sent_event i r.row.event row.key (pos r.time) row.values row.is ∙ sym event);
          brought = subst (λ (ss : List SentText). IsPermutation (records_of ds ++ (doubles ++ map (sent q name) (r ∷ rows))) (ss ++ (others ++ map (sent q name) rows))) (sym (records-lay kind (Comes s ∷ ds)))
              (one_and_its_kind (records_of ds) doubles kind others (map (sent q name) rows) s parted);
          among = λ j there. has-lay j kind (Comes s ∷ ds) (has-lay j (s ∷ []) ds there);
          timed = λ time_of may h.
              timed_kind time_of s ds kind others doubles (map (sent q name) rows)
              (all-passed (IsNoLater time_of) (IsNoLater time_of) (λ d. bytes_eq d.identifier i) (λ d k _. k) doubles h.left_so)
              (all-passed (IsNoLater time_of) (IsNoLater time_of) (λ d. not (bytes_eq d.identifier i)) (λ d k _. k) doubles h.left_so)
              (all_weaker (λ d. bytes_eq d.identifier i ≡ true) (λ d. d.identifier ≡ i) (λ d. (bytes_eq-Decides d.identifier i).0) kind (passed (λ d. bytes_eq d.identifier i) doubles)) h;
        }
      where
        still : (j : List ℕ) → 0 < times j (held q name (r ∷ rows)) → bytes_eq j (name r.row.number) ≡ false → 0 < times j (held q name rows)
        still j h other =
            let n = count-cons (λ e. bytes_eq j e.0) (entry q name r) (held q name rows) in
            let none : one_if (bytes_eq j (name r.row.number)) ≡ 0 = ap one_if other in
            omega (arith, n, none, h)

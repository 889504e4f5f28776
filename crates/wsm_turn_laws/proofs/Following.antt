-- What is kept of lines, beside what passes of deliveries.
use Rattle.std.proofs.Common.{◌≡◌, ◌≤◌, ◌<◌, ◌+◌, ℕ, zero, suc, Bool, true, false, ◌&&◌, not, cond, List, [], ◌∷◌, ◌++◌, map, ℤ, pos, ◌≤ℤ◌, Option, Some, None, refl, sym, ap, subst, ◌∙◌, arith}
use Rattle.std.proofs.Math.Bool.{and-false}
use Rattle.std.proofs.lemmas.Bool.{true≢false}
use Rattle.std.proofs.lemmas.Bool.Decides.{nat_tests}
use Rattle.std.proofs.lemmas.List.Elements.{filter-append}
use Rattle.std.proofs.lemmas.List.Sorted.{IsPermutation-append_right, IsPermutation-cons, IsPermutation-middle, IsPermutation-sym, IsPermutation-trans}
use Rattle.std.proofs.lemmas.Slice.Eq.{bytes_eq-Decides}
use Rattle.std.specs.Prelude.{IsPermutation, bytes_eq, nat_eq}
use Rattle.std.specs.List.{AllByRecursion, count_by}
use Rattle.wsm_record.specs.Event.{Event}
use Rattle.wsm_windows.specs.declared.window.Shape.{Shape}
use Rattle.wsm_windows.specs.Windows.{IsShape}
use Rattle.wsm_admission.specs.declared.clock.Clock.{Clock}
use Rattle.wsm_watermarks.specs.declared.rule.Rule.{Rule}
use Rattle.wsm_watermarks.specs.declared.held.Timed.{Timed}
use Rattle.wsm_watermarks.specs.declared.stamp.Stamp.{Stamp}
use Rattle.wsm_watermarks.specs.Agreement.{mark_after}
use Rattle.wsm_watermarks.specs.Held.{AreByTime}
use Rattle.wsm_watermarks.proofs.KeptRows.{all_weaker}
use Rattle.wsm_semantics.specs.Query.{Query, mark}
use Rattle.wsm_doubles.specs.Memory.{Memory, knows, live, may_count}
use Rattle.wsm_semantics.specs.Deliveries.{AreTimed}
use Rattle.wsm_semantics.proofs.Each.{all-append, each_fails, same_key}
use Rattle.wsm_doubles.specs.Passing.{Comes, SentText, TextDelivery, TextPassing, number_of, numbered_delivery, passing_texts}
use Rattle.wsm_turns.specs.Numbered.{Numbered}
use Rattle.wsm_turns.specs.Turns.{Kept, fed_with, is_double, noted}
use Rattle.wsm_turn_laws.specs.Delivered.{identifier_by, records_of}
use Rattle.wsm_turn_laws.proofs.Counts.{count-append, count-cons, count-each, count-filter, none-counted, none-of_count, some-counted}
use Rattle.wsm_turn_laws.proofs.Moves.{Entry, Moves, at_most}
use Rattle.wsm_turn_laws.proofs.Passing.{left_out}
use Rattle.wsm_turn_laws.proofs.Standing.{GoesOn, Stands, entry, held, news, not_late, sent, times}
use Rattle.wsm_turn_laws.proofs.Timed.{MayCome, StaysTimed, as_deliveries, none_came, timed_comes}

abbrev Row : Type 0
Row = Timed Numbered

-- ---- identifiers of records, among those that lines have for their own

untag_by : (Entry → Bool) → List ℕ → ℤ → Bool
untag_by p [] t = false
untag_by p (zero ∷ i) t = p (i, t)
untag_by p (suc n ∷ i) t = false

-- a test of those of records
pub untag : (Entry → Bool) → Entry → Bool
untag p k = untag_by p k.0 k.1

counts_untagged : (c : Clock) (shape : Shape) (at : ℤ) (p : Entry → Bool) (k : Entry) → untag (λ e. may_count c shape at e && p e) k ≡ (may_count c shape at k && untag p k)
unfolding untag untag_by
counts_untagged c shape at p k = one k.0 k.1
  where
    one : (i : List ℕ) (t : ℤ) → untag_by (λ e. may_count c shape at e && p e) i t ≡ (may_count c shape at (i, t) && untag_by p i t)
    one [] t = sym (and-false (may_count c shape at ([], t)))
    one (zero ∷ i) t = refl
    one (suc n ∷ i) t = sym (and-false (may_count c shape at (suc n ∷ i, t)))

named : (i : List ℕ) (k : Entry) → untag (λ e. bytes_eq i e.0) k ≡ bytes_eq (0 ∷ i) k.0
unfolding untag untag_by
named i k = one k.0
  where
    one : (j : List ℕ) → untag_by (λ e. bytes_eq i e.0) j k.1 ≡ bytes_eq (0 ∷ i) j
    one [] = refl
    one (zero ∷ j) = refl
    one (suc n ∷ j) = sym (ap (λ (b : Bool). b && bytes_eq i j) (less n))
      where
        less : (n : ℕ) → nat_eq 0 (suc n) ≡ false
        less n = grind (arith, nat_tests)

-- what is kept of a record that passes, beside its delivery
pub kept_noted : (identifier : Option (List ℕ)) (number : ℕ) (stamp : Stamp) (time : ℕ) (kept all : Memory) → ((p : Entry → Bool) → count_by p kept ≡ count_by (untag p) all)
    → (p : Entry → Bool) → count_by p (noted identifier time kept) ≡ count_by (untag p) ((identifier_by number (Some stamp) identifier, pos time) ∷ all)
unfolding untag untag_by
kept_noted None number stamp time kept all same p = let n = count-cons (untag p) (1 ∷ number ∷ [], pos time) all in let h = same p in omega (arith, n, h)
kept_noted (Some i) number stamp time kept all same p =
    count-cons p (i, pos time) kept ∙ ap (λ (n : ℕ). cond (p (i, pos time)) 1 0 + n) (same p) ∙ sym (count-cons (untag p) (0 ∷ i, pos time) all)

-- a line's own identifier isn't kept
pub kept_own : (number : ℕ) (t : ℤ) (kept all : Memory) → ((p : Entry → Bool) → count_by p kept ≡ count_by (untag p) all) → (p : Entry → Bool) → count_by p kept ≡ count_by (untag p) ((1 ∷ number ∷ [], t) ∷ all)
unfolding untag untag_by
kept_own number t kept all same p = let n = count-cons (untag p) (1 ∷ number ∷ [], t) all in let h = same p in omega (arith, n, h)

-- one that isn't kept isn't there
pub not_there : (identifier : Option (List ℕ)) (number : ℕ) (stamp : Stamp) (kept all : Memory) → ((p : Entry → Bool) → count_by p kept ≡ count_by (untag p) all) → times (1 ∷ number ∷ []) all ≡ 0
    → is_double identifier kept ≡ false → times (identifier_by number (Some stamp) identifier) all ≡ 0
not_there None number stamp kept all same own h = own
not_there (Some i) number stamp kept all same own h =
    sym (count-each (untag (λ e. bytes_eq i e.0)) (λ e. bytes_eq (0 ∷ i) e.0) (named i) all) ∙ sym (same (λ e. bytes_eq i e.0)) ∙ none-counted (λ e. bytes_eq i e.0) kept h

pub is_there : (identifier : Option (List ℕ)) (number : ℕ) (stamp : Stamp) (kept all : Memory) → ((p : Entry → Bool) → count_by p kept ≡ count_by (untag p) all)
    → is_double identifier kept ≡ true → 0 < times (identifier_by number (Some stamp) identifier) all
is_there None number stamp kept all same h = absurd (true≢false (sym h))
is_there (Some i) number stamp kept all same h =
    let some = some-counted (λ e. bytes_eq i e.0) kept h in
    let n = same (λ e. bytes_eq i e.0) in
    let m = count-each (untag (λ e. bytes_eq i e.0)) (λ e. bytes_eq (0 ∷ i) e.0) (named i) all in
    omega (arith, some, n, m)

-- what is left of it at a watermark
kept_live : (c : Clock) (shape : Shape) (at : ℤ) (kept all now : Memory) → ((p : Entry → Bool) → count_by p kept ≡ count_by (untag p) all) → Moves c shape at all now → live c shape at now ≡ now
    → (p : Entry → Bool) → count_by p (live c shape at kept) ≡ count_by (untag p) now
kept_live c shape at kept all now same moves lives p =
    count-filter p (may_count c shape at) kept
    ∙ same (λ e. may_count c shape at e && p e)
    ∙ count-each (untag (λ e. may_count c shape at e && p e)) (λ e. may_count c shape at e && untag p e) (counts_untagged c shape at p) all
    ∙ sym (count-filter (untag p) (may_count c shape at) all)
    ∙ sym (moves.same at (at_most at) (untag p))
    ∙ ap (λ (m : Memory). count_by (untag p) m) lives

-- each text has a number of its own
abbrev pub OwnNumbers : Type 0
OwnNumbers = (x y : List ℕ) → number_of x ≡ number_of y → x ≡ y

other_number : OwnNumbers → (i j : List ℕ) → bytes_eq i j ≡ false → nat_eq (number_of j) (number_of i) ≡ false
other_number own i j other = one (nat_eq (number_of j) (number_of i)) refl
  where
    one : (b : Bool) → nat_eq (number_of j) (number_of i) ≡ b → b ≡ false
    one false is = refl
    one true is = absurd (true≢false (sym ((bytes_eq-Decides i j).1 (sym (own j i (same_key (number_of j) (number_of i) is)))) ∙ other))

-- ---- after some lines

module _ (q : Query) (name : ℕ → List ℕ) (rule : Rule) where
  -- so many lines delivered these records
  pub record Follows (count : ℕ) (records : List SentText) (k : Kept) : Type 0 where
    pub deliveries : List TextDelivery
    pub passing : TextPassing
    pub doubles : List SentText
    pub is : passing_texts q deliveries ≡ passing
    pub fed : passing.passed ≡ k.fed
    pub stands : Stands q name passing doubles k.waits k.told
    pub same : (p : Entry → Bool) → count_by p k.memory ≡ count_by (untag p) (held q name k.waits ++ passing.memory)
    pub own : (n : ℕ) → count < n → times (1 ∷ n ∷ []) (held q name k.waits ++ passing.memory) ≡ 0
    pub sorted : AreByTime k.waits
    pub ahead : AllByRecursion (λ r. k.told ≤ r.time) k.waits
    pub told : k.told ≡ mark_after rule k.stamps
    pub brought : IsPermutation records (records_of deliveries ++ (doubles ++ map (sent q name) k.waits))
    pub timed : (time_of : ℕ → ℤ) → AreTimed time_of (map numbered_delivery (as_deliveries records)) → StaysTimed time_of deliveries doubles (map (sent q name) k.waits)

  -- one that doesn't wait and isn't among the deliveries is the first
  pub may_come : OwnNumbers → (count : ℕ) (records : List SentText) (k : Kept) (s : SentText) (h : Follows count records k) → times s.identifier (held q name k.waits) ≡ 0
      → (time_of : ℕ → ℤ) → AreTimed time_of (map numbered_delivery (as_deliveries (s ∷ records))) → MayCome time_of h.deliveries s
  may_come own count records k s h none time_of timed = (
    timed.0,
    (λ off. timed.1 (none_came s.identifier records h.deliveries h.doubles (map (sent q name) k.waits) h.brought
        (all-append (λ d. nat_eq (number_of d.identifier) (number_of s.identifier) ≡ false) h.doubles (map (sent q name) k.waits)
        (all_weaker (λ d. 0 < times d.identifier (held q name k.waits)) (λ d. nat_eq (number_of d.identifier) (number_of s.identifier) ≡ false) (λ d there. apart d there (bytes_eq s.identifier d.identifier) refl) h.doubles h.stands.theirs)
        (others k.waits (each_fails (λ e. bytes_eq s.identifier e.0) (held q name k.waits) (none-of_count (λ e. bytes_eq s.identifier e.0) (held q name k.waits) none)))) off)),
  )
    where
      apart : (d : SentText) → 0 < times d.identifier (held q name k.waits) → (b : Bool) → bytes_eq s.identifier d.identifier ≡ b → nat_eq (number_of d.identifier) (number_of s.identifier) ≡ false
      apart d there false is = other_number own s.identifier d.identifier is
      apart d there true is =
          let same : s.identifier ≡ d.identifier = (bytes_eq-Decides s.identifier d.identifier).0 is in
          let nowhere : times d.identifier (held q name k.waits) ≡ 0 = subst (λ (i : List ℕ). times i (held q name k.waits) ≡ 0) same none in
          absurd (omega (arith, there, nowhere))

      others : (rows : List (Row)) → AllByRecursion (λ e. bytes_eq s.identifier e.0 ≡ false) (held q name rows) → AllByRecursion (λ d. nat_eq (number_of d.identifier) (number_of s.identifier) ≡ false) (map (sent q name) rows)
      others [] all = tt
      others (r ∷ rows) all = (other_number own s.identifier (name r.row.number) all.0, others rows all.1)

  -- those that wait aren't late
  stays_live : IsShape q.shape → pos 0 ≤ℤ q.clock.lateness → (o : TextPassing) (doubles : List SentText) (rows : List Row) (told : ℕ) → Stands q name o doubles rows told → AllByRecursion (λ r. told ≤ r.time) rows
      → live q.clock q.shape (mark q o.passed) (held q name rows ++ o.memory) ≡ held q name rows ++ o.memory
  stays_live shape lateness o doubles rows told k ahead =
      filter-append (may_count q.clock q.shape (mark q o.passed)) (held q name rows) o.memory ∙ (λ j. all rows ahead j ++ k.prompt j)
    where
      all : (rows : List Row) → AllByRecursion (λ r. told ≤ r.time) rows → live q.clock q.shape (mark q o.passed) (held q name rows) ≡ held q name rows
      all [] ahead = refl
      all (r ∷ rows) ahead =
          ap (λ (b : Bool). cond (not b) (entry q name r ∷ live q.clock q.shape (mark q o.passed) (held q name rows)) (live q.clock q.shape (mark q o.passed) (held q name rows)))
          (not_late q shape lateness o.passed told r.time k.low ahead.0)
          ∙ ap (λ (m : Memory). entry q name r ∷ m) (all rows ahead.1)

  -- a line more, by which these go on
  pub follows_on : IsShape q.shape → pos 0 ≤ℤ q.clock.lateness → (count : ℕ) (records : List SentText) (k new : Kept) (extra : List SentText) (gs : List Numbered) (kept : Memory)
      → (h : Follows count records k) → GoesOn q name extra h.deliveries h.passing h.doubles k.waits new.waits new.told gs
      → ((p : Entry → Bool) → count_by p kept ≡ count_by (untag p) (news extra (held q name k.waits ++ h.passing.memory)))
      → ((n : ℕ) → count + 1 < n → times (1 ∷ n ∷ []) (news extra (held q name k.waits ++ h.passing.memory)) ≡ 0)
      → new.fed ≡ fed_with k.fed gs → new.memory ≡ live q.clock q.shape (mark q (fed_with k.fed gs)) kept
      → AreByTime new.waits → AllByRecursion (λ r. new.told ≤ r.time) new.waits → new.told ≡ mark_after rule new.stamps
      → ((time_of : ℕ → ℤ) → AreTimed time_of (map numbered_delivery (as_deliveries (extra ++ records))) → AllByRecursion (MayCome time_of h.deliveries) extra × AreTimed time_of (map numbered_delivery (as_deliveries records)))
      → Follows (count + 1) (extra ++ records) new
  follows_on shape lateness count records k new extra gs kept h g same own fed memory sorted ahead told may =
      let past : g.passing.passed ≡ fed_with k.fed gs = g.passed ∙ ap (λ (es : List Event). fed_with es gs) h.fed in
      let now : Memory = held q name new.waits ++ g.passing.memory in
      let before : List SentText = records_of h.deliveries ++ (h.doubles ++ map (sent q name) k.waits) in
      let after : List SentText = records_of g.deliveries ++ (g.left ++ map (sent q name) new.waits) in
      record {
        deliveries = g.deliveries;
        passing = g.passing;
        doubles = g.left;
        is = g.is;
        fed = past ∙ sym fed;
        stands = g.stands;
        same = λ p. ap (λ (m : Memory). count_by p m) memory ∙ ap (λ (es : List Event). count_by p (live q.clock q.shape (mark q es) kept)) (sym past)
            ∙ kept_live q.clock q.shape (mark q g.passing.passed) kept (news extra (held q name k.waits ++ h.passing.memory)) now same g.moves (stays_live shape lateness g.passing g.left new.waits new.told g.stands ahead) p;
        own = λ n more. let none = own n more in let fewer = g.moves.less (λ e. bytes_eq (1 ∷ n ∷ []) e.0) in omega (arith, none, fewer);
        sorted = sorted;
        ahead = ahead;
        told = told;
        brought = IsPermutation-trans (extra ++ records) (extra ++ before) after (IsPermutation-append_right extra records before h.brought) g.brought;
        timed = λ time_of timed. let (first, rest) = may time_of timed in g.timed time_of first (h.timed time_of rest);
      }

  -- a line that changes nothing
  pub follows_still : (count : ℕ) (records : List SentText) (k : Kept) → Follows count records k → Follows (count + 1) records k
  follows_still count records k h = record {
    deliveries = h.deliveries;
    passing = h.passing;
    doubles = h.doubles;
    is = h.is;
    fed = h.fed;
    stands = h.stands;
    same = h.same;
    own = λ n more. h.own n (omega (arith, more));
    sorted = h.sorted;
    ahead = h.ahead;
    told = h.told;
    brought = h.brought;
    timed = h.timed;
  }

  -- a double, of a record that passed or of one that waits
  pub follows_double : OwnNumbers → (count : ℕ) (records : List SentText) (k : Kept) (s : SentText) (h : Follows count records k) → 0 < times s.identifier (held q name k.waits ++ h.passing.memory) → Follows (count + 1) (s ∷ records) k
  follows_double own count records k s h there = either (knows s.identifier h.passing.memory) refl
    where
      either : (b : Bool) → knows s.identifier h.passing.memory ≡ b → Follows (count + 1) (s ∷ records) k
      either true known =
          let once = h.stands.once s.identifier in
          let apart = count-append (λ e. bytes_eq s.identifier e.0) (held q name k.waits) h.passing.memory in
          let some = some-counted (λ e. bytes_eq s.identifier e.0) h.passing.memory known in
          let none : times s.identifier (held q name k.waits) ≡ 0 = omega (arith, once, apart, some) in
          record {
            deliveries = Comes s ∷ h.deliveries;
            passing = h.passing;
            doubles = h.doubles;
            is = left_out q s h.deliveries h.passing h.is known;
            fed = h.fed;
            stands = h.stands;
            same = h.same;
            own = λ n more. h.own n (omega (arith, more));
            sorted = h.sorted;
            ahead = h.ahead;
            told = h.told;
            brought = IsPermutation-cons s records (records_of h.deliveries ++ (h.doubles ++ map (sent q name) k.waits)) h.brought;
            timed = λ time_of timed. timed_comes time_of s h.deliveries h.doubles (map (sent q name) k.waits) (may_come own count records k s h none time_of timed) (h.timed time_of timed.2);
          }
      either false unknown =
          let apart = count-append (λ e. bytes_eq s.identifier e.0) (held q name k.waits) h.passing.memory in
          let none = none-counted (λ e. bytes_eq s.identifier e.0) h.passing.memory unknown in
          let all : List SentText = records_of h.deliveries ++ (h.doubles ++ map (sent q name) k.waits) in
          record {
            deliveries = h.deliveries;
            passing = h.passing;
            doubles = s ∷ h.doubles;
            is = h.is;
            fed = h.fed;
            stands = record { once = h.stands.once; theirs = (omega (arith, apart, none, there), h.stands.theirs); low = h.stands.low; of_time = h.stands.of_time; prompt = h.stands.prompt };
            same = h.same;
            own = λ n more. h.own n (omega (arith, more));
            sorted = h.sorted;
            ahead = h.ahead;
            told = h.told;
            brought =
                IsPermutation-trans (s ∷ records) (s ∷ all) (records_of h.deliveries ++ ((s ∷ h.doubles) ++ map (sent q name) k.waits)) (IsPermutation-cons s records all h.brought)
                (IsPermutation-sym (records_of h.deliveries ++ (s ∷ (h.doubles ++ map (sent q name) k.waits))) (s ∷ all) (IsPermutation-middle (records_of h.deliveries) s (h.doubles ++ map (sent q name) k.waits)));
            timed = λ time_of timed. let was = h.timed time_of timed.2 in record { came_so = was.came_so; left_so = (timed.0, was.left_so); wait_so = was.wait_so };
          }

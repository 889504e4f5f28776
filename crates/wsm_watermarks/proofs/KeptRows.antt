-- Rows that wait: none is lost, and each goes in time.
use Rattle.std.proofs.Common.{take, drop, length-take, ◌≡◌, ◌≤◌, ◌<◌, ◌+◌, ◌-◌, ℕ, zero, suc, max, min, Bool, true, false, not, cond, List, [], ◌∷◌, ◌++◌, length, Some, refl, sym, ap, subst, ◌∙◌, arith}
use Rattle.std.proofs.lemmas.Bool.{leb-true, leb-false, lt-leb, ltb-true, ltb-false, not-true}
use Rattle.std.proofs.lemmas.List.{append-nil, append_assoc}
use Rattle.std.proofs.lemmas.List.Sorted.{IsPermutation-refl, IsPermutation-sym, IsPermutation-trans, IsPermutation-append_comm, IsPermutation-append_right, IsPermutation-insert, IsPermutation-middle, IsPermutation-push_more}
use Rattle.std.specs.Prelude.{IsPermutation, nat_le, nat_lt, ◌*◌, ◌/◌}
use Rattle.std.specs.List.{AllByRecursion, insert}
use Rattle.wsm_watermarks.specs.declared.held.Timed.{Timed}
use Rattle.wsm_watermarks.specs.declared.rule.Rule.{Rule}
use Rattle.wsm_watermarks.specs.Agreement.{behind}
use Rattle.wsm_watermarks.specs.Held.{AreByTime, AreInTime, AreRising, Both, Coming, Done, IsPartOf, Item, KeepsRows, Left, Mark, Passed, WaitsInTime, Went, all_passed, came, comings, is_far, is_near, last_mark, left, let_go, mark_for, mark_item, passed, queued, rows_of, span_of, stamped, went, went_on}
use Rattle.wsm_watermarks.proofs.Marks.{behind_stays, from_start, mark_rises}

module _ {X : Type 0} where
  -- ---- parts of a list

  part_none : (xs : List X) → IsPartOf [] xs
  part_none [] = Done
  part_none (x ∷ xs) = Left x [] xs (part_none xs)

  part_all : (xs : List X) → IsPartOf xs xs
  part_all [] = Done
  part_all (x ∷ xs) = Both x xs xs (part_all xs)

  part_append : {xs ys : List X} (us vs : List X) → IsPartOf xs ys → IsPartOf us vs → IsPartOf (xs ++ us) (ys ++ vs)
  part_append us vs Done k = k
  part_append us vs (Both x xs ys h) k = Both x (xs ++ us) (ys ++ vs) (part_append us vs h k)
  part_append us vs (Left x xs ys h) k = Left x (xs ++ us) (ys ++ vs) (part_append us vs h k)

  part_more : (xs ys zs : List X) → IsPartOf xs ys → IsPartOf xs (ys ++ zs)
  part_more xs ys zs h = subst (λ (us : List X). IsPartOf us (ys ++ zs)) (append-nil xs) (part_append [] zs h (part_none zs))

  -- ---- one list in another order

  -- one more goes, in front of those that wait
  one_out : (all new held : List X) (x : X) → IsPermutation all (new ++ held) → IsPermutation (all ++ x ∷ []) ((new ++ x ∷ []) ++ held)
  one_out all new held x h =
      let front : IsPermutation (x ∷ (new ++ held)) (new ++ x ∷ held) = IsPermutation-sym (new ++ x ∷ held) (x ∷ (new ++ held)) (IsPermutation-middle new x held) in
      let same : (new ++ x ∷ []) ++ held ≡ new ++ x ∷ held = append_assoc new (x ∷ []) held in
      subst (λ (zs : List X). IsPermutation (all ++ x ∷ []) zs) (sym same) (IsPermutation-push_more all (new ++ held) (new ++ x ∷ held) x h front)

  -- one more waits, anywhere
  one_in : (all new held more : List X) (x : X) → IsPermutation all (new ++ held) → IsPermutation (x ∷ held) more → IsPermutation (all ++ x ∷ []) (new ++ more)
  one_in all new held more x h k =
      let front : IsPermutation (x ∷ (new ++ held)) (new ++ x ∷ held) = IsPermutation-sym (new ++ x ∷ held) (x ∷ (new ++ held)) (IsPermutation-middle new x held) in
      IsPermutation-push_more all (new ++ held) (new ++ more) x h (IsPermutation-trans (x ∷ (new ++ held)) (new ++ x ∷ held) (new ++ more) front (IsPermutation-append_right new (x ∷ held) more k))

  -- the end of those that wait goes
  cut_off : (n : ℕ) (all new queue : List X) → IsPermutation all (new ++ queue) → IsPermutation all ((new ++ drop n queue) ++ take n queue)
  cut_off n all new queue h =
      let swapped : IsPermutation (take n queue ++ drop n queue) (drop n queue ++ take n queue) = IsPermutation-append_comm (take n queue) (drop n queue) in
      let turned : IsPermutation queue (drop n queue ++ take n queue) = subst (λ (zs : List X). IsPermutation zs (drop n queue ++ take n queue)) (joined n queue) swapped in
      subst (λ (zs : List X). IsPermutation all zs) (sym (append_assoc new (drop n queue) (take n queue)))
      (IsPermutation-trans all (new ++ queue) (new ++ (drop n queue ++ take n queue)) h (IsPermutation-append_right new queue (drop n queue ++ take n queue) turned))
    where
      joined : (n : ℕ) (xs : List X) → take n xs ++ drop n xs ≡ xs
      joined zero xs = refl
      joined (suc n) [] = refl
      joined (suc n) (x ∷ xs) = ap (λ (zs : List X). x ∷ zs) (joined n xs)

  all_take : (P : X → Type 0) (n : ℕ) (xs : List X) → AllByRecursion P xs → AllByRecursion P (take n xs)
  all_take P zero xs all = tt
  all_take P (suc n) [] all = tt
  all_take P (suc n) (x ∷ xs) all = (all.0, all_take P n xs all.1)

  pub all_weaker : (P Q : X → Type 0) → ((x : X) → P x → Q x) → (xs : List X) → AllByRecursion P xs → AllByRecursion Q xs
  all_weaker P Q f [] all = tt
  all_weaker P Q f (x ∷ xs) all = (f x all.0, all_weaker P Q f xs all.1)

-- ---- the watermark in front of a row that waited

module _ (rule : Rule) (ahead top : ℕ) where
  pub mark_goes_on : (mark time : ℕ) → mark ≤ mark_for rule top mark time
  mark_goes_on mark time = first mark (min top (behind rule (Some time)))
    where
      first : (a b : ℕ) → a ≤ max a b
      first a b = grind arith

  mark_low : (mark time : ℕ) → mark ≤ time → mark_for rule top mark time ≤ time
  mark_low mark time le = both mark top (behind rule (Some time)) time le (behind_stays rule time time (omega arith))
    where
      both : (a top b time : ℕ) → a ≤ time → b ≤ time → max a (min top b) ≤ time
      both a top b time h k = grind arith

  mark_to : (mark time : ℕ) → mark ≤ top → mark_for rule top mark time ≤ top
  mark_to mark time le = both mark (behind rule (Some time)) le
    where
      both : (a b : ℕ) → a ≤ top → max a (min top b) ≤ top
      both a b h = grind arith

  -- a row that may pass is near to the watermark in front of it
  near_mark : 0 < rule.step → (mark time : ℕ) → time ≤ top + ahead → time ≤ mark_for rule top mark time + span_of rule ahead
  near_mark some mark time le = all mark (behind rule (Some time)) (far_behind (time - rule.bound) rule.step some)
    where
      far_behind : (n k : ℕ) → 0 < k → n < n / k * k + k
      far_behind n k h = omega arith

      all : (m b : ℕ) → time - rule.bound < b + rule.step → time ≤ max m (min top b) + max ahead (rule.bound + rule.step - 1)
      all m b h = grind arith

module _ {T : Type 0} where
  -- ---- rows by time

  queued_is : (r : Timed T) (qs : List (Timed T)) → (i : ℕ) × (i ≤ length qs) × (queued r qs ≡ insert qs i r)
  queued_is r [] = (0, omega arith, refl)
  queued_is r (q ∷ qs) = one (nat_lt r.time q.time) (queued_is r qs)
    where
      one : (b : Bool) → (i : ℕ) × (i ≤ length qs) × (queued r qs ≡ insert qs i r) → (i : ℕ) × (i ≤ suc (length qs)) × (cond b (r ∷ q ∷ qs) (q ∷ queued r qs) ≡ insert (q ∷ qs) i r)
      one true rest = (0, omega arith, refl)
      one false rest = (suc rest.0, omega (arith, rest.1), ap (λ (zs : List (Timed T)). q ∷ zs) rest.2)

  pub queued_permuted : (r : Timed T) (qs : List (Timed T)) → IsPermutation (r ∷ qs) (queued r qs)
  queued_permuted r qs = let is = queued_is r qs in subst (λ (zs : List (Timed T)). IsPermutation (r ∷ qs) zs) (sym is.2) (IsPermutation-insert qs is.0 r)

  module _ (P : Timed T → Type 0) where
    pub all_queued : (r : Timed T) (qs : List (Timed T)) → P r → AllByRecursion P qs → AllByRecursion P (queued r qs)
    all_queued r [] p all = (p, tt)
    all_queued r (q ∷ qs) p all = one (nat_lt r.time q.time) (all_queued r qs p all.1)
      where
        one : (b : Bool) → AllByRecursion P (queued r qs) → AllByRecursion P (cond b (r ∷ q ∷ qs) (q ∷ queued r qs))
        one true rest = (p, all)
        one false rest = (all.0, rest)

  pub by_time_queued : (r : Timed T) (qs : List (Timed T)) → AreByTime qs → AreByTime (queued r qs)
  by_time_queued r [] sorted = (tt, tt)
  by_time_queued r (q ∷ qs) sorted = one (nat_lt r.time q.time) refl (by_time_queued r qs sorted.1)
    where
      one : (b : Bool) → nat_lt r.time q.time ≡ b → AreByTime (queued r qs) → AreByTime (cond b (r ∷ q ∷ qs) (q ∷ queued r qs))
      one true is rest =
          let less = ltb-true r.time q.time is in
          ((omega (arith, less), all_weaker (λ p. q.time ≤ p.time) (λ p. r.time ≤ p.time) (λ p h. omega (arith, h, less)) qs sorted.0), sorted)
      one false is rest =
          let least = ltb-false r.time q.time is in
          (all_queued (λ p. q.time ≤ p.time) r qs least sorted.0, rest)

  by_time_left : (limit : ℕ) (qs : List (Timed T)) → AreByTime qs → AreByTime (left limit qs)
  by_time_left limit [] sorted = tt
  by_time_left limit (q ∷ qs) sorted = one (is_near limit q) (by_time_left limit qs sorted.1)
    where
      one : (b : Bool) → AreByTime (left limit qs) → AreByTime (cond b (left limit qs) (q ∷ qs))
      one true rest = rest
      one false rest = sorted

  pub by_time_take : (n : ℕ) (qs : List (Timed T)) → AreByTime qs → AreByTime (take n qs)
  by_time_take zero qs sorted = tt
  by_time_take (suc n) [] sorted = tt
  by_time_take (suc n) (q ∷ qs) sorted = (all_take (λ p. q.time ≤ p.time) n qs sorted.0, by_time_take n qs sorted.1)

  few_left : (limit : ℕ) (qs : List (Timed T)) → length (left limit qs) ≤ length qs
  few_left limit [] = omega arith
  few_left limit (q ∷ qs) = one (is_near limit q) (few_left limit qs)
    where
      one : (b : Bool) → length (left limit qs) ≤ length qs → length (cond b (left limit qs) (q ∷ qs)) ≤ suc (length qs)
      one true rest = omega (arith, rest)
      one false rest = omega arith

  -- where the first is far all are
  pub all_far : (limit : ℕ) (r : Timed T) (rs : List (Timed T)) → is_near limit r ≡ false → AllByRecursion (λ q. r.time ≤ q.time) rs → AllByRecursion (λ q. is_far limit q ≡ true) rs
  all_far limit r rs far all = all_weaker (λ q. r.time ≤ q.time) (λ q. is_far limit q ≡ true) (λ q h. later q h) rs all
    where
      beyond : (a b limit : ℕ) → limit < a → a ≤ b → nat_le b limit ≡ false
      beyond a b limit h k = lt-leb b limit (omega (arith, h, k))

      later : (q : Timed T) → r.time ≤ q.time → is_far limit q ≡ true
      later q h = ap not (beyond r.time q.time limit (leb-false r.time limit far) h)

  pub left_far : (limit : ℕ) (qs : List (Timed T)) → AreByTime qs → AllByRecursion (λ q. is_far limit q ≡ true) (left limit qs)
  left_far limit [] sorted = tt
  left_far limit (q ∷ qs) sorted = one (is_near limit q) refl (left_far limit qs sorted.1)
    where
      one : (b : Bool) → is_near limit q ≡ b → AllByRecursion (λ q. is_far limit q ≡ true) (left limit qs) → AllByRecursion (λ q. is_far limit q ≡ true) (cond b (left limit qs) (q ∷ qs))
      one true is rest = rest
      one false is rest = (ap not is, all_far limit q qs is sorted.0)

  -- ---- what goes

  pub rows_append : (xs ys : List (Item T)) → rows_of (xs ++ ys) ≡ rows_of xs ++ rows_of ys
  rows_append [] ys = refl
  rows_append (Mark m ∷ xs) ys = rows_append xs ys
  rows_append (Passed r ∷ xs) ys = ap (λ (zs : List (Timed T)). r ∷ zs) (rows_append xs ys)

  pub rows_all : (rs : List (Timed T)) → rows_of (all_passed rs) ≡ rs
  rows_all [] = refl
  rows_all (r ∷ rs) = ap (λ (zs : List (Timed T)). r ∷ zs) (rows_all rs)

  no_row : (old new : ℕ) (items : List (Item T)) → rows_of (mark_item old new ++ items) ≡ rows_of items
  no_row old new items = one (nat_lt old new)
    where
      one : (b : Bool) → rows_of (cond b (Mark new ∷ []) [] ++ items) ≡ rows_of items
      one true = refl
      one false = refl

  -- what goes and what goes on waiting is what waited
  pub parted : (rule : Rule) (ahead top mark : ℕ) (rs : List (Timed T)) → rs ≡ rows_of (let_go rule ahead top mark rs) ++ left (top + ahead) rs
  parted rule ahead top mark [] = refl
  parted rule ahead top mark (r ∷ rs) = one (is_near (top + ahead) r) (parted rule ahead top (mark_for rule top mark r.time) rs)
    where
      one : (b : Bool) → rs ≡ rows_of (let_go rule ahead top (mark_for rule top mark r.time) rs) ++ left (top + ahead) rs
          → r ∷ rs ≡ rows_of (cond b (mark_item mark (mark_for rule top mark r.time) ++ Passed r ∷ let_go rule ahead top (mark_for rule top mark r.time) rs) []) ++ cond b (left (top + ahead) rs) (r ∷ rs)
      one true rest = ap (λ (zs : List (Timed T)). r ∷ zs) rest ∙ ap (λ (zs : List (Timed T)). zs ++ left (top + ahead) rs) (sym (no_row mark (mark_for rule top mark r.time) (Passed r ∷ let_go rule ahead top (mark_for rule top mark r.time) rs)))
      one false rest = refl

  -- ---- in time

  item_in_time : (span old new : ℕ) (items : List (Item T)) → old ≤ new → AreInTime span new items → AreInTime span old (mark_item old new ++ items)
  item_in_time span old new items le h = one (nat_lt old new) refl
    where
      one : (b : Bool) → nat_lt old new ≡ b → AreInTime span old (cond b (Mark new ∷ []) [] ++ items)
      one true is = (ltb-true old new is, h)
      one false is =
          let least = ltb-false old new is in
          let same : new ≡ old = omega (arith, le, least) in
          subst (λ (m : ℕ). AreInTime span m items) same h

  pub item_last : (old new : ℕ) (items : List (Item T)) → old ≤ new → last_mark old (mark_item old new ++ items) ≡ last_mark new items
  item_last old new items le = one (nat_lt old new) refl
    where
      one : (b : Bool) → nat_lt old new ≡ b → last_mark old (cond b (Mark new ∷ []) [] ++ items) ≡ last_mark new items
      one true is = refl
      one false is =
          let least = ltb-false old new is in
          let same : old ≡ new = omega (arith, le, least) in
          ap (λ (m : ℕ). last_mark m items) same

  module _ (rule : Rule) (ahead top : ℕ) where
    gone_in_time : 0 < rule.step → (rs : List (Timed T)) (mark : ℕ) → AreByTime rs → AllByRecursion (λ r. mark ≤ r.time) rs → AreInTime (span_of rule ahead) mark (let_go rule ahead top mark rs)
    gone_in_time some [] mark sorted all = tt
    gone_in_time some (r ∷ rs) mark sorted all =
        let low = mark_low rule ahead top mark r.time all.0 in
        one (is_near (top + ahead) r) refl (gone_in_time some rs (mark_for rule top mark r.time) sorted.1 (all_weaker (λ q. r.time ≤ q.time) (λ q. mark_for rule top mark r.time ≤ q.time) (λ q h. omega (arith, h, low)) rs sorted.0))
      where
        one : (b : Bool) → is_near (top + ahead) r ≡ b → AreInTime (span_of rule ahead) (mark_for rule top mark r.time) (let_go rule ahead top (mark_for rule top mark r.time) rs)
            → AreInTime (span_of rule ahead) mark (cond b (mark_item mark (mark_for rule top mark r.time) ++ Passed r ∷ let_go rule ahead top (mark_for rule top mark r.time) rs) [])
        one true is rest =
            item_in_time (span_of rule ahead) mark (mark_for rule top mark r.time) (Passed r ∷ let_go rule ahead top (mark_for rule top mark r.time) rs) (mark_goes_on rule ahead top mark r.time)
            (mark_low rule ahead top mark r.time all.0, near_mark rule ahead top some mark r.time (leb-true r.time (top + ahead) is), rest)
        one false is rest = tt

    pub last_to : (rs : List (Timed T)) (mark : ℕ) → mark ≤ top → last_mark mark (let_go rule ahead top mark rs) ≤ top
    last_to [] mark le = le
    last_to (r ∷ rs) mark le = one (is_near (top + ahead) r) (last_to rs (mark_for rule top mark r.time) (mark_to rule ahead top mark r.time le))
      where
        one : (b : Bool) → last_mark (mark_for rule top mark r.time) (let_go rule ahead top (mark_for rule top mark r.time) rs) ≤ top
            → last_mark mark (cond b (mark_item mark (mark_for rule top mark r.time) ++ Passed r ∷ let_go rule ahead top (mark_for rule top mark r.time) rs) []) ≤ top
        one true rest = rw (item_last mark (mark_for rule top mark r.time) (Passed r ∷ let_go rule ahead top (mark_for rule top mark r.time) rs) (mark_goes_on rule ahead top mark r.time)) rest
        one false rest = le

  -- ---- a row comes

  -- what waits lies behind no watermark that was told, in the order of its times
  pub record IsReady (w : Went T) : Type 0 where
    pub sorted : AreByTime w.held
    pub ahead : AllByRecursion (λ r. w.mark ≤ r.time) w.held

  pub record IsReadyAt (limit top : ℕ) (w : Went T) : Type 0 where
    pub sorted : AreByTime w.held
    pub far : AllByRecursion (λ r. is_far limit r ≡ true) w.held
    pub mark : w.mark ≡ top

  pub ready_from : (ahead top : ℕ) (w : Went T) → IsReadyAt (top + ahead) top w → IsReady w
  ready_from ahead top w k = record {
    sorted = k.sorted;
    ahead = all_weaker (λ r. is_far (top + ahead) r ≡ true) (λ r. w.mark ≤ r.time) (λ r h. later r h) w.held k.far;
  }
    where
      later : (r : Timed T) → is_far (top + ahead) r ≡ true → w.mark ≤ r.time
      later r h = let beyond = leb-false r.time (top + ahead) (not-true (is_near (top + ahead) r) h) in omega (arith, beyond, k.mark)

  abbrev pub out_then : Rule → ℕ → Went T → Coming T → List (Item T)
  out_then rule ahead w c = w.out ++ let_go rule ahead c.1 w.mark w.held ++ mark_item (last_mark w.mark (let_go rule ahead c.1 w.mark w.held)) c.1

  abbrev pub mark_then : Rule → ℕ → Went T → Coming T → ℕ
  mark_then rule ahead w c = max (last_mark w.mark (let_go rule ahead c.1 w.mark w.held)) c.1

  -- a row goes on, or waits
  abbrev pub goes : Rule → ℕ → Went T → Coming T → Went T
  goes rule ahead w c = record { out = out_then rule ahead w c ++ Passed c.0 ∷ []; mark = mark_then rule ahead w c; held = left (c.1 + ahead) w.held }

  abbrev pub waits : Rule → ℕ → ℕ → Went T → Coming T → Went T
  waits rule ahead room w c = record { out = out_then rule ahead w c ++ all_passed (drop room (queued c.0 (left (c.1 + ahead) w.held))); mark = mark_then rule ahead w c; held = take room (queued c.0 (left (c.1 + ahead) w.held)) }

  pub ready_on : (rule : Rule) (ahead room : ℕ) (w : Went T) (c : Coming T) → IsReady w → w.mark ≤ c.1 → IsReadyAt (c.1 + ahead) c.1 (went_on rule ahead room w c)
  ready_on rule ahead room w c k le = one (is_near (c.1 + ahead) c.0) refl
    where
      greatest : (a b : ℕ) → a ≤ b → max a b ≡ b
      greatest a b h = grind arith

      one : (b : Bool) → is_near (c.1 + ahead) c.0 ≡ b → IsReadyAt (c.1 + ahead) c.1 (cond b (goes rule ahead w c) (waits rule ahead room w c))
      one true is = record {
        sorted = by_time_left (c.1 + ahead) w.held k.sorted;
        far = left_far (c.1 + ahead) w.held k.sorted;
        mark = greatest (last_mark w.mark (let_go rule ahead c.1 w.mark w.held)) c.1 (last_to rule ahead c.1 w.held w.mark le);
      }
      one false is =
          record {
            sorted = by_time_take room (queued c.0 (left (c.1 + ahead) w.held)) (by_time_queued c.0 (left (c.1 + ahead) w.held) (by_time_left (c.1 + ahead) w.held k.sorted));
            far = all_take (λ r. is_far (c.1 + ahead) r ≡ true) room (queued c.0 (left (c.1 + ahead) w.held)) (all_queued (λ r. is_far (c.1 + ahead) r ≡ true) c.0 (left (c.1 + ahead) w.held) (ap not is) (left_far (c.1 + ahead) w.held k.sorted));
            mark = greatest (last_mark w.mark (let_go rule ahead c.1 w.mark w.held)) c.1 (last_to rule ahead c.1 w.held w.mark le);
          }

  -- as watermarks rise
  abbrev Follows : Rule → ℕ → List (Coming T) → Type 0
  Follows rule mark [] = mark ≡ rule.start
  Follows rule mark (c ∷ cs) = mark ≡ c.1

  from_last : (rule : Rule) (mark : ℕ) (c : Coming T) (cs : List (Coming T)) → AreRising rule (c ∷ cs) → Follows rule mark cs → mark ≤ c.1
  from_last rule mark c [] rising is = omega (arith, rising, is)
  from_last rule mark c (d ∷ cs) rising is = let le = rising.0 in omega (arith, le, is)

  rising_before : (rule : Rule) (c : Coming T) (cs : List (Coming T)) → AreRising rule (c ∷ cs) → AreRising rule cs
  rising_before rule c [] rising = tt
  rising_before rule c (d ∷ cs) rising = rising.1

  all_ready : (rule : Rule) (ahead room : ℕ) (cs : List (Coming T)) → AreRising rule cs → IsReady (went rule ahead room cs) × Follows rule (went rule ahead room cs).mark cs
  all_ready rule ahead room [] rising = (record { sorted = tt; ahead = tt }, refl)
  all_ready rule ahead room (c ∷ cs) rising =
      let before = all_ready rule ahead room cs (rising_before rule c cs rising) in
      let le = from_last rule (went rule ahead room cs).mark c cs rising before.1 in
      let now = ready_on rule ahead room (went rule ahead room cs) c before.0 le in
      (ready_from ahead c.1 (went rule ahead room (c ∷ cs)) now, now.mark)

  pub waits_in_time : (rule : Rule) → 0 < rule.step → (ahead room : ℕ) (cs : List (Coming T)) (c : Coming T) → AreRising rule (c ∷ cs) → WaitsInTime rule ahead room cs c
  waits_in_time rule some ahead room cs c rising =
      let before = all_ready rule ahead room cs (rising_before rule c cs rising) in
      let le = from_last rule (went rule ahead room cs).mark c cs rising before.1 in
      let now = ready_on rule ahead room (went rule ahead room cs) c before.0 le in
      record {
        in_time = gone_in_time rule ahead c.1 some (went rule ahead room cs).held (went rule ahead room cs).mark before.0.sorted before.0.ahead;
        waits = now.far;
        mark = now.mark;
      }

  -- ---- nothing is lost

  module _ (rule : Rule) (ahead room : ℕ) where
    -- what was handed on so far, and what goes on waiting
    out_so_far : (w : Went T) (c : Coming T) (rows : List (Timed T)) → IsPermutation rows (rows_of w.out ++ w.held) → IsPermutation rows (rows_of (out_then rule ahead w c) ++ left (c.1 + ahead) w.held)
    out_so_far w c rows k =
        let gone = let_go rule ahead c.1 w.mark w.held in
        let last = mark_item {T = T} (last_mark w.mark gone) c.1 in
        let still = left (c.1 + ahead) w.held in
        let no_last : rows_of last ≡ [] = ap rows_of (sym (append-nil last)) ∙ no_row (last_mark w.mark gone) c.1 [] in
        let out : rows_of (w.out ++ gone ++ last) ≡ rows_of w.out ++ rows_of gone =
        rows_append (w.out ++ gone) last ∙ (λ i. rows_append w.out gone i ++ no_last i) ∙ append-nil (rows_of w.out ++ rows_of gone) in
        let held = parted rule ahead c.1 w.mark w.held in
        let same : rows_of w.out ++ w.held ≡ rows_of (w.out ++ gone ++ last) ++ still =
        ap (λ (zs : List (Timed T)). rows_of w.out ++ zs) held ∙ sym (append_assoc (rows_of w.out) (rows_of gone) still) ∙ ap (λ (zs : List (Timed T)). zs ++ still) (sym out) in
        subst (λ (zs : List (Timed T)). IsPermutation rows zs) same k

    part_so_far : (w : Went T) (c : Coming T) (before : List (Timed T)) → IsPartOf before (rows_of w.out) → IsPartOf before (rows_of (out_then rule ahead w c))
    part_so_far w c before k =
        let gone = let_go rule ahead c.1 w.mark w.held in
        let last = mark_item {T = T} (last_mark w.mark gone) c.1 in
        let out : rows_of (w.out ++ gone ++ last) ≡ rows_of w.out ++ rows_of gone ++ rows_of last = rows_append (w.out ++ gone) last ∙ ap (λ (zs : List (Timed T)). zs ++ rows_of last) (rows_append w.out gone) in
        subst (λ (zs : List (Timed T)). IsPartOf before zs) (sym out) (part_more before (rows_of w.out ++ rows_of gone) (rows_of last) (part_more before (rows_of w.out) (rows_of gone) k))

    pub record Keeps (rows before : List (Timed T)) (w : Went T) : Type 0 where
      pub all : IsPermutation rows (rows_of w.out ++ w.held)
      pub few : length w.held ≤ room
      pub came_so : IsPartOf before rows
      pub went_so : IsPartOf before (rows_of w.out)

    step : (w : Went T) (c : Coming T) (rows before : List (Timed T)) → Keeps rows before w → (b : Bool)
        → Keeps (rows ++ c.0 ∷ []) (cond b (before ++ c.0 ∷ []) before) (cond b (goes rule ahead w c) (waits rule ahead room w c))
    step w c rows before k true =
        let out : rows_of (out_then rule ahead w c ++ Passed c.0 ∷ []) ≡ rows_of (out_then rule ahead w c) ++ c.0 ∷ [] = rows_append (out_then rule ahead w c) (Passed c.0 ∷ []) in
        record {
          all = subst (λ (zs : List (Timed T)). IsPermutation (rows ++ c.0 ∷ []) (zs ++ left (c.1 + ahead) w.held)) (sym out) (one_out rows (rows_of (out_then rule ahead w c)) (left (c.1 + ahead) w.held) c.0 (out_so_far w c rows k.all));
          few = let fewer = few_left (c.1 + ahead) w.held in omega (arith, fewer, k.few);
          came_so = part_append (c.0 ∷ []) (c.0 ∷ []) k.came_so (part_all (c.0 ∷ []));
          went_so = subst (λ (zs : List (Timed T)). IsPartOf (before ++ c.0 ∷ []) zs) (sym out) (part_append (c.0 ∷ []) (c.0 ∷ []) (part_so_far w c before k.went_so) (part_all (c.0 ∷ [])));
        }
    step w c rows before k false =
        let queue = queued c.0 (left (c.1 + ahead) w.held) in
        let new = rows_of (out_then rule ahead w c) in
        let out : rows_of (out_then rule ahead w c ++ all_passed (drop room queue)) ≡ new ++ drop room queue = rows_append (out_then rule ahead w c) (all_passed (drop room queue)) ∙ ap (λ (zs : List (Timed T)). new ++ zs) (rows_all (drop room queue)) in
        record {
          all = subst (λ (zs : List (Timed T)). IsPermutation (rows ++ c.0 ∷ []) (zs ++ take room queue)) (sym out)
              (cut_off room (rows ++ c.0 ∷ []) new queue (one_in rows new (left (c.1 + ahead) w.held) queue c.0 (out_so_far w c rows k.all) (queued_permuted c.0 (left (c.1 + ahead) w.held))));
          few = let len = length-take room queue in omega (arith, len);
          came_so = part_more before rows (c.0 ∷ []) k.came_so;
          went_so = subst (λ (zs : List (Timed T)). IsPartOf before zs) (sym out) (part_more before new (drop room queue) (part_so_far w c before k.went_so));
        }

    keeps_all : (cs : List (Coming T)) → Keeps (came cs) (passed ahead cs) (went rule ahead room cs)
    keeps_all [] = record { all = IsPermutation-refl []; few = omega arith; came_so = Done; went_so = Done }
    keeps_all (c ∷ cs) = step (went rule ahead room cs) c (came cs) (passed ahead cs) (keeps_all cs) (is_near (c.1 + ahead) c.0)

    pub keeps_rows : (cs : List (Coming T)) → KeepsRows rule ahead room cs
    keeps_rows cs = let k = keeps_all cs in record { all = k.all; few = k.few; came_so = k.came_so; went_so = k.went_so }

-- ---- the watermarks of stamps

module _ {T : Type 0} (rule : Rule) where
  pub comings_rise : (rows : List (ℕ × Timed T)) → AreRising rule (comings rule rows)
  comings_rise [] = tt
  comings_rise (r ∷ []) = from_start rule (stamped (r ∷ []))
  comings_rise (r ∷ s ∷ rows) = (mark_rises rule (record { clock = r.0; time = r.1.time }) (stamped (s ∷ rows)), comings_rise (s ∷ rows))

-- What is counted over a history and over its parts by keys: a record is counted in one part, a watermark in each.
use Rattle.std.proofs.Common.{◌≡◌, ℕ, zero, suc, ◌+◌, ◌*◌, Bool, true, false, cond, not, List, [], ◌∷◌, length, ℤ, Option, Some, None, refl, sym, ap, ◌∙◌, arith}
use Rattle.std.specs.Prelude.{filter, int_le}
use Rattle.std.specs.List.{sum_by}
use Rattle.std.proofs.lemmas.List.Sums.{sum_by-cons}
use Rattle.wsm_record.specs.Event.{Event, Record, Watermark}
use Rattle.wsm_admission.specs.declared.verdict.Refusal.{Refusal}
use Rattle.wsm_admission.specs.declared.verdict.Refusal.TheVariants as refusal
use Rattle.wsm_admission.specs.Clock.{mark_at, marks_of, watermark_refusal, is_time, admitted_count, admitted_with, late_count, late_with, refused_count, refused_with}
use Rattle.wsm_semantics.specs.Query.{Query, verdict_on}
use Rattle.wsm_semantics.specs.Firings.{Firing, firings_so_far}
use Rattle.wsm_semantics.specs.ByKey.{Keys, is_of, of_keys, HasRoom, EachOnce, sum_of_parts, no_keys, AddsUp, AddsUpButWatermarks, NumbersAddUp}
use Rattle.wsm_semantics.proofs.KeyParts.{verdict_of_part}
use Rattle.wsm_semantics.proofs.KeyFirings.{fired_count, is_fired_at}

sum_alike : {A : Type 0} (f g : A → ℕ) → ((x : A) → f x ≡ g x) → (xs : List A) → sum_by f xs ≡ sum_by g xs
sum_alike f g same [] = refl
sum_alike f g same (x ∷ xs) = sum_by-cons f x xs ∙ (λ i. same x i + sum_alike f g same xs i) ∙ sym (sum_by-cons g x xs)

-- one more, where a test passes
sum_more : {A : Type 0} (t : A → Bool) (n : ℕ) (f : A → ℕ) (xs : List A) → sum_by (λ x. cond (t x) (n + f x) (f x)) xs ≡ length (filter t xs) * n + sum_by f xs
sum_more t n f [] = omega arith
sum_more t n f (x ∷ xs) =
    let m : ℕ = length (filter t xs) in
    let rest : sum_by (λ x. cond (t x) (n + f x) (f x)) xs ≡ m * n + sum_by f xs = sum_more t n f xs in
    let more : suc m * n ≡ m * n + n = omega arith in
    let both : sum_by f (x ∷ xs) ≡ f x + sum_by f xs = sum_by-cons f x xs in
    sum_by-cons (λ x. cond (t x) (n + f x) (f x)) x xs
    ∙ elim (t x) as (λ b. cond b (n + f x) (f x) + sum_by (λ x. cond (t x) (n + f x) (f x)) xs ≡ length (cond b (x ∷ filter t xs) (filter t xs)) * n + sum_by f (x ∷ xs)) [
      | true ↦ omega arith
      | false ↦ omega arith
    ]

sum_zeros : {A : Type 0} (xs : List A) → sum_by (λ _. 0) xs ≡ 0
sum_zeros [] = refl
sum_zeros (x ∷ xs) = sum_by-cons (λ _. 0) x xs ∙ (let rest : sum_by (λ _. 0) xs ≡ 0 = sum_zeros xs in omega arith)

all_pass : {A : Type 0} (xs : List A) → length (filter (λ _. true) xs) ≡ length xs
all_pass [] = refl
all_pass (x ∷ xs) = ap suc (all_pass xs)

-- ---- events, each counted by its verdict

-- of histories of which something is known, what an event counts as, which is the same in a part
module _ (Known : List Event → Type 0) (older : (e : Event) (past : List Event) → Known (e ∷ past) → Known past)
    (number : List Event → ℕ) (one : Event → List Event → ℕ)
    (none : number [] ≡ 0) (next : (e : Event) (past : List Event) → number (e ∷ past) ≡ one e past + number past)
    (alike : (keys : Keys) (e : Event) (past : List Event) → Known (e ∷ past) → one e (of_keys keys past) ≡ one e past) where
  -- of a part one more where the event is of it
  next_of_part : (keys : Keys) (e : Event) (past : List Event) → Known (e ∷ past) → number (of_keys keys (e ∷ past)) ≡ cond (is_of keys e) (one e past + number (of_keys keys past)) (number (of_keys keys past))
  next_of_part keys e past room =
      elim (is_of keys e) as (λ b. number (cond b (e ∷ of_keys keys past) (of_keys keys past)) ≡ cond b (one e past + number (of_keys keys past)) (number (of_keys keys past))) [
        | true ↦ next e (of_keys keys past) ∙ ap (λ (n : ℕ). n + number (of_keys keys past)) (alike keys e past room)
        | false ↦ refl
      ]

  next_of_parts : (parts : List Keys) (e : Event) (past : List Event) → Known (e ∷ past) → sum_of_parts parts (e ∷ past) number ≡ length (filter (λ keys. is_of keys e) parts) * one e past + sum_of_parts parts past number
  next_of_parts parts e past room =
      sum_alike (λ keys. number (of_keys keys (e ∷ past))) (λ keys. cond (is_of keys e) (one e past + number (of_keys keys past)) (number (of_keys keys past))) (λ keys. next_of_part keys e past room) parts
      ∙ sum_more (λ keys. is_of keys e) (one e past) (λ keys. number (of_keys keys past)) parts

  none_of_parts : (parts : List Keys) → sum_of_parts parts [] number ≡ 0
  none_of_parts parts = sum_alike (λ keys. number []) (λ keys. 0) (λ keys. none) parts ∙ sum_zeros parts

  for_a_record : (n one_more sum total alone : ℕ) → n ≡ 1 → sum + alone ≡ total → (n * one_more + sum) + alone ≡ one_more + total
  for_a_record n m sum total alone single h = ap (λ (n : ℕ). (n * m + sum) + alone) single ∙ (let times : 1 * m ≡ m = omega arith in omega arith)

  for_a_watermark : (n one_more sum total alone : ℕ) → sum + alone ≡ total + n * alone → (n * one_more + sum) + (one_more + alone) ≡ (one_more + total) + n * (one_more + alone)
  for_a_watermark n m sum total alone h = let both : n * (m + alone) ≡ n * m + n * alone = distributed n m alone in omega arith
    where
      distributed : (n a b : ℕ) → n * (a + b) ≡ n * a + n * b
      distributed zero a b = omega arith
      distributed (suc n) a b =
          let rest : n * (a + b) ≡ n * a + n * b = distributed n a b in
          let x : suc n * (a + b) ≡ n * (a + b) + (a + b) = omega arith in
          let y : suc n * a ≡ n * a + a = omega arith in
          let z : suc n * b ≡ n * b + b = omega arith in
          omega arith

  module _ (parts : List Keys) (each : EachOnce parts) where
    pub adds_up_but : (past : List Event) → Known past → AddsUpButWatermarks parts past number
    adds_up_but [] room =
        let sum : sum_of_parts parts [] number ≡ 0 = none_of_parts parts in
        let zero_times : length parts * number [] ≡ 0 = ap (λ (n : ℕ). length parts * n) none ∙ (let z : length parts * 0 ≡ 0 = omega arith in z) in
        let zero : number [] ≡ 0 = none in
        omega arith
    adds_up_but (Record k t vs ∷ past) room =
        let e : Event = Record k t vs in
        let n : ℕ = one e past in
        (λ i. next_of_parts parts e past room i + number (of_keys no_keys past))
        ∙ for_a_record (length (filter (λ keys. keys k) parts)) n (sum_of_parts parts past number) (number past + length parts * number (of_keys no_keys past)) (number (of_keys no_keys past)) (each k) (adds_up_but past (older e past room))
        ∙ (let moved : n + (number past + length parts * number (of_keys no_keys past)) ≡ (n + number past) + length parts * number (of_keys no_keys past) = omega arith in moved)
        ∙ (λ i. sym (next e past) i + length parts * number (of_keys no_keys past))
    adds_up_but (Watermark o t ∷ past) room =
        let e : Event = Watermark o t in
        let n : ℕ = one e past in
        (λ i. (next_of_parts parts e past room ∙ ap (λ (m : ℕ). m * n + sum_of_parts parts past number) (all_pass parts)) i + next_of_part no_keys e past room i)
        ∙ for_a_watermark (length parts) n (sum_of_parts parts past number) (number past) (number (of_keys no_keys past)) (adds_up_but past (older e past room))
        ∙ (λ i. sym (next e past) i + length parts * sym (next_of_part no_keys e past room) i)

    -- where no watermark counts, the parts have what the whole has
    pub adds_up_all : ((past : List Event) (o : Option ℕ) (t : ℤ) → one (Watermark o t) past ≡ 0) → (past : List Event) → Known past → sum_of_parts parts past number ≡ number past
    adds_up_all idle [] room = none_of_parts parts ∙ sym none
    adds_up_all idle (Record k t vs ∷ past) room =
        let e : Event = Record k t vs in
        next_of_parts parts e past room
        ∙ (λ i. each k i * one e past + adds_up_all idle past (older e past room) i)
        ∙ (let single : 1 * one e past + number past ≡ one e past + number past = omega arith in single)
        ∙ sym (next e past)
    adds_up_all idle (Watermark o t ∷ past) room =
        let e : Event = Watermark o t in
        let n : ℕ = length (filter (λ keys. is_of keys e) parts) in
        next_of_parts parts e past room
        ∙ (λ i. n * idle past o t i + adds_up_all idle past (older e past room) i)
        ∙ (let zero_times : n * 0 + number past ≡ 0 + number past = omega arith in zero_times)
        ∙ (λ i. sym (idle past o t) i + number past)
        ∙ sym (next e past)

-- ---- what is counted

abbrev one_admitted : Event → Option Refusal → ℕ
one_admitted (Record k t vs) None = 1
one_admitted e v = 0

abbrev one_late : Event → Option Refusal → ℕ
one_late e (Some refusal.Late) = 1
one_late e v = 0

abbrev one_refused : Event → Option Refusal → ℕ
one_refused e None = 0
one_refused e (Some refusal.Late) = 0
one_refused e (Some r) = 1

event_next : (past : List Event) → suc (length past) ≡ 1 + length past
event_next past = omega arith

admitted_next : (n : ℕ) (e : Event) (v : Option Refusal) → admitted_with n e v ≡ one_admitted e v + n
admitted_next n (Record k t vs) None = omega arith
admitted_next n (Record k t vs) (Some r) = omega arith
admitted_next n (Watermark o t) v = omega arith

late_next : (n : ℕ) (e : Event) (v : Option Refusal) → late_with n v ≡ one_late e v + n
late_next n e None = omega arith
late_next n e (Some refusal.UnknownKey) = omega arith
late_next n e (Some refusal.FieldRange) = omega arith
late_next n e (Some refusal.TimeRange) = omega arith
late_next n e (Some refusal.TooFarAhead) = omega arith
late_next n e (Some refusal.Late) = omega arith
late_next n e (Some refusal.RecordLimit) = omega arith
late_next n e (Some refusal.NotRising) = omega arith
late_next n e (Some refusal.UnknownSource) = omega arith

refused_next : (n : ℕ) (e : Event) (v : Option Refusal) → refused_with n v ≡ one_refused e v + n
refused_next n e None = omega arith
refused_next n e (Some refusal.UnknownKey) = omega arith
refused_next n e (Some refusal.FieldRange) = omega arith
refused_next n e (Some refusal.TimeRange) = omega arith
refused_next n e (Some refusal.TooFarAhead) = omega arith
refused_next n e (Some refusal.Late) = omega arith
refused_next n e (Some refusal.RecordLimit) = omega arith
refused_next n e (Some refusal.NotRising) = omega arith
refused_next n e (Some refusal.UnknownSource) = omega arith

-- no watermark is late
never_late : (o : Option ℤ) (t : ℤ) (e : Event) → one_late e (watermark_refusal o t) ≡ 0
never_late None t e = refl
never_late (Some m) t e = by_tests (is_time t) (int_le t m) where
  by_tests : (a b : Bool) → one_late e (cond (not a) (Some refusal.TimeRange) (cond b (Some refusal.NotRising) None)) ≡ 0
  by_tests false b = refl
  by_tests true true = refl
  by_tests true false = refl

module _ (q : Query) (parts : List Keys) (each : EachOnce parts) where
  -- numbers of events by their verdicts
  module _ (number : List Event → ℕ) (one : Event → Option Refusal → ℕ) (none : number [] ≡ 0) (next : (e : Event) (past : List Event) → number (e ∷ past) ≡ one e (verdict_on q past e) + number past) where
    abbrev judged_one : Event → List Event → ℕ
    judged_one e past = one e (verdict_on q past e)

    judged_alike : (keys : Keys) (e : Event) (past : List Event) → HasRoom q (e ∷ past) → judged_one e (of_keys keys past) ≡ judged_one e past
    judged_alike keys e past room = ap (one e) (verdict_of_part q keys past e room)

    judged_but : (past : List Event) → HasRoom q past → AddsUpButWatermarks parts past number
    judged_but = adds_up_but (HasRoom q) (λ e past room. room.1) number judged_one none next judged_alike parts each

    judged_all : ((past : List Event) (o : Option ℕ) (t : ℤ) → judged_one (Watermark o t) past ≡ 0) → AddsUp q parts number
    judged_all = adds_up_all (HasRoom q) (λ e past room. room.1) number judged_one none next judged_alike parts each

  in_one_part : (fs : List Firing) → sum_by (λ keys. length (filter (is_fired_at keys) fs)) parts ≡ length fs
  in_one_part [] = sum_zeros parts
  in_one_part (f ∷ fs) =
      sum_alike (λ keys. length (filter (is_fired_at keys) (f ∷ fs))) (λ keys. cond (is_fired_at keys f) (1 + length (filter (is_fired_at keys) fs)) (length (filter (is_fired_at keys) fs)))
      (λ keys. elim (is_fired_at keys f) as (λ b. length (cond b (f ∷ filter (is_fired_at keys) fs) (filter (is_fired_at keys) fs)) ≡ cond b (1 + length (filter (is_fired_at keys) fs)) (length (filter (is_fired_at keys) fs))) [
        | true ↦ let n : suc (length (filter (is_fired_at keys) fs)) ≡ 1 + length (filter (is_fired_at keys) fs) = omega arith in n
        | false ↦ refl
      ]) parts
      ∙ sum_more (λ keys. is_fired_at keys f) 1 (λ keys. length (filter (is_fired_at keys) fs)) parts
      ∙ (λ i. each (Some f.place.key) i * 1 + in_one_part fs i)
      ∙ (let n : 1 * 1 + length fs ≡ suc (length fs) = omega arith in n)

  fired_add_up : AddsUp q parts (λ part. length (firings_so_far q part))
  fired_add_up past room =
      sum_alike (λ keys. length (firings_so_far q (of_keys keys past))) (λ keys. length (filter (is_fired_at keys) (firings_so_far q past)))
      (λ keys. fired_count q keys past room) parts
      ∙ in_one_part (firings_so_far q past)

  pub numbers_add_up : NumbersAddUp q parts
  numbers_add_up = record {
    events = λ past. adds_up_but (λ _. Unit {0}) (λ e past known. known) (λ past. length past) (λ e past. 1) refl (λ e past. event_next past) (λ keys e past known. refl) parts each past tt;
    admitted = judged_all (admitted_count q.clock q.shape q.declared) one_admitted refl (λ e past. admitted_next (admitted_count q.clock q.shape q.declared past) e (verdict_on q past e)) (λ past o t. refl);
    late = judged_all (late_count q.clock q.shape q.declared) one_late refl (λ e past. late_next (late_count q.clock q.shape q.declared past) e (verdict_on q past e)) (λ past o t. never_late (mark_at (marks_of q.clock q.declared past) o) t (Watermark o t));
    refused = judged_but (refused_count q.clock q.shape q.declared) one_refused refl (λ e past. refused_next (refused_count q.clock q.shape q.declared past) e (verdict_on q past e));
    fired = fired_add_up;
  }

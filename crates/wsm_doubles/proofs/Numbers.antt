-- Each text has a number of its own, and what passes by texts is what passes by numbers.
use Rattle.std.proofs.Common.{◌≡◌, ℕ, zero, suc, Bool, true, false, ◌||◌, cond, List, [], ◌∷◌, map, ℤ, refl, sym, ap, subst, ◌∙◌, arith}
use Rattle.std.proofs.lemmas.Slice.Eq.{bytes_eq-Decides}
use Rattle.std.specs.Prelude.{bytes_eq, filter, nat_eq}
use Rattle.wsm_record.specs.Event.{Event, Watermark}
use Rattle.wsm_semantics.specs.Query.{Query, mark}
use Rattle.wsm_semantics.specs.Deliveries.{Passing, passing}
use Rattle.wsm_semantics.specs.Deliveries as numbered
use Rattle.wsm_semantics.proofs.Each.{filter-map, itself, same_answers, same_key}
use Rattle.wsm_doubles.specs.Memory.{Memory, knows, live}
use Rattle.wsm_doubles.specs.Passing.{Comes, IsNumbered, TextDelivery, TextPassing, Told, doubled_odd, event_of, number_of, numbered_delivery, numbered_one, passes, passing_texts}

-- ---- numbers

some_number : (times n : ℕ) → doubled_odd times n ≡ 0 → ⊥
some_number zero n h = absurd (omega arith)
some_number (suc times) n h = some_number times n (omega arith)

parts_of : (a b m n : ℕ) → doubled_odd a m ≡ doubled_odd b n → (a ≡ b) × (m ≡ n)
parts_of zero zero m n h = (refl, omega arith)
parts_of zero (suc b) m n h = absurd (omega arith)
parts_of (suc a) zero m n h = absurd (omega arith)
parts_of (suc a) (suc b) m n h = let r : (a ≡ b) × (m ≡ n) = parts_of a b m n (omega arith) in (ap suc r.0, r.1)

pub own_number : (x y : List ℕ) → number_of x ≡ number_of y → x ≡ y
own_number [] [] h = refl
own_number [] (b ∷ y) h = absurd (some_number b (number_of y) (sym h))
own_number (a ∷ x) [] h = absurd (some_number a (number_of x) h)
own_number (a ∷ x) (b ∷ y) h =
    let r : (a ≡ b) × (number_of x ≡ number_of y) = parts_of a b (number_of x) (number_of y) h in
    λ i. r.0 i ∷ own_number x y r.1 i

same_test : (x y : List ℕ) → nat_eq (number_of y) (number_of x) ≡ bytes_eq x y
same_test x y = same_answers (nat_eq (number_of y) (number_of x)) (bytes_eq x y)
    (λ e. (bytes_eq-Decides x y).1 (own_number x y (sym (same_key (number_of y) (number_of x) e))))
    (λ e. ap (λ (t : List ℕ). nat_eq (number_of t) (number_of x)) (sym ((bytes_eq-Decides x y).0 e)) ∙ itself (number_of x))

-- ---- what passes

knows_by_number : (i : List ℕ) (memory : Memory) → numbered.knows (number_of i) (map numbered_one memory) ≡ knows i memory
knows_by_number i [] = refl
knows_by_number i (k ∷ memory) = λ j. same_test i k.0 j || knows_by_number i memory j

live_by_number : (q : Query) (w : ℤ) (memory : Memory) → filter (numbered.may_count q w) (map numbered_one memory) ≡ map numbered_one (live q.clock q.shape w memory)
live_by_number q w memory = filter-map numbered_one (numbered.may_count q w) memory

either : (a b : Bool) → a ≡ b → (x y : TextPassing) (u v : Passing) → IsNumbered x u → IsNumbered y v → IsNumbered (cond a x y) (cond b u v)
either true b e x y u v h k = subst (λ (d : Bool). IsNumbered x (cond d u v)) e h
either false b e x y u v h k = subst (λ (d : Bool). IsNumbered y (cond d u v)) e k

on_by_number : (q : Query) (e : Event) (memory : Memory) (numbers : List (ℕ × ℤ)) (past other : List Event) → map numbered_one memory ≡ numbers → past ≡ other → IsNumbered (passes q e memory past) (numbered.passes q e numbers other)
on_by_number q e memory numbers past other same alike = record {
  passed = ap (λ (es : List Event). e ∷ es) alike;
  memory = sym (live_by_number q (mark q (e ∷ past)) memory) ∙ (λ i. filter (numbered.may_count q (mark q (e ∷ alike i))) (same i));
}

pub by_number : (q : Query) (ds : List TextDelivery) → IsNumbered (passing_texts q ds) (passing q (map numbered_delivery ds))
by_number q [] = record { passed = refl; memory = refl }
by_number q (Comes s ∷ ds) =
    let x : TextPassing = passing_texts q ds in
    let u : Passing = passing q (map numbered_delivery ds) in
    let h : IsNumbered x u = by_number q ds in
    either (knows s.identifier x.memory) (numbered.knows (number_of s.identifier) u.memory)
    (sym (knows_by_number s.identifier x.memory) ∙ ap (numbered.knows (number_of s.identifier)) h.memory)
    x (passes q (event_of s) ((s.identifier, s.time) ∷ x.memory) x.passed) u (numbered.passes q (event_of s) ((number_of s.identifier, s.time) ∷ u.memory) u.passed)
    h (on_by_number q (event_of s) ((s.identifier, s.time) ∷ x.memory) ((number_of s.identifier, s.time) ∷ u.memory) x.passed u.passed (ap (λ (m : List (ℕ × ℤ)). (number_of s.identifier, s.time) ∷ m) h.memory) h.passed)
by_number q (Told source time ∷ ds) =
    let h : IsNumbered (passing_texts q ds) (passing q (map numbered_delivery ds)) = by_number q ds in
    on_by_number q (Watermark source time) (passing_texts q ds).memory (passing q (map numbered_delivery ds)).memory (passing_texts q ds).passed (passing q (map numbered_delivery ds)).passed h.memory h.passed

-- The computed longest path of a section is the greatest length of its paths.
use Rattle.std.proofs.Common.{◌≡◌, ℕ, zero, suc, ◌+◌, ◌-◌, ◌≤◌, max, Bool, true, false, ◌||◌, cond, ◌⊎◌, inl, inr, List, [], ◌∷◌, length, map, Option, Some, None, refl, sym, subst, ap, ◌∙◌, arith}
use Rattle.std.proofs.lemmas.Bool.{true≢false, and_from, eqb-true, and_parts, or_right, or_left, eq-eqb}
use Rattle.std.specs.Prelude.{nat_eq, nat_lt, slice_get, slice_index_or, unwrap_or}
use Rattle.std.specs.List.{list_any}
use Rattle.std.proofs.lemmas.Option.{same_Some}
use Rattle.wsm_program.specs.declared.Instr.{Instr}
use Rattle.wsm_program.specs.declared.Instr.TheVariants.{Return}
use Rattle.wsm_program.specs.Instructions.{next}
use Rattle.wsm_rules.specs.Labels.{leads}
use Rattle.wsm_rules.specs.Costs.{Path, Ends, Goes, IsLongestPath, longer, longest_of, one_more, way_from, way_of, ways, longest_path}

none≢some : {A : Type 0} (a : A) → None ≡ Some a → ⊥
none≢some a e = let tag : Option _ → Bool = λ o. elim o [ None ↦ true | Some x ↦ false ] in true≢false (ap tag e)

max_is : (m k : ℕ) → (max m k ≡ m) ⊎ (max m k ≡ k)
max_is m k = grind arith

longer_is : (a b : Option ℕ) (n : ℕ) → longer a b ≡ Some n → (a ≡ Some n) ⊎ (b ≡ Some n)
longer_is None b n e = inr e
longer_is (Some m) None n e = inl e
longer_is (Some m) (Some k) n e =
    elim (max_is m k) [ inl h ↦ inl (ap Some (sym h) ∙ e) | inr h ↦ inr (ap Some (sym h) ∙ e) ]

longer_left : (a b : Option ℕ) (n : ℕ) → a ≡ Some n → (m : ℕ) × (longer a b ≡ Some m) × (n ≤ m)
longer_left None b n e = absurd (none≢some n e)
longer_left (Some k) None n e = (k, refl, omega (arith, same_Some k n e))
longer_left (Some k) (Some m) n e = (max k m, refl, omega (arith, same_Some k n e))

longer_right : (a b : Option ℕ) (n : ℕ) → b ≡ Some n → (m : ℕ) × (longer a b ≡ Some m) × (n ≤ m)
longer_right None b n e = (n, e, omega arith)
longer_right (Some k) None n e = absurd (none≢some n e)
longer_right (Some k) (Some m) n e = (max k m, refl, omega (arith, same_Some m n e))

or_is : (a b : Bool) → (a || b) ≡ true → (a ≡ true) ⊎ (b ≡ true)
or_is true b e = inl refl
or_is false b e = inr e

-- the longest of some ways is one of them
one_of : (f : ℕ → Option ℕ) (qs : List ℕ) (n : ℕ) → longest_of (map f qs) ≡ Some n → (q : ℕ) × (list_any (nat_eq q) qs ≡ true) × (f q ≡ Some n)
one_of f [] n e = absurd (none≢some n e)
one_of f (q ∷ qs) n e =
    elim (longer_is (f q) (longest_of (map f qs)) n e) [
      | inl h ↦ (q, or_left (nat_eq q q) _ (eq-eqb q q refl), h)
      | inr h ↦ let r = one_of f qs n h in (r.0, or_right (nat_eq r.0 q) _ r.1, r.2)
    ]

-- the longest of some ways is as long as each
at_least : (f : ℕ → Option ℕ) (qs : List ℕ) (q n : ℕ) → list_any (nat_eq q) qs ≡ true → f q ≡ Some n → (m : ℕ) × (longest_of (map f qs) ≡ Some m) × (n ≤ m)
at_least f [] q n h e = absurd (true≢false (sym h))
at_least f (r ∷ qs) q n h e =
    elim (or_is (nat_eq q r) (list_any (nat_eq q) qs) h) [
      | inl s ↦ longer_left (f r) (longest_of (map f qs)) n (ap f (sym (eqb-true q r s)) ∙ e)
      | inr s ↦ let m = at_least f qs q n s e in
          let k = longer_right (f r) (longest_of (map f qs)) m.0 m.1 in
          (k.0, k.1, omega (arith, m.2, k.2))
    ]

-- an instruction is RET, or its way is one more than the longest of its targets
way_is : (i : Instr) → (i ≡ Return) ⊎ ((p : ℕ) (later : List (Option ℕ)) → way_of p i later ≡ one_more (longest_of (map (way_from p later) (next i p))))
way_is Return = inl refl
way_is _ = inr (λ p later. refl)

one_more_is : (a : Option ℕ) (n : ℕ) → one_more a ≡ Some n → (m : ℕ) × (a ≡ Some m) × (n ≡ suc m)
one_more_is None n e = absurd (none≢some n e)
one_more_is (Some m) n e = (m, refl, sym (same_Some (suc m) n e))

cond_some : (b : Bool) (o : Option ℕ) (n : ℕ) → cond b o None ≡ Some n → (b ≡ true) × (o ≡ Some n)
cond_some true o n e = (refl, e)
cond_some false o n e = absurd (none≢some n e)

-- the instructions of a section from place p on
abbrev Stands : List Instr → ℕ → List Instr → Type 0
Stands all p is = (k : ℕ) → slice_get all (p + k) ≡ slice_get is k

after_first : (all : List Instr) (p : ℕ) (i : Instr) (is : List Instr) → Stands all p (i ∷ is) → Stands all (suc p) is
after_first all p i is s k = let e : suc p + k ≡ p + suc k = omega arith in ap (slice_get all) e ∙ s (suc k)

first : (all : List Instr) (p : ℕ) (i : Instr) (is : List Instr) → Stands all p (i ∷ is) → slice_get all p ≡ Some i
first all p i is s = let e : p ≡ p + 0 = omega arith in ap (slice_get all) e ∙ s 0

less : (p q : ℕ) → nat_lt p q ≡ true → suc p + (q - suc p) ≡ q
less p q h = grind arith

-- each way is that of a path
reached : (all is : List Instr) (p : ℕ) → Stands all p is → (k n : ℕ) → slice_index_or (ways p is) k None ≡ Some n → Path all (p + k) n
reached all [] p s k n e = absurd (none≢some n e)
reached all (i ∷ is) p s zero n e =
    let zero_more : p ≡ p + 0 = omega arith in
    elim (way_is i) [
      | inl h ↦ let one : 1 ≡ n = same_Some 1 n (sym (ap (λ j. way_of p j (ways (suc p) is)) h) ∙ e) in
          subst (λ q. Path all q n) zero_more (subst (λ m. Path all p m) one (Ends p (first all p i is s ∙ ap Some h)))
      | inr h ↦ let m = one_more_is (longest_of (map (way_from p (ways (suc p) is)) (next i p))) n (sym (h p (ways (suc p) is)) ∙ e) in
          let q = one_of (way_from p (ways (suc p) is)) (next i p) m.0 m.1 in
          let w = cond_some (nat_lt p q.0) (slice_index_or (ways (suc p) is) (q.0 - suc p) None) m.0 q.2 in
          let rest : Path all q.0 m.0 = subst (λ r. Path all r m.0) (less p q.0 w.0) (reached all is (suc p) (after_first all p i is s) (q.0 - suc p) m.0 w.1) in
          subst (λ r. Path all r n) zero_more (subst (λ r. Path all p r) (sym m.2) (Goes p q.0 m.0 i (first all p i is s) (and_from (nat_lt p q.0) _ w.0 q.1) rest))
    ]
reached all (i ∷ is) p s (suc k) n e =
    let later : suc p + k ≡ p + suc k = omega arith in
    subst (λ q. Path all q n) later (reached all is (suc p) (after_first all p i is s) k n e)

path_is : (all : List Instr) (p n : ℕ) → Path all p n → ((slice_get all p ≡ Some Return) × (n ≡ 1)) ⊎ ((q : ℕ) × (m : ℕ) × (i : Instr) × (slice_get all p ≡ Some i) × (leads i p q ≡ true) × Path all q m × (n ≡ suc m))
path_is all _ _ (Ends p h) = inl (h, refl)
path_is all _ _ (Goes p q m i h l w) = inr (q, m, i, h, l, w, refl)

no_edge : (i : Instr) (p q : ℕ) → i ≡ Return → list_any (nat_eq q) (next i p) ≡ true → ⊥
no_edge i p q e h = true≢false (sym h ∙ ap (λ j. list_any (nat_eq q) (next j p)) e)

-- no path is longer than its way
bounded : (all is : List Instr) (p : ℕ) → Stands all p is → (k q n : ℕ) → q ≡ p + k → Path all q n → (m : ℕ) × (slice_index_or (ways p is) k None ≡ Some m) × (n ≤ m)
bounded all [] p s k q n e w =
    let none : slice_get all q ≡ None = ap (slice_get all) e ∙ s k in
    elim (path_is all q n w) [
      | inl h ↦ absurd (none_some (sym none ∙ h.0))
      | inr h ↦ absurd (none_some (sym none ∙ h.3))
    ]
  where
    none_some : {A : Type 0} {a : A} → None ≡ Some a → ⊥
    none_some {A} {a} e = let tag : Option A → Bool = λ o. elim o [ None ↦ true | Some x ↦ false ] in true≢false (ap tag e)
bounded all (i ∷ is) p s zero q n e w =
    let here : q ≡ p = omega (arith, e) in
    let found : slice_get all q ≡ Some i = ap (slice_get all) here ∙ first all p i is s in
    elim (path_is all q n w) [
      | inl h ↦ let ret : i ≡ Return = same_Some i Return (sym found ∙ h.0) in
          (1, ap (λ j. way_of p j (ways (suc p) is)) ret, omega (arith, h.1))
      | inr h ↦ let same_instr : h.2 ≡ i = same_Some h.2 i (sym h.3 ∙ found) in
          let edge : leads i p h.0 ≡ true = subst (λ r. leads i r h.0 ≡ true) here (subst (λ j. leads j q h.0 ≡ true) same_instr h.4) in
          let l = and_parts (nat_lt p h.0) _ edge in
          let rest = bounded all is (suc p) (after_first all p i is s) (h.0 - suc p) h.0 h.1 (sym (less p h.0 l.0)) h.5 in
          let way : way_from p (ways (suc p) is) h.0 ≡ Some rest.0 = ap (λ b. cond b (slice_index_or (ways (suc p) is) (h.0 - suc p) None) None) l.0 ∙ rest.1 in
          let best = at_least (way_from p (ways (suc p) is)) (next i p) h.0 rest.0 l.1 way in
          elim (way_is i) [
            | inl r ↦ absurd (no_edge i p h.0 r l.1)
            | inr r ↦ (suc best.0, r p (ways (suc p) is) ∙ ap one_more best.1, omega (arith, h.6, rest.2, best.2))
          ]
    ]
bounded all (i ∷ is) p s (suc k) q n e w = bounded all is (suc p) (after_first all p i is s) k q n (omega (arith, e)) w

from_start : (is : List Instr) → Stands is 0 is
from_start is k = let e : 0 + k ≡ k = omega arith in ap (slice_get is) e

longest_by : (is : List Instr) (o : Option ℕ) → slice_index_or (ways 0 is) 0 None ≡ o → IsLongestPath is (unwrap_or o 0)
longest_by is None e = record {
  no_longer = λ m w. let b = bounded is is 0 (from_start is) 0 0 m refl w in absurd (none≢some b.0 (sym e ∙ b.1));
  reached = inl refl;
}
longest_by is (Some n) e = record {
  no_longer = λ m w. let b = bounded is is 0 (from_start is) 0 0 m refl w in omega (arith, b.2, same_Some n b.0 (sym e ∙ b.1));
  reached = inr (reached is is 0 (from_start is) 0 n e);
}

pub longest_path_is : (is : List Instr) → IsLongestPath is (longest_path is)
longest_path_is is = longest_by is (slice_index_or (ways 0 is) 0 None) refl

-- no way is longer than the section
pub short_way : (p : ℕ) (is : List Instr) (k n : ℕ) → slice_index_or (ways p is) k None ≡ Some n → n ≤ length is
short_way p [] k n e = absurd (none≢some n e)
short_way p (i ∷ is) zero n e =
    elim (way_is i) [
      | inl h ↦ let one : 1 ≡ n = same_Some 1 n (sym (ap (λ j. way_of p j (ways (suc p) is)) h) ∙ e) in omega arith
      | inr h ↦ let m = one_more_is (longest_of (map (way_from p (ways (suc p) is)) (next i p))) n (sym (h p (ways (suc p) is)) ∙ e) in
          let q = one_of (way_from p (ways (suc p) is)) (next i p) m.0 m.1 in
          let w = cond_some (nat_lt p q.0) (slice_index_or (ways (suc p) is) (q.0 - suc p) None) m.0 q.2 in
          omega (arith, m.2, short_way (suc p) is (q.0 - suc p) m.0 w.1)
    ]
short_way p (i ∷ is) (suc k) n e = omega (arith, short_way (suc p) is k n e)

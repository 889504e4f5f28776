-- What is known at the places of a part of a section: whether one has a fault, and what is known behind the part.
use Rattle.std.proofs.Common.{◌≡◌, ℕ, suc, ◌+◌, ◌<◌, Bool, true, false, ◌&&◌, ◌||◌, cond, List, [], ◌∷◌, ◌++◌, length, Option, Some, None, refl, ap, subst, ◌∙◌, arith, length-append, append-nil}
use Rattle.std.specs.Prelude.{is_some, is_none, option_map, nat_eq, nat_lt}
use Rattle.std.specs.List.{cons_option, list_any}
use Rattle.std.proofs.Math.Bool.{or-false, or-true}
use Rattle.wsm_program.specs.declared.Instr.{Instr}
use Rattle.wsm_program.specs.Instructions.{next}
use Rattle.wsm_rules.specs.Labels.{State, Ranges, Label, Reached, Visit, after, along, carried_to, hull_all, gathered, label_of, visit, visit_of}
use Rattle.wsm_rules.specs.Rules.{Setting, fault_of, fault_at, and_then}
use Rattle.wsm_compiler.proofs.Visits.{both_empty, extended, added, extended_is, added_append, length-extended, carries, carries_append, label_gathered, faults, faults_append}
use Rattle.wsm_machine.proofs.FittingStacks.{no}

pub none≢some : {A X : Type 0} {a : A} → None ≡ Some a → X
none≢some {A} {X} {a} e = let tag : Option A → Bool = λ o. elim o [ None ↦ false | Some x ↦ true ] in no (ap tag e)

-- a part of m places begins at place k, where s is known, and none of its places is led to from before
pub record Comes (e : State) (vs : List Visit) (k : ℕ) (s : State) (m : ℕ) : Type 0 where
  pub long : length vs ≡ k
  pub label : label_of e k vs ≡ Reached s
  pub quiet : (q : ℕ) → k < q → q < k + m → carries q vs ≡ []

-- a part has a fault, or leads to the place behind it, where the state is known, and to no later one
pub record Labels (e : State) (c : Setting) (vs : List Visit) (k : ℕ) (is : List Instr) (o : Option State) : Type 0 where
  pub faulty : faults c (added e c.ranges vs is) ≡ is_none o
  pub gives : (t : State) → o ≡ Some t → hull_all (carries (k + length is) (added e c.ranges vs is)) ≡ Reached t
  pub quiet : (t : State) → o ≡ Some t → (q : ℕ) → k + length is < q → carries q (added e c.ranges vs is) ≡ []

abbrev pub Labelled : State → Setting → ℕ → List Instr → State → Option State → Type 0
Labelled e c k is s o = (vs : List Visit) → Comes e vs k s (length is) → Labels e c vs k is o

pub shorter : (e : State) (vs : List Visit) (k : ℕ) (s : State) (m n : ℕ) → Comes e vs k s (m + n) → Comes e vs k s m
shorter e vs k s m n at = record { long = at.long; label = at.label; quiet = λ q l h. at.quiet q l (omega (arith, h)) }

begun : (e : State) (vs : List Visit) (k : ℕ) (s : State) (is js : List Instr) → Comes e vs k s (length (is ++ js)) → Comes e vs k s (length is)
begun e vs k s is js at = shorter e vs k s (length is) (length js) (subst (λ m. Comes e vs k s m) (length-append is js) at)

-- the part behind one that leads to it
pub continued : (e : State) (c : Setting) (vs : List Visit) (k : ℕ) (is : List Instr) (n : ℕ) (s t : State) → 0 < length is → 0 < n →
    Comes e vs k s (length is + n) → Labels e c vs k is (Some t) → Comes e (extended e c.ranges vs is) (k + length is) t n
continued e c vs k is n s t hi hn at first =
    let q = k + length is in
    let ws = extended e c.ranges vs is in
    let new = added e c.ranges vs is in
    let long : length ws ≡ k + length is = ap (λ m. m) (length-extended e c.ranges vs is) ∙ ap (λ m. m + length is) at.long in
    record {
      long = long;
      label =
          label_gathered e q ws (omega (arith, long, hi))
          ∙ ap (gathered q) (extended_is e c.ranges vs is)
          ∙ ap hull_all (carries_append q new vs ∙ ap (λ zs. carries q new ++ zs) (at.quiet q (omega (arith, hi)) (omega (arith, hn))) ∙ append-nil (carries q new))
          ∙ first.gives t refl;
      quiet = λ p l h. ap (carries p) (extended_is e c.ranges vs is) ∙ carries_append p new vs ∙ both_empty (carries p new) (carries p vs) (first.quiet t refl p l) (at.quiet p (omega (arith, l, hi)) (omega (arith, h)));
    }

-- two parts, the second of which begins with what is known behind the first
pub sequence : (e : State) (c : Setting) (k : ℕ) (is js : List Instr) (s : State) (o : Option State) (f : State → Option State) → 0 < length is → 0 < length js →
    Labelled e c k is s o → ((t : State) → o ≡ Some t → Labelled e c (k + length is) js t (f t)) → Labelled e c k (is ++ js) s (and_then f o)
sequence e c k is js s None f hi hj first rest vs at =
    let a = first vs (begun e vs k s is js at) in
    let ws = extended e c.ranges vs is in
    record {
      faulty = ap (faults c) (added_append e c.ranges vs is js) ∙ faults_append c (added e c.ranges ws js) (added e c.ranges vs is) ∙ ap (λ b. faults c (added e c.ranges ws js) || b) a.faulty ∙ or-true (faults c (added e c.ranges ws js));
      gives = λ t h. none≢some h;
      quiet = λ t h q l. none≢some h;
    }
sequence e c k is js s (Some t) f hi hj first rest vs at =
    let a = first vs (begun e vs k s is js at) in
    let ws = extended e c.ranges vs is in
    let new = added e c.ranges vs is in
    let more = added e c.ranges ws js in
    let whole = added_append e c.ranges vs is js in
    let m = length-append is js in
    let b = rest t refl ws (continued e c vs k is (length js) s t hi hj (subst (λ m. Comes e vs k s m) (length-append is js) at) a) in
    let end : k + length (is ++ js) ≡ k + length is + length js = omega (arith, m) in
    let q = k + length is + length js in
    record {
      faulty = ap (faults c) whole ∙ faults_append c more new ∙ ap (λ b. faults c more || b) a.faulty ∙ or-false (faults c more) ∙ b.faulty;
      gives = λ u h.
          ap (λ p. hull_all (carries p (added e c.ranges vs (is ++ js)))) end
          ∙ ap (λ w. hull_all (carries q w)) whole
          ∙ ap hull_all (carries_append q more new ∙ ap (λ zs. carries q more ++ zs) (a.quiet t refl q (omega (arith, hj))) ∙ append-nil (carries q more))
          ∙ b.gives u h;
      quiet = λ u h p l. ap (carries p) whole ∙ carries_append p more new ∙ both_empty (carries p more) (carries p new) (b.quiet u h p (omega (arith, l, m))) (a.quiet t refl p (omega (arith, l, m)));
    }

-- ---- one instruction

pub some_map : {A B : Type 0} (f : A → B) (o : Option A) → is_some (option_map f o) ≡ is_some o
some_map f o = grind arith

-- the visit of a place where s is known
pub visit_is : (e : State) (r : Ranges) (i : Instr) (vs : List Visit) (k : ℕ) (s : State) → length vs ≡ k → label_of e k vs ≡ Reached s → visit_of e r i vs ≡ visit r k i (Reached s)
visit_is e r i vs k s long label = ap (λ n. visit r n i (label_of e n vs)) long ∙ ap (visit r k i) label

pub fault_is : (c : Setting) (k : ℕ) (i : Instr) (l : Label) → is_some (fault_at c (visit c.ranges k i l)) ≡ is_some (fault_of c k i l)
fault_is c k i l = some_map (λ r. record { part = _; place = k; rule = r }) (fault_of c k i l)

next_place : (k : ℕ) → (nat_lt k (k + 1) && list_any (nat_eq (k + 1)) (suc k ∷ [])) ≡ true
next_place k = let a : nat_lt k (k + 1) ≡ true = grind arith in let b : nat_eq (k + 1) (suc k) ≡ true = grind arith in (λ i. a i && (b i || false))

not_far : (k q : ℕ) → k + 1 < q → (nat_lt k q && list_any (nat_eq q) (suc k ∷ [])) ≡ false
not_far k q h = let a : nat_lt k q ≡ true = grind arith in let b : nat_eq q (suc k) ≡ false = grind arith in (λ i. a i && (b i || false))

same_along : (i : Instr) (p q : ℕ) → ((s : State) → along i p q s ≡ s) → (o : Option State) → option_map (along i p q) o ≡ o
same_along i p q h o = grind arith

pub one : (e : State) (c : Setting) (k : ℕ) (i : Instr) (s : State) (o : Option State) → next i k ≡ suc k ∷ [] → ((p q : ℕ) (s : State) → along i p q s ≡ s) → is_some (fault_of c k i (Reached s)) ≡ is_none o →
    ((t : State) → o ≡ Some t → after c.ranges i s ≡ Some t) → Labelled e c k (i ∷ []) s o
one e c k i s o there keeps fault goes vs at =
    let v = visit c.ranges k i (Reached s) in
    let left = λ (q : ℕ). option_map (along i k q) (after c.ranges i s) in
    let same_left = λ (q : ℕ). same_along i k q (keeps k q) (after c.ranges i s) in
    let same = visit_is e c.ranges i vs k s at.long at.label in
    record {
      faulty = ap (λ w. faults c (w ∷ [])) same ∙ fault_is c k i (Reached s) ∙ fault;
      gives = λ t h.
          let edge : carried_to (k + 1) v ≡ Some t =
          ap (λ ns. cond (nat_lt k (k + 1) && list_any (nat_eq (k + 1)) ns) (left (k + 1)) None) there ∙ ap (λ b. cond b (left (k + 1)) None) (next_place k) ∙ same_left (k + 1) ∙ goes t h in
          ap (λ w. hull_all (carries (k + 1) (w ∷ []))) same ∙ ap (λ x. hull_all (cons_option x [])) edge;
      quiet = λ t h q l.
          let none : carried_to q v ≡ None =
          ap (λ ns. cond (nat_lt k q && list_any (nat_eq q) ns) (left q) None) there ∙ ap (λ b. cond b (left q) None) (not_far k q l) in
          ap (λ w. carries q (w ∷ [])) same ∙ ap (λ x. cons_option x []) none;
    }

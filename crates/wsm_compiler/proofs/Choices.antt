-- A choice: a test on top of the stack, and two parts of which one is run. What is known behind it is the hull of both.
use Rattle.std.proofs.Common.{◌≡◌, ℕ, suc, ◌+◌, ◌≤◌, ◌<◌, Bool, true, false, ◌&&◌, ◌||◌, not, cond, List, [], ◌∷◌, ◌++◌, length, Option, Some, None, refl, sym, ap, ◌∙◌, arith, length-append, append-nil}
use Rattle.std.specs.Prelude.{is_some, nat_eq, nat_lt}
use Rattle.std.specs.List.{cons_option}
use Rattle.std.proofs.lemmas.Bool.{and_from, lt-ltb, eq-eqb, or_right}
use Rattle.std.proofs.Math.Bool.{and-false, or-true}
use Rattle.wsm_program.specs.declared.FieldTest.{FieldTest}
use Rattle.wsm_program.specs.declared.Instr.{Instr}
use Rattle.wsm_program.specs.declared.Instr.TheVariants.{Jump, JumpIfFalse, Test}
use Rattle.wsm_program.specs.declared.SectionId.{SectionId}
use Rattle.wsm_rules.specs.declared.known.Known.{Known}
use Rattle.wsm_rules.specs.declared.known.Known.TheVariants.{Truth}
use Rattle.wsm_rules.specs.Labels.{State, Label, Unreached, Reached, Visit, same_type, same_types, hull_known, hull_lists, agree, hull_states, hull_all, narrowed, along, carried_to, visit, visit_of}
use Rattle.wsm_program.specs.Instructions.{may_stand, opposite_test, is_later}
use Rattle.wsm_rules.specs.Rules.{Setting, fold_missing, fault_of}
use Rattle.wsm_compiler.specs.TermCode.{choice}
use Rattle.wsm_compiler.proofs.Visits.{extended, added, extended_is, added_append, carries, carries_append, faults, faults_append}
use Rattle.wsm_compiler.proofs.Hulls.{stack_self, types_self, flags_self, agreeing, hull_with}
use Rattle.wsm_compiler.proofs.Parts.{Comes, Labels, Labelled, shorter, continued, visit_is, fault_is}
use Rattle.wsm_compiler.proofs.Tests.{tested, not_last, with_known, pushed_on}
use Rattle.wsm_semantics.proofs.MergedRecords.{unlike}

-- what is known behind two parts of which one is run; the second stands later
abbrev pub hulled : Option Known → Option Known → Option Known
hulled (Some a) (Some b) = Some (hull_known b a)
hulled x b = None

-- ---- the two jumps have no fault

missing_at_test : (id : SectionId) (t : ℕ) (fs : List Bool) → fold_missing id (JumpIfFalse t) fs ≡ false
missing_at_test id t fs = grind arith

missing_at_jump : (id : SectionId) (t : ℕ) (fs : List Bool) → fold_missing id (Jump t) fs ≡ false
missing_at_jump id t fs = grind arith

well : (n p t : ℕ) → p < t → t < n → not (is_later n p t) ≡ false
well n p t h l = (λ i. not (lt-ltb p t h i && lt-ltb t n l i))

pub has_one : (n : ℕ) → nat_lt (suc n) 1 ≡ false
has_one n = grind arith

pub not_under : (n : ℕ) → nat_lt n 0 ≡ false
not_under n = grind arith

pub room_at_test : (n : ℕ) → n < 32 → nat_lt 33 (suc n + 0) ≡ false
room_at_test n h = grind arith

pub room_at_jump : (n : ℕ) → n ≤ 32 → nat_lt 32 (n + 0) ≡ false
room_at_jump n h = grind arith

pub test_passes : (c : Setting) (k t : ℕ) (s : State) → length s.stack < 32 → k < t → t < c.n → suc k < c.n → is_some (fault_of c k (JumpIfFalse t) (Reached (with_known Truth s))) ≡ false
test_passes c k t s room later inside more = grind (arith, tested, with_known, has_one, room_at_test, missing_at_test, well, not_last)

pub jump_passes : (c : Setting) (k t : ℕ) (s : State) → length s.stack ≤ 32 → k < t → t < c.n → is_some (fault_of c k (Jump t) (Reached s)) ≡ false
jump_passes c k t s room later inside = grind (arith, tested, not_under, room_at_jump, missing_at_jump, well)

-- ---- their edges

other_place : (q p : ℕ) → p < q → nat_eq q p ≡ false
other_place q p h = grind arith

abbrev leads_two : ℕ → ℕ → ℕ → Bool
leads_two k t q = nat_lt k q && (nat_eq q (suc k) || (nat_eq q t || false))

to_next : (k t : ℕ) → leads_two k t (k + 1) ≡ true
to_next k t = (λ i. lt-ltb k (k + 1) (omega arith) i && (eq-eqb (k + 1) (suc k) (omega arith) i || (nat_eq (k + 1) t || false)))

to_target : (k t : ℕ) → k < t → leads_two k t t ≡ true
to_target k t h = (λ i. lt-ltb k t h i && or_right (nat_eq t (suc k)) (nat_eq t t || false) (λ j. eq-eqb t t refl j || false) i)

to_no_other : (k t q : ℕ) → k + 1 < q → nat_eq q t ≡ false → leads_two k t q ≡ false
to_no_other k t q h l = (λ i. lt-ltb k q (omega (arith, h)) i && (other_place q (suc k) (omega (arith, h)) i || (l i || false)))

to_jump : (k t : ℕ) → k < t → (nat_lt k t && (nat_eq t t || false)) ≡ true
to_jump k t h = (λ i. lt-ltb k t h i && (eq-eqb t t refl i || false))

jump_to_no_other : (k t q : ℕ) → nat_eq q t ≡ false → (nat_lt k q && (nat_eq q t || false)) ≡ false
jump_to_no_other k t q l = ap (λ x. nat_lt k q && (x || false)) l ∙ and-false (nat_lt k q)

-- ---- a jump of two edges

-- the same state with other fields
abbrev pub with_fields : List Known → State → State
with_fields fs s = record s { fields = fs }

-- the jump at place i has no fault; its edge to the next place carries a state, that to its target another, and there are no others
pub record Branches (c : Setting) (i t : ℕ) (j : Instr) (before yes other : State) : Type 0 where
  pub passes : is_some (fault_of c i j (Reached before)) ≡ false
  pub to_first : carried_to (i + 1) (visit c.ranges i j (Reached before)) ≡ Some yes
  pub to_second : carried_to t (visit c.ranges i j (Reached before)) ≡ Some other
  pub to_none : (q : ℕ) → i + 1 < q → nat_eq q t ≡ false → carried_to q (visit c.ranges i j (Reached before)) ≡ None

pub truth_branches : (c : Setting) (i t : ℕ) (s : State) → length s.stack < 32 → i + 1 < t → t < c.n → Branches c i t (JumpIfFalse t) (with_known Truth s) s s
truth_branches c i t s room later inside = grind (arith, test_passes, to_next, to_target, to_no_other)

missing_at_field : (id : SectionId) (x : FieldTest) (t : ℕ) (fs : List Bool) → fold_missing id (Test x t) fs ≡ false
missing_at_field id x t fs = grind arith

-- a test of a field, where it may stand
pub field_branches : (c : Setting) (i t : ℕ) (x : FieldTest) (s : State) → may_stand c.section (Test x t) ≡ true → length s.stack < 32 → i + 1 < t → t < c.n → Branches c i t (Test x t) s (narrowed x s) (narrowed (opposite_test x) s)
field_branches c i t x s stands room later inside =
    let apart : nat_eq t (suc i) ≡ false = other_place t (suc i) (omega (arith, later)) in
    let next : nat_eq (i + 1) (suc i) ≡ true = eq-eqb (i + 1) (suc i) (omega arith) in
    let yes = narrowed x s in
    let other = narrowed (opposite_test x) s in
    record {
      passes = tested c i (Test x t) s false false false false false false false false false false false
          (ap not stands) (not_under (length s.stack)) refl refl refl refl refl (room_at_jump (length s.stack) (omega (arith, room))) (missing_at_field c.section x t s.folded)
          (well c.n i t (omega (arith, later)) inside) (not_last true i c.n (omega (arith, later, inside)));
      to_first = (λ j. cond (to_next i t j) (Some (cond (apart j) s (cond (next j) yes other))) None);
      to_second = (λ j. cond (to_target i t (omega (arith, later)) j) (Some (cond (apart j) s (cond (apart j) yes other))) None);
      to_none = λ q l h. ap (λ b. cond b (Some (along (Test x t) i q s)) None) (to_no_other i t q l h);
    }

-- ---- the choice

abbrev pub place_of_second : ℕ → ℕ → ℕ
place_of_second i m = i + 1 + m + 1

abbrev reached_if : Option State → Label
reached_if None = Unreached
reached_if (Some s) = Reached s

-- a choice that begins at place i, with m and n places in its parts
module _ (e : State) (c : Setting) (i m n : ℕ) (go : ℕ → Instr) (first second : List Instr) (before s : State) (fy fn : List Known) (hm : length first ≡ m) (hn : length second ≡ n) (pm : 0 < m) (pn : 0 < n)
    (inside : i + 1 + m + 1 + n < c.n) (room : length s.stack < 32) (branches : Branches c i (place_of_second i m) (go (place_of_second i m)) before (with_fields fy s) (with_fields fn s))
    (back : hull_lists fn fy ≡ s.fields) (alike : same_types fn fy ≡ true) (vs : List Visit) (at : Comes e vs i before (length (choice go (i + 1) first m second n))) where
  abbrev yes : State
  yes = with_fields fy s

  abbrev other : State
  other = with_fields fn s

  abbrev test : Instr
  test = go (place_of_second i m)

  abbrev jump : Instr
  jump = Jump (place_of_second i m + n)

  abbrev v0 : Visit
  v0 = visit_of e c.ranges test vs

  abbrev ws0 : List Visit
  ws0 = v0 ∷ vs

  span : length (choice go (i + 1) first m second n) ≡ m + n + 2
  span = let l = length-append first (jump ∷ second) in omega (arith, l, hm, hn)

  v0_is : v0 ≡ visit c.ranges i test (Reached before)
  v0_is = visit_is e c.ranges test vs i before at.long at.label

  passes0 : faults c (v0 ∷ []) ≡ false
  passes0 = ap (λ w. faults c (w ∷ [])) v0_is ∙ fault_is c i test (Reached before) ∙ branches.passes

  no_edge : (q : ℕ) → i + 1 < q → nat_eq q (place_of_second i m) ≡ false → carried_to q v0 ≡ None
  no_edge q l h = ap (carried_to q) v0_is ∙ branches.to_none q l h

  quiet_before : (q : ℕ) → i < q → q < i + m + n + 2 → carries q vs ≡ []
  quiet_before q l h = at.quiet q l (omega (arith, h, span))

  ws0_at : (o : Option State) (q : ℕ) → carried_to q v0 ≡ o → i < q → q < i + m + n + 2 → carries q ws0 ≡ cons_option o []
  ws0_at o q h l u = (λ j. cons_option (h j) (quiet_before q l u j))

  comes0 : Comes e ws0 (i + 1) yes (length first + 1)
  comes0 = grind (arith, ws0_at, v0_is, no_edge, unlike)

  abbrev ws1 : List Visit
  ws1 = extended e c.ranges ws0 first

  abbrev new1 : List Visit
  new1 = added e c.ranges ws0 first

  abbrev v1 : Visit
  v1 = visit_of e c.ranges jump ws1

  abbrev ws2 : List Visit
  ws2 = v1 ∷ ws1

  abbrev new2 : List Visit
  new2 = added e c.ranges ws2 second

  abbrev whole : List Visit
  whole = added e c.ranges vs (choice go (i + 1) first m second n)

  whole_is : whole ≡ ((new2 ++ v1 ∷ []) ++ new1) ++ v0 ∷ []
  whole_is = ap (λ zs. zs ++ v0 ∷ []) (added_append e c.ranges ws0 first (jump ∷ second))

  faults_whole : faults c whole ≡ (((faults c new2 || faults c (v1 ∷ [])) || faults c new1) || faults c (v0 ∷ []))
  faults_whole = grind (arith, faults, whole_is, faults_append)

  carries_whole : (q : ℕ) → carries q whole ≡ ((carries q new2 ++ carries q (v1 ∷ [])) ++ carries q new1) ++ carries q (v0 ∷ [])
  carries_whole q = grind (arith, carries, whole_is, carries_append)

  -- ---- behind the first part, where its state is known

  module _ (t : State) (low : length t.stack ≤ 32) (a : Labels e c ws0 (i + 1) first (Some t)) where
    comes1 : Comes e ws1 (i + 1 + length first) t 1
    comes1 = continued e c ws0 (i + 1) first 1 yes t (omega (arith, hm, pm)) (omega arith) comes0 a

    v1_is : v1 ≡ visit c.ranges (i + 1 + length first) jump (Reached t)
    v1_is = visit_is e c.ranges jump ws1 (i + 1 + length first) t comes1.long comes1.label

    passes1 : faults c (v1 ∷ []) ≡ false
    passes1 = grind (arith, faults, v1_is, fault_is, jump_passes)

    edge_on : (b : Bool) (q : ℕ) → (nat_lt (i + 1 + length first) q && (nat_eq q (place_of_second i m + n) || false)) ≡ b → carried_to q v1 ≡ cond b (Some t) None
    edge_on b q h = ap (carried_to q) v1_is ∙ ap (λ x. cond x (Some t) None) h

    ws1_at : (o : Option State) (q : ℕ) → carried_to q v0 ≡ o → i + 1 + length first < q → q < i + m + n + 2 → carries q ws1 ≡ cons_option o []
    ws1_at o q h l u =
        ap (carries q) (extended_is e c.ranges ws0 first) ∙ carries_append q new1 ws0
        ∙ (λ j. a.quiet t refl q l j ++ ws0_at o q h (omega (arith, l)) u j)

    comes2 : Comes e ws2 (place_of_second i m) other (length second)
    comes2 = record {
      long = omega (arith, comes1.long, hm);
      label = ap hull_all
          (λ j. cons_option (edge_on false (place_of_second i m) (jump_to_no_other (i + 1 + length first) (place_of_second i m + n) (place_of_second i m) (unlike _ _ (omega (arith, pn)))) j)
          (ws1_at (Some other) (place_of_second i m) (ap (carried_to (place_of_second i m)) v0_is ∙ branches.to_second) (omega (arith, hm)) (omega (arith, pn)) j));
      quiet = λ q l h.
          (λ j. cons_option (edge_on false q (jump_to_no_other (i + 1 + length first) (place_of_second i m + n) q (unlike _ _ (omega (arith, h, hn)))) j)
          (ws1_at None q (no_edge q (omega (arith, l)) (other_place q (place_of_second i m) l)) (omega (arith, l, hm)) (omega (arith, h, hn)) j));
    }

    -- ---- behind the second, where its state is known too

    module _ (u : State) (b : Labels e c ws2 (place_of_second i m) second (Some u)) (agrees : agree u t ≡ true) where
      at_end : hull_all (carries (i + length (choice go (i + 1) first m second n)) whole) ≡ Reached (hull_states u t)
      at_end =
          let end = place_of_second i m + n in
          let is : i + length (choice go (i + 1) first m second n) ≡ end = omega (arith, span) in
          let there : place_of_second i m + length second ≡ end = omega (arith, hn) in
          ap (λ q. hull_all (carries q whole)) is
          ∙ ap hull_all
          (carries_whole end
          ∙ (λ j. ((carries end new2 ++ cons_option (edge_on true end (to_jump (i + 1 + length first) end (omega (arith, hm))) j) []) ++ a.quiet t refl end (omega (arith, hm, pn)) j)
          ++ cons_option (no_edge end (omega arith) (other_place end (place_of_second i m) (omega (arith, pn))) j) [])
          ∙ append-nil ((carries end new2 ++ t ∷ []) ++ []) ∙ append-nil (carries end new2 ++ t ∷ []))
          ∙ hull_with (carries end new2) u t (ap (λ q. hull_all (carries q new2)) (sym there) ∙ b.gives u refl) agrees

      past_end : (q : ℕ) → i + length (choice go (i + 1) first m second n) < q → carries q whole ≡ []
      past_end q l =
          carries_whole q
          ∙ (λ j. ((b.quiet u refl q (omega (arith, l, span, hn)) j
          ++ cons_option (edge_on false q (jump_to_no_other (i + 1 + length first) (place_of_second i m + n) q (other_place q (place_of_second i m + n) (omega (arith, l, span)))) j) [])
          ++ a.quiet t refl q (omega (arith, l, span, hm)) j)
          ++ cons_option (no_edge q (omega (arith, l, span)) (other_place q (place_of_second i m) (omega (arith, l, span))) j) [])

  -- the first part has a fault; or the second has; or none has
  first_faulty : faults c new1 ≡ true → Labels e c vs i (choice go (i + 1) first m second n) None
  first_faulty h = grind (arith, faults_whole, faults, or-true)

  second_faulty : faults c new2 ≡ true → Labels e c vs i (choice go (i + 1) first m second n) None
  second_faulty h = grind (arith, faults_whole, faults)

  abbrev Rest : Option Known → Type 0
  Rest x2 = (ws : List Visit) → Comes e ws (place_of_second i m) other (length second) → Labels e c ws (place_of_second i m) second (pushed_on other x2)

  chosen_with : (a b : Known) → same_type b a ≡ true → Labels e c ws0 (i + 1) first (Some (with_known a yes)) → Labels e c ws2 (place_of_second i m) second (Some (with_known b other)) →
      Labels e c vs i (choice go (i + 1) first m second n) (Some (with_known (hull_known b a) s))
  chosen_with a b same la lb =
      let t = with_known a yes in
      let u = with_known b other in
      let low : length t.stack ≤ 32 = omega (arith, room) in
      let agrees : agree u t ≡ true = agreeing u t (and_from (same_type b a) _ same (types_self s.stack)) (flags_self s.folded) alike in
      let is : hull_states u t ≡ with_known (hull_known b a) s = (λ j. record { stack = hull_known b a ∷ stack_self s.stack j; folded = s.folded; fields = back j }) in
      record {
        faulty = faults_whole ∙ (λ j. ((lb.faulty j || passes1 t low la j) || la.faulty j) || passes0 j);
        gives = λ w h. at_end t low la u lb agrees ∙ ap Reached is ∙ ap reached_if h;
        quiet = λ w h q l. past_end t low la u lb agrees q l;
      }

  behind_first : (x1 x2 : Option Known) → ((a b : Known) → x1 ≡ Some a → x2 ≡ Some b → same_type b a ≡ true) → Labels e c ws0 (i + 1) first (pushed_on yes x1) → Rest x2 →
      Labels e c vs i (choice go (i + 1) first m second n) (pushed_on s (hulled x1 x2))
  behind_first None x2 same la rest = first_faulty la.faulty
  behind_first (Some a) None same la rest = second_faulty (rest ws2 (comes2 (with_known a yes) (omega (arith, room)) la)).faulty
  behind_first (Some a) (Some b) same la rest = chosen_with a b (same a b refl refl) la (rest ws2 (comes2 (with_known a yes) (omega (arith, room)) la))

-- a jump and two parts, whose values are of one type
pub choose : (e : State) (c : Setting) (i m n : ℕ) (go : ℕ → Instr) (first second : List Instr) (before s : State) (fy fn : List Known) (x1 x2 : Option Known) → length first ≡ m → length second ≡ n → 0 < m → 0 < n →
    i + 1 + m + 1 + n < c.n → length s.stack < 32 → Branches c i (place_of_second i m) (go (place_of_second i m)) before (with_fields fy s) (with_fields fn s) → hull_lists fn fy ≡ s.fields → same_types fn fy ≡ true →
    ((a b : Known) → x1 ≡ Some a → x2 ≡ Some b → same_type b a ≡ true) →
    Labelled e c (i + 1) first (with_fields fy s) (pushed_on (with_fields fy s) x1) → Labelled e c (i + 1 + m + 1) second (with_fields fn s) (pushed_on (with_fields fn s) x2) →
    Labelled e c i (choice go (i + 1) first m second n) before (pushed_on s (hulled x1 x2))
choose e c i m n go first second before s fy fn x1 x2 hm hn pm pn inside room branches back alike same lf ls vs at =
    behind_first e c i m n go first second before s fy fn hm hn pm pn inside room branches back alike vs at x1 x2 same
    (lf _ (shorter e _ (i + 1) (with_fields fy s) (length first) 1 (comes0 e c i m n go first second before s fy fn hm hn pm pn inside room branches back alike vs at))) ls

-- What the pass keeps, from one place to the next.
use Rattle.std.proofs.Common.{◌≡◌, ◌≢◌, ℕ, zero, suc, ◌+◌, ◌<◌, ◌≤◌, Bool, true, false, ◌&&◌, ◌||◌, not, cond, List, [], ◌∷◌, ◌++◌, length, take, drop, reverse, get_or, set, Option, Some, None, refl, sym, ap, ◌∙◌, subst, arith, length-set}
use Rattle.std.proofs.lemmas.Bool.{true≢false, eqb-true, ltb-true}
use Rattle.std.proofs.lemmas.List.{get_or-set_other, get_or-set_same, take-append-drop, take-append-le, take_all, reverse-append, length-reverse, length-take-le}
use Rattle.std.proofs.lemmas.Option.{slice_get_within, slice_get-get_or}
use Rattle.std.specs.Prelude.{nat_eq, nat_lt, slice_get, slice_index_or, option_map}
use Rattle.std.proofs.Math.Bool.{or-false}
use Rattle.std.specs.List.{list_any}
use Rattle.wsm_interval.specs.declared.Interval.{Interval}
use Rattle.wsm_program.specs.declared.FieldTest.{FieldTest}
use Rattle.wsm_program.specs.declared.Instr.{Instr}
use Rattle.wsm_program.specs.declared.Edges.{Edges}
use Rattle.wsm_program.specs.declared.Edges.TheVariants.{Nowhere, Next, Target, Either, Tested}
use Rattle.wsm_program.specs.Instructions.{opposite_test, edges, places, is_bad, target_of}
use Rattle.wsm_rules.specs.declared.rejection.Rule.{Rule}
use Rattle.wsm_rules.specs.declared.rejection.Rejection.{Rejection}
use Rattle.wsm_rules.specs.declared.rejection.Part.TheVariants.{Code}
use Rattle.wsm_rules.specs.Labels.{State, Ranges, Label, Unreached, Reached, Visit, label_with, leads, along, carried, narrowed, left_from, carried_to, gathered, label_of, visit, visit_of, visits_back, visits}
use Rattle.wsm_rules.specs.Rules.{Setting, fault_of, fault_at, or_then, first_fault, section_fault, hull_options, value_folded, values_folded}
use Rattle.wsm_verifier.specs.Turning.{label_in, joined_at, joined_along, joined_by, turned}
use Rattle.wsm_rules.proofs.LabelPass.{with_edge, gathered_next, length-visits_back, visits_next}

-- ---- the labels that an instruction changes

is_other : (q t : ℕ) → nat_eq q t ≡ false → q ≢ t
is_other q t e = λ h. true≢false (sym (let same : nat_eq q t ≡ true = grind arith in same) ∙ e)

joined_at-at : (t : ℕ) (s : State) (labels : List Label) (q : ℕ) → q < length labels → label_in (joined_at t s labels) q ≡ with_edge (cond (nat_eq q t) (Some s) None) (label_in labels q)
joined_at-at t s labels q h =
    elim (nat_eq q t) as (λ b. nat_eq q t ≡ b → label_in (joined_at t s labels) q ≡ with_edge (cond b (Some s) None) (label_in labels q)) [
      | true ↦ λ e. subst (λ k. label_in (joined_at k s labels) q ≡ label_with s (label_in labels q)) (eqb-true q t e) (get_or-set_same labels q (label_with s (label_in labels q)) Unreached h)
      | false ↦ λ e. get_or-set_other labels t q (label_with s (label_in labels t)) Unreached (is_other q t e)
    ] refl

later : (p q : ℕ) (b : Bool) → p < q → (nat_lt p q && b) ≡ b
later p q b h = let yes : nat_lt p q ≡ true = grind arith in ap (λ t. t && b) yes

-- to one place
one_edge : (p q : ℕ) (b : Bool) (s : State) (l : Label) → p < q → with_edge (cond b (Some s) None) l ≡ with_edge (cond (nat_lt p q && (b || false)) (Some s) None) l
one_edge p q b s l h = ap (λ t. with_edge (cond t (Some s) None) l) (sym (later p q (b || false) h ∙ or-false b))

no_edge : (b : Bool) (s : State) (l : Label) → with_edge (cond (b && false) (Some s) None) l ≡ l
no_edge true s l = refl
no_edge false s l = refl

-- u to one place and v to another: a to the first, b to the second, c where both are one
two_edges : (a b c : Bool) (u v w : State) (l : Label) → (a ≡ true → b ≡ true → c ≡ true) → (b ≡ true → c ≡ true → a ≡ true) → (a ≡ true → w ≡ u) → (a ≡ false → w ≡ v) →
    with_edge (cond a (Some u) None) (with_edge (cond (not c && b) (Some v) None) l) ≡ with_edge (cond (a || (b || false)) (Some w) None) l
two_edges true true true u v w l f g first other = ap (λ x. label_with x l) (sym (first refl))
two_edges true true false u v w l f g first other = absurd (true≢false (sym (f refl refl)))
two_edges true false true u v w l f g first other = ap (λ x. label_with x l) (sym (first refl))
two_edges true false false u v w l f g first other = ap (λ x. label_with x l) (sym (first refl))
two_edges false true true u v w l f g first other = absurd (true≢false (sym (g refl refl)))
two_edges false true false u v w l f g first other = ap (λ x. label_with x l) (sym (other refl))
two_edges false false true u v w l f g first other = refl
two_edges false false false u v w l f g first other = refl

unless_at : (c : Bool) (t : ℕ) (s : State) (labels : List Label) (q : ℕ) → q < length labels →
    label_in (cond c labels (joined_at t s labels)) q ≡ with_edge (cond (not c && nat_eq q t) (Some s) None) (label_in labels q)
unless_at true t s labels q h = refl
unless_at false t s labels q h = joined_at-at t s labels q h

unless-length : (c : Bool) (t : ℕ) (s : State) (labels : List Label) → length (cond c labels (joined_at t s labels)) ≡ length labels
unless-length true t s labels = refl
unless-length false t s labels = length-set labels t _

-- what a jump that may go on makes of a label
branch_at : (t p : ℕ) (u v w : State) (labels : List Label) (q : ℕ) → p < q → q < length labels → (nat_eq q (suc p) ≡ true → w ≡ u) → (nat_eq q (suc p) ≡ false → w ≡ v) →
    label_in (joined_at (suc p) u (cond (nat_eq t (suc p)) labels (joined_at t v labels))) q ≡ with_edge (cond (nat_lt p q && (nat_eq q (suc p) || (nat_eq q t || false))) (Some w) None) (label_in labels q)
branch_at t p u v w labels q more h first other =
    joined_at-at (suc p) u (cond (nat_eq t (suc p)) labels (joined_at t v labels)) q (omega (arith, unless-length (nat_eq t (suc p)) t v labels))
    ∙ ap (with_edge (cond (nat_eq q (suc p)) (Some u) None)) (unless_at (nat_eq t (suc p)) t v labels q h)
    ∙ two_edges (nat_eq q (suc p)) (nat_eq q t) (nat_eq t (suc p)) u v w (label_in labels q) (λ a b. grind arith) (λ b c. grind arith) first other
    ∙ ap (λ x. with_edge (cond x (Some w) None) (label_in labels q)) (sym (later p q _ more))

-- the edges of a test to places other than the next one carry the same
by_target : (x : FieldTest) (t p q : ℕ) (s : State) → nat_eq q (suc p) ≡ false → carried (Tested x t) p q s ≡ carried (Tested x t) p t s
by_target x t p q s h =
    elim (nat_eq t (suc p)) as (λ b. cond b s (cond (nat_eq q (suc p)) (narrowed x s) (narrowed (opposite_test x) s)) ≡ cond b s (cond b (narrowed x s) (narrowed (opposite_test x) s))) [
      | true ↦ refl
      | false ↦ ap (λ b. cond b (narrowed x s) (narrowed (opposite_test x) s)) h
    ]

pub get_any : (ls : List Label) (t : ℕ) (d e : Label) → t < length ls → get_or ls t d ≡ get_or ls t e
get_any [] t d e h = absurd (omega arith)
get_any (l ∷ ls) zero d e h = refl
get_any (l ∷ ls) (suc t) d e h = get_any ls t d e (omega arith)

-- a label that is joined where it lies
pub joined_is : (t : ℕ) (s : State) (labels : List Label) (d new : Label) → t < length labels → new ≡ label_with s (get_or labels t d) → set labels t new ≡ joined_at t s labels
joined_is t s labels d new h e = ap (set labels t) (e ∙ ap (label_with s) (get_any labels t d Unreached h))

target_within : (a b : Bool) → not (a && b) ≡ false → b ≡ true
target_within true true e = refl
target_within true false e = absurd (true≢false e)
target_within false b e = absurd (true≢false e)

pub jump_within : (x : FieldTest) (t p n : ℕ) → is_bad n p (target_of (Tested x t)) ≡ false → t < n
jump_within x t p n e = ltb-true t n (target_within (nat_lt p t) (nat_lt t n) e)

-- what a test leaves, where its target is the next place
pub tested_same : (x : FieldTest) (t p : ℕ) (s : State) (labels : List Label) → t ≡ p + 1 → joined_along (Tested x t) p s labels ≡ joined_at t s labels
tested_same x t p s labels e =
    let next : suc p ≡ t = omega arith in
    let same : nat_eq t t ≡ true = grind arith in
    rw (next, same) refl

-- and where it is another
pub tested_apart : (x : FieldTest) (t p n : ℕ) (s : State) (labels : List Label) → n ≡ p + 1 → t ≢ n → joined_along (Tested x t) p s labels ≡ joined_at n (narrowed x s) (joined_at t (narrowed (opposite_test x) s) labels)
tested_apart x t p n s labels e apart =
    let next : suc p ≡ n = omega arith in
    let same : nat_eq n n ≡ true = grind arith in
    let other : nat_eq t n ≡ false = grind arith in
    rw (next, other, same) refl

joined_along-at : (e : Edges) (p : ℕ) (s : State) (labels : List Label) (q : ℕ) → p < q → q < length labels →
    label_in (joined_along e p s labels) q ≡ with_edge (cond (nat_lt p q && list_any (nat_eq q) (places e p)) (Some (carried e p q s)) None) (label_in labels q)
joined_along-at Nowhere p s labels q more h = sym (no_edge (nat_lt p q) s (label_in labels q))
joined_along-at Next p s labels q more h = joined_at-at (suc p) s labels q h ∙ one_edge p q (nat_eq q (suc p)) s (label_in labels q) more
joined_along-at (Target t) p s labels q more h = joined_at-at t s labels q h ∙ one_edge p q (nat_eq q t) s (label_in labels q) more
joined_along-at (Either t) p s labels q more h = branch_at t p s s s labels q more h (λ e. refl) (λ e. refl)
joined_along-at (Tested x t) p s labels q more h =
    branch_at t p (carried (Tested x t) p (suc p) s) (carried (Tested x t) p t s) (carried (Tested x t) p q s) labels q more h (λ e. ap (λ n. carried (Tested x t) p n s) (eqb-true q (suc p) e)) (by_target x t p q s)

nothing : (b : Bool) (l : Label) → l ≡ with_edge (cond b None None) l
nothing true l = refl
nothing false l = refl

joined_by-at : (i : Instr) (p : ℕ) (o : Option State) (labels : List Label) (q : ℕ) → p < q → q < length labels →
    label_in (joined_by i p o labels) q ≡ with_edge (cond (leads i p q) (option_map (along i p q) o) None) (label_in labels q)
joined_by-at i p None labels q more h = nothing (leads i p q) (label_in labels q)
joined_by-at i p (Some s) labels q more h = joined_along-at (edges i) p s labels q more h

-- a later place gets what the edges of the place carry
turned-at : (r : Ranges) (p : ℕ) (i : Instr) (labels : List Label) (q : ℕ) → p < q → q < length labels →
    label_in (turned r p i labels) q ≡ with_edge (cond (leads i p q) (option_map (along i p q) (left_from r i (label_in labels p))) None) (label_in labels q)
turned-at r p i labels q more h =
    joined_by-at i p (left_from r i (label_in labels p)) (set labels p Unreached) q more (omega (arith, length-set labels p Unreached))
    ∙ ap (with_edge (cond (leads i p q) (option_map (along i p q) (left_from r i (label_in labels p))) None)) (get_or-set_other labels p q Unreached Unreached (omega arith))

joined_along-length : (e : Edges) (p : ℕ) (s : State) (labels : List Label) → length (joined_along e p s labels) ≡ length labels
joined_along-length Nowhere p s labels = refl
joined_along-length Next p s labels = length-set labels (suc p) _
joined_along-length (Target t) p s labels = length-set labels t _
joined_along-length (Either t) p s labels = length-set (cond (nat_eq t (suc p)) labels (joined_at t s labels)) (suc p) _ ∙ unless-length (nat_eq t (suc p)) t s labels
joined_along-length (Tested x t) p s labels =
    let other = carried (Tested x t) p t s in
    length-set (cond (nat_eq t (suc p)) labels (joined_at t other labels)) (suc p) _ ∙ unless-length (nat_eq t (suc p)) t other labels

joined_by-length : (i : Instr) (p : ℕ) (o : Option State) (labels : List Label) → length (joined_by i p o labels) ≡ length labels
joined_by-length i p None labels = refl
joined_by-length i p (Some s) labels = joined_along-length (edges i) p s labels

turned-length : (r : Ranges) (p : ℕ) (i : Instr) (labels : List Label) → length (turned r p i labels) ≡ length labels
turned-length r p i labels = joined_by-length i p (left_from r i (label_in labels p)) (set labels p Unreached) ∙ length-set labels p Unreached

-- ---- the visits

-- what is kept for place q where some places are visited
abbrev pub kept_for : State → ℕ → List Visit → Label
kept_for e zero before = Reached e
kept_for e (suc q) before = gathered (suc q) before

kept_is_label : (e : State) (before : List Visit) → kept_for e (length before) before ≡ label_of e (length before) before
kept_is_label e [] = refl
kept_is_label e (v ∷ before) = refl

visit_is : (e : State) (r : Ranges) (i : Instr) (before : List Visit) (p : ℕ) (l : Label) → p ≡ length before → l ≡ kept_for e p before → visit_of e r i before ≡ visit r p i l
visit_is e r i before p l h is =
    let label : label_of e (length before) before ≡ l = sym (kept_is_label e before) ∙ ap (λ q. kept_for e q before) (sym h) ∙ sym is in
    ap (λ m. visit r (length before) i m) label ∙ ap (λ q. visit r q i l) (sym h)

length-visits : (e : State) (r : Ranges) (is : List Instr) (p : ℕ) → p ≤ length is → p ≡ length (visits e r (take p is))
length-visits e r is p h = sym (length-visits_back e r (reverse (take p is)) ∙ length-reverse (take p is) ∙ length-take-le p is h)

-- the visits of one place more, where its label is what is kept
pub visits_more : (e : State) (r : Ranges) (is : List Instr) (p : ℕ) (i : Instr) (l : Label) → slice_get is p ≡ Some i → l ≡ kept_for e p (visits e r (take p is)) →
    visits e r (take (suc p) is) ≡ visit r p i l ∷ visits e r (take p is)
visits_more e r is p i l h is_kept =
    visits_next e r is p i h
    ∙ ap (λ v. v ∷ visits e r (take p is)) (visit_is e r i (visits e r (take p is)) p l (length-visits e r is p (omega (arith, slice_get_within is p i h))) is_kept)

-- ---- what the pass keeps when place p comes next

pub record Stands (c : Setting) (e : State) (is : List Instr) (p : ℕ) (labels : List Label) (n : ℕ) (folded : List (Option Interval)) : Type 0 where
  pub some : 0 < length is
  pub long : length labels ≡ length is
  pub many : length folded ≡ n
  pub faultless : first_fault c (visits e c.ranges (take p is)) ≡ None
  pub kept : (q : ℕ) → p ≤ q → q < length is → label_in labels q ≡ kept_for e q (visits e c.ranges (take p is))
  pub values : (a : ℕ) → a < n → slice_index_or folded a None ≡ values_folded a (visits e c.ranges (take p is))

kept_more : (e : State) (q : ℕ) (v : Visit) (before : List Visit) → 0 < q → kept_for e q (v ∷ before) ≡ with_edge (carried_to q v) (kept_for e q before)
kept_more e zero v before h = absurd (omega arith)
kept_more e (suc q) v before h = gathered_next (suc q) v before

pub stands_next : (c : Setting) (e : State) (is : List Instr) (p : ℕ) (i : Instr) (labels new : List Label) (n : ℕ) (folded widened : List (Option Interval)) →
    Stands c e is p labels n folded → slice_get is p ≡ Some i → fault_of c p i (label_in labels p) ≡ None → new ≡ turned c.ranges p i labels → length widened ≡ length folded →
    ((a : ℕ) → a < length folded → slice_index_or widened a None ≡ hull_options (value_folded a i (label_in labels p)) (slice_index_or folded a None)) →
    Stands c e is (suc p) new n widened
stands_next c e is p i labels new n folded widened s here none so same values =
    let short : p < length is = slice_get_within is p i here in
    let more : visits e c.ranges (take (suc p) is) ≡ visit c.ranges p i (label_in labels p) ∷ visits e c.ranges (take p is) = visits_more e c.ranges is p i (label_in labels p) here (s.kept p (omega arith) short) in
    record {
      some = s.some;
      long = ap length so ∙ turned-length c.ranges p i labels ∙ s.long;
      many = same ∙ s.many;
      faultless = ap (first_fault c) more ∙ ap (λ o. or_then o (fault_at c (visit c.ranges p i (label_in labels p)))) s.faultless ∙ ap (option_map (λ r. record { part = Code c.section; place = p; rule = r })) none;
      kept = λ q behind within. ap (λ ls. label_in ls q) so
          ∙ turned-at c.ranges p i labels q (omega arith) (omega (arith, s.long))
          ∙ ap (with_edge (cond (leads i p q) (option_map (along i p q) (left_from c.ranges i (label_in labels p))) None)) (s.kept q (omega arith) within)
          ∙ sym (ap (kept_for e q) more ∙ kept_more e q (visit c.ranges p i (label_in labels p)) (visits e c.ranges (take p is)) (omega arith));
      values = λ a few. values a (omega (arith, s.many))
          ∙ ap (hull_options (value_folded a i (label_in labels p))) (s.values a few)
          ∙ sym (ap (values_folded a) more);
    }

-- what a slice of a vector's whole list was made, as its list
pub written : {X : Type 0} (n : ℕ) (xs ys : List X) → n ≡ length xs → length ys ≡ length xs → take n (ys ++ drop (length ys) xs) ≡ ys
written n xs ys h same = take-append-le n ys (drop (length ys) xs) (omega arith) ∙ take_all n ys (omega arith)

-- a turn of the loop, by what the code has of it
pub stands_turned : (c : Setting) (e : State) (is : List Instr) (p next : ℕ) (d : Instr) (labels seen new kept : List Label) (n : ℕ) (folded noted widened held : List (Option Interval)) →
    Stands c e is p labels n folded → next ≡ p + 1 → p < length is → seen ≡ labels → noted ≡ folded → fault_of c p (get_or is p d) (label_in seen p) ≡ None → new ≡ turned c.ranges p (get_or is p d) seen → length widened ≡ length noted →
    ((a : ℕ) → a < length noted → slice_index_or widened a None ≡ hull_options (value_folded a (get_or is p d) (label_in seen p)) (slice_index_or noted a None)) →
    kept ≡ new → held ≡ widened → Stands c e is next kept n held
stands_turned c e is p next d labels seen new kept n folded noted widened held s after within same_labels same_folded none so same values is_new is_widened =
    let more : next ≡ suc p = omega arith in
    rw (more, is_new, is_widened) (stands_next c e is p (get_or is p d) labels new n folded widened s (slice_get-get_or is p d within)
    (ap (λ ls. fault_of c p (get_or is p d) (label_in ls p)) (sym same_labels) ∙ none)
    (so ∙ ap (turned c.ranges p (get_or is p d)) same_labels)
    (same ∙ ap length same_folded)
    (λ a few. values a (omega (arith, ap length same_folded)) ∙ rw (same_labels, same_folded) refl))

-- ---- what it comes to

fault_stays : (c : Setting) (e : State) (r : Ranges) (more is : List Instr) (x : Rejection) → first_fault c (visits_back e r is) ≡ Some x → first_fault c (visits_back e r (more ++ is)) ≡ Some x
fault_stays c e r [] is x h = h
fault_stays c e r (i ∷ more) is x h = ap (λ o. or_then o (fault_at c (visit_of e r i (visits_back e r (more ++ is))))) (fault_stays c e r more is x h)

reverse_parts : (p : ℕ) (is : List Instr) → reverse is ≡ reverse (drop p is) ++ reverse (take p is)
reverse_parts p is = ap reverse (sym (take-append-drop p is)) ∙ reverse-append (take p is) (drop p is)

some_fault : (c : Setting) (vs : List Visit) (x : Rejection) → first_fault c vs ≡ Some x → section_fault c vs ≡ Some x
some_fault c [] x h = absurd (none≢some h)
  where
    none≢some : {A : Type 0} {a : A} → None ≡ Some a → ⊥
    none≢some {A} {a} e = let tag : Option A → Bool = λ o. elim o [ None ↦ true | Some x ↦ false ] in true≢false (ap tag e)
some_fault c (v ∷ vs) x h = h

-- the first fault of a section is the first that is found
found_first : (c : Setting) (e : State) (is : List Instr) (p : ℕ) (i : Instr) (labels : List Label) (n : ℕ) (folded : List (Option Interval)) (x : Rule) →
    Stands c e is p labels n folded → slice_get is p ≡ Some i → fault_of c p i (label_in labels p) ≡ Some x →
    section_fault c (visits e c.ranges is) ≡ Some (record { part = Code c.section; place = p; rule = x })
found_first c e is p i labels n folded x s here fault =
    let more : visits e c.ranges (take (suc p) is) ≡ visit c.ranges p i (label_in labels p) ∷ visits e c.ranges (take p is) = visits_more e c.ranges is p i (label_in labels p) here (s.kept p (omega arith) (slice_get_within is p i here)) in
    let found : first_fault c (visits e c.ranges (take (suc p) is)) ≡ Some (record { part = Code c.section; place = p; rule = x }) = ap (first_fault c) more
    ∙ ap (λ o. or_then o (fault_at c (visit c.ranges p i (label_in labels p)))) s.faultless
    ∙ ap (option_map (λ r. record { part = Code c.section; place = p; rule = r })) fault in
    some_fault c (visits e c.ranges is) _ (ap (λ js. first_fault c (visits_back e c.ranges js)) (reverse_parts (suc p) is)
    ∙ fault_stays c e c.ranges (reverse (drop (suc p) is)) (reverse (take (suc p) is)) _ found)

pub stands_refused : (c : Setting) (e : State) (is : List Instr) (p : ℕ) (d : Instr) (labels seen : List Label) (n : ℕ) (folded : List (Option Interval)) (x : Rule) →
    Stands c e is p labels n folded → p < length is → seen ≡ labels → fault_of c p (get_or is p d) (label_in seen p) ≡ Some x →
    section_fault c (visits e c.ranges is) ≡ Some (record { part = Code c.section; place = p; rule = x })
stands_refused c e is p d labels seen n folded x s within same fault =
    found_first c e is p (get_or is p d) labels n folded x s (slice_get-get_or is p d within) (ap (λ ls. fault_of c p (get_or is p d) (label_in ls p)) (sym same) ∙ fault)

some_visits : (c : Setting) (vs : List Visit) → 0 < length vs → section_fault c vs ≡ first_fault c vs
some_visits c [] h = absurd (omega arith)
some_visits c (v ∷ vs) h = refl

-- a section has no fault where none is found
pub stands_passed : (c : Setting) (e : State) (is : List Instr) (p : ℕ) (labels : List Label) (n : ℕ) (folded : List (Option Interval)) →
    Stands c e is p labels n folded → length is ≤ p → section_fault c (visits e c.ranges is) ≡ None
stands_passed c e is p labels n folded s end =
    some_visits c (visits e c.ranges is) (omega (arith, s.some, length-visits_back e c.ranges (reverse is), length-reverse is))
    ∙ ap (λ js. first_fault c (visits e c.ranges js)) (sym (take_all p is end)) ∙ s.faultless

-- Sections that end by a return: whether one of their places has a fault.
use Rattle.std.proofs.Common.{◌≡◌, ℕ, ◌+◌, ◌≤◌, ◌<◌, Bool, true, false, ◌||◌, List, [], ◌∷◌, ◌++◌, length, Option, Some, None, refl, sym, ap, subst, ◌∙◌, arith, length-append}
use Rattle.std.specs.Prelude.{is_some}
use Rattle.std.proofs.Math.Bool.{or-false, or-true}
use Rattle.std.proofs.lemmas.Option.{same_Some}
use Rattle.wsm_program.specs.declared.instr.Instr.{Instr}
use Rattle.wsm_program.specs.declared.instr.Instr.TheVariants.{Return}
use Rattle.wsm_program.specs.declared.SectionId.{SectionId}
use Rattle.wsm_program.specs.Program.{Program, section}
use Rattle.wsm_rules.specs.declared.known.Known.{Known}
use Rattle.wsm_rules.specs.Labels.{State, Ranges, Visit, same_types}
use Rattle.wsm_rules.specs.Rules.{Setting, fold_missing, section_fault, setting, entry, fault_in}
use Rattle.wsm_compiler.proofs.Visits.{extended, added, added_append, length-added, visits_are, faults, faults_append}
use Rattle.wsm_machine.proofs.FittingStacks.{no}
use Rattle.wsm_compiler.proofs.Parts.{Comes, Labelled, shorter, continued, visit_is, fault_is}
use Rattle.wsm_compiler.proofs.Tests.{tested, with_known, pushed_on}
use Rattle.wsm_compiler.proofs.Choices.{room_at_jump, not_under}

-- instructions up to the end of their section: whether they have a fault
abbrev pub Ends : State → Setting → ℕ → List Instr → State → Bool → Type 0
Ends e c k is s b = (vs : List Visit) → Comes e vs k s (length is) → faults c (added e c.ranges vs is) ≡ b

-- a fault of the first part, or what comes behind what is known there
abbrev pub or_behind : {A : Type 0} → Option A → (A → Bool) → Bool
or_behind None g = true
or_behind (Some t) g = g t

pub sequence_ends : (e : State) (c : Setting) (k : ℕ) (is js : List Instr) (s : State) (o : Option State) (g : State → Bool) → 0 < length is → 0 < length js →
    Labelled e c k is s o → ((t : State) → o ≡ Some t → Ends e c (k + length is) js t (g t)) → Ends e c k (is ++ js) s (or_behind o g)
sequence_ends e c k is js s None g hi hj first rest vs at =
    let a = first vs (shorter e vs k s (length is) (length js) (subst (λ m. Comes e vs k s m) (length-append is js) at)) in
    let ws = extended e c.ranges vs is in
    ap (faults c) (added_append e c.ranges vs is js) ∙ faults_append c (added e c.ranges ws js) (added e c.ranges vs is) ∙ ap (λ b. faults c (added e c.ranges ws js) || b) a.faulty ∙ or-true (faults c (added e c.ranges ws js))
sequence_ends e c k is js s (Some t) g hi hj first rest vs at =
    let whole = subst (λ m. Comes e vs k s m) (length-append is js) at in
    let a = first vs (shorter e vs k s (length is) (length js) whole) in
    let ws = extended e c.ranges vs is in
    ap (faults c) (added_append e c.ranges vs is js) ∙ faults_append c (added e c.ranges ws js) (added e c.ranges vs is) ∙ ap (λ b. faults c (added e c.ranges ws js) || b) a.faulty ∙ or-false (faults c (added e c.ranges ws js))
    ∙ rest t refl ws (continued e c vs k is (length js) s t hi hj whole a)

-- a part of n places that pushes a value, and what ends the section
pub follow_ends : (e : State) (c : Setting) (k n : ℕ) (is js : List Instr) (s : State) (o : Option Known) (g : Known → Bool) → length is ≡ n → 0 < length is → 0 < length js →
    Labelled e c k is s (pushed_on s o) → ((x : Known) → o ≡ Some x → Ends e c (k + n) js (with_known x s) (g x)) → Ends e c k (is ++ js) s (or_behind o g)
follow_ends e c k n is js s None g hn hi hj first rest =
    sequence_ends e c k is js s None (λ t. true) hi hj first (λ t h. no (ap is_some h))
follow_ends e c k n is js s (Some x) g hn hi hj first rest =
    sequence_ends e c k is js s (Some (with_known x s)) (λ t. g x) hi hj first
    (λ t h. subst (λ w. Ends e c (k + length is) js w (g x)) (same_Some (with_known x s) t h) (subst (λ m. Ends e c (k + m) js (with_known x s) (g x)) (sym hn) (rest x refl)))

-- ---- the return

-- it has no fault on exactly what its section ends with
pub return_ends : (e : State) (c : Setting) (k : ℕ) (s : State) → same_types s.stack c.ends ≡ true → fold_missing c.section Return s.folded ≡ false → length s.stack ≤ 32 → Ends e c k (Return ∷ []) s false
return_ends e c k s types folded low vs at = grind (arith, faults, visit_is, fault_is, tested, not_under, room_at_jump)

-- ---- a whole section

some_fault : (c : Setting) (vs : List Visit) → 0 < length vs → is_some (section_fault c vs) ≡ faults c vs
some_fault c vs h = grind arith

pub whole_section : (p : Program) (id : SectionId) (r : Ranges) (b : Bool) → 0 < length (section p id) → Ends (entry p) (setting p id r) 0 (section p id) (entry p) b → is_some (fault_in p id r) ≡ b
whole_section p id r b long h =
    let c = setting p id r in
    let is = section p id in
    let vs = added (entry p) r [] is in
    ap (λ w. is_some (section_fault c w)) (visits_are (entry p) r is)
    ∙ some_fault c vs (omega (arith, length-added (entry p) r [] is, long))
    ∙ h [] (record { long = refl; label = refl; quiet = λ q l u. refl })

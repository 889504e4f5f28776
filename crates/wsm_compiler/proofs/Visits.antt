-- The visits of a section's places, a part of the section at a time.
use Rattle.std.proofs.Common.{◌≡◌, ℕ, ◌+◌, ◌<◌, Bool, ◌||◌, List, [], ◌∷◌, ◌++◌, length, reverse, Option, refl, sym, ap, ◌∙◌, arith, append_assoc, length-append, append-nil}
use Rattle.std.proofs.lemmas.List.{reverse-append}
use Rattle.std.specs.Prelude.{is_some}
use Rattle.std.proofs.lemmas.List.Elements.{filter_map-append}
use Rattle.std.specs.List.{filter_map}
use Rattle.wsm_program.specs.declared.Instr.{Instr}
use Rattle.wsm_rules.specs.declared.rejection.Rejection.{Rejection}
use Rattle.wsm_rules.specs.Labels.{State, Ranges, Visit, carried_to, gathered, label_of, visit_of, visited_next, visits_back, visits}
use Rattle.wsm_rules.specs.Rules.{Setting, fault_at, or_then, first_fault}

pub both_empty : {A : Type 0} (xs ys : List A) → xs ≡ [] → ys ≡ [] → xs ++ ys ≡ []
both_empty xs ys h l = (λ i. h i ++ l i)

-- the visits with those of some instructions more, the last first
abbrev pub extended : State → Ranges → List Visit → List Instr → List Visit
extended e r vs [] = vs
extended e r vs (i ∷ is) = extended e r (visited_next e r i vs) is

-- those of these instructions alone
abbrev pub added : State → Ranges → List Visit → List Instr → List Visit
added e r vs [] = []
added e r vs (i ∷ is) = added e r (visited_next e r i vs) is ++ visit_of e r i vs ∷ []

pub extended_is : (e : State) (r : Ranges) (vs : List Visit) (is : List Instr) → extended e r vs is ≡ added e r vs is ++ vs
extended_is e r vs [] = refl
extended_is e r vs (i ∷ is) =
    extended_is e r (visited_next e r i vs) is ∙ sym (append_assoc (added e r (visited_next e r i vs) is) (visit_of e r i vs ∷ []) vs)

pub added_append : (e : State) (r : Ranges) (vs : List Visit) (is js : List Instr) → added e r vs (is ++ js) ≡ added e r (extended e r vs is) js ++ added e r vs is
added_append e r vs [] js = sym (append-nil (added e r vs js))
added_append e r vs (i ∷ is) js =
    let ws = visited_next e r i vs in
    ap (λ xs. xs ++ visit_of e r i vs ∷ []) (added_append e r ws is js)
    ∙ append_assoc (added e r (extended e r ws is) js) (added e r ws is) (visit_of e r i vs ∷ [])

pub length-added : (e : State) (r : Ranges) (vs : List Visit) (is : List Instr) → length (added e r vs is) ≡ length is
length-added e r vs [] = refl
length-added e r vs (i ∷ is) =
    let h = length-added e r (visited_next e r i vs) is in
    let l = length-append (added e r (visited_next e r i vs) is) (visit_of e r i vs ∷ []) in
    omega (arith, h, l)

pub length-extended : (e : State) (r : Ranges) (vs : List Visit) (is : List Instr) → length (extended e r vs is) ≡ length vs + length is
length-extended e r vs is = grind (arith, length-added, extended_is, length-append)

visits_after : (e : State) (r : Ranges) (before is : List Instr) → visits_back e r (reverse is ++ before) ≡ extended e r (visits_back e r before) is
visits_after e r before [] = refl
visits_after e r before (i ∷ is) =
    ap (visits_back e r) (ap (λ xs. xs ++ before) (reverse-append (i ∷ []) is) ∙ append_assoc (reverse is) (i ∷ []) before)
    ∙ visits_after e r (i ∷ before) is

-- a section's visits are those of its instructions, from none on
pub visits_are : (e : State) (r : Ranges) (is : List Instr) → visits e r is ≡ added e r [] is
visits_are e r is =
    ap (visits_back e r) (sym (append-nil (reverse is))) ∙ visits_after e r [] is ∙ extended_is e r [] is ∙ append-nil (added e r [] is)

-- what edges from these places carry to a place, the last first
abbrev pub carries : ℕ → List Visit → List State
carries q vs = filter_map (carried_to q) vs

pub carries_append : (q : ℕ) (vs ws : List Visit) → carries q (vs ++ ws) ≡ carries q vs ++ carries q ws
carries_append q vs ws = filter_map-append (carried_to q) vs ws

-- behind the first place a label is what edges carry there
pub label_gathered : (e : State) (q : ℕ) (vs : List Visit) → 0 < length vs → label_of e q vs ≡ gathered q vs
label_gathered e q vs h = grind arith

-- ---- whether one of the places has a fault

abbrev pub faults : Setting → List Visit → Bool
faults c vs = is_some (first_fault c vs)

pub some_or : (a b : Option Rejection) → is_some (or_then a b) ≡ (is_some a || is_some b)
some_or a b = grind arith

swapped : (a b d : Bool) → ((a || b) || d) ≡ ((a || d) || b)
swapped a b d = grind arith

pub faults_append : (c : Setting) (vs ws : List Visit) → faults c (vs ++ ws) ≡ (faults c vs || faults c ws)
faults_append c [] ws = refl
faults_append c (v ∷ vs) ws =
    some_or (first_fault c (vs ++ ws)) (fault_at c v)
    ∙ ap (λ b. b || is_some (fault_at c v)) (faults_append c vs ws)
    ∙ swapped (faults c vs) (faults c ws) (is_some (fault_at c v))
    ∙ ap (λ b. b || faults c ws) (sym (some_or (first_fault c vs) (fault_at c v)))

-- One pass over a section gives its labels: what a place adds, and that later places add nothing.
use Rattle.std.proofs.Common.{◌≡◌, ℕ, zero, suc, Bool, true, false, List, [], ◌∷◌, ◌++◌, length, take, reverse, Option, Some, None, refl, ap, ◌∙◌}
use Rattle.std.proofs.lemmas.Bool.{true≢false}
use Rattle.std.proofs.lemmas.List.{reverse-append}
use Rattle.std.specs.Prelude.{slice_get}
use Rattle.std.specs.List.{cons_option, filter_map}
use Rattle.std.proofs.lemmas.Option.{same_Some}
use Rattle.wsm_program.specs.declared.Instr.{Instr}
use Rattle.wsm_rules.specs.Labels.{State, Ranges, Label, Visit, label_with, hull_all, carried_to, gathered, visited_next, visits_back, visits}

-- what an edge adds to what was gathered
abbrev pub with_edge : Option State → Label → Label
with_edge None l = l
with_edge (Some s) l = label_with s l

-- the loop's step: each visited place adds what its edges carry to each later place
pub gathered_next : (q : ℕ) (v : Visit) (before : List Visit) → gathered q (v ∷ before) ≡ with_edge (carried_to q v) (gathered q before)
gathered_next q v before =
    elim (carried_to q v) as (λ o. hull_all (cons_option o (filter_map (carried_to q) before)) ≡ with_edge o (gathered q before)) [
      | None ↦ refl
      | Some s ↦ refl
    ]

pub length-visits_back : (e : State) (r : Ranges) (is : List Instr) → length (visits_back e r is) ≡ length is
length-visits_back e r [] = refl
length-visits_back e r (i ∷ is) = ap suc (length-visits_back e r is)

none≢some : {A : Type 0} {a : A} → None ≡ Some a → ⊥
none≢some {A} {a} e = let tag : Option A → Bool = λ o. elim o [ None ↦ true | Some x ↦ false ] in true≢false (ap tag e)

take_next : (is : List Instr) (p : ℕ) (i : Instr) → slice_get is p ≡ Some i → take (suc p) is ≡ take p is ++ i ∷ []
take_next [] p i e = absurd (none≢some e)
take_next (j ∷ is) zero i e = ap (λ x. x ∷ []) (same_Some j i e)
take_next (j ∷ is) (suc p) i e = ap (λ xs. j ∷ xs) (take_next is p i e)

reverse_next : (is : List Instr) (p : ℕ) (i : Instr) → slice_get is p ≡ Some i → reverse (take (suc p) is) ≡ i ∷ reverse (take p is)
reverse_next is p i e = ap reverse (take_next is p i e) ∙ reverse-append (take p is) (i ∷ [])

-- the visits of one place more
pub visits_next : (e : State) (r : Ranges) (is : List Instr) (p : ℕ) (i : Instr) → slice_get is p ≡ Some i →
    visits e r (take (suc p) is) ≡ visited_next e r i (visits e r (take p is))
visits_next e r is p i h = ap (visits_back e r) (reverse_next is p i h)

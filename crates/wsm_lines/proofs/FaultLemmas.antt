-- What a fault is said of.
use Rattle.std.proofs.Common.{◌≡◌, ◌∙◌, sym, ap, ℕ, List, length, IfErr, OnOk, if◌then◌else◌, eq-eqb}
use Rattle.std.specs.Prelude.{Result, Ok, Err, Option, Some}
use Rattle.wsm_parts.specs.Csv.{picked}
use Rattle.wsm_lines.specs.Fault.{IfFault, or_none}
use Rattle.wsm_lines.specs.Key.{if_told}
use Rattle.wsm_lines.specs.Said.{taken_row}
use Rattle.wsm_lines.specs.Scalar.{cells}
use Rattle.wsm_lines.specs.declared.fault.LineFault.{LineFault}
use Rattle.wsm_lines.specs.declared.fault.LineFault.TheVariants.{CellCount}
use Rattle.wsm_lines.specs.declared.fault.LineRefusal.{LineRefusal}
use Rattle.wsm_lines.specs.declared.fault.LineRefusal.TheVariants.{Fault, Memory}

-- the fault of what is the same
pub faults_as : {A B : Type 0} (r : Result A LineRefusal) (said other : Result B LineFault) → other ≡ said → IfErr r (λ w. IfFault w (λ f. said ≡ Err f)) → IfErr r (λ w. IfFault w (λ f. other ≡ Err f))
faults_as (Ok a) said other e h = tt
faults_as (Err (Fault f)) said other e h = e ∙ h
faults_as (Err Memory) said other e h = tt

-- the event of what is the same
pub events_as : {A B : Type 0} (r : Result A LineRefusal) (event : B) (said other : Result B LineFault) → other ≡ said → OnOk r (said ≡ Ok event) → OnOk r (other ≡ Ok event)
events_as (Ok a) event said other e h = e ∙ h
events_as (Err why) event said other e h = tt

-- what there is of what is the same
pub found_as : {A B : Type 0} (r : Result A LineRefusal) (found : Option B) (said other : Result (Option B) LineFault) → other ≡ said → OnOk r (said ≡ Ok found) → OnOk r (or_none other ≡ found)
found_as (Ok a) found said other e h = ap or_none (e ∙ h)
found_as (Err why) found said other e h = tt

-- the text of what is the same
pub told_as : {A : Type 0} (r : Result A LineRefusal) (found : List ℕ) (said other : Result (List ℕ) LineFault) → other ≡ said → OnOk r (said ≡ Ok found) → OnOk r (if_told other ≡ Some found)
told_as (Ok a) found said other e h = ap if_told (e ∙ h)
told_as (Err why) found said other e h = tt

-- a whole row of as many cells as the header is taken apart into those that are picked
pub taken_row_of : (columns : List ℕ) (count : ℕ) (row : Option (List (List ℕ))) (cs texts : List (List ℕ)) → row ≡ Some cs → length cs ≡ count → texts ≡ picked columns cs → taken_row columns count row ≡ Ok (cells texts)
taken_row_of columns count row cs texts whole long read =
    ap (taken_row columns count) whole
    ∙ ap (λ b. if b then Ok (cells (picked columns cs)) else Err CellCount) (eq-eqb (length cs) count long)
    ∙ ap (λ t. Ok (cells t)) (sym read)

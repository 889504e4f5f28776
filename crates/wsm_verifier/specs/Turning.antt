-- What one turn of the pass makes of the labels that are kept for later places.
use Rattle.std.specs.Prelude.{ℕ, suc, false, cond, List, [], replicate, nat_eq, Option, Some, None, slice_set, slice_index_or}
use Rattle.wsm_program.specs.declared.Instr.{Instr}
use Rattle.wsm_program.specs.declared.Edges.{Edges}
use Rattle.wsm_program.specs.declared.Edges.TheVariants.{Nowhere, Next, Target, Either, Tested}
use Rattle.wsm_program.specs.Instructions.{edges}
use Rattle.wsm_rules.specs.declared.known.Known.{Known}
use Rattle.wsm_verifier.specs.declared.label.Kept.{Kept}
use Rattle.wsm_verifier.specs.declared.label.Kept.TheVariants as kept
use Rattle.wsm_rules.specs.Labels.{State, Ranges, Label, Unreached, Differing, Reached, label_with, carried, left_from}

abbrev pub label_kept : Kept → Label
label_kept kept.Unreached = Unreached
label_kept kept.Differing = Differing
label_kept (kept.Reached s) = Reached s

-- at the entry: nothing is on the stack, and none of the accumulators is folded
abbrev pub unfolded : ℕ → List Known → State
unfolded accumulators fields = record { stack = []; folded = replicate accumulators false; fields = fields }

abbrev pub label_in : List Label → ℕ → Label
label_in labels q = slice_index_or labels q Unreached

-- a state is carried to place q
abbrev pub joined_at : ℕ → State → List Label → List Label
joined_at q s labels = slice_set labels q (label_with s (label_in labels q))

-- a state is carried along edges from place p
abbrev pub joined_along : Edges → ℕ → State → List Label → List Label
joined_along Nowhere p s labels = labels
joined_along Next p s labels = joined_at (suc p) s labels
joined_along (Target t) p s labels = joined_at t s labels
joined_along (Either t) p s labels = joined_at (suc p) s (cond (nat_eq t (suc p)) labels (joined_at t s labels))
joined_along (Tested test t) p s labels =
    joined_at (suc p) (carried (Tested test t) p (suc p) s) (cond (nat_eq t (suc p)) labels (joined_at t (carried (Tested test t) p t s) labels))

abbrev pub joined_by : Instr → ℕ → Option State → List Label → List Label
joined_by i p None labels = labels
joined_by i p (Some s) labels = joined_along (edges i) p s labels

-- the place's own label is taken out, and what its instruction leaves is carried along its edges
abbrev pub turned : Ranges → ℕ → Instr → List Label → List Label
turned r p i labels = joined_by i p (left_from r i (label_in labels p)) (slice_set labels p Unreached)

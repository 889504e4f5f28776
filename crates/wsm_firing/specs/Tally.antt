-- What the firings of a turn come to.
use Rattle.std.specs.Prelude.{ℕ, ◌+◌, max, sum, List, [], ◌∷◌, map, length}
use Rattle.wsm_record.specs.declared.event.Value.{Value}
use Rattle.wsm_semantics.specs.Summaries.{Fired}
use Rattle.wsm_program.specs.Program.{Program}
use Rattle.wsm_machine.specs.Meaning.{pane_cost_by}
use Rattle.wsm_firing.specs.declared.tally.Tally.{Tally}

-- the greatest of some numbers, 0 where there are none
abbrev pub greatest : List ℕ → ℕ
greatest [] = 0
greatest (n ∷ ns) = max n (greatest ns)

-- how many there are, the most instructions of one, and the instructions of all
abbrev pub tally_of : Program → List (Fired (List Value)) → Tally
tally_of p fs = record { fired = length fs; steps_max = greatest (map (pane_cost_by p) fs); steps_total = sum (map (pane_cost_by p) fs) }

-- of none
abbrev pub nothing : Tally
nothing = record { fired = 0; steps_max = 0; steps_total = 0 }

-- with further firings
abbrev pub tally_with : Program → Tally → List (Fired (List Value)) → Tally
tally_with p t [] = t
tally_with p t (f ∷ fs) =
    tally_with p (record { fired = t.fired + 1; steps_max = max t.steps_max (pane_cost_by p f); steps_total = t.steps_total + pane_cost_by p f }) fs

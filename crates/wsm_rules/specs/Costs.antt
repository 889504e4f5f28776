-- The longest path of a section, and the numbers that a program needs.
use Rattle.std.specs.Prelude.{◌≡◌, ℕ, suc, ◌+◌, ◌-◌, ◌*◌, ◌≤◌, max, cond, ◌⊎◌, List, [], ◌∷◌, length, map, unsigned_abs, nat_lt, IsTrue, Option, Some, None, unwrap_or, slice_get, slice_index_or}
use Rattle.std.specs.Int.{div_ceil}
use Rattle.wsm_program.specs.declared.Instr.{Instr}
use Rattle.wsm_program.specs.declared.Instr.TheVariants.{Return}
use Rattle.wsm_windows.specs.declared.Shape.{Shape}
use Rattle.wsm_windows.specs.declared.Shape.TheVariants.{Fixed, Sliding, Session}
use Rattle.wsm_program.specs.declared.program.Costs.{Costs}
use Rattle.wsm_windows.specs.Life.{live_bound}
use Rattle.wsm_program.specs.Program.{Program}
use Rattle.wsm_program.specs.declared.Edges.{Edges}
use Rattle.wsm_program.specs.Instructions.{are_none, edges, places}
use Rattle.wsm_rules.specs.Labels.{leads}

-- a path of n places, along edges, from place p of a section to a RET
pub data Path (is : List Instr) : ℕ → ℕ → Type 0 where
  Ends : (p : ℕ) → slice_get is p ≡ Some Return → Path is p 1
  Goes : (p q n : ℕ) → (i : Instr) → slice_get is p ≡ Some i → IsTrue (leads i p q) → Path is q n → Path is p (suc n)

-- n is the greatest number of places on any path from place 0, or 0 where there is none
pub record IsLongestPath (is : List Instr) (n : ℕ) : Type 0 where
  pub no_longer : (m : ℕ) → Path is 0 m → m ≤ n
  pub reached : (n ≡ 0) ⊎ Path is 0 n

-- the greater of two lengths; None: no way to a RET
abbrev pub longer : Option ℕ → Option ℕ → Option ℕ
longer None n = n
longer (Some m) None = Some m
longer (Some m) (Some n) = Some (max m n)

abbrev pub longest_of : List (Option ℕ) → Option ℕ
longest_of [] = None
longest_of (n ∷ ns) = longer n (longest_of ns)

abbrev pub one_more : Option ℕ → Option ℕ
one_more None = None
one_more (Some n) = Some (suc n)

-- the longest way from place q, where those of the places after p are given
abbrev pub way_from : ℕ → List (Option ℕ) → ℕ → Option ℕ
way_from p later q = cond (nat_lt p q) (slice_index_or later (q - suc p) None) None

-- the longest way along edges from place p
abbrev pub way_along : ℕ → Edges → List (Option ℕ) → Option ℕ
way_along p e later = cond (are_none e) (Some 1) (one_more (longest_of (map (way_from p later) (places e p))))

-- the longest way from the instruction at place p
abbrev pub way_of : ℕ → Instr → List (Option ℕ) → Option ℕ
way_of p i later = way_along p (edges i) later

-- the longest way from each place, where the first instruction stands at place p
abbrev pub ways : ℕ → List Instr → List (Option ℕ)
ways p [] = []
ways p (i ∷ is) = way_of p i (ways (suc p) is) ∷ ways (suc p) is

abbrev pub longest_path : List Instr → ℕ
longest_path is = unwrap_or (slice_index_or (ways 0 is) 0 None) 0

-- the most windows that one record enters
abbrev pub windows_of_a_record : Shape → ℕ
windows_of_a_record (Fixed size) = 1
windows_of_a_record (Sliding size period) = div_ceil (unsigned_abs size) (unsigned_abs period)
windows_of_a_record (Session gap) = 1

-- the steps of a join: one for each accumulator
abbrev pub join_steps : Shape → ℕ → ℕ
join_steps (Fixed size) accumulators = 0
join_steps (Sliding size period) accumulators = 0
join_steps (Session gap) accumulators = accumulators

abbrev pub needed : Program → Costs
needed p = record {
  per_record = longest_path p.selection + windows_of_a_record p.header.shape * longest_path p.update + join_steps p.header.shape (length p.header.kinds);
  per_pane = longest_path p.fire;
  held = length p.header.schema.keys * live_bound p.header.shape p.header.clock.skew p.header.clock.lateness;
}

-- The numbers that a program states are in their ranges: paths are no longer than sections, a record enters at most one window more
-- than its size, and a pane is held.
use Rattle.std.proofs.Common.{◌≡◌, ℕ, zero, suc, ◌+◌, ◌*◌, ◌≤◌, ◌<◌, Bool, true, ◌&&◌, List, [], ◌∷◌, length, ℤ, Option, Some, None, ap, ◌∙◌, arith}
use Rattle.std.proofs.lemmas.Grind.{div_ceil_times}
use Rattle.std.proofs.Math.Nat.{div-le_self}
use Rattle.std.specs.Prelude.{◌+ℤ◌, max, min, pos, negsuc, int_le, nat_le, unsigned_abs, ◌/◌, ◌%◌}
use Rattle.std.specs.Int.{div_ceil}
use Rattle.std.proofs.lemmas.Bool.{and_from, and_parts, le-leb}
use Rattle.std.proofs.lemmas.List.{length-map}
use Rattle.wsm_record.specs.Name.{is_between}
use Rattle.wsm_record.specs.Schema.{is_within}
use Rattle.wsm_windows.specs.declared.window.Shape.{Shape}
use Rattle.wsm_windows.specs.Life.{live_bound}
use Rattle.wsm_windows.specs.Limits.{is_shape, is_size, is_span, is_time}
use Rattle.wsm_program.specs.declared.program.Costs.{Costs}
use Rattle.wsm_rules.specs.Costs.{windows_of_a_record, join_steps}
use Rattle.wsm_program.specs.Program.{is_stated, is_budget}
use Rattle.wsm_query.specs.declared.query.Budget.{Budget}
use Rattle.wsm_query.specs.Tree.{Query}
use Rattle.wsm_check.specs.Checks.{is_cost, budget_fits}
use Rattle.wsm_check.specs.Tested.{unless_tested}
use Rattle.wsm_check.specs.Aggregates.{accumulators}
use Rattle.wsm_check.specs.Terms.{Term, If, Minus, Not, Binary, And, Or}
use Rattle.wsm_check.specs.Parts.{Folding, folding, parts_of}
use Rattle.wsm_compiler.specs.TermCode.{term_test, term_size, ending_size, foldings_size, firing_size}
use Rattle.wsm_compiler.specs.Longest.{longest, longest_ending, longest_foldings, longest_firing, needed_by_structure}
use Rattle.wsm_compiler.specs.Program.{needed_of, stated}
use Rattle.wsm_machine.proofs.FittingStacks.{no}
use Rattle.wsm_compiler.proofs.Longest.{needed_is}
use Rattle.wsm_compiler.proofs.Passed.{Passed}

-- ---- paths

-- the path of a test that a jump makes is none
test_at_most : {A : Type 0} (t : Option A) (l n : ℕ) → l ≤ n → unless_tested t l ≤ unless_tested t n
test_at_most t l n h = grind arith

-- a test and two parts
chosen_at_most : (c : Term) (m n x y : ℕ) → longest c ≤ term_size c → m ≤ x → n ≤ y → unless_tested (term_test c) (longest c) + (1 + max (m + 1) n) ≤ unless_tested (term_test c) (term_size c) + (x + y) + 2
chosen_at_most c m n x y h i j = of_three (unless_tested (term_test c) (longest c)) m n (unless_tested (term_test c) (term_size c)) x y (test_at_most (term_test c) (longest c) (term_size c) h) i j
  where
    of_three : (l m n c x y : ℕ) → l ≤ c → m ≤ x → n ≤ y → l + (1 + max (m + 1) n) ≤ c + (x + y) + 2
    of_three l m n c x y h i j = omega (arith, h, i, j)

longest_at_most : (t : Term) → longest t ≤ term_size t
longest_at_most (If c x y) = chosen_at_most c (longest x) (longest y) (term_size x) (term_size y) (longest_at_most c) (longest_at_most x) (longest_at_most y)
longest_at_most (Minus x) = let h = longest_at_most x in omega (arith, h)
longest_at_most (Not x) = let h = longest_at_most x in omega (arith, h)
longest_at_most (Binary op x y) = let hx = longest_at_most x in let hy = longest_at_most y in omega (arith, hx, hy)
longest_at_most (And x y) = let h = chosen_at_most x (longest y) 1 (term_size y) 1 (longest_at_most x) (longest_at_most y) (omega arith) in omega (arith, h)
longest_at_most (Or x y) = let h = chosen_at_most x 1 (longest y) 1 (term_size y) (longest_at_most x) (omega arith) (longest_at_most y) in omega (arith, h)
longest_at_most t = omega arith

ending_at_most : (o : Option Term) → (0 < longest_ending o) × (longest_ending o ≤ ending_size o)
ending_at_most o = grind (arith, longest_at_most)

foldings_at_most : (fs : List Folding) → longest_foldings fs ≤ foldings_size fs
foldings_at_most [] = omega arith
foldings_at_most (f ∷ fs) = let h = longest_at_most f.operand in let l = foldings_at_most fs in omega (arith, h, l)

firing_at_most : (having : Option Term) (ts : List Term) → (0 < longest_firing having ts) × (longest_firing having ts ≤ firing_size having ts)
firing_at_most having [] = ending_at_most having
firing_at_most having (t ∷ ts) = let h = longest_at_most t in let l = firing_at_most having ts in (omega (arith, l.0), omega (arith, h, l.1))

-- ---- windows

-- at most one more than the dividend, and at least one where that is
ceil_at_most : (m n : ℕ) → div_ceil m n ≤ m + 1
ceil_at_most m n = let d = div-le_self m n in added (m / n) (m % n) m d
  where
    added : (d r m : ℕ) → d ≤ m → d + min 1 r ≤ m + 1
    added d r m h = omega (arith, h)

ceil_at_least : (m n : ℕ) → 0 < m → 0 < n → 0 < div_ceil m n
ceil_at_least m n h l = some (div_ceil m n) (div_ceil_times m n l).0
  where
    some : (d : ℕ) → m ≤ d * n → 0 < d
    some zero e = omega (arith, h, e)
    some (suc d) e = omega arith

abbrev limit : ℤ
limit = pos 1000000000000

from_one : (n : ℕ) → int_le (pos 1) (pos n) ≡ true → 0 < n
from_one n h = grind arith

size_is : (n : ℤ) → is_size n ≡ true → (0 < unsigned_abs n) × (unsigned_abs n ≤ 1000000000000)
size_is (pos n) h = let p = and_parts (int_le (pos 1) (pos n)) (int_le (pos n) limit) h in (from_one n p.0, to n p.1)
  where
    to : (n : ℕ) → int_le (pos n) limit ≡ true → n ≤ 1000000000000
    to n h = grind arith
size_is (negsuc n) h = no h

period_is : (size period : ℤ) → is_within (pos 1) size period ≡ true → 0 < unsigned_abs period
period_is size period h = grind (arith, from_one)

windows_at_most : (s : Shape) → is_shape s ≡ true → windows_of_a_record s ≤ 1000000000001
windows_at_most s h = grind (arith, size_is, ceil_at_most)

spans_added : (skew lateness size : ℤ) → is_span skew ≡ true → is_span lateness ≡ true → is_size size ≡ true → 0 < unsigned_abs ((skew +ℤ lateness) +ℤ size)
spans_added skew lateness size h i j = grind (arith, size_is)

live_at_least : (s : Shape) (skew lateness : ℤ) → is_shape s ≡ true → is_span skew ≡ true → is_span lateness ≡ true → 0 < live_bound s skew lateness
live_at_least s skew lateness h i j = grind (arith, ceil_at_least, spans_added, size_is, period_is)

-- ---- what is stated

between : (lo hi n : ℕ) → lo ≤ n → n ≤ hi → is_between lo hi n ≡ true
between lo hi n h l = and_from (nat_le lo n) (nat_le n hi) (le-leb lo n h) (le-leb n hi l)

abbrev costs_fit : Costs → Bool
costs_fit c = is_stated c.per_record && (is_stated c.per_pane && is_between 1 100000 c.held)

joins_at_most : (s : Shape) (n : ℕ) → join_steps s n ≤ n
joins_at_most s n = grind arith

product_at_most : (m n : ℕ) → m ≤ 1000000000001 → n ≤ 1000 → m * n ≤ 1000000000001000
product_at_most m n h l = grind arith

product_at_least : (m n : ℕ) → 0 < m → 0 < n → 0 < m * n
product_at_least m n h l = grind arith

-- what is needed, of a query that passed the checks and has a key
needed_fits : (q : Query) → Passed q → 0 < length q.keys → costs_fit (needed_by_structure (parts_of q)) ≡ true
needed_fits q p keys =
    let parts = parts_of q in
    let need = needed_by_structure parts in
    let w = ending_at_most parts.condition in
    let u = foldings_at_most parts.foldings in
    let f = firing_at_most parts.having parts.columns in
    let few = length-map (accumulators q) (folding q) in
    let windows = windows_at_most q.output.shape p.shape in
    let product = product_at_most (windows_of_a_record q.output.shape) (longest_foldings parts.foldings) windows (omega (arith, u, p.code.update)) in
    let joins = joins_at_most q.output.shape (length parts.foldings) in
    let i = and_parts (is_time q.clock.start) (is_span q.clock.skew && (is_span q.clock.lateness && is_size q.clock.records)) p.clock in
    let j = and_parts (is_span q.clock.skew) (is_span q.clock.lateness && is_size q.clock.records) i.1 in
    let k = and_parts (is_span q.clock.lateness) (is_size q.clock.records) j.1 in
    let live = live_at_least q.output.shape q.clock.skew q.clock.lateness p.shape j.0 k.0 in
    and_from (is_stated need.per_record) (is_stated need.per_pane && is_between 1 100000 need.held)
    (between 1 1000000000000000000 need.per_record (omega (arith, w.0)) (omega (arith, w.1, product, joins, few, p.code.selection, p.code.accs)))
    (and_from (is_stated need.per_pane) (is_between 1 100000 need.held)
    (between 1 1000000000000000000 need.per_pane (omega (arith, f.0)) (omega (arith, f.1, p.code.fire)))
    (between 1 100000 need.held (product_at_least (length q.keys) (live_bound q.output.shape q.clock.skew q.clock.lateness) keys live) p.code.held))

cost_is : (lo hi : ℕ) (n : ℤ) → is_within (pos lo) (pos hi) n ≡ true → is_between lo hi (unsigned_abs n) ≡ true
cost_is lo hi (pos n) h = let p = and_parts (int_le (pos lo) (pos n)) (int_le (pos n) (pos hi)) h in and_from (nat_le lo n) (nat_le n hi) (same lo n p.0) (same n hi p.1)
  where
    same : (m n : ℕ) → int_le (pos m) (pos n) ≡ true → nat_le m n ≡ true
    same m n h = grind arith
cost_is lo hi (negsuc n) h = no h

pub budget_is : (q : Query) → Passed q → 0 < length q.keys → is_budget (stated (needed_of q) q.budget) ≡ true
budget_is q p keys = by_budget q.budget p.budget
  where
    by_budget : (o : Option Budget) → budget_fits o ≡ true → is_budget (stated (needed_of q) o) ≡ true
    by_budget None h = ap costs_fit (needed_is q) ∙ needed_fits q p keys
    by_budget (Some b) h =
        let f = and_parts (is_cost b.per_record) (is_cost b.per_pane && is_within (pos 1) (pos 100000) b.held) h in
        let g = and_parts (is_cost b.per_pane) (is_within (pos 1) (pos 100000) b.held) f.1 in
        and_from (is_stated (unsigned_abs b.per_record)) (is_stated (unsigned_abs b.per_pane) && is_between 1 100000 (unsigned_abs b.held)) (cost_is 1 1000000000000000000 b.per_record f.0)
        (and_from (is_stated (unsigned_abs b.per_pane)) (is_between 1 100000 (unsigned_abs b.held)) (cost_is 1 1000000000000000000 b.per_pane g.0) (cost_is 1 100000 b.held g.1))

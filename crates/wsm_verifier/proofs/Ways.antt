-- The longest ways of a section, found from its last place back.
use Rattle.std.proofs.Common.{◌≡◌, ℕ, zero, suc, ◌+◌, ◌≤◌, ◌<◌, List, [], ◌∷◌, length, drop, get_or, set, Option, Some, None, IfSome, refl, sym, ap, ◌∙◌, add-one, subst, length-drop, arith}
use Rattle.std.proofs.Math.Seq.{drop-cons}
use Rattle.std.specs.Prelude.{slice_index_or, unwrap_or}
use Rattle.wsm_program.specs.declared.Instr.{Instr}
use Rattle.wsm_rules.specs.Costs.{way_of, ways, longest_path}
use Rattle.wsm_rules.proofs.Longest.{short_way}

pub drop-set : {X : Type 0} (xs : List X) (p : ℕ) (w : X) → p < length xs → drop p (set xs p w) ≡ w ∷ drop (suc p) xs
drop-set [] p w h = absurd (omega arith)
drop-set (x ∷ xs) zero w h = refl
drop-set (x ∷ xs) (suc p) w h = drop-set xs p w (omega arith)

-- the way of one place more
pub ways_next : (code : List Instr) (xs ys : List (Option ℕ)) (p place : ℕ) (d : Instr) (w : Option ℕ) → place ≡ p + 1 → p < length code → p < length xs → ys ≡ xs → drop place xs ≡ ways place (drop place code) → w ≡ way_of p (get_or code p d) (drop (p + 1) ys) → drop p (set xs p w) ≡ ways p (drop p code)
ways_next code xs ys p place d w e h k same later is =
    let next : place ≡ suc p = omega arith in
    let rest : drop (suc p) xs ≡ ways (suc p) (drop (suc p) code) = subst (λ (q : ℕ). drop q xs ≡ ways q (drop q code)) next later in
    let way : w ≡ way_of p (get_or code p d) (ways (suc p) (drop (suc p) code)) = is ∙ rw (same, add-one, rest) refl in
    rw (drop-set xs p w k, drop-cons code p d h, rest, way) refl

if_some : (o : Option ℕ) (b : ℕ) → ((n : ℕ) → o ≡ Some n → n ≤ b) → IfSome o (λ n. n ≤ b)
if_some None b h = tt
if_some (Some n) b h = h n refl

-- it is short
pub short_next : (code : List Instr) (p : ℕ) (xs : List (Option ℕ)) (w : Option ℕ) → p < length xs → length code ≤ 1000 → drop p (set xs p w) ≡ ways p (drop p code) → IfSome w (λ n. n ≤ 1000)
short_next code p xs w h few e = if_some w 1000 (λ n is. let first : slice_index_or (ways p (drop p code)) 0 None ≡ w = ap (λ ws. slice_index_or ws 0 None) (sym e ∙ drop-set xs p w h) in
    omega (arith, short_way p (drop p code) 0 n (first ∙ is), length-drop p code))

pub longest_path-short : (is : List Instr) → longest_path is ≤ length is
longest_path-short is = by_first (slice_index_or (ways 0 is) 0 None) refl
  where
    by_first : (o : Option ℕ) → slice_index_or (ways 0 is) 0 None ≡ o → unwrap_or o 0 ≤ length is
    by_first None e = omega arith
    by_first (Some n) e = short_way 0 is 0 n e

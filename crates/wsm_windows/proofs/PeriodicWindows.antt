-- Lists of windows a period apart.
use Rattle.std.proofs.Common.{◌≡◌, ℕ, zero, suc, ◌+◌, ◌*◌, ◌<◌, ◌≤◌, true, false, ◌&&◌, [], ◌∷◌, ◌++◌, ℤ, pos, ◌+ℤ◌, ◌-ℤ◌, refl, ap, ◌∙◌, arith}
use Rattle.std.proofs.lemmas.Int.{ints}
use Rattle.std.proofs.lemmas.List.Elements.{filter-append}
use Rattle.std.specs.Prelude.{int_le, int_lt}
use Rattle.std.specs.List.{filter}
use Rattle.wsm_windows.specs.Windows.{window, has_inside, windows_up_to}
use Rattle.wsm_windows.specs.Left.{windows_from}

-- the last of one window more
from_last : (n : ℕ) (size : ℤ) (p : ℕ) (start last : ℤ) → start +ℤ pos (n * p) ≡ last → windows_from (suc n) size (pos p) start ≡ windows_from n size (pos p) start ++ window last (last +ℤ size) ∷ []
from_last zero size p start last e =
    let same : start ≡ last = omega (arith, ints) in
    rw same refl
from_last (suc n) size p start last e =
    let one_more : suc n * p ≡ n * p + p = omega arith in
    ap (λ ws. window start (start +ℤ size) ∷ ws) (from_last n size p (start +ℤ pos p) last (omega (arith, ints)))

-- the same windows, counted from the first and from the last
pub from_up_to : (n : ℕ) (size : ℤ) (p : ℕ) (start last : ℤ) → start +ℤ pos (n * p) ≡ last +ℤ pos p → windows_from n size (pos p) start ≡ windows_up_to n size (pos p) last
from_up_to zero size p start last e = refl
from_up_to (suc n) size p start last e =
    let one_more : suc n * p ≡ n * p + p = omega arith in
    from_last n size p start last (omega (arith, ints))
    ∙ ap (λ ws. ws ++ window last (last +ℤ size) ∷ []) (from_up_to n size p start (last -ℤ pos p) (omega (arith, ints)))

outside : (t last : ℤ) (s r : ℕ) → t ≡ last +ℤ pos r → s ≤ r → (int_le last t && int_lt t (last +ℤ pos s)) ≡ false
outside t last s r e h = grind (arith, ints)

inside : (t last : ℤ) (s r : ℕ) → t ≡ last +ℤ pos r → r < s → (int_le last t && int_lt t (last +ℤ pos s)) ≡ true
inside t last s r e h = grind (arith, ints)

none_inside : (n : ℕ) (s p r : ℕ) (t last : ℤ) → t ≡ last +ℤ pos r → s ≤ r → filter (has_inside t) (windows_up_to n (pos s) (pos p) last) ≡ []
none_inside zero s p r t last e h = refl
none_inside (suc n) s p r t last e h =
    filter-append (has_inside t) (windows_up_to n (pos s) (pos p) (last -ℤ pos p)) (window last (last +ℤ pos s) ∷ [])
    ∙ rw (none_inside n s p (r + p) t (last -ℤ pos p) (omega (arith, ints)) (omega arith), outside t last s r e h) refl

-- of so many windows the last ones have the time inside
pub last_inside : (c n : ℕ) (s p r : ℕ) (t last : ℤ) → c ≤ n → t ≡ last +ℤ pos r → r + c * p < s + p → s ≤ r + c * p → filter (has_inside t) (windows_up_to n (pos s) (pos p) last) ≡ windows_up_to c (pos s) (pos p) last
last_inside zero n s p r t last le e few enough = none_inside n s p r t last e (omega arith)
last_inside (suc c) zero s p r t last le e few enough = absurd (omega arith)
last_inside (suc c) (suc n) s p r t last le e few enough =
    let one_more : suc c * p ≡ c * p + p = omega arith in
    filter-append (has_inside t) (windows_up_to n (pos s) (pos p) (last -ℤ pos p)) (window last (last +ℤ pos s) ∷ [])
    ∙ rw (last_inside c n s p (r + p) t (last -ℤ pos p) (omega arith) (omega (arith, ints)) (omega arith) (omega arith), inside t last s r e (omega arith)) refl

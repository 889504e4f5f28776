use Rattle.std.proofs.Common.{◌≡◌, ℕ, List, ◌++◌, sym, ap, ap₂, ◌∙◌}
use Rattle.wsm_sums.specs.Crc.{sum_behind}
use Rattle.wsm_sums.proofs.Sums.{sum_behind-append}
use Rattle.wsm_explain.proofs.sums.live_sum.Goals as goal

-- the sum of three texts behind one another
summed : (first second third : List ℕ) → sum_behind (sum_behind (sum_behind 0 first) second) third ≡ sum_behind 0 (first ++ (second ++ third))
summed first second third = sym (sum_behind-append 0 first (second ++ third) ∙ sum_behind-append (sum_behind 0 first) second third)

-- the same of what was added one behind the other
added : (first second third newest mark : List ℕ) (none one two three sum : ℕ)
    → none ≡ 0 → newest ≡ first → mark ≡ third → one ≡ sum_behind none newest → two ≡ sum_behind one second → three ≡ sum_behind two mark → sum ≡ three
    → sum ≡ sum_behind 0 (first ++ (second ++ third))
added first second third newest mark none one two three sum is_none is_newest is_mark is_one is_two is_three is_sum =
    is_sum ∙ (is_three ∙ (ap₂ sum_behind (is_two ∙ ap (λ (s : ℕ). sum_behind s second) (is_one ∙ ap₂ sum_behind is_none is_newest)) is_mark ∙ summed first second third))

pub returns : goal.returns
returns c = (
  c.in_ok-newest.newest.items,
  c.in_ok-newest.ensures,
  added _ _ _ _ _ _ _ _ _ _ c.new-sum.ensures c.deref.ensures.value c.mark_of.ensures c.add.ensures c.add-2.ensures c.add-3.ensures c.sum.ensures,
)

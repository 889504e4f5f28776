-- Clocks go on by where others stood.
use Rattle.std.proofs.Common.{◌≡◌, ◌∙◌, ◌++◌, ℕ, List, Option, Some, None, IfSome, ap, get_or}
use Rattle.wsm_watermarks.specs.declared.held.Timed.{Timed}
use Rattle.wsm_watermarks.specs.declared.rule.Rule.{Rule}
use Rattle.wsm_watermarks.specs.declared.stamp.Stamp.{Stamp}
use Rattle.wsm_watermarks.specs.declared.table.Said.{Said}
use Rattle.wsm_watermarks.specs.Agreement.{mark_after}
use Rattle.wsm_watermarks.specs.Watermarks.{FitsMarks, Marking, come_to}
use Rattle.wsm_turns.specs.declared.clocks.Clocks.{Clocks}
use Rattle.wsm_turns.specs.declared.waiting.Waiting.{Waiting}
use Rattle.wsm_turns.specs.Numbered.{Numbered}
use Rattle.wsm_turns.specs.Waits.{Hear, Hears}
use Rattle.wsm_saved_turns.specs.Turns.{ClocksFit, WaitingFits, clocks_text, stand_of, stand_text}

-- what others came to by a rule is the history's
pub marks_fit : (m : Marking) (said : List (Option Said)) (heard mark : ℕ) (rule : Rule) (past : List Stamp)
    → said ≡ m.table.said → heard ≡ m.table.heard → mark ≡ m.mark → m.rule ≡ rule → FitsMarks m past → FitsMarks (come_to said heard mark rule) past
marks_fit m said heard mark rule past same_said same_heard same_mark same_rule fits = record {
  table = record {
    heard = same_heard ∙ fits.table.heard;
    said = λ clock. ap (λ (l : List (Option Said)). get_or l clock None) same_said ∙ fits.table.said clock;
  };
  mark = same_mark ∙ fits.mark ∙ ap (λ (r : Rule). mark_after r past) same_rule;
}

pub hears_so : (c : Clocks) (count : ℕ) (w : Waiting) (stamps : List Stamp) (told is_told : ℕ) (waits rows : List (Timed Numbered))
    → told ≡ is_told → waits ≡ rows → Hears c count w stamps told waits → Hears c count w stamps is_told rows
hears_so c count w stamps told is_told waits rows same_told same_rows hears = record {
  by = hears.by;
  clocks = hears.clocks;
  fits = hears.fits;
  ahead = hears.ahead;
  room = hears.room;
  last = hears.last ∙ same_told;
  rows = hears.rows ∙ same_rows;
}

-- what follows of where the clocks of a log stand, in front of a text, where it has any
pub with_clocks : {P : Type 0} (c : Clocks) (count : ℕ) (was : Option Waiting) (stamps : List Stamp) (told : ℕ) (waits : List (Timed Numbered)) (rest old : List ℕ)
    → ((w : Waiting) → Hears c count w stamps told waits → WaitingFits w → old ≡ stand_text (stand_of w) ++ rest → P)
    → Hear (Some c) count was stamps told waits → ClocksFit was → old ≡ clocks_text was ++ rest → P
with_clocks c count None stamps told waits rest old so hear fits is = absurd hear
with_clocks c count (Some w) stamps told waits rest old so hear fits is = so w hear fits is

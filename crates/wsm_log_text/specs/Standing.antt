-- What is kept of lines beside the engine, and its text.
use Rattle.std.specs.Prelude.{◌≡◌, ◌<◌, ℕ, ◌^◌, ℤ, List, [], ◌++◌, Option, None}
use Rattle.wsm_watermarks.specs.declared.held.Timed.{Timed}
use Rattle.wsm_watermarks.specs.declared.stamp.Stamp.{Stamp}
use Rattle.wsm_doubles.specs.Memory.{Memory, Recalls}
use Rattle.wsm_turns.specs.declared.clocks.Clocks.{Clocks}
use Rattle.wsm_turns.specs.declared.waiting.Waiting.{Waiting}
use Rattle.wsm_turns.specs.Clocks.{named_in}
use Rattle.wsm_turns.specs.Named.{Knows}
use Rattle.wsm_turns.specs.Numbered.{Numbered}
use Rattle.wsm_turns.specs.Turns.{Setting}
use Rattle.wsm_turns.specs.Waits.{Hear}
use Rattle.wsm_saved.specs.Numbers.{number_text}
use Rattle.wsm_saved.specs.Lists.{BytesFit, bytes_text}
use Rattle.wsm_saved_turns.specs.Turns.{ClocksFit, DoublesFit, NamesFit, clocks_text, doubles_text, names_text}
use Rattle.wsm_log_text.specs.declared.standing.Standing.{Standing}

-- how many lines came, the first of them, how many RECORDS are left, what came of clocks and waits for them, the names of clocks that
-- have spoken, the identifiers that are kept and those of them that are remembered; with what keeps the clocks
pub record Facts : Type 0 where
  pub lines : ℕ
  pub first : List ℕ
  pub left : ℕ
  pub stamps : List Stamp
  pub told : ℕ
  pub waits : List (Timed Numbered)
  pub names : List (List ℕ)
  pub known : Memory
  pub memory : Memory
  pub waiting : Option Waiting

-- how many lines came, the first of them, how many RECORDS are left, the clocks with what waits for them, their names, the identifiers,
-- and a text behind all that
abbrev pub facts_text : Option Clocks → Facts → List ℕ → List ℕ
facts_text clocks f rest =
    number_text f.lines ++ (bytes_text f.first ++ (number_text f.left ++ (clocks_text f.waiting ++ (names_text (named_in clocks) f.names ++ (doubles_text f.known ++ rest)))))

-- they are kept so, by so many clocks and a query's setting, at a watermark, and can be read back
pub record AreFacts (clocks : Option Clocks) (count : ℕ) (w : Setting) (mark : ℤ) (f : Facts) : Type 0 where
  pub small : f.lines < 2 ^ 64
  pub first : BytesFit f.first
  pub left : f.left < 2 ^ 64
  pub hears : Hear clocks count f.waiting f.stamps f.told f.waits
  pub waiting : ClocksFit f.waiting
  pub names : NamesFit f.names
  pub unnamed : named_in clocks ≡ None → f.names ≡ []
  pub known : DoublesFit f.known
  pub recalls : Recalls w.clock w.shape mark (record { entries = f.known; room = 0 }) f.memory

-- what was read says the same
pub record Says (clocks : Option Clocks) (count : ℕ) (t : Standing) (f : Facts) : Type 0 where
  pub lines : t.taken ≡ f.lines
  pub first : t.first.items ≡ f.first
  pub left : t.left ≡ f.left
  pub hears : Hear clocks count t.waiting f.stamps f.told f.waits
  pub names : Knows (named_in clocks) t.names f.names
  pub known : t.known.entries ≡ f.known

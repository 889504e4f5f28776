-- What is kept of clocks and of the records that wait for them.
use Rattle.std.specs.Prelude.{◌≡◌, ℕ, List, [], ◌∷◌, length, map, Option, Some, None}
use Rattle.wsm_record.specs.Event.{Event}
use Rattle.wsm_watermarks.specs.declared.held.Timed.{Timed}
use Rattle.wsm_watermarks.specs.declared.stamp.Stamp.{Stamp}
use Rattle.wsm_watermarks.specs.Watermarks.{FitsMarks}
use Rattle.wsm_turns.specs.declared.clocks.Clocks.{Clocks}
use Rattle.wsm_turns.specs.declared.waiting.Waiting.{Waiting}
use Rattle.wsm_turns.specs.Numbered.{Numbered, timed}
use Rattle.wsm_turns.specs.Turns.{Kept, numbered, went_by}

-- the watermark goes by these clocks, of which there are so many; the stamps came, that watermark was told, and these records wait
pub record Hears (c : Clocks) (count : ℕ) (w : Waiting) (stamps : List Stamp) (told : ℕ) (waits : List (Timed Numbered)) : Type 0 where
  pub by : w.marks.rule ≡ c.rule
  pub clocks : length w.marks.table.said ≡ count
  pub fits : FitsMarks w.marks stamps
  pub ahead : w.ahead ≡ c.ahead
  pub room : w.held.room ≡ c.room
  pub last : w.told ≡ told
  pub rows : w.held.rows ≡ waits

-- without clocks none waits
abbrev pub Hear : Option Clocks → ℕ → Option Waiting → List Stamp → ℕ → List (Timed Numbered) → Type 0
Hear None count None stamps told waits = waits ≡ []
Hear None count (Some w) stamps told waits = ⊥
Hear (Some c) count None stamps told waits = ⊥
Hear (Some c) count (Some w) stamps told waits = Hears c count w stamps told waits

-- a record has come with its stamp: what goes on was taken, and the rest waits
pub record Takes (clocks : Option Clocks) (count : ℕ) (k : Kept) (new : Option Waiting) (Took : List Numbered → Type 0) (stamp : Stamp) (number : ℕ) (e : Event) : Type 0 where
  pub hears : let went = went_by clocks k stamp (timed stamp.time number e) in Hear clocks count new (stamp ∷ k.stamps) went.mark went.held
  pub took : Took (map (numbered number) (went_by clocks k stamp (timed stamp.time number e)).out)

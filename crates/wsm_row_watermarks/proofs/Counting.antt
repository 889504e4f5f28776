-- Counts, and the stamps of rows.
use Rattle.std.proofs.Common.{◌≡◌, ◌∙◌, ℕ, suc, ◌+◌, ◌≤◌, true, false, List, [], ◌∷◌, length, Option, Some, None, Ok, Err, ap, arith}
use Rattle.wsm_record.specs.Event.{Event, Record, Watermark}
use Rattle.wsm_admission.specs.Admission.{counter}
use Rattle.wsm_turns.specs.declared.voice.Voice.TheVariants.{Key}
use Rattle.wsm_turns.specs.Turns.{Setting, stamp_of}
use Rattle.wsm_turns.proofs.Stamps.{few_by}
use Rattle.wsm_row_watermarks.specs.Fits.{CountsIf}
use Rattle.wsm_row_watermarks.specs.Lines.{Line, Said}
use Rattle.wsm_row_watermarks.specs.Turns.{State, marked, setting_in, state_of, told_at, turn_by_said}

-- none more
pub as_many : (a : ℕ) → CountsIf false a a
as_many a n h = let same : n ≡ n + 0 = omega arith in h ∙ ap counter same

-- one more
pub one_more : (a : ℕ) → CountsIf true a (counter (a + 1))
one_more a n h = let next : counter (a + 1) ≡ counter (n + 1) = omega arith in next

-- a turn adds one stamp at most
few_marked : (w : Setting) (s : State) (number : ℕ) (line : Line) (e : Event) (o : Option ℕ) (n : ℕ) → length s.kept.stamps ≤ n → length (marked w s number line e o).state.kept.stamps ≤ suc n
few_marked w s number line e None n h = omega (arith, h)
few_marked w s number line e (Some mark) n h = omega (arith, h)

few_said : (w : Setting) (s : State) (number : ℕ) (line : Line) (x : Said) (n : ℕ) → length s.kept.stamps ≤ n → length (turn_by_said w s number line x).state.kept.stamps ≤ suc n
few_said w s number line (Err why) n h = omega (arith, h)
few_said w s number line (Ok x) n h = by x.event
  where
    by : (e : Event) → length (turn_by_said w s number line (Ok (record { event = e; identifier = x.identifier; voice = x.voice }))).state.kept.stamps ≤ suc n
    by (Record key time values) = few_by (setting_in w s) s.kept number (stamp_of w.declared (Record key time values)) (record { event = Record key time values; identifier = x.identifier; voice = Key }) n h
    by (Watermark source time) = few_marked w s number line (Watermark source time) (told_at source time) n h

-- there is at most one for each line
pub few_stamps : (w : Setting) (lines : List Line) → length (state_of w lines).kept.stamps ≤ length lines
few_stamps w [] = omega arith
few_stamps w (line ∷ before) = few_said w (state_of w before) (length before + 1) line line.said (length before) (few_stamps w before)

-- What the clocks of a log come to, how many records are left out, and how many have no voice.
use Rattle.std.specs.Prelude.{ℕ, ◌+◌, List, [], ◌∷◌, length, Option, Some, None, option_map, Ok, Err, if◌then◌else◌}
use Rattle.wsm_watermarks.specs.declared.stamp.Stamp.{Stamp}
use Rattle.wsm_watermarks.specs.Agreement.{tellers, voices}
use Rattle.wsm_doubles.specs.Memory.{Memory}
use Rattle.wsm_turns.specs.declared.clocks.Clocks.{Clocks}
use Rattle.wsm_turns.specs.declared.heard.Heard.{Heard}
use Rattle.wsm_turns.specs.declared.voice.Voice.{Voice}
use Rattle.wsm_turns.specs.declared.voice.Voice.TheVariants.{Key, Named, Silent}
use Rattle.wsm_turns.specs.Turns.{Kept, Said, Setting, is_double, kept, stamp_of}

-- how many clocks have to agree, how many speak, how many records told a time, and how many wait
abbrev pub heard_by : Clocks → List Stamp → ℕ → Heard
heard_by c stamps waiting = record {
  agree = c.rule.agree;
  voices = tellers 0 (voices c.rule.forget stamps);
  stamps = length stamps;
  waiting = waiting;
}

abbrev pub heard : Option Clocks → Kept → Option Heard
heard clocks k = option_map (λ c. heard_by c k.stamps (length k.waits)) clocks

-- a record that could tell a time is left out where its identifier is remembered
abbrev pub left_by : Option Stamp → Option (List ℕ) → Memory → ℕ
left_by None identifier memory = 0
left_by (Some stamp) identifier memory = if is_double identifier memory then 1 else 0

abbrev pub left_out : {F : Type 0} → Setting → Kept → Said F → ℕ
left_out w k (Err why) = 0
left_out w k (Ok x) = left_by (stamp_of w.declared x.event) x.identifier k.memory

-- how many are left out of lines
abbrev pub left_count : {F : Type 0} → Setting → List (Said F) → ℕ
left_count w [] = 0
left_count w (x ∷ before) = left_count w before + left_out w (kept w before) x

abbrev pub silent_in : Voice → ℕ
silent_in Key = 0
silent_in (Named clock) = 0
silent_in Silent = 1

-- how many of lines have no voice
abbrev pub silent_count : {F : Type 0} → List (Said F) → ℕ
silent_count [] = 0
silent_count (Err why ∷ before) = silent_count before
silent_count (Ok x ∷ before) = silent_count before + silent_in x.voice

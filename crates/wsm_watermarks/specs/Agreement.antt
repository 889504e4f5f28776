-- The time that clocks agree on, and the watermark that follows it. A history is a list of stamps, the newest first; nothing is
-- kept beside it. Watermarks are those of the Dataflow Model (Akidau et al. 2015); how clocks agree on one is this project's own
-- rule.
use Rattle.std.specs.Prelude.{ℕ, suc, ◌-◌, ◌*◌, ◌/◌, max, ◌&&◌, not, Bool, List, [], ◌∷◌, map, take, nat_eq, nat_le, nat_lt, Option, Some, None, if◌then◌else◌}
use Rattle.std.specs.List.{filter, list_any}
use Rattle.wsm_watermarks.specs.declared.rule.Rule.{Rule}
use Rattle.wsm_watermarks.specs.declared.stamp.Stamp.{Stamp}

-- among these stamps a clock tells a time, or a later one
abbrev pub has_told : ℕ → ℕ → List Stamp → Bool
has_told clock time past = list_any (λ s. nat_eq s.clock clock && nat_le time s.time) past

-- how many clocks tell a time, or a later one
abbrev pub tellers : ℕ → List Stamp → ℕ
tellers time [] = 0
tellers time (s ∷ past) = if nat_le time s.time && not (has_told s.clock time past) then suc (tellers time past) else tellers time past

-- the later of two times, where there is a second one
abbrev pub later : ℕ → Option ℕ → ℕ
later t None = t
later t (Some u) = max t u

abbrev pub latest : List ℕ → Option ℕ
latest [] = None
latest (t ∷ ts) = Some (later t (latest ts))

-- the times of stamps
abbrev pub times : List Stamp → List ℕ
times past = map (λ s. s.time) past

-- the time that so many clocks agree on: the latest one told of which so many tell it, or a later one
abbrev pub agreed : ℕ → List Stamp → Option ℕ
agreed most past = latest (filter (λ t. nat_le most (tellers t past)) (times past))

-- the watermark that follows a time that is agreed on, and 0 where there is none
abbrev pub behind : Rule → Option ℕ → ℕ
behind rule None = 0
behind rule (Some t) = (t - rule.bound) / rule.step * rule.step

-- the stamps of all clocks but one
abbrev pub without : ℕ → List Stamp → List Stamp
without clock ss = filter (λ s. not (nat_eq s.clock clock)) ss

-- of each clock its last stamp
abbrev pub lasts : List Stamp → List Stamp
lasts [] = []
lasts (s ∷ past) = s ∷ without s.clock (lasts past)

-- the stamps by which clocks speak after a history: of each its last one, where it is among so many last ones of all
abbrev pub voices : ℕ → List Stamp → List Stamp
voices forget past = lasts (take forget past)

-- the watermark after a history: it follows the greatest time agreed on so far
abbrev pub mark_after : Rule → List Stamp → ℕ
mark_after rule [] = rule.start
mark_after rule (s ∷ past) = max (mark_after rule past) (behind rule (agreed rule.agree (voices rule.forget (s ∷ past))))

-- the new watermark after a stamp, where that raises it
abbrev pub raised_by : Rule → List Stamp → Stamp → Option ℕ
raised_by rule past s = if nat_lt (mark_after rule past) (mark_after rule (s ∷ past)) then Some (mark_after rule (s ∷ past)) else None

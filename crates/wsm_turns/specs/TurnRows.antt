-- Worked rows: records that wait, and doubles. Lines are written oldest first.
use Rattle.std.specs.Prelude.{◌≡◌, ◌+◌, refl, ℕ, List, [], ◌∷◌, length, map, reverse, pos, codes, false, Option, Some, None, Ok, unsigned_abs}
use Rattle.wsm_record.specs.Event.{Record, Watermark}
use Rattle.wsm_record.specs.Schema.{Declared}
use Rattle.wsm_windows.specs.declared.window.Shape.TheVariants.{Fixed}
use Rattle.wsm_admission.specs.declared.clock.Clock.{Clock}
use Rattle.wsm_turns.specs.declared.clocks.Clocks.{Clocks}
use Rattle.wsm_turns.specs.declared.voice.Voice.{Voice}
use Rattle.wsm_turns.specs.declared.voice.Voice.TheVariants.{Key, Named, Silent}
use Rattle.wsm_turns.specs.Turns.{Said as AnySaid, Setting, at_end, kept, turn_of}
use Rattle.wsm_turns.specs.Numbered.{Numbered}

-- two clocks agree, 20 behind and in steps of 10; a record that is more than 100 ahead waits, with room for so many
abbrev pub clocks : ℕ → Clocks
clocks room = record { rule = record { agree = 2; forget = 1000; bound = 20; step = 10; start = 0 }; ahead = 100; room = room; named = None }

-- KEYS a, b, c;
abbrev declared : Declared
declared = record { keys = codes "a" ∷ codes "b" ∷ codes "c" ∷ []; fields = []; sources = [] }

-- LATENESS 10, and windows of 60
abbrev clock : Clock
clock = record { start = pos 0; skew = pos 100; lateness = pos 10; from_window = false; records = pos 1000 }

abbrev pub setting : Option Clocks → Setting
setting cs = record { clocks = cs; declared = declared; clock = clock; shape = Fixed (pos 60) }

abbrev pub Said : Type 0
Said = AnySaid (Unit {0})

-- a record of a key at a time
abbrev pub r : ℕ → ℕ → Said
r key time = Ok (record { event = Record (Some key) (pos time) []; identifier = None; voice = Key })

abbrev rec : ℕ → ℕ → ℕ → Numbered
rec number key time = record { number = number; event = Record (Some key) (pos time) [] }

abbrev mark : ℕ → ℕ → Numbered
mark number time = record { number = number; event = Watermark (Some 0) (pos time) }

-- what went to the query at each line, the oldest first
abbrev gone : Setting → List Said → List (List Numbered)
gone w [] = []
gone w (x ∷ before) = (turn_of w (kept w before) (length before + 1) x).goes ∷ gone w before

abbrev went : Option Clocks → List Said → List (List Numbered)
went cs lines = reverse (gone (setting cs) (reverse lines))

abbrev left : Option Clocks → List Said → List Numbered
left cs lines = at_end (kept (setting cs) (reverse lines))

-- a record a day ahead waits; as clocks come near it goes on, behind their watermark, and its line stays the third
abbrev ahead : List Said
ahead = r 0 100 ∷ r 1 90 ∷ r 2 86500 ∷ r 0 130 ∷ r 0 86480 ∷ []

it_waits : went (Some (clocks 9)) ahead
    ≡ (rec 1 0 100 ∷ []) ∷ (mark 2 70 ∷ rec 2 1 90 ∷ []) ∷ (mark 3 80 ∷ []) ∷ (mark 4 110 ∷ rec 4 0 130 ∷ [])
    ∷ (mark 5 86460 ∷ rec 3 2 86500 ∷ rec 5 0 86480 ∷ []) ∷ []
it_waits = refl

-- where there is room for one, the latest goes on; what waits at the end goes then
abbrev full : List Said
full = r 0 100 ∷ r 1 90 ∷ r 2 86500 ∷ r 2 300 ∷ []

latest_goes : went (Some (clocks 1)) full ≡ (rec 1 0 100 ∷ []) ∷ (mark 2 70 ∷ rec 2 1 90 ∷ []) ∷ (mark 3 80 ∷ []) ∷ (rec 3 2 86500 ∷ []) ∷ []
latest_goes = refl

one_is_left : left (Some (clocks 1)) full ≡ rec 4 2 300 ∷ []
one_is_left = refl

two_are_left : left (Some (clocks 9)) full ≡ rec 4 2 300 ∷ rec 3 2 86500 ∷ []
two_are_left = refl

-- without clocks each goes on at once
none_waits : went None full ≡ (rec 1 0 100 ∷ []) ∷ (rec 2 1 90 ∷ []) ∷ (rec 3 2 86500 ∷ []) ∷ (rec 4 2 300 ∷ []) ∷ []
none_waits = refl

-- ---- doubles

-- the same with an identifier of one byte
abbrev pub i : ℕ → ℕ → ℕ → Said
i byte key time = Ok (record { event = Record (Some key) (pos time) []; identifier = Some (byte ∷ []); voice = Key })

-- a double is left out, with another time and of another key too; what has no identifier goes on
abbrev twice : List Said
twice = i 1 0 100 ∷ i 1 0 100 ∷ i 1 1 90 ∷ r 0 100 ∷ r 0 100 ∷ i 2 0 100 ∷ []

doubles_are_left_out : went None twice ≡ (rec 1 0 100 ∷ []) ∷ [] ∷ [] ∷ (rec 4 0 100 ∷ []) ∷ (rec 5 0 100 ∷ []) ∷ (rec 6 0 100 ∷ []) ∷ []
doubles_are_left_out = refl

-- it tells no time: two clocks agree on 90, of which the second told a double
abbrev told_twice : List Said
told_twice = i 1 0 100 ∷ i 1 1 90 ∷ i 2 1 90 ∷ []

a_double_tells_no_time : went (Some (clocks 9)) told_twice ≡ (rec 1 0 100 ∷ []) ∷ [] ∷ (mark 3 70 ∷ rec 3 1 90 ∷ []) ∷ []
a_double_tells_no_time = refl

-- at a watermark of 70 a record at 60 isn't late yet, at 80 it is: so its identifier is forgotten, and the double goes on, late by itself
abbrev late_double : ℕ → List Said
late_double last = i 1 0 60 ∷ r 0 (last + 20) ∷ r 1 (last + 20) ∷ i 1 0 60 ∷ []

it_is_remembered : went (Some (clocks 9)) (late_double 70) ≡ (rec 1 0 60 ∷ []) ∷ (rec 2 0 90 ∷ []) ∷ (mark 3 70 ∷ rec 3 1 90 ∷ []) ∷ [] ∷ []
it_is_remembered = refl

it_is_forgotten : went (Some (clocks 9)) (late_double 80) ≡ (rec 1 0 60 ∷ []) ∷ (rec 2 0 100 ∷ []) ∷ (mark 3 80 ∷ rec 3 1 100 ∷ []) ∷ (rec 4 0 60 ∷ []) ∷ []
it_is_forgotten = refl

-- the times of what is remembered, the newest first
abbrev times : Option Clocks → List Said → List ℕ
times cs lines = map (λ k. unsigned_abs k.1) (kept (setting cs) (reverse lines)).memory

-- a record that waits is remembered as it comes, and one that can't be taken isn't
it_is_remembered_as_it_waits : times (Some (clocks 9)) (i 1 0 100 ∷ i 2 1 90 ∷ i 3 2 86500 ∷ i 4 7 100 ∷ []) ≡ 86500 ∷ 90 ∷ 100 ∷ []
it_is_remembered_as_it_waits = refl

-- ---- clocks that lines name

-- a record of key a at a time, by such a voice
abbrev pub v : Voice → ℕ → Said
v voice time = Ok (record { event = Record (Some 0) (pos time) []; identifier = None; voice = voice })

-- two gateways agree on 90, though all is of one key; what has no voice tells no time, and goes on however far ahead it is
abbrev voices : List Said
voices = v (Named 0) 100 ∷ v Silent 86500 ∷ v (Named 7) 90 ∷ v (Named 0) 130 ∷ []

they_agree : went (Some (clocks 9)) voices ≡ (rec 1 0 100 ∷ []) ∷ (rec 2 0 86500 ∷ []) ∷ (mark 3 70 ∷ rec 3 0 90 ∷ []) ∷ (rec 4 0 130 ∷ []) ∷ []
they_agree = refl

-- it is remembered all the same
the_silent_is_remembered : times (Some (clocks 9)) (Ok (record { event = Record (Some 0) (pos 100) []; identifier = Some (1 ∷ []); voice = Silent }) ∷ i 1 1 90 ∷ []) ≡ 100 ∷ []
the_silent_is_remembered = refl

-- Worked rows: doubles of records that wait, and what isn't so without the premises. Lines and deliveries are written oldest first, what
-- was fed newest first.
use Rattle.std.specs.Prelude.{◌≡◌, refl, ℕ, false, List, [], ◌∷◌, codes, reverse, ℤ, pos, Some, None, Ok}
use Rattle.wsm_record.specs.Event.{Event, Record, Watermark}
use Rattle.wsm_record.specs.Schema.{Declared}
use Rattle.wsm_semantics.specs.Query.{Query}
use Rattle.wsm_semantics.specs.Rows.{base}
use Rattle.wsm_doubles.specs.Passing.{SentText, TextDelivery, Comes, Told, passing_texts}
use Rattle.wsm_turns.specs.declared.clocks.Clocks.{Clocks}
use Rattle.wsm_turns.specs.declared.voice.Voice.TheVariants.{Key}
use Rattle.wsm_turns.specs.Turns.{Said as AnySaid, at_end, fed_with, kept, setting_of}
use Rattle.wsm_turn_laws.specs.Delivered.{delivered}

-- two clocks agree, 20 behind and in steps of 10; a record that is more than 100 ahead waits, with room for so many
abbrev clocks : ℕ → Clocks
clocks room = record { rule = record { agree = 2; forget = 1000; bound = 20; step = 10; start = 0 }; ahead = 100; room = room; named = None }

-- KEYS a, b, c; START start; SKEW 100; LATENESS 10, and windows of 60
abbrev declared : Declared
declared = record { keys = codes "a" ∷ codes "b" ∷ codes "c" ∷ []; fields = []; sources = [] }

abbrev query : ℤ → Query
query start = record base { declared = declared; clock = record { start = start; skew = pos 100; lateness = pos 10; from_window = false; records = pos 1000 } }

abbrev Said : Type 0
Said = AnySaid (Unit {0})

-- a record of a key at a time, with an identifier of one byte
abbrev i : ℕ → ℕ → ℕ → Said
i byte key time = Ok (record { event = Record (Some key) (pos time) []; identifier = Some (byte ∷ []); voice = Key })

-- a watermark of the first source
abbrev w : ℕ → Said
w time = Ok (record { event = Watermark (Some 0) (pos time); identifier = None; voice = Key })

-- what a query is fed of lines, and to the end of them
abbrev fed : ℕ → ℤ → List Said → List Event
fed room start lines = (kept (setting_of (Some (clocks room)) (query start)) (reverse lines)).fed

abbrev fed_all : ℕ → ℤ → List Said → List Event
fed_all room start lines = let k = kept (setting_of (Some (clocks room)) (query start)) (reverse lines) in fed_with k.fed (at_end k)

-- what passes of deliveries
abbrev passed : ℤ → List TextDelivery → List Event
passed start ds = (passing_texts (query start) (reverse ds)).passed

abbrev rec : ℕ → ℕ → Event
rec key time = Record (Some key) (pos time) []

abbrev mark : ℕ → Event
mark time = Watermark (Some 0) (pos time)

-- of a record by its identifier, and of one of its own by the number of its line
abbrev comes : ℕ → ℕ → ℕ → TextDelivery
comes byte key time = Comes (record { identifier = 0 ∷ byte ∷ []; key = Some key; time = pos time; values = [] })

abbrev own : ℕ → ℕ → ℕ → TextDelivery
own number key time = Comes (record { identifier = 1 ∷ number ∷ []; key = Some key; time = pos time; values = [] })

abbrev sent : ℕ → ℕ → ℕ → SentText
sent byte key time = record { identifier = 0 ∷ byte ∷ []; key = Some key; time = pos time; values = [] }

abbrev told : ℕ → TextDelivery
told time = Told (Some 0) (pos time)

-- ---- a double of a record that waits is left out, and comes behind it

abbrev doubled : List Said
doubled = i 1 0 100 ∷ i 2 1 90 ∷ i 3 2 300 ∷ i 3 1 310 ∷ i 4 0 290 ∷ i 5 1 290 ∷ []

before_it_goes : fed 9 (pos 0) (i 1 0 100 ∷ i 2 1 90 ∷ i 3 2 300 ∷ i 3 1 310 ∷ []) ≡ mark 80 ∷ rec 1 90 ∷ mark 70 ∷ rec 0 100 ∷ []
before_it_goes = refl

as_it_goes : fed 9 (pos 0) doubled ≡ passed (pos 0) (comes 1 0 100 ∷ told 70 ∷ comes 2 1 90 ∷ told 80 ∷ told 270 ∷ comes 3 2 300 ∷ comes 3 1 310 ∷ comes 4 0 290 ∷ comes 5 1 290 ∷ [])
as_it_goes = refl

-- each comes as often as it was delivered
so_is_each : delivered declared (reverse doubled) ≡ sent 5 1 290 ∷ sent 4 0 290 ∷ sent 3 1 310 ∷ sent 3 2 300 ∷ sent 2 1 90 ∷ sent 1 0 100 ∷ []
so_is_each = refl

-- ---- where there is no room the latest goes at once, too far ahead as it is, and is remembered

abbrev full : List Said
full = i 1 0 300 ∷ i 2 0 400 ∷ i 2 0 400 ∷ []

its_double_is_left_out : fed_all 1 (pos 0) full ≡ passed (pos 0) (comes 2 0 400 ∷ comes 2 0 400 ∷ comes 1 0 300 ∷ [])
its_double_is_left_out = refl

both_went : fed_all 1 (pos 0) full ≡ rec 0 300 ∷ rec 0 400 ∷ []
both_went = refl

-- ---- a record that says nothing of time is never left out, and leaves none out: its identifier is one of its own

abbrev undeclared : List Said
undeclared = i 1 7 100 ∷ i 1 0 100 ∷ i 1 7 100 ∷ i 1 0 100 ∷ []

three_go : fed_all 9 (pos 0) undeclared ≡ rec 7 100 ∷ rec 0 100 ∷ rec 7 100 ∷ []
three_go = refl

by_their_own : passed (pos 0) (own 1 7 100 ∷ comes 1 0 100 ∷ own 3 7 100 ∷ comes 1 0 100 ∷ []) ≡ rec 7 100 ∷ rec 0 100 ∷ rec 7 100 ∷ []
by_their_own = refl

-- by that which the line has, one would go
not_by_its_own : passed (pos 0) (comes 1 7 100 ∷ comes 1 0 100 ∷ comes 1 7 100 ∷ comes 1 0 100 ∷ []) ≡ rec 7 100 ∷ []
not_by_its_own = refl

-- ---- where the query begins later than the clocks, one that is late from the start may wait, and its double with a later time go first

abbrev sooner : List Said
sooner = i 1 0 500 ∷ i 1 0 1500 ∷ []

it_goes_last : fed_all 1 (pos 1000) sooner ≡ rec 0 500 ∷ rec 0 1500 ∷ []
it_goes_last = refl

in_neither_order : passed (pos 1000) (comes 1 0 1500 ∷ comes 1 0 500 ∷ []) ≡ rec 0 1500 ∷ []
in_neither_order = refl

nor_in_the_other : passed (pos 1000) (comes 1 0 500 ∷ comes 1 0 1500 ∷ []) ≡ rec 0 1500 ∷ rec 0 500 ∷ []
nor_in_the_other = refl

-- ---- where a line tells a watermark of the first source, a record that waits may be late as it goes, and its double, left out as it
-- came, would pass before it or behind it

abbrev overtaken : List Said
overtaken = i 1 0 300 ∷ i 1 1 300 ∷ w 1000 ∷ []

one_goes : fed_all 9 (pos 0) overtaken ≡ rec 0 300 ∷ mark 1000 ∷ []
one_goes = refl

two_would : passed (pos 0) (told 1000 ∷ comes 1 0 300 ∷ comes 1 1 300 ∷ []) ≡ rec 1 300 ∷ rec 0 300 ∷ mark 1000 ∷ []
two_would = refl

two_would_before : passed (pos 0) (told 1000 ∷ comes 1 1 300 ∷ comes 1 0 300 ∷ []) ≡ rec 0 300 ∷ rec 1 300 ∷ mark 1000 ∷ []
two_would_before = refl

-- What a line says by names.
use Rattle.std.proofs.Common.{◌≡◌, ◌≢◌, ◌∙◌, ℕ, ℤ, true, List, position, bytes_eq, Option, Some, None, Result, Ok, Err, refl, ap, inl, inr}
use Rattle.std.specs.Prelude.{is_ok, if◌then◌else◌}
use Rattle.std.proofs.lemmas.Bool.{cases_Bool, false≢true}
use Rattle.wsm_record.specs.declared.event.Value.{Value}
use Rattle.wsm_record.specs.Event.{Event, Record}
use Rattle.wsm_record.specs.Schema.{Declared}
use Rattle.wsm_key_names.specs.Names.{learned}
use Rattle.wsm_key_names.specs.Reading.{by_names, learned_of}
use Rattle.wsm_lines.specs.declared.fault.LineFault.{LineFault}
use Rattle.wsm_lines.specs.declared.fault.LineFault.TheVariants.{NoKey, BadKey}
use Rattle.wsm_lines.specs.declared.fault.LineRefusal.{LineRefusal}
use Rattle.wsm_lines.specs.declared.fault.LineRefusal.TheVariants.{Fault, Memory}
use Rattle.wsm_lines.specs.declared.source.KeyNames.{KeyNames}
use Rattle.wsm_lines.specs.declared.source.KeyNames.TheVariants as names
use Rattle.wsm_lines.specs.declared.source.Source.{Source}
use Rattle.wsm_lines.specs.Event.{is_key, key_named, key_number, text_of, time_at, values_of}
use Rattle.wsm_lines.specs.Fault.{IfFault, on_ok}
use Rattle.wsm_lines.specs.Identifier.{identifier_at}
use Rattle.wsm_lines.specs.Key.{are_same, if_told, key_by, key_in, key_text_of, no_names, with_key}
use Rattle.wsm_lines.specs.Said.{event_by, said_of, taken_of}
use Rattle.wsm_lines.specs.Scalar.{Taken, scalar_at}
use Rattle.wsm_named_lines.specs.Names.{names_after_line}

-- what a line says, with this key
abbrev pub keyed : Option ℕ → Result Event LineFault → Result Event LineFault
keyed key said = on_ok said (λ e. Ok (with_key key e))

-- the number of the text of a key, if it is told and has one
abbrev pub number_by : KeyNames → Declared → Result (List ℕ) LineFault → Option ℕ
number_by n d (Err why) = None
number_by n d (Ok text) = key_number n d text

-- the event of a key, a time, values and an identifier
abbrev event_with : Result (Option ℕ) LineFault → Result ℤ LineFault → Result (List Value) LineFault → Result (Option (List ℕ)) LineFault → Result Event LineFault
event_with key time values identifier =
    on_ok (on_ok key (λ k. on_ok time (λ t. on_ok values (λ vs. Ok (Record k t vs))))) (λ event. on_ok identifier (λ i. Ok event))

with_number : (key old : Option ℕ) (time : Result ℤ LineFault) (values : Result (List Value) LineFault) (identifier : Result (Option (List ℕ)) LineFault)
    → event_with (Ok key) time values identifier ≡ keyed key (event_with (Ok old) time values identifier)
with_number key old (Err why) values identifier = refl
with_number key old (Ok t) (Err why) identifier = refl
with_number key old (Ok t) (Ok vs) (Err why) = refl
with_number key old (Ok t) (Ok vs) (Ok i) = refl

by_text : (n : KeyNames) (d other : Declared) (text : Result (List ℕ) LineFault) (time : Result ℤ LineFault) (values : Result (List Value) LineFault) (identifier : Result (Option (List ℕ)) LineFault)
    → event_with (on_ok text (key_named n d)) time values identifier ≡ keyed (number_by n d (on_ok text key_in)) (event_with (on_ok text (key_named n other)) time values identifier)
by_text n d other (Err why) time values identifier = refl
by_text n d other (Ok text) time values identifier = elim (cases_Bool (is_key text)) [
  | inl is ↦ rw is (with_number (key_number n d text) (key_number n other text) time values identifier)
  | inr isnt ↦ rw isnt refl
]

taken_by : (s : Source) (d other : Declared) (taken : Result Taken LineFault) → event_by s d taken ≡ keyed (number_by s.key.names d (key_by s taken)) (event_by s other taken)
taken_by s d other (Err why) = refl
taken_by s d other (Ok t) =
    by_text s.key.names d other (text_of NoKey BadKey (scalar_at t s.key.at)) (time_at s.time t) (values_of s.fields t) (identifier_at s.identifier t)

-- a line says by a declaration what it says by another, with the number that its key's text has there
pub said_named : (s : Source) (d other : Declared) (before : List (List ℕ)) (line : List ℕ)
    → said_of s d before line ≡ keyed (number_by s.key.names d (key_by s (taken_of s before line))) (said_of s other before line)
said_named s d other before line = taken_by s d other (taken_of s before line)

-- a fault is one whatever is declared
pub fault_stays : (s : Source) (d other : Declared) (before : List (List ℕ)) (line : List ℕ) (why : LineFault) → said_of s other before line ≡ Err why → said_of s d before line ≡ Err why
fault_stays s d other before line why is = said_named s d other before line ∙ ap (keyed (number_by s.key.names d (key_by s (taken_of s before line)))) is

pub fault_by : (s : Source) (d : Declared) (before : List (List ℕ)) (line : List ℕ) (why : LineRefusal)
    → IfFault why (λ f. said_of s no_names before line ≡ Err f) → IfFault why (λ f. said_of s d before line ≡ Err f)
fault_by s d before line (Fault f) is = fault_stays s d no_names before line f is
fault_by s d before line Memory is = tt

pub apart_from_memory : {A : Type 0} (r : Result A LineRefusal) (why : LineRefusal) (f : LineFault) → r ≡ Err why → why ≡ Fault f → r ≢ Err Memory
apart_from_memory r why f is of e = cc

told : (r : Result (List ℕ) LineFault) (text : List ℕ) → if_told r ≡ Some text → r ≡ Ok text
told (Ok other) text e = cc
told (Err why) text e = cc

pub number_same : (n : KeyNames) (d : Declared) (names : List (List ℕ)) (text : List ℕ) → are_same n ≡ true → key_number n (by_names names d) text ≡ position (bytes_eq text) names
number_same names.Same d ns text e = refl
number_same (names.Table entries other) d ns text e = absurd (false≢true e)
number_same (names.Prefixes entries other) d ns text e = absurd (false≢true e)

-- by names a line says what it says by none, with the number of its key's text among them
pub by_names_says : (s : Source) (d : Declared) (names before : List (List ℕ)) (line text : List ℕ) (e : Event)
    → are_same s.key.names ≡ true → said_of s no_names before line ≡ Ok e → key_text_of s before line ≡ Some text
    → said_of s (by_names names d) before line ≡ Ok (with_key (position (bytes_eq text) names) e)
by_names_says s d names before line text e same says key =
    said_named s (by_names names d) no_names before line
    ∙ ap (λ r. keyed (number_by s.key.names (by_names names d) (key_by s (taken_of s before line))) r) says
    ∙ ap (λ r. Ok (with_key (number_by s.key.names (by_names names d) r) e)) (told (key_by s (taken_of s before line)) text key)
    ∙ ap (λ k. Ok (with_key k e)) (number_same s.key.names d names text same)

-- ---- the names behind a line

pub event_teaches : (most : ℕ) (s : Source) (names before : List (List ℕ)) (line text : List ℕ) (e : Event)
    → said_of s no_names before line ≡ Ok e → key_text_of s before line ≡ Some text → names_after_line most s names before line ≡ learned most names text
event_teaches most s names before line text e says key =
    ap (λ r. if is_ok r then learned_of most names (key_text_of s before line) else names) says ∙ ap (learned_of most names) key

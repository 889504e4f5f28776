-- Where the time stands, and how it is written.
use Rattle.std.specs.Prelude.{ℕ, List, [], ◌∷◌, codes, Bool, true, false, ◌||◌, ◌&&◌, ◌==◌, nat_le, if◌then◌else◌, Option, Some, None, Result, Ok}
use Rattle.std.specs.Str.{bytes_eq}
use Rattle.toml.specs.Data.{Members}
use Rattle.wsm_values.specs.declared.clock.Fold.{Fold}
use Rattle.wsm_values.specs.declared.clock.Fold.TheVariants.{Refused, First, Second}
use Rattle.wsm_values.specs.declared.time.Unit.{Unit}
use Rattle.wsm_values.specs.declared.time.Unit.TheVariants.{Seconds, Milliseconds, Microseconds}
use Rattle.wsm_values.specs.Pattern.{is_pattern}
use Rattle.wsm_description.specs.declared.description.FormDescription.{FormDescription}
use Rattle.wsm_description.specs.declared.description.FormDescription.TheVariants.{Instant, Epoch, Fraction, Stamped, Local}
use Rattle.wsm_description.specs.declared.description.TimeDescription.{TimeDescription}
use Rattle.wsm_description.specs.declared.keys.Section.TheVariants as section
use Rattle.wsm_description.specs.declared.refusal.SourceFault.TheVariants.{BadWord, Conflict}
use Rattle.wsm_description.specs.declared.refusal.Refusal.{Refusal}
use Rattle.wsm_description.specs.Refusals.{refused, on_ok}
use Rattle.wsm_description.specs.Keys.{known_keys}
use Rattle.wsm_description.specs.Reading.{text_at, required_text, required_table, absent}

abbrev pub unit_named : List ℕ → Option Unit
unit_named word =
    if bytes_eq word (codes "seconds") then Some Seconds
    else (if bytes_eq word (codes "milliseconds") then Some Milliseconds
    else (if bytes_eq word (codes "microseconds") then Some Microseconds else None))

abbrev pub epoch_form : Option Unit → Option FormDescription
epoch_form None = None
epoch_form (Some unit) = Some (Epoch unit)

-- the form of a word, where it is no pattern
abbrev pub plain_form : List ℕ → Option FormDescription
plain_form word =
    if bytes_eq word (codes "rfc3339") then Some Instant
    else (if bytes_eq word (codes "fraction") then Some Fraction else epoch_form (unit_named word))

-- ---- patterns

-- what may stand between the percent sign of a directive and its letter: - _ ^ # : . and digits
abbrev pub is_flag : ℕ → Bool
is_flag b = b == 45 || b == 95 || b == 94 || b == 35 || b == 58 || b == 46 || (nat_le 48 b && nat_le b 57)

-- what is left of a pattern, inside of a directive or not, has %z or %s
abbrev pub stamps_from : Bool → List ℕ → Bool
stamps_from inside [] = false
stamps_from false (b ∷ bs) = stamps_from (b == 37) bs
stamps_from true (b ∷ bs) = if b == 122 || b == 115 then true else stamps_from (is_flag b) bs

-- a pattern has an offset or an instant
abbrev pub is_stamped : List ℕ → Bool
is_stamped pattern = stamps_from false pattern

abbrev pub has_percent : List ℕ → Bool
has_percent [] = false
has_percent (b ∷ bs) = if b == 37 then true else has_percent bs

-- ---- zones

-- a form that needs no zone has neither a zone nor a fold
abbrev pub without_zone : Members → FormDescription → Result FormDescription Refusal
without_zone ms form =
    on_ok (absent (codes "time") (codes "zone") ms) (λ _. on_ok (absent (codes "time") (codes "fold") ms) (λ _. Ok form))

abbrev pub fold_named : List ℕ → Option Fold
fold_named word =
    if bytes_eq word (codes "refuse") then Some Refused
    else (if bytes_eq word (codes "first") then Some First else (if bytes_eq word (codes "second") then Some Second else None))

abbrev pub or_bad_word : {A : Type 0} → List ℕ → Option A → Result A Refusal
or_bad_word key None = refused BadWord (codes "time") key
or_bad_word key (Some a) = Ok a

abbrev pub fold_or_default : Option (List ℕ) → Result Fold Refusal
fold_or_default None = Ok Refused
fold_or_default (Some word) = or_bad_word (codes "fold") (fold_named word)

abbrev pub fold_of : Members → Result Fold Refusal
fold_of ms = on_ok (text_at (codes "time") (codes "fold") ms) fold_or_default

abbrev pub in_zone : Members → List ℕ → Option (List ℕ) → Result FormDescription Refusal
in_zone ms pattern None = refused Conflict (codes "time") (codes "form")
in_zone ms pattern (Some zone) = on_ok (fold_of ms) (λ fold. Ok (Local pattern zone fold))

-- a pattern without an offset and an instant has a zone
abbrev pub local_form : Members → List ℕ → Result FormDescription Refusal
local_form ms pattern = on_ok (text_at (codes "time") (codes "zone") ms) (in_zone ms pattern)

-- a pattern has a percent sign, and directives alone that the reader of times takes
abbrev pub pattern_form : Members → List ℕ → Result FormDescription Refusal
pattern_form ms pattern =
    if has_percent pattern && is_pattern pattern then (if is_stamped pattern then without_zone ms (Stamped pattern) else local_form ms pattern)
    else refused BadWord (codes "time") (codes "form")

abbrev pub form_or_pattern : Members → List ℕ → Option FormDescription → Result FormDescription Refusal
form_or_pattern ms word (Some form) = without_zone ms form
form_or_pattern ms word None = pattern_form ms word

abbrev pub form_of : Members → Result FormDescription Refusal
form_of ms = on_ok (required_text (codes "time") (codes "form") ms) (λ word. form_or_pattern ms word (plain_form word))

abbrev pub unit_or_default : Option (List ℕ) → Result Unit Refusal
unit_or_default None = Ok Seconds
unit_or_default (Some word) = or_bad_word (codes "unit") (unit_named word)

abbrev pub unit_of : Members → Result Unit Refusal
unit_of ms = on_ok (text_at (codes "time") (codes "unit") ms) unit_or_default

abbrev pub time_in : Members → Result TimeDescription Refusal
time_in ms =
    on_ok (known_keys section.Time (codes "time") ms) (λ _.
    on_ok (required_text (codes "time") (codes "at") ms) (λ at.
    on_ok (unit_of ms) (λ unit.
    on_ok (form_of ms) (λ form. Ok (record { at = at; form = form; unit = unit })))))

abbrev pub time_of : Members → Result TimeDescription Refusal
time_of ms = on_ok (required_table (codes "") (codes "time") ms) time_in

-- Worked rows: a record that is delivered twice, and once more when its identifier is forgotten. LATENESS 10.
use Rattle.std.specs.Prelude.{◌≡◌, refl, [], ◌∷◌, pos, codes, Some}
use Rattle.wsm_record.specs.Event.{Event, Record, Watermark}
use Rattle.wsm_semantics.specs.Rows.{base}
use Rattle.wsm_doubles.specs.Passing.{TextDelivery, Comes, Told, number_of, passing_texts}

abbrev first : TextDelivery
first = Comes (record { identifier = codes "a"; key = Some 0; time = pos 5; values = [] })

abbrev event : Event
event = Record (Some 0) (pos 5) []

abbrev told : TextDelivery
told = Told (Some 0) (pos 15)

abbrev mark : Event
mark = Watermark (Some 0) (pos 15)

a_double_is_left_out : (passing_texts base (first ∷ told ∷ first ∷ [])).passed ≡ mark ∷ event ∷ []
a_double_is_left_out = refl

it_is_remembered : (passing_texts base (first ∷ told ∷ first ∷ [])).memory ≡ (codes "a", pos 5) ∷ []
it_is_remembered = refl

-- at 16 it is late, and passes
abbrev later : TextDelivery
later = Told (Some 0) (pos 16)

a_late_double_passes : (passing_texts base (first ∷ later ∷ first ∷ [])).passed ≡ event ∷ Watermark (Some 0) (pos 16) ∷ event ∷ []
a_late_double_passes = refl

it_is_forgotten : (passing_texts base (first ∷ later ∷ first ∷ [])).memory ≡ []
it_is_forgotten = refl

numbers_are_computed : number_of (1 ∷ 0 ∷ []) ≡ 6
numbers_are_computed = refl

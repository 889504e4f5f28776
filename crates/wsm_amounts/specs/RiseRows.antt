-- Worked rows of rises of the watermark in one step and in two.
use Rattle.std.specs.Prelude.{◌≡◌, refl, ℕ, ◌+◌, List, [], ◌∷◌, reverse, pos, Some}
use Rattle.wsm_record.specs.declared.words.Form.TheVariants as form
use Rattle.wsm_record.specs.declared.words.Mode.TheVariants as mode
use Rattle.wsm_record.specs.Event.{Event, Watermark}
use Rattle.wsm_semantics.specs.Query.{Query}
use Rattle.wsm_semantics.specs.Lines.{Row, events}
use Rattle.wsm_semantics.specs.Rows.{base, a}
use Rattle.wsm_amounts.specs.Rises.{rows_written}

abbrev past_of : List Row → List Event
past_of rows = events (reverse rows)

abbrev at : ℕ → Event
at time = Watermark (Some 0) (pos time)

-- a window that fired early, and one that didn't
abbrev past : List Event
past = past_of (a 5 7 ∷ a 59 3 ∷ a 61 5 ∷ [])

abbrev early : Query
early = record base { mode = mode.Retracting; early = 2 }

-- the first is withdrawn and fires, and then the second fires and both are dropped
in_two_steps : rows_written early past (at 60) + rows_written early (at 60 ∷ past) (at 130) ≡ 3
in_two_steps = refl

in_one_step : rows_written early past (at 130) ≡ 3
in_one_step = refl

-- a stream of the relation has its rows at each rise
abbrev streaming : Query
streaming = record base { form = form.Rstream }

a_stream_in_two_steps : rows_written streaming (past_of (a 5 7 ∷ [])) (at 60) + rows_written streaming (at 60 ∷ past_of (a 5 7 ∷ [])) (at 65) ≡ 2
a_stream_in_two_steps = refl

a_stream_in_one_step : rows_written streaming (past_of (a 5 7 ∷ [])) (at 65) ≡ 1
a_stream_in_one_step = refl

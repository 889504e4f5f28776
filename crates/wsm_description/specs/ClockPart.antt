-- How clocks make watermarks.
use Rattle.std.specs.Prelude.{ℕ, List, codes, unwrap_or, Option, Some, None, Result, Ok}
use Rattle.toml.specs.Data.{Members}
use Rattle.wsm_description.specs.declared.description.ClockDescription.{ClockDescription}
use Rattle.wsm_description.specs.declared.description.Format.{Format}
use Rattle.wsm_description.specs.declared.description.Format.TheVariants.{Json, Access, Csv, Rows}
use Rattle.wsm_description.specs.declared.description.NamedClocks.{NamedClocks}
use Rattle.wsm_description.specs.declared.keys.Section.TheVariants as section
use Rattle.wsm_description.specs.declared.refusal.Refusal.{Refusal}
use Rattle.wsm_description.specs.declared.refusal.SourceFault.TheVariants.{Conflict}
use Rattle.wsm_description.specs.Refusals.{on_ok, refused}
use Rattle.wsm_description.specs.Keys.{known_keys}
use Rattle.wsm_description.specs.Reading.{absent, required, table_at, text_at, number_at}

abbrev pub bound_of : Members → Result ℕ Refusal
bound_of ms = on_ok (number_at (codes "clock") (codes "bound") 0 1000000000000 ms) (required (codes "clock") (codes "bound"))

-- the clocks that are named at a place, if one is said, ten thousand at most where nothing is said of that
abbrev pub named_by : Option ℕ → Option (List ℕ) → Result (Option NamedClocks) Refusal
named_by most (Some at) = Ok (Some (record { at = at; most = unwrap_or most 10000 }))
named_by (Some most) None = refused Conflict (codes "clock") (codes "clocks")
named_by None None = Ok None

-- a row has no place for the name of a clock
abbrev pub may_be_named : Format → Members → Result (Unit {0}) Refusal
may_be_named Json ms = Ok tt
may_be_named Access ms = Ok tt
may_be_named (Csv separator) ms = Ok tt
may_be_named Rows ms = absent (codes "clock") (codes "at") ms

abbrev pub named_of : Format → Members → Result (Option NamedClocks) Refusal
named_of format ms =
    on_ok (may_be_named format ms) (λ _.
    on_ok (number_at (codes "clock") (codes "clocks") 1 1000000 ms) (λ most.
    on_ok (text_at (codes "clock") (codes "at") ms) (named_by most)))

-- one clock agrees with itself, watermarks rise by one unit, a clock counts for a million records, and a thousand may wait, where nothing is said
abbrev pub clock_in : Format → Members → Result ClockDescription Refusal
clock_in format ms =
    on_ok (known_keys section.Clock (codes "clock") ms) (λ _.
    on_ok (number_at (codes "clock") (codes "agree") 1 1000 ms) (λ agree.
    on_ok (bound_of ms) (λ bound.
    on_ok (number_at (codes "clock") (codes "step") 1 1000000000000 ms) (λ step.
    on_ok (number_at (codes "clock") (codes "forget") 1 1000000000000 ms) (λ forget.
    on_ok (number_at (codes "clock") (codes "room") 0 1000000 ms) (λ room.
    on_ok (named_of format ms) (λ named.
    Ok (record {
      agree = unwrap_or agree 1;
      bound = bound;
      step = unwrap_or step 1;
      forget = unwrap_or forget 1000000;
      room = unwrap_or room 1000;
      named = named;
    }))))))))

abbrev pub clock_or_none : Format → Option Members → Result (Option ClockDescription) Refusal
clock_or_none format None = Ok None
clock_or_none format (Some ms) = on_ok (clock_in format ms) (λ clock. Ok (Some clock))

abbrev pub clock_of : Format → Members → Result (Option ClockDescription) Refusal
clock_of format ms = on_ok (table_at (codes "") (codes "clock") ms) (clock_or_none format)

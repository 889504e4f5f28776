-- What a whole text says.
use Rattle.std.specs.Prelude.{ℕ, List, [], codes, Option, Some, None, Result, Ok, Err}
use Rattle.toml.specs.Data.{Members}
use Rattle.toml.specs.Parse.{parse_document}
use Rattle.wsm_description.specs.declared.description.Description.{Description}
use Rattle.wsm_description.specs.declared.keys.Section.TheVariants as section
use Rattle.wsm_description.specs.declared.refusal.SourceFault.TheVariants.{NotToml}
use Rattle.wsm_description.specs.declared.refusal.Refusal.{Refusal}
use Rattle.wsm_description.specs.declared.refusal.Refusal.TheVariants.{Fault}
use Rattle.wsm_description.specs.Refusals.{on_ok}
use Rattle.wsm_description.specs.Keys.{known_keys}
use Rattle.wsm_description.specs.FormatPart.{format_of, longest_of}
use Rattle.wsm_description.specs.Reading.{text_at}
use Rattle.wsm_description.specs.ClockPart.{clock_of}
use Rattle.wsm_description.specs.RecordPart.{record_of}

-- what a table says of a source, or the first fault, in this order
abbrev pub description_of : Members → Result Description Refusal
description_of ms =
    on_ok (known_keys section.Whole (codes "") ms) (λ _.
    on_ok (format_of ms) (λ format.
    on_ok (longest_of ms) (λ longest.
    on_ok (text_at (codes "") (codes "keys") ms) (λ keys.
    on_ok (clock_of format ms) (λ clock.
    on_ok (record_of format ms) (λ r.
    Ok (record {
      format = format;
      longest = longest;
      keys = keys;
      key = r.key;
      time = r.time;
      fields = r.fields;
      clock = clock;
      identifier = r.identifier;
    })))))))

-- a text that is no TOML is about no key
abbrev pub no_toml : Refusal
no_toml = Fault NotToml []

abbrev pub of_document : Option Members → Result Description Refusal
of_document None = Err no_toml
of_document (Some ms) = description_of ms

-- what a text says of a source, or the first fault
abbrev pub described : List ℕ → Result Description Refusal
described text = of_document (parse_document text)

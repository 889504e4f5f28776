-- Where what a record has stands in a line.
use Rattle.std.specs.Prelude.{codes, [], None, Result, Ok}
use Rattle.toml.specs.Data.{Members}
use Rattle.wsm_values.specs.declared.time.Unit.TheVariants.{Seconds}
use Rattle.wsm_description.specs.declared.description.Format.{Format}
use Rattle.wsm_description.specs.declared.description.Format.TheVariants.{Json, Access, Csv, Rows}
use Rattle.wsm_description.specs.declared.description.FormDescription.TheVariants.{Epoch}
use Rattle.wsm_description.specs.declared.description.KeyNaming.TheVariants.{Same}
use Rattle.wsm_description.specs.declared.record_part.RecordDescription.{RecordDescription}
use Rattle.wsm_description.specs.declared.refusal.Refusal.{Refusal}
use Rattle.wsm_description.specs.Refusals.{on_ok}
use Rattle.wsm_description.specs.Reading.{absent}
use Rattle.wsm_description.specs.KeyPart.{key_of}
use Rattle.wsm_description.specs.TimePart.{time_of}
use Rattle.wsm_description.specs.FieldPart.{fields_of}
use Rattle.wsm_description.specs.IdentifierPart.{identifier_of}

abbrev pub said_record : Members → Result RecordDescription Refusal
said_record ms =
    on_ok (key_of ms) (λ key.
    on_ok (time_of ms) (λ time.
    on_ok (fields_of ms) (λ fields.
    on_ok (identifier_of ms) (λ identifier.
    Ok (record { key = key; time = time; fields = fields; identifier = identifier })))))

-- a row's key is a declared one, its time a number of the clock's units, and its fields are written plainly
abbrev pub plain_record : RecordDescription
plain_record = record {
  key = record { at = codes "key"; naming = Same };
  time = record { at = codes "time"; form = Epoch Seconds; unit = Seconds };
  fields = [];
  identifier = None;
}

-- of a row nothing may be said
abbrev pub row_record : Members → Result RecordDescription Refusal
row_record ms =
    on_ok (absent (codes "") (codes "key") ms) (λ _.
    on_ok (absent (codes "") (codes "time") ms) (λ _.
    on_ok (absent (codes "") (codes "fields") ms) (λ _.
    on_ok (absent (codes "") (codes "identifier") ms) (λ _. Ok plain_record))))

-- what is said of a record, by the format of its line
abbrev pub record_of : Format → Members → Result RecordDescription Refusal
record_of Json ms = said_record ms
record_of Access ms = said_record ms
record_of (Csv separator) ms = said_record ms
record_of Rows ms = row_record ms

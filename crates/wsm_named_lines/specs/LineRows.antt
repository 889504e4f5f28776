-- Worked rows of lines read by names.
use Rattle.std.specs.Prelude.{◌≡◌, refl, ℕ, List, [], ◌∷◌, pos, Some, None, Ok, Err, codes}
use Rattle.std.specs.Char.{encode_utf8}
use Rattle.std.specs.Str.{is_utf8, chars}
use Rattle.json.proofs.OnLiterals.{json_on_literals}
use Rattle.wsm_record.specs.Event.{Record}
use Rattle.wsm_record.specs.Schema.{Declared}
use Rattle.wsm_values.specs.OnLiterals.{wsm_values_on_literals}
use Rattle.wsm_values.specs.declared.time.TimeForm.TheVariants.{Epoch}
use Rattle.wsm_values.specs.declared.time.Unit.TheVariants.{Seconds}
use Rattle.wsm_lines.specs.declared.fault.LineFault.TheVariants.{BadTime, NoKey}
use Rattle.wsm_lines.specs.declared.source.Format.TheVariants.{Json}
use Rattle.wsm_lines.specs.declared.source.KeyNames.TheVariants.{Same, Table}
use Rattle.wsm_lines.specs.declared.source.Place.TheVariants.{Path}
use Rattle.wsm_lines.specs.declared.source.Source.{Source}
use Rattle.wsm_lines.specs.Entries.{entry_with}
use Rattle.wsm_named_lines.specs.Names.{names_after_lines, read_in_turn}

abbrev bare : Declared
bare = record { keys = codes "0" ∷ []; fields = []; sources = [] }

abbrev source : Source
source = record {
  format = Json;
  longest = 60;
  key = record { at = Path (codes "k" ∷ []); names = Same };
  time = record { at = Path (codes "t" ∷ []); form = Epoch Seconds; unit = Seconds };
  fields = [];
  identifier = None;
  clock = None;
}

-- the newest first
abbrev some_lines : List (List ℕ)
some_lines =
    codes "{\"k\":\"c\",\"t\":4}" ∷ codes "{\"k\":\"b\",\"t\":3}" ∷ codes "{\"k\":7,\"t\":3}" ∷ codes "{\"t\":3}" ∷ codes "{\"k\":\"z\",\"t\":\"\"}"
    ∷ codes "{\"k\":\"x,y\",\"t\":1}" ∷ []

-- two names of a file and two more that may come: a line that is no event teaches none, what JSON writes as a number is a name as it is
-- written, and where no name is left a key is of none
they_are_read : read_in_turn 4 source bare (codes "a" ∷ codes "b" ∷ []) some_lines
    ≡ Ok (Record None (pos 4) []) ∷ Ok (Record (Some 1) (pos 3) []) ∷ Ok (Record (Some 3) (pos 3) []) ∷ Err NoKey ∷ Err BadTime ∷ Ok (Record (Some 2) (pos 1) []) ∷ []
unfolding is_utf8 chars encode_utf8 json_on_literals wsm_values_on_literals
they_are_read = refl

the_names : names_after_lines 4 source (codes "a" ∷ codes "b" ∷ []) some_lines ≡ codes "a" ∷ codes "b" ∷ codes "x,y" ∷ codes "7" ∷ []
unfolding is_utf8 chars encode_utf8 json_on_literals wsm_values_on_literals
the_names = refl

-- a source whose table has the number of a key: no line says another by names
abbrev renamed : Source
renamed = record source { key = record { at = Path (codes "k" ∷ []); names = Table (entry_with (codes "z") 5 ∷ []) None } }

by_a_table : read_in_turn 4 renamed bare (codes "a" ∷ codes "b" ∷ []) (codes "{\"k\":\"z\",\"t\":2}" ∷ codes "{\"k\":\"a\",\"t\":1}" ∷ [])
    ≡ Ok (Record (Some 5) (pos 2) []) ∷ Ok (Record None (pos 1) []) ∷ []
unfolding is_utf8 chars encode_utf8 json_on_literals wsm_values_on_literals
by_a_table = refl

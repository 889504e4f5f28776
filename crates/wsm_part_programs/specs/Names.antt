-- The query of a program over any names in place of its keys, and what a part of it runs.
use Rattle.std.specs.Prelude.{◌≡◌, ℕ, List}
use Rattle.wsm_semantics.specs.Query.{Query}
use Rattle.wsm_program.specs.Program.{Program}
use Rattle.wsm_machine.specs.Meaning.{query_of}
use Rattle.wsm_key_parts.specs.Parts.{over, query_in, WritesTogether}

abbrev pub of_names : Program → List (List ℕ) → Query
of_names p names = over names p.header.clock.records (query_of p)

-- line by line parts of the program write what that query writes
abbrev pub WritesNames : Program → List (List ℕ) → Type 0
WritesNames p names = WritesTogether p.header.schema.keys p.header.clock.records (of_names p names)

-- a part runs the program
abbrev pub RunsPart : Program → List (List ℕ) → ℕ → Type 0
RunsPart p names part = query_in p.header.schema.keys p.header.clock.records (of_names p names) part ≡ query_of p

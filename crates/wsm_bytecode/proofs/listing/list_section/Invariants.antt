use Rattle.std.proofs.Common.{◌≡◌, ◌++◌, drop}
use Rattle.std.specs.Prelude.{string_bytes}
use Rattle.wsm_bytecode.specs.Text.{section_text}
use Rattle.wsm_bytecode.proofs.listing.list_section.Given as goal

-- the lines so far and those to come are all
abbrev pub invariant-loop-place : goal.invariant-loop-place
invariant-loop-place l = string_bytes l.listing ++ section_text l.id l.place-counter (drop l.place-counter l.instrs) ≡ string_bytes l.fn.listing ++ section_text l.id 0 l.instrs

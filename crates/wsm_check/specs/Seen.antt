-- What the code has of a checked query, without pointers.
use Rattle.std.specs.Prelude.{map, option_map}
use Rattle.wsm_check.specs.declared.term.Term.{Term as Code}
use Rattle.wsm_check.specs.declared.term.Term.TheVariants as code
use Rattle.wsm_check.specs.declared.parts.Folding.{Folding as CodeFolding}
use Rattle.wsm_check.specs.declared.parts.Parts.{Parts as CodeParts}
use Rattle.wsm_check.specs.Terms.{Term, Number, Truth, Field, Name, Key, Count, Accumulator, If, Minus, Not, Binary, And, Or}
use Rattle.wsm_check.specs.Parts.{Folding, Parts}

abbrev pub seen_term : Code → Term
seen_term (code.Number n) = Number n
seen_term (code.Truth b) = Truth b
seen_term (code.Field f) = Field f
seen_term (code.Name e n) = Name e n
seen_term code.Key = Key
seen_term code.Count = Count
seen_term (code.Accumulator a) = Accumulator a
seen_term (code.If' p c q x r y) = If (seen_term c) (seen_term x) (seen_term y)
seen_term (code.Minus' p e) = Minus (seen_term e)
seen_term (code.Not' p e) = Not (seen_term e)
seen_term (code.Binary' op p x q y) = Binary op (seen_term x) (seen_term y)
seen_term (code.And' p x q y) = And (seen_term x) (seen_term y)
seen_term (code.Or' p x q y) = Or (seen_term x) (seen_term y)

abbrev pub seen_folding : CodeFolding → Folding
seen_folding f = record { kind = f.kind; operand = seen_term f.operand }

abbrev pub seen_parts : CodeParts → Parts
seen_parts p = record {
  schema = p.schema;
  clock = p.clock;
  budget = p.budget;
  output = p.output;
  condition = option_map seen_term p.condition;
  foldings = map seen_folding p.foldings.items;
  types = p.types.items;
  columns = map seen_term p.columns.items;
  having = option_map seen_term p.having;
}

-- The law by key, and that rows which ignore the order of records ignore their turns.
use Rattle.std.proofs.Common.{map, sym, subst}
use Rattle.std.proofs.lemmas.List.Sorted.{IsPermutation-refl}
use Rattle.std.specs.Prelude.{IsPermutation}
use Rattle.wsm_semantics.specs.Query.{Query}
use Rattle.wsm_semantics.specs.Order.{said_by, IgnoresOrder}
use Rattle.wsm_semantics.specs.ByKey.{Keys, at_turn, IgnoresTurns, ByKey}
use Rattle.wsm_semantics.proofs.Each.{map-map}
use Rattle.wsm_semantics.proofs.KeyParts.{mark_of_part, verdict_of_part, room_of_part}
use Rattle.wsm_semantics.proofs.KeyFirings.{firings_of_part, held_of_part}

pub by_key : (q : Query) (keys : Keys) → ByKey q keys
by_key q keys = record {
  room = room_of_part q keys;
  mark = mark_of_part q keys;
  verdict = verdict_of_part q keys;
  held = λ past room. held_of_part q keys past room;
  firings = λ past e room. firings_of_part q keys past e room;
}

pub ignores_turns : (q : Query) → IgnoresOrder q → IgnoresTurns q
ignores_turns q ignores f key ds =
    ignores key (map (at_turn f) ds) ds (subst (λ xs. IsPermutation xs (map said_by ds)) (sym (map-map said_by (at_turn f) ds)) (IsPermutation-refl (map said_by ds)))

use Rattle.std.proofs.Common.{◌≡◌, map, take}
use Rattle.std.specs.List.{filter}
use Rattle.serde_json.specs.Data.{string}
use Rattle.serde_json.specs.View.{view}
use Rattle.wsm_explain.specs.Standing.{may_stand}
use Rattle.wsm_explain.proofs.standing.words_value.Given as goal

-- those of the words so far
abbrev pub invariant-loop-word : goal.invariant-loop-word
invariant-loop-word l = map view l.list.items ≡ map string (filter (may_stand l.front l.position) (map (λ w. w.now) (take l.word-index l.words)))

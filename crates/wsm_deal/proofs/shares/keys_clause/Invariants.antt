use Rattle.std.proofs.Common.{◌≡◌, ◌++◌, map, take}
use Rattle.std.specs.Prelude.{codes}
use Rattle.wsm_deal.specs.KeysText.{further_text}
use Rattle.wsm_deal.proofs.shares.keys_clause.Given as goal

-- the names so far have their text
abbrev pub invariant-loop-name : goal.invariant-loop-name
invariant-loop-name l = l.text.items ≡ codes "KEYS " ++ (l.first ++ further_text (map (λ v. v.items) (take l.name-index l.rest)))

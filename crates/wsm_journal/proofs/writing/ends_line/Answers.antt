use Rattle.std.proofs.Common.{◌∙◌, ◌==◌, Option, ℕ, ap, true}
use Rattle.std.specs.Option.{option_map_or}
use Rattle.wsm_journal.proofs.Searches.{ends_by_last}
use Rattle.wsm_journal.proofs.writing.ends_line.Goals as goal

pub returns-in-Some : goal.returns-in-Some
returns-in-Some c = ap (λ (o : Option ℕ). option_map_or (λ b. b == 10) o true) c.in-Some.ensures.value ∙ ends_by_last c.args.bytes.now

pub returns-in-None : goal.returns-in-None
returns-in-None c = ap (λ (o : Option ℕ). option_map_or (λ b. b == 10) o true) c.in-None.ensures.value ∙ ends_by_last c.args.bytes.now

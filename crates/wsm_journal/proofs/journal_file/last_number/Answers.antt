use Rattle.std.proofs.Common.{◌∙◌, Option, ap, option_map, sym}
use Rattle.wsm_journal.specs.declared.records.Record.{Record}
use Rattle.wsm_journal.proofs.Folders.{last_read}
use Rattle.wsm_journal.proofs.journal_file.last_number.Goals as goal

pub returns-in-Some : goal.returns-in-Some
returns-in-Some c = ap (λ (o : Option Record). option_map (λ (x : Record). x.number) o) c.in-Some.ensures.value ∙ sym (last_read c.args.records.now)

pub returns-in-None : goal.returns-in-None
returns-in-None c = ap (λ (o : Option Record). option_map (λ (x : Record). x.number) o) c.in-None.ensures.value ∙ sym (last_read c.args.records.now)

-- Where the code tries the rules, as their definitions have it.
use Rattle.wsm_verifier.specs.declared.rules.Setting.{Setting as Held}
use Rattle.wsm_rules.specs.Rules.{Setting}

abbrev pub setting_of : Held → Setting
setting_of c = record { section = c.section; kinds = c.kinds.now; records = c.records; ends = c.ends.now; ranges = c.ranges.now; n = c.length }

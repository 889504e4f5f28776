-- What a row stands for that stands for lines that were cut.
use Rattle.wsm_live.specs.Head.{Cut, cut_with}
use Rattle.wsm_live.specs.declared.cut_row.CutRow.{CutRow}

abbrev pub cut_seen : CutRow → Cut
cut_seen c = cut_with c.count c.sum c.text.now

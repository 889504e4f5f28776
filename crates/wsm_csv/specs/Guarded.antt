-- What a guarded writer has.
use Rattle.wsm_csv.specs.declared.guarded.Guarded.{Guarded}

-- the writer under a device
abbrev pub writer_of : {W : Type 0} → Guarded W → W
writer_of g = g.writer

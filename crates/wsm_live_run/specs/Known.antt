-- That clocks are such is known in one way alone, so what takes lines may keep that they are.
use Rattle.std.specs.Prelude.{◌≡◌, Bool, true, Option, Some, None, is_some}
use Rattle.std.proofs.Props.{props}
use Rattle.wsm_turns.specs.declared.clocks.Clocks.{Clocks}
use Rattle.wsm_turns.specs.Clocks.{AreClocks}

pub AreClocks-prop : (clocks : Option Clocks) → IsProp (AreClocks clocks)
AreClocks-prop None = hlevel props
AreClocks-prop (Some c) = hlevel props

-- whether clocks, if there are any, are those that lines name
abbrev pub have_names : Option Clocks → Bool
have_names None = true
have_names (Some c) = is_some c.named

pub have_names-prop : (clocks : Option Clocks) → IsProp (have_names clocks ≡ true)
have_names-prop clocks = hlevel props

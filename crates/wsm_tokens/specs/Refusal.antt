-- Why a text is not taken, with the position.
use Rattle.std.specs.Prelude.{ℕ, ◌++◌, List, codes}
use Rattle.wsm_tokens.specs.declared.fault.Fault.{Fault}
use Rattle.wsm_tokens.specs.declared.fault.Fault.TheVariants.{BadCharacter, Unexpected, NumberTooLarge, TooDeep}
use Rattle.wsm_tokens.specs.declared.fault.ParseRefusal.{ParseRefusal}
use Rattle.wsm_tokens.specs.declared.fault.ParseRefusal.TheVariants as refusals
use Rattle.wsm_tokens.specs.declared.fault.Stop.{Stop}
use Rattle.wsm_tokens.specs.declared.fault.Stop.TheVariants as stops
use Rattle.wsm_tokens.specs.Position.{position_of, position_text}

abbrev pub refusal_of : List ℕ → Stop → ParseRefusal
refusal_of text (stops.Text f) = refusals.Text f.fault (position_of text f.offset)
refusal_of text stops.Memory = refusals.Memory

abbrev pub fault_text : Fault → List ℕ
fault_text BadCharacter = codes "P1 BadCharacter"
fault_text Unexpected = codes "P2 Unexpected"
fault_text NumberTooLarge = codes "P3 NumberTooLarge"
fault_text TooDeep = codes "P4 TooDeep"

-- as it is printed
abbrev pub refusal_text : ParseRefusal → List ℕ
refusal_text (refusals.Text fault position) = fault_text fault ++ codes " at " ++ position_text position
refusal_text refusals.Memory = codes "out of memory"

-- What is kept of the names of clocks.
use Rattle.std.specs.Prelude.{◌≡◌, ◌<◌, ℕ, List, [], Option, Some, None, ⊤}
use Rattle.wsm_turns.specs.declared.voice.Voice.{Voice}
use Rattle.wsm_turns.specs.declared.voice.Voice.TheVariants as voice

-- how many clocks there may be, and the names of those that have spoken, the first first
pub record Named : Type 0 where
  pub most : ℕ
  pub names : List (List ℕ)

-- they are kept where lines name clocks, of which there may be so many
abbrev pub Knows : Option ℕ → Option Named → List (List ℕ) → Type 0
Knows None None names = names ≡ []
Knows None (Some n) names = ⊥
Knows (Some most) None names = ⊥
Knows (Some most) (Some n) names = n ≡ record { most = most; names = names }

-- where lines name clocks a voice is that of one of so many, or there is none
abbrev pub IsWithin : ℕ → Voice → Type 0
IsWithin count voice.Key = ⊥
IsWithin count (voice.Named clock) = clock < count
IsWithin count voice.Silent = ⊤

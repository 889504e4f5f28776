-- Worked rows: clocks that lines name.
use Rattle.std.specs.Prelude.{◌≡◌, refl, ℕ, List, [], ◌∷◌, codes, Some, None}
use Rattle.wsm_turns.specs.declared.voice.Voice.TheVariants.{Key, Named, Silent}
use Rattle.wsm_turns.specs.Voices.{stamp_by, voiced, voiced_at}

abbrev names : List (List ℕ)
names = codes "north" ∷ codes "south" ∷ []

-- one that has spoken keeps its number
again : voiced (Some 3) names (Some (codes "south")) ≡ record { voice = Named 1; names = names }
again = refl

-- a new one has the next
new : voiced (Some 3) names (Some (codes "east")) ≡ record { voice = Named 2; names = codes "north" ∷ codes "south" ∷ codes "east" ∷ [] }
new = refl

-- one more than there may be has none; those that spoke keep theirs
one_more : voiced (Some 2) names (Some (codes "east")) ≡ record { voice = Silent; names = names }
one_more = refl

as_before : voiced (Some 2) names (Some (codes "north")) ≡ record { voice = Named 0; names = names }
as_before = refl

-- without a name there is no voice
nameless : voiced (Some 9) names None ≡ record { voice = Silent; names = names }
nameless = refl

-- where clocks are keys a name is of no account
by_key : voiced None [] (Some (codes "north")) ≡ record { voice = Key; names = [] }
by_key = refl

-- and so it is where a record says nothing of time
no_record : voiced_at None (Some 9) names (Some (codes "east")) ≡ record { voice = Key; names = names }
no_record = refl

-- the time stays that of the record
the_first_tells : stamp_by (Named 0) (record { clock = 7; time = 60 }) ≡ Some (record { clock = 0; time = 60 })
the_first_tells = refl

-- What is taken of some texts, computed.
use Rattle.std.specs.Prelude.{◌≡◌, ℕ, List, [], ◌∷◌, Some, None, codes, refl}
use Rattle.wsm_follow.specs.Ended.{ended_lines}
use Rattle.wsm_fed.specs.Fed.{Came, Chunk, at_first, came_from, chunk_with, nothing_more}
use Rattle.wsm_fed.specs.declared.fault.Broken.TheVariants as broken
use Rattle.wsm_fed.specs.declared.fault.FedFault.TheVariants as fault

-- behind the position 7
abbrev of : List ℕ → Came
of text = came_from (at_first (codes "7")) (ended_lines text)

abbrev came : List Chunk → Came
came chunks = record { chunks = chunks; fault = None }

-- the last line has no `at` behind it, and the one behind that has not ended
two_chunks : of (codes "from,7\n:a\n::b\nat,2,9\n:\nat,1,x,y\n:c\nat,1,1") ≡ came (chunk_with (codes "a\n:b\n") (codes "9") ∷ chunk_with (codes "\n") (codes "x,y") ∷ [])
unfolding came_from
two_chunks = refl

-- nothing is told anew by the first `at`, and a position alone by the second
positions : of (codes "from,7\nat,0,7\nat,0,8\n") ≡ came (chunk_with [] (codes "8") ∷ [])
unfolding came_from
positions = refl

another_position : of (codes "from,8\n:a\nat,1,9\n") ≡ nothing_more (Some fault.Other)
unfolding came_from
another_position = refl

no_position : of (codes ":a\nat,1,9\n") ≡ nothing_more (Some (fault.Line 1 broken.NoFrom))
unfolding came_from
no_position = refl

-- what was taken before stays so
another_count : of (codes "from,7\n:a\nat,1,9\n:b\nat,2,10\n:c\n") ≡ record { chunks = chunk_with (codes "a\n") (codes "9") ∷ []; fault = Some (fault.Line 5 (broken.Lines 2 1)) }
unfolding came_from
another_count = refl

no_line : of (codes "from,7\na\n") ≡ nothing_more (Some (fault.Line 2 broken.NoLine))
unfolding came_from
no_line = refl

no_number : of (codes "from,7\n:a\nat,01,9\n") ≡ nothing_more (Some (fault.Line 3 broken.NoLine))
unfolding came_from
no_number = refl

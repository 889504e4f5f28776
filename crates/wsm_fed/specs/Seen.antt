-- What the types of the code stand for.
use Rattle.std.specs.Prelude.{◌≡◌, ℕ, List, [], ◌∷◌, ◌++◌, Option, Some, None, Result, Ok, Err, Bool, true, false, if◌then◌else◌, map, take, max, ⊤, ◌+◌}
use Rattle.wsm_follow.specs.Ended.{ended_from}
use Rattle.wsm_fed.specs.Fed.{Came, Chunk, Goes, Stand, Step, Takes, Breaks, came_from, chunk_with, nothing_more, stand, with_chunk}
use Rattle.wsm_fed.specs.declared.fault.Broken.{Broken}
use Rattle.wsm_fed.specs.declared.fault.FedFault.{FedFault}
use Rattle.wsm_fed.specs.declared.fault.FedFault.TheVariants as fault
use Rattle.wsm_fed.specs.declared.held.Held.{Held}
use Rattle.wsm_fed.specs.declared.fed.Fed.{Fed}

abbrev pub stand_in : Held → Stand
stand_in h = stand h.heard h.position.items h.text.items h.count

-- where a line completed them
abbrev pub chunk_in : Held → Chunk
chunk_in h = chunk_with h.text.items h.position.items

abbrev pub left_in : Held → Stand
left_in h = stand h.heard h.position.items [] 0

-- the next line breaks the protocol so, unless there is no number for it
abbrev pub IsBroken : Stand → Broken → FedFault → Type 0
IsBroken s why fault.Memory = ⊤
IsBroken s why fault.Other = ⊥
IsBroken s why (fault.Line number broken) = (number ≡ s.heard + 1) × (broken ≡ why)

-- a line was heard: it completes lines, or doesn't, or breaks the protocol
abbrev pub Hears : Step → Held → Result Bool FedFault → Type 0
Hears step h (Ok true) = step ≡ Takes (chunk_in h) (left_in h)
Hears step h (Ok false) = step ≡ Goes (stand_in h)
Hears step h (Err fault.Memory) = ⊤
Hears step h (Err fault.Other) = step ≡ Breaks fault.Other
Hears step h (Err (fault.Line number why)) = step ≡ Breaks (fault.Line number why)

-- lines that were given are behind
abbrev pub stand_of : Fed → Stand
stand_of f = if f.is_given then left_in f.held else stand_in f.held

abbrev pub chunk_of : Fed → Chunk
chunk_of f = chunk_in f.held

abbrev pub most_of : Fed → ℕ
most_of f = f.most

abbrev pub part_of : Fed → List ℕ
part_of f = f.part.items

-- so many bytes of a line are read: a colon and what is kept of a line of a log, and of an `at` so many that one which is too long is told
abbrev pub most_for : ℕ → ℕ
most_for longest = max (longest + 3) 1100

-- what comes of some bytes more
abbrev pub came_of : Fed → List ℕ → Came
came_of f bytes = came_from (stand_of f) (map (take (most_of f)) (ended_from (part_of f) bytes))

-- bytes were taken, whatever comes behind them: all of them, where no line completed others; up to the rest, where one did
abbrev pub Went : Fed → List ℕ → Fed → Option (List ℕ) → Type 0
Went old bytes new None = (more : List ℕ) → came_of old (bytes ++ more) ≡ came_of new more
Went old bytes new (Some rest) = (more : List ℕ) → came_of old (bytes ++ more) ≡ with_chunk (chunk_of new) (came_of new (rest ++ more))

-- nothing is taken of them, whatever comes behind them
abbrev pub Stops : Fed → List ℕ → FedFault → Type 0
Stops old bytes fault.Memory = ⊤
Stops old bytes fault.Other = (more : List ℕ) → came_of old (bytes ++ more) ≡ nothing_more (Some fault.Other)
Stops old bytes (fault.Line number why) = (more : List ℕ) → came_of old (bytes ++ more) ≡ nothing_more (Some (fault.Line number why))

-- nothing is taken of a line that ends, whatever comes behind it
abbrev pub StopsAt : Fed → List ℕ → FedFault → Type 0
StopsAt old line fault.Memory = ⊤
StopsAt old line fault.Other = (rest : List ℕ) → came_of old (line ++ 10 ∷ rest) ≡ nothing_more (Some fault.Other)
StopsAt old line (fault.Line number why) = (rest : List ℕ) → came_of old (line ++ 10 ∷ rest) ≡ nothing_more (Some (fault.Line number why))

-- a line ended, and completed these lines or didn't; this comes of what stands behind it
abbrev pub EndsBy : Fed → List ℕ → Chunk → (List ℕ → Came) → Bool → Type 0
EndsBy old line chunk came true = (rest : List ℕ) → came_of old (line ++ 10 ∷ rest) ≡ with_chunk chunk (came rest)
EndsBy old line chunk came false = (rest : List ℕ) → came_of old (line ++ 10 ∷ rest) ≡ came rest

-- a line ended
abbrev pub Ends : Fed → List ℕ → Fed → Result Bool FedFault → Type 0
Ends old line new (Ok is_chunk) = EndsBy old line (chunk_of new) (λ rest. came_of new rest) is_chunk
Ends old line new (Err why) = StopsAt old line why

-- What is promised of the protocol.
use Rattle.std.specs.Prelude.{◌≡◌, ◌⊎◌, ⊤, ℕ, ◌-◌, ◌<◌, List, [], ◌∷◌, ◌++◌, length, if◌then◌else◌}
use Rattle.wsm_protocol.specs.Runs.{Run, Text}
use Rattle.wsm_protocol.specs.World.{Item, Live, Down, Opening, Renamed, Ready, Appended, World, reached, first_world}
use Rattle.wsm_protocol.specs.Steps.{Event, happened, happens, Writes, SyncsLog, Starts, Renames, SyncsFolder, Takes, Syncs, HandsOut, Cuts, Sinks, SyncsTable, Tells, Kill, SinkDies, Stops, PowerCut}

abbrev pub IsFrontOf : List Text → List Text → Type 0
IsFrontOf front all = (rest : List Text) × (all ≡ front ++ rest)

-- what a world comes to
abbrev pub after_all : Run → List Event → World
after_all r events = happened r events first_world

-- ---- the steps that go on: none is a crash, and none adds to the log

abbrev pub GoesOn : Event → Type 0
GoesOn (Writes row) = ⊥
GoesOn SyncsLog = ⊤
GoesOn (Starts cut) = ⊤
GoesOn Renames = ⊤
GoesOn SyncsFolder = ⊤
GoesOn (Takes most) = ⊤
GoesOn Syncs = ⊤
GoesOn HandsOut = ⊤
GoesOn (Cuts chunks) = ⊥
GoesOn Sinks = ⊤
GoesOn SyncsTable = ⊥
GoesOn Tells = ⊥
GoesOn Kill = ⊥
GoesOn SinkDies = ⊥
GoesOn Stops = ⊤
GoesOn (PowerCut which log table told) = ⊥

-- none of them changes a world
abbrev pub IsStill : Run → World → Type 0
IsStill r w = (e : Event) → GoesOn e → happens r w e ≡ w

-- how far a world is from there, the weightiest first: what the process has before it, with a sink or without; rows of the log that aren't
-- on the disk, and that aren't in the journal; a chunk to be synced; lines to be handed out, and to be read
abbrev pub phase : Live → ℕ
phase Down = 3
phase (Opening next out) = 2
phase (Renamed out) = 1
phase (Ready out) = 0
phase (Appended out) = 0

abbrev pub phase_unread : Live → ℕ
phase_unread Down = 3
phase_unread (Opening next out) = 6
phase_unread (Renamed out) = 5
phase_unread (Ready out) = 4
phase_unread (Appended out) = 4

abbrev pub unsynced_chunks : Live → ℕ
unsynced_chunks Down = 0
unsynced_chunks (Opening next out) = 0
unsynced_chunks (Renamed out) = 0
unsynced_chunks (Ready out) = 0
unsynced_chunks (Appended out) = 1

abbrev pub out_of : Live → List Item
out_of Down = []
out_of (Opening next out) = out
out_of (Renamed out) = out
out_of (Ready out) = out
out_of (Appended out) = out

abbrev pub rank_with : World → Live → List ℕ
rank_with w live =
    (if w.is_read then phase live else phase_unread live) ∷ length w.unsynced ∷ (length w.synced - reached w.seen) ∷ unsynced_chunks live ∷ length (out_of live) ∷ length w.pipe ∷ []

abbrev pub rank : World → List ℕ
rank w = rank_with w w.live

-- at the first place where two differ the one is less
abbrev pub IsLess : List ℕ → List ℕ → Type 0
IsLess [] ys = ⊥
IsLess (x ∷ xs) [] = ⊥
IsLess (x ∷ xs) (y ∷ ys) = (x < y) ⊎ ((x ≡ y) × IsLess xs ys)

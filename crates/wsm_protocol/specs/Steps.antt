-- What may happen, and what it makes of a world: the protocol by which each line is taken once.
use Rattle.std.specs.Prelude.{ℕ, zero, suc, ◌+◌, List, [], ◌∷◌, ◌++◌, length, take, drop, min, max, true, false, if◌then◌else◌, nat_le, nat_eq}
use Rattle.wsm_protocol.specs.Runs.{Run, Text}
use Rattle.wsm_protocol.specs.World.{Item, Journal, Live, Down, Opening, Renamed, Ready, Appended, World, numbered, reached, lines_behind, count, with_chunk, lines_of_chunk, cut_where_taken}

pub data Event : Type 0 where
  Writes : (row : Text) → Event  -- the log's writer adds a row
  SyncsLog : Event
  Starts : (cut : ℕ) → Event  -- the process begins, and cuts so many chunks
  Renames : Event
  SyncsFolder : Event
  Takes : (most : ℕ) → Event  -- it appends a chunk of at most so many rows
  Syncs : Event
  HandsOut : Event
  Cuts : (chunks : ℕ) → Event
  Sinks : Event  -- the sink takes or passes over a line, in a transaction
  SyncsTable : Event
  Tells : Event
  Kill : Event  -- of the process
  SinkDies : Event
  Stops : Event  -- the process ends where its sink did
  PowerCut : (which log table told : ℕ) → Event  -- and what it leaves of what isn't on the disk

-- ---- the process

-- it reads the journal, writes it anew beside, cut, and has all lines behind the head to hand out
abbrev pub started : Run → ℕ → World → Live → World
started r n w Down =
    let next = cut_where_taken r w.taken n w.seen in
    record w { live = Opening next (numbered next.lines (lines_behind r next)); pipe = []; is_read = true }
started r n w live = w

abbrev pub renamed : World → Live → World
renamed w (Opening next out) = record w { seen = next; others = w.seen ∷ w.others; live = Renamed out }
renamed w live = w

abbrev pub folder_synced : World → Live → World
folder_synced w (Renamed out) = record w { others = []; live = Ready out }
folder_synced w live = w

-- rows of the log that are on the disk
abbrev pub appended : Run → World → List Text → World
appended r w [] = w
appended r w (row ∷ rows) =
    record w { seen = with_chunk w.seen (row ∷ rows); others = w.seen ∷ w.others; live = Appended (numbered (count r w.seen) (lines_of_chunk r w.seen (row ∷ rows))) }

abbrev pub takes_more : Run → ℕ → World → Live → World
takes_more r most w (Ready []) = appended r w (take most (drop (reached w.seen) w.synced))
takes_more r most w live = w

abbrev pub chunk_synced : World → Live → World
chunk_synced w (Appended out) = record w { others = []; live = Ready out }
chunk_synced w live = w

abbrev pub handed_out : World → Live → World
handed_out w (Ready (item ∷ out)) = if w.is_read then record w { pipe = w.pipe ++ item ∷ []; live = Ready out } else record w { live = Down }
handed_out w live = w

abbrev pub cut_in_place : Run → ℕ → World → Live → World
cut_in_place r n w (Ready []) = record w { live = Opening (cut_where_taken r w.taken n w.seen) [] }
cut_in_place r n w live = w

-- ---- the sink

-- it takes the line of the next number, passes over smaller ones, and ends at a gap
abbrev pub sunk : World → List Item → World
sunk w [] = w
sunk w (item ∷ rest) =
    if nat_le item.number (length w.table) then record w { pipe = rest }
    else if nat_eq item.number (length w.table + 1) then record w { pipe = rest; table = w.table ++ item.line ∷ [] }
    else record w { pipe = []; is_read = false }

-- ---- power

abbrev pub left_of : List Journal → Journal → ℕ → Journal
left_of [] seen which = seen
left_of (other ∷ others) seen zero = other
left_of (other ∷ others) seen (suc which) = left_of others seen which

abbrev pub without_power : World → ℕ → ℕ → ℕ → ℕ → World
without_power w which log table told = record w {
  unsynced = take log w.unsynced;
  seen = left_of w.others w.seen which;
  others = [];
  live = Down;
  pipe = [];
  is_read = false;
  table = take (max w.settled table) w.table;
  taken = min told w.taken;
}

abbrev pub happens : Run → World → Event → World
happens r w (Writes row) = record w { unsynced = w.unsynced ++ row ∷ [] }
happens r w SyncsLog = record w { synced = w.synced ++ w.unsynced; unsynced = [] }
happens r w (Starts cut) = started r cut w w.live
happens r w Renames = renamed w w.live
happens r w SyncsFolder = folder_synced w w.live
happens r w (Takes most) = takes_more r most w w.live
happens r w Syncs = chunk_synced w w.live
happens r w HandsOut = handed_out w w.live
happens r w (Cuts chunks) = cut_in_place r chunks w w.live
happens r w Sinks = sunk w w.pipe
happens r w SyncsTable = record w { settled = length w.table }
happens r w Tells = record w { taken = w.settled }
happens r w Kill = record w { live = Down }
happens r w SinkDies = record w { pipe = []; is_read = false }
happens r w Stops = if w.is_read then w else record w { live = Down }
happens r w (PowerCut which log table told) = without_power w which log table told

abbrev pub happened : Run → List Event → World → World
happened r [] w = w
happened r (e ∷ es) w = happened r es (happens r w e)

-- Schedules, computed: of a run that writes for each row how many rows there were.
use Rattle.std.specs.Prelude.{◌≡◌, ℕ, ◌+◌, List, [], ◌∷◌, ◌++◌, length, false, nat_eq, refl}
use Rattle.wsm_protocol.specs.Runs.{Run, Text}
use Rattle.wsm_protocol.specs.World.{World}
use Rattle.wsm_protocol.specs.Steps.{Event, Writes, SyncsLog, Starts, Renames, SyncsFolder, Takes, Syncs, HandsOut, Cuts, Sinks, SyncsTable, Tells, Kill, SinkDies, Stops, PowerCut, happened}
use Rattle.wsm_protocol.specs.Laws.{after_all}

abbrev counted_from : ℕ → List Text → List Text
counted_from n [] = []
counted_from n (row ∷ rows) = ((n + 1) ∷ []) ∷ counted_from (n + 1) rows

-- a head says how many rows it stands for
abbrev rows_of : List Text → ℕ
rows_of [] = 0
rows_of ([] ∷ head) = 0
rows_of ((n ∷ text) ∷ head) = n

abbrev counting : Run
counting = record {
  told = λ rows. counted_from 0 rows;
  resumed = λ head rows. counted_from (rows_of head) rows;
  cut = λ head rows. ((rows_of head + length rows) ∷ []) ∷ [];
  stands = λ head rows. nat_eq (rows_of head) (length rows);
}

abbrev row : Text
row = 7 ∷ []

abbrev begins : ℕ → List Event
begins cut = Starts cut ∷ Renames ∷ SyncsFolder ∷ []

-- two rows, of which the lines are handed out
abbrev two_come : List Event
two_come = Writes row ∷ Writes row ∷ SyncsLog ∷ begins 0 ++ Takes 5 ∷ Syncs ∷ HandsOut ∷ HandsOut ∷ []

abbrev table_after : List Event → List Text
table_after events = (after_all counting events).table

both_are_taken : table_after (two_come ++ Sinks ∷ Sinks ∷ []) ≡ (1 ∷ []) ∷ (2 ∷ []) ∷ []
both_are_taken = refl

-- rows that aren't on the disk aren't taken
waits_for_the_disk : table_after (Writes row ∷ begins 0 ++ Takes 5 ∷ Syncs ∷ HandsOut ∷ Sinks ∷ []) ≡ []
waits_for_the_disk = refl

-- begun anew it hands out all lines again, and the sink passes over the one that it has
killed_and_begun : table_after (two_come ++ Sinks ∷ Kill ∷ begins 0 ++ HandsOut ∷ HandsOut ∷ Sinks ∷ Sinks ∷ []) ≡ (1 ∷ []) ∷ (2 ∷ []) ∷ []
killed_and_begun = refl

-- a power cut takes the chunk that wasn't synced, and it comes again
chunk_lost : table_after (Writes row ∷ SyncsLog ∷ begins 0 ++ Takes 5 ∷ PowerCut 0 0 0 0 ∷ begins 0 ++ Takes 5 ∷ Syncs ∷ HandsOut ∷ Sinks ∷ []) ≡ (1 ∷ []) ∷ []
chunk_lost = refl

-- it may leave the table's first lines, and the others come again
lines_lost : table_after (two_come ++ Sinks ∷ SyncsTable ∷ Sinks ∷ PowerCut 9 0 0 0 ∷ []) ≡ (1 ∷ []) ∷ []
lines_lost = refl

lines_again : table_after (two_come ++ Sinks ∷ SyncsTable ∷ Sinks ∷ PowerCut 9 0 0 0 ∷ begins 0 ++ HandsOut ∷ HandsOut ∷ Sinks ∷ Sinks ∷ []) ≡ (1 ∷ []) ∷ (2 ∷ []) ∷ []
lines_again = refl

-- what was told is cut, and isn't handed out again
cut_when_told : table_after (two_come ++ Sinks ∷ Sinks ∷ SyncsTable ∷ Tells ∷ Cuts 1 ∷ Renames ∷ SyncsFolder ∷ Writes row ∷ SyncsLog ∷ Takes 5 ∷ Syncs ∷ HandsOut ∷ Sinks ∷ []) ≡ (1 ∷ []) ∷ (2 ∷ []) ∷ (3 ∷ []) ∷ []
cut_when_told = refl

-- the sink died: what it had not taken is lost with its pipe, the process ends, and all comes again
sink_died : table_after (two_come ++ SinkDies ∷ Stops ∷ begins 0 ++ HandsOut ∷ HandsOut ∷ Sinks ∷ Sinks ∷ []) ≡ (1 ∷ []) ∷ (2 ∷ []) ∷ []
sink_died = refl

-- ---- why the sink tells only lines that are on its disk: told before, and cut, they are gone where the table loses them

abbrev told_early : World → World
told_early w = record w { taken = length w.table }

abbrev after_early : World
after_early = happened counting (Cuts 1 ∷ Renames ∷ SyncsFolder ∷ PowerCut 9 0 0 0 ∷ begins 0 ++ Writes row ∷ SyncsLog ∷ Takes 5 ∷ Syncs ∷ HandsOut ∷ Sinks ∷ []) (told_early (after_all counting (two_come ++ Sinks ∷ Sinks ∷ [])))

early_is_lost : after_early.table ≡ []
early_is_lost = refl

early_ends_at_a_gap : after_early.is_read ≡ false
early_ends_at_a_gap = refl

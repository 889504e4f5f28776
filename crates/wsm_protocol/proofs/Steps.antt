-- Each step keeps what holds of worlds.
use Rattle.std.proofs.Common.{◌≡◌, ◌∙◌, subst, ℕ, zero, suc, ◌+◌, ◌≤◌, max, min, List, [], ◌∷◌, ◌++◌, length, take, drop, true, false, cond, leb, eqb, refl, sym, ap, arith, append_assoc, length-append, length-take, take-append-drop}
use Rattle.std.proofs.lemmas.Bool.{leb-true, eqb-true, cond_both, false≢true}
use Rattle.std.proofs.lemmas.List.{drop_at}
use Rattle.wsm_protocol.specs.Runs.{Run, IsRun, Text}
use Rattle.wsm_protocol.specs.World.{Item, Journal, Live, Down, Opening, Renamed, Ready, Appended, World, numbered, reached, lines_behind, count, with_chunk, lines_of_chunk, cut_front, cut_where_taken}
use Rattle.wsm_protocol.specs.Steps.{Event, Writes, SyncsLog, Starts, Renames, SyncsFolder, Takes, Syncs, HandsOut, Cuts, Sinks, SyncsTable, Tells, Kill, SinkDies, Stops, PowerCut, started, renamed, folder_synced, appended, takes_more, chunk_synced, handed_out, cut_in_place, sunk, left_of, without_power, happens, happened}
use Rattle.wsm_protocol.proofs.Lists.{IsStream, stream_append}
use Rattle.wsm_protocol.proofs.Standing.{Fits, cut_fits, cut_count, chunk_fits, chunk_count, chunk_stream, behind_stream}
use Rattle.wsm_protocol.proofs.Good.{Good, Covers, AllCover, Beside, ToCome, Out, least_of, covers_with, all_cover_with, beside_with, table_grows, pipe_grows, covers_grows, all_cover_grows, beside_grows, out_grows}

length_numbered : (n : ℕ) (lines : List Text) → length (numbered n lines) ≡ length lines
length_numbered n [] = refl
length_numbered n (line ∷ lines) = ap suc (length_numbered (n + 1) lines)

module _ (r : Run) (good : IsRun r) where
  -- ---- the log

  writes_keep : (w : World) (row : Text) → Good r w → Good r (happens r w (Writes row))
  writes_keep w row g = record { at = g.at; table = g.table; pipe = g.pipe; seen = g.seen; others = g.others; beside = g.beside; out = g.out }

  log_keeps : (w : World) → Good r w → Good r (happens r w SyncsLog)
  log_keeps w g =
      let least = least_of w.table w.pipe g.at in
      record {
        at = g.at;
        table = table_grows r good w.synced w.unsynced w.table w.settled w.taken g.table;
        pipe = pipe_grows r good w.synced w.unsynced w.table w.pipe g.at g.pipe;
        seen = covers_grows r good w.synced w.unsynced w.settled least w.seen g.seen;
        others = all_cover_grows r good w.synced w.unsynced w.settled least w.others g.others;
        beside = beside_grows r good w.synced w.unsynced w.settled least w.seen w.others w.live g.beside;
        out = λ read. out_grows r good w.synced w.unsynced w.seen (g.at + length w.pipe) w.live (g.out read);
      }

  -- ---- cuts

  cut_covers : (rows : List Text) (settled least taken n : ℕ) (j : Journal) → taken ≤ settled → Covers r rows settled least j →
      Covers r rows settled least (cut_where_taken r taken n j) × (count r (cut_where_taken r taken n j) ≡ count r j)
  cut_covers rows settled least taken n j known c =
      cond_both (leb (cut_front r n j).lines taken) (cut_front r n j) j (λ next. Covers r rows settled least next × (count r next ≡ count r j))
      (λ are. (
        record {
          fits = cut_fits r good rows n j c.fits;
          begins = omega (arith, known, leb-true (cut_front r n j).lines taken are);
          covers = omega (arith, c.covers, cut_count r good rows n j c.fits);
        },
        cut_count r good rows n j c.fits,
      ))
      (λ not. (c, refl))

  -- ---- the process

  start_keeps : (w : World) (n : ℕ) (live : Live) → w.live ≡ live → Good r w → Good r (started r n w live)
  start_keeps w n Down is g =
      let next = cut_where_taken r w.taken n w.seen in
      let whole = least_of w.table w.pipe g.at in
      let both = cut_covers w.synced w.settled whole w.taken n w.seen g.table.known g.seen in
      let less : least_of w.table [] next.lines ≤ whole = omega (arith, both.0.begins, g.table.on_disk) in
      let all : next.lines + length (numbered next.lines (lines_behind r next)) ≡ count r w.seen = omega (arith, length_numbered next.lines (lines_behind r next), both.1) in
      let start : next.lines + length {A = Item} [] ≡ next.lines = omega arith in
      record {
        at = next.lines;
        table = g.table;
        pipe = record { behind = omega (arith, both.0.begins, g.table.on_disk); stream = tt };
        seen = covers_with r w.synced w.settled w.settled whole (least_of w.table [] next.lines) w.seen (omega arith) less g.seen;
        others = all_cover_with r w.synced w.settled w.settled whole (least_of w.table [] next.lines) w.others (omega arith) less g.others;
        beside = (covers_with r w.synced w.settled w.settled whole (least_of w.table [] next.lines) next (omega arith) less both.0, both.1);
        out = λ read. subst (λ n. ToCome r w.synced w.seen n (numbered next.lines (lines_behind r next))) (sym start) (behind_stream r good w.synced next both.0.fits, all);
      }
  start_keeps w n (Opening next out) is g = g
  start_keeps w n (Renamed out) is g = g
  start_keeps w n (Ready out) is g = g
  start_keeps w n (Appended out) is g = g

  rename_keeps : (w : World) (live : Live) → w.live ≡ live → Good r w → Good r (renamed w live)
  rename_keeps w (Opening next out) is g =
      let whole = least_of w.table w.pipe g.at in
      let b : Beside r w.synced w.settled whole w.seen w.others (Opening next out) = subst (λ l. Beside r w.synced w.settled whole w.seen w.others l) is g.beside in
      record {
        at = g.at;
        table = g.table;
        pipe = g.pipe;
        seen = b.0;
        others = (g.seen, g.others);
        beside = tt;
        out = λ read.
            let to : ToCome r w.synced w.seen (g.at + length w.pipe) out = subst (λ l. Out r w.synced w.seen (g.at + length w.pipe) l) is (g.out read) in
            (to.0, to.1 ∙ sym b.1);
      }
  rename_keeps w Down is g = g
  rename_keeps w (Renamed out) is g = g
  rename_keeps w (Ready out) is g = g
  rename_keeps w (Appended out) is g = g

  folder_keeps : (w : World) (live : Live) → w.live ≡ live → Good r w → Good r (folder_synced w live)
  folder_keeps w (Renamed out) is g = record {
    at = g.at;
    table = g.table;
    pipe = g.pipe;
    seen = g.seen;
    others = tt;
    beside = refl;
    out = λ read. subst (λ l. Out r w.synced w.seen (g.at + length w.pipe) l) is (g.out read);
  }
  folder_keeps w Down is g = g
  folder_keeps w (Opening next out) is g = g
  folder_keeps w (Ready out) is g = g
  folder_keeps w (Appended out) is g = g

  sync_keeps : (w : World) (live : Live) → w.live ≡ live → Good r w → Good r (chunk_synced w live)
  sync_keeps w (Appended out) is g = record {
    at = g.at;
    table = g.table;
    pipe = g.pipe;
    seen = g.seen;
    others = tt;
    beside = refl;
    out = λ read. subst (λ l. Out r w.synced w.seen (g.at + length w.pipe) l) is (g.out read);
  }
  sync_keeps w Down is g = g
  sync_keeps w (Opening next out) is g = g
  sync_keeps w (Renamed out) is g = g
  sync_keeps w (Ready out) is g = g

  append_keeps : (w : World) (most : ℕ) (rows : List Text) → rows ≡ take most (drop (reached w.seen) w.synced) → w.live ≡ Ready [] → Good r w → Good r (appended r w rows)
  append_keeps w most [] rows_are is g = g
  append_keeps w most (row ∷ rows) rows_are is g =
      let chunk = row ∷ rows in
      let whole = least_of w.table w.pipe g.at in
      let f : Fits r w.synced (with_chunk w.seen chunk) = subst (λ c. Fits r w.synced (with_chunk w.seen c)) (sym rows_are) (chunk_fits r good w.synced w.seen most g.seen.fits) in
      let many : count r (with_chunk w.seen chunk) ≡ count r w.seen + length (lines_of_chunk r w.seen chunk) = chunk_count r good f.front w.seen chunk f.stands in
      record {
        at = g.at;
        table = g.table;
        pipe = g.pipe;
        seen = record { fits = f; begins = g.seen.begins; covers = omega (arith, g.seen.covers, many) };
        others = (g.seen, g.others);
        beside = tt;
        out = λ read.
            let to : ToCome r w.synced w.seen (g.at + length w.pipe) [] = subst (λ l. Out r w.synced w.seen (g.at + length w.pipe) l) is (g.out read) in
            let here : g.at + length w.pipe ≡ count r w.seen = omega (arith, to.1) in
            let all : count r w.seen + length (numbered (count r w.seen) (lines_of_chunk r w.seen chunk)) ≡ count r (with_chunk w.seen chunk) =
            omega (arith, many, length_numbered (count r w.seen) (lines_of_chunk r w.seen chunk)) in
            subst (λ n. ToCome r w.synced (with_chunk w.seen chunk) n (numbered (count r w.seen) (lines_of_chunk r w.seen chunk))) (sym here)
            (chunk_stream r good w.synced w.seen chunk f, all);
      }

  take_keeps : (w : World) (most : ℕ) (live : Live) → w.live ≡ live → Good r w → Good r (takes_more r most w live)
  take_keeps w most (Ready []) is g = append_keeps w most (take most (drop (reached w.seen) w.synced)) refl is g
  take_keeps w most (Ready (item ∷ out)) is g = g
  take_keeps w most Down is g = g
  take_keeps w most (Opening next out) is g = g
  take_keeps w most (Renamed out) is g = g
  take_keeps w most (Appended out) is g = g

  cut_keeps : (w : World) (n : ℕ) (live : Live) → w.live ≡ live → Good r w → Good r (cut_in_place r n w live)
  cut_keeps w n (Ready []) is g =
      let both = cut_covers w.synced w.settled (least_of w.table w.pipe g.at) w.taken n w.seen g.table.known g.seen in
      record {
        at = g.at;
        table = g.table;
        pipe = g.pipe;
        seen = g.seen;
        others = g.others;
        beside = both;
        out = λ read. subst (λ l. Out r w.synced w.seen (g.at + length w.pipe) l) is (g.out read);
      }
  cut_keeps w n (Ready (item ∷ out)) is g = g
  cut_keeps w n Down is g = g
  cut_keeps w n (Opening next out) is g = g
  cut_keeps w n (Renamed out) is g = g
  cut_keeps w n (Appended out) is g = g

  -- a line goes into the pipe: only the journal that is seen is there, and has all lines that are to come
  hand_keeps : (w : World) (item : Item) (out : List Item) → w.live ≡ Ready (item ∷ out) → w.is_read ≡ true → Good r w → Good r (record w { pipe = w.pipe ++ item ∷ []; live = Ready out })
  hand_keeps w item out is read g =
      let b : Beside r w.synced w.settled (least_of w.table w.pipe g.at) w.seen w.others (Ready (item ∷ out)) = subst (λ l. Beside r w.synced w.settled (least_of w.table w.pipe g.at) w.seen w.others l) is g.beside in
      let to : ToCome r w.synced w.seen (g.at + length w.pipe) (item ∷ out) = subst (λ l. Out r w.synced w.seen (g.at + length w.pipe) l) is (g.out read) in
      let longer : length (w.pipe ++ item ∷ []) ≡ length w.pipe + 1 = omega (arith, length-append w.pipe (item ∷ [])) in
      let place : (g.at + length w.pipe) + 1 ≡ g.at + length (w.pipe ++ item ∷ []) = omega (arith, longer) in
      let whole = least_of w.table (w.pipe ++ item ∷ []) g.at in
      let covers : whole ≤ count r w.seen = omega (arith, longer, to.1, g.seen.covers) in
      let none : AllCover r w.synced w.settled whole [] = tt in
      record {
        at = g.at;
        table = g.table;
        pipe = record { behind = g.pipe.behind; stream = stream_append (r.told w.synced) g.at w.pipe (item ∷ []) g.pipe.stream ((to.0).0, (to.0).1, tt) };
        seen = record { fits = g.seen.fits; begins = g.seen.begins; covers = covers };
        others = subst (λ js. AllCover r w.synced w.settled whole js) (sym b) none;
        beside = b;
        out = λ still. (subst (λ n. IsStream (r.told w.synced) n out) place (to.0).2, omega (arith, to.1, longer));
      }

  down_keeps : (w : World) → Good r w → Good r (record w { live = Down })
  down_keeps w g = record { at = g.at; table = g.table; pipe = g.pipe; seen = g.seen; others = g.others; beside = tt; out = λ read. tt }

  hands_keep : (w : World) (live : Live) → w.live ≡ live → Good r w → Good r (handed_out w live)
  hands_keep w (Ready []) is g = g
  hands_keep w (Ready (item ∷ out)) is g =
      cond_both w.is_read (record w { pipe = w.pipe ++ item ∷ []; live = Ready out }) (record w { live = Down }) (λ next. Good r next)
      (λ read. hand_keeps w item out is read g)
      (λ not. down_keeps w g)
  hands_keep w Down is g = g
  hands_keep w (Opening next out) is g = g
  hands_keep w (Renamed out) is g = g
  hands_keep w (Appended out) is g = g

  -- ---- the sink

  -- nothing is in the pipe, and nobody reads
  unread_keeps : (w : World) → Good r w → Good r (record w { pipe = []; is_read = false })
  unread_keeps w g =
      let whole = least_of w.table w.pipe g.at in
      let less : least_of w.table [] g.at ≤ whole = omega arith in
      record {
        at = g.at;
        table = g.table;
        pipe = record { behind = g.pipe.behind; stream = tt };
        seen = covers_with r w.synced w.settled w.settled whole (least_of w.table [] g.at) w.seen (omega arith) less g.seen;
        others = all_cover_with r w.synced w.settled w.settled whole (least_of w.table [] g.at) w.others (omega arith) less g.others;
        beside = beside_with r w.synced w.settled w.settled whole (least_of w.table [] g.at) w.seen w.others w.live (omega arith) less g.beside;
        out = λ read. absurd (false≢true read);
      }

  -- a line that the table has
  pass_keeps : (w : World) (item : Item) (rest : List Item) → w.pipe ≡ item ∷ rest → item.number ≤ length w.table → Good r w → Good r (record w { pipe = rest })
  pass_keeps w item rest is small g =
      let whole = least_of w.table w.pipe g.at in
      let long : length w.pipe ≡ suc (length rest) = ap length is in
      let s : IsStream (r.told w.synced) g.at (item ∷ rest) = subst (λ p. IsStream (r.told w.synced) g.at p) is g.pipe.stream in
      let less : least_of w.table rest (g.at + 1) ≤ whole = omega (arith, long) in
      let place : g.at + length w.pipe ≡ (g.at + 1) + length rest = omega (arith, long) in
      record {
        at = g.at + 1;
        table = g.table;
        pipe = record { behind = omega (arith, s.0, small); stream = s.2 };
        seen = covers_with r w.synced w.settled w.settled whole (least_of w.table rest (g.at + 1)) w.seen (omega arith) less g.seen;
        others = all_cover_with r w.synced w.settled w.settled whole (least_of w.table rest (g.at + 1)) w.others (omega arith) less g.others;
        beside = beside_with r w.synced w.settled w.settled whole (least_of w.table rest (g.at + 1)) w.seen w.others w.live (omega arith) less g.beside;
        out = λ read. subst (λ n. Out r w.synced w.seen n w.live) place (g.out read);
      }

  -- the line behind those that the table has
  next_keeps : (w : World) (item : Item) (rest : List Item) → w.pipe ≡ item ∷ rest → item.number ≡ length w.table + 1 → Good r w → Good r (record w { pipe = rest; table = w.table ++ item.line ∷ [] })
  next_keeps w item rest is next g =
      let whole = least_of w.table w.pipe g.at in
      let table = w.table ++ item.line ∷ [] in
      let long : length w.pipe ≡ suc (length rest) = ap length is in
      let more : length table ≡ length w.table + 1 = omega (arith, length-append w.table (item.line ∷ [])) in
      let s : IsStream (r.told w.synced) g.at (item ∷ rest) = subst (λ p. IsStream (r.told w.synced) g.at p) is g.pipe.stream in
      let same : g.at ≡ length w.table = omega (arith, s.0, next) in
      let less : least_of table rest (g.at + 1) ≤ whole = omega (arith, long, more, same) in
      let place : g.at + length w.pipe ≡ (g.at + 1) + length rest = omega (arith, long) in
      let here : drop (length w.table) (r.told w.synced) ≡ item.line ∷ (s.1).0 = ap (λ n. drop n (r.told w.synced)) (sym same) ∙ (s.1).1 in
      let rest_is : (g.table.is).0 ≡ item.line ∷ (s.1).0 = sym (drop_at w.table (g.table.is).0 (length w.table) refl) ∙ ap (λ t. drop (length w.table) t) (sym (g.table.is).1) ∙ here in
      record {
        at = g.at + 1;
        table = record {
          is = ((s.1).0, (g.table.is).1 ∙ ap (λ t. w.table ++ t) rest_is ∙ sym (append_assoc w.table (item.line ∷ []) (s.1).0));
          on_disk = omega (arith, more, g.table.on_disk);
          known = g.table.known;
        };
        pipe = record { behind = omega (arith, same, more); stream = s.2 };
        seen = covers_with r w.synced w.settled w.settled whole (least_of table rest (g.at + 1)) w.seen (omega arith) less g.seen;
        others = all_cover_with r w.synced w.settled w.settled whole (least_of table rest (g.at + 1)) w.others (omega arith) less g.others;
        beside = beside_with r w.synced w.settled w.settled whole (least_of table rest (g.at + 1)) w.seen w.others w.live (omega arith) less g.beside;
        out = λ read. subst (λ n. Out r w.synced w.seen n w.live) place (g.out read);
      }

  sinks_keep : (w : World) (pipe : List Item) → w.pipe ≡ pipe → Good r w → Good r (sunk w pipe)
  sinks_keep w [] is g = g
  sinks_keep w (item ∷ rest) is g =
      let next = record w { pipe = rest; table = w.table ++ item.line ∷ [] } in
      let gap = record w { pipe = []; is_read = false } in
      cond_both (leb item.number (length w.table)) (record w { pipe = rest }) (cond (eqb item.number (length w.table + 1)) next gap) (λ u. Good r u)
      (λ small. pass_keeps w item rest is (leb-true item.number (length w.table) small) g)
      (λ not. cond_both (eqb item.number (length w.table + 1)) next gap (λ u. Good r u)
      (λ same. next_keeps w item rest is (eqb-true item.number (length w.table + 1) same) g)
      (λ far. unread_keeps w g))

  table_sync_keeps : (w : World) → Good r w → Good r (happens r w SyncsTable)
  table_sync_keeps w g =
      let whole = least_of w.table w.pipe g.at in
      let more = g.table.on_disk in
      record {
        at = g.at;
        table = record { is = g.table.is; on_disk = omega arith; known = omega (arith, g.table.known, more) };
        pipe = g.pipe;
        seen = covers_with r w.synced w.settled (length w.table) whole whole w.seen more (omega arith) g.seen;
        others = all_cover_with r w.synced w.settled (length w.table) whole whole w.others more (omega arith) g.others;
        beside = beside_with r w.synced w.settled (length w.table) whole whole w.seen w.others w.live more (omega arith) g.beside;
        out = g.out;
      }

  tell_keeps : (w : World) → Good r w → Good r (happens r w Tells)
  tell_keeps w g = record {
    at = g.at;
    table = record { is = g.table.is; on_disk = g.table.on_disk; known = omega arith };
    pipe = g.pipe;
    seen = g.seen;
    others = g.others;
    beside = g.beside;
    out = g.out;
  }

  -- ---- power

  left_covers : (rows : List Text) (settled least : ℕ) (others : List Journal) (seen : Journal) (which : ℕ) → AllCover r rows settled least others → Covers r rows settled least seen → Covers r rows settled least (left_of others seen which)
  left_covers rows settled least [] seen which all c = c
  left_covers rows settled least (j ∷ js) seen zero all c = all.0
  left_covers rows settled least (j ∷ js) seen (suc which) all c = left_covers rows settled least js seen which all.1 c

  power_keeps : (w : World) (which log table told : ℕ) → Good r w → Good r (without_power w which log table told)
  power_keeps w which log table told g =
      let whole = least_of w.table w.pipe g.at in
      let many = max w.settled table in
      let kept = take many w.table in
      let long : length kept ≡ min many (length w.table) = length-take many w.table in
      let less : least_of kept [] 0 ≤ whole = omega (arith, long) in
      let left = left_covers w.synced w.settled whole w.others w.seen which g.others g.seen in
      record {
        at = 0;
        table = record {
          is = (drop many w.table ++ (g.table.is).0, (g.table.is).1 ∙ ap (λ t. t ++ (g.table.is).0) (sym (take-append-drop many w.table)) ∙ append_assoc kept (drop many w.table) (g.table.is).0);
          on_disk = omega (arith, long, g.table.on_disk);
          known = omega (arith, g.table.known);
        };
        pipe = record { behind = omega arith; stream = tt };
        seen = covers_with r w.synced w.settled w.settled whole (least_of kept [] 0) (left_of w.others w.seen which) (omega arith) less left;
        others = tt;
        beside = tt;
        out = λ read. absurd (false≢true read);
      }

  -- ---- all of them

  pub step_keeps : (w : World) (e : Event) → Good r w → Good r (happens r w e)
  step_keeps w (Writes row) g = writes_keep w row g
  step_keeps w SyncsLog g = log_keeps w g
  step_keeps w (Starts cut) g = start_keeps w cut w.live refl g
  step_keeps w Renames g = rename_keeps w w.live refl g
  step_keeps w SyncsFolder g = folder_keeps w w.live refl g
  step_keeps w (Takes most) g = take_keeps w most w.live refl g
  step_keeps w Syncs g = sync_keeps w w.live refl g
  step_keeps w HandsOut g = hands_keep w w.live refl g
  step_keeps w (Cuts chunks) g = cut_keeps w chunks w.live refl g
  step_keeps w Sinks g = sinks_keep w w.pipe refl g
  step_keeps w SyncsTable g = table_sync_keeps w g
  step_keeps w Tells g = tell_keeps w g
  step_keeps w Kill g = down_keeps w g
  step_keeps w SinkDies g = unread_keeps w g
  step_keeps w Stops g = cond_both w.is_read w (record w { live = Down }) (λ u. Good r u) (λ read. g) (λ not. down_keeps w g)
  step_keeps w (PowerCut which log table told) g = power_keeps w which log table told g

  pub steps_keep : (events : List Event) (w : World) → Good r w → Good r (happened r events w)
  steps_keep [] w g = g
  steps_keep (e ∷ es) w g = steps_keep es (happens r w e) (step_keeps w e g)

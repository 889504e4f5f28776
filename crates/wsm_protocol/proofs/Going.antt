-- Each step that goes on changes nothing, or comes nearer to where none does.
use Rattle.std.proofs.Common.{◌≡◌, ◌∙◌, subst, ℕ, suc, ◌+◌, ◌-◌, ◌<◌, List, [], ◌∷◌, ◌++◌, length, take, drop, Bool, true, false, cond, leb, eqb, refl, sym, ap, arith, append-nil, length-append, length-take, length-drop, inl, inr, ◌⊎◌}
use Rattle.std.proofs.lemmas.Bool.{cond_both, eqb-false, leb-false}
use Rattle.wsm_protocol.specs.Runs.{Run, IsRun, Text}
use Rattle.wsm_protocol.specs.World.{Item, Live, Down, Opening, Renamed, Ready, Appended, World, all_rows, reached, with_chunk, first_world}
use Rattle.wsm_protocol.specs.Steps.{Event, Writes, SyncsLog, Starts, Renames, SyncsFolder, Takes, Syncs, HandsOut, Cuts, Sinks, SyncsTable, Tells, Kill, SinkDies, Stops, PowerCut, started, renamed, folder_synced, chunk_synced, appended, takes_more, handed_out, sunk, happens}
use Rattle.wsm_protocol.specs.Laws.{GoesOn, IsLess, phase, phase_unread, rank, rank_with, after_all}
use Rattle.wsm_protocol.proofs.Lists.{IsStream, rows_more}
use Rattle.wsm_protocol.proofs.Good.{Good, good_first}
use Rattle.wsm_protocol.proofs.Steps.{steps_keep}

-- a world is as another, or less far
abbrev IsNearer : World → World → Type 0
IsNearer next w = (next ≡ w) ⊎ IsLess (rank next) (rank w)

abbrev IsNearerThan : World → World → Live → Type 0
IsNearerThan next w live = (next ≡ w) ⊎ IsLess (rank next) (rank_with w live)

both_less : (b : Bool) (x y u v : ℕ) → x < y → u < v → cond b x u < cond b y v
both_less true x y u v one two = one
both_less false x y u v one two = two

log_nearer : (w : World) (unsynced : List Text) → w.unsynced ≡ unsynced → IsNearer (record w { synced = w.synced ++ w.unsynced; unsynced = [] }) w
log_nearer w [] is =
    inl (
    ap (λ t. record w { synced = w.synced ++ t; unsynced = [] }) is
    ∙ ap (λ t. record w { synced = t; unsynced = [] }) (append-nil w.synced)
    ∙ ap (λ t. record w { unsynced = t }) (sym is)
    )
log_nearer w (row ∷ rows) is =
    let long : length w.unsynced ≡ suc (length rows) = ap length is in
    inr (inr (refl, inl (omega (arith, long))))

start_nearer : (r : Run) (w : World) (n : ℕ) (live : Live) → w.live ≡ live → IsNearerThan (started r n w live) w live
start_nearer r w n Down is = inr (inl (cond_both w.is_read (phase Down) (phase_unread Down) (λ y. 2 < y) (λ read. omega arith) (λ not. omega arith)))
start_nearer r w n (Opening next out) is = inl refl
start_nearer r w n (Renamed out) is = inl refl
start_nearer r w n (Ready out) is = inl refl
start_nearer r w n (Appended out) is = inl refl

rename_nearer : (w : World) (live : Live) → IsNearerThan (renamed w live) w live
rename_nearer w Down = inl refl
rename_nearer w (Opening next out) = inr (inl (both_less w.is_read 1 2 5 6 (omega arith) (omega arith)))
rename_nearer w (Renamed out) = inl refl
rename_nearer w (Ready out) = inl refl
rename_nearer w (Appended out) = inl refl

folder_nearer : (w : World) (live : Live) → IsNearerThan (folder_synced w live) w live
folder_nearer w Down = inl refl
folder_nearer w (Opening next out) = inl refl
folder_nearer w (Renamed out) = inr (inl (both_less w.is_read 0 1 4 5 (omega arith) (omega arith)))
folder_nearer w (Ready out) = inl refl
folder_nearer w (Appended out) = inl refl

sync_nearer : (w : World) (live : Live) → IsNearerThan (chunk_synced w live) w live
sync_nearer w Down = inl refl
sync_nearer w (Opening next out) = inl refl
sync_nearer w (Renamed out) = inl refl
sync_nearer w (Ready out) = inl refl
sync_nearer w (Appended out) = inr (inr (refl, inr (refl, inr (refl, inl (omega arith)))))

append_nearer : (r : Run) (w : World) (most : ℕ) (rows : List Text) → rows ≡ take most (drop (reached w.seen) w.synced) → IsNearerThan (appended r w rows) w (Ready [])
append_nearer r w most [] is = inl refl
append_nearer r w most (row ∷ rows) is =
    let long : suc (length rows) ≡ length (take most (drop (reached w.seen) w.synced)) = ap length is in
    let chunk : length (all_rows (w.seen.chunks ++ (row ∷ rows) ∷ [])) ≡ length (all_rows w.seen.chunks ++ row ∷ rows) = ap length (rows_more w.seen.chunks (row ∷ rows)) in
    let fewer : length w.synced - reached (with_chunk w.seen (row ∷ rows)) < length w.synced - reached w.seen =
    omega (arith, long, chunk, length-append (all_rows w.seen.chunks) (row ∷ rows), length-take most (drop (reached w.seen) w.synced), length-drop (reached w.seen) w.synced) in
    inr (inr (refl, inr (refl, inl fewer)))

take_nearer : (r : Run) (w : World) (most : ℕ) (live : Live) → IsNearerThan (takes_more r most w live) w live
take_nearer r w most Down = inl refl
take_nearer r w most (Opening next out) = inl refl
take_nearer r w most (Renamed out) = inl refl
take_nearer r w most (Ready []) = append_nearer r w most (take most (drop (reached w.seen) w.synced)) refl
take_nearer r w most (Ready (item ∷ out)) = inl refl
take_nearer r w most (Appended out) = inl refl

hand_nearer : (w : World) (live : Live) → IsNearerThan (handed_out w live) w live
hand_nearer w Down = inl refl
hand_nearer w (Opening next out) = inl refl
hand_nearer w (Renamed out) = inl refl
hand_nearer w (Ready []) = inl refl
hand_nearer w (Ready (item ∷ out)) =
    cond_both w.is_read (record w { pipe = w.pipe ++ item ∷ []; live = Ready out }) (record w { live = Down }) (λ next. IsNearerThan next w (Ready (item ∷ out)))
    (λ read. inr (inr (refl, inr (refl, inr (refl, inr (refl, inl (omega arith)))))))
    (λ not. inr (inl (down_less w.is_read not)))
  where
    down_less : (b : Bool) → b ≡ false → cond b 3 3 < cond b 0 4
    down_less b not = rw not (omega arith)
hand_nearer w (Appended out) = inl refl

stop_nearer : (w : World) (live : Live) → w.live ≡ live → IsNearerThan (cond w.is_read w (record w { live = Down })) w live
stop_nearer w live is = by_read w.is_read refl
  where
    by_read : (b : Bool) → w.is_read ≡ b → IsNearerThan (cond b w (record w { live = Down })) w live
    by_read true read = inl refl
    by_read false not = by_live live is
      where
        less : (y : ℕ) → 3 < y → cond w.is_read 3 3 < cond w.is_read 0 y
        less y large = rw not large

        by_live : (l : Live) → w.live ≡ l → IsNearerThan (record w { live = Down }) w l
        by_live Down here = inl (ap (λ x. record w { live = x }) (sym here))
        by_live (Opening next out) here = inr (inl (rw not (omega arith)))
        by_live (Renamed out) here = inr (inl (rw not (omega arith)))
        by_live (Ready out) here = inr (inl (rw not (omega arith)))
        by_live (Appended out) here = inr (inl (rw not (omega arith)))

-- a line is taken or passed over: there is no gap
sink_nearer : (r : Run) (w : World) → Good r w → (pipe : List Item) → w.pipe ≡ pipe → IsNearer (sunk w pipe) w
sink_nearer r w g [] is = inl refl
sink_nearer r w g (item ∷ rest) is =
    let s : IsStream (r.told w.synced) g.at (item ∷ rest) = subst (λ p. IsStream (r.told w.synced) g.at p) is g.pipe.stream in
    let long : length w.pipe ≡ suc (length rest) = ap length is in
    let next : World = record w { pipe = rest; table = w.table ++ item.line ∷ [] } in
    let gap : World = record w { pipe = []; is_read = false } in
    cond_both (leb item.number (length w.table)) (record w { pipe = rest }) (cond (eqb item.number (length w.table + 1)) next gap) (λ u. IsNearer u w)
    (λ small. inr (inr (refl, inr (refl, inr (refl, inr (refl, inr (refl, inl (omega (arith, long)))))))))
    (λ large. cond_both (eqb item.number (length w.table + 1)) next gap (λ u. IsNearer u w)
    (λ same. inr (inr (refl, inr (refl, inr (refl, inr (refl, inr (refl, inl (omega (arith, long)))))))))
    (λ far. absurd (eqb-false item.number (length w.table + 1) far (omega (arith, s.0, g.pipe.behind, leb-false item.number (length w.table) large)))))

step_nearer : (r : Run) (w : World) → Good r w → (e : Event) → GoesOn e → IsNearer (happens r w e) w
step_nearer r w g (Writes row) on = absurd on
step_nearer r w g SyncsLog on = log_nearer w w.unsynced refl
step_nearer r w g (Starts cut) on = start_nearer r w cut w.live refl
step_nearer r w g Renames on = rename_nearer w w.live
step_nearer r w g SyncsFolder on = folder_nearer w w.live
step_nearer r w g (Takes most) on = take_nearer r w most w.live
step_nearer r w g Syncs on = sync_nearer w w.live
step_nearer r w g HandsOut on = hand_nearer w w.live
step_nearer r w g (Cuts chunks) on = absurd on
step_nearer r w g Sinks on = sink_nearer r w g w.pipe refl
step_nearer r w g SyncsTable on = absurd on
step_nearer r w g Tells on = absurd on
step_nearer r w g Kill on = absurd on
step_nearer r w g SinkDies on = absurd on
step_nearer r w g Stops on = stop_nearer w w.live refl
step_nearer r w g (PowerCut which log table told) on = absurd on

pub nearer : (r : Run) (events : List Event) (e : Event) → IsRun r → GoesOn e → IsNearer (happens r (after_all r events) e) (after_all r events)
nearer r events e good on = step_nearer r (after_all r events) (steps_keep r good events first_world (good_first r good)) e on

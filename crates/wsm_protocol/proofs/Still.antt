-- The table has a log's first lines, and where no step that goes on changes anything, all.
use Rattle.std.proofs.Common.{◌≡◌, ◌∙◌, subst, ℕ, suc, ◌+◌, ◌≤◌, List, [], ◌∷◌, ◌++◌, length, take, drop, Bool, true, false, cond, leb, eqb, refl, sym, ap, arith, append_assoc, append-nil, length-append}
use Rattle.std.proofs.lemmas.Bool.{cond_both, false≢true}
use Rattle.std.proofs.lemmas.List.{drop_at}
use Rattle.wsm_protocol.specs.Runs.{Run, IsRun, Text}
use Rattle.wsm_protocol.specs.World.{Item, Live, Down, Opening, Renamed, Ready, Appended, World, all_rows, reached, count, log_of, first_world}
use Rattle.wsm_protocol.specs.Steps.{Event, SyncsLog, Starts, Renames, SyncsFolder, Takes, Syncs, HandsOut, Sinks, Stops, started, renamed, folder_synced, chunk_synced, appended, takes_more, handed_out, sunk}
use Rattle.wsm_protocol.specs.Laws.{IsFrontOf, IsStill, after_all}
use Rattle.wsm_protocol.proofs.Good.{Good, Out, good_first}
use Rattle.wsm_protocol.proofs.Standing.{told_grows, count_is}
use Rattle.wsm_protocol.proofs.Steps.{steps_keep}

pub safe : (r : Run) (events : List Event) → IsRun r → IsFrontOf (after_all r events).table (r.told (log_of (after_all r events)))
safe r events good =
    let w = after_all r events in
    let g = steps_keep r good events first_world (good_first r good) in
    let grown = told_grows r good w.synced w.unsynced in
    ((g.table.is).0 ++ grown.0, grown.1 ∙ ap (λ t. t ++ grown.0) (g.table.is).1 ∙ append_assoc w.table (g.table.is).0 grown.0)

-- ---- where nothing changes

abbrev is_down : Live → Bool
is_down Down = true
is_down (Opening next out) = false
is_down (Renamed out) = false
is_down (Ready out) = false
is_down (Appended out) = false

abbrev is_ready : Live → Bool
is_ready Down = false
is_ready (Opening next out) = false
is_ready (Renamed out) = false
is_ready (Ready out) = true
is_ready (Appended out) = false

abbrev is_renamed : Live → Bool
is_renamed Down = false
is_renamed (Opening next out) = false
is_renamed (Renamed out) = true
is_renamed (Ready out) = false
is_renamed (Appended out) = false

abbrev IsReadyWith : Live → List Item → Type 0
IsReadyWith live out = live ≡ Ready out

-- the process is ready: each other phase has a step that changes it
ready_of : (r : Run) (w : World) (live : Live) → w.live ≡ live → started r 0 w live ≡ w → renamed w live ≡ w → folder_synced w live ≡ w → chunk_synced w live ≡ w → (out : List Item) × IsReadyWith w.live out
ready_of r w Down is starts renames folder syncs = absurd (false≢true (ap (λ u. is_down u.live) starts ∙ ap is_down is))
ready_of r w (Opening next out) is starts renames folder syncs = absurd (false≢true (sym (ap (λ u. is_renamed u.live) renames ∙ ap is_renamed is)))
ready_of r w (Renamed out) is starts renames folder syncs = absurd (false≢true (sym (ap (λ u. is_ready u.live) folder ∙ ap is_ready is)))
ready_of r w (Ready out) is starts renames folder syncs = (out, is)
ready_of r w (Appended out) is starts renames folder syncs = absurd (false≢true (sym (ap (λ u. is_ready u.live) syncs ∙ ap is_ready is)))

-- somebody reads the pipe, as the process would stop else
read_of : (w : World) (out : List Item) (is_read : Bool) → w.live ≡ Ready out → cond is_read w (record w { live = Down }) ≡ w → is_read ≡ true
read_of w out true is stops = refl
read_of w out false is stops = absurd (false≢true (sym (ap (λ u. is_down u.live) stops ∙ ap is_down is)))

-- nothing is to be handed out
handed_of : (w : World) (out : List Item) → w.is_read ≡ true → handed_out w (Ready out) ≡ w → out ≡ []
handed_of w [] read hands = refl
handed_of w (item ∷ out) read hands =
    let next : World = record w { pipe = w.pipe ++ item ∷ []; live = Ready out } in
    let same : next ≡ w = ap (λ b. cond b next (record w { live = Down })) (sym read) ∙ hands in
    let long : length (w.pipe ++ item ∷ []) ≡ length w.pipe = ap (λ u. length u.pipe) same in
    absurd (omega (arith, long, length-append w.pipe (item ∷ [])))

-- nothing is in the pipe
sunk_of : (w : World) (pipe : List Item) → w.pipe ≡ pipe → sunk w pipe ≡ w → pipe ≡ []
sunk_of w [] is sinks = refl
sunk_of w (item ∷ rest) is sinks =
    let next : World = record w { pipe = rest; table = w.table ++ item.line ∷ [] } in
    let gap : World = record w { pipe = []; is_read = false } in
    let pass : World = record w { pipe = rest } in
    let shorter : length (sunk w (item ∷ rest)).pipe ≤ length rest =
    cond_both (leb item.number (length w.table)) pass (cond (eqb item.number (length w.table + 1)) next gap) (λ u. length u.pipe ≤ length rest)
    (λ small. omega arith)
    (λ not. cond_both (eqb item.number (length w.table + 1)) next gap (λ u. length u.pipe ≤ length rest) (λ same. omega arith) (λ far. omega arith)) in
    let long : length (sunk w (item ∷ rest)).pipe ≡ length w.pipe = ap (λ u. length u.pipe) sinks in
    let size : length w.pipe ≡ suc (length rest) = ap length is in
    absurd (omega (arith, shorter, long, size))

-- no row of the log is behind the journal's
back_of : (r : Run) (w : World) (out : List Item) (back : List Text) → w.live ≡ Ready out → appended r w (take 1 back) ≡ w → back ≡ []
back_of r w out [] is takes = refl
back_of r w out (row ∷ back) is takes = absurd (false≢true (ap (λ u. is_ready u.live) takes ∙ ap is_ready is))

empty_of : (rest : List Text) (n : ℕ) → n + length rest ≡ n → rest ≡ []
empty_of [] n none = refl
empty_of (x ∷ rest) n none = absurd (omega (arith, none))

all_there : (r : Run) → IsRun r → (w : World) → Good r w → IsStill r w → w.table ≡ r.told (log_of w)
all_there r good w g still =
    let ready = ready_of r w w.live refl (still (Starts 0) tt) (still Renames tt) (still SyncsFolder tt) (still Syncs tt) in
    let read = read_of w ready.0 w.is_read ready.1 (still Stops tt) in
    let none_out : ready.0 ≡ [] = handed_of w ready.0 read (ap (λ l. handed_out w l) (sym ready.1) ∙ still HandsOut tt) in
    let is : w.live ≡ Ready [] = ready.1 ∙ ap Ready none_out in
    let none_piped : w.pipe ≡ [] = sunk_of w w.pipe refl (still Sinks tt) in
    let none_new : w.unsynced ≡ [] = sym (ap (λ u. u.unsynced) (still SyncsLog tt)) in
    let f = g.seen.fits in
    let mid = all_rows w.seen.chunks in
    let place : length (f.front ++ mid) ≡ reached w.seen = omega (arith, f.size, length-append f.front mid) in
    let behind : drop (reached w.seen) w.synced ≡ f.back = ap (λ t. drop (reached w.seen) t) (f.is ∙ sym (append_assoc f.front mid f.back)) ∙ drop_at (f.front ++ mid) f.back (reached w.seen) place in
    let takes : appended r w (take 1 f.back) ≡ w = ap (λ t. appended r w (take 1 t)) (sym behind) ∙ ap (λ l. takes_more r 1 w l) (sym is) ∙ still (Takes 1) tt in
    let none_behind : f.back ≡ [] = back_of r w [] f.back is takes in
    let to = subst (λ l. Out r w.synced w.seen (g.at + length w.pipe) l) is (g.out read) in
    let empty_pipe : length w.pipe ≡ 0 = ap length none_piped in
    let come : g.at ≡ count r w.seen = omega (arith, to.1, empty_pipe) in
    let rows : w.synced ≡ f.front ++ mid = f.is ∙ ap (λ t. f.front ++ (mid ++ t)) none_behind ∙ ap (λ t. f.front ++ t) (append-nil mid) in
    let all : count r w.seen ≡ length (r.told w.synced) = count_is r good w.synced w.seen f ∙ ap (λ t. length (r.told t)) (sym rows) in
    let long : length (r.told w.synced) ≡ length (w.table ++ (g.table.is).0) = ap length (g.table.is).1 in
    let none_left : (g.table.is).0 ≡ [] = empty_of (g.table.is).0 (length w.table) (omega (arith, long, length-append w.table (g.table.is).0, come, all, g.pipe.behind)) in
    sym (ap (λ t. r.told (w.synced ++ t)) none_new ∙ ap r.told (append-nil w.synced) ∙ (g.table.is).1 ∙ ap (λ t. w.table ++ t) none_left ∙ append-nil w.table)

pub whole : (r : Run) (events : List Event) → IsRun r → IsStill r (after_all r events) → (after_all r events).table ≡ r.told (log_of (after_all r events))
whole r events good still = all_there r good (after_all r events) (steps_keep r good events first_world (good_first r good)) still

-- What fires on a turn, and the rows of panes. Triggers early, on time and late, discarding,
-- accumulating and retracting are those of the Dataflow Model (Akidau et al. 2015); their exact conditions, the
-- final firing and what counts as shown are this project's own rules.
use Rattle.std.specs.Prelude.{ℕ, zero, suc, Bool, false, ◌&&◌, ◌||◌, not, List, [], ◌∷◌, ◌++◌, length, filter, filter_map, ℤ, ◌+ℤ◌, int_lt, int_le, nat_lt, nat_le, nat_eq, Option, Some, None, option_map, if◌then◌else◌}
use Rattle.std.specs.List.{list_any}
use Rattle.std.specs.Ordering.{eq_by_cmp}
use Rattle.wsm_record.specs.declared.words.Mode.{Mode}
use Rattle.wsm_record.specs.Modes.{is_over_all}
use Rattle.wsm_record.specs.Event.{Event}
use Rattle.wsm_windows.specs.declared.window.PaneKind.{PaneKind}
use Rattle.wsm_windows.specs.declared.window.PaneKind.TheVariants.{Early, OnTime, Late, Final}
use Rattle.wsm_windows.specs.declared.window.Shape.{Shape}
use Rattle.wsm_windows.specs.declared.window.Shape.TheVariants.{Fixed, Sliding, Session}
use Rattle.wsm_windows.specs.Life.{is_due}
use Rattle.wsm_windows.specs.declared.place.Place.{Place}
use Rattle.wsm_windows.specs.Places.{place_cmp, window_of}
use Rattle.wsm_semantics.specs.declared.out_row.OutRow.{OutRow}
use Rattle.wsm_semantics.specs.declared.out_row.OutRow.TheVariants.{Pane}
use Rattle.wsm_semantics.specs.Query.{Datum, Query, Effect, Selects, Rises, Nothing, effect_of}
use Rattle.wsm_semantics.specs.Panes.{panes}

pub record Firing : Type 0 where
  pub turn : ℕ  -- how many events came before its own
  pub kind : PaneKind
  pub place : Place
  pub contents : List Datum
  pub fired : List Datum  -- what its row is computed over

abbrev pub holds : Datum → List Datum → Bool
holds d ds = list_any (λ x. nat_eq x.turn d.turn) ds

-- firings that show a place's records: those of the key and window, for sessions of the key
abbrev pub shows : Shape → Place → Place → Bool
shows (Fixed size) p fired = eq_by_cmp place_cmp p fired
shows (Sliding size period) p fired = eq_by_cmp place_cmp p fired
shows (Session gap) p fired = nat_eq p.key fired.key

-- what a firing is computed over
abbrev pub firing_set : Mode → List Datum → List Datum → List Datum
firing_set mode all unshown = if is_over_all mode then all else unshown

-- a count that is declared is reached
abbrev pub is_enough : ℕ → ℕ → Bool
is_enough zero n = false
is_enough (suc m) n = nat_le (suc m) n

-- the kind of a firing on the turn of a selected record, for a window that it entered
abbrev pub kind_on_record : Query → ℤ → ℤ → ℕ → Option PaneKind
kind_on_record q w end unshown =
    if int_lt w end
    then (if is_enough q.early unshown then Some Early else None)
    else (if is_enough q.late unshown then Some Late else None)

-- the kind of a firing where the watermark goes from old to new: none where it stays
abbrev pub kind_on_watermark : Query → ℤ → ℤ → Place → ℕ → ℕ → Option PaneKind
kind_on_watermark q old new p fired unshown =
    if is_due (window_of p) old new && nat_lt 0 fired then Some OnTime
    else if (int_lt old (p.end +ℤ q.clock.lateness) && int_le (p.end +ℤ q.clock.lateness) new) && nat_lt 0 unshown then Some Final
    else None

abbrev pub firing_of : ℕ → Place → List Datum → List Datum → Option PaneKind → Option Firing
firing_of turn p all fired None = None
firing_of turn p all fired (Some kind) = Some (record { turn = turn; kind = kind; place = p; contents = all; fired = fired })

-- the kind of a firing of a place by what an event does, with its contents and those that weren't shown
abbrev pub kind_on : Query → Effect → Place → List Datum → List Datum → Option PaneKind
kind_on q (Selects d) p all unshown = if holds d all then kind_on_record q d.mark p.end (length unshown) else None
kind_on q (Rises old new) p all unshown = kind_on_watermark q old new p (length (firing_set q.mode all unshown)) (length unshown)
kind_on q Nothing p all unshown = None

-- what a place with its contents does on a turn, where it is told which records were shown before
abbrev pub fire : (Datum → Bool) → Query → ℕ → Effect → Place → List Datum → Option Firing
fire shown q turn effect p all =
    let unshown = filter (λ d. not (shown d)) all in
    firing_of turn p all (firing_set q.mode all unshown) (kind_on q effect p all unshown)

-- what fires on a turn, where it is told which records of a place were shown before
abbrev pub firings_by : (Place → Datum → Bool) → Query → List Event → Event → List Firing
firings_by shown q past e =
    let effect = effect_of q past e in
    filter_map (λ p. fire (shown p.0) q (length past) effect p.0 p.1) (panes q (e ∷ past))

-- a firing of the place in the history had the record in its contents
abbrev pub is_shown : Query → List Event → Place → Datum → Bool
is_shown q [] p d = false
is_shown q (e ∷ past) p d =
    is_shown q past p d || list_any (λ f. shows q.shape p f.place && holds d f.contents) (firings_by (is_shown q past) q past e)

-- what fires on the turn of an event after a history, in the order of places
abbrev pub firings : Query → List Event → Event → List Firing
firings q past e = firings_by (is_shown q past) q past e

-- all firings of a history, the oldest turn's first
abbrev pub firings_so_far : Query → List Event → List Firing
firings_so_far q [] = []
firings_so_far q (e ∷ past) = firings_so_far q past ++ firings q past e

-- the row of a firing, where HAVING is true
abbrev pub row_of : Query → Firing → Option OutRow
row_of q f = option_map (Pane f.kind f.place.key (window_of f.place)) (q.row f.place.key f.fired)

-- the pane rows of the turn of an event after a history
abbrev pub pane_rows : Query → List Event → Event → List OutRow
pane_rows q past e = filter_map (row_of q) (firings q past e)

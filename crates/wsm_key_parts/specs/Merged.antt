-- The rows that several parts write on one turn, merged into the order in which one run writes them: those that
-- are withdrawn, then panes, each by the end and the start of its window and then by its key. That withdrawn rows come
-- before panes is this project's own rule.
use Rattle.std.specs.Prelude.{◌≡◌, ℕ, List, [], ◌∷◌, flat_map, pos, if◌then◌else◌, refl}
use Rattle.std.specs.Ordering.{nat_cmp, ordering_then, is_gt}
use Rattle.std.specs.declared.cmp.Ordering.{Ordering}
use Rattle.wsm_record.specs.Event.{Event}
use Rattle.wsm_windows.specs.declared.window.PaneKind.TheVariants.{OnTime}
use Rattle.wsm_windows.specs.declared.place.Place.{Place}
use Rattle.wsm_windows.specs.Windows.{window}
use Rattle.wsm_windows.specs.Places.{place_cmp, at}
use Rattle.wsm_semantics.specs.declared.out_row.OutRow.{OutRow}
use Rattle.wsm_semantics.specs.declared.out_row.OutRow.TheVariants.{Pane, Retract, Istream, Dstream, Rstream}
use Rattle.wsm_semantics.specs.Query.{Query}
use Rattle.wsm_semantics.specs.Relation.{turn_rows}
use Rattle.wsm_semantics.specs.ByKey.{Keys, of_keys, where_of, HasRoom}

-- rows that are withdrawn come first, and rows of streams, which are of no key, last
abbrev pub rank : OutRow → ℕ
rank (Retract key window columns) = 0
rank (Pane kind key window columns) = 1
rank (Istream mark columns) = 2
rank (Dstream mark columns) = 2
rank (Rstream mark columns) = 2

abbrev pub place_of : OutRow → Place
place_of (Retract key window columns) = at key window
place_of (Pane kind key window columns) = at key window
place_of (Istream mark columns) = at 0 (window mark mark)
place_of (Dstream mark columns) = at 0 (window mark mark)
place_of (Rstream mark columns) = at 0 (window mark mark)

-- which of two rows a turn writes first
abbrev pub turn_cmp : OutRow → OutRow → Ordering
turn_cmp a b = ordering_then (nat_cmp (rank a) (rank b)) (place_cmp (place_of a) (place_of b))

abbrev pub with_row : OutRow → List OutRow → List OutRow
with_row r [] = r ∷ []
with_row r (x ∷ xs) = if is_gt (turn_cmp r x) then x ∷ with_row r xs else r ∷ x ∷ xs

abbrev pub in_order : List OutRow → List OutRow
in_order [] = []
in_order (r ∷ rs) = with_row r (in_order rs)

-- what some parts write, in the order of a turn
abbrev pub merged : {A : Type 0} → (A → List OutRow) → List A → List OutRow
merged rows parts = in_order (flat_map rows parts)

-- what the parts of a history write for an event, each where the event is of it, is merged into what the whole writes
abbrev pub MergesParts : Query → List Keys → Type 0
MergesParts q parts = (past : List Event) (e : Event) → HasRoom q (e ∷ past) →
    merged (λ keys. where_of keys e (turn_rows q (of_keys keys past) e)) parts ≡ turn_rows q past e

-- ---- worked rows

abbrev shown : ℕ → ℕ → OutRow
shown key end = Pane OnTime key (window (pos 0) (pos end)) []

abbrev gone : ℕ → ℕ → OutRow
gone key end = Retract key (window (pos 0) (pos end)) []

-- of two parts, the second with the keys from 2 on: withdrawn rows, then panes, by window and then by key
two_parts : merged (λ rows. rows) ((gone 1 60 ∷ shown 0 60 ∷ shown 1 60 ∷ shown 0 90 ∷ []) ∷ (gone 2 30 ∷ shown 2 60 ∷ shown 3 120 ∷ []) ∷ [])
    ≡ gone 2 30 ∷ gone 1 60 ∷ shown 0 60 ∷ shown 1 60 ∷ shown 2 60 ∷ shown 0 90 ∷ shown 3 120 ∷ []
two_parts = refl

-- Rows of panes that retract, as who adds them up reads them: those that were shown, less those that were withdrawn.
use Rattle.std.specs.Prelude.{◌≡◌, ℕ, Bool, List, filter_map, ℤ, pos, ◌-ℤ◌, if◌then◌else◌}
use Rattle.wsm_record.specs.declared.cell.Cell.{Cell}
use Rattle.wsm_record.specs.Event.{Event}
use Rattle.wsm_windows.specs.declared.place.Place.{Place}
use Rattle.wsm_semantics.specs.Query.{Query}
use Rattle.wsm_semantics.specs.LastingRows.{rows_so_far, shown_by, withdrawn_by}
use Rattle.wsm_semantics.specs.Amounts.{sum_of, number_at, amount_written}

-- what columns have in one, where they are of some windows
abbrev pub worth : ℕ → (Place → Bool) → Place × List Cell → ℤ
worth c here w = if here w.0 then number_at c w.1 else pos 0

-- what the pane rows of some windows come to, in all turns so far
abbrev pub amount_shown : Query → List Event → ℕ → (Place → Bool) → ℤ
amount_shown q past c here = sum_of (worth c here) (filter_map shown_by (rows_so_far q past))

-- and their retract rows
abbrev pub amount_withdrawn : Query → List Event → ℕ → (Place → Bool) → ℤ
amount_withdrawn q past c here = sum_of (worth c here) (filter_map withdrawn_by (rows_so_far q past))

-- what is written is what was shown, less what was withdrawn
abbrev pub IsShownLess : Query → ℕ → Type 0
IsShownLess q c = (past : List Event) (here : Place → Bool) → amount_written q past c here ≡ amount_shown q past c here -ℤ amount_withdrawn q past c here

-- A run over lines as the protocol sees it, a journal's records as its journal, and its items as bytes.
use Rattle.std.specs.Prelude.{ℕ, List, [], ◌∷◌, ◌++◌, Bool, true, false, ◌&&◌, length, map, nat_eq}
use Rattle.wsm_sums.specs.Crc.{sum_behind}
use Rattle.wsm_numbered.specs.Numbered.{numbered_line}
use Rattle.wsm_journal.specs.Text.{Entry}
use Rattle.wsm_protocol.specs.Runs.{Run}
use Rattle.wsm_protocol.specs.World.{Item, Journal, nothing_kept}
use Rattle.wsm_live.specs.Kept.{read_lines}
use Rattle.wsm_live.specs.Told.{Turn, told_for, with_lines}

abbrev pub is_text : List ℕ → List ℕ → Bool
is_text [] [] = true
is_text [] (y ∷ ys) = false
is_text (x ∷ xs) [] = false
is_text (x ∷ xs) (y ∷ ys) = nat_eq x y && is_text xs ys

abbrev pub are_lines : List (List ℕ) → List (List ℕ) → Bool
are_lines [] [] = true
are_lines [] (y ∷ ys) = false
are_lines (x ∷ xs) [] = false
are_lines (x ∷ xs) (y ∷ ys) = is_text x y && are_lines xs ys

-- what is written for lines. A head is the lines that it stands for
abbrev pub run_by : Turn → Run
run_by turn = record {
  told = λ rows. told_for turn [] rows;
  resumed = λ head more. told_for turn (with_lines [] head) more;
  cut = λ head more. head ++ more;
  stands = λ head rows. are_lines head rows;
}

abbrev pub chunks_of : ℕ → List Entry → List (List (List ℕ))
chunks_of longest chunks = map (λ e. read_lines longest e.rows) chunks

-- records of which the head stands for these lines, the oldest first: for none where no line was cut
abbrev pub journal_by : Turn → ℕ → List (List ℕ) → List Entry → Journal
journal_by turn longest front [] = nothing_kept
journal_by turn longest front (head ∷ chunks) = record { head = front; rows = length front; lines = length (told_for turn [] front); chunks = chunks_of longest chunks }

-- the bytes of lines on their way, behind lines of which the sum is told
abbrev pub items_text : (sum : ℕ) → List Item → List ℕ
items_text sum [] = []
items_text sum (item ∷ items) = numbered_line item.number (sum_behind sum item.line) item.line ++ items_text (sum_behind sum item.line) items

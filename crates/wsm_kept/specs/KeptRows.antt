-- Rows that are cut, worked out. They are written oldest first.
use Rattle.std.specs.Prelude.{◌≡◌, ℕ, List, [], ◌∷◌, ◌++◌, pos, codes, refl}
use Rattle.std.specs.Fmt.{digits}
use Rattle.csv.specs.Writing.{escaped, fields_text, is_blank}
use Rattle.wsm_windows.specs.declared.window.Shape.TheVariants.{Fixed}
use Rattle.wsm_semantics.specs.Query.{Query}
use Rattle.wsm_semantics.specs.Rows.{base}
use Rattle.wsm_kept.specs.declared.head.Head.{Head}
use Rattle.wsm_kept.specs.Head.{Says, head_text, no_head}
use Rattle.wsm_kept.specs.Kept.{Cells, kept_rows, kept_text}
use Rattle.wsm_kept.specs.Texts.{rows_text}

-- windows of 10, LATENESS 10
abbrev q : Query
q = record base { shape = Fixed (pos 10) }

abbrev r : List ℕ → List ℕ → Cells
r time n = codes "r" ∷ codes "a" ∷ time ∷ n ∷ []

abbrev w : List ℕ → Cells
w time = codes "w" ∷ time ∷ []

abbrev rows : List Cells
rows = r (codes "5") (codes "1") ∷ w (codes "18") ∷ w (codes "20") ∷ r (codes "15") (codes "2") ∷ r (codes "20") (codes "3") ∷ w (codes "30") ∷ (codes "unread" ∷ []) ∷ r (codes "28") (codes "4") ∷ w (codes "32") ∷ []

abbrev those_that_stay : List Cells
those_that_stay = w (codes "20") ∷ r (codes "20") (codes "3") ∷ w (codes "30") ∷ r (codes "28") (codes "4") ∷ w (codes "32") ∷ []

-- the window from 20 is the first that is live at 32
they_stay : kept_rows q rows ≡ those_that_stay
unfolding kept_rows
they_stay = refl

-- nine rows wrote a pane of the first window, two at 30 and a refusal; a run over those that stay refuses the head, and writes a pane
-- at 30; of four records two stay
their_text : kept_text q 7 no_head rows ≡ codes "kept,9,4,6,2,998,7\nw,20\nr,a,20,3\nw,30\nr,a,28,4\nw,32\n"
unfolding kept_rows head_text digits rows_text escaped fields_text is_blank
their_text = refl

abbrev head : Head
head = record { rows = 9; lines = 4; kept = 6; own = 2; records = 998; sum = 7 }

abbrev head_row : Cells
head_row = codes "kept" ∷ codes "9" ∷ codes "4" ∷ codes "6" ∷ codes "2" ∷ codes "998" ∷ codes "7" ∷ []

-- which is read as the head
it_says : Says head_row head
unfolding head_text digits escaped fields_text is_blank
it_says = refl

-- and with a row more, at which the last window is dropped, they are cut again
cut_again : kept_text q 7 head (head_row ∷ those_that_stay ++ w (codes "50") ∷ []) ≡ codes "kept,10,5,2,1,998,7\nw,50\n"
unfolding kept_rows head_text digits rows_text escaped fields_text is_blank
cut_again = refl

-- Lines with what goes on for them, computed.
use Rattle.std.specs.Prelude.{◌≡◌, ◌∷◌, ◌++◌, [], Some, None, true, false, codes, refl}
use Rattle.wsm_row_watermarks.specs.Lines.{byte_order_mark, cells_of, joined, taken_of, text_of, whole}

cells : cells_of (codes "r,a,,5") ≡ codes "r" ∷ codes "a" ∷ [] ∷ codes "5" ∷ []
cells = refl

one_cell_without_a_byte : cells_of [] ≡ [] ∷ []
one_cell_without_a_byte = refl

and_back : joined (codes "r" ∷ codes "a" ∷ [] ∷ codes "5" ∷ []) ≡ codes "r,a,,5"
and_back = refl

-- a carriage return at the end is no byte of the row, and one in it would make two
carriage_return : text_of false (codes "r,a,5" ++ 13 ∷ []) ≡ Some (codes "r,a,5")
carriage_return = refl

two_rows : text_of false (codes "r,a" ++ 13 ∷ codes "r,a,5") ≡ None
two_rows = refl

quote : text_of false (codes "r,\"a\",5") ≡ None
quote = refl

-- a byte order mark stands in front of the first line alone
marked_first : text_of true (byte_order_mark ++ codes "r,a,5") ≡ Some (codes "r,a,5")
marked_first = refl

marked_later : text_of false (byte_order_mark ++ codes "r,a,5") ≡ None
marked_later = refl

-- the identifier of a record doesn't go on
identifier : taken_of (Some 3) (codes "r,a,5,x1,7") ≡ record { text = codes "r,a,5,7"; cells = codes "r" ∷ codes "a" ∷ codes "5" ∷ codes "7" ∷ []; identifier = Some (codes "x1") }
identifier = refl

no_identifier : taken_of (Some 3) (codes "r,a,5,,7") ≡ record { text = codes "r,a,5,7"; cells = codes "r" ∷ codes "a" ∷ codes "5" ∷ codes "7" ∷ []; identifier = None }
no_identifier = refl

-- a record without that cell goes on as it is, and what is no record
too_short : taken_of (Some 3) (codes "r,a,5") ≡ whole (codes "r,a,5")
too_short = refl

no_record : taken_of (Some 3) (codes "w,a,5,x") ≡ whole (codes "w,a,5,x")
no_record = refl

-- no identifier stands in the place of the tag, of the key or of the time
tag : taken_of (Some 0) (codes "r,a,5") ≡ whole (codes "r,a,5")
tag = refl

time : taken_of (Some 2) (codes "r,a,5,7") ≡ whole (codes "r,a,5,7")
time = refl

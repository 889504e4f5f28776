-- What a row is, by its first cell.
use Rattle.std.specs.Prelude.{ℕ, List, [], ◌∷◌, Option, Some, None, if◌then◌else◌, bytes_eq}
use Rattle.wsm_csv.specs.declared.row.Tag.{Tag}
use Rattle.wsm_csv.specs.declared.row.Tag.TheVariants.{Record, Watermark}
use Rattle.wsm_csv.specs.Cells.{record_tag, watermark_tag}

abbrev pub tag_of : List ℕ → Option Tag
tag_of cell = if bytes_eq cell record_tag then Some Record else if bytes_eq cell watermark_tag then Some Watermark else None

abbrev pub row_tag : List (List ℕ) → Option Tag
row_tag [] = None
row_tag (cell ∷ cells) = tag_of cell

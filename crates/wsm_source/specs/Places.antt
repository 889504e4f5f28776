-- Where a value stands in a line, by its format.
use Rattle.std.specs.Prelude.{ℕ, ◌+◌, List, codes, if◌then◌else◌, Option, Some, None, Result, Ok}
use Rattle.std.specs.Str.{bytes_eq}
use Rattle.wsm_lines.specs.declared.source.Place.{Place}
use Rattle.wsm_lines.specs.declared.source.Place.TheVariants.{Path, Column}
use Rattle.wsm_description.specs.declared.description.Format.{Format}
use Rattle.wsm_description.specs.declared.description.Format.TheVariants.{Json, Access, Csv, Rows}
use Rattle.wsm_description.specs.declared.refusal.SourceFault.TheVariants.{BadWord}
use Rattle.wsm_description.specs.declared.refusal.Refusal.{Refusal}
use Rattle.wsm_description.specs.Refusals.{refused, on_ok}
use Rattle.wsm_source.specs.Pointers.{path_of}

abbrev pub request_cell : List ℕ → Option ℕ
request_cell name =
    if bytes_eq name (codes "bytes") then Some 6
    else (if bytes_eq name (codes "referer") then Some 7
    else (if bytes_eq name (codes "agent") then Some 8
    else (if bytes_eq name (codes "method") then Some 9
    else (if bytes_eq name (codes "path") then Some 10
    else (if bytes_eq name (codes "protocol") then Some 11 else None)))))

-- the number of a part of an access line
abbrev pub cell_named : List ℕ → Option ℕ
cell_named name =
    if bytes_eq name (codes "host") then Some 0
    else (if bytes_eq name (codes "ident") then Some 1
    else (if bytes_eq name (codes "user") then Some 2
    else (if bytes_eq name (codes "time") then Some 3
    else (if bytes_eq name (codes "request") then Some 4
    else (if bytes_eq name (codes "status") then Some 5 else request_cell name)))))

abbrev pub path_or_refused : List ℕ → Option (List (List ℕ)) → Result Place Refusal
path_or_refused within None = refused BadWord within (codes "at")
path_or_refused within (Some names) = Ok (Path names)

abbrev pub path_place : List ℕ → List ℕ → Result Place Refusal
path_place within at = path_or_refused within (path_of at)

abbrev pub cell_or_refused : List ℕ → Option ℕ → Result Place Refusal
cell_or_refused within None = refused BadWord within (codes "at")
cell_or_refused within (Some number) = Ok (Column number)

abbrev pub cell_place : List ℕ → List ℕ → Result Place Refusal
cell_place within at = cell_or_refused within (cell_named at)

-- where a value stands: in CSV in the column of this number, of those that are asked for, and in a row behind its tag
abbrev pub place_of : Format → ℕ → List ℕ → List ℕ → Result Place Refusal
place_of Json column within at = path_place within at
place_of Access column within at = cell_place within at
place_of (Csv separator) column within at = Ok (Column column)
place_of Rows column within at = Ok (Column (column + 1))

-- where a value stands of which a place may be said
abbrev pub place_if : Format → ℕ → List ℕ → Option (List ℕ) → Result (Option Place) Refusal
place_if format column within None = Ok None
place_if format column within (Some at) = on_ok (place_of format column within at) (λ place. Ok (Some place))

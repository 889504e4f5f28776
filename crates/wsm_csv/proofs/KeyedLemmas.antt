-- Rows and lines with a key that is handed in.
use Rattle.std.proofs.Common.{◌≡◌, ℕ, zero, suc, ℤ, true, false, List, [], ◌∷◌, map, Option, Some, Result, Ok, Err, refl, ap, codes}
use Rattle.std.specs.List.{list_all}
use Rattle.std.specs.Fmt.{signed_decimal}
use Rattle.wsm_record.specs.declared.event.RowFault.{RowFault}
use Rattle.wsm_record.specs.declared.cell.Cell.{Cell}
use Rattle.wsm_record.specs.declared.cell.Cell.TheVariants.{Int, Bool as Truth, Enum}
use Rattle.wsm_record.specs.Event.{Event, Watermark}
use Rattle.wsm_record.specs.Schema.{Declared}
use Rattle.wsm_semantics.specs.declared.out_row.OutRow.{OutRow}
use Rattle.wsm_semantics.specs.declared.out_row.OutRow.TheVariants.{Pane, Retract, Istream, Dstream, Rstream}
use Rattle.wsm_semantics.specs.Text.{cell_text}
use Rattle.wsm_csv.specs.declared.event_reader.KeyFrom.{KeyFrom}
use Rattle.wsm_csv.specs.declared.event_reader.KeyFrom.TheVariants.{Cell as OfCell, Number}
use Rattle.wsm_csv.specs.Cells.{mark_of, then_read, time_of}
use Rattle.wsm_csv.specs.KeyedRows.{said_as, said_from}
use Rattle.wsm_csv.specs.KeyedLines.{IsLineOf, is_keyless, keyed_text}

timed : (key : Option ℕ) (time : Result ℤ RowFault) (source : Option ℕ) (e : Event) → then_read time (λ t. Ok (Watermark source t)) ≡ Ok e → said_as key (then_read time (λ t. Ok (Watermark source t))) ≡ Ok e
timed key (Ok t) source e h = h
timed key (Err f) source e h = h

mark_as : (key : Option ℕ) (sources cells : List (List ℕ)) (e : Event) → mark_of sources cells ≡ Ok e → said_as key (mark_of sources cells) ≡ Ok e
mark_as key [] [] e h = h
mark_as key [] (t ∷ []) e h = timed key (time_of t) (Some 0) e h
mark_as key [] (t ∷ u ∷ more) e h = h
mark_as key (s ∷ ss) [] e h = h
mark_as key (s ∷ ss) (source ∷ []) e h = h
mark_as key (s ∷ ss) (source ∷ t ∷ []) e h = timed key (time_of t) _ e h
mark_as key (s ∷ ss) (source ∷ t ∷ u ∷ more) e h = h

-- a watermark has no key, so it is the same wherever that is from
pub mark_from : (from : KeyFrom) (sources cells : List (List ℕ)) (e : Event) → mark_of sources cells ≡ Ok e → said_from from (mark_of sources cells) ≡ Ok e
mark_from OfCell sources cells e h = h
mark_from (Number key) sources cells e h = mark_as key sources cells e h

-- columns that say no key have their text whatever the names of keys are
keyless_texts : (s : Declared) (names : List (List ℕ)) (cs : List Cell) → list_all is_keyless cs ≡ true → map (cell_text s) cs ≡ map (cell_text (record s { keys = names })) cs
keyless_texts s names [] h = refl
keyless_texts s names (Int n ∷ cs) h = ap (λ (t : List (List ℕ)). signed_decimal n ∷ t) (keyless_texts s names cs h)
keyless_texts s names (Truth true ∷ cs) h = ap (λ (t : List (List ℕ)). codes "true" ∷ t) (keyless_texts s names cs h)
keyless_texts s names (Truth false ∷ cs) h = ap (λ (t : List (List ℕ)). codes "false" ∷ t) (keyless_texts s names cs h)
keyless_texts s names (Enum zero i ∷ cs) h = cc h
keyless_texts s names (Enum (suc f) i ∷ cs) h = ap (λ (t : List (List ℕ)). cell_text s (Enum (suc f) i) ∷ t) (keyless_texts s names cs h)

-- so a line with the text of a key is that of any names that have it
pub keyed_line : (s : Declared) (key : List ℕ) (row : OutRow) → IsLineOf s key row (keyed_text s key row)
keyed_line s key (Pane kind number window columns) names numbers has less =
    rw (has, keyless_texts s names columns less) refl
keyed_line s key (Retract number window columns) names numbers has less =
    rw (has, keyless_texts s names columns less) refl
keyed_line s key (Istream mark columns) names numbers has less = rw (keyless_texts s names columns less) refl
keyed_line s key (Dstream mark columns) names numbers has less = rw (keyless_texts s names columns less) refl
keyed_line s key (Rstream mark columns) names numbers has less = rw (keyless_texts s names columns less) refl

-- What was written comes back, whatever stands behind it.
use Rattle.std.proofs.Common.{◌≡◌, ◌∙◌, ℕ, ℤ, List, ◌++◌, Some, option_map, option_and_then, refl, ap, append_assoc}
use Rattle.wsm_saved.specs.Numbers.{number_text, read_signed, signed_text}
use Rattle.wsm_saved.specs.Lists.{ReadsBack, bytes_text, list_text}
use Rattle.wsm_saved.specs.Back.{bytes_back, list_back, number_back, option_reads_back, signed_back}
use Rattle.wsm_saved.specs.Events.{event_text}
use Rattle.wsm_saved.specs.EventsBack.{event_back}
use Rattle.wsm_watermarks.specs.declared.held.Timed.{Timed}
use Rattle.wsm_watermarks.specs.declared.table.Said.{Said}
use Rattle.wsm_turns.specs.Numbered.{Numbered}
use Rattle.wsm_saved_turns.specs.Turns.{EntryFits, RowFits, SaidFits, Stand, StandFits, StampFits, entry_text, read_entry, read_row, read_said, read_stamp, read_stand, row_text, said_text, stamp_text, stand_text}

entry_back : (e : List ℕ × ℤ) (rest : List ℕ) → EntryFits e → read_entry (entry_text e ++ rest) ≡ Some (e, rest)
unfolding read_entry
entry_back e rest fits =
    ap read_entry (append_assoc (bytes_text e.0) (signed_text e.1) rest)
    ∙ ap (λ o. option_and_then (λ i. option_map (λ z. ((i.0, z.0), z.1)) (read_signed i.1)) o) (bytes_back e.0 (signed_text e.1 ++ rest) fits.0)
    ∙ ap (λ o. option_map (λ z. ((e.0, z.0), z.1)) o) (signed_back e.1 rest fits.1)

pub entry_reads_back : ReadsBack entry_text read_entry EntryFits
entry_reads_back = record { back = entry_back }

-- the texts of clocks
stamp_back : (s : Said) (rest : List ℕ) → StampFits s → read_stamp (stamp_text s ++ rest) ≡ Some (s, rest)
unfolding read_stamp
stamp_back s rest fits =
    ap read_stamp (append_assoc (number_text s.time) (number_text s.number) rest)
    ∙ rw (number_back s.time (number_text s.number ++ rest) fits.0, number_back s.number rest fits.1) refl

stamp_reads_back : ReadsBack stamp_text read_stamp StampFits
stamp_reads_back = record { back = stamp_back }

pub said_reads_back : ReadsBack said_text read_said SaidFits
said_reads_back = option_reads_back stamp_text read_stamp StampFits stamp_reads_back

three : (a b c rest : List ℕ) → (a ++ (b ++ c)) ++ rest ≡ a ++ (b ++ (c ++ rest))
three a b c rest = simp append_assoc refl

row_back : (r : Timed Numbered) (rest : List ℕ) → RowFits r → read_row (row_text r ++ rest) ≡ Some (r, rest)
unfolding read_row
row_back r rest fits =
    ap read_row (three (number_text r.time) (number_text r.row.number) (event_text r.row.event) rest)
    ∙ rw (number_back r.time (number_text r.row.number ++ (event_text r.row.event ++ rest)) fits.time, number_back r.row.number (event_text r.row.event ++ rest) fits.number, event_back r.row.event rest fits.event) refl

pub row_reads_back : ReadsBack row_text read_row RowFits
row_reads_back = record { back = row_back }

five : (a b c d e rest : List ℕ) → (a ++ (b ++ (c ++ (d ++ e)))) ++ rest ≡ a ++ (b ++ (c ++ (d ++ (e ++ rest))))
five a b c d e rest = simp append_assoc refl

pub stand_back : (s : Stand) (rest : List ℕ) → StandFits s → read_stand (stand_text s ++ rest) ≡ Some (s, rest)
unfolding read_stand
stand_back s rest fits =
    let rows : List ℕ = list_text row_text s.rows ++ rest in
    let told : List ℕ = number_text s.told ++ rows in
    let mark : List ℕ = number_text s.mark ++ told in
    let heard : List ℕ = number_text s.heard ++ mark in
    ap read_stand (five (list_text said_text s.said) (number_text s.heard) (number_text s.mark) (number_text s.told) (list_text row_text s.rows) rest)
    ∙ rw (list_back said_text read_said SaidFits said_reads_back s.said heard fits.said, number_back s.heard mark fits.heard, number_back s.mark told fits.mark, number_back s.told rows fits.told, list_back row_text read_row RowFits row_reads_back s.rows rest fits.rows) refl

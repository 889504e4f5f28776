-- A file of names: in each line a text, a comma and a declared key. The text may stand in quotes, where two quotes are one; without them it has
-- neither a comma nor a quote. It has no line feed. A carriage return at the end of a line isn't of the key.
use Rattle.std.specs.Prelude.{ℕ, ◌+◌, ◌==◌, ◌||◌, List, [], ◌∷◌, ◌++◌, true, codes, position, bytes_eq, if◌then◌else◌, Option, Some, None, Result, Ok, Err}
use Rattle.wsm_lines.specs.declared.table.Entry.{Entry}
use Rattle.wsm_lines.specs.Entries.{added, entry_with}
use Rattle.wsm_lines.specs.Text.{unmarked}
use Rattle.wsm_source.specs.declared.names_part.Within.TheVariants.{Start, Plain, Quotes, Closed, Key, Return}
use Rattle.wsm_description.specs.declared.refusal.SourceFault.TheVariants.{BadLine}
use Rattle.wsm_description.specs.declared.refusal.Refusal.{Refusal}
use Rattle.wsm_description.specs.declared.refusal.Refusal.TheVariants.{Fault}
use Rattle.wsm_description.specs.Refusals.{dotted, on_ok}
use Rattle.wsm_source.specs.NamesRead.{NamesRead}

abbrev pub begun : NamesRead
begun = record { entries = []; line = 1; text = []; key = []; within = Start }

abbrev pub bad_line : ℕ → Refusal
bad_line line = Fault (BadLine line) (dotted (codes "key") (codes "names"))

abbrev pub with_entry : NamesRead → Option ℕ → Result NamesRead Refusal
with_entry r None = Err (bad_line r.line)
with_entry r (Some number) =
    Ok (record { entries = added r.entries (entry_with r.text number); line = r.line + 1; text = []; key = []; within = Start })

-- a line ends: its key is a declared one
abbrev pub end_line : List (List ℕ) → NamesRead → Result NamesRead Refusal
end_line keys r = with_entry r (position (bytes_eq r.key) keys)

abbrev pub in_plain : NamesRead → ℕ → Result NamesRead Refusal
in_plain r byte =
    if byte == 44 then Ok (record r { within = Key })
    else (if byte == 10 || byte == 34 then Err (bad_line r.line) else Ok (record r { text = r.text ++ byte ∷ []; within = Plain }))

abbrev pub at_start : NamesRead → ℕ → Result NamesRead Refusal
at_start r byte = if byte == 34 then Ok (record r { within = Quotes }) else in_plain r byte

abbrev pub in_quotes : NamesRead → ℕ → Result NamesRead Refusal
in_quotes r byte =
    if byte == 34 then Ok (record r { within = Closed })
    else (if byte == 10 then Err (bad_line r.line) else Ok (record r { text = r.text ++ byte ∷ [] }))

abbrev pub behind_quotes : NamesRead → ℕ → Result NamesRead Refusal
behind_quotes r byte =
    if byte == 34 then Ok (record r { text = r.text ++ byte ∷ []; within = Quotes })
    else (if byte == 44 then Ok (record r { within = Key }) else Err (bad_line r.line))

abbrev pub in_key : List (List ℕ) → NamesRead → ℕ → Result NamesRead Refusal
in_key keys r byte =
    if byte == 10 then end_line keys r
    else (if byte == 13 then Ok (record r { within = Return }) else Ok (record r { key = r.key ++ byte ∷ [] }))

-- behind a carriage return the line ends
abbrev pub behind_return : List (List ℕ) → NamesRead → ℕ → Result NamesRead Refusal
behind_return keys r byte = if byte == 10 then end_line keys r else Err (bad_line r.line)

-- one more byte
abbrev pub step : List (List ℕ) → NamesRead → ℕ → Result NamesRead Refusal
step keys r byte = elim r.within [
  | Start ↦ at_start r byte
  | Plain ↦ in_plain r byte
  | Quotes ↦ in_quotes r byte
  | Closed ↦ behind_quotes r byte
  | Key ↦ in_key keys r byte
  | Return ↦ behind_return keys r byte
]

-- the file may end behind a line's end, or in a key, which ends its line
abbrev pub finish : List (List ℕ) → NamesRead → Result (List Entry) Refusal
finish keys r = elim r.within [
  | Start ↦ Ok r.entries
  | Plain ↦ Err (bad_line r.line)
  | Quotes ↦ Err (bad_line r.line)
  | Closed ↦ Err (bad_line r.line)
  | Key ↦ on_ok (end_line keys r) (λ q. Ok q.entries)
  | Return ↦ on_ok (end_line keys r) (λ q. Ok q.entries)
]

abbrev pub names_from : List (List ℕ) → NamesRead → List ℕ → Result (List Entry) Refusal
names_from keys r [] = finish keys r
names_from keys r (byte ∷ bytes) = on_ok (step keys r byte) (λ q. names_from keys q bytes)

abbrev pub lines_of : List (List ℕ) → List ℕ → Result (List Entry) Refusal
lines_of keys text = names_from keys begun text

-- the entries of a file, by the declared keys; a byte order mark in front is no part of it
abbrev pub names_of : List (List ℕ) → List ℕ → Result (List Entry) Refusal
names_of keys text = lines_of keys (unmarked true text)

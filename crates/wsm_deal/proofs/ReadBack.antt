-- What is written for a part is read back as its rows.
use Rattle.std.proofs.Common.{◌≡◌, ◌==◌, ◌&&◌, ◌∷◌, ◌++◌, [], ℕ, List, Bool, Option, Some, None, true, false, refl, sym, ap, subst, ◌∙◌, append_assoc, inl, inr, filter}
use Rattle.std.proofs.lemmas.Bool.{cases_Bool}
use Rattle.std.specs.Prelude.{if◌then◌else◌, ⊤}
use Rattle.std.specs.List.{list_any}
use Rattle.csv.specs.Machine.{Read, ends_at_end, fields_after, field_after, is_end, next_record, step}
use Rattle.csv.specs.declared.parser.Action.{Action}
use Rattle.csv.specs.declared.parser.Action.TheVariants as act
use Rattle.csv.specs.declared.parser.Config.{Config}
use Rattle.csv.specs.declared.parser.State.{State}
use Rattle.csv.specs.declared.parser.State.TheVariants as st
use Rattle.csv.specs.Reading.{Reached, default_config, strip_bom}
use Rattle.csv.specs.Writing.{default_writer, field_text, fields_text, is_blank, needs_byte, read_back, row_text}
use Rattle.csv.proofs.RoundTrip.{read-write}
use Rattle.wsm_csv.specs.Records.{AreAll}
use Rattle.wsm_deal.specs.PartText.{has_mark, mark_bytes, part_text, rows_text}

-- ---- a row that is read has a cell

abbrev has_cell : List (List ℕ) → Bool
has_cell [] = false
has_cell (x ∷ xs) = true

abbrev HaveCells : List (List (List ℕ)) → Type 0
HaveCells [] = ⊤
HaveCells (row ∷ rows) = (has_cell row ≡ true) × HaveCells rows

cell_behind : (fields : List (List ℕ)) (field : List ℕ) → has_cell (fields ++ field ∷ []) ≡ true
cell_behind [] field = refl
cell_behind (f ∷ fs) field = refl

end_has : (a : Action) (fields : List (List ℕ)) (field : List ℕ) → is_end a ≡ true → has_cell (fields_after a fields field) ≡ true
end_has act.EndRecord fields field e = cell_behind fields field
end_has act.Skip fields field e = cc e
end_has act.Copy fields field e = cc e
end_has act.EndField fields field e = cc e

-- where a record is read, it has a cell
abbrev has_of : Option Read → Bool
has_of None = true
has_of (Some p) = has_cell p.0

record_has : (cfg : Config) (s : State) (fields : List (List ℕ)) (field bytes : List ℕ) → has_of (next_record cfg s fields field bytes) ≡ true
unfolding next_record
record_has cfg s fields field [] = elim (cases_Bool (ends_at_end s)) [
  | inl ends ↦ rw ends (cell_behind fields field)
  | inr goes_on ↦ rw goes_on refl
]
record_has cfg s fields field (c ∷ rest) = elim (cases_Bool (is_end (step cfg s c).1)) [
  | inl ends ↦ rw ends (end_has (step cfg s c).1 fields field ends)
  | inr goes_on ↦ rw goes_on (record_has cfg (step cfg s c).0 (fields_after (step cfg s c).1 fields field) (field_after (step cfg s c).1 c field) rest)
]

reached_have : (cfg : Config) (s : State) (bytes : List ℕ) (rows : List (List (List ℕ))) (s2 : State) (rest : List ℕ) → Reached cfg s bytes rows s2 rest → HaveCells rows
unfolding Reached
reached_have cfg s bytes [] s2 rest h = tt
reached_have cfg s bytes (row ∷ rows) s2 rest (p, reads, is, more) = (
  ap has_cell is ∙ ap has_of (sym reads) ∙ record_has cfg s [] [] bytes,
  reached_have cfg p.1 p.2 rows s2 rest more,
)

filtered_have : (t : List (List ℕ) → Bool) (rows : List (List (List ℕ))) → HaveCells rows → HaveCells (filter t rows)
filtered_have t [] h = tt
filtered_have t (row ∷ rows) h = elim (cases_Bool (t row)) [
  | inl is ↦ rw is (h.0, filtered_have t rows h.1)
  | inr not_is ↦ rw not_is (filtered_have t rows h.1)
]

-- ---- rows that have cells are read back

not_true : false ≡ true → ⊥
not_true e = cc e

same_back : (row : List (List ℕ)) → has_cell row ≡ true → read_back row ≡ row
same_back [] e = absurd (not_true e)
same_back (x ∷ xs) e = refl

rows_back : (rows : List (List (List ℕ))) → HaveCells rows → Reached default_config st.StartRecord (rows_text rows) rows st.StartRecord []
unfolding Reached rows_text
rows_back [] h = (refl, refl)
rows_back (row ∷ rows) h = (
  (read_back row, st.StartRecord, rows_text rows),
  read-write row (rows_text rows),
  sym (same_back row h.0),
  rows_back rows h.1,
)

no_more : next_record default_config st.StartRecord [] [] [] ≡ None
unfolding next_record
no_more = refl

-- ---- a text begins with a byte order mark only where one was put in front

unmarked : (text : List ℕ) → has_mark text ≡ false → strip_bom text ≡ text
unfolding strip_bom
unmarked [] e = refl
unmarked (a ∷ []) e = refl
unmarked (a ∷ b ∷ []) e = refl
unmarked (a ∷ b ∷ c ∷ rest) e = rw e refl

marked : (text : List ℕ) → strip_bom (mark_bytes ++ text) ≡ text
unfolding strip_bom
marked text = refl

no_second : (a c : Bool) → (a && false && c) ≡ false
no_second true c = refl
no_second false c = refl

no_third : (a b : Bool) → (a && b && false) ≡ false
no_third true true = refl
no_third true false = refl
no_third false b = refl

-- a byte that no byte order mark has
record IsApart (c : ℕ) : Type 0 where
  first : (c == 239) ≡ false
  second : (c == 187) ≡ false
  third : (c == 191) ≡ false

apart_first : (c : ℕ) (rest : List ℕ) → IsApart c → has_mark (c ∷ rest) ≡ false
apart_first c [] h = refl
apart_first c (a ∷ []) h = refl
apart_first c (a ∷ b ∷ rest) h = rw h.first refl

plain_unmarked : (cell : List ℕ) (c : ℕ) (rest : List ℕ) → IsApart c → has_mark cell ≡ false → has_mark (cell ++ c ∷ rest) ≡ false
plain_unmarked [] c rest h e = apart_first c rest h
plain_unmarked (a ∷ []) c [] h e = refl
plain_unmarked (a ∷ []) c (b ∷ rest) h e = rw h.second (no_second (a == 239) (b == 191))
plain_unmarked (a ∷ b ∷ []) c rest h e = rw h.third (no_third (a == 239) (b == 187))
plain_unmarked (a ∷ b ∷ d ∷ more) c rest h e = e

quote_apart : IsApart 34
quote_apart = record { first = refl; second = refl; third = refl }

cell_unmarked : (cell : List ℕ) (c : ℕ) (rest : List ℕ) → IsApart c → has_mark cell ≡ false → has_mark (field_text default_writer cell ++ c ∷ rest) ≡ false
cell_unmarked cell c rest h e = elim (cases_Bool (list_any (needs_byte default_writer) cell)) [
  | inl needs ↦ rw needs (apart_first 34 _ quote_apart)
  | inr plain ↦ rw plain (plain_unmarked cell c rest h e)
]

-- what stands behind the first cell begins with such a byte
abbrev Apart : List ℕ → Type 0
Apart text = (c : ℕ) × (rest : List ℕ) × (text ≡ c ∷ rest) × IsApart c

behind_cell : (cell : List ℕ) (cells : List (List ℕ)) (more : List ℕ) (blank : Bool) → Apart ((fields_text default_writer cells ++ ((if blank then 34 ∷ 34 ∷ [] else []) ++ 10 ∷ [])) ++ more)
unfolding fields_text
behind_cell cell [] more true = (34, 34 ∷ 10 ∷ more, refl, quote_apart)
behind_cell cell [] more false = (10, more, refl, record { first = refl; second = refl; third = refl })
behind_cell cell (next ∷ cells) more blank = (44, _, refl, record { first = refl; second = refl; third = refl })

row_unmarked : (cell : List ℕ) (cells : List (List ℕ)) (more : List ℕ) → has_mark cell ≡ false → has_mark (row_text default_writer (cell ∷ cells) ++ more) ≡ false
row_unmarked cell cells more e =
    let end = (if is_blank default_writer (cell ∷ cells) then 34 ∷ 34 ∷ [] else []) ++ 10 ∷ [] in
    let (c, rest, is, apart) = behind_cell cell cells more (is_blank default_writer (cell ∷ cells)) in
    let joined : row_text default_writer (cell ∷ cells) ++ more ≡ field_text default_writer cell ++ (c ∷ rest) =
    ap (λ (t : List ℕ). t ++ more) (append_assoc (field_text default_writer cell) (fields_text default_writer cells) end)
    ∙ append_assoc (field_text default_writer cell) (fields_text default_writer cells ++ end) more
    ∙ ap (λ (t : List ℕ). field_text default_writer cell ++ t) is in
    rw joined (cell_unmarked cell c rest apart e)

part_stripped : (rows : List (List (List ℕ))) → HaveCells rows → strip_bom (part_text rows) ≡ rows_text rows
unfolding rows_text strip_bom is_blank
part_stripped [] h = refl
part_stripped ([] ∷ rows) h = absurd (not_true h.0)
part_stripped ((cell ∷ cells) ∷ rows) h = elim (cases_Bool (has_mark cell)) [
  | inl is ↦ rw is (marked (row_text default_writer (cell ∷ cells) ++ rows_text rows))
  | inr not_is ↦ rw not_is (unmarked (row_text default_writer (cell ∷ cells) ++ rows_text rows) (row_unmarked cell cells (rows_text rows) not_is))
]

-- ---- so the text of a part is read as the rows of the whole that are dealt to it

pub part_read : (bytes : List ℕ) (t : List (List ℕ) → Bool) (rows : List (List (List ℕ))) → AreAll (Some bytes) rows → AreAll (Some (part_text (filter t rows))) (filter t rows)
part_read bytes t rows (s, rest, reached, none) =
    let have = filtered_have t rows (reached_have default_config st.StartRecord (strip_bom bytes) rows s rest reached) in (
      st.StartRecord,
      [],
      subst (λ (text : List ℕ). Reached default_config st.StartRecord text (filter t rows) st.StartRecord []) (sym (part_stripped (filter t rows) have)) (rows_back (filter t rows) have),
      no_more,
    )

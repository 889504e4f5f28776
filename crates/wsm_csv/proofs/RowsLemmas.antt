-- How the rows of a reader follow the bytes that it had, where those are known.
use Rattle.std.proofs.Common.{◌≡◌, ℕ, List, [], ◌∷◌, ◌++◌, Option, Some, None, true, false, refl, sym, inl, ◌∙◌, Bool}
use Rattle.std.specs.Bool.{MatchBool}
use Rattle.std.specs.Prelude.{option_map}
use Rattle.csv.specs.Reading.{ReadRecord, Reached, default_config, is_flexible, took_first, reader_config, reader_state, source_of, strip_bom}
use Rattle.csv.specs.declared.reader.Reader.{Reader}
use Rattle.csv.specs.declared.parser.State.TheVariants as st
use Rattle.csv.proofs.ReadFacts.{rows-end, rows-more}
use Rattle.wsm_csv.specs.Records.{AreAll, AreFirst}
use Rattle.wsm_csv.specs.Rows.{Follows, HasRest, cells_of}
use Rattle.wsm_csv.specs.declared.rows.Rows.{Rows}

pub HasRest-start : {R : Type 0} (remaining : R → Option (List ℕ)) (known : Option (List ℕ)) (r : Reader R) → reader_state r ≡ st.StartRecord → source_of remaining r ≡ option_map strip_bom known → HasRest remaining known [] r
unfolding Reached
HasRest-start remaining None r e h = tt
HasRest-start remaining (Some bytes) r e h = (strip_bom bytes, h, (sym e, refl))

-- one more row
pub HasRest-more : {R : Type 0} (remaining : R → Option (List ℕ)) (known : Option (List ℕ)) (rows : List (List (List ℕ))) (a b : Reader R) (row : List (List ℕ)) → reader_config a ≡ default_config → HasRest remaining known rows a → ReadRecord remaining a b true row → HasRest remaining known (rows ++ row ∷ []) b
HasRest-more remaining None rows a b row e h r = tt
HasRest-more remaining (Some bytes) rows a b row e h r = rows-more remaining a b row default_config st.StartRecord (strip_bom bytes) h.0 rows e h.1 h.2 r

pub HasRest-first : {R : Type 0} (remaining : R → Option (List ℕ)) (known : Option (List ℕ)) (rows : List (List (List ℕ))) (a : Reader R) → HasRest remaining known rows a → AreFirst known rows
HasRest-first remaining None rows a h = tt
HasRest-first remaining (Some bytes) rows a h = (reader_state a, h.0, h.2)

-- no further row
pub HasRest-all : {R : Type 0} (remaining : R → Option (List ℕ)) (known : Option (List ℕ)) (rows : List (List (List ℕ))) (a b : Reader R) (row : List (List ℕ)) → reader_config a ≡ default_config → HasRest remaining known rows a → ReadRecord remaining a b false row → AreAll known rows
HasRest-all remaining None rows a b row e h r = tt
HasRest-all remaining (Some bytes) rows a b row e h r = (reader_state a, h.0, h.2, rows-end remaining a b row default_config h.0 e h.1 r)

-- the rows read so far are a beginning of all
pub Follows-first : {R : Type 0} (remaining : R → Option (List ℕ)) (known : Option (List ℕ)) (rows : List (List (List ℕ))) (r : Rows R) → Follows remaining known rows r → AreFirst known rows
Follows-first remaining known rows r h = HasRest-first remaining known rows r.reader h.rest

-- one more read: a row, or the end of all
pub Follows-read : {R : Type 0} (remaining : R → Option (List ℕ)) (known : Option (List ℕ)) (rows : List (List (List ℕ))) (a b : Rows R) (found : Bool)
    → Follows remaining known rows a → ReadRecord remaining a.reader b.reader found (cells_of b) → took_first b.reader ≡ true → is_flexible b.reader ≡ is_flexible a.reader
    → MatchBool found (Follows remaining known (rows ++ cells_of b ∷ []) b) (AreAll known rows)
Follows-read remaining known rows a b true h read first flexible = record {
  plain = read.3 ∙ h.plain;
  flexible = flexible ∙ h.flexible;
  config = read.2 ∙ h.config;
  ready = inl first;
  rest = HasRest-more remaining known rows a.reader b.reader (cells_of b) h.config h.rest read;
}
Follows-read remaining known rows a b false h read first flexible = HasRest-all remaining known rows a.reader b.reader (cells_of b) h.config h.rest read

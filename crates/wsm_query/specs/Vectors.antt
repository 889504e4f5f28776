-- Texts with their trees, or their first faults, computed by the definitions.
use Rattle.std.specs.Prelude.{◌≡◌, refl, ℕ, zero, suc, true, false, List, [], ◌∷◌, ◌++◌, replicate, map, pos, Some, None, Result, Ok, Err, codes}
use Rattle.std.specs.Fmt.{digits}
use Rattle.wsm_record.specs.Name.{is_reserved}
use Rattle.wsm_record.specs.declared.words.Kind.TheVariants.{Sum}
use Rattle.wsm_record.specs.declared.words.Mode.TheVariants.{Accumulating, Retracting}
use Rattle.wsm_record.specs.declared.words.Form.TheVariants.{Panes}
use Rattle.wsm_windows.specs.declared.window.Shape.TheVariants.{Fixed}
use Rattle.wsm_tokens.specs.declared.fault.Fault.{Fault}
use Rattle.wsm_tokens.specs.declared.fault.Fault.TheVariants.{BadCharacter, Unexpected, NumberTooLarge, TooDeep}
use Rattle.wsm_tokens.specs.declared.fault.ParseRefusal.{ParseRefusal}
use Rattle.wsm_tokens.specs.declared.fault.ParseRefusal.TheVariants as refusals
use Rattle.wsm_tokens.specs.Position.{position_of}
use Rattle.wsm_tokens.specs.Tokens.{tokens, tokens_from, first_of, sign_of}
use Rattle.wsm_tokens.specs.Read.{unexpected, too_deep, begins, begins_number, is_end, behind, count, ask, number, name, ended}
use Rattle.wsm_interval.specs.declared.Arithmetic.TheVariants.{Sub, Div}
use Rattle.wsm_interval.specs.declared.Comparison.TheVariants.{Ne, Gt}
use Rattle.wsm_query.specs.declared.expr.Op.TheVariants.{Compute, Compare}
use Rattle.wsm_record.specs.Schema as field_types
use Rattle.wsm_query.specs.Tree.{Query, Number, Field, Count, Aggregate, Brackets, Binary, And}
use Rattle.wsm_query.specs.Grammar.{brace, list_of, aggregate, count_of, choice, brackets, pointed, leaf, atom, unary, chain, chained, prod, sum, cmp, neg, conj, expr_in, levels, expr, int, names, type_of, field, sources, from_window, budget, clock, selection, output, shape, mode, form, every, query}
use Rattle.wsm_query.specs.Parse.{parse, query_text}
use Rattle.wsm_tokens.specs.Written.{written}
use Rattle.wsm_query.specs.Print.{print}

-- the base query with other parts
abbrev head : List ℕ
head = codes "KEYS a, b;\nFIELD n INT 0..100;\nSTART 0; SKEW 100; LATENESS 10; RECORDS 1000;\nSELECT "

abbrev tail : List ℕ
tail = codes "\nWINDOW FIXED 60 ACCUMULATING\nEMIT PANES;\n"

abbrev selecting : List ℕ → List ℕ
selecting columns = head ++ columns ++ tail

abbrev base : Query
base = record {
  keys = codes "a" ∷ codes "b" ∷ [];
  fields = record { name = codes "n"; type = field_types.Int (pos 0) (pos 100) } ∷ [];
  sources = [];
  clock = record { start = pos 0; skew = pos 100; lateness = pos 10; from_window = false; records = pos 1000 };
  budget = None;
  columns = Count ∷ Aggregate Sum (Field (codes "n")) ∷ [];
  condition = None;
  having = None;
  output = record { shape = Fixed (pos 60); mode = Accumulating; early = None; late = None; form = Panes };
}

-- what a text comes to
pub data Answer : Type 0 where
  Unread : (fault : Fault) → (line : ℕ) → (column : ℕ) → Answer
  Taken : Answer

abbrev of_read : Result Query ParseRefusal → Answer
of_read (Ok q) = Taken
of_read (Err (refusals.Text fault at)) = Unread fault at.line at.column
of_read (Err refusals.Memory) = Taken

abbrev answer : List ℕ → Answer
answer text = of_read (parse text)

-- n times the bytes
abbrev times : ℕ → List ℕ → List ℕ
times zero bytes = []
times (suc n) bytes = bytes ++ times n bytes

-- `n <> 0 AND 10 / n > 1`
abbrev guarded : Query
guarded = record base { condition = Some (And (Binary (Compare Ne) (Field (codes "n")) (Number (pos 0))) (Binary (Compare Gt) (Binary (Compute Div) (Number (pos 10)) (Field (codes "n"))) (Number (pos 1)))) }

-- columns of the base query, and its tree with them
abbrev trees : List (List ℕ × Result Query ParseRefusal)
trees =
    (codes "COUNT(*), SUM(n)", Ok base)
    ∷ (codes "COUNT(*), SUM(n) WHERE n <> 0 AND 10 / n > 1", Ok guarded)
    ∷ (codes "7 - 2 - 1", Ok (record base { columns = Binary (Compute Sub) (Binary (Compute Sub) (Number (pos 7)) (Number (pos 2))) (Number (pos 1)) ∷ [] }))
    ∷ (codes "7-(2-1)", Ok (record base { columns = Binary (Compute Sub) (Number (pos 7)) (Brackets (Binary (Compute Sub) (Number (pos 2)) (Number (pos 1)))) ∷ [] }))
    ∷ []

trees_read : map (λ t. (t.0, parse (selecting t.0))) trees ≡ trees
unfolding parse query_text tokens tokens_from first_of sign_of position_of is_reserved unexpected too_deep begins begins_number is_end behind count ask number name ended brace list_of aggregate count_of choice brackets pointed leaf atom unary chain chained prod sum cmp neg conj expr_in levels expr int names type_of field sources from_window budget clock selection output shape mode form every query
trees_read = refl

-- the base query with each of sources, lateness from a window's end and retracting panes, and with all, as it is printed
abbrev printed : List (List ℕ × Result Query ParseRefusal)
printed =
    (codes "KEYS a , b ; FIELD n INT 0 .. 100 ; SOURCES x ; START 0 ; SKEW 100 ; LATENESS 10 ; RECORDS 1000 ; SELECT COUNT ( * ) , SUM ( n ) WINDOW FIXED 60 ACCUMULATING EMIT PANES ;", Ok (record base { sources = codes "x" ∷ [] }))
    ∷ (codes "KEYS a , b ; FIELD n INT 0 .. 100 ; START 0 ; SKEW 100 ; LATENESS 10 FROM WINDOW ; RECORDS 1000 ; SELECT COUNT ( * ) , SUM ( n ) WINDOW FIXED 60 ACCUMULATING EMIT PANES ;", Ok (record base { clock = record base.clock { from_window = true } }))
    ∷ (codes "KEYS a , b ; FIELD n INT 0 .. 100 ; START 0 ; SKEW 100 ; LATENESS 10 ; RECORDS 1000 ; SELECT COUNT ( * ) , SUM ( n ) WINDOW FIXED 60 RETRACTING EMIT PANES ;", Ok (record base { output = record base.output { mode = Retracting } }))
    ∷ (codes "KEYS a , b ; FIELD n INT 0 .. 100 ; SOURCES x , y ; START 0 ; SKEW 100 ; LATENESS 10 FROM WINDOW ; RECORDS 1000 ; SELECT COUNT ( * ) , SUM ( n ) WINDOW FIXED 60 RETRACTING EMIT PANES ;", Ok (record base { sources = codes "x" ∷ codes "y" ∷ []; clock = record base.clock { from_window = true }; output = record base.output { mode = Retracting } }))
    ∷ []

printed_read : map (λ t. (t.0, parse t.0)) printed ≡ printed
unfolding parse query_text tokens tokens_from first_of sign_of position_of is_reserved unexpected too_deep begins begins_number is_end behind count ask number name ended brace list_of aggregate count_of choice brackets pointed leaf atom unary chain chained prod sum cmp neg conj expr_in levels expr int names type_of field sources from_window budget clock selection output shape mode form every query
printed_read = refl

-- the text of what was read
abbrev again : Result Query ParseRefusal → List ℕ
again (Ok q) = print q
again (Err refusal) = []

read_printed : map (λ t. (again t.1, t.1)) printed ≡ printed
unfolding print written digits
read_printed = refl

-- a text, and what it comes to
pub data Told : Type 0 where
  Says : (text : List ℕ) → (answer : Answer) → Told

-- columns of the base query, answered anew
abbrev columns_told : Told → Told
columns_told (Says columns _) = Says columns (answer (selecting columns))

-- a whole text, answered anew
abbrev text_told : Told → Told
text_told (Says text _) = Says text (answer text)

-- texts beside their neighbours

abbrev operators : List Told
operators =
    Says (codes "7 - 2 - 1") Taken
    ∷ Says (codes "7 - 2 -") (Unread Unexpected 5 1)
    ∷ Says (codes "n <> 0 AND 10 / n > 1") Taken
    ∷ Says (codes "n <> 0 AND AND 1") (Unread Unexpected 4 19)
    ∷ Says (codes "1 <= 2") Taken
    ∷ Says (codes "1 < = 2") (Unread Unexpected 4 12)
    ∷ Says (codes "1 >= 2") Taken
    ∷ Says (codes "1 > = 2") (Unread Unexpected 4 12)
    ∷ Says (codes "1 <> 2") Taken
    ∷ Says (codes "1 < > 2") (Unread Unexpected 4 12)
    ∷ Says (codes "(1 < 2) = TRUE") Taken
    ∷ Says (codes "1 < 2 < 3") (Unread Unexpected 4 14)
    ∷ []

abbrev words : List Told
words =
    Says (codes "KEY = KEY.a") Taken
    ∷ Says (codes "KEY = KEY.1") (Unread Unexpected 4 18)
    ∷ Says (codes "color.red") Taken
    ∷ Says (codes "color.RECORD") (Unread Unexpected 4 14)
    ∷ Says (codes "color..red") (Unread Unexpected 4 13)
    ∷ Says (codes "records") Taken
    ∷ Says (codes "RECORDS") (Unread Unexpected 4 8)
    ∷ Says (codes "FROM") (Unread Unexpected 4 8)
    ∷ []

abbrev atoms : List Told
atoms =
    Says (codes "COUNT(*), SUM(n)") Taken
    ∷ Says (codes "COUNT(*) SUM(n)") (Unread Unexpected 4 17)
    ∷ Says (codes "IF n > 1 THEN 1 ELSE 2 END") Taken
    ∷ Says (codes "IF n > 1 THEN 1 END") (Unread Unexpected 4 24)
    ∷ Says (codes "MIN(n) + MAX(n)") Taken
    ∷ Says (codes "MIN n") (Unread Unexpected 4 12)
    ∷ Says (codes "ANY(TRUE) OR ALL(FALSE)") Taken
    ∷ Says (codes "ANY()") (Unread Unexpected 4 12)
    ∷ Says (codes "COUNT(*) * 2 / 3 % 4") Taken
    ∷ Says (codes "COUNT(n)") (Unread Unexpected 4 14)
    ∷ Says (codes "COUNT(*) ! 1") (Unread BadCharacter 4 17)
    ∷ []

abbrev numbers : List Told
numbers =
    Says (codes "5x") (Unread Unexpected 4 9)
    ∷ Says (codes "1.5") (Unread Unexpected 4 9)
    ∷ Says (codes "9223372036854775807") Taken
    ∷ Says (codes "9223372036854775808") (Unread NumberTooLarge 4 8)
    ∷ Says (codes "0009223372036854775807") Taken
    ∷ []

abbrev conditions : List Told
conditions =
    Says (codes "1 WHERE n > 1 HAVING COUNT(*) > 1") Taken
    ∷ Says (codes "1 HAVING COUNT(*) > 1 WHERE n > 1") (Unread Unexpected 4 30)
    ∷ []

-- brackets, aggregates, COUNT, `-` and IF open a level each, at their own token, whatever follows it
abbrev levels_open : List Told
levels_open =
    Says (replicate 24 40 ++ codes "1" ++ replicate 24 41) Taken
    ∷ Says (replicate 25 40 ++ codes "@") (Unread TooDeep 4 32)
    ∷ Says (replicate 24 40 ++ codes "COUNT;") (Unread TooDeep 4 32)
    ∷ Says (replicate 23 40 ++ codes "- - 1") (Unread TooDeep 4 33)
    ∷ Says (times 24 (codes "IF ") ++ codes "TRUE" ++ times 24 (codes " THEN 1 ELSE 2 END")) Taken
    ∷ Says (times 25 (codes "IF ") ++ codes "TRUE") (Unread TooDeep 4 80)
    ∷ []

-- `+` and `-` are one chain, and so are `*` and `/`
abbrev chains : List Told
chains =
    Says (codes "1" ++ times 32 (codes " + 1 - 1")) Taken
    ∷ Says (codes "1" ++ times 32 (codes "+1-1") ++ codes "+ @") (Unread TooDeep 4 137)
    ∷ Says (codes "1" ++ times 64 (codes "*1") ++ codes "/ @") (Unread TooDeep 4 137)
    ∷ Says (codes "1" ++ times 64 (codes "*1") ++ codes "+1" ++ times 64 (codes "*1")) Taken
    ∷ []

abbrev all_columns : List Told
all_columns = operators ++ words ++ atoms ++ numbers ++ conditions ++ levels_open ++ chains

columns_answered : map columns_told all_columns ≡ all_columns
unfolding parse query_text tokens tokens_from first_of sign_of position_of is_reserved unexpected too_deep begins begins_number is_end behind count ask number name ended brace list_of aggregate count_of choice brackets pointed leaf atom unary chain chained prod sum cmp neg conj expr_in levels expr int names type_of field sources from_window budget clock selection output shape mode form every query
columns_answered = refl

-- the end is just past the last byte, blanks too; the 33rd byte of a word is no byte of it, also where no word would be taken
abbrev texts : List Told
texts =
    Says [] (Unread Unexpected 1 1)
    ∷ Says (codes "KEYS a b;") (Unread Unexpected 1 8)
    ∷ Says (codes "KEYS a;\n") (Unread Unexpected 2 1)
    ∷ Says (codes "KEYS " ++ replicate 32 97) (Unread Unexpected 1 38)
    ∷ Says (codes "KEYS " ++ replicate 33 97) (Unread BadCharacter 1 38)
    ∷ Says (codes "KEYS a " ++ replicate 33 97) (Unread BadCharacter 1 40)
    ∷ Says (selecting (codes "1") ++ codes ";") (Unread Unexpected 7 1)
    ∷ Says (codes "KEYS a;  " ++ 9 ∷ 32 ∷ []) (Unread Unexpected 1 12)
    ∷ Says (codes "KEYS " ++ 195 ∷ 169 ∷ codes ";") (Unread BadCharacter 1 6)
    ∷ Says (codes "KEYS a_1; " ++ 34 ∷ []) (Unread BadCharacter 1 11)
    ∷ Says (codes "keys a;") (Unread Unexpected 1 1)
    ∷ Says (codes "KEYS _a;") (Unread BadCharacter 1 6)
    ∷ Says (codes "KEYS a, KEY;") (Unread Unexpected 1 9)
    ∷ Says (codes "KEYS a;" ++ 10 ∷ 10 ∷ codes "  @") (Unread BadCharacter 3 3)
    ∷ Says (codes "KEYS a; FIELD n INT -2..-1; FIELD c ENUM(x, y); FIELD b BOOL; START 0; SKEW 0; LATENESS 0; RECORDS 1; BUDGET RECORD 1 PANE 2 HELD 3; SELECT 1 WINDOW SLIDING 6 EVERY 2 DISCARDING EARLY EVERY 1 LATE EVERY 2 EMIT RSTREAM;") Taken
    ∷ Says (codes "KEYS a; FIELD n INT -2.-1; START 0;") (Unread Unexpected 1 23)
    ∷ Says (codes "KEYS a; FIELD c ENUM(); START 0;") (Unread Unexpected 1 22)
    ∷ Says (codes "KEYS a; FIELD b BOOL START 0;") (Unread Unexpected 1 22)
    ∷ Says (codes "KEYS a; START 0; SKEW 0; LATENESS 0; RECORDS 1; BUDGET RECORD 1 HELD 3;") (Unread Unexpected 1 65)
    ∷ Says (codes "KEYS a; START 0; SKEW 0; LATENESS 0; RECORDS 1; SELECT 1 WINDOW SESSION 6 ACCUMULATING EMIT PANES;") Taken
    ∷ Says (codes "KEYS a; START 0; SKEW 0; LATENESS 0; RECORDS 1; SELECT 1 WINDOW SESSION 6 RETRACTING EMIT PANES;") Taken
    ∷ Says (codes "KEYS a; START 0; SKEW 0; LATENESS 0; RECORDS 1; SELECT 1 WINDOW FIXED 6 RETRACTING ACCUMULATING EMIT PANES;") (Unread Unexpected 1 84)
    ∷ Says (codes "KEYS a; START 0; SKEW 0; LATENESS 0; RECORDS 1; SELECT 1 WINDOW FIXED 6 EMIT PANES;") (Unread Unexpected 1 73)
    ∷ Says (codes "KEYS a; START 0; SKEW 0; LATENESS 10 FROM WINDOW; RECORDS 1; SELECT 1 WINDOW FIXED 6 ACCUMULATING EMIT PANES;") Taken
    ∷ Says (codes "KEYS a; START 0; SKEW 0; LATENESS 10 FROM;") (Unread Unexpected 1 42)
    ∷ Says (codes "KEYS a; START 0; SKEW 0; LATENESS 10 WINDOW;") (Unread Unexpected 1 38)
    ∷ Says (codes "KEYS a; START 0; SKEW 0; LATENESS FROM WINDOW;") (Unread Unexpected 1 35)
    ∷ Says (codes "KEYS a; START 0; SKEW 0; LATENESS 10 FROM WINDOW FROM WINDOW;") (Unread Unexpected 1 50)
    ∷ Says (codes "KEYS a; START 0; SKEW 0; LATENESS 10 FROM @") (Unread BadCharacter 1 43)
    ∷ Says (codes "KEYS a; SOURCES x, y; START 0; SKEW 0; LATENESS 0; RECORDS 1; SELECT 1 WINDOW FIXED 6 ACCUMULATING EMIT PANES;") Taken
    ∷ Says (codes "KEYS a; SOURCES ;") (Unread Unexpected 1 17)
    ∷ Says (codes "KEYS a; SOURCES x, ;") (Unread Unexpected 1 20)
    ∷ Says (codes "KEYS a; SOURCES x y;") (Unread Unexpected 1 19)
    ∷ Says (codes "KEYS a; SOURCES x; SOURCES y;") (Unread Unexpected 1 20)
    ∷ Says (codes "KEYS a; SOURCES x; FIELD n BOOL;") (Unread Unexpected 1 20)
    ∷ Says (codes "KEYS a; START 0; SOURCES x;") (Unread Unexpected 1 18)
    ∷ Says (codes "KEYS a; SOURCES FROM;") (Unread Unexpected 1 17)
    ∷ Says (codes "KEYS a; START 0; SKEW 0; LATENESS 0; RECORDS 1; SELECT 1 WINDOW FIXED 6 ACCUMULATING LATE EVERY 1 EARLY EVERY 1 EMIT PANES;") (Unread Unexpected 1 99)
    ∷ Says (codes "KEYS a; START 0; SKEW 0; LATENESS 0; RECORDS 1; SELECT 1 WINDOW FIXED 6 ACCUMULATING EMIT ISTREAM; ;") (Unread Unexpected 1 100)
    ∷ []

texts_answered : map text_told texts ≡ texts
unfolding parse query_text tokens tokens_from first_of sign_of position_of is_reserved unexpected too_deep begins begins_number is_end behind count ask number name ended brace list_of aggregate count_of choice brackets pointed leaf atom unary chain chained prod sum cmp neg conj expr_in levels expr int names type_of field sources from_window budget clock selection output shape mode form every query
texts_answered = refl

-- Whole runs, computed by the definitions: which query a text says, and the bytes that it writes for the bytes of its rows.
-- What is written was computed by `trials/reference.py`, of these texts.
use Rattle.std.specs.Prelude.{◌≡◌, refl, ℕ, List, [], ◌∷◌, ◌++◌, pos, negsuc, Some, None, codes, false, true}
use Rattle.std.specs.Fmt.{digits}
use Rattle.csv.specs.Machine.{next_record}
use Rattle.csv.specs.Reading.{default_config, records_from, strip_bom}
use Rattle.csv.specs.declared.parser.State.TheVariants as st
use Rattle.wsm_record.specs.Name.{is_reserved}
use Rattle.wsm_record.specs.Schema.{Int, Truth, Enum}
use Rattle.wsm_record.specs.declared.words.Form.{Form}
use Rattle.wsm_record.specs.declared.words.Form.TheVariants.{Panes, Istream, Dstream, Rstream}
use Rattle.wsm_record.specs.declared.words.Kind.TheVariants.{Sum, Min, Max, Any, All}
use Rattle.wsm_record.specs.declared.words.Mode.TheVariants.{Accumulating, Retracting}
use Rattle.wsm_windows.specs.declared.window.Shape.TheVariants.{Sliding, Session}
use Rattle.wsm_interval.specs.declared.Arithmetic.TheVariants.{Sub, Mul, Div, Rem}
use Rattle.wsm_interval.specs.declared.Comparison.TheVariants.{Eq, Ne, Lt, Le, Gt, Ge}
use Rattle.wsm_tokens.specs.Tokens.{tokens, tokens_from, first_of, sign_of}
use Rattle.wsm_query.specs.declared.expr.Op.TheVariants.{Compute, Compare}
use Rattle.wsm_query.specs.Tree.{Query, Expr, Number, Field, EnumName, Key, KeyName, Count, Aggregate, If, Brackets, Minus, Not, Binary, And, Or}
use Rattle.wsm_compiler.specs.Means.{meant}
use Rattle.wsm_inputs.specs.TextOf.{IsTextOf, plain}
use Rattle.wsm.specs.Written.{Cells, input_text}

-- the cells of at most 50 rows
abbrev cells_of : List ℕ → List Cells
cells_of bytes = records_from default_config 50 st.StartRecord (strip_bom bytes)

abbrev written : Query → List ℕ → List ℕ
written q bytes = input_text (meant q) (cells_of bytes)

abbrev n : Expr
n = Field (codes "n")

abbrev number : ℕ → Expr
number k = Number (pos k)

-- ---- sliding windows that retract, with two sources, every kind of column, and a row for each refusal

abbrev bill_text : List ℕ
bill_text =
    codes "KEYS a, z;\n"
    ++ codes "FIELD n INT -5..100; FIELD ok BOOL; FIELD c ENUM(red, blue);\n"
    ++ codes "SOURCES x, y;\n"
    ++ codes "START 0; SKEW 100; LATENESS 10; RECORDS 7;\n"
    ++ codes "SELECT KEY, COUNT(*), SUM(n * 2 - 1), MAX(n) >= 7, ALL(ok), IF ANY(c = c.blue) THEN c.blue ELSE c.red END\n"
    ++ codes "WHERE n <> 3 AND NOT (n < 0 OR n > 90) OR KEY = KEY.z\n"
    ++ codes "HAVING COUNT(*) > 1 OR MIN(n) <= -5 % 3\n"
    ++ codes "WINDOW SLIDING 60 EVERY 30 RETRACTING LATE EVERY 2\n"
    ++ codes "EMIT PANES;\n"

abbrev color : List ℕ → Expr
color name = EnumName (codes "c") name

abbrev bill : Query
bill = record {
  keys = codes "a" ∷ codes "z" ∷ [];
  fields = record { name = codes "n"; type = Int (negsuc 4) (pos 100) }
      ∷ record { name = codes "ok"; type = Truth }
      ∷ record { name = codes "c"; type = Enum (codes "red" ∷ codes "blue" ∷ []) }
      ∷ [];
  sources = codes "x" ∷ codes "y" ∷ [];
  clock = record { start = pos 0; skew = pos 100; lateness = pos 10; from_window = false; records = pos 7 };
  budget = None;
  columns = Key
      ∷ Count
      ∷ Aggregate Sum (Binary (Compute Sub) (Binary (Compute Mul) n (number 2)) (number 1))
      ∷ Binary (Compare Ge) (Aggregate Max n) (number 7)
      ∷ Aggregate All (Field (codes "ok"))
      ∷ If (Aggregate Any (Binary (Compare Eq) (Field (codes "c")) (color (codes "blue")))) (color (codes "blue")) (color (codes "red"))
      ∷ [];
  condition = Some (Or
      (And (Binary (Compare Ne) n (number 3)) (Not (Brackets (Or (Binary (Compare Lt) n (number 0)) (Binary (Compare Gt) n (number 90))))))
      (Binary (Compare Eq) Key (KeyName (codes "z"))));
  having = Some (Or
      (Binary (Compare Gt) Count (number 1))
      (Binary (Compare Le) (Aggregate Min n) (Binary (Compute Rem) (Minus (number 5)) (number 3))));
  output = record { shape = Sliding (pos 60) (pos 30); mode = Retracting; early = None; late = Some (pos 2); form = Panes };
}

bill_said : IsTextOf bill_text bill
unfolding plain tokens tokens_from first_of sign_of is_reserved
bill_said = record { tokens = refl; told = refl }

abbrev bill_rows : List ℕ
bill_rows =
    codes "r,a,0,7,true,red\n"
    ++ codes "r,a,29,3,true,blue\n"
    ++ codes "r,z,31,-5,true,blue\n"
    ++ codes "r,a,30,0,false,blue\n"
    ++ codes "w,x,60\n"
    ++ codes "w,y,59\n"
    ++ codes "w,y,60\n"
    ++ codes "r,a,49,1,true,red\n"
    ++ codes "r,z,50,100,true,red\n"
    ++ codes "r,q,50,101,true,red\n"
    ++ codes "r,a,50,101,true,red\n"
    ++ codes "r,a,50,-6,true,red\n"
    ++ codes "r,a,160,8,true,red\n"
    ++ codes "r,a,161,8,true,red\n"
    ++ codes "r,z,55,9,true,red\n"
    ++ codes "r,z,56,9,false,blue\n"
    ++ codes "r,z,57,9,true,blue\n"
    ++ codes "r,z,58,9,true,blue\n"
    ++ codes "w,x,80\n"
    ++ codes "w,x,70\n"
    ++ codes "w,y,90\n"
    ++ codes "r,a,65,8,true,red\n"
    ++ codes "r,a,-1,8,true,red\n"
    ++ codes "r,a,5,8,yes,red\n"
    ++ codes "r,a,5,8x,true,red\n"
    ++ codes "r,a,5,8,true\n"
    ++ codes "q,a\n"
    ++ codes "w,v,95\n"
    ++ codes "w,y,90\n"
    ++ codes "w,x,100\n"

abbrev bill_lines : List ℕ
bill_lines =
    codes "pane,on_time,a,0,60,a,2,12,true,false,blue\n"
    ++ codes "pane,on_time,z,0,60,z,1,-11,false,true,blue\n"
    ++ codes "refused,10,UnknownKey\n"
    ++ codes "refused,11,FieldRange\n"
    ++ codes "refused,12,FieldRange\n"
    ++ codes "refused,14,TooFarAhead\n"
    ++ codes "retract,z,0,60,z,1,-11,false,true,blue\n"
    ++ codes "pane,late,z,0,60,z,3,205,true,true,blue\n"
    ++ codes "refused,16,RecordLimit\n"
    ++ codes "refused,17,RecordLimit\n"
    ++ codes "refused,18,RecordLimit\n"
    ++ codes "refused,20,NotRising\n"
    ++ codes "refused,23,TimeRange\n"
    ++ codes "refused,24,BadName\n"
    ++ codes "refused,25,BadNumber\n"
    ++ codes "refused,26,CellCount\n"
    ++ codes "refused,27,BadTag\n"
    ++ codes "refused,28,UnknownSource\n"
    ++ codes "refused,29,NotRising\n"
    ++ codes "pane,on_time,z,30,90,z,3,205,true,true,blue\n"
    ++ codes "end,30,7,2,15,6\n"

bill_written : written bill bill_rows ≡ bill_lines
unfolding records_from next_record strip_bom input_text digits
bill_written = refl

-- ---- sessions of two keys that are joined, in each form

abbrev visits : Form → Query
visits form = record {
  keys = codes "a" ∷ codes "b" ∷ [];
  fields = record { name = codes "n"; type = Int (pos 0) (pos 9) } ∷ record { name = codes "c"; type = Enum (codes "red" ∷ codes "blue" ∷ []) } ∷ [];
  sources = [];
  clock = record { start = pos 0; skew = pos 100; lateness = pos 100; from_window = false; records = pos 1000 };
  budget = None;
  columns = Aggregate Any (Binary (Compare Gt) n (number 5))
      ∷ If (Binary (Compare Eq) (Binary (Compute Div) (Aggregate Min n) (number 2)) (number 2)) (color (codes "red")) (color (codes "blue"))
      ∷ Aggregate Sum (Minus n)
      ∷ Key
      ∷ [];
  condition = None;
  having = None;
  output = record { shape = Session (pos 30); mode = Accumulating; early = Some (pos 2); late = None; form = form };
}

abbrev visit_text : List ℕ
visit_text =
    codes "KEYS a, b;\n"
    ++ codes "FIELD n INT 0..9; FIELD c ENUM(red, blue);\n"
    ++ codes "START 0; SKEW 100; LATENESS 100; RECORDS 1000;\n"
    ++ codes "SELECT ANY(n > 5), IF MIN(n) / 2 = 2 THEN c.red ELSE c.blue END, SUM(-n), KEY\n"
    ++ codes "WINDOW SESSION 30 ACCUMULATING EARLY EVERY 2\n"
    ++ codes "EMIT DSTREAM;\n"

visits_said : IsTextOf visit_text (visits Dstream)
unfolding plain tokens tokens_from first_of sign_of is_reserved
visits_said = record { tokens = refl; told = refl }

abbrev visit_rows : List ℕ
visit_rows =
    codes "r,a,5,5,red\n"
    ++ codes "r,b,1,9,blue\n"
    ++ codes "r,b,24,4,red\n"
    ++ codes "r,a,40,0,blue\n"
    ++ codes "w,20\n"
    ++ codes "w,70\n"
    ++ codes "r,a,20,4,red\n"
    ++ codes "w,80\n"
    ++ codes "r,b,99,9,red\n"
    ++ codes "w,170\n"
    ++ codes "w,300\n"

abbrev panes_lines : List ℕ
panes_lines =
    codes "pane,early,b,1,54,true,red,-13,b\n"
    ++ codes "pane,on_time,a,5,35,false,red,-5,a\n"
    ++ codes "pane,on_time,b,1,54,true,red,-13,b\n"
    ++ codes "pane,on_time,a,40,70,false,blue,0,a\n"
    ++ codes "pane,final,a,5,70,false,blue,-9,a\n"
    ++ codes "pane,on_time,b,99,129,true,blue,-9,b\n"
    ++ codes "end,11,6,0,0,6\n"

panes_written : written (visits Panes) visit_rows ≡ panes_lines
unfolding records_from next_record strip_bom input_text digits
panes_written = refl

abbrev gained_lines : List ℕ
gained_lines =
    codes "istream,20,true,red,-13,b\n"
    ++ codes "istream,70,false,red,-5,a\n"
    ++ codes "istream,70,false,blue,0,a\n"
    ++ codes "istream,170,false,blue,-9,a\n"
    ++ codes "istream,170,true,blue,-9,b\n"
    ++ codes "end,11,6,0,0,6\n"

gained_written : written (visits Istream) visit_rows ≡ gained_lines
unfolding records_from next_record strip_bom input_text digits
gained_written = refl

abbrev lost_lines : List ℕ
lost_lines =
    codes "dstream,80,false,red,-5,a\n"
    ++ codes "dstream,80,false,blue,0,a\n"
    ++ codes "dstream,300,false,blue,-9,a\n"
    ++ codes "dstream,300,true,red,-13,b\n"
    ++ codes "end,11,6,0,0,6\n"

lost_written : written (visits Dstream) visit_rows ≡ lost_lines
unfolding records_from next_record strip_bom input_text digits
lost_written = refl

abbrev whole_bags_lines : List ℕ
whole_bags_lines =
    codes "rstream,20,true,red,-13,b\n"
    ++ codes "rstream,70,false,red,-5,a\n"
    ++ codes "rstream,70,false,blue,0,a\n"
    ++ codes "rstream,70,true,red,-13,b\n"
    ++ codes "rstream,80,true,red,-13,b\n"
    ++ codes "rstream,170,false,blue,-9,a\n"
    ++ codes "rstream,170,true,red,-13,b\n"
    ++ codes "rstream,170,true,blue,-9,b\n"
    ++ codes "rstream,300,true,blue,-9,b\n"
    ++ codes "end,11,6,0,0,6\n"

whole_bags_written : written (visits Rstream) visit_rows ≡ whole_bags_lines
unfolding records_from next_record strip_bom input_text digits
whole_bags_written = refl

-- ---- a window that is dropped while others of its times are live, and a test that isn't evaluated at 0

abbrev visitor_text : List ℕ
visitor_text =
    codes "KEYS a;\n"
    ++ codes "FIELD n INT 0..9;\n"
    ++ codes "START 0; SKEW 100; LATENESS 10 FROM WINDOW; RECORDS 10;\n"
    ++ codes "SELECT COUNT(*)\n"
    ++ codes "WHERE NOT (n <> 0 AND 10 / n > 20)\n"
    ++ codes "WINDOW SLIDING 60 EVERY 25 ACCUMULATING LATE EVERY 1\n"
    ++ codes "EMIT PANES;\n"

abbrev visitors : Query
visitors = record {
  keys = codes "a" ∷ [];
  fields = record { name = codes "n"; type = Int (pos 0) (pos 9) } ∷ [];
  sources = [];
  clock = record { start = pos 0; skew = pos 100; lateness = pos 10; from_window = true; records = pos 10 };
  budget = None;
  columns = Count ∷ [];
  condition = Some (Not (Brackets (And (Binary (Compare Ne) n (number 0)) (Binary (Compare Gt) (Binary (Compute Div) (number 10) n) (number 20)))));
  having = None;
  output = record { shape = Sliding (pos 60) (pos 25); mode = Accumulating; early = None; late = Some (pos 1); form = Panes };
}

visitors_said : IsTextOf visitor_text visitors
unfolding plain tokens tokens_from first_of sign_of is_reserved
visitors_said = record { tokens = refl; told = refl }

abbrev visitor_rows : List ℕ
visitor_rows =
    codes "r,a,5,0\n"
    ++ codes "w,45\n"
    ++ codes "r,a,6,1\n"
    ++ codes "w,70\n"

abbrev visitor_lines : List ℕ
visitor_lines =
    codes "pane,on_time,a,-50,10,1\n"
    ++ codes "pane,on_time,a,-25,35,1\n"
    ++ codes "pane,on_time,a,0,60,2\n"
    ++ codes "end,4,2,0,0,3\n"

visitors_written : written visitors visitor_rows ≡ visitor_lines
unfolding records_from next_record strip_bom input_text digits
visitors_written = refl

-- Worked rows: what is written for lines, the oldest first.
use Rattle.std.specs.Prelude.{◌≡◌, ℕ, false, List, [], ◌∷◌, codes, pos, Option, Some, None, refl, reverse}
use Rattle.std.specs.Fmt.{digits}
use Rattle.wsm_record.specs.Schema.{Int}
use Rattle.wsm_windows.specs.declared.window.Shape.TheVariants.{Fixed}
use Rattle.wsm_turns.specs.Turns.{Setting}
use Rattle.wsm_row_watermarks.specs.Lines.{lines_read}
use Rattle.wsm_row_watermarks.specs.Turns.{text}

-- two keys agree, 20 behind and in steps of 10; a record that is more than 100 ahead waits. KEYS a, b, c; FIELD n INT 0..9
abbrev setting : Setting
setting = record {
  clocks = Some (record { rule = record { agree = 2; forget = 1000; bound = 20; step = 10; start = 0 }; ahead = 100; room = 9; named = None });
  declared = record { keys = codes "a" ∷ codes "b" ∷ codes "c" ∷ []; fields = record { name = codes "n"; type = Int (pos 0) (pos 9) } ∷ []; sources = [] };
  clock = record { start = pos 0; skew = pos 100; lateness = pos 10; from_window = false; records = pos 1000 };
  shape = Fixed (pos 60);
}

abbrev written : Option ℕ → List (List ℕ) → List ℕ
written once lines = text setting false (lines_read setting.declared once (reverse lines))

-- watermarks stand in front of the records that raise them; what is no row goes on as it is
among : written None (codes "r,a,100,5" ∷ codes "r,b,90,6" ∷ codes "hello" ∷ codes "r,\"a\",95,1" ∷ [] ∷ codes "r,b,110,07" ∷ []) ≡ codes "r,a,100,5\nw,70\nr,b,90,6\nhello\nunread\nw,80\nr,b,110,07\n"
unfolding digits
among = refl

-- a record a day ahead waits, and goes on as the row that says it
waits : written None (codes "r,a,100,5" ∷ codes "r,b,90,6" ∷ codes "r,c,86500,07" ∷ codes "r,a,101,5" ∷ []) ≡ codes "r,a,100,5\nw,70\nr,b,90,6\nw,80\nr,a,101,5\nr,c,86500,7\n"
unfolding digits
waits = refl

-- none that is lower is written behind a watermark among the rows, and what waits and isn't ahead of it goes in front of it
told : written None (codes "r,a,5,1" ∷ codes "r,b,300,2" ∷ codes "w,300" ∷ codes "r,a,310,3" ∷ codes "r,b,340,4" ∷ []) ≡ codes "r,a,5,1\nw,280\nr,b,300,2\nw,300\nr,a,310,3\nr,b,340,4\n"
unfolding digits
told = refl

-- a double is left out, and none goes on with its identifier
once : written (Some 3) (codes "r,a,100,x,5" ∷ codes "r,b,101,x,5" ∷ codes "r,a,100,,5" ∷ codes "r,a,100,y,5" ∷ []) ≡ codes "r,a,100,5\nr,a,100,5\nr,a,100,5\n"
unfolding digits
once = refl

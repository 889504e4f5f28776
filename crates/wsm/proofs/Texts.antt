-- The text of rows, one row after the other, and what was taken of it.
use Rattle.std.proofs.Common.{◌≡◌, ◌∙◌, ◌++◌, ◌∷◌, ℕ, false, List, [], map, reverse, Option, Result, Err, refl, sym, ap, subst, append-nil}
use Rattle.std.proofs.lemmas.List.{map-append, reverse-append}
use Rattle.std.proofs.lemmas.List.Concat.{flat_map-append}
use Rattle.std.specs.Io.KnownBytes.{Appends}
use Rattle.wsm_semantics.specs.Lines.{Row, lines_so_far, turn_lines, end_line}
use Rattle.wsm_semantics.specs.Text.{line_text, lines_text}
use Rattle.wsm_program.specs.Program.{Program}
use Rattle.wsm_csv.specs.declared.rows.ReadEnd.{ReadEnd}
use Rattle.wsm_csv.specs.declared.rows.ReadEnd.TheVariants as read
use Rattle.wsm_csv.specs.Cells.{event_of_cells}
use Rattle.wsm_csv.specs.Device.{TakesPart}
use Rattle.wsm_csv.specs.Records.{AreFirst}
use Rattle.wsm_csv.proofs.Written.{Appends-join, Appends-start, TakesPart-last}
use Rattle.wsm_semantics.specs.declared.ending.Totals.{Totals}
use Rattle.wsm.specs.declared.turns.Turns.{Turns}
use Rattle.wsm_machine.specs.Meaning.{query_of}
use Rattle.wsm_semantics.specs.Query.{Query as Meant}
use Rattle.wsm_inputs.specs.declared.end.End.{End}
use Rattle.wsm_inputs.specs.declared.end.End.TheVariants.{ReadFailed}
use Rattle.wsm_inputs.specs.Ends.{end_of_read, hides_memory}
use Rattle.wsm.specs.Written.{Cells, EndsEarly, input_text, rows_of, turns_text}
use Rattle.wsm.specs.Turns.{Ends, Fits, Stands, Turned}

pub rows_of-more : (a : Meant) (cells : List Cells) (c : Cells) → rows_of a (cells ++ c ∷ []) ≡ event_of_cells a.declared c ∷ rows_of a cells
rows_of-more a cells c = ap reverse (map-append (event_of_cells a.declared) cells (c ∷ [])) ∙ reverse-append (map (event_of_cells a.declared) cells) (event_of_cells a.declared c ∷ [])

turns_text-none : (a : Meant) → turns_text a [] ≡ []
unfolding turns_text
turns_text-none a = refl

turns_text-more : (a : Meant) (cells : List Cells) (c : Cells) → turns_text a (cells ++ c ∷ []) ≡ turns_text a cells ++ lines_text a.declared (turn_lines a (rows_of a cells) (event_of_cells a.declared c))
unfolding turns_text
turns_text-more a cells c =
    ap (λ (rows : List Row). lines_text a.declared (lines_so_far a rows)) (rows_of-more a cells c)
    ∙ flat_map-append (line_text a.declared) (lines_so_far a (rows_of a cells)) (turn_lines a (rows_of a cells) (event_of_cells a.declared c))

input_text-is : (a : Meant) (cells : List Cells) → input_text a cells ≡ turns_text a cells ++ line_text a.declared (end_line a (rows_of a cells))
unfolding input_text turns_text
input_text-is a cells =
    let last = end_line a (rows_of a cells) in
    flat_map-append (line_text a.declared) (lines_so_far a (rows_of a cells)) (last ∷ [])
    ∙ ap (λ t. turns_text a cells ++ t) (append-nil (line_text a.declared last))

-- before the first row
pub Appends-none : (a : Meant) (known : Option (List ℕ)) → Appends known known (turns_text a [])
Appends-none a known = subst (Appends known known) (sym (turns_text-none a)) (Appends-start known)

pub Stands-start : (p : Program) (known : Option (List ℕ)) (t : Turns) → Fits p t [] → Stands p [] known known t
Stands-start p known t fits = record { fits = fits; text = Appends-none (query_of p) known }

-- the text with the lines of one turn more
next_text : (p : Program) (cells : List Cells) (c : Cells) (t : Turns) → Turned p t (rows_of (query_of p) cells) (event_of_cells p.header.schema c)
    → turns_text (query_of p) cells ++ t.lines.items ≡ turns_text (query_of p) (cells ++ c ∷ [])
next_text p cells c t turned = ap (λ lines. turns_text (query_of p) cells ++ lines) turned.lines ∙ sym (turns_text-more (query_of p) cells c)

-- one turn more, whose lines are taken
pub Stands-next : (p : Program) (cells : List Cells) (c : Cells) (old now new : Option (List ℕ)) (t t' : Turns) → Stands p cells old now t
    → Turned p t' (rows_of (query_of p) cells) (event_of_cells p.header.schema c) → Appends now new t'.lines.items → Stands p (cells ++ c ∷ []) old new t'
Stands-next p cells c old now new t t' stands turned taken = record {
  fits = subst (Fits p t') (sym (rows_of-more (query_of p) cells c)) turned.fits;
  text = subst (Appends old new) (next_text p cells c t' turned) (Appends-join old now new (turns_text (query_of p) cells) t'.lines.items stands.text taken);
}

-- one turn more, of whose lines not all were taken
pub TakesPart-next : (p : Program) (cells : List Cells) (c : Cells) (old now new : Option (List ℕ)) (t t' : Turns) → Stands p cells old now t
    → Turned p t' (rows_of (query_of p) cells) (event_of_cells p.header.schema c) → TakesPart now new t'.lines.items → TakesPart old new (turns_text (query_of p) (cells ++ c ∷ []))
TakesPart-next p cells c old now new t t' stands turned part =
    subst (TakesPart old new) (next_text p cells c t' turned) (TakesPart-last old now new (turns_text (query_of p) cells) t'.lines.items stands.text part)

-- the text with the last line
pub last_text : (p : Program) (cells : List Cells) (t : Turns) (totals : Totals) → Ends p t (rows_of (query_of p) cells) totals
    → turns_text (query_of p) cells ++ t.lines.items ≡ input_text (query_of p) cells
last_text p cells t totals ends =
    let a = query_of p in
    ap (λ lines. turns_text a cells ++ lines) ends.lines
    ∙ ap (λ line. turns_text a cells ++ line_text a.declared line) ends.numbers ∙ sym (input_text-is a cells)

-- a run whose reading ended early
pub EndsEarly-read : (known : Option (List ℕ)) (a : Meant) (cells : List Cells) (old new : Option (List ℕ)) (e : ReadEnd) → AreFirst known cells → Appends old new (turns_text a cells) → EndsEarly known a cells old new (end_of_read e)
EndsEarly-read known a cells old new read.Failed first text = record { first = first; text = text }
EndsEarly-read known a cells old new read.Memory first text = record { first = first; text = text }

-- only a failed read is told as one
pub read_only : {A : Type 0} (r : Result A End) (e : ReadEnd) → r ≡ Err (end_of_read e) → r ≡ Err ReadFailed → e ≡ read.Failed
read_only r read.Failed told failed = refl
read_only r read.Memory told failed = cc

pub read_apart : (e : ReadEnd) → hides_memory (end_of_read e) ≡ false
read_apart read.Failed = refl
read_apart read.Memory = refl

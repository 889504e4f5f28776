-- Cells by their places, and the values of a record read one by one.
use Rattle.std.proofs.Common.{◌≡◌, ℕ, zero, suc, ◌+◌, ◌<◌, ◌∙◌, List, [], ◌∷◌, ◌++◌, ◌&&◌, drop, length, take, Option, Some, None, Result, Ok, Err, refl, sym, ap, arith, append_assoc, add-one}
use Rattle.std.specs.Prelude.{slice_get, slice_set, IsSome, option_map, option_and_then, bytes_eq, Bool, true, false, if◌then◌else◌}
use Rattle.std.proofs.Math.Bool.{and-true, and_assoc}
use Rattle.std.proofs.lemmas.Slice.Eq.{bytes_eq-Decides}
use Rattle.csv.specs.Records.{field_at}
use Rattle.wsm_record.specs.declared.event.Value.{Value}
use Rattle.wsm_record.specs.declared.event.RowFault.{RowFault}
use Rattle.wsm_record.specs.Schema.{Declared, DeclaredField, fit_fields, fits_type}
use Rattle.wsm_record.specs.declared.event.RowFault.TheVariants.{BadTag}
use Rattle.wsm_csv.specs.declared.row.Tag.{Tag}
use Rattle.wsm_csv.specs.declared.row.Tag.TheVariants.{Record, Watermark}
use Rattle.wsm_csv.specs.Cells.{event_of_cells, record_of, record_tag, then_read, value_of, values_of, watermark_of, watermark_tag}
use Rattle.wsm_csv.specs.Tags.{row_tag, tag_of}

pub field_at-slice_get : (cells : List (List ℕ)) (i : ℕ) → field_at cells i ≡ slice_get cells i
unfolding field_at
field_at-slice_get [] i = refl
field_at-slice_get (x ∷ xs) zero = refl
field_at-slice_get (x ∷ xs) (suc i) = field_at-slice_get xs i

pub some_of_map : {A B : Type 0} (f : A → B) (o : Option A) (b : B) → option_map f o ≡ Some b → IsSome o
some_of_map f None b e = cc
some_of_map f (Some a) b e = refl

drop-suc : {X : Type 0} (xs : List X) (i : ℕ) (x : X) → slice_get xs i ≡ Some x → drop i xs ≡ x ∷ drop (suc i) xs
drop-suc [] i x e = cc
drop-suc (y ∷ ys) zero x e = cc
drop-suc (y ∷ ys) (suc i) x e = drop-suc ys i x e

-- what stands from a place on
pub drop-slice_get : {X : Type 0} (xs : List X) (i : ℕ) (x : X) → slice_get xs i ≡ Some x → drop i xs ≡ x ∷ drop (i + 1) xs
drop-slice_get xs i x e = rw add-one (drop-suc xs i x e)

-- the cells behind a record's head
pub slice_get-behind_head : (cells : List (List ℕ)) (i : ℕ) → slice_get (drop 3 cells) i ≡ slice_get cells (3 + i)
slice_get-behind_head [] i = refl
slice_get-behind_head (a ∷ []) i = let e : 3 + i ≡ suc (suc (suc i)) = omega arith in rw e refl
slice_get-behind_head (a ∷ b ∷ []) i = let e : 3 + i ≡ suc (suc (suc i)) = omega arith in rw e refl
slice_get-behind_head (a ∷ b ∷ c ∷ rest) i = let e : 3 + i ≡ suc (suc (suc i)) = omega arith in rw e refl

-- values that were read, and those of what is left
abbrev pub read_on : List Value → List DeclaredField → List (List ℕ) → Result (List Value) RowFault
read_on values fields cells = then_read (values_of fields cells) (λ vs. Ok (values ++ vs))

joined : (r : Result (List Value) RowFault) (values : List Value) (v : Value)
    → then_read (then_read r (λ vs. Ok (v ∷ vs))) (λ vs. Ok (values ++ vs)) ≡ then_read r (λ vs. Ok ((values ++ v ∷ []) ++ vs))
joined (Ok vs) values v = ap Ok (sym (append_assoc values (v ∷ []) vs))
joined (Err f) values v = refl

pub read_on-value : (values : List Value) (fields : List DeclaredField) (cells : List (List ℕ)) (i : ℕ) (field : DeclaredField) (cell : List ℕ) (v : Value)
    → slice_get fields i ≡ Some field → slice_get cells i ≡ Some cell → value_of field.type cell ≡ Ok v
    → read_on values (drop i fields) (drop i cells) ≡ read_on (values ++ v ∷ []) (drop (i + 1) fields) (drop (i + 1) cells)
read_on-value values fields cells i field cell v e h k =
    rw (drop-slice_get fields i field e, drop-slice_get cells i cell h, k) (joined (values_of (drop (i + 1) fields) (drop (i + 1) cells)) values v)

pub read_on-fault : (values : List Value) (fields : List DeclaredField) (cells : List (List ℕ)) (i : ℕ) (field : DeclaredField) (cell : List ℕ) (f : RowFault)
    → slice_get fields i ≡ Some field → slice_get cells i ≡ Some cell → value_of field.type cell ≡ Err f
    → read_on values (drop i fields) (drop i cells) ≡ Err f
read_on-fault values fields cells i field cell f e h k = rw (drop-slice_get fields i field e, drop-slice_get cells i cell h, k) refl

fits-suc : (fields : List DeclaredField) (old : List Value) (i : ℕ) (field : DeclaredField) (v : Value) → slice_get fields i ≡ Some field → i < length old
    → fit_fields (take (suc i) fields) (take (suc i) (slice_set old i v)) ≡ (fit_fields (take i fields) (take i old) && fits_type field.type v)
fits-suc [] old i field v e h = cc
fits-suc (f ∷ fs) [] i field v e h = absurd (omega (arith, h))
fits-suc (f ∷ fs) (w ∷ ws) zero field v e h = let same : f ≡ field = cc in rw same (and-true (fits_type field.type v))
fits-suc (f ∷ fs) (w ∷ ws) (suc i) field v e h =
    ap (λ (b : Bool). fits_type f.type w && b) (fits-suc fs ws i field v e (omega (arith, h)))
    ∙ sym (and_assoc (fits_type f.type w) (fit_fields (take i fs) (take i ws)) (fits_type field.type v))

-- values fit up to one that is put where another stood if those in front of it do, and it is of its field's type
pub fits-put : (fields : List DeclaredField) (old : List Value) (i : ℕ) (field : DeclaredField) (v : Value) → slice_get fields i ≡ Some field → i < length old
    → fit_fields (take (i + 1) fields) (take (i + 1) (slice_set old i v)) ≡ (fit_fields (take i fields) (take i old) && fits_type field.type v)
fits-put fields old i field v e h = rw add-one (fits-suc fields old i field v e h)

pub row_tag-field_at : (cells : List (List ℕ)) → row_tag cells ≡ option_and_then tag_of (field_at cells 0)
unfolding field_at
row_tag-field_at [] = refl
row_tag-field_at (x ∷ xs) = refl

-- what a row's tag says of its event
abbrev pub TagDecides : Declared → List (List ℕ) → Option Tag → Type 0
TagDecides d cells None = event_of_cells d cells ≡ Err BadTag
TagDecides d cells (Some Record) = (event_of_cells d cells ≡ record_of d (drop 1 cells)) × (slice_get cells 0 ≡ Some record_tag)
TagDecides d cells (Some Watermark) = event_of_cells d cells ≡ watermark_of d (drop 1 cells)

tag_decides : (d : Declared) (x : List ℕ) (xs : List (List ℕ)) (r w : Bool) → bytes_eq x record_tag ≡ r → bytes_eq x watermark_tag ≡ w
    → TagDecides d (x ∷ xs) (if r then Some Record else if w then Some Watermark else None)
tag_decides d x xs true w e h = (rw e refl, ap Some ((bytes_eq-Decides x record_tag).0 e))
tag_decides d x xs false true e h = rw (e, h) refl
tag_decides d x xs false false e h = rw (e, h) refl

pub row_tag-decides : (d : Declared) (cells : List (List ℕ)) → TagDecides d cells (row_tag cells)
row_tag-decides d [] = refl
row_tag-decides d (x ∷ xs) = tag_decides d x xs (bytes_eq x record_tag) (bytes_eq x watermark_tag) refl refl

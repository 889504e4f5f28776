-- Steps of reading a journal.
use Rattle.std.proofs.Common.{◌≡◌, ◌∙◌, ℕ, zero, suc, ◌+◌, ◌-◌, ◌<◌, ◌≤◌, List, [], ◌∷◌, ◌++◌, drop, length, ◌==◌, get_or, slice_range, cond, is_some, option_map, nat_le, Bool, Option, Some, None, refl, sym, ap, arith, append_assoc, append-nil, true, false, ◌||◌, ◌&&◌, length-take, length-drop}
use Rattle.std.proofs.lemmas.List.{at_drop_more, drop-drop}
use Rattle.std.proofs.lemmas.Bool.{leb-true}
use Rattle.std.specs.Option.{option_map_or}
use Rattle.wsm_journal.specs.Text.{Entry}
use Rattle.wsm_journal.specs.Seen.{whole_seen}
use Rattle.wsm_journal.specs.declared.records.Found.{Found}
use Rattle.wsm_journal.specs.Reading.{Mark, Whole, Reading, reading_with, with_whole, next_whole, whole_at, whole_with, entry_of, rows_of, is_sum, is_later, is_whole_later, later_from, may_be_later, read_from, behind_of}

-- some records and their bytes in front of what was read
abbrev pub joined : List Entry → ℕ → Reading → Reading
joined entries size r = reading_with (entries ++ r.entries) (size + r.size) r.behind

pub joined-with_whole : (entries : List Entry) (size : ℕ) (f : Whole) (r : Reading) → joined entries size (with_whole f r) ≡ joined (entries ++ f.entry ∷ []) (size + f.end) r
joined-with_whole entries size f r =
    let sizes : size + (f.end + r.size) ≡ size + f.end + r.size = omega arith in
    ap (λ es. reading_with es (size + (f.end + r.size)) r.behind) (sym (append_assoc entries (f.entry ∷ []) r.entries))
    ∙ ap (λ n. reading_with (entries ++ f.entry ∷ [] ++ r.entries) n r.behind) sizes

-- bytes that were read are passed over
pub read_from-skip : (last : Option ℕ) (skip : ℕ) (text : List ℕ) → read_from last skip text ≡ read_from last 0 (drop skip text)
unfolding read_from
read_from-skip last zero [] = refl
read_from-skip last (suc skip) [] = refl
read_from-skip last zero (byte ∷ text) = refl
read_from-skip last (suc skip) (byte ∷ text) = read_from-skip last skip text

-- a record that is whole is read, and then what is behind it
pub read_from-some : (last : Option ℕ) (text : List ℕ) (f : Whole) → next_whole last text ≡ Some f → 0 < f.end → f.end ≤ length text
    → read_from last 0 text ≡ with_whole f (read_from (Some f.entry.number) 0 (drop f.end text))
unfolding read_from
read_from-some last [] f next some within = absurd (omega arith)
read_from-some last (byte ∷ text) f next some within =
    let one : suc (f.end - 1) ≡ f.end = omega arith in
    ap (λ (o : Option Whole). option_map_or (λ (found : Whole). with_whole found (read_from (Some found.entry.number) (found.end - 1) text)) o (reading_with [] 0 (behind_of last (byte ∷ text)))) next
    ∙ ap (λ r. with_whole f r) (read_from-skip (Some f.entry.number) (f.end - 1) text ∙ ap (λ n. read_from (Some f.entry.number) 0 (drop n (byte ∷ text))) one)

-- reading ends at the first record that isn't whole
pub read_from-none : (last : Option ℕ) (text : List ℕ) → next_whole last text ≡ None → read_from last 0 text ≡ reading_with [] 0 (behind_of last text)
unfolding read_from
read_from-none last [] next = refl
read_from-none last (byte ∷ text) next =
    ap (λ (o : Option Whole). option_map_or (λ (found : Whole). with_whole found (read_from (Some found.entry.number) (found.end - 1) text)) o (reading_with [] 0 (behind_of last (byte ∷ text)))) next

-- one record more of some
pub read_more : (all : Reading) (entries : List Entry) (size : ℕ) (last : Option ℕ) (text : List ℕ) (f : Whole)
    → all ≡ joined entries size (read_from last 0 (drop size text)) → next_whole last (drop size text) ≡ Some f → 0 < f.end → f.end ≤ length (drop size text)
    → all ≡ joined (entries ++ f.entry ∷ []) (size + f.end) (read_from (Some f.entry.number) 0 (drop (size + f.end) text))
read_more all entries size last text f so_far next some within =
    let rest = read_from (Some f.entry.number) 0 (drop f.end (drop size text)) in
    so_far
    ∙ ap (λ r. joined entries size r) (read_from-some last (drop size text) f next some within)
    ∙ joined-with_whole entries size f rest
    ∙ ap (λ t. joined (entries ++ f.entry ∷ []) (size + f.end) (read_from (Some f.entry.number) 0 t)) (drop-drop f.end size text)

-- no record more
pub read_all : (all : Reading) (entries : List Entry) (size : ℕ) (last : Option ℕ) (text : List ℕ)
    → all ≡ joined entries size (read_from last 0 (drop size text)) → next_whole last (drop size text) ≡ None
    → reading_with entries size (behind_of last (drop size text)) ≡ all
read_all all entries size last text so_far next =
    let none : size + 0 ≡ size = omega arith in
    sym (so_far
    ∙ ap (λ r. joined entries size r) (read_from-none last (drop size text) next)
    ∙ ap (λ es. reading_with es (size + 0) (behind_of last (drop size text))) (append-nil entries)
    ∙ ap (λ n. reading_with entries n (behind_of last (drop size text))) none)

and_false : (b : Bool) → (b && false) ≡ false
and_false true = refl
and_false false = refl

and_true : (b : Bool) → (b && true) ≡ b
and_true true = refl
and_true false = refl

pub length_between : (text : List ℕ) (start end n : ℕ) → start + n ≡ end → end ≤ length text → length (slice_range text start end) ≡ n
length_between text start end n is inside = omega (arith, length-take (end - start) (drop start text), length-drop start text)

-- a record that comes later is whole here, or it is behind
pub later_next : (last : Option ℕ) (text : List ℕ) (i : ℕ) (begins : Bool) → i < length text → is_whole_later last begins (whole_at text i) ≡ false
    → later_from last text i begins (drop i text) ≡ later_from last text (i + 1) (get_or text i 0 == 10) (drop (i + 1) text)
later_next last text i begins inside other =
    at_drop_more (later_from last text i begins) text i 0 inside ∙ ap (λ b. b || later_from last text (i + 1) (get_or text i 0 == 10) (drop (i + 1) text)) other

pub later_here : (last : Option ℕ) (text : List ℕ) (i : ℕ) (begins : Bool) → i < length text → is_whole_later last begins (whole_at text i) ≡ true → later_from last text i begins (drop i text) ≡ true
later_here last text i begins inside here =
    at_drop_more (later_from last text i begins) text i 0 inside ∙ ap (λ b. b || later_from last text (i + 1) (get_or text i 0 == 10) (drop (i + 1) text)) here

-- what is asked of a line decides whether the record whose last one it is comes later
pub later_by_mark : (last : Option ℕ) (begins : Bool) (text : List ℕ) (at : ℕ) (m : Mark) → at ≤ length text
    → is_whole_later last begins (whole_with text at m) ≡ (may_be_later last begins m && is_some (whole_with text at m))
later_by_mark last begins text at m inside = by_test (nat_le m.bytes at) (is_sum (rows_of text at m) m) refl
  where
    by_test : (fits sum : Bool) → nat_le m.bytes at ≡ fits
        → is_whole_later last begins (cond (fits && sum) (Some (record { entry = entry_of (rows_of text at m) m; end = at + m.size })) None)
        ≡ (may_be_later last begins m && is_some {T = Whole} (cond (fits && sum) (Some (record { entry = entry_of (rows_of text at m) m; end = at + m.size })) None))
    by_test false sum is = sym (and_false ((begins || m.bytes == 0) && is_later last m.number))
    by_test true false is = sym (and_false ((begins || m.bytes == 0) && is_later last m.number))
    by_test true true is =
        let low : m.bytes ≤ at = leb-true _ _ is in
        let long : length (rows_of text at m) ≡ m.bytes = length_between text (at - m.bytes) at m.bytes (omega arith) inside in
        ap (λ n. (begins || n == 0) && is_later last m.number) long ∙ sym (and_true ((begins || m.bytes == 0) && is_later last m.number))

some_seen : (o : Option Found) → is_some (option_map whole_seen o) ≡ is_some o
some_seen None = refl
some_seen (Some f) = refl

pub later_so : (last : Option ℕ) (begins : Bool) (text : List ℕ) (at : ℕ) (m : Mark) (o : Option Found) → at ≤ length text → may_be_later last begins m ≡ true → option_map whole_seen o ≡ whole_with text at m
    → is_some o ≡ is_whole_later last begins (whole_with text at m)
later_so last begins text at m o inside may is =
    sym (later_by_mark last begins text at m inside ∙ ap (λ b. b && is_some (whole_with text at m)) may ∙ ap (λ (w : Option Whole). is_some w) (sym is) ∙ some_seen o)

pub later_not : (last : Option ℕ) (begins : Bool) (text : List ℕ) (at : ℕ) (m : Mark) → at ≤ length text → may_be_later last begins m ≡ false → false ≡ is_whole_later last begins (whole_with text at m)
later_not last begins text at m inside may = sym (later_by_mark last begins text at m inside ∙ ap (λ b. b && is_some (whole_with text at m)) may)

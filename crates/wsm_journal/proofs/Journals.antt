-- Journals that were written are read back, with whatever stands behind them.
use Rattle.std.proofs.Common.{◌≡◌, ◌∙◌, ℕ, ◌+◌, ◌<◌, ◌==◌, List, [], ◌∷◌, ◌++◌, length, Bool, true, false, ◌||◌, cond, Option, Some, None, option_and_then, refl, sym, ap, arith, append_assoc, append-nil, length-append}
use Rattle.std.proofs.lemmas.List.{drop_at}
use Rattle.std.proofs.lemmas.Bool.{and_parts, and_from}
use Rattle.wsm_journal.specs.Text.{Entry, IsRecord, AreRecords, are_rows, are_rows_from, ends_line_from, mark_text, record_text, journal_text, last_number}
use Rattle.wsm_journal.specs.Reading.{reading_with, with_whole, whole_at, mark_from, whole_if, next_whole, is_later, is_whole_later, later_from, is_damaged, behind_of, read_from, read_journal}
use Rattle.wsm_journal.specs.Laws.{FitsNoSum, torn_of, read_as}
use Rattle.wsm_journal.specs.declared.reading.Behind.TheVariants.{Torn, Damage}
use Rattle.wsm_journal.proofs.ReadLemmas.{joined, read_from-some, read_from-none}
use Rattle.wsm_journal.proofs.Written.{next_read, whole_read, record_text-is, record_text-parts, length-record_text, mark_text-some}

-- ---- whole records are read back

one_read : (last : Option ℕ) (e : Entry) (y : List ℕ) → AreRecords last (e ∷ []) →
    read_from last 0 (record_text e ++ y) ≡ with_whole (record { entry = e; end = length (record_text e) }) (read_from (Some e.number) 0 y)
one_read last e y good =
    let size = length (record_text e) in
    let some = mark_text-some e in
    let parts = length-record_text e in
    let long = length-append (record_text e) y in
    read_from-some last (record_text e ++ y) (record { entry = e; end = size }) (next_read last e y good.0 good.0.sum good.1) (omega arith) (omega arith)
    ∙ ap (λ t. with_whole (record { entry = e; end = size }) (read_from (Some e.number) 0 t)) (drop_at (record_text e) y size refl)

pub all_read : (last : Option ℕ) (es : List Entry) (y : List ℕ) → AreRecords last es →
    read_from last 0 (journal_text es ++ y) ≡ joined es (length (journal_text es)) (read_from (last_number last es) 0 y)
all_read last [] y good = ap (λ n. reading_with (read_from last 0 y).entries n (read_from last 0 y).behind) (omega arith)
all_read last (e ∷ es) y good =
    let size = length (record_text e) in
    let rest = read_from (last_number (Some e.number) es) 0 y in
    let sizes : size + (length (journal_text es) + rest.size) ≡ length (record_text e ++ journal_text es) + rest.size = omega (arith, length-append (record_text e) (journal_text es)) in
    ap (λ t. read_from last 0 t) (append_assoc (record_text e) (journal_text es) y)
    ∙ one_read last e (journal_text es ++ y) (good.0, good.1, tt)
    ∙ ap (λ r. with_whole (record { entry = e; end = size }) r) (all_read (Some e.number) es y good.2)
    ∙ ap (λ n. reading_with (e ∷ (es ++ rest.entries)) n rest.behind) sizes

-- what behind whole records isn't one
pub all_read_then : (es : List Entry) (y : List ℕ) → AreRecords None es → next_whole (last_number None es) y ≡ None
    → read_journal (journal_text es ++ y) ≡ reading_with es (length (journal_text es)) (behind_of (last_number None es) y)
all_read_then es y good none =
    let last = last_number None es in
    let size = length (journal_text es) in
    let zero_more : size + 0 ≡ size = omega arith in
    all_read None es y good
    ∙ ap (λ r. joined es size r) (read_from-none last y none)
    ∙ ap (λ xs. reading_with xs (size + 0) (behind_of last y)) (append-nil es)
    ∙ ap (λ n. reading_with es n (behind_of last y)) zero_more

-- ---- torn bytes

no_next : (last : Option ℕ) (text : List ℕ) → FitsNoSum text → next_whole last text ≡ None
unfolding next_whole
no_next last text none = at_place (mark_from 0 true text)
  where
    at_place : (o : Option ℕ) → option_and_then (λ (at : ℕ). option_and_then (whole_if last at) (whole_at text at)) o ≡ None
    at_place None = refl
    at_place (Some at) = ap (λ w. option_and_then (whole_if last at) w) (none at)

no_later : (last : Option ℕ) (text : List ℕ) → FitsNoSum text → (i : ℕ) (begins : Bool) (rest : List ℕ) → later_from last text i begins rest ≡ false
no_later last text none i begins [] = refl
no_later last text none i begins (byte ∷ rest) =
    ap (λ w. is_whole_later last begins w || later_from last text (i + 1) (byte == 10) rest) (none i) ∙ no_later last text none (i + 1) (byte == 10) rest

torn_behind : (last : Option ℕ) (text : List ℕ) → FitsNoSum text → behind_of last text ≡ torn_of text
torn_behind last [] none = refl
torn_behind last (byte ∷ text) none = ap (λ b. cond b Damage Torn) (no_later last (byte ∷ text) none 0 true (byte ∷ text))

pub torn_read : (es : List Entry) (torn : List ℕ) → AreRecords None es → FitsNoSum torn → read_journal (journal_text es ++ torn) ≡ read_as es torn
torn_read es torn good none =
    all_read_then es torn good (no_next (last_number None es) torn none)
    ∙ ap (λ b. reading_with es (length (journal_text es)) b) (torn_behind (last_number None es) torn none)

no_mark_in_nothing : (last : Option ℕ) → next_whole last [] ≡ None
unfolding next_whole
no_mark_in_nothing last = refl

pub written_read : (es : List Entry) → AreRecords None es → read_journal (journal_text es) ≡ read_as es []
written_read es good =
    ap read_journal (sym (append-nil (journal_text es))) ∙ all_read_then es [] good (no_mark_in_nothing (last_number None es))

-- one record more, whole
pub one_behind : (e : Entry) (xs : List Entry) → journal_text xs ++ record_text e ≡ journal_text (xs ++ e ∷ [])
one_behind e [] = sym (append-nil (record_text e))
one_behind e (x ∷ xs) = append_assoc (record_text x) (journal_text xs) (record_text e) ∙ ap (λ t. record_text x ++ t) (one_behind e xs)

pub more_read : (es : List Entry) (e : Entry) → AreRecords None (es ++ e ∷ []) → read_journal (journal_text es ++ record_text e) ≡ read_as (es ++ e ∷ []) []
more_read es e good = ap read_journal (one_behind e es) ∙ written_read (es ++ e ∷ []) good

-- ---- damage

-- whether a line begins behind some bytes
later_at : (last : Option ℕ) (text : List ℕ) (i at : ℕ) (begins : Bool) (front rest : List ℕ) → at ≡ i + length front → 0 < length rest → is_whole_later last (ends_line_from begins front) (whole_at text at) ≡ true → later_from last text i begins (front ++ rest) ≡ true
later_at last text i at begins [] [] is some here = absurd (omega arith)
later_at last text i at begins [] (byte ∷ rest) is some here =
    let same : at ≡ i = omega arith in
    ap (λ b. b || later_from last text (i + 1) (byte == 10) rest) (ap (λ n. is_whole_later last begins (whole_at text n)) (sym same) ∙ here)
later_at last text i at begins (byte ∷ front) rest is some here =
    or_true (is_whole_later last begins (whole_at text i)) _ (later_at last text (i + 1) at (byte == 10) front rest (omega arith) some here)
  where
    or_true : (a b : Bool) → b ≡ true → (a || b) ≡ true
    or_true true b h = refl
    or_true false b h = h

-- behind rows of a record a line begins, or it has none
ends_append : (begins : Bool) (xs ys : List ℕ) → ends_line_from begins (xs ++ ys) ≡ ends_line_from (ends_line_from begins xs) ys
ends_append begins [] ys = refl
ends_append begins (x ∷ xs) ys = ends_append (x == 10) xs ys

rows_end : (begins : Bool) (rows : List ℕ) → are_rows_from begins rows ≡ true → ends_line_from begins rows ≡ true
rows_end begins [] good = good
rows_end begins (byte ∷ rows) good = rows_end (byte == 10) rows (and_parts _ _ good).1

begins_or_none : (begins : Bool) (rows : List ℕ) → are_rows rows ≡ true → (ends_line_from begins rows || length rows == 0) ≡ true
begins_or_none true [] good = refl
begins_or_none false [] good = refl
begins_or_none begins (byte ∷ rows) good = ap (λ b. b || length (byte ∷ rows) == 0) (rows_end (byte == 10) rows (and_parts _ _ good).1)

damaged_behind : (last : Option ℕ) (text : List ℕ) → 0 < length text → is_damaged last text ≡ true → behind_of last text ≡ Damage
damaged_behind last [] some damaged = absurd (omega arith)
damaged_behind last (byte ∷ text) some damaged = ap (λ b. cond b Damage Torn) damaged

-- a whole record that comes later, behind anything that isn't one
pub damage_read : (es : List Entry) (torn : List ℕ) (e : Entry) (y : List ℕ) → AreRecords None es → IsRecord e → is_later (last_number None es) e.number ≡ true
    → next_whole (last_number None es) (torn ++ (record_text e ++ y)) ≡ None
    → read_journal (journal_text es ++ (torn ++ (record_text e ++ y))) ≡ reading_with es (length (journal_text es)) Damage
damage_read es torn e y good one later none =
    let last = last_number None es in
    let text : List ℕ = torn ++ (record_text e ++ y) in
    let at : ℕ = length torn + length e.rows in
    let front : List ℕ = torn ++ e.rows in
    let begins : Bool = ends_line_from true front in
    let whole = ap (λ t. whole_at (torn ++ t) at) (record_text-is e y) ∙ whole_read torn e y at one one.sum refl in
    let line : (begins || length e.rows == 0) ≡ true = ap (λ b. b || length e.rows == 0) (ends_append true torn e.rows) ∙ begins_or_none (ends_line_from true torn) e.rows one.rows in
    let there : is_whole_later last begins (whole_at text at) ≡ true = ap (λ w. is_whole_later last begins w) whole ∙ and_from _ _ line later in
    let some = mark_text-some e in
    let parts = length-record_text e in
    let long = length-append torn (record_text e ++ y) in
    let longer = length-append (record_text e) y in
    let behind = mark_text e ++ y in
    let more = length-append (mark_text e) y in
    let split : text ≡ front ++ behind = ap (λ t. torn ++ t) (record_text-parts e y) ∙ sym (append_assoc torn e.rows behind) in
    let damaged : is_damaged last text ≡ true =
    ap (λ t. later_from last text 0 true t) split ∙ later_at last text 0 at true front behind (omega (arith, length-append torn e.rows)) (omega arith) there in
    all_read_then es text good none
    ∙ ap (λ b. reading_with es (length (journal_text es)) b) (damaged_behind last text (omega arith) damaged)

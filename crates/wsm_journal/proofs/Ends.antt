-- Where lines and positions end that were written.
use Rattle.std.proofs.Common.{◌≡◌, ◌∙◌, ℕ, ◌+◌, ◌==◌, ◌&&◌, not, nat_eq, nat_le, List, [], ◌∷◌, ◌++◌, take, drop, length, Bool, true, false, Option, Some, None, option_and_then, refl, sym, ap, arith, add-zero, cond}
use Rattle.std.proofs.lemmas.List.{take_at, drop-drop, drop_at}
use Rattle.std.proofs.lemmas.Bool.{and_parts}
use Rattle.std.specs.List.{list_all}
use Rattle.wsm_journal.specs.Text.{is_mark, are_rows_from, is_position}
use Rattle.wsm_journal.specs.Reading.{mark_from, line_end_from, position_of}

not_true : (p : Bool) → not p ≡ true → p ≡ false
not_true true h = cc
not_true false h = refl

three_last : (begins x y : Bool) → (begins && (x && (y && false))) ≡ false
three_last true true true = refl
three_last true true false = refl
three_last true false y = refl
three_last false x y = refl

two_last : (begins x : Bool) → (begins && (x && false)) ≡ false
two_last true true = refl
two_last true false = refl
two_last false x = refl

-- the line behind some rows, and nothing of them, begins with `at,`
no_mark : (begins : Bool) (byte : ℕ) (rows y : List ℕ) → are_rows_from begins (byte ∷ rows) ≡ true → (begins && is_mark (byte ∷ (rows ++ (97 ∷ 116 ∷ 44 ∷ y)))) ≡ false
no_mark begins byte [] y good = two_last begins _
no_mark begins byte (second ∷ []) y good = three_last begins _ _
no_mark begins byte (second ∷ third ∷ rows) y good = not_true _ (and_parts _ _ good).0

pub mark_found : (i : ℕ) (begins : Bool) (rows y : List ℕ) → are_rows_from begins rows ≡ true → mark_from i begins (rows ++ (97 ∷ 116 ∷ 44 ∷ y)) ≡ Some (i + length rows)
mark_found i true [] y good = ap Some (sym (add-zero i))
mark_found i false [] y good = cc
mark_found i begins (byte ∷ rows) y good =
    let none = no_mark begins byte rows y good in
    rw none (mark_found (i + 1) (byte == 10) rows y (and_parts _ _ good).1 ∙ ap Some (omega arith))

pub line_end_found : (i : ℕ) (position y : List ℕ) → list_all (λ byte. not (byte == 10)) position ≡ true → line_end_from i (position ++ (10 ∷ y)) ≡ Some (i + length position)
line_end_found i [] y good = ap Some (sym (add-zero i))
line_end_found i (byte ∷ position) y good =
    let parts = and_parts _ _ good in
    let none : nat_eq byte 10 ≡ false = not_true _ parts.0 in
    rw none (line_end_found (i + 1) position y parts.1 ∙ ap Some (omega arith))

behind_end : (position y : List ℕ) → drop (length position + 1) (position ++ (10 ∷ y)) ≡ y
behind_end position y = sym (drop-drop 1 (length position) (position ++ (10 ∷ y))) ∙ ap (λ t. drop 1 t) (drop_at position (10 ∷ y) (length position) refl)

pub position_read : (position y : List ℕ) → is_position position ≡ true → position_of (position ++ (10 ∷ y)) ≡ Some (position, y)
position_read position y good =
    let at : 0 + length position ≡ length position = omega arith in
    let parts = and_parts _ _ good in
    let found = line_end_found 0 position y parts.1 in
    let text : List ℕ = position ++ (10 ∷ y) in
    ap (λ (o : Option ℕ). option_and_then (λ (end : ℕ). cond (nat_le end 1024) (Some (take end text, drop (end + 1) text)) None) o) (found ∙ ap Some at)
    ∙ ap (λ b. cond b (Some (take (length position) text, drop (length position + 1) text)) None) parts.0
    ∙ ap (λ t. Some (t, drop (length position + 1) text)) (take_at position (10 ∷ y) (length position) refl)
    ∙ ap (λ t. Some (position, t)) (behind_end position y)

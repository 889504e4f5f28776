-- Lines, cell by cell.
use Rattle.std.proofs.Common.{◌≡◌, ℕ, zero, suc, ◌+◌, ◌-◌, ◌<◌, ◌≤◌, true, subst, length, length-drop, get_or, map, List, [], ◌∷◌, ◌++◌, take, drop, refl, sym, ap, ◌∙◌, append_assoc, append-nil}
use Rattle.std.proofs.lemmas.List.{drop-append-le, drop-drop}
use Rattle.std.proofs.Math.Seq.{drop-length, take-length}
use Rattle.std.specs.Prelude.{OnOk, Result, Ok, Err, is_ok, if◌then◌else◌}
use Rattle.std.specs.List.{list_all}
use Rattle.std.proofs.lemmas.Bool.{and_from}
use Rattle.std.proofs.lemmas.List.Folds.{list_all_more}
use Rattle.std.specs.Fmt.{signed_decimal}
use Rattle.wsm_record.specs.declared.cell.Cell.{Cell}
use Rattle.wsm_record.specs.declared.cell.Cell.TheVariants.{Int, Bool as Truth, Enum}
use Rattle.wsm_record.specs.Schema.{Declared}
use Rattle.wsm_semantics.specs.Text.{joined, cell_text}
use Rattle.wsm_csv.specs.Lines.{cells_text, is_a_number, number_text}

-- cells with commas between them are the first, and the others with a comma in front
pub joined-cells : (cell : List ℕ) (cells : List (List ℕ)) → joined (cell ∷ cells) ≡ cell ++ cells_text cells
joined-cells cell [] = sym (append-nil cell)
joined-cells cell (next ∷ cells) = rw (joined-cells next cells) (append_assoc cell (44 ∷ []) (next ++ cells_text cells))

pub cells_text-append : (xs ys : List (List ℕ)) → cells_text (xs ++ ys) ≡ cells_text xs ++ cells_text ys
cells_text-append [] ys = refl
cells_text-append (x ∷ xs) ys = rw (cells_text-append xs ys) (sym (append_assoc (44 ∷ x) (cells_text xs) (cells_text ys)))

-- a row's line, from its first cells and the others
pub joined-split : (old line : List ℕ) (cell : List ℕ) (front back : List (List ℕ)) → line ≡ (old ++ (cell ++ cells_text front)) ++ cells_text back → line ≡ old ++ joined (cell ∷ (front ++ back))
joined-split old line cell front back e =
    rw (joined-cells cell (front ++ back), cells_text-append front back)
    (e ∙ append_assoc old (cell ++ cells_text front) (cells_text back) ∙ ap (λ t. old ++ t) (append_assoc cell (cells_text front) (cells_text back)))

pub joined-word : (old line : List ℕ) (word : List ℕ) (cells : List (List ℕ)) → line ≡ old ++ (word ++ cells_text cells) → line ≡ old ++ joined (word ∷ cells)
joined-word old line word cells e = e ∙ ap (λ t. old ++ t) (sym (joined-cells word cells))

-- a line, from its first cells with a comma behind, a name and the other cells
pub joined-line : (tag kind name : List ℕ) (cells : List (List ℕ)) → (tag ++ 44 ∷ kind ++ 44 ∷ []) ++ (name ++ (cells_text cells ++ 10 ∷ [])) ≡ joined (tag ∷ kind ∷ name ∷ cells) ++ 10 ∷ []
joined-line tag kind name cells = rw (joined-cells tag (kind ∷ name ∷ cells)) (simp append_assoc)

-- a fact on success, led on to another
pub on_ok : {T E : Type 0} (r : Result T E) (P Q : Type 0) → (P → Q) → OnOk r P → OnOk r Q
on_ok (Ok t) P Q f h = f h
on_ok (Err e) P Q f h = tt

-- the cells of columns are those of the numbers in front, and those behind
pub cell_texts-split : (s : Declared) (cs : List Cell) (n : ℕ) → list_all is_a_number (take n cs) ≡ true → map (cell_text s) cs ≡ map number_text (take n cs) ++ map (cell_text s) (drop n cs)
cell_texts-split s cs zero h = refl
cell_texts-split s [] (suc n) h = refl
cell_texts-split s (Int k ∷ cs) (suc n) h = ap (λ cells. signed_decimal k ∷ cells) (cell_texts-split s cs n h)
cell_texts-split s (Truth b ∷ cs) (suc n) h = cc
cell_texts-split s (Enum e i ∷ cs) (suc n) h = cc

-- the cells of columns that are all numbers
pub number_texts : (s : Declared) (cs : List Cell) → list_all is_a_number cs ≡ true → map number_text cs ≡ map (cell_text s) cs
number_texts s cs h = sym (rw (take-length, drop-length, append-nil) at (cell_texts-split s cs (length cs) (rw take-length h)))

-- cells behind those that were added
pub cells_text-behind : (old mid line : List ℕ) (front back cells : List (List ℕ)) → cells ≡ front ++ back → mid ≡ old ++ cells_text front → line ≡ mid ++ cells_text back → line ≡ old ++ cells_text cells
cells_text-behind old mid line front back cells e h k =
    k ∙ ap (λ t. t ++ cells_text back) h ∙ append_assoc old (cells_text front) (cells_text back) ∙ ap (λ t. old ++ t) (sym (cells_text-append front back) ∙ ap cells_text (sym e))

-- a word, and cells behind those that were added with it
pub word_and-behind : (old word mid line : List ℕ) (front back cells : List (List ℕ)) → cells ≡ front ++ back → mid ≡ old ++ (word ++ cells_text front) → line ≡ mid ++ cells_text back → line ≡ old ++ (word ++ cells_text cells)
word_and-behind old word mid line front back cells e h k =
    cells_text-behind (old ++ word) mid line front back cells e (h ∙ sym (append_assoc old word (cells_text front))) k ∙ append_assoc old word (cells_text cells)

-- what stands behind some, as a slice has it
pub take_behind : {X : Type 0} (n : ℕ) (xs : List X) → take (length xs - n) (drop n xs) ≡ drop n xs
take_behind n xs = subst (λ (m : ℕ). take m (drop n xs) ≡ drop n xs) (length-drop n xs) (take-length (drop n xs))

-- a line that was written from its end on
pub line_from_end : (first name : List ℕ) (window numbers : List (List ℕ)) (from_numbers from_window from_name line : List ℕ)
    → from_numbers ≡ cells_text numbers ++ 10 ∷ [] → from_window ≡ cells_text window ++ from_numbers → from_name ≡ name ++ from_window → line ≡ first ++ from_name
    → line ≡ first ++ (name ++ (cells_text (window ++ numbers) ++ 10 ∷ []))
line_from_end first name window numbers from_numbers from_window from_name line e f g h = rw (h, g, f, e, cells_text-append window numbers) (simp append_assoc)

-- what lies behind a place, some further on
pub drop_behind : (n m : ℕ) (xs ys zs : List ℕ) → drop n xs ≡ ys ++ zs → m ≤ length ys → drop (n + m) xs ≡ drop m ys ++ zs
drop_behind n m xs ys zs e h = sym (drop-drop m n xs) ∙ ap (drop m) e ∙ drop-append-le m ys zs h

-- what a call adds where it succeeds
pub appended : {T E : Type 0} (r : Result T E) (old new part line : List ℕ) → new ≡ (if is_ok r then old ++ part else old) → part ≡ line → OnOk r (new ≡ old ++ line)
appended (Ok t) old new part line e f = e ∙ ap (λ text. old ++ text) f
appended (Err x) old new part line e f = tt

-- one number more
pub numbers_more : (cs : List Cell) (i : ℕ) (c : Cell) → i < length cs → c ≡ get_or cs i c → list_all is_a_number (take i cs) ≡ true → is_a_number c ≡ true → list_all is_a_number (take (i + 1) cs) ≡ true
numbers_more cs i c h e before here =
    list_all_more is_a_number cs i c h ∙ and_from (list_all is_a_number (take i cs)) (is_a_number (get_or cs i c)) before (ap is_a_number (sym e) ∙ here)

-- One name more, and one line more of the names of a text.
use Rattle.std.proofs.Common.{◌≡◌, ◌∙◌, ◌+◌, ◌||◌, ◌++◌, ◌∷◌, [], ℕ, List, Bool, true, false, length, refl, sym, ap, append_assoc, append-nil}
use Rattle.std.specs.Prelude.{Err, Ok}
use Rattle.wsm_record.specs.Name.{is_among, repeats_after}
use Rattle.wsm_record.proofs.Lists.{or_left, or_right}
use Rattle.wsm_log.specs.LinesOf.{lines_of}
use Rattle.wsm_key_names.specs.Names.{is_key_name, names_behind}
use Rattle.wsm_key_names.specs.declared.refusal.KeyNamesRefusal.TheVariants.{BadName, DuplicateName}

neither : (a b : Bool) → a ≡ false → b ≡ false → (a || b) ≡ false
neither a b e h = rw (e, h) refl

-- a name that isn't among names that differ
pub repeats_more : (before names : List (List ℕ)) (name : List ℕ) → repeats_after before names ≡ false → is_among name (before ++ names) ≡ false → repeats_after before (names ++ name ∷ []) ≡ false
repeats_more before [] name differ new = neither (is_among name before) false (ap (is_among name) (sym (append-nil before)) ∙ new) refl
repeats_more before (x ∷ xs) name differ new =
    let first = or_left (is_among x before) (repeats_after (before ++ x ∷ []) xs) differ in
    let rest = or_right (is_among x before) (repeats_after (before ++ x ∷ []) xs) differ in
    neither (is_among x before) (repeats_after (before ++ x ∷ []) (xs ++ name ∷ [])) first
    (repeats_more (before ++ x ∷ []) xs name rest (ap (is_among name) (append_assoc before (x ∷ []) xs) ∙ new))

module _ (names : List (List ℕ)) (line : List ℕ) (number : ℕ) (lines : List (List ℕ)) where
  -- a line that is no name
  pub bad_line : number ≡ length names + 1 → is_key_name line ≡ false → names_behind names (line ∷ lines) ≡ Err (BadName number)
  unfolding names_behind
  bad_line count none = rw (none, count) refl

  -- one whose name stands before
  pub name_again : number ≡ length names + 1 → is_key_name line ≡ true → is_among line names ≡ true → names_behind names (line ∷ lines) ≡ Err (DuplicateName number)
  unfolding names_behind
  name_again count is again = rw (is, again, count) refl

  -- one with a new name
  pub new_name : is_key_name line ≡ true → is_among line names ≡ false → names_behind names (line ∷ lines) ≡ names_behind (names ++ line ∷ []) lines
  unfolding names_behind
  new_name is new = rw (is, new) refl

-- no line is left
pub no_line_left : (before : List (List ℕ)) (text : List ℕ) → length text ≡ 0 → names_behind before (lines_of text) ≡ Ok before
unfolding names_behind
no_line_left before [] none = refl
no_line_left before (b ∷ bs) none = cc none

-- Names of keys, any number of them: which texts are names, those of a text, and how they are learned as they come.
use Rattle.std.specs.Prelude.{ℕ, ◌+◌, ◌&&◌, ◌==◌, Bool, not, nat_lt, List, [], ◌∷◌, ◌++◌, length, Result, Ok, Err, if◌then◌else◌}
use Rattle.std.specs.List.{list_any}
use Rattle.wsm_record.specs.Name.{is_among, is_between}
use Rattle.wsm_log.specs.LinesOf.{lines_of}
use Rattle.wsm_key_parts.specs.Names.{with_name}
use Rattle.wsm_key_names.specs.declared.names.TheConstants.{MAX_KEY_NAME}
use Rattle.wsm_key_names.specs.declared.refusal.KeyNamesRefusal.{KeyNamesRefusal}
use Rattle.wsm_key_names.specs.declared.refusal.KeyNamesRefusal.TheVariants.{BadName, DuplicateName}

-- 1 to 255 bytes without a line feed
abbrev pub is_key_name : List ℕ → Bool
is_key_name text = is_between 1 MAX_KEY_NAME (length text) && not (list_any (λ b. b == 10) text)

-- the names of lines, behind those of the lines before: each line is a name, and none stands before
unfoldable pub names_behind : List (List ℕ) → List (List ℕ) → Result (List (List ℕ)) KeyNamesRefusal
names_behind before [] = Ok before
names_behind before (line ∷ lines) =
    if is_key_name line then (if is_among line before then Err (DuplicateName (length before + 1)) else names_behind (before ++ line ∷ []) lines)
    else Err (BadName (length before + 1))

-- the names of a text, a line each
abbrev pub names_of_text : List ℕ → Result (List (List ℕ)) KeyNamesRefusal
names_of_text text = names_behind [] (lines_of text)

-- the names once a text came where a name stands: a new name is learned, as long as there are fewer than so many
abbrev pub learned : ℕ → List (List ℕ) → List ℕ → List (List ℕ)
learned most names text = if is_key_name text && nat_lt (length names) most then with_name names text else names

-- What is said of a text whose lines are no names of keys.
use Rattle.std.specs.Prelude.{ℕ, List, ◌++◌, codes}
use Rattle.std.specs.Fmt.{decimal}
use Rattle.wsm_key_names.specs.declared.refusal.KeyNamesRefusal.{KeyNamesRefusal}
use Rattle.wsm_key_names.specs.declared.refusal.KeyNamesRefusal.TheVariants.{BadName, DuplicateName, Memory}

-- as `K1 BadName in line 3`
abbrev pub refusal_text : KeyNamesRefusal → List ℕ
refusal_text (BadName line) = codes "K1 BadName in line " ++ decimal line
refusal_text (DuplicateName line) = codes "K2 DuplicateName in line " ++ decimal line
refusal_text Memory = codes "out of memory"

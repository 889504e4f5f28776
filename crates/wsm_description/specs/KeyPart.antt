-- Where the key stands, and how its text names it.
use Rattle.std.specs.Prelude.{ℕ, List, [], ◌∷◌, ◌++◌, reverse, codes, Option, Some, None, Result, Ok}
use Rattle.toml.specs.Data.{Data, Members, no_members, member, as_str}
use Rattle.wsm_description.specs.declared.description.Entry.{Entry}
use Rattle.wsm_description.specs.declared.description.KeyNaming.{KeyNaming}
use Rattle.wsm_description.specs.declared.description.KeyNaming.TheVariants.{Same, File, Prefixes}
use Rattle.wsm_description.specs.declared.description.KeyDescription.{KeyDescription}
use Rattle.wsm_description.specs.declared.keys.Section.TheVariants as section
use Rattle.wsm_description.specs.declared.refusal.SourceFault.TheVariants.{BadType}
use Rattle.wsm_description.specs.declared.refusal.Refusal.{Refusal}
use Rattle.wsm_description.specs.Refusals.{refused, on_ok}
use Rattle.wsm_description.specs.Keys.{known_keys}
use Rattle.wsm_description.specs.Reading.{text_at, required_text, table_at, required_table, absent}

abbrev pub text_or_refused : List ℕ → List ℕ → Option (List ℕ) → Result (List ℕ) Refusal
text_or_refused within key None = refused BadType within key
text_or_refused within key (Some text) = Ok text

abbrev pub text_of : List ℕ → List ℕ → Data → Result (List ℕ) Refusal
text_of within key d = text_or_refused within key (as_str d)

abbrev pub entry_of : List ℕ → List ℕ → Entry
entry_of text name = record { text = text; name = name }

-- the entries so far, and the members that are left, whose values are texts
abbrev pub texts_from : List ℕ → List Entry → Members → Result (List Entry) Refusal
texts_from within entries no_members = Ok entries
texts_from within entries (member key d ms) = on_ok (text_of within key d) (λ name. texts_from within (entries ++ entry_of key name ∷ []) ms)

abbrev pub texts_of : List ℕ → Members → Result (List Entry) Refusal
texts_of within ms = texts_from within [] ms

abbrev pub file_naming : Members → List ℕ → Result KeyNaming Refusal
file_naming ms file =
    on_ok (absent (codes "key") (codes "prefixes") ms) (λ _.
    on_ok (text_at (codes "key") (codes "other") ms) (λ other. Ok (File file other)))

-- the greater text in front
abbrev pub prefix_naming : Members → Members → Result KeyNaming Refusal
prefix_naming ms prefixes =
    on_ok (text_at (codes "key") (codes "other") ms) (λ other.
    on_ok (texts_of (codes "key.prefixes") prefixes) (λ entries. Ok (Prefixes (reverse entries) other)))

abbrev pub by_prefixes : Members → Option Members → Result KeyNaming Refusal
by_prefixes ms (Some prefixes) = prefix_naming ms prefixes
by_prefixes ms None = on_ok (absent (codes "key") (codes "other") ms) (λ _. Ok Same)

abbrev pub naming_without_file : Members → Result KeyNaming Refusal
naming_without_file ms = on_ok (table_at (codes "key") (codes "prefixes") ms) (by_prefixes ms)

abbrev pub by_file : Members → Option (List ℕ) → Result KeyNaming Refusal
by_file ms (Some file) = file_naming ms file
by_file ms None = naming_without_file ms

abbrev pub naming_of : Members → Result KeyNaming Refusal
naming_of ms = on_ok (text_at (codes "key") (codes "names") ms) (by_file ms)

abbrev pub key_in : Members → Result KeyDescription Refusal
key_in ms =
    on_ok (known_keys section.Key (codes "key") ms) (λ _.
    on_ok (required_text (codes "key") (codes "at") ms) (λ at.
    on_ok (naming_of ms) (λ naming. Ok (record { at = at; naming = naming }))))

abbrev pub key_of : Members → Result KeyDescription Refusal
key_of ms = on_ok (required_table (codes "") (codes "key") ms) key_in

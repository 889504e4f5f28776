-- The key and the time of a source, bound to a query.
use Rattle.std.specs.Prelude.{ℕ, List, [], ◌∷◌, ◌++◌, codes, position, bytes_eq, Option, Some, None, Result, Ok}
use Rattle.wsm_lines.specs.Entries.{entry_with}
use Rattle.wsm_lines.specs.declared.table.Entry.{Entry}
use Rattle.wsm_lines.specs.declared.source.KeyForm.{KeyForm}
use Rattle.wsm_lines.specs.declared.source.KeyNames.{KeyNames}
use Rattle.wsm_lines.specs.declared.source.KeyNames.TheVariants as names
use Rattle.wsm_lines.specs.declared.source.TimeAt.{TimeAt}
use Rattle.wsm_values.specs.declared.clock.Fold.TheVariants.{Refused}
use Rattle.wsm_values.specs.declared.time.TimeForm.{TimeForm}
use Rattle.wsm_values.specs.declared.time.TimeForm.TheVariants as forms
use Rattle.wsm_values.specs.declared.zone.Zone.{Zone}
use Rattle.wsm_description.specs.declared.description.Entry.{Entry as Said}
use Rattle.wsm_description.specs.declared.description.Format.{Format}
use Rattle.wsm_description.specs.declared.description.FormDescription.{FormDescription}
use Rattle.wsm_description.specs.declared.description.FormDescription.TheVariants.{Instant, Epoch, Fraction, Stamped, Local}
use Rattle.wsm_description.specs.declared.description.KeyDescription.{KeyDescription}
use Rattle.wsm_description.specs.declared.description.KeyNaming.{KeyNaming}
use Rattle.wsm_description.specs.declared.description.KeyNaming.TheVariants.{Same, File, Prefixes}
use Rattle.wsm_description.specs.declared.description.TimeDescription.{TimeDescription}
use Rattle.wsm_description.specs.declared.refusal.SourceFault.TheVariants.{UnknownName}
use Rattle.wsm_description.specs.declared.refusal.Refusal.{Refusal}
use Rattle.wsm_description.specs.Refusals.{refused, on_ok}
use Rattle.wsm_source.specs.Places.{place_of}
use Rattle.wsm_source.specs.Names.{names_of}

-- the number of a name, which is declared
abbrev pub or_unknown : List ℕ → List ℕ → Option ℕ → Result ℕ Refusal
or_unknown within key None = refused UnknownName within key
or_unknown within key (Some number) = Ok number

abbrev pub key_number : List (List ℕ) → List ℕ → List ℕ → List ℕ → Result ℕ Refusal
key_number keys within key name = or_unknown within key (position (bytes_eq name) keys)

abbrev pub other_number : List (List ℕ) → Option (List ℕ) → Result (Option ℕ) Refusal
other_number keys None = Ok None
other_number keys (Some name) = on_ok (key_number keys (codes "key") (codes "other") name) (λ number. Ok (Some number))

-- the entries so far, and those that are left
abbrev pub prefixes_from : List (List ℕ) → List Entry → List Said → Result (List Entry) Refusal
prefixes_from keys bound [] = Ok bound
prefixes_from keys bound (e ∷ es) =
    on_ok (key_number keys (codes "key.prefixes") e.text e.name) (λ number. prefixes_from keys (bound ++ entry_with e.text number ∷ []) es)

abbrev pub prefixes_of : List (List ℕ) → List Said → Result (List Entry) Refusal
prefixes_of keys entries = prefixes_from keys [] entries

-- how a text names a key, by the declared keys and the bytes of the names' file
abbrev pub key_names : List (List ℕ) → List ℕ → KeyNaming → Result KeyNames Refusal
key_names keys file Same = Ok names.Same
key_names keys file (File name other) = on_ok (other_number keys other) (λ o. on_ok (names_of keys file) (λ table. Ok (names.Table table o)))
key_names keys file (Prefixes entries other) =
    on_ok (other_number keys other) (λ o. on_ok (prefixes_of keys entries) (λ bound. Ok (names.Prefixes bound o)))

-- of a CSV's columns the key's is the first, and the time's the second
abbrev pub key_form : Format → List (List ℕ) → List ℕ → KeyDescription → Result KeyForm Refusal
key_form format keys file key =
    on_ok (place_of format 0 (codes "key") key.at) (λ at. on_ok (key_names keys file key.naming) (λ n. Ok (record { at = at; names = n })))

abbrev pub time_form : Zone → FormDescription → TimeForm
time_form zone Instant = forms.Instant
time_form zone (Epoch unit) = forms.Epoch unit
time_form zone Fraction = forms.Fraction
time_form zone (Stamped pattern) = forms.Local (record { pattern = pattern; fold = Refused; zone = zone })
time_form zone (Local pattern name fold) = forms.Local (record { pattern = pattern; fold = fold; zone = zone })

abbrev pub time_at : Format → Zone → TimeDescription → Result TimeAt Refusal
time_at format zone time =
    on_ok (place_of format 1 (codes "time") time.at) (λ at. Ok (record { at = at; form = time_form zone time.form; unit = time.unit }))

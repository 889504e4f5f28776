-- A source that was bound to a query reads keys and values of what the query declares.
use Rattle.std.proofs.Common.{◌≡◌, ℕ, ◌+◌, ◌<◌, ◌≤◌, Bool, true, false, ◌&&◌, List, [], ◌∷◌, ◌++◌, length, Option, Some, None, Ok, Err, refl, sym, subst, append_assoc, append-nil, arith}
use Rattle.std.specs.Prelude.{ℤ, negsuc, pos, Result, IfOk, IfSome, if◌then◌else◌, ◌==◌, ◌||◌, bytes_eq, codes, int_le, is_some, position, unwrap_or}
use Rattle.std.proofs.lemmas.Bool.{and_parts}
use Rattle.std.proofs.lemmas.Int.{ints}
use Rattle.wsm_record.specs.declared.event.Value.{Value}
use Rattle.wsm_record.specs.declared.event.Value.TheVariants as values
use Rattle.wsm_record.specs.Schema.{Declared, DeclaredField, FieldType, Int, Truth, Enum, are_fields_after, is_field_type, is_i64, is_schema}
use Rattle.wsm_lines.specs.Entries.{added, entry_with, number_in, unless_there}
use Rattle.wsm_lines.specs.Text.{unmarked}
use Rattle.wsm_lines.specs.declared.source.Field.{Field}
use Rattle.wsm_lines.specs.declared.source.Kind.TheVariants as kind
use Rattle.wsm_lines.specs.declared.table.Entry.{Entry}
use Rattle.wsm_values.specs.declared.zone.Zone.{Zone}
use Rattle.wsm_description.specs.declared.description.DecimalDescription.{DecimalDescription}
use Rattle.wsm_description.specs.declared.description.DefaultValue.{DefaultValue}
use Rattle.wsm_description.specs.declared.description.DefaultValue.TheVariants as default
use Rattle.wsm_description.specs.declared.description.Description.{Description}
use Rattle.wsm_description.specs.declared.description.Entry.{Entry as Said}
use Rattle.wsm_description.specs.declared.description.FieldDescription.{FieldDescription}
use Rattle.wsm_description.specs.declared.description.Format.{Format}
use Rattle.wsm_description.specs.declared.description.KeyDescription.{KeyDescription}
use Rattle.wsm_description.specs.declared.description.KeyNaming.{KeyNaming}
use Rattle.wsm_description.specs.declared.description.KeyNaming.TheVariants.{Same, File, Prefixes}
use Rattle.wsm_description.specs.declared.refusal.Refusal.{Refusal}
use Rattle.wsm_description.specs.declared.refusal.SourceFault.{SourceFault}
use Rattle.wsm_description.specs.declared.refusal.SourceFault.TheVariants.{BadRange}
use Rattle.wsm_description.specs.Reading.{at_key}
use Rattle.wsm_description.specs.Refusals.{dotted, on_ok}
use Rattle.wsm_source.specs.Binding.{bound, clock_column, clock_said, format_with, identifier_column}
use Rattle.wsm_source.specs.FieldBinding as fields
use Rattle.wsm_source.specs.FieldBinding.{all_declared, bound_in, default_or_none, described_field, enum_default, enum_table, field_or_plain, field_with, fields_from, fields_of, is_plain, kind_of, named_from, named_table, no_decimal, number_kind, plain_field, typed_default, unsaid, with_words, words_added}
use Rattle.wsm_source.specs.KeyBinding as keys
use Rattle.wsm_source.specs.KeyBinding.{key_form, key_names, key_number, other_number, prefixes_from, time_at}
use Rattle.wsm_source.specs.Names.{at_start, bad_line, begun, behind_quotes, behind_return, end_line, finish, in_key, in_plain, in_quotes, names_from, names_of, step, with_entry}
use Rattle.wsm_source.specs.NamesRead.{NamesRead}
use Rattle.wsm_source.specs.Places.{place_if, place_of}
use Rattle.wsm_source.specs.declared.names_part.Within.TheVariants.{Start, Plain, Quotes, Closed, Key, Return}
use Rattle.wsm_row_laws.specs.SaidRows.{is_of_type}
use Rattle.wsm_row_laws.proofs.ReadRows.{fields_listed, rest_listed, type_listed}
use Rattle.wsm_row_laws.proofs.Sayable.{AreBelow, FieldFits, FieldsFit, KindFits, NamesFit, SourceFits, below_length, both, few}

-- ---- what holds where nothing is refused

if_ok : {A B : Type 0} (P : B → Type 0) (Q : A → Type 0) (r : Result A Refusal) (f : A → Result B Refusal) → IfOk r Q → ((a : A) → Q a → IfOk (f a) P) → IfOk (on_ok r f) P
if_ok P Q (Ok a) f q h = h a q
if_ok P Q (Err why) f q h = tt

-- whatever it is
if_any : {A B : Type 0} (P : B → Type 0) (r : Result A Refusal) (f : A → Result B Refusal) → ((a : A) → IfOk (f a) P) → IfOk (on_ok r f) P
if_any P (Ok a) f h = h a
if_any P (Err why) f h = tt

either : {A : Type 0} (P : A → Type 0) (b : Bool) (x y : Result A Refusal) → IfOk x P → IfOk y P → IfOk (if b then x else y) P
either P true x y h k = h
either P false x y h k = k

-- ---- entries

below_append : (n : ℕ) (es fs : List Entry) → AreBelow n es → AreBelow n fs → AreBelow n (es ++ fs)
below_append n [] fs h k = k
below_append n (e ∷ es) fs h k = (h.0, below_append n es fs h.1 k)

below_added : (n : ℕ) (es : List Entry) (e : Entry) → AreBelow n es → e.number < n → AreBelow n (added es e)
below_added n es e h small = by (number_in es e.word)
  where
    by : (o : Option ℕ) → AreBelow n (unless_there es e o)
    by None = below_append n es (e ∷ []) h (small, tt)
    by (Some i) = h

-- ---- keys

key_known : (n : ℕ) (within key : List ℕ) (o : Option ℕ) → IfSome o (λ i. i < n) → IfOk (keys.or_unknown within key o) (λ i. i < n)
key_known n within key None h = tt
key_known n within key (Some i) h = h

key_declared : (ks : List (List ℕ)) (within key name : List ℕ) → IfOk (key_number ks within key name) (λ i. i < length ks)
key_declared ks within key name = key_known (length ks) within key (position (bytes_eq name) ks) (below_length (bytes_eq name) ks)

other_declared : (ks : List (List ℕ)) (other : Option (List ℕ)) → IfOk (other_number ks other) (λ o. IfSome o (λ i. i < length ks))
other_declared ks None = tt
other_declared ks (Some name) =
    if_ok (λ o. IfSome o (λ i. i < length ks)) (λ i. i < length ks) (key_number ks (codes "key") (codes "other") name) (λ number. Ok (Some number))
    (key_declared ks (codes "key") (codes "other") name) (λ i h. h)

prefixes_below : (ks : List (List ℕ)) (table : List Entry) (es : List Said) → AreBelow (length ks) table → IfOk (prefixes_from ks table es) (AreBelow (length ks))
prefixes_below ks table [] h = h
prefixes_below ks table (e ∷ es) h =
    if_ok (AreBelow (length ks)) (λ i. i < length ks) (key_number ks (codes "key.prefixes") e.text e.name) (λ number. prefixes_from ks (table ++ entry_with e.text number ∷ []) es)
    (key_declared ks (codes "key.prefixes") e.text e.name)
    (λ i small. prefixes_below ks (table ++ entry_with e.text i ∷ []) es (below_append (length ks) table (entry_with e.text i ∷ []) h (small, tt)))

-- ---- the file of names

abbrev Keeps : ℕ → Result NamesRead Refusal → Type 0
Keeps n r = IfOk r (λ (q : NamesRead). AreBelow n q.entries)

module _ (ks : List (List ℕ)) (r : NamesRead) (h : AreBelow (length ks) r.entries) where
  entered : (o : Option ℕ) → IfSome o (λ i. i < length ks) → Keeps (length ks) (with_entry r o)
  entered None k = tt
  entered (Some i) k = below_added (length ks) r.entries (entry_with r.text i) h k

  ended : Keeps (length ks) (end_line ks r)
  ended = entered (position (bytes_eq r.key) ks) (below_length (bytes_eq r.key) ks)

  plain_keeps : (byte : ℕ) → Keeps (length ks) (in_plain r byte)
  plain_keeps byte = either _ (byte == 44) _ _ h (either _ (byte == 10 || byte == 34) _ _ tt h)

  start_keeps : (byte : ℕ) → Keeps (length ks) (at_start r byte)
  start_keeps byte = either _ (byte == 34) _ _ h (plain_keeps byte)

  quotes_keep : (byte : ℕ) → Keeps (length ks) (in_quotes r byte)
  quotes_keep byte = either _ (byte == 34) _ _ h (either _ (byte == 10) _ _ tt h)

  closed_keeps : (byte : ℕ) → Keeps (length ks) (behind_quotes r byte)
  closed_keeps byte = either _ (byte == 34) _ _ h (either _ (byte == 44) _ _ h tt)

  key_keeps : (byte : ℕ) → Keeps (length ks) (in_key ks r byte)
  key_keeps byte = either _ (byte == 10) _ _ ended (either _ (byte == 13) _ _ h h)

  return_keeps : (byte : ℕ) → Keeps (length ks) (behind_return ks r byte)
  return_keeps byte = either _ (byte == 10) _ _ ended tt

  step_keeps : (byte : ℕ) → Keeps (length ks) (step ks r byte)
  step_keeps byte =
      elim (r.within) as (λ w. Keeps (length ks) (elim w as (λ x. Result NamesRead Refusal) [ Start ↦ at_start r byte | Plain ↦ in_plain r byte | Quotes ↦ in_quotes r byte | Closed ↦ behind_quotes r byte | Key ↦ in_key ks r byte | Return ↦ behind_return ks r byte ])) [
        | Start ↦ start_keeps byte
        | Plain ↦ plain_keeps byte
        | Quotes ↦ quotes_keep byte
        | Closed ↦ closed_keeps byte
        | Key ↦ key_keeps byte
        | Return ↦ return_keeps byte
      ]

  last_keeps : IfOk (on_ok (end_line ks r) (λ q. Ok q.entries)) (AreBelow (length ks))
  last_keeps = if_ok (AreBelow (length ks)) (λ (q : NamesRead). AreBelow (length ks) q.entries) (end_line ks r) (λ q. Ok q.entries) ended (λ q k. k)

  finish_keeps : IfOk (finish ks r) (AreBelow (length ks))
  finish_keeps =
      elim (r.within) as (λ w. IfOk (elim w as (λ x. Result (List Entry) Refusal) [ Start ↦ Ok r.entries | Plain ↦ Err (bad_line r.line) | Quotes ↦ Err (bad_line r.line) | Closed ↦ Err (bad_line r.line) | Key ↦ on_ok (end_line ks r) (λ q. Ok q.entries) | Return ↦ on_ok (end_line ks r) (λ q. Ok q.entries) ]) (AreBelow (length ks))) [
        | Start ↦ h
        | Plain ↦ tt
        | Quotes ↦ tt
        | Closed ↦ tt
        | Key ↦ last_keeps
        | Return ↦ last_keeps
      ]

names_below : (ks : List (List ℕ)) (r : NamesRead) (text : List ℕ) → AreBelow (length ks) r.entries → IfOk (names_from ks r text) (AreBelow (length ks))
names_below ks r [] h = finish_keeps ks r h
names_below ks r (byte ∷ bytes) h =
    if_ok (AreBelow (length ks)) (λ (q : NamesRead). AreBelow (length ks) q.entries) (step ks r byte) (λ q. names_from ks q bytes) (step_keeps ks r h byte) (λ q k. names_below ks q bytes k)

naming_fits : (ks : List (List ℕ)) (file : List ℕ) (naming : KeyNaming) → IfOk (key_names ks file naming) (NamesFit (length ks))
naming_fits ks file Same = tt
naming_fits ks file (File name other) =
    if_ok (NamesFit (length ks)) (λ o. IfSome o (λ i. i < length ks)) (other_number ks other) _ (other_declared ks other)
    (λ o small. if_ok (NamesFit (length ks)) (AreBelow (length ks)) (names_of ks file) _ (names_below ks begun (unmarked true file) tt) (λ table h. (h, small)))
naming_fits ks file (Prefixes entries other) =
    if_ok (NamesFit (length ks)) (λ o. IfSome o (λ i. i < length ks)) (other_number ks other) _ (other_declared ks other)
    (λ o small. if_ok (NamesFit (length ks)) (AreBelow (length ks)) (prefixes_from ks [] entries) _ (prefixes_below ks [] entries tt) (λ table h. (h, small)))

form_fits : (format : Format) (ks : List (List ℕ)) (file : List ℕ) (key : KeyDescription) → IfOk (key_form format ks file key) (λ k. NamesFit (length ks) k.names)
form_fits format ks file key =
    if_any _ (place_of format 0 (codes "key") key.at) _
    (λ at. if_ok _ (NamesFit (length ks)) (key_names ks file key.naming) _ (naming_fits ks file key.naming) (λ n h. h))

-- ---- fields

number_fits : (lo hi : ℤ) (d : DecimalDescription) → KindFits (Int lo hi) (number_kind d)
number_fits lo hi d = by (is_plain d)
  where
    by : (b : Bool) → KindFits (Int lo hi) (if b then kind.Whole else kind.Decimal (record { point = unwrap_or d.point 46; group = d.group; scale = unwrap_or d.scale 0 }))
    by true = tt
    by false = tt

named_below : (n : ℕ) (table : List Entry) (number : ℕ) (ns : List (List ℕ)) → AreBelow n table → number + length ns ≤ n → AreBelow n (named_from table number ns)
named_below n table number [] h few = h
named_below n table number (x ∷ xs) h few = named_below n (added table (entry_with x number)) (number + 1) xs (below_added n table (entry_with x number) h (omega arith)) (omega arith)

name_known : (n : ℕ) (within key : List ℕ) (o : Option ℕ) → IfSome o (λ i. i < n) → IfOk (fields.or_unknown within key o) (λ i. i < n)
name_known n within key None h = tt
name_known n within key (Some i) h = h

words_below : (within : List ℕ) (ns : List (List ℕ)) (table : List Entry) (es : List Said) → AreBelow (length ns) table → IfOk (words_added within ns table es) (AreBelow (length ns))
words_below within ns table [] h = h
words_below within ns table (e ∷ es) h =
    if_ok (AreBelow (length ns)) (λ i. i < length ns) (fields.word_number within ns e) _ (name_known (length ns) within e.text (position (bytes_eq e.name) ns) (below_length (bytes_eq e.name) ns))
    (λ i small. words_below within ns (added table (entry_with e.text i)) es (below_added (length ns) table (entry_with e.text i) h small))

table_below : (within : List ℕ) (ns : List (List ℕ)) (table : List Entry) (words : Option (List Said)) → AreBelow (length ns) table → IfOk (with_words within ns table words) (AreBelow (length ns))
table_below within ns table None h = h
table_below within ns table (Some es) h = words_below (dotted within (codes "words")) ns table es h

kind_fits : (within : List ℕ) (type : FieldType) (f : FieldDescription) → IfOk (kind_of within type f) (KindFits type)
kind_fits within (Int lo hi) f =
    if_any (KindFits (Int lo hi)) (unsaid within (codes "true") (is_some f.truths)) _
    (λ a. if_any (KindFits (Int lo hi)) (unsaid within (codes "words") (is_some f.words)) _ (λ b. number_fits lo hi f.decimal))
kind_fits within Truth f =
    if_any (KindFits Truth) (no_decimal within f.decimal) _
    (λ a. if_any (KindFits Truth) (unsaid within (codes "words") (is_some f.words)) _ (λ b. tt {0}))
kind_fits within (Enum ns) f =
    if_any (KindFits (Enum ns)) (no_decimal within f.decimal) _
    (λ a. if_any (KindFits (Enum ns)) (unsaid within (codes "true") (is_some f.truths)) _
    (λ b. if_ok (KindFits (Enum ns)) (AreBelow (length ns)) (enum_table within ns f) _ (table_below within ns (named_table ns) f.words (named_below (length ns) [] 0 ns tt (omega arith))) (λ table h. h)))

-- ---- defaults

abbrev IsTyped : FieldType → Value → Type 0
IsTyped type v = is_of_type type v ≡ true

between : (lo n hi : ℤ) → is_i64 lo ≡ true → is_i64 hi ≡ true → int_le lo n && int_le n hi ≡ true → is_i64 n ≡ true
between lo n hi l h is =
    let a = and_parts (int_le (negsuc 9223372036854775807) lo) (int_le lo (pos 9223372036854775807)) l in
    let b = and_parts (int_le (negsuc 9223372036854775807) hi) (int_le hi (pos 9223372036854775807)) h in
    let c = and_parts (int_le lo n) (int_le n hi) is in
    both _ _ (through (negsuc 9223372036854775807) lo n a.0 c.0) (through n hi (pos 9223372036854775807) c.1 b.1)
  where
    through : (x y z : ℤ) → int_le x y ≡ true → int_le y z ≡ true → int_le x z ≡ true
    through x y z p q = grind (arith, ints)

enum_typed : (ns : List (List ℕ)) (o : Option ℕ) → IfSome o (λ i. i < length ns) → IfOk (enum_default o) (IsTyped (Enum ns))
enum_typed ns None h = tt
enum_typed ns (Some i) h = few i (length ns) h

default_typed : (type : FieldType) (d : DefaultValue) → is_field_type type ≡ true → IfOk (typed_default type d) (IsTyped type)
default_typed (Int lo hi) (default.Whole n) t = by (int_le lo n && int_le n hi) refl
  where
    by : (b : Bool) → int_le lo n && int_le n hi ≡ b → IfOk (if b then Ok (values.Int n) else Err BadRange) (IsTyped (Int lo hi))
    by true is = let parts = and_parts (is_i64 lo) (is_i64 hi && int_le lo hi) t in between lo n hi parts.0 (and_parts (is_i64 hi) (int_le lo hi) parts.1).0 is
    by false is = tt
default_typed (Int lo hi) (default.Truth b) t = tt
default_typed (Int lo hi) (default.Name name) t = tt
default_typed Truth (default.Whole n) t = tt
default_typed Truth (default.Truth b) t = refl
default_typed Truth (default.Name name) t = tt
default_typed (Enum ns) (default.Whole n) t = tt
default_typed (Enum ns) (default.Truth b) t = tt
default_typed (Enum ns) (default.Name name) t = enum_typed ns (position (bytes_eq name) ns) (below_length (bytes_eq name) ns)

default_fits : (within : List ℕ) (type : FieldType) (d : Option DefaultValue) → is_field_type type ≡ true → IfOk (default_or_none within type d) (λ o. IfSome o (IsTyped type))
default_fits within type None t = tt
default_fits within type (Some d) t = if_ok (λ o. IfSome o (IsTyped type)) (IsTyped type) _ (λ value. Ok (Some value)) (keyed (typed_default type d) (default_typed type d t)) (λ v h. h)
  where
    keyed : (r : Result Value SourceFault) → IfOk r (IsTyped type) → IfOk (at_key within (codes "default") r) (IsTyped type)
    keyed (Ok v) h = h
    keyed (Err why) h = tt

-- ---- all fields

module _ (format : Format) (d : DeclaredField) (t : is_field_type d.type ≡ true) where
  bound_fits : (within : List ℕ) (column : ℕ) (f : FieldDescription) → IfOk (bound_in within format column d.type f) (FieldFits d)
  bound_fits within column f =
      if_ok (FieldFits d) (λ o. IfSome o (IsTyped d.type)) (default_or_none within d.type f.default) _ (default_fits within d.type f.default t)
      (λ o typed. if_any (FieldFits d) (place_of format column within f.at) _
      (λ at. if_ok (FieldFits d) (KindFits d.type) (kind_of within d.type f) _ (kind_fits within d.type f) (λ k is. record { kind = is; default = typed })))

  described_fits : (column : ℕ) (o : Option FieldDescription) → IfOk (field_or_plain format column d o) (FieldFits d)
  described_fits column (Some f) = bound_fits (dotted (codes "fields") f.name) column f
  described_fits column None = if_any (FieldFits d) (plain_field d.name) _ (λ f. bound_fits (dotted (codes "fields") f.name) column f)

fit_append : (ds es : List DeclaredField) (fs gs : List Field) → FieldsFit ds fs → FieldsFit es gs → FieldsFit (ds ++ es) (fs ++ gs)
fit_append [] es [] gs h k = k
fit_append [] es (f ∷ fs) gs h k = absurd h
fit_append (d ∷ ds) es [] gs h k = absurd h
fit_append (d ∷ ds) es (f ∷ fs) gs h k = (h.0, fit_append ds es fs gs h.1 k)

fields_fit : (format : Format) (described : List FieldDescription) (column : ℕ) (before : List (List ℕ)) (done ds : List DeclaredField) (fs : List Field) → are_fields_after before ds ≡ true → FieldsFit done fs
    → IfOk (fields_from format described column fs ds) (FieldsFit (done ++ ds))
fields_fit format described column before done [] fs t h = subst (λ (xs : List DeclaredField). FieldsFit xs fs) (sym (append-nil done)) h
fields_fit format described column before done (d ∷ ds) fs t h =
    if_ok (FieldsFit (done ++ d ∷ ds)) (FieldFits d) (field_with format column described d) (λ f. fields_from format described (column + 1) (fs ++ f ∷ []) ds)
    (described_fits format d (type_listed before d ds t) column (described_field described d.name))
    (λ f is. subst (λ (xs : List DeclaredField). IfOk (fields_from format described (column + 1) (fs ++ f ∷ []) ds) (FieldsFit xs)) (append_assoc done (d ∷ []) ds)
    (fields_fit format described (column + 1) (before ++ d.name ∷ []) (done ++ d ∷ []) ds (fs ++ f ∷ []) (rest_listed before d ds t) (fit_append done (d ∷ []) fs (f ∷ []) h (is, tt))))

-- ---- sources

pub bound_fit : (x : Description) (d : Declared) (zone : Zone) (file : List ℕ) → is_schema d ≡ true → IfOk (bound x d zone file) (SourceFits d)
bound_fit x d zone file t =
    if_any (SourceFits d) (all_declared d.fields x.fields) _
    (λ a. if_ok (SourceFits d) (λ k. NamesFit (length d.keys) k.names) (key_form x.format d.keys file x.key) _ (form_fits x.format d.keys file x.key)
    (λ key names. if_any (SourceFits d) (time_at x.format zone x.time) _
    (λ time. if_ok (SourceFits d) (FieldsFit d.fields) (fields_of x.format x.fields d.fields) _ (fields_fit x.format x.fields 2 [] [] d.fields [] (fields_listed d t) tt)
    (λ fs fit. if_any (SourceFits d) (place_if x.format (identifier_column d.fields) (codes "identifier") x.identifier) _
    (λ identifier. if_any (SourceFits d) (place_if x.format (clock_column x.identifier d.fields) (codes "clock") (clock_said x.clock)) _
    (λ clock. if_any (SourceFits d) (format_with x d.fields) _
    (λ format. record { names = names; fields = fit })))))))

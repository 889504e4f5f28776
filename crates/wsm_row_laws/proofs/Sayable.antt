-- What lines say by a source that was bound to a query: of declared keys, with times of 64 bits and values of their fields' types.
use Rattle.std.proofs.Common.{◌≡◌, ℕ, zero, suc, ◌-◌, ◌<◌, ◌^◌, Bool, true, false, ◌&&◌, List, [], ◌∷◌, ◌++◌, length, Option, Some, None, Ok, Err, refl, sym, subst, append_assoc, append-nil, arith}
use Rattle.std.specs.Prelude.{ℤ, pos, negsuc, neg_ℤ, Result, IfOk, IfSome, if◌then◌else◌, bytes_eq, int_lt, nat_le, nat_lt, option_and_then, option_map, position, ⊤}
use Rattle.std.specs.Str.{is_utf8}
use Rattle.std.proofs.lemmas.Bool.Decides.{nat_tests}
use Rattle.std.proofs.lemmas.List.Quantifiers.{position-Some}
use Rattle.wsm_record.specs.declared.event.Value.{Value}
use Rattle.wsm_record.specs.declared.event.Value.TheVariants as values
use Rattle.wsm_record.specs.Event.{Event, Record}
use Rattle.wsm_record.specs.Schema.{Declared, DeclaredField, FieldType, Int, Truth, Enum, is_i64}
use Rattle.wsm_values.specs.Decimal.{decimal_of, magnitude_of, plain, signed}
use Rattle.wsm_values.specs.Time.{floor_to, in_word, instant_of, time_of}
use Rattle.wsm_values.specs.declared.decimal.DecimalForm.{DecimalForm}
use Rattle.wsm_values.specs.declared.time.TimeForm.{TimeForm}
use Rattle.wsm_values.specs.declared.time.Unit.{Unit}
use Rattle.wsm_lines.specs.Entries.{number_in, number_begun}
use Rattle.wsm_lines.specs.Event.{decimal_in, event_in, field_in, field_value, is_key, key_named, key_number, key_of, or_other, text_of, time_at, time_in, truth_of, value_in, values_from, values_of, word_in}
use Rattle.wsm_lines.specs.Fault.{on_ok, or_fault}
use Rattle.wsm_lines.specs.Identifier.{identifier_at}
use Rattle.wsm_lines.specs.Said.{event_by, said_of, taken_of}
use Rattle.wsm_lines.specs.Scalar.{Scalar, Taken, absent, odd, text, number, scalar_at}
use Rattle.wsm_lines.specs.declared.fault.LineFault.{LineFault}
use Rattle.wsm_lines.specs.declared.fault.LineFault.TheVariants.{BadKey, BadTime, NoKey, NoTime}
use Rattle.wsm_lines.specs.declared.source.Field.{Field}
use Rattle.wsm_lines.specs.declared.source.KeyForm.{KeyForm}
use Rattle.wsm_lines.specs.declared.source.KeyNames.{KeyNames}
use Rattle.wsm_lines.specs.declared.source.KeyNames.TheVariants as names
use Rattle.wsm_lines.specs.declared.source.Kind.{Kind}
use Rattle.wsm_lines.specs.declared.source.Kind.TheVariants as kind
use Rattle.wsm_lines.specs.declared.source.Source.{Source}
use Rattle.wsm_lines.specs.declared.source.TimeAt.{TimeAt}
use Rattle.wsm_lines.specs.declared.table.Entry.{Entry}
use Rattle.wsm_row_laws.specs.SaidRows.{AreSayable, IsKey, IsSayable, are_of_types, is_of_type, said}

-- ---- what holds of what there is

pub if_ok : {A B : Type 0} (P : B → Type 0) (Q : A → Type 0) (r : Result A LineFault) (f : A → Result B LineFault) → IfOk r Q → ((a : A) → Q a → IfOk (f a) P) → IfOk (on_ok r f) P
if_ok P Q (Ok a) f q h = h a q
if_ok P Q (Err why) f q h = tt

pub any : {A : Type 0} (r : Result A LineFault) → IfOk r (λ a. ⊤)
any (Ok a) = tt
any (Err why) = tt

if_there : {A B : Type 0} (P : B → Type 0) (f : A → Option B) (o : Option A) → ((a : A) → IfSome (f a) P) → IfSome (option_and_then f o) P
if_there P f None h = tt
if_there P f (Some a) h = h a

if_mapped : {A B : Type 0} (P : B → Type 0) (Q : A → Type 0) (f : A → B) (o : Option A) → IfSome o Q → ((a : A) → Q a → P (f a)) → IfSome (option_map f o) P
if_mapped P Q f None q h = tt
if_mapped P Q f (Some a) q h = h a q

if_either : {A : Type 0} (P : A → Type 0) (b : Bool) (x y : Option A) → (b ≡ true → IfSome x P) → (b ≡ false → IfSome y P) → IfSome (if b then x else y) P
if_either P true x y h k = h refl
if_either P false x y h k = k refl

if_found : {A : Type 0} (P : A → Type 0) (why : LineFault) (o : Option A) → IfSome o P → IfOk (or_fault why o) P
if_found P why None h = tt
if_found P why (Some a) h = h

-- ---- numbers of 64 bits

abbrev Is64 : ℤ → Type 0
Is64 n = is_i64 n ≡ true

signed_64 : (b : Bool) (parts : ℕ) → IfSome (signed b parts) Is64
signed_64 true parts = if_either Is64 (nat_le parts (2 ^ 63)) (Some (neg_ℤ (pos parts))) None (negative parts) (λ h. tt)
  where
    negative : (n : ℕ) → nat_le n 9223372036854775808 ≡ true → Is64 (neg_ℤ (pos n))
    negative zero h = refl
    negative (suc n) h = grind (arith, nat_tests, h)
signed_64 false parts = if_either Is64 (nat_lt parts (2 ^ 63)) (Some (pos parts)) None (λ h. grind (arith, nat_tests, h)) (λ h. tt)

decimal_64 : (form : DecimalForm) (s : List ℕ) → IfSome (decimal_of form s) Is64
unfolding decimal_of
decimal_64 form [] = tt
decimal_64 form (first ∷ rest) =
    if_either Is64 _ (option_and_then (signed true) (magnitude_of form rest)) (option_and_then (signed false) (magnitude_of form (first ∷ rest)))
    (λ h. if_there Is64 (signed true) (magnitude_of form rest) (signed_64 true))
    (λ h. if_there Is64 (signed false) (magnitude_of form (first ∷ rest)) (signed_64 false))

word_64 : (z : ℤ) → IfSome (in_word z) Is64
word_64 z =
    if_either Is64 (int_lt z (neg_ℤ (pos (2 ^ 63)))) None (if int_lt (pos (2 ^ 63 - 1)) z then None else Some z) (λ h. tt)
    (λ low. if_either Is64 (int_lt (pos (2 ^ 63 - 1)) z) None (Some z) (λ h. tt) (λ high. within z low high))
  where
    within : (z : ℤ) → int_lt z (neg_ℤ (pos 9223372036854775808)) ≡ false → int_lt (pos 9223372036854775807) z ≡ false → Is64 z
    within (pos n) low high = grind (arith, nat_tests, high)
    within (negsuc n) low high = grind (arith, nat_tests, low)

time_64 : (form : TimeForm) (unit : Unit) (s : List ℕ) → IfSome (time_of form unit s) Is64
unfolding time_of
time_64 form unit s = if_there Is64 (λ nanos. in_word (floor_to unit nanos)) (instant_of form s) (λ nanos. word_64 (floor_to unit nanos))

-- ---- numbers of keys and of names

-- each entry has a number below a bound
abbrev pub AreBelow : ℕ → List Entry → Type 0
AreBelow n [] = ⊤
AreBelow n (e ∷ es) = (e.number < n) × AreBelow n es

below_in : (n : ℕ) (es : List Entry) (s : List ℕ) → AreBelow n es → IfSome (number_in es s) (λ i. i < n)
below_in n [] s h = tt
below_in n (e ∷ es) s h = if_either (λ i. i < n) (bytes_eq s e.word) (Some e.number) (number_in es s) (λ b. h.0) (λ b. below_in n es s h.1)

below_begun : (n : ℕ) (es : List Entry) (s : List ℕ) → AreBelow n es → IfSome (number_begun es s) (λ i. i < n)
below_begun n [] s h = tt
below_begun n (e ∷ es) s h = if_either (λ i. i < n) _ (Some e.number) (number_begun es s) (λ b. h.0) (λ b. below_begun n es s h.1)

pub below_length : (test : List ℕ → Bool) (xs : List (List ℕ)) → IfSome (position test xs) (λ i. i < length xs)
below_length test xs = at (position test xs) refl
  where
    at : (o : Option ℕ) → position test xs ≡ o → IfSome o (λ i. i < length xs)
    at None is = tt
    at (Some i) is = (position-Some test xs i [] is).0

-- how texts name keys, by numbers of declared ones
abbrev pub NamesFit : ℕ → KeyNames → Type 0
NamesFit n names.Same = ⊤
NamesFit n (names.Table entries other) = AreBelow n entries × IfSome other (λ i. i < n)
NamesFit n (names.Prefixes entries other) = AreBelow n entries × IfSome other (λ i. i < n)

declared_or : (d : Declared) (o : Option ℕ) → IfSome o (λ i. i < length d.keys) → IsKey d o
declared_or d None h = tt
declared_or d (Some i) h = h

other_or : (n : ℕ) (other found : Option ℕ) → IfSome other (λ i. i < n) → IfSome found (λ i. i < n) → IfSome (or_other other found) (λ i. i < n)
other_or n other None h k = h
other_or n other (Some i) h k = k

named_fits : (d : Declared) (form : KeyNames) (s : List ℕ) → NamesFit (length d.keys) form → IsKey d (key_number form d s)
named_fits d names.Same s h = declared_or d _ (below_length (bytes_eq s) d.keys)
named_fits d (names.Table entries other) s h = declared_or d _ (other_or (length d.keys) other (number_in entries s) h.1 (below_in (length d.keys) entries s h.0))
named_fits d (names.Prefixes entries other) s h = declared_or d _ (other_or (length d.keys) other (number_begun entries s) h.1 (below_begun (length d.keys) entries s h.0))

key_fits : (d : Declared) (key : KeyForm) (taken : Taken) → NamesFit (length d.keys) key.names → IfOk (key_of key d taken) (IsKey d)
key_fits d key taken h = if_ok (IsKey d) (λ s. ⊤) (text_of NoKey BadKey (scalar_at taken key.at)) (key_named key.names d) (any _) (λ s t. named s (is_key s))
  where
    named : (s : List ℕ) (b : Bool) → IfOk (if b then Ok (key_number key.names d s) else Err BadKey) (IsKey d)
    named s true = named_fits d key.names s h
    named s false = tt

time_fits : (time : TimeAt) (taken : Taken) → IfOk (time_at time taken) Is64
time_fits time taken = if_ok Is64 (λ s. ⊤) (text_of NoTime BadTime (scalar_at taken time.at)) (λ s. or_fault BadTime (time_in time s)) (any _) (λ s t. if_found Is64 BadTime (time_in time s) (of_text s (is_utf8 s)))
  where
    of_text : (s : List ℕ) (b : Bool) → IfSome (if b then time_of time.form time.unit s else None) Is64
    of_text s true = time_64 time.form time.unit s
    of_text s false = tt

-- ---- values

-- what a kind of reading gives is of a field's type
abbrev pub KindFits : FieldType → Kind → Type 0
KindFits (Int lo hi) kind.Whole = ⊤
KindFits (Int lo hi) (kind.Decimal form) = ⊤
KindFits Truth (kind.Bool words) = ⊤
KindFits (Enum ns) (kind.Enum table) = AreBelow (length ns) table
KindFits _ _ = ⊥

pub record FieldFits (d : DeclaredField) (f : Field) : Type 0 where
  pub kind : KindFits d.type f.kind
  pub default : IfSome f.default (λ v. is_of_type d.type v ≡ true)

abbrev pub FieldsFit : List DeclaredField → List Field → Type 0
FieldsFit [] [] = ⊤
FieldsFit (d ∷ ds) (f ∷ fs) = FieldFits d f × FieldsFit ds fs
FieldsFit _ _ = ⊥

number_64 : (form : DecimalForm) (s : Scalar) → IfSome (decimal_in form s) Is64
number_64 form absent = tt
number_64 form odd = tt
number_64 form (text s) = decimal_64 form s
number_64 form (number s) = decimal_64 (plain form.scale) s

pub few : (i n : ℕ) → i < n → nat_lt i n ≡ true
few i n h = grind (arith, nat_tests, h)

any_there : {A : Type 0} (o : Option A) → IfSome o (λ a. ⊤)
any_there None = tt
any_there (Some a) = tt

value_fits : (type : FieldType) (k : Kind) (s : Scalar) → KindFits type k → IfSome (value_in k s) (λ v. is_of_type type v ≡ true)
value_fits (Int lo hi) kind.Whole s h = if_mapped (λ v. is_of_type (Int lo hi) v ≡ true) Is64 values.Int (decimal_in (plain 0) s) (number_64 (plain 0) s) (λ n is. is)
value_fits (Int lo hi) (kind.Decimal form) s h = if_mapped (λ v. is_of_type (Int lo hi) v ≡ true) Is64 values.Int (decimal_in form s) (number_64 form s) (λ n is. is)
value_fits (Int lo hi) (kind.Bool words) s h = absurd h
value_fits (Int lo hi) (kind.Enum table) s h = absurd h
value_fits Truth kind.Whole s h = absurd h
value_fits Truth (kind.Decimal form) s h = absurd h
value_fits Truth (kind.Bool words) s h = if_mapped (λ v. is_of_type Truth v ≡ true) (λ b. ⊤) values.Bool (option_and_then (truth_of words) (word_in s)) (any_there _) (λ b t. refl)
value_fits Truth (kind.Enum table) s h = absurd h
value_fits (Enum ns) kind.Whole s h = absurd h
value_fits (Enum ns) (kind.Decimal form) s h = absurd h
value_fits (Enum ns) (kind.Bool words) s h = absurd h
value_fits (Enum ns) (kind.Enum table) s h =
    if_mapped (λ v. is_of_type (Enum ns) v ≡ true) (λ i. i < length ns) values.Enum (option_and_then (number_in table) (word_in s))
    (if_there (λ i. i < length ns) (number_in table) (word_in s) (λ t. below_in (length ns) table t h)) (λ i is. few i (length ns) is)

field_fits : (d : DeclaredField) (f : Field) (s : Scalar) → FieldFits d f → IfOk (field_in f s) (λ v. is_of_type d.type v ≡ true)
field_fits d f absent h = if_found _ _ f.default h.default
field_fits d f odd h = tt
field_fits d f (text s) h = if_found _ _ (value_in f.kind (text s)) (value_fits d.type f.kind (text s) h.kind)
field_fits d f (number s) h = if_found _ _ (value_in f.kind (number s)) (value_fits d.type f.kind (number s) h.kind)

-- behind the values so far stand others, of the types of the fields that are left
record Follow (ds : List DeclaredField) (vs all : List Value) : Type 0 where
  others : List Value
  all_are : all ≡ vs ++ others
  types : are_of_types ds others ≡ true

pub both : (a b : Bool) → a ≡ true → b ≡ true → a && b ≡ true
both a b x y = cc

values_follow : (ds : List DeclaredField) (fs : List Field) (taken : Taken) (vs : List Value) → FieldsFit ds fs → IfOk (values_from vs fs taken) (Follow ds vs)
values_follow [] [] taken vs h = record { others = []; all_are = sym (append-nil vs); types = refl }
values_follow [] (f ∷ fs) taken vs h = absurd h
values_follow (d ∷ ds) [] taken vs h = absurd h
values_follow (d ∷ ds) (f ∷ fs) taken vs h =
    if_ok (Follow (d ∷ ds) vs) (λ v. is_of_type d.type v ≡ true) (field_value f taken) (λ v. values_from (vs ++ v ∷ []) fs taken) (field_fits d f (scalar_at taken f.at) h.0)
    (λ v is. one_more v is (values_from (vs ++ v ∷ []) fs taken) (values_follow ds fs taken (vs ++ v ∷ []) h.1))
  where
    one_more : (v : Value) → is_of_type d.type v ≡ true → (r : Result (List Value) LineFault) → IfOk r (Follow ds (vs ++ v ∷ [])) → IfOk r (Follow (d ∷ ds) vs)
    one_more v is (Ok all) rest = record { others = v ∷ rest.others; all_are = simp append_assoc at rest.all_are; types = both _ _ is rest.types }
    one_more v is (Err why) rest = tt

values_fit : (ds : List DeclaredField) (fs : List Field) (taken : Taken) → FieldsFit ds fs → IfOk (values_of fs taken) (λ vs. are_of_types ds vs ≡ true)
values_fit ds fs taken h = whole (values_of fs taken) (values_follow ds fs taken [] h)
  where
    whole : (r : Result (List Value) LineFault) → IfOk r (Follow ds []) → IfOk r (λ vs. are_of_types ds vs ≡ true)
    whole (Ok vs) f = subst (λ (xs : List Value). are_of_types ds xs ≡ true) (sym f.all_are) f.types
    whole (Err why) f = tt

-- ---- lines

-- a source reads keys and values of what is declared
pub record SourceFits (d : Declared) (s : Source) : Type 0 where
  pub names : NamesFit (length d.keys) s.key.names
  pub fields : FieldsFit d.fields s.fields

sayable_event : (d : Declared) (s : Source) (taken : Taken) → SourceFits d s → IfOk (event_in s d taken) (λ e. IsSayable d (Ok e))
sayable_event d s taken h =
    if_ok (λ e. IsSayable d (Ok e)) (λ e. IsSayable d (Ok e)) _ _
    (if_ok (λ e. IsSayable d (Ok e)) (IsKey d) (key_of s.key d taken) _ (key_fits d s.key taken h.names)
    (λ key is_key. if_ok (λ e. IsSayable d (Ok e)) Is64 (time_at s.time taken) _ (time_fits s.time taken)
    (λ time is_time. if_ok (λ e. IsSayable d (Ok e)) (λ vs. are_of_types d.fields vs ≡ true) (values_of s.fields taken) (λ vs. Ok (Record key time vs)) (values_fit d.fields s.fields taken h.fields)
    (λ vs are. (is_key, is_time, are)))))
    (λ e is. kept e is (identifier_at s.identifier taken))
  where
    kept : (e : Event) → IsSayable d (Ok e) → (r : Result (Option (List ℕ)) LineFault) → IfOk (on_ok r (λ identifier. Ok e)) (λ x. IsSayable d (Ok x))
    kept e is (Ok i) = is
    kept e is (Err why) = tt

sayable_taken : (d : Declared) (s : Source) (taken : Result Taken LineFault) → SourceFits d s → IfOk (event_by s d taken) (λ e. IsSayable d (Ok e))
sayable_taken d s (Ok taken) h = sayable_event d s taken h
sayable_taken d s (Err why) h = tt

sayable : (d : Declared) (r : Result Event LineFault) → IfOk r (λ e. IsSayable d (Ok e)) → IsSayable d r
sayable d (Ok e) h = h
sayable d (Err why) h = tt

pub are_sayable : (d : Declared) (s : Source) (lines : List (List ℕ)) → SourceFits d s → AreSayable d (said s d lines)
are_sayable d s [] h = tt
are_sayable d s (line ∷ before) h = (sayable d (said_of s d before line) (sayable_taken d s (taken_of s before line) h), are_sayable d s before h)

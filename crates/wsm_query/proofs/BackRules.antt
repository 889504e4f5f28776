-- The keys and the fields of a query are read again from their tokens.
use Rattle.std.proofs.Common.{◌≡◌, ℕ, Bool, true, false, List, [], ◌∷◌, ◌++◌, ℤ, neg_ℤ, refl, sym, ap, ◌∙◌, arith}
use Rattle.std.specs.Prelude.{codes, bytes_eq}
use Rattle.std.specs.List.{flat_map}
use Rattle.wsm_tokens.specs.declared.token.Sign.{Sign}
use Rattle.wsm_tokens.specs.declared.token.Sign.TheVariants as signs
use Rattle.wsm_tokens.specs.Tokens.{Token, Word, Mark, Tokens, Then, sign_text}
use Rattle.wsm_tokens.specs.Proper.{are_proper, has_proper}
use Rattle.wsm_tokens.specs.Read.{Read, Rule, Took, Stopped, ◌>>=◌, give, and_then, unexpected, begins, behind, spelling, ask, number, name}
use Rattle.wsm_tokens.specs.Written.{put}
use Rattle.wsm_record.specs.Schema.{FieldType, DeclaredField}
use Rattle.wsm_record.specs.Schema as field_types
use Rattle.wsm_query.specs.Tree.{Name}
use Rattle.wsm_query.specs.Grammar.{after, until, clause, either, brace, list_of, int, names, type_of, field}
use Rattle.wsm_query.specs.Print.{figures, name_tokens, ty_tokens, clause_tokens}
use Rattle.wsm_query.proofs.Spelt.{Proper, put_append, Says, word_says, sign_says, begun}
use Rattle.wsm_query.proofs.SpeltClauses.{commas}
use Rattle.wsm_query.proofs.Back.{Again, Back, Backs, ReadsBack, Carries, more_proper, carried, carry, carry_end, carry_last, alike, carries_behind, asked_again, ask_back, AllAgain, AllBack, brace_back, brace_again}

abbrev word_token : Name → List Token
word_token x = Word x ∷ []

name_backs : (ts : Tokens) → Proper ts → Backs name word_token (name ts)
unfolding name has_proper
name_backs ts p = grind arith

name_back : ReadsBack name word_token
name_back = record { law = name_backs }

int_again : (n : ℤ) → Again int figures n
unfolding int number begins behind
int_again n k = grind arith

neg_proper : (n : ℤ) → are_proper (figures n) ≡ true → are_proper (figures (neg_ℤ n)) ≡ true
neg_proper n p = grind arith

abbrev Sound : Read ℤ → Type 0
Sound (Took n rest) = (are_proper (figures n) ≡ true) × Proper rest
Sound (Stopped f) = Unit {0}

number_sound : (ts : Tokens) → Proper ts → Sound (number ts)
unfolding number has_proper
number_sound ts p = grind arith

plain_int : (read : Read ℤ) → Sound read → Backs int figures read
plain_int (Took n rest) s = record { again = int_again n; proper = s.0; rest_proper = s.1 }
plain_int (Stopped f) s = tt

minus_int : (read : Read ℤ) → Sound read → Backs int figures (and_then read (λ n. give (neg_ℤ n)))
minus_int (Took n rest) s = record { again = int_again (neg_ℤ n); proper = neg_proper n s.0; rest_proper = s.1 }
minus_int (Stopped f) s = tt

int_case : (ts : Tokens) → Proper ts → (c : Bool) → begins (codes "-") ts ≡ c
    → Backs int figures (elim c [ true ↦ and_then (number (behind ts)) (λ n. give (neg_ℤ n)) | false ↦ number ts ])
int_case ts p true h = let f = begun (codes "-") (Mark signs.Minus) (sign_says signs.Minus) ts p h in minus_int (number (behind ts)) (number_sound (behind ts) f.proper)
int_case ts p false h = plain_int (number ts) (number_sound ts p)

int_backs : (ts : Tokens) → Proper ts → Backs int figures (int ts)
unfolding int
int_backs ts p = int_case ts p (begins (codes "-") ts) refl

int_back : ReadsBack int figures
int_back = record { law = int_backs }

after_back : {A : Type 0} {rule : Rule A} {toks : A → List Token} (s : List ℕ) (t : Token) → Says s t → bytes_eq s (spelling t) ≡ true → ReadsBack rule toks → ReadsBack (after s rule) (λ x. t ∷ toks x)
after_back s t k e r = carried (carry (ask_back s t k e) (λ _. carry_last r (λ x. refl)))

sign_back : (g : Sign) → bytes_eq (sign_text g) (sign_text g) ≡ true → ReadsBack (ask (sign_text g)) (λ _. Mark g ∷ [])
sign_back g e = ask_back (sign_text g) (Mark g) (sign_says g) e

-- names, where no comma stands behind them
record NamesBack (xs : List Name) (rest : Tokens) : Type 0 where
  again : (k : Tokens) → begins (codes ",") k ≡ false → names (put (name_tokens xs) k) ≡ Took xs k
  proper : are_proper (name_tokens xs) ≡ true
  rest_proper : Proper rest

abbrev AllNames : Read (List Name) → Type 0
AllNames (Took xs rest) = NamesBack xs rest
AllNames (Stopped f) = Unit {0}

names_again : (x : Name) (xs : List Name) → Again name word_token x → AllAgain name word_token xs → (k : Tokens) → begins (codes ",") k ≡ false
    → names (put (name_tokens (x ∷ xs)) k) ≡ Took (x ∷ xs) k
unfolding names list_of
names_again x xs a l k none =
    let us = flat_map (λ y. Mark signs.Comma ∷ word_token y) xs in
    ap (λ vs. list_of name (put vs k)) (sym (commas word_token x xs))
    ∙ ap (λ r. and_then r (λ x. brace (codes ",") name >>= λ xs. give (x ∷ xs))) (a (put us k))
    ∙ ap (λ r. and_then r (λ xs. give (x ∷ xs))) (brace_again (codes ",") name word_token (Mark signs.Comma) refl xs l k none)

more_names : (x : Name) (rest : Tokens) → Back name word_token x rest → (read : Read (List Name)) → AllBack name word_token (Mark signs.Comma) read
    → AllNames (and_then read (λ xs. give (x ∷ xs)))
more_names x rest b (Took xs end) l =
    record {
      again = names_again x xs b.again l.all;
      proper = ap are_proper (sym (commas word_token x xs)) ∙ more_proper (word_token x) (flat_map (λ y. Mark signs.Comma ∷ word_token y) xs) b.proper l.proper;
      rest_proper = l.rest_proper;
    }
more_names x rest b (Stopped f) l = tt

first_name : (read : Read Name) → Backs name word_token read → AllNames (and_then read (λ x. brace (codes ",") name >>= λ xs. give (x ∷ xs)))
first_name (Took x rest) b = more_names x rest b (brace (codes ",") name rest) (brace_back (codes ",") name word_token (Mark signs.Comma) (sign_says signs.Comma) name_back rest b.rest_proper)
first_name (Stopped f) b = tt

names_sound : (ts : Tokens) → Proper ts → AllNames (names ts)
unfolding names list_of
names_sound ts p = first_name (name ts) (name_backs ts p)

-- names and a sign, which is no comma
abbrev closed : Sign → Rule (List Name)
closed g = until (sign_text g) names

abbrev closed_tokens : Sign → List Name → List Token
closed_tokens g xs = name_tokens xs ++ Mark g ∷ []

record Closes (g : Sign) : Type 0 where
  itself : bytes_eq (sign_text g) (sign_text g) ≡ true
  other : (k : Tokens) → begins (codes ",") (Then (Mark g) 0 k) ≡ false

closed_again : (g : Sign) → Closes g → (xs : List Name) (rest : Tokens) → NamesBack xs rest → Again (closed g) (closed_tokens g) xs
closed_again g c xs rest n k =
    ap (λ ts. closed g ts) (put_append (name_tokens xs) (Mark g ∷ []) k)
    ∙ ap (λ r. and_then r (λ ys. ask (sign_text g) >>= λ _. give ys)) (n.again (Then (Mark g) 0 k) (c.other k))
    ∙ ap (λ r. and_then r (λ (u : Unit {0}). give xs)) (asked_again (sign_text g) (Mark g) c.itself k)

closing : (g : Sign) → Closes g → (xs : List Name) (rest : Tokens) → NamesBack xs rest → (read : Read (Unit {0})) → Backs (ask (sign_text g)) (λ _. Mark g ∷ []) read
    → Backs (closed g) (closed_tokens g) (and_then read (λ _. give xs))
closing g c xs rest n (Took u end) b =
    record { again = closed_again g c xs rest n; proper = more_proper (name_tokens xs) (Mark g ∷ []) n.proper refl; rest_proper = b.rest_proper }
closing g c xs rest n (Stopped f) b = tt

closed_backs : (g : Sign) → Closes g → (read : Read (List Name)) → AllNames read → Backs (closed g) (closed_tokens g) (and_then read (λ xs. ask (sign_text g) >>= λ _. give xs))
closed_backs g c (Took xs rest) n = closing g c xs rest n (ask (sign_text g) rest) ((sign_back g c.itself).law rest n.rest_proper)
closed_backs g c (Stopped f) n = tt

closed_back : (g : Sign) → Closes g → ReadsBack (closed g) (closed_tokens g)
closed_back g c = record { law = λ ts p. closed_backs g c (names ts) (names_sound ts p) }

closes_keys : Closes signs.Semicolon
unfolding begins
closes_keys = record { itself = refl; other = λ k. refl }

closes_enum : Closes signs.Close
unfolding begins
closes_enum = record { itself = refl; other = λ k. refl }

pub keys_back : ReadsBack (clause (codes "KEYS") names) (λ xs. clause_tokens (codes "KEYS") (name_tokens xs))
keys_back = after_back (codes "KEYS") (Word (codes "KEYS")) (word_says _ refl) refl (closed_back signs.Semicolon closes_keys)

-- the names of an ENUM, of which its type is made before the bracket is taken
abbrev enum_rest : Rule FieldType
enum_rest = until (codes ")") (names >>= λ xs. give (field_types.Enum xs))

made : (read : Read (List Name)) → and_then (and_then read (λ xs. give (field_types.Enum xs))) (λ t. ask (codes ")") >>= λ _. give t)
    ≡ and_then (and_then read (λ xs. ask (codes ")") >>= λ _. give xs)) (λ xs. give (field_types.Enum xs))
made read = grind arith

enum_carries : Carries type_of (Word (codes "ENUM") ∷ []) (after (codes "(") enum_rest) ty_tokens
enum_carries =
    carry (sign_back signs.Open refl) (λ _.
    alike (closed signs.Close >>= λ xs. give (field_types.Enum xs)) (λ ts. made (names ts))
    (carry (closed_back signs.Close closes_enum) (λ xs. carry_end (field_types.Enum xs) refl)))

int_carries : Carries type_of (Word (codes "INT") ∷ []) (int >>= λ lo. after (codes "..") int >>= λ hi. give (field_types.Int lo hi)) ty_tokens
int_carries =
    carry int_back (λ lo. carry (after_back (codes "..") (Mark signs.DotDot) (sign_says signs.DotDot) refl int_back) (λ hi. carry_end (field_types.Int lo hi) refl))

at_int : (k : Tokens) → type_of (Then (Word (codes "INT")) 0 k) ≡ (int >>= λ lo. after (codes "..") int >>= λ hi. give (field_types.Int lo hi)) k
unfolding type_of begins behind
at_int k = refl

at_bool : (k : Tokens) → type_of (Then (Word (codes "BOOL")) 0 k) ≡ Took field_types.Truth k
unfolding type_of begins behind
at_bool k = refl

at_enum : (k : Tokens) → type_of (Then (Word (codes "ENUM")) 0 k) ≡ after (codes "(") enum_rest k
unfolding type_of begins behind ask
at_enum k = refl

enum_case : (ts : Tokens) → Proper ts → (c : Bool) → begins (codes "ENUM") ts ≡ c
    → Backs type_of ty_tokens (and_then (elim c [ true ↦ Took tt (behind ts) | false ↦ Stopped (unexpected ts) ]) (λ (u : Unit {0}). after (codes "(") enum_rest))
enum_case ts p true h =
    let f = begun (codes "ENUM") (Word (codes "ENUM")) (word_says _ refl) ts p h in
    carries_behind (Word (codes "ENUM")) ts f at_enum enum_carries
enum_case ts p false h = tt

enum_backs : (ts : Tokens) → Proper ts → Backs type_of ty_tokens (after (codes "ENUM") (after (codes "(") enum_rest) ts)
unfolding ask
enum_backs ts p = enum_case ts p (begins (codes "ENUM") ts) refl

bool_case : (ts : Tokens) → Proper ts → (c : Bool) → begins (codes "BOOL") ts ≡ c
    → Backs type_of ty_tokens (elim c [ true ↦ Took field_types.Truth (behind ts) | false ↦ after (codes "ENUM") (after (codes "(") enum_rest) ts ])
bool_case ts p true h =
    let f = begun (codes "BOOL") (Word (codes "BOOL")) (word_says _ refl) ts p h in
    record { again = at_bool; proper = refl; rest_proper = f.proper }
bool_case ts p false h = enum_backs ts p

int_type_case : (ts : Tokens) → Proper ts → (c : Bool) → begins (codes "INT") ts ≡ c
    → Backs type_of ty_tokens (elim c [
      | true ↦ (int >>= λ lo. after (codes "..") int >>= λ hi. give (field_types.Int lo hi)) (behind ts)
      | false ↦ either (codes "BOOL") (give field_types.Truth) (after (codes "ENUM") (after (codes "(") enum_rest)) ts
    ])
int_type_case ts p true h =
    let f = begun (codes "INT") (Word (codes "INT")) (word_says _ refl) ts p h in
    carries_behind (Word (codes "INT")) ts f at_int int_carries
int_type_case ts p false h = bool_case ts p (begins (codes "BOOL") ts) refl

type_of_backs : (ts : Tokens) → Proper ts → Backs type_of ty_tokens (type_of ts)
unfolding type_of
type_of_backs ts p = int_type_case ts p (begins (codes "INT") ts) refl

type_of_back : ReadsBack type_of ty_tokens
type_of_back = record { law = type_of_backs }

-- of a field, behind FIELD
abbrev pub field_body : DeclaredField → List Token
field_body d = (Word d.name ∷ ty_tokens d.type) ++ Mark signs.Semicolon ∷ []

pub field_back : ReadsBack field field_body
unfolding field
field_back =
    carried (carry name_back (λ x. carry type_of_back (λ t. carry (sign_back signs.Semicolon refl) (λ _. carry_end (record { name = x; type = t }) refl))))

-- The fields of a query, and the whole of it, in plain form.
use Rattle.std.proofs.Common.{◌≡◌, ℕ, zero, suc, List, [], ◌∷◌, ◌++◌, refl, sym, append_assoc, append-nil, arith}
use Rattle.std.specs.Prelude.{codes}
use Rattle.std.specs.List.{flat_map}
use Rattle.wsm_tokens.specs.declared.token.Sign.TheVariants as signs
use Rattle.wsm_tokens.specs.Tokens.{Token, Word, Mark, Tokens}
use Rattle.wsm_tokens.specs.Read.{Read, ◌>>=◌, give, and_then, count, ask}
use Rattle.wsm_record.specs.Schema.{DeclaredField}
use Rattle.wsm_record.specs.Schema as field_types
use Rattle.wsm_query.specs.Tree.{Name}
use Rattle.wsm_query.specs.Grammar.{turns, brace, names, type_of, field, query}
use Rattle.wsm_query.specs.Print.{name_tokens, ty_tokens, field_tokens, query_tokens}
use Rattle.wsm_query.proofs.Spelt.{Spelt, word_says}
use Rattle.wsm_query.proofs.SpeltRules.{word_spelt, sign_spelt, name_spelt}
use Rattle.wsm_query.proofs.SpeltClauses.{clause_spelt, list_of_spelt}
use Rattle.wsm_query.proofs.Tail.{behind_fields, tail_goes}
use Rattle.wsm_inputs.proofs.PlainTokens.{Bounds, Passes, exact, passes_on, past, passed, passes_alike, passes_either, bound_passes}

pub names_spelt : Spelt names name_tokens
unfolding names
names_spelt = list_of_spelt name_spelt

-- the names of an ENUM, of which its type is made before the bracket is taken
made : (read : Read (List Name)) → and_then (and_then read (λ xs. give (field_types.Enum xs))) (λ t. ask (codes ")") >>= λ _. give t)
    ≡ and_then read (λ xs. ask (codes ")") >>= λ _. give (field_types.Enum xs))
made read = grind arith

after_int : Bounds (Word (codes "INT"))
after_int = record { no_minus = refl; begins = refl }

after_dots : Bounds (Mark signs.DotDot)
after_dots = record { no_minus = refl; begins = refl }

int_apart : (front lo hi : List Token) (t u : Token) → (((front ++ t ∷ []) ++ lo) ++ u ∷ []) ++ hi ≡ front ++ ((t ∷ lo) ++ u ∷ hi)
int_apart front lo hi t u = simp append_assoc

enum_apart : (front xs : List Token) (t u v : Token) → (((front ++ t ∷ []) ++ u ∷ []) ++ xs) ++ v ∷ [] ≡ front ++ ((t ∷ u ∷ xs) ++ v ∷ [])
enum_apart front xs t u v = simp append_assoc

type_passes : {b : Tokens} (front : List Token) → Passes b front type_of (λ t. front ++ ty_tokens t)
unfolding type_of
type_passes {b = b} front =
    passes_either (codes "INT") (Word (codes "INT")) (word_says _ refl)
    (passes_on (bound_passes front (Word (codes "INT")) after_int) (λ lo.
    passes_on (past (sign_spelt signs.DotDot) (λ _. bound_passes (_) (Mark signs.DotDot) after_dots)) (λ hi.
    passed (field_types.Int lo hi) (int_apart front _ _ _ _))))
    (passes_either (codes "BOOL") (Word (codes "BOOL")) (word_says _ refl) (passed field_types.Truth refl)
    (past (word_spelt (codes "ENUM") (word_says _ refl)) (λ _.
    past (sign_spelt signs.Open) (λ _.
    passes_alike (names >>= λ xs. ask (codes ")") >>= λ _. give (field_types.Enum xs)) (λ ts. made (names ts))
    (past names_spelt (λ xs. past (sign_spelt signs.Close) (λ _. passed (field_types.Enum xs) (enum_apart front _ _ _ _))))))))

-- behind FIELD
field_body : DeclaredField → List Token
field_body d = (Word d.name ∷ ty_tokens d.type) ++ Mark signs.Semicolon ∷ []

field_apart : (front ty : List Token) (t u : Token) → ((front ++ t ∷ []) ++ ty) ++ u ∷ [] ≡ front ++ ((t ∷ ty) ++ u ∷ [])
field_apart front ty t u = simp append_assoc

field_passes : {b : Tokens} (front : List Token) → Passes b front field (λ d. front ++ field_body d)
unfolding field field_body
field_passes front =
    past name_spelt (λ x.
    passes_on (type_passes (_)) (λ t.
    past (sign_spelt signs.Semicolon) (λ _. passed (record { name = x; type = t }) (field_apart front _ _ _))))

turns_apart : (front body rest : List Token) (t : Token) → ((front ++ t ∷ []) ++ body) ++ rest ≡ front ++ ((t ∷ body) ++ rest)
turns_apart front body rest t = simp append_assoc

turns_pass : {b : Tokens} (n : ℕ) (front : List Token) → Passes b front (turns n (codes "FIELD") field) (λ ds. front ++ flat_map field_tokens ds)
unfolding field_body
turns_pass zero front = passed [] (sym (append-nil front))
turns_pass (suc n) front =
    passes_either (codes "FIELD") (Word (codes "FIELD")) (word_says _ refl)
    (passes_on (field_passes (front ++ Word (codes "FIELD") ∷ [])) (λ d.
    passes_on (turns_pass n ((front ++ Word (codes "FIELD") ∷ []) ++ field_body d)) (λ ds. passed (d ∷ ds) (turns_apart front (field_body d) _ _))))
    (passed [] (sym (append-nil front)))

fields_pass : {b : Tokens} (front : List Token) → Passes b front (brace (codes "FIELD") field) (λ ds. front ++ flat_map field_tokens ds)
unfolding brace
fields_pass front = record { law = λ ts p e. (turns_pass (count ts) front).law ts p e }

pub query_passes : {b : Tokens} → Passes b [] query query_tokens
unfolding query
query_passes =
    past (clause_spelt (codes "KEYS") (word_says _ refl) names_spelt) (λ keys.
    passes_on (fields_pass (_)) (λ fields. exact {rule = behind_fields keys fields} (λ c. tail_goes keys fields)))

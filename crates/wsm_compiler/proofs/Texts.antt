-- Of a query that is read of a text each name is a name, by the grammar, and each number has 64 bits, as its tokens are such as texts have.
use Rattle.std.proofs.Common.{◌≡◌, ℕ, suc, true, ◌&&◌, List, [], ◌∷◌, ◌++◌, map, Option, Some, None, Ok, refl, sym, subst, ◌∙◌, arith}
use Rattle.std.proofs.lemmas.List.Folds.{list_all-append}
use Rattle.std.proofs.lemmas.Bool.{and_from, and_parts}
use Rattle.std.specs.Prelude.{ℤ, pos, negsuc, nat_le, codes}
use Rattle.std.specs.List.{AllByRecursion, list_all, flat_map}
use Rattle.wsm_semantics.proofs.Each.{list_all-from}
use Rattle.wsm_record.specs.Name.{is_name}
use Rattle.wsm_record.specs.Schema.{FieldType, DeclaredField, is_spelt_type, is_spelt_field, is_i64}
use Rattle.wsm_record.specs.Schema as field_types
use Rattle.wsm_tokens.proofs.Proper.{tokens_are_proper}
use Rattle.wsm_tokens.specs.declared.token.Sign.TheVariants as signs
use Rattle.wsm_tokens.specs.Tokens.{Token, Word, Mark, tokens}
use Rattle.wsm_tokens.specs.Proper.{is_proper, are_proper}
use Rattle.wsm_tokens.specs.Read.{Read, Took, Stopped, ask, ended}
use Rattle.wsm_query.specs.Tree.{Name, Query, Expr, Number, Aggregate, If, Brackets, Minus, Not, Binary, And, Or}
use Rattle.wsm_query.specs.Grammar.{names, int, type_of, field, sources, clock, optional, budget, selection, output, query}
use Rattle.wsm_query.specs.Parse.{query_text, outcome, parse}
use Rattle.wsm_query.specs.Print.{figures, op_sign, kind_word, bracketed, expr_tokens, with_commas, ty_tokens, name_tokens, clause_tokens, field_tokens, sources_tokens, clock_tokens, budget_tokens, condition_tokens, output_tokens, query_tokens}
use Rattle.wsm_query.proofs.QueryAgain.{text_again}
use Rattle.wsm_check.specs.Aggregates.{in_option}
use Rattle.wsm_check.specs.Spelt.{numbers_fit, IsSpelt}
use Rattle.wsm_compiler.specs.Lawful.{ParsedIsSpelt}
use Rattle.wsm_compiler.proofs.Rules.{Sound, Gives, gives, anything, goes_on, eithers, afters, untils, braces, lists, IsName, names_are}

-- ---- numbers, by the tokens

apart : (us vs : List Token) → are_proper (us ++ vs) ≡ true → (are_proper us ≡ true) × (are_proper vs ≡ true)
apart us vs h = and_parts (are_proper us) (are_proper vs) (sym (list_all-append is_proper us vs) ∙ h)

not_negative : (n : ℕ) → (nat_le n 9223372036854775807 && true) ≡ true → is_i64 (pos n) ≡ true
not_negative n h = grind arith

negative : (n : ℕ) → (nat_le (suc n) 9223372036854775807 && true) ≡ true → is_i64 (negsuc n) ≡ true
negative n h = grind arith

number_fits : (n : ℤ) → are_proper (figures n) ≡ true → is_i64 n ≡ true
number_fits (pos n) h = not_negative n h
number_fits (negsuc n) h = negative n h

both_fit : (x y : Expr) (t : Token) → (are_proper (expr_tokens x) ≡ true → numbers_fit x ≡ true) → (are_proper (expr_tokens y) ≡ true → numbers_fit y ≡ true) → are_proper (expr_tokens x ++ t ∷ expr_tokens y) ≡ true →
    (numbers_fit x && numbers_fit y) ≡ true
both_fit x y t f g h =
    let p = apart (expr_tokens x) (t ∷ expr_tokens y) h in
    and_from (numbers_fit x) (numbers_fit y) (f p.0) (g (and_parts (is_proper t) (are_proper (expr_tokens y)) p.1).1)

expr_fits : (e : Expr) → are_proper (expr_tokens e) ≡ true → numbers_fit e ≡ true
expr_fits (Number n) h = number_fits n h
expr_fits (Aggregate kind e) h = expr_fits e (apart (expr_tokens e) (Mark signs.Close ∷ []) (and_parts (is_proper (Word (kind_word kind))) (are_proper (bracketed (expr_tokens e))) h).1).0
expr_fits (If c x y) h =
    let tested = expr_tokens c ++ Word (codes "THEN") ∷ expr_tokens x in
    let ended = apart (tested ++ Word (codes "ELSE") ∷ expr_tokens y) (Word (codes "END") ∷ []) h in
    let second = apart tested (Word (codes "ELSE") ∷ expr_tokens y) ended.0 in
    let first = apart (expr_tokens c) (Word (codes "THEN") ∷ expr_tokens x) second.0 in
    and_from (numbers_fit c) (numbers_fit x && numbers_fit y) (expr_fits c first.0) (and_from (numbers_fit x) (numbers_fit y) (expr_fits x first.1) (expr_fits y second.1))
expr_fits (Brackets e) h = expr_fits e (apart (expr_tokens e) (Mark signs.Close ∷ []) h).0
expr_fits (Minus e) h = expr_fits e h
expr_fits (Not e) h = expr_fits e h
expr_fits (Binary op x y) h = both_fit x y (Mark (op_sign op)) (expr_fits x) (expr_fits y) h
expr_fits (And x y) h = both_fit x y (Word (codes "AND")) (expr_fits x) (expr_fits y) h
expr_fits (Or x y) h = both_fit x y (Word (codes "OR")) (expr_fits x) (expr_fits y) h
expr_fits e h = refl

columns_fit : (es : List Expr) → are_proper (with_commas (map expr_tokens es)) ≡ true → list_all numbers_fit es ≡ true
columns_fit [] h = refl
columns_fit (e ∷ []) h = and_from (numbers_fit e) true (expr_fits e h) refl
columns_fit (e ∷ f ∷ es) h =
    let p = apart (expr_tokens e) (Mark signs.Comma ∷ with_commas (map expr_tokens (f ∷ es))) h in
    and_from (numbers_fit e) (list_all numbers_fit (f ∷ es)) (expr_fits e p.0) (columns_fit (f ∷ es) p.1)

condition_fits : (w : List ℕ) (o : Option Expr) → are_proper (condition_tokens w o) ≡ true → list_all numbers_fit (in_option o) ≡ true
condition_fits w None h = refl
condition_fits w (Some e) h = and_from (numbers_fit e) true (expr_fits e (and_parts (is_proper (Word w)) (are_proper (expr_tokens e)) h).1) refl

-- ---- names, by the grammar

name_lists : Gives (AllByRecursion IsName) names
unfolding names
name_lists = lists names_are

abbrev IsNamedType : FieldType → Type 0
IsNamedType (field_types.Enum xs) = AllByRecursion IsName xs
IsNamedType t = Unit {0}

types_are : Gives IsNamedType type_of
unfolding type_of
types_are =
    eithers (codes "INT") (goes_on (anything int) (λ lo _. goes_on (afters (codes "..") (anything int)) (λ hi _. gives IsNamedType (field_types.Int lo hi) tt)))
    (eithers (codes "BOOL") (gives IsNamedType field_types.Truth tt)
    (afters (codes "ENUM") (afters (codes "(") (untils (codes ")") (goes_on name_lists (λ xs h. gives IsNamedType (field_types.Enum xs) h))))))

abbrev IsNamedField : DeclaredField → Type 0
IsNamedField d = IsName d.name × IsNamedType d.type

fields_are : Gives IsNamedField field
unfolding field
fields_are = goes_on names_are (λ x h. goes_on types_are (λ t l. goes_on (anything (ask (codes ";"))) (λ _ _. gives IsNamedField (record { name = x; type = t }) (h, l))))

sources_are : Gives (AllByRecursion IsName) sources
unfolding sources
sources_are = eithers (codes "SOURCES") (untils (codes ";") name_lists) (gives (AllByRecursion IsName) [] tt)

record IsNamed (q : Query) : Type 0 where
  keys : AllByRecursion IsName q.keys
  fields : AllByRecursion IsNamedField q.fields
  sources : AllByRecursion IsName q.sources

queries : Gives IsNamed query
unfolding query
queries =
    goes_on (afters (codes "KEYS") (untils (codes ";") name_lists)) (λ keys hk.
    goes_on (braces (codes "FIELD") fields_are) (λ fields hf.
    goes_on sources_are (λ sources hn.
    goes_on (anything clock) (λ clock _.
    goes_on (anything (optional (codes "BUDGET") budget)) (λ budget _.
    goes_on (anything selection) (λ selection _.
    goes_on (anything output) (λ output _. gives IsNamed _ (record { keys = hk; fields = hf; sources = hn }))))))))

texts : Gives IsNamed query_text
unfolding query_text
texts = goes_on queries (λ q h. goes_on (anything ended) (λ _ _. gives IsNamed q h))

-- ---- both

all_names : (xs : List Name) → AllByRecursion IsName xs → list_all is_name xs ≡ true
all_names xs h = list_all-from IsName is_name (λ x p. p) xs h

type_spelt : (t : FieldType) → IsNamedType t → are_proper (ty_tokens t) ≡ true → is_spelt_type t ≡ true
type_spelt (field_types.Int lo hi) k h =
    let p = apart (figures lo) (Mark signs.DotDot ∷ figures hi) h in and_from (is_i64 lo) (is_i64 hi) (number_fits lo p.0) (number_fits hi p.1)
type_spelt field_types.Truth k h = refl
type_spelt (field_types.Enum xs) k h = all_names xs k

fields_spelt : (ds : List DeclaredField) → AllByRecursion IsNamedField ds → are_proper (flat_map field_tokens ds) ≡ true → list_all is_spelt_field ds ≡ true
fields_spelt [] k h = refl
fields_spelt (d ∷ ds) k h =
    let p = apart (field_tokens d) (flat_map field_tokens ds) h in
    let behind = ty_tokens d.type ++ Mark signs.Semicolon ∷ [] in
    let t = apart (ty_tokens d.type) (Mark signs.Semicolon ∷ []) (and_parts (is_proper (Word d.name)) (are_proper behind) p.0).1 in
    and_from (is_spelt_field d) (list_all is_spelt_field ds) (and_from (is_name d.name) (is_spelt_type d.type) k.0.0 (type_spelt d.type k.0.1 t.0)) (fields_spelt ds k.1 p.1)

spelt : (q : Query) → IsNamed q → are_proper (query_tokens q) ≡ true → IsSpelt q
spelt q n h =
    let keys = clause_tokens (codes "KEYS") (name_tokens q.keys) in
    let declared = keys ++ flat_map field_tokens q.fields in
    let admitted = declared ++ sources_tokens q.sources ++ clock_tokens q.clock in
    let stated = admitted ++ budget_tokens q.budget in
    let selected = stated ++ Word (codes "SELECT") ∷ with_commas (map expr_tokens q.columns) in
    let tested = selected ++ condition_tokens (codes "WHERE") q.condition in
    let output = apart (tested ++ condition_tokens (codes "HAVING") q.having) (output_tokens q.output) h in
    let having = apart tested (condition_tokens (codes "HAVING") q.having) output.0 in
    let condition = apart selected (condition_tokens (codes "WHERE") q.condition) having.0 in
    let columns = apart stated (Word (codes "SELECT") ∷ with_commas (map expr_tokens q.columns)) condition.0 in
    let budget = apart admitted (budget_tokens q.budget) columns.0 in
    let clock = apart (declared ++ sources_tokens q.sources) (clock_tokens q.clock) budget.0 in
    let sources = apart declared (sources_tokens q.sources) clock.0 in
    let fields = apart keys (flat_map field_tokens q.fields) sources.0 in
    record {
      keys = all_names q.keys n.keys;
      fields = fields_spelt q.fields n.fields fields.1;
      sources = all_names q.sources n.sources;
      numbers =
          list_all-append numbers_fit (in_option q.condition) (q.columns ++ in_option q.having)
          ∙ and_from (list_all numbers_fit (in_option q.condition)) (list_all numbers_fit (q.columns ++ in_option q.having)) (condition_fits (codes "WHERE") q.condition condition.1)
          (list_all-append numbers_fit q.columns (in_option q.having)
          ∙ and_from (list_all numbers_fit q.columns) (list_all numbers_fit (in_option q.having)) (columns_fit q.columns columns.1) (condition_fits (codes "HAVING") q.having having.1));
    }

pub parsed_is_spelt : (text : List ℕ) (q : Query) → ParsedIsSpelt text q
unfolding parse
parsed_is_spelt text q h = by_read (query_text (tokens text)) refl h
  where
    by_read : (r : Read Query) → query_text (tokens text) ≡ r → outcome text r ≡ Ok q → IsSpelt q
    by_read (Took x rest) is e =
        let same : x ≡ q = cc in
        let named : IsNamed x = subst (Sound IsNamed) is (texts.law (tokens text)) in
        subst IsSpelt same (spelt x named (text_again (tokens text) (tokens_are_proper text) x rest is).proper)
    by_read (Stopped f) is e = cc

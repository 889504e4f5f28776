-- A tree that was read is one that its tokens tell: brackets stand wherever it needs them, and names are no reserved words.
use Rattle.std.proofs.Common.{◌≡◌, ℕ, zero, suc, Bool, true, false, ◌&&◌, List, [], ◌∷◌, ℤ, pos, negsuc, refl, ap, subst, ◌∙◌, arith}
use Rattle.std.specs.Prelude.{Option, Some, None, codes, nat_le}
use Rattle.std.specs.List.{list_all}
use Rattle.std.proofs.lemmas.Bool.{and_from, and_parts}
use Rattle.std.proofs.lemmas.Bool.Decides.{leb_tells}
use Rattle.wsm_record.specs.declared.limits.TheConstants.{MAX_CHAIN, MAX_LEVELS}
use Rattle.wsm_record.specs.declared.words.Kind.{Kind}
use Rattle.wsm_record.specs.Name.{is_name}
use Rattle.wsm_tokens.specs.declared.fault.Fault.TheVariants.{Unexpected}
use Rattle.wsm_tokens.specs.Tokens.{Token, Word, Mark, Number as Figure, Tokens, Then, End, Bad}
use Rattle.wsm_tokens.specs.Proper.{is_proper, has_proper}
use Rattle.wsm_tokens.specs.Read.{Read, Rule, Took, Stopped, ◌>>=◌, give, and_then, unexpected, too_deep, begins, begins_number, behind, count, ask, number, name}
use Rattle.wsm_tokens.specs.Written.{bare}
use Rattle.wsm_query.specs.Tree.{Name, Query, Selection, Expr, Number, Truth, Field, EnumName, Key, KeyName, Count, Aggregate, If, Brackets, Minus, Not, And, Or}
use Rattle.wsm_query.specs.Grammar.{looked_up, either, after, optional, turns, brace, list_of, kinds, aggregate, count_of, choice, brackets, pointed, leaf, at, atom, unary, chain, chained, products, sums, comparisons, ands, ors, prod, sum, compared, cmp, neg, conj, expr_in, Deeper, opened, levels, expr, field, sources, budget, clock, selection, output, query}
use Rattle.wsm_query.proofs.Chains.{Table}
use Rattle.wsm_query.proofs.Spelt.{Proper, Spelt, Ends, word_says}
use Rattle.wsm_query.proofs.SpeltClauses.{clause_spelt, sources_spelt, budget_spelt, clock_spelt, output_spelt}
use Rattle.wsm_query.proofs.Back.{ReadsBack, Backs}
use Rattle.wsm_query.proofs.BackRules.{field_back}
use Rattle.wsm_inputs.proofs.PlainFields.{names_spelt}
use Rattle.wsm_inputs.specs.TextOf.{bond, is_natural, is_told, is_told_in, are_told}

-- ---- what rules make, of tokens such as texts have

abbrev Made : {A : Type 0} → (A → Type 0) → Read A → Type 0
Made P (Took x rest) = P x × Proper rest
Made P (Stopped f) = Unit {0}

record Makes {A : Type 0} (P : A → Type 0) (rule : Rule A) : Type 0 where
  law : (ts : Tokens) → Proper ts → Made P (rule ts)

abbrev Anything : {A : Type 0} → A → Type 0
Anything x = Unit {0}

proper_behind : (ts : Tokens) → Proper ts → Proper (behind ts)
unfolding has_proper behind
proper_behind (Then t at rest) p = (and_parts (is_proper t) (has_proper rest) p).1
proper_behind (End at) p = p
proper_behind (Bad fault at) p = p

makes : {A : Type 0} (P : A → Type 0) (x : A) → P x → Makes P (give x)
makes P x h = record { law = λ ts p. (h, p) }

-- a rule of which nothing is asked
spelt_makes : {A : Type 0} {rule : Rule A} {toks : A → List Token} → Spelt rule toks → Makes Anything rule
spelt_makes {A} {rule} {toks} s = record { law = λ ts p. by_read (bare ts) (rule ts) (s.law ts p) }
  where
    by_read : (b : Tokens) (r : Read A) → Ends b toks r → Made Anything r
    by_read b (Took x rest) h = (tt, h.1)
    by_read b (Stopped f) h = tt

bind : {A B : Type 0} {P : A → Type 0} {Q : B → Type 0} {rule : Rule A} {go : A → Rule B} → Makes P rule → ((x : A) → P x → Makes Q (go x)) → Makes Q (rule >>= go)
bind {A} {B} {P} {Q} {rule} {go} r g = record { law = λ ts p. by_read (rule ts) (r.law ts p) }
  where
    by_read : (r : Read A) → Made P r → Made Q (and_then r go)
    by_read (Took x rest) h = (g x h.0).law rest h.1
    by_read (Stopped f) h = tt

asked : (s : List ℕ) → Makes Anything (ask s)
unfolding ask
asked s = record { law = λ ts p. by_test (begins s ts) ts p }
  where
    by_test : (b : Bool) (ts : Tokens) → Proper ts → Made Anything (elim b as (λ x. Read (Unit {0})) [ true ↦ Took tt (behind ts) | false ↦ Stopped (unexpected ts) ])
    by_test true ts p = (tt, proper_behind ts p)
    by_test false ts p = tt

at_makes : {A : Type 0} {P : A → Type 0} {first second : Rule A} (s : List ℕ) → Makes P first → Makes P second → Makes P (at s first second)
at_makes {A} {P} {first} {second} s f g = record { law = λ ts p. by_test (begins s ts) ts p }
  where
    by_test : (b : Bool) (ts : Tokens) → Proper ts → Made P (elim b as (λ x. Read A) [ true ↦ first ts | false ↦ second ts ])
    by_test true ts p = f.law ts p
    by_test false ts p = g.law ts p

behind_makes : {A : Type 0} {P : A → Type 0} {rule : Rule A} → Makes P rule → Makes P (λ ts. rule (behind ts))
behind_makes r = record { law = λ ts p. r.law (behind ts) (proper_behind ts p) }

either_makes : {A : Type 0} {P : A → Type 0} {first second : Rule A} (s : List ℕ) → Makes P first → Makes P second → Makes P (either s first second)
either_makes {first = first} {second = second} s f g = at_makes {first = λ ts. first (behind ts)} {second = second} s (behind_makes f) g

after_makes : {A : Type 0} {P : A → Type 0} {rule : Rule A} (s : List ℕ) → Makes P rule → Makes P (after s rule)
after_makes s r = bind (asked s) (λ _ _. r)

-- ---- expressions

-- its tokens tell it, and it binds so tightly
record Tight (n : ℕ) (e : Expr) : Type 0 where
  told : is_told e ≡ true
  tight : nat_le n (bond e) ≡ true

no_less : (n m : ℕ) → nat_le (suc n) m ≡ true → nat_le n m ≡ true
no_less n m h = grind (arith, leb_tells)

looser : (n : ℕ) (e : Expr) → Tight (suc n) e → Tight n e
looser n e t = record { told = t.told; tight = no_less n (bond e) t.tight }

looser_rule : {n : ℕ} {rule : Rule Expr} → Makes (Tight (suc n)) rule → Makes (Tight n) rule
looser_rule {n} {rule} r = record { law = λ ts p. by_read (rule ts) (r.law ts p) }
  where
    by_read : (r : Read Expr) → Made (Tight (suc n)) r → Made (Tight n) r
    by_read (Took e rest) h = (looser n e h.0, h.1)
    by_read (Stopped f) h = tt

-- the rules one level deeper
record MakesAt (d : Deeper) : Type 0 where
  expr : Makes (Tight 0) d.expr
  neg : Makes (Tight 2) d.neg
  unary : Makes (Tight 6) d.unary

abbrev MakesIn : Option Deeper → Type 0
MakesIn None = Unit {0}
MakesIn (Some d) = MakesAt d

opens : {B : Type 0} {Q : B → Type 0} (d : Option Deeper) → MakesIn d → {go : Deeper → Rule B} → ((e : Deeper) → MakesAt e → Makes Q (go e)) → Makes Q (opened d >>= go)
opens None k g = record { law = λ ts p. tt }
opens (Some d) k g = record { law = λ ts p. (g d k).law (behind ts) (proper_behind ts p) }

-- an expression of the tightest kind
stands : (e : Expr) → is_told e ≡ true → nat_le 6 (bond e) ≡ true → Makes (Tight 6) (give e)
stands e h t = makes (Tight 6) e (record { told = h; tight = t })

aggregate_makes : (d : Option Deeper) → MakesIn d → (kind : Kind) → Makes (Tight 6) (aggregate d kind)
unfolding aggregate
aggregate_makes d k kind = opens d k (λ d h. bind (asked (codes "(")) (λ _ _. bind h.expr (λ e t. bind (asked (codes ")")) (λ _ _. stands (Aggregate kind e) t.told refl))))

count_makes : (d : Option Deeper) → MakesIn d → Makes (Tight 6) (count_of d)
unfolding count_of
count_makes d k = opens d k (λ d h. bind (asked (codes "(")) (λ _ _. bind (asked (codes "*")) (λ _ _. bind (asked (codes ")")) (λ _ _. stands Count refl refl))))

choice_makes : (d : Option Deeper) → MakesIn d → Makes (Tight 6) (choice d)
unfolding choice
choice_makes d k =
    opens d k (λ d h.
    bind h.expr (λ c t.
    bind (after_makes (codes "THEN") h.expr) (λ x u.
    bind (after_makes (codes "ELSE") h.expr) (λ y v.
    bind (asked (codes "END")) (λ _ _.
    stands (If c x y) (and_from (is_told c) (is_told x && is_told y) t.told (and_from (is_told x) (is_told y) u.told v.told)) refl)))))

brackets_make : (d : Option Deeper) → MakesIn d → Makes (Tight 6) (brackets d)
unfolding brackets
brackets_make d k = opens d k (λ d h. bind h.expr (λ e t. bind (asked (codes ")")) (λ _ _. stands (Brackets e) t.told refl)))

record IsNatural (n : ℤ) : Type 0 where
  natural : is_natural n ≡ true

number_makes : Makes IsNatural number
unfolding number has_proper
number_makes = record { law = by_token }
  where
    by_token : (ts : Tokens) → Proper ts → Made IsNatural (number ts)
    by_token (Then (Figure (pos n)) at rest) p = (record { natural = refl }, (and_parts (is_proper (Figure (pos n))) (has_proper rest) p).1)
    by_token (Then (Figure (negsuc n)) at rest) p = cc
    by_token (Then (Word w) at rest) p = tt
    by_token (Then (Mark g) at rest) p = tt
    by_token (End at) p = tt
    by_token (Bad fault at) p = tt

record IsName (x : Name) : Type 0 where
  name : is_name x ≡ true

name_makes : Makes IsName name
unfolding name has_proper
name_makes = record { law = by_token }
  where
    by_test : (b : Bool) (w : Name) (at : ℕ) (rest : Tokens) → Proper rest → is_name w ≡ b →
        Made IsName (elim b as (λ x. Read Name) [ true ↦ Took w rest | false ↦ Stopped (record { fault = Unexpected; offset = at }) ])
    by_test true w at rest p e = (record { name = e }, p)
    by_test false w at rest p e = tt

    by_token : (ts : Tokens) → Proper ts → Made IsName (name ts)
    by_token (Then (Word w) at rest) p = by_test (is_name w) w at rest (and_parts (is_proper (Word w)) (has_proper rest) p).1 refl
    by_token (Then (Mark g) at rest) p = tt
    by_token (Then (Figure n) at rest) p = tt
    by_token (End at) p = tt
    by_token (Bad fault at) p = tt

-- names behind a point
pointed_makes : (alone : Expr) (with_name : Name → Expr) → Tight 6 alone → ((x : Name) → is_name x ≡ true → Tight 6 (with_name x)) → Makes (Tight 6) (pointed alone with_name)
unfolding pointed
pointed_makes alone with_name h f = either_makes (codes ".") (bind name_makes (λ x n. makes (Tight 6) (with_name x) (f x n.name))) (makes (Tight 6) alone h)

leaf_makes : Makes (Tight 6) leaf
unfolding leaf
leaf_makes =
    either_makes (codes "TRUE") (stands (Truth true) refl refl)
    (either_makes (codes "FALSE") (stands (Truth false) refl refl)
    (either_makes (codes "KEY") (pointed_makes Key KeyName (record { told = refl; tight = refl }) (λ x n. record { told = n; tight = refl }))
    (bind name_makes (λ x n. pointed_makes (Field x) (EnumName x) (record { told = n.name; tight = refl }) (λ y m. record { told = and_from (is_name x) (is_name y) n.name m; tight = refl })))))

-- an atom that is no number and no aggregate over values
abbrev others : Option Deeper → Rule Expr
others d = at (codes "COUNT") (count_of d) (at (codes "IF") (choice d) (at (codes "(") (brackets d) leaf))

atom_makes : (d : Option Deeper) → MakesIn d → Makes (Tight 6) (atom d)
unfolding atom
atom_makes d k = record { law = λ ts p. by_number (begins_number ts) ts p }
  where
    others_make : Makes (Tight 6) (others d)
    others_make = at_makes (codes "COUNT") (count_makes d k) (at_makes (codes "IF") (choice_makes d k) (at_makes (codes "(") (brackets_make d k) leaf_makes))

    by_kind : (o : Option Kind) (ts : Tokens) → Proper ts → Made (Tight 6) (elim o as (λ x. Read Expr) [ Some kind ↦ aggregate d kind ts | None ↦ others d ts ])
    by_kind (Some kind) ts p = (aggregate_makes d k kind).law ts p
    by_kind None ts p = others_make.law ts p

    numbers : Makes (Tight 6) (number >>= λ n. give (Number n))
    numbers = bind number_makes (λ n h. stands (Number n) h.natural refl)

    by_number : (b : Bool) (ts : Tokens) → Proper ts → Made (Tight 6) (elim b as (λ x. Read Expr) [
      | true ↦ (number >>= λ n. give (Number n)) ts
      | false ↦ elim (looked_up kinds ts) as (λ x. Read Expr) [ Some kind ↦ aggregate d kind ts | None ↦ others d ts ]
    ])
    by_number true ts p = numbers.law ts p
    by_number false ts p = by_kind (looked_up kinds ts) ts p

unary_makes : (d : Option Deeper) → MakesIn d → Makes (Tight 6) (unary d)
unfolding unary
unary_makes d k =
    at_makes (codes "-")
    (opens d k (λ d h. bind h.unary (λ e t. stands (Minus e) (and_from (nat_le 6 (bond e)) (is_told e) t.tight t.told) refl)))
    (atom_makes d k)

-- ---- chains

-- of operands that bind so tightly a tree is made that binds so tightly
record Joins (left right n : ℕ) (make : Expr → Expr → Expr) : Type 0 where
  law : (x y : Expr) → Tight left x → Tight right y → Tight n (make x y)

abbrev AllJoin : ℕ → ℕ → ℕ → Table → Type 0
AllJoin left right n [] = Unit {0}
AllJoin left right n (p ∷ ps) = Joins left right n p.1 × AllJoin left right n ps

abbrev Found : ℕ → ℕ → ℕ → Option (Expr → Expr → Expr) → Type 0
Found left right n None = Unit {0}
Found left right n (Some make) = Joins left right n make

found : (left right n : ℕ) (table : Table) → AllJoin left right n table → (ts : Tokens) → Found left right n (looked_up table ts)
found left right n [] j ts = tt
found left right n (p ∷ ps) j ts = by_test (begins p.0 ts) (found left right n ps j.1 ts)
  where
    by_test : (b : Bool) → Found left right n (looked_up ps ts) → Found left right n (elim b as (λ x. Option (Expr → Expr → Expr)) [ true ↦ Some p.1 | false ↦ looked_up ps ts ])
    by_test true f = j.0
    by_test false f = f

chain_makes : (k n : ℕ) (table : Table) → AllJoin n (suc n) n table → (rule : Rule Expr) → Makes (Tight (suc n)) rule → (x : Expr) → Tight n x → Makes (Tight n) (chain k table rule x)
unfolding chain
chain_makes zero n table j rule r x t = record { law = λ ts p. by_found (looked_up table ts) ts p }
  where
    by_found : (o : Option (Expr → Expr → Expr)) (ts : Tokens) → Proper ts → Made (Tight n) (elim o as (λ y. Read Expr) [ None ↦ Took x ts | Some make ↦ Stopped (too_deep ts) ])
    by_found None ts p = (t, p)
    by_found (Some make) ts p = tt
chain_makes (suc k) n table j rule r x t = record { law = λ ts p. by_found (λ y. chain_makes k n table j rule r y) (looked_up table ts) (found n (suc n) n table j ts) ts p }
  where
    by_found : ((y : Expr) → Tight n y → Makes (Tight n) (chain k table rule y)) → (o : Option (Expr → Expr → Expr)) → Found n (suc n) n o → (ts : Tokens) → Proper ts
        → Made (Tight n) (elim o as (λ y. Read Expr) [ None ↦ Took x ts | Some make ↦ and_then (rule (behind ts)) (λ y. chain k table rule (make x y)) ])
    by_found again None f ts p = (t, p)
    by_found again (Some make) f ts p = (behind_makes (bind r (λ y u. again (make x y) (f.law x y t u)))).law ts p

chained_makes : (n : ℕ) (table : Table) → AllJoin n (suc n) n table → (rule : Rule Expr) → Makes (Tight (suc n)) rule → Makes (Tight n) (chained table rule)
unfolding chained
chained_makes n table j rule r = bind r (λ x t. chain_makes MAX_CHAIN n table j rule r x (looser n x t))

-- the forms of an operator whose operands bind so tightly
joined : (x y : Expr) (leans : Bool) → leans ≡ true → is_told x ≡ true → is_told y ≡ true → (leans && (is_told x && is_told y)) ≡ true
joined x y leans l g h = and_from leans (is_told x && is_told y) l (and_from (is_told x) (is_told y) g h)

joins : (left right n m : ℕ) (make : Expr → Expr → Expr) → nat_le n m ≡ true → ((x y : Expr) → bond (make x y) ≡ m)
    → ((x y : Expr) → is_told (make x y) ≡ ((nat_le left (bond x) && nat_le right (bond y)) && (is_told x && is_told y))) → Joins left right n make
joins left right n m make h bonds is = record {
  law = λ x y t u. record {
    told = is x y ∙ joined x y (nat_le left (bond x) && nat_le right (bond y)) (and_from (nat_le left (bond x)) (nat_le right (bond y)) t.tight u.tight) t.told u.told;
    tight = ap (nat_le n) (bonds x y) ∙ h;
  };
}

products_join : AllJoin 5 6 5 products
products_join = (joins 5 6 5 5 _ refl (λ x y. refl) (λ x y. refl), (joins 5 6 5 5 _ refl (λ x y. refl) (λ x y. refl), (joins 5 6 5 5 _ refl (λ x y. refl) (λ x y. refl), tt)))

sums_join : AllJoin 4 5 4 sums
sums_join = (joins 4 5 4 4 _ refl (λ x y. refl) (λ x y. refl), (joins 4 5 4 4 _ refl (λ x y. refl) (λ x y. refl), tt))

compares : (make : Expr → Expr → Expr) → ((x y : Expr) → bond (make x y) ≡ 3)
    → ((x y : Expr) → is_told (make x y) ≡ ((nat_le 4 (bond x) && nat_le 4 (bond y)) && (is_told x && is_told y))) → Joins 4 4 3 make
compares make bonds is = joins 4 4 3 3 make refl bonds is

comparisons_join : AllJoin 4 4 3 comparisons
comparisons_join =
    (compares _ (λ x y. refl) (λ x y. refl), (compares _ (λ x y. refl) (λ x y. refl), (compares _ (λ x y. refl) (λ x y. refl), (compares _ (λ x y. refl) (λ x y. refl), (compares _ (λ x y. refl) (λ x y. refl), (compares _ (λ x y. refl) (λ x y. refl), tt))))))

ands_join : AllJoin 1 2 1 ands
ands_join = (joins 1 2 1 1 And refl (λ x y. refl) (λ x y. refl), tt)

ors_join : AllJoin 0 1 0 ors
ors_join = (joins 0 1 0 0 Or refl (λ x y. refl) (λ x y. refl), tt)

prod_makes : (d : Option Deeper) → MakesIn d → Makes (Tight 5) (prod d)
unfolding prod
prod_makes d k = chained_makes 5 products products_join (unary d) (unary_makes d k)

sum_makes : (d : Option Deeper) → MakesIn d → Makes (Tight 4) (sum d)
unfolding sum
sum_makes d k = chained_makes 4 sums sums_join (prod d) (prod_makes d k)

compared_makes : (rule : Rule Expr) → Makes (Tight 4) rule → (x : Expr) → Tight 4 x → Makes (Tight 3) (compared rule x)
compared_makes rule r x t = record { law = λ ts p. by_found (looked_up comparisons ts) (found 4 4 3 comparisons comparisons_join ts) ts p }
  where
    by_found : (o : Option (Expr → Expr → Expr)) → Found 4 4 3 o → (ts : Tokens) → Proper ts
        → Made (Tight 3) (elim o as (λ y. Read Expr) [ None ↦ Took x ts | Some make ↦ and_then (rule (behind ts)) (λ y. give (make x y)) ])
    by_found None f ts p = (looser 3 x t, p)
    by_found (Some make) f ts p = (behind_makes (bind r (λ y u. makes (Tight 3) (make x y) (f.law x y t u)))).law ts p

cmp_makes : (d : Option Deeper) → MakesIn d → Makes (Tight 3) (cmp d)
unfolding cmp
cmp_makes d k = bind (sum_makes d k) (λ x t. compared_makes (sum d) (sum_makes d k) x t)

neg_makes : (d : Option Deeper) → MakesIn d → Makes (Tight 2) (neg d)
unfolding neg
neg_makes d k =
    at_makes (codes "NOT")
    (opens d k (λ d h. bind h.neg (λ e t. makes (Tight 2) (Not e) (record { told = and_from (nat_le 2 (bond e)) (is_told e) t.tight t.told; tight = refl }))))
    (looser_rule (cmp_makes d k))

conj_makes : (d : Option Deeper) → MakesIn d → Makes (Tight 1) (conj d)
unfolding conj
conj_makes d k = chained_makes 1 ands ands_join (neg d) (neg_makes d k)

expr_in_makes : (d : Option Deeper) → MakesIn d → Makes (Tight 0) (expr_in d)
unfolding expr_in
expr_in_makes d k = chained_makes 0 ors ors_join (conj d) (conj_makes d k)

levels_make : (n : ℕ) → MakesIn (levels n)
unfolding levels
levels_make zero = tt
levels_make (suc n) = record { expr = expr_in_makes (levels n) (levels_make n); neg = neg_makes (levels n) (levels_make n); unary = unary_makes (levels n) (levels_make n) }

expr_makes : Makes (Tight 0) expr
unfolding expr
expr_makes = expr_in_makes (levels MAX_LEVELS) (levels_make MAX_LEVELS)

-- ---- queries

record Told (e : Expr) : Type 0 where
  told : is_told e ≡ true

told_expr : Makes Told expr
told_expr = record { law = λ ts p. by_read (expr ts) (expr_makes.law ts p) }
  where
    by_read : (r : Read Expr) → Made (Tight 0) r → Made Told r
    by_read (Took e rest) h = (record { told = h.0.told }, h.1)
    by_read (Stopped f) h = tt

option_makes : {rule : Rule Expr} (s : List ℕ) → Makes Told rule → Makes (λ o. is_told_in o ≡ true) (optional s rule)
option_makes s r = either_makes s (bind r (λ e h. makes (λ o. is_told_in o ≡ true) (Some e) h.told)) (makes (λ o. is_told_in o ≡ true) None refl)

turns_make : (n : ℕ) (s : List ℕ) → Makes (λ es. list_all is_told es ≡ true) (turns n s expr)
turns_make zero s = makes (λ es. list_all is_told es ≡ true) [] refl
turns_make (suc n) s =
    either_makes s
    (bind told_expr (λ e h. bind (turns_make n s) (λ es l. makes (λ xs. list_all is_told xs ≡ true) (e ∷ es) (and_from (is_told e) (list_all is_told es) h.told l))))
    (makes (λ es. list_all is_told es ≡ true) [] refl)

columns_make : Makes (λ es. list_all is_told es ≡ true) (list_of expr)
unfolding list_of brace
columns_make =
    bind told_expr (λ e h.
    bind (record { law = λ ts p. (turns_make (count ts) (codes ",")).law ts p }) (λ es l.
    makes (λ xs. list_all is_told xs ≡ true) (e ∷ es) (and_from (is_told e) (list_all is_told es) h.told l)))

record ToldSelection (s : Selection) : Type 0 where
  columns : list_all is_told s.columns ≡ true
  condition : is_told_in s.condition ≡ true
  having : is_told_in s.having ≡ true

selection_makes : Makes ToldSelection selection
unfolding selection
selection_makes =
    bind (after_makes (codes "SELECT") columns_make) (λ columns c.
    bind (option_makes (codes "WHERE") told_expr) (λ condition w.
    bind (option_makes (codes "HAVING") told_expr) (λ having h.
    makes ToldSelection (record { columns = columns; condition = condition; having = having }) (record { columns = c; condition = w; having = h }))))

-- ---- a whole text

back_makes : {A : Type 0} {rule : Rule A} {toks : A → List Token} → ReadsBack rule toks → Makes Anything rule
back_makes {A} {rule} {toks} s = record { law = λ ts p. by_read (rule ts) (s.law ts p) }
  where
    by_read : (r : Read A) → Backs rule toks r → Made Anything r
    by_read (Took x rest) b = (tt, b.rest_proper)
    by_read (Stopped f) b = tt

fields_make : (n : ℕ) → Makes Anything (turns n (codes "FIELD") field)
fields_make zero = makes Anything [] tt
fields_make (suc n) = either_makes (codes "FIELD") (bind (back_makes field_back) (λ d _. bind (fields_make n) (λ ds _. makes Anything (d ∷ ds) tt))) (makes Anything [] tt)

brace_makes : Makes Anything (brace (codes "FIELD") field)
unfolding brace
brace_makes = record { law = λ ts p. (fields_make (count ts)).law ts p }

pub record ToldQuery (q : Query) : Type 0 where
  pub told : are_told q ≡ true

told_of : (q : Query) → ToldSelection (record { columns = q.columns; condition = q.condition; having = q.having }) → ToldQuery q
told_of q g = record {
  told = and_from (list_all is_told q.columns) (is_told_in q.condition && is_told_in q.having) g.columns (and_from (is_told_in q.condition) (is_told_in q.having) g.condition g.having);
}

query_makes : Makes ToldQuery query
unfolding query
query_makes =
    bind (spelt_makes (clause_spelt (codes "KEYS") (word_says _ refl) names_spelt)) (λ keys _.
    bind brace_makes (λ fields _.
    bind (spelt_makes sources_spelt) (λ sources _.
    bind (spelt_makes clock_spelt) (λ clock _.
    bind (spelt_makes budget_spelt) (λ budget _.
    bind selection_makes (λ selection g.
    bind (spelt_makes output_spelt) (λ output _.
    makes ToldQuery _ (told_of (record {
      keys = keys;
      fields = fields;
      sources = sources;
      clock = clock;
      budget = budget;
      columns = selection.columns;
      condition = selection.condition;
      having = selection.having;
      output = output;
    }) g))))))))

-- a query that was read of tokens such as texts have
pub told_query : (ts : Tokens) → Proper ts → (q : Query) (rest : Tokens) → query ts ≡ Took q rest → are_told q ≡ true
told_query ts p q rest e = (by_read e).0.told
  where
    by_read : query ts ≡ Took q rest → Made ToldQuery (Took q rest)
    by_read e = subst (Made ToldQuery) e (query_makes.law ts p)

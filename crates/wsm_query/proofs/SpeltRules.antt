-- What each rule of expressions took is the tokens of its tree.
use Rattle.std.proofs.Common.{◌≡◌, ℕ, zero, suc, Bool, true, false, List, [], ◌∷◌, ◌++◌, refl, sym, ap, ◌∙◌, append_assoc, arith}
use Rattle.std.specs.Prelude.{Option, Some, None, codes}
use Rattle.wsm_record.specs.declared.words.Kind.{Kind}
use Rattle.wsm_record.specs.declared.words.Kind.TheVariants.{Sum, Min, Max, Any, All}
use Rattle.wsm_tokens.specs.declared.token.Sign.{Sign}
use Rattle.wsm_tokens.specs.declared.token.Sign.TheVariants as signs
use Rattle.wsm_tokens.specs.Tokens.{Token, Word, Mark, Tokens, Then, sign_text}
use Rattle.wsm_tokens.specs.Proper.{has_proper}
use Rattle.wsm_tokens.specs.Read.{Rule, Took, Stopped, ◌>>=◌, give, and_then, too_deep, unexpected, behind, ask, number, name, begins}
use Rattle.wsm_tokens.specs.Written.{bare}
use Rattle.wsm_query.specs.Tree.{Name, Expr, Number, Truth, Field, EnumName, Key, KeyName, Count, Aggregate, If, Brackets, Minus, Not}
use Rattle.wsm_record.specs.declared.limits.TheConstants.{MAX_CHAIN, MAX_LEVELS}
use Rattle.wsm_query.specs.Grammar.{after, kinds, aggregate, count_of, choice, brackets, pointed, leaf, atom, unary, chain, chained, products, sums, comparisons, ands, ors, prod, sum, compared, cmp, neg, conj, expr_in, Deeper, opened, deeper, levels, expr}
use Rattle.wsm_query.specs.Print.{figures, kind_word, expr_tokens}
use Rattle.wsm_query.proofs.Chains.{Table}
use Rattle.wsm_query.proofs.Spelt.{Proper, Says, word_says, sign_says, begun, Ends, Spelt, Goes, Opens, spelt, goes, last_goes, step, done, moved, behind_opens, deep_opens, at_goes, either_goes, numbered_goes, Entry, Entries, listed_goes}

ask_ends : (s : List ℕ) (t : Token) → Says s t → (ts : Tokens) → Proper ts → (c : Bool) → begins s ts ≡ c
    → Ends (bare ts) (λ (u : Unit {0}). t ∷ []) (elim c [ true ↦ Took tt (behind ts) | false ↦ Stopped (unexpected ts) ])
ask_ends s t k ts p true h = let n = begun s t k ts p h in (n.same, n.proper)
ask_ends s t k ts p false h = tt

pub ask_spelt : (s : List ℕ) (t : Token) → Says s t → Spelt (ask s) (λ _. t ∷ [])
unfolding ask
ask_spelt s t k = record { law = λ ts p. ask_ends s t k ts p (begins s ts) refl }

pub word_spelt : (s : List ℕ) → Says s (Word s) → Spelt (ask s) (λ _. Word s ∷ [])
word_spelt s k = ask_spelt s (Word s) k

pub sign_spelt : (g : Sign) → Spelt (ask (sign_text g)) (λ _. Mark g ∷ [])
sign_spelt g = ask_spelt (sign_text g) (Mark g) (sign_says g)

pub after_spelt : {A : Type 0} {rule : Rule A} {toks : A → List Token} (s : List ℕ) → Says s (Word s) → Spelt rule toks → Spelt (after s rule) (λ x. Word s ∷ toks x)
after_spelt s k r = spelt (λ b. step (word_spelt s k) (λ _. last_goes r (λ x. refl)))

number_ends : (ts : Tokens) → Proper ts → Ends (bare ts) figures (number ts)
unfolding number bare has_proper
number_ends ts p = grind arith

pub number_spelt : Spelt number figures
number_spelt = record { law = number_ends }

name_ends : (ts : Tokens) → Proper ts → Ends (bare ts) (λ x. Word x ∷ []) (name ts)
unfolding name bare has_proper
name_ends ts p = grind arith

pub name_spelt : Spelt name (λ x. Word x ∷ [])
name_spelt = record { law = name_ends }

-- the rules one level deeper
pub record SpeltAt (d : Deeper) : Type 0 where
  pub expr : Spelt d.expr expr_tokens
  pub neg : Spelt d.neg expr_tokens
  pub unary : Spelt d.unary expr_tokens

abbrev pub SpeltIn : Option Deeper → Type 0
SpeltIn None = Unit {0}
SpeltIn (Some d) = SpeltAt d

opened_goes : {B : Type 0} {b : Tokens} {front : List Token} {final : B → List Token} (d : Option Deeper) → SpeltIn d → {go : Deeper → Rule B}
    → ((e : Deeper) → SpeltAt e → Goes b front (go e) final) → Opens b front (opened d >>= go) final
opened_goes d k g = grind arith

aggregate_opens : {b : Tokens} (d : Option Deeper) → SpeltIn d → (kind : Kind) → Opens b (Word (kind_word kind) ∷ []) (aggregate d kind) expr_tokens
unfolding aggregate
aggregate_opens d k kind =
    opened_goes d k (λ e h.
    step (sign_spelt signs.Open) (λ _.
    step h.expr (λ x.
    step (sign_spelt signs.Close) (λ _. done (Aggregate kind x) (simp append_assoc)))))

count_of_opens : {b : Tokens} (d : Option Deeper) → SpeltIn d → Opens b (Word (codes "COUNT") ∷ []) (count_of d) expr_tokens
unfolding count_of
count_of_opens d k =
    opened_goes d k (λ e h.
    step (sign_spelt signs.Open) (λ _.
    step (sign_spelt signs.Star) (λ _.
    step (sign_spelt signs.Close) (λ _. done Count refl))))

choice_opens : {b : Tokens} (d : Option Deeper) → SpeltIn d → Opens b (Word (codes "IF") ∷ []) (choice d) expr_tokens
unfolding choice
choice_opens d k =
    opened_goes d k (λ e h.
    step h.expr (λ c.
    step (after_spelt (codes "THEN") (word_says _ refl) h.expr) (λ x.
    step (after_spelt (codes "ELSE") (word_says _ refl) h.expr) (λ y.
    step (word_spelt (codes "END") (word_says _ refl)) (λ _. done (If c x y) (simp append_assoc))))))

brackets_opens : {b : Tokens} (d : Option Deeper) → SpeltIn d → Opens b (Mark signs.Open ∷ []) (brackets d) expr_tokens
unfolding brackets
brackets_opens d k = opened_goes d k (λ e h. step h.expr (λ x. step (sign_spelt signs.Close) (λ _. done (Brackets x) refl)))

pointed_goes : {b : Tokens} {front : List Token} (alone : Expr) (with_name : Name → Expr) → front ≡ expr_tokens alone
    → ((x : Name) → (front ++ Mark signs.Dot ∷ []) ++ Word x ∷ [] ≡ expr_tokens (with_name x)) → Goes b front (pointed alone with_name) expr_tokens
unfolding pointed
pointed_goes alone with_name e f =
    either_goes (codes ".") (Mark signs.Dot) (sign_says signs.Dot) (step name_spelt (λ x. done (with_name x) (f x))) (done alone e)

leaf_goes : {b : Tokens} → Goes b [] leaf expr_tokens
unfolding leaf
leaf_goes =
    either_goes (codes "TRUE") (Word (codes "TRUE")) (word_says _ refl) (done (Truth true) refl)
    (either_goes (codes "FALSE") (Word (codes "FALSE")) (word_says _ refl) (done (Truth false) refl)
    (either_goes (codes "KEY") (Word (codes "KEY")) (word_says _ refl) (pointed_goes Key KeyName refl (λ x. refl))
    (step name_spelt (λ x. pointed_goes (Field x) (EnumName x) refl (λ y. refl)))))

abbrev IsKind : Token → Kind → Type 0
IsKind t kind = t ≡ Word (kind_word kind)

kind_entry : (kind : Kind) → Says (kind_word kind) (Word (kind_word kind)) → Entry IsKind (kind_word kind, kind)
kind_entry kind k = record { token = Word (kind_word kind); says = k; meaning = refl }

kind_entries : Entries IsKind kinds
kind_entries =
    (kind_entry Sum (word_says _ refl), (kind_entry Min (word_says _ refl), (kind_entry Max (word_says _ refl), (kind_entry Any (word_says _ refl), (kind_entry All (word_says _ refl), tt)))))

renamed : {A : Type 0} {b : Tokens} {rule : Rule A} {final : A → List Token} (t u : Token) → t ≡ u → Opens b (u ∷ []) rule final → Opens b (t ∷ []) rule final
renamed t u e o = record { law = λ ts p h. o.law ts p (h ∙ ap (λ v. Then v 0 (bare (behind ts))) e) }

atom_goes : {b : Tokens} (d : Option Deeper) → SpeltIn d → Goes b [] (atom d) expr_tokens
unfolding atom
atom_goes d k =
    numbered_goes (step number_spelt (λ n. done (Number n) refl))
    (listed_goes IsKind kinds kind_entries (λ kind t e. renamed t (Word (kind_word kind)) e (aggregate_opens d k kind))
    (at_goes (codes "COUNT") (Word (codes "COUNT")) (word_says _ refl) (count_of_opens d k)
    (at_goes (codes "IF") (Word (codes "IF")) (word_says _ refl) (choice_opens d k)
    (at_goes (codes "(") (Mark signs.Open) (sign_says signs.Open) (brackets_opens d k) leaf_goes))))

unary_spelt : (d : Option Deeper) → SpeltIn d → Spelt (unary d) expr_tokens
unfolding unary
unary_spelt d k =
    spelt (λ b. at_goes (codes "-") (Mark signs.Minus) (sign_says signs.Minus) (opened_goes d k (λ e h. step h.unary (λ x. done (Minus x) refl))) (atom_goes d k))

-- the token stands between the operands
abbrev Joins : Token → (Expr → Expr → Expr) → Type 0
Joins t make = (x y : Expr) → expr_tokens (make x y) ≡ expr_tokens x ++ t ∷ expr_tokens y

joined : (t : Token) (make : Expr → Expr → Expr) (x y : Expr) → Joins t make → (expr_tokens x ++ t ∷ []) ++ expr_tokens y ≡ expr_tokens (make x y)
joined t make x y j = append_assoc (expr_tokens x) (t ∷ []) (expr_tokens y) ∙ sym (j x y)

chain_goes : {b : Tokens} (n : ℕ) (table : Table) → Entries Joins table → (rule : Rule Expr) → Spelt rule expr_tokens → (x : Expr) → Goes b (expr_tokens x) (chain n table rule x) expr_tokens
unfolding chain
chain_goes zero table r rule s x =
    listed_goes Joins table r {found = λ make ts. Stopped (too_deep ts)} {second = give x} (λ make t j. deep_opens) (done x refl)
chain_goes {b = b} (suc n) table r rule s x =
    listed_goes Joins table r {found = λ make ts. and_then (rule (behind ts)) (λ y. chain n table rule (make x y))} {second = give x}
    (λ make t j. behind_opens (step {go = λ y. chain n table rule (make x y)} s (λ y.
    moved (expr_tokens (make x y)) (joined t make x y j) (chain_goes {b = b} n table r rule s (make x y)))))
    (done x refl)

chained_spelt : (table : Table) → Entries Joins table → (rule : Rule Expr) → Spelt rule expr_tokens → Spelt (chained table rule) expr_tokens
unfolding chained
chained_spelt table r rule s = spelt (λ b. step s (λ x. chain_goes MAX_CHAIN table r rule s x))

sign_joins : (g : Sign) (make : Expr → Expr → Expr) → Joins (Mark g) make → Entry Joins (sign_text g, make)
sign_joins g make j = record { token = Mark g; says = sign_says g; meaning = j }

word_joins : (s : List ℕ) (make : Expr → Expr → Expr) → Says s (Word s) → Joins (Word s) make → Entry Joins (s, make)
word_joins s make k j = record { token = Word s; says = k; meaning = j }

product_entries : Entries Joins products
product_entries = (sign_joins signs.Star _ (λ x y. refl), (sign_joins signs.Slash _ (λ x y. refl), (sign_joins signs.Percent _ (λ x y. refl), tt)))

sum_entries : Entries Joins sums
sum_entries = (sign_joins signs.Plus _ (λ x y. refl), (sign_joins signs.Minus _ (λ x y. refl), tt))

comparison_entries : Entries Joins comparisons
comparison_entries = (
  sign_joins signs.Equal _ (λ x y. refl),
  (
    sign_joins signs.NotEqual _ (λ x y. refl),
    (
      sign_joins signs.Less _ (λ x y. refl),
      (sign_joins signs.LessOrEqual _ (λ x y. refl), (sign_joins signs.Greater _ (λ x y. refl), (sign_joins signs.GreaterOrEqual _ (λ x y. refl), tt))),
    ),
  ),
)

and_entries : Entries Joins ands
and_entries = (word_joins (codes "AND") _ (word_says _ refl) (λ x y. refl), tt)

or_entries : Entries Joins ors
or_entries = (word_joins (codes "OR") _ (word_says _ refl) (λ x y. refl), tt)

prod_spelt : (d : Option Deeper) → SpeltIn d → Spelt (prod d) expr_tokens
unfolding prod
prod_spelt d k = chained_spelt products product_entries (unary d) (unary_spelt d k)

sum_spelt : (d : Option Deeper) → SpeltIn d → Spelt (sum d) expr_tokens
unfolding sum
sum_spelt d k = chained_spelt sums sum_entries (prod d) (prod_spelt d k)

compared_goes : {b : Tokens} (rule : Rule Expr) → Spelt rule expr_tokens → (x : Expr) → Goes b (expr_tokens x) (compared rule x) expr_tokens
compared_goes rule s x =
    listed_goes Joins comparisons comparison_entries {found = λ make ts. and_then (rule (behind ts)) (λ y. give (make x y))} {second = give x}
    (λ make t j. behind_opens (step {go = λ y. give (make x y)} s (λ y. done (make x y) (joined t make x y j))))
    (done x refl)

cmp_spelt : (d : Option Deeper) → SpeltIn d → Spelt (cmp d) expr_tokens
unfolding cmp
cmp_spelt d k = spelt (λ b. step (sum_spelt d k) (λ x. compared_goes (sum d) (sum_spelt d k) x))

neg_spelt : (d : Option Deeper) → SpeltIn d → Spelt (neg d) expr_tokens
unfolding neg
neg_spelt d k =
    spelt (λ b. at_goes (codes "NOT") (Word (codes "NOT")) (word_says _ refl) (opened_goes d k (λ e h. step h.neg (λ x. done (Not x) refl))) (goes (cmp_spelt d k)))

conj_spelt : (d : Option Deeper) → SpeltIn d → Spelt (conj d) expr_tokens
unfolding conj
conj_spelt d k = chained_spelt ands and_entries (neg d) (neg_spelt d k)

expr_in_spelt : (d : Option Deeper) → SpeltIn d → Spelt (expr_in d) expr_tokens
unfolding expr_in
expr_in_spelt d k = chained_spelt ors or_entries (conj d) (conj_spelt d k)

deeper_spelt : (d : Option Deeper) → SpeltIn d → SpeltAt (deeper d)
deeper_spelt d k = record { expr = expr_in_spelt d k; neg = neg_spelt d k; unary = unary_spelt d k }

levels_spelt : (n : ℕ) → SpeltIn (levels n)
unfolding levels
levels_spelt zero = tt
levels_spelt (suc n) = deeper_spelt (levels n) (levels_spelt n)

pub expr_spelt : Spelt expr expr_tokens
unfolding expr
expr_spelt = expr_in_spelt (levels MAX_LEVELS) (levels_spelt MAX_LEVELS)

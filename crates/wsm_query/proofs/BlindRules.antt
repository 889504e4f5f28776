-- Each rule of the grammar is blind to places.
use Rattle.std.proofs.Common.{ℕ, zero, suc, true, false, List, [], ◌∷◌, neg_ℤ}
use Rattle.std.specs.Prelude.{Option, codes}
use Rattle.wsm_record.specs.declared.words.Kind.{Kind}
use Rattle.wsm_record.specs.declared.words.Mode.TheVariants.{Discarding, Accumulating, Retracting}
use Rattle.wsm_record.specs.declared.words.Form.TheVariants.{Panes, Istream, Dstream, Rstream}
use Rattle.wsm_windows.specs.declared.window.Shape.TheVariants.{Fixed, Sliding, Session}
use Rattle.wsm_tokens.specs.Read.{Rule, Stopped, give, and_then, behind, too_deep}
use Rattle.wsm_record.specs.Schema as field_types
use Rattle.wsm_query.specs.Tree.{Name, Expr, Number, Truth, Field, EnumName, Key, KeyName, Count, Aggregate, If, Brackets, Minus, Not}
use Rattle.wsm_record.specs.declared.limits.TheConstants.{MAX_CHAIN, MAX_LEVELS}
use Rattle.wsm_query.specs.Grammar.{clause, kinds, aggregate, count_of, choice, brackets, pointed, leaf, atom, unary, chain, chained, products, sums, comparisons, ands, ors, prod, sum, compared, cmp, neg, conj, expr_in, Deeper, deeper, levels, expr, int, names, type_of, field, budget, clock, selection, output, shape, mode, form, every, sources, from_window}
use Rattle.wsm_query.proofs.Chains.{Table}
use Rattle.wsm_query.proofs.Blind.{Blind, BlindAt, BlindIn, give_blind, bind_blind, behind_blind, deep_blind, at_blind, either_blind, numbered_blind, listed_blind, one_of_blind, ask_blind, number_blind, name_blind, after_blind, until_blind, optional_blind, list_of_blind, opened_blind}

aggregate_blind : (d : Option Deeper) → BlindIn d → (kind : Kind) → Blind (aggregate d kind)
unfolding aggregate
aggregate_blind d k kind =
    opened_blind d k (λ e h. bind_blind (ask_blind (codes "(")) (λ _. bind_blind h.expr (λ x. bind_blind (ask_blind (codes ")")) (λ _. give_blind (Aggregate kind x)))))

count_of_blind : (d : Option Deeper) → BlindIn d → Blind (count_of d)
unfolding count_of
count_of_blind d k =
    opened_blind d k (λ e h. bind_blind (ask_blind (codes "(")) (λ _. bind_blind (ask_blind (codes "*")) (λ _. bind_blind (ask_blind (codes ")")) (λ _. give_blind Count))))

choice_blind : (d : Option Deeper) → BlindIn d → Blind (choice d)
unfolding choice
choice_blind d k =
    opened_blind d k (λ e h.
    bind_blind h.expr (λ c.
    bind_blind (after_blind (codes "THEN") h.expr) (λ x.
    bind_blind (after_blind (codes "ELSE") h.expr) (λ y.
    bind_blind (ask_blind (codes "END")) (λ _. give_blind (If c x y))))))

brackets_blind : (d : Option Deeper) → BlindIn d → Blind (brackets d)
unfolding brackets
brackets_blind d k = opened_blind d k (λ e h. bind_blind h.expr (λ x. bind_blind (ask_blind (codes ")")) (λ _. give_blind (Brackets x))))

pointed_blind : (alone : Expr) (with_name : Name → Expr) → Blind (pointed alone with_name)
unfolding pointed
pointed_blind alone with_name = either_blind (codes ".") (bind_blind name_blind (λ x. give_blind (with_name x))) (give_blind alone)

leaf_blind : Blind leaf
unfolding leaf
leaf_blind =
    either_blind (codes "TRUE") (give_blind (Truth true))
    (either_blind (codes "FALSE") (give_blind (Truth false))
    (either_blind (codes "KEY") (pointed_blind Key KeyName)
    (bind_blind name_blind (λ x. pointed_blind (Field x) (EnumName x)))))

atom_blind : (d : Option Deeper) → BlindIn d → Blind (atom d)
unfolding atom
atom_blind d k =
    numbered_blind (bind_blind number_blind (λ n. give_blind (Number n)))
    (listed_blind kinds (aggregate_blind d k)
    (at_blind (codes "COUNT") (count_of_blind d k) (at_blind (codes "IF") (choice_blind d k) (at_blind (codes "(") (brackets_blind d k) leaf_blind))))

unary_blind : (d : Option Deeper) → BlindIn d → Blind (unary d)
unfolding unary
unary_blind d k = at_blind (codes "-") (opened_blind d k (λ e h. bind_blind h.unary (λ x. give_blind (Minus x)))) (atom_blind d k)

chain_blind : (n : ℕ) (table : Table) (rule : Rule Expr) → Blind rule → (x : Expr) → Blind (chain n table rule x)
unfolding chain
chain_blind zero table rule r x = listed_blind table {found = λ make ts. Stopped (too_deep ts)} {second = give x} (λ make. deep_blind) (give_blind x)
chain_blind (suc n) table rule r x =
    listed_blind table {found = λ make ts. and_then (rule (behind ts)) (λ y. chain n table rule (make x y))} {second = give x}
    (λ make. behind_blind (bind_blind {rule = rule} {go = λ y. chain n table rule (make x y)} r (λ y. chain_blind n table rule r (make x y))))
    (give_blind x)

chained_blind : (table : Table) (rule : Rule Expr) → Blind rule → Blind (chained table rule)
unfolding chained
chained_blind table rule r = bind_blind r (λ x. chain_blind MAX_CHAIN table rule r x)

prod_blind : (d : Option Deeper) → BlindIn d → Blind (prod d)
unfolding prod
prod_blind d k = chained_blind products (unary d) (unary_blind d k)

sum_blind : (d : Option Deeper) → BlindIn d → Blind (sum d)
unfolding sum
sum_blind d k = chained_blind sums (prod d) (prod_blind d k)

compared_blind : (rule : Rule Expr) → Blind rule → (x : Expr) → Blind (compared rule x)
compared_blind rule r x =
    listed_blind comparisons {found = λ make ts. and_then (rule (behind ts)) (λ y. give (make x y))} {second = give x}
    (λ make. behind_blind (bind_blind {rule = rule} {go = λ y. give (make x y)} r (λ y. give_blind (make x y))))
    (give_blind x)

cmp_blind : (d : Option Deeper) → BlindIn d → Blind (cmp d)
unfolding cmp
cmp_blind d k = bind_blind (sum_blind d k) (λ x. compared_blind (sum d) (sum_blind d k) x)

neg_blind : (d : Option Deeper) → BlindIn d → Blind (neg d)
unfolding neg
neg_blind d k = at_blind (codes "NOT") (opened_blind d k (λ e h. bind_blind h.neg (λ x. give_blind (Not x)))) (cmp_blind d k)

conj_blind : (d : Option Deeper) → BlindIn d → Blind (conj d)
unfolding conj
conj_blind d k = chained_blind ands (neg d) (neg_blind d k)

expr_in_blind : (d : Option Deeper) → BlindIn d → Blind (expr_in d)
unfolding expr_in
expr_in_blind d k = chained_blind ors (conj d) (conj_blind d k)

deeper_blind : (d : Option Deeper) → BlindIn d → BlindAt (deeper d)
deeper_blind d k = record { expr = expr_in_blind d k; neg = neg_blind d k; unary = unary_blind d k }

levels_blind : (n : ℕ) → BlindIn (levels n)
unfolding levels
levels_blind zero = tt
levels_blind (suc n) = deeper_blind (levels n) (levels_blind n)

pub expr_blind : Blind expr
unfolding expr
expr_blind = expr_in_blind (levels MAX_LEVELS) (levels_blind MAX_LEVELS)

pub names_blind : Blind names
unfolding names
names_blind = list_of_blind name_blind

pub budget_blind : Blind budget
unfolding budget
budget_blind =
    bind_blind (after_blind (codes "RECORD") number_blind) (λ r.
    bind_blind (after_blind (codes "PANE") number_blind) (λ p.
    bind_blind (after_blind (codes "HELD") number_blind) (λ h.
    bind_blind (ask_blind (codes ";")) (λ _. give_blind (record { per_record = r; per_pane = p; held = h })))))

pub shape_blind : Blind shape
unfolding shape
shape_blind =
    either_blind (codes "FIXED") (bind_blind number_blind (λ s. give_blind (Fixed s)))
    (either_blind (codes "SLIDING") (bind_blind number_blind (λ s. bind_blind (after_blind (codes "EVERY") number_blind) (λ d. give_blind (Sliding s d))))
    (after_blind (codes "SESSION") (bind_blind number_blind (λ g. give_blind (Session g)))))

pub mode_blind : Blind mode
unfolding mode
mode_blind = one_of_blind ((codes "ACCUMULATING", Accumulating) ∷ (codes "DISCARDING", Discarding) ∷ (codes "RETRACTING", Retracting) ∷ [])

pub form_blind : Blind form
unfolding form
form_blind = one_of_blind ((codes "PANES", Panes) ∷ (codes "ISTREAM", Istream) ∷ (codes "DSTREAM", Dstream) ∷ (codes "RSTREAM", Rstream) ∷ [])

pub every_blind : Blind every
unfolding every
every_blind = after_blind (codes "EVERY") number_blind

pub clause_blind : {A : Type 0} {rule : Rule A} (s : List ℕ) → Blind rule → Blind (clause s rule)
clause_blind s r = after_blind s (until_blind (codes ";") r)

pub sources_blind : Blind sources
unfolding sources
sources_blind = either_blind (codes "SOURCES") (until_blind (codes ";") names_blind) (give_blind [])

from_window_blind : Blind from_window
unfolding from_window
from_window_blind = either_blind (codes "FROM") (after_blind (codes "WINDOW") (give_blind true)) (give_blind false)

pub clock_blind : Blind clock
unfolding clock
clock_blind =
    bind_blind (clause_blind (codes "START") number_blind) (λ start.
    bind_blind (clause_blind (codes "SKEW") number_blind) (λ skew.
    bind_blind (after_blind (codes "LATENESS") number_blind) (λ lateness.
    bind_blind (until_blind (codes ";") from_window_blind) (λ from_window.
    bind_blind (clause_blind (codes "RECORDS") number_blind) (λ records.
    give_blind (record { start = start; skew = skew; lateness = lateness; from_window = from_window; records = records }))))))

pub selection_blind : Blind selection
unfolding selection
selection_blind =
    bind_blind (after_blind (codes "SELECT") (list_of_blind expr_blind)) (λ columns.
    bind_blind (optional_blind (codes "WHERE") expr_blind) (λ condition.
    bind_blind (optional_blind (codes "HAVING") expr_blind) (λ having.
    give_blind (record { columns = columns; condition = condition; having = having }))))

pub output_blind : Blind output
unfolding output
output_blind =
    bind_blind (after_blind (codes "WINDOW") shape_blind) (λ shape.
    bind_blind mode_blind (λ mode.
    bind_blind (optional_blind (codes "EARLY") every_blind) (λ early.
    bind_blind (optional_blind (codes "LATE") every_blind) (λ late.
    bind_blind (clause_blind (codes "EMIT") form_blind) (λ form.
    give_blind (record { shape = shape; mode = mode; early = early; late = late; form = form }))))))

pub int_blind : Blind int
unfolding int
int_blind = either_blind (codes "-") (bind_blind number_blind (λ n. give_blind (neg_ℤ n))) number_blind

pub type_of_blind : Blind type_of
unfolding type_of
type_of_blind =
    either_blind (codes "INT") (bind_blind int_blind (λ lo. bind_blind (after_blind (codes "..") int_blind) (λ hi. give_blind (field_types.Int lo hi))))
    (either_blind (codes "BOOL") (give_blind field_types.Truth)
    (after_blind (codes "ENUM") (after_blind (codes "(") (until_blind (codes ")") (bind_blind names_blind (λ xs. give_blind (field_types.Enum xs)))))))

pub field_blind : Blind field
unfolding field
field_blind = bind_blind name_blind (λ x. bind_blind type_of_blind (λ t. bind_blind (ask_blind (codes ";")) (λ _. give_blind (record { name = x; type = t }))))

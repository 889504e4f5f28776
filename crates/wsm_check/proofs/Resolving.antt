-- What each form of expression says and what it means, by its parts.
use Rattle.std.proofs.Common.{◌≡◌, ◌∙◌, ◌+◌, ◌<◌, ◌≤◌, ◌⊎◌, ℕ, true, List, [], ◌∷◌, ◌++◌, length, map, Ok, inl, inr, append_assoc, append-nil, refl, sym, ap, ap₂, arith, length-append}
use Rattle.std.specs.Prelude.{Bool, Result, IfOk, is_ok}
use Rattle.std.proofs.lemmas.Bool.{and_from}
use Rattle.std.proofs.lemmas.List.{length-map, map-append}
use Rattle.wsm_record.specs.declared.words.CellType.{CellType}
use Rattle.wsm_record.specs.declared.words.CellType.TheVariants as types
use Rattle.wsm_record.specs.declared.words.Kind.{Kind}
use Rattle.wsm_record.specs.Types.{is_type, kind_type}
use Rattle.wsm_query.specs.declared.expr.Op.{Op}
use Rattle.wsm_query.specs.declared.expr.Expr.{Expr as CodeExpr}
use Rattle.wsm_query.specs.Seen.{seen_expr}
use Rattle.wsm_query.specs.Tree.{Query, Expr, Aggregate, If, Brackets, Minus, Not, Binary, And, Or}
use Rattle.wsm_check.specs.declared.refusal.Part.{Part}
use Rattle.wsm_check.specs.declared.refusal.CheckRefusal.{CheckRefusal}
use Rattle.wsm_check.specs.Types.{Around, InColumn, InAggregate, Typed, if_typed, typed, choice_ty, logic_ty, op_ty, wanted}
use Rattle.wsm_check.specs.Aggregates.{Acc, accumulators_of, aggregates}
use Rattle.wsm_check.specs.Spelt.{numbers_fit}
use Rattle.wsm_check.specs.Terms.{Term, resolved}
use Rattle.wsm_check.specs.Terms as terms
use Rattle.wsm_check.specs.Parts.{Folding, folding}
use Rattle.wsm_check.specs.declared.term.Term.{Term as Code}
use Rattle.wsm_check.specs.declared.parts.Folding.{Folding as CodeFolding}
use Rattle.wsm_check.specs.Seen.{seen_folding, seen_term}
use Rattle.wsm_check.specs.Resolved.{IsRefused, Resolves, ResolvesAs, joined, two_ty}
use Rattle.wsm_check.proofs.Plain.{plain}
use Rattle.wsm_check.proofs.PassedChecks.{length-accumulators_of}

-- ---- faults

-- of a part
pub stops : (p : Part) (x : Typed) (go : CellType → Typed) (r : CheckRefusal) → IsRefused p x r → IsRefused p (if_typed x go) r
stops p x go r h5 = grind arith

-- behind a part that has a type
pub behind : (p : Part) (x : Typed) (t : CellType) (go : CellType → Typed) (r : CheckRefusal) → x ≡ Ok t → IsRefused p (go t) r → IsRefused p (if_typed x go) r
behind p x t go r e h = rw e h

-- ---- terms

pub accumulators_behind : (q : Query) (around : Around) (e : Expr) (a b : List Folding) (t : CellType) (x : Term) → Resolves q around e a b t x → length b ≡ length a + aggregates e
accumulators_behind q around e a b t x h =
    omega (arith, ap (λ (fs : List Folding). length fs) h.foldings, length-append a (map (folding q) (accumulators_of e)), length-map (accumulators_of e) (folding q), length-accumulators_of e)

-- accumulators behind others, and behind these
pub foldings_join : (q : Query) (a b c : List Folding) (xs ys : List Acc) → b ≡ a ++ map (folding q) xs → c ≡ b ++ map (folding q) ys → c ≡ a ++ map (folding q) (xs ++ ys)
foldings_join q a b c xs ys h l =
    l ∙ ap (λ fs. fs ++ map (folding q) ys) h ∙ append_assoc a (map (folding q) xs) (map (folding q) ys) ∙ ap (λ fs. a ++ fs) (sym (map-append (folding q) xs ys))

pub leaf : (q : Query) (around : Around) (e : Expr) (fs : List Folding) (t : CellType) (x : Term) → typed q around e ≡ Ok t → x ≡ resolved q (length fs) e → accumulators_of e ≡ [] → numbers_fit e ≡ true → Resolves q around e fs fs t x
leaf q around e fs t x has_type term none spelt = record {
  has_type = has_type;
  term = λ few. term;
  foldings = sym (append-nil fs) ∙ ap (λ accs. fs ++ map (folding q) accs) (sym none);
  spelt = spelt;
}

-- the same of one that may be refused
pub leaf_if : (q : Query) (around : Around) (e : Expr) (fs : List Folding) (r : Result (CellType × Code) CheckRefusal) → IfOk r (λ t. typed q around e ≡ Ok t.0) → IfOk r (λ t. seen_term t.1 ≡ resolved q (length fs) e) → accumulators_of e ≡ [] →
    numbers_fit e ≡ true → IfOk r (λ t. Resolves q around e fs fs t.0 (seen_term t.1))
leaf_if q around e fs r h l none spelt = grind (arith, leaf)

pub minus : (q : Query) (around : Around) (e : Expr) (a b : List Folding) (x : Term) → ResolvesAs q around types.Int e a b x → Resolves q around (Minus e) a b types.Int (terms.Minus x)
minus q around e a b x h = record {
  has_type = rw (h.is.has_type, h.wanted) refl;
  term = λ few. ap terms.Minus (h.is.term few);
  foldings = h.is.foldings;
  spelt = h.is.spelt;
}

pub negation : (q : Query) (around : Around) (e : Expr) (a b : List Folding) (x : Term) → ResolvesAs q around types.Bool e a b x → Resolves q around (Not e) a b types.Bool (terms.Not x)
negation q around e a b x h = record {
  has_type = rw (h.is.has_type, h.wanted) refl;
  term = λ few. ap terms.Not (h.is.term few);
  foldings = h.is.foldings;
  spelt = h.is.spelt;
}

module _ (q : Query) (around : Around) (x y : Expr) (a b c : List Folding) (t u v : CellType) (l r : Term) (hx : Resolves q around x a b t l) (hy : Resolves q around y b c u r) where
  few_left : length c ≤ 16 → length b ≤ 16
  few_left few = omega (arith, few, accumulators_behind q around y b c u r hy)

  right_term : length c ≤ 16 → r ≡ resolved q (length a + aggregates x) y
  right_term few = hy.term few ∙ ap (λ n. resolved q n y) (accumulators_behind q around x a b t l hx)

  pub binary : (op : Op) → op_ty op t u ≡ Ok v → Resolves q around (Binary op x y) a c v (terms.Binary op l r)
  binary op h = record {
    has_type = rw (hx.has_type, hy.has_type) h;
    term = λ few. ap₂ (terms.Binary op) (hx.term (few_left few)) (right_term few);
    foldings = foldings_join q a b c (accumulators_of x) (accumulators_of y) hx.foldings hy.foldings;
    spelt = and_from (numbers_fit x) (numbers_fit y) hx.spelt hy.spelt;
  }

  pub conjunction : logic_ty t u ≡ Ok v → Resolves q around (And x y) a c v (terms.And l r)
  conjunction h = record {
    has_type = rw (hx.has_type, hy.has_type) h;
    term = λ few. ap₂ terms.And (hx.term (few_left few)) (right_term few);
    foldings = foldings_join q a b c (accumulators_of x) (accumulators_of y) hx.foldings hy.foldings;
    spelt = and_from (numbers_fit x) (numbers_fit y) hx.spelt hy.spelt;
  }

  pub disjunction : logic_ty t u ≡ Ok v → Resolves q around (Or x y) a c v (terms.Or l r)
  disjunction h = record {
    has_type = rw (hx.has_type, hy.has_type) h;
    term = λ few. ap₂ terms.Or (hx.term (few_left few)) (right_term few);
    foldings = foldings_join q a b c (accumulators_of x) (accumulators_of y) hx.foldings hy.foldings;
    spelt = and_from (numbers_fit x) (numbers_fit y) hx.spelt hy.spelt;
  }

ap₃ : {A B C D : Type 0} (f : A → B → C → D) {x x' : A} {y y' : B} {z z' : C} → x ≡ x' → y ≡ y' → z ≡ z' → f x y z ≡ f x' y' z'
ap₃ f h l m = cc

pub choice : (q : Query) (around : Around) (e x y : Expr) (a b c d : List Folding) (s t u v : CellType) (k l r : Term) → Resolves q around e a b s k → Resolves q around x b c t l → Resolves q around y c d u r →
    choice_ty s t u ≡ Ok v → Resolves q around (If e x y) a d v (terms.If k l r)
choice q around e x y a b c d s t u v k l r he hx hy h =
    let first = accumulators_behind q around e a b s k he in
    let second = accumulators_behind q around x b c t l hx in
    let third = accumulators_behind q around y c d u r hy in
    record {
      has_type = rw (he.has_type, hx.has_type, hy.has_type) h;
      term = λ few. ap₃ terms.If (he.term (omega (arith, few, second, third))) (hx.term (omega (arith, few, third)) ∙ ap (λ n. resolved q n x) first)
          (hy.term few ∙ ap (λ n. resolved q n y) (omega (arith, first, second)));
      foldings = foldings_join q a b d (accumulators_of e) (accumulators_of x ++ accumulators_of y) he.foldings (foldings_join q b c d (accumulators_of x) (accumulators_of y) hx.foldings hy.foldings);
      spelt = and_from (numbers_fit e) _ he.spelt (and_from (numbers_fit x) (numbers_fit y) hx.spelt hy.spelt);
    }

-- an aggregate, whose operand has none
pub folded : (q : Query) (kind : Kind) (e : Expr) (a b : List Folding) (x : Term) (n : ℕ) → ResolvesAs q InAggregate (kind_type kind) e [] b x → (length a < 256 → n ≡ length a) →
    Resolves q InColumn (Aggregate kind e) a (a ++ record { kind = kind; operand = x } ∷ []) (kind_type kind) (terms.Accumulator n)
folded q kind e a b x n h number =
    let none = accumulators_behind q InAggregate e [] b h.type x h.is in
    let added = length-append a (record { kind = kind; operand = x } ∷ []) in
    record {
      has_type = rw (h.is.has_type, h.wanted) refl;
      term = λ few. ap terms.Accumulator (number (omega (arith, few, added)));
      foldings = ap (λ y. a ++ record { kind = kind; operand = y } ∷ []) (h.is.term (omega (arith, none, plain q InAggregate refl e (ap is_ok h.is.has_type))));
      spelt = h.is.spelt;
    }

-- the same of the accumulators of the code, where the term went into the last
pub adds_folding : (q : Query) (kind : Kind) (e : Expr) (none b : List Folding) (want t : CellType) (x y : Code) (items more : List CodeFolding) (n : ℕ) → want ≡ kind_type kind → t ≡ kind_type kind → none ≡ [] →
    ResolvesAs q InAggregate want e none b (seen_term x) → y ≡ x → more ≡ items ++ record { kind = kind; operand = y } ∷ [] → (length items < 256 → n ≡ length items) →
    Resolves q InColumn (Aggregate kind e) (map seen_folding items) (map seen_folding more) t (terms.Accumulator n)
adds_folding q kind e none b want t x y items more n hw ht hn h hy added number =
    let same = length-map items seen_folding in
    let last = map-append seen_folding items (record { kind = kind; operand = x } ∷ []) in
    let operand : ResolvesAs q InAggregate (kind_type kind) e [] b (seen_term x) = rw (hw, hn) at h in
    rw (added, hy, ht, last) (folded q kind e (map seen_folding items) b (seen_term x) n operand (λ few. number (omega (arith, few, same)) ∙ sym same))

pub in_brackets : (q : Query) (around : Around) (e : Expr) (a b : List Folding) (r : Result (CellType × Code) CheckRefusal) → IfOk r (λ t. Resolves q around e a b t.0 (seen_term t.1)) →
    IfOk r (λ t. Resolves q around (Brackets e) a b t.0 (seen_term t.1))
in_brackets q around e a b r h = grind arith

-- what is wanted holds
pub holds : (b : Bool) (t u : CellType) → wanted b t ≡ Ok u → b ≡ true
holds b t u h = grind arith

-- a term of the type that is wanted
pub as_wanted : (q : Query) (around : Around) (want given u : CellType) (e : Expr) (a b : List Folding) (x : Term) (same : Bool) → Resolves q around e a b given x → same ≡ is_type given want → wanted same want ≡ Ok u →
    ResolvesAs q around want e a b x
as_wanted q around want given u e a b x same h is w = record { type = given; is = h; wanted = sym is ∙ holds same want u w }

-- two operands, joined as the expression joins them
pub joins : (q : Query) (around : Around) (s : CodeExpr) (f : Op → CodeExpr) (g k : CodeExpr) (x y : Expr) (a b c : List Folding) (t u v : CellType) (l r z : Term) → ((op : Op) × (s ≡ f op)) ⊎ ((s ≡ g) ⊎ (s ≡ k)) →
    ((op : Op) → seen_expr (f op) ≡ Binary op x y) → seen_expr g ≡ And x y → seen_expr k ≡ Or x y → Resolves q around x a b t l → Resolves q around y b c u r →
    two_ty (seen_expr s) t u ≡ Ok v → z ≡ joined (seen_expr s) l r → Resolves q around (seen_expr s) a c v z
joins q around s f g k x y a b c t u v l r z (inl (op, is)) as_op as_and as_or hx hy h hz =
    let e : seen_expr s ≡ Binary op x y = ap seen_expr is ∙ as_op op in
    rw (hz, e) (binary q around x y a b c t u v l r hx hy op (rw e at h))
joins q around s f g k x y a b c t u v l r z (inr (inl is)) as_op as_and as_or hx hy h hz =
    let e : seen_expr s ≡ And x y = ap seen_expr is ∙ as_and in
    rw (hz, e) (conjunction q around x y a b c t u v l r hx hy (rw e at h))
joins q around s f g k x y a b c t u v l r z (inr (inr is)) as_op as_and as_or hx hy h hz =
    let e : seen_expr s ≡ Or x y = ap seen_expr is ∙ as_or in
    rw (hz, e) (disjunction q around x y a b c t u v l r hx hy (rw e at h))

pub ruleset forms = (stops, behind, leaf, leaf_if)

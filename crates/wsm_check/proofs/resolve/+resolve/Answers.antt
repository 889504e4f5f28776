use Rattle.std.proofs.Common.{◌≡◌, ◌∙◌, List, map, rules, refl, ap, sym}
use Rattle.wsm_record.specs.Types.{is_type}
use Rattle.wsm_query.specs.Seen.{seen_expr}
use Rattle.wsm_check.specs.declared.parts.Folding.{Folding as CodeFolding}
use Rattle.wsm_check.specs.Seen.{seen_folding}
use Rattle.wsm_check.proofs.Resolving.{adds_folding, as_wanted, choice, in_brackets, joins, minus, negation}
use Rattle.wsm_check.proofs.resolve.+resolve.Goals as goal

pub aggregate-returns-clause-resolved : goal.aggregate-returns-clause-resolved
aggregate-returns-clause-resolved t c = λ q h.
    let before = c.args.foldings.now.items in
    let number = rw c.deref.ensures.value at c.next_number-number.ensures in
    rw c.in_ok-enter.ensures.column (adds_folding q c.args.kind (seen_expr c.args.operand.now) (map seen_folding c.new-none.result.items) _ c.ty.result c.ty-2.result c.in_ok-operand.operand.value c.into_inner-operand.result before c.push.new.self.items c.next_number-number.result
    c.ty.ensures c.ty-2.ensures (ap (λ (fs : List CodeFolding). map seen_folding fs) c.new-none.ensures.items) (c.in_ok-operand.ensures.resolved q h) c.into_inner-operand.ensures c.in_ok-push.ensures.items number)

pub boxed-returns-clause-resolved : goal.boxed-returns-clause-resolved
boxed-returns-clause-resolved t c = λ q h. rw c.in_ok-new.ensures.ok (c.in_ok-ty.ensures.resolved q h)

pub boxed_as-returns-clause-resolved : goal.boxed_as-returns-clause-resolved
boxed_as-returns-clause-resolved t c = λ q h.
    let same : c.eq.result ≡ is_type c.in_ok-given.given c.args.ty = search rules in
    as_wanted q _ _ _ _ _ _ _ _ c.eq.result (c.in_ok-given.ensures.resolved q h) same (sym c.want.ensures ∙ c.in_ok-told.ensures.typed)

pub resolve-returns-in_ok-ty-in-If-clause-resolved : goal.resolve-returns-in_ok-ty-in-If-clause-resolved
resolve-returns-in_ok-ty-in-If-clause-resolved t c = λ q h.
    let test = rw c.deref-in-If.ensures at (c.in_ok-test-in-If.ensures.resolved q h) in
    let first = rw c.deref-in-If-2.ensures at (c.in_ok-first-in-If.ensures.resolved q h) in
    let second = rw c.deref-in-If-3.ensures at (c.in_ok-second-in-If.ensures.resolved q h) in
    rw c.in-If.is (choice q _ _ _ _ _ _ _ _ _ _ _ _ _ _ _ test first second (sym c.type_of_choice.ensures ∙ c.in_ok-ty-in-If.ensures.typed))

pub resolve-returns-in-Brackets-clause-resolved : goal.resolve-returns-in-Brackets-clause-resolved
resolve-returns-in-Brackets-clause-resolved t c = λ q h. rw c.in-Brackets.is (in_brackets q _ _ _ _ _ (rw c.deref-in-Brackets.ensures at (c.resolve.ensures.resolved q h)))

pub resolve-returns-in_ok-operand-in-Minus-clause-resolved : goal.resolve-returns-in_ok-operand-in-Minus-clause-resolved
resolve-returns-in_ok-operand-in-Minus-clause-resolved t c = λ q h. rw c.in-Minus.is (minus q _ _ _ _ _ (rw c.deref-in-Minus.ensures at (c.in_ok-operand-in-Minus.ensures.resolved q h)))

pub resolve-returns-in_ok-operand-in-Not-clause-resolved : goal.resolve-returns-in_ok-operand-in-Not-clause-resolved
resolve-returns-in_ok-operand-in-Not-clause-resolved t c = λ q h. rw c.in-Not.is (negation q _ _ _ _ _ (rw c.deref-in-Not.ensures at (c.in_ok-operand-in-Not.ensures.resolved q h)))

pub resolve-returns-in_ok-ty-in-Binary-clause-resolved : goal.resolve-returns-in_ok-ty-in-Binary-clause-resolved
resolve-returns-in_ok-ty-in-Binary-clause-resolved t c = λ q h.
    let left = rw c.deref-in-Binary.ensures at (c.in_ok-left-in-Binary.ensures.resolved q h) in
    let right = rw c.deref-in-Binary-2.ensures at (c.in_ok-right-in-Binary.ensures.resolved q h) in
    joins q _ c.args.expr.now _ _ _ (seen_expr c.in-Binary.left.value) (seen_expr c.in-Binary.right.value) _ _ _ _ _ _ _ _ _ c.in-Binary.is (λ op. refl) refl refl left right (sym c.type_of_two.ensures ∙ c.in_ok-ty-in-Binary.ensures.typed) c.joined.ensures

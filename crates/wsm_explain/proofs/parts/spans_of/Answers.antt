use Rattle.std.proofs.Common.{◌∙◌, ◌++◌, ◌∷◌, [], List, ap, sym, arith}
use Rattle.wsm_explain.specs.declared.parts.Span.{Span}
use Rattle.wsm_explain.specs.Parts.{closed}
use Rattle.wsm_explain.proofs.Walks.{last_span, seen_counts, spans_step}
use Rattle.wsm_explain.proofs.parts.spans_of.Goals as goal

pub loop-reader-smaller : goal.loop-reader-smaller
loop-reader-smaller c =
    let some = seen_counts c.loop-reader.reader (sym c.has_token.ensures ∙ c.loop-reader-test.true) in
    omega (arith, some, c.advance.ensures.onward)

pub loop-reader-preserved : goal.loop-reader-preserved
loop-reader-preserved c =
    spans_step c.loop-reader.part c.in_ok-part.part c.loop-reader.reader c.advance.new.self c.loop-reader.spans.items c.go_on.new.spans.items _
    c.place_of-at.result c.place_of-in-loop-reader.result c.turn_of-turn.result c.begun.result
    (sym c.has_token.ensures ∙ c.loop-reader-test.true) c.advance.ensures.rest c.place_of-at.ensures c.place_of-in-loop-reader.ensures c.turn_of-turn.ensures c.begun.ensures
    c.in_ok-part.ensures.spans c.in_ok-part.ensures.part c.loop-reader.invariant

pub returns : goal.returns
returns c =
    let spans = c.loop-reader.spans.items in
    let part = c.loop-reader.part in
    c.in_ok-push.ensures.items ∙ ap (λ (s : Span). spans ++ s ∷ []) (c.closed.ensures ∙ ap (closed part) c.place_of-2.ensures)
    ∙ ap (λ (rest : List Span). spans ++ rest) (sym (last_span part c.loop-reader.reader (sym c.has_token.ensures ∙ c.loop-reader-test.false)))
    ∙ c.loop-reader.invariant

use Rattle.std.proofs.Common.{◌≡◌, ◌∙◌, Ok, Some, ap, bytes_eq, position, subst, sym, true}
use Rattle.std.proofs.lemmas.Result.{err_from_is_err_and, on_ok_weaker}
use Rattle.wsm_key_names.proofs.LearnedNames.{teaches_nothing}
use Rattle.wsm_lines.specs.Key.{are_same, with_key}
use Rattle.wsm_lines.specs.Reader.{Follows, event_read, key_read}
use Rattle.wsm_named_lines.specs.Names.{names_after_line}
use Rattle.wsm_named_lines.proofs.ByNames.{by_names_says, event_teaches, fault_by}
use Rattle.wsm_named_lines.proofs.lines.NamedLines.read.Goals as goal

pub invariant_of-self : goal.invariant_of-self
invariant_of-self c = ap (λ s. are_same s.key.names) c.read_unnamed.ensures.source ∙ c.self.invariant

pub invariant_of-self-in-Some : goal.invariant_of-self-in-Some
invariant_of-self-in-Some c = ap (λ s. are_same s.key.names) (c.set_key.ensures.source ∙ c.read_unnamed.ensures.source) ∙ c.self.invariant

pub invariant_of-self-in-None : goal.invariant_of-self-in-None
invariant_of-self-in-None c = ap (λ s. are_same s.key.names) c.read_unnamed.ensures.source ∙ c.self.invariant

pub returns-in_err-read_unnamed-clause-fault : goal.returns-in_err-read_unnamed-clause-fault
returns-in_err-read_unnamed-clause-fault c =
    let e = err_from_is_err_and c.from_residual.result c.from_residual.ensures.1 in
    rw (e.1, e.2) (λ s d before follows.
    let inside = subst (λ r. Follows s before r.reader) (sym c.self.view_is) follows in
    fault_by s d before c.args.line.now c.in_err-read_unnamed.field-0.0 (c.in_err-read_unnamed.ensures.fault s before inside))

pub returns-in-Some-clause-event : goal.returns-in-Some-clause-event
returns-in-Some-clause-event c = λ s d before follows.
    let inside = subst (λ r. Follows s before r.reader) (sym c.self.view_is) follows in
    let same : are_same s.key.names ≡ true = sym (ap (λ x. are_same x.key.names) inside.source) ∙ c.self.invariant in
    let names = c.args.names.now in
    let read = c.read_unnamed.new.self in
    let number : position (bytes_eq (key_read read)) names ≡ Some c.in-Some.number =
    sym (ap (λ t. position (bytes_eq t) names) c.key.ensures) ∙ sym c.number_of.ensures ∙ c.in-Some.is in
    by_names_says s d names before c.args.line.now (key_read read) (event_read read) same (c.in_ok-read_unnamed.ensures.event s before inside) (c.in_ok-read_unnamed.ensures.key s before inside)
    ∙ ap (λ k. Ok (with_key k (event_read read))) number
    ∙ ap Ok (sym c.set_key.ensures.event)

pub returns-in-Some-clause-names : goal.returns-in-Some-clause-names
returns-in-Some-clause-names c = λ s before follows some.
    let inside = subst (λ r. Follows s before r.reader) (sym c.self.view_is) follows in
    let most = c.self.inside.most in
    let names = c.args.names.now in
    let read = c.read_unnamed.new.self in
    let number : position (bytes_eq (key_read read)) names ≡ Some c.in-Some.number =
    sym (ap (λ t. position (bytes_eq t) names) c.key.ensures) ∙ sym c.number_of.ensures ∙ c.in-Some.is in
    let teaches = event_teaches most s names before c.args.line.now (key_read read) (event_read read) (c.in_ok-read_unnamed.ensures.event s before inside) (c.in_ok-read_unnamed.ensures.key s before inside) in
    sym (teaches ∙ teaches_nothing most names (key_read read) c.in-Some.number number)
    ∙ ap (λ r. names_after_line r.most s names before c.args.line.now) c.self.view_is

pub returns-in-Some-clause-follows : goal.returns-in-Some-clause-follows
returns-in-Some-clause-follows c = λ s before follows some.
    let inside = subst (λ r. Follows s before r.reader) (sym c.self.view_is) follows in
    c.set_key.ensures.follows s _ (c.in_ok-read_unnamed.ensures.follows s before inside (λ e. cc))

pub returns-in-None-clause-event : goal.returns-in-None-clause-event
returns-in-None-clause-event c = λ s d before follows.
    let inside = subst (λ r. Follows s before r.reader) (sym c.self.view_is) follows in
    let same : are_same s.key.names ≡ true = sym (ap (λ x. are_same x.key.names) inside.source) ∙ c.self.invariant in
    let read = c.read_unnamed.new.self in
    let says = by_names_says s d c.learn.new.names before c.args.line.now (key_read read) (event_read read) same (c.in_ok-read_unnamed.ensures.event s before inside) (c.in_ok-read_unnamed.ensures.key s before inside) in
    on_ok_weaker c.learn.result (λ event. says ∙ ap Ok (sym event)) c.learn.ensures.event

pub returns-in-None-clause-follows : goal.returns-in-None-clause-follows
returns-in-None-clause-follows c = λ s before follows some.
    let inside = subst (λ r. Follows s before r.reader) (sym c.self.view_is) follows in
    c.learn.ensures.follows s _ (c.in_ok-read_unnamed.ensures.follows s before inside (λ e. cc))

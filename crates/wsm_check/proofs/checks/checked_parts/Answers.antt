use Rattle.std.proofs.Common.{◌≡◌, ◌⊎◌, ◌∙◌, ◌&&◌, Option, Some, None, ap, sym}
use Rattle.std.proofs.lemmas.Bool.{and_parts}
use Rattle.std.proofs.lemmas.Result.{err_from_is_err_and}
use Rattle.wsm_windows.specs.Limits.{is_size, is_span, is_time}
use Rattle.wsm_query.specs.Seen.{seen}
use Rattle.wsm_check.specs.declared.refusal.CheckRefusal.{CheckRefusal}
use Rattle.wsm_check.specs.declared.refusal.CheckRefusal.TheVariants.{Memory}
use Rattle.wsm_check.specs.Names.{schema_of}
use Rattle.wsm_check.specs.Parts.{Parts, parts_of}
use Rattle.wsm_check.specs.Seen.{seen_parts}
use Rattle.wsm_check.specs.Checks.{or_else, declared_refusal, rest_refusal, sizes_refusal}
use Rattle.wsm_check.proofs.ChecksInOrder.{stops}
use Rattle.wsm_check.proofs.DeclaredSchema.{schema_spelt}
use Rattle.wsm_check.proofs.checks.checked_parts.Goals as goal

-- a check that refuses behind two that passed
refused_last : (r s t u : Option CheckRefusal) (e : CheckRefusal) → r ≡ None → s ≡ None → t ≡ u → (e ≡ Memory) ⊎ (t ≡ Some e) → (e ≡ Memory) ⊎ (or_else r (or_else s (or_else u None)) ≡ Some e)
refused_last r s t u e first second same h = rw (first, second, sym same) (stops t None e h)

-- the clock is handed on as it is, and its numbers were judged
pub judge_sizes-requires-clause-lateness : goal.judge_sizes-requires-clause-lateness
judge_sizes-requires-clause-lateness c =
    let k = c.args.query.now.clock in
    let behind_start = and_parts (is_time k.start) (is_span k.skew && (is_span k.lateness && is_size k.records)) c.in_ok-expressions.ensures.clock in
    let behind_skew = and_parts (is_span k.skew) (is_span k.lateness && is_size k.records) behind_start.1 in
    ap (λ (p : Parts). is_span p.clock.lateness) c.parts_of-parts.ensures ∙ (and_parts (is_span k.lateness) (is_size k.records) behind_skew.1).0

pub returns-in_err-judge_sizes-clause-judged : goal.returns-in_err-judge_sizes-clause-judged
returns-in_err-judge_sizes-clause-judged c =
    let q = seen c.args.query.now in
    let p = err_from_is_err_and c.from_residual-in_err-judge_sizes.result c.from_residual-in_err-judge_sizes.ensures.1 in
    rw (p.1, p.2) (refused_last (declared_refusal q) (rest_refusal q) (sizes_refusal (seen_parts c.parts_of-parts.result)) (sizes_refusal (parts_of q)) c.in_err-judge_sizes.field-0.0
    c.in_ok-schema.ensures.judged c.in_ok-expressions.ensures.judged (ap sizes_refusal c.parts_of-parts.ensures) c.in_err-judge_sizes.ensures)

pub returns-clause-spelt : goal.returns-clause-spelt
returns-clause-spelt c =
    let schema = schema_spelt (schema_of (seen c.args.query.now)) c.in_ok-schema.ensures.lawful in
    record { keys = schema.keys; fields = schema.fields; sources = schema.sources; numbers = c.in_ok-expressions.ensures.resolved.spelt }

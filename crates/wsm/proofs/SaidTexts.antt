-- What a run of a text comes to, by the query that the text says.
use Rattle.std.proofs.Common.{◌≡◌, ◌∙◌, ℕ, Bool, true, false, List, Option, Result, Ok, Err, refl, sym, ap, subst}
use Rattle.std.specs.Prelude.{IfErr, IfOk, is_ok}
use Rattle.std.proofs.lemmas.Result.{IfOk-weaker}
use Rattle.wsm_program.specs.Program.{Program}
use Rattle.wsm_rules.specs.Rules.{judge}
use Rattle.wsm_rules.specs.declared.rejection.Rejection.{Rejection}
use Rattle.wsm_query.specs.Tree.{Query}
use Rattle.wsm_compiler.specs.Accepted.{is_accepted}
use Rattle.wsm_compiler.specs.Means.{meant}
use Rattle.wsm_compiler.specs.Program.{program_of}
use Rattle.wsm_compiler.proofs.Accepted.{accepted_without_budget}
use Rattle.wsm_semantics.specs.Query.{Query as Meant}
use Rattle.wsm_semantics.specs.declared.ending.Totals.{Totals}
use Rattle.wsm_inputs.specs.declared.end.InputRefusal.{InputRefusal}
use Rattle.wsm_inputs.specs.declared.end.End.{End}
use Rattle.wsm_inputs.specs.declared.end.End.TheVariants.{Refused, Rejected, Memory, ReadFailed, WriteFailed}
use Rattle.wsm_inputs.specs.declared.input.Input.{Input}
use Rattle.wsm_inputs.specs.declared.input.Input.TheVariants as input
use Rattle.wsm_inputs.specs.Begun.{IsAcceptedQuery}
use Rattle.wsm_inputs.specs.Inputs.{EndsBefore, IsAccepted, Means}
use Rattle.wsm_inputs.specs.Judged.{compiled, text_judged}
use Rattle.wsm_inputs.specs.TextOf.{IsTextOf}
use Rattle.wsm_inputs.proofs.Judgements.{judged_ok}
use Rattle.wsm_inputs.proofs.TextOf.{parsed_is_text}
use Rattle.wsm.specs.Written.{InputWritten, RowsBroken, RowsWritten}
use Rattle.wsm.specs.Fitting.{InputByRanges, SaysOfRanges}

-- ---- the query that a text says

-- a query whose program is this one
record Compiles (judged : Result Query InputRefusal) (p : Program) : Type 0 where
  query : Query
  judged_ok : judged ≡ Ok query
  is : p ≡ program_of query

compiles : (judged : Result Query InputRefusal) (p : Program) → compiled judged ≡ Ok p → Compiles judged p
compiles (Ok q) p h = record { query = q; judged_ok = refl; is = cc }
compiles (Err why) p h = cc

text_says : (text : List ℕ) (q : Query) → text_judged text ≡ Ok q → IsTextOf text q
text_says text q h = parsed_is_text text q (judged_ok text q h).0

-- ---- what was written

pub input_written : (i : Input) (p : Program) → IsAccepted i p → (known old new : Option (List ℕ)) (result : Result Totals End)
    → ((m : Meant) → Means i m → IfOk result (RowsWritten known old new m)) → IfOk result (InputWritten i known old new)
input_written (input.Text text) p a known old new result completes =
    let c = compiles (text_judged text.now) p a.judged in
    let q : Query = c.query in
    let accepted : IsAcceptedQuery text.now q = record { judged = c.judged_ok; accepted = subst (λ x. is_ok (judge x) ≡ true) c.is a.accepted } in
    IfOk-weaker result (RowsWritten known old new (meant q)) (InputWritten (input.Text text) known old new) (λ totals h. (q, text_says text.now q c.judged_ok, h)) (completes (meant q) (q, accepted, refl))
input_written (input.Program bytes) p a known old new (Ok totals) completes = tt
input_written (input.Program bytes) p a known old new (Err end) completes = tt

-- ---- by its ranges

says_of_ranges : (text : List ℕ) (q : Query) (fit : Bool) → text_judged text ≡ Ok q → is_accepted q ≡ fit → SaysOfRanges text fit
says_of_ranges text q fit h accepted =
    (q, text_says text q h, λ budget. sym (accepted_without_budget q (judged_ok text q h).1 budget) ∙ accepted)

rejected : (p : Program) (why : Rejection) → judge p ≡ Err why → is_ok (judge p) ≡ false
rejected p why h = ap is_ok h

pub unbegun_by_ranges : (i : Input) (e : End) → EndsBefore i e → InputByRanges i (Err e)
unbegun_by_ranges (input.Text text) (Refused why) h = tt
unbegun_by_ranges (input.Text text) (Rejected why) (p, read, by) =
    let c = compiles (text_judged text.now) p read in
    says_of_ranges text.now c.query false c.judged_ok (subst (λ x. is_ok (judge x) ≡ false) c.is (rejected p why by))
unbegun_by_ranges (input.Text text) Memory h = tt
unbegun_by_ranges (input.Text text) ReadFailed h = tt
unbegun_by_ranges (input.Text text) WriteFailed h = tt
unbegun_by_ranges (input.Program bytes) e h = tt

pub begun_by_ranges : (i : Input) (p : Program) → IsAccepted i p → (known old new : Option (List ℕ)) (m : Meant) (result : Result Totals End) → IfErr result (RowsBroken known old new m) → InputByRanges i result
begun_by_ranges (input.Text text) p a known old new m (Ok totals) h =
    let c = compiles (text_judged text.now) p a.judged in
    says_of_ranges text.now c.query true c.judged_ok (subst (λ x. is_ok (judge x) ≡ true) c.is a.accepted)
begun_by_ranges (input.Text text) p a known old new m (Err (Refused why)) h = tt
begun_by_ranges (input.Text text) p a known old new m (Err (Rejected why)) (cells, none) = absurd none
begun_by_ranges (input.Text text) p a known old new m (Err Memory) h = tt
begun_by_ranges (input.Text text) p a known old new m (Err ReadFailed) h = tt
begun_by_ranges (input.Text text) p a known old new m (Err WriteFailed) h = tt
begun_by_ranges (input.Program bytes) p a known old new m result h = tt

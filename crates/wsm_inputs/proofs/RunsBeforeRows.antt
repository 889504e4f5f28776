-- Inputs that aren't accepted, and what a run of one that is comes to.
use Rattle.std.proofs.Common.{◌≡◌, ℕ, Bool, true, false, List, Option, Result, Ok, Err, inl, inr, refl, ap, sym, subst}
use Rattle.std.specs.Prelude.{IfErr, IfOk, OnOk, is_ok}
use Rattle.std.proofs.lemmas.Result.{IfOk-weaker, IfErr-weaker}
use Rattle.wsm_program.specs.Program.{Program}
use Rattle.wsm_rules.specs.Rules.{judge}
use Rattle.wsm_rules.specs.declared.rejection.Rejection.{Rejection}
use Rattle.wsm_query.specs.Tree.{Query}
use Rattle.wsm_compiler.specs.Program.{program_of}
use Rattle.wsm_compiler.specs.Means.{meant}
use Rattle.wsm_machine.specs.Meaning.{query_of}
use Rattle.wsm_semantics.specs.Query.{Query as Meant}
use Rattle.wsm_semantics.specs.declared.ending.Totals.{Totals}
use Rattle.wsm_inputs.specs.declared.input.Input.{Input}
use Rattle.wsm_inputs.specs.declared.input.Input.TheVariants as input
use Rattle.wsm_inputs.specs.declared.end.End.{End}
use Rattle.wsm_inputs.specs.declared.end.End.TheVariants.{Refused, Rejected, Memory, ReadFailed, WriteFailed}
use Rattle.wsm_inputs.specs.Begun.{IsAcceptedQuery}
use Rattle.wsm_inputs.specs.Ends.{hides_memory}
use Rattle.wsm_inputs.specs.Inputs.{EndsAs, EndsBefore, IsAccepted, Means, judged}
use Rattle.wsm_inputs.specs.Judged.{compiled}
use Rattle.wsm_inputs.proofs.Unwritten.{Keeps-same}

was_rejected : {A : Type 0} (judged : Result A Rejection) (r : Rejection) → judged ≡ Err r → is_ok judged ≡ true → ⊥
was_rejected (Ok x) r is ok = cc
was_rejected (Err s) r is ok = cc

-- what means something is an accepted program
means_read : (i : Input) (m : Meant) → Means i m → (p : Program) × IsAccepted i p
means_read (input.Text text) m (q, a, is) = (program_of q, record { judged = ap compiled a.judged; accepted = a.accepted })
means_read (input.Program bytes) m (p, a, is) = (p, record { judged = a.spelled; accepted = a.accepted })

-- ---- a run of an input that isn't accepted

module _ (i : Input) (well : Meant → Totals → Type 0) (early : Meant → End → Type 0) where
  pub unbegun : (old : Option (List ℕ)) (flushed failed : Bool) (e : End) → EndsBefore i e → ((m : Meant) → early m Memory) → hides_memory e ≡ false → EndsAs i well early old old flushed failed (Err e)
  unbegun old flushed failed (Refused r) ends nothing apart = record {
    refused = λ why is. record { end = inl (cc); kept = Keeps-same old };
    rejected = λ p why read rejected. cc;
    completes = λ m means. tt;
    ends_early = λ m means. let a = (means_read i m means).1.judged in cc;
    flushed = tt;
    write_failed = λ h. cc;
    memory_apart = apart;
  }
  unbegun old flushed failed (Rejected r) (p, read, by) nothing apart = record {
    refused = λ why is. cc;
    rejected = λ x why said rejected. record { end = inl (cc); kept = Keeps-same old };
    completes = λ m means. tt;
    ends_early = λ m means.
        let (x, a) = means_read i m means in
        let same : x ≡ p = cc (a.judged, read) in
        absurd (was_rejected (judge p) r by (subst (λ y. is_ok (judge y) ≡ true) same a.accepted));
    flushed = tt;
    write_failed = λ h. cc;
    memory_apart = apart;
  }
  unbegun old flushed failed Memory ends nothing apart = record {
    refused = λ why is. record { end = inr refl; kept = Keeps-same old };
    rejected = λ p why read rejected. record { end = inr refl; kept = Keeps-same old };
    completes = λ m means. tt;
    ends_early = λ m means. nothing m;
    flushed = tt;
    write_failed = λ h. cc;
    memory_apart = apart;
  }
  unbegun old flushed failed ReadFailed ends nothing apart = absurd ends
  unbegun old flushed failed WriteFailed ends nothing apart = absurd ends

-- ---- a run of one that is

-- what holds of the query of an accepted program holds of what the input means, where it does for a text
means_same : (i : Input) (p : Program) → IsAccepted i p → (m : Meant) → Means i m → (P : Meant → Type 0) →
    ((text : List ℕ) (q : Query) → IsAcceptedQuery text q → P (query_of (program_of q)) → P (meant q)) → P (query_of p) → P m
means_same (input.Text text) p a m (q, accepted, is) P same h =
    let is_program : p ≡ program_of q = cc (a.judged, ap compiled accepted.judged) in
    subst P (sym is) (same text.now q accepted (subst (λ x. P (query_of x)) is_program h))
means_same (input.Program bytes) p a m (x, accepted, is) P same h =
    let is_program : p ≡ x = cc (a.judged, accepted.spelled) in
    subst P (sym is) (subst (λ y. P (query_of y)) is_program h)

module _ (i : Input) (well : Meant → Totals → Type 0) (early : Meant → End → Type 0)
    (same_well : (text : List ℕ) (q : Query) → IsAcceptedQuery text q → (totals : Totals) → well (query_of (program_of q)) totals → well (meant q) totals)
    (same_early : (text : List ℕ) (q : Query) → IsAcceptedQuery text q → (end : End) → early (query_of (program_of q)) end → early (meant q) end) where
  pub begun : (p : Program) → IsAccepted i p → (old new : Option (List ℕ)) (flushed failed : Bool) (result : Result Totals End) →
      IfOk result (well (query_of p)) → IfErr result (early (query_of p)) → OnOk result (flushed ≡ true) → (result ≡ Err WriteFailed → failed ≡ true) → IfErr result (λ end. hides_memory end ≡ false) →
      EndsAs i well early old new flushed failed result
  begun p a old new flushed failed result ends_well breaks leaves fails apart = record {
    refused = λ why is. let read = a.judged in cc;
    rejected = λ x why read rejected.
        let same : x ≡ p = cc (a.judged, read) in
        absurd (was_rejected (judge p) why (subst (λ y. judge y ≡ Err why) same rejected) a.accepted);
    completes = λ m means. means_same i p a m means (λ y. IfOk result (well y)) (λ text q accepted h. IfOk-weaker result (well (query_of (program_of q))) (well (meant q)) (same_well text q accepted) h) ends_well;
    ends_early = λ m means. means_same i p a m means (λ y. IfErr result (early y)) (λ text q accepted h. IfErr-weaker result (early (query_of (program_of q))) (early (meant q)) (same_early text q accepted) h) breaks;
    flushed = leaves;
    write_failed = fails;
    memory_apart = apart;
  }

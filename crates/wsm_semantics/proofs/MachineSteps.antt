-- What every machine that fits a history does at an event: it decides as the history says, and counts
-- the event and what fires.
use Rattle.std.proofs.Common.{◌≡◌, ℕ, suc, ◌+◌, List, ◌∷◌, ◌++◌, length, ap, ◌∙◌, arith, length-append}
use Rattle.wsm_record.specs.Event.{Event}
use Rattle.wsm_admission.specs.declared.clock.Clock.{Clock}
use Rattle.wsm_admission.specs.Admission as admission
use Rattle.wsm_admission.specs.Admission.{counter, answer, answer_after, decision}
use Rattle.wsm_admission.proofs.FittedHistory.{answer-fits}
use Rattle.wsm_semantics.specs.Query.{Query, mark, verdict_on}
use Rattle.wsm_semantics.specs.Firings.{Firing}

-- the answer by what is kept is the answer by the history
pub decision-fits : (q : Query) (a : admission.State) (past : List Event) (e : Event) → a.clock ≡ q.clock → admission.Fits q.shape q.declared a past → decision q.shape q.declared a e ≡ answer (mark q past) (mark q (e ∷ past)) e (verdict_on q past e)
decision-fits q a past e clock fits = answer-fits q.shape q.declared a past fits e ∙ ap (λ (c : Clock). answer_after c q.shape q.declared past e) clock

pub some_fired : (n m : ℕ) (fs gs : List Firing) → n ≡ counter (length fs) → m ≡ length gs → counter (n + m) ≡ counter (length (fs ++ gs))
some_fired n m fs gs h k = omega (arith, length-append {A = Firing} fs gs)

pub one_fed : (n : ℕ) (past : List Event) → n ≡ counter (length past) → counter (n + 1) ≡ counter (suc (length past))
one_fed n past h = omega arith

-- What is kept knows what is remembered of deliveries, one behind the other.
use Rattle.std.proofs.Common.{Bool, cond, List, ◌∷◌, sym, subst}
use Rattle.wsm_record.specs.Event.{Watermark}
use Rattle.wsm_admission.proofs.SourceMarks.{watermark_rises}
use Rattle.wsm_semantics.specs.Query.{Query, mark}
use Rattle.wsm_doubles.specs.Memory.{Kept, Recalls}
use Rattle.wsm_doubles.specs.Passing.{FollowsDeliveries, SentText, TextDelivery, TextPassing, event_of, passes, passing_texts}
use Rattle.wsm_doubles.proofs.Forgotten.{recalls_on}

abbrev recalls : Query → Kept → TextPassing → Type 0
recalls q kept o = Recalls q.clock q.shape (mark q o.passed) kept o.memory

abbrev with_one : Query → SentText → TextPassing → TextPassing
with_one q s o = passes q (event_of s) ((s.identifier, s.time) ∷ o.memory) o.passed

pub follows : (q : Query) (ds : List TextDelivery) → FollowsDeliveries q ds
follows q ds =
    let o : TextPassing = passing_texts q ds in
    record {
      told = λ source time kept h. recalls_on q.clock q.shape (mark q o.passed) (mark q (Watermark source time ∷ o.passed)) kept o.memory (watermark_rises q.clock q.declared o.passed (Watermark source time)) h;
      double = λ s kept known h. subst (λ (b : Bool). recalls q kept (cond b o (with_one q s o))) (sym known) h;
      passed = λ s noted unknown h. subst (λ (b : Bool). recalls q noted (cond b o (with_one q s o))) (sym unknown) h;
    }

use Rattle.std.proofs.Common.{◌≡◌, ℕ, List, [], Option, Some, None, false, refl, subst}
use Rattle.std.proofs.lemmas.Option.{none-some, same_Some}
use Rattle.std.specs.Prelude.{slice_get}
use Rattle.wsm_csv.specs.declared.guarded.Guarded.{Guarded}
use Rattle.wsm_deal.specs.Parts.{AreNew, Befores, EachHas, Has, hands_of}
use Rattle.wsm_deal.specs.declared.part.Part.{Part}
use Rattle.wsm_row_jobs.proofs.deals.deal_to_files.Goals as goal

-- nothing stands in an empty list
none_there : {A P : Type 0} (k : ℕ) (p : A) → slice_get [] k ≡ Some p → P
none_there k p at = cc

none_of : {A : Type 0} (P : A → Type 0) (xs : List A) → xs ≡ [] → (k : ℕ) (p : A) → slice_get xs k ≡ Some p → P p
none_of {A} P xs empty k p at = none_there k p (subst (λ (ys : List A). slice_get ys k ≡ Some p) empty at)

pub loop-number-init : goal.loop-number-init
loop-number-init g c = record {
  new = none_of (λ (p : Part (Guarded g.row.R-File.Denot)). (old : Option (List ℕ)) × Has (λ (d : Guarded g.row.R-File.Denot). g.R.File.Write.contents d.writer) old [] p) c.new-parts.result.items c.new-parts.ensures.items;
  works = none_of (λ (p : Part (Guarded g.row.R-File.Denot)). p.out.failed ≡ false) c.new-parts.result.items c.new-parts.ensures.items;
}

pub deal_over-requires-clause-new : goal.deal_over-requires-clause-new
deal_over-requires-clause-new g c = rw c.deref_mut.ensures.value c.loop-number.invariant.new

pub deal_over-requires-clause-works : goal.deal_over-requires-clause-works
deal_over-requires-clause-works g c = rw c.deref_mut.ensures.value c.loop-number.invariant.works

-- what the device of a new part had taken before, if it is there
before : {P : Type 0} (H : Option (List ℕ) → P → Type 0) (there : Option P) → ((p : P) → there ≡ Some p → (old : Option (List ℕ)) × H old p) → Option (List ℕ)
before H None new = None
before H (Some p) new = (new p refl).0

is_before : {P : Type 0} (H : Option (List ℕ) → P → Type 0) (there : Option P) (new : (p : P) → there ≡ Some p → (old : Option (List ℕ)) × H old p) (p : P) → there ≡ Some p → H (before H there new) p
unfolding before
is_before H None new p at = absurd (none-some p at)
is_before {P} H (Some q) new p at = subst (λ (r : P). H (new q refl).0 r) (same_Some q p at) (new q refl).1

pub returns : goal.returns
returns g c =
    let Out : Type 0 = Guarded g.row.R-File.Denot in
    let taken : Out → Option (List ℕ) = λ d. g.R.File.Write.contents d.writer in
    let parts : List (Part Out) = c.deref_mut.result.now in
    let H : Option (List ℕ) → Part Out → Type 0 = λ old p. Has taken old [] p in
    let new : AreNew taken parts = rw c.deref_mut.ensures.value c.loop-number.invariant.new in
    let olds : Befores = λ k. before H (slice_get parts k) (new k) in
    let each : EachHas taken olds (hands_of c.args.shares.now []) parts = λ k p at. is_before H (slice_get parts k) (new k) p at in
    let all = c.in_ok-deal_over.ensures.dealt olds each in
    (all.0, all.1.all)

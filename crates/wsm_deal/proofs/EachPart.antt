-- What holds of each part, where the parts are gone through one by one.
use Rattle.std.proofs.Common.{◌≡◌, ◌≢◌, ◌+◌, ◌<◌, ◌≤◌, ◌∷◌, ◌++◌, [], ℕ, List, Option, Some, Result, refl, sym, subst, inl, inr, arith, length, Bool, true, false, Ok, Err, ◌⊎◌}
use Rattle.std.specs.Prelude.{slice_get, slice_set}
use Rattle.std.specs.Io.KnownBytes.{Appends}
use Rattle.std.proofs.lemmas.Bool.{cases_lt, eq-eqb, ne_eqb}
use Rattle.std.proofs.lemmas.Option.{slice_get_within}
use Rattle.wsm_csv.specs.Device.{TakesPart}
use Rattle.wsm_csv.proofs.Written.{TakesPart-all}
use Rattle.wsm_deal.specs.PartText.{part_text}
use Rattle.wsm_deal.specs.Parts.{Befores, Hands, Has, NoneFailed, SomeFailed, Tells, one_more}
use Rattle.wsm_deal.specs.declared.dealing.DealEnd.{DealEnd}
use Rattle.wsm_deal.specs.declared.dealing.DealEnd.TheVariants.{Memory, WriteFailed}
use Rattle.wsm_deal.specs.declared.part.Part.{Part}
use Rattle.wsm_deal.specs.declared.shares.Goal.TheVariants.{One}
use Rattle.wsm_deal.proofs.Lists.{at_push, at_set, set_there}
use Rattle.wsm_deal.proofs.PartTexts.{Has-part, part-longer}

-- each element has what is said of its place
abbrev pub EachAt : {A : Type 0} → (ℕ → A → Type 0) → List A → Type 0
EachAt P xs = (k : ℕ) (p : _) → slice_get xs k ≡ Some p → P k p

-- one element is put anew
pub each_set : {A : Type 0} (P Q : ℕ → A → Type 0) (xs : List A) (i : ℕ) (y : A) → EachAt P xs → Q i y → ((k : ℕ) (p : A) → k ≢ i → P k p → Q k p) → EachAt Q (slice_set xs i y)
each_set P Q xs i y each here others k p at = elim (at_set xs i k y p at) [
  | inl (same, is) ↦ subst (λ (j : ℕ). Q j p) (sym same) (subst (λ (q : _). Q i q) (sym is) here)
  | inr (other, is) ↦ others k p other (each k p is)
]

-- one element is put behind the others
pub each_push : {A : Type 0} (P : A → Type 0) (xs ys : List A) (y : A) → ys ≡ xs ++ y ∷ [] → EachAt (λ _ p. P p) xs → P y → EachAt (λ _ p. P p) ys
each_push P xs ys y is each here k p at = elim (at_push xs k y p (subst (λ (zs : List _). slice_get zs k ≡ Some p) is at)) [
  | inl same ↦ subst P (sym same) here
  | inr before ↦ each k p before
]

-- what holds of the first elements, and of the rest
abbrev pub FirstThen : {A : Type 0} → ℕ → (ℕ → A → Type 0) → (ℕ → A → Type 0) → ℕ → A → Type 0
FirstThen i P Q k p = (k < i → P k p) × (i ≤ k → Q k p)

pub first_more : {A : Type 0} (P Q : ℕ → A → Type 0) (xs : List A) (i : ℕ) (x y : A) → slice_get xs i ≡ Some x → EachAt (FirstThen i P Q) xs → (Q i x → P i y) → EachAt (FirstThen (i + 1) P Q) (slice_set xs i y)
first_more P Q xs i x y at each step =
    each_set (FirstThen i P Q) (FirstThen (i + 1) P Q) xs i y each
    ((λ lt. step ((each i x at).1 (omega arith))), λ le. absurd (omega (arith, le)))
    (λ k p other h. ((λ lt. h.0 (omega (arith, lt, other))), λ le. h.1 (omega (arith, le))))

pub first_all : {A : Type 0} (P Q : ℕ → A → Type 0) (xs : List A) (i : ℕ) → length xs ≤ i → EachAt (FirstThen i P Q) xs → EachAt P xs
first_all P Q xs i all each k p at = let within = slice_get_within xs k p at in (each k p at).0 (omega (arith, all, within))

-- all have what follows from either, and from where one is put anew
pub first_broken : {A : Type 0} (P Q R : ℕ → A → Type 0) (xs : List A) (i : ℕ) (y : A) → EachAt (FirstThen i P Q) xs → R i y → ((k : ℕ) (p : A) → P k p → R k p) → ((k : ℕ) (p : A) → Q k p → R k p) → EachAt R (slice_set xs i y)
first_broken P Q R xs i y each here first then =
    each_set (FirstThen i P Q) R xs i y each here (λ k p other h. elim (cases_lt k i) [
      | inl lt ↦ first k p (h.0 lt)
      | inr le ↦ then k p (h.1 le)
    ])

-- the part that is put anew is one whose device has failed
pub some_set : {D : Type 0} (failed : D → Bool) (parts : List (Part D)) (i : ℕ) (p : Part D) → i < length parts → failed p.out ≡ true → SomeFailed failed (slice_set parts i p)
some_set failed parts i p within is = (i, p, set_there parts i p within, is)

-- its device works, as those of the others do
pub set_works : {D : Type 0} (failed : D → Bool) (parts : List (Part D)) (i : ℕ) (p : Part D) → NoneFailed failed parts → failed p.out ≡ false → NoneFailed failed (slice_set parts i p)
set_works {D} failed parts i p works here = each_set (λ (k : ℕ) (q : Part D). failed q.out ≡ false) (λ (k : ℕ) (q : Part D). failed q.out ≡ false) parts i p works here (λ k q other h. h)

-- what the first devices took has left, and that of one more
pub set_flushed : {D : Type 0} (flushed : D → Bool) (parts : List (Part D)) (i : ℕ) (p : Part D) → ((k : ℕ) (q : Part D) → slice_get parts k ≡ Some q → k < i → flushed q.out ≡ true) → flushed p.out ≡ true
    → (k : ℕ) (q : Part D) → slice_get (slice_set parts i p) k ≡ Some q → k < i + 1 → flushed q.out ≡ true
set_flushed {D} flushed parts i p first here =
    each_set (λ (k : ℕ) (q : Part D). k < i → flushed q.out ≡ true) (λ (k : ℕ) (q : Part D). k < i + 1 → flushed q.out ≡ true) parts i p first (λ lt. here)
    (λ k q other h lt. h (omega (arith, lt, other)))

set_told : {D : Type 0} (failed : D → Bool) (parts : List (Part D)) (i : ℕ) (p : Part D) {T : Type 0} → NoneFailed failed parts → T ⊎ (failed p.out ≡ false) → T ⊎ NoneFailed failed (slice_set parts i p)
set_told failed parts i p works (inl told) = inl told
set_told failed parts i p works (inr here) = inr (set_works failed parts i p works here)

-- what is told of its device is told of them all
pub set_tells : {D U : Type 0} (failed : D → Bool) (parts : List (Part D)) (i : ℕ) (p : Part D) (result : Result U DealEnd) → i < length parts → NoneFailed failed parts → Tells (failed p.out ≡ true) (failed p.out ≡ false) result
    → Tells (SomeFailed failed (slice_set parts i p)) (NoneFailed failed (slice_set parts i p)) result
set_tells failed parts i p result within works here = record {
  reads_none = here.reads_none;
  write_failed = λ told. some_set failed parts i p within (here.write_failed told);
  works = set_told failed parts i p works here.works;
}

-- nothing is told where all went well, nor for want of memory
pub tells_ok : {U Fails Works : Type 0} (v : U) → Works → Tells Fails Works (Ok v)
tells_ok v works = record { reads_none = λ h. cc; write_failed = λ h. absurd (cc); works = inr works }

pub tells_memory : {U Fails Works : Type 0} → Works → Tells {U = U} Fails Works (Err Memory)
tells_memory works = record { reads_none = λ h. cc; write_failed = λ h. absurd (cc); works = inr works }

-- a write that failed is told
pub tells_fault : {U Fails Works : Type 0} → Fails → Tells {U = U} Fails Works (Err WriteFailed)
tells_fault fails = record { reads_none = λ h. cc; write_failed = λ h. fails; works = inl refl }

-- a call that was done told no failure
pub held : {T E P : Type 0} (v : T) (e : E) → (Ok v ≡ Err e) ⊎ P → P
held v e (inl told) = cc
held v e (inr p) = p

-- where each device works none has failed
pub none_some : {D : Type 0} (failed : D → Bool) (parts : List (Part D)) → NoneFailed failed parts → SomeFailed failed parts → ⊥
none_some failed parts works (k, p, at, is) = let works_here = works k p at in cc

module _ {D : Type 0} (taken : D → Option (List ℕ)) (olds : Befores) (hands : Hands) where
  -- the part has its rows
  abbrev pub HasAt : ℕ → Part D → Type 0
  HasAt k p = Has taken (olds k) (hands k) p

  -- its device took their text
  abbrev pub TookAt : ℕ → Part D → Type 0
  TookAt k p = Appends (olds k) (taken p.out) (part_text (hands k))

  -- or a beginning of it
  abbrev pub BeganAt : ℕ → Part D → Type 0
  BeganAt k p = TakesPart (olds k) (taken p.out) (part_text (hands k))

  pub has_began : (k : ℕ) (p : Part D) → HasAt k p → BeganAt k p
  has_began k p has = Has-part taken (olds k) (hands k) p has

  pub took_began : (k : ℕ) (p : Part D) → TookAt k p → BeganAt k p
  took_began k p took = TakesPart-all (olds k) (taken p.out) (part_text (hands k)) took

  -- with a row more
  pub more_began : (row : List (List ℕ)) (k : ℕ) (p : Part D) → HasAt k p → TakesPart (olds k) (taken p.out) (part_text (hands k ++ row ∷ []))
  more_began row k p has = part-longer (olds k) (taken p.out) (hands k) row (has_began k p has)

  -- with a row more for one part
  pub more_for : (row : List (List ℕ)) (n : ℕ) (p : Part D) → Has taken (olds n) (hands n ++ row ∷ []) p → Has taken (olds n) (one_more (One n) row hands n) p
  more_for row n p has = rw (eq-eqb n n refl) has

  pub more_for_began : (row : List (List ℕ)) (n : ℕ) (p : Part D) → TakesPart (olds n) (taken p.out) (part_text (hands n ++ row ∷ [])) → TakesPart (olds n) (taken p.out) (part_text (one_more (One n) row hands n))
  more_for_began row n p began = rw (eq-eqb n n refl) began

  pub same_for : (row : List (List ℕ)) (n k : ℕ) (p : Part D) → k ≢ n → HasAt k p → Has taken (olds k) (one_more (One n) row hands k) p
  same_for row n k p other has = rw (ne_eqb k n other) has

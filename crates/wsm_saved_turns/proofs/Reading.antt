-- What was read is what was written.
use Rattle.std.proofs.Common.{◌≡◌, ◌∙◌, ℕ, ◌-◌, ◌<◌, List, [], ◌∷◌, ◌++◌, Option, Some, None, Result, Ok, Err, IfOk, IfSome, ap, subst, sym}
use Rattle.std.specs.Prelude.{unwrap_or}
use Rattle.wsm_saved.specs.Lists.{read_some}
use Rattle.wsm_saved.proofs.Listing.{behind, read_more}

pub both : {A : Type 0} (x y : A) (left rest : List ℕ) → ◌≡◌ {A = Option (A × List ℕ)} (Some (x, left)) (Some (y, rest)) → (x ≡ y) × (left ≡ rest)
both {A} x y left rest is =
    let p : ◌≡◌ {A = A × List ℕ} (x, left) (y, rest) = ap (λ (o : Option (A × List ℕ)). unwrap_or o (x, left)) is in (ap (λ (q : A × List ℕ). q.0) p, ap (λ (q : A × List ℕ). q.1) p)

-- something is read where something was written
abbrev IsNone : {A : Type 0} → Option A → Type 0
IsNone None = Unit {0}
IsNone (Some x) = ⊥

pub none_some : {A : Type 0} (x : A) → None ≡ Some x → ⊥
none_some x is = subst IsNone is tt

-- what holds of a value that is answered follows from what else does
pub and_so : {X E : Type 0} (P Q : X → Type 0) → ((x : X) → P x → Q x) → (r : Result (Option X) E) → IfOk r (λ (o : Option X). IfSome o P) → IfOk r (λ (o : Option X). IfSome o Q)
and_so P Q so (Ok (Some x)) holds = so x holds
and_so P Q so (Ok None) holds = holds
and_so P Q so (Err why) holds = holds

-- one more was read
pub read_one : {A : Type 0} (read : List ℕ → Option (A × List ℕ)) (values new : List A) (v : A) (n : ℕ) (now left : List ℕ) (all : Option (List A × List ℕ))
    → all ≡ behind values (read_some read n now) → 0 < n → Some (v, left) ≡ read now → new ≡ values ++ v ∷ [] → all ≡ behind new (read_some read (n - 1) left)
read_one {A} read values new v n now left all so_far some is more =
    so_far ∙ read_more read values n now left v some (sym is) ∙ ap (λ (ys : List A). behind ys (read_some read (n - 1) left)) (sym more)

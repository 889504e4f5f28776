-- The rest of a brace, by what stands next.
use Rattle.std.proofs.Common.{◌≡◌, ℕ, suc, ◌-◌, ◌<◌, ◌≤◌, true, List, [], ◌∷◌, ◌++◌, refl, sym, ◌∙◌, arith, append_assoc, ap}
use Rattle.wsm_tokens.specs.Tokens.{Tokens}
use Rattle.wsm_tokens.specs.Read.{Read, Rule, Took, Stopped, ◌>>=◌, and_then, give, begins, behind, count}
use Rattle.wsm_query.specs.Grammar.{turns}

-- what a brace reads, behind what was read before
abbrev pub with_front : {A : Type 0} → List A → Read (List A) → Read (List A)
with_front front read = and_then read (λ xs. give (front ++ xs))

turns_more : {A : Type 0} (n m : ℕ) (s : List ℕ) (rule : Rule A) (ts : Tokens) → n ≡ suc m → begins s ts ≡ true → turns n s rule ts ≡ and_then (rule (behind ts)) (λ x. turns m s rule >>= λ xs. give (x ∷ xs))
turns_more n m s rule ts i e = grind arith

-- what is read is the rest of a brace behind its turns so far
pub record TurnsGoOn {A : Type 0} (s : List ℕ) (rule : Rule A) (front : List A) (ts : Tokens) (whole : Read (List A)) : Type 0 where
  pub n : ℕ
  pub enough : count ts ≤ n
  pub same : with_front front (turns n s rule ts) ≡ whole

joined : {A : Type 0} (front : List A) (x : A) (read : Read (List A)) → with_front front (and_then read (λ xs. give (x ∷ xs))) ≡ with_front (front ++ x ∷ []) read
joined front x (Took xs ts) = rw append_assoc refl
joined front x (Stopped f) = refl

module _ {A : Type 0} (s : List ℕ) (rule : Rule A) (front : List A) (ts : Tokens) (whole : Read (List A)) (g : TurnsGoOn s rule front ts whole) (e : begins s ts ≡ true) (some : 0 < count ts) where
  more : with_front front (and_then (rule (behind ts)) (λ x. turns (g.n - 1) s rule >>= λ xs. give (x ∷ xs))) ≡ whole
  more =
      let enough = g.enough in
      ap (with_front front) (sym (turns_more g.n (g.n - 1) s rule ts (omega arith) e)) ∙ g.same

pub turns_go_on : {A : Type 0} {s : List ℕ} {rule : Rule A} {front : List A} {ts : Tokens} {whole : Read (List A)} → TurnsGoOn s rule front ts whole → begins s ts ≡ true → 0 < count ts
    → (us vs : Tokens) (x : A) (next : List A) → us ≡ behind ts → count us ≡ count ts - 1 → rule us ≡ Took x vs → count vs ≤ count us → next ≡ front ++ x ∷ [] → TurnsGoOn s rule next vs whole
turns_go_on {s = s} {rule = rule} {front = front} {ts = ts} {whole = whole} g e some us vs x next i k r l same =
    let enough = g.enough in
    let read = rw i at r in
    record {
      n = g.n - 1;
      enough = omega arith;
      same = rw same (sym (joined front x (turns (g.n - 1) s rule vs)) ∙ ap (λ r. with_front front (and_then r (λ x. turns (g.n - 1) s rule >>= λ xs. give (x ∷ xs)))) (sym read) ∙ more s rule front ts whole g e some);
    }

-- Reading one after the other, as a loop does.
use Rattle.std.proofs.Common.{◌≡◌, ℕ, suc, ◌-◌, ◌+◌, ◌<◌, ◌≤◌, true, false, ◌||◌, map, List, [], ◌∷◌, ◌++◌, Result, Ok, Err, refl, sym, ap, subst, ◌∙◌, append_assoc, append-nil, arith}
use Rattle.std.specs.Prelude.{bytes_eq}
use Rattle.std.specs.List.{list_any}
use Rattle.wsm_record.specs.declared.schema.DeclaredField.{DeclaredField as KeptField}
use Rattle.wsm_record.specs.Name.{is_among}
use Rattle.wsm_program.specs.declared.refusal.DecodeRefusal.{DecodeRefusal}
use Rattle.wsm_program.specs.declared.refusal.DecodeRefusal.TheVariants.{Memory, Operand}
use Rattle.wsm_program.specs.Program.{Name}
use Rattle.wsm_bytecode.specs.Steps.{Read, ◌>>=◌, in_turn, name_at, field_type_at, new_name_at, names_after, new_field_at}
use Rattle.wsm_bytecode.specs.Reading.{Fails}

-- what was read before, and what is still read
abbrev pub with_front : {A : Type 0} → List A → Read (List A) → Read (List A)
with_front front read = read >>= λ x. Ok (front ++ x.0, x.1)

-- a fault of the first step is that of the whole
pub fails_so : {A B : Type 0} (e : DecodeRefusal) (r : Result A DecodeRefusal) (f : A → Result B DecodeRefusal) → Fails e r → Fails e (r >>= f)
fails_so Memory r f h = tt
fails_so e r f h = ap (λ x. x >>= f) h

regroup : {A : Type 0} (front : List A) (n : A) (read : Read (List A)) → with_front front (read >>= λ x. Ok (n ∷ x.0, x.1)) ≡ with_front (front ++ n ∷ []) read
regroup {A} front n (Ok x) = ap (λ (ns : List A). Ok (ns, x.1)) (simp append_assoc)
regroup front n (Err f) = refl

-- one, and then the others, which may depend on it
abbrev one_then : {A : Type 0} → Read A → (A → List ℕ → Read (List A)) → Read (List A)
one_then one later = one >>= λ first. later first.0 first.1 >>= λ others. Ok (first.0 ∷ others.0, others.1)

moves_on : {A : Type 0} (one : Read A) (later : A → List ℕ → Read (List A)) (front : List A) (n : A) (after : List ℕ) → one ≡ Ok (n, after)
    → with_front front (one_then one later) ≡ with_front (front ++ n ∷ []) (later n after)
moves_on one later front n after h = rw h (regroup front n (later n after))

stops : {A : Type 0} (e : DecodeRefusal) (one : Read A) (later : A → List ℕ → Read (List A)) (front : List A) → Fails e one → Fails e (with_front front (one_then one later))
stops e one later front h =
    fails_so e (one_then one later) (λ x. Ok (front ++ x.0, x.1)) (fails_so e one (λ first. later first.0 first.1 >>= λ others. Ok (first.0 ∷ others.0, others.1)) h)

one_less : (count i : ℕ) → i < count → count - i ≡ suc (count - (i + 1))
one_less count i lt = omega arith

module _ {S A : Type 0} (keep : S → A → S) (one : S → List ℕ → Read A) (front : List A) (count i : ℕ) (s : S) (bytes : List ℕ) (total : Read (List A)) (lt : i < count) (so_far : with_front front (in_turn keep one s (count - i) bytes) ≡ total) where
  pub goes_on : (n : A) (after : List ℕ) → one s bytes ≡ Ok (n, after) → with_front (front ++ n ∷ []) (in_turn keep one (keep s n) (count - (i + 1)) after) ≡ total
  goes_on n after h =
      sym (moves_on (one s bytes) (λ x. in_turn keep one (keep s x) (count - (i + 1))) front n after h) ∙ ap (λ k. with_front front (in_turn keep one s k bytes)) (sym (one_less count i lt)) ∙ so_far

  pub ends : (e : DecodeRefusal) → Fails e (one s bytes) → Fails e total
  ends e h =
      let whole : with_front front (in_turn keep one s (suc (count - (i + 1))) bytes) ≡ total = ap (λ k. with_front front (in_turn keep one s k bytes)) (sym (one_less count i lt)) ∙ so_far in
      subst (λ (r : Read (List A)). Fails e r) whole (stops e (one s bytes) (λ x. in_turn keep one (keep s x) (count - (i + 1))) front h)

-- ---- names

-- the next name, which is none of those before
new_name_is : (before : List Name) (bytes : List ℕ) (n : Name) (rest : List ℕ) → name_at bytes ≡ Ok (n, rest) → is_among n before ≡ false → new_name_at before bytes ≡ Ok (n, rest)
new_name_is before bytes n rest e other = rw (e, other) refl

-- one that is one of those before
new_name_taken : (before : List Name) (bytes : List ℕ) (n : Name) (rest : List ℕ) → name_at bytes ≡ Ok (n, rest) → is_among n before ≡ true → new_name_at before bytes ≡ Err Operand
new_name_taken before bytes n rest e same = rw (e, same) refl

abbrev add : List Name → Name → List Name
add names n = names ++ n ∷ []

module _ (front : List Name) (count i : ℕ) (bytes : List ℕ) (total : Read (List Name)) (lt : i < count) (so_far : with_front front (names_after front (count - i) bytes) ≡ total) where
  pub name_goes_on : (n : Name) (after : List ℕ) → name_at bytes ≡ Ok (n, after) → is_among n front ≡ false → with_front (front ++ n ∷ []) (names_after (front ++ n ∷ []) (count - (i + 1)) after) ≡ total
  name_goes_on n after h other = goes_on add new_name_at front count i front bytes total lt so_far n after (new_name_is front bytes n after h other)

  pub name_stops : (e : DecodeRefusal) → Fails e (name_at bytes) → Fails e total
  name_stops e h = ends add new_name_at front count i front bytes total lt so_far e (fails_so e (name_at bytes) _ h)

  pub name_repeats : (n : Name) (after : List ℕ) → name_at bytes ≡ Ok (n, after) → is_among n front ≡ true → total ≡ Err Operand
  name_repeats n after h same = ends add new_name_at front count i front bytes total lt so_far Operand (new_name_taken front bytes n after h same)

-- all were read
pub names_done : (front : List Name) (count i : ℕ) (bytes : List ℕ) (total : Read (List Name)) → count ≤ i → with_front front (names_after front (count - i) bytes) ≡ total → total ≡ Ok (front, bytes)
names_done front count i bytes total le so_far =
    let none : count - i ≡ 0 = omega arith in
    sym so_far ∙ ap (λ k. with_front front (names_after front k bytes)) none ∙ ap (λ (ns : List Name). Ok (ns, bytes)) (append-nil front)

-- ---- fields

among_names : (n : Name) (fs : List KeptField) → is_among n (map (λ f. f.name) fs) ≡ list_any (λ f. bytes_eq n f.name) fs
among_names n [] = refl
among_names n (f ∷ fs) = ap (λ b. bytes_eq n f.name || b) (among_names n fs)

-- the name of a new field, and what follows it
pub new_field_named : (before : List KeptField) (bytes : List ℕ) (n : Name) (rest : List ℕ) → name_at bytes ≡ Ok (n, rest) → list_any (λ f. bytes_eq n f.name) before ≡ false
    → new_field_at (map (λ f. f.name) before) bytes ≡ (field_type_at rest >>= λ type. Ok (record { name = n; type = type.0 }, type.1))
unfolding new_field_at
new_field_named before bytes n rest e other = rw (e, among_names n before ∙ other) refl

-- a name that was there before
pub new_field_taken : (before : List KeptField) (bytes : List ℕ) (n : Name) (rest : List ℕ) → name_at bytes ≡ Ok (n, rest) → list_any (λ f. bytes_eq n f.name) before ≡ true
    → new_field_at (map (λ f. f.name) before) bytes ≡ Err Operand
unfolding new_field_at
new_field_taken before bytes n rest e same = rw (e, among_names n before ∙ same) refl

-- A walk through the chain of a bucket finds an entry that passes a test of its identifier, if and only if one is there.
use Rattle.std.proofs.Common.{◌≡◌, ℕ, zero, suc, ◌-◌, ◌<◌, ◌≤◌, Bool, true, false, ◌&&◌, ◌||◌, List, [], ◌∷◌, length, get_or, ℤ, refl, sym, ap, subst, ◌∙◌, inl, inr, arith}
use Rattle.std.proofs.Math.Bool.{and-false}
use Rattle.std.proofs.lemmas.Bool.{cases_eq, cases_lt}
use Rattle.std.proofs.lemmas.List.{get_or-map, length-map}
use Rattle.std.proofs.lemmas.List.Elements.{All-from_get_or, recursion_from_All}
use Rattle.std.proofs.lemmas.Slice.Eq.{bytes_eq-Decides}
use Rattle.std.specs.Prelude.{bytes_eq}
use Rattle.std.specs.List.{list_any}
use Rattle.wsm_windows.specs.declared.window.Shape.{Shape}
use Rattle.wsm_admission.specs.declared.clock.Clock.{Clock}
use Rattle.wsm_semantics.proofs.Each.{list_any-filter, list_any-none}
use Rattle.wsm_doubles.specs.Chains.{Hashed, bucket_of, last_in}
use Rattle.wsm_doubles.specs.Entries.{counts_as, hash_of, hashes_in, no_entry}
use Rattle.wsm_doubles.specs.Memory.{Memory, knows, live, may_count}
use Rattle.wsm_doubles.proofs.Linked.{bucket_at, last-bucket, last-le, past-last}

-- ---- tests of entries, by number

or_true : (b : Bool) → (b || true) ≡ true
or_true true = refl
or_true false = refl

some_at : (p : List ℕ × ℤ → Bool) (xs : Memory) (i : ℕ) → i < length xs → p (get_or xs i no_entry) ≡ true → list_any p xs ≡ true
some_at p [] i below is = absurd (omega arith)
some_at p (x ∷ xs) zero below is = ap (λ (b : Bool). b || list_any p xs) is
some_at p (x ∷ xs) (suc i) below is = ap (λ (b : Bool). p x || b) (some_at p xs i (omega arith) is) ∙ or_true (p x)

none_at : (p : List ℕ × ℤ → Bool) (xs : Memory) → ((i : ℕ) → i < length xs → p (get_or xs i no_entry) ≡ false) → list_any p xs ≡ false
none_at p xs off = list_any-none p xs (recursion_from_All (λ x. p x ≡ false) xs (All-from_get_or (λ x. p x ≡ false) xs no_entry off))

-- ---- the walk

-- at a number, whose bucket it is, no entry of the bucket behind it passes
pub record Walks (t : Hashed) (entries : Memory) (test : List ℕ × ℤ → Bool) (b at : ℕ) : Type 0 where
  pub within : at ≤ length entries
  pub same : 0 < at → bucket_at t (at - 1) ≡ b
  pub passed : (i : ℕ) → at ≤ i → i < length entries → bucket_at t i ≡ b → test (get_or entries i no_entry) ≡ false

module _ (t : Hashed) (entries : Memory) (hashed : t.hashes ≡ hashes_in entries) where
  pub as_many : length t.hashes ≡ length entries
  as_many = ap length hashed ∙ length-map entries (λ (k : List ℕ × ℤ). hash_of k.0)

  module _ (test : List ℕ × ℤ → Bool) (b : ℕ) where
    pub begins : (n : ℕ) → n ≡ length t.hashes → Walks t entries test b (last_in t b n)
    begins n is = record {
      within = omega (arith, last-le t b n, as_many);
      same = last-bucket t b n;
      passed = λ i past below at. absurd (past-last t b n i past (omega (arith, as_many)) at);
    }

    pub steps : (at next : ℕ) → 0 < at → Walks t entries test b at → test (get_or entries (at - 1) no_entry) ≡ false → next ≡ last_in t (bucket_at t (at - 1)) (at - 1) → Walks t entries test b next
    steps at next some w off is =
        let here : bucket_at t (at - 1) ≡ b = w.same some in
        let then : next ≡ last_in t b (at - 1) = is ∙ ap (λ (c : ℕ). last_in t c (at - 1)) here in
        subst (Walks t entries test b) (sym then) (record {
          within = let h = last-le t b (at - 1) in let k = w.within in omega arith;
          same = last-bucket t b (at - 1);
          passed = λ i past below on. elim (cases_lt i (at - 1)) [
            | inl less ↦ absurd (past-last t b (at - 1) i past less on)
            | inr not_less ↦ elim (cases_eq i (at - 1)) [
              | inl equal ↦ ap (λ (n : ℕ). test (get_or entries n no_entry)) equal ∙ off
              | inr other ↦ w.passed i (omega arith) below on
            ]
          ];
        })

-- ---- what it tells

module _ (c : Clock) (shape : Shape) (mark : ℤ) (identifier : List ℕ) (entries : Memory) where
  told : knows identifier (live c shape mark entries) ≡ list_any (counts_as c shape mark identifier) entries
  told = list_any-filter (λ k. bytes_eq identifier k.0) (may_count c shape mark) entries

  pub found : (r : Bool) (i : ℕ) → i < length entries → r ≡ counts_as c shape mark identifier (get_or entries i no_entry) → r ≡ true → true ≡ knows identifier (live c shape mark entries)
  found r i below is on = sym (told ∙ some_at (counts_as c shape mark identifier) entries i below (sym is ∙ on))

  hash_at : (i : ℕ) → i < length entries → get_or (hashes_in entries) i 0 ≡ hash_of (get_or entries i no_entry).0
  hash_at i below = get_or-map (λ k. hash_of k.0) entries i no_entry 0 below

  -- another bucket has another text
  apart : (t : Hashed) (hash i : ℕ) → t.hashes ≡ hashes_in entries → hash ≡ hash_of identifier → i < length entries → (bucket_at t i ≡ bucket_of t.buckets hash → ⊥)
      → counts_as c shape mark identifier (get_or entries i no_entry) ≡ false
  apart t hash i hashed is below other =
      elim (bytes_eq identifier (get_or entries i no_entry).0) as (λ b. bytes_eq identifier (get_or entries i no_entry).0 ≡ b → (may_count c shape mark (get_or entries i no_entry) && b) ≡ false) [
        | true ↦ λ equal. absurd (other (
            ap (λ (hs : List ℕ). bucket_of t.buckets (get_or hs i 0)) hashed
            ∙ ap (bucket_of t.buckets) (hash_at i below ∙ ap hash_of (sym ((bytes_eq-Decides identifier (get_or entries i no_entry).0).0 equal)) ∙ sym is)))
        | false ↦ λ differ. and-false (may_count c shape mark (get_or entries i no_entry))
      ] refl

  pub missed : (t : Hashed) (hash at : ℕ) → t.hashes ≡ hashes_in entries → hash ≡ hash_of identifier → at ≡ 0
      → Walks t entries (counts_as c shape mark identifier) (bucket_of t.buckets hash) at → false ≡ knows identifier (live c shape mark entries)
  missed t hash at hashed is end w = sym (told ∙ none_at (counts_as c shape mark identifier) entries (λ i below.
      elim (cases_eq (bucket_at t i) (bucket_of t.buckets hash)) [
        | inl same ↦ w.passed i (omega arith) below same
        | inr other ↦ apart t hash i hashed is below other
      ]))

-- ---- one entry

module _ (c : Clock) (shape : Shape) (mark : ℤ) (identifier : List ℕ) (entries inside : Memory) (same : inside ≡ entries) (number : ℕ) where
  no_count : bytes_eq identifier (get_or entries number no_entry).0 ≡ false → counts_as c shape mark identifier (get_or entries number no_entry) ≡ false
  no_count off = ap (λ (b : Bool). may_count c shape mark (get_or entries number no_entry) && b) off ∙ and-false (may_count c shape mark (get_or entries number no_entry))

  -- a text with another hash
  pub hash_differs : (hashes : List ℕ) (hash told : ℕ) (v : Bool) → hashes ≡ hashes_in inside → number < length inside → told ≡ get_or hashes number 0 → hash ≡ hash_of identifier → (told ≡ hash → ⊥) → v ≡ false
      → v ≡ counts_as c shape mark identifier (get_or entries number no_entry)
  hash_differs hashes hash told v hashed below is of_text other off =
      let at : told ≡ hash_of (get_or entries number no_entry).0 =
      is
      ∙ ap (λ (hs : List ℕ). get_or hs number 0) hashed
      ∙ get_or-map (λ k. hash_of k.0) inside number no_entry 0 below
      ∙ ap (λ (m : Memory). hash_of (get_or m number no_entry).0) same in
      off
      ∙ sym (no_count (elim (bytes_eq identifier (get_or entries number no_entry).0) as (λ b. bytes_eq identifier (get_or entries number no_entry).0 ≡ b → b ≡ false) [
        | true ↦ λ equal. absurd (other (at ∙ ap hash_of (sym ((bytes_eq-Decides identifier (get_or entries number no_entry).0).0 equal)) ∙ sym of_text))
        | false ↦ λ differ. refl
      ] refl))

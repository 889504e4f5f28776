-- Chains through hashes: what leads to the last of a bucket, and what a hash more changes.
use Rattle.std.proofs.Common.{◌≡◌, ℕ, zero, suc, ◌+◌, ◌-◌, ◌<◌, ◌≤◌, add-one, true, false, cond, List, [], ◌∷◌, ◌++◌, length, get_or, set, eqb, refl, sym, ap, subst, ◌∙◌, inl, inr, arith}
use Rattle.std.proofs.lemmas.Bool.{eqb-true, eqb-false, cases_lt}
use Rattle.std.proofs.lemmas.List.{get_or_append_left, get_or_push, get_or-set_same, get_or-set_other, length-map, length-set, length_push, map-append}
use Rattle.wsm_doubles.specs.declared.chains.Link.{Link}
use Rattle.wsm_doubles.specs.Chains.{AreLinked, Hashed, bucket_of, hashes_of, last_in, no_link}

-- the bucket of a number's hash
abbrev pub bucket_at : Hashed → ℕ → ℕ
bucket_at t i = bucket_of t.buckets (get_or t.hashes i 0)

module _ (t : Hashed) (b : ℕ) where
  pub last-le : (n : ℕ) → last_in t b n ≤ n
  last-le zero = omega arith
  last-le (suc n) = elim (eqb (bucket_at t n) b) as (λ x. cond x (suc n) (last_in t b n) ≤ suc n) [ true ↦ omega arith | false ↦ let h = last-le n in omega arith ]

  pub last-bucket : (n : ℕ) → 0 < last_in t b n → bucket_at t (last_in t b n - 1) ≡ b
  last-bucket zero = λ some. absurd (omega arith)
  last-bucket (suc n) =
      elim (eqb (bucket_at t n) b) as (λ x. eqb (bucket_at t n) b ≡ x → 0 < cond x (suc n) (last_in t b n) → bucket_at t (cond x (suc n) (last_in t b n) - 1) ≡ b) [
        | true ↦ λ is some. let e : suc n - 1 ≡ n = omega arith in ap (bucket_at t) e ∙ eqb-true (bucket_at t n) b is
        | false ↦ λ is some. last-bucket n some
      ] refl

  pub past-last : (n i : ℕ) → last_in t b n ≤ i → i < n → bucket_at t i ≡ b → ⊥
  past-last zero i = λ past below at. omega arith
  past-last (suc n) i =
      elim (eqb (bucket_at t n) b) as (λ x. eqb (bucket_at t n) b ≡ x → cond x (suc n) (last_in t b n) ≤ i → i < suc n → bucket_at t i ≡ b → ⊥) [
        | true ↦ λ is past below at. omega arith
        | false ↦ λ is past below at. elim (cases_lt i n) [
          | inl less ↦ past-last n i past less at
          | inr not_less ↦ let same : i ≡ n = omega arith in eqb-false (bucket_at t n) b is (ap (bucket_at t) (sym same) ∙ at)
        ]
      ] refl

-- with a hash more
abbrev grown : Hashed → ℕ → Hashed
grown t h = record { hashes = t.hashes ++ h ∷ []; buckets = t.buckets }

last_push : (t : Hashed) (h b n : ℕ) → n ≤ length t.hashes → last_in (grown t h) b n ≡ last_in t b n
last_push t h b zero within = refl
last_push t h b (suc n) within =
    (λ i. cond (eqb (bucket_of t.buckets (get_or_append_left t.hashes (h ∷ []) 0 n (omega arith) i)) b) (suc n) (last_push t h b n (omega arith) i))

bucket_push : (t : Hashed) (h n : ℕ) → n ≡ length t.hashes → bucket_at (grown t h) n ≡ bucket_of t.buckets h
bucket_push t h n all = ap (bucket_of t.buckets) (get_or_push t.hashes h 0 n (sym all))

head_pushed : (t : Hashed) (h b n head : ℕ) → n ≡ length t.hashes → head ≡ cond (eqb (bucket_of t.buckets h) b) (suc n) (last_in t b n) → head ≡ last_in (grown t h) b (suc n)
head_pushed t h b n head all is =
    is
    ∙ (λ i. cond (eqb (sym (bucket_push t h n all) i) b) (suc n) (sym (last_push t h b n (omega arith)) i))

set_head : (heads : List ℕ) (bucket b n last : ℕ) → bucket < length heads → get_or heads b 0 ≡ last → get_or (set heads bucket (n + 1)) b 0 ≡ cond (eqb bucket b) (suc n) last
set_head heads bucket b n last within is =
    elim (eqb bucket b) as (λ x. eqb bucket b ≡ x → get_or (set heads bucket (n + 1)) b 0 ≡ cond x (suc n) last) [
      | true ↦ λ same. ap (λ (c : ℕ). get_or (set heads bucket (n + 1)) c 0) (sym (eqb-true bucket b same)) ∙ get_or-set_same heads bucket (n + 1) 0 within ∙ add-one n
      | false ↦ λ other. get_or-set_other heads bucket b (n + 1) 0 (λ e. eqb-false bucket b other (sym e)) ∙ is
    ] refl

module _ (heads : List ℕ) (links : List Link) (link : Link) (bucket : ℕ) (at : bucket ≡ bucket_of (length heads) link.hash) (within : bucket < length heads)
    (before : link.before ≡ get_or heads bucket 0) (h : AreLinked heads links) where
  abbrev now : Hashed
  now = record { hashes = hashes_of links; buckets = length heads }

  abbrev then : Hashed
  then = record { hashes = hashes_of (links ++ link ∷ []); buckets = length (set heads bucket (length links + 1)) }

  then_is : grown now link.hash ≡ then
  then_is = λ i. record { hashes = sym (map-append (λ (l : Link). l.hash) links (link ∷ [])) i; buckets = sym (length-set heads bucket (length links + 1)) i }

  all : length links ≡ length now.hashes
  all = sym (length-map links (λ (l : Link). l.hash))

  lasts : (b : ℕ) → b < length (set heads bucket (length links + 1)) → get_or (set heads bucket (length links + 1)) b 0 ≡ last_in then b (length (links ++ link ∷ []))
  lasts b below =
      head_pushed now link.hash b (length links) (get_or (set heads bucket (length links + 1)) b 0) all
      (set_head heads bucket b (length links) (last_in now b (length links)) within (h.lasts b (subst (λ (n : ℕ). b < n) (length-set heads bucket (length links + 1)) below))
      ∙ ap (λ (c : ℕ). cond (eqb c b) (suc (length links)) (last_in now b (length links))) at)
      ∙ (λ i. last_in (then_is i) b (suc (length links)))
      ∙ (let e : suc (length links) ≡ length (links ++ link ∷ []) = omega (arith, length_push links link) in ap (last_in then b) e)

  abbrev IsBefore : Link → ℕ → Type 0
  IsBefore l i = l.before ≡ last_in then (bucket_of then.buckets l.hash) i

  earlier : (i : ℕ) → i < length links → IsBefore (get_or links i no_link) i
  earlier i below =
      h.befores i below
      ∙ sym (last_push now link.hash (bucket_of now.buckets (get_or links i no_link).hash) i (omega (arith, all)))
      ∙ (λ j. last_in (then_is j) (bucket_of (then_is j).buckets (get_or links i no_link).hash) i)

  newest : IsBefore link (length links)
  newest =
      before
      ∙ h.lasts bucket within
      ∙ sym (last_push now link.hash bucket (length links) (omega (arith, all)))
      ∙ ap (λ (b : ℕ). last_in (grown now link.hash) b (length links)) at
      ∙ (λ j. last_in (then_is j) (bucket_of (then_is j).buckets link.hash) (length links))

  befores : (i : ℕ) → i < length (links ++ link ∷ []) → IsBefore (get_or (links ++ link ∷ []) i no_link) i
  befores i below = elim (cases_lt i (length links)) [
    | inl less ↦ subst (λ (l : Link). IsBefore l i) (sym (get_or_append_left links (link ∷ []) no_link i less)) (earlier i less)
    | inr not_less ↦ let same : length links ≡ i = omega (arith, length_push links link) in
        subst (λ (l : Link). IsBefore l i) (sym (get_or_push links link no_link i same)) (subst (IsBefore link) same newest)
  ]

  pub linked : AreLinked (set heads bucket (length links + 1)) (links ++ link ∷ [])
  linked = record { lasts = lasts; befores = befores }

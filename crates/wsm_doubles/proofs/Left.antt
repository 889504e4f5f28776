-- What is left of entries, one after the other.
use Rattle.std.proofs.Common.{◌≡◌, ℕ, ◌+◌, ◌<◌, Bool, true, false, not, cond, List, [], ◌∷◌, ◌++◌, length, get_or, take, ℤ, refl, sym, ap, ◌∙◌, arith}
use Rattle.std.proofs.lemmas.List.{append-nil, take_all, take_more}
use Rattle.std.specs.Prelude.{filter}
use Rattle.wsm_semantics.proofs.Each.{filter-append}
use Rattle.wsm_windows.specs.declared.window.Shape.{Shape}
use Rattle.wsm_admission.specs.declared.clock.Clock.{Clock}
use Rattle.wsm_admission.specs.Clock.{is_late}
use Rattle.wsm_doubles.specs.Entries.{Tabled, no_entry}
use Rattle.wsm_doubles.specs.Memory.{Memory, live, may_count}

module _ (p : List ℕ × ℤ → Bool) (xs : Memory) (n : ℕ) (below : n < length xs) where
  one_more : filter p (take (n + 1) xs) ≡ filter p (take n xs) ++ cond (p (get_or xs n no_entry)) (get_or xs n no_entry ∷ []) []
  one_more = ap (filter p) (take_more xs n no_entry below) ∙ filter-append p (take n xs) (get_or xs n no_entry ∷ [])

  pub left_more : (k : List ℕ × ℤ) → k ≡ get_or xs n no_entry → p k ≡ true → filter p (take n xs) ++ k ∷ [] ≡ filter p (take (n + 1) xs)
  left_more k at is =
      sym (one_more ∙ ap (λ (e : List ℕ × ℤ). filter p (take n xs) ++ cond (p e) (e ∷ []) []) (sym at) ∙ ap (λ (b : Bool). filter p (take n xs) ++ cond b (k ∷ []) []) is)

  pub left_same : (k : List ℕ × ℤ) → k ≡ get_or xs n no_entry → p k ≡ false → filter p (take n xs) ≡ filter p (take (n + 1) xs)
  left_same k at is =
      sym (one_more ∙ ap (λ (e : List ℕ × ℤ). filter p (take n xs) ++ cond (p e) (e ∷ []) []) (sym at) ∙ ap (λ (b : Bool). filter p (take n xs) ++ cond b (k ∷ []) []) is ∙ append-nil (filter p (take n xs)))

pub left_all : (p : List ℕ × ℤ → Bool) (xs : Memory) (n : ℕ) → n ≡ length xs → filter p (take n xs) ≡ filter p xs
left_all p xs n all = ap (λ (m : ℕ). filter p (take m xs)) all ∙ ap (filter p) (take_all (length xs) xs (omega arith))

module _ (c : Clock) (shape : Shape) (mark : ℤ) (xs : Memory) (n : ℕ) (below : n < length xs) (buckets : ℕ) (time t : ℤ) (late : Bool)
    (at : time ≡ (get_or xs n no_entry).1) (is : t ≡ time) (judged : late ≡ is_late c shape mark t) where
  abbrev IsLeft : ℕ → Tabled → Type 0
  IsLeft m kept = kept ≡ record { entries = live c shape mark (take m xs); buckets = buckets }

  counts : may_count c shape mark (get_or xs n no_entry) ≡ not late
  counts = ap not (ap (is_late c shape mark) (sym at ∙ sym is) ∙ sym judged)

  -- an entry that may count is put behind the others
  pub kept_more : (before after : Tabled) (text : List ℕ) (u : ℤ) → text ≡ (get_or xs n no_entry).0 → u ≡ time → late ≡ false → IsLeft n before
      → after ≡ record { entries = before.entries ++ (text, u) ∷ []; buckets = before.buckets } → IsLeft (n + 1) after
  kept_more before after text u there same off left added =
      let entry : (text, u) ≡ get_or xs n no_entry = λ i. (there i, (same ∙ at) i) in
      added
      ∙ (λ i. record { entries = (left i).entries ++ (text, u) ∷ []; buckets = (left i).buckets })
      ∙ (λ i. record { entries = left_more (may_count c shape mark) xs n below (text, u) entry (ap (may_count c shape mark) entry ∙ counts ∙ ap not off) i; buckets = buckets })

  -- where all before it may count, so they do with it
  pub all_more : late ≡ false → live c shape mark (take n xs) ≡ take n xs → live c shape mark (take (n + 1) xs) ≡ take (n + 1) xs
  all_more off all =
      sym (left_more (may_count c shape mark) xs n below (get_or xs n no_entry) refl (counts ∙ ap not off))
      ∙ ap (λ (m : Memory). m ++ get_or xs n no_entry ∷ []) all
      ∙ sym (take_more xs n no_entry below)

  -- one that can't is left out
  pub kept_same : (before after : Tabled) → late ≡ true → IsLeft n before → after ≡ before → IsLeft (n + 1) after
  kept_same before after off left stays =
      stays
      ∙ left
      ∙ (λ i. record { entries = left_same (may_count c shape mark) xs n below (get_or xs n no_entry) refl (counts ∙ ap not off) i; buckets = buckets })

pub all_stay : (c : Clock) (shape : Shape) (mark : ℤ) (xs : Memory) (n : ℕ) → n ≡ length xs → live c shape mark (take n xs) ≡ take n xs → live c shape mark xs ≡ xs
all_stay c shape mark xs n all stay =
    sym (left_all (may_count c shape mark) xs n all)
    ∙ stay
    ∙ ap (λ (m : ℕ). take m xs) all
    ∙ take_all (length xs) xs (omega arith)

-- The watermarks that a part is opened with bring it to the marks of the sources.
use Rattle.std.proofs.Common.{◌≡◌, ℕ, zero, suc, ◌+◌, ◌<◌, ◌≤◌, Bool, true, false, ◌&&◌, cond, not, List, [], ◌∷◌, ◌++◌, map, ℤ, inl, inr, refl, sym, ap, ◌∙◌, arith}
use Rattle.std.proofs.lemmas.Bool.{true≢false, and_parts, cases_lt}
use Rattle.std.proofs.lemmas.Bool.Decides.{nat_tests}
use Rattle.std.proofs.lemmas.Int.{ints}
use Rattle.std.specs.Prelude.{Option, Some, None, int_le, int_lt, nat_eq}
use Rattle.std.specs.List.{range_with_len}
use Rattle.std.specs.Int.{int_max}
use Rattle.wsm_record.specs.Event.{Event, Record, Watermark}
use Rattle.wsm_record.specs.Schema.{Declared, source_count}
use Rattle.wsm_admission.specs.declared.clock.Clock.{Clock}
use Rattle.wsm_admission.specs.Clock.{source_mark, marks_of, is_source, is_time, watermark_refusal}
use Rattle.wsm_admission.specs.declared.verdict.Refusal.TheVariants.{TimeRange, NotRising}
use Rattle.wsm_admission.proofs.SourceMarks.{mark_of_source}
use Rattle.wsm_semantics.specs.Query.{Query, verdict_on}
use Rattle.wsm_key_parts.specs.OpenedLate.{openers, AreTaken}

-- ---- the mark of a source

-- a mark is the start, or a time past it
abbrev IsReached : (ℤ → Bool) → ℤ → ℤ → Type 0
IsReached t start m = (int_lt start m ≡ true → t m ≡ true) × (int_lt start m ≡ false → m ≡ start)

stays_low : (start m t : ℤ) → int_le m t ≡ true → int_lt start t ≡ false → (int_lt start m ≡ false → m ≡ start) → t ≡ start
stays_low start m t over low is =
    elim (int_lt start m) as (λ b. int_lt start m ≡ b → t ≡ start) [
      | true ↦ λ h. grind (arith, ints)
      | false ↦ λ h. let same : m ≡ start = is h in grind (arith, ints)
    ] refl

by_greater : (t : ℤ → Bool) (start m n : ℤ) → IsReached t start m → t n ≡ true → IsReached t start (int_max m n)
by_greater t start m n reached timely =
    elim (int_le m n) as (λ b. int_le m n ≡ b → IsReached t start (int_max m n)) [
      | true ↦ λ h.
          let is : int_max m n ≡ n = grind (arith, ints) in
          (λ _. ap t is ∙ timely, λ low. is ∙ stays_low start m n h (ap (int_lt start) (sym is) ∙ low) reached.1)
      | false ↦ λ h.
          let is : int_max m n ≡ m = grind (arith, ints) in
          (λ up. ap t is ∙ reached.0 (ap (int_lt start) (sym is) ∙ up), λ low. is ∙ reached.1 (ap (int_lt start) (sym is) ∙ low))
    ] refl

not_past : (m : ℤ) → int_lt m m ≡ false
not_past m = grind (arith, ints)

module _ (c : Clock) where
  is_reached : (s : ℕ) (past : List Event) → IsReached is_time c.start (source_mark c s past)
  is_reached s [] = (λ up. absurd (true≢false (sym up ∙ not_past c.start)), λ low. refl)
  is_reached s (Record k t vs ∷ past) = is_reached s past
  is_reached s (Watermark o t ∷ past) =
      let m : ℤ = source_mark c s past in
      elim (is_source s o && is_time t) as (λ b. (is_source s o && is_time t) ≡ b → IsReached is_time c.start (cond b (int_max m t) m)) [
        | true ↦ λ h. by_greater is_time c.start m t (is_reached s past) (and_parts (is_source s o) (is_time t) h).1
        | false ↦ λ h. is_reached s past
      ] refl

  -- ---- the marks behind openers

  module _ (f : ℕ → ℤ) where
    abbrev opening : ℕ → ℕ → List Event
    opening a n = openers c.start a (map f (range_with_len a n))

    skipped : (s a : ℕ) (rest : List Event) → nat_eq a s ≡ false → source_mark c s (Watermark (Some a) (f a) ∷ rest) ≡ source_mark c s rest
    skipped s a rest apart = ap (λ (b : Bool). cond (b && is_time (f a)) (int_max (source_mark c s rest) (f a)) (source_mark c s rest)) apart

    -- of another source
    one_other : (s a : ℕ) (rest : List Event) → nat_eq a s ≡ false → source_mark c s (cond (int_lt c.start (f a)) (Watermark (Some a) (f a) ∷ rest) rest) ≡ source_mark c s rest
    one_other s a rest apart =
        elim (int_lt c.start (f a)) as (λ b. source_mark c s (cond b (Watermark (Some a) (f a) ∷ rest) rest) ≡ source_mark c s rest) [
          | true ↦ skipped s a rest apart
          | false ↦ refl
        ]

    apart : (a s : ℕ) → s < a → nat_eq a s ≡ false
    apart a s h = grind (arith, nat_tests)

    apart_too : (a s : ℕ) → a < s → nat_eq a s ≡ false
    apart_too a s h = grind (arith, nat_tests)

    same : (a s : ℕ) → a ≡ s → nat_eq a s ≡ true
    same a s h = grind (arith, nat_tests)

    later_sources : (s a n : ℕ) → s < a → source_mark c s (opening a n) ≡ c.start
    later_sources s a zero h = refl
    later_sources s a (suc n) h = one_other s a (opening (a + 1) n) (apart a s h) ∙ later_sources s (a + 1) n (omega (arith, h))

    own_mark : (s a : ℕ) (rest : List Event) → a ≡ s → IsReached is_time c.start (f a) → source_mark c s rest ≡ c.start → source_mark c s (cond (int_lt c.start (f a)) (Watermark (Some a) (f a) ∷ rest) rest) ≡ f a
    own_mark s a rest own reached before =
        elim (int_lt c.start (f a)) as (λ b. int_lt c.start (f a) ≡ b → source_mark c s (cond b (Watermark (Some a) (f a) ∷ rest) rest) ≡ f a) [
          | true ↦ λ up.
              let greater : int_max c.start (f a) ≡ f a = grind (arith, ints) in
              (λ i. cond (same a s own i && reached.0 up i) (int_max (before i) (f a)) (before i)) ∙ greater
          | false ↦ λ low. before ∙ sym (reached.1 low)
        ] refl

    reaches : ((s : ℕ) → IsReached is_time c.start (f s)) → (s a n : ℕ) → a ≤ s → s < a + n → source_mark c s (opening a n) ≡ f s
    reaches reached s a zero from until = absurd (omega (arith, from, until))
    reaches reached s a (suc n) from until =
        elim (cases_lt a s) [
          | inl less ↦ one_other s a (opening (a + 1) n) (apart_too a s less) ∙ reaches reached s (a + 1) n (omega (arith, less)) (omega (arith, until))
          | inr least ↦
              let is : a ≡ s = omega (arith, from, least) in
              own_mark s a (opening (a + 1) n) is (reached a) (later_sources s (a + 1) n (omega (arith, is))) ∙ ap f is
        ]

    map_same : (g : ℕ → ℤ) (a n : ℕ) → ((s : ℕ) → a ≤ s → s < a + n → g s ≡ f s) → map g (range_with_len a n) ≡ map f (range_with_len a n)
    map_same g a zero k = refl
    map_same g a (suc n) k = λ i. k a (omega arith) (omega arith) i ∷ map_same g (a + 1) n (λ s l h. k s (omega (arith, l)) (omega (arith, h))) i

  -- behind them the sources have the marks that they had
  pub opened_marks : (declared : Declared) (past : List Event) → marks_of c declared (openers c.start 0 (marks_of c declared past)) ≡ marks_of c declared past
  opened_marks declared past =
      map_same (λ s. source_mark c s past) (λ s. source_mark c s (openers c.start 0 (marks_of c declared past))) 0 (source_count declared)
      (λ s from until. reaches (λ s. source_mark c s past) (λ s. is_reached s past) s 0 (source_count declared) from until)

-- ---- they are taken

none_refuses : (start m : ℤ) (timely : Bool) → timely ≡ true → int_lt start m ≡ true → cond (not timely) (Some TimeRange) (cond (int_le m start) (Some NotRising) None) ≡ None
none_refuses start m timely is up =
    let higher : int_le m start ≡ false = grind (arith, ints) in
    λ i. cond (not (is i)) (Some TimeRange) (cond (higher i) (Some NotRising) None)

module _ (q : Query) where
  behind_nothing : (h : List Event) → h ++ [] ≡ h
  behind_nothing [] = refl
  behind_nothing (e ∷ h) = ap (λ (es : List Event). e ∷ es) (behind_nothing h)

  module _ (f : ℕ → ℤ) (reached : (s : ℕ) → IsReached is_time q.clock.start (f s)) where
    -- behind those of the later sources
    one_taken : (a n : ℕ) → a < source_count q.declared → int_lt q.clock.start (f a) ≡ true → verdict_on q (opening q.clock f (a + 1) n) (Watermark (Some a) (f a)) ≡ None
    one_taken a n few up =
        let rest : List Event = opening q.clock f (a + 1) n in
        ap (λ (m : Option ℤ). watermark_refusal m (f a)) (mark_of_source q.clock q.declared rest a few ∙ ap Some (later_sources q.clock f a (a + 1) n (omega arith)))
        ∙ none_refuses q.clock.start (f a) (is_time (f a)) ((reached a).0 up) up

    all_taken : (a n : ℕ) → a + n ≤ source_count q.declared → AreTaken q [] (opening q.clock f a n)
    all_taken a zero few = tt
    all_taken a (suc n) few =
        let rest : List Event = opening q.clock f (a + 1) n in
        elim (int_lt q.clock.start (f a)) as (λ b. int_lt q.clock.start (f a) ≡ b → AreTaken q [] (cond b (Watermark (Some a) (f a) ∷ rest) rest)) [
          | true ↦ λ up. (
            ap (λ (h : List Event). verdict_on q h (Watermark (Some a) (f a))) (behind_nothing rest) ∙ one_taken a n (omega (arith, few)) up,
            all_taken (a + 1) n (omega (arith, few)),
          )
          | false ↦ λ _. all_taken (a + 1) n (omega (arith, few))
        ] refl

  pub openers_taken : (past : List Event) → AreTaken q [] (openers q.clock.start 0 (marks_of q.clock q.declared past))
  openers_taken past = all_taken (λ s. source_mark q.clock s past) (λ s. is_reached q.clock s past) 0 (source_count q.declared) (omega arith)

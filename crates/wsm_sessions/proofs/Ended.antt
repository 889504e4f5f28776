-- How many windows end by a time, told by the two around the place.
use Rattle.std.proofs.Common.{◌≡◌, ◌≢◌, ◌⊎◌, ◌<◌, ◌≤◌, ◌-◌, ℕ, ℤ, zero, suc, true, false, List, [], ◌∷◌, length, get_or, refl, sym, ap, ◌∙◌, inl, inr, arith}
use Rattle.std.proofs.lemmas.Bool.{true≢false, cases_Bool}
use Rattle.std.specs.Prelude.{filter}
use Rattle.std.specs.List.Sorted.{IsPartitionedBy}
use Rattle.wsm_windows.specs.declared.window.Window.{Window}
use Rattle.wsm_semantics.specs.Sessions.{ends_by}
use Rattle.wsm_sessions.specs.Placing.{is_ended_at}
use Rattle.wsm_sessions.proofs.Seams.{point_count}

module _ (t : ℤ) where
  pub ended_nth : (ws : List Window) (k : ℕ) (d : Window) → k < length ws → ends_by t (get_or ws k d) ≡ is_ended_at t ws (suc k)
  ended_nth [] k d h = absurd (omega (arith, h))
  ended_nth (w ∷ ws) zero d h = refl
  ended_nth (w ∷ ws) (suc k) d h = ended_nth ws k d (omega (arith, h))

  -- those in front of a place end by it, and those behind it don't
  pub ended_count : (ws : List Window) → IsPartitionedBy (ends_by t) ws → (n : ℕ) → n ≤ length ws → is_ended_at t ws n ≡ true → (n ≡ length ws) ⊎ (is_ended_at t ws (suc n) ≡ false) → n ≡ length (filter (ends_by t) ws)
  ended_count ws parted n fits last next = sym (point_count (ends_by t) ws n ((λ k d low high. first k d n high last fits), (λ k d low high. rest k d low high next)) fits) where
    first : (k : ℕ) (d : Window) (n : ℕ) → k < n → is_ended_at t ws n ≡ true → n ≤ length ws → ends_by t (get_or ws k d) ≡ true
    first k d zero less ended fit = absurd (omega (arith, less))
    first k d (suc m) less ended fit = parted k m d (omega (arith, less)) (omega (arith, fit)) (ended_nth ws m d (omega (arith, fit)) ∙ ended)

    rest : (k : ℕ) (d : Window) → n ≤ k → k < length ws → (n ≡ length ws) ⊎ (is_ended_at t ws (suc n) ≡ false) → ends_by t (get_or ws k d) ≡ false
    rest k d low high (inl all) = absurd (omega (arith, low, high, all))
    rest k d low high (inr past) = elim (cases_Bool (ends_by t (get_or ws k d))) [
      | inl ends ↦ absurd (true≢false (sym (parted n k d low high ends) ∙ ended_nth ws n d (omega (arith, low, high)) ∙ past))
      | inr stays ↦ stays
    ]

  pub ended_before : (ws : List Window) (n : ℕ) (d : Window) → n ≢ 0 → n ≤ length ws → ends_by t (get_or ws (n - 1) d) ≡ is_ended_at t ws n
  ended_before ws zero d some fits = absurd (some refl)
  ended_before ws (suc k) d some fits = let less : suc k - 1 ≡ k = omega arith in ap (λ i. ends_by t (get_or ws i d)) less ∙ ended_nth ws k d (omega (arith, fits))

  pub ended_all : (ws : List Window) → IsPartitionedBy (ends_by t) ws → is_ended_at t ws (length ws) ≡ true → length ws ≡ length (filter (ends_by t) ws)
  ended_all ws parted last = ended_count ws parted (length ws) (omega arith) last (inl refl)

  -- all but the newest
  pub ended_all_but : (ws : List Window) → IsPartitionedBy (ends_by t) ws → is_ended_at t ws (length ws) ≡ false → is_ended_at t ws (length ws - 1) ≡ true → length ws - 1 ≡ length (filter (ends_by t) ws)
  ended_all_but [] parted newest last = absurd (true≢false newest)
  ended_all_but (w ∷ ws) parted newest last =
      let less : length (w ∷ ws) - 1 ≡ length ws = omega arith in
      less ∙ ended_count (w ∷ ws) parted (length ws) (omega arith) (ap (is_ended_at t (w ∷ ws)) (sym less) ∙ last) (inr newest)

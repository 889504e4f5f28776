-- A scan of a ring's rows, from a window and a key on.
use Rattle.std.proofs.Common.{suc, cond, ◌-ℤ◌, ◌≡◌, ◌⊎◌, ℕ, ◌+◌, ◌<◌, ◌≤◌, true, false, Option, Some, None, List, ℤ, pos, ◌+ℤ◌, ◌<ℤ◌, ◌≤ℤ◌, refl, sym, ap, ◌∙◌, inl, inr, arith}
use Rattle.std.proofs.lemmas.Bool.{cases_lt}
use Rattle.std.proofs.lemmas.Int.{ints, by_lt_z}
use Rattle.std.specs.Option.{is_some}
use Rattle.wsm_ring.specs.declared.ring.Ring.{Ring}
use Rattle.wsm_ring.specs.Ring.{IsOnGrid, AreInPlace, IsFromOn, IsFirstFrom, IsFirstUntil, NoneInRow, IsFirstInRow, row_of, starts_at, window_number}
use Rattle.wsm_slots.specs.Slots.{slot_at}
use Rattle.wsm_ring.proofs.Rings.{next_on_grid}
use Rattle.wsm_ring.proofs.Placed.{not_started}
use Rattle.std.proofs.lemmas.Bool.Decides.{Decides-int_eq}
use Rattle.std.specs.Prelude.{int_le, unsigned_abs}
use Rattle.wsm_windows.specs.declared.place.Place.{Place}

module _ {P : Type 0} (r : Ring) (os : List (Option (Place × P))) (placed : AreInPlace r os) where
  -- the key of an entry of a window is how far it stands in the window's row
  pub key_in_row : (start : ℤ) (k : ℕ) (e : Place × P) → slot_at os (row_of r start + k) ≡ Some e → e.0.start ≡ start → e.0.key ≡ k
  key_in_row start k e at same =
      let own : row_of r e.0.start + e.0.key ≡ row_of r start + k = (placed (row_of r start + k) e at).1 in
      let row : row_of r e.0.start ≡ row_of r start = ap (row_of r) same in
      omega (arith, own, row)

  pub at_key : (i : ℕ) (start : ℤ) (e : Place × P) → slot_at os i ≡ Some e → e.0.start ≡ start → slot_at os (row_of r start + e.0.key) ≡ Some e
  at_key i start e at same = ap (slot_at os) (ap (λ s. row_of r s + e.0.key) (sym same) ∙ (placed i e at).1) ∙ at

  none_before : (start : ℤ) (key k : ℕ) (i : ℕ) (f : Place × P) → NoneInRow os (row_of r start) start key k → slot_at os i ≡ Some f → f.0.start ≡ start → key ≤ f.0.key → k ≤ f.0.key
  none_before start key k i f none at same from = elim (cases_lt f.0.key k) [
    | inl less ↦ absurd (none f.0.key f from less (at_key i start f at same) same)
    | inr more ↦ more
  ]

  behind_found : (start : ℤ) (key : ℕ) (e : Place × P) (k : ℕ) → NoneInRow os (row_of r start) start key k → e.0.start ≡ start → e.0.key ≡ k → (i : ℕ) (f : Place × P) → slot_at os i ≡ Some f → IsFromOn start key f.0 → IsFromOn e.0.start e.0.key f.0
  behind_found start key e k none same here i f at from = elim from [
    | inl less ↦ inl (omega (arith, ints, same, less))
    | inr row ↦ let more : k ≤ f.0.key = none_before start key k i f none at row.0 row.1 in inr (row.0 ∙ sym same, omega (arith, here, more))
  ]

  from_found : (start0 start : ℤ) (key0 key k : ℕ) (e : Place × P) → (start0 <ℤ start) ⊎ ((start ≡ start0) × (key0 ≤ key)) → e.0.start ≡ start → e.0.key ≡ k → key ≤ k → IsFromOn start0 key0 e.0
  from_found start0 start key0 key k e later same here from = elim later [
    | inl less ↦ inl (omega (arith, ints, same, less))
    | inr at ↦ inr (same ∙ at.0, omega (arith, here, at.1))
  ]

  -- what a row's scan finds is the first of all
  pub scan_found : (start0 start : ℤ) (key0 key : ℕ) (o : Option (Place × P)) → (start0 <ℤ start) ⊎ ((start ≡ start0) × (key0 ≤ key)) → ((i : ℕ) (e : Place × P) → slot_at os i ≡ Some e → IsFromOn start0 key0 e.0 → IsFromOn start key e.0) → IsFirstInRow os (row_of r start) start key r.keys o → is_some o ≡ true → IsFirstFrom r os start0 key0 o
  scan_found start0 start key0 key None later left found some = let bad : false ≡ true = some in absurd (cc)
  scan_found start0 start key0 key (Some e) later left found some =
      let here : e.0.key ≡ found.0 = key_in_row start found.0 e found.3 found.4 in (
        at_key _ e.0.start e found.3 refl,
        from_found start0 start key0 key found.0 e later found.4 here found.1,
        λ i f at from. behind_found start key e found.0 found.5 found.4 here i f at (left i f at from),
      )

  -- and starts by the last time that its window starts by
  pub scan_until : (start0 start last : ℤ) (key0 key : ℕ) (o : Option (Place × P)) → IsFirstFrom r os start0 key0 o → IsFirstInRow os (row_of r start) start key r.keys o → is_some o ≡ true → start ≤ℤ last → IsFirstUntil r os start0 key0 last o
  scan_until start0 start last key0 key None first found some until = let bad : false ≡ true = some in absurd (cc)
  scan_until start0 start last key0 key (Some e) first found some until = (first, omega (arith, ints, found.4, until))

  -- where a row has none, all that is from there on is past the row's window
  pub scan_past : (start : ℤ) (key : ℕ) (o : Option (Place × P)) → IsFirstInRow os (row_of r start) start key r.keys o → is_some o ≡ false → (i : ℕ) (f : Place × P) → slot_at os i ≡ Some f → IsFromOn start key f.0 → start <ℤ f.0.start
  scan_past start key (Some e) none some i f at from = let bad : true ≡ false = some in absurd (cc)
  scan_past start key None none some i f at from = elim from [
    | inl less ↦ less
    | inr row ↦ absurd (none f.0.key f row.1 (placed i f at).0.key (at_key i start f at row.0) row.0)
  ]

  -- what is first behind the keys of such a row is the first of all
  pub first_behind : (start last : ℤ) (key : ℕ) (o : Option (Place × P)) → ((i : ℕ) (f : Place × P) → slot_at os i ≡ Some f → IsFromOn start key f.0 → start <ℤ f.0.start) → IsFirstUntil r os start r.keys last o → IsFirstUntil r os start key last o
  first_behind start last key None past none = λ i e at from. none i e at (inl (past i e at from))
  first_behind start last key (Some e) past found =
      let at = found.0.0 in
      let from : IsFromOn start key e.0 = elim found.0.1 [
        | inl less ↦ inl less
        | inr row ↦ absurd (omega (arith, row.1, (placed _ e at).0.key))
      ] in
      ((at, from, λ i f there later. found.0.2 i f there (inl (past i f there later))), found.1)

  -- and so from the next window on
  pub scan_next : pos 1 ≤ℤ r.period → (start : ℤ) → IsOnGrid r start → (i : ℕ) (f : Place × P) → slot_at os i ≡ Some f → start <ℤ f.0.start → (start +ℤ r.period) ≤ℤ f.0.start
  scan_next period start grid i f at less = next_on_grid r.period grid.0 (window_number r f.0.start) start f.0.start period grid.1 (placed i f at).0.start less

  pub from_next : (next : ℤ) (f : Place × P) → next ≤ℤ f.0.start → IsFromOn next 0 f.0
  from_next next f le = by_lt_z {P = IsFromOn next 0 f.0} next f.0.start (λ less. inl less) (λ more. inr (omega (arith, ints, le, more), omega arith))

pub some_starts : {P : Type 0} (start : ℤ) (o : Option (Place × P)) → starts_at start o ≡ true → is_some o ≡ true
some_starts start None starts = let bad : false ≡ true = starts in absurd (cc)
some_starts start (Some e) starts = refl

module _ {P : Type 0} (os : List (Option (Place × P))) (row : ℕ) (start : ℤ) (key k : ℕ) where
  -- a slot that has an entry of the window, behind those that have none
  pub row_found : (keys : ℕ) (o : Option (Place × P)) → key ≤ k → k < keys → slot_at os (row + k) ≡ o → starts_at start o ≡ true → NoneInRow os row start key k → IsFirstInRow os row start key keys o
  row_found keys None from within at starts none = let bad : false ≡ true = starts in absurd (cc)
  row_found keys (Some e) from within at starts none = (k, from, within, at, (Decides-int_eq e.0.start start).0 starts, none)

  pub row_step : (o : Option (Place × P)) → slot_at os (row + k) ≡ o → starts_at start o ≡ false → NoneInRow os row start key k → NoneInRow os row start key (k + 1)
  row_step o at starts none j e from below is = elim (cases_lt j k) [
    | inl less ↦ none j e from less is
    | inr more ↦
        let last : j ≡ k = omega arith in
        not_started start o e starts (sym at ∙ ap (λ n. slot_at os (row + n)) (sym last) ∙ is)
  ]

-- how far a last time is behind a start, and one more
abbrev pub left_until : ℤ → ℤ → ℕ
left_until start last = cond (int_le start last) (suc (unsigned_abs (last -ℤ start))) 0

pub left_less : (start next last : ℤ) → start ≤ℤ last → start <ℤ next → left_until next last < left_until start last
left_less start next last h k =
    let here : int_le start last ≡ true = grind (arith, ints) in
    by_lt_z {P = left_until next last < left_until start last} last next
    (λ past. let gone : int_le next last ≡ false = grind (arith, ints) in rw (here, gone) (omega arith))
    (λ more. let still : int_le next last ≡ true = grind (arith, ints) in rw (here, still) (omega (arith, ints)))

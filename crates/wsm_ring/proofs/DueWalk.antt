-- A walk over a ring as far as a limit: the first entry that starts by the last due start is the next of
-- the map, if that is due.
use Rattle.std.proofs.Common.{◌≡◌, ◌+◌, ℕ, Bool, true, false, cond, Option, Some, None, List, [], ◌∷◌, ℤ, ◌+ℤ◌, ◌-ℤ◌, ◌<ℤ◌, ◌≤ℤ◌, refl, sym, ap, subst, ◌∙◌, inl, inr, arith}
use Rattle.std.specs.Prelude.{option_map, slice_get}
use Rattle.std.specs.Int.{int_min}
use Rattle.std.specs.Ordering.{eq_by_cmp, is_lt}
use Rattle.std.specs.declared.cmp.Ordering.{Ordering}
use Rattle.std.specs.declared.cmp.Ordering.TheVariants.{Less, Equal, Greater}
use Rattle.std.specs.Option.{is_some}
use Rattle.std.specs.FinMap.{entries, get-entries}
use Rattle.std.specs.FinMap.Entries.{find}
use Rattle.std.proofs.lemmas.Int.{ints, by_lt_z, int_min_is}
use Rattle.std.proofs.lemmas.Option.{same_Some}
use Rattle.wsm_windows.specs.declared.place.Place.{Place}
use Rattle.wsm_windows.specs.Places.{place_cmp}
use Rattle.wsm_ring.specs.declared.ring.Ring.{Ring}
use Rattle.wsm_slots.specs.Place.{is_kept}
use Rattle.wsm_slots.specs.Walk.{first_past, following, place_due}
use Rattle.wsm_ring.specs.Ring.{IsOfRing, AreInPlace, AreBetween, IsFromOn, IsFirstPast, IsFirstUntil, slot_of}
use Rattle.wsm_slots.specs.Slots.{slot_at}
use Rattle.wsm_ring.proofs.Clears.{is_past}
use Rattle.wsm_ring.proofs.Least.{find_head}
use Rattle.wsm_ring.proofs.Placed.{panes_in}
use Rattle.wsm_ring.proofs.RingWalk.{first_walk, from_behind, from_past, next_walk, past_walk, there_in}

module _ {P : Type 0} where
  head_there : (es : List (Place × P)) (e : Place × P) → slice_get es 0 ≡ Some e → is_some (find place_cmp e.0 es) ≡ true
  head_there [] e is = cc
  head_there (x ∷ es) e is = subst (λ (y : Place × P). is_some (find place_cmp y.0 (x ∷ es)) ≡ true) (same_Some x e is) (ap is_some (find_head x es))

  more_there : (b : Bool) (x : P) (o : Option P) → is_some o ≡ true → is_some (cond b (Some x) o) ≡ true
  more_there true x o some = refl
  more_there false x o some = some

  abbrev IsBehind : Place → List (Place × P) → Place × P → Type 0
  IsBehind p es e = (is_some (find place_cmp e.0 es) ≡ true) × (place_cmp p e.0 ≡ Less)

  behind_by : (p : Place) (x : Place × P) (es : List (Place × P)) (e : Place × P) → (following p es ≡ Some e → IsBehind p es e) → (o : Ordering) → place_cmp p x.0 ≡ o → cond (is_lt o) (Some x) (following p es) ≡ Some e → IsBehind p (x ∷ es) e
  behind_by p x es e rest Less less is =
      subst (IsBehind p (x ∷ es)) (same_Some x e is) (ap is_some (find_head x es), less)
  behind_by p x es e rest Equal less is = let more = rest is in (more_there (eq_by_cmp place_cmp e.0 x.0) x.1 (find place_cmp e.0 es) more.0, more.1)
  behind_by p x es e rest Greater less is = let more = rest is in (more_there (eq_by_cmp place_cmp e.0 x.0) x.1 (find place_cmp e.0 es) more.0, more.1)

  -- what follows a place is one of the entries, behind it
  following_is : (p : Place) (es : List (Place × P)) (e : Place × P) → following p es ≡ Some e → IsBehind p es e
  following_is p [] e is = cc
  following_is p (x ∷ es) e is = behind_by p x es e (following_is p es e) (place_cmp p x.0) refl is

  abbrev IsPast : ℤ → List (Place × P) → Place × P → Type 0
  IsPast after es e = (is_some (find place_cmp e.0 es) ≡ true) × (is_kept after e.0 ≡ true)

  past_by : (after : ℤ) (x : Place × P) (es : List (Place × P)) (e : Place × P) → (first_past after es ≡ Some e → IsPast after es e) → (b : Bool) → is_kept after x.0 ≡ b → cond b (Some x) (first_past after es) ≡ Some e → IsPast after (x ∷ es) e
  past_by after x es e rest true kept is = subst (IsPast after (x ∷ es)) (same_Some x e is) (ap is_some (find_head x es), kept)
  past_by after x es e rest false gone is = let more = rest is in (more_there (eq_by_cmp place_cmp e.0 x.0) x.1 (find place_cmp e.0 es) more.0, more.1)

  -- the first that ends past a time is one of the entries, and does
  first_past_is : (after : ℤ) (es : List (Place × P)) (e : Place × P) → first_past after es ≡ Some e → IsPast after es e
  first_past_is after [] e is = cc
  first_past_is after (x ∷ es) e is = past_by after x es e (first_past_is after es e) (is_kept after x.0) refl is

  due_by : (limit : ℤ) (e : Place × P) → e.0.end ≤ℤ limit → place_due limit (Some e) ≡ Some e.0
  due_by limit e by = let test : is_kept limit e.0 ≡ false = grind (arith, ints) in ap (λ b. cond b None (Some e.0)) test

  not_due : (limit : ℤ) (e : Place × P) → limit <ℤ e.0.end → place_due limit (Some e) ≡ None
  not_due limit e past = ap (λ b. cond b None (Some e.0)) (is_past limit e.0 past)

  none_due : (limit : ℤ) (o : Option (Place × P)) → ((e : Place × P) → o ≡ Some e → limit <ℤ e.0.end) → place_due limit o ≡ None
  none_due limit None late = refl
  none_due limit (Some e) late = not_due limit e (late e refl)

-- windows of the ring end by a limit where they start by the last due start
ends_by : (start last latest limit size until end : ℤ) → until ≡ int_min last latest → latest ≡ limit -ℤ size → end ≡ start +ℤ size → start ≤ℤ until → end ≤ℤ limit
ends_by start last latest limit size until end is late ends by = omega (arith, ints, int_min_is last latest, is, late, ends, by)

ends_past : (start last latest limit size until end : ℤ) → until ≡ int_min last latest → latest ≡ limit -ℤ size → end ≡ start +ℤ size → start ≤ℤ last → until <ℤ start → limit <ℤ end
ends_past start last latest limit size until end is late ends most past = omega (arith, ints, int_min_is last latest, is, late, ends, most, past)

module _ {P : Type 0} (r : Ring) (os : List (Option (Place × P))) (placed : AreInPlace r os) (first last limit : ℤ) (between : AreBetween first last os) where
  pub entry_at : (e : Place × P) → is_some (find place_cmp e.0 (entries (panes_in os))) ≡ true → (v : P) × (slot_at os (slot_of r e.0) ≡ Some (e.0, v))
  entry_at e there = there_in r os placed e.0 (ap is_some (get-entries (panes_in os) e.0) ∙ there)

  -- what is in the map is from the first window on
  from_first : (e : Place × P) → is_some (find place_cmp e.0 (entries (panes_in os))) ≡ true → IsFromOn first 0 e.0
  from_first e there =
      let at = entry_at e there in
      let low : first ≤ℤ e.0.start = (between (slot_of r e.0) (e.0, at.0) at.1).0 in
      by_lt_z {P = IsFromOn first 0 e.0} first e.0.start (λ less. inl less) (λ more. inr (omega (arith, ints, low, more), omega arith))

  module _ (until : ℤ) (is : until ≡ int_min last (limit -ℤ r.size)) where
    late : (e : Place × P) (start : ℤ) (key : ℕ) → is_some (find place_cmp e.0 (entries (panes_in os))) ≡ true → IsFromOn start key e.0 → IsFirstUntil r os start key until None → limit <ℤ e.0.end
    late e start key there from none =
        let at = entry_at e there in
        let of = placed (slot_of r e.0) (e.0, at.0) at.1 in
        ends_past e.0.start last (limit -ℤ r.size) limit r.size until e.0.end is refl of.0.end (between (slot_of r e.0) (e.0, at.0) at.1).1 (none (slot_of r e.0) (e.0, at.0) at.1 from)

    due : (e : Place × P) → slot_at os (slot_of r e.0) ≡ Some e → e.0.start ≤ℤ until → Some e.0 ≡ place_due limit (Some e)
    due e at by = sym (due_by limit e (ends_by e.0.start last (limit -ℤ r.size) limit r.size until e.0.end is refl (placed (slot_of r e.0) e at).0.end by))

    pub first_due_walk : (o : Option (Place × P)) → IsFirstUntil r os first 0 until o → option_map (λ e. e.0) o ≡ place_due limit (slice_get (entries (panes_in os)) 0)
    first_due_walk None none = sym (none_due limit (slice_get (entries (panes_in os)) 0) (λ e at.
        let there = head_there (entries (panes_in os)) e at in
        late e first 0 there (from_first e there) none))
    first_due_walk (Some e) found = due e found.0.0 found.1 ∙ ap (place_due limit) (first_walk r os placed first last (Some e) between found.0)

    pub next_due_walk : (p : Place) (o : Option (Place × P)) → IsOfRing r p → IsFirstUntil r os p.start (p.key + 1) until o → option_map (λ e. e.0) o ≡ place_due limit (following p (entries (panes_in os)))
    next_due_walk p None of none = sym (none_due limit (following p (entries (panes_in os))) (λ e at.
        let behind = following_is p (entries (panes_in os)) e at in
        let here = entry_at e behind.0 in
        late e p.start (p.key + 1) behind.0 (from_behind r p e.0 of (placed (slot_of r e.0) (e.0, here.0) here.1).0 behind.1) none))
    next_due_walk p (Some e) of found = due e found.0.0 found.1 ∙ ap (place_due limit) (next_walk r os placed p (Some e) of found.0)

    pub past_due_walk : (after start : ℤ) (o : Option (Place × P)) → IsFirstPast r first after start → IsFirstUntil r os start 0 until o → option_map (λ e. e.0) o ≡ place_due limit (first_past after (entries (panes_in os)))
    past_due_walk after start None past none = sym (none_due limit (first_past after (entries (panes_in os))) (λ e at.
        let in_map = first_past_is after (entries (panes_in os)) e at in
        let here = entry_at e in_map.0 in
        late e start 0 in_map.0 (from_past r os placed first last after start between past (slot_of r e.0) (e.0, here.0) here.1 in_map.1) none))
    past_due_walk after start (Some e) past found = due e found.0.0 found.1 ∙ ap (place_due limit) (sym (past_walk r os placed first last after start e between past found.0))

  -- where no time is so early, nothing is due
  pub nothing_due : ((e : Place × P) → is_some (find place_cmp e.0 (entries (panes_in os))) ≡ true → limit <ℤ e.0.end) → (None ≡ place_due limit (slice_get (entries (panes_in os)) 0)) × ((p : Place) → None ≡ place_due limit (following p (entries (panes_in os)))) × ((after : ℤ) → None ≡ place_due limit (first_past after (entries (panes_in os))))
  nothing_due past = (
    sym (none_due limit (slice_get (entries (panes_in os)) 0) (λ e at. past e (head_there (entries (panes_in os)) e at))),
    λ p. sym (none_due limit (following p (entries (panes_in os))) (λ e at. past e (following_is p (entries (panes_in os)) e at).0)),
    λ after. sym (none_due limit (first_past after (entries (panes_in os))) (λ e at. past e (first_past_is after (entries (panes_in os)) e at).0)),
  )

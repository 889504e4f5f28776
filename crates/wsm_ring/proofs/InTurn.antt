-- A record put into the panes of its windows one after the other: each put finds its pane as it was, and
-- a slot that is free or its own.
use Rattle.std.proofs.Common.{pos, ◌≡◌, ◌≤◌, ◌+◌, ◌-◌, ◌/◌, ◌^◌, ℕ, zero, suc, Bool, true, false, cond, List, [], ◌∷◌, length, length-append, Option, Some, None, IfSome, ◌≢◌, refl, sym, ap, subst, ◌∙◌, arith}
use Rattle.std.proofs.lemmas.Int.{ints}
use Rattle.std.proofs.lemmas.List.Elements.{All-head, All-tail}
use Rattle.std.proofs.Math.Nat.{div-le_self}
use Rattle.std.specs.Prelude.{All, ℤ, ◌<ℤ◌, ◌+ℤ◌, ◌-ℤ◌, unsigned_abs}
use Rattle.std.specs.List.{AllByRecursion}
use Rattle.std.specs.Ordering.{eq_by_cmp}
use Rattle.std.specs.declared.cmp.Ordering.{Ordering}
use Rattle.std.specs.declared.cmp.Ordering.TheVariants.{Less, Equal, Greater}
use Rattle.std.specs.FinMap.{FinMap, entries, get, insert, entries-insert, get-entries}
use Rattle.std.specs.FinMap.Entries.{put, find, find-put, by_order}
use Rattle.wsm_record.specs.declared.event.Value.{Value}
use Rattle.wsm_record.specs.declared.words.Kind.{Kind}
use Rattle.wsm_windows.specs.declared.window.Window.{Window}
use Rattle.wsm_windows.specs.declared.window.Shape.{Shape}
use Rattle.wsm_windows.specs.declared.window.Shape.TheVariants.{Fixed, Sliding, Session}
use Rattle.wsm_windows.specs.Windows.{IsRising, IsShape, has_inside, last_start, window, windows_of, windows_of_shape, windows_up_to}
use Rattle.wsm_windows.specs.declared.place.Place.{Place}
use Rattle.wsm_windows.specs.Places.{place_cmp, at}
use Rattle.wsm_windows.proofs.Places.{tie_is, places_exact, places_total}
use Rattle.wsm_semantics.specs.Query.{Datum}
use Rattle.wsm_semantics.specs.Replay.{datum}
use Rattle.wsm_semantics.specs.Summaries.{Plan, Pane, assigned, with_record}
use Rattle.wsm_semantics.proofs.ManyKeys.{length-filter}
use Rattle.wsm_ring.specs.declared.ring.Ring.{Ring}
use Rattle.wsm_ring.specs.Entering.{CanEnterWindows}
use Rattle.wsm_slots.specs.Panes.{CanRecord, taking}
use Rattle.wsm_ring.specs.Ring.{IsNear, RingAdmits}
use Rattle.wsm_ring.proofs.Live.{near_admits}
use Rattle.wsm_semantics.proofs.HeldRecords.{apart}

module _ {X : Type 0} (Q : Place → Type 0) where
  put_by : (p : Place) (v : X) (e : Place × X) (es ps : List (Place × X)) → (AllByRecursion (λ x. Q x.0) ps → Q p × AllByRecursion (λ x. Q x.0) es) → (o : Ordering) → place_cmp p e.0 ≡ o
      → AllByRecursion (λ x. Q x.0) (by_order o ((p, v) ∷ e ∷ es) ((e.0, v) ∷ es) (e ∷ ps)) → Q p × AllByRecursion (λ x. Q x.0) (e ∷ es)
  put_by p v e es ps rest Less is all = all
  put_by p v e es ps rest Equal is all = (subst Q (sym (places_exact p e.0 is)) all.0, all)
  put_by p v e es ps rest Greater is all = let more = rest all.1 in (more.0, (all.0, more.1))

  -- what is put is there, and so is what was there before
  put_all : (p : Place) (v : X) (es : List (Place × X)) → AllByRecursion (λ e. Q e.0) (put place_cmp p v es) → Q p × AllByRecursion (λ e. Q e.0) es
  put_all p v [] all = all
  put_all p v (e ∷ es) all = put_by p v e es (put place_cmp p v es) (put_all p v es) (place_cmp p e.0) refl all

  found_by : (p : Place) (e : Place × X) (o : Option X) → Q e.0 → (o ≢ None → Q p) → (b : Bool) → eq_by_cmp place_cmp p e.0 ≡ b → cond b (Some e.1) o ≢ None → Q p
  found_by p e o here rest true tie some = subst Q (sym (tie_is p e.0 tie)) here
  found_by p e o here rest false apart some = rest some

  -- a place that is found is one of them
  all_found : (p : Place) (es : List (Place × X)) → AllByRecursion (λ e. Q e.0) es → find place_cmp p es ≢ None → Q p
  all_found p [] all some = absurd (some refl)
  all_found p (e ∷ es) all some = found_by p e (find place_cmp p es) all.0 (all_found p es all.1) (eq_by_cmp place_cmp p e.0) refl some

module _ {X : Type 0} (plan : Plan X) (d : Datum) (Q : Place → Type 0) where
  -- what is held before the windows are put in stays
  assigned_all : (ws : List Window) (es : List (Place × Pane X)) → AllByRecursion (λ e. Q e.0) (assigned plan d ws es) → AllByRecursion (λ e. Q e.0) es
  assigned_all [] es all = all
  assigned_all (w ∷ ws) es all = (put_all Q (at d.key w) _ es (assigned_all ws _ all)).1

  -- and so is the first window's pane
  first_all : (w : Window) (ws : List Window) (es : List (Place × Pane X)) → AllByRecursion (λ e. Q e.0) (assigned plan d (w ∷ ws) es) → Q (at d.key w)
  first_all w ws es all = (put_all Q (at d.key w) (with_record plan d (find place_cmp (at d.key w) es)) es (assigned_all ws _ all)).0

module _ {X : Type 0} where
  find_other : (p r : Place) (v : X) (es : List (Place × X)) → eq_by_cmp place_cmp p r ≡ false → find place_cmp p (put place_cmp r v es) ≡ find place_cmp p es
  find_other p r v es other = find-put place_cmp places_total p r v es ∙ ap (λ b. cond b (Some v) (find place_cmp p es)) other

module _ (r : Ring) (kinds : List Kind) (values : List Value) (key : ℕ) (time : ℤ) where
  pub can_go_on : (w : Window) (ws : List Window) (es : List (Place × Pane (List Value))) → IsRising (w ∷ ws) → CanEnterWindows r kinds values key time (w ∷ ws) es
      → CanEnterWindows r kinds values key time ws (put place_cmp (at key w) (with_record (taking kinds values) (datum 0 (pos 0) key time []) (find place_cmp (at key w) es)) es)
  can_go_on w ws es rises can = record { apart = can.apart; takes = others ws rises.0 can.takes.1 } where
    others : (vs : List Window) → All (λ v. w.start <ℤ v.start) vs → AllByRecursion (λ v. IfSome (find place_cmp (at key v) es) (CanRecord kinds values)) vs
        → AllByRecursion (λ v. IfSome (find place_cmp (at key v) (put place_cmp (at key w) (with_record (taking kinds values) (datum 0 (pos 0) key time []) (find place_cmp (at key w) es)) es)) (CanRecord kinds values)) vs
    others [] later takes = tt
    others (v ∷ vs) later takes = (
      subst (λ o. IfSome o (CanRecord kinds values)) (sym (find_other (at key v) (at key w) _ es (apart key w v (All-head (λ v. w.start <ℤ v.start) v vs later)))) takes.0,
      others vs (All-tail (λ v. w.start <ℤ v.start) v vs later) takes.1,
    )

-- ---- how many windows a record has

few : (size period t : ℤ) → length (windows_of size period t) ≤ unsigned_abs size + unsigned_abs period
few size period t =
    let n = (unsigned_abs size + unsigned_abs period - 1) / unsigned_abs period in
    let all : length (windows_up_to n size period (last_start period t)) ≡ n = as_many n (last_start period t) in
    let some : length (windows_of size period t) ≤ length (windows_up_to n size period (last_start period t)) = length-filter (has_inside t) (windows_up_to n size period (last_start period t)) in
    let within : n ≤ unsigned_abs size + unsigned_abs period - 1 = div-le_self (unsigned_abs size + unsigned_abs period - 1) (unsigned_abs period) in
    omega (arith, all, some, within)
  where
    as_many : (n : ℕ) (s : ℤ) → length (windows_up_to n size period s) ≡ n
    as_many zero s = refl
    as_many (suc n) s = let rest : length (windows_up_to n size period (s -ℤ period)) ≡ n = as_many n (s -ℤ period) in omega (arith, length-append (windows_up_to n size period (s -ℤ period)) (window s (s +ℤ size) ∷ []))

pub few_windows : (shape : Shape) → IsShape shape → (t : ℤ) → length (windows_of_shape shape t) ≤ 2 ^ 62
few_windows (Fixed size) ok t = let n = few size size t in let a = ok.period_low in let b = ok.size_high in omega (arith, ints, n, a, b)
few_windows (Sliding size period) ok t = let n = few size period t in let a = ok.period_low in let b = ok.period_high in let c = ok.size_high in omega (arith, ints, n, a, b, c)
few_windows (Session gap) ok t = omega arith

-- ---- the same, of a table

module _ (r : Ring) (kinds : List Kind) (values : List Value) (key : ℕ) (time : ℤ) (m : FinMap place_cmp (Pane (List Value))) (w : Window) (ws : List Window) (p : Place) (is : p ≡ at key w) where
  pub admits_at : CanEnterWindows r kinds values key time (w ∷ ws) (entries m) → RingAdmits r m p
  admits_at can =
      let plan = taking kinds values in
      let d = datum 0 (pos 0) key time [] in
      let near = can.apart.near in
      near_admits r can.apart.low can.apart.ring m
      (λ q some. all_found (IsNear r can.apart.low) q (entries m) (assigned_all plan d (IsNear r can.apart.low) (w ∷ ws) (entries m) near) (λ none. some (get-entries m q ∙ none)))
      p (subst (IsNear r can.apart.low) (sym is) (first_all plan d (IsNear r can.apart.low) w ws (entries m) near))

  pub takes_at : CanEnterWindows r kinds values key time (w ∷ ws) (entries m) → IfSome (get m p) (CanRecord kinds values)
  takes_at can = subst (λ o. IfSome o (CanRecord kinds values)) (sym (ap (get m) is ∙ get-entries m (at key w))) can.takes.0

  pub put_at_is : (new : FinMap place_cmp (Pane (List Value))) → new ≡ insert m p (with_record (taking kinds values) (datum 0 (pos 0) key time []) (get m p))
      → entries new ≡ put place_cmp (at key w) (with_record (taking kinds values) (datum 0 (pos 0) key time []) (find place_cmp (at key w) (entries m))) (entries m)
  put_at_is new e =
      ap entries e
      ∙ entries-insert places_total m p (with_record (taking kinds values) (datum 0 (pos 0) key time []) (get m p))
      ∙ (λ i. put place_cmp (is i) (with_record (taking kinds values) (datum 0 (pos 0) key time []) ((ap (get m) is ∙ get-entries m (at key w)) i)) (entries m))

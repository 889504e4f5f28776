-- Panes that a walk passes over: they don't expire yet, and came on time before.
use Rattle.std.proofs.Common.{◌≡◌, ℕ, zero, suc, ◌+◌, ◌<◌, ◌≤◌, Bool, true, false, ◌&&◌, cond, T, Option, Some, None, List, [], ◌∷◌, drop, get_or, refl, sym, ap, subst, ◌∙◌, arith}
use lib.Signed.{lt_z}
use Rattle.std.proofs.lemmas.Int.{ints, int_max_is}
use Rattle.std.proofs.lemmas.Option.{slice_get_within, get_or_from_slice_get}
use Rattle.std.specs.Int.{int_max}
use Rattle.std.specs.Prelude.{ℤ, ◌+ℤ◌, ◌≤ℤ◌, ◌<ℤ◌, int_lt, int_le, nat_lt, slice_get}
use Rattle.std.specs.FinMap.Entries.{is_sorted, below_all}
use Rattle.wsm_record.specs.declared.event.Value.{Value}
use Rattle.wsm_windows.specs.declared.window.PaneKind.{PaneKind}
use Rattle.wsm_windows.specs.declared.window.PaneKind.TheVariants.{OnTime, Final}
use Rattle.wsm_windows.specs.declared.place.Place.{Place}
use Rattle.wsm_windows.specs.Places.{place_cmp}
use Rattle.wsm_semantics.specs.Query.{Query}
use Rattle.wsm_semantics.specs.Summaries.{Plan, Pane, fired_count, fired_of, fired_pane, fires, kind_by_watermark}
use Rattle.wsm_slots.specs.Place.{is_kept}
use Rattle.wsm_slots.specs.Walk.{first_past, place_due}
use Rattle.wsm_list.proofs.Ended.{ended, ended_passes, ends_in_order, past_nth}
use Rattle.wsm_firing.specs.ByWatermark.{IsNextToFire}
use Rattle.wsm_firing.proofs.SameKinds.{Entries}
use Rattle.wsm_firing.proofs.AtPlace.{first_of, second_of}
use Rattle.wsm_firing.proofs.ByKind.{NoneBetween, shifted, told_jump}
use Rattle.wsm_firing.proofs.Walk.{behind, fired_first, later_same, some_same}

neither : (a b c d : Bool) → cond ((false && a) && b) (Some OnTime) (cond ((c && false) && d) (Some Final) None) ≡ None
neither a b true d = refl
neither a b false d = refl

module _ {X : Type 0} (q : Query) (expired old new : ℤ) (expires : new ≤ℤ (expired +ℤ q.clock.lateness)) where
  -- such a pane doesn't fire
  pub passed_over : (p : Place) (h : Pane X) → expired <ℤ p.end → p.end ≤ℤ old → kind_by_watermark q old new p h ≡ None
  passed_over p h late soon =
      let on_time : int_lt old p.end ≡ false = grind (arith, ints) in
      let past : new <ℤ (p.end +ℤ q.clock.lateness) = omega (arith, ints, expires, late) in
      let final : int_le (p.end +ℤ q.clock.lateness) new ≡ false = grind (arith, ints) in
      (λ i. cond ((on_time i && int_le p.end new) && nat_lt 0 (fired_count q.mode h)) (Some OnTime) (cond ((int_lt old (p.end +ℤ q.clock.lateness) && final i) && nat_lt 0 h.unshown) (Some Final) None))
      ∙ neither (int_le p.end new) (nat_lt 0 (fired_count q.mode h)) (int_lt old (p.end +ℤ q.clock.lateness)) (nat_lt 0 h.unshown)

module _ {X : Type 0} (plan : Plan X) (q : Query) (kind : Place → Pane X → Option PaneKind) where
  pub fired_jump : (n m : ℕ) (es : Entries plan q) → n ≤ m → NoneBetween plan q kind n m es → fired_first plan q kind n es ≡ fired_first plan q kind m es
  fired_jump zero zero es to none = refl
  fired_jump zero (suc m) [] to none = refl
  fired_jump zero (suc m) (x ∷ es) to none =
      let still : kind x.0 x.1 ≡ None = none 0 x (omega arith) (omega arith) refl in
      let rest : es ≡ fired_first plan q kind m es = fired_jump zero m es (omega arith) (λ k e low high at. shifted plan q kind 0 m x es none k e (omega arith) high at) in
      sym (λ i. (x.0, fired_pane plan q.mode x.0 (still i) x.1) ∷ sym rest i)
  fired_jump (suc n) zero es to none = absurd (omega (arith, to))
  fired_jump (suc n) (suc m) [] to none = refl
  fired_jump (suc n) (suc m) (x ∷ es) to none =
      ap (λ (fs : Entries plan q). (x.0, fired_pane plan q.mode x.0 (kind x.0 x.1) x.1) ∷ fs) (fired_jump n m es (omega (arith, to)) (λ k e low high at. shifted plan q kind (suc n) m x es none k e (omega (arith, low)) high at))

-- ---- where a walk goes on

none_between : (plan : Plan (List Value)) (q : Query) (expired old new : ℤ) (es now : Entries plan q) (from : ℕ) (found : Option Place) → new ≤ℤ (expired +ℤ q.clock.lateness) → now ≡ fired_first plan q (kind_by_watermark q old new) from es →
    (j : IsNextToFire expired old new now from found) → NoneBetween plan q (kind_by_watermark q old new) from j.at es
none_between plan q expired old new es now from found expires so_far j k e low high at =
    let over = j.fired k e low high (ap (λ (fs : Entries plan q). slice_get fs k) so_far ∙ later_same plan q (kind_by_watermark q old new) from k es low ∙ at) in
    passed_over q expired old new expires e.0 e.1 over.0 over.1

-- the same where the panes are as they were
pub none_over : (plan : Plan (List Value)) (q : Query) (expired old new : ℤ) (es : Entries plan q) (from : ℕ) (found : Option Place) → new ≤ℤ (expired +ℤ q.clock.lateness) →
    (j : IsNextToFire expired old new es from found) → NoneBetween plan q (kind_by_watermark q old new) from j.at es
none_over plan q expired old new es from found expires j k e low high at =
    let over = j.fired k e low high at in
    passed_over q expired old new expires e.0 e.1 over.0 over.1

-- a walk that goes on past some panes has fired as many, and as many are left to fire
module _ (plan : Plan (List Value)) (q : Query) (expired old new : ℤ) (es now : Entries plan q) (from : ℕ) (found : Option Place) (expires : new ≤ℤ (expired +ℤ q.clock.lateness)) (so_far : now ≡ fired_first plan q (kind_by_watermark q old new) from es) (j : IsNextToFire expired old new now from found) where
  pub fired_on : now ≡ fired_first plan q (kind_by_watermark q old new) j.at es
  fired_on = so_far ∙ fired_jump plan q (kind_by_watermark q old new) from j.at es j.onward (none_between plan q expired old new es now from found expires so_far j)

  pub fires_on : fires q (kind_by_watermark q old new) (drop from es) ≡ fires q (kind_by_watermark q old new) (drop j.at es)
  fires_on = told_jump plan q (fired_of q.mode) (λ r h. refl) (kind_by_watermark q old new) from j.at es j.onward (none_between plan q expired old new es now from found expires so_far j)

head_past : {X : Type 0} (limit : ℤ) (x : Place × X) → place_due limit (Some x) ≡ None → limit <ℤ x.0.end
head_past limit x none =
    elim (int_lt limit x.0.end) as (λ b. int_lt limit x.0.end ≡ b → cond {A = Option Place} b None (Some x.0) ≡ None → limit <ℤ x.0.end) [
      | true ↦ λ kept h. grind (arith, ints, kept)
      | false ↦ λ past h. absurd (cc)
    ] refl none

-- those from where a walk comes to its end on end after the limit
later_past : {X : Type 0} (limit : ℤ) (es : List (Place × X)) (i k : ℕ) (e : Place × X) → T (is_sorted place_cmp es) → place_due limit (slice_get es i) ≡ None → i ≤ k → slice_get es k ≡ Some e → limit <ℤ e.0.end
later_past limit [] i k e sorted none to at = absurd (cc)
later_past limit (x ∷ es) zero zero e sorted none to at = subst (λ (y : Place × _). limit <ℤ y.0.end) (some_same at) (head_past limit x none)
later_past limit (x ∷ es) zero (suc k) e sorted none to at =
    let far : limit <ℤ x.0.end = head_past limit x none in
    let order : x.0.end ≤ℤ e.0.end = ends_in_order x.0 e.0 (behind x.0 es k e (first_of (below_all place_cmp x.0 es) (is_sorted place_cmp es) sorted) at) in
    omega (arith, ints, far, order)
later_past limit (x ∷ es) (suc i) zero e sorted none to at = absurd (omega (arith, to))
later_past limit (x ∷ es) (suc i) (suc k) e sorted none to at = later_past limit es i k e (second_of (below_all place_cmp x.0 es) (is_sorted place_cmp es) sorted) none (omega (arith, to)) at

not_kept : (time : ℤ) (p : Place) → is_kept time p ≡ false → p.end ≤ℤ time
not_kept time p gone = grind (arith, ints)

before_next : {X : Type 0} (time : ℤ) (x : Place × X) (es : List (Place × X)) → ((k : ℕ) (e : Place × X) → k < ended time es → slice_get es k ≡ Some e → e.0.end ≤ℤ time) →
    (b : Bool) → is_kept time x.0 ≡ b → (k : ℕ) (e : Place × X) → k < cond b 0 (suc (ended time es)) → slice_get (x ∷ es) k ≡ Some e → e.0.end ≤ℤ time
before_next time x es rest true kept k e low at = absurd (omega (arith, low))
before_next time x es rest false gone zero e low at = subst (λ (y : Place × _). y.0.end ≤ℤ time) (some_same at) (not_kept time x.0 gone)
before_next time x es rest false gone (suc k) e low at = rest k e (omega (arith, low)) at

-- the first that end by a time do
before_past : {X : Type 0} (time : ℤ) (es : List (Place × X)) (k : ℕ) (e : Place × X) → k < ended time es → slice_get es k ≡ Some e → e.0.end ≤ℤ time
before_past time [] k e low at = absurd (cc)
before_past time (x ∷ es) k e low at = before_next time x es (λ k e low at. before_past time es k e low at) (is_kept time x.0) refl k e low at

pub less_from : (x y : ℤ) → lt_z x y ≡ true → x <ℤ y
less_from x y h = grind (arith, ints)

-- what ends past a limit isn't due by it
pub not_due_yet : {X : Type 0} (limit later : ℤ) (o : Option (Place × X)) (p : Place) → place_due later o ≡ Some p → limit <ℤ p.end → place_due limit o ≡ None
not_due_yet limit later None p due late = refl
not_due_yet limit later (Some e) p due late =
    elim (int_lt later e.0.end) as (λ b. cond {A = Option Place} b None (Some e.0) ≡ Some p → cond {A = Option Place} (int_lt limit e.0.end) None (Some e.0) ≡ None) [
      | true ↦ λ h. absurd (cc)
      | false ↦ λ h. let at : limit <ℤ e.0.end = subst (λ (q : Place). limit <ℤ q.end) (sym (some_same h)) late in let kept : int_lt limit e.0.end ≡ true = grind (arith, ints, at) in ap (λ (b : Bool). cond {A = Option Place} b None (Some e.0)) kept
    ] due

-- what ends by a limit ends by a later one
pub due_later : {X : Type 0} (limit later : ℤ) (o : Option (Place × X)) (p : Place) → limit ≤ℤ later → place_due limit o ≡ Some p → place_due later o ≡ Some p
due_later limit later None p order due = absurd (cc)
due_later limit later (Some e) p order due =
    elim (int_lt limit e.0.end) as (λ b. int_lt limit e.0.end ≡ b → cond {A = Option Place} b None (Some e.0) ≡ Some p → place_due later (Some e) ≡ Some p) [
      | true ↦ λ kept h. absurd (cc)
      | false ↦ λ past h. let soon : int_lt later e.0.end ≡ false = grind (arith, ints, past, order) in ap (λ b. cond {A = Option Place} b None (Some e.0)) soon ∙ h
    ] refl due

module _ (expired old new : ℤ) (es : List (Place × Pane (List Value))) where
  -- with the next one
  pub goes_next : (i : ℕ) (found : Option Place) → found ≡ place_due new (slice_get es i) → IsNextToFire expired old new es i found
  goes_next i found is = record { at = i; onward = omega arith; fired = λ k e low high at. absurd (omega (arith, low, high)); next = is }

  -- with the first behind those that it passes over
  pub goes_past : (i : ℕ) (found : Option Place) → T (is_sorted place_cmp es) → place_due expired (slice_get es i) ≡ None → i ≤ ended (int_max old expired) es → found ≡ place_due new (first_past (int_max old expired) es) → IsNextToFire expired old new es i found
  goes_past i found sorted none to is = record {
    at = ended (int_max old expired) es;
    onward = to;
    fired = λ k e low high at.
        let late : expired <ℤ e.0.end = later_past expired es i k e sorted none low at in
        let soon : e.0.end ≤ℤ int_max old expired = before_past (int_max old expired) es k e high at in
        (late, omega (arith, ints, int_max_is old expired, late, soon));
    next = is ∙ ap (place_due new) (past_nth (int_max old expired) es);
  }

  -- one that expires is before those
  pub expires_before : (i : ℕ) (e : Place × Pane (List Value)) → T (is_sorted place_cmp es) → slice_get es i ≡ Some e → e.0.end ≤ℤ expired → i + 1 ≤ ended (int_max old expired) es
  expires_before i e sorted at by =
      let most : e.0.end ≤ℤ int_max old expired = omega (arith, ints, int_max_is old expired, by) in
      let gone : is_kept (int_max old expired) (get_or es i e).0 ≡ false = ap (λ (y : Place × Pane (List Value)). is_kept (int_max old expired) y.0) (get_or_from_slice_get es i e e at) ∙ ends_by (int_max old expired) e.0 most in
      omega (arith, ended_passes (int_max old expired) es i e sorted (slice_get_within es i e at) gone)
    where
      ends_by : (time : ℤ) (p : Place) → p.end ≤ℤ time → is_kept time p ≡ false
      ends_by time p by = grind (arith, ints)

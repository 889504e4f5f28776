-- A record put into its session: the panes that it is linked to come to one pane, at the place of the session with it.
use Rattle.std.proofs.Common.{pos, ◌≡◌, ◌≤◌, List, [], ◌∷◌, ℕ, ℤ, ◌+ℤ◌, ◌≤ℤ◌, Bool, true, false, ◌&&◌, cond, Some, None, refl, sym, ap, subst, ◌∙◌, arith, length}
use Rattle.std.proofs.lemmas.Int.{ints}
use Rattle.std.proofs.lemmas.Option.{same_Some}
use Rattle.std.specs.Prelude.{filter, IfSome, IsSome, int_lt, nat_lt, not}
use Rattle.std.specs.Int.{int_max, int_min}
use Rattle.std.specs.Ordering.{eq_by_cmp}
use Rattle.std.specs.FinMap.{FinMap, entries, get, insert, remove, retain_keys, get-insert, get-remove, get-retain_keys, same_map}
use Rattle.wsm_record.specs.declared.event.Value.{Value}
use Rattle.wsm_record.specs.declared.words.Kind.{Kind}
use Rattle.wsm_windows.specs.declared.window.Window.{Window}
use Rattle.wsm_windows.specs.declared.place.Place.{Place}
use Rattle.wsm_windows.specs.Places.{place_cmp, at}
use Rattle.wsm_windows.proofs.Places.{places_total, places_exact}
use Rattle.wsm_semantics.specs.Query.{Datum}
use Rattle.wsm_semantics.specs.Replay.{datum}
use Rattle.wsm_semantics.specs.Sessions.{links, session_of}
use Rattle.wsm_semantics.specs.Kept.{is_linked}
use Rattle.wsm_semantics.specs.Summaries.{Pane, Plan, joined, joined_all, linked, merged_session}
use Rattle.wsm_slots.specs.Panes.{CanJoin, CanRecord, taking, windows_of_key, with_one_more}
use Rattle.wsm_list.specs.Joining.{CanJoinAll, CanJoinAt, JoinedAt}
use Rattle.wsm_semantics.proofs.Each.{itself}
use Rattle.wsm_slots.proofs.Keys.{any_datum}
use Rattle.wsm_list.proofs.Merged.{Puts, merged_fits, parts_at}
use Rattle.wsm_list.proofs.Tables.{alike}
use Rattle.wsm_list.proofs.Taken.{none_left, one_found, one_left, first_found, second_found, both_left, no_entry, one_entry, two_entries}

-- what was at a place doesn't matter where another is put there
pub insert_over : {X : Type 0} (m : FinMap place_cmp X) (p : Place) (v : X) → insert m p v ≡ insert (remove m p) p v
insert_over m p v = same_map places_total places_exact _ _ (λ q.
    get-insert places_total m p v q ∙ either q (eq_by_cmp place_cmp q p) refl
    ∙ sym (get-insert places_total (remove m p) p v q ∙ ap (cond (eq_by_cmp place_cmp q p) (Some v)) (get-remove places_total m p q)))
  where
    either : (q : Place) (b : Bool) → eq_by_cmp place_cmp q p ≡ b → cond b (Some v) (get m q) ≡ cond b (Some v) (cond b None (get m q))
    either q true is = refl
    either q false is = refl

-- the session of a time and of sessions that it is linked to is linked to it
session_linked : (gap t : ℤ) → pos 1 ≤ℤ gap → (ls : List Window) → (int_lt (session_of gap t ls).start (t +ℤ gap) ≡ true) × (int_lt t (session_of gap t ls).end ≡ true)
session_linked gap t long [] = (grind (arith, ints), grind (arith, ints))
session_linked gap t long (w ∷ ls) = let rest = session_linked gap t long ls in (sooner w (session_of gap t ls) rest.0, later w (session_of gap t ls) rest.1) where
  sooner : (w v : Window) → int_lt v.start (t +ℤ gap) ≡ true → int_lt (int_min w.start v.start) (t +ℤ gap) ≡ true
  sooner w v h = grind (arith, ints)

  later : (w v : Window) → int_lt t v.end ≡ true → int_lt t (int_max w.end v.end) ≡ true
  later w v h = grind (arith, ints)

module _ (kinds : List Kind) (values : List Value) (gap : ℤ) (long : pos 1 ≤ℤ gap) (key : ℕ) (t : ℤ) (m : FinMap place_cmp (Pane (List Value))) (ws : List Window) (agree : windows_of_key key (entries m) ≡ ws)
    (to : Place) (to_is : to ≡ at key (session_of gap t (filter (links gap t) ws))) where
  abbrev it : Datum
  it = datum 0 (pos 0) key t []

  abbrev plan : Plan (List Value)
  plan = taking kinds values

  abbrev far : Place → Bool
  far p = not (is_linked gap it p)

  -- it isn't among the panes that the record isn't linked to
  pub absent : (left : FinMap place_cmp (Pane (List Value))) → left ≡ retain_keys m far → get left to ≡ None
  absent left is =
      let its = session_linked gap t long (filter (links gap t) ws) in
      let linked_to : is_linked gap it to ≡ true = ap (is_linked gap it) to_is ∙ (λ i. itself key i && (its.0 i && its.1 i)) in
      ap (λ n. get n to) is ∙ get-retain_keys m far to (alike far to) ∙ ap (λ b. cond (not b) (get m to) None) linked_to

  -- the record is linked to no session
  module _ (none : [] ≡ filter (links gap t) ws) where
    none_is : linked gap it (entries m) ≡ []
    none_is = no_entry _ (parts_at plan gap key t m ws agree [] none)

    pub none_joined : false ≡ nat_lt 1 (length (linked gap it (entries m)))
    none_joined = sym (ap (λ es. nat_lt 1 (length es)) none_is)

    none_far : m ≡ retain_keys m far
    none_far = none_left gap it m none_is

    pub none_absent : get m to ≡ None
    none_absent = absent m none_far

    pub none_puts : Puts plan gap key t m ws agree m to (get m to) (with_one_more kinds values (get m to))
    none_puts = record {
      left_is = none_far;
      place_is = to_is;
      pane_is = none_absent ∙ sym (ap (joined_all plan) none_is);
      value_is = any_datum kinds values it (get m to);
    }

  -- it is linked to one
  module _ (w : Window) (one : w ∷ [] ≡ filter (links gap t) ws) (from : Place) (from_is : from ≡ at key w) where
    one_is : (v : Pane (List Value)) × (linked gap it (entries m) ≡ (at key w, v) ∷ [])
    one_is = one_entry _ (at key w) (parts_at plan gap key t m ws agree (w ∷ []) one)

    one_held : get m from ≡ Some one_is.0
    one_held = ap (get m) from_is ∙ one_found gap it m (at key w) one_is.0 one_is.1

    one_far : remove m from ≡ retain_keys m far
    one_far = ap (remove m) from_is ∙ one_left gap it m (at key w) one_is.0 one_is.1

    pub one_there : IsSome (get m from)
    one_there = subst IsSome (sym one_held) refl

    pub one_takes : CanJoinAll kinds values (linked gap it (entries m)) → IfSome (get m from) (CanRecord kinds values)
    one_takes can = subst (λ o. IfSome o (CanRecord kinds values)) (sym one_held) (subst (CanJoinAll kinds values) one_is.1 can)

    pub one_absent : get (remove m from) to ≡ None
    one_absent = absent (remove m from) one_far

    pub one_joined : false ≡ nat_lt 1 (length (linked gap it (entries m)))
    one_joined = sym (ap (λ es. nat_lt 1 (length es)) one_is.1)

    pub one_puts : Puts plan gap key t m ws agree (remove m from) to (get m from) (with_one_more kinds values (get m from))
    one_puts = record {
      left_is = one_far;
      place_is = to_is;
      pane_is = one_held ∙ sym (ap (joined_all plan) one_is.1);
      value_is = any_datum kinds values it (get m from);
    }

  -- it is linked to two
  module _ (w v : Window) (two : w ∷ v ∷ [] ≡ filter (links gap t) ws) (first second : Place) (first_is : first ≡ at key w) (second_is : second ≡ at key v) where
    pub two_are : (x : Pane (List Value)) × ((y : Pane (List Value)) × (linked gap it (entries m) ≡ (at key w, x) ∷ (at key v, y) ∷ []))
    two_are = two_entries _ (at key w) (at key v) (parts_at plan gap key t m ws agree (w ∷ v ∷ []) two)

    abbrev x : Pane (List Value)
    x = two_are.0

    abbrev y : Pane (List Value)
    y = two_are.1.0

    first_held : get m first ≡ Some x
    first_held = ap (get m) first_is ∙ first_found gap it m (at key w) (at key v) x y two_are.1.1

    second_held : get (remove m first) second ≡ Some y
    second_held = (λ i. get (remove m (first_is i)) (second_is i)) ∙ second_found gap it m (at key w) (at key v) x y two_are.1.1

    two_far : remove (remove m first) second ≡ retain_keys m far
    two_far = (λ i. remove (remove m (first_is i)) (second_is i)) ∙ both_left gap it m (at key w) (at key v) x y two_are.1.1

    pub two_joined : true ≡ nat_lt 1 (length (linked gap it (entries m)))
    two_joined = sym (ap (λ es. nat_lt 1 (length es)) two_are.1.1)

    pub two_puts : Puts plan gap key t m ws agree (remove (remove m first) second) to (Some (joined plan x y)) (with_one_more kinds values (Some (joined plan x y)))
    two_puts = record {
      left_is = two_far;
      place_is = to_is;
      pane_is = sym (ap (joined_all plan) two_are.1.1);
      value_is = any_datum kinds values it (Some (joined plan x y));
    }

    two_join : CanJoinAll kinds values (linked gap it (entries m)) → (a b : Pane (List Value)) → get m first ≡ Some a → get (remove m first) second ≡ Some b → CanJoin kinds a b × CanRecord kinds values (joined plan a b)
    two_join can a b h k =
        let here : x ≡ a = same_Some _ _ (sym first_held ∙ h) in
        let there : y ≡ b = same_Some _ _ (sym second_held ∙ k) in
        rw (sym here, sym there) (subst (CanJoinAll kinds values) two_are.1.1 can)

    pub two_can : CanJoinAll kinds values (linked gap it (entries m)) → (room : ℕ) → length (merged_session plan gap it (entries m)) ≤ room → CanJoinAt kinds values first second to m room
    two_can can room fits = record {
      here = subst IsSome (sym first_held) refl;
      there = subst IsSome (sym second_held) refl;
      joins = two_join can;
      fits = merged_fits plan gap key t m ws agree _ _ _ _ two_puts room fits;
    }

    pub two_put : (new : FinMap place_cmp (Pane (List Value))) → JoinedAt kinds values first second to m new → new ≡ insert (remove (remove m first) second) to (with_one_more kinds values (Some (joined plan x y)))
    two_put new put = put x y first_held second_held

-- What it takes to put a record in, for the table and for the sessions of its key.
use Rattle.std.proofs.Common.{pos, ◌≡◌, ◌≢◌, ◌<◌, ◌≤◌, ◌+◌, ◌⊎◌, ℕ, zero, suc, Bool, true, false, cond, List, [], ◌∷◌, ◌++◌, map, length, get_or, ℤ, Option, Some, None, IfSome, refl, sym, ap, subst, ◌∙◌, inl, inr, arith}
use Rattle.std.proofs.lemmas.Bool.{cases_Bool}
use Rattle.std.proofs.lemmas.Bool.Decides.{nat_tests}
use Rattle.std.proofs.lemmas.Option.{slice_get-get_or}
use Rattle.std.specs.Prelude.{filter, IsTrue, nat_eq, slice_get, slice_set}
use Rattle.std.specs.Ordering.{is_eq}
use Rattle.std.specs.List.{AllByRecursion}
use Rattle.std.specs.FinMap.Entries.{find}
use Rattle.wsm_record.specs.declared.event.Value.{Value}
use Rattle.wsm_record.specs.declared.words.Kind.{Kind}
use Rattle.wsm_windows.specs.declared.window.Shape.{Shape}
use Rattle.wsm_windows.specs.declared.window.Shape.TheVariants.{Fixed, Sliding, Session}
use Rattle.wsm_windows.specs.Windows.{period_of, size_of, windows_of, windows_of_shape}
use Rattle.wsm_windows.specs.Life.{live_windows_of}
use Rattle.wsm_windows.specs.declared.place.Place.{Place}
use Rattle.wsm_windows.specs.Places.{place_cmp, at, window_of}
use Rattle.wsm_fold.specs.Fold.{are_of_kinds, joins}
use Rattle.wsm_fold.specs.Accumulators.{SumsFit}
use Rattle.wsm_fold.proofs.Rows.{length-are_of_kinds, are_of_kinds-joins}
use Rattle.wsm_semantics.specs.Query.{Datum}
use Rattle.wsm_semantics.specs.Kept.{is_linked}
use Rattle.wsm_semantics.specs.Replay.{datum}
use Rattle.wsm_semantics.specs.Sessions.{ends_after}
use Rattle.wsm_semantics.specs.Summaries.{Plan, Pane, assigned, entered, joined, joined_folds, linked, merged_session}
use Rattle.wsm_semantics.proofs.Lists.{filter-all}
use Rattle.wsm_semantics.proofs.Each.{all-any, filter_swap, filter-map}
use Rattle.wsm_sessions.specs.Live.{Live, times_left}
use Rattle.wsm_semantics.proofs.ManyKeys.{length-filter}
use Rattle.wsm_panes.specs.Held.{CanEnter, Held, IsRoomy, entries_of, joins_sessions, ring_of, room_of, session_entered, windows_entered}
use Rattle.wsm_ring.specs.Entering.{CanEnterWindows}
use Rattle.wsm_slots.specs.Panes.{CanJoin, CanJoinFolds, CanRecord, CanTake, taking, windows_of_key}
use Rattle.wsm_list.specs.Joining.{CanJoinAll}
use Rattle.wsm_ring.specs.Ring.{LieInRing}
use Rattle.wsm_panes.specs.OfKeys.{AreDropped, AreOfKeys, IsOfKey}
use Rattle.wsm_slots.specs.Place.{is_kept}

-- where as many pass a test as there are, all do
pub all_left : {X : Type 0} (p : X → Bool) (xs : List X) → length xs ≤ length (filter p xs) → filter p xs ≡ xs
all_left p [] h = refl
all_left p (x ∷ xs) h = elim (cases_Bool (p x)) [
  | inl passes ↦ rw passes (ap (λ l. x ∷ l) (all_left p xs (let long = ap (λ b. length (cond b (x ∷ filter p xs) (filter p xs))) passes in omega (arith, h, long))))
  | inr stops ↦ let long = ap (λ b. length (cond b (x ∷ filter p xs) (filter p xs))) stops in let few = length-filter p xs in absurd (omega (arith, h, long, few))
]

-- where windows lie on a grid no sessions are joined, and a record has none
pub none_joined : (s : Shape) → ((gap : ℤ) → s ≢ Session gap) → (d : Datum) (es : List (Place × Pane (List Value))) → false ≡ joins_sessions s d es
none_joined (Fixed size) grid d es = refl
none_joined (Sliding size period) grid d es = refl
none_joined (Session gap) grid d es = absurd (grid gap refl)

pub no_session : (s : Shape) → ((gap : ℤ) → s ≢ Session gap) → (d : Datum) (es : List (Place × Pane (List Value))) → None ≡ session_entered s d es
no_session (Fixed size) grid d es = refl
no_session (Sliding size period) grid d es = refl
no_session (Session gap) grid d es = absurd (grid gap refl)

pub entered_assigned : {X : Type 0} (plan : Plan X) (s : Shape) (l : ℤ) → ((gap : ℤ) → s ≢ Session gap) → (d : Datum) (es : List (Place × Pane X)) → entered plan s l d es ≡ assigned plan d (live_windows_of s d.time l d.mark) es
entered_assigned plan (Fixed size) l other d es = refl
entered_assigned plan (Sliding size period) l other d es = refl
entered_assigned plan (Session gap) l other d es = absurd (other gap refl)

-- as many as a record is put into
pub windows_are : (s : Shape) (t l m : ℤ) → ((gap : ℤ) → s ≢ Session gap) → windows_entered s t l m ≡ length (live_windows_of s t l m)
windows_are (Fixed size) t l m grid = refl
windows_are (Sliding size period) t l m grid = refl
windows_are (Session gap) t l m grid = absurd (grid gap refl)

-- and they are those of a size and a period
pub windows_grid : (s : Shape) → ((gap : ℤ) → s ≢ Session gap) → (t : ℤ) → windows_of_shape s t ≡ windows_of (size_of s) (period_of s) t
windows_grid (Fixed size) grid t = refl
windows_grid (Sliding size period) grid t = refl
windows_grid (Session gap) grid t = absurd (grid gap refl)

module _ (kinds : List Kind) (values : List Value) where
  roomy : (e : Place × Pane (List Value)) → IsRoomy kinds values e → CanRecord kinds values e.1
  roomy e h = record { count = omega (arith, h.count); unshown = omega (arith, h.unshown); takes = h.takes }

  each_found : (es : List (Place × Pane (List Value))) → AllByRecursion (IsRoomy kinds values) es → (p : Place) → IfSome (find place_cmp p es) (CanRecord kinds values)
  each_found [] h p = tt
  each_found (e ∷ es) h p =
      elim (is_eq (place_cmp p e.0)) as (λ b. IfSome (cond b (Some e.1) (find place_cmp p es)) (CanRecord kinds values)) [
        | true ↦ roomy e h.0
        | false ↦ each_found es h.1 p
      ]

  -- what two panes come to can take the record
  module _ (e f : Place × Pane (List Value)) (a : IsRoomy kinds values e) (b : IsRoomy kinds values f) (types : IsTrue (are_of_kinds kinds values))
      (sums : (xs ys : List Value) → e.1.folded ≡ Some xs → f.1.folded ≡ Some ys → SumsFit kinds xs ys × SumsFit kinds (joins kinds xs ys) values) where
    folds_can : (x y : Option (List Value)) → e.1.folded ≡ x → f.1.folded ≡ y → IfSome x (CanTake kinds values) → IfSome y (CanTake kinds values) → CanJoinFolds kinds x y
    folds_can None y ex fy t u = tt
    folds_can (Some xs) None ex fy t u = tt
    folds_can (Some xs) (Some ys) ex fy t u = (t.types, u.types, (sums xs ys ex fy).0)

    folds_take : (x y : Option (List Value)) → e.1.folded ≡ x → f.1.folded ≡ y → IfSome x (CanTake kinds values) → IfSome y (CanTake kinds values) → IfSome (joined_folds (taking kinds values) x y) (CanTake kinds values)
    folds_take None None ex fy t u = tt
    folds_take None (Some ys) ex fy t u = u
    folds_take (Some xs) None ex fy t u = t
    folds_take (Some xs) (Some ys) ex fy t u = record {
      types = are_of_kinds-joins kinds xs ys (length-are_of_kinds kinds xs t.types) (length-are_of_kinds kinds ys u.types);
      sums = (sums xs ys ex fy).1;
    }

    pub two_can : CanJoin kinds e.1 f.1 × CanRecord kinds values (joined (taking kinds values) e.1 f.1)
    two_can = (
      record { count = omega (arith, a.count, b.count); unshown = omega (arith, a.unshown, b.unshown); folds = folds_can e.1.folded f.1.folded refl refl a.takes b.takes },
      record { count = omega (arith, a.count, b.count); unshown = omega (arith, a.unshown, b.unshown); takes = folds_take e.1.folded f.1.folded refl refl a.takes b.takes },
    )

  all_can : (es : List (Place × Pane (List Value))) → AllByRecursion (IsRoomy kinds values) es → IsTrue (are_of_kinds kinds values)
      → ((e f : Place × Pane (List Value)) (gs : List (Place × Pane (List Value))) → es ≡ e ∷ f ∷ gs → (xs ys : List Value) → e.1.folded ≡ Some xs → f.1.folded ≡ Some ys → SumsFit kinds xs ys × SumsFit kinds (joins kinds xs ys) values)
      → CanJoinAll kinds values es
  all_can [] h types sums = tt
  all_can (e ∷ []) h types sums = roomy e h.0
  all_can (e ∷ f ∷ gs) h types sums = two_can e f h.0 h.1.0 types (sums e f gs refl)

module _ (h : Held) (kinds : List Kind) (key : ℕ) (time : ℤ) (values : List Value) (lateness mark : ℤ) (can : CanEnter h kinds key time values lateness mark) where
  pub wide_values : length values ≡ h.widths.accumulators
  wide_values = length-are_of_kinds kinds values can.types ∙ can.wide

  pub few_values : length values ≤ 16
  few_values = omega (arith, can.few, length-are_of_kinds kinds values can.types)

  pub windows_can : ((gap : ℤ) → h.shape ≢ Session gap) → CanEnterWindows (ring_of h) kinds values key time (live_windows_of h.shape time lateness mark) (entries_of h)
  windows_can other = record {
    apart = subst (λ es. LieInRing (ring_of h) es) (entered_assigned (taking kinds values) h.shape lateness other (datum 0 mark key time []) (entries_of h)) (can.apart other);
    takes = all-any (λ w. IfSome (find place_cmp (at key w) (entries_of h)) (CanRecord kinds values)) (λ w. each_found kinds values (entries_of h) can.panes (at key w)) (live_windows_of h.shape time lateness mark);
  }

  module _ (gap : ℤ) (is : h.shape ≡ Session gap) where
    pub joins_can : CanJoinAll kinds values (linked gap (datum 0 (pos 0) key time []) (entries_of h))
    joins_can =
        all_can kinds values (linked gap (datum 0 (pos 0) key time []) (entries_of h)) (filter-all (IsRoomy kinds values) (λ e. is_linked gap (datum 0 (pos 0) key time []) e.0) (entries_of h) can.panes) can.types
        (λ e f gs parts. can.joins gap is e f gs parts)

    pub room_can : length (merged_session (taking kinds values) gap (datum 0 (pos 0) key time []) (entries_of h)) ≤ room_of h
    room_can = subst (λ (s : Shape). length (entered (taking kinds values) s lateness (datum 0 mark key time []) (entries_of h)) ≤ room_of h) is can.room

    pub live_can : length (filter (λ e. nat_eq e.0.key key) (merged_session (taking kinds values) gap (datum 0 (pos 0) key time []) (entries_of h))) ≤ h.live
    live_can = subst (λ (s : Shape). length (filter (λ e. nat_eq e.0.key key) (entered (taking kinds values) s lateness (datum 0 mark key time []) (entries_of h))) ≤ h.live) is can.live

-- ---- the sessions of the keys

-- what is read of a list after a write: what was written, or what was there
get_set : (ss : List Live) (i k : ℕ) (new s : Live) → slice_get (slice_set ss i new) k ≡ Some s → ((i ≡ k) × (new ≡ s)) ⊎ ((i ≢ k) × (slice_get ss k ≡ Some s))
get_set [] i k new s h = absurd (cc)
get_set (x ∷ ss) zero zero new s h = inl (refl, cc)
get_set (x ∷ ss) zero (suc k) new s h = inr (λ e. absurd (omega (arith, e)), h)
get_set (x ∷ ss) (suc i) zero new s h = inr (λ e. absurd (omega (arith, e)), h)
get_set (x ∷ ss) (suc i) (suc k) new s h = elim (get_set ss i k new s h) [
  | inl here ↦ inl (ap suc here.0, here.1)
  | inr there ↦ inr (λ e. there.0 (omega (arith, e)), there.1)
]

apart_numbers : (j k : ℕ) → j ≢ k → nat_eq j k ≡ false
apart_numbers j k h = grind (arith, nat_tests)

-- the sessions that are read at a key
pub key_of : (gap : ℤ) (keys live key : ℕ) (es : List (Place × Pane (List Value))) (ss : List Live) → AreOfKeys gap keys live es ss → key < keys → (s : Live) → s ≡ get_or ss key s → IsOfKey gap live key es s
key_of gap keys live key es ss all within s read = all.each key s (slice_get-get_or ss key s (omega (arith, within, all.count)) ∙ ap Some (sym read))

length-slice_set : (ss : List Live) (i : ℕ) (new : Live) → length (slice_set ss i new) ≡ length ss
length-slice_set [] i new = refl
length-slice_set (x ∷ ss) zero new = refl
length-slice_set (x ∷ ss) (suc i) new = ap suc (length-slice_set ss i new)

-- a key's sessions are written anew, and the windows of the others stay
pub keys_written : (gap : ℤ) (keys live key : ℕ) (es fs : List (Place × Pane (List Value))) (ss : List Live) (new : Live)
    → AreOfKeys gap keys live es ss → IsOfKey gap live key fs new → ((k : ℕ) → nat_eq key k ≡ false → windows_of_key k fs ≡ windows_of_key k es) → AreOfKeys gap keys live fs (slice_set ss key new)
keys_written gap keys live key es fs ss new all here others = record {
  count = length-slice_set ss key new ∙ all.count;
  each = λ k s read. elim (get_set ss key k new s read) [
    | inl at_key ↦ subst (λ (j : ℕ). IsOfKey gap live j fs s) at_key.0 (subst (IsOfKey gap live key fs) at_key.1 here)
    | inr other ↦ let old = all.each k s other.1 in record { same_gap = old.same_gap; room = old.room; windows = others k (apart_numbers key k other.0) ∙ old.windows; times = old.times }
  ];
}

pub keys_alike : (gap : ℤ) (keys live : ℕ) (es fs : List (Place × Pane (List Value))) (ss : List Live) → AreOfKeys gap keys live es ss → ((k : ℕ) → windows_of_key k fs ≡ windows_of_key k es) → AreOfKeys gap keys live fs ss
keys_alike gap keys live es fs ss all same = record {
  count = all.count;
  each = λ k s read. let old = all.each k s read in record { same_gap = old.same_gap; room = old.room; windows = same k ∙ old.windows; times = old.times };
}

get_push : (ss : List Live) (new : Live) (k : ℕ) (s : Live) → slice_get (ss ++ new ∷ []) k ≡ Some s → (slice_get ss k ≡ Some s) ⊎ (new ≡ s)
get_push [] new zero s h = inr (cc)
get_push [] new (suc k) s h = absurd (cc)
get_push (x ∷ ss) new zero s h = inl h
get_push (x ∷ ss) new (suc k) s h = get_push ss new k s h

-- one key more that has no pane and no session
pub keys_push : (gap : ℤ) (live : ℕ) (ss : List Live) (new : Live) → ((k : ℕ) (s : Live) → slice_get ss k ≡ Some s → IsOfKey gap live k [] s) → new ≡ record { gap = gap; room = live; windows = [] }
    → (k : ℕ) (s : Live) → slice_get (ss ++ new ∷ []) k ≡ Some s → IsOfKey gap live k [] s
keys_push gap live ss new all is k s h = elim (get_push ss new k s h) [
  | inl old ↦ all k s old
  | inr same ↦ let it : s ≡ record { gap = gap; room = live; windows = [] } = sym same ∙ is in
      record { same_gap = ap (λ r. r.gap) it; room = ap (λ r. r.room) it; windows = sym (ap (λ r. r.windows) it); times = ([], ap (λ r. r.windows) it) }
]

live_windows : {X : Type 0} (limit : ℤ) (k : ℕ) (es : List (Place × X)) → windows_of_key k (filter (λ e. is_kept limit e.0) es) ≡ filter (ends_after limit) (windows_of_key k es)
live_windows {X = X} limit k es =
    ap (map (λ (e : Place × X). window_of e.0)) (filter_swap (λ e. nat_eq k e.0.key) (λ e. is_kept limit e.0) es)
    ∙ sym (filter-map (λ (e : Place × X). window_of e.0) (ends_after limit) (filter (λ e. nat_eq k e.0.key) es))

-- the panes and the sessions that end by a limit are dropped
pub keys_dropped : (limit gap : ℤ) (keys live : ℕ) (es : List (Place × Pane (List Value))) (ss ns : List Live) → AreOfKeys gap keys live es ss → AreDropped limit ss ns → AreOfKeys gap keys live (filter (λ e. is_kept limit e.0) es) ns
keys_dropped limit gap keys live es ss ns all dropped = record {
  count = dropped.count ∙ all.count;
  each = λ k s read.
      let was = dropped.each k s read in
      let old = all.each k was.0 was.1 in
      let left = was.2 in
      record {
        same_gap = ap (λ r. r.gap) left.windows ∙ old.same_gap;
        room = ap (λ r. r.room) left.windows ∙ old.room;
        windows = live_windows limit k es ∙ ap (filter (ends_after limit)) old.windows ∙ sym (ap (λ r. r.windows) left.windows);
        times = (times_left was.0.gap limit old.times.0, left.fits old.times.0 old.times.1);
      };
}

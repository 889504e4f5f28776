-- Sessions: where panes are, and how a selected record enters what is kept of them, with those that it
-- is linked to.
use Rattle.std.proofs.Common.{◌≡◌, ℕ, ◌≤◌, Bool, true, false, ◌&&◌, ◌||◌, not, List, [], ◌∷◌, map, length, ℤ, pos, ◌+ℤ◌, ◌≤ℤ◌, inl, inr, Option, Some, None, refl, sym, ap, subst, ◌∙◌, arith}
use Rattle.std.proofs.lemmas.Int.{ints}
use Rattle.std.proofs.lemmas.Bool.{true≢false, and_parts, and_from, or_left, or_right}
use Rattle.std.specs.Prelude.{nat_eq}
use Rattle.std.specs.List.{AllByRecursion, list_any}
use Rattle.std.specs.Ordering.{eq_by_cmp}
use Rattle.wsm_record.specs.declared.event.Value.{Value}
use Rattle.wsm_record.specs.Event.{Event, Record, Watermark}
use Rattle.wsm_windows.specs.declared.window.Window.{Window}
use Rattle.wsm_windows.specs.declared.window.Shape.{Shape}
use Rattle.wsm_windows.specs.declared.window.Shape.TheVariants.{Session}
use Rattle.wsm_windows.specs.Windows.{has_inside}
use Rattle.wsm_windows.specs.declared.place.Place.{Place}
use Rattle.wsm_windows.specs.Places.{place_cmp, at, window_of}
use Rattle.wsm_semantics.specs.Query.{Query, Datum, SessionsByEvent, datum, mark, verdict_on, selection, selected, selection_of}
use Rattle.wsm_semantics.specs.Panes.{places, is_there, is_live_at, contents, panes, held}
use Rattle.wsm_semantics.specs.Firings.{shows}
use Rattle.wsm_semantics.specs.Kept.{Kept, kept, kept_in, entered, is_linked, joined_to, joined_all, stands_in, stands_joined, with_record}
use Rattle.wsm_semantics.proofs.Lists.{IsNonEmpty, all-each, some_pass}
use Rattle.wsm_semantics.proofs.Tables.{among, kept_of}
use Rattle.wsm_semantics.proofs.Assigned.{tied}
use Rattle.wsm_semantics.proofs.Each.{map-all, map-map}
use Rattle.wsm_semantics.proofs.Within.{wider}
use Rattle.wsm_semantics.proofs.Sessions.{AreApart, sessions_apart}
use Rattle.wsm_semantics.proofs.SessionTimes.{IsOneOf, apart-filter, inside_of_joined, one_inside}
use Rattle.wsm_semantics.proofs.SessionPlaces.{one_of, times_of, sessions_of, there_is, has_record, inside_links}
use Rattle.wsm_semantics.proofs.SessionStep.{among_places, among_linked, linked_held, ws, mine, linked, kept_linked, records_at, new_inside, put_records, contents_more, places_more, merged-kept}
use Rattle.wsm_semantics.proofs.ShownPanes.{IsPane, each_among, each_pane}
use Rattle.wsm_semantics.proofs.FiringsSoFar.{PlacesLaw, ShareNone, Stay, StaysIn, shows_itself, shows_key}
use Rattle.wsm_semantics.proofs.StandingFirings.{joined_unfired, joined_stands}
use Rattle.wsm_semantics.proofs.StandsTurn.{AreDistinct, IsTakenIn, TakesIn, stands-taken}
use Rattle.wsm_semantics.proofs.KeptTurns.{kept_is, prompt}
use Rattle.wsm_semantics.proofs.Effects.{by_effect, selects_one, selects_none}
use Rattle.wsm_semantics.proofs.Turns.{places-same}
use Rattle.wsm_semantics.proofs.EventTurns.{EntersPanes}

of_one : (t : Window → Bool) (a : Window) (vs : List Window) → IsOneOf a vs → t a ≡ true → list_any t vs ≡ true
of_one t a [] one h = absurd one
of_one t a (v ∷ vs) (inl same) h = or_left _ _ (ap t (sym same) ∙ h)
of_one t a (v ∷ vs) (inr later) h = or_right _ _ (of_one t a vs later h)

-- sessions that lie apart are at places of their own
distinct_at : (gap : ℤ) → pos 1 ≤ℤ gap → (k : ℕ) (vs : List Window) → AreApart gap vs → AreDistinct (map (at k) vs)
distinct_at gap long k [] a = tt
distinct_at gap long k (w ∷ vs) a = (
  map-all (λ s. at k w ≡ s → ⊥) (at k) vs
      (all-each (λ v. w.end ≤ℤ v.start) (λ v. at k w ≡ at k v → ⊥) vs (λ v from same. let start : w.start ≡ v.start = ap (λ (p : Place). p.start) same in let lasts : (w.start +ℤ gap) ≤ℤ w.end = a.0 in absurd (omega (arith, ints))) a.1),
  distinct_at gap long k vs a.2,
)

-- what stands for joined panes with a record
joined_to_stands : (d : Datum) (h : Kept) (o : Option Kept) → (joined_to h o).stands ≡ stands_joined h.stands (with_record d o).stands
joined_to_stands d h None = sym (joined_unfired h.stands)
joined_to_stands d h (Some g) = refl

pub joined_all_stands : (d : Datum) (es : List (Place × Kept)) → (with_record d (joined_all es)).stands ≡ joined_stands (map (λ e. e.1.stands) es)
joined_all_stands d [] = refl
joined_all_stands d (e ∷ es) = joined_to_stands d e.1 (joined_all es) ∙ ap (stands_joined e.1.stands) (joined_all_stands d es)

-- a place that isn't live stays one
abbrev pub DeadStay : Query → Type 0
DeadStay q = (past : List Event) (e : Event) (p : Place) → among p (places q past) ≡ true → is_live_at q (mark q past) p ≡ false → among p (places q (e ∷ past)) ≡ true

module _ (q : Query) (timely : SessionsByEvent q) (gap : ℤ) (is : q.shape ≡ Session gap) (long : pos 1 ≤ℤ gap) where
  filled : (past : List Event) → AllByRecursion (λ e. IsNonEmpty e.1) (panes q past)
  filled past =
      all-each (IsPane q past) (λ e. IsNonEmpty e.1) (panes q past)
      (λ e pane. subst IsNonEmpty (sym pane.0) (some_pass (is_there q e.0) (selected q past) ((λ i. list_any (λ d. there_is q gap is e.0 d i) (selected q past)) ∙ has_record gap (selected q past) long e.0 (sym (among_places q gap is long past e.0) ∙ pane.1))))
      (each_pane q past)

  apart : ShareNone q
  apart past p r placed_p placed_r shown d in_p in_r =
      let ds : List Datum = selected q past in
      let key : p.key ≡ r.key = shows_key q.shape p r shown in
      let p_in : among p (map (at p.key) (sessions_of gap ds p.key)) ≡ true = sym (among_places q gap is long past p) ∙ placed_p in
      let r_in : among r (map (at p.key) (sessions_of gap ds p.key)) ≡ true = ap (λ (j : ℕ). among r (map (at j) (sessions_of gap ds j))) key ∙ sym (among_places q gap is long past r) ∙ placed_r in
      let same : window_of p ≡ window_of r = one_inside gap long (sessions_of gap ds p.key) (sessions_apart gap long (times_of gap ds p.key)) d.time (window_of p) (window_of r)
      (one_of p p.key (sessions_of gap ds p.key) p_in) (one_of r p.key (sessions_of gap ds p.key) r_in) (and_parts _ _ (sym (there_is q gap is p d) ∙ in_p)).1 (and_parts _ _ (sym (there_is q gap is r d) ∙ in_r)).1 in
      λ j. at (key j) (same j)

  -- ---- a selected record

  module _ (past : List Event) (k : ℕ) (t : ℤ) (vs : List Value) (taken : verdict_on q past (Record (Some k) t vs) ≡ None) (selects : q.selects k vs ≡ true) where
    abbrev d : Datum
    d = datum (length past) (mark q past) k t vs

    abbrev e : Event
    e = Record (Some k) t vs

    its_turn : length past ≤ length past
    its_turn = omega arith

    -- the sessions that it is linked to, and the one that it comes into
    abbrev pub joined : List Place
    joined = map (at k) (ws q gap is long past d (prompt q past timely gap is k t vs taken))

    abbrev pub here : Place
    here = mine q gap is long past d (prompt q past timely gap is k t vs taken)

    placed_more : (p : Place) → among p (places q (e ∷ past)) ≡ (eq_by_cmp place_cmp p here || (not (is_linked gap d p) && among p (places q past)))
    placed_more p =
        places_more q gap is long past d (prompt q past timely gap is k t vs taken) its_turn e refl (selects_one q past k t vs taken selects) p
        ∙ (λ i. eq_by_cmp place_cmp p here || (not (is_linked gap d p) && sym (among_places q gap is long past p) i))

    pub placed_here : among here (places q (e ∷ past)) ≡ true
    placed_here = placed_more here ∙ or_left _ _ (tied here here refl)

    pub placed_still : (r : Place) → among r (places q past) ≡ true → is_linked gap d r ≡ false → among r (places q (e ∷ past)) ≡ true
    placed_still r placed other = placed_more r ∙ or_right _ _ (and_from _ _ (ap not other) placed)

    pub among_joined : (r : Place) → among r joined ≡ (is_linked gap d r && among r (places q past))
    among_joined r = among_linked q gap is long past d (prompt q past timely gap is k t vs taken) r ∙ (λ i. is_linked gap d r && sym (among_places q gap is long past r) i)

    pub shows_joined : (r : Place) → among r joined ≡ true → shows q.shape here r ≡ true
    shows_joined r m = ap (λ (s : Shape). shows s here r) is ∙ (and_parts _ _ (and_parts _ _ (sym (among_joined r) ∙ m)).0).0

    -- the records of those that it is linked to are its session's
    pub inside_here : (r : Place) → among r joined ≡ true → (x : Datum) → is_there q r x ≡ true → is_there q here x ≡ true
    inside_here r m x h =
        let ds : List Datum = selected q past in
        let key : k ≡ r.key = shows_key q.shape here r (shows_joined r m) in
        let parts = and_parts _ _ (sym (there_is q gap is r x) ∙ h) in
        let session : among r (map (at k) (sessions_of gap ds k)) ≡ true =
        ap (λ (j : ℕ). among r (map (at j) (sessions_of gap ds j))) key ∙ sym (among_places q gap is long past r) ∙ (and_parts _ _ (sym (among_joined r) ∙ m)).1 in
        there_is q gap is here x ∙ and_from _ _
        (ap (nat_eq x.key) key ∙ parts.0)
        (inside_of_joined gap long t x.time (times_of gap ds k) (of_one (has_inside x.time) (window_of r) (sessions_of gap ds k) (one_of r k (sessions_of gap ds k) session) parts.1)
        ∙ of_one (has_inside x.time) (window_of r) (ws q gap is long past d (prompt q past timely gap is k t vs taken)) (one_of r k (ws q gap is long past d (prompt q past timely gap is k t vs taken)) m) parts.1)

    stays_with : (p : Place) → among p (places q past) ≡ true → (b : Bool) → is_linked gap d p ≡ b → StaysIn q past e p
    stays_with p placed true links = let m : among p joined ≡ true = among_joined p ∙ and_from _ _ links placed in (here, placed_here, shows_joined p m, inside_here p m)
    stays_with p placed false other = (p, placed_still p placed other, shows_itself q.shape p, λ d h. h)

    -- ---- what its session keeps

    -- the session takes in those that the record is linked to, and no others
    pub takes_joined : TakesIn q past e here joined
    takes_joined = record {
      each = all-each (λ r. among r joined ≡ true) (IsTakenIn q past e here) joined
          (λ r m. ((and_parts _ _ (sym (among_joined r) ∙ m)).1, shows_joined r m, wider (is_there q r) (is_there q here) (inside_here r m) (selection_of q past e) (selected q past)))
          (each_among joined joined (λ p h. h));
      distinct = distinct_at gap long k (ws q gap is long past d (prompt q past timely gap is k t vs taken)) (apart-filter gap _ (sessions_of gap (selected q past) k) (sessions_apart gap long (times_of gap (selected q past) k)));
      whole = λ r placed shown x in_r in_here. pick r placed shown x in_r in_here (is_linked gap d r) refl;
    } where
      pick : (r : Place) → among r (places q past) ≡ true → shows q.shape here r ≡ true → (x : Datum) → is_there q r x ≡ true → is_there q here x ≡ true → (b : Bool) → is_linked gap d r ≡ b → among r joined ≡ true
      pick r placed shown x in_r in_here true links = among_joined r ∙ and_from _ _ links placed
      pick r placed shown x in_r in_here false other =
          let same : here ≡ r = apart (e ∷ past) here r placed_here (placed_still r placed other) shown x in_here in_r in
          let linked_here : is_linked gap d here ≡ true = inside_links gap long (selected q past) d here (sym (there_is q gap is here d) ∙ new_inside q gap is long past d (prompt q past timely gap is k t vs taken) its_turn) in
          absurd (true≢false (sym linked_here ∙ ap (is_linked gap d) same ∙ other))

    module _ (law : PlacesLaw q) where
      -- what stood for those that it joins stands for it, joined
      stood_here : stands_in q past here (contents q (e ∷ past) here) ≡ (with_record d (joined_all (linked q gap is long past d (prompt q past timely gap is k t vs taken)))).stands
      stood_here =
          let on : List Window = ws q gap is long past d (prompt q past timely gap is k t vs taken) in
          let paned : Window → Place × List Datum = λ w. (at k w, contents q past (at k w)) in
          stands-taken q law past e here placed_here joined takes_joined
          ∙ ap joined_stands
          (map-map (λ r. stands_in q past r (contents q past r)) (at k) on
          ∙ sym (map-map (λ x. x.1.stands) (kept_in q past) (map paned on) ∙ map-map (λ x. stands_in q past x.0 x.1) paned on))
          ∙ sym (joined_all_stands d (map (kept_in q past) (map paned on)))
          ∙ ap (λ (es : List (Place × Kept)). (with_record d (joined_all es)).stands) (sym (kept_linked q gap is long past d (prompt q past timely gap is k t vs taken)))

      -- what is kept of the session
      pub kept_here : with_record d (joined_all (linked q gap is long past d (prompt q past timely gap is k t vs taken))) ≡ kept_of q past here (contents q (e ∷ past) here)
      kept_here =
          let records : _ = put_records q gap is long past d (prompt q past timely gap is k t vs taken) its_turn ∙ ap (records_at q past here) (sym (contents_more q gap is long past d (prompt q past timely gap is k t vs taken) its_turn e refl (selects_one q past k t vs taken selects) here)) in
          kept_is _ (kept_of q past here (contents q (e ∷ past) here)) (ap (λ (r : List Datum × List Datum). r.0) records) (ap (λ (r : List Datum × List Datum). r.1) records) (sym stood_here)

      -- it is put into its session, with what is kept of those that it is linked to
      enters : entered q.shape q.clock.lateness d (kept q past) ≡ map (kept_in q past) (held q (e ∷ past))
      enters =
          ap (λ (s : Shape). entered s q.clock.lateness d (kept q past)) is
          ∙ merged-kept q gap is long past d (prompt q past timely gap is k t vs taken) its_turn e refl (selects_one q past k t vs taken selects) kept_here

  -- ---- any event

  stays_placed : Stay q
  stays_placed past e p h =
      by_effect q past (λ e _. StaysIn q past e p)
      (λ k t vs taken selects. stays_with past k t vs taken selects p h (is_linked gap (datum (length past) (mark q past) k t vs) p) refl)
      (λ o t _. same (Watermark o t) (selects_none q past o t))
      (λ e none. same e (ap selection none))
      e
    where
      same : (e : Event) → selection_of q past e ≡ [] → StaysIn q past e p
      same e none = (p, ap (among p) (places-same q past e none) ∙ h, shows_itself q.shape p, λ d k. k)

  pub dead_stays : DeadStay q
  dead_stays past e p h dead =
      by_effect q past (λ e _. among p (places q (e ∷ past)) ≡ true)
      (λ k t vs taken selects.
      let d : Datum = datum (length past) (mark q past) k t vs in
      elim (is_linked gap d p) as (λ b. is_linked gap d p ≡ b → among p (places q (Record (Some k) t vs ∷ past)) ≡ true) [
        | true ↦ λ links. absurd (true≢false (sym (linked_held q gap is long past d (prompt q past timely gap is k t vs taken) p links) ∙ dead))
        | false ↦ λ other. placed_still past k t vs taken selects p h other
      ] refl)
      (λ o t _. same (Watermark o t) (selects_none q past o t))
      (λ e none. same e (ap selection none))
      e
    where
      same : (e : Event) → selection_of q past e ≡ [] → among p (places q (e ∷ past)) ≡ true
      same e none = ap (among p) (places-same q past e none) ∙ h

  pub session_places : PlacesLaw q
  session_places = record { filled = filled; apart = apart; stays = stays_placed }

  pub enters_session : EntersPanes q
  enters_session past k t vs taken selects = enters past k t vs taken selects session_places

-- What a selected record does to the sessions that are held: its session takes the place of those
-- that it is linked to, with their records and it, and every other pane stays as it was.
use Rattle.std.proofs.Common.{◌≡◌, ℕ, ◌≤◌, Bool, true, false, ◌&&◌, ◌||◌, cond, not, List, [], ◌∷◌, ◌++◌, map, length, ℤ, pos, ◌+ℤ◌, ◌≤ℤ◌, Option, Some, None, refl, sym, ap, ◌∙◌, arith}
use Rattle.std.proofs.lemmas.Int.{ints}
use Rattle.std.proofs.lemmas.Bool.{and_parts, eqb-true}
use Rattle.std.specs.Prelude.{filter, flat_map, int_le, int_lt, nat_eq, option_map}
use Rattle.std.specs.Ordering.{eq_by_cmp}
use Rattle.std.specs.FinMap.Entries.{find, where_key, find-put, find-where_key, is_sorted-put, is_sorted-where_key, same_entries}
use Rattle.wsm_record.specs.Event.{Event}
use Rattle.wsm_windows.specs.declared.window.Window.{Window}
use Rattle.wsm_windows.specs.declared.window.Shape.{Shape}
use Rattle.wsm_windows.specs.declared.window.Shape.TheVariants.{Session}
use Rattle.wsm_windows.specs.declared.place.Place.{Place}
use Rattle.wsm_windows.specs.Places.{place_cmp, at, window_of}
use Rattle.wsm_windows.proofs.Places.{tie_is, places_total, places_exact}
use Rattle.wsm_semantics.specs.Query.{Query, Datum, mark, selected, selection_of}
use Rattle.wsm_semantics.specs.Sessions.{links}
use Rattle.wsm_semantics.specs.Panes.{windows_among, places, is_there, contents, held, is_live_at}
use Rattle.wsm_semantics.specs.Firings.{is_shown}
use Rattle.wsm_semantics.specs.Kept.{Kept, kept, kept_in, is_linked, session_with, joined_all, with_record, merged_session}
use Rattle.wsm_semantics.proofs.Tables.{among, find-keyed, is_sorted-keyed, kept_of, find-kept, is_sorted-kept, find-held, is_sorted-held}
use Rattle.wsm_semantics.proofs.Each.{filter-map, filter-filter, itself}
use Rattle.wsm_semantics.proofs.Sessions.{holds_time, sessions_apart}
use Rattle.wsm_semantics.proofs.SessionTimes.{apart-filter}
use Rattle.wsm_semantics.proofs.SessionPlaces.{there_is, other_key, among-passing, times_of, sessions_of, is_session, places-sessions, joined_place, session_after, inside_links}
use Rattle.wsm_semantics.proofs.SessionJoin.{at_each, find-at_each, is_sorted-at_each, is_in_any, kept_at, all_panes_with, session_with-is, joined_contents}
use Rattle.wsm_semantics.proofs.ShownPanes.{unshown_of, not_shown_yet}

abbrev pub Records : Type 0
Records = List Datum × List Datum

abbrev pub records : Kept → Records
records h = (h.all, h.unshown)

-- all records of a place, and those that no firing showed
abbrev pub records_at : Query → List Event → Place → List Datum → Records
records_at q past p all = (all, unshown_of q past p all)

gate : {X : Type 0} (linked live there : Bool) (x : Option X) → (linked ≡ true → live ≡ true) → cond linked (cond live (cond there x None) None) None ≡ cond (linked && there) x None
gate true live there x f = ap (λ (b : Bool). cond b (cond there x None) None) (f refl)
gate false live there x f = refl

-- what is found at a place: the record's session, one that it is linked to, another, or none
settled : (mine linked live there inside : Bool) (v : Kept) (f : List Datum → Kept) (d : Datum) (c : List Datum) →
    (mine ≡ true → (live ≡ true) × (v ≡ f (cond inside (d ∷ c) c))) → (there ≡ true → linked ≡ false → inside ≡ false) →
    cond mine (Some v) (cond (not linked) (cond live (cond there (Some (f c)) None) None) None) ≡ option_map f (cond live (cond (mine || (not linked && there)) (Some (cond inside (d ∷ c) c)) None) None)
settled true linked live there inside v f d c g h =
    let (lives, is) = g refl in
    ap Some is ∙ sym (ap (λ (b : Bool). option_map f (cond b (Some (cond inside (d ∷ c) c)) None)) lives)
settled false true true there inside v f d c g h = refl
settled false true false there inside v f d c g h = refl
settled false false true true inside v f d c g h = ap (λ (b : Bool). Some (f (cond b (d ∷ c) c))) (sym (h refl refl))
settled false false true false inside v f d c g h = refl
settled false false false there inside v f d c g h = refl

linked_live : (mark t l gap : ℤ) (w : Window) → int_lt (t +ℤ l) mark ≡ false → links gap t w ≡ true → int_lt mark (w.end +ℤ l) ≡ true
linked_live mark t l gap w prompt h = grind (arith, ints)

ends_after : (mark t l gap end : ℤ) → pos 1 ≤ℤ gap → int_lt (t +ℤ l) mark ≡ false → (t +ℤ gap) ≤ℤ end → int_lt mark (end +ℤ l) ≡ true
ends_after mark t l gap end long prompt h = grind (arith, ints)

itself_inside : (t gap start end : ℤ) → pos 1 ≤ℤ gap → start ≤ℤ t → (t +ℤ gap) ≤ℤ end → (int_le start t && int_lt t end) ≡ true
itself_inside t gap start end long h k = grind (arith, ints)

module _ (q : Query) (gap : ℤ) (is : q.shape ≡ Session gap) (long : pos 1 ≤ℤ gap) where
  -- the places with records are the sessions of each key
  pub among_places : (past : List Event) (p : Place) → among p (places q past) ≡ is_session gap (selected q past) p
  among_places past p =
      ap (λ (s : Shape). among p (flat_map (λ d. map (at d.key) (windows_among s q.clock.lateness (selected q past) d)) (selected q past))) is
      ∙ places-sessions gap (selected q past) long p

  module _ (past : List Event) (d : Datum) (prompt : int_lt (d.time +ℤ q.clock.lateness) (mark q past) ≡ false) where
    abbrev pub ds : List Datum
    ds = selected q past

    abbrev pub ws : List Window
    ws = filter (links gap d.time) (sessions_of gap ds d.key)

    -- the session that the record comes into
    abbrev pub mine : Place
    mine = joined_place gap long ds d

    abbrev pub live : Place → Bool
    live p = is_live_at q (mark q past) p

    pub among_linked : (p : Place) → among p (map (at d.key) ws) ≡ (is_linked gap d p && is_session gap ds p)
    among_linked p =
        elim (nat_eq d.key p.key) as (λ b. nat_eq d.key p.key ≡ b → among p (map (at d.key) ws) ≡ ((b && links gap d.time (window_of p)) && is_session gap ds p)) [
          | true ↦ λ e.
              ap (λ (k : ℕ). among p (map (at k) (filter (links gap d.time) (sessions_of gap ds k)))) (eqb-true d.key p.key e)
              ∙ among-passing p p.key (links gap d.time) (sessions_of gap ds p.key)
          | false ↦ λ e. other_key p d.key ws e
        ] refl

    -- a session that it is linked to is held
    pub linked_held : (p : Place) → is_linked gap d p ≡ true → live p ≡ true
    linked_held p h = linked_live (mark q past) d.time q.clock.lateness gap (window_of p) prompt (and_parts _ _ h).1

    pub held_linked : where_key place_cmp (is_linked gap d) (held q past) ≡ at_each (contents q past) d.key ws
    held_linked =
        same_entries place_cmp places_total places_exact _ _
        (is_sorted-where_key place_cmp (is_linked gap d) (held q past) (is_sorted-held q past))
        (is_sorted-at_each gap long (contents q past) d.key ws (apart-filter gap (links gap d.time) (sessions_of gap ds d.key) (sessions_apart gap long (times_of gap ds d.key))))
        (λ p.
        find-where_key place_cmp (is_linked gap d) p (λ x tie. ap (is_linked gap d) (sym (places_exact p x tie))) (held q past)
        ∙ ap (λ (o : Option (List Datum)). cond (is_linked gap d p) o None) (find-held q past p)
        ∙ ap (λ (b : Bool). cond (is_linked gap d p) (cond (live p) (cond b (Some (contents q past p)) None) None) None) (among_places past p)
        ∙ gate (is_linked gap d p) (live p) (is_session gap ds p) (Some (contents q past p)) (linked_held p)
        ∙ ap (λ (b : Bool). cond b (Some (contents q past p)) None) (sym (among_linked p))
        ∙ sym (find-at_each (contents q past) p d.key ws))

    -- the held panes that it is linked to are the sessions that it is linked to
    pub kept_linked : filter (λ e. is_linked gap d e.0) (kept q past) ≡ kept_at q gap is long past d.key mine refl ws
    kept_linked = filter-map (kept_in q past) (λ e. is_linked gap d e.0) (held q past) ∙ ap (map (kept_in q past)) held_linked

    abbrev pub linked : List (Place × Kept)
    linked = filter (λ e. is_linked gap d e.0) (kept q past)

    pub joined_at : session_with gap d linked ≡ mine
    joined_at = ap (session_with gap d) kept_linked ∙ session_with-is q gap is long past d.key mine refl d refl ws

    module _ (turn : length past ≤ d.turn) where
      bounds : ((mine.start ≤ℤ d.time) × ((d.time +ℤ gap) ≤ℤ mine.end))
      bounds = holds_time gap long d.time ws

      pub new_inside : is_there q mine d ≡ true
      new_inside = there_is q gap is mine d ∙ (λ i. itself d.key i && itself_inside d.time gap mine.start mine.end long bounds.0 bounds.1 i)

      pub mine_live : live mine ≡ true
      mine_live = ends_after (mark q past) d.time q.clock.lateness gap mine.end long prompt bounds.1

      -- what is put there are the records of the session
      pub put_records : records (with_record d (joined_all linked)) ≡ records_at q past mine (cond (is_there q mine d) (d ∷ contents q past mine) (contents q past mine))
      put_records =
          let h = all_panes_with q gap is long past d.key mine refl d ws (apart-filter gap (links gap d.time) (sessions_of gap ds d.key) (sessions_apart gap long (times_of gap ds d.key))) in
          let joined : filter (is_there q mine) ds ≡ filter (is_in_any d.key ws) ds = joined_contents q gap is long past d.key mine refl d.time in
          let new : Datum → Bool = λ x. not (is_shown q past mine x) in
          let fresh : new d ≡ true = ap not (not_shown_yet q past mine d turn) in
          ap (λ (es : List (Place × Kept)). records (with_record d (joined_all es))) kept_linked
          ∙ (λ i. (h.0 i, h.1 i))
          ∙ sym (
          ap (λ (b : Bool). records_at q past mine (cond b (d ∷ contents q past mine) (contents q past mine))) new_inside
          ∙ ap (λ (c : List Datum). records_at q past mine (d ∷ c)) joined
          ∙ (λ i. (d ∷ filter (is_in_any d.key ws) ds, cond (fresh i) (d ∷ filter new (filter (is_in_any d.key ws) ds)) (filter new (filter (is_in_any d.key ws) ds))))
          ∙ (λ i. (d ∷ filter (is_in_any d.key ws) ds, d ∷ filter-filter new (is_in_any d.key ws) ds i))
          )

      module _ (e : Event) (same : mark q (e ∷ past) ≡ mark q past) (selects : selection_of q past e ≡ d ∷ []) where
        pub contents_more : (p : Place) → contents q (e ∷ past) p ≡ cond (is_there q p d) (d ∷ contents q past p) (contents q past p)
        contents_more p = ap (λ (sel : List Datum). filter (is_there q p) (sel ++ ds)) selects

        pub places_more : (p : Place) → among p (places q (e ∷ past)) ≡ (eq_by_cmp place_cmp p mine || (not (is_linked gap d p) && is_session gap ds p))
        places_more p =
            among_places (e ∷ past) p
            ∙ ap (λ (sel : List Datum). is_session gap (sel ++ ds) p) selects
            ∙ session_after gap long ds d p

        -- the held panes with a selected record more, before they fire, where the record's session keeps what it should
        pub merged-kept : with_record d (joined_all linked) ≡ kept_of q past mine (contents q (e ∷ past) mine) → merged_session gap d (kept q past) ≡ map (kept_in q past) (held q (e ∷ past))
        merged-kept whole =
            let put_in : Kept = with_record d (joined_all linked) in
            let stay : Place → Bool = λ p. not (is_linked gap d p) in
            same_entries place_cmp places_total places_exact _ _
            (is_sorted-put place_cmp places_total (session_with gap d linked) put_in (where_key place_cmp stay (kept q past)) (is_sorted-where_key place_cmp stay (kept q past) (is_sorted-kept q past)))
            (is_sorted-keyed (kept_of q past) (held q (e ∷ past)) (is_sorted-held q (e ∷ past)))
            (λ p.
            find-put place_cmp places_total p (session_with gap d linked) put_in (where_key place_cmp stay (kept q past))
            ∙ ap (λ (r : Place). cond (eq_by_cmp place_cmp p r) (Some put_in) (find place_cmp p (where_key place_cmp stay (kept q past)))) joined_at
            ∙ ap (λ (o : Option Kept). cond (eq_by_cmp place_cmp p mine) (Some put_in) o)
            (find-where_key place_cmp stay p (λ x tie. ap stay (sym (places_exact p x tie))) (kept q past)
            ∙ ap (λ (o : Option Kept). cond (stay p) o None) (find-kept q past p ∙ ap (λ (b : Bool). cond (live p) (cond b (Some (kept_of q past p (contents q past p))) None) None) (among_places past p)))
            ∙ settled (eq_by_cmp place_cmp p mine) (is_linked gap d p) (live p) (is_session gap ds p) (is_there q p d) put_in (kept_of q past p) d (contents q past p)
            (λ t. let r : mine ≡ p = sym (tie_is p mine t) in (ap live (sym r) ∙ mine_live, whole ∙ ap (kept_of q past mine) (contents_more mine) ∙ ap (λ (x : Place). kept_of q past x (cond (is_there q x d) (d ∷ contents q past x) (contents q past x))) r))
            (λ there apart. outside p apart)
            ∙ sym (
            find-keyed (kept_of q past) p (held q (e ∷ past))
            ∙ ap (option_map (kept_of q past p)) (
            find-held q (e ∷ past) p
            ∙ (λ i. cond (is_live_at q (same i) p) (cond (places_more p i) (Some (contents_more p i)) None) None)
            )
            ))
          where
            outside : (p : Place) → is_linked gap d p ≡ false → is_there q p d ≡ false
            outside p apart = elim (is_there q p d) as (λ b. is_there q p d ≡ b → b ≡ false) [
              | true ↦ λ h. sym (inside_links gap long ds d p (sym (there_is q gap is p d) ∙ h)) ∙ apart
              | false ↦ λ h. refl
            ] refl

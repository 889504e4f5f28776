-- Once a selected record is put in, the panes that it is in are those at the windows that it entered.
use Rattle.std.proofs.Common.{◌≡◌, ℕ, Bool, true, false, ◌&&◌, ◌||◌, not, List, [], ◌∷◌, map, length, ℤ, pos, ◌≤ℤ◌, Option, Some, None, Ok, IsTrue, refl, sym, ap, subst, ◌∙◌, arith}
use Rattle.std.proofs.lemmas.Bool.{true≢false}
use Rattle.std.specs.Prelude.{filter}
use Rattle.std.specs.List.{AllByRecursion}
use Rattle.std.specs.Int.{int_max, int_min}
use Rattle.std.specs.Ordering.{eq_by_cmp}
use Rattle.wsm_record.specs.declared.event.Value.{Value}
use Rattle.wsm_record.specs.Event.{Event, Record}
use Rattle.wsm_windows.specs.declared.window.Window.{Window}
use Rattle.wsm_windows.specs.declared.window.Shape.{Shape}
use Rattle.wsm_windows.specs.declared.window.Shape.TheVariants.{Fixed, Sliding, Session}
use Rattle.wsm_windows.specs.Windows.{window, IsShape}
use Rattle.wsm_windows.specs.Life.{live_windows_of}
use Rattle.wsm_windows.specs.declared.place.Place.{Place}
use Rattle.wsm_windows.specs.Places.{place_cmp, at, window_of}
use Rattle.wsm_windows.proofs.Places.{tie_is}
use Rattle.wsm_semantics.specs.Query.{Query, Datum, mark, verdict_on, selected}
use Rattle.wsm_semantics.specs.Panes.{is_there, places, held}
use Rattle.wsm_semantics.specs.Kept as kept
use Rattle.wsm_semantics.specs.Kept.{Kept, kept_in, is_linked}
use Rattle.wsm_semantics.specs.Summaries.{Pane, linked, session_with, summaries}
use Rattle.wsm_semantics.specs.Replay.{datum}
use Rattle.wsm_semantics.proofs.Lists.{all-each}
use Rattle.wsm_semantics.proofs.Tables.{among}
use Rattle.wsm_semantics.proofs.Assigned.{IsAssigned, own}
use Rattle.wsm_semantics.proofs.AssignedStep.{grid_of}
use Rattle.wsm_semantics.proofs.Each.{map-all}
use Rattle.wsm_semantics.proofs.Images.{where-summaries}
use Rattle.wsm_semantics.proofs.KeptLaw.{gap_is_long}
use Rattle.wsm_semantics.proofs.Effects.{selects_one}
use Rattle.wsm_semantics.proofs.KeptTurns.{prompt}
use Rattle.wsm_semantics.proofs.SessionPlaces.{there_is, inside_links, is_session}
use Rattle.wsm_semantics.proofs.SessionStep.{mine, joined_at, new_inside, places_more}
use Rattle.wsm_semantics.proofs.HeldPanes.{IsHeldPane, held_panes}
use Rattle.wsm_program.specs.Program.{Program, is_program}
use Rattle.wsm_program.specs.declared.program.Costs.{Costs}
use Rattle.wsm_rules.specs.Rules.{judge}
use Rattle.wsm_rules.proofs.Lawful.{lawful as program_lawful}
use Rattle.wsm_machine.specs.Meaning.{query_of, plan_of, selects}
use Rattle.wsm_machine.proofs.CountedSessions.{sessions_by_event}
use Rattle.wsm_panes.specs.Held.{session_entered}
use Rattle.wsm_firing.specs.ByRecord.{is_among, places_entered, windows_of_record}
use Rattle.wsm_engine.proofs.HeldByHistory.{Panes, kept_panes}
use Rattle.wsm_engine.proofs.RecordRoom.{now, now_held}

-- where a session takes a record in, it is the session
one_session : (same there linked : Bool) → (same ≡ true → there ≡ true) → (there ≡ true → linked ≡ true) → (old : Bool) → (same || (not linked && old)) ≡ true → there ≡ (same || false)
one_session true there linked f g old h = f refl
one_session false true linked f g old h = absurd (true≢false (sym h ∙ (λ i. not (g refl i) && old)))
one_session false false linked f g old h = refl

module _ (p : Program) (costs : Costs) (judged : judge p ≡ Ok costs) (lawful : IsTrue (is_program p)) (past : List Event)
    (k : ℕ) (t : ℤ) (vs : List Value) (taken : verdict_on (query_of p) past (Record (Some k) t vs) ≡ None) (chosen : selects p k vs ≡ true) where
  abbrev q : Query
  q = query_of p

  abbrev e : Event
  e = Record (Some k) t vs

  abbrev d : Datum
  d = datum (length past) (mark q past) k t vs

  abbrev es : Panes
  es = kept_panes p costs judged lawful past

  -- the record by its key and time alone
  abbrev bare : Datum
  bare = datum 0 (mark q past) k t []

  abbrev session : Option Window
  session = session_entered p.header.shape (datum 0 (pos 0) k t []) es

  -- the session by what is kept of records
  session_is : (gap : ℤ) (parts : List (Place × Kept)) → session_with gap (datum 0 (pos 0) k t []) (summaries (plan_of p) p.header.mode parts) ≡ kept.session_with gap d parts
  session_is gap [] = refl
  session_is gap (x ∷ parts) = ap (λ (r : Place). at k (window (int_min x.0.start r.start) (int_max x.0.end r.end))) (session_is gap parts)

  joined : (gap : ℤ) → session_with gap (datum 0 (pos 0) k t []) (linked gap (datum 0 (pos 0) k t []) es) ≡ kept.session_with gap d (filter (λ x. is_linked gap d x.0) (kept.kept q past))
  joined gap = ap (session_with gap (datum 0 (pos 0) k t [])) (where-summaries (plan_of p) p.header.mode (is_linked gap d) (kept.kept q past)) ∙ session_is gap (filter (λ x. is_linked gap d x.0) (kept.kept q past))

  ok : IsShape q.shape
  ok = (program_lawful p lawful).shape

  -- a place with records is one that the record is in exactly where it is one of the record's places
  at_place : (sh : Shape) → q.shape ≡ sh → (r : Place) → among r (places q (e ∷ past)) ≡ true
      → is_there q r bare ≡ is_among (map (at k) (windows_of_record sh q.clock.lateness (mark q past) t (session_entered sh (datum 0 (pos 0) k t []) es))) r
  at_place (Fixed size) is r placed =
      let assigned : IsAssigned q.shape = subst IsAssigned (sym is) tt in
      sym (own q.shape q.clock.lateness ok assigned r (grid_of q ok assigned (e ∷ past) r placed) bare) ∙ ap (λ (sh : Shape). among r (map (at k) (live_windows_of sh t q.clock.lateness (mark q past)))) is
  at_place (Sliding size period) is r placed =
      let assigned : IsAssigned q.shape = subst IsAssigned (sym is) tt in
      sym (own q.shape q.clock.lateness ok assigned r (grid_of q ok assigned (e ∷ past) r placed) bare) ∙ ap (λ (sh : Shape). among r (map (at k) (live_windows_of sh t q.clock.lateness (mark q past)))) is
  at_place (Session gap) is r placed =
      let long : pos 1 ≤ℤ gap = gap_is_long q gap is ok in
      let in_time = prompt q past (sessions_by_event p lawful) gap is k t vs taken in
      let own_place : Place = mine q gap is long past d in_time in
      one_session (eq_by_cmp place_cmp r own_place) (is_there q r bare) (is_linked gap d r)
      (λ tie. there_is q gap is r bare ∙ sym (there_is q gap is r d) ∙ subst (λ (x : Place). is_there q x d ≡ true) (sym (tie_is r own_place tie)) (new_inside q gap is long past d in_time (omega arith)))
      (λ there. inside_links gap long (selected q past) d r (sym (there_is q gap is r bare) ∙ there))
      (is_session gap (selected q past) r)
      (sym (places_more q gap is long past d in_time (omega arith) e refl (selects_one q past k t vs taken chosen) r) ∙ placed)
      ∙ ap (λ (x : Place). eq_by_cmp place_cmp r (at k (window_of x)) || false) (sym (joined gap ∙ joined_at q gap is long past d in_time))

  -- of each pane that is held now
  pub inside_is : AllByRecursion (λ x. is_there (query_of p) x.0 (datum 0 (mark (query_of p) past) k t []) ≡ is_among (places_entered p (mark (query_of p) past) k t (session_entered p.header.shape (datum 0 (pos 0) k t []) (kept_panes p costs judged lawful past))) x.0) (now p costs judged lawful past k t vs taken)
  inside_is =
      let Inside : Place × Pane (List Value) → Type 0 = λ x. is_there q x.0 bare ≡ is_among (places_entered p (mark q past) k t session) x.0 in
      subst (AllByRecursion Inside) (sym (now_held p costs judged lawful past k t vs taken chosen))
      (map-all Inside _ (map (kept_in q past) (held q (e ∷ past)))
      (map-all _ (kept_in q past) (held q (e ∷ past))
      (all-each (IsHeldPane q (e ∷ past)) _ (held q (e ∷ past)) (λ x pane. at_place p.header.shape refl x.0 pane.placed) (held_panes q ok (sessions_by_event p lawful) (e ∷ past)))))

-- What stands for a pane after an event: what it fires over, where it fires; else what stood for the
-- panes that it took in, joined.
use Rattle.std.proofs.Common.{◌≡◌, Bool, true, false, ◌&&◌, cond, List, [], ◌∷◌, ◌++◌, map, length, Option, Some, None, refl, sym, ap, subst, ◌∙◌, append-nil}
use Rattle.std.proofs.lemmas.Bool.{and_parts, and_from, or_left, false_from_ne_true, or_right}
use Rattle.std.specs.Prelude.{filter, filter_map}
use Rattle.std.specs.List.{AllByRecursion, list_any, cons_option}
use Rattle.std.specs.Ordering.{eq_by_cmp}
use Rattle.std.specs.FinMap.Entries.{find}
use Rattle.std.proofs.lemmas.Option.{same_Some}
use Rattle.wsm_record.specs.Event.{Event}
use Rattle.wsm_windows.specs.declared.window.PaneKind.{PaneKind}
use Rattle.wsm_windows.specs.declared.place.Place.{Place}
use Rattle.wsm_windows.specs.Places.{place_cmp, window_of}
use Rattle.wsm_windows.proofs.Places.{tie_is}
use Rattle.wsm_semantics.specs.Query.{Query, Datum, selected, selection_of}
use Rattle.wsm_semantics.specs.Panes.{places, is_there, contents, panes}
use Rattle.wsm_semantics.specs.Firings.{Firing, holds, shows, firing_of, firing_set, firings, firings_so_far}
use Rattle.wsm_semantics.specs.StandingFirings.{is_within, candidates, greatest_of, standing}
use Rattle.wsm_semantics.specs.Kept.{Firing as Stood, stands_by, stands_in, fired_kept}
use Rattle.wsm_semantics.proofs.Lists.{IsNonEmpty, all-each, some_pass}
use Rattle.wsm_semantics.proofs.Tables.{among, find-with_contents, kept_of}
use Rattle.wsm_semantics.proofs.Each.{passed, all-any, map-each, map-map, same_answers, none_of, all-append, all-after, all-both, all-passed, filter-append, filter-each, filter_map-all, list_any-more, some_of}
use Rattle.wsm_semantics.proofs.MergedRecords.{holds-filter, selected_falls}
use Rattle.wsm_semantics.proofs.Within.{Within, IsPart, within, is_within_by, itself_within, one_held}
use Rattle.wsm_semantics.proofs.ShownPanes.{does, firings_are, kind_of, unshown_of}
use Rattle.wsm_semantics.proofs.StandingFirings.{Status, status_of, stands_as, stands-status, greatest-fired, some_stands, AreApart, EachApart, status-parts, joined_stands, joined_statuses, stands-joined_all}
use Rattle.wsm_semantics.proofs.FiringsSoFar.{PlacesLaw, IsOf, IsFiring, IsFilled, fires_as, not_some, shows_itself, shows_back, shows_on, one_home, contents_part, each_filled, each_firing}

-- what an entry that is found gives is among what all give
module _ {A B : Type 0} (g : Place × A → Option B) (t : B → Bool) (p : Place) (v : A) (y : B) (gives : g (p, v) ≡ Some y) (passes : t y ≡ true) where
  skip_one : (o : Option B) (ys : List B) → list_any t ys ≡ true → list_any t (cons_option o ys) ≡ true
  skip_one None ys h = h
  skip_one (Some z) ys h = or_right (t z) (list_any t ys) h

  pub found_gives : (es : List (Place × A)) → find place_cmp p es ≡ Some v → list_any t (filter_map g es) ≡ true
  found_gives [] h = absurd (not_some v (sym h))
  found_gives (e ∷ es) h =
      elim (eq_by_cmp place_cmp p e.0) as (λ b. eq_by_cmp place_cmp p e.0 ≡ b → cond b (Some e.1) (find place_cmp p es) ≡ Some v → list_any t (filter_map g (e ∷ es)) ≡ true) [
        | true ↦ λ same is.
            let key : e.0 ≡ p = sym (tie_is p e.0 same) in
            let value : e.1 ≡ v = same_Some e.1 v is in
            let gives_e : g e ≡ Some y = (λ i. g (key i, value i)) ∙ gives in
            ap (λ (o : Option B). list_any t (cons_option o (filter_map g es))) gives_e ∙ or_left _ _ passes
        | false ↦ λ other is. skip_one (g e) (filter_map g es) (found_gives es is)
      ] refl h

-- what the firings so far come to for a place with its contents
abbrev pub status_in : Query → List Event → Place → List Datum → Status
status_in q past p all = status_of (candidates q p all (firings_so_far q past))

pub stands_as_status : (q : Query) (past : List Event) (p : Place) (all : List Datum) → stands_in q past p all ≡ stands_as (status_in q past p all)
stands_as_status q past p all = let cs : List Firing = candidates q p all (firings_so_far q past) in stands-status cs (greatest_of cs)

-- ---- on the turn of an event

abbrev pub AreDistinct : List Place → Type 0
AreDistinct [] = Unit {0}
AreDistinct (r ∷ rs) = AllByRecursion (λ s. r ≡ s → ⊥) rs × AreDistinct rs

-- a place of before, whose records are now a place's
abbrev pub IsTakenIn : Query → List Event → Event → Place → Place → Type 0
IsTakenIn q past e p r = (among r (places q past) ≡ true) × (shows q.shape p r ≡ true) × Within (contents q past r) (contents q (e ∷ past) p)

-- the places of before that a place takes in, each once: no other has a record of it
pub record TakesIn (q : Query) (past : List Event) (e : Event) (p : Place) (rs : List Place) : Type 0 where
  pub each : AllByRecursion (IsTakenIn q past e p) rs
  pub distinct : AreDistinct rs
  pub whole : (r : Place) → among r (places q past) ≡ true → shows q.shape p r ≡ true → (d : Datum) → is_there q r d ≡ true → is_there q p d ≡ true → among r rs ≡ true

module _ (q : Query) (law : PlacesLaw q) (past : List Event) (e : Event) (p : Place) (placed : among p (places q (e ∷ past)) ≡ true) where
  abbrev all : List Datum
  all = contents q (e ∷ past) p

  -- what it fires as, and over
  abbrev kind : Option PaneKind
  kind = kind_of q past e p all

  abbrev set : List Datum
  set = firing_set q.mode all (unshown_of q past p all)

  -- the firings that may stand for it
  abbrev may_stand : Firing → Bool
  may_stand f = shows q.shape p f.place && is_within f.contents all

  -- of this turn's firings its own alone may stand for it
  own_firings : AllByRecursion (λ f. may_stand f ≡ true → does q past e (p, all) ≡ Some f) (firings q past e)
  own_firings =
      subst (AllByRecursion (λ f. may_stand f ≡ true → does q past e (p, all) ≡ Some f)) (sym (firings_are q past e))
      (filter_map-all (IsFilled q (e ∷ past)) (λ f. may_stand f ≡ true → does q past e (p, all) ≡ Some f) (does q past e)
      (λ r h f is k.
      let of_r : IsOf q past r.0 r.1 f = fires_as q past e r.0 r.1 f is in
      let parts = and_parts _ _ k in
      let same : p ≡ r.0 = one_home q law (e ∷ past) p r.0 placed h.0.1
      (ap (shows q.shape p) (sym of_r.place) ∙ parts.0)
      r.1 h.1 (subst (IsPart (selected q (e ∷ past))) (sym h.0.0) (contents_part q (e ∷ past) r.0))
      (λ d held. within f.contents all parts.1 d (ap (λ (xs : List Datum). holds d xs) of_r.contents ∙ held))
      (λ d held. ap (λ (xs : List Datum). holds d xs) (sym h.0.0) ∙ held) in
      (λ i. does q past e (same i, contents q (e ∷ past) (same i))) ∙ ap (λ (c : List Datum). does q past e (r.0, c)) (sym h.0.0) ∙ is)
      (panes q (e ∷ past)) (each_filled q law (e ∷ past)))

  its_own : (f : Firing) → IsOf q past p all f → may_stand f ≡ true
  its_own f of_p = and_from _ _ (ap (shows q.shape p) of_p.place ∙ shows_itself q.shape p) (ap (λ (xs : List Datum). is_within xs all) of_p.contents ∙ itself_within all)

  -- its firing, of a kind
  abbrev pub firing_as : PaneKind → Firing
  firing_as k = record { turn = length past; kind = k; place = p; contents = all; fired = set }

  -- where it fires, this firing stands for it
  pub stands-now : (k : PaneKind) → kind ≡ Some k → standing q (firings_so_far q (e ∷ past)) p all ≡ Some (firing_as k)
  stands-now k is =
      let before : List Firing = filter may_stand (firings_so_far q past) in
      let now : List Firing = filter may_stand (firings q past e) in
      let f : Firing = firing_as k in
      let fires : does q past e (p, all) ≡ Some f = ap (firing_of (length past) p all set) is in
      ap greatest_of (filter-append may_stand (firings_so_far q past) (firings q past e))
      ∙ greatest-fired f before now
      (all-passed (λ g. may_stand g ≡ true → does q past e (p, all) ≡ Some g) (λ g. g ≡ f) may_stand (λ g own may. same_Some g f (sym (own may) ∙ fires)) (firings q past e) own_firings)
      (some_pass may_stand (firings q past e)
      (ap (list_any may_stand) (firings_are q past e)
      ∙ found_gives (does q past e) may_stand p all f fires (its_own f (fires_as q past e p all f fires)) (panes q (e ∷ past))
      (find-with_contents (contents q (e ∷ past)) p (places q (e ∷ past)) ∙ ap (λ (b : Bool). cond b (Some all) None) placed)))
      (all-append (λ g. is_within g.contents all ≡ true) before now (each_inside (firings_so_far q past)) (each_inside (firings q past e)))
    where
      each_inside : (fs : List Firing) → AllByRecursion (λ g. is_within g.contents all ≡ true) (filter may_stand fs)
      each_inside fs = all-each (λ g. may_stand g ≡ true) (λ g. is_within g.contents all ≡ true) (filter may_stand fs) (λ g may. (and_parts (shows q.shape p g.place) (is_within g.contents all) may).1) (passed may_stand fs)

  stands-firing : (k : PaneKind) → kind ≡ Some k → stands_in q (e ∷ past) p all ≡ Stood (window_of p) set
  stands-firing k is =
      let cs : List Firing = filter may_stand (firings_so_far q (e ∷ past)) in
      stands-status cs (greatest_of cs) ∙ ap stands_as (some_stands cs (firing_as k) (stands-now k is))

  -- where it doesn't, those that may stand for it are those that could
  same_candidates : kind ≡ None → filter may_stand (firings_so_far q (e ∷ past)) ≡ filter may_stand (firings_so_far q past)
  same_candidates none =
      filter-append may_stand (firings_so_far q past) (firings q past e)
      ∙ ap (λ (cs : List Firing). filter may_stand (firings_so_far q past) ++ cs) (none_of may_stand (firings q past e)
      (all-each (λ f. may_stand f ≡ true → does q past e (p, all) ≡ Some f) (λ f. may_stand f ≡ false) (firings q past e)
      (λ f own. false_from_ne_true (may_stand f) (λ k. not_some f (sym (own k) ∙ ap (firing_of (length past) p all set) none))) own_firings))
      ∙ append-nil _

  stands-quiet : kind ≡ None → stands_in q (e ∷ past) p all ≡ stands_in q past p all
  stands-quiet none = ap (λ (cs : List Firing). stands_by cs (greatest_of cs)) (same_candidates none)

  pub stands-still : kind ≡ None → standing q (firings_so_far q (e ∷ past)) p all ≡ standing q (firings_so_far q past) p all
  stands-still none = ap greatest_of (same_candidates none)

  -- what stands for it afterwards
  pub stands-after : (fired_kept q.mode p kind (kept_of q past p all)).stands ≡ stands_in q (e ∷ past) p all
  stands-after = pick kind refl where
    pick : (k : Option PaneKind) → kind ≡ k → (fired_kept q.mode p k (kept_of q past p all)).stands ≡ stands_in q (e ∷ past) p all
    pick None is = sym (stands-quiet is)
    pick (Some k) is = sym (stands-firing k is)

  module _ (rs : List Place) (takes : TakesIn q past e p rs) where
    -- the firings that could stand for a place of before
    abbrev could_stand : Place → Firing → Bool
    could_stand r f = shows q.shape r f.place && is_within f.contents (contents q past r)

    -- a record that is told by its turn where it stood and where it stands
    abbrev IsTold : Place → Datum → Type 0
    IsTold r x = (holds x (contents q past r) ≡ is_there q r x) × (holds x all ≡ is_there q p x)

    in_common : (r : Place) (xs : List Datum) → IsNonEmpty xs → IsPart (selected q past) xs → Within xs (contents q past r) → Within xs all → (x : Datum) × (is_there q r x ≡ true) × (is_there q p x ≡ true)
    in_common r xs some part in_r in_p =
        let (x, tells, held) = one_held (IsTold r) (selected q past) xs
        (all-both _ _ (IsTold r) (λ x a b. (a, b)) (selected q past) (holds-filter (is_there q r) (selected q past) (selected_falls q past))
        (all-after (λ x. holds x all ≡ is_there q p x) (selection_of q past e) (selected q past) (holds-filter (is_there q p) (selected q (e ∷ past)) (selected_falls q (e ∷ past)))))
        part some in
        (x, sym tells.0 ∙ in_r x held, sym tells.1 ∙ in_p x held)

    -- the firings that may stand for it are those that could for one that it took in
    taken_firings : (f : Firing) → IsFiring q past f → may_stand f ≡ list_any (λ r. could_stand r f) rs
    taken_firings f of_f = same_answers _ _
        (λ k.
        let parts = and_parts _ _ k in
        let (x, there, here) = in_common of_f.home f.contents of_f.filled of_f.part of_f.inside (within f.contents all parts.1) in
        list_any-more (IsTakenIn q past e p) (eq_by_cmp place_cmp of_f.home) (λ r. could_stand r f)
        (λ r _ tie. ap (λ (r : Place). could_stand r f) (sym (tie_is of_f.home r tie)) ∙ and_from _ _ of_f.shown (is_within_by _ _ of_f.inside))
        rs takes.each
        (takes.whole of_f.home of_f.placed (shows_on q.shape p f.place of_f.home parts.0 (shows_back q.shape of_f.home f.place of_f.shown)) x there here))
        (λ k.
        let (r, taken, could) = some_of (IsTakenIn q past e p) (λ r. could_stand r f) rs takes.each k in
        let parts = and_parts _ _ could in
        and_from _ _ (shows_on q.shape p r f.place taken.1 parts.0) (is_within_by _ _ (λ d held. taken.2 d (within f.contents (contents q past r) parts.1 d held))))

    -- a firing within the records of two places that it took in tells them to be one
    one_taken : (r s : Place) → IsTakenIn q past e p r → IsTakenIn q past e p s → (f : Firing) → IsFiring q past f → Within f.contents (contents q past r) → Within f.contents (contents q past s) → r ≡ s
    one_taken r s of_r of_s f of_f = one_home q law past r s of_r.0 of_s.0 (shows_on q.shape r p s (shows_back q.shape p r of_r.1) of_s.1) f.contents of_f.filled of_f.part

    each_apart : (ss : List Place) → AllByRecursion (IsTakenIn q past e p) ss → AreDistinct ss → EachApart (IsFiring q past) (firings_so_far q past) (each_firing q law past) could_stand ss
    each_apart [] h k = tt
    each_apart (r ∷ ss) h k = (
      all-both (IsTakenIn q past e p) (λ s. r ≡ s → ⊥) (λ s. AreApart (IsFiring q past) (could_stand r) (could_stand s))
          (λ s of_s differ f g of_f of_g could_f could_g.
          let f_in = within f.contents (contents q past r) (and_parts _ _ could_f).1 in
          let g_in = within g.contents (contents q past s) (and_parts _ _ could_g).1 in (
            false_from_ne_true _ (λ less. differ (one_taken r s h.0 of_s g of_g (λ d held. f_in d (within g.contents f.contents less d held)) g_in)),
            false_from_ne_true _ (λ less. differ (one_taken r s h.0 of_s f of_f f_in (λ d held. g_in d (within f.contents g.contents less d held)))),
          ))
          ss h.1 k.0,
      each_apart ss h.1 k.1,
    )

    -- what stood for those that it took in stood for it, joined
    pub status-taken : status_in q past p all ≡ joined_statuses (map (λ r. status_in q past r (contents q past r)) rs)
    status-taken =
        ap status_of (filter-each may_stand (λ f. list_any (λ r. could_stand r f) rs) (firings_so_far q past)
        (all-each (IsFiring q past) (λ f. may_stand f ≡ list_any (λ r. could_stand r f) rs) (firings_so_far q past) taken_firings (each_firing q law past)))
        ∙ status-parts (IsFiring q past) (firings_so_far q past) (each_firing q law past) could_stand rs (each_apart rs takes.each takes.distinct)

    pub stands-taken : stands_in q past p all ≡ joined_stands (map (λ r. stands_in q past r (contents q past r)) rs)
    stands-taken =
        stands_as_status q past p all
        ∙ ap stands_as status-taken
        ∙ stands-joined_all (map (λ r. status_in q past r (contents q past r)) rs)
        ∙ ap joined_stands (map-map stands_as (λ r. status_in q past r (contents q past r)) rs
        ∙ map-each (λ r. stands_as (status_in q past r (contents q past r))) (λ r. stands_in q past r (contents q past r)) rs
        (all-any (λ r. stands_as (status_in q past r (contents q past r)) ≡ stands_in q past r (contents q past r)) (λ r. sym (stands_as_status q past r (contents q past r))) rs))

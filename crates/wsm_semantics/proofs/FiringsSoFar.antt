-- All firings of a history: the contents of each are within those of one pane of now, which it shows;
-- and a record is shown by those that have it.
use Rattle.std.proofs.Common.{◌≡◌, ℕ, suc, ◌<◌, Bool, true, false, ◌&&◌, ◌||◌, cond, List, [], ◌∷◌, length, Option, Some, None, refl, sym, ap, subst, ◌∙◌, arith}
use Rattle.std.proofs.lemmas.Bool.{true≢false, and_parts, eqb-true}
use Rattle.std.proofs.lemmas.Bool.Decides.{nat_tests}
use Rattle.std.specs.Prelude.{nat_eq, nat_lt}
use Rattle.std.specs.Option.{is_some}
use Rattle.std.specs.List.{AllByRecursion, list_any}
use Rattle.std.specs.Ordering.{eq_by_cmp}
use Rattle.std.proofs.lemmas.Option.{same_Some}
use Rattle.wsm_record.specs.Event.{Event}
use Rattle.wsm_windows.specs.declared.window.PaneKind.{PaneKind}
use Rattle.wsm_windows.specs.declared.window.Shape.{Shape}
use Rattle.wsm_windows.specs.declared.window.Shape.TheVariants.{Fixed, Sliding, Session}
use Rattle.wsm_windows.specs.declared.place.Place.{Place}
use Rattle.wsm_windows.specs.Places.{place_cmp}
use Rattle.wsm_windows.proofs.Places.{tie_is}
use Rattle.wsm_semantics.specs.Query.{Query, Datum, selected, selection_of}
use Rattle.wsm_semantics.specs.Panes.{places, is_there, contents, panes}
use Rattle.wsm_semantics.specs.Firings.{Firing, holds, is_shown, shows, firing_of, firing_set, firings, firings_by, firings_so_far}
use Rattle.wsm_semantics.proofs.Lists.{IsNonEmpty, filter-all, all-each}
use Rattle.wsm_semantics.proofs.Tables.{among}
use Rattle.wsm_semantics.proofs.Assigned.{tied}
use Rattle.wsm_semantics.proofs.Each.{itself, same_answers, passed, all-swap, all-both, all-append, filter_map-all}
use Rattle.wsm_semantics.proofs.MergedRecords.{selected_falls, holds-filter}
use Rattle.wsm_semantics.proofs.Within.{Within, IsPart, filter_part, part_stays, wider, one_held}
use Rattle.wsm_semantics.proofs.ShownPanes.{IsPane, ShowsOwn, each_pane, does, firings_are, kind_of, unshown_of}

-- ---- which places show one another's records

turned : (j k : ℕ) → nat_eq j k ≡ true → nat_eq k j ≡ true
turned j k h = grind (arith, nat_tests)

onward : (j k l : ℕ) → nat_eq j k ≡ true → nat_eq k l ≡ true → nat_eq j l ≡ true
onward j k l h g = grind (arith, nat_tests)

pub shows_itself : (shape : Shape) (p : Place) → shows shape p p ≡ true
shows_itself (Fixed size) p = tied p p refl
shows_itself (Sliding size period) p = tied p p refl
shows_itself (Session gap) p = itself p.key

pub shows_back : (shape : Shape) (p r : Place) → shows shape p r ≡ true → shows shape r p ≡ true
shows_back (Fixed size) p r h = tied r p (sym (tie_is p r h))
shows_back (Sliding size period) p r h = tied r p (sym (tie_is p r h))
shows_back (Session gap) p r h = turned p.key r.key h

pub shows_on : (shape : Shape) (p r s : Place) → shows shape p r ≡ true → shows shape r s ≡ true → shows shape p s ≡ true
shows_on (Fixed size) p r s h g = tied p s (tie_is p r h ∙ tie_is r s g)
shows_on (Sliding size period) p r s h g = tied p s (tie_is p r h ∙ tie_is r s g)
shows_on (Session gap) p r s h g = onward p.key r.key s.key h g

pub shows_key : (shape : Shape) (p r : Place) → shows shape p r ≡ true → p.key ≡ r.key
shows_key (Fixed size) p r h = ap (λ (p : Place). p.key) (tie_is p r h)
shows_key (Sliding size period) p r h = ap (λ (p : Place). p.key) (tie_is p r h)
shows_key (Session gap) p r h = eqb-true p.key r.key h

-- for places that show one another a record was shown alike
pub shown_alike : (q : Query) (past : List Event) (p r : Place) (d : Datum) → shows q.shape p r ≡ true → is_shown q past p d ≡ is_shown q past r d
shown_alike q [] p r d h = refl
shown_alike q (e ∷ past) p r d h = λ i.
    shown_alike q past p r d h i || list_any (λ f. alike f.place i && holds d f.contents) (firings_by (is_shown q past) q past e)
  where
    alike : (s : Place) → shows q.shape p s ≡ shows q.shape r s
    alike s = same_answers _ _ (λ k. shows_on q.shape r p s (shows_back q.shape p r h) k) (λ k. shows_on q.shape p r s h k)

-- a place of after an event has the records of a place
abbrev pub StaysIn : Query → List Event → Event → Place → Type 0
StaysIn q past e p = (r : Place) × (among r (places q (e ∷ past)) ≡ true) × (shows q.shape r p ≡ true) × ((d : Datum) → is_there q p d ≡ true → is_there q r d ≡ true)

-- of places that show one another's records no two have one in common
abbrev pub ShareNone : Query → Type 0
ShareNone q = (past : List Event) (p r : Place) → among p (places q past) ≡ true → among r (places q past) ≡ true → shows q.shape p r ≡ true → (d : Datum) → is_there q p d ≡ true → is_there q r d ≡ true → p ≡ r

-- the records of a place stay together
abbrev pub Stay : Query → Type 0
Stay q = (past : List Event) (e : Event) (p : Place) → among p (places q past) ≡ true → StaysIn q past e p

-- where panes are: each has records; of those that show one another's records no two have one in
-- common; and the records of one stay together
pub record PlacesLaw (q : Query) : Type 0 where
  pub filled : (past : List Event) → AllByRecursion (λ e. IsNonEmpty e.1) (panes q past)
  pub apart : ShareNone q
  pub stays : Stay q

-- ---- what a pane fires as

-- the firing of a place with its contents
pub record IsOf (q : Query) (past : List Event) (p : Place) (all : List Datum) (f : Firing) : Type 0 where
  pub turn : f.turn ≡ length past
  pub place : f.place ≡ p
  pub contents : f.contents ≡ all
  pub fired : f.fired ≡ firing_set q.mode all (unshown_of q past p all)

pub not_some : {A : Type 0} (x : A) → Some x ≡ None → ⊥
not_some x h = true≢false (ap is_some h)

pub fires_as : (q : Query) (past : List Event) (e : Event) (p : Place) (all : List Datum) (f : Firing) → does q past e (p, all) ≡ Some f → IsOf q past p all f
fires_as q past e p all f h = of_kind (kind_of q past e p all) h where
  of_kind : (k : Option PaneKind) → firing_of (length past) p all (firing_set q.mode all (unshown_of q past p all)) k ≡ Some f → IsOf q past p all f
  of_kind None h = absurd (not_some f (sym h))
  of_kind (Some kind) h =
      let is : record { turn = length past; kind = kind; place = p; contents = all; fired = firing_set q.mode all (unshown_of q past p all) } ≡ f = same_Some _ f h in
      record { turn = ap (λ (g : Firing). g.turn) (sym is); place = ap (λ (g : Firing). g.place) (sym is); contents = ap (λ (g : Firing). g.contents) (sym is); fired = ap (λ (g : Firing). g.fired) (sym is) }

-- ---- all firings so far

before_next : (m n : ℕ) → m < n → nat_lt (suc m) (suc n) ≡ true
before_next m n h = grind (arith, nat_tests)

of_this : (m n : ℕ) → m ≡ n → nat_lt (suc m) (suc n) ≡ false
of_this m n h = grind (arith, nat_tests)

-- the first events of a history, so many
abbrev pub first_of : ℕ → List Event → List Event
first_of n [] = []
first_of n (e ∷ past) = cond (nat_lt n (suc (length past))) (first_of n past) (e ∷ past)

-- a firing of a history
pub record IsFiring (q : Query) (past : List Event) (f : Firing) : Type 0 where
  pub filled : IsNonEmpty f.contents
  pub part : IsPart (selected q past) f.contents
  pub came : f.turn < length past
  pub whole : f.contents ≡ contents q (first_of (suc f.turn) past) f.place
  pub home : Place
  pub placed : among home (places q past) ≡ true
  pub shown : shows q.shape home f.place ≡ true
  pub inside : Within f.contents (contents q past home)

-- a pane with its records, which are some
abbrev pub IsFilled : Query → List Event → Place × List Datum → Type 0
IsFilled q past x = IsPane q past x × IsNonEmpty x.1

-- a record that is told by its turn where it stands
abbrev IsTold : Query → List Event → Place → Place → Datum → Type 0
IsTold q past p r x = (holds x (contents q past p) ≡ is_there q p x) × (holds x (contents q past r) ≡ is_there q r x)

pub contents_part : (q : Query) (past : List Event) (p : Place) → IsPart (selected q past) (contents q past p)
contents_part q past p = filter_part (is_there q p) (selected q past) (selected_falls q past)

module _ (q : Query) (law : PlacesLaw q) where
  -- a record of a pane is shown by the firings of this pane alone
  pub shows_own : (past : List Event) → ShowsOwn q past
  shows_own past p there =
      let ds : List Datum = selected q past in
      all-both (λ d. is_there q p d ≡ true) (λ d. (r : Place) → holds d (contents q past r) ≡ is_there q r d)
      (λ d. (r : Place) → among r (places q past) ≡ true → (shows q.shape p r && holds d (contents q past r)) ≡ eq_by_cmp place_cmp p r)
      (λ d inside held_by r r_there.
      ap (λ (b : Bool). shows q.shape p r && b) (held_by r)
      ∙ same_answers _ _
      (λ h. let (s, i) = and_parts _ _ h in tied p r (law.apart past p r there r_there s d inside i))
      (λ t. ap (λ (x : Place). shows q.shape p x && is_there q x d) (sym (tie_is p r t)) ∙ (λ i. shows_itself q.shape p i && inside i)))
      (contents q past p)
      (passed (is_there q p) ds)
      (filter-all (λ d. (r : Place) → holds d (contents q past r) ≡ is_there q r d) (is_there q p) ds (all-swap (λ r d. holds d (contents q past r) ≡ is_there q r d) ds (λ r. holds-filter (is_there q r) ds (selected_falls q past))))

  -- panes that show one another's records and have some in common are one
  pub one_home : (past : List Event) (p r : Place) → among p (places q past) ≡ true → among r (places q past) ≡ true → shows q.shape p r ≡ true →
      (xs : List Datum) → IsNonEmpty xs → IsPart (selected q past) xs → Within xs (contents q past p) → Within xs (contents q past r) → p ≡ r
  one_home past p r placed_p placed_r shown xs some part in_p in_r =
      let told : AllByRecursion (IsTold q past p r) (selected q past) =
      all-both _ _ (IsTold q past p r) (λ x a b. (a, b)) (selected q past) (holds-filter (is_there q p) (selected q past) (selected_falls q past)) (holds-filter (is_there q r) (selected q past) (selected_falls q past)) in
      let (x, tells, held) = one_held (IsTold q past p r) (selected q past) xs told part some in
      law.apart past p r placed_p placed_r shown x (sym tells.0 ∙ in_p x held) (sym tells.1 ∙ in_r x held)

  -- a firing's records stay in one pane
  pub stays_firing : (past : List Event) (e : Event) (f : Firing) → IsFiring q past f → IsFiring q (e ∷ past) f
  stays_firing past e f h =
      let (r, placed, shown, inside) = law.stays past e h.home h.placed in
      record {
        filled = h.filled;
        part = part_stays q past e f.contents h.part;
        came = let came : f.turn < length past = h.came in omega arith;
        whole = h.whole ∙ sym (ap (λ (b : Bool). contents q (cond b (first_of (suc f.turn) past) (e ∷ past)) f.place) (before_next f.turn (length past) h.came));
        home = r;
        placed = placed;
        shown = shows_on q.shape r h.home f.place shown h.shown;
        inside = λ d k. wider (is_there q h.home) (is_there q r) inside (selection_of q past e) (selected q past) d (h.inside d k);
      }

  pub stays_home : (past : List Event) (e : Event) (f : Firing) (h : IsFiring q past f) → (stays_firing past e f h).home ≡ (law.stays past e h.home h.placed).0
  unfolding stays_firing
  stays_home past e f h = refl

  pub each_filled : (past : List Event) → AllByRecursion (IsFilled q past) (panes q past)
  each_filled past = all-both (IsPane q past) (λ x. IsNonEmpty x.1) (IsFilled q past) (λ x a b. (a, b)) (panes q past) (each_pane q past) (law.filled past)

  pub new_firing : (past : List Event) (e : Event) (x : Place × List Datum) → IsFilled q (e ∷ past) x → (f : Firing) → does q past e x ≡ Some f → IsFiring q (e ∷ past) f
  new_firing past e x h f is =
      let of_x : IsOf q past x.0 x.1 f = fires_as q past e x.0 x.1 f is in
      let whole : f.contents ≡ contents q (e ∷ past) x.0 = of_x.contents ∙ h.0.0 in
      record {
        filled = subst IsNonEmpty (sym of_x.contents) h.1;
        part = subst (IsPart (selected q (e ∷ past))) (sym whole) (contents_part q (e ∷ past) x.0);
        came = let now : f.turn ≡ length past = of_x.turn in omega arith;
        whole = whole ∙ (λ i. contents q (e ∷ past) (sym of_x.place i))
            ∙ sym (ap (λ (b : Bool). contents q (cond b (first_of (suc f.turn) past) (e ∷ past)) f.place) (of_this (f.turn) (length past) of_x.turn));
        home = x.0;
        placed = h.0.1;
        shown = ap (shows q.shape x.0) of_x.place ∙ shows_itself q.shape x.0;
        inside = λ d k. ap (holds d) (sym whole) ∙ k;
      }

  pub new_home : (past : List Event) (e : Event) (x : Place × List Datum) (h : IsFilled q (e ∷ past) x) (f : Firing) (is : does q past e x ≡ Some f) → (new_firing past e x h f is).home ≡ x.0
  unfolding new_firing
  new_home past e x h f is = refl

  new_firings : (past : List Event) (e : Event) → AllByRecursion (IsFiring q (e ∷ past)) (firings q past e)
  new_firings past e =
      subst (AllByRecursion (IsFiring q (e ∷ past))) (sym (firings_are q past e))
      (filter_map-all (IsFilled q (e ∷ past)) (IsFiring q (e ∷ past)) (does q past e) (new_firing past e) (panes q (e ∷ past)) (each_filled (e ∷ past)))

  pub each_firing : (past : List Event) → AllByRecursion (IsFiring q past) (firings_so_far q past)
  each_firing [] = tt
  each_firing (e ∷ past) =
      all-append (IsFiring q (e ∷ past)) (firings_so_far q past) (firings q past e)
      (all-each (IsFiring q past) (IsFiring q (e ∷ past)) (firings_so_far q past) (stays_firing past e) (each_firing past))
      (new_firings past e)

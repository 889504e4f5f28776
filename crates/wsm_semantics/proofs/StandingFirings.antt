-- Which of some firings stands: the one that has just fired with all records of its place, the only one
-- where the others are another's, or none where firings of two parts are joined.
use Rattle.std.proofs.Common.{◌≡◌, Bool, true, false, ◌||◌, cond, List, [], ◌∷◌, ◌++◌, map, Option, Some, None, refl, sym, ap, subst, ◌∙◌, ⊎_elim}
use Rattle.std.proofs.lemmas.Bool.{true≢false, and_left, and_right, or_cases, or_left, or_right, cases_Bool}
use Rattle.std.specs.Prelude.{filter}
use Rattle.std.specs.Option.{is_some}
use Rattle.std.specs.List.{AllByRecursion, last_or, list_any, list_all}
use Rattle.wsm_windows.specs.Places.{window_of}
use Rattle.wsm_semantics.specs.Firings.{Firing}
use Rattle.wsm_semantics.specs.StandingFirings.{is_within, holds_all, greatest_of}
use Rattle.wsm_semantics.specs.Kept.{Stands, Unfired, Firing as Stood, Joined, stands_by, stands_joined}
use Rattle.wsm_semantics.proofs.Lists.{IsNonEmpty, none_pass, some_pass, all-each}
use Rattle.wsm_semantics.proofs.Each.{all-passed, all_of, none_of, filter-append, each_fails, filter-each, list_all-from, list_any-more, some_of}

-- what some firings come to: none fired, one stands, or none does
pub data Status : Type 0 where
  Idle : Status
  Standing : (firing : Firing) → Status
  Parted : Status

abbrev pub status_by : List Firing → Option Firing → Status
status_by [] _ = Idle
status_by (f ∷ fs) (Some g) = Standing g
status_by (f ∷ fs) None = Parted

abbrev pub status_of : List Firing → Status
status_of cs = status_by cs (greatest_of cs)

abbrev pub status_joined : Status → Status → Status
status_joined Idle s = s
status_joined s Idle = s
status_joined _ _ = Parted

-- the firing that stands
abbrev pub picked : Status → Option Firing
picked Idle = None
picked (Standing f) = Some f
picked Parted = None

pub picked-status : (cs : List Firing) → greatest_of cs ≡ picked (status_of cs)
picked-status [] = refl
picked-status (c ∷ cs) = by_greatest (greatest_of (c ∷ cs)) where
  by_greatest : (o : Option Firing) → o ≡ picked (status_by (c ∷ cs) o)
  by_greatest None = refl
  by_greatest (Some f) = refl

-- as what is kept of a pane says it
abbrev pub stands_as : Status → Stands
stands_as Idle = Unfired
stands_as (Standing f) = Stood (window_of f.place) f.fired
stands_as Parted = Joined

pub stands-status : (cs : List Firing) (o : Option Firing) → stands_by cs o ≡ stands_as (status_by cs o)
stands-status [] o = refl
stands-status (c ∷ cs) (Some f) = refl
stands-status (c ∷ cs) None = refl

pub stands-joined : (a b : Status) → stands_as (status_joined a b) ≡ stands_joined (stands_as a) (stands_as b)
stands-joined Idle b = refl
stands-joined (Standing f) Idle = refl
stands-joined (Standing f) (Standing g) = refl
stands-joined (Standing f) Parted = refl
stands-joined Parted Idle = refl
stands-joined Parted (Standing g) = refl
stands-joined Parted Parted = refl

-- ---- lists, by tests

module _ {A : Type 0} where
  -- one of those that pass fails another test
  one_fails : (v r u : A → Bool) (xs : List A) → AllByRecursion (λ x. u x ≡ true → (v x ≡ false) × (r x ≡ true)) xs → list_any u xs ≡ true → list_all v (filter r xs) ≡ false
  one_fails v r u [] h k = absurd (true≢false (sym k))
  one_fails v r u (x ∷ xs) h k =
      ⊎_elim
      (λ e. let both = h.0 e in ap (λ (b : Bool). list_all v (cond b (x ∷ filter r xs) (filter r xs))) both.1 ∙ and_left _ _ both.0)
      (λ later.
      let rest : list_all v (filter r xs) ≡ false = one_fails v r u xs h.1 later in
      elim (r x) as (λ b. list_all v (cond b (x ∷ filter r xs) (filter r xs)) ≡ false) [ true ↦ and_right _ _ rest | false ↦ rest ])
      (or_cases _ _ k)

-- ---- the greatest

none_greatest : (fs : List Firing) → AllByRecursion (λ f. holds_all fs f ≡ false) fs → greatest_of fs ≡ None
none_greatest fs h = ap (last_or None) (none_of (holds_all fs) fs h)

-- the last of a list that ends with some that are one
last_is : (f : Firing) (o : Option Firing) (fs gs : List Firing) → AllByRecursion (λ g. g ≡ f) gs → IsNonEmpty gs → last_or o (fs ++ gs) ≡ Some f
last_is f o [] gs each (g, rest, is) = ap (last_or o) is ∙ ap (λ (g : Firing). last_or (Some g) rest) same.0 ∙ later rest same.1 where
  same : AllByRecursion (λ g. g ≡ f) (g ∷ rest)
  same = subst (AllByRecursion (λ g. g ≡ f)) is each

  later : (gs : List Firing) → AllByRecursion (λ g. g ≡ f) gs → last_or (Some f) gs ≡ Some f
  later [] h = refl
  later (g ∷ gs) h = ap (λ (g : Firing). last_or (Some g) gs) h.0 ∙ later gs h.1
last_is f o (x ∷ fs) gs each some = last_is f (Some x) fs gs each some

-- where the last of the firings are one that holds those of all, it is the greatest
pub greatest-fired : (f : Firing) (before now : List Firing) → AllByRecursion (λ g. g ≡ f) now → IsNonEmpty now → AllByRecursion (λ g. is_within g.contents f.contents ≡ true) (before ++ now) →
    greatest_of (before ++ now) ≡ Some f
greatest-fired f before now each some within_it =
    let cs : List Firing = before ++ now in
    let holds_it : holds_all cs f ≡ true = list_all-from (λ g. is_within g.contents f.contents ≡ true) (λ g. is_within g.contents f.contents) (λ g h. h) cs within_it in
    let pass : filter (holds_all cs) now ≡ now = all_of (holds_all cs) now (all-each (λ g. g ≡ f) (λ g. holds_all cs g ≡ true) now (λ g is. ap (holds_all cs) is ∙ holds_it) each) in
    ap (last_or None) (filter-append (holds_all cs) before now ∙ ap (λ (gs : List Firing). filter (holds_all cs) before ++ gs) pass)
    ∙ last_is f None (filter (holds_all cs) before) now each some

pub some_stands : (cs : List Firing) (f : Firing) → greatest_of cs ≡ Some f → status_of cs ≡ Standing f
some_stands [] f h = absurd (true≢false (sym (ap is_some h)))
some_stands (c ∷ cs) f h = ap (status_by (c ∷ cs)) h

-- ---- firings of two parts

abbrev is_fired : Status → Bool
is_fired Idle = false
is_fired (Standing f) = true
is_fired Parted = true

pub joined_idle : (s : Status) → status_joined s Idle ≡ s
joined_idle Idle = refl
joined_idle (Standing f) = refl
joined_idle Parted = refl

pub joined_unfired : (s : Stands) → stands_joined s Unfired ≡ s
joined_unfired Unfired = refl
joined_unfired (Stood w ds) = refl
joined_unfired Joined = refl

both_fired : (s r : Status) → is_fired s ≡ true → is_fired r ≡ true → status_joined s r ≡ Parted
both_fired Idle r h k = absurd (true≢false (sym h))
both_fired (Standing f) Idle h k = absurd (true≢false (sym k))
both_fired (Standing f) (Standing g) h k = refl
both_fired (Standing f) Parted h k = refl
both_fired Parted Idle h k = absurd (true≢false (sym k))
both_fired Parted (Standing g) h k = refl
both_fired Parted Parted h k = refl

some_fired : (cs : List Firing) (o : Option Firing) → IsNonEmpty cs → is_fired (status_by cs o) ≡ true
some_fired cs o (f, fs, is) = ap (λ (cs : List Firing). is_fired (status_by cs o)) is ∙ either o where
  either : (o : Option Firing) → is_fired (status_by (f ∷ fs) o) ≡ true
  either (Some g) = refl
  either None = refl

none_stands : (cs : List Firing) → IsNonEmpty cs → greatest_of cs ≡ None → status_of cs ≡ Parted
none_stands cs (f, fs, is) none = ap (status_by cs) none ∙ ap (λ (cs : List Firing). status_by cs None) is

-- no firing of the one part is within one of the other
abbrev pub AreApart : (Firing → Type 0) → (Firing → Bool) → (Firing → Bool) → Type 0
AreApart P t u = (f g : Firing) → P f → P g → t f ≡ true → u g ≡ true → (is_within g.contents f.contents ≡ false) × (is_within f.contents g.contents ≡ false)

module _ (P : Firing → Type 0) (fs : List Firing) (all : AllByRecursion P fs) where
  pub status-either : (t u : Firing → Bool) → AreApart P t u → status_of (filter (λ f. t f || u f) fs) ≡ status_joined (status_of (filter t fs)) (status_of (filter u fs))
  status-either t u apart =
      ⊎_elim
      (λ some_t. ⊎_elim (λ some_u. two some_t some_u) (λ none_u. first none_u) (cases_Bool (list_any u fs)))
      (λ none_t. second none_t)
      (cases_Bool (list_any t fs))
    where
      right_only : (gs : List Firing) → AllByRecursion (λ f. t f ≡ false) gs → AllByRecursion (λ f. (t f || u f) ≡ u f) gs
      right_only [] h = tt
      right_only (g ∷ gs) h = (ap (λ (b : Bool). b || u g) h.0, right_only gs h.1)

      left_only : (gs : List Firing) → AllByRecursion (λ f. u f ≡ false) gs → AllByRecursion (λ f. (t f || u f) ≡ t f) gs
      left_only [] h = tt
      left_only (g ∷ gs) h =
          (ap (λ (b : Bool). t g || b) h.0 ∙ elim (t g) as (λ b. (b || false) ≡ b) [ true ↦ refl | false ↦ refl ], left_only gs h.1)

      second : list_any t fs ≡ false → status_of (filter (λ f. t f || u f) fs) ≡ status_joined (status_of (filter t fs)) (status_of (filter u fs))
      second none_t =
          ap status_of (filter-each (λ f. t f || u f) u fs (right_only fs (each_fails t fs none_t)))
          ∙ sym (ap (λ (cs : List Firing). status_joined (status_of cs) (status_of (filter u fs))) (none_pass t fs none_t))

      first : list_any u fs ≡ false → status_of (filter (λ f. t f || u f) fs) ≡ status_joined (status_of (filter t fs)) (status_of (filter u fs))
      first none_u =
          ap status_of (filter-each (λ f. t f || u f) t fs (left_only fs (each_fails u fs none_u)))
          ∙ sym (joined_idle (status_of (filter t fs)))
          ∙ sym (ap (λ (cs : List Firing). status_joined (status_of (filter t fs)) (status_of cs)) (none_pass u fs none_u))

      fails_by_right : (f : Firing) → P f → t f ≡ true → list_any u fs ≡ true → holds_all (filter (λ f. t f || u f) fs) f ≡ false
      fails_by_right f of_f e some_u = one_fails (λ g. is_within g.contents f.contents) (λ f. t f || u f) u fs (told fs all) some_u where
        told : (gs : List Firing) → AllByRecursion P gs → AllByRecursion (λ g. u g ≡ true → (is_within g.contents f.contents ≡ false) × ((t g || u g) ≡ true)) gs
        told [] h = tt
        told (g ∷ gs) h = (λ k. ((apart f g of_f h.0 e k).0, or_right _ _ k), told gs h.1)

      fails_by_left : (g : Firing) → P g → u g ≡ true → list_any t fs ≡ true → holds_all (filter (λ f. t f || u f) fs) g ≡ false
      fails_by_left g of_g e some_t = one_fails (λ f. is_within f.contents g.contents) (λ f. t f || u f) t fs (told fs all) some_t where
        told : (hs : List Firing) → AllByRecursion P hs → AllByRecursion (λ f. t f ≡ true → (is_within f.contents g.contents ≡ false) × ((t f || u f) ≡ true)) hs
        told [] h = tt
        told (f ∷ hs) h = (λ k. ((apart f g h.0 of_g k e).1, or_left _ _ k), told hs h.1)

      two : list_any t fs ≡ true → list_any u fs ≡ true → status_of (filter (λ f. t f || u f) fs) ≡ status_joined (status_of (filter t fs)) (status_of (filter u fs))
      two some_t some_u =
          none_stands (filter (λ f. t f || u f) fs)
          (some_pass (λ f. t f || u f) fs (list_any-more P t (λ f. t f || u f) (λ f _ k. or_left _ _ k) fs all some_t))
          (none_greatest (filter (λ f. t f || u f) fs)
          (all-passed P (λ f. holds_all (filter (λ f. t f || u f) fs) f ≡ false) (λ f. t f || u f)
          (λ f of_f k. ⊎_elim (λ e. fails_by_right f of_f e some_u) (λ e. fails_by_left f of_f e some_t) (or_cases _ _ k))
          fs all))
          ∙ sym (both_fired _ _ (some_fired (filter t fs) _ (some_pass t fs some_t)) (some_fired (filter u fs) _ (some_pass u fs some_u)))

-- ---- firings of several parts

abbrev pub joined_stands : List Stands → Stands
joined_stands [] = Unfired
joined_stands (s ∷ ss) = stands_joined s (joined_stands ss)

abbrev pub joined_statuses : List Status → Status
joined_statuses [] = Idle
joined_statuses (s ∷ ss) = status_joined s (joined_statuses ss)

pub stands-joined_all : (ss : List Status) → stands_as (joined_statuses ss) ≡ joined_stands (map stands_as ss)
stands-joined_all [] = refl
stands-joined_all (s ∷ ss) = stands-joined s (joined_statuses ss) ∙ ap (stands_joined (stands_as s)) (stands-joined_all ss)

module _ {A : Type 0} (P : Firing → Type 0) (fs : List Firing) (all : AllByRecursion P fs) (t : A → Firing → Bool) where
  -- each part is apart from those after it
  abbrev pub EachApart : List A → Type 0
  EachApart [] = Unit {0}
  EachApart (r ∷ rs) = AllByRecursion (λ s. AreApart P (t r) (t s)) rs × EachApart rs

  none_left : (gs : List Firing) → filter (λ f. false) gs ≡ []
  none_left [] = refl
  none_left (g ∷ gs) = none_left gs

  pub status-parts : (rs : List A) → EachApart rs → status_of (filter (λ f. list_any (λ r. t r f) rs) fs) ≡ joined_statuses (map (λ r. status_of (filter (t r) fs)) rs)
  status-parts [] apart = ap status_of (none_left fs)
  status-parts (r ∷ rs) apart =
      status-either P fs all (t r) (λ f. list_any (λ s. t s f) rs)
      (λ f g of_f of_g e k. let (s, apart_s, is) = some_of (λ s. AreApart P (t r) (t s)) (λ s. t s g) rs apart.0 k in apart_s f g of_f of_g e is)
      ∙ ap (status_joined (status_of (filter (t r) fs))) (status-parts rs apart.1)

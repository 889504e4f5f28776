-- Sessions: what a selected record withdraws was written of the firings that stood for those that it is
-- linked to, where its session fires or two of them had fired.
use Rattle.std.proofs.Common.{◌≡◌, ◌⊎◌, inl, inr, ℕ, ◌≤◌, Bool, true, false, ◌&&◌, ◌||◌, cond, not, List, [], ◌∷◌, ◌++◌, map, length, ℤ, pos, ◌≤ℤ◌, Option, Some, None, is_some, refl, sym, ap, subst, ◌∙◌, append-nil, append_assoc, arith, ⊎_elim}
use Rattle.std.proofs.lemmas.List.Sorted.{IsPermutation-refl, IsPermutation-cons, IsPermutation-middle, IsPermutation-trans, IsPermutation-append, IsPermutation-sym}
use Rattle.std.specs.Prelude.{IsPermutation}
use Rattle.std.proofs.lemmas.Bool.{true≢false, and_parts, and_from, or_cases, not-true, eqb-true}
use Rattle.std.specs.Prelude.{filter, filter_map, option_map}
use Rattle.std.specs.Option.{IfSome}
use Rattle.std.specs.List.{AllByRecursion, cons_option, list_any}
use Rattle.std.specs.declared.cmp.Ordering.TheVariants.{Less, Equal, Greater}
use Rattle.std.specs.FinMap.Entries.{put, by_order, where_key}
use Rattle.wsm_record.specs.declared.cell.Cell.{Cell}
use Rattle.wsm_record.specs.declared.event.Value.{Value}
use Rattle.wsm_record.specs.Event.{Event, Record}
use Rattle.wsm_windows.specs.declared.window.PaneKind.{PaneKind}
use Rattle.wsm_windows.specs.declared.window.Shape.{Shape}
use Rattle.wsm_windows.specs.declared.window.Shape.TheVariants.{Session}
use Rattle.wsm_windows.specs.declared.place.Place.{Place}
use Rattle.wsm_windows.specs.Places.{place_cmp}
use Rattle.wsm_windows.proofs.Places.{tie_is, places_exact}
use Rattle.wsm_semantics.specs.Query.{Query, Datum, SessionsByEvent, mark, verdict_on, selected, datum}
use Rattle.wsm_semantics.specs.Panes.{places, is_there, contents, held}
use Rattle.wsm_semantics.specs.Firings.{Firing, firings_so_far, kind_on_record}
use Rattle.wsm_semantics.specs.StandingFirings.{candidates, standing}
use Rattle.wsm_semantics.specs.Retractions.{is_same}
use Rattle.wsm_semantics.specs.Kept.{Kept, Stands, Unfired, Firing as Stood, Joined, kept, kept_in, stands_joined, is_linked, joined_all, with_record, merged_session, session_with, kind_by_record, written_by, parted, parted_by, withdrawn_entering, withdrawn_firing, entered}
use Rattle.wsm_semantics.proofs.Lists.{all-each}
use Rattle.wsm_semantics.proofs.Tables.{among}
use Rattle.wsm_semantics.proofs.Each.{all-any, filter_map-each, filter_map-filter, filter_map-map, passed}
use Rattle.wsm_semantics.proofs.SessionPlaces.{there_is, inside_links}
use Rattle.wsm_semantics.proofs.SessionStep.{linked, joined_at, new_inside, contents_more, mine_live}
use Rattle.wsm_semantics.proofs.SessionTurns.{joined, here, placed_here, placed_still, among_joined, shows_joined, inside_here, takes_joined, joined_all_stands, kept_here}
use Rattle.wsm_semantics.proofs.ShownPanes.{kind_of}
use Rattle.wsm_semantics.proofs.FiringsSoFar.{PlacesLaw}
use Rattle.wsm_semantics.proofs.StandingFirings.{Status, Idle, Standing, Parted, picked, picked-status, some_stands, status_joined, joined_stands, joined_statuses, stands_as}
use Rattle.wsm_semantics.proofs.StandsTurn.{status_in, stands_as_status, status-taken}
use Rattle.wsm_semantics.proofs.KeptTurns.{prompt}
use Rattle.wsm_semantics.proofs.Effects.{selects_one}
use Rattle.wsm_semantics.proofs.EventTurns.{EntersPanes, record_kind}
use Rattle.wsm_semantics.proofs.StandsStill.{any_of, stands_now}
use Rattle.wsm_semantics.proofs.Withdrawn.{IsHeld, now, Loses, each_held, itself_same, loses_fired, withdrawn-lost, IsWithdrawn}

-- ---- parts that are joined

abbrev is_parted : Stands → Bool
is_parted Unfired = false
is_parted (Stood w ds) = false
is_parted Joined = true

-- one of some parts is that of the firing
abbrev Has : Firing → List Status → Type 0
Has f [] = ⊥
Has f (s ∷ ss) = (s ≡ Standing f) ⊎ Has f ss

-- where a firing stood for one of the parts, it stands for them joined, or none does
abbrev OrParted : Firing → Status → Type 0
OrParted f s = (s ≡ Standing f) ⊎ (s ≡ Parted)

with_others : (f : Firing) (s : Status) → OrParted f (status_joined (Standing f) s)
with_others f Idle = inl refl
with_others f (Standing g) = inr refl
with_others f Parted = inr refl

with_first : (f : Firing) (s r : Status) → OrParted f r → OrParted f (status_joined s r)
with_first f Idle r h = h
with_first f (Standing g) r (inl is) = inr (ap (status_joined (Standing g)) is)
with_first f (Standing g) r (inr is) = inr (ap (status_joined (Standing g)) is)
with_first f Parted r (inl is) = inr (ap (status_joined Parted) is)
with_first f Parted r (inr is) = inr (ap (status_joined Parted) is)

or_parted : (f : Firing) (ss : List Status) → Has f ss → OrParted f (joined_statuses ss)
or_parted f [] h = absurd h
or_parted f (s ∷ ss) (inl is) = ⊎_elim (λ e. inl (ap (λ (s : Status). status_joined s (joined_statuses ss)) is ∙ e)) (λ e. inr (ap (λ (s : Status). status_joined s (joined_statuses ss)) is ∙ e)) (with_others f (joined_statuses ss))
or_parted f (s ∷ ss) (inr later) = with_first f s (joined_statuses ss) (or_parted f ss later)

has_at : (g : Place → Status) (f : Firing) (p : Place) → g p ≡ Standing f → (rs : List Place) → among p rs ≡ true → Has f (map g rs)
has_at g f p is [] h = absurd (true≢false (sym h))
has_at g f p is (r ∷ rs) h = ⊎_elim (λ tie. inl (ap g (sym (tie_is p r tie)) ∙ is)) (λ later. inr (has_at g f p is rs later)) (or_cases _ _ h)

-- what is written of parts of one key, of which at most one fired
abbrev written : Query → Place × Kept → Option (Place × List Cell)
written q e = written_by q e.0 e.1.stands

none_written : (q : Query) (p : Place) (es : List (Place × Kept)) → AllByRecursion (λ e. p.key ≡ e.0.key) es → joined_stands (map (λ e. e.1.stands) es) ≡ Unfired → filter_map (written q) es ≡ []
none_written q p [] h is = refl
none_written q p (e ∷ es) h is = by_first (none_written q p es h.1) e.1.stands refl where
  rest : List Stands
  rest = map (λ e. e.1.stands) es

  by_first : (joined_stands rest ≡ Unfired → filter_map (written q) es ≡ []) → (s : Stands) → e.1.stands ≡ s → filter_map (written q) (e ∷ es) ≡ []
  by_first later Unfired same = ap (λ (s : Stands). cons_option (written_by q e.0 s) (filter_map (written q) es)) same ∙ later (sym (ap (λ (s : Stands). stands_joined s (joined_stands rest)) same) ∙ is)
  by_first later (Stood w ds) same = absurd (fired_not (joined_stands rest) (sym (ap (λ (s : Stands). stands_joined s (joined_stands rest)) same) ∙ is)) where
    fired_not : (r : Stands) → stands_joined (Stood w ds) r ≡ Unfired → ⊥
    fired_not Unfired h = cc
    fired_not (Stood v es) h = cc
    fired_not Joined h = cc
  by_first later Joined same = absurd (parted_not (joined_stands rest) (sym (ap (λ (s : Stands). stands_joined s (joined_stands rest)) same) ∙ is)) where
    parted_not : (r : Stands) → stands_joined Joined r ≡ Unfired → ⊥
    parted_not Unfired h = cc
    parted_not (Stood v es) h = cc
    parted_not Joined h = cc

keyed : (q : Query) (p r : Place) → p.key ≡ r.key → (s : Stands) → written_by q p s ≡ written_by q r s
keyed q p r key Unfired = refl
keyed q p r key (Stood w ds) = λ i. option_map (λ columns. (record { end = w.end; start = w.start; key = key i }, columns)) (q.row (key i) ds)
keyed q p r key Joined = refl

one_written : (q : Query) (p : Place) (es : List (Place × Kept)) → AllByRecursion (λ e. p.key ≡ e.0.key) es → is_parted (joined_stands (map (λ e. e.1.stands) es)) ≡ false →
    filter_map (written q) es ≡ cons_option (written_by q p (joined_stands (map (λ e. e.1.stands) es))) []
one_written q p [] h apart = refl
one_written q p (e ∷ es) h apart = by_first (one_written q p es h.1) e.1.stands refl where
  rest : List Stands
  rest = map (λ e. e.1.stands) es

  by_first : (is_parted (joined_stands rest) ≡ false → filter_map (written q) es ≡ cons_option (written_by q p (joined_stands rest)) []) → (s : Stands) → e.1.stands ≡ s → filter_map (written q) (e ∷ es) ≡ cons_option (written_by q p (joined_stands (map (λ e. e.1.stands) (e ∷ es)))) []
  by_first later Unfired same =
      ap (λ (s : Stands). cons_option (written_by q e.0 s) (filter_map (written q) es)) same
      ∙ later (sym (ap (λ (s : Stands). is_parted (stands_joined s (joined_stands rest))) same) ∙ apart)
      ∙ sym (ap (λ (s : Stands). cons_option (written_by q p (stands_joined s (joined_stands rest))) []) same)
  by_first later (Stood w ds) same = by_rest (joined_stands rest) refl where
    by_rest : (r : Stands) → joined_stands rest ≡ r → filter_map (written q) (e ∷ es) ≡ cons_option (written_by q p (stands_joined e.1.stands (joined_stands rest))) []
    by_rest Unfired none =
        ap (cons_option (written_by q e.0 e.1.stands)) (none_written q p es h.1 none)
        ∙ ap (λ (o : Option (Place × List Cell)). cons_option o []) (sym (keyed q p e.0 h.0 e.1.stands))
        ∙ ap (λ (s : Stands). cons_option (written_by q p s) []) (same ∙ sym (λ i. stands_joined (same i) (none i)))
    by_rest (Stood v xs) is = absurd (true≢false (sym (λ i. is_parted (stands_joined (same i) (is i))) ∙ apart))
    by_rest Joined is = absurd (true≢false (sym (λ i. is_parted (stands_joined (same i) (is i))) ∙ apart))
  by_first later Joined same = absurd (true≢false (sym (parted_true (joined_stands rest)) ∙ sym (ap (λ (s : Stands). is_parted (stands_joined s (joined_stands rest))) same) ∙ apart)) where
    parted_true : (r : Stands) → is_parted (stands_joined Joined r) ≡ true
    parted_true Unfired = refl
    parted_true (Stood v xs) = refl
    parted_true Joined = refl

-- what a join withdraws, by what stands for the parts joined
parted-by : (q : Query) (d : Datum) (es : List (Place × Kept)) → parted_by q es (joined_all es) ≡ cond (is_parted (with_record d (joined_all es)).stands) (filter_map (written q) es) []
parted-by q d es = by_joined (joined_all es) where
  by_stands : (s : Stands) → parted q s es ≡ cond (is_parted s) (filter_map (written q) es) []
  by_stands Unfired = refl
  by_stands (Stood w ds) = refl
  by_stands Joined = refl

  by_joined : (o : Option Kept) → parted_by q es o ≡ cond (is_parted (with_record d o).stands) (filter_map (written q) es) []
  by_joined None = refl
  by_joined (Some h) = by_stands h.stands

-- what one put among entries that give nothing gives
pub put_alone : {B : Type 0} (g : Place × Kept → Option B) (p : Place) (h : Kept) (es : List (Place × Kept)) → AllByRecursion (λ e. g e ≡ None) es → AllByRecursion (λ e. p ≡ e.0 → ⊥) es → filter_map g (put place_cmp p h es) ≡ cons_option (g (p, h)) []
put_alone g p h [] none apart = refl
put_alone g p h (e ∷ es) none apart =
    elim (place_cmp p e.0) as (λ o. place_cmp p e.0 ≡ o → filter_map g (by_order o ((p, h) ∷ e ∷ es) ((e.0, h) ∷ es) (e ∷ put place_cmp p h es)) ≡ cons_option (g (p, h)) []) [
      | Less ↦ λ _. ap (cons_option (g (p, h))) (all_none (e ∷ es) none)
      | Equal ↦ λ tie. absurd (apart.0 (places_exact p e.0 tie))
      | Greater ↦ λ _. ap (λ (o : Option _). cons_option o (filter_map g (put place_cmp p h es))) none.0 ∙ put_alone g p h es none.1 apart.1
    ] refl
  where
    all_none : (xs : List (Place × Kept)) → AllByRecursion (λ e. g e ≡ None) xs → filter_map g xs ≡ []
    all_none [] k = refl
    all_none (x ∷ xs) k = ap (λ (o : Option _). cons_option o (filter_map g xs)) k.0 ∙ all_none xs k.1

chosen_all : {A B : Type 0} (b : Bool) (g : A → Option B) (xs : List A) → filter_map (λ x. cond b (g x) None) xs ≡ cond b (filter_map g xs) []
chosen_all true g xs = refl
chosen_all false g [] = refl
chosen_all false g (x ∷ xs) = chosen_all false g xs

-- the rows of both ways: of those that were parted, or of the one that stands and fires
both_ways : {B : Type 0} (fires apart : Bool) (all : List B) (o : Option B) → (apart ≡ false → all ≡ cons_option o []) → (apart ≡ true → o ≡ None) →
    cond (fires || apart) all [] ≡ cond apart all [] ++ cons_option (cond fires o None) []
both_ways true true all o one none = sym (append-nil all) ∙ sym (ap (λ (o : Option _). all ++ cons_option o []) (none refl))
both_ways false true all o one none = sym (append-nil all)
both_ways true false all o one none = one refl
both_ways false false all o one none = refl

no_row : (q : Query) (p : Place) (s : Stands) → is_parted s ≡ true → written_by q p s ≡ None
no_row q p Unfired h = refl
no_row q p (Stood w ds) h = absurd (true≢false (sym h))
no_row q p Joined h = refl

-- what those that pass give, and the others
pub of_both : {A B : Type 0} (g : A → Option B) (t : A → Bool) (xs : List A) → IsPermutation (filter_map g xs) (filter_map g (filter t xs) ++ filter_map g (filter (λ x. not (t x)) xs))
of_both g t [] = IsPermutation-refl []
of_both g t (x ∷ xs) =
    elim (t x) as (λ b. IsPermutation (cons_option (g x) (filter_map g xs)) (filter_map g (cond b (x ∷ filter t xs) (filter t xs)) ++ filter_map g (cond (not b) (x ∷ filter (λ x. not (t x)) xs) (filter (λ x. not (t x)) xs)))) [
      | true ↦ in_first (g x) (filter_map g xs) (filter_map g (filter t xs)) (filter_map g (filter (λ x. not (t x)) xs)) (of_both g t xs)
      | false ↦ in_second (g x) (filter_map g xs) (filter_map g (filter t xs)) (filter_map g (filter (λ x. not (t x)) xs)) (of_both g t xs)
    ]
  where
    in_first : {B : Type 0} (o : Option B) (xs ys zs : List B) → IsPermutation xs (ys ++ zs) → IsPermutation (cons_option o xs) (cons_option o ys ++ zs)
    in_first None xs ys zs h = h
    in_first (Some x) xs ys zs h = IsPermutation-cons x xs (ys ++ zs) h

    in_second : {B : Type 0} (o : Option B) (xs ys zs : List B) → IsPermutation xs (ys ++ zs) → IsPermutation (cons_option o xs) (ys ++ cons_option o zs)
    in_second None xs ys zs h = h
    in_second (Some x) xs ys zs h =
        IsPermutation-trans (x ∷ xs) (x ∷ (ys ++ zs)) (ys ++ x ∷ zs) (IsPermutation-cons x xs (ys ++ zs) h) (IsPermutation-sym (ys ++ x ∷ zs) (x ∷ (ys ++ zs)) (IsPermutation-middle ys x zs))

-- what one put among others gives is given with what these give
put_with : {B : Type 0} (g : Place × Kept → Option B) (p : Place) (h : Kept) (es : List (Place × Kept)) → AllByRecursion (λ e. p ≡ e.0 → ⊥) es → IsPermutation (filter_map g (put place_cmp p h es)) (cons_option (g (p, h)) (filter_map g es))
put_with g p h [] apart = IsPermutation-refl (filter_map g ((p, h) ∷ []))
put_with g p h (e ∷ es) apart =
    elim (place_cmp p e.0) as (λ o. place_cmp p e.0 ≡ o → IsPermutation (filter_map g (by_order o ((p, h) ∷ e ∷ es) ((e.0, h) ∷ es) (e ∷ put place_cmp p h es))) (cons_option (g (p, h)) (cons_option (g e) (filter_map g es)))) [
      | Less ↦ λ _. IsPermutation-refl (filter_map g ((p, h) ∷ e ∷ es))
      | Equal ↦ λ tie. absurd (apart.0 (places_exact p e.0 tie))
      | Greater ↦ λ _. behind (g e) (g (p, h)) (filter_map g (put place_cmp p h es)) (filter_map g es) (put_with g p h es apart.1)
    ] refl
  where
    behind : {B : Type 0} (a b : Option B) (xs ys : List B) → IsPermutation xs (cons_option b ys) → IsPermutation (cons_option a xs) (cons_option b (cons_option a ys))
    behind None b xs ys h = h
    behind (Some a) None xs ys h = IsPermutation-cons a xs ys h
    behind (Some a) (Some b) xs ys h =
        IsPermutation-trans (a ∷ xs) (a ∷ b ∷ ys) (b ∷ a ∷ ys) (IsPermutation-cons a xs (b ∷ ys) h) (IsPermutation-middle (a ∷ []) b ys)

-- ---- a selected record

module _ (q : Query) (timely : SessionsByEvent q) (gap : ℤ) (is : q.shape ≡ Session gap) (long : pos 1 ≤ℤ gap) (low : pos 0 ≤ℤ q.clock.lateness) (law : PlacesLaw q) (enters : EntersPanes q) (past : List Event) (k : ℕ) (t : ℤ) (vs : List Value)
    (taken : verdict_on q past (Record (Some k) t vs) ≡ None) (selects : q.selects k vs ≡ true) where
  abbrev d : Datum
  d = datum (length past) (mark q past) k t vs

  abbrev e : Event
  e = Record (Some k) t vs

  its_turn : length past ≤ length past
  its_turn = omega arith

  abbrev p : Place
  p = here q timely gap is long past k t vs taken selects

  abbrev parts : List Place
  parts = joined q timely gap is long past k t vs taken selects

  abbrev links : List (Place × Kept)
  links = linked q gap is long past d (prompt q past timely gap is k t vs taken)

  -- what stands for the session before it fires
  abbrev stands : Stands
  stands = (with_record d (joined_all links)).stands

  abbrev fires : Bool
  fires = is_some (kind_of q past e p (contents q (e ∷ past) p))

  stands_is : stands ≡ stands_as (status_in q past p (contents q (e ∷ past) p))
  stands_is = ap (λ (h : Kept). h.stands) (kept_here q timely gap is long past k t vs taken selects law) ∙ stands_as_status q past p (contents q (e ∷ past) p)

  abbrev lost : Place × List Datum → Bool
  lost x = is_linked gap d x.0 && (fires || is_parted stands)

  -- a session that the record is linked to
  loses_linked : (x : Place × List Datum) → IsHeld q past x → is_linked gap d x.0 ≡ true → Loses q law past e lost x
  loses_linked x h links_x = by_stood (standing q (firings_so_far q past) x.0 x.1) refl where
    m : among x.0 parts ≡ true
    m = among_joined q timely gap is long past k t vs taken selects x.0 ∙ and_from _ _ links_x h.placed

    stays_or_not : (f : Firing) (s : Status) (b : Bool) → OrParted f s → cond b false (any_of (is_same f) (picked s)) ≡ not (b || is_parted (stands_as s))
    stays_or_not f s true either = refl
    stays_or_not f s false (inl same) = ap (λ (s : Status). any_of (is_same f) (picked s)) same ∙ itself_same f ∙ sym (ap (λ (s : Status). not (is_parted (stands_as s))) same)
    stays_or_not f s false (inr none) = ap (λ (s : Status). any_of (is_same f) (picked s)) none ∙ sym (ap (λ (s : Status). not (is_parted (stands_as s))) none)

    by_stood : (o : Option Firing) → standing q (firings_so_far q past) x.0 x.1 ≡ o → IfSome o (λ f. list_any (is_same f) (now q law past e) ≡ not (lost x))
    by_stood None stood = tt
    by_stood (Some f) stood =
        let before : standing q (firings_so_far q past) x.0 (contents q past x.0) ≡ Some f = ap (standing q (firings_so_far q past) x.0) (sym h.all) ∙ stood in
        let status : status_in q past x.0 (contents q past x.0) ≡ Standing f = some_stands (candidates q x.0 (contents q past x.0) (firings_so_far q past)) f before in
        let both : status_in q past p (contents q (e ∷ past) p) ≡ joined_statuses (map (λ r. status_in q past r (contents q past r)) parts) =
        status-taken q law past e p (placed_here q timely gap is long past k t vs taken selects) parts (takes_joined q timely gap is long past k t vs taken selects) in
        let either = or_parted f (map (λ r. status_in q past r (contents q past r)) parts) (has_at (λ r. status_in q past r (contents q past r)) f x.0 status parts m) in
        stands_now q law past e x.0 p (placed_here q timely gap is long past k t vs taken selects) (mine_live q gap is long past d (prompt q past timely gap is k t vs taken) its_turn)
        (shows_joined q timely gap is long past k t vs taken selects x.0 m) (inside_here q timely gap is long past k t vs taken selects x.0 m) f before
        ∙ ap (λ (o : Option Firing). cond fires false (any_of (is_same f) o)) (picked-status (candidates q p (contents q (e ∷ past) p) (firings_so_far q past)) ∙ ap picked both)
        ∙ stays_or_not f (joined_statuses (map (λ r. status_in q past r (contents q past r)) parts)) fires either
        ∙ sym (λ i. not (links_x i && (fires || is_parted ((stands_is ∙ ap stands_as both) i))))

  -- another session
  loses_other : (x : Place × List Datum) → IsHeld q past x → is_linked gap d x.0 ≡ false → Loses q law past e lost x
  loses_other x h apart =
      let there : among x.0 (places_of) ≡ true = placed_still q timely gap is long past k t vs taken selects x.0 h.placed apart in
      let outside : is_there q x.0 d ≡ false = elim (is_there q x.0 d) as (λ b. is_there q x.0 d ≡ b → b ≡ false) [
        | true ↦ λ inside. sym (inside_links gap long (selected q past) d x.0 (sym (there_is q gap is x.0 d) ∙ inside)) ∙ apart
        | false ↦ λ _. refl
      ] refl in
      let c : List Datum = contents q (e ∷ past) x.0 in
      let silent : kind_of q past e x.0 c ≡ None =
      record_kind q low timely law past enters k t vs taken selects (x.0, c) (refl, there) ∙ ap (λ (b : Bool). cond b (kind_on_record q (mark q past) x.0.end (length (kept_in q past (x.0, c)).1.unshown)) None) outside in
      subst (λ (b : Bool). IfSome (standing q (firings_so_far q past) x.0 x.1) (λ f. list_any (is_same f) (now q law past e) ≡ not b))
      (ap is_some silent ∙ sym (ap (λ (b : Bool). b && (fires || is_parted stands)) apart))
      (loses_fired q law past e x h there (contents_more q gap is long past d (prompt q past timely gap is k t vs taken) its_turn e refl (selects_one q past k t vs taken selects) x.0 ∙ ap (λ (b : Bool). cond b (d ∷ contents q past x.0) (contents q past x.0)) outside))
    where
      places_of : List Place
      places_of = places q (e ∷ past)

  each_loses : AllByRecursion (Loses q law past e lost) (held q past)
  each_loses =
      all-each (IsHeld q past) (Loses q law past e lost) (held q past)
      (λ x h. elim (is_linked gap d x.0) as (λ b. is_linked gap d x.0 ≡ b → Loses q law past e lost x) [
        | true ↦ λ links_x. loses_linked x h links_x
        | false ↦ λ apart. loses_other x h apart
      ] refl)
      (each_held q past)

  -- what the panes withdraw by firing
  abbrev gives : Place × Kept → Option (Place × List Cell)
  gives x = cond (is_some (kind_by_record q (mark q past) d x.0 x.1)) (written_by q x.0 x.1.stands) None

  at_p : session_with gap d links ≡ p
  at_p = joined_at q gap is long past d (prompt q past timely gap is k t vs taken)

  -- the sessions that the record isn't linked to
  abbrev others : List (Place × Kept)
  others = where_key place_cmp (λ r. not (is_linked gap d r)) (kept q past)

  elsewhere : AllByRecursion (λ x. session_with gap d links ≡ x.0 → ⊥) others
  elsewhere =
      all-each (λ x. not (is_linked gap d x.0) ≡ true) (λ x. session_with gap d links ≡ x.0 → ⊥) others
      (λ x apart same. true≢false (sym (inside_links gap long (selected q past) d p (sym (there_is q gap is p d) ∙ new_inside q gap is long past d (prompt q past timely gap is k t vs taken) its_turn)) ∙ ap (is_linked gap d) (sym at_p ∙ same) ∙ not-true _ apart))
      (passed (λ x. not (is_linked gap d x.0)) (kept q past))

  fired_alone : filter_map gives (merged_session gap d (kept q past)) ≡ cons_option (cond fires (written_by q p stands) None) []
  fired_alone =
      put_alone gives (session_with gap d links) (with_record d (joined_all links)) (where_key place_cmp (λ r. not (is_linked gap d r)) (kept q past))
      (all-each (λ x. not (is_linked gap d x.0) ≡ true) (λ x. gives x ≡ None) _ (λ x apart. silent x (not-true _ apart)) (passed (λ x. not (is_linked gap d x.0)) (kept q past)))
      elsewhere
      ∙ (λ i. cons_option (gives (at_p i, with_record d (joined_all links))) [])
      ∙ ap (λ (k : Option PaneKind). cons_option (cond (is_some k) (written_by q p stands) None) []) kind_is
    where
      silent : (x : Place × Kept) → is_linked gap d x.0 ≡ false → gives x ≡ None
      silent x apart =
          let outside : is_there q x.0 d ≡ false = elim (is_there q x.0 d) as (λ b. is_there q x.0 d ≡ b → b ≡ false) [
            | true ↦ λ inside. sym (inside_links gap long (selected q past) d x.0 (sym (there_is q gap is x.0 d) ∙ inside)) ∙ apart
            | false ↦ λ _. refl
          ] refl in
          ap (λ (b : Bool). cond (is_some (cond b (kind_on_record q (mark q past) x.0.end (length x.1.unshown)) None)) (written_by q x.0 x.1.stands) None) outside

      kind_is : kind_by_record q (mark q past) d p (with_record d (joined_all links)) ≡ kind_of q past e p (contents q (e ∷ past) p)
      kind_is =
          ap (kind_by_record q (mark q past) d p) (kept_here q timely gap is long past k t vs taken selects law)
          ∙ sym (record_kind q low timely law past enters k t vs taken selects (p, contents q (e ∷ past) p) (refl, placed_here q timely gap is long past k t vs taken selects))

  same_key : AllByRecursion (λ x. p.key ≡ x.0.key) links
  same_key =
      all-each (λ x. is_linked gap d x.0 ≡ true) (λ x. p.key ≡ x.0.key) links (λ x h. eqb-true k x.0.key (and_parts _ _ h).0) (passed (λ x. is_linked gap d x.0) (kept q past))

  stands_joined_all : stands ≡ joined_stands (map (λ x. x.1.stands) links)
  stands_joined_all = joined_all_stands d links

  -- what it withdraws
  pub withdrawn-session : IsWithdrawn q past e d
  withdrawn-session =
      withdrawn-lost q law past e lost each_loses
      ∙ sym (filter_map-map (λ x. cond (is_linked gap d x.0 && (fires || is_parted stands)) (written q x) None) (kept_in q past) (held q past))
      ∙ by_links
      ∙ both_ways fires (is_parted stands) (filter_map (written q) links) (written_by q p stands)
      (λ apart. one_written q p links same_key (sym (ap is_parted stands_joined_all) ∙ apart) ∙ ap (λ (s : Stands). cons_option (written_by q p s) []) (sym stands_joined_all))
      (λ apart. no_row q p stands apart)
      ∙ sym (λ i. parted-by q d links i ++ fired_alone i)
      ∙ sym (ap (λ (s : Shape). withdrawn_entering q s d (kept q past) ++ withdrawn_firing q (kind_by_record q (mark q past) d) (entered s q.clock.lateness d (kept q past))) is)
    where
      by_links : filter_map (λ x. cond (is_linked gap d x.0 && (fires || is_parted stands)) (written q x) None) (kept q past) ≡ cond (fires || is_parted stands) (filter_map (written q) links) []
      by_links =
          sym (filter_map-filter (λ x. cond (is_linked gap d x.0 && (fires || is_parted stands)) (written q x) None) (λ x. is_linked gap d x.0) (kept q past)
          (all-any _ (λ x h. ap (λ (b : Bool). cond (b && (fires || is_parted stands)) (written q x) None) h) (kept q past)))
          ∙ filter_map-each _ (λ x. cond (fires || is_parted stands) (written q x) None) links
          (all-each (λ x. is_linked gap d x.0 ≡ true) _ links (λ x h. ap (λ (b : Bool). cond (b && (fires || is_parted stands)) (written q x) None) h) (passed (λ x. is_linked gap d x.0) (kept q past)))
          ∙ chosen_all (fires || is_parted stands) (written q) links

  -- what was written of the firings that stand, and what is withdrawn as it enters, are what stood
  pub stood-session : IsPermutation (filter_map (written q) (kept q past)) (withdrawn_entering q q.shape d (kept q past) ++ filter_map (written q) (entered q.shape q.clock.lateness d (kept q past)))
  stood-session =
      let all : List (Place × List Cell) = filter_map (written q) links in
      let rest : List (Place × List Cell) = filter_map (written q) others in
      let entering : List (Place × List Cell) = cond (is_parted stands) all [] in
      let one : List (Place × List Cell) = cons_option (written_by q p stands) [] in
      let whole : List (Place × List Cell) = filter_map (written q) (merged_session gap d (kept q past)) in
      subst (λ (s : Shape). IsPermutation (filter_map (written q) (kept q past)) (withdrawn_entering q s d (kept q past) ++ filter_map (written q) (entered s q.clock.lateness d (kept q past)))) (sym is)
      (subst (λ (ws : List (Place × List Cell)). IsPermutation (filter_map (written q) (kept q past)) (ws ++ whole)) (sym (parted-by q d links))
      (IsPermutation-trans (filter_map (written q) (kept q past)) (all ++ rest) (entering ++ whole)
      split
      (IsPermutation-trans (all ++ rest) ((entering ++ one) ++ rest) (entering ++ whole)
      (same_bag (all ++ rest) ((entering ++ one) ++ rest) (ap (λ (ws : List (Place × List Cell)). ws ++ rest) parts_are))
      (subst (λ (ws : List (Place × List Cell)). IsPermutation ws (entering ++ whole)) (sym (append_assoc entering one rest))
      (IsPermutation-append entering entering (one ++ rest) whole (IsPermutation-refl entering)
      (IsPermutation-sym whole (one ++ rest)
      (subst (IsPermutation whole) (in_front (written_by q p stands) rest)
      (subst (λ (r : Place). IsPermutation whole (cons_option (written_by q r stands) rest)) at_p (put_with (written q) (session_with gap d links) (with_record d (joined_all links)) others elsewhere))))))))
      )
    where
      same_bag : (xs ys : List (Place × List Cell)) → xs ≡ ys → IsPermutation xs ys
      same_bag xs ys h = subst (IsPermutation xs) h (IsPermutation-refl xs)

      in_front : (o : Option (Place × List Cell)) (xs : List (Place × List Cell)) → cons_option o xs ≡ cons_option o [] ++ xs
      in_front None xs = refl
      in_front (Some x) xs = refl

      parts_of : (apart : Bool) (all : List (Place × List Cell)) (o : Option (Place × List Cell)) → (apart ≡ false → all ≡ cons_option o []) → (apart ≡ true → o ≡ None) → all ≡ cond apart all [] ++ cons_option o []
      parts_of true all o one none = sym (append-nil all) ∙ sym (ap (λ (o : Option (Place × List Cell)). all ++ cons_option o []) (none refl))
      parts_of false all o one none = one refl

      parts_are : filter_map (written q) links ≡ cond (is_parted stands) (filter_map (written q) links) [] ++ cons_option (written_by q p stands) []
      parts_are =
          parts_of (is_parted stands) (filter_map (written q) links) (written_by q p stands)
          (λ apart. one_written q p links same_key (sym (ap is_parted stands_joined_all) ∙ apart) ∙ ap (λ (s : Stands). cons_option (written_by q p s) []) (sym stands_joined_all))
          (λ apart. no_row q p stands apart)

      split : IsPermutation (filter_map (written q) (kept q past)) (filter_map (written q) links ++ filter_map (written q) others)
      split = of_both (written q) (λ x. is_linked gap d x.0) (kept q past)

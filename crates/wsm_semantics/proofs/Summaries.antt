-- What a pane's summary keeps of its records: of one record more, of two parts in one, and of a
-- firing.
use Rattle.std.proofs.Common.{◌≡◌, ℕ, suc, ◌+◌, true, false, cond, List, [], ◌∷◌, length, Option, Some, None, refl, sym, ap, ◌∙◌, arith}
use Rattle.std.specs.Prelude.{nat_lt, option_map}
use Rattle.wsm_record.specs.declared.words.Mode.{Mode}
use Rattle.wsm_record.specs.declared.words.Mode.TheVariants.{Discarding, Accumulating, Retracting}
use Rattle.wsm_windows.specs.declared.window.PaneKind.{PaneKind}
use Rattle.wsm_windows.specs.declared.place.Place.{Place}
use Rattle.wsm_windows.specs.Places.{window_of}
use Rattle.wsm_semantics.specs.Query.{Datum}
use Rattle.wsm_semantics.specs.Firings.{firing_set, firing_of}
use Rattle.wsm_semantics.specs.Kept as kept
use Rattle.wsm_semantics.specs.Kept.{Kept, Stands, with_datum, merged, stands_joined, fired_kept}
use Rattle.wsm_semantics.specs.Summaries.{Plan, IsLawful, Row, Pane, standing_joined, fired_count, left_folded, kept_window, fired_of, with_folded, joined_folds, columns, with_record, joined, fired_pane, folded_of, standing_of, pane_of, summary_fired}

pub length-with_datum : (d : Datum) (ds : List Datum) → length (with_datum d ds) ≡ suc (length ds)
length-with_datum d [] = refl
length-with_datum d (x ∷ xs) =
    elim (nat_lt x.turn d.turn) as (λ b. length (cond b (d ∷ x ∷ xs) (x ∷ with_datum d xs)) ≡ suc (suc (length xs))) [
      | true ↦ refl
      | false ↦ ap suc (length-with_datum d xs)
    ]

pub length-merged : (xs ys : List Datum) → length (merged xs ys) ≡ length xs + length ys
length-merged [] ys = omega arith
length-merged (x ∷ xs) ys = length-with_datum x (merged xs ys) ∙ ap suc (length-merged xs ys) ∙ omega arith

one_more : (n : ℕ) → n + 1 ≡ suc n
one_more n = omega arith

pane_is : {X : Type 0} (a b : Pane X) → a.count ≡ b.count → a.unshown ≡ b.unshown → a.folded ≡ b.folded → a.stands ≡ b.stands → a ≡ b
pane_is a b c u f s i = record { count = c i; unshown = u i; folded = f i; stands = s i }

module _ {X : Type 0} (plan : Plan X) (lawful : IsLawful plan) where
  two_more : (d x : Datum) (y : X) → plan.more (plan.more y d.key d.values) x.key x.values ≡ plan.join y (plan.join (plan.first d.key d.values) (plan.first x.key x.values))
  two_more d x y =
      lawful.more (plan.more y d.key d.values) x.key x.values
      ∙ ap (λ z. plan.join z (plan.first x.key x.values)) (lawful.more y d.key d.values)
      ∙ lawful.associative y (plan.first d.key d.values) (plan.first x.key x.values)

  -- two records change places
  exchanged : (d x : Datum) (o : Option X) → with_folded plan x (Some (with_folded plan d o)) ≡ with_folded plan d (Some (with_folded plan x o))
  exchanged d x None =
      lawful.more (plan.first d.key d.values) x.key x.values
      ∙ lawful.commutative (plan.first d.key d.values) (plan.first x.key x.values)
      ∙ sym (lawful.more (plan.first x.key x.values) d.key d.values)
  exchanged d x (Some y) =
      two_more d x y
      ∙ ap (plan.join y) (lawful.commutative (plan.first d.key d.values) (plan.first x.key x.values))
      ∙ sym (two_more x d y)

  folded-with_datum : (d : Datum) (ds : List Datum) → folded_of plan (with_datum d ds) ≡ Some (with_folded plan d (folded_of plan ds))
  folded-with_datum d [] = refl
  folded-with_datum d (x ∷ xs) =
      elim (nat_lt x.turn d.turn) as (λ b. folded_of plan (cond b (d ∷ x ∷ xs) (x ∷ with_datum d xs)) ≡ Some (with_folded plan d (Some (with_folded plan x (folded_of plan xs))))) [
        | true ↦ refl
        | false ↦ ap (λ (o : Option X). Some (with_folded plan x o)) (folded-with_datum d xs) ∙ ap Some (exchanged d x (folded_of plan xs))
      ]

  -- a record more in the first of two parts
  more_in_first : (d : Datum) (a b : Option X) → Some (with_folded plan d (joined_folds plan a b)) ≡ joined_folds plan (Some (with_folded plan d a)) b
  more_in_first d None None = refl
  more_in_first d None (Some b) = ap Some (lawful.more b d.key d.values ∙ lawful.commutative b (plan.first d.key d.values))
  more_in_first d (Some a) None = refl
  more_in_first d (Some a) (Some b) = ap Some (
      lawful.more (plan.join a b) d.key d.values
      ∙ lawful.associative a b (plan.first d.key d.values)
      ∙ ap (plan.join a) (lawful.commutative b (plan.first d.key d.values))
      ∙ sym (lawful.associative a (plan.first d.key d.values) b)
      ∙ ap (λ z. plan.join z b) (sym (lawful.more a d.key d.values)))

  pub folded-merged : (xs ys : List Datum) → folded_of plan (merged xs ys) ≡ joined_folds plan (folded_of plan xs) (folded_of plan ys)
  folded-merged [] ys = refl
  folded-merged (x ∷ xs) ys =
      folded-with_datum x (merged xs ys)
      ∙ ap (λ (o : Option X). Some (with_folded plan x o)) (folded-merged xs ys)
      ∙ more_in_first x (folded_of plan xs) (folded_of plan ys)

module _ {X : Type 0} (plan : Plan X) where
  standing-joined : (m : Mode) (k : ℕ) (s t : Stands) → standing_joined (standing_of plan m k s) (standing_of plan m k t) ≡ standing_of plan m k (stands_joined s t)
  standing-joined m k kept.Unfired t = refl
  standing-joined m k (kept.Firing w f) kept.Unfired = refl
  standing-joined m k (kept.Firing w f) (kept.Firing v g) = refl
  standing-joined m k (kept.Firing w f) kept.Joined = refl
  standing-joined m k kept.Joined kept.Unfired = refl
  standing-joined m k kept.Joined (kept.Firing v g) = refl
  standing-joined m k kept.Joined kept.Joined = refl

  first_set : (m : Mode) (d : Datum) → Some (plan.first d.key d.values) ≡ folded_of plan (firing_set m (d ∷ []) (d ∷ []))
  first_set Accumulating d = refl
  first_set Discarding d = refl
  first_set Retracting d = refl

  more_set : (m : Mode) (d : Datum) (all unshown : List Datum) →
      Some (with_folded plan d (folded_of plan (firing_set m all unshown))) ≡ folded_of plan (firing_set m (d ∷ all) (d ∷ unshown))
  more_set Accumulating d all unshown = refl
  more_set Discarding d all unshown = refl
  more_set Retracting d all unshown = refl

  -- a record in a pane
  pub pane-with_record : (m : Mode) (k : ℕ) (d : Datum) (o : Option Kept) → with_record plan d (option_map (pane_of plan m k) o) ≡ pane_of plan m k (kept.with_record d o)
  pane-with_record m k d None = pane_is _ _ refl refl (first_set m d) refl
  pane-with_record m k d (Some h) = pane_is _ _ (one_more (length h.all)) (one_more (length h.unshown)) (more_set m d h.all h.unshown) refl

  -- what fires of a pane
  pub counted-fired : (m : Mode) (k : ℕ) (h : Kept) → fired_count m (pane_of plan m k h) ≡ length (firing_set m h.all h.unshown)
  counted-fired Accumulating k h = refl
  counted-fired Discarding k h = refl
  counted-fired Retracting k h = refl

  left_set : (m : Mode) (all unshown : List Datum) → left_folded m (folded_of plan (firing_set m all unshown)) ≡ folded_of plan (firing_set m all [])
  left_set Accumulating all unshown = refl
  left_set Discarding all unshown = refl
  left_set Retracting all unshown = refl

  pub pane-fired : (m : Mode) (p : Place) (kind : Option PaneKind) (h : Kept) → fired_pane plan m p kind (pane_of plan m p.key h) ≡ pane_of plan m p.key (fired_kept m p kind h)
  pane-fired m p None h = refl
  pane-fired m p (Some kind) h =
      let set : List Datum = firing_set m h.all h.unshown in
      pane_is _ _ refl refl (left_set m h.all h.unshown) (ap (λ (n : ℕ). Row (kept_window m (window_of p)) (columns plan p.key n (folded_of plan set))) (counted-fired m p.key h))

  pub fired-of : (n : ℕ) (m : Mode) (p : Place) (kind : Option PaneKind) (h : Kept) →
      fired_of m p (pane_of plan m p.key h) kind ≡ option_map (summary_fired plan) (firing_of n p h.all (firing_set m h.all h.unshown) kind)
  fired-of n m p None h = refl
  fired-of n m p (Some kind) h = λ i. Some (record { kind = kind; place = p; count = counted-fired m p.key h i; folded = folded_of plan (firing_set m h.all h.unshown) })

  module _ (lawful : IsLawful plan) where
    merged_set : (m : Mode) (a b : Kept) →
        joined_folds plan (folded_of plan (firing_set m a.all a.unshown)) (folded_of plan (firing_set m b.all b.unshown))
        ≡ folded_of plan (firing_set m (merged a.all b.all) (merged a.unshown b.unshown))
    merged_set Accumulating a b = sym (folded-merged plan lawful a.all b.all)
    merged_set Discarding a b = sym (folded-merged plan lawful a.unshown b.unshown)
    merged_set Retracting a b = sym (folded-merged plan lawful a.all b.all)

    -- two parts in one
    pub pane-joined : (m : Mode) (k : ℕ) (a b : Kept) → joined plan (pane_of plan m k a) (pane_of plan m k b) ≡ pane_of plan m k (kept.joined a b)
    pane-joined m k a b =
        pane_is _ _ (sym (length-merged a.all b.all)) (sym (length-merged a.unshown b.unshown)) (merged_set m a b) (standing-joined m k a.stands b.stands)

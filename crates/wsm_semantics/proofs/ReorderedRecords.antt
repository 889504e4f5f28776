-- Records in another order and at other turns: their parts by tests that ignore turns, and their number.
use Rattle.std.proofs.Common.{◌≡◌, suc, Bool, true, false, cond, List, [], ◌∷◌, ◌++◌, length, refl, sym, ap, subst, ◌∙◌}
use Rattle.std.proofs.lemmas.List.Sorted.{IsPermutation-refl, IsPermutation-cons, IsPermutation-middle, IsPermutation-trans}
use Rattle.std.specs.Prelude.{filter, map, IsPermutation}
use Rattle.wsm_semantics.specs.Query.{Datum}
use Rattle.wsm_semantics.specs.Order.{said_by, SameBag}
use Rattle.wsm_semantics.proofs.Lists.{filter_same}

-- the same records in another order and at other turns, as neighbours that change places make it
pub data Shuffled : List Datum → List Datum → Type 0 where
  Empty : Shuffled [] []
  With : (d e : Datum) → (ds es : List Datum) → d.key ≡ e.key → d.mark ≡ e.mark → d.time ≡ e.time → d.values ≡ e.values → Shuffled ds es → Shuffled (d ∷ ds) (e ∷ es)
  Swapped : (d e : Datum) → (ds : List Datum) → Shuffled (d ∷ e ∷ ds) (e ∷ d ∷ ds)
  Through : (ds es fs : List Datum) → Shuffled ds es → Shuffled es fs → Shuffled ds fs

abbrev pub with_again : (d : Datum) (ds es : List Datum) → Shuffled ds es → Shuffled (d ∷ ds) (d ∷ es)
with_again d ds es h = With d d ds es refl refl refl refl h

pub shuffled-itself : (ds : List Datum) → Shuffled ds ds
shuffled-itself [] = Empty
shuffled-itself (d ∷ ds) = with_again d ds ds (shuffled-itself ds)

pub shuffled-equal : (ds es : List Datum) → ds ≡ es → Shuffled ds es
shuffled-equal ds es h = subst (Shuffled ds) h (shuffled-itself ds)

pub shuffled-sym : (ds es : List Datum) → Shuffled ds es → Shuffled es ds
shuffled-sym _ _ Empty = Empty
shuffled-sym _ _ (With d e ds es k m t v h) = With e d es ds (sym k) (sym m) (sym t) (sym v) (shuffled-sym ds es h)
shuffled-sym _ _ (Swapped d e ds) = Swapped e d ds
shuffled-sym _ _ (Through ds es fs h k) = Through fs es ds (shuffled-sym es fs k) (shuffled-sym ds es h)

pub same_length : (ds es : List Datum) → Shuffled ds es → length ds ≡ length es
same_length _ _ Empty = refl
same_length _ _ (With d e ds es k m t v h) = ap suc (same_length ds es h)
same_length _ _ (Swapped d e ds) = refl
same_length _ _ (Through ds es fs h k) = same_length ds es h ∙ same_length es fs k

-- two tests that agree on records that differ at most in turn
abbrev pub AgreeOn : (t u : Datum → Bool) → Type 0
AgreeOn t u = (d e : Datum) → d.key ≡ e.key → d.mark ≡ e.mark → d.time ≡ e.time → d.values ≡ e.values → t d ≡ u e

swapped_filter : (t : Datum → Bool) (d e : Datum) (ds : List Datum) → Shuffled (filter t (d ∷ e ∷ ds)) (filter t (e ∷ d ∷ ds))
swapped_filter t d e ds =
    elim (t d) as (λ a. Shuffled (cond a (d ∷ filter t (e ∷ ds)) (filter t (e ∷ ds))) (cond (t e) (e ∷ cond a (d ∷ filter t ds) (filter t ds)) (cond a (d ∷ filter t ds) (filter t ds)))) [
      | true ↦ elim (t e) as (λ b. Shuffled (d ∷ cond b (e ∷ filter t ds) (filter t ds)) (cond b (e ∷ d ∷ filter t ds) (d ∷ filter t ds))) [
        | true ↦ Swapped d e (filter t ds)
        | false ↦ shuffled-itself (d ∷ filter t ds)
      ]
      | false ↦ shuffled-itself (filter t (e ∷ ds))
    ]

-- what passes is the same bag
pub same_filter : (t u : Datum → Bool) → AgreeOn t u → (ds es : List Datum) → Shuffled ds es → Shuffled (filter t ds) (filter u es)
same_filter t u agree _ _ Empty = Empty
same_filter t u agree _ _ (With d e ds es k m l v h) =
    let rest : Shuffled (filter t ds) (filter u es) = same_filter t u agree ds es h in
    subst (λ b. Shuffled (cond (t d) (d ∷ filter t ds) (filter t ds)) (cond b (e ∷ filter u es) (filter u es))) (agree d e k m l v)
    (elim (t d) as (λ b. Shuffled (cond b (d ∷ filter t ds) (filter t ds)) (cond b (e ∷ filter u es) (filter u es))) [
      | true ↦ With d e (filter t ds) (filter u es) k m l v rest
      | false ↦ rest
    ])
same_filter t u agree _ _ (Swapped d e ds) =
    Through (filter t (d ∷ e ∷ ds)) (filter t (e ∷ d ∷ ds)) (filter u (e ∷ d ∷ ds)) (swapped_filter t d e ds)
    (shuffled-equal _ _ (filter_same t u (λ x. agree x x refl refl refl refl) (e ∷ d ∷ ds)))
same_filter t u agree _ _ (Through ds es fs h k) =
    Through (filter t ds) (filter t es) (filter u fs)
    (same_filter t t (λ d e key mark time values. agree d d refl refl refl refl ∙ sym (agree e d (sym key) (sym mark) (sym time) (sym values))) ds es h)
    (same_filter t u agree es fs k)

pub same_after : (xs ds es : List Datum) → Shuffled ds es → Shuffled (xs ++ ds) (xs ++ es)
same_after [] ds es h = h
same_after (x ∷ xs) ds es h = with_again x (xs ++ ds) (xs ++ es) (same_after xs ds es h)

pub same_append : (xs ys ds es : List Datum) → Shuffled xs ys → Shuffled ds es → Shuffled (xs ++ ds) (ys ++ es)
same_append _ _ ds es Empty k = k
same_append _ _ ds es (With a b xs ys key mark time values h) k = With a b (xs ++ ds) (ys ++ es) key mark time values (same_append xs ys ds es h k)
same_append _ _ ds es (Swapped a b xs) k =
    Through (a ∷ b ∷ (xs ++ ds)) (b ∷ a ∷ (xs ++ ds)) (b ∷ a ∷ (xs ++ es)) (Swapped a b (xs ++ ds)) (same_after (b ∷ a ∷ xs) ds es k)
same_append _ _ ds es (Through xs ys zs h l) k =
    Through (xs ++ ds) (ys ++ ds) (zs ++ es) (same_append xs ys ds ds h (shuffled-itself ds)) (same_append ys zs ds es l k)

-- these are the same bag
pub same_bag : (ds es : List Datum) → Shuffled ds es → SameBag ds es
same_bag _ _ Empty = IsPermutation-refl []
same_bag _ _ (With d e ds es key mark time values h) =
    let same : said_by d ≡ said_by e = λ i. (key i, time i, values i) in
    subst (λ x. IsPermutation (said_by d ∷ map said_by ds) (x ∷ map said_by es)) same (IsPermutation-cons (said_by d) (map said_by ds) (map said_by es) (same_bag ds es h))
same_bag _ _ (Swapped d e ds) = IsPermutation-middle (said_by d ∷ []) (said_by e) (map said_by ds)
same_bag _ _ (Through ds es fs h k) = IsPermutation-trans (map said_by ds) (map said_by es) (map said_by fs) (same_bag ds es h) (same_bag es fs k)

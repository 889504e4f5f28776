-- Selected records, the newest first: no two came on one turn, so parts of them are put together by
-- turn.
use Rattle.std.proofs.Common.{◌≡◌, ℕ, suc, ◌<◌, Bool, true, false, ◌||◌, cond, List, [], ◌∷◌, ◌++◌, length, ◌⊎◌, inl, inr, refl, sym, ap, subst, ◌∙◌, arith}
use Rattle.std.proofs.lemmas.Bool.Decides.{nat_tests}
use Rattle.std.specs.Prelude.{filter, nat_eq, nat_lt}
use Rattle.std.specs.List.{AllByRecursion}
use Rattle.std.proofs.lemmas.Bool.{lt-ltb}
use Rattle.wsm_record.specs.Event.{Event}
use Rattle.wsm_semantics.specs.Query.{Query, Datum, datum, selection, mark, selected, selection_of}
use Rattle.wsm_semantics.specs.Firings.{holds}
use Rattle.wsm_semantics.specs.Kept.{with_datum, merged}
use Rattle.wsm_semantics.proofs.Lists.{filter-all, all-each}
use Rattle.wsm_semantics.proofs.Each.{all-both, itself}
use Rattle.wsm_semantics.proofs.Effects.{by_effect}

-- all came before a turn
abbrev pub Below : ℕ → List Datum → Type 0
Below n ds = AllByRecursion (λ x. x.turn < n) ds

-- each came after those behind it
abbrev pub AreFalling : List Datum → Type 0
AreFalling [] = Unit {0}
AreFalling (d ∷ ds) = Below d.turn ds × AreFalling ds

-- an event selects nothing or one record of its turn
pub one_or_none : (q : Query) (past : List Event) (e : Event) → (selection_of q past e ≡ []) ⊎ ((d : Datum) × (d.turn ≡ length past) × (selection_of q past e ≡ d ∷ []))
one_or_none q past =
    by_effect q past (λ e x. (selection x ≡ []) ⊎ ((d : Datum) × (d.turn ≡ length past) × (selection x ≡ d ∷ [])))
    (λ k t vs _ _. inr (datum (length past) (mark q past) k t vs, refl, refl))
    (λ o t _. inl refl)
    (λ e _. inl refl)

later : (n : ℕ) (ds : List Datum) → Below n ds → Below (suc n) ds
later n ds h = all-each (λ x. x.turn < n) (λ x. x.turn < suc n) ds (λ x k. omega arith) h

below_one_more : (n : ℕ) (sel ds : List Datum) → Below n ds → (sel ≡ []) ⊎ ((d : Datum) × (d.turn ≡ n) × (sel ≡ d ∷ [])) → Below (suc n) (sel ++ ds)
below_one_more n sel ds h (inl none) = subst (λ (xs : List Datum). Below (suc n) (xs ++ ds)) (sym none) (later n ds h)
below_one_more n sel ds h (inr one) =
    let turn : one.0.turn ≡ n = one.1 in
    subst (λ (xs : List Datum). Below (suc n) (xs ++ ds)) (sym one.2) (omega arith, later n ds h)

falls_one_more : (n : ℕ) (sel ds : List Datum) → Below n ds → AreFalling ds → (sel ≡ []) ⊎ ((d : Datum) × (d.turn ≡ n) × (sel ≡ d ∷ [])) → AreFalling (sel ++ ds)
falls_one_more n sel ds h f (inl none) = subst (λ (xs : List Datum). AreFalling (xs ++ ds)) (sym none) f
falls_one_more n sel ds h f (inr one) =
    subst (λ (xs : List Datum). AreFalling (xs ++ ds)) (sym one.2) (subst (λ (m : ℕ). Below m ds) (sym one.1) h, f)

-- selected records came before the next turn
pub selected_below : (q : Query) (past : List Event) → Below (length past) (selected q past)
selected_below q [] = tt
selected_below q (e ∷ past) = below_one_more (length past) (selection_of q past e) (selected q past) (selected_below q past) (one_or_none q past e)

pub selected_falls : (q : Query) (past : List Event) → AreFalling (selected q past)
selected_falls q [] = tt
selected_falls q (e ∷ past) = falls_one_more (length past) (selection_of q past e) (selected q past) (selected_below q past) (selected_falls q past) (one_or_none q past e)

older : (m n : ℕ) → m < n → nat_lt n m ≡ false
older m n h = grind (arith, nat_tests)

pub unlike : (m n : ℕ) → m < n → nat_eq m n ≡ false
unlike m n h = grind (arith, nat_tests)

pub unlike_newer : (m n : ℕ) → m < n → nat_eq n m ≡ false
unlike_newer m n h = grind (arith, nat_tests)

put_first : (x : Datum) (ys : List Datum) → Below x.turn ys → with_datum x ys ≡ x ∷ ys
put_first x [] h = refl
put_first x (y ∷ ys) h = ap (λ (b : Bool). cond b (x ∷ y ∷ ys) (y ∷ with_datum x ys)) (lt-ltb y.turn x.turn h.0)

first_of_second : (x : Datum) (xs ys : List Datum) → Below x.turn xs → merged xs (x ∷ ys) ≡ x ∷ merged xs ys
first_of_second x [] ys h = refl
first_of_second x (z ∷ xs) ys h =
    ap (with_datum z) (first_of_second x xs ys h.1)
    ∙ ap (λ (b : Bool). cond b (z ∷ x ∷ merged xs ys) (x ∷ with_datum z (merged xs ys))) (older z.turn x.turn h.0)

-- what passes either of two tests that none passes both is the two parts put together by turn
pub merged-filter : (a b : Datum → Bool) → ((x : Datum) → a x ≡ true → b x ≡ false) → (ds : List Datum) → AreFalling ds → merged (filter a ds) (filter b ds) ≡ filter (λ x. a x || b x) ds
merged-filter a b apart [] h = refl
merged-filter a b apart (x ∷ ds) h =
    let A : List Datum = filter a ds in
    let B : List Datum = filter b ds in
    let F : List Datum = filter (λ y. a y || b y) ds in
    let rest : merged A B ≡ F = merged-filter a b apart ds h.1 in
    let Old : Datum → Type 0 = λ y. y.turn < x.turn in
    elim (a x) as (λ p. a x ≡ p → merged (cond p (x ∷ A) A) (cond (b x) (x ∷ B) B) ≡ cond (p || b x) (x ∷ F) F) [
      | true ↦ λ k.
          ap (λ (c : Bool). merged (x ∷ A) (cond c (x ∷ B) B)) (apart x k)
          ∙ ap (with_datum x) rest
          ∙ put_first x F (filter-all Old (λ y. a y || b y) ds h.0)
      | false ↦ λ k. elim (b x) as (λ c. merged A (cond c (x ∷ B) B) ≡ cond c (x ∷ F) F) [
        | true ↦ first_of_second x A B (filter-all Old a ds h.0) ∙ ap (λ (ys : List Datum). x ∷ ys) rest
        | false ↦ rest
      ]
    ] refl

pub none_held : (x : Datum) (ds : List Datum) → Below x.turn ds → holds x ds ≡ false
none_held x [] h = refl
none_held x (y ∷ ds) h = λ i. unlike y.turn x.turn h.0 i || none_held x ds h.1 i

-- a record is held by those that pass a test exactly where it passes
pub holds-filter : (r : Datum → Bool) (ds : List Datum) → AreFalling ds → AllByRecursion (λ x. holds x (filter r ds) ≡ r x) ds
holds-filter r [] h = tt
holds-filter r (x ∷ ds) h =
    let R : List Datum = filter r ds in (
      elim (r x) as (λ b. holds x (cond b (x ∷ R) R) ≡ b) [
        | true ↦ ap (λ (b : Bool). b || holds x R) (itself x.turn)
        | false ↦ none_held x R (filter-all (λ y. y.turn < x.turn) r ds h.0)
      ],
      all-both (λ y. y.turn < x.turn) (λ y. holds y R ≡ r y) (λ y. holds y (cond (r x) (x ∷ R) R) ≡ r y)
          (λ y old is. elim (r x) as (λ b. holds y (cond b (x ∷ R) R) ≡ r y) [
            | true ↦ ap (λ (b : Bool). b || holds y R) (unlike_newer y.turn x.turn old) ∙ is
            | false ↦ is
          ])
          ds h.0 (holds-filter r ds h.1),
    )

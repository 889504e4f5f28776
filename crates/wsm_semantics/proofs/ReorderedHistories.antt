-- Two histories of which one is the other in another order: the watermark, the selected records as a
-- bag, and the rises of the watermark pair by pair.
use Rattle.std.proofs.Common.{◌≡◌, ℕ, Bool, true, false, ◌&&◌, cond, List, [], ◌∷◌, ◌++◌, map, length, ℤ, ◌≤ℤ◌, Some, None, is_none, refl, sym, ap, subst, ◌∙◌, arith}
use Rattle.std.proofs.lemmas.Int.{ints, clamps}
use Rattle.std.specs.Prelude.{if◌then◌else◌}
use Rattle.std.specs.Int.{int_max}
use Rattle.std.specs.List.{range_with_len}
use Rattle.wsm_record.specs.Event.{Event, Record, Watermark}
use Rattle.wsm_record.specs.Schema.{source_count}
use Rattle.wsm_admission.specs.declared.clock.Clock.{Clock}
use Rattle.wsm_admission.specs.Clock.{is_source, is_time, source_mark, least}
use Rattle.wsm_admission.proofs.SourceMarks.{watermark_rises}
use Rattle.wsm_semantics.specs.Query.{Datum, Query, Selects, Nothing, mark, raises, verdict_on, is_taken, selected, selection, selection_of}
use Rattle.wsm_semantics.specs.Order.{Judged, judged, is_rise, Reordered, Done, Next, Swap, Then, Permuted, all_rises, InPairs}
use Rattle.wsm_semantics.proofs.Effects.{down_stays, selects_none}
use Rattle.wsm_semantics.proofs.ReorderedRecords.{Shuffled, Empty, With, Swapped, Through, shuffled-itself, same_append, same_after}

pub reordered-itself : (xs : List Judged) → Reordered xs xs
reordered-itself [] = Done
reordered-itself (x ∷ xs) = Next x xs xs (reordered-itself xs)

-- ---- the marks

-- the events alone
abbrev pub events_of : List Judged → List Event
events_of [] = []
events_of (x ∷ xs) = x.0 ∷ events_of xs

pub events_judged : (q : Query) (past : List Event) → events_of (judged q past) ≡ past
events_judged q [] = refl
events_judged q (e ∷ past) = ap (λ es. e ∷ es) (events_judged q past)

module _ (c : Clock) (s : ℕ) where
  -- a source's mark after an event
  abbrev after_event : ℤ → Event → ℤ
  after_event m (Record key t vs) = m
  after_event m (Watermark o t) = if is_source s o && is_time t then int_max m t else m

  mark_after : (e : Event) (past : List Event) → source_mark c s (e ∷ past) ≡ after_event (source_mark c s past) e
  mark_after (Record key t vs) past = refl
  mark_after (Watermark o t) past = refl

  two_maxima : (m t u : ℤ) (a b : Bool) →
      (if a then int_max (if b then int_max m t else m) u else (if b then int_max m t else m)) ≡ (if b then int_max (if a then int_max m u else m) t else (if a then int_max m u else m))
  two_maxima m t u true true = grind (arith, ints, clamps)
  two_maxima m t u true false = refl
  two_maxima m t u false true = refl
  two_maxima m t u false false = refl

  in_turn : (m : ℤ) (a b : Event) → after_event (after_event m b) a ≡ after_event (after_event m a) b
  in_turn m (Record key t vs) b = refl
  in_turn m (Watermark o t) (Record key u vs) = refl
  in_turn m (Watermark o t) (Watermark p u) = two_maxima m u t (is_source s o && is_time t) (is_source s p && is_time u)

  source_reordered : (xs ys : List Judged) → Reordered xs ys → source_mark c s (events_of xs) ≡ source_mark c s (events_of ys)
  source_reordered _ _ Done = refl
  source_reordered _ _ (Next e xs ys r) =
      mark_after e.0 (events_of xs) ∙ ap (λ (m : ℤ). after_event m e.0) (source_reordered xs ys r) ∙ sym (mark_after e.0 (events_of ys))
  source_reordered _ _ (Swap a b xs h k) =
      let past : List Event = events_of xs in
      mark_after a.0 (b.0 ∷ past) ∙ ap (λ (m : ℤ). after_event m a.0) (mark_after b.0 past)
      ∙ in_turn (source_mark c s past) a.0 b.0
      ∙ sym (mark_after b.0 (a.0 ∷ past) ∙ ap (λ (m : ℤ). after_event m b.0) (mark_after a.0 past))
  source_reordered _ _ (Then xs ys zs r t) = source_reordered xs ys r ∙ source_reordered ys zs t

-- the watermark after some events hangs on no order
abbrev pub mark_by : Query → List Judged → ℤ
mark_by q xs = mark q (events_of xs)

pub mark_reordered : (q : Query) (xs ys : List Judged) → Reordered xs ys → mark_by q xs ≡ mark_by q ys
mark_reordered q xs ys r = λ i. least (map (λ s. source_reordered q.clock s xs ys r i) (range_with_len 0 (source_count q.declared)))

between : (m n o : ℤ) → m ≤ℤ n → n ≤ℤ o → o ≡ m → n ≡ m
between m n o h k e = omega (arith, ints)

module _ (q : Query) where
  pub mark_is : (past : List Event) → mark q past ≡ mark_by q (judged q past)
  mark_is past = ap (mark q) (sym (events_judged q past))

  pub same_mark : (past other : List Event) → Permuted q past other → mark q past ≡ mark q other
  same_mark past other r = mark_is past ∙ mark_reordered q (judged q past) (judged q other) r ∙ sym (mark_is other)

  -- and so after one event more
  pub same_mark_after : (past other : List Event) (e : Event) → Permuted q past other → mark q (e ∷ past) ≡ mark q (e ∷ other)
  same_mark_after past other e r =
      let x : Judged = (e, None, false) in
      ap (λ es. mark q (e ∷ es)) (sym (events_judged q past)) ∙ mark_reordered q (x ∷ judged q past) (x ∷ judged q other) (Next x (judged q past) (judged q other) r) ∙ ap (λ es. mark q (e ∷ es)) (events_judged q other)

  -- what is told as no rise leaves the watermark
  abbrev pub AreTold : List Judged → Type 0
  AreTold [] = Unit {0}
  AreTold (x ∷ xs) = (is_rise x ≡ false → mark_by q (x ∷ xs) ≡ mark_by q xs) × AreTold xs

  pub judged_told : (past : List Event) → AreTold (judged q past)
  judged_told [] = tt
  judged_told (e ∷ past) = (
    λ down. sym (ap (λ es. mark q (e ∷ es)) (sym (events_judged q past))) ∙ down_stays q past e down ∙ mark_is past,
    judged_told past,
  )

  -- of two that leave it each leaves it in either order
  pub swapped_told : (a b : Judged) (xs : List Judged) → is_rise a ≡ false → is_rise b ≡ false → AreTold (a ∷ b ∷ xs) → (mark_by q (a ∷ xs) ≡ mark_by q xs) × (mark_by q (b ∷ a ∷ xs) ≡ mark_by q xs)
  swapped_told a b xs k l h =
      let last : mark_by q (b ∷ a ∷ xs) ≡ mark_by q xs = mark_reordered q (b ∷ a ∷ xs) (a ∷ b ∷ xs) (Swap b a xs l k) ∙ h.0 k ∙ h.1.0 l in
      (between (mark_by q xs) (mark_by q (a ∷ xs)) (mark_by q (b ∷ a ∷ xs)) (watermark_rises q.clock q.declared (events_of xs) a.0) (watermark_rises q.clock q.declared (events_of (a ∷ xs)) b.0) last, last)

  pub reordered_told : (xs ys : List Judged) → Reordered xs ys → AreTold xs → AreTold ys
  reordered_told _ _ Done h = tt
  reordered_told _ _ (Next e xs ys r) h = (
    λ down. sym (mark_reordered q (e ∷ xs) (e ∷ ys) (Next e xs ys r)) ∙ h.0 down ∙ mark_reordered q xs ys r,
    reordered_told xs ys r h.1,
  )
  reordered_told _ _ (Swap a b xs k l) h = let both = swapped_told a b xs k l h in (λ _. both.1 ∙ sym both.0, (λ _. both.0, h.1.1))
  reordered_told _ _ (Then xs ys zs r s) h = reordered_told ys zs s (reordered_told xs ys r h)

  -- ---- the selected records

  -- the record of an event at a watermark, at no turn
  abbrev pub said : ℤ → Judged → List Datum
  said m (Record None t vs, why, up) = []
  said m (Record (Some k) t vs, why, up) = cond (is_none why && q.selects k vs) (record { turn = 0; mark = m; key = k; time = t; values = vs } ∷ []) []
  said m (Watermark o t, why, up) = []

  abbrev pub said_all : List Judged → List Datum
  said_all [] = []
  said_all (x ∷ xs) = said (mark_by q xs) x ++ said_all xs

  pub swapped_said : (m : ℤ) (a b : Judged) (ds : List Datum) → Shuffled (said m a ++ (said m b ++ ds)) (said m b ++ (said m a ++ ds))
  swapped_said m (Record None t vs, why, up) b ds = shuffled-itself (said m b ++ ds)
  swapped_said m (Watermark o t, why, up) b ds = shuffled-itself (said m b ++ ds)
  swapped_said m (Record (Some k) t vs, why, up) b ds =
      let d : Datum = record { turn = 0; mark = m; key = k; time = t; values = vs } in
      elim (is_none why && q.selects k vs) as (λ c. Shuffled (cond c (d ∷ []) [] ++ (said m b ++ ds)) (said m b ++ (cond c (d ∷ []) [] ++ ds))) [
        | true ↦ past_said d b
        | false ↦ shuffled-itself (said m b ++ ds)
      ]
    where
      past_said : (d : Datum) (b : Judged) → Shuffled (d ∷ (said m b ++ ds)) (said m b ++ (d ∷ ds))
      past_said d (Record None u us, why, up) = shuffled-itself (d ∷ ds)
      past_said d (Watermark o u, why, up) = shuffled-itself (d ∷ ds)
      past_said d (Record (Some j) u us, why, up) =
          let e : Datum = record { turn = 0; mark = m; key = j; time = u; values = us } in
          elim (is_none why && q.selects j us) as (λ c. Shuffled (d ∷ (cond c (e ∷ []) [] ++ ds)) (cond c (e ∷ []) [] ++ (d ∷ ds))) [
            | true ↦ Swapped d e ds
            | false ↦ shuffled-itself (d ∷ ds)
          ]

  -- two that leave the watermark say the same in either order
  pub swapped_at : (a b : Judged) (xs : List Judged) (ds : List Datum) → is_rise a ≡ false → is_rise b ≡ false → AreTold (a ∷ b ∷ xs) →
      Shuffled (said (mark_by q (b ∷ xs)) a ++ (said (mark_by q xs) b ++ ds)) (said (mark_by q (a ∷ xs)) b ++ (said (mark_by q xs) a ++ ds))
  swapped_at a b xs ds k l h =
      let m : ℤ = mark_by q xs in
      subst (λ (w : ℤ). Shuffled (said w a ++ (said m b ++ ds)) (said (mark_by q (a ∷ xs)) b ++ (said m a ++ ds))) (sym (h.1.0 l))
      (subst (λ (w : ℤ). Shuffled (said m a ++ (said m b ++ ds)) (said w b ++ (said m a ++ ds))) (sym (swapped_told a b xs k l h).0) (swapped_said m a b ds))

  pub said_reordered : (xs ys : List Judged) → Reordered xs ys → AreTold xs → Shuffled (said_all xs) (said_all ys)
  said_reordered _ _ Done h = Empty
  said_reordered _ _ (Next e xs ys r) h =
      subst (λ (m : ℤ). Shuffled (said (mark_by q xs) e ++ said_all xs) (said m e ++ said_all ys)) (mark_reordered q xs ys r)
      (same_after (said (mark_by q xs) e) (said_all xs) (said_all ys) (said_reordered xs ys r h.1))
  said_reordered _ _ (Swap a b xs k l) h = swapped_at a b xs (said_all xs) k l h
  said_reordered _ _ (Then xs ys zs r s) h = Through (said_all xs) (said_all ys) (said_all zs) (said_reordered xs ys r h) (said_reordered ys zs s (reordered_told xs ys r h))

  pub selection_said : (past : List Event) (e : Event) (up : Bool) → Shuffled (selection_of q past e) (said (mark q past) (e, verdict_on q past e, up))
  selection_said past (Record None t vs) up = Empty
  selection_said past (Record (Some k) t vs) up =
      let d : Datum = record { turn = length past; mark = mark q past; key = k; time = t; values = vs } in
      let s : Datum = record { turn = 0; mark = mark q past; key = k; time = t; values = vs } in
      elim (is_taken q past (Record (Some k) t vs) && q.selects k vs) as (λ b. Shuffled (selection (cond b (Selects d) Nothing)) (cond b (s ∷ []) [])) [
        | true ↦ With d s [] [] refl refl refl refl Empty
        | false ↦ Empty
      ]
  selection_said past (Watermark o t) up = subst (λ (ds : List Datum). Shuffled ds []) (sym (selects_none q past o t)) Empty

  -- at the watermark by the events
  pub selection_by : (past : List Event) (e : Event) (up : Bool) → Shuffled (selection_of q past e) (said (mark_by q (judged q past)) (e, verdict_on q past e, up))
  selection_by past e up = subst (λ (m : ℤ). Shuffled (selection_of q past e) (said m (e, verdict_on q past e, up))) (mark_is past) (selection_said past e up)

  pub selected_said : (past : List Event) → Shuffled (selected q past) (said_all (judged q past))
  selected_said [] = Empty
  selected_said (e ∷ past) =
      same_append (selection_of q past e) (said (mark_by q (judged q past)) (e, verdict_on q past e, raises q past e)) (selected q past) (said_all (judged q past)) (selection_by past e (raises q past e)) (selected_said past)

-- ---- the rises

-- related pairs of the first and second, and of the second and third
pub pairs_through : {A B C : Type 0} (R : A → B → Type 0) (S : B → C → Type 0) (U : A → C → Type 0) → ((x : A) (y : B) (z : C) → R x y → S y z → U x z) →
    (xs : List A) (ys : List B) (zs : List C) → InPairs R xs ys → InPairs S ys zs → InPairs U xs zs
pairs_through R S U f [] [] [] h k = tt
pairs_through R S U f [] [] (z ∷ zs) h k = absurd k
pairs_through R S U f [] (y ∷ ys) zs h k = absurd h
pairs_through R S U f (x ∷ xs) [] zs h k = absurd h
pairs_through R S U f (x ∷ xs) (y ∷ ys) [] h k = absurd k
pairs_through R S U f (x ∷ xs) (y ∷ ys) (z ∷ zs) h k = (f x y z h.0 k.0, pairs_through R S U f xs ys zs h.1 k.1)

pub pairs_each : {A B : Type 0} (R S : A → B → Type 0) → ((x : A) (y : B) → R x y → S x y) → (xs : List A) (ys : List B) → InPairs R xs ys → InPairs S xs ys
pairs_each R S f [] [] h = tt
pairs_each R S f [] (y ∷ ys) h = absurd h
pairs_each R S f (x ∷ xs) [] h = absurd h
pairs_each R S f (x ∷ xs) (y ∷ ys) h = (f x y h.0, pairs_each R S f xs ys h.1)

pub pairs_itself : {A : Type 0} (R : A → A → Type 0) → ((x : A) → R x x) → (xs : List A) → InPairs R xs xs
pairs_itself R f [] = tt
pairs_itself R f (x ∷ xs) = (f x, pairs_itself R f xs)

-- an event that raises the watermark with those before it, as they are told
abbrev Rise : Type 0
Rise = List Judged × Event

abbrev rise_of : Judged → List Judged → List Rise
rise_of x xs = cond (is_rise x) ((xs, x.0) ∷ []) []

abbrev rises : List Judged → List Rise
rises [] = []
rises (x ∷ xs) = rise_of x xs ++ rises xs

abbrev SameRise : Rise → Rise → Type 0
SameRise a b = Reordered a.0 b.0 × (a.1 ≡ b.1)

no_rise : (x : Judged) (xs : List Judged) → is_rise x ≡ false → rise_of x xs ≡ []
no_rise x xs h = ap (λ (b : Bool). cond b ((xs, x.0) ∷ []) []) h

rises_next : (x : Judged) (xs ys : List Judged) → Reordered xs ys → InPairs SameRise (rises xs) (rises ys) → InPairs SameRise (rise_of x xs ++ rises xs) (rise_of x ys ++ rises ys)
rises_next x xs ys r h =
    elim (is_rise x) as (λ b. InPairs SameRise (cond b ((xs, x.0) ∷ []) [] ++ rises xs) (cond b ((ys, x.0) ∷ []) [] ++ rises ys)) [
      | true ↦ ((r, refl), h)
      | false ↦ h
    ]

rises_reordered : (xs ys : List Judged) → Reordered xs ys → InPairs SameRise (rises xs) (rises ys)
rises_reordered _ _ Done = tt
rises_reordered _ _ (Next e xs ys r) = rises_next e xs ys r (rises_reordered xs ys r)
rises_reordered _ _ (Swap a b xs h k) =
    let one : rises (a ∷ b ∷ xs) ≡ rises xs = λ i. no_rise a (b ∷ xs) h i ++ (no_rise b xs k i ++ rises xs) in
    let two : rises (b ∷ a ∷ xs) ≡ rises xs = λ i. no_rise b (a ∷ xs) k i ++ (no_rise a xs h i ++ rises xs) in
    subst (InPairs SameRise (rises (a ∷ b ∷ xs))) (one ∙ sym two) (pairs_itself SameRise (λ r. (reordered-itself r.0, refl)) (rises (a ∷ b ∷ xs)))
rises_reordered _ _ (Then xs ys zs r s) =
    pairs_through SameRise SameRise SameRise (λ x y z h k. (Then x.0 y.0 z.0 h.0 k.0, h.1 ∙ k.1)) (rises xs) (rises ys) (rises zs) (rises_reordered xs ys r) (rises_reordered ys zs s)

module _ (q : Query) where
  -- a rise of a history, and one as it is told
  abbrev IsRiseOf : List Event × Event → Rise → Type 0
  IsRiseOf a b = (judged q a.0 ≡ b.0) × (a.1 ≡ b.1)

  all_told : (past : List Event) → InPairs IsRiseOf (all_rises q past) (rises (judged q past))
  all_told [] = tt
  all_told (e ∷ past) =
      elim (raises q past e) as (λ b. InPairs IsRiseOf (cond b ((past, e) ∷ all_rises q past) (all_rises q past)) (cond b ((judged q past, e) ∷ []) [] ++ rises (judged q past))) [
        | true ↦ ((refl, refl), all_told past)
        | false ↦ all_told past
      ]

  -- the histories before two rises by one event are one another in another order
  abbrev pub SameRises : List Event × Event → List Event × Event → Type 0
  SameRises a b = Permuted q a.0 b.0 × (a.1 ≡ b.1)

  flipped : {A B : Type 0} (R : A → B → Type 0) (xs : List A) (ys : List B) → InPairs R xs ys → InPairs (λ y x. R x y) ys xs
  flipped R [] [] h = tt
  flipped R [] (y ∷ ys) h = absurd h
  flipped R (x ∷ xs) [] h = absurd h
  flipped R (x ∷ xs) (y ∷ ys) h = (h.0, flipped R xs ys h.1)

  pub same_rises : (past other : List Event) → Permuted q past other → InPairs SameRises (all_rises q past) (all_rises q other)
  same_rises past other r =
      pairs_through IsRiseOf (λ (b : Rise) (c : List Event × Event). Reordered b.0 (judged q c.0) × (b.1 ≡ c.1)) SameRises
      (λ a b c h k. (subst (λ xs. Reordered xs (judged q c.0)) (sym h.0) k.0, h.1 ∙ k.1))
      (all_rises q past) (rises (judged q past)) (all_rises q other) (all_told past)
      (pairs_through SameRise (λ (b : Rise) (c : List Event × Event). IsRiseOf c b) (λ (b : Rise) (c : List Event × Event). Reordered b.0 (judged q c.0) × (b.1 ≡ c.1))
      (λ a b c h k. (subst (Reordered a.0) (sym k.0) h.0, h.1 ∙ sym k.1))
      (rises (judged q past)) (rises (judged q other)) (all_rises q other)
      (rises_reordered (judged q past) (judged q other) r)
      (flipped IsRiseOf (all_rises q other) (rises (judged q other)) (all_told other)))

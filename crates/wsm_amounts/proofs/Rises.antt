-- A pane that fires where the watermark rises in two steps fires once, in the one or in the other, where it fires in one step, and over the
-- same records: so as many rows are written, and withdrawn.
use Rattle.std.proofs.Common.{◌≡◌, ℕ, suc, ◌+◌, Bool, true, false, ◌&&◌, ◌||◌, cond, List, [], ◌∷◌, ◌++◌, map, length, ℤ, pos, ◌+ℤ◌, ◌≤ℤ◌, Option, Some, None, is_some, refl, sym, ap, ◌∙◌, arith}
use Rattle.std.proofs.lemmas.Int.{ints}
use Rattle.std.proofs.lemmas.Bool.{true≢false, false_from_ne_true}
use Rattle.std.proofs.Math.Bool.{or-false}
use Rattle.std.proofs.lemmas.List.{length-append}
use Rattle.std.specs.Prelude.{filter, filter_map, int_le, int_lt, nat_lt, option_map}
use Rattle.std.specs.List.{cons_option}
use Rattle.std.specs.Ordering.{is_gt}
use Rattle.wsm_record.specs.declared.cell.Cell.{Cell}
use Rattle.wsm_record.specs.declared.words.Mode.{Mode}
use Rattle.wsm_record.specs.declared.words.Form.{Form}
use Rattle.wsm_record.specs.declared.words.Form.TheVariants.{Panes}
use Rattle.wsm_record.specs.Modes.{retracts}
use Rattle.wsm_record.specs.Event.{Event, Watermark}
use Rattle.wsm_windows.specs.declared.window.PaneKind.{PaneKind}
use Rattle.wsm_windows.specs.declared.window.PaneKind.TheVariants.{OnTime, Final}
use Rattle.wsm_windows.specs.Windows.{IsShape}
use Rattle.wsm_windows.specs.declared.place.Place.{Place}
use Rattle.wsm_windows.specs.Places.{place_cmp, window_of}
use Rattle.wsm_admission.proofs.SourceMarks.{watermark_rises}
use Rattle.wsm_semantics.specs.declared.out_row.OutRow.TheVariants.{Pane}
use Rattle.wsm_semantics.specs.Query.{Datum, Query, Rises, Nothing, SessionsByEvent, effect_of, mark, raises}
use Rattle.wsm_semantics.specs.Panes.{is_live_at}
use Rattle.wsm_semantics.specs.Firings.{firing_of, firing_set, pane_rows, row_of}
use Rattle.wsm_semantics.specs.Retractions.{with_written, by_place, retract_row, retracted, retracted_in, retract_rows}
use Rattle.wsm_semantics.specs.Relation.{chosen_rows, streamed, turn_rows}
use Rattle.wsm_semantics.specs.Kept.{Kept, kept, kind_by_watermark, fires, fired_kept, all_fired, kept_after_watermark, written_by, withdrawn_firing, withdrawn_by_watermark}
use Rattle.wsm_semantics.specs.Replay.{withdrawn_by}
use Rattle.wsm_semantics.proofs.Lists.{filter_map_none}
use Rattle.wsm_semantics.proofs.Effects.{down_stays}
use Rattle.wsm_semantics.proofs.Turns.{idle}
use Rattle.wsm_semantics.proofs.FiringsSoFar.{PlacesLaw}
use Rattle.wsm_semantics.proofs.EventTurns.{kept-watermark, firings-watermark}
use Rattle.wsm_semantics.proofs.KeptLaw as kept_law
use Rattle.wsm_amounts.specs.Rises.{rows_written, RisesAlike}

-- ---- how many there are

abbrev pub count : {A : Type 0} → Option A → ℕ
count None = 0
count (Some x) = 1

length-option : {A : Type 0} (o : Option A) (xs : List A) → length (cons_option o xs) ≡ count o + length xs
length-option None xs = omega arith
length-option (Some x) xs = omega arith

abbrev pub total : {A : Type 0} → (A → ℕ) → List A → ℕ
total f [] = 0
total f (x ∷ xs) = f x + total f xs

total-both : {A : Type 0} (f g h : A → ℕ) → ((x : A) → f x + g x ≡ h x) → (xs : List A) → total f xs + total g xs ≡ total h xs
total-both f g h each [] = omega arith
total-both f g h each (x ∷ xs) = let rest = total-both f g h each xs in let one = each x in omega (arith, rest, one)

length-written : (w : Place × List Cell) (ws : List (Place × List Cell)) → length (with_written w ws) ≡ suc (length ws)
length-written w [] = refl
length-written w (x ∷ xs) =
    elim (is_gt (place_cmp w.0 x.0)) as (λ b. length (cond b (x ∷ with_written w xs) (w ∷ x ∷ xs)) ≡ suc (suc (length xs))) [
      | true ↦ ap suc (length-written w xs)
      | false ↦ refl
    ]

length-by_place : (ws : List (Place × List Cell)) → length (by_place ws) ≡ length ws
length-by_place [] = refl
length-by_place (w ∷ ws) = length-written w (by_place ws) ∙ ap suc (length-by_place ws)

length-map : {A B : Type 0} (f : A → B) (xs : List A) → length (map f xs) ≡ length xs
length-map f [] = refl
length-map f (x ∷ xs) = ap suc (length-map f xs)

length-retracted : (m : Mode) (ws : List (Place × List Cell)) → length (retracted_in m ws) ≡ cond (retracts m) (length ws) 0
length-retracted m ws =
    elim (retracts m) as (λ b. length (cond b (retracted ws) []) ≡ cond b (length ws) 0) [
      | true ↦ length-map retract_row (by_place ws) ∙ length-by_place ws
      | false ↦ refl
    ]

module _ (q : Query) where
  -- the row of what a pane fires, and the row that is withdrawn then
  abbrev pub of_row : Place × Kept → ℕ
  of_row e = count (q.row e.0.key (firing_set q.mode e.1.all e.1.unshown))

  abbrev pub of_retracts : Bool → Place × Kept → ℕ
  of_retracts b e = cond b (count (written_by q e.0 e.1.stands)) 0

  abbrev pub writes : Bool → Place × Kept → ℕ
  writes fired e = cond fired (of_retracts (retracts q.mode) e + of_row e) 0

  module _ (kind : Place → Kept → Option PaneKind) where
    abbrev pub fires_by : Place × Kept → Bool
    fires_by e = is_some (kind e.0 e.1)

    count-withdrawn : (b : Bool) (es : List (Place × Kept)) → cond b (length (withdrawn_firing q kind es)) 0 ≡ total (λ e. cond (fires_by e) (of_retracts b e) 0) es
    count-withdrawn false [] = refl
    count-withdrawn false (e ∷ es) = count-withdrawn false es ∙ one (fires_by e) where
      one : (b : Bool) → total (λ e. cond (fires_by e) 0 0) es ≡ cond b 0 0 + total (λ e. cond (fires_by e) 0 0) es
      one true = omega arith
      one false = omega arith
    count-withdrawn true [] = refl
    count-withdrawn true (e ∷ es) =
        elim (fires_by e) as (λ b. length (cons_option (cond b (written_by q e.0 e.1.stands) None) (withdrawn_firing q kind es)) ≡ cond b (count (written_by q e.0 e.1.stands)) 0 + total (λ e. cond (fires_by e) (of_retracts true e) 0) es) [
          | true ↦ length-option (written_by q e.0 e.1.stands) (withdrawn_firing q kind es) ∙ ap (λ (n : ℕ). count (written_by q e.0 e.1.stands) + n) (count-withdrawn true es)
          | false ↦ count-withdrawn true es ∙ in_front (total (λ e. cond (fires_by e) (of_retracts true e) 0) es)
        ]
      where
        in_front : (n : ℕ) → n ≡ 0 + n
        in_front n = omega arith

    count-map : {A B : Type 0} (f : A → B) (o : Option A) → count (option_map f o) ≡ count o
    count-map f None = refl
    count-map f (Some x) = refl

    count-rows : (n : ℕ) (es : List (Place × Kept)) → length (filter_map (row_of q) (fires q n kind es)) ≡ total (λ e. cond (fires_by e) (of_row e) 0) es
    count-rows n [] = refl
    count-rows n (e ∷ es) =
        let set : List Datum = firing_set q.mode e.1.all e.1.unshown in
        let rest : List _ = filter_map (row_of q) (fires q n kind es) in
        elim (kind e.0 e.1) as (λ k. length (filter_map (row_of q) (cons_option (firing_of n e.0 e.1.all set k) (fires q n kind es))) ≡ cond (is_some k) (of_row e) 0 + total (λ e. cond (fires_by e) (of_row e) 0) es) [
          | None ↦ count-rows n es ∙ in_front (total (λ e. cond (fires_by e) (of_row e) 0) es)
          | Some k ↦
              length-option (option_map (Pane k e.0.key (window_of e.0)) (q.row e.0.key set)) rest
              ∙ (λ i. count-map (Pane k e.0.key (window_of e.0)) (q.row e.0.key set) i + count-rows n es i)
        ]
      where
        in_front : (n : ℕ) → n ≡ 0 + n
        in_front n = omega arith

    shared : (b : Bool) (r s : ℕ) → cond b r 0 + cond b s 0 ≡ cond b (r + s) 0
    shared true r s = refl
    shared false r s = refl

    -- all rows of a turn
    pub count-turn : (n : ℕ) (es : List (Place × Kept)) → length (retracted_in q.mode (withdrawn_firing q kind es) ++ filter_map (row_of q) (fires q n kind es)) ≡ total (λ e. writes (fires_by e) e) es
    count-turn n es =
        length-append (retracted_in q.mode (withdrawn_firing q kind es)) (filter_map (row_of q) (fires q n kind es))
        ∙ (λ i. (length-retracted q.mode (withdrawn_firing q kind es) ∙ count-withdrawn (retracts q.mode) es) i + count-rows n es i)
        ∙ total-both (λ e. cond (fires_by e) (of_retracts (retracts q.mode) e) 0) (λ e. cond (fires_by e) (of_row e) 0) (λ e. writes (fires_by e) e) (λ e. shared (fires_by e) (of_retracts (retracts q.mode) e) (of_row e)) es

-- ---- in one step and in two

some_kind : (x y : Bool) → is_some (cond x (Some OnTime) (cond y (Some Final) None)) ≡ (x || y)
some_kind true y = refl
some_kind false true = refl
some_kind false false = refl

-- it comes to an end in one of two steps
in_two : (a b c e : ℤ) → a ≤ℤ b → b ≤ℤ c → (int_lt a e && int_le e c) ≡ ((int_lt a e && int_le e b) || (int_lt b e && int_le e c))
in_two a b c e h k = grind (arith, ints)

not_in_both : (a b c e : ℤ) → (int_lt a e && int_le e b) ≡ true → (int_lt b e && int_le e c) ≡ false
not_in_both a b c e h = grind (arith, ints)

over_first : (a b c end l : ℤ) → pos 0 ≤ℤ l → (int_lt a (end +ℤ l) && int_le (end +ℤ l) b) ≡ true → (int_lt b end && int_le end c) ≡ false
over_first a b c end l low h = grind (arith, ints)

dead_then : (a b end l : ℤ) → (int_lt a (end +ℤ l) && int_le (end +ℤ l) b) ≡ true → int_lt b (end +ℤ l) ≡ false
dead_then a b end l h = grind (arith, ints)

dead_later : (b c last : ℤ) → int_lt b last ≡ false → (int_lt b last && int_le last c) ≡ false
dead_later b c last h = grind (arith, ints)

over_later : (b c end l : ℤ) → pos 0 ≤ℤ l → int_lt b (end +ℤ l) ≡ false → (int_lt b end && int_le end c) ≡ false
over_later b c end l low h = grind (arith, ints)

abbrev fires_first : (d1 x1 all unshown : Bool) → Bool
fires_first d1 x1 all unshown = (d1 && all) || (x1 && unshown)

-- what fires in the first step fires in both together
fires_then : (d1 d2 x1 x2 all unshown : Bool) → fires_first d1 x1 all unshown ≡ true → fires_first (d1 || d2) (x1 || x2) all unshown ≡ true
fires_then true d2 x1 x2 true unshown h = refl
fires_then true d2 true x2 false unshown h = h
fires_then true d2 false x2 false unshown h = absurd (true≢false (sym h))
fires_then false true true x2 true unshown h = refl
fires_then false true false x2 true unshown h = absurd (true≢false (sym h))
fires_then false true true x2 false unshown h = h
fires_then false true false x2 false unshown h = absurd (true≢false (sym h))
fires_then false false true x2 all unshown h = h
fires_then false false false x2 all unshown h = absurd (true≢false (sym h))

-- and not again, having shown all
not_again : (d1 d2 x1 x2 all unshown all_then : Bool) → (d1 ≡ true → d2 ≡ false) → (x1 ≡ true → d2 ≡ false) → fires_first d1 x1 all unshown ≡ true → fires_first d2 x2 all_then false ≡ false
not_again true d2 x1 x2 all unshown all_then once over h = ap (λ (b : Bool). (b && all_then) || (x2 && false)) (once refl) ∙ none x2 where
  none : (b : Bool) → (b && false) ≡ false
  none true = refl
  none false = refl
not_again false d2 true x2 all unshown all_then once over h = ap (λ (b : Bool). (b && all_then) || (x2 && false)) (over refl) ∙ none x2 where
  none : (b : Bool) → (b && false) ≡ false
  none true = refl
  none false = refl
not_again false d2 false x2 all unshown all_then once over h = absurd (true≢false (sym h))

-- where it doesn't fire in the first step it fires in the second where it does in both together, if it isn't dropped before
as_second : (d1 d2 x1 x2 all unshown : Bool) → x1 ≡ false → fires_first d1 x1 all unshown ≡ false → fires_first d2 x2 all unshown ≡ fires_first (d1 || d2) (x1 || x2) all unshown
as_second true d2 x1 x2 true unshown gone h = absurd (true≢false h)
as_second true d2 x1 x2 false unshown gone h = λ i. no_more d2 i || ((sym gone i || x2) && unshown) where
  no_more : (b : Bool) → (b && false) ≡ false
  no_more true = refl
  no_more false = refl
as_second false d2 x1 x2 all unshown gone h = λ i. (d2 && all) || ((sym gone i || x2) && unshown)

-- and not at all, if it is
nor_second : (d1 d2 x1 x2 all unshown : Bool) → d2 ≡ false → x2 ≡ false → fires_first d1 x1 all unshown ≡ false → fires_first (d1 || d2) (x1 || x2) all unshown ≡ false
nor_second d1 d2 x1 x2 all unshown over gone h = (λ i. ((d1 || over i) && all) || ((x1 || gone i) && unshown)) ∙ (λ i. (or-false d1 i && all) || (or-false x1 i && unshown)) ∙ h

-- ---- of kept panes

total-map : {A B : Type 0} (f : B → ℕ) (g : A → B) (xs : List A) → total f (map g xs) ≡ total (λ x. f (g x)) xs
total-map f g [] = refl
total-map f g (x ∷ xs) = ap (λ (n : ℕ). f (g x) + n) (total-map f g xs)

total-filter : {A : Type 0} (f : A → ℕ) (t : A → Bool) (xs : List A) → total f (filter t xs) ≡ total (λ x. cond (t x) (f x) 0) xs
total-filter f t [] = refl
total-filter f t (x ∷ xs) =
    elim (t x) as (λ b. total f (cond b (x ∷ filter t xs) (filter t xs)) ≡ cond b (f x) 0 + total (λ x. cond (t x) (f x) 0) xs) [
      | true ↦ ap (λ (n : ℕ). f x + n) (total-filter f t xs)
      | false ↦ total-filter f t xs ∙ in_front (total (λ x. cond (t x) (f x) 0) xs)
    ]
  where
    in_front : (n : ℕ) → n ≡ 0 + n
    in_front n = omega arith

none_more : (n : ℕ) (b : Bool) → n + cond b 0 0 ≡ n
none_more n true = omega arith
none_more n false = omega arith

module _ (q : Query) (low : pos 0 ≤ℤ q.clock.lateness) where
  abbrev last : Place × Kept → ℤ
  last e = e.0.end +ℤ q.clock.lateness

  abbrev due : ℤ → ℤ → Place × Kept → Bool
  due a b e = int_lt a e.0.end && int_le e.0.end b

  abbrev over : ℤ → ℤ → Place × Kept → Bool
  over a b e = int_lt a (last e) && int_le (last e) b

  abbrev has_all : Place × Kept → Bool
  has_all e = nat_lt 0 (length (firing_set q.mode e.1.all e.1.unshown))

  abbrev has_unshown : Place × Kept → Bool
  has_unshown e = nat_lt 0 (length e.1.unshown)

  abbrev pub kind : ℤ → ℤ → Place × Kept → Option PaneKind
  kind a b e = kind_by_watermark q a b e.0 e.1

  fires_where : (a b : ℤ) (e : Place × Kept) → is_some (kind a b e) ≡ fires_first (due a b e) (over a b e) (has_all e) (has_unshown e)
  fires_where a b e = some_kind (due a b e && has_all e) (over a b e && has_unshown e)

  abbrev pub written : ℤ → ℤ → Place × Kept → ℕ
  written a b e = writes q (is_some (kind a b e)) e

  module _ (old mid new : ℤ) (up : old ≤ℤ mid) (on : mid ≤ℤ new) where
    abbrev live : Place × Kept → Bool
    live e = is_live_at q mid e.0

    abbrev after : Place × Kept → Place × Kept
    after e = (e.0, fired_kept q.mode e.0 (kind old mid e) e.1)

    both_steps : (e : Place × Kept) → fires_first (due old new e) (over old new e) (has_all e) (has_unshown e) ≡ fires_first (due old mid e || due mid new e) (over old mid e || over mid new e) (has_all e) (has_unshown e)
    both_steps e = λ i. fires_first (in_two old mid new e.0.end up on i) (in_two old mid new (last e) up on i) (has_all e) (has_unshown e)

    -- a pane that doesn't fire in the first step
    unfired : (e : Place × Kept) → kind old mid e ≡ None → 0 + cond (live e) (written mid new e) 0 ≡ written old new e
    unfired e none =
        let quiet : fires_first (due old mid e) (over old mid e) (has_all e) (has_unshown e) ≡ false = sym (fires_where old mid e) ∙ ap (λ (o : Option PaneKind). is_some o) none in
        elim (live e) as (λ b. live e ≡ b → 0 + cond b (written mid new e) 0 ≡ written old new e) [
          | true ↦ λ lives.
              let gone : over old mid e ≡ false = false_from_ne_true (over old mid e) (λ h. true≢false (sym lives ∙ dead_then old mid e.0.end q.clock.lateness h)) in
              let same : is_some (kind mid new e) ≡ is_some (kind old new e) =
              fires_where mid new e ∙ as_second (due old mid e) (due mid new e) (over old mid e) (over mid new e) (has_all e) (has_unshown e) gone quiet ∙ sym (both_steps e) ∙ sym (fires_where old new e) in
              in_front (written mid new e) ∙ ap (λ (b : Bool). writes q b e) same
          | false ↦ λ dead.
              let never : is_some (kind old new e) ≡ false =
              fires_where old new e ∙ both_steps e
              ∙ nor_second (due old mid e) (due mid new e) (over old mid e) (over mid new e) (has_all e) (has_unshown e) (over_later mid new e.0.end q.clock.lateness low dead) (dead_later mid new (last e) dead) quiet in
              sym (ap (λ (b : Bool). writes q b e) never)
        ] refl
      where
        in_front : (n : ℕ) → 0 + n ≡ n
        in_front n = omega arith

    -- and one that does
    fired : (e : Place × Kept) (k : PaneKind) → kind old mid e ≡ Some k → writes q true e + cond (live e) (written mid new (e.0, fired_kept q.mode e.0 (Some k) e.1)) 0 ≡ written old new e
    fired e k is =
        let x : Place × Kept = (e.0, fired_kept q.mode e.0 (Some k) e.1) in
        let fires : fires_first (due old mid e) (over old mid e) (has_all e) (has_unshown e) ≡ true = sym (fires_where old mid e) ∙ ap (λ (o : Option PaneKind). is_some o) is in
        let once : is_some (kind mid new x) ≡ false =
        fires_where mid new x
        ∙ not_again (due old mid e) (due mid new e) (over old mid e) (over mid new e) (has_all e) (has_unshown e) (has_all x) (not_in_both old mid new e.0.end) (over_first old mid new e.0.end q.clock.lateness low) fires in
        let whole : is_some (kind old new e) ≡ true = fires_where old new e ∙ both_steps e ∙ fires_then (due old mid e) (due mid new e) (over old mid e) (over mid new e) (has_all e) (has_unshown e) fires in
        ap (λ (b : Bool). writes q true e + cond (live e) (writes q b x) 0) once
        ∙ none_more (writes q true e) (live e)
        ∙ sym (ap (λ (b : Bool). writes q b e) whole)

    one_pane : (e : Place × Kept) → written old mid e + cond (live e) (written mid new (after e)) 0 ≡ written old new e
    one_pane e =
        elim (kind old mid e) as (λ o. kind old mid e ≡ o → writes q (is_some o) e + cond (live e) (written mid new (e.0, fired_kept q.mode e.0 o e.1)) 0 ≡ written old new e) [
          | None ↦ λ is. unfired e is
          | Some k ↦ λ is. fired e k is
        ] refl

    pub all_panes : (es : List (Place × Kept)) → total (written old mid) es + total (written mid new) (kept_after_watermark q old mid es) ≡ total (written old new) es
    all_panes es =
        ap (λ (n : ℕ). total (written old mid) es + n)
        (total-filter (written mid new) (λ e. is_live_at q mid e.0) (all_fired q (kind_by_watermark q old mid) es)
        ∙ total-map (λ e. cond (is_live_at q mid e.0) (written mid new e) 0) after es)
        ∙ total-both (written old mid) (λ e. cond (live e) (written mid new (after e)) 0) (written old new) one_pane es

-- ---- turns

module _ (q : Query) (ok : IsShape q.shape) (timely : SessionsByEvent q) (low : pos 0 ≤ℤ q.clock.lateness) (panes_alone : q.form ≡ Panes) where
  abbrev law : PlacesLaw q
  law = kept_law.places q ok timely

  withdraws : (past : List Event) (o : Option ℕ) (t : ℤ) → withdrawn_by q (effect_of q past (Watermark o t)) (kept q past) ≡ withdrawn_by_watermark q (mark q past) (mark q (Watermark o t ∷ past)) (kept q past)
  withdraws past o t =
      let w : Event = Watermark o t in
      elim (raises q past w) as (λ b. raises q past w ≡ b → withdrawn_by q (cond b (Rises (mark q past) (mark q (w ∷ past))) Nothing) (kept q past) ≡ withdrawn_by_watermark q (mark q past) (mark q (w ∷ past)) (kept q past)) [
        | true ↦ λ _. refl
        | false ↦ λ down.
            sym (filter_map_none (λ e. cond (is_some (kind_by_watermark q (mark q past) (mark q (w ∷ past)) e.0 e.1)) (written_by q e.0 e.1.stands) None) (kept q past)
            (λ e.
            ap (λ (m : ℤ). cond (is_some (kind_by_watermark q (mark q past) m e.0 e.1)) (written_by q e.0 e.1.stands) None) (down_stays q past w down)
            ∙ ap (λ (k : Option PaneKind). cond (is_some k) (written_by q e.0 e.1.stands) None) (idle q past (mark q past) e.0 (length (firing_set q.mode e.1.all e.1.unshown)) (length e.1.unshown))))
      ] refl

  turn_is : (past : List Event) (o : Option ℕ) (t : ℤ) → let kind = kind_by_watermark q (mark q past) (mark q (Watermark o t ∷ past)) in
      turn_rows q past (Watermark o t) ≡ retracted_in q.mode (withdrawn_firing q kind (kept q past)) ++ filter_map (row_of q) (fires q (length past) kind (kept q past))
  turn_is past o t =
      let w : Event = Watermark o t in
      ap (λ (f : Form). chosen_rows f (retract_rows q.mode q past w ++ pane_rows q past w) (streamed q past w)) panes_alone
      ∙ (λ i. (kept_law.retract_rows-by q ok timely low q.mode past w ∙ ap (retracted_in q.mode) (withdraws past o t)) i ++ filter_map (row_of q) (firings-watermark q low timely law past o t i))

  pub counted : (past : List Event) (o : Option ℕ) (t : ℤ) → rows_written q past (Watermark o t) ≡ total (written q low (mark q past) (mark q (Watermark o t ∷ past))) (kept q past)
  counted past o t = ap length (turn_is past o t) ∙ count-turn q (kind_by_watermark q (mark q past) (mark q (Watermark o t ∷ past))) (length past) (kept q past)

  pub rises_alike : RisesAlike q
  rises_alike past o r t u same =
      let w : Event = Watermark o t in
      let old : ℤ = mark q past in
      let mid : ℤ = mark q (w ∷ past) in
      let new : ℤ = mark q (Watermark r u ∷ w ∷ past) in
      (λ i. counted past o t i + (counted (w ∷ past) r u ∙ ap (total (written q low mid new)) (kept-watermark q low timely law past o t)) i)
      ∙ all_panes q low old mid new (watermark_rises q.clock q.declared past w) (watermark_rises q.clock q.declared (w ∷ past) (Watermark r u)) (kept q past)
      ∙ ap (λ (m : ℤ). total (written q low old m) (kept q past)) same
      ∙ sym (counted past r u)

-- A place whose end and lateness the watermark came to has shown all of its records: what was unshown
-- fired when it was dropped, on time or as the final firing. For any mode.
use Rattle.std.proofs.Common.{◌≡◌, ℕ, suc, Bool, true, false, ◌&&◌, cond, not, List, [], ◌∷◌, ◌++◌, length, ℤ, ◌+ℤ◌, Option, Some, None, refl, sym, ap, subst, ◌∙◌, arith}
use Rattle.std.proofs.lemmas.Int.{ints}
use Rattle.std.proofs.lemmas.Bool.{true≢false, or_left, lt-ltb}
use Rattle.std.specs.Prelude.{filter, int_le, int_lt, nat_lt}
use Rattle.std.specs.List.{AllByRecursion}
use Rattle.wsm_record.specs.declared.event.Value.{Value}
use Rattle.wsm_record.specs.Event.{Event, Record, Watermark}
use Rattle.wsm_windows.specs.declared.window.PaneKind.{PaneKind}
use Rattle.wsm_windows.specs.declared.window.PaneKind.TheVariants.{OnTime, Final}
use Rattle.wsm_windows.specs.Life.{is_due}
use Rattle.wsm_windows.specs.declared.place.Place.{Place}
use Rattle.wsm_windows.specs.Places.{window_of}
use Rattle.wsm_semantics.specs.Query.{Query, Datum, SessionsByEvent, datum, Nothing, effect_of, mark, verdict_on, selection, selected, selection_of}
use Rattle.wsm_semantics.specs.Panes.{places, is_there, contents, is_live_at}
use Rattle.wsm_semantics.specs.Firings.{firing_set, is_shown, kind_on_watermark}
use Rattle.wsm_semantics.proofs.Lists.{all-each}
use Rattle.wsm_semantics.proofs.Tables.{among}
use Rattle.wsm_semantics.proofs.KeptTurns.{lives_there}
use Rattle.wsm_semantics.proofs.Effects.{by_effect, selects_one, selects_none, nothing_stays}
use Rattle.wsm_semantics.proofs.Turns.{places-same, contents-same}
use Rattle.wsm_semantics.proofs.ShownPanes.{ShowsOwn, kind-watermark, unshown_of, unshown_by, unshown-after}

-- a place that is new with a selected record has it
abbrev pub NewHaveRecord : Query → Type 0
NewHaveRecord q = (past : List Event) (k : ℕ) (t : ℤ) (vs : List Value) → verdict_on q past (Record (Some k) t vs) ≡ None → q.selects k vs ≡ true → (p : Place) →
    among p (places q (Record (Some k) t vs ∷ past)) ≡ true → is_there q p (datum (length past) (mark q past) k t vs) ≡ false → among p (places q past) ≡ true

-- all records of the place were shown
abbrev pub AllShown : Query → List Event → Place → Type 0
AllShown q past p = AllByRecursion (λ d. is_shown q past p d ≡ true) (contents q past p)

-- each place that isn't held has shown all of its records
abbrev pub DropsShown : Query → List Event → Type 0
DropsShown q past = (p : Place) → among p (places q past) ≡ true → is_live_at q (mark q past) p ≡ false → AllShown q past p

passed_all : (t : Datum → Bool) (xs : List Datum) → filter (λ d. not (t d)) xs ≡ [] → AllByRecursion (λ d. t d ≡ true) xs
passed_all t [] h = tt
passed_all t (x ∷ xs) h =
    elim (t x) as (λ b. t x ≡ b → cond (not b) (x ∷ filter (λ d. not (t d)) xs) (filter (λ d. not (t d)) xs) ≡ [] → AllByRecursion (λ d. t d ≡ true) (x ∷ xs)) [
      | true ↦ λ e k. (e, passed_all t xs k)
      | false ↦ λ e k. absurd (cc)
    ] refl h

dropped_now : (t end : ℤ) → int_lt t end ≡ false → int_le end t ≡ true
dropped_now t end h = grind (arith, ints)

-- at the watermark that comes to the end and the lateness, what is unshown fires
last_fires : (q : Query) (old t : ℤ) (p : Place) (n : ℕ) (left : List Datum) → int_lt old (p.end +ℤ q.clock.lateness) ≡ true → int_lt t (p.end +ℤ q.clock.lateness) ≡ false →
    unshown_by (kind_on_watermark q old t p n (length left)) left ≡ []
last_fires q old t p n [] live dead =
    elim (kind_on_watermark q old t p n 0) as (λ o. unshown_by o [] ≡ []) [ None ↦ refl | Some kind ↦ refl ]
last_fires q old t p n (x ∷ xs) live dead =
    let last : Bool = (int_lt old (p.end +ℤ q.clock.lateness) && int_le (p.end +ℤ q.clock.lateness) t) && nat_lt 0 (suc (length xs)) in
    let fires : last ≡ true = λ i. (live i && dropped_now t (p.end +ℤ q.clock.lateness) dead i) && lt-ltb 0 (suc (length xs)) (omega arith) i in
    elim (is_due (window_of p) old t && nat_lt 0 n) as (λ b. unshown_by (cond b (Some OnTime) (cond last (Some Final) None)) (x ∷ xs) ≡ []) [
      | true ↦ refl
      | false ↦ ap (λ (b : Bool). unshown_by (cond b (Some Final) None) (x ∷ xs)) fires
    ]

module _ (q : Query) (timely : SessionsByEvent q) (own : (past : List Event) → ShowsOwn q past) (new : NewHaveRecord q) where
  module _ (past : List Event) (before : DropsShown q past) where
    -- what was shown is shown later
    later : (e : Event) (p : Place) → contents q (e ∷ past) p ≡ contents q past p → AllShown q past p → AllShown q (e ∷ past) p
    later e p same shown =
        subst (AllByRecursion (λ d. is_shown q (e ∷ past) p d ≡ true)) (sym same)
        (all-each (λ d. is_shown q past p d ≡ true) (λ d. is_shown q (e ∷ past) p d ≡ true) (contents q past p) (λ d h. or_left _ _ h) shown)

    -- an event that selects nothing leaves the places
    module _ (e : Event) (none : selection_of q past e ≡ []) where
      placed_before : (p : Place) → among p (places q (e ∷ past)) ≡ true → among p (places q past) ≡ true
      placed_before p placed = ap (among p) (sym (places-same q past e none)) ∙ placed

    -- one that does nothing
    still : (e : Event) → effect_of q past e ≡ Nothing → DropsShown q (e ∷ past)
    still e none p placed dead =
        let unselected : selection_of q past e ≡ [] = ap selection none in
        later e p (contents-same q past e unselected p)
        (before p (placed_before e unselected p placed) (ap (λ (w : ℤ). is_live_at q w p) (sym (nothing_stays q past e none)) ∙ dead))

    -- a selected record comes into no place that isn't held
    recorded : (k : ℕ) (t : ℤ) (vs : List Value) → verdict_on q past (Record (Some k) t vs) ≡ None → q.selects k vs ≡ true → DropsShown q (Record (Some k) t vs ∷ past)
    recorded k t vs taken selects p placed dead =
        let e : Event = Record (Some k) t vs in
        let d : Datum = datum (length past) (mark q past) k t vs in
        let away : is_there q p d ≡ false = elim (is_there q p d) as (λ b. is_there q p d ≡ b → b ≡ false) [
          | true ↦ λ there. sym (lives_there q past timely k t vs taken p there) ∙ dead
          | false ↦ λ _. refl
        ] refl in
        let selection : selection_of q past e ≡ d ∷ [] = selects_one q past k t vs taken selects in
        later e p
        (ap (λ (ds : List Datum). filter (is_there q p) (ds ++ selected q past)) selection ∙ ap (λ (b : Bool). cond b (d ∷ contents q past p) (contents q past p)) away)
        (before p (new past k t vs taken selects p placed away) dead)

    -- a watermark drops a place once it has shown all
    risen : (o : Option ℕ) (t : ℤ) → DropsShown q (Watermark o t ∷ past)
    risen o t p placed dead =
        let e : Event = Watermark o t in
        let none : selection_of q past e ≡ [] = selects_none q past o t in
        let all : List Datum = contents q (e ∷ past) p in
        let left : List Datum = unshown_of q past p all in
        elim (is_live_at q (mark q past) p) as (λ b. is_live_at q (mark q past) p ≡ b → AllShown q (e ∷ past) p) [
          | true ↦ λ live. passed_all (is_shown q (e ∷ past) p) all
              (unshown-after q past e (own (e ∷ past)) p placed
              ∙ ap (λ (o : Option PaneKind). unshown_by o left) (kind-watermark q past o t p all)
              ∙ last_fires q (mark q past) (mark q (e ∷ past)) p (length (firing_set q.mode all left)) left live dead)
          | false ↦ λ before_it. later e p (contents-same q past e none p) (before p (placed_before e none p placed) before_it)
        ] refl

    after : (e : Event) → DropsShown q (e ∷ past)
    after = by_effect q past (λ e _. DropsShown q (e ∷ past)) recorded (λ o t _. risen o t) still

  pub dropped_shown : (past : List Event) → DropsShown q past
  dropped_shown [] = λ p placed dead. absurd (true≢false (sym placed))
  dropped_shown (e ∷ past) = after past (dropped_shown past) e

-- Lists of records by the records that they hold: which are within which, and those that are parts of
-- the selected records, in their order.
use Rattle.std.proofs.Common.{◌≡◌, ℕ, ◌<◌, Bool, true, false, cond, List, [], ◌∷◌, ◌++◌, length, refl, sym, ap, subst, ◌∙◌, ⊎_elim}
use Rattle.std.proofs.lemmas.Bool.{true≢false, and_parts, and_from, or_cases, or_left, or_right, eqb-true}
use Rattle.std.specs.Prelude.{filter}
use Rattle.std.specs.List.{AllByRecursion}
use Rattle.wsm_record.specs.Event.{Event}
use Rattle.wsm_semantics.specs.Query.{Datum, Query, selection, selected, selection_of}
use Rattle.wsm_semantics.specs.Firings.{holds}
use Rattle.wsm_semantics.specs.StandingFirings.{is_within}
use Rattle.wsm_semantics.proofs.Lists.{IsNonEmpty, filter-all, all-each}
use Rattle.wsm_semantics.proofs.Each.{itself, filter-each}
use Rattle.wsm_semantics.proofs.Effects.{by_effect}
use Rattle.wsm_semantics.proofs.MergedRecords.{AreFalling, Below, none_held, holds-filter, selected_below}

-- each record that the first holds, the second holds
abbrev pub Within : List Datum → List Datum → Type 0
Within xs ys = (d : Datum) → holds d xs ≡ true → holds d ys ≡ true

-- some of the records, in their order
abbrev pub IsPart : List Datum → List Datum → Type 0
IsPart sel xs = xs ≡ filter (λ d. holds d xs) sel

pub within : (xs ys : List Datum) → is_within xs ys ≡ true → Within xs ys
within [] ys h d k = absurd (true≢false (sym k))
within (x ∷ xs) ys h d k =
    let parts = and_parts _ _ h in
    ⊎_elim
    (λ same. ap (λ (n : ℕ). holds (record d { turn = n }) ys) (sym (eqb-true x.turn d.turn same)) ∙ parts.0)
    (λ later. within xs ys parts.1 d later)
    (or_cases _ _ k)

pub is_within_by : (xs ys : List Datum) → Within xs ys → is_within xs ys ≡ true
is_within_by [] ys h = refl
is_within_by (x ∷ xs) ys h = and_from _ _ (h x (or_left _ _ (itself x.turn))) (is_within_by xs ys (λ d k. h d (or_right _ _ k)))

pub itself_within : (xs : List Datum) → is_within xs xs ≡ true
itself_within xs = is_within_by xs xs (λ d k. k)

pub filter_part : (t : Datum → Bool) (sel : List Datum) → AreFalling sel → IsPart sel (filter t sel)
filter_part t sel h = filter-each t (λ d. holds d (filter t sel)) sel (all-each (λ d. holds d (filter t sel) ≡ t d) (λ d. t d ≡ holds d (filter t sel)) sel (λ d is. sym is) (holds-filter t sel h))

skipped : (p : Datum → Bool) (new xs : List Datum) → AllByRecursion (λ x. p x ≡ false) new → filter p (new ++ xs) ≡ filter p xs
skipped p [] xs h = refl
skipped p (n ∷ ns) xs h = ap (λ (b : Bool). cond b (n ∷ filter p (ns ++ xs)) (filter p (ns ++ xs))) h.0 ∙ skipped p ns xs h.1

added : (b : Bool) (x : Datum) (ys : List Datum) (d : Datum) → holds d ys ≡ true → holds d (cond b (x ∷ ys) ys) ≡ true
added true x ys d k = or_right _ _ k
added false x ys d k = k

-- a wider test of more records holds what the narrower did
pub wider : (t u : Datum → Bool) → ((x : Datum) → t x ≡ true → u x ≡ true) → (new sel : List Datum) → Within (filter t sel) (filter u (new ++ sel))
wider t u h [] [] d k = absurd (true≢false (sym k))
wider t u h [] (x ∷ xs) d k =
    elim (t x) as (λ b. t x ≡ b → holds d (cond b (x ∷ filter t xs) (filter t xs)) ≡ true → holds d (filter u (x ∷ xs)) ≡ true) [
      | true ↦ λ e k. ap (λ (b : Bool). holds d (cond b (x ∷ filter u xs) (filter u xs))) (h x e) ∙ ⊎_elim (λ same. or_left _ _ same) (λ later. or_right _ _ (wider t u h [] xs d later)) (or_cases _ _ k)
      | false ↦ λ e k. added (u x) x (filter u xs) d (wider t u h [] xs d k)
    ] refl k
wider t u h (n ∷ ns) sel d k = added (u n) n (filter u (ns ++ sel)) d (wider t u h ns sel d k)

-- a record of a part that isn't empty
pub one_held : (P : Datum → Type 0) (sel xs : List Datum) → AllByRecursion P sel → IsPart sel xs → IsNonEmpty xs → (x : Datum) × P x × (holds x xs ≡ true)
one_held P sel xs all part (x, rest, is) =
    let each : AllByRecursion P xs = subst (AllByRecursion P) (sym part) (filter-all P (λ d. holds d xs) sel all) in
    let first = subst (AllByRecursion P) is each in
    (x, first.0, ap (holds x) is ∙ or_left _ _ (itself x.turn))

-- ---- the selected records

-- an event's record, if it is selected, is of the event's turn
pub new_turn : (q : Query) (past : List Event) (e : Event) → AllByRecursion (λ d. d.turn ≡ length past) (selection_of q past e)
new_turn q past = by_effect q past (λ e x. AllByRecursion (λ d. d.turn ≡ length past) (selection x)) (λ k t vs _ _. (refl, tt)) (λ o t _. tt) (λ e _. tt)

-- what was a part of the selected records is one still
pub part_stays : (q : Query) (past : List Event) (e : Event) (xs : List Datum) → IsPart (selected q past) xs → IsPart (selected q (e ∷ past)) xs
part_stays q past e xs part =
    let before : Below (length past) xs = subst (Below (length past)) (sym part) (filter-all (λ (d : Datum). d.turn < length past) (λ d. holds d xs) (selected q past) (selected_below q past)) in
    part
    ∙ sym (skipped (λ d. holds d xs) (selection_of q past e) (selected q past)
    (all-each (λ d. d.turn ≡ length past) (λ d. holds d xs ≡ false) (selection_of q past e) (λ d now. none_held d xs (subst (λ (n : ℕ). Below n xs) (sym now) before)) (new_turn q past e)))

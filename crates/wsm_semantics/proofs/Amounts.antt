-- Where panes discard what they showed, what the rows of some windows come to in a column that adds up is what the records
-- come to that their firings showed, each once; and once these windows were dropped what all their records do.
use Rattle.std.proofs.Common.{◌≡◌, ℕ, Bool, true, false, ◌&&◌, cond, not, List, [], ◌∷◌, ◌++◌, length, ℤ, pos, ◌+ℤ◌, Option, Some, None, refl, sym, ap, subst, ◌∙◌}
use Rattle.std.proofs.lemmas.Bool.{and_parts}
use Rattle.std.specs.Prelude.{filter, filter_map, option_map}
use Rattle.std.specs.List.{AllByRecursion, cons_option}
use Rattle.wsm_record.specs.declared.cell.Cell.{Cell}
use Rattle.wsm_record.specs.declared.words.Mode.{Mode}
use Rattle.wsm_record.specs.declared.words.Mode.TheVariants.{Discarding}
use Rattle.wsm_record.specs.declared.words.Form.{Form}
use Rattle.wsm_record.specs.declared.words.Form.TheVariants.{Panes}
use Rattle.wsm_record.specs.Event.{Event}
use Rattle.wsm_windows.specs.Windows.{IsShape}
use Rattle.wsm_windows.specs.declared.place.Place.{Place}
use Rattle.wsm_windows.specs.Places.{window_of}
use Rattle.wsm_semantics.specs.declared.out_row.OutRow.{OutRow}
use Rattle.wsm_semantics.specs.declared.out_row.OutRow.TheVariants.{Pane}
use Rattle.wsm_semantics.specs.Query.{Datum, Query, SessionsByEvent, selected}
use Rattle.wsm_semantics.specs.Panes.{is_there, panes}
use Rattle.wsm_semantics.specs.Firings.{Firing, firing_set, firings, firings_so_far, holds, is_shown, pane_rows, row_of}
use Rattle.wsm_semantics.specs.FiringSets.{has_in_set}
use Rattle.wsm_semantics.specs.Retractions.{retract_rows}
use Rattle.wsm_semantics.specs.Relation.{chosen_rows, streamed, turn_rows}
use Rattle.wsm_semantics.specs.LastingRows.{rows_so_far}
use Rattle.wsm_semantics.specs.Amounts.{sum_of, many, number_of, amount_in, amount_written, Amount, amount_of, HasAmount, AddsAmounts}
use Rattle.wsm_semantics.proofs.Lists.{all-each}
use Rattle.wsm_semantics.proofs.Each.{all-any, all-append, filter-each, filter-filter, filter_map-all, none_of, passed}
use Rattle.wsm_semantics.proofs.MergedRecords.{selected_falls}
use Rattle.wsm_semantics.proofs.Within.{Within, IsPart, filter_part, part_stays, wider}
use Rattle.wsm_semantics.proofs.ShownPanes.{IsPane, ShowsOwn, each_pane, does, firings_are, unshown_of}
use Rattle.wsm_semantics.proofs.FiringsSoFar.{IsOf, fires_as, shows_own}
use Rattle.wsm_semantics.proofs.KeptLaw as kept_law
use Rattle.wsm_semantics.proofs.FiredOnce.{once_if, fired_where_shown}
use Rattle.wsm_semantics.proofs.Sums.{none_more, one_alone, many-one_more, sum_of-append, sum_of-plus, sum_of-each, sum_of-none, sum_of-filter}

-- what is told of some firings
pub record IsFired (q : Query) (past : List Event) (g : Firing) : Type 0 where
  pub part : IsPart (selected q past) g.fired
  pub there : AllByRecursion (λ d. is_there q g.place d ≡ true) g.fired
  pub inside : Within g.fired g.contents

module _ (q : Query) (discarding : q.mode ≡ Discarding) where
  stays_fired : (past : List Event) (e : Event) (g : Firing) → IsFired q past g → IsFired q (e ∷ past) g
  stays_fired past e g h = record { part = part_stays q past e g.fired h.part; there = h.there; inside = h.inside }

  new_fired : (past : List Event) (e : Event) (x : Place × List Datum) → IsPane q (e ∷ past) x → (g : Firing) → does q past e x ≡ Some g → IsFired q (e ∷ past) g
  new_fired past e x is g h =
      let of_x : IsOf q past x.0 x.1 g = fires_as q past e x.0 x.1 g h in
      let sel : List Datum = selected q (e ∷ past) in
      let left : Datum → Bool = λ d. not (is_shown q past x.0 d) in
      let fired : g.fired ≡ filter (λ d. is_there q x.0 d && left d) sel =
      of_x.fired
      ∙ ap (λ (m : Mode). firing_set m x.1 (unshown_of q past x.0 x.1)) discarding
      ∙ ap (unshown_of q past x.0) is.0
      ∙ filter-filter left (is_there q x.0) sel in
      record {
        part = subst (IsPart sel) (sym fired) (filter_part (λ d. is_there q x.0 d && left d) sel (selected_falls q (e ∷ past)));
        there = subst (λ (p : Place). AllByRecursion (λ d. is_there q p d ≡ true) g.fired) (sym of_x.place)
            (subst (AllByRecursion (λ d. is_there q x.0 d ≡ true)) (sym fired)
            (all-each (λ d. (is_there q x.0 d && left d) ≡ true) (λ d. is_there q x.0 d ≡ true) (filter (λ d. is_there q x.0 d && left d) sel) (λ d k. (and_parts (is_there q x.0 d) (left d) k).0) (passed (λ d. is_there q x.0 d && left d) sel)));
        inside = λ d k.
            ap (holds d) (of_x.contents ∙ is.0)
            ∙ wider (λ y. is_there q x.0 y && left y) (is_there q x.0) (λ y k. (and_parts (is_there q x.0 y) (left y) k).0) [] sel d (sym (ap (holds d) fired) ∙ k);
      }

  pub each_fired : (past : List Event) → AllByRecursion (IsFired q past) (firings_so_far q past)
  each_fired [] = tt
  each_fired (e ∷ past) =
      all-append (IsFired q (e ∷ past)) (firings_so_far q past) (firings q past e)
      (all-each (IsFired q past) (IsFired q (e ∷ past)) (firings_so_far q past) (stays_fired past e) (each_fired past))
      (subst (AllByRecursion (IsFired q (e ∷ past))) (sym (firings_are q past e))
      (filter_map-all (IsPane q (e ∷ past)) (IsFired q (e ∷ past)) (does q past e) (new_fired past e) (panes q (e ∷ past)) (each_pane q (e ∷ past))))

-- ---- sums over firings

module _ (f : Datum → ℤ) (here : Place → Bool) where
  -- a firing of these windows has the record in its firing set
  abbrev pub takes : Datum → Firing → Bool
  takes d g = here g.place && holds d g.fired

  abbrev pub fired_sum : Firing → ℤ
  fired_sum g = cond (here g.place) (sum_of f g.fired) (pos 0)

  one_firing : (sel : List Datum) (g : Firing) → IsPart sel g.fired → fired_sum g ≡ sum_of (λ d. cond (takes d g) (f d) (pos 0)) sel
  one_firing sel g part =
      elim (here g.place) as (λ b. cond b (sum_of f g.fired) (pos 0) ≡ sum_of (λ d. cond (b && holds d g.fired) (f d) (pos 0)) sel) [
        | true ↦ ap (sum_of f) part ∙ sum_of-filter f (λ d. holds d g.fired) sel
        | false ↦ sym (sum_of-none sel)
      ]

  -- each record as often as it is in a firing set
  pub by_record : (sel : List Datum) (gs : List Firing) → AllByRecursion (λ g. IsPart sel g.fired) gs → sum_of fired_sum gs ≡ sum_of (λ d. many (length (filter (takes d) gs)) (f d)) sel
  by_record sel [] h = sym (sum_of-none sel)
  by_record sel (g ∷ gs) h =
      (λ i. one_firing sel g h.0 i +ℤ by_record sel gs h.1 i)
      ∙ sym (sum_of-plus (λ d. cond (takes d g) (f d) (pos 0)) (λ d. many (length (filter (takes d) gs)) (f d)) sel)
      ∙ sum_of-each (λ d. cond (takes d g) (f d) (pos 0) +ℤ many (length (filter (takes d) gs)) (f d)) (λ d. many (length (filter (takes d) (g ∷ gs))) (f d)) sel
      (all-any (λ d. (cond (takes d g) (f d) (pos 0) +ℤ many (length (filter (takes d) gs)) (f d)) ≡ many (length (filter (takes d) (g ∷ gs))) (f d)) (λ d. many-one_more (takes d g) g (filter (takes d) gs) (f d)) sel)

-- ---- rows

module _ (q : Query) (c : ℕ) (amount : Amount) (adds : AddsAmounts q c amount) (here : Place → Bool) where
  one_row : (g : Firing) (o : Option (List Cell)) (rows : List OutRow) → number_of c o ≡ sum_of (amount_of amount) g.fired →
      sum_of (amount_in c here) (cons_option (option_map (Pane g.kind g.place.key (window_of g.place)) o) rows) ≡ fired_sum (amount_of amount) here g +ℤ sum_of (amount_in c here) rows
  one_row g None rows h =
      let rest : ℤ = sum_of (amount_in c here) rows in
      sym (ap (λ (s : ℤ). cond (here g.place) s (pos 0) +ℤ rest) (sym h) ∙ elim (here g.place) as (λ b. (cond b (pos 0) (pos 0) +ℤ rest) ≡ rest) [ true ↦ none_more rest | false ↦ none_more rest ])
  one_row g (Some columns) rows h = ap (λ (s : ℤ). cond (here g.place) s (pos 0) +ℤ sum_of (amount_in c here) rows) h

  rows_sum : (gs : List Firing) → AllByRecursion (HasAmount q c amount) gs → sum_of (amount_in c here) (filter_map (row_of q) gs) ≡ sum_of (fired_sum (amount_of amount) here) gs
  rows_sum [] h = refl
  rows_sum (g ∷ gs) h =
      one_row g (q.row g.place.key g.fired) (filter_map (row_of q) gs) h.0
      ∙ ap (λ (s : ℤ). fired_sum (amount_of amount) here g +ℤ s) (rows_sum gs h.1)

  -- what is written is what the firings come to
  module _ (panes_alone : q.form ≡ Panes) (discarding : q.mode ≡ Discarding) where
    turn_is : (past : List Event) (e : Event) → turn_rows q past e ≡ pane_rows q past e
    turn_is past e =
        ap (λ (f : Form). chosen_rows f (retract_rows q.mode q past e ++ pane_rows q past e) (streamed q past e)) panes_alone
        ∙ ap (λ (m : Mode). retract_rows m q past e ++ pane_rows q past e) discarding

    pub written_sum : (past : List Event) → amount_written q past c here ≡ sum_of (fired_sum (amount_of amount) here) (firings_so_far q past)
    written_sum [] = refl
    written_sum (e ∷ past) =
        sum_of-append (amount_in c here) (rows_so_far q past) (turn_rows q past e)
        ∙ (λ i. written_sum past i +ℤ now i)
        ∙ sym (sum_of-append (fired_sum (amount_of amount) here) (firings_so_far q past) (firings q past e))
      where
        now : sum_of (amount_in c here) (turn_rows q past e) ≡ sum_of (fired_sum (amount_of amount) here) (firings q past e)
        now = ap (sum_of (amount_in c here)) (turn_is past e) ∙ rows_sum (firings q past e) (adds past e)

-- ---- each record once

module _ (q : Query) (ok : IsShape q.shape) (timely : SessionsByEvent q) (discarding : q.mode ≡ Discarding) (panes_alone : q.form ≡ Panes) (c : ℕ) (amount : Amount) (adds : AddsAmounts q c amount) where
  owns : (past : List Event) → ShowsOwn q past
  owns = shows_own q (kept_law.places q ok timely)

  -- some windows, their records, and for each record a place that shows what the firings of these windows have of it
  module _ (past : List Event) (here : Place → Bool) (mine : Datum → Bool) (home : Datum → Place) where
    abbrev pub Matches : Datum → Type 0
    Matches d = AllByRecursion (λ g. takes (amount_of amount) here d g ≡ (mine d && has_in_set q (home d) d g)) (firings_so_far q past)

    abbrev pub is_mine_shown : Datum → Bool
    is_mine_shown d = mine d && is_shown q past (home d) d

    how_often : (d : Datum) → Matches d → length (filter (takes (amount_of amount) here d) (firings_so_far q past)) ≡ once_if (is_mine_shown d)
    how_often d h =
        ap (length {A = Firing}) (filter-each (takes (amount_of amount) here d) (λ g. mine d && has_in_set q (home d) d g) (firings_so_far q past) h)
        ∙ elim (mine d) as (λ b. length (filter (λ g. b && has_in_set q (home d) d g) (firings_so_far q past)) ≡ once_if (b && is_shown q past (home d) d)) [
          | true ↦ fired_where_shown q discarding owns past (home d) d
          | false ↦ ap (length {A = Firing}) (none_of (λ g. false) (firings_so_far q past) (all-any (λ g. false ≡ false) (λ g. refl) (firings_so_far q past)))
        ]

    once : (b : Bool) (x : ℤ) → many (once_if b) x ≡ cond b x (pos 0)
    once true x = one_alone x
    once false x = refl

    pub shown_sum : AllByRecursion Matches (selected q past) → amount_written q past c here ≡ sum_of (amount_of amount) (filter is_mine_shown (selected q past))
    shown_sum matches =
        let f : Datum → ℤ = amount_of amount in
        let gs : List Firing = firings_so_far q past in
        written_sum q c amount adds here panes_alone discarding past
        ∙ by_record f here (selected q past) gs (all-each (IsFired q past) (λ g. IsPart (selected q past) g.fired) gs (λ g h. h.part) (each_fired q discarding past))
        ∙ sum_of-each (λ d. many (length (filter (takes f here d) gs)) (f d)) (λ d. cond (is_mine_shown d) (f d) (pos 0)) (selected q past)
        (all-each Matches (λ d. many (length (filter (takes f here d) gs)) (f d) ≡ cond (is_mine_shown d) (f d) (pos 0)) (selected q past) (λ d h. ap (λ (n : ℕ). many n (f d)) (how_often d h) ∙ once (is_mine_shown d) (f d)) matches)
        ∙ sym (sum_of-filter f is_mine_shown (selected q past))

    -- where all of them were shown
    pub whole_sum : AllByRecursion Matches (selected q past) → AllByRecursion (λ d. mine d ≡ true → is_shown q past (home d) d ≡ true) (selected q past) → amount_written q past c here ≡ sum_of (amount_of amount) (filter mine (selected q past))
    whole_sum matches shown =
        shown_sum matches
        ∙ ap (sum_of (amount_of amount))
        (filter-each is_mine_shown mine (selected q past) (all-each (λ d. mine d ≡ true → is_shown q past (home d) d ≡ true) (λ d. is_mine_shown d ≡ mine d) (selected q past)
        (λ d h. elim (mine d) as (λ b. (b ≡ true → is_shown q past (home d) d ≡ true) → (b && is_shown q past (home d) d) ≡ b) [ true ↦ λ k. k refl | false ↦ λ k. refl ] h) shown))

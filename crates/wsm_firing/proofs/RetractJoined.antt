-- What a record withdraws as it joins two sessions: what stood for both, where both fired.
use Rattle.std.proofs.Common.{sym, ◌≡◌, ℕ, ◌+◌, ◌≤◌, Bool, true, false, not, ◌&&◌, cond, T, List, [], ◌∷◌, length, is_some, Some, None, pos, refl, ap, ◌∙◌, arith}
use Rattle.std.proofs.lemmas.Bool.Decides.{nat_tests}
use Rattle.std.specs.Prelude.{ℤ, nat_eq}
use Rattle.std.specs.List.{AllByRecursion, cons_option}
use Rattle.std.specs.FinMap.Entries.{find, put, where_key, is_sorted, is_sorted-where_key, length-put}
use Rattle.wsm_record.specs.declared.event.Value.{Value}
use Rattle.wsm_record.specs.declared.words.Mode.{Mode}
use Rattle.wsm_record.specs.Modes.{retracts}
use Rattle.wsm_windows.specs.declared.window.Shape.{Shape}
use Rattle.wsm_windows.specs.declared.window.Shape.TheVariants.{Fixed, Sliding, Session}
use Rattle.wsm_windows.specs.declared.place.Place.{Place}
use Rattle.wsm_windows.specs.Places.{place_cmp}
use Rattle.wsm_windows.proofs.Places.{places_total}
use Rattle.wsm_semantics.specs.declared.out_row.OutRow.{OutRow}
use Rattle.wsm_semantics.specs.declared.standing.Standing.{Standing}
use Rattle.wsm_semantics.specs.declared.standing.Standing.TheVariants.{Unfired, Row, Joined}
use Rattle.wsm_semantics.specs.Query.{Datum}
use Rattle.wsm_semantics.specs.Kept.{is_linked}
use Rattle.wsm_semantics.specs.Replay.{datum}
use Rattle.wsm_semantics.specs.Retractions.{retracted, retracted_in}
use Rattle.wsm_semantics.specs.Summaries.{Plan, Pane, entered, joined_all, linked, parted, parted_by, session_with, standing_joined, with_record, withdrawn_entering, written_by}
use Rattle.wsm_semantics.proofs.Assigned.{both}
use Rattle.wsm_list.specs.Joining.{first_two}
use Rattle.wsm_slots.specs.Panes.{has_fired}
use Rattle.wsm_panes.specs.Held.{joined_panes}
use Rattle.wsm_firing.specs.Retracting.{AreWithdrawn, withdrawn_pair}
use Rattle.wsm_firing.proofs.RetractWalk.{Panes, Written}
use Rattle.wsm_firing.proofs.RowsAfterRecord.{length_parts}
use Rattle.wsm_firing.proofs.RowsByMode.{retracted_when}
use Rattle.wsm_firing.proofs.Walk.{some_same}

-- neither the mark nor the values of a record matter
pub pair_unmarked : (sh : Shape) (m : ℤ) (k : ℕ) (t : ℤ) (vs : List Value) (es : Panes) → joined_panes sh (datum 0 m k t vs) es ≡ joined_panes sh (datum 0 (pos 0) k t []) es
pair_unmarked (Fixed size) m k t vs es = refl
pair_unmarked (Sliding size period) m k t vs es = refl
pair_unmarked (Session gap) m k t vs es = refl

-- ---- one pane, and two

one_parts : (s : Standing) (e : Place × Pane (List Value)) → e.1.stands ≡ s → parted s (e ∷ []) ≡ []
one_parts Unfired e is = refl
one_parts (Row v r) e is = refl
one_parts Joined e is = ap (λ (s : Standing). cons_option (written_by e.0 s) []) is

module _ (e f : Place × Pane (List Value)) where
  abbrev of_both : Standing → Standing → Written
  of_both s t = cons_option (written_by e.0 s) (cons_option (written_by f.0 t) [])

  two_part : (s t : Standing) → e.1.stands ≡ s → f.1.stands ≡ t → parted (standing_joined s t) (e ∷ f ∷ []) ≡ cond (has_fired s && has_fired t) (of_both s t) []
  two_part Unfired Unfired is it = refl
  two_part Unfired (Row w u) is it = refl
  two_part Unfired Joined is it = λ i. of_both (is i) (it i)
  two_part (Row v r) Unfired is it = refl
  two_part (Row v r) (Row w u) is it = λ i. of_both (is i) (it i)
  two_part (Row v r) Joined is it = λ i. of_both (is i) (it i)
  two_part Joined Unfired is it = λ i. of_both (is i) (it i)
  two_part Joined (Row w u) is it = λ i. of_both (is i) (it i)
  two_part Joined Joined is it = λ i. of_both (is i) (it i)

-- a session that a record is linked to is of its key
key_here : (gap : ℤ) (d : Datum) (p : Place) → is_linked gap d p ≡ true → p.key ≡ d.key
key_here gap d p is = let same = (both (nat_eq d.key p.key) _ is).0 in grind (arith, nat_tests, same)

linked_keys : (gap : ℤ) (d : Datum) (es : Panes) → AllByRecursion (λ e. e.0.key ≡ d.key) (linked gap d es)
linked_keys gap d [] = tt
linked_keys gap d (e ∷ es) = elim (is_linked gap d e.0) as (λ b. is_linked gap d e.0 ≡ b → AllByRecursion (λ e. e.0.key ≡ d.key) (cond b (e ∷ linked gap d es) (linked gap d es))) [
  | true ↦ λ is. (key_here gap d e.0 is, linked_keys gap d es)
  | false ↦ λ is. linked_keys gap d es
] refl

two_of : (parts : Panes) (v w : Pane (List Value)) → first_two parts ≡ Some (v, w) → 2 ≤ length parts
two_of [] v w two = absurd (cc)
two_of (e ∷ []) v w two = absurd (cc)
two_of (e ∷ f ∷ ps) v w two = omega arith

pub two_held : (sh : Shape) (d : Datum) (es : Panes) (v w : Pane (List Value)) → joined_panes sh d es ≡ Some (v, w) → 2 ≤ length es
two_held (Fixed size) d es v w two = absurd (cc)
two_held (Sliding size period) d es v w two = absurd (cc)
two_held (Session gap) d es v w two = omega (arith, length_parts gap d es, two_of (linked gap d es) v w two)

-- ---- what is withdrawn

module _ (plan : Plan (List Value)) (d : Datum) (es : Panes) where
  none_of : (parts : Panes) → first_two parts ≡ None → parted_by parts (joined_all plan parts) ≡ []
  none_of [] is = refl
  none_of (e ∷ []) is = one_parts e.1.stands e refl
  none_of (e ∷ f ∷ ps) is = absurd (cc)

  -- where it joins none
  pub withdraws_none : (sh : Shape) → joined_panes sh d es ≡ None → withdrawn_entering plan sh d es ≡ []
  withdraws_none (Fixed size) is = refl
  withdraws_none (Sliding size period) is = refl
  withdraws_none (Session gap) is = none_of (linked gap d es) is

  -- where it joins two
  pub record WithdrawsPair (sh : Shape) (v w : Pane (List Value)) : Type 0 where
    pub first : Place
    pub second : Place
    pub key : first.key ≡ d.key
    pub other_key : second.key ≡ d.key
    pub withdrawn : withdrawn_entering plan sh d es ≡ withdrawn_pair first second v w

  module _ (gap : ℤ) (v w : Pane (List Value)) where
    pair_of : (parts : Panes) → linked gap d es ≡ parts → AllByRecursion (λ e. e.0.key ≡ d.key) parts → length parts ≤ 2 → first_two parts ≡ Some (v, w) → WithdrawsPair (Session gap) v w
    pair_of [] is keys few two = absurd (cc)
    pair_of (e ∷ []) is keys few two = absurd (cc)
    pair_of (e ∷ f ∷ g ∷ ps) is keys few two = absurd (omega (arith, few))
    pair_of (e ∷ f ∷ []) is keys few two =
        let same : (e.1, f.1) ≡ (v, w) = some_same two in
        record {
          first = e.0;
          second = f.0;
          key = keys.0;
          other_key = keys.1.0;
          withdrawn =
              ap (λ (parts : Panes). parted_by parts (joined_all plan parts)) is
              ∙ two_part e f e.1.stands f.1.stands refl refl
              ∙ (λ i. withdrawn_pair e.0 f.0 (same i).0 (same i).1);
        }

  pub withdraws_pair : (sh : Shape) (v w : Pane (List Value)) → ((gap : ℤ) → sh ≡ Session gap → length (linked gap d es) ≤ 2) → joined_panes sh d es ≡ Some (v, w) → WithdrawsPair sh v w
  withdraws_pair (Fixed size) v w few two = absurd (cc)
  withdraws_pair (Sliding size period) v w few two = absurd (cc)
  withdraws_pair (Session gap) v w few two = pair_of gap v w (linked gap d es) refl (linked_keys gap d es) (few gap refl) two

  -- once their rows are put
  pub pair_put : (sh : Shape) (v w : Pane (List Value)) (pair : WithdrawsPair sh v w) (m : Mode) → retracts m ≡ true → (before after : List OutRow) → before ≡ [] →
      AreWithdrawn before after (withdrawn_pair pair.first pair.second v w) 2 → after ≡ retracted_in m (withdrawn_entering plan sh d es)
  pair_put sh v w pair m retract before after empty put = put.rows [] empty ∙ ap retracted (sym pair.withdrawn) ∙ sym (retracted_when m retract (withdrawn_entering plan sh d es))

  -- ---- how many are held once two are joined

  module _ (lateness : ℤ) (sorted : T (is_sorted place_cmp es)) where
    abbrev others : ℤ → Panes
    others gap = where_key place_cmp (λ p. not (is_linked gap d p)) es

    one_more : (p : Place) (h : Pane (List Value)) (fs : Panes) → T (is_sorted place_cmp fs) → length (put place_cmp p h fs) ≤ length fs + 1
    one_more p h fs sorted = by (is_some (find place_cmp p fs)) (length-put place_cmp places_total p h fs sorted) where
      by : (b : Bool) → length (put place_cmp p h fs) ≡ cond b (length fs) (length fs + 1) → length (put place_cmp p h fs) ≤ length fs + 1
      by true is = omega (arith, is)
      by false is = omega (arith, is)

    pub one_fewer : (sh : Shape) (v w : Pane (List Value)) → joined_panes sh d es ≡ Some (v, w) → length (entered plan sh lateness d es) + 1 ≤ length es
    one_fewer (Fixed size) v w two = absurd (cc)
    one_fewer (Sliding size period) v w two = absurd (cc)
    one_fewer (Session gap) v w two =
        let parts : Panes = linked gap d es in
        let more = one_more (session_with gap d parts) (with_record plan d (joined_all plan parts)) (others gap) (is_sorted-where_key place_cmp (λ p. not (is_linked gap d p)) es sorted) in
        omega (arith, more, length_parts gap d es, two_of parts v w two)

-- A walk over panes as what stands for those that fire is withdrawn, one after another.
use Rattle.std.proofs.Common.{◌≡◌, ℕ, ◌+◌, ◌≤◌, ◌≤ℤ◌, ◌+ℤ◌, Bool, true, false, true≢false, cond, T, List, [], ◌++◌, length, drop, ℤ, pos, Option, Some, None, is_some, refl, sym, ap, subst, ◌∙◌, append-nil, append_assoc, arith}
use Rattle.std.proofs.lemmas.List.{drop_all}
use Rattle.std.specs.Prelude.{slice_get}
use Rattle.std.specs.List.{AllByRecursion, cons_option}
use Rattle.std.specs.FinMap.Entries.{find, is_sorted}
use Rattle.wsm_record.specs.declared.event.Value.{Value}
use Rattle.wsm_record.specs.declared.cell.Cell.{Cell}
use Rattle.wsm_windows.specs.declared.window.PaneKind.{PaneKind}
use Rattle.wsm_windows.specs.Windows.{IsPlaced}
use Rattle.wsm_windows.specs.declared.place.Place.{Place}
use Rattle.wsm_windows.specs.Places.{place_cmp, window_of}
use Rattle.wsm_semantics.specs.declared.out_row.OutRow.{OutRow}
use Rattle.wsm_semantics.specs.Retractions.{retracted}
use Rattle.wsm_semantics.specs.Summaries.{Pane, fired_of, fires, kind_by_watermark, written_by, withdrawn_by_watermark}
use Rattle.wsm_program.specs.Program.{Program}
use Rattle.wsm_machine.specs.Meaning.{plan_of, query_of}
use Rattle.wsm_slots.specs.Walk.{place_due}
use Rattle.wsm_firing.specs.ByWatermark.{IsNextToFire, fires_by_watermark}
use Rattle.wsm_firing.specs.Retracting.{AreWithdrawn}
use Rattle.wsm_firing.proofs.Behind as behind
use Rattle.wsm_firing.proofs.ByKind.{told_at, told_jump, told_none}
use Rattle.wsm_firing.proofs.Jumps.{none_over}
use Rattle.wsm_firing.proofs.Walk as walk

abbrev pub Written : Type 0
Written = List (Place × List Cell)

abbrev pub Panes : Type 0
Panes = List (Place × Pane (List Value))

-- what a pane withdraws by what it fires as
abbrev pub withdraws : {X : Type 0} → Place → Pane X → Option PaneKind → Option (Place × List Cell)
withdraws p h k = cond (is_some k) (written_by p h.stands) None

-- ---- rows put one after another

pub withdrawn_no_more : (rows : List OutRow) → AreWithdrawn rows rows [] 0
withdrawn_no_more rows = record { rows = λ ws is. is ∙ ap retracted (sym (append-nil ws)); few = omega arith }

pub withdrawn_on : (a b c : List OutRow) (xs ys : Written) (n m : ℕ) → AreWithdrawn a b xs n → AreWithdrawn b c ys m → AreWithdrawn a c (xs ++ ys) (n + m)
withdrawn_on a b c xs ys n m h k = record {
  rows = λ ws is. k.rows (ws ++ xs) (h.rows ws is) ∙ ap retracted (append_assoc ws xs ys);
  few = omega (arith, h.few, k.few);
}

-- some were put, and what is left comes with them to all
pub record HasPut (before rows : List OutRow) (left all : Written) (remain most : ℕ) : Type 0 where
  pub written : Written
  pub number : ℕ
  pub put : AreWithdrawn before rows written number
  pub comes : all ≡ written ++ left
  pub count : number + remain ≡ most

pub puts_first : (rows : List OutRow) (all : Written) (most : ℕ) → HasPut rows rows all all most most
puts_first rows all most = record { written = []; number = 0; put = withdrawn_no_more rows; comes = refl; count = omega arith }

module _ {before rows : List OutRow} {left all : Written} {remain most : ℕ} (so_far : HasPut before rows left all remain most) where
  -- there is room for what is left
  pub room_left : (capacity : ℕ) → length before + most ≤ capacity → length rows + remain ≤ capacity
  room_left capacity room = omega (arith, so_far.put.few, so_far.count, room)

  pub puts_next : (new : List OutRow) (some rest : Written) (n m : ℕ) → left ≡ some ++ rest → remain ≡ n + m → AreWithdrawn rows new some n → HasPut before new rest all m most
  puts_next new some rest n m splits counts put = record {
    written = so_far.written ++ some;
    number = so_far.number + n;
    put = withdrawn_on before rows new so_far.written some so_far.number n so_far.put put;
    comes = so_far.comes ∙ ap (λ (xs : Written). so_far.written ++ xs) splits ∙ sym (append_assoc so_far.written some rest);
    count = omega (arith, so_far.count, counts);
  }

  pub puts_none : (rest : Written) (m : ℕ) → left ≡ rest → remain ≡ m → HasPut before rows rest all m most
  puts_none rest m same counts = record { written = so_far.written; number = so_far.number; put = so_far.put; comes = so_far.comes ∙ ap (λ (xs : Written). so_far.written ++ xs) same; count = omega (arith, so_far.count, counts) }

  pub puts_all : left ≡ [] → AreWithdrawn before rows all most
  puts_all none = record {
    rows = λ ws is. so_far.put.rows ws is ∙ ap (λ (xs : Written). retracted (ws ++ xs)) (sym (so_far.comes ∙ ap (λ (xs : Written). so_far.written ++ xs) none ∙ append-nil so_far.written));
    few = omega (arith, so_far.put.few, so_far.count);
  }

-- ---- the walk over the panes that a watermark fires

abbrev kind : Program → ℤ → ℤ → Place → Pane (List Value) → Option PaneKind
kind p old new = kind_by_watermark (query_of p) old new

-- what is withdrawn of those from a number on, and how many of them fire
abbrev left_from : Program → ℤ → ℤ → Panes → ℕ → Written
left_from p old new es n = withdrawn_by_watermark (query_of p) old new (drop n es)

abbrev firing_from : Program → ℤ → ℤ → Panes → ℕ → ℕ
firing_from p old new es n = length (fires_by_watermark p old new (drop n es))

abbrev pub HasPassed : Program → ℤ → ℤ → Panes → List OutRow → ℕ → List OutRow → Type 0
HasPassed p old new es before n rows = HasPut before rows (left_from p old new es n) (left_from p old new es 0) (firing_from p old new es n) (firing_from p old new es 0)

-- so many panes were passed, at least as many as the walk has taken turns, and it is at the place of the next one, if that is due
pub record HasComeTo (p : Program) (old new : ℤ) (es : Panes) (before : List OutRow) (turns : ℕ) (place : Option Place) (rows : List OutRow) : Type 0 where
  pub passed : ℕ
  pub onward : turns ≤ passed
  pub due : place ≡ place_due new (slice_get es passed)
  pub so_far : HasPassed p old new es before passed rows

module _ {p : Program} {old new : ℤ} {es : Panes} {before : List OutRow} where
  -- it goes on to the next pane that can fire
  pub comes_to : (expired : ℤ) (turns from : ℕ) {place : Option Place} {rows : List OutRow} → new ≤ℤ (expired +ℤ (query_of p).clock.lateness) → turns ≤ from → HasPassed p old new es before from rows → IsNextToFire expired old new es from place →
      HasComeTo p old new es before turns place rows
  comes_to expired turns from {place} {rows} expires far so_far on =
      let still = none_over (plan_of p) (query_of p) expired old new es from place expires on in
      record {
        passed = on.at;
        onward = omega (arith, far, on.onward);
        due = on.next;
        so_far = puts_none so_far (left_from p old new es on.at) (firing_from p old new es on.at)
            (told_jump (plan_of p) (query_of p) withdraws (λ r h. refl) (kind p old new) from on.at es on.onward still)
            (ap length (told_jump (plan_of p) (query_of p) (fired_of p.header.mode) (λ r h. refl) (kind p old new) from on.at es on.onward still));
      }

module _ {p : Program} {old new : ℤ} {es : Panes} {before : List OutRow} {turns : ℕ} {place : Option Place} {rows : List OutRow} (walked : HasComeTo p old new es before turns place rows) where
  ends : AllByRecursion (λ e. kind p old new e.0 e.1 ≡ None) (drop walked.passed es) → AreWithdrawn before rows (left_from p old new es 0) (firing_from p old new es 0)
  ends still = puts_all walked.so_far (told_none (plan_of p) (query_of p) withdraws (λ r h. refl) (kind p old new) (drop walked.passed es) still)

  -- it ends after a turn for each pane
  pub ends_behind_all : length es ≤ turns → AreWithdrawn before rows (left_from p old new es 0) (firing_from p old new es 0)
  ends_behind_all all =
      let none : drop walked.passed es ≡ [] = drop_all walked.passed es (omega (arith, walked.onward, all)) in
      ends (subst (AllByRecursion (λ e. kind p old new e.0 e.1 ≡ None)) (sym none) tt)

  -- it ends where no pane is due
  pub ends_at_none : pos 0 ≤ℤ (query_of p).clock.lateness → T (is_sorted place_cmp es) → place ≡ None → AreWithdrawn before rows (left_from p old new es 0) (firing_from p old new es 0)
  ends_at_none prompt sorted none = ends (behind.none_due (query_of p) prompt old new es walked.passed sorted (sym walked.due ∙ none))

  -- ---- a step, at the pane that is due

  module _ {here : Place} (is : place ≡ Some here) (sorted : T (is_sorted place_cmp es)) where
    due_here : place_due new (slice_get es walked.passed) ≡ Some here
    due_here = sym walked.due ∙ is

    pub is_held : is_some (find place_cmp here es) ≡ true
    is_held = walk.held_due new es walked.passed here sorted due_here

    module _ {pane : Pane (List Value)} (found : find place_cmp here es ≡ Some pane) where
      pub there : slice_get es walked.passed ≡ Some (here, pane)
      there = walk.entry_found new es walked.passed here sorted due_here pane found

      pub is_placed : AllByRecursion (λ e. IsPlaced (window_of e.0)) es → IsPlaced (window_of here)
      is_placed all = walk.holds_at (λ e. IsPlaced (window_of e.0)) es walked.passed (here, pane) all there

      abbrev next : ℕ
      next = walked.passed + 1

      withdrawn_next : (k : Option PaneKind) → kind p old new here pane ≡ k → left_from p old new es walked.passed ≡ cons_option (withdraws here pane k) (left_from p old new es next)
      withdrawn_next k is =
          told_at (plan_of p) (query_of p) withdraws (λ r h. refl) (kind p old new) es walked.passed (here, pane) there
          ∙ ap (λ (k : Option PaneKind). cons_option (withdraws here pane k) (left_from p old new es next)) is

      firing_next : (k : Option PaneKind) → kind p old new here pane ≡ k → firing_from p old new es walked.passed ≡ length (cons_option (fired_of p.header.mode here pane k) (fires_by_watermark p old new (drop next es)))
      firing_next k is =
          ap length (told_at (plan_of p) (query_of p) (fired_of p.header.mode) (λ r h. refl) (kind p old new) es walked.passed (here, pane) there)
          ∙ ap (λ (k : Option PaneKind). length (cons_option (fired_of p.header.mode here pane k) (fires_by_watermark p old new (drop next es)))) is

      -- it doesn't fire
      pub stays : is_some (kind p old new here pane) ≡ false → HasPassed p old new es before next rows
      stays quiet = by_kind (kind p old new here pane) refl quiet where
        by_kind : (k : Option PaneKind) → kind p old new here pane ≡ k → is_some k ≡ false → HasPassed p old new es before next rows
        by_kind None is quiet = puts_none walked.so_far (left_from p old new es next) (firing_from p old new es next) (withdrawn_next None is) (firing_next None is)
        by_kind (Some k) is quiet = absurd (true≢false quiet)

      -- it fires
      module _ (fires : is_some (kind p old new here pane) ≡ true) where
        one_fires : firing_from p old new es walked.passed ≡ 1 + firing_from p old new es next
        one_fires = by_kind (kind p old new here pane) refl fires where
          by_kind : (k : Option PaneKind) → kind p old new here pane ≡ k → is_some k ≡ true → firing_from p old new es walked.passed ≡ 1 + firing_from p old new es next
          by_kind None is fires = absurd (true≢false (sym fires))
          by_kind (Some k) is fires = omega (arith, firing_next (Some k) is)

        one_withdrawn : left_from p old new es walked.passed ≡ cons_option (written_by here pane.stands) [] ++ left_from p old new es next
        one_withdrawn =
            withdrawn_next (kind p old new here pane) refl
            ∙ ap (λ (b : Bool). cons_option (cond b (written_by here pane.stands) None) (left_from p old new es next)) fires
            ∙ in_front (written_by here pane.stands) (left_from p old new es next)
          where
            in_front : (o : Option (Place × List Cell)) (xs : Written) → cons_option o xs ≡ cons_option o [] ++ xs
            in_front None xs = refl
            in_front (Some w) xs = refl

        pub has_room : (capacity : ℕ) → length before + firing_from p old new es 0 ≤ capacity → length rows + 1 ≤ capacity
        has_room capacity room = omega (arith, room_left walked.so_far capacity room, one_fires)

        pub puts : (then : List OutRow) → AreWithdrawn rows then (cons_option (written_by here pane.stands) []) 1 → HasPassed p old new es before next then
        puts then put = puts_next walked.so_far then (cons_option (written_by here pane.stands) []) (left_from p old new es next) 1 (firing_from p old new es next) one_withdrawn one_fires put

-- A record that comes with its time: what goes on then, and what waits.
use Rattle.std.proofs.Common.{◌≡◌, ◌≤◌, ◌+◌, ℕ, max, min, Bool, true, false, not, cond, List, [], ◌∷◌, ◌++◌, drop, map, take, pos, ◌≤ℤ◌, Some, refl, sym, ap, subst, ◌∙◌, arith}
use Rattle.std.proofs.lemmas.Bool.{leb-false, ltb-false, not-true}
use Rattle.std.proofs.lemmas.List.{map-append}
use Rattle.std.proofs.lemmas.List.Elements.{All-drop, All-from_recursion, recursion_from_All}
use Rattle.std.proofs.lemmas.List.Sorted.{IsPermutation-trans}
use Rattle.std.specs.Prelude.{IsPermutation, bytes_eq, nat_lt}
use Rattle.std.specs.List.{AllByRecursion}
use Rattle.wsm_windows.specs.Windows.{IsShape}
use Rattle.wsm_watermarks.specs.declared.rule.Rule.{Rule}
use Rattle.wsm_watermarks.specs.declared.held.Timed.{Timed}
use Rattle.wsm_watermarks.specs.Agreement.{behind}
use Rattle.wsm_watermarks.specs.Held.{AreByTime, Item, Mark, Passed, Went, all_passed, is_far, is_near, last_mark, left, let_go, mark_for, mark_item, queued, rows_of, went_on}
use Rattle.wsm_watermarks.proofs.KeptRows.{IsReady, all_queued, all_weaker, last_to, left_far, mark_goes_on, parted, queued_permuted, rows_all}
use Rattle.wsm_watermarks.proofs.Marks.{behind_stays}
use Rattle.wsm_semantics.specs.Query.{Query}
use Rattle.wsm_doubles.specs.Passing.{SentText, TextDelivery, TextPassing, passing_texts}
use Rattle.wsm_turns.specs.Numbered.{Numbered}
use Rattle.wsm_turns.specs.Turns.{numbered}
use Rattle.wsm_turn_laws.proofs.Items.{AreBehind, behind_all, items_go, last_all, last_with_mark, rows_with_mark, with_mark}
use Rattle.wsm_turn_laws.proofs.Orders.{end_first}
use Rattle.wsm_turn_laws.proofs.Passing.{goes_alone, waits_first}
use Rattle.wsm_turn_laws.proofs.Standing.{GoesOn, IsRow, Stands, goes_then, held, in_order, sent, sent_event, sent_time, times}

abbrev Row : Type 0
Row = Timed Numbered

-- ---- what goes of those that wait

module _ (rule : Rule) (ahead top : ℕ) where
  low : (told time : ℕ) → told ≤ time → mark_for rule top told time ≤ time
  low told time le = both told (behind rule (Some time)) le (behind_stays rule time time (omega arith))
    where
      both : (a b : ℕ) → a ≤ time → b ≤ time → max a (min top b) ≤ time
      both a b h k = grind arith

  behind_mark : (told new : ℕ) (is : List (Item Numbered)) → told ≤ new → AreBehind new is → AreBehind told (mark_item told new ++ is)
  behind_mark told new is le h = one (nat_lt told new) refl
    where
      one : (b : Bool) → nat_lt told new ≡ b → AreBehind told (cond b (Mark new ∷ []) [] ++ is)
      one true less = (le, h)
      one false less =
          let least = ltb-false told new less in
          let same : new ≡ told = omega (arith, le, least) in
          subst (λ (m : ℕ). AreBehind m is) same h

  behind_gone : (rows : List Row) (told : ℕ) → AreByTime rows → AllByRecursion (λ r. told ≤ r.time) rows → AreBehind told (let_go rule ahead top told rows)
  behind_gone [] told sorted all = tt
  behind_gone (r ∷ rows) told sorted all =
      let m : ℕ = mark_for rule top told r.time in
      let within = low told r.time all.0 in
      one (is_near (top + ahead) r) (behind_gone rows m sorted.1 (all_weaker (λ p. r.time ≤ p.time) (λ p. m ≤ p.time) (λ p h. omega (arith, h, within)) rows sorted.0))
    where
      one : (b : Bool) → AreBehind (mark_for rule top told r.time) (let_go rule ahead top (mark_for rule top told r.time) rows)
          → AreBehind told (cond b (mark_item told (mark_for rule top told r.time) ++ Passed r ∷ let_go rule ahead top (mark_for rule top told r.time) rows) [])
      one true rest =
          behind_mark told (mark_for rule top told r.time) (Passed r ∷ let_go rule ahead top (mark_for rule top told r.time) rows) (mark_goes_on rule ahead top told r.time) (low told r.time all.0, rest)
      one false rest = tt

-- ---- a record comes

module _ (q : Query) (name : ℕ → List ℕ) (shape : IsShape q.shape) (lateness : pos 0 ≤ℤ q.clock.lateness) (rule : Rule) (ahead room number : ℕ) where
  abbrev start : ℕ → List Row → Went Numbered
  start told rows = record { out = []; mark = told; held = rows }

  module _ (ds : List TextDelivery) (o : TextPassing) (doubles : List SentText) (rows : List Row) (told top : ℕ) where
    abbrev gone : List (Item Numbered)
    gone = let_go rule ahead top told rows

    abbrev first_items : List (Item Numbered)
    first_items = gone ++ mark_item (last_mark told gone) top

    abbrev still : List Row
    still = left (top + ahead) rows

    -- those that waited and may pass go, and the watermark behind them
    some_go : passing_texts q ds ≡ o → Stands q name o doubles rows told → IsReady (start told rows) → told ≤ top → GoesOn q name [] ds o doubles rows still top (map (numbered number) first_items)
    some_go is k ready rises =
        let le : last_mark told gone ≤ top = last_to rule ahead top rows told rises in
        let same : rows ≡ rows_of first_items ++ still = parted rule ahead top told rows ∙ ap (λ (rs : List Row). rs ++ still) (sym (rows_with_mark (last_mark told gone) top gone)) in
        subst (λ (rs : List Row). GoesOn q name [] ds o doubles rs still top (map (numbered number) first_items)) (sym same)
        (items_go q name shape lateness first_items number still ds o doubles told top is (subst (λ (rs : List Row). Stands q name o doubles rs told) same k)
        (with_mark told top gone (behind_gone rule ahead top rows told ready.sorted ready.ahead) le) (last_with_mark told top gone le))

    module _ (r : Row) where
      abbrev queue : List Row
      queue = queued r still

      abbrev near : Went Numbered
      near = record { out = first_items ++ Passed r ∷ []; mark = max (last_mark told gone) top; held = still }

      abbrev far : Went Numbered
      far = record { out = first_items ++ all_passed (drop room queue); mark = max (last_mark told gone) top; held = take room queue }

      abbrev Takes : Went Numbered → Type 0
      Takes w = GoesOn q name (sent q name r ∷ []) ds o doubles rows w.held top (map (numbered number) w.out)

      module _ (row : IsRow r) (one : GoesOn q name [] ds o doubles rows still top (map (numbered number) first_items)) (none : times (name r.row.number) (held q name still ++ one.passing.memory) ≡ 0) where
        goes_at_once : Takes near
        goes_at_once =
            let two = goes_alone q name (sent q name r) r.row one.deliveries one.passing one.left still top one.is one.stands none (sym (sent_event (name r.row.number) r.row.event row.key (pos r.time) row.values row.is)) in
            subst (λ (gs : List Numbered). GoesOn q name (sent q name r ∷ []) ds o doubles rows still top gs) (sym (map-append (numbered number) first_items (Passed r ∷ [])))
            (goes_then q name [] (sent q name r ∷ []) ds o doubles rows still still top top (map (numbered number) first_items) (r.row ∷ []) one two)

        it_waits : is_near (top + ahead) r ≡ false → AreByTime rows → Takes far
        it_waits beyond sorted =
            let some : List Row = drop room queue in
            let others : List Row = take room queue in
            let two = waits_first q name r one.deliveries one.passing one.left still top one.is one.stands none row (sent_time (name r.row.number) r row) in
            let order : IsPermutation (r ∷ still) (some ++ others) = IsPermutation-trans (r ∷ still) queue (some ++ others) (queued_permuted r still) (end_first room queue) in
            let three = in_order q name two.deliveries two.passing two.left (r ∷ still) (some ++ others) top two.is two.stands order in
            let all_far : AllByRecursion (λ p. is_far (top + ahead) p ≡ true) queue = all_queued (λ p. is_far (top + ahead) p ≡ true) r still (ap not beyond) (left_far (top + ahead) rows sorted) in
            let ahead_of : AllByRecursion (λ p. top ≤ p.time) queue = all_weaker (λ p. is_far (top + ahead) p ≡ true) (λ p. top ≤ p.time) (λ p h. past p h) queue all_far in
            let some_ahead : AllByRecursion (λ p. top ≤ p.time) some =
            recursion_from_All (λ p. top ≤ p.time) some (All-drop (λ p. top ≤ p.time) room queue (All-from_recursion (λ p. top ≤ p.time) queue ahead_of)) in
            let end : last_mark top (all_passed some) ≤ top = let n = last_all top some in omega (arith, n) in
            let same : some ++ others ≡ rows_of (all_passed some) ++ others = ap (λ (rs : List Row). rs ++ others) (sym (rows_all some)) in
            let four = subst (λ (rs : List Row). GoesOn q name [] three.deliveries three.passing three.left rs others top (map (numbered number) (all_passed some))) (sym same)
            (items_go q name shape lateness (all_passed some) number others three.deliveries three.passing three.left top top three.is
            (subst (λ (rs : List Row). Stands q name three.passing three.left rs top) same three.stands) (behind_all top some some_ahead) end) in
            let later = goes_then q name [] [] two.deliveries two.passing two.left (r ∷ still) (some ++ others) others top top [] (map (numbered number) (all_passed some)) three four in
            let last = goes_then q name (sent q name r ∷ []) [] one.deliveries one.passing one.left still (r ∷ still) others top top [] (map (numbered number) (all_passed some)) two later in
            subst (λ (gs : List Numbered). GoesOn q name (sent q name r ∷ []) ds o doubles rows others top gs) (sym (map-append (numbered number) first_items (all_passed some)))
            (goes_then q name [] (sent q name r ∷ []) ds o doubles rows still others top top (map (numbered number) first_items) (map (numbered number) (all_passed some)) one last)
          where
            past : (p : Row) → is_far (top + ahead) p ≡ true → top ≤ p.time
            past p h = let n = leb-false p.time (top + ahead) (not-true (is_near (top + ahead) p) h) in omega (arith, n)

      pub takes : passing_texts q ds ≡ o → Stands q name o doubles rows told → IsReady (start told rows) → told ≤ top → times (name r.row.number) (held q name rows ++ o.memory) ≡ 0 → IsRow r
          → GoesOn q name (sent q name r ∷ []) ds o doubles rows (went_on rule ahead room (start told rows) (r, top)).held top (map (numbered number) (went_on rule ahead room (start told rows) (r, top)).out)
      takes is k ready rises unknown row =
          let one = some_go is k ready rises in
          let fewer = one.moves.less (λ e. bytes_eq (name r.row.number) e.0) in
          either (is_near (top + ahead) r) refl one (omega (arith, fewer, unknown))
        where
          either : (b : Bool) → is_near (top + ahead) r ≡ b → (one : GoesOn q name [] ds o doubles rows still top (map (numbered number) first_items)) → times (name r.row.number) (held q name still ++ one.passing.memory) ≡ 0 → Takes (cond b near far)
          either true near_or one none = goes_at_once row one none
          either false near_or one none = it_waits row one none near_or ready.sorted

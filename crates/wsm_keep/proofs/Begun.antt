-- Where windows begin of rows that were written, turn by turn and cut by cut.
use Rattle.std.proofs.Common.{◌≡◌, ◌<◌, ℕ, suc, ◌+◌, ◌+ℤ◌, Bool, true, false, cond, List, [], ◌∷◌, ◌++◌, get_or, length, take, ℤ, ◌≤ℤ◌, refl, sym, ap, ◌∙◌, length-append, arith}
use Rattle.std.proofs.lemmas.Int.{ints}
use Rattle.std.proofs.lemmas.List.{take_more}
use Rattle.std.proofs.lemmas.List.Elements.{filter_map-append}
use Rattle.std.specs.Prelude.{filter, int_lt}
use Rattle.wsm_record.specs.Event.{Event}
use Rattle.wsm_windows.specs.Windows.{IsShape}
use Rattle.wsm_admission.proofs.SourceMarks.{watermark_rises}
use Rattle.wsm_semantics.specs.declared.out_row.OutRow.{OutRow}
use Rattle.wsm_semantics.specs.declared.out_row.OutRow.TheVariants.{Pane, Retract, Istream, Dstream, Rstream}
use Rattle.wsm_semantics.specs.Query.{Query, SessionsByEvent, mark}
use Rattle.wsm_semantics.specs.Relation.{turn_rows}
use Rattle.wsm_semantics.specs.FromWatermark.{Times, dropped_times, is_beyond, is_row_at, last_end}
use Rattle.wsm_semantics.specs.LastingRows.{rows_so_far}
use Rattle.wsm_semantics.proofs.Lists.{filter_same, filter_within}
use Rattle.wsm_semantics.proofs.Each.{filter-append}
use Rattle.wsm_semantics.proofs.LaterParts.{over_parts_none, over_settled, parted_on}
use Rattle.wsm_keep.specs.declared.begins.Begin.{Begin}
use Rattle.wsm_keep.specs.Begins.{HasBegun, HasCounted, begin_of, begins_beyond, begins_of}
use Rattle.wsm_keep.specs.WrittenBeyond.{rows_beyond}
use Rattle.wsm_keep.proofs.Settled.{no_later}

itself : (n : ℤ) → n ≤ℤ n
itself n = omega (arith, ints)

through : (a b c : ℤ) → a ≤ℤ b → b ≤ℤ c → a ≤ℤ c
through a b c h k = omega (arith, ints)

later_too : (a b t : ℤ) → a ≤ℤ b → int_lt b t ≡ true → int_lt a t ≡ true
later_too a b t h k = grind (arith, ints)

one_of_both : {A B : Type 0} (b : Bool) (x : A) (y : B) (xs : List A) (ys : List B) → length xs ≡ length ys → length (cond b (x ∷ xs) xs) ≡ length (cond b (y ∷ ys) ys)
one_of_both true x y xs ys same = ap suc same
one_of_both false x y xs ys same = same

-- of some rows as many begin beyond as are rows of windows beyond
of_rows : (y : Times) (rows : List OutRow) → length (filter (begins_beyond y) (begins_of rows)) ≡ length (rows_beyond y rows)
of_rows y [] = refl
of_rows y (Pane kind key window columns ∷ rows) = one_of_both (int_lt (y key) window.start) (record { key = key; start = window.start }) (Pane kind key window columns) (filter (begins_beyond y) (begins_of rows)) (rows_beyond y rows) (of_rows y rows)
of_rows y (Retract key window columns ∷ rows) = one_of_both (int_lt (y key) window.start) (record { key = key; start = window.start }) (Retract key window columns) (filter (begins_beyond y) (begins_of rows)) (rows_beyond y rows) (of_rows y rows)
of_rows y (Istream m columns ∷ rows) = of_rows y rows
of_rows y (Dstream m columns ∷ rows) = of_rows y rows
of_rows y (Rstream m columns ∷ rows) = of_rows y rows

-- where one begin more is told
pub begins_more : (rows : List OutRow) (n : ℕ) (row : OutRow) → n < length rows → row ≡ get_or rows n row → begins_of (take (n + 1) rows) ≡ begins_of (take n rows) ++ begins_of (row ∷ [])
begins_more rows n row within is =
    ap begins_of (take_more rows n row within ∙ ap (λ (out : OutRow). take n rows ++ out ∷ []) (sym is))
    ∙ filter_map-append begin_of (take n rows) (row ∷ [])

module _ (q : Query) (ok : IsShape q.shape) where
  -- before the first event
  pub begun_none : HasBegun q [] []
  begun_none = record { x = dropped_times q []; go = λ key. itself (dropped_times q [] key); same = λ y later. refl }

  module _ (timely : SessionsByEvent q) (past : List Event) (e : Event) where
    -- more records go with each event
    more_go : (key : ℕ) → dropped_times q past key ≤ℤ dropped_times q (e ∷ past) key
    more_go key =
        no_later q ok (dropped_times q past) (e ∷ past)
        (λ key. through (last_end q.shape (dropped_times q past key) +ℤ q.clock.lateness) (mark q past) (mark q (e ∷ past)) (over_settled q ok past key) (watermark_rises q.clock q.declared past e))
        (parted_on q ok timely (dropped_times q past) past e (over_settled q ok past) (over_parts_none q ok past)) key

    -- with the rows of a turn
    pub begun_next : (begins : List Begin) → HasBegun q past begins → HasBegun q (e ∷ past) (begins ++ begins_of (turn_rows q past e))
    begun_next begins begun = record {
      x = begun.x;
      go = λ key. through (begun.x key) (dropped_times q past key) (dropped_times q (e ∷ past) key) (begun.go key) (more_go key);
      same = λ y later.
          let rows : List OutRow = turn_rows q past e in
          ap length (filter-append (begins_beyond y) begins (begins_of rows))
          ∙ length-append (filter (begins_beyond y) begins) (filter (begins_beyond y) (begins_of rows))
          ∙ (λ i. begun.same y later i + of_rows y rows i)
          ∙ sym (length-append (rows_beyond y (rows_so_far q past)) (rows_beyond y rows))
          ∙ ap length (sym (filter-append (is_row_at (is_beyond y)) (rows_so_far q past) rows));
    }

  -- without those that don't begin beyond the times up to which records go
  pub begun_cut : (past : List Event) (begins : List Begin) (x : Times) → ((key : ℕ) → x key ≡ dropped_times q past key) → HasBegun q past begins → HasCounted q past (filter (begins_beyond x) begins)
  begun_cut past begins x are begun =
      let limits : Times = dropped_times q past in
      let left : List Begin = filter (begins_beyond x) begins in
      let is : left ≡ filter (begins_beyond limits) begins = filter_same (begins_beyond x) (begins_beyond limits) (λ b. ap (λ (t : ℤ). int_lt t b.start) (are b.key)) begins in
      record {
        begun = record {
          x = limits;
          go = λ key. itself (limits key);
          same = λ y later.
              ap (λ (bs : List Begin). length (filter (begins_beyond y) bs)) is
              ∙ ap length (filter_within (begins_beyond y) (begins_beyond limits) (λ b beyond. later_too (limits b.key) (y b.key) b.start (later b.key) beyond) begins)
              ∙ begun.same y (λ key. through (begun.x key) (limits key) (y key) (begun.go key) (later key));
        };
        count = ap length is ∙ begun.same limits begun.go;
      }

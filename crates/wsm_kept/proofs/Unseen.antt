-- A run over what stands in the place of rows goes on as one over these.
use Rattle.std.proofs.Common.{◌≡◌, ℕ, ◌+◌, ◌-◌, ◌≤◌, List, [], ◌∷◌, ◌++◌, drop, length, map, reverse, ℤ, Ok, Err, refl, sym, ap, subst, ◌∙◌, append_assoc, append-nil, length-append, arith}
use Rattle.std.proofs.Math.Seq.{drop-append_seam}
use Rattle.std.proofs.lemmas.List.{length-map, length-reverse, map-append, reverse-append}
use Rattle.std.proofs.lemmas.List.Concat.{flat_map-append}
use Rattle.wsm_record.specs.Event.{Event}
use Rattle.wsm_admission.specs.Admission.{counter}
use Rattle.wsm_record.specs.declared.event.RowFault.TheVariants.{BadTag}
use Rattle.wsm_semantics.specs.Query.{Query}
use Rattle.wsm_semantics.specs.Lines.{Row, Line, events, lines_so_far, turn_lines}
use Rattle.wsm_semantics.specs.Text.{line_text, lines_text}
use Rattle.wsm_semantics.specs.FromWatermark.{BothHaveRoom}
use Rattle.wsm_record.specs.declared.words.Form.{Form}
use Rattle.wsm_record.specs.declared.words.Form.TheVariants as form
use Rattle.wsm_csv.specs.Cells.{event_of_cells}
use Rattle.wsm_keep.specs.Holds.{Written, read}
use Rattle.wsm_keep.specs.Staying.{staying_for}
use Rattle.wsm_keep.specs.GoesOn.{GoesOn, lines_behind, moved}
use Rattle.wsm_kept.specs.declared.head.Head.{Head}
use Rattle.wsm_kept.specs.Head.{head_tag}
use Rattle.wsm_kept.specs.Kept.{Cells, counts_of, in_place, kept_rows, rows_of}
use Rattle.wsm_kept.specs.Unseen.{AddsUp, GoesOnBehind, HasRoomFor, IsCounted, MayCount, cut_cells, turns_text, with_records}
use Rattle.wsm_kept.proofs.Texts.{rows_in_place}

-- ---- rows and lines behind others

rows_of-append : (q : Query) (past more : List Cells) → rows_of q (past ++ more) ≡ rows_of q more ++ rows_of q past
rows_of-append q past more = ap (map (event_of_cells q.declared)) (reverse-append past more) ∙ map-append (event_of_cells q.declared) (reverse more) (reverse past)

pub length_rows : (q : Query) (past : List Cells) → length (rows_of q past) ≡ length past
length_rows q past = length-map (reverse past) (event_of_cells q.declared) ∙ length-reverse past

more_lines : (q : Query) (newer before : List Row) → (ls : List Line) × (lines_so_far q (newer ++ before) ≡ lines_so_far q before ++ ls)
more_lines q [] before = ([], sym (append-nil (lines_so_far q before)))
more_lines q (row ∷ newer) before =
    let (ls, is) = more_lines q newer before in
    let turn : List Line = turn_lines q (newer ++ before) row in
    (ls ++ turn, ap (λ (all : List Line). all ++ turn) is ∙ append_assoc (lines_so_far q before) ls turn)

all_lines : (q : Query) (newer before : List Row) → lines_so_far q (newer ++ before) ≡ lines_so_far q before ++ lines_behind q newer before
all_lines q newer before =
    let (ls, is) = more_lines q newer before in
    is ∙ ap (λ (all : List Line). lines_so_far q before ++ all) (sym (ap (drop (length (lines_so_far q before))) is ∙ drop-append_seam (lines_so_far q before) ls))

text_behind : (q : Query) (past more : List Cells) → turns_text q (past ++ more) ≡ turns_text q past ++ lines_text q.declared (lines_behind q (rows_of q more) (rows_of q past))
text_behind q past more =
    ap (λ (rows : List Row). lines_text q.declared (lines_so_far q rows)) (rows_of-append q past more)
    ∙ ap (lines_text q.declared) (all_lines q (rows_of q more) (rows_of q past))
    ∙ flat_map-append (line_text q.declared) (lines_so_far q (rows_of q past)) (lines_behind q (rows_of q more) (rows_of q past))

-- ---- the law

same_rows : (q : Query) (past : List Cells) (numbers : Cells) → rows_of q ((head_tag ∷ numbers) ∷ kept_rows q past) ≡ rows_of q (in_place q past)
same_rows q past numbers = sym (rows_in_place q past numbers) ∙ rows_in_place q past []

pub same_counts : (q : Query) (sum : ℕ) (old : Head) (past : List Cells) → counts_of q (rows_of q (cut_cells q sum old past)) ≡ counts_of q (rows_of q (in_place q past))
same_counts q sum old past = ap (counts_of q) (same_rows q past _)

behind_alike : (q : Query) (records : ℤ) (past cut : List Cells) → GoesOn q records (rows_of q past) (rows_of q cut) → (more : List Cells) → HasRoomFor q records past cut more
    → map (moved (length past)) (lines_behind (with_records records q) (rows_of q more) (rows_of q cut)) ≡ map (moved (length cut)) (lines_behind q (rows_of q more) (rows_of q past))
behind_alike q records past cut goes more h =
    let newer : List Row = rows_of q more in
    let a : length newer ≡ length more = length_rows q more in
    let b : length (rows_of q past) ≡ length past = length_rows q past in
    let d : length (rows_of q cut) ≡ length cut = length_rows q cut in
    let lines : List Line = lines_behind q newer (rows_of q past) in
    let others : List Line = lines_behind (with_records records q) newer (rows_of q cut) in
    let room : BothHaveRoom q q.clock.start records (events (newer ++ rows_of q past)) (events (newer ++ rows_of q cut)) =
    subst (λ (rows : List Row). BothHaveRoom q q.clock.start records (events rows) (events (newer ++ rows_of q cut))) (rows_of-append q past more)
    (subst (λ (rows : List Row). BothHaveRoom q q.clock.start records (events (rows_of q (past ++ more))) (events rows)) (rows_of-append q cut more) h.room) in
    subst (λ (n : ℕ). map (moved n) others ≡ map (moved (length cut)) lines) b
    (subst (λ (n : ℕ). map (moved (length (rows_of q past))) others ≡ map (moved n) lines) d
    (goes.lines newer (omega (arith, a, b, h.counted)) (omega (arith, a, d, h.counted_cut)) room))

pub goes_behind : (q : Query) (records : ℤ) (past cut : List Cells) → GoesOn q records (rows_of q past) (rows_of q cut) → (more : List Cells) → HasRoomFor q records past cut more → GoesOnBehind q records past cut more
goes_behind q records past cut goes more h =
    let lines : List Line = lines_behind q (rows_of q more) (rows_of q past) in
    let others : List Line = lines_behind (with_records records q) (rows_of q more) (rows_of q cut) in
    record {
      text = lines_text q.declared lines;
      other = lines_text q.declared others;
      all = text_behind q past more;
      some = text_behind (with_records records q) cut more;
      alike = record { lines = lines; others = others; is = refl; other_is = refl; alike = behind_alike q records past cut goes more h };
    }

-- ---- how many lines there are by another RECORDS

alike_many : (a b : ℕ) (xs ys : List Line) → map (moved a) xs ≡ map (moved b) ys → length xs ≡ length ys
alike_many a b xs ys e = sym (length-map xs (moved a)) ∙ ap length e ∙ length-map ys (moved b)

front : (q : Query) (numbers : Cells) (rows : List Cells) → rows_of q ((head_tag ∷ numbers) ∷ rows) ≡ rows_of q rows ++ Err BadTag ∷ []
front q numbers rows = rows_of-append q ((head_tag ∷ numbers) ∷ []) rows

no_more_events : (q : Query) (rows : List Row) → events (rows ++ Err BadTag ∷ []) ≡ events rows
no_more_events q [] = refl
no_more_events q (Err why ∷ rows) = no_more_events q rows
no_more_events q (Ok e ∷ rows) = ap (λ (es : List Event). e ∷ es) (no_more_events q rows)

-- behind a head alone
count_behind : (q : Query) (records : ℤ) (numbers : Cells) (rows : List Cells) → GoesOn q records [] (Err BadTag ∷ []) → length rows + 1 ≤ 18446744073709551615
    → BothHaveRoom q q.clock.start records (events (rows_of q rows)) (events (rows_of q rows))
    → length (lines_so_far (with_records records q) (rows_of q ((head_tag ∷ numbers) ∷ rows))) ≡ 1 + length (lines_so_far q (rows_of q rows))
count_behind q records numbers rows goes most room =
    let anew : Query = with_records records q in
    let newer : List Row = rows_of q rows in
    let n : length newer ≡ length rows = length_rows q rows in
    let head : List Row = Err BadTag ∷ [] in
    let both : BothHaveRoom q q.clock.start records (events (newer ++ [])) (events (newer ++ head)) =
    subst (λ (rows : List Row). BothHaveRoom q q.clock.start records (events rows) (events (newer ++ head))) (sym (append-nil newer))
    (subst (λ (es : List Event). BothHaveRoom q q.clock.start records (events newer) es) (sym (no_more_events q newer)) room) in
    let same : length (lines_behind anew newer head) ≡ length (lines_behind q newer []) =
    alike_many 0 1 (lines_behind anew newer head) (lines_behind q newer []) (goes.lines newer (omega (arith, n, most)) (omega (arith, n, most)) both) in
    ap (λ (rows : List Row). length (lines_so_far anew rows)) (front q numbers rows)
    ∙ ap length (all_lines anew newer head)
    ∙ length-append (lines_so_far anew head) (lines_behind anew newer head)
    ∙ ap (λ (n : ℕ). 1 + n) (same ∙ ap (λ (rows : List Row). length (lines_so_far q rows)) (append-nil newer))

pub same_own : (q : Query) (records : ℤ) (numbers : Cells) (rows : List Cells) → ((r : ℤ) → GoesOn q r [] (Err BadTag ∷ [])) → MayCount q records ((head_tag ∷ numbers) ∷ rows)
    → length (lines_so_far (with_records records q) (rows_of q ((head_tag ∷ numbers) ∷ rows))) ≡ length (lines_so_far q (rows_of q ((head_tag ∷ numbers) ∷ rows)))
same_own q records numbers rows goes h =
    let most : length rows + 1 ≤ 18446744073709551615 = let k = h.counted in omega (arith, k) in
    let es : events (rows_of q ((head_tag ∷ numbers) ∷ rows)) ≡ events (rows_of q rows) = ap events (front q numbers rows) ∙ no_more_events q (rows_of q rows) in
    let room : BothHaveRoom q q.clock.start records (events (rows_of q rows)) (events (rows_of q rows)) = subst (λ (past : List Event). BothHaveRoom q q.clock.start records past past) es h.room in
    count_behind q records numbers rows (goes records) most room
    ∙ sym (count_behind q q.clock.records numbers rows (goes q.clock.records) most (room.0, room.0))

staying_none : (f : Form) (q : Query) → staying_for f read q [] ≡ []
staying_none form.Panes q = refl
staying_none form.Istream q = refl
staying_none form.Dstream q = refl
staying_none form.Rstream q = refl

-- of no rows none stay
pub none_stay : (q : Query) (records : ℤ) → GoesOn q records (rows_of q []) (rows_of q ((head_tag ∷ []) ∷ kept_rows q [])) → GoesOn q records [] (Err BadTag ∷ [])
none_stay q records h = subst (λ (rows : List Row). GoesOn q records [] rows) (sym (rows_in_place q [] []) ∙ ap (λ (rows : List Written). map read rows ++ Err BadTag ∷ []) (staying_none q.form q)) h

-- ---- cut again

adds : (from off a o d x y : ℕ) → off ≤ a → x ≡ a + d → y ≡ o + d → (from + x) + y ≤ 18446744073709551615 → counter (counter (from + (counter a - off)) + (counter y - counter o)) ≡ counter (from + (counter x - off))
adds from off a o d x y h e f few = omega (arith, h, e, f, few)

count_more : (q : Query) (cells more : List Cells) → length (lines_so_far q (rows_of q (cells ++ more))) ≡ length (lines_so_far q (rows_of q cells)) + length (lines_behind q (rows_of q more) (rows_of q cells))
count_more q cells more =
    ap (λ (rows : List Row). length (lines_so_far q rows)) (rows_of-append q cells more)
    ∙ ap length (all_lines q (rows_of q more) (rows_of q cells))
    ∙ length-append (lines_so_far q (rows_of q cells)) (lines_behind q (rows_of q more) (rows_of q cells))

rows_more : (q : Query) (cells more : List Cells) → length (rows_of q (cells ++ more)) ≡ length (rows_of q cells) + length more
rows_more q cells more = length_rows q (cells ++ more) ∙ length-append cells more ∙ ap (λ (n : ℕ). n + length more) (sym (length_rows q cells))

pub adds_up : (q : Query) (sum : ℕ) (old : Head) (past : List Cells) → GoesOn q q.clock.records (rows_of q past) (rows_of q (cut_cells q sum old past)) → (more : List Cells)
    → HasRoomFor q q.clock.records past (cut_cells q sum old past) more → IsCounted q old past (cut_cells q sum old past) more → AddsUp q sum old past more
adds_up q sum old past goes more room h =
    let cut : List Cells = cut_cells q sum old past in
    let newer : List Row = rows_of q more in
    let same : rows_of q cut ≡ rows_of q (in_place q past) = same_rows q past _ in
    let d : ℕ = length (lines_behind q newer (rows_of q past)) in
    let many : length (lines_behind q newer (rows_of q cut)) ≡ d = alike_many (length past) (length cut) (lines_behind q newer (rows_of q cut)) (lines_behind q newer (rows_of q past)) (behind_alike q q.clock.records past cut goes more room) in
    record {
      rows = adds old.rows old.kept (length (rows_of q past)) (length (rows_of q (in_place q past))) (length more) (length (rows_of q (past ++ more))) (length (rows_of q (cut ++ more)))
          (subst (λ (n : ℕ). old.kept ≤ n) (sym (length_rows q past)) h.kept) (rows_more q past more)
          (rows_more q cut more ∙ ap (λ (rows : List Row). length rows + length more) same)
          (subst (λ (n : ℕ). (old.rows + n) + length (rows_of q (cut ++ more)) ≤ 18446744073709551615) (sym (length_rows q (past ++ more)))
          (subst (λ (n : ℕ). (old.rows + length (past ++ more)) + n ≤ 18446744073709551615) (sym (length_rows q (cut ++ more))) h.rows));
      lines = adds old.lines old.own (length (lines_so_far q (rows_of q past))) (length (lines_so_far q (rows_of q (in_place q past)))) d
          (length (lines_so_far q (rows_of q (past ++ more)))) (length (lines_so_far q (rows_of q (cut ++ more))))
          h.own (count_more q past more)
          (count_more q cut more ∙ (λ i. length (lines_so_far q (same i)) + many i)) h.lines;
    }

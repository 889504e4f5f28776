-- Journals that stand for rows of a log.
use Rattle.std.proofs.Common.{◌≡◌, ◌∙◌, ℕ, ◌+◌, List, [], ◌++◌, length, take, drop, true, refl, sym, ap, arith, append_assoc, length-append, take-append-drop}
use Rattle.std.proofs.lemmas.List.{drop_at, append_cancel_left}
use Rattle.wsm_protocol.specs.Runs.{Run, IsRun, Text}
use Rattle.wsm_protocol.specs.World.{Journal, numbered, all_rows, reached, lines_behind, count, with_chunk, lines_of_chunk, cut_front}
use Rattle.wsm_protocol.proofs.Lists.{IsStream, stream_numbered, rows_append, rows_more}

-- a journal stands for the first rows of a log
pub record Fits (r : Run) (rows : List Text) (j : Journal) : Type 0 where
  pub front : List Text
  pub back : List Text
  pub is : rows ≡ front ++ (all_rows j.chunks ++ back)
  pub stands : r.stands j.head front ≡ true
  pub size : j.rows ≡ length front
  pub lines : j.lines ≡ length (r.told front)

module _ (r : Run) (good : IsRun r) where
  pub told_grows : (rows more : List Text) → (new : List Text) × (r.told (rows ++ more) ≡ r.told rows ++ new)
  told_grows rows more = (r.resumed (r.cut [] rows) more, good.resumes (r.cut [] rows) rows more (good.cuts [] [] rows good.none_stands))

  -- what stands behind a journal's rows
  pub lines_ahead : (rows : List Text) (j : Journal) → Fits r rows j → List Text
  lines_ahead rows j f = r.resumed (r.cut j.head (all_rows j.chunks)) f.back

  pub told_parts : (rows : List Text) (j : Journal) (f : Fits r rows j) → r.told rows ≡ r.told f.front ++ (lines_behind r j ++ lines_ahead rows j f)
  unfolding lines_ahead
  told_parts rows j f =
      let mid = all_rows j.chunks in
      ap r.told (f.is ∙ sym (append_assoc f.front mid f.back))
      ∙ good.resumes (r.cut j.head mid) (f.front ++ mid) f.back (good.cuts j.head f.front mid f.stands)
      ∙ ap (λ t. t ++ r.resumed (r.cut j.head mid) f.back) (good.resumes j.head f.front mid f.stands)
      ∙ append_assoc (r.told f.front) (lines_behind r j) _

  pub count_is : (rows : List Text) (j : Journal) (f : Fits r rows j) → count r j ≡ length (r.told (f.front ++ all_rows j.chunks))
  count_is rows j f =
      let long : length (r.told (f.front ++ all_rows j.chunks)) ≡ length (r.told f.front ++ lines_behind r j) = ap length (good.resumes j.head f.front (all_rows j.chunks) f.stands) in
      omega (arith, f.lines, long, length-append (r.told f.front) (lines_behind r j))

  pub behind_stream : (rows : List Text) (j : Journal) → Fits r rows j → IsStream (r.told rows) j.lines (numbered j.lines (lines_behind r j))
  behind_stream rows j f = stream_numbered (r.told rows) (r.told f.front) (lines_behind r j) (lines_ahead rows j f) j.lines (told_parts rows j f) f.lines

  pub fits_grows : (rows more : List Text) (j : Journal) → Fits r rows j → Fits r (rows ++ more) j
  fits_grows rows more j f = record {
    front = f.front;
    back = f.back ++ more;
    is = ap (λ t. t ++ more) f.is ∙ append_assoc f.front (all_rows j.chunks ++ f.back) more ∙ ap (λ t. f.front ++ t) (append_assoc (all_rows j.chunks) f.back more);
    stands = f.stands;
    size = f.size;
    lines = f.lines;
  }

  -- ---- cuts

  pub rows_split : (n : ℕ) (chunks : List (List Text)) → all_rows chunks ≡ all_rows (take n chunks) ++ all_rows (drop n chunks)
  rows_split n chunks = ap all_rows (sym (take-append-drop n chunks)) ∙ rows_append (take n chunks) (drop n chunks)

  pub cut_fits : (rows : List Text) (n : ℕ) (j : Journal) → Fits r rows j → Fits r rows (cut_front r n j)
  cut_fits rows n j f =
      let mid = all_rows (take n j.chunks) in
      let rest = all_rows (drop n j.chunks) in
      let long : length (r.told (f.front ++ mid)) ≡ length (r.told f.front ++ r.resumed j.head mid) = ap length (good.resumes j.head f.front mid f.stands) in
      record {
        front = f.front ++ mid;
        back = f.back;
        is = f.is ∙ ap (λ t. f.front ++ (t ++ f.back)) (rows_split n j.chunks) ∙ ap (λ t. f.front ++ t) (append_assoc mid rest f.back) ∙ sym (append_assoc f.front mid (rest ++ f.back));
        stands = good.cuts j.head f.front mid f.stands;
        size = omega (arith, f.size, length-append f.front mid);
        lines = omega (arith, f.lines, long, length-append (r.told f.front) (r.resumed j.head mid));
      }

  pub cut_count : (rows : List Text) (n : ℕ) (j : Journal) → Fits r rows j → count r (cut_front r n j) ≡ count r j
  unfolding cut_fits
  cut_count rows n j f =
      let mid = all_rows (take n j.chunks) in
      let rest = all_rows (drop n j.chunks) in
      count_is rows (cut_front r n j) (cut_fits rows n j f)
      ∙ ap (λ t. length (r.told t)) (append_assoc f.front mid rest ∙ ap (λ t. f.front ++ t) (sym (rows_split n j.chunks)))
      ∙ sym (count_is rows j f)

  -- ---- chunks

  pub chunk_fits : (rows : List Text) (j : Journal) (most : ℕ) → Fits r rows j → Fits r rows (with_chunk j (take most (drop (reached j) rows)))
  chunk_fits rows j most f =
      let mid = all_rows j.chunks in
      let place : length (f.front ++ mid) ≡ reached j = omega (arith, f.size, length-append f.front mid) in
      let rest : drop (reached j) rows ≡ f.back = ap (λ t. drop (reached j) t) (f.is ∙ sym (append_assoc f.front mid f.back)) ∙ drop_at (f.front ++ mid) f.back (reached j) place in
      let chunk = take most (drop (reached j) rows) in
      record {
        front = f.front;
        back = drop most (drop (reached j) rows);
        is = f.is
            ∙ ap (λ t. f.front ++ (mid ++ t)) (sym rest ∙ sym (take-append-drop most (drop (reached j) rows)))
            ∙ ap (λ t. f.front ++ t) (sym (append_assoc mid chunk (drop most (drop (reached j) rows))))
            ∙ ap (λ t. f.front ++ (t ++ drop most (drop (reached j) rows))) (sym (rows_more j.chunks chunk));
        stands = f.stands;
        size = f.size;
        lines = f.lines;
      }

  -- the lines of a chunk stand behind those before it
  pub chunk_lines : (front : List Text) (j : Journal) (chunk : List Text) → r.stands j.head front ≡ true → lines_behind r (with_chunk j chunk) ≡ lines_behind r j ++ lines_of_chunk r j chunk
  chunk_lines front j chunk stands =
      let mid = all_rows j.chunks in
      let new = r.resumed (r.cut j.head mid) chunk in
      let whole : r.told front ++ r.resumed j.head (mid ++ chunk) ≡ r.told front ++ (r.resumed j.head mid ++ new) =
      sym (good.resumes j.head front (mid ++ chunk) stands)
      ∙ ap r.told (sym (append_assoc front mid chunk))
      ∙ good.resumes (r.cut j.head mid) (front ++ mid) chunk (good.cuts j.head front mid stands)
      ∙ ap (λ t. t ++ new) (good.resumes j.head front mid stands)
      ∙ append_assoc (r.told front) (r.resumed j.head mid) new in
      let is : lines_behind r (with_chunk j chunk) ≡ lines_behind r j ++ new =
      ap (λ t. r.resumed j.head t) (rows_more j.chunks chunk) ∙ append_cancel_left (r.told front) _ _ whole in
      let mine : lines_of_chunk r j chunk ≡ new = ap (λ t. drop (length (lines_behind r j)) t) is ∙ drop_at (lines_behind r j) new _ refl in
      is ∙ ap (λ t. lines_behind r j ++ t) (sym mine)

  pub chunk_count : (front : List Text) (j : Journal) (chunk : List Text) → r.stands j.head front ≡ true → count r (with_chunk j chunk) ≡ count r j + length (lines_of_chunk r j chunk)
  chunk_count front j chunk stands =
      let long : length (lines_behind r (with_chunk j chunk)) ≡ length (lines_behind r j ++ lines_of_chunk r j chunk) = ap length (chunk_lines front j chunk stands) in
      omega (arith, long, length-append (lines_behind r j) (lines_of_chunk r j chunk))

  pub chunk_stream : (rows : List Text) (j : Journal) (chunk : List Text) → Fits r rows (with_chunk j chunk) → IsStream (r.told rows) (count r j) (numbered (count r j) (lines_of_chunk r j chunk))
  chunk_stream rows j chunk f =
      let before = r.told f.front ++ lines_behind r j in
      let mine = lines_of_chunk r j chunk in
      let ahead = lines_ahead rows (with_chunk j chunk) f in
      let is : r.told rows ≡ before ++ (mine ++ ahead) =
      told_parts rows (with_chunk j chunk) f
      ∙ ap (λ t. r.told f.front ++ (t ++ ahead)) (chunk_lines f.front j chunk f.stands)
      ∙ ap (λ t. r.told f.front ++ t) (append_assoc (lines_behind r j) mine ahead)
      ∙ sym (append_assoc (r.told f.front) (lines_behind r j) (mine ++ ahead)) in
      let place : count r j ≡ length before = omega (arith, f.lines, length-append (r.told f.front) (lines_behind r j)) in
      stream_numbered (r.told rows) before mine ahead (count r j) is place

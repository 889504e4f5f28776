use Rattle.std.proofs.Common.{◌≡◌, ◌<◌, ◌≤◌, ◌∙◌, ◌∷◌, ◌++◌, [], List, ℕ, ap, append_assoc, arith, length, sym, take, refl}
use Rattle.std.proofs.Math.Seq.{take-append_seam}
use Rattle.std.proofs.lemmas.List.{take_all}
use Rattle.csv.specs.Records.{fields_of}
use Rattle.csv.specs.Writing.{default_writer, row_body, row_text}
use Rattle.wsm_deal.proofs.RowTexts.{last_behind, next_behind, start_kept, text_of_more}
use Rattle.wsm_deal.proofs.row_text.with_short_row.Goals as goal

pub loop-place-preserved : goal.loop-place-preserved
loop-place-preserved c =
    let f = fields_of c.args.row.now in
    let (body, some, room) = c.loop-place.invariant in
    let within : c.loop-place.place < length f = omega (arith, c.loop-place-test.true, c.len-cells.ensures) in (
      next_behind f c.loop-place.place 44 c.args.text.items c.loop-place.text.items c.add_short.new.out.items c.cell_at-in-loop-place.result.now (omega (arith, some)) within c.cell_at-in-loop-place.ensures body (c.add_short.ensures.adds.all c.if-not-add_short.false),
      omega (arith, some),
      omega (arith, room, within, c.add_short.ensures.room.0, c.add_short.ensures.room.1),
    )

pub returns-then-not-add_short : goal.returns-then-not-add_short
returns-then-not-add_short c =
    let (body, some, room) = c.loop-place.invariant in
    record {
      all = λ told. cc;
      kept = start_kept c.args.text.items c.loop-place.text.items c.add_short.new.out.items (row_body default_writer (take c.loop-place.place (fields_of c.args.row.now)) ++ 44 ∷ []) body c.add_short.ensures.adds.kept;
    }

pub returns-then-cells-eq4 : goal.returns-then-cells-eq4
returns-then-cells-eq4 c =
    let f = fields_of c.args.row.now in
    let three = c.add_three.ensures.adds.all c.if-not-add_three.false in
    record {
      all = λ whole. last_behind f 3 c.args.text.items c.add_three.new.out.items c.add_short-is_short.new.out.items c.cell_at.result.now (omega arith) (sym c.len-cells.ensures ∙ c.if-cells-eq4.true) c.cell_at.ensures three (c.add_short-is_short.ensures.adds.all whole);
      kept = start_kept c.args.text.items c.add_three.new.out.items c.add_short-is_short.new.out.items (row_body default_writer (take 3 f) ++ 44 ∷ []) three c.add_short-is_short.ensures.adds.kept;
    }

pub returns : goal.returns
returns c =
    let f = fields_of c.args.row.now in
    let start = c.args.text.items in
    let i = c.loop-place.place in
    let (body, some, room) = c.loop-place.invariant in
    let more : 2 ≤ length f = omega (arith, c.requires.few.three) in
    let all : take i f ≡ f = take_all i f (omega (arith, c.loop-place-test.false, c.len-cells.ensures)) in
    let ended = body ∙ ap (λ (cells : List (List ℕ)). start ++ (row_body default_writer cells ++ 44 ∷ [])) all ∙ sym (append_assoc start (row_body default_writer f) (44 ∷ [])) in
    let added : c.end_line.new.out.items ≡ start ++ row_text default_writer f =
    c.end_line.ensures (start ++ row_body default_writer f) ended
    ∙ append_assoc start (row_body default_writer f) (10 ∷ [])
    ∙ ap (λ (t : List ℕ). start ++ t) (sym (text_of_more f more)) in
    record { all = λ _. added; kept = ap (take (length start)) added ∙ take-append_seam start (row_text default_writer f) }

use Rattle.std.proofs.Common.{◌≡◌, ◌<◌, ◌≤◌, ◌∙◌, ◌∷◌, ◌++◌, [], List, ℕ, ap, sym, append_assoc, arith, get_or, length, take}
use Rattle.std.proofs.Math.Seq.{take-append_seam}
use Rattle.std.proofs.lemmas.List.{take_all}
use Rattle.csv.specs.Records.{fields_of}
use Rattle.csv.specs.Writing.{default_writer, field_text, row_body, row_text}
use Rattle.wsm_deal.proofs.RowTexts.{first_body, next_body, start_kept, text_of_more}
use Rattle.wsm_deal.proofs.row_text.with_plain_row.Goals as goal

pub loop-place-init : goal.loop-place-init
loop-place-init c =
    let f = fields_of c.args.row.now in
    let out = c.args.text.items in
    let some : 0 < length f = omega (arith, c.if-len-lt2.false, c.len.ensures) in (
      c.add_plain_cell.ensures.adds.all c.if-not-add_plain_cell.false
          ∙ ap (λ (cell : List ℕ). out ++ field_text default_writer cell) c.cell_at.ensures
          ∙ ap (λ (t : List ℕ). out ++ t) (sym (first_body f some)),
      omega arith,
      c.add_plain_cell.ensures.room c.if-not-add_plain_cell.false,
    )

pub returns-then-not-add_next_cell : goal.returns-then-not-add_next_cell
returns-then-not-add_next_cell c =
    let (body, some, room) = c.loop-place.invariant in
    record {
      all = λ told. cc;
      kept = start_kept c.args.text.items c.loop-place.text.items c.add_next_cell.new.out.items (row_body default_writer (take c.loop-place.place (fields_of c.args.row.now))) body c.add_next_cell.ensures.adds.kept;
    }

pub loop-place-preserved : goal.loop-place-preserved
loop-place-preserved c =
    let f = fields_of c.args.row.now in
    let out = c.args.text.items in
    let i = c.loop-place.place in
    let (body, some, room) = c.loop-place.invariant in
    let within : i < length f = rw (← c.len-place-end.ensures) c.loop-place-test.true in
    let one = 44 ∷ field_text default_writer (get_or f i []) in (
      c.add_next_cell.ensures.adds.all c.if-not-add_next_cell.false
          ∙ ap (λ (cell : List ℕ). c.loop-place.text.items ++ (44 ∷ field_text default_writer cell)) c.cell_at-in-loop-place.ensures
          ∙ ap (λ (t : List ℕ). t ++ one) body
          ∙ append_assoc out (row_body default_writer (take i f)) one
          ∙ ap (λ (t : List ℕ). out ++ t) (sym (next_body f i some within)),
      omega arith,
      c.add_next_cell.ensures.room c.if-not-add_next_cell.false,
    )

pub returns : goal.returns
returns c =
    let f = fields_of c.args.row.now in
    let out = c.args.text.items in
    let i = c.loop-place.place in
    let (body, some, room) = c.loop-place.invariant in
    let more : 2 ≤ length f = omega (arith, c.if-len-lt2.false, c.len.ensures) in
    let all : take i f ≡ f = take_all i f (omega (arith, c.loop-place-test.false, c.len-place-end.ensures)) in
    let added : c.push_reserved.new.self.items ≡ out ++ row_text default_writer f =
    c.push_reserved.ensures.items
    ∙ ap (λ (t : List ℕ). t ++ 10 ∷ []) (body ∙ ap (λ (cells : List (List ℕ)). out ++ row_body default_writer cells) all)
    ∙ append_assoc out (row_body default_writer f) (10 ∷ [])
    ∙ ap (λ (t : List ℕ). out ++ t) (sym (text_of_more f more)) in
    record { all = λ _. added; kept = ap (take (length out)) added ∙ take-append_seam out (row_text default_writer f) }

use Rattle.std.proofs.Common.{◌≡◌, ◌∙◌, ◌+◌, [], ℕ, List, Bool, length, Option, None, Some, refl, rules, sym, ap, subst, arith}
use Rattle.std.proofs.lemmas.Result.{on_ok_weaker}
use Rattle.std.specs.Prelude.{option_map}
use Rattle.wsm_turns.specs.Turns.{Setting}
use Rattle.wsm_row_watermarks.specs.declared.counts.Counts.{Counts}
use Rattle.wsm_row_watermarks.specs.declared.handed.Handed.{Handed}
use Rattle.wsm_row_watermarks.specs.declared.turns.RowTurns.{RowTurns}
use Rattle.wsm_row_watermarks.specs.Fits.{Begins, Fits, read_by}
use Rattle.wsm_row_watermarks.specs.Handed.{Serves}
use Rattle.wsm_row_watermarks.specs.Lines.{is_first, line_of, text_of}
use Rattle.wsm_row_watermarks.specs.Turns.{state_of}
use Rattle.wsm_row_watermarks.proofs.Counting.{few_stamps}
use Rattle.wsm_row_watermarks.proofs.LinesTaken.{first_is, line_taken}
use Rattle.wsm_row_watermarks.proofs.turns.RowTurns.take.Goals as goal

-- the turn of the next line has begun
begun : (w : Setting) (once : Option ℕ) (before : List (List ℕ)) (old : RowTurns) (number : ℕ) (handed : Handed) → Fits w once old before → number ≡ old.counts.lines + 1
    → handed ≡ record old.handed { number = number; line = handed.line; text = handed.text } → handed.number ≡ number → handed.line.items ≡ []
    → Begins w (record old { handed = handed; counts = record old.counts { lines = number } }) (state_of w (read_by w once before)) []
begun w once before old number handed fits next others numbered line =
    let told = fits.holds.told in
    let lines : old.counts.lines ≡ length (read_by w once before) = ap (λ (x : Counts). x.lines) fits.counts in record {
      holds = record {
        told = subst (λ (t : Handed). Serves w t (state_of w (read_by w once before)).kept.fed) (sym others) (record { declared = told.declared; shape = told.shape; marks = told.marks; latest = told.latest });
        waiting = fits.holds.waiting;
        remembers = fits.holds.remembers;
      };
      line = line;
      number = numbered;
      few = omega (arith, next, lines, few_stamps w (read_by w once before));
    }

pub returns-in-Some-text_of : goal.returns-in-Some-text_of
returns-in-Some-text_of c = λ w once before fits.
    let old = c.args.self.now in
    let all = read_by w once before in
    let number = c.in-Some.number in
    let raw = c.args.line.now in
    let text = c.in-Some-text_of.text.now in
    let next : number ≡ old.counts.lines + 1 = search rules in
    let lines : old.counts.lines ≡ length all = ap (λ (x : Counts). x.lines) fits.counts in
    let mid : RowTurns = record old { handed = c.begin.new.self; counts = record old.counts { lines = number } } in
    let begins = begun w once before old number c.begin.new.self fits next c.begin.ensures.others c.begin.ensures.number c.begin.ensures.line in
    let is : text_of (is_first before) raw ≡ Some text = ap (λ (b : Bool). text_of b raw) (sym (first_is w once before old.counts.lines lines)) ∙ sym c.text_of.ensures ∙ ap (option_map (λ t. t.now)) c.in-Some-text_of.is in
    on_ok_weaker c.take_text.result (λ goes.
    line_taken w once before raw (line_of w.declared old.once (Some text)) old.counts mid c.take_text.new.self
    ((λ i. line_of w.declared (sym fits.once i) (is i))) fits.counts refl refl (next ∙ ap (λ (n : ℕ). n + 1) lines) fits.once c.begin.ensures.text goes)
    (c.take_text.ensures w (state_of w all) begins)

pub returns-in-None : goal.returns-in-None
returns-in-None c = λ w once before fits.
    let old = c.args.self.now in
    let all = read_by w once before in
    let number = c.in-Some.number in
    let raw = c.args.line.now in
    let next : number ≡ old.counts.lines + 1 = search rules in
    let lines : old.counts.lines ≡ length all = ap (λ (x : Counts). x.lines) fits.counts in
    let mid : RowTurns = record old { handed = c.begin.new.self; counts = record old.counts { lines = number } } in
    let begins = begun w once before old number c.begin.new.self fits next c.begin.ensures.others c.begin.ensures.number c.begin.ensures.line in
    let is : text_of (is_first before) raw ≡ None = ap (λ (b : Bool). text_of b raw) (sym (first_is w once before old.counts.lines lines)) ∙ sym c.text_of.ensures ∙ ap (option_map (λ t. t.now)) c.in-None.is in
    on_ok_weaker c.refuse_line.result (λ goes.
    line_taken w once before raw (line_of w.declared old.once None) old.counts mid c.refuse_line.new.self
    ((λ i. line_of w.declared (sym fits.once i) (is i))) fits.counts refl refl (next ∙ ap (λ (n : ℕ). n + 1) lines) fits.once c.begin.ensures.text goes)
    (c.refuse_line.ensures w (state_of w all) begins)

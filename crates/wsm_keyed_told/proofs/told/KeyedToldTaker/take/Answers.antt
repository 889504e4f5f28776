use Rattle.std.proofs.Common.{◌≡◌, ◌∙◌, ◌++◌, ◌∷◌, ℕ, List, true, map, Option, SFits, w64, to_z-of_z, sym, ap, subst, append_assoc, append-nil}
use Rattle.std.proofs.lemmas.Result.{on_ok_weaker}
use Rattle.std.specs.Prelude.{IfSome}
use Rattle.wsm_record.specs.Event.{event_of}
use Rattle.wsm_admission.specs.declared.verdict.Refusal.{Refusal}
use Rattle.wsm_semantics.specs.Lines.{Out, refusal_lines}
use Rattle.wsm_semantics.specs.Query.{verdict_on}
use Rattle.wsm_semantics.specs.Relation.{turn_rows}
use Rattle.wsm_semantics.specs.Text.{lines_text}
use Rattle.wsm_program.specs.Program.{Program}
use Rattle.wsm_part_programs.specs.Names.{of_names}
use Rattle.wsm_part_engines.specs.Answers.{Feeds}
use Rattle.wsm_part_engines.specs.Fits as parts
use Rattle.wsm_keyed_told.specs.declared.told.KeyedTold.{KeyedTold}
use Rattle.wsm_keyed_told.specs.KeyedLines.{event_text, keyed_lines}
use Rattle.wsm_keyed_told.proofs.KeyedLines.{keyed_both, keyed_refusal}
use Rattle.wsm_keyed_told.specs.Staying.{CutsAll}
use Rattle.wsm_keyed_told.proofs.More.{by_more}
use Rattle.wsm_keyed_told.proofs.ByNames.{fits_any}
use Rattle.wsm_keyed_told.proofs.told.KeyedToldTaker.take.Goals as goal

pub returns : goal.returns
returns c = on_ok_weaker c.add_rows.result (λ added p past serves.
    let old = c.args.self.now in
    let names = old.names in
    let e = event_of c.args.event.now in
    let d = p.header.schema in
    let is : parts.is_named names e ≡ true = sym (c.is_named.ensures names (sym c.len.ensures.len)) ∙ c.if-not-is_named.false in
    let feeds : Feeds old.parts c.feed_numbered.new.self e c.in_ok-reply.reply.refusal = c.in_ok-reply.ensures.feeds in
    let mid = c.tell.new.self in
    let before_fits : SFits w64 c.mark-before.result = record { sfits = c.mark-before.type_inv } in
    let now_fits : SFits w64 c.mark-now.result = record { sfits = c.mark-now.type_inv } in
    let others : mid ≡ record old { parts = c.feed_numbered.new.self; lines = mid.lines; staying = c.note.new.staying } = c.in_ok-tell.ensures.others in
    let fits : parts.Fits p names c.feed_numbered.new.self (e ∷ past) = feeds.fits p names past serves.parts is in
    record {
      serves = record {
        lawful = serves.lawful;
        panes = serves.panes;
        parts = subst (λ (t : KeyedTold). parts.Fits p t.names t.parts (e ∷ past)) (sym others) fits;
        staying = subst (λ (t : KeyedTold). IfSome t.staying (λ k. CutsAll p k (e ∷ past))) (sym others)
            (c.in_ok-note.ensures p past serves.staying (λ all named.
            let any = fits_any p names old.parts past serves.parts all named.1 in
            record {
              verdict = feeds.verdict p all past any named.0;
              selected = c.in_ok-reply.ensures.selected p all past any named.0;
              before = to_z-of_z before_fits ∙ c.mark-before.ensures p all past any;
              now = to_z-of_z now_fits ∙ c.mark-now.ensures p all (e ∷ past) (fits_any p names c.feed_numbered.new.self (e ∷ past) fits all named);
            }));
      };
      names = ap (λ (t : KeyedTold). t.names) others;
      text = λ more.
          let all = names ++ more in
          let by = by_more names more p serves.lawful serves.panes old.parts c.feed_numbered.new.self past e c.in_ok-reply.reply.refusal feeds serves.parts is in
          let refusal = verdict_on (of_names p all) past e in
          let rows = turn_rows (of_names p all) past e in
          let n = c.args.number in
          let first : mid.lines.items ≡ old.lines.items ++ keyed_lines d all (refusal_lines n refusal) =
          c.in_ok-tell.ensures.lines d
          ∙ ap (λ (r : Option Refusal). old.lines.items ++ lines_text d (refusal_lines n r)) by.verdict
          ∙ ap (λ (l : List ℕ). old.lines.items ++ l) (keyed_refusal d all n refusal) in
          let schema : mid.parts.program.header.schema ≡ d = ap (λ (t : KeyedTold). t.parts.program.header.schema) others ∙ ap (λ (m : Program). m.header.schema) fits.program in
          let known : mid.names ≡ names = ap (λ (t : KeyedTold). t.names) others in
          let second : c.add_rows.new.lines.items ≡ mid.lines.items ++ keyed_lines d all (map Out rows) =
          added
          ∙ (λ i. mid.lines.items ++ keyed_lines (schema i) (known i) (map Out (others i).parts.rows))
          ∙ ap (λ (l : List ℕ). mid.lines.items ++ l) by.lines in
          second ∙ ap (λ (l : List ℕ). l ++ keyed_lines d all (map Out rows)) first ∙ append_assoc old.lines.items (keyed_lines d all (refusal_lines n refusal)) (keyed_lines d all (map Out rows))
          ∙ ap (λ (l : List ℕ). old.lines.items ++ l) (sym (keyed_both d all (refusal_lines n refusal) (map Out rows)))
          ∙ ap (λ (l : List ℕ). old.lines.items ++ l) (sym (append-nil (event_text p all n past e)));
    }) c.add_rows.ensures

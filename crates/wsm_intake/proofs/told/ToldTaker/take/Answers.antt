use Rattle.std.proofs.Common.{◌≡◌, ◌∙◌, ◌++◌, ◌∷◌, ℕ, List, map, sym, ap, subst, append-nil}
use Rattle.std.specs.Prelude.{is_some}
use Rattle.wsm_record.specs.Event.{event_of}
use Rattle.wsm_record.specs.Schema.{Declared}
use Rattle.wsm_semantics.specs.Query.{verdict_on}
use Rattle.wsm_semantics.specs.Relation.{turn_rows}
use Rattle.wsm_semantics.specs.declared.out_row.OutRow.{OutRow}
use Rattle.wsm_semantics.specs.Lines.{Out, refusal_lines}
use Rattle.wsm_semantics.specs.Text.{lines_text}
use Rattle.wsm_program.specs.Program.{Program}
use Rattle.wsm_machine.specs.Meaning.{query_of}
use Rattle.wsm_engine.specs.declared.reply.Reply.{Reply}
use Rattle.wsm_intake.specs.declared.told.Told.{Told}
use Rattle.wsm_log_text.specs.LogText.{event_text}
use Rattle.wsm_intake.specs.Staying.{Fed}
use Rattle.wsm_intake.specs.Tells.{Serves}
use Rattle.wsm_csv.proofs.TurnLines.{joined_lines}
use Rattle.wsm_intake.proofs.told.ToldTaker.take.Goals as goal

pub returns : goal.returns
returns c = λ p past serves.
    let old = c.args.self.now in
    let e = event_of c.args.event.now in
    let mid = c.tell.new.self in
    let fed = c.feed.new.self in
    let others : mid ≡ record fed { lines = mid.lines } = c.tell.ensures.others in
    let took : Fed p fed.engine past e c.in_ok-reply.reply = c.in_ok-reply.ensures.fed p past serves in
    let told : Serves p mid (e ∷ past) = subst (λ (t : Told). Serves p t (e ∷ past)) (sym others) (record { program = took.program; fits = took.fits; staying = c.in_ok-reply.ensures.staying p past serves }) in
    let declared : c.schema.result.now ≡ p.header.schema = c.schema.ensures ∙ ap (λ (m : Program). m.header.schema) told.program in
    let verdict : c.in_ok-reply.reply.refusal ≡ verdict_on (query_of p) past e = ap (λ (r : Reply). r.refusal) took.is in
    let rows : c.rows.result.now ≡ turn_rows (query_of p) past e = c.rows.ensures ∙ ap (λ (t : Told). t.engine.rows) others ∙ took.rows in
    let first : mid.lines.items ≡ old.lines.items ++ lines_text p.header.schema (refusal_lines c.args.number (verdict_on (query_of p) past e)) =
    c.in_ok-tell.ensures.lines p.header.schema
    ∙ (λ i. c.in_ok-reply.ensures.lines i ++ lines_text p.header.schema (refusal_lines c.args.number (verdict i))) in
    let second = c.in_ok-rows_text.ensures
    ∙ ap (λ (d : Declared). mid.lines.items ++ lines_text d (map Out c.rows.result.now)) declared
    ∙ ap (λ (rs : List OutRow). mid.lines.items ++ lines_text p.header.schema (map Out rs)) rows in
    record {
      serves = record { program = told.program; fits = told.fits; staying = told.staying };
      text = joined_lines p.header.schema old.lines.items mid.lines.items c.rows_text.new.out.items (refusal_lines c.args.number (verdict_on (query_of p) past e)) (map Out (turn_rows (query_of p) past e)) first second
          ∙ ap (λ (l : List ℕ). old.lines.items ++ l) (sym (append-nil (event_text (query_of p) c.args.number past e)));
      keeps = ap (λ (t : Told). is_some t.staying) others ∙ c.in_ok-reply.ensures.keeps;
    }

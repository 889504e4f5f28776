use Rattle.std.proofs.Common.{◌∙◌, ◌++◌, ◌∷◌, ℕ, List, sym, ap, subst, append-nil}
use Rattle.std.proofs.lemmas.Result.{on_ok_weaker}
use Rattle.wsm_record.specs.Event.{event_of}
use Rattle.wsm_row_watermarks.specs.declared.handed.Handed.{Handed}
use Rattle.wsm_row_watermarks.specs.Handed.{Serves}
use Rattle.wsm_row_watermarks.specs.Turns.{event_text}
use Rattle.wsm_row_watermarks.proofs.handed.HandedTaker.take.Goals as goal

pub returns : goal.returns
returns c = on_ok_weaker c.add_event.result (λ text. λ w past serves.
    let old = c.args.self.now in
    let mid = c.hear.new.self in
    let new = c.add_event.new.self in
    let others = c.add_event.ensures.others in
    let heard : Serves w mid (event_of c.args.event.now ∷ past) = c.hear.ensures.serves w past serves in
    let same = c.hear.ensures.others in
    let row = event_text w.declared old.number old.line.items c.args.number (event_of c.args.event.now) in
    record {
      serves = subst (λ (t : Handed). Serves w t (event_of c.args.event.now ∷ past)) (sym others) (record { declared = heard.declared; shape = heard.shape; marks = heard.marks; latest = heard.latest });
      text = text
          ∙ (λ i. (same.text i).items ++ event_text (heard.declared i) (same.number i) (same.line i).items c.args.number (event_of c.args.event.now))
          ∙ ap (λ (l : List ℕ). old.text.items ++ l) (sym (append-nil row));
      number = ap (λ (t : Handed). t.number) others ∙ same.number;
      line = ap (λ (t : Handed). t.line.items) others ∙ ap (λ l. l.items) same.line;
    }) c.add_event.ensures.text

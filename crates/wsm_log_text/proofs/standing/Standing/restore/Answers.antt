use Rattle.std.proofs.Common.{◌∙◌, ◌++◌, ℕ, List, Option, sym, ap, subst}
use Rattle.wsm_turns.specs.Named.{Knows}
use Rattle.wsm_saved.specs.Numbers.{number_text}
use Rattle.wsm_saved.specs.Lists.{bytes_text}
use Rattle.wsm_saved_turns.specs.Turns.{clocks_text, doubles_text, names_text}
use Rattle.wsm_turns.specs.Clocks.{named_in}
use Rattle.wsm_log_text.proofs.Restored.{bytes_restored, number_restored}
use Rattle.wsm_log_text.proofs.standing.Standing.restore.Goals as goal

pub returns : goal.returns
returns c = λ w mark f rest facts is.
    let by_doubles : List ℕ = doubles_text f.known ++ rest in
    let by_names : List ℕ = names_text (named_in c.args.clocks) f.names ++ by_doubles in
    let by_clocks : List ℕ = clocks_text f.waiting ++ by_names in
    let by_left : List ℕ = number_text f.left ++ by_clocks in
    let named = c.named_in.ensures in
    let lines = number_restored c.in-Some.taken c.number.new.self c.args.from.now f.lines (bytes_text f.first ++ by_left) c.in-Some.ensures facts.small is in
    let first = bytes_restored c.in-Some-2.first.items c.restore_bytes.new.from c.number.new.self f.first by_left (rw c.in-Some-2.is at c.in_ok-first.ensures) facts.first lines.1 in
    let left = number_restored c.in-Some-number.left c.number-2.new.self c.restore_bytes.new.from f.left by_clocks c.in-Some-number.ensures facts.left first.1 in
    let heard = rw c.in-Some-3.is at c.in_ok-waiting.ensures.restored f.waiting f.stamps f.told f.waits by_names facts.hears facts.waiting left.1 in
    let names = rw c.in-Some-4.is at c.in_ok-names.ensures f.names by_doubles facts.names (λ none. facts.unnamed (sym named ∙ none)) (heard.1 ∙ ap (λ (n : Option ℕ). names_text n f.names ++ by_doubles) (sym named)) in
    let known = rw c.in-Some-5.is at c.in_ok-known.ensures.restored f.known rest facts.known names.1 in (
      record {
        lines = lines.0;
        first = first.0;
        left = left.0;
        hears = heard.0;
        names = subst (λ (n : Option ℕ). Knows n c.in-Some-4.names f.names) named names.0;
        known = known.0;
      },
      known.1,
    )

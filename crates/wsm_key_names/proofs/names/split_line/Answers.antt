use Rattle.std.proofs.Common.{◌≡◌, ◌∙◌, ◌+◌, ◌-◌, ◌∷◌, ℕ, suc, List, ap, arith, drop, length, take, sym}
use Rattle.std.proofs.lemmas.List.{length-drop, take_all}
use Rattle.wsm_log.specs.LinesOf.{lines_of}
use Rattle.wsm_key_names.proofs.NameLines.{line_up_to, only_line_of}
use Rattle.wsm_key_names.proofs.names.split_line.Goals as goal

pub returns-in-Some-clause-line : goal.returns-in-Some-clause-line
returns-in-Some-clause-line c =
    let text = c.args.text.now in
    let end = c.in-Some.end in
    let (range, is) = c.in-Some.ensures in
    let next : suc end ≡ end + 1 = omega arith in
    let all : take (length text - (end + 1)) (drop (end + 1) text) ≡ drop (end + 1) text = take_all (length text - (end + 1)) (drop (end + 1) text) (omega (arith, length-drop (end + 1) text)) in
    line_up_to text end range.high is (λ k h. range.before k (omega arith) h)
    ∙ ap (λ (n : ℕ). take end text ∷ lines_of (drop n text)) next
    ∙ ap (λ (rest : List ℕ). take end text ∷ lines_of rest) (sym all)

pub returns-in-None-clause-line : goal.returns-in-None-clause-line
returns-in-None-clause-line c = only_line_of c.args.text.now c.requires (λ k h. c.in-None.ensures k (omega arith) h)

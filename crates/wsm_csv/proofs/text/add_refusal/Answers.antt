use Rattle.std.proofs.Common.{◌≡◌, ◌++◌, List, ℕ, OnOk, subst}
use Rattle.wsm_csv.proofs.TurnLines.{told_text}
use Rattle.wsm_csv.proofs.text.add_refusal.Goals as goal

pub returns-in_default : goal.returns-in_default
returns-in_default c = λ declared.
    subst (λ (line : List ℕ). OnOk c.add_refusal_line.result (c.add_refusal_line.new.out.items ≡ c.args.out.now.items ++ line)) (told_text declared c.args.row c.args.why c.in_default.not-Late) (c.add_refusal_line.ensures declared)

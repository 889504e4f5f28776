use Rattle.std.proofs.Common.{◌∙◌, ◌++◌, ◌∷◌, [], List, ℕ, inr, sym, ap, Bool}
use Rattle.std.specs.Prelude.{if◌then◌else◌}
use Rattle.wsm_record.proofs.Lists.{not-false, not-true}
use Rattle.wsm_key_names.specs.Names.{names_behind}
use Rattle.wsm_key_names.proofs.NameLists.{bad_line, name_again, new_name}
use Rattle.wsm_key_names.proofs.names.KeyNames.add_line.Goals as goal

pub returns-then-not-is_key_name-clause-refused : goal.returns-then-not-is_key_name-clause-refused
returns-then-not-is_key_name-clause-refused c = λ lines.
    inr (bad_line c.args.self.now c.args.name.now c.args.line lines c.requires (sym c.is_key_name.ensures ∙ c.if-not-is_key_name.true))

pub returns-then-not-branch-clause-refused : goal.returns-then-not-branch-clause-refused
returns-then-not-branch-clause-refused c = λ lines.
    let again = not-false _ _ c.in_ok-add.ensures.new c.if-not-branch.true in
    inr (name_again c.args.self.now c.args.name.now c.args.line lines c.requires (sym c.is_key_name.ensures ∙ c.if-not-is_key_name.false) again)

pub returns-clause-added : goal.returns-clause-added
returns-clause-added c = λ lines.
    let names = c.args.self.now in
    let line = c.args.name.now in
    let absent = not-true _ _ c.in_ok-add.ensures.new c.if-not-branch.false in
    let grown = c.in_ok-add.ensures.names ∙ ap (λ (b : Bool). if b then names ++ line ∷ [] else names) c.if-not-branch.false in
    new_name names line c.args.line lines (sym c.is_key_name.ensures ∙ c.if-not-is_key_name.false) absent
    ∙ ap (λ (ns : List (List ℕ)). names_behind ns lines) (sym grown)

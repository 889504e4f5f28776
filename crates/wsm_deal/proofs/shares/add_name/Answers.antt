use Rattle.std.proofs.Common.{rules, ◌≡◌, true, false, inl, inr, refl}
use Rattle.wsm_record.specs.Name.{is_name}
use Rattle.wsm_deal.proofs.KeyNames.{without_name, name_again, new_name}
use Rattle.wsm_deal.proofs.shares.add_name.Goals as goal
use Rattle.wsm_deal.proofs.shares.add_name.Goals.{in-Ok-true, in-Ok-false, in-Err}

pub returns-then-is_none-clause-refused : goal.returns-then-is_none-clause-refused
returns-then-is_none-clause-refused c = λ lines.
    let none : is_name c.args.name.now ≡ false = search (rules, c.if-is_none.true, c.is_none.ensures, c.new.ensures.which) in
    inr (without_name (λ v. v.items) c.args.names.now.keys c.args.name.now c.args.line c.requires none lines)

pub returns-clause-added : goal.returns-clause-added
returns-clause-added c = λ lines.
    let name : is_name c.args.name.now ≡ true = search (rules, c.if-is_none.false, c.is_none.ensures, c.new.ensures.which) in
    let is = c.in_ok-to_vec.ensures.items_if_clones_equal (λ _ _ e. e) in
    elim c.match-insert.branch [
      | in-Ok-true w ↦
          let added = w.in-Ok-true.ensures in
          rw w.result-is (new_name (λ v. v.items) c.args.names.now.keys c.args.name.now c.args.line c.in_ok-to_vec.field-0 w.in-Ok-true.field-0 c.insert.new.self.keys is name added.added w.in-Ok-true.field-0-test added.keys lines)
      | in-Ok-false w ↦ rw w.result-is tt
      | in-Err w ↦ rw w.result-is tt
    ]

pub returns-clause-refused : goal.returns-clause-refused
returns-clause-refused c = λ lines.
    let name : is_name c.args.name.now ≡ true = search (rules, c.if-is_none.false, c.is_none.ensures, c.new.ensures.which) in
    let is = c.in_ok-to_vec.ensures.items_if_clones_equal (λ _ _ e. e) in
    elim c.match-insert.branch [
      | in-Ok-true w ↦ rw w.result-is tt
      | in-Ok-false w ↦
          rw w.result-is
          (inr (name_again (λ v. v.items) c.args.names.now.keys c.args.name.now c.args.line c.in_ok-to_vec.field-0 w.in-Ok-false.field-0 is c.requires name w.in-Ok-false.ensures.added w.in-Ok-false.field-0-test lines))
      | in-Err w ↦ rw w.result-is (inl refl)
    ]

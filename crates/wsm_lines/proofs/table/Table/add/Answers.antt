use Rattle.std.proofs.Common.{◌≡◌, ◌∙◌, sym, ap, List}
use Rattle.std.specs.Prelude.{None}
use Rattle.indexmap.proofs.CallerLemmas.{insert_entry-new}
use Rattle.wsm_lines.specs.Entries.{added, entry_with, number_in}
use Rattle.wsm_lines.specs.declared.table.Entry.{Entry}
use Rattle.wsm_lines.proofs.TableLemmas.{number_in-map, map_added, none_from}
use Rattle.wsm_lines.proofs.table.Table.add.Goals as goal

pub returns-clause-added : goal.returns-clause-added
returns-clause-added c =
    let word = c.args.word.now in
    let es = c.self.inside.numbers.entries in
    let key = c.in_ok-to_vec.field-0 in
    let is : key.items ≡ word = c.in_ok-to_vec.ensures.items_if_clones_equal (λ _ _ e. e) in
    let none : number_in c.args.self.now word ≡ None = sym c.number_of.ensures ∙ none_from c.number_of.result (sym c.is_some.ensures ∙ c.if-is_some.false) in
    let before = ap (λ (t : List Entry). number_in t word) c.self.view_is ∙ none in
    let absent = sym (number_in-map (λ v. v.items) key.items es) ∙ ap (number_in _) is ∙ before in
    let grown = c.in_ok-insert.ensures.entries ∙ insert_entry-new _ c.self.inside.numbers key c.args.number absent in
    map_added (λ v. v.items) es c.insert.new.self.entries key word c.args.number grown is before
    ∙ ap (λ (t : List Entry). added t (entry_with word c.args.number)) c.self.view_is

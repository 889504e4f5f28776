use Rattle.std.proofs.Common.{◌≡◌, ◌∙◌, ◌==◌, List, ℕ, Some, ap, length, refl, sym, true, false}
use Rattle.std.specs.Prelude.{slice_get}
use Rattle.std.proofs.lemmas.Bool.{ltb-true}
use Rattle.std.proofs.lemmas.Option.{slice_get_read}
use Rattle.wsm_semantics.specs.Text.{name_at}
use Rattle.wsm_key_names.specs.Cell.{cells_of}
use Rattle.wsm_key_names.proofs.NameCells.{cell_bare, cell_kept}
use Rattle.wsm_key_names.proofs.names.KeyNames.cell.Goals as goal

pub returns-then-is_empty : goal.returns-then-is_empty
returns-then-is_empty c =
    let keys = c.self.inside.names.keys in
    let all = c.deref.result.now in
    let i = c.args.number in
    let v = c.in-Some.quoted.now in
    let within = ltb-true i (length all) (sym c.in-Some.ensures.lookup.0) in
    let here : slice_get all i ≡ Some v = slice_get_read all (length all) i v refl within c.in-Some.ensures.lookup.1 in
    let at : slice_get c.self.inside.quoted.items i ≡ Some v = rw c.deref.ensures.value at here in
    let none : (length v.items == 0) ≡ true = ap (λ (n : ℕ). n == 0) (sym v.ok.0) ∙ sym c.is_empty.ensures ∙ c.if-is_empty.true in
    let bare = cell_bare (λ v. v.items) keys c.self.inside.quoted.items i v c.self.invariant.1.1.1 at none in
    c.text_of.ensures
    ∙ ap (λ (ns : List (List ℕ)). name_at ns i) (sym c.self.view_is)
    ∙ sym bare
    ∙ ap (λ (ns : List (List ℕ)). name_at (cells_of ns) i) c.self.view_is

pub returns-else-is_empty : goal.returns-else-is_empty
returns-else-is_empty c =
    let keys = c.self.inside.names.keys in
    let all = c.deref.result.now in
    let i = c.args.number in
    let v = c.in-Some.quoted.now in
    let within = ltb-true i (length all) (sym c.in-Some.ensures.lookup.0) in
    let here : slice_get all i ≡ Some v = slice_get_read all (length all) i v refl within c.in-Some.ensures.lookup.1 in
    let at : slice_get c.self.inside.quoted.items i ≡ Some v = rw c.deref.ensures.value at here in
    let some : (length v.items == 0) ≡ false = ap (λ (n : ℕ). n == 0) (sym v.ok.0) ∙ sym c.is_empty.ensures ∙ c.if-is_empty.false in
    let kept = cell_kept (λ v. v.items) keys c.self.inside.quoted.items i v c.self.invariant.1.1.1 at some in
    c.as_slice.ensures.value ∙ sym kept ∙ ap (λ (ns : List (List ℕ)). name_at (cells_of ns) i) c.self.view_is

use Rattle.std.proofs.Common.{◌≡◌, ℕ, suc, ◌+◌, Some, List, ◌∷◌, drop, slice_get, ap, ◌∙◌, add-one}
use Rattle.std.proofs.lemmas.Option.{slice_get_within, get_or_from_slice_get}
use Rattle.std.proofs.Math.Seq.{drop-cons}
use Rattle.wsm_lines.specs.declared.table.Entry.{Entry}
use Rattle.wsm_lines.specs.Entries.{added, entry_with}
use Rattle.wsm_source.specs.FieldBinding.{named_from}
use Rattle.wsm_source.proofs.field_binding.named_table.Goals as goal

drop_from_slice_get : (xs : List (List ℕ)) (i : ℕ) (x : List ℕ) → slice_get xs i ≡ Some x → drop i xs ≡ x ∷ drop (i + 1) xs
drop_from_slice_get xs i x e =
    rw add-one (drop-cons xs i x (slice_get_within xs i x e) ∙ ap (λ y. y ∷ drop (suc i) xs) (get_or_from_slice_get xs i x x e))

-- one more name in the table leaves the same table at the end
named_on : (xs : List (List ℕ)) (i : ℕ) (x : List ℕ) (old new whole : List Entry) → slice_get xs i ≡ Some x → new ≡ added old (entry_with x i) → named_from old i (drop i xs) ≡ whole
    → named_from new (i + 1) (drop (i + 1) xs) ≡ whole
named_on xs i x old new whole at is e = rw is (rw (drop_from_slice_get xs i x at) at e)

pub loop-number-preserved : goal.loop-number-preserved
loop-number-preserved c =
    named_on c.args.names.now c.loop-number.number c.text_of.result.now c.loop-number.table c.add.new.self _ c.text_of.ensures c.in_ok-add.ensures.added c.loop-number.invariant

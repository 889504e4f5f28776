use Rattle.std.proofs.Common.{◌≡◌, ◌++◌, ◌∷◌, [], List, Err, map, reverse, refl, subst}
use Rattle.wsm_record.specs.declared.event.RowFault.TheVariants.{BadTag}
use Rattle.wsm_semantics.specs.Query.{Query}
use Rattle.wsm_semantics.specs.Lines.{Row}
use Rattle.wsm_machine.specs.Meaning.{query_of}
use Rattle.wsm_keep.specs.GoesOn.{GoesOn}
use Rattle.wsm_keep.specs.Holds.{read}
use Rattle.wsm_keep.specs.Staying.{staying}
use Rattle.wsm_kept.specs.Head.{head_tag}
use Rattle.wsm_kept.specs.Kept.{kept_rows, rows_of, written}
use Rattle.wsm_kept.proofs.Texts.{read_written, rows_in_place}
use Rattle.wsm_kept.proofs.laws.goes_on.Goals as goal

pub returns : goal.returns
returns c = λ p whole records past numbers.
    let q : Query = query_of p in
    let all : map read (written q past) ≡ rows_of q past = read_written q (reverse past) in
    let some : map read (staying read q (written q past)) ++ Err BadTag ∷ [] ≡ rows_of q ((head_tag ∷ numbers) ∷ kept_rows q past) = rows_in_place q past numbers in
    subst (λ (rs : List Row). GoesOn q records rs (rows_of q ((head_tag ∷ numbers) ∷ kept_rows q past))) all
    (subst (λ (rs : List Row). GoesOn q records (map read (written q past)) rs) some
    (c.goes_on.ensures p whole records (written q past) (Err BadTag ∷ []) refl))

-- What a row that is dealt makes of a part, and of all parts.
use Rattle.std.proofs.Common.{◌≡◌, ◌<◌, ◌∷◌, ◌++◌, [], ℕ, List, Option, Result, Ok, Err, Some, ap, Bool, false, length, subst, sym, ◌∙◌}
use Rattle.std.specs.Prelude.{slice_get, slice_set}
use Rattle.wsm_csv.specs.Device.{TakesPart}
use Rattle.wsm_csv.specs.declared.device.DeviceFault.{DeviceFault}
use Rattle.wsm_deal.specs.Deal.{Sharing, goal_of}
use Rattle.wsm_deal.specs.PartText.{part_text}
use Rattle.wsm_deal.specs.Parts.{Befores, Deals, EachBegan, EachHas, Gives, Has, NoneFailed, TakesRow, hands_of, one_more, with_row}
use Rattle.wsm_deal.specs.declared.dealing.DealEnd.{DealEnd}
use Rattle.wsm_deal.specs.declared.dealing.DealEnd.TheVariants.{Memory, WriteFailed}
use Rattle.wsm_deal.specs.declared.part.Part.{Part}
use Rattle.wsm_deal.specs.declared.shares.Goal.{Goal}
use Rattle.wsm_deal.specs.declared.shares.Goal.TheVariants.{One}
use Rattle.wsm_deal.proofs.EachPart.{BeganAt, HasAt, each_set, has_began, held, more_for, more_for_began, same_for, set_tells, tells_fault, tells_memory, tells_ok}
use Rattle.wsm_deal.proofs.Goals.{dealt_more}
use Rattle.wsm_deal.proofs.Outcomes.{on_err_map, on_ok_map}
use Rattle.wsm_deal.proofs.PartTexts.{Has-part, part-longer}

module _ {D U : Type 0} (taken : D → Option (List ℕ)) (failed : D → Bool) (row : List (List ℕ)) where
  -- the row wasn't kept
  pub not_kept : (old new : Part D) → new.out ≡ old.out → failed old.out ≡ false → TakesRow {U = U} taken failed row old new (Err Memory)
  not_kept old new same works = record {
    adds = λ before rows has. tt;
    part = λ before rows has.
        let some = part-longer before (taken old.out) rows row (Has-part taken before rows old has) in
        subst (λ (d : D). TakesPart before (taken d) (part_text (rows ++ row ∷ []))) (sym same) some;
    tells = tells_memory (ap failed same ∙ works);
  }

  -- it was kept, and perhaps handed on
  pub was_handed : (old mid new : Part D) (v w : U) → ((before : Option (List ℕ)) (rows : List (List (List ℕ))) → Has taken before rows old → Has taken before (rows ++ row ∷ []) mid)
      → Gives taken failed (Has taken) mid new (Ok v) → TakesRow taken failed row old new (Ok w)
  was_handed old mid new v w kept given = record {
    adds = λ before rows has. given.gives before (rows ++ row ∷ []) (kept before rows has);
    part = λ before rows has. tt;
    tells = tells_ok w given.works;
  }

  -- or its device has failed
  pub not_handed : (old mid new : Part D) (e : DeviceFault) → ((before : Option (List ℕ)) (rows : List (List (List ℕ))) → Has taken before rows old → Has taken before (rows ++ row ∷ []) mid)
      → Gives {U = U} taken failed (Has taken) mid new (Err e) → TakesRow {U = U} taken failed row old new (Err WriteFailed)
  not_handed old mid new e kept given = record {
    adds = λ before rows has. tt;
    part = λ before rows has. given.part before (rows ++ row ∷ []) (kept before rows has);
    tells = tells_fault given.fails;
  }

  -- what it makes of one part is all that it makes of the parts
  pub to_one : (parts : List (Part D)) (n : ℕ) (old new : Part D) (result : Result U DealEnd) → n < length parts → slice_get parts n ≡ Some old → NoneFailed failed parts → TakesRow taken failed row old new result
      → Deals taken failed (One n) row parts (slice_set parts n new) result
  to_one parts n old new result within at works one = record {
    dealt = λ olds hands each.
        on_ok_map result
        (λ has. each_set (HasAt taken olds hands) (HasAt taken olds (one_more (One n) row hands)) parts n new each (more_for taken olds hands row n new has) (λ k p other h. same_for taken olds hands row n k p other h))
        (one.adds (olds n) (hands n) (each n old at));
    began = λ olds hands each.
        on_err_map result
        (λ began. each_set (HasAt taken olds hands) (BeganAt taken olds (one_more (One n) row hands)) parts n new each (more_for_began taken olds hands row n new began)
        (λ k p other h. has_began taken olds (one_more (One n) row hands) k p (same_for taken olds hands row n k p other h)))
        (one.part (olds n) (hands n) (each n old at));
    tells = set_tells failed parts n new result within works one.tells;
  }

-- which value comes with an end that is well is of no account
pub ended_well : {D U : Type 0} {taken : D → Option (List ℕ)} {failed : D → Bool} {goal : Goal} {row : List (List ℕ)} {old new : List (Part D)} {v : U} (w : U) → Deals taken failed goal row old new (Ok v) → Deals taken failed goal row old new (Ok w)
ended_well {v = v} w deals = record { dealt = deals.dealt; began = deals.began; tells = tells_ok w (held v WriteFailed deals.tells.works) }

-- the rows of each part, with one more for those that it goes to
pub has_more : {D : Type 0} (taken : D → Option (List ℕ)) (olds : Befores) (s : Sharing) (rows : List (List (List ℕ))) (row : List (List ℕ)) (parts : List (Part D))
    → EachHas taken olds (one_more (goal_of s row) row (hands_of s rows)) parts → EachHas taken olds (hands_of s (with_row rows row)) parts
has_more taken olds s rows row parts each k p at = subst (λ (rs : List (List (List ℕ))). Has taken (olds k) rs p) (sym (dealt_more s k rows row)) (each k p at)

pub began_more : {D : Type 0} (taken : D → Option (List ℕ)) (olds : Befores) (s : Sharing) (rows : List (List (List ℕ))) (row : List (List ℕ)) (parts : List (Part D))
    → EachBegan taken olds (one_more (goal_of s row) row (hands_of s rows)) parts → EachBegan taken olds (hands_of s (with_row rows row)) parts
began_more taken olds s rows row parts each k p at = subst (λ (rs : List (List (List ℕ))). TakesPart (olds k) (taken p.out) (part_text rs)) (sym (dealt_more s k rows row)) (each k p at)

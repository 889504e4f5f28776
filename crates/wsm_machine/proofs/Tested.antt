-- The tests of two lists that the code makes by a loop.
use Rattle.std.proofs.Common.{◌≡◌, ◌&&◌, Bool, true, false, List, [], ◌∷◌, ◌++◌, refl, ap, ◌∙◌}
use Rattle.std.proofs.Math.Bool.{and-false, and-true}
use Rattle.wsm_fold.specs.Fold.{is_of_kind, are_of_kinds}
use Rattle.wsm_record.specs.declared.words.CellType.{CellType}
use Rattle.wsm_machine.specs.Inputs.{is_of_field, are_of_fields}
use Rattle.wsm_machine.specs.Step.{is_type, are_types}
use Rattle.wsm_program.specs.Program.{Program}
use Rattle.wsm_rules.specs.Rules.{range}
use Rattle.wsm_machine.specs.InRange.{is_acc_in, accs_in}
use Rattle.wsm_machine.proofs.Pairs.{TestsPairs}
use Rattle.wsm_machine.proofs.PairsAt.{TestsAt}

pub kinds_tested : TestsPairs is_of_kind are_of_kinds
kinds_tested = record { none = refl; more = λ x y xs ys. refl; too_few = λ x xs. refl; too_many = λ y ys. refl }

pub fields_tested : TestsPairs (λ f v. is_of_field f.type v) are_of_fields
fields_tested = record { none = refl; more = λ x y xs ys. refl; too_few = λ x xs. refl; too_many = λ y ys. refl }

pub types_tested : TestsPairs is_type are_types
types_tested = record { none = refl; more = λ x y xs ys. refl; too_few = λ x xs. refl; too_many = λ y ys. refl }

-- the types behind the first ones
pub are_types-snoc : (ts us : List CellType) (t u : CellType) → are_types (ts ++ t ∷ []) (us ++ u ∷ []) ≡ (are_types ts us && is_type t u)
are_types-snoc [] [] t u = and-true (is_type t u)
are_types-snoc [] (v ∷ []) t u = and-false (is_type t v)
are_types-snoc [] (v ∷ (w ∷ us)) t u = and-false (is_type t v)
are_types-snoc (s ∷ []) [] t u = and-false (is_type s u)
are_types-snoc (s ∷ (r ∷ ts)) [] t u = and-false (is_type s u)
are_types-snoc (s ∷ ts) (v ∷ us) t u = ap (λ (b : Bool). is_type s v && b) (are_types-snoc ts us t u) ∙ and_assoc' (is_type s v) (are_types ts us) (is_type t u) where
  and_assoc' : (a b c : Bool) → (a && (b && c)) ≡ ((a && b) && c)
  and_assoc' true b c = refl
  and_assoc' false b c = refl

pub accs_tested : (p : Program) → TestsAt (λ a k v. is_acc_in (range p a) k v) (accs_in p)
accs_tested p = record { none = λ n. refl; more = λ n x y xs ys. refl; too_few = λ n x xs. refl; too_many = λ n y ys. refl }

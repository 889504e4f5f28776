-- A program's accumulators run its query: records are folded in any order and in any groups, and what
-- they are folded to gives the rows.
use Rattle.std.proofs.Common.{◌≡◌, List, [], ◌∷◌, length, Option, Some, None, refl, ap, ◌∙◌}
use Rattle.std.specs.Option.{option_and_then}
use Rattle.wsm_record.specs.declared.event.Value.{Value}
use Rattle.wsm_fold.specs.Laws.{joined_to}
use Rattle.wsm_fold.specs.Fold.{joins}
use Rattle.wsm_fold.proofs.Rows.{joins_comm, joins_assoc}
use Rattle.wsm_semantics.specs.Query.{Datum}
use Rattle.wsm_semantics.specs.Summaries.{IsLawful, Runs, with_folded, folded_of}
use Rattle.wsm_program.specs.Program.{Program}
use Rattle.wsm_machine.specs.Meaning.{updated, row, folded, query_of, plan_of}

pub plan_lawful : (p : Program) → IsLawful (plan_of p)
plan_lawful p = record {
  more = λ held key values. refl;
  commutative = joins_comm p.header.kinds;
  associative = joins_assoc p.header.kinds;
}

-- a record is folded first or last
folded_first : (p : Program) (d : Datum) (o : Option (List Value)) → with_folded (plan_of p) d o ≡ joined_to (joins p.header.kinds) (updated p d.key d.values) o
folded_first p d None = refl
folded_first p d (Some held) = joins_comm p.header.kinds held (updated p d.key d.values)

pub folded_is : (p : Program) (ds : List Datum) → folded_of (plan_of p) ds ≡ folded p ds
folded_is p [] = refl
folded_is p (d ∷ ds) = ap Some (ap (with_folded (plan_of p) d) (folded_is p ds) ∙ folded_first p d (folded p ds))

pub plan_runs : (p : Program) → Runs (plan_of p) (query_of p)
plan_runs p = record {
  selects = λ key values. refl;
  row = λ key ds. ap (option_and_then (row p key (length ds))) (folded_is p ds);
}

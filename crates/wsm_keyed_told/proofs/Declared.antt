-- Each row that parts write has a key among the names.
use Rattle.std.proofs.Common.{◌≡◌, ℕ, true, List, Some, None, IsTrue, refl, sym, subst, arith}
use Rattle.std.specs.List.{AllByRecursion}
use Rattle.wsm_record.specs.declared.words.Form.TheVariants.{Panes}
use Rattle.wsm_record.specs.Event.{Event}
use Rattle.wsm_semantics.specs.ByKey.{is_row_of}
use Rattle.wsm_semantics.specs.Query.{verdict_on}
use Rattle.wsm_semantics.specs.Relation.{turn_rows}
use Rattle.wsm_program.specs.Program.{Program, is_program}
use Rattle.wsm_rules.proofs.Lawful.{lawful}
use Rattle.wsm_machine.proofs.CountedSessions.{sessions_by_event}
use Rattle.wsm_key_parts.specs.Parts.{declared_keys}
use Rattle.wsm_key_parts.proofs.Alike.{refused_rows}
use Rattle.wsm_key_parts.proofs.Blanked.{rows_declared}
use Rattle.wsm_part_programs.specs.Names.{of_names}
use Rattle.wsm_part_programs.proofs.Law.{turns_ignored}

pub rows_named : (p : Program) → IsTrue (is_program p) → p.header.form ≡ Panes → (names : List (List ℕ)) (past : List Event) (e : Event)
    → AllByRecursion (λ r. is_row_of (declared_keys (of_names p names)) r ≡ true) (turn_rows (of_names p names) past e)
rows_named p whole form names past e =
    let q = of_names p names in
    let ok = (lawful p whole).shape in
    let timely = sessions_by_event p whole in
    let low = (lawful p whole).lateness.low in
    elim (verdict_on q past e) as (λ v. verdict_on q past e ≡ v → AllByRecursion (λ r. is_row_of (declared_keys q) r ≡ true) (turn_rows q past e)) [
      | None ↦ λ taken. rows_declared q ok timely low q.declared.keys q.clock.records (omega arith) (omega arith) form (turns_ignored p) past e taken
      | Some r ↦ λ refused. subst (AllByRecursion (λ r. is_row_of (declared_keys q) r ≡ true)) (sym (refused_rows q ok timely low form past e r refused)) tt
    ] refl

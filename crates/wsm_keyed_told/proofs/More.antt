-- More names: what fits a history over some names fits it over more, and the turn of an event is the same by them.
use Rattle.std.proofs.Common.{◌≡◌, ◌∙◌, ◌++◌, ◌∷◌, ◌≤◌, ℕ, true, List, [], length, map, Option, Some, None, IsTrue, refl, sym, ap, subst, arith}
use Rattle.std.specs.Prelude.{nat_lt}
use Rattle.std.specs.List.{AllByRecursion}
use Rattle.std.proofs.lemmas.Bool.{lt-ltb, ltb-true}
use Rattle.std.proofs.lemmas.List.{length-append}
use Rattle.wsm_record.specs.declared.words.Form.TheVariants.{Panes}
use Rattle.wsm_record.specs.Event.{Event, Record, Watermark}
use Rattle.wsm_admission.specs.declared.verdict.Refusal.{Refusal}
use Rattle.wsm_semantics.specs.Lines.{Out}
use Rattle.wsm_semantics.specs.Query.{verdict_on}
use Rattle.wsm_semantics.specs.Relation.{turn_rows}
use Rattle.wsm_semantics.specs.declared.out_row.OutRow.{OutRow}
use Rattle.wsm_program.specs.Program.{Program, is_program}
use Rattle.wsm_part_programs.specs.Names.{of_names}
use Rattle.wsm_part_engines.specs.State.{State}
use Rattle.wsm_part_engines.specs.Answers.{Feeds}
use Rattle.wsm_part_engines.specs.Fits as parts
use Rattle.wsm_keyed_told.specs.KeyedLines.{keyed_lines}
use Rattle.wsm_keyed_told.proofs.Declared.{rows_named}
use Rattle.wsm_keyed_told.proofs.KeyedLines.{rows_by_more}

more_less : (n few many : ℕ) → few ≤ many → nat_lt n few ≡ true → nat_lt n many ≡ true
more_less n few many h k = let below = ltb-true n few k in lt-ltb n many (omega (arith, below))

module _ (names more : List (List ℕ)) where
  named_more : (e : Event) → parts.is_named names e ≡ true → parts.is_named (names ++ more) e ≡ true
  named_more (Record None t vs) h = refl
  named_more (Record (Some n) t vs) h = let all = length-append names more in more_less n (length names) (length (names ++ more)) (omega (arith, all)) h
  named_more (Watermark s t) h = refl

  all_named_more : (past : List Event) → parts.AreNamed names past → parts.AreNamed (names ++ more) past
  all_named_more [] h = tt
  all_named_more (e ∷ past) h = (named_more e h.0, all_named_more past h.1)

  -- what fits a history over some names fits it over more
  pub fits_more : (p : Program) (s : State) (past : List Event) → parts.Fits p names s past → parts.Fits p (names ++ more) s past
  fits_more p s past fits = record { program = fits.program; named = all_named_more past fits.named; kept = fits.kept }

  -- the verdict and the rows of an event by more names
  pub record ByMore (p : Program) (past : List Event) (e : Event) (refusal : Option Refusal) (rows : List OutRow) : Type 0 where
    pub verdict : refusal ≡ verdict_on (of_names p (names ++ more)) past e
    pub lines : keyed_lines p.header.schema names (map Out rows) ≡ keyed_lines p.header.schema (names ++ more) (map Out (turn_rows (of_names p (names ++ more)) past e))

  pub by_more : (p : Program) → IsTrue (is_program p) → p.header.form ≡ Panes → (old new : State) (past : List Event) (e : Event) (refusal : Option Refusal) → Feeds old new e refusal
      → parts.Fits p names old past → parts.is_named names e ≡ true → ByMore p past e refusal new.rows
  by_more p whole form old new past e refusal feeds fits is =
      let few = feeds.rows p names past fits is in
      let many = feeds.rows p (names ++ more) past (fits_more p old past fits) (named_more e is) in
      record {
        verdict = feeds.verdict p (names ++ more) past (fits_more p old past fits) (named_more e is);
        lines = rows_by_more p names more new.rows (subst (AllByRecursion _) (sym few) (rows_named p whole form names past e))
            ∙ ap (λ (rows : List OutRow). keyed_lines p.header.schema (names ++ more) (map Out rows)) many;
      }

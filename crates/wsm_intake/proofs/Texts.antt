-- The bytes of lines, one line after the other, and what was taken of them.
use Rattle.std.proofs.Common.{◌≡◌, ◌∙◌, ◌++◌, ◌∷◌, ℕ, List, [], reverse, Option, sym, ap, subst}
use Rattle.std.specs.Io.KnownBytes.{Appends}
use Rattle.wsm_csv.specs.Device.{TakesPart}
use Rattle.wsm_csv.proofs.Written.{Appends-join, Appends-start, TakesPart-last}
use Rattle.wsm_log_text.specs.declared.totals.LogTotals.{LogTotals}
use Rattle.wsm_program.specs.Program.{Program}
use Rattle.wsm_machine.specs.Meaning.{query_of}
use Rattle.wsm_lines.specs.declared.source.Source.{Source}
use Rattle.wsm_turns.specs.declared.clocks.Clocks.{Clocks}
use Rattle.wsm_intake.specs.declared.intake.Intake.{Intake}
use Rattle.wsm_log_text.specs.LogText.{said, text, turns_text}
use Rattle.wsm_intake.specs.Turns.{Ends, Fits, Turned}
use Rattle.wsm_log_rows.proofs.Reading.{newest_first}
use Rattle.wsm_intake.specs.Run.{Stands, read_by}

-- ---- lines, the oldest first

pub Stands-start : (s : Source) (clocks : Option Clocks) (p : Program) (known : Option (List ℕ)) (t : Intake) → Fits s clocks p t [] → Stands s clocks p [] known known t
Stands-start s clocks p known t fits = record { fits = fits; text = Appends-start known }

module _ (s : Source) (clocks : Option Clocks) (p : Program) (read : List (List ℕ)) (line : List ℕ) (t t' : Intake) (turned : Turned s clocks p t' (reverse read) line) where
  -- the bytes with those of one turn more
  next_text : turns_text (query_of p) clocks (read_by s clocks (query_of p) read) ++ t'.told.lines.items ≡ turns_text (query_of p) clocks (read_by s clocks (query_of p) (read ++ line ∷ []))
  next_text =
      ap (λ (l : List ℕ). turns_text (query_of p) clocks (read_by s clocks (query_of p) read) ++ l) turned.text
      ∙ ap (λ (ls : List (List ℕ)). turns_text (query_of p) clocks (said s clocks p.header.schema ls)) (sym (newest_first read line))

  -- one turn more, whose bytes are taken
  pub Stands-next : (old now new : Option (List ℕ)) → Stands s clocks p read old now t → Appends now new t'.told.lines.items → Stands s clocks p (read ++ line ∷ []) old new t'
  Stands-next old now new stands taken = record {
    fits = subst (Fits s clocks p t') (sym (newest_first read line)) turned.fits;
    text = subst (Appends old new) next_text (Appends-join old now new (turns_text (query_of p) clocks (read_by s clocks (query_of p) read)) t'.told.lines.items stands.text taken);
  }

  -- one turn more, of whose bytes not all were taken
  pub TakesPart-next : (old now new : Option (List ℕ)) → Stands s clocks p read old now t → TakesPart now new t'.told.lines.items → TakesPart old new (turns_text (query_of p) clocks (read_by s clocks (query_of p) (read ++ line ∷ [])))
  TakesPart-next old now new stands part =
      subst (TakesPart old new) next_text (TakesPart-last old now new (turns_text (query_of p) clocks (read_by s clocks (query_of p) read)) t'.told.lines.items stands.text part)

-- the bytes with those behind all turns
pub last_text : (s : Source) (clocks : Option Clocks) (p : Program) (read : List (List ℕ)) (t : Intake) (end : LogTotals) → Ends s clocks p t (reverse read) end
    → turns_text (query_of p) clocks (read_by s clocks (query_of p) read) ++ t.told.lines.items ≡ text (query_of p) clocks (read_by s clocks (query_of p) read)
last_text s clocks p read t end ends = ap (λ (l : List ℕ). turns_text (query_of p) clocks (read_by s clocks (query_of p) read) ++ l) ends.text

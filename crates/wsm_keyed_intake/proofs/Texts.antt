-- The bytes of lines, one line after the other, and what was taken of them.
use Rattle.std.proofs.Common.{◌≡◌, ◌∙◌, ◌++◌, ◌∷◌, ℕ, List, [], reverse, Option, refl, sym, ap, subst, append_assoc}
use Rattle.std.specs.Io.KnownBytes.{Appends}
use Rattle.wsm_csv.specs.Device.{TakesPart}
use Rattle.wsm_csv.proofs.Written.{Appends-join, Appends-start, TakesPart-last}
use Rattle.wsm_log_rows.proofs.Reading.{newest_first}
use Rattle.wsm_log_text.specs.declared.totals.LogTotals.{LogTotals}
use Rattle.wsm_keyed_intake.specs.declared.intake.KeyedIntake.{KeyedIntake}
use Rattle.wsm_keyed_intake.specs.KeyedLog.{KeyedLog, log_text, log_turns, names_of, said_by, turns_text}
use Rattle.wsm_keyed_intake.specs.Turns.{Ends, Fits, Turned}
use Rattle.wsm_keyed_intake.specs.Run.{IsTextOf, Stands}

module _ (g : KeyedLog) where
  -- the bytes with those of one turn more, the newest first
  text_more : (before : List (List ℕ)) (line : List ℕ) (t' : KeyedIntake) (bytes : List ℕ) → Turned g t' before line → IsTextOf g before bytes → IsTextOf g (line ∷ before) (bytes ++ t'.told.lines.items)
  text_more before line t' bytes turned is later =
      let all = names_of g (later ++ line ∷ before) in
      let first : bytes ≡ turns_text g.program all g.clocks (said_by g all before) =
      is (later ++ line ∷ []) ∙ ap (λ (ls : List (List ℕ)). turns_text g.program (names_of g ls) g.clocks (said_by g (names_of g ls) before)) (append_assoc later (line ∷ []) before) in
      λ i. first i ++ (turned.by later).text i

  -- before the first line
  pub Stands-start : (known : Option (List ℕ)) (t : KeyedIntake) → Fits g t [] → Stands g [] known known t
  Stands-start known t fits = record { fits = fits; bytes = []; is = λ later. refl; text = Appends-start known }

  module _ (read : List (List ℕ)) (line : List ℕ) (t t' : KeyedIntake) (turned : Turned g t' (reverse read) line) where
    next_text : (bytes : List ℕ) → IsTextOf g (reverse read) bytes → IsTextOf g (reverse (read ++ line ∷ [])) (bytes ++ t'.told.lines.items)
    next_text bytes is = subst (λ (ls : List (List ℕ)). IsTextOf g ls (bytes ++ t'.told.lines.items)) (sym (newest_first read line)) (text_more (reverse read) line t' bytes turned is)

    -- one turn more, whose bytes are taken
    pub Stands-next : (old now new : Option (List ℕ)) → Stands g read old now t → Appends now new t'.told.lines.items → Stands g (read ++ line ∷ []) old new t'
    Stands-next old now new stands taken = record {
      fits = subst (Fits g t') (sym (newest_first read line)) (record { reads = turned.reads; by = λ later. (turned.by later).fits });
      bytes = stands.bytes ++ t'.told.lines.items;
      is = next_text stands.bytes stands.is;
      text = Appends-join old now new stands.bytes t'.told.lines.items stands.text taken;
    }

    -- one turn more, of whose bytes not all were taken
    pub TakesPart-next : (old now new : Option (List ℕ)) → Stands g read old now t → TakesPart now new t'.told.lines.items → TakesPart old new (log_turns g (reverse (read ++ line ∷ [])))
    TakesPart-next old now new stands part =
        subst (TakesPart old new) (next_text stands.bytes stands.is []) (TakesPart-last old now new stands.bytes t'.told.lines.items stands.text part)

  -- what was written is the bytes of the turns
  pub Stands-text : (read : List (List ℕ)) (old now : Option (List ℕ)) (t : KeyedIntake) → Stands g read old now t → Appends old now (log_turns g (reverse read))
  Stands-text read old now t stands = subst (Appends old now) (stands.is []) stands.text

  -- the bytes with those behind all turns
  pub last_text : (read : List (List ℕ)) (old now : Option (List ℕ)) (t t' : KeyedIntake) (end : LogTotals) → (stands : Stands g read old now t) → Ends g t' (reverse read) end
      → stands.bytes ++ t'.told.lines.items ≡ log_text g (reverse read)
  last_text read old now t t' end stands ends = λ i. stands.is [] i ++ ends.text i

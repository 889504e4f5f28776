-- What is written for lines by the names that came with them is what is written by all.
use Rattle.std.proofs.Common.{◌≡◌, ◌∙◌, ◌++◌, ◌∷◌, ℕ, Bool, true, false, List, [], Option, Some, None, drop, length, refl, sym, ap, subst, append_assoc}
use Rattle.std.specs.Prelude.{is_some}
use Rattle.std.proofs.lemmas.Bool.{true≢false}
use Rattle.std.proofs.lemmas.List.{drop_at}
use Rattle.wsm_turns.specs.declared.clocks.Clocks.{Clocks}
use Rattle.wsm_keyed_intake.specs.Saved.{Saved}
use Rattle.wsm_keyed_intake.specs.Turns.{AreNamed}
use Rattle.wsm_live_run.specs.KeyedSeen.{KeyedSavedBy}
use Rattle.wsm_live_run.specs.Known.{have_names}
use Rattle.wsm_keyed_intake.specs.KeyedLog.{KeyedLog, names_of, said_by, said_next, turn_text, turns_text}
use Rattle.wsm_numbered.specs.Numbered.{lines_in}
use Rattle.wsm_live.specs.Told.{told}
use Rattle.wsm_live_run.specs.Turns.{text_of}
use Rattle.wsm_live_run.specs.KeyedTurns.{AreAllTurns, keyed_turn_of}
use Rattle.wsm_live_run.proofs.TurnLemmas.{lines-text, text-append}

-- the bytes of the turn of a line behind others, by whichever names come with later lines
abbrev pub IsTurn : KeyedLog → List (List ℕ) → List ℕ → List ℕ → Type 0
IsTurn g before line bytes = (later : List (List ℕ)) → let all = names_of g (later ++ line ∷ before) in
    bytes ≡ turn_text g.program all g.clocks (said_by g all before) (said_next g all before line)

module _ (g : KeyedLog) (before : List (List ℕ)) (line bytes : List ℕ) (is : IsTurn g before line bytes) where
  pub turn_written : bytes ≡ keyed_turn_of g before line
  turn_written = is []

  -- one turn more
  pub next_turns : AreAllTurns g before → AreAllTurns g (line ∷ before)
  next_turns turns later =
      let all = names_of g (later ++ line ∷ before) in
      let past : text_of (told (keyed_turn_of g) before) ≡ turns_text g.program all g.clocks (said_by g all before) =
      turns (later ++ line ∷ [])
      ∙ ap (λ (ls : List (List ℕ)). turns_text g.program (names_of g ls) g.clocks (said_by g (names_of g ls) before)) (append_assoc later (line ∷ []) before) in
      text-append (told (keyed_turn_of g) before) (lines_in (keyed_turn_of g before line))
      ∙ (λ i. past i ++ (lines-text (keyed_turn_of g before line) ∙ sym turn_written ∙ is later) i)

-- what lines came to, as a text behind another one
pub behind_text : (g : KeyedLog) (before : List (List ℕ)) (old new : List ℕ) → AreAllTurns g before → ((t : List ℕ) × (new ≡ old ++ t) × Saved g before t) → KeyedSavedBy (drop (length old) new) g before
behind_text g before old new turns says =
    let text : List ℕ = says.0 in
    let rest : drop (length old) new ≡ text = ap (drop (length old)) says.1 ∙ drop_at old text (length old) refl in
    record { saved = subst (Saved g before) (sym rest) says.2; turns = turns }

-- clocks that lines name
named_some : (c : Clocks) (most : Option ℕ) → c.named ≡ most → have_names (Some c) ≡ true → AreNamed (Some c)
named_some c (Some most) is have = (most, is)
named_some c None is have = absurd (true≢false (sym have ∙ ap (λ (o : Option ℕ). is_some o) is))

pub are_named : (clocks : Option Clocks) → have_names clocks ≡ true → AreNamed clocks
are_named None have = tt
are_named (Some c) have = named_some c c.named refl have

pub names_had : (clocks : Option Clocks) → AreNamed clocks → have_names clocks ≡ true
names_had None named = refl
names_had (Some c) named = ap (λ (o : Option ℕ). is_some o) named.1

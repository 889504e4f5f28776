-- What an engine was told, and the bytes of that.
use Rattle.std.specs.Prelude.{◌≡◌, ℕ, ◌++◌, List, [], ◌∷◌, IfSome, is_some, refl}
use Rattle.std.proofs.Common.{◌∙◌, sym, ap, subst, append_assoc, append-nil}
use Rattle.wsm_record.specs.Event.{Event}
use Rattle.wsm_semantics.specs.Query.{Query}
use Rattle.wsm_program.specs.Program.{Program}
use Rattle.wsm_machine.specs.Meaning.{query_of}
use Rattle.wsm_engine.specs.Meaning as engine
use Rattle.wsm_turns.specs.Numbered.{Numbered}
use Rattle.wsm_turns.specs.Turns.{fed_with}
use Rattle.wsm_intake.specs.declared.told.Told.{Told}
use Rattle.wsm_log_text.specs.LogText.{event_text, events_text}
use Rattle.wsm_intake.specs.Staying.{Cuts}

-- the engine of the program, after a history of events, and what stays of them, where that is kept
pub record Serves (p : Program) (t : Told) (past : List Event) : Type 0 where
  pub program : t.engine.program ≡ p
  pub fits : engine.Fits t.engine past
  pub staying : IfSome t.staying (λ c. Cuts p c past)

-- some events more, with the bytes of their turns behind those that were there
pub record Tells (p : Program) (old new : Told) (past : List Event) (gs : List Numbered) : Type 0 where
  pub serves : Serves p new (fed_with past gs)
  pub text : new.lines.items ≡ old.lines.items ++ events_text (query_of p) past gs
  pub keeps : is_some new.staying ≡ is_some old.staying

-- the same, whatever came before
abbrev pub Took : Told → Told → List Numbered → Type 0
Took old new gs = (p : Program) (past : List Event) → Serves p old past → Tells p old new past gs

-- ---- one behind the other

fed_append : (past : List Event) (gs hs : List Numbered) → fed_with past (gs ++ hs) ≡ fed_with (fed_with past gs) hs
fed_append past [] hs = refl
fed_append past (g ∷ gs) hs = fed_append (g.event ∷ past) gs hs

texts_append : (q : Query) (past : List Event) (gs hs : List Numbered) → events_text q past (gs ++ hs) ≡ events_text q past gs ++ events_text q (fed_with past gs) hs
texts_append q past [] hs = refl
texts_append q past (g ∷ gs) hs =
    ap (λ (l : List ℕ). event_text q g.number past g.event ++ l) (texts_append q (g.event ∷ past) gs hs)
    ∙ sym (append_assoc (event_text q g.number past g.event) (events_text q (g.event ∷ past) gs) (events_text q (fed_with (g.event ∷ past) gs) hs))

-- none
pub Tells-none : (p : Program) (t : Told) (past : List Event) → Serves p t past → Tells p t t past []
Tells-none p t past serves = record { serves = record { program = serves.program; fits = serves.fits; staying = serves.staying }; text = sym (append-nil t.lines.items); keeps = refl }

-- some, and further ones
pub Tells-join : (p : Program) (a b c : Told) (past : List Event) (gs hs : List Numbered) → Tells p a b past gs → Tells p b c (fed_with past gs) hs → Tells p a c past (gs ++ hs)
Tells-join p a b c past gs hs first second = record {
  serves = subst (Serves p c) (sym (fed_append past gs hs)) second.serves;
  text = second.text
      ∙ ap (λ (l : List ℕ). l ++ events_text (query_of p) (fed_with past gs) hs) first.text
      ∙ append_assoc a.lines.items (events_text (query_of p) past gs) (events_text (query_of p) (fed_with past gs) hs)
      ∙ ap (λ (l : List ℕ). a.lines.items ++ l) (sym (texts_append (query_of p) past gs hs));
  keeps = second.keeps ∙ first.keeps;
}

pub Took-none : (t : Told) → Took t t []
Took-none t p past serves = Tells-none p t past serves

pub Took-join : (a b c : Told) (gs hs : List Numbered) → Took a b gs → Took b c hs → Took a c (gs ++ hs)
Took-join a b c gs hs first second p past serves =
    let told = first p past serves in
    Tells-join p a b c past gs hs told (second p (fed_with past gs) (record { program = told.serves.program; fits = told.serves.fits; staying = told.serves.staying }))

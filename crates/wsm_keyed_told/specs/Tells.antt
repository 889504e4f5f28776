-- What a front and its engines were told, by any number of names, and the bytes of that.
use Rattle.std.specs.Prelude.{◌≡◌, ℕ, ◌++◌, List, [], ◌∷◌, IfSome, IsTrue, refl}
use Rattle.std.proofs.Common.{◌∙◌, sym, ap, subst, append_assoc, append-nil}
use Rattle.wsm_record.specs.declared.words.Form.TheVariants.{Panes}
use Rattle.wsm_record.specs.Event.{Event}
use Rattle.wsm_program.specs.Program.{Program, is_program}
use Rattle.wsm_part_engines.specs.Fits as parts
use Rattle.wsm_turns.specs.Numbered.{Numbered}
use Rattle.wsm_turns.specs.Turns.{fed_with}
use Rattle.wsm_keyed_told.specs.declared.told.KeyedTold.{KeyedTold}
use Rattle.wsm_keyed_told.specs.KeyedLines.{event_text, events_text}
use Rattle.wsm_keyed_told.specs.Staying.{CutsAll}

-- the engines of the program, after a history of events whose keys have names, and what stays of them, where that is kept
pub record Serves (p : Program) (t : KeyedTold) (past : List Event) : Type 0 where
  pub lawful : IsTrue (is_program p)
  pub panes : p.header.form ≡ Panes
  pub parts : parts.Fits p t.names t.parts past
  pub staying : IfSome t.staying (λ c. CutsAll p c past)

-- some events more, with the bytes of their turns behind those that were there, by the names so far and whichever come
pub record Tells (p : Program) (old new : KeyedTold) (past : List Event) (gs : List Numbered) : Type 0 where
  pub serves : Serves p new (fed_with past gs)
  pub names : new.names ≡ old.names
  pub text : (more : List (List ℕ)) → new.lines.items ≡ old.lines.items ++ events_text p (old.names ++ more) past gs

-- the same, whatever came before
abbrev pub Took : KeyedTold → KeyedTold → List Numbered → Type 0
Took old new gs = (p : Program) (past : List Event) → Serves p old past → Tells p old new past gs

-- ---- one behind the other

fed_append : (past : List Event) (gs hs : List Numbered) → fed_with past (gs ++ hs) ≡ fed_with (fed_with past gs) hs
fed_append past [] hs = refl
fed_append past (g ∷ gs) hs = fed_append (g.event ∷ past) gs hs

texts_append : (p : Program) (names : List (List ℕ)) (past : List Event) (gs hs : List Numbered)
    → events_text p names past (gs ++ hs) ≡ events_text p names past gs ++ events_text p names (fed_with past gs) hs
texts_append p names past [] hs = refl
texts_append p names past (g ∷ gs) hs =
    ap (λ (l : List ℕ). event_text p names g.number past g.event ++ l) (texts_append p names (g.event ∷ past) gs hs)
    ∙ sym (append_assoc (event_text p names g.number past g.event) (events_text p names (g.event ∷ past) gs) (events_text p names (fed_with (g.event ∷ past) gs) hs))

-- none
pub Tells-none : (p : Program) (t : KeyedTold) (past : List Event) → Serves p t past → Tells p t t past []
Tells-none p t past serves = record {
  serves = record { lawful = serves.lawful; panes = serves.panes; parts = serves.parts; staying = serves.staying };
  names = refl;
  text = λ more. sym (append-nil t.lines.items);
}

-- some, and further ones
pub Tells-join : (p : Program) (a b c : KeyedTold) (past : List Event) (gs hs : List Numbered) → Tells p a b past gs → Tells p b c (fed_with past gs) hs
    → Tells p a c past (gs ++ hs)
Tells-join p a b c past gs hs first second = record {
  serves = subst (Serves p c) (sym (fed_append past gs hs)) second.serves;
  names = second.names ∙ first.names;
  text = λ more.
      let all = a.names ++ more in
      second.text more
      ∙ (λ i. first.text more i ++ events_text p (first.names i ++ more) (fed_with past gs) hs)
      ∙ append_assoc a.lines.items (events_text p all past gs) (events_text p all (fed_with past gs) hs)
      ∙ ap (λ (l : List ℕ). a.lines.items ++ l) (sym (texts_append p all past gs hs));
}

pub Took-none : (t : KeyedTold) → Took t t []
Took-none t p past serves = Tells-none p t past serves

pub Took-join : (a b c : KeyedTold) (gs hs : List Numbered) → Took a b gs → Took b c hs → Took a c (gs ++ hs)
Took-join a b c gs hs first second p past serves =
    let told = first p past serves in
    let there = told.serves in
    Tells-join p a b c past gs hs told (second p (fed_with past gs) (record { lawful = there.lawful; panes = there.panes; parts = there.parts; staying = there.staying }))

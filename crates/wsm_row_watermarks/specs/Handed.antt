-- What was handed on of events, and the text of that.
use Rattle.std.specs.Prelude.{◌≡◌, ℕ, ℤ, ◌++◌, List, [], ◌∷◌, refl}
use Rattle.std.proofs.Common.{◌∙◌, sym, ap, subst, append_assoc, append-nil}
use Rattle.wsm_record.specs.Event.{Event}
use Rattle.wsm_record.specs.Schema.{Declared}
use Rattle.wsm_admission.specs.Admission as admission
use Rattle.wsm_admission.specs.Admission.{State}
use Rattle.wsm_admission.specs.Clock.{source_mark}
use Rattle.wsm_turns.specs.Numbered.{Numbered}
use Rattle.wsm_turns.specs.Turns.{Setting, fed_with}
use Rattle.wsm_row_watermarks.specs.declared.handed.Handed.{Handed}
use Rattle.wsm_row_watermarks.specs.Latest.{latest_time}
use Rattle.wsm_row_watermarks.specs.Turns.{event_text, events_text}

-- what an admission keeps of a history is its watermarks, and how many records were late
pub record Marks (w : Setting) (a : State) (latest : ℤ) (past : List Event) : Type 0 where
  pub clock : a.clock ≡ w.clock
  pub fits : admission.Fits w.shape w.declared a past
  pub first : latest ≡ source_mark w.clock 0 past

-- by a query's setting, after a history of events
pub record Serves (w : Setting) (t : Handed) (past : List Event) : Type 0 where
  pub declared : t.schema ≡ w.declared
  pub shape : t.shape ≡ w.shape
  pub marks : Marks w t.admission t.first past
  pub latest : t.latest ≡ latest_time w.clock w.shape w.declared past

-- nothing has changed but what is kept of watermarks
pub record HearsOnly (old new : Handed) : Type 0 where
  pub schema : new.schema ≡ old.schema
  pub number : new.number ≡ old.number
  pub line : new.line ≡ old.line
  pub text : new.text ≡ old.text

-- some events more, with their rows behind those that were there
pub record Tells (w : Setting) (old new : Handed) (past : List Event) (gs : List Numbered) : Type 0 where
  pub serves : Serves w new (fed_with past gs)
  pub text : new.text.items ≡ old.text.items ++ events_text w.declared old.number old.line.items gs
  pub number : new.number ≡ old.number
  pub line : new.line.items ≡ old.line.items

-- the same, whatever came before
abbrev pub Took : Handed → Handed → List Numbered → Type 0
Took old new gs = (w : Setting) (past : List Event) → Serves w old past → Tells w old new past gs

-- ---- one behind the other

pub fed_append : (past : List Event) (gs hs : List Numbered) → fed_with past (gs ++ hs) ≡ fed_with (fed_with past gs) hs
fed_append past [] hs = refl
fed_append past (g ∷ gs) hs = fed_append (g.event ∷ past) gs hs

pub texts_append : (d : Declared) (number : ℕ) (line : List ℕ) (gs hs : List Numbered) → events_text d number line (gs ++ hs) ≡ events_text d number line gs ++ events_text d number line hs
texts_append d number line [] hs = refl
texts_append d number line (g ∷ gs) hs =
    ap (λ (l : List ℕ). event_text d number line g.number g.event ++ l) (texts_append d number line gs hs)
    ∙ sym (append_assoc (event_text d number line g.number g.event) (events_text d number line gs) (events_text d number line hs))

pub Took-none : (t : Handed) → Took t t []
Took-none t w past serves = record {
  serves = record { declared = serves.declared; shape = serves.shape; marks = serves.marks; latest = serves.latest };
  text = sym (append-nil t.text.items);
  number = refl;
  line = refl;
}

pub Tells-join : (w : Setting) (a b c : Handed) (past : List Event) (gs hs : List Numbered) → Tells w a b past gs → Tells w b c (fed_with past gs) hs → Tells w a c past (gs ++ hs)
Tells-join w a b c past gs hs first second = record {
  serves = subst (Serves w c) (sym (fed_append past gs hs)) second.serves;
  text = second.text
      ∙ (λ i. first.text i ++ events_text w.declared (first.number i) (first.line i) hs)
      ∙ append_assoc a.text.items (events_text w.declared a.number a.line.items gs) (events_text w.declared a.number a.line.items hs)
      ∙ ap (λ (l : List ℕ). a.text.items ++ l) (sym (texts_append w.declared a.number a.line.items gs hs));
  number = second.number ∙ first.number;
  line = second.line ∙ first.line;
}

pub Took-join : (a b c : Handed) (gs hs : List Numbered) → Took a b gs → Took b c hs → Took a c (gs ++ hs)
Took-join a b c gs hs first second w past serves =
    let told = first w past serves in
    Tells-join w a b c past gs hs told (second w (fed_with past gs) (record { declared = told.serves.declared; shape = told.serves.shape; marks = told.serves.marks; latest = told.serves.latest }))

-- The events that a query needs: their list, and an engine that is fed them.
use Rattle.std.proofs.Common.{◌≡◌, ◌∙◌, ◌<◌, ◌^◌, ℕ, List, [], ◌∷◌, ◌++◌, length, map, reverse, Option, Some, Ok, IfSome, refl, sym, ap, subst, append_assoc, append-nil}
use Rattle.std.proofs.lemmas.List.{length-map, length-reverse, reverse-append, reverse-reverse}
use Rattle.wsm_record.specs.Event.{Event}
use Rattle.wsm_semantics.specs.Query.{Query}
use Rattle.wsm_semantics.specs.Lines.{Row}
use Rattle.wsm_semantics.specs.Needed.{needed}
use Rattle.wsm_keep.specs.Holds.{row_with, rows_with, text_of}
use Rattle.wsm_keep.specs.Items.{joined}
use Rattle.wsm_keep.specs.Keeper.{AreAdded}
use Rattle.wsm_keep.specs.Staying.{events_in, staying}
use Rattle.wsm_keep.proofs.StayingEvents.{staying_events}
use Rattle.wsm_saved.specs.Numbers.{number_text}
use Rattle.wsm_saved.specs.Events.{EventFits, event_text}
use Rattle.wsm_saved.specs.Lists.{EachFits, texts}
use Rattle.wsm_log_text.specs.Needed.{IsListed, fed_all, needed_in_order}

pub some_in : {A : Type 0} (P : A → Type 0) (o : Option A) (x : A) → o ≡ Some x → IfSome o P → P x
some_in {A = A} P o x is h = subst (λ (o : Option A). IfSome o P) is h

-- ---- their texts

module _ {A : Type 0} (text : A → List ℕ) where
  texts-append : (xs ys : List A) → texts text (xs ++ ys) ≡ texts text xs ++ texts text ys
  texts-append [] ys = refl
  texts-append (x ∷ xs) ys = ap (λ (t : List ℕ). text x ++ t) (texts-append xs ys) ∙ sym (append_assoc (text x) (texts text xs) (texts text ys))

pub reverse-cons : {A : Type 0} (x : A) (xs : List A) → reverse (x ∷ xs) ≡ reverse xs ++ x ∷ []
reverse-cons x xs = reverse-append (x ∷ []) xs

joined_texts : (text : Event → List ℕ) (es : List Event) → joined (map text_of (rows_with text es)) ≡ texts text (reverse es)
unfolding joined
joined_texts text [] = refl
joined_texts text (e ∷ es) =
    ap (λ (t : List ℕ). t ++ text e) (joined_texts text es)
    ∙ ap (λ (t : List ℕ). texts text (reverse es) ++ t) (sym (append-nil (text e)))
    ∙ sym (ap (texts text) (reverse-cons e es) ∙ texts-append text (reverse es) (e ∷ []))

-- ---- what holds of each holds of those that are needed

module _ (P : Event → Type 0) where
  -- an event, with what holds of it
  abbrev Known : Type 0
  Known = (e : Event) × P e

  abbrev said : Known → Row
  said k = Ok k.0

  abbrev all_known : (past : List Event) → EachFits P past → List Known
  all_known [] h = []
  all_known (e ∷ past) h = (e, h.0) ∷ all_known past h.1

  known_are : (past : List Event) (h : EachFits P past) → events_in said (all_known past h) ≡ past
  known_are [] h = refl
  known_are (e ∷ past) h = ap (λ (es : List Event). e ∷ es) (known_are past h.1)

  each_known : (ks : List Known) → EachFits P (events_in said ks)
  each_known [] = tt
  each_known (k ∷ ks) = (k.1, each_known ks)

  pub each_needed : (q : Query) (past : List Event) → EachFits P past → EachFits P (needed q past)
  each_needed q past h =
      subst (λ (es : List Event). EachFits P (needed q es)) (known_are past h)
      (subst (EachFits P) (staying_events said q (all_known past h)) (each_known (staying said q (all_known past h))))

  each_append : (xs ys : List Event) → EachFits P xs → EachFits P ys → EachFits P (xs ++ ys)
  each_append [] ys h k = k
  each_append (x ∷ xs) ys h k = (h.0, each_append xs ys h.1 k)

  pub each_reverse : (es : List Event) → EachFits P es → EachFits P (reverse es)
  each_reverse [] h = tt
  each_reverse (e ∷ es) h = subst (EachFits P) (sym (reverse-cons e es)) (each_append (reverse es) (e ∷ []) (each_reverse es h.1) (h.0, tt))

-- ---- their list

pub is_listed : (q : Query) (past : List Event) → EachFits EventFits past → (old mid new more : List ℕ) (count : ℕ) → AreAdded [] more (rows_with event_text (needed q past)) count → count < 2 ^ 64 →
    mid ≡ old ++ number_text count → new ≡ mid ++ more → IsListed q past old new
is_listed q past each old mid new more count added few first second =
    let es : List Event = needed q past in
    let many : count ≡ length (reverse es) = added.many ∙ length-map es (row_with event_text) ∙ sym (length-reverse es) in
    record {
      text =
          second
          ∙ (λ i. first i ++ (added.texts ∙ joined_texts event_text es) i)
          ∙ append_assoc old (number_text count) (texts event_text (reverse es))
          ∙ ap (λ (n : ℕ). old ++ (number_text n ++ texts event_text (reverse es))) many;
      fits = (subst (λ (n : ℕ). n < 2 ^ 64) many few, each_reverse EventFits es (each_needed EventFits q past each));
    }

-- ---- an engine is fed them

fed_reversed : (past events : List Event) → fed_all past events ≡ reverse events ++ past
fed_reversed past [] = refl
fed_reversed past (e ∷ es) =
    fed_reversed (e ∷ past) es
    ∙ sym (append_assoc (reverse es) (e ∷ []) past)
    ∙ ap (λ (l : List Event). l ++ past) (sym (reverse-cons e es))

-- the needed ones, as they were saved
pub needed_fed : (q : Query) (fed : List Event) → fed_all [] (needed_in_order q fed) ≡ needed q fed
needed_fed q fed = fed_reversed [] (needed_in_order q fed) ∙ append-nil (reverse (needed_in_order q fed)) ∙ reverse-reverse (needed q fed)

-- What a walk over an accepted section finds, from one place to the next.
use Rattle.std.proofs.Common.{◌≡◌, ℕ, zero, suc, ◌+◌, ◌<◌, ◌≤◌, Bool, true, false, List, [], ◌∷◌, ◌++◌, length, map, take, replicate, get_or, set, ℤ, Option, Some, None, Ok, refl, sym, ap, ◌∙◌, arith}
use Rattle.std.proofs.lemmas.Bool.{true≢false}
use Rattle.std.proofs.lemmas.List.{length-replicate, reverse-append, take_all}
use Rattle.std.proofs.lemmas.Option.{slice_get-get_or}
use Rattle.std.specs.Prelude.{slice_index_or}
use Rattle.std.specs.List.{cons_option, filter_map}
use Rattle.wsm_interval.specs.declared.Interval.{Interval}
use Rattle.wsm_record.specs.declared.Kind.{Kind}
use Rattle.wsm_program.specs.declared.Instr.{Instr}
use Rattle.wsm_program.specs.declared.SectionId.{SectionId}
use Rattle.wsm_program.specs.declared.SectionId.TheVariants.{Where, Update, Fire}
use Rattle.wsm_program.specs.declared.program.Costs.{Costs}
use Rattle.wsm_program.specs.Program.{Program, section}
use Rattle.wsm_rules.specs.declared.rejection.Rule.{Rule}
use Rattle.wsm_rules.specs.declared.known.Known.{Known}
use Rattle.wsm_rules.specs.Labels.{State, Ranges, Label, Unreached, Reached, Visit, hull_all, label_with, visit, visits}
use Rattle.wsm_rules.specs.Rules.{Setting, setting, entry, fault_of, section_fault, fault_in, judge, known_fields, accumulated_each, folded_from, hull_options, ranges_of, update_visits, value_folded}
use Rattle.wsm_rules.proofs.AcceptedPlaces.{accepted}
use Rattle.wsm_rules.proofs.FoldedRanges.{length-folded_from}
use Rattle.wsm_verifier.specs.declared.places.Place.{Place}
use Rattle.wsm_verifier.specs.Places.{joined_with, number_pushed, place_of, places_in, places_of, ranges_in, returned, returned_at, returned_with, visits_in}
use Rattle.wsm_verifier.specs.Turning.{label_in, turned, unfolded}
use Rattle.wsm_verifier.proofs.Judgements.{fault_seen, visits_seen}
use Rattle.wsm_verifier.proofs.PassKept.{Stands, get_any, kept_for, stands_refused, stands_turned, visits_more}

none≢some : {A X : Type 0} {a : A} → Some a ≡ None → X
none≢some {A} {X} {a} e = let tag : Option A → Bool = λ o. elim o [ None ↦ true | Some x ↦ false ] in absurd (true≢false (sym (ap tag e)))

-- ---- one place more

places_next : (r : Ranges) (v : Visit) (vs : List Visit) → places_of r (v ∷ vs) ≡ places_of r vs ++ place_of r v ∷ []
places_next r v vs = reverse-append (place_of r v ∷ []) (map (place_of r) vs)

returned_next : (v : Visit) (vs : List Visit) → returned_with (v ∷ vs) ≡ joined_with (returned_at v) (returned_with vs)
returned_next v vs =
    elim (returned_at v) as (λ o. hull_all (cons_option o (filter_map returned_at vs)) ≡ joined_with o (returned_with vs)) [
      | None ↦ refl
      | Some s ↦ refl
    ]

-- ---- what the walk keeps when place p comes next

pub record Walked (c : Setting) (e : State) (is : List Instr) (p : ℕ) (labels : List Label) (n : ℕ) (folded : List (Option Interval)) (places : List Place) (end : Label) : Type 0 where
  pub stands : Stands c e is p labels n folded
  pub found : places ≡ places_of c.ranges (visits e c.ranges (take p is))
  pub ended : end ≡ returned_with (visits e c.ranges (take p is))

-- a section without a fault has none at any place
pub faultless : (c : Setting) (e : State) (is : List Instr) (p : ℕ) (d : Instr) (labels seen : List Label) (n : ℕ) (folded : List (Option Interval)) →
    section_fault c (visits e c.ranges is) ≡ None → Stands c e is p labels n folded → p < length is → seen ≡ labels → fault_of c p (get_or is p d) (label_in seen p) ≡ None
faultless c e is p d labels seen n folded none s within same =
    elim (fault_of c p (get_or is p d) (label_in seen p)) as (λ o. fault_of c p (get_or is p d) (label_in seen p) ≡ o → o ≡ None) [
      | None ↦ λ h. refl
      | Some x ↦ λ h. none≢some (sym (stands_refused c e is p d labels seen n folded x s within same h) ∙ none)
    ] refl

-- the visits of one place more, by what is kept for it
visits_on : (c : Setting) (e : State) (is : List Instr) (p : ℕ) (d : Instr) (labels : List Label) (n : ℕ) (folded : List (Option Interval)) → Stands c e is p labels n folded → p < length is →
    visits e c.ranges (take (suc p) is) ≡ visit c.ranges p (get_or is p d) (label_in labels p) ∷ visits e c.ranges (take p is)
visits_on c e is p d labels n folded s within =
    let self : p ≤ p = omega arith in
    visits_more e c.ranges is p (get_or is p d) (label_in labels p) (slice_get-get_or is p d within) (s.kept p self within)

-- the places found, with one more
pub found_next : (c : Setting) (e : State) (is : List Instr) (p next : ℕ) (d : Instr) (labels : List Label) (n : ℕ) (folded : List (Option Interval)) (places more : List Place) (place : Place) →
    Stands c e is p labels n folded → next ≡ p + 1 → p < length is → places ≡ places_of c.ranges (visits e c.ranges (take p is)) →
    place ≡ record { instr = get_or is p d; number = number_pushed c.ranges (get_or is p d) (label_in labels p) } → more ≡ places ++ place ∷ [] →
    more ≡ places_of c.ranges (visits e c.ranges (take next is))
found_next c e is p next d labels n folded places more place s after within found is_place pushed =
    let then : suc p ≡ next = omega arith in
    pushed ∙ ap (λ (x : Place). places ++ x ∷ []) is_place ∙ ap (λ (xs : List Place). xs ++ place_of c.ranges (visit c.ranges p (get_or is p d) (label_in labels p)) ∷ []) found
    ∙ sym (places_next c.ranges (visit c.ranges p (get_or is p d) (label_in labels p)) (visits e c.ranges (take p is)))
    ∙ ap (places_of c.ranges) (sym (visits_on c e is p d labels n folded s within))
    ∙ ap (λ (m : ℕ). places_of c.ranges (visits e c.ranges (take m is))) then

-- what the section ends with, with one place more
pub ended_next : (c : Setting) (e : State) (is : List Instr) (p next : ℕ) (d : Instr) (labels : List Label) (n : ℕ) (folded : List (Option Interval)) (end more : Label) →
    Stands c e is p labels n folded → next ≡ p + 1 → p < length is → end ≡ returned_with (visits e c.ranges (take p is)) →
    more ≡ joined_with (returned (get_or is p d) (label_in labels p)) end →
    more ≡ returned_with (visits e c.ranges (take next is))
ended_next c e is p next d labels n folded end more s after within ended joined =
    let then : suc p ≡ next = omega arith in
    joined ∙ ap (joined_with (returned (get_or is p d) (label_in labels p))) ended
    ∙ sym (returned_next (visit c.ranges p (get_or is p d) (label_in labels p)) (visits e c.ranges (take p is)))
    ∙ ap returned_with (sym (visits_on c e is p d labels n folded s within))
    ∙ ap (λ (m : ℕ). returned_with (visits e c.ranges (take m is))) then

label_is : (ls : List Label) (t : ℕ) (l : Label) → t < length ls → l ≡ get_or ls t l → l ≡ label_in ls t
label_is ls t l h e = e ∙ get_any ls t l Unreached h

-- a turn of the walk, by what the code has of it
pub walked_turned : (c : Setting) (e : State) (is : List Instr) (p next : ℕ) (d : Instr) (labels seen new kept : List Label) (n : ℕ) (folded noted widened held : List (Option Interval))
    (places more : List Place) (end ending l k : Label) (place : Place) (rule : Option Rule) →
    Walked c e is p labels n folded places end → section_fault c (visits e c.ranges is) ≡ None → next ≡ p + 1 → p < length is →
    l ≡ get_or labels p l → place ≡ record { instr = get_or is p d; number = number_pushed c.ranges (get_or is p d) l } → more ≡ places ++ place ∷ [] →
    k ≡ get_or labels p k → ending ≡ joined_with (returned (get_or is p d) k) end →
    seen ≡ labels → noted ≡ folded → fault_of c p (get_or is p d) (label_in seen p) ≡ rule → (rule ≡ None → new ≡ turned c.ranges p (get_or is p d) seen) → length widened ≡ length noted →
    (rule ≡ None → (a : ℕ) → a < length noted → slice_index_or widened a None ≡ hull_options (value_folded a (get_or is p d) (label_in seen p)) (slice_index_or noted a None)) →
    kept ≡ new → held ≡ widened → Walked c e is next kept n held more ending
walked_turned c e is p next d labels seen new kept n folded noted widened held places more end ending l k place rule w whole after within at_l is_place pushed at_k joined same_labels same_folded fault so same values is_new is_widened =
    let s : Stands c e is p labels n folded = w.stands in
    let inside : p < length labels = omega (arith, s.long, within) in
    let none : fault_of c p (get_or is p d) (label_in seen p) ≡ None = faultless c e is p d labels seen n folded whole s within same_labels in
    let no_rule : rule ≡ None = sym fault ∙ none in
    record {
      stands = stands_turned c e is p next d labels seen new kept n folded noted widened held s after within same_labels same_folded none (so no_rule) same (values no_rule) is_new is_widened;
      found = found_next c e is p next d labels n folded places more place s after within w.found
          (is_place ∙ ap (λ (x : Label). record { instr = get_or is p d; number = number_pushed c.ranges (get_or is p d) x }) (label_is labels p l inside at_l)) pushed;
      ended = ended_next c e is p next d labels n folded end ending s after within w.ended
          (joined ∙ ap (λ (x : Label). joined_with (returned (get_or is p d) x) end) (label_is labels p k inside at_k));
    }

-- ---- where the walk begins

get-replicate : {X : Type 0} (n q : ℕ) (x : X) → get_or (replicate n x) q x ≡ x
get-replicate zero q x = refl
get-replicate (suc n) zero x = refl
get-replicate (suc n) (suc q) x = get-replicate n q x

kept_first : (e : State) (m q : ℕ) → label_in (Reached e ∷ replicate m Unreached) q ≡ kept_for e q []
kept_first e m zero = refl
kept_first e m (suc q) = get-replicate m q Unreached

walked_first : (c : Setting) (e : State) (i : Instr) (is : List Instr) (n : ℕ) → Walked c e (i ∷ is) 0 (Reached e ∷ replicate (length is) Unreached) n (replicate n None) [] Unreached
walked_first c e i is n = record {
  stands = record {
    some = omega arith;
    long = ap suc (length-replicate (length is) Unreached);
    many = length-replicate n None;
    faultless = refl;
    kept = λ q behind within. kept_first e (length is) q;
    values = λ a few. get-replicate n a None;
  };
  found = refl;
  ended = refl;
}

pub walked_begun : (c : Setting) (e s : State) (is : List Instr) (labels : List Label) (l first end : Label) (n : ℕ) (folded : List (Option Interval)) (places : List Place) →
    section_fault c (visits e c.ranges is) ≡ None → labels ≡ replicate (length is) Unreached → l ≡ get_or labels 0 l → s ≡ e → first ≡ label_with s l → folded ≡ replicate n None → places ≡ [] → end ≡ Unreached →
    Walked c e is 0 (set labels 0 first) n folded places end
walked_begun c e s [] labels l first end n folded places whole all at state joined none empty not = none≢some whole
walked_begun c e s (i ∷ is) labels l first end n folded places whole all at state joined none empty not =
    let fresh : l ≡ Unreached = at ∙ ap (λ (ls : List Label). get_or ls 0 l) all in
    let begun : first ≡ Reached e = joined ∙ ap (label_with s) fresh ∙ ap Reached state in
    let kept : set labels 0 first ≡ Reached e ∷ replicate (length is) Unreached = ap (λ (ls : List Label). set ls 0 first) all ∙ ap (λ (f : Label). f ∷ replicate (length is) Unreached) begun in
    rw (kept, none, empty, not) (walked_first c e i is n)

-- ---- what it comes to

pub found_all : (c : Setting) (e : State) (is : List Instr) (p : ℕ) (places : List Place) → length is ≤ p → places ≡ places_of c.ranges (visits e c.ranges (take p is)) →
    places ≡ places_of c.ranges (visits e c.ranges is)
found_all c e is p places end found = found ∙ ap (λ (js : List Instr). places_of c.ranges (visits e c.ranges js)) (take_all p is end)

pub ended_all : (c : Setting) (e : State) (is : List Instr) (p : ℕ) (label : Label) → length is ≤ p → label ≡ returned_with (visits e c.ranges (take p is)) →
    label ≡ returned_with (visits e c.ranges is)
ended_all c e is p label end ended = ended ∙ ap (λ (js : List Instr). returned_with (visits e c.ranges js)) (take_all p is end)

-- ---- of an accepted program

pub accepted_in : (p : Program) (n : Costs) → judge p ≡ Ok n → (id : SectionId) → fault_in p id (ranges_in p id) ≡ None
accepted_in p n h Where = (accepted p n h).selection
accepted_in p n h Update = (accepted p n h).update
accepted_in p n h Fire = (accepted p n h).fire

-- a section without a fault has an instruction
pub some_code : (c : Setting) (e : State) (r : Ranges) (is : List Instr) → section_fault c (visits e r is) ≡ None → 0 < length is
some_code c e r [] h = none≢some h
some_code c e r (i ∷ is) h = omega arith

length-each : (records : ℤ) (ks : List Kind) (xs : List (Option Interval)) → length xs ≡ length ks → length (accumulated_each records ks xs) ≡ length ks
length-each records [] xs h = refl
length-each records (k ∷ ks) [] h = absurd (omega (arith, h))
length-each records (k ∷ ks) (x ∷ xs) h = ap suc (length-each records ks xs (omega (arith, h)))

-- a range for each accumulator
pub length-ranges_of : (p : Program) → length (ranges_of p) ≡ length p.header.kinds
length-ranges_of p = length-each p.header.clock.records p.header.kinds (folded_from 0 p.header.kinds (update_visits p)) (length-folded_from 0 p.header.kinds (update_visits p))

-- what the code has of a section, as the definitions have it
pub faultless_in : (p q : Program) (id : SectionId) (n : Costs) (c : Setting) (r : Ranges) (is : List Instr) (m : ℕ) (fields : List Known) → p ≡ q → judge q ≡ Ok n → c ≡ setting p id r → r ≡ ranges_in q id →
    is ≡ section p id → m ≡ length p.header.kinds → fields ≡ known_fields 0 p.header.schema.fields → section_fault c (visits (unfolded m fields) c.ranges is) ≡ None
faultless_in p q id n c r is m fields same judged e ranges h l f =
    fault_seen p id r c is m fields e h l f ∙ ap (λ (x : Program). fault_in x id r) same ∙ ap (fault_in q id) ranges ∙ accepted_in q n judged id

visits_are : (p q : Program) (id : SectionId) (c : Setting) (r : Ranges) (is : List Instr) (m : ℕ) (fields : List Known) → p ≡ q → c ≡ setting p id r → r ≡ ranges_in q id →
    is ≡ section p id → m ≡ length p.header.kinds → fields ≡ known_fields 0 p.header.schema.fields → visits (unfolded m fields) c.ranges is ≡ visits_in q id
visits_are p q id c r is m fields same e ranges h l f =
    visits_seen p id r c is m fields e h l f ∙ ap (λ (x : Program). visits (entry x) r (section x id)) same ∙ ap (λ (s : Ranges). visits (entry q) s (section q id)) ranges

pub places_are : (p q : Program) (id : SectionId) (c : Setting) (r : Ranges) (is : List Instr) (m : ℕ) (fields : List Known) → p ≡ q → c ≡ setting p id r → r ≡ ranges_in q id →
    is ≡ section p id → m ≡ length p.header.kinds → fields ≡ known_fields 0 p.header.schema.fields → places_of c.ranges (visits (unfolded m fields) c.ranges is) ≡ places_in q id
places_are p q id c r is m fields same e ranges h l f =
    ap (places_of c.ranges) (visits_are p q id c r is m fields same e ranges h l f) ∙ ap (λ (s : Ranges). places_of s (visits_in q id)) (ap (λ (s : Setting). s.ranges) e ∙ ranges)

pub end_is : (p q : Program) (id : SectionId) (c : Setting) (r : Ranges) (is : List Instr) (m : ℕ) (fields : List Known) → p ≡ q → c ≡ setting p id r → r ≡ ranges_in q id →
    is ≡ section p id → m ≡ length p.header.kinds → fields ≡ known_fields 0 p.header.schema.fields → returned_with (visits (unfolded m fields) c.ranges is) ≡ returned_with (visits_in q id)
end_is p q id c r is m fields same e ranges h l f = ap returned_with (visits_are p q id c r is m fields same e ranges h l f)

-- Whether a record is selected: where it is taken, its part selects it as the query over all names does.
use Rattle.std.proofs.Common.{◌≡◌, ℕ, ◌+◌, ◌*◌, ◌<◌, ◌≤◌, Bool, true, false, ◌&&◌, cond, List, ◌∷◌, length, map, ℤ, Option, Some, None, Ok, nat_lt, refl, sym, ap, subst, ◌∙◌, arith}
use Rattle.std.proofs.lemmas.Bool.Decides.{nat_tests}
use Rattle.std.proofs.Math.Nat.{mul-le-mul_left}
use Rattle.std.specs.Prelude.{IsTrue, is_none}
use Rattle.wsm_record.specs.declared.event.Value.{Value}
use Rattle.wsm_record.specs.declared.words.Form.TheVariants.{Panes}
use Rattle.wsm_record.specs.Event.{Event, Record, Watermark}
use Rattle.wsm_admission.specs.declared.verdict.Refusal.{Refusal}
use Rattle.wsm_semantics.specs.Query.{Datum, Query, Selects, Rises, Nothing, datum, effect_of, mark, raises, verdict_on}
use Rattle.wsm_program.specs.Program.{Program, is_program}
use Rattle.wsm_machine.specs.Meaning.{query_of}
use Rattle.wsm_engine.specs.Meaning.{selects_record}
use Rattle.wsm_key_parts.specs.Parts.{before_in, fed_before, placed, verdict_by}
use Rattle.wsm_part_programs.specs.Keyless.{IsKeyless}
use Rattle.wsm_part_programs.specs.Names.{of_names}
use Rattle.wsm_part_programs.proofs.KeylessRuns.{ignores_keys}
use Rattle.wsm_part_programs.proofs.Law.{one_program, together}
use Rattle.wsm_part_engines.specs.Fits.{parts_after}
use Rattle.wsm_part_engines.proofs.Parted.{own_part, place_is}
use Rattle.wsm_part_engines.proofs.Turns.{before_of, record_before, verdict_there}

-- ---- what is no record that is taken selects nothing

not_taken : (v : Option Refusal) (r : Refusal) (chosen : Bool) (d : Datum) → v ≡ Some r → false ≡ selects_record (cond (is_none v && chosen) (Selects d) Nothing)
not_taken None r chosen d is = absurd cc
not_taken (Some why) r chosen d is = refl

pub by_watermark : (q : Query) (past : List Event) (source : Option ℕ) (t : ℤ) → false ≡ selects_record (effect_of q past (Watermark source t))
by_watermark q past source t =
    let w : Event = Watermark source t in
    elim (raises q past w) as (λ b. false ≡ selects_record (cond b (Rises (mark q past) (mark q (Watermark source t ∷ past))) Nothing)) [ true ↦ refl | false ↦ refl ]

pub by_refusal : (q : Query) (past : List Event) (e : Event) (r : Refusal) → verdict_on q past e ≡ Some r → false ≡ selects_record (effect_of q past e)
by_refusal q past (Record None t vs) r is = refl
by_refusal q past (Record (Some k) t vs) r is = not_taken (verdict_on q past (Record (Some k) t vs)) r (q.selects k vs) (datum (length past) (mark q past) k t vs) is
by_refusal q past (Watermark source t) r is = by_watermark q past source t

-- ---- a record that is taken

alike : (v w : Option Refusal) (a b : Bool) (d f : Datum) → v ≡ None → w ≡ None → a ≡ b → selects_record (cond (is_none v && a) (Selects d) Nothing) ≡ selects_record (cond (is_none w && b) (Selects f) Nothing)
alike None None true true d f h k same = refl
alike None None false false d f h k same = refl
alike None None true false d f h k same = absurd cc
alike None None false true d f h k same = absurd cc
alike (Some r) w a b d f h k same = absurd cc
alike None (Some r) a b d f h k same = absurd cc

module _ (p : Program) (whole : IsTrue (is_program p)) (panes_form : p.header.form ≡ Panes) (keyless : IsKeyless p) (names : List (List ℕ)) (past : List Event)
    (part k : ℕ) (t : ℤ) (vs : List Value) (place : k < length p.header.schema.keys) (known : nat_lt (part * length p.header.schema.keys + k) (length names) ≡ true) where
  abbrev block : ℕ
  block = length p.header.schema.keys

  abbrev q : Query
  q = of_names p names

  abbrev e : Event
  e = Record (Some (part * block + k)) t vs

  abbrev e0 : Event
  e0 = Record (Some k) t vs

  abbrev before : List Event
  before = before_of p.header.clock.start (parts_after p names past).front.marks ((parts_after p names past).fed part)

  few : part < length names
  few =
      let less : part * block + k < length names = lower (part * block + k) (length names) known in
      let more : part * 1 ≤ part * block = mul-le-mul_left part (let one : 1 ≤ block = omega (arith, place) in one) in
      omega (arith, less, more)
    where
      lower : (a b : ℕ) → nat_lt a b ≡ true → a < b
      lower a b h = grind (arith, nat_tests)

  which : before_in p.header.schema.keys p.header.clock.records q (parts_after p names past) e part ≡ Some before
  which =
      ap (λ (b : Bool). cond b (fed_before p.header.clock.start (parts_after p names past).front.marks e ((parts_after p names past).fed part)) None) (own_part block part k place)
      ∙ record_before p.header.clock.start (parts_after p names past).front.marks (Some (part * block + k)) t vs ((parts_after p names past).fed part)

  pub selected_alike : verdict_by p.header.schema.keys p.header.clock.records q (parts_after p names past) e ≡ None → selects_record (effect_of (query_of p) before e0) ≡ selects_record (effect_of q past e)
  selected_alike taken =
      let in_part : verdict_on (query_of p) before (placed block e) ≡ None =
      subst (λ (r : Query). verdict_on r before (placed block e) ≡ None) (one_program p keyless names part) ((together p whole panes_form names).taken (map Ok past) e taken part few before which) in
      let there : verdict_on (query_of p) before e0 ≡ None = subst (λ (n : ℕ). verdict_on (query_of p) before (Record (Some n) t vs) ≡ None) (place_is block part k place) in_part in
      let here : verdict_on q past e ≡ None = sym (verdict_there p whole panes_form keyless names past e) ∙ taken in
      alike (verdict_on (query_of p) before e0) (verdict_on q past e) ((query_of p).selects k vs) (q.selects (part * block + k) vs)
      (datum (length before) (mark (query_of p) before) k t vs) (datum (length past) (mark q past) (part * block + k) t vs) there here ((ignores_keys p keyless).selects k (part * block + k) vs)

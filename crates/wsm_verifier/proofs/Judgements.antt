-- What is found of the sections and of the stated numbers is what a program is judged by.
use Rattle.std.proofs.Common.{◌≡◌, ℕ, ◌+◌, ◌<◌, true, false, ◌⊎◌, inr, List, [], ◌∷◌, length, map, replicate, Option, Some, None, Result, Ok, Err, IfOk, IfErr, IsErrAnd, refl, sym, ap, ◌∙◌, arith}
use Rattle.std.specs.Prelude.{slice_index_or}
use Rattle.std.specs.Global.{Vec}
use Rattle.wsm_interval.specs.declared.Interval.{Interval}
use Rattle.wsm_record.specs.declared.Kind.{Kind}
use Rattle.wsm_program.specs.declared.Instr.{Instr}
use Rattle.wsm_program.specs.declared.SectionId.{SectionId}
use Rattle.wsm_program.specs.declared.SectionId.TheVariants.{Where, Update, Fire}
use Rattle.wsm_program.specs.Instructions.{kind_of}
use Rattle.wsm_program.specs.Program.{Program, section}
use Rattle.wsm_rules.specs.declared.rejection.Rule.TheVariants.{Memory}
use Rattle.wsm_rules.specs.declared.rejection.Rejection.{Rejection}
use Rattle.wsm_rules.specs.declared.known.Known.{Known}
use Rattle.wsm_rules.specs.Labels.{Ranges, Visit, visits}
use Rattle.wsm_rules.specs.Rules.{Setting, setting, entry, first_fault, section_fault, or_then, fault_in, code_fault, ranges_of_record, ranges_of_pane, update_visits, values_folded, folded_from, known_fields}
use Rattle.wsm_rules.specs.Accumulated.{stays}
use Rattle.wsm_verifier.specs.Turning.{unfolded}
use Rattle.wsm_rules.proofs.FoldedRanges.{folded_is, stay_all}

flags : (ks : List Kind) → replicate (length ks) false ≡ map (λ k. false) ks
flags [] = refl
flags (k ∷ ks) = ap (λ fs. false ∷ fs) (flags ks)

pub entry_is : (p : Program) (n : ℕ) (fields : List Known) → n ≡ length p.header.kinds → fields ≡ known_fields 0 p.header.schema.fields → unfolded n fields ≡ entry p
entry_is p n fields e f =
    ap (λ gs. record { stack = []; folded = gs; fields = fields }) (ap (λ m. replicate m false) e ∙ flags p.header.kinds)
    ∙ ap (λ known. record { stack = []; folded = map (λ k. false) p.header.kinds; fields = known }) f

pub visits_seen : (p : Program) (id : SectionId) (r : Ranges) (c : Setting) (is : List Instr) (n : ℕ) (fields : List Known) → c ≡ setting p id r → is ≡ section p id → n ≡ length p.header.kinds →
    fields ≡ known_fields 0 p.header.schema.fields → visits (unfolded n fields) c.ranges is ≡ visits (entry p) r (section p id)
visits_seen p id r c is n fields e h l f = rw (e, h, entry_is p n fields l f) refl

pub fault_seen : (p : Program) (id : SectionId) (r : Ranges) (c : Setting) (is : List Instr) (n : ℕ) (fields : List Known) → c ≡ setting p id r → is ≡ section p id → n ≡ length p.header.kinds →
    fields ≡ known_fields 0 p.header.schema.fields → section_fault c (visits (unfolded n fields) c.ranges is) ≡ fault_in p id r
fault_seen p id r c is n fields e h l f = ap (section_fault c) (visits_seen p id r c is n fields e h l f) ∙ ap (λ d. section_fault d (visits (entry p) r (section p id))) e

-- ---- answers that may be refusals

pub passed_as : {A : Type 0} (x : Result A Rejection) (a b : Option Rejection) → a ≡ b → IfOk x (λ y. a ≡ None) → IfOk x (λ y. b ≡ None)
passed_as (Ok y) a b e h = sym e ∙ h
passed_as (Err r) a b e h = tt

pub refused_as : {A : Type 0} (x : Result A Rejection) (a b : Option Rejection) → a ≡ b → IfErr x (λ r. a ≡ Some r) → IfErr x (λ r. (r.rule ≡ Memory) ⊎ (b ≡ Some r))
refused_as (Ok y) a b e h = tt
refused_as (Err r) a b e h = inr (sym e ∙ h)

-- a refusal that is passed on
pub refused_by : {A : Type 0} (x : Result A Rejection) (r : Rejection) (a b : Option Rejection) → IsErrAnd x (λ e. e ≡ r) → a ≡ b → (r.rule ≡ Memory) ⊎ (a ≡ Some r) → IfErr x (λ r. (r.rule ≡ Memory) ⊎ (b ≡ Some r))
refused_by (Ok y) r a b e h l = tt
refused_by (Err q) r a b e h l = rw (sym h, e) l

pub folded_as : (x : Result (Vec (Option Interval)) Rejection) (ks : List Kind) (vs ws : List Visit) (n : ℕ) → vs ≡ ws → n ≡ length ks →
    IfOk x (λ y. length y.items ≡ n) → IfOk x (λ y. (a : ℕ) → a < n → slice_index_or y.items a None ≡ values_folded a vs) → IfOk x (λ y. y.items ≡ folded_from 0 ks ws)
folded_as (Ok y) ks vs ws n e l long each =
    let first : (a : ℕ) → 0 + a ≡ a = λ a. omega arith in
    folded_is 0 ks ws y.items (long ∙ l) (λ a h. each a (omega (arith, h, l)) ∙ ap (values_folded a) e ∙ ap (λ n. values_folded n ws) (sym (first a)))
folded_as (Err r) ks vs ws n e l long each = tt

-- ---- sections in their order

pub code_passed : (p : Program) → fault_in p Where (ranges_of_record p) ≡ None → fault_in p Update (ranges_of_record p) ≡ None → code_fault p ≡ fault_in p Fire (ranges_of_pane p (update_visits p))
code_passed p h l = ap (λ o. or_then o (or_then (fault_in p Update (ranges_of_record p)) (fault_in p Fire (ranges_of_pane p (update_visits p))))) h ∙ ap (λ o. or_then o (fault_in p Fire (ranges_of_pane p (update_visits p)))) l

first_of_section : (c : Setting) (vs : List Visit) → section_fault c vs ≡ None → first_fault c vs ≡ None
first_of_section c [] e = refl
first_of_section c (v ∷ vs) e = e

-- where the update has no fault, sums of all records stay
pub sums_stay : (p : Program) → fault_in p Update (ranges_of_record p) ≡ None → (a : ℕ) → stays p.header.clock.records (kind_of p.header.kinds a) (slice_index_or (folded_from 0 p.header.kinds (update_visits p)) a None) ≡ true
sums_stay p e a = stay_all (setting p Update (ranges_of_record p)) (update_visits p) (first_of_section (setting p Update (ranges_of_record p)) (update_visits p) e) a

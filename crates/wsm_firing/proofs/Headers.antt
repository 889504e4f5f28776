-- What a program's own laws say of its triggers and columns, and of the records that a firing is computed over.
use Rattle.std.proofs.Common.{◌≡◌, ℕ, ◌≤◌, Bool, true, List, length, ℤ, pos, IsTrue, SFits, w64, to_z, of_z, to_z-of_z, sym, ap, subst, ◌∙◌, arith}
use Rattle.std.proofs.lemmas.Int.{ints, fits_signed_from_abs}
use Rattle.std.proofs.lemmas.Bool.{and_parts}
use Rattle.std.proofs.lemmas.Bool.Decides.{nat_tests}
use Rattle.std.specs.Prelude.{nat_le, nat_lt, unsigned_abs}
use Rattle.wsm_record.specs.declared.event.Value.{Value}
use Rattle.wsm_record.specs.Modes.{retracts}
use Rattle.wsm_windows.specs.Windows.{IsSpan}
use Rattle.wsm_interval.specs.Interval.{interval, holds}
use Rattle.wsm_semantics.proofs.Assigned.{both}
use Rattle.wsm_program.specs.declared.instr.SectionId.TheVariants.{Fire}
use Rattle.wsm_record.specs.Name.{is_between}
use Rattle.wsm_program.specs.Program.{Header, Program, is_header, is_program}
use Rattle.wsm_program.proofs.Lawful.{HeaderParts, header_parts}
use Rattle.wsm_rules.proofs.Lawful.{lawful, lawful_span}
use Rattle.wsm_machine.specs.InRange.{in_range, accs_in}
use Rattle.wsm_machine.specs.Meaning.{pane_inputs}

-- what is_header holds of what fires and of what is written, as numbers
pub record IsLawfulFiring (h : Header) : Type 0 where
  pub parts : HeaderParts h
  pub early : IsSpan h.early
  pub late : IsSpan h.late
  pub columns : length h.columns ≤ 16

of_header : (h : Header) → is_header h ≡ true → IsLawfulFiring h
of_header h e =
    let parts = header_parts h e in
    record { parts = parts; early = lawful_span h.early parts.early; late = lawful_span h.late parts.late; columns = few (length h.columns) parts.count }
  where
    few : (n : ℕ) → is_between 1 16 n ≡ true → n ≤ 16
    few n h = let most = (and_parts (nat_le 1 n) (nat_le n 16) h).1 in grind (arith, nat_tests)

of_program : (p : Program) → IsTrue (is_program p) → IsLawfulFiring p.header
unfolding is_program
of_program p e = of_header p.header (both (is_header p.header) _ e).0

pub lawful_firing : (p : Program) (g : Header) → g ≡ p.header → IsTrue (is_program p) → IsLawfulFiring g
lawful_firing p g e h = subst IsLawfulFiring (sym e) (of_program p h)

-- so many records have 64 bits with a sign
pub count_fits : (p : Program) → IsTrue (is_program p) → (key n : ℕ) (held : List Value) → IsTrue (in_range p Fire (pane_inputs key n held)) → SFits w64 (pos n)
count_fits p whole key n held ranged =
    let most = (lawful p whole).records.1 in
    let within = (both (holds (interval (pos 1) p.header.clock.records) (pos n)) (accs_in p 0 p.header.kinds held) (both (nat_lt key (length p.header.schema.keys)) _ ranged).1).0 in
    fits_signed_from_abs w64 (pos n) (grind (arith, ints, most, within))

-- a count that is compared with 0
pub zero_count : (n : ℤ) → IsSpan n → of_z w64 n ≡ 0 → unsigned_abs n ≡ 0
zero_count n s zero =
    let fits : SFits w64 n = fits_signed_from_abs w64 n (grind (arith, ints, s.low, s.high)) in
    ap unsigned_abs (sym (to_z-of_z fits) ∙ ap (to_z w64) zero)

-- whether panes retract, as it is told by a program's header
pub retracts_by : {p q : Program} {h : Header} {b : Bool} → b ≡ retracts h.mode → h ≡ p.header → p ≡ q → b ≡ retracts q.header.mode
retracts_by e g f = e ∙ ap (λ (h : Header). retracts h.mode) (g ∙ ap (λ (p : Program). p.header) f)

-- What a program's own laws say of its numbers.
use Rattle.std.proofs.Common.{◌≡◌, ℕ, ◌+◌, ◌*◌, ◌≤◌, true, List, length, ℤ, pos, ◌+ℤ◌, ◌≤ℤ◌, sym, subst, IsTrue, to_z, of_z, w64, arith}
use Rattle.std.proofs.lemmas.Bool.{leb-true, and_parts}
use Rattle.std.proofs.lemmas.Int.{ints}
use Rattle.std.proofs.Math.Nat.{div-le_self, mul-le-mul_right, mul-le-mul_left}
use Rattle.std.specs.Prelude.{nat_le, unsigned_abs}
use Rattle.std.specs.Int.{div_ceil}
use Rattle.wsm_record.specs.Schema.{Declared, is_within, is_schema, is_name_list}
use Rattle.wsm_windows.specs.declared.Shape.{Shape}
use Rattle.wsm_windows.specs.declared.Shape.TheVariants.{Fixed, Sliding, Session}
use Rattle.wsm_windows.specs.Windows.{IsShape, IsSpan}
use Rattle.wsm_windows.specs.Life.{live_bound}
use Rattle.wsm_program.specs.declared.Instr.{Instr}
use Rattle.wsm_program.specs.declared.SectionId.{SectionId}
use Rattle.wsm_program.specs.declared.SectionId.TheVariants.{Where, Update, Fire}
use Rattle.wsm_program.specs.Program.{Header, Program, section, is_span, is_size, is_shape, is_section, is_header, is_program, is_limited, is_clock, is_firing, is_row, is_time}
use Rattle.wsm_program.proofs.Lawful.{short_section}

pub within : (lo hi n : ℤ) → is_within lo hi n ≡ true → (lo ≤ℤ n) × (n ≤ℤ hi)
within lo hi n h = (grind (arith, ints), grind (arith, ints))

sized : (n : ℤ) → is_size n ≡ true → (pos 1 ≤ℤ n) × (n ≤ℤ pos 1000000000000)
sized n h = within (pos 1) (pos 1000000000000) n h

lawful_shape : (s : Shape) → is_shape s ≡ true → IsShape s
lawful_shape (Fixed size) h = let w = sized size h in record { period_low = w.0; period_high = omega (arith, ints); size_high = w.1 }
lawful_shape (Sliding size period) h =
    let w = sized size (and_parts _ _ h).0 in
    let v = within (pos 1) size period (and_parts _ _ h).1 in
    record { period_low = v.0; period_high = v.1; size_high = w.1 }
lawful_shape (Session gap) h = let w = sized gap h in record { period_low = w.0; period_high = omega (arith, ints); size_high = w.1 }

pub lawful_span : (n : ℤ) → is_span n ≡ true → IsSpan n
lawful_span n h = let w = within (pos 0) (pos 1000000000000) n h in record { low = w.0; high = w.1 }

-- the numbers of a header that its costs are made of
pub record IsLawful (h : Header) : Type 0 where
  pub shape : IsShape h.shape
  pub skew : IsSpan h.clock.skew
  pub lateness : IsSpan h.clock.lateness
  pub records : (pos 1 ≤ℤ h.clock.records) × (h.clock.records ≤ℤ pos 1000000000000)
  pub kinds : length h.kinds ≤ 16
  pub fields : length h.schema.fields ≤ 16

few_fields : (s : Declared) → is_schema s ≡ true → length s.fields ≤ 16
unfolding is_schema
few_fields s e = leb-true (length s.fields) 16 (and_parts (nat_le (length s.fields) 16) _ (and_parts (is_name_list s.keys) _ e).1).0

lawful_header : (h : Header) → is_header h ≡ true → IsLawful h
unfolding is_header
lawful_header h e =
    let parts = (and_parts (is_schema h.schema) _ e).1 in
    let behind_clock = (and_parts (is_clock h) _ parts).1 in
    let firing = (and_parts (is_firing h) _ behind_clock).0 in
    let row = (and_parts (is_row h) _ (and_parts (is_firing h) _ behind_clock).1).0 in
    let limited = (and_parts (is_limited h.clock) _ (and_parts (is_clock h) _ parts).0).0 in
    let spans = (and_parts (is_time h.clock.start) _ limited).1 in
    let behind_skew = (and_parts (is_span h.clock.skew) _ spans).1 in
    record {
      shape = lawful_shape h.shape (and_parts (is_shape h.shape) _ firing).0;
      skew = lawful_span h.clock.skew (and_parts (is_span h.clock.skew) _ spans).0;
      lateness = lawful_span h.clock.lateness (and_parts (is_span h.clock.lateness) _ behind_skew).0;
      records = sized h.clock.records (and_parts (is_span h.clock.lateness) _ behind_skew).1;
      kinds = leb-true (length h.kinds) 16 (and_parts (nat_le (length h.kinds) 16) _ row).0;
      fields = few_fields h.schema (and_parts (is_schema h.schema) _ e).0;
    }

pub lawful : (p : Program) → IsTrue (is_program p) → IsLawful p.header
unfolding is_program
lawful p e = lawful_header p.header (and_parts (is_header p.header) _ e).0

pub short : (p : Program) (id : SectionId) → IsTrue (is_program p) → length (section p id) ≤ 1000
unfolding is_program
short p Where e = short_section p.header p.selection (and_parts (is_section p.header p.selection) _ (and_parts (is_header p.header) _ e).1).0
short p Update e = short_section p.header p.update (and_parts (is_section p.header p.update) _ (and_parts (is_section p.header p.selection) _ (and_parts (is_header p.header) _ e).1).1).0
short p Fire e = short_section p.header p.fire (and_parts (is_section p.header p.update) _ (and_parts (is_section p.header p.selection) _ (and_parts (is_header p.header) _ e).1).1).1

-- the same of a header that is the program's
pub lawful_seen : (p : Program) (g : Header) → g ≡ p.header → IsTrue (is_program p) → IsLawful g
lawful_seen p g e h = subst IsLawful (sym e) (lawful p h)

pub short_seen : (p : Program) (id : SectionId) (code : List Instr) → code ≡ section p id → IsTrue (is_program p) → length code ≤ 1000
short_seen p id code e h = rw e (short p id h)

ceil_few : (a b m : ℕ) → a ≤ m → div_ceil a b ≤ m + 1
ceil_few a b m h = omega (arith, div-le_self a b)

-- a live bound is small
pub live_few : (s : Shape) (skew late : ℤ) → IsShape s → IsSpan skew → IsSpan late → live_bound s skew late ≤ 3000000000002
live_few (Fixed size) skew late s f l = omega (arith, ceil_few (unsigned_abs ((skew +ℤ late) +ℤ size)) (unsigned_abs size) 3000000000000 (omega (arith, ints, s.size_high, s.period_low)))
live_few (Sliding size period) skew late s f l = omega (arith, ceil_few (unsigned_abs ((skew +ℤ late) +ℤ size)) (unsigned_abs period) 3000000000000 (omega (arith, ints, s.size_high, s.period_low, s.period_high)))
live_few (Session gap) skew late s f l = omega (arith, ceil_few (unsigned_abs (skew +ℤ late)) (unsigned_abs gap) 3000000000000 (omega (arith, ints)))

pub product_few : (a b m n : ℕ) → a ≤ m → b ≤ n → a * b ≤ m * n
product_few a b m n h k = omega (arith, mul-le-mul_right b h, mul-le-mul_left m k)

pub span_seen : (n : ℤ) → IsSpan n → IsSpan (to_z w64 (of_z w64 n))
span_seen n h = record { low = omega (arith, ints, h.low, h.high); high = omega (arith, ints, h.low, h.high) }

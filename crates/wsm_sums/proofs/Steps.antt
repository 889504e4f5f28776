-- The steps of the division are linear over bits, so that those for a byte can be looked up in tables.
use Rattle.std.proofs.Common.{◌≡◌, ℕ, ◌*◌, ◌/◌, ◌%◌, ◌^◌, ◌<◌, bit_xor, refl, sym, ap, ◌∙◌, arith, inl, inr, ◌⊎◌}
use lib.Bits.{xor_comm, xor_self, xor_assoc, xor_zero_r, xor_lt, xor_shr, xor_mod, xor_shifted}
use Rattle.wsm_sums.specs.Crc.{polynomial, bit_step, byte_step}

pub xor_back : (a b : ℕ) → bit_xor (bit_xor a b) b ≡ a
xor_back a b = xor_assoc a b b ∙ ap (λ x. bit_xor a x) (xor_self b) ∙ xor_zero_r a

-- one step, by the lowest bit
step_even : (a : ℕ) → a % 2 ≡ 0 → bit_step a ≡ a / 2
unfolding bit_step
step_even a even = rw even refl

step_odd : (a : ℕ) → a % 2 ≡ 1 → bit_step a ≡ bit_xor (a / 2) polynomial
unfolding bit_step
step_odd a odd = rw odd refl

lowest_bit : (a : ℕ) → (a % 2 ≡ 0) ⊎ (a % 2 ≡ 1)
lowest_bit a = grind arith

lowest_of_xor : (a b m n : ℕ) → a % 2 ≡ m → b % 2 ≡ n → bit_xor a b % 2 ≡ bit_xor m n
lowest_of_xor a b m n ea eb = xor_mod a b 1 ∙ ap (λ x. bit_xor x (b % 2)) ea ∙ ap (λ y. bit_xor m y) eb

others_of_xor : (a b : ℕ) → bit_xor a b / 2 ≡ bit_xor (a / 2) (b / 2)
others_of_xor a b = xor_shr a b 1

pub xors : (a b x y : ℕ) → a ≡ x → b ≡ y → bit_xor a b ≡ bit_xor x y
xors a b x y p q = ap (λ n. bit_xor n b) p ∙ ap (λ n. bit_xor x n) q

even_even : (a b : ℕ) → a % 2 ≡ 0 → b % 2 ≡ 0 → bit_step (bit_xor a b) ≡ bit_xor (bit_step a) (bit_step b)
even_even a b ea eb =
    step_even (bit_xor a b) (lowest_of_xor a b 0 0 ea eb) ∙ others_of_xor a b ∙ xors _ _ _ _ (sym (step_even a ea)) (sym (step_even b eb))

even_odd : (a b : ℕ) → a % 2 ≡ 0 → b % 2 ≡ 1 → bit_step (bit_xor a b) ≡ bit_xor (bit_step a) (bit_step b)
even_odd a b ea eb =
    step_odd (bit_xor a b) (lowest_of_xor a b 0 1 ea eb)
    ∙ ap (λ n. bit_xor n polynomial) (others_of_xor a b)
    ∙ xor_assoc (a / 2) (b / 2) polynomial
    ∙ xors _ _ _ _ (sym (step_even a ea)) (sym (step_odd b eb))

odd_even : (a b : ℕ) → a % 2 ≡ 1 → b % 2 ≡ 0 → bit_step (bit_xor a b) ≡ bit_xor (bit_step a) (bit_step b)
odd_even a b ea eb = ap bit_step (xor_comm a b) ∙ even_odd b a eb ea ∙ xor_comm (bit_step b) (bit_step a)

-- what both take off goes
twice_off : (a b p : ℕ) → bit_xor (bit_xor a p) (bit_xor b p) ≡ bit_xor a b
twice_off a b p = xor_assoc a p (bit_xor b p) ∙ ap (λ x. bit_xor a x) (xor_comm p (bit_xor b p) ∙ xor_back b p)

odd_odd : (a b : ℕ) → a % 2 ≡ 1 → b % 2 ≡ 1 → bit_step (bit_xor a b) ≡ bit_xor (bit_step a) (bit_step b)
odd_odd a b ea eb =
    step_even (bit_xor a b) (lowest_of_xor a b 1 1 ea eb)
    ∙ others_of_xor a b
    ∙ sym (twice_off (a / 2) (b / 2) polynomial)
    ∙ xors _ _ _ _ (sym (step_odd a ea)) (sym (step_odd b eb))

step_of_xor : (a b : ℕ) → bit_step (bit_xor a b) ≡ bit_xor (bit_step a) (bit_step b)
step_of_xor a b =
    elim (lowest_bit a) [
      | inl ea ↦ elim (lowest_bit b) [ inl eb ↦ even_even a b ea eb | inr eb ↦ even_odd a b ea eb ]
      | inr ea ↦ elim (lowest_bit b) [ inl eb ↦ odd_even a b ea eb | inr eb ↦ odd_odd a b ea eb ]
    ]

-- a function that does with an xor what it does with both sides
record IsLinear (f : ℕ → ℕ) : Type 0 where
  each : (a b : ℕ) → f (bit_xor a b) ≡ bit_xor (f a) (f b)

twice_linear : (f : ℕ → ℕ) → IsLinear f → IsLinear (λ a. f (f a))
twice_linear f linear = record { each = λ a b. ap f (linear.each a b) ∙ linear.each (f a) (f b) }

eight_times : (f : ℕ → ℕ) → IsLinear f → IsLinear (λ a. f (f (f (f (f (f (f (f a))))))))
eight_times f linear = twice_linear (λ a. f (f (f (f a)))) (twice_linear (λ a. f (f a)) (twice_linear f linear))

pub byte_step_of_xor : (a b : ℕ) → byte_step (bit_xor a b) ≡ bit_xor (byte_step a) (byte_step b)
unfolding byte_step
byte_step_of_xor = (eight_times bit_step (record { each = step_of_xor })).each

-- a step of an even number halves it
halves : (a b : ℕ) → a ≡ b * 2 → bit_step a ≡ b
halves a b e = step_even a (omega arith) ∙ omega arith

-- eight steps with no bit set do no more
byte_step_above : (a : ℕ) → byte_step (a * 256) ≡ a
unfolding byte_step
byte_step_above a =
    let e8 = halves (a * 256) (a * 128) (omega arith) in
    let e7 = halves (a * 128) (a * 64) (omega arith) in
    let e6 = halves (a * 64) (a * 32) (omega arith) in
    let e5 = halves (a * 32) (a * 16) (omega arith) in
    let e4 = halves (a * 16) (a * 8) (omega arith) in
    let e3 = halves (a * 8) (a * 4) (omega arith) in
    let e2 = halves (a * 4) (a * 2) (omega arith) in
    let e1 = halves (a * 2) a refl in
    cc

above_and_byte : (a : ℕ) → bit_xor (a / 256 * 256) (a % 256) ≡ a
above_and_byte a = xor_shifted (a / 256) 8 (a % 256) (omega arith) ∙ omega arith

-- eight steps, by what they leave of the lowest byte
pub by_lowest_byte : (a : ℕ) → byte_step a ≡ bit_xor (byte_step (a % 256)) (a / 256)
by_lowest_byte a =
    ap byte_step (sym (above_and_byte a))
    ∙ byte_step_of_xor (a / 256 * 256) (a % 256)
    ∙ ap (λ x. bit_xor x (byte_step (a % 256))) (byte_step_above (a / 256))
    ∙ xor_comm (a / 256) (byte_step (a % 256))

-- a byte that is put in leaves the others
pub above_of_xor : (rest byte : ℕ) → byte < 256 → bit_xor rest byte / 256 ≡ rest / 256
above_of_xor rest byte small =
    let none : byte / 256 ≡ 0 = omega arith in
    xor_shr rest byte 8 ∙ ap (λ x. bit_xor (rest / 256) x) none ∙ xor_zero_r (rest / 256)

-- what is left stays in 32 bits
step_lt : (a : ℕ) → a < 2 ^ 32 → bit_step a < 2 ^ 32
step_lt a h =
    elim (lowest_bit a) [
      | inl even ↦ omega (arith, step_even a even)
      | inr odd ↦ (let half : a / 2 < 2 ^ 32 = omega arith in omega (arith, step_odd a odd, xor_lt 32 (a / 2) polynomial half (omega arith)))
    ]

pub byte_step_lt : (a : ℕ) → a < 2 ^ 32 → byte_step a < 2 ^ 32
unfolding byte_step
byte_step_lt a h = step_lt _ (step_lt _ (step_lt _ (step_lt _ (step_lt _ (step_lt _ (step_lt _ (step_lt a h)))))))

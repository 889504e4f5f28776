-- Sixteen bytes at a time: what the steps leave of each byte by itself, put together.
use Rattle.std.proofs.Common.{◌≡◌, ℕ, ◌+◌, ◌/◌, ◌%◌, ◌^◌, ◌<◌, ◌≤◌, List, [], ◌∷◌, ◌++◌, length, drop, take, map, get_or, bit_xor, refl, sym, ap, ◌∙◌, arith}
use Rattle.std.specs.List.{range_with_len}
use Rattle.std.proofs.lemmas.List.{drop_more}
use Rattle.std.proofs.lemmas.List.FromFn.{get_or-map-range_with_len}
use lib.Bits.{xor_assoc, xor_mod, xor_shr, xor_zero_l}
use Rattle.std.specs.Int.{from_le_bytes, w32}
use Rattle.wsm_sums.specs.Crc.{bit_step, byte_step, rest_after}
use Rattle.wsm_sums.specs.declared.table.TheConstants.{NEAR}
use Rattle.wsm_sums.specs.declared.far_table.TheConstants.{FAR}
use Rattle.wsm_sums.proofs.Steps.{xors, byte_step_of_xor, by_lowest_byte, above_of_xor}
use Rattle.wsm_sums.proofs.Sums.{rest_after-append}

-- the steps for each of some bytes
abbrev steps_over : List ℕ → ℕ → ℕ
steps_over [] rest = rest
steps_over (byte ∷ bytes) rest = steps_over bytes (byte_step rest)

rest_after_of_xor : (a b : ℕ) (bytes : List ℕ) → rest_after (bit_xor a b) bytes ≡ bit_xor (steps_over bytes a) (rest_after b bytes)
unfolding rest_after
rest_after_of_xor a b [] = refl
rest_after_of_xor a b (byte ∷ bytes) =
    ap (λ x. rest_after (byte_step x) bytes) (xor_assoc a b byte)
    ∙ ap (λ x. rest_after x bytes) (byte_step_of_xor a (bit_xor b byte))
    ∙ rest_after_of_xor (byte_step a) (byte_step (bit_xor b byte)) bytes

-- the first of some bytes goes by itself
first_apart : (rest byte : ℕ) (bytes : List ℕ) → byte < 256
    → rest_after rest (byte ∷ bytes) ≡ bit_xor (steps_over bytes (byte_step (bit_xor rest byte % 256))) (rest_after (rest / 256) bytes)
unfolding rest_after
first_apart rest byte bytes small =
    ap (λ x. rest_after x bytes) (by_lowest_byte (bit_xor rest byte) ∙ ap (λ x. bit_xor (byte_step (bit_xor rest byte % 256)) x) (above_of_xor rest byte small))
    ∙ rest_after_of_xor (byte_step (bit_xor rest byte % 256)) (rest / 256) bytes

add_first : (left rest byte : ℕ) (bytes : List ℕ) (others : ℕ) → byte < 256 → left ≡ steps_over bytes (byte_step (bit_xor rest byte % 256)) → others ≡ rest_after (rest / 256) bytes
    → bit_xor left others ≡ rest_after rest (byte ∷ bytes)
add_first left rest byte bytes others small here behind = xors _ _ _ _ here behind ∙ sym (first_apart rest byte bytes small)

-- where nothing is left of what came before
add_plain : (left byte : ℕ) (bytes : List ℕ) (others : ℕ) → byte < 256 → left ≡ steps_over bytes (byte_step byte) → others ≡ rest_after 0 bytes
    → bit_xor left others ≡ rest_after 0 (byte ∷ bytes)
add_plain left byte bytes others small here behind =
    let same : bit_xor 0 byte % 256 ≡ byte = ap (λ x. x % 256) (xor_zero_l byte) ∙ omega arith in
    add_first left 0 byte bytes others small (here ∙ ap (λ x. steps_over bytes (byte_step x)) (sym same)) behind

last_plain : (byte : ℕ) → byte_step byte ≡ rest_after 0 (byte ∷ [])
unfolding rest_after
last_plain byte = ap byte_step (sym (xor_zero_l byte))

-- ---- the tables

from_table : (f : ℕ → ℕ) (table : List ℕ) → table ≡ map f (range_with_len 0 256) → (i : ℕ) → i < 256 → get_or table i 0 ≡ f i
from_table f table is i inside = ap (λ t. get_or t i 0) is ∙ get_or-map-range_with_len f 0 256 i i 0 inside (omega arith)

abbrev two : ℕ → ℕ
two a = byte_step (byte_step a)

abbrev four : ℕ → ℕ
four a = two (two a)

abbrev eight : ℕ → ℕ
eight a = four (four a)

abbrev near : ℕ → ℕ → ℕ
near k i = get_or (get_or NEAR k []) i 0

abbrev far : ℕ → ℕ → ℕ
far k i = get_or (get_or FAR k []) i 0

is_near_0 : get_or NEAR 0 [] ≡ map (λ a. byte_step a) (range_with_len 0 256)
unfolding bit_step byte_step
is_near_0 = refl

near_0 : (i : ℕ) → i < 256 → near 0 i ≡ byte_step i
near_0 = from_table (λ a. byte_step a) (get_or NEAR 0 []) is_near_0

is_near_1 : get_or NEAR 1 [] ≡ map (λ a. two a) (range_with_len 0 256)
unfolding bit_step byte_step
is_near_1 = refl

near_1 : (i : ℕ) → i < 256 → near 1 i ≡ two i
near_1 = from_table (λ a. two a) (get_or NEAR 1 []) is_near_1

is_near_2 : get_or NEAR 2 [] ≡ map (λ a. byte_step (two a)) (range_with_len 0 256)
unfolding bit_step byte_step
is_near_2 = refl

near_2 : (i : ℕ) → i < 256 → near 2 i ≡ byte_step (two i)
near_2 = from_table (λ a. byte_step (two a)) (get_or NEAR 2 []) is_near_2

is_near_3 : get_or NEAR 3 [] ≡ map (λ a. four a) (range_with_len 0 256)
unfolding bit_step byte_step
is_near_3 = refl

near_3 : (i : ℕ) → i < 256 → near 3 i ≡ four i
near_3 = from_table (λ a. four a) (get_or NEAR 3 []) is_near_3

is_near_4 : get_or NEAR 4 [] ≡ map (λ a. byte_step (four a)) (range_with_len 0 256)
unfolding bit_step byte_step
is_near_4 = refl

near_4 : (i : ℕ) → i < 256 → near 4 i ≡ byte_step (four i)
near_4 = from_table (λ a. byte_step (four a)) (get_or NEAR 4 []) is_near_4

is_near_5 : get_or NEAR 5 [] ≡ map (λ a. two (four a)) (range_with_len 0 256)
unfolding bit_step byte_step
is_near_5 = refl

near_5 : (i : ℕ) → i < 256 → near 5 i ≡ two (four i)
near_5 = from_table (λ a. two (four a)) (get_or NEAR 5 []) is_near_5

is_near_6 : get_or NEAR 6 [] ≡ map (λ a. byte_step (two (four a))) (range_with_len 0 256)
unfolding bit_step byte_step
is_near_6 = refl

near_6 : (i : ℕ) → i < 256 → near 6 i ≡ byte_step (two (four i))
near_6 = from_table (λ a. byte_step (two (four a))) (get_or NEAR 6 []) is_near_6

is_near_7 : get_or NEAR 7 [] ≡ map (λ a. eight a) (range_with_len 0 256)
unfolding bit_step byte_step
is_near_7 = refl

near_7 : (i : ℕ) → i < 256 → near 7 i ≡ eight i
near_7 = from_table (λ a. eight a) (get_or NEAR 7 []) is_near_7

is_far_0 : get_or FAR 0 [] ≡ map (λ a. byte_step (eight a)) (range_with_len 0 256)
unfolding bit_step byte_step
is_far_0 = refl

far_0 : (i : ℕ) → i < 256 → far 0 i ≡ byte_step (eight i)
far_0 = from_table (λ a. byte_step (eight a)) (get_or FAR 0 []) is_far_0

is_far_1 : get_or FAR 1 [] ≡ map (λ a. two (eight a)) (range_with_len 0 256)
unfolding bit_step byte_step
is_far_1 = refl

far_1 : (i : ℕ) → i < 256 → far 1 i ≡ two (eight i)
far_1 = from_table (λ a. two (eight a)) (get_or FAR 1 []) is_far_1

is_far_2 : get_or FAR 2 [] ≡ map (λ a. byte_step (two (eight a))) (range_with_len 0 256)
unfolding bit_step byte_step
is_far_2 = refl

far_2 : (i : ℕ) → i < 256 → far 2 i ≡ byte_step (two (eight i))
far_2 = from_table (λ a. byte_step (two (eight a))) (get_or FAR 2 []) is_far_2

is_far_3 : get_or FAR 3 [] ≡ map (λ a. four (eight a)) (range_with_len 0 256)
unfolding bit_step byte_step
is_far_3 = refl

far_3 : (i : ℕ) → i < 256 → far 3 i ≡ four (eight i)
far_3 = from_table (λ a. four (eight a)) (get_or FAR 3 []) is_far_3

is_far_4 : get_or FAR 4 [] ≡ map (λ a. byte_step (four (eight a))) (range_with_len 0 256)
unfolding bit_step byte_step
is_far_4 = refl

far_4 : (i : ℕ) → i < 256 → far 4 i ≡ byte_step (four (eight i))
far_4 = from_table (λ a. byte_step (four (eight a))) (get_or FAR 4 []) is_far_4

is_far_5 : get_or FAR 5 [] ≡ map (λ a. two (four (eight a))) (range_with_len 0 256)
unfolding bit_step byte_step
is_far_5 = refl

far_5 : (i : ℕ) → i < 256 → far 5 i ≡ two (four (eight i))
far_5 = from_table (λ a. two (four (eight a))) (get_or FAR 5 []) is_far_5

is_far_6 : get_or FAR 6 [] ≡ map (λ a. byte_step (two (four (eight a)))) (range_with_len 0 256)
unfolding bit_step byte_step
is_far_6 = refl

far_6 : (i : ℕ) → i < 256 → far 6 i ≡ byte_step (two (four (eight i)))
far_6 = from_table (λ a. byte_step (two (four (eight a)))) (get_or FAR 6 []) is_far_6

is_far_7 : get_or FAR 7 [] ≡ map (λ a. eight (eight a)) (range_with_len 0 256)
unfolding bit_step byte_step
is_far_7 = refl

far_7 : (i : ℕ) → i < 256 → far 7 i ≡ eight (eight i)
far_7 = from_table (λ a. eight (eight a)) (get_or FAR 7 []) is_far_7

-- the step for one byte by its table
pub step_by_table : (rest byte : ℕ) → byte < 256 → bit_xor (near 0 (bit_xor rest byte % 256)) (rest / 256) ≡ byte_step (bit_xor rest byte)
step_by_table rest byte small =
    xors _ _ _ _ (near_0 (bit_xor rest byte % 256) (omega arith)) (sym (above_of_xor rest byte small)) ∙ sym (by_lowest_byte (bit_xor rest byte))

-- ---- bytes of a text

abbrev eight_at : List ℕ → ℕ → List ℕ
eight_at xs i =
    get_or xs i 0 ∷ get_or xs (i + 1) 0 ∷ get_or xs (i + 2) 0 ∷ get_or xs (i + 3) 0
    ∷ get_or xs (i + 4) 0 ∷ get_or xs (i + 5) 0 ∷ get_or xs (i + 6) 0 ∷ get_or xs (i + 7) 0 ∷ []

-- four bytes in front of others
abbrev four_and : List ℕ → ℕ → List ℕ → List ℕ
four_and xs i others = get_or xs i 0 ∷ get_or xs (i + 1) 0 ∷ get_or xs (i + 2) 0 ∷ get_or xs (i + 3) 0 ∷ others

abbrev twelve_at : List ℕ → ℕ → List ℕ
twelve_at xs i = four_and xs i (eight_at xs (i + 4))

abbrev sixteen_at : List ℕ → ℕ → List ℕ
sixteen_at xs i = four_and xs i (twelve_at xs (i + 4))

one_off : (xs : List ℕ) (i next : ℕ) → next ≡ i + 1 → i < length xs → drop i xs ≡ get_or xs i 0 ∷ drop next xs
one_off xs i next is inside = drop_more xs i 0 inside ∙ ap (λ n. get_or xs i 0 ∷ drop n xs) (sym is)

four_off : (xs : List ℕ) (i next : ℕ) → next ≡ i + 4 → next ≤ length xs → drop i xs ≡ four_and xs i (drop next xs)
four_off xs i next is inside =
    one_off xs i (i + 1) refl (omega arith)
    ∙ ap (λ t. get_or xs i 0 ∷ t) (one_off xs (i + 1) (i + 2) (omega arith) (omega arith)
    ∙ ap (λ t. get_or xs (i + 1) 0 ∷ t) (one_off xs (i + 2) (i + 3) (omega arith) (omega arith)
    ∙ ap (λ t. get_or xs (i + 2) 0 ∷ t) (one_off xs (i + 3) next (omega arith) (omega arith))))

eight_off : (xs : List ℕ) (i next : ℕ) → next ≡ i + 8 → next ≤ length xs → drop i xs ≡ eight_at xs i ++ drop next xs
eight_off xs i next is inside =
    four_off xs i (i + 4) refl (omega arith)
    ∙ ap (four_and xs i) (one_off xs (i + 4) (i + 5) (omega arith) (omega arith)
    ∙ ap (λ t. get_or xs (i + 4) 0 ∷ t) (one_off xs (i + 5) (i + 6) (omega arith) (omega arith)
    ∙ ap (λ t. get_or xs (i + 5) 0 ∷ t) (one_off xs (i + 6) (i + 7) (omega arith) (omega arith)
    ∙ ap (λ t. get_or xs (i + 6) 0 ∷ t) (one_off xs (i + 7) next (omega arith) (omega arith)))))

twelve_off : (xs : List ℕ) (i next : ℕ) → next ≡ i + 12 → next ≤ length xs → drop i xs ≡ twelve_at xs i ++ drop next xs
twelve_off xs i next is inside = four_off xs i (i + 4) refl (omega arith) ∙ ap (four_and xs i) (eight_off xs (i + 4) next (omega arith) inside)

sixteen_off : (xs : List ℕ) (i next : ℕ) → next ≡ i + 16 → next ≤ length xs → drop i xs ≡ sixteen_at xs i ++ drop next xs
sixteen_off xs i next is inside = four_off xs i (i + 4) refl (omega arith) ∙ ap (four_and xs i) (twelve_off xs (i + 4) next (omega arith) inside)

eight_taken : (xs : List ℕ) (i : ℕ) → i + 8 ≤ length xs → take 8 (drop i xs) ≡ eight_at xs i
eight_taken xs i inside = ap (take 8) (eight_off xs i (i + 8) refl inside)

twelve_taken : (xs : List ℕ) (i : ℕ) → i + 12 ≤ length xs → take 12 (drop i xs) ≡ twelve_at xs i
twelve_taken xs i inside = ap (take 12) (twelve_off xs i (i + 12) refl inside)

-- ---- what they leave by their tables

-- the last four, of which nothing but themselves is left
four_left : (a b c d : ℕ) → a < 256 → b < 256 → c < 256 → d < 256
    → bit_xor (near 3 a) (bit_xor (near 2 b) (bit_xor (near 1 c) (near 0 d))) ≡ rest_after 0 (a ∷ b ∷ c ∷ d ∷ [])
four_left a b c d a_fits b_fits c_fits d_fits =
    add_plain _ a (b ∷ c ∷ d ∷ []) _ a_fits (near_3 a a_fits)
    (add_plain _ b (c ∷ d ∷ []) _ b_fits (near_2 b b_fits)
    (add_plain _ c (d ∷ []) _ c_fits (near_1 c c_fits)
    (near_0 d d_fits ∙ last_plain d)))

-- eight bytes
pub eight_left : (xs : List ℕ) (at : ℕ) → at + 8 ≤ length xs → ((n : ℕ) → get_or xs n 0 < 256)
    → bit_xor (near 7 (get_or xs at 0)) (bit_xor (near 6 (get_or xs (at + 1) 0)) (bit_xor (near 5 (get_or xs (at + 2) 0)) (bit_xor (near 4 (get_or xs (at + 3) 0))
    (bit_xor (near 3 (get_or xs (at + 4) 0)) (bit_xor (near 2 (get_or xs (at + 5) 0)) (bit_xor (near 1 (get_or xs (at + 6) 0)) (near 0 (get_or xs (at + 7) 0))))))))
    ≡ rest_after 0 (take 8 (drop at xs))
eight_left xs at inside small =
    let last : List ℕ = get_or xs (at + 4) 0 ∷ get_or xs (at + 5) 0 ∷ get_or xs (at + 6) 0 ∷ get_or xs (at + 7) 0 ∷ [] in
    add_plain _ (get_or xs at 0) (get_or xs (at + 1) 0 ∷ get_or xs (at + 2) 0 ∷ get_or xs (at + 3) 0 ∷ last) _ (small at) (near_7 _ (small at))
    (add_plain _ (get_or xs (at + 1) 0) (get_or xs (at + 2) 0 ∷ get_or xs (at + 3) 0 ∷ last) _ (small (at + 1)) (near_6 _ (small (at + 1)))
    (add_plain _ (get_or xs (at + 2) 0) (get_or xs (at + 3) 0 ∷ last) _ (small (at + 2)) (near_5 _ (small (at + 2)))
    (add_plain _ (get_or xs (at + 3) 0) last _ (small (at + 3)) (near_4 _ (small (at + 3)))
    (four_left _ _ _ _ (small (at + 4)) (small (at + 5)) (small (at + 6)) (small (at + 7))))))
    ∙ ap (rest_after 0) (sym (eight_taken xs at inside))

-- twelve, with what the last eight of them leave
pub twelve_left : (xs : List ℕ) (at others : ℕ) → at + 12 ≤ length xs → ((n : ℕ) → get_or xs n 0 < 256) → others ≡ rest_after 0 (take 8 (drop (at + 4) xs))
    → bit_xor (far 3 (get_or xs at 0)) (bit_xor (far 2 (get_or xs (at + 1) 0)) (bit_xor (far 1 (get_or xs (at + 2) 0)) (bit_xor (far 0 (get_or xs (at + 3) 0)) others)))
    ≡ rest_after 0 (take 12 (drop at xs))
twelve_left xs at others inside small behind =
    let last : List ℕ = eight_at xs (at + 4) in
    add_plain _ (get_or xs at 0) (get_or xs (at + 1) 0 ∷ get_or xs (at + 2) 0 ∷ get_or xs (at + 3) 0 ∷ last) _ (small at) (far_3 _ (small at))
    (add_plain _ (get_or xs (at + 1) 0) (get_or xs (at + 2) 0 ∷ get_or xs (at + 3) 0 ∷ last) _ (small (at + 1)) (far_2 _ (small (at + 1)))
    (add_plain _ (get_or xs (at + 2) 0) (get_or xs (at + 3) 0 ∷ last) _ (small (at + 2)) (far_1 _ (small (at + 2)))
    (add_plain _ (get_or xs (at + 3) 0) last _ (small (at + 3)) (far_0 _ (small (at + 3)))
    (behind ∙ ap (rest_after 0) (eight_taken xs (at + 4) (omega arith))))))
    ∙ ap (rest_after 0) (sym (twelve_taken xs at inside))

-- the first four by their places in their tables, behind what was left before, with what others leave by themselves
first_left : (rest i j k l a b c d others : ℕ) (bytes : List ℕ) → rest < 2 ^ 32 → a < 256 → b < 256 → c < 256 → d < 256
    → i ≡ bit_xor rest a % 256 → j ≡ bit_xor (rest / 256) b % 256 → k ≡ bit_xor (rest / 65536) c % 256 → l ≡ bit_xor (rest / 16777216) d % 256
    → far 7 i ≡ steps_over (b ∷ c ∷ d ∷ bytes) (byte_step i) → far 6 j ≡ steps_over (c ∷ d ∷ bytes) (byte_step j)
    → far 5 k ≡ steps_over (d ∷ bytes) (byte_step k) → far 4 l ≡ steps_over bytes (byte_step l) → others ≡ rest_after 0 bytes
    → bit_xor (far 7 i) (bit_xor (far 6 j) (bit_xor (far 5 k) (bit_xor (far 4 l) others))) ≡ rest_after rest (a ∷ b ∷ c ∷ d ∷ bytes)
first_left rest i j k l a b c d others bytes fits a_fits b_fits c_fits d_fits first second third fourth here_7 here_6 here_5 here_4 behind =
    let none : 0 ≡ rest / 16777216 / 256 = omega arith in
    let thrice : rest / 16777216 ≡ rest / 65536 / 256 = omega arith in
    let twice : rest / 65536 ≡ rest / 256 / 256 = omega arith in
    add_first _ rest a (b ∷ c ∷ d ∷ bytes) _ a_fits (here_7 ∙ ap (λ n. steps_over (b ∷ c ∷ d ∷ bytes) (byte_step n)) first)
    (add_first _ (rest / 256) b (c ∷ d ∷ bytes) _ b_fits (here_6 ∙ ap (λ n. steps_over (c ∷ d ∷ bytes) (byte_step n)) second)
    (add_first _ (rest / 65536) c (d ∷ bytes) _ c_fits (here_5 ∙ ap (λ n. steps_over (d ∷ bytes) (byte_step n)) third)
    (add_first _ (rest / 16777216) d bytes _ d_fits (here_4 ∙ ap (λ n. steps_over bytes (byte_step n)) fourth)
    (behind ∙ ap (λ n. rest_after n bytes) none)
    ∙ ap (λ n. rest_after n (d ∷ bytes)) thrice)
    ∙ ap (λ n. rest_after n (c ∷ d ∷ bytes)) twice))

-- a byte of the word that four of them make, put into what was left
lowest_put_in : (rest word byte : ℕ) → word % 256 ≡ byte → bit_xor rest word % 256 ≡ bit_xor rest byte % 256
lowest_put_in rest word byte is =
    let low : word % 256 ≡ byte % 256 = omega (arith, is) in
    xor_mod rest word 8 ∙ ap (bit_xor (rest % 256)) low ∙ sym (xor_mod rest byte 8)

byte_put_in : (rest word byte k : ℕ) → word / 2 ^ k % 256 ≡ byte → bit_xor rest word / 2 ^ k % 256 ≡ bit_xor (rest / 2 ^ k) byte % 256
byte_put_in rest word byte k is = ap (λ n. n % 256) (xor_shr rest word k) ∙ lowest_put_in (rest / 2 ^ k) (word / 2 ^ k) byte is

-- what is left behind sixteen bytes goes on behind the others
sixteen_more : (rest next : ℕ) (xs : List ℕ) (i : ℕ) → i + 16 ≤ length xs → next ≡ rest_after rest (sixteen_at xs i) → rest_after rest (drop i xs) ≡ rest_after next (drop (i + 16) xs)
sixteen_more rest next xs i inside is =
    ap (rest_after rest) (sixteen_off xs i (i + 16) refl inside)
    ∙ rest_after-append rest (sixteen_at xs i) (drop (i + 16) xs)
    ∙ ap (λ n. rest_after n (drop (i + 16) xs)) (sym is)

-- sixteen bytes of a text, with the word that the first four of them make, and what the last twelve leave by themselves
pub sixteen_left : (rest : ℕ) (xs : List ℕ) (at word i j k l others : ℕ) → rest < 2 ^ 32 → at + 16 ≤ length xs → ((n : ℕ) → get_or xs n 0 < 256)
    → others ≡ rest_after 0 (take 12 (drop (at + 4) xs))
    → word ≡ from_le_bytes w32 (get_or xs at 0 ∷ get_or xs (at + 1) 0 ∷ get_or xs (at + 2) 0 ∷ get_or xs (at + 3) 0 ∷ [])
    → i ≡ bit_xor rest word % 256 → j ≡ bit_xor rest word / 256 % 256 → k ≡ bit_xor rest word / 65536 % 256 → l ≡ bit_xor rest word / 16777216 % 256
    → rest_after rest (drop at xs) ≡ rest_after (bit_xor (far 7 i) (bit_xor (far 6 j) (bit_xor (far 5 k) (bit_xor (far 4 l) others)))) (drop (at + 16) xs)
sixteen_left rest xs at word i j k l others fits inside small behind is first second third fourth =
    sixteen_more rest _ xs at inside
    (first_left rest i j k l _ _ _ _ others (twelve_at xs (at + 4)) fits (small at) (small (at + 1)) (small (at + 2)) (small (at + 3))
    (first ∙ lowest_put_in rest word _ (omega (arith, is, small at)))
    (second ∙ byte_put_in rest word _ 8 (omega (arith, is, small at, small (at + 1))))
    (third ∙ byte_put_in rest word _ 16 (omega (arith, is, small at, small (at + 1), small (at + 2))))
    (fourth ∙ byte_put_in rest word _ 24 (omega (arith, is, small at, small (at + 1), small (at + 2), small (at + 3))))
    (far_7 i (omega arith)) (far_6 j (omega arith)) (far_5 k (omega arith)) (far_4 l (omega arith))
    (behind ∙ ap (rest_after 0) (twelve_taken xs (at + 4) (omega arith))))

-- Words of bytes, of which the first is the lowest, and what is done to all of their bytes at once.
use Rattle.std.proofs.Common.{w64, ◌≡◌, ℕ, zero, suc, ◌+◌, ◌-◌, ◌*◌, ◌/◌, ◌%◌, ◌^◌, ◌<◌, ◌≤◌, true, List, [], ◌∷◌, ◌++◌, length, map, take, drop, take_all, bit_and, refl, ap, ◌∙◌, sym, arith, get_or}
use Rattle.std.specs.Int.{from_le_bytes}
use Rattle.std.specs.List.{list_all, AllByRecursion, slice_index}
use Rattle.std.proofs.lemmas.Nat.{and_block, and_le_l, and_mask, mod_below, mod_low, shr-shr, shr_high, shr_split}
use Rattle.std.proofs.lemmas.Nat.Bits.{and_high_mask}
use Rattle.std.proofs.lemmas.Bool.{and_from, and_parts, le-leb}
use Rattle.std.proofs.lemmas.Bool.Decides.{nat_tests}
use Rattle.std.specs.Prelude.{nat_le}
use Rattle.wsm_record.specs.Name.{is_digit}
use Rattle.wsm_csv.specs.Number.{digits_value}

abbrev pub word_of : List ℕ → ℕ
word_of [] = 0
word_of (b ∷ bs) = word_of bs * 2 ^ 8 + b

-- the same number in each of so many bytes
abbrev pub in_each : ℕ → ℕ → ℕ
in_each zero n = 0
in_each (suc k) n = in_each k n * 2 ^ 8 + n

upper_half : (b : ℕ) → b < 256 → bit_and b 240 ≡ 48 → (48 ≤ b) × (b < 64)
upper_half b h e =
    let half : bit_and b 240 ≡ b / 16 * 16 = and_high_mask 8 4 (omega arith) b (omega (arith, h)) in
    let whole : b / 16 * 16 + b % 16 ≡ b = shr_split b 4 in
    let rest : b % 16 < 16 = mod_below b 16 (omega arith) in
    (omega (arith, half, whole, rest, e), omega (arith, half, whole, rest, e))

-- bytes that have the upper half of the digits once a number is added to each
abbrev pub AreUpper : ℕ → List ℕ → Type 0
AreUpper k bs = AllByRecursion (λ b. (48 ≤ b + k) × (b + k < 64)) bs

pub are_upper : (k : ℕ) (bs : List ℕ) → AllByRecursion (λ b. b + k < 256) bs
    → bit_and (word_of bs + in_each (length bs) k) (in_each (length bs) 240) ≡ in_each (length bs) 48 → AreUpper k bs
are_upper k [] few e = tt
are_upper k (b ∷ bs) few e =
    let n = length bs in
    let sum : word_of bs * 2 ^ 8 + b + (in_each n k * 2 ^ 8 + k) ≡ (word_of bs + in_each n k) * 2 ^ 8 + (b + k) = omega arith in
    let block = and_block 8 (word_of bs + in_each n k) (in_each n 240) (b + k) 240 (omega (arith, few.0)) (omega arith) in
    let both : bit_and (word_of bs + in_each n k) (in_each n 240) * 2 ^ 8 + bit_and (b + k) 240 ≡ in_each n 48 * 2 ^ 8 + 48 = sym block ∙ (rw sum at e) in
    let low = and_le_l (b + k) 240 in
    (upper_half (b + k) few.0 (omega (arith, both, low, few.0)), are_upper k bs few.1 (omega (arith, both, low, few.0)))

digit_of : (b : ℕ) → 48 ≤ b → b ≤ 57 → is_digit b ≡ true
digit_of b low high = and_from _ _ (le-leb 48 b low) (le-leb b 57 high)

-- which are digits
pub all_digits : (bs : List ℕ) → AreUpper 0 bs → AreUpper 6 bs → list_all is_digit bs ≡ true
all_digits [] low high = refl
all_digits (b ∷ bs) low high = and_from _ _ (digit_of b (omega (arith, low.0.0)) (omega (arith, high.0.1))) (all_digits bs low.1 high.1)

low_byte : (n x y : ℕ) → y < 256 → bit_and ((n * 2 ^ 8 + x) * 2 ^ 8 + y) 255 ≡ y
low_byte n x y h = and_mask ((n * 2 ^ 8 + x) * 2 ^ 8 + y) 8 ∙ mod_low (n * 2 ^ 8 + x) 8 y (omega (arith, h))

-- what eight digits stand for, by pairs of them
abbrev pub pairs_value : ℕ → ℕ
pairs_value p = bit_and p 255 * 1000000 + bit_and (p / 65536) 255 * 10000 + (bit_and (p / 4294967296) 255 * 100 + bit_and (p / 281474976710656) 255)

abbrev pub pairs_of : ℕ → ℕ
pairs_of u = u * 10 + u / 256

pub by_pairs : (a b c d e f g h : ℕ) → a ≤ 9 → b ≤ 9 → c ≤ 9 → d ≤ 9 → e ≤ 9 → f ≤ 9 → g ≤ 9 → h ≤ 9
    → pairs_value (pairs_of (word_of (a ∷ b ∷ c ∷ d ∷ e ∷ f ∷ g ∷ h ∷ [])))
    ≡ a * 10 ^ 7 + (b * 10 ^ 6 + (c * 10 ^ 5 + (d * 10 ^ 4 + (e * 10 ^ 3 + (f * 10 ^ 2 + (g * 10 ^ 1 + (h * 10 ^ 0 + 0)))))))
by_pairs a b c d e f g h la lb lc ld le lf lg lh =
    let u = word_of (a ∷ b ∷ c ∷ d ∷ e ∷ f ∷ g ∷ h ∷ []) in
    let behind : u / 256 ≡ word_of (b ∷ c ∷ d ∷ e ∷ f ∷ g ∷ h ∷ []) = shr_high (word_of (b ∷ c ∷ d ∷ e ∷ f ∷ g ∷ h ∷ [])) 8 a (omega (arith, la)) in
    let fourth = h * 10 * 2 ^ 8 + (g * 10 + h) in
    let third = (fourth * 2 ^ 8 + (f * 10 + g)) * 2 ^ 8 + (e * 10 + f) in
    let second = (third * 2 ^ 8 + (d * 10 + e)) * 2 ^ 8 + (c * 10 + d) in
    let first = (second * 2 ^ 8 + (b * 10 + c)) * 2 ^ 8 + (a * 10 + b) in
    let all : pairs_of u ≡ first = omega (arith, behind) in
    let one : first / 65536 ≡ second = ap (λ n. n / 65536) (omega arith) ∙ shr_high second 16 ((b * 10 + c) * 2 ^ 8 + (a * 10 + b)) (omega (arith, la, lb, lc)) in
    let two : second / 65536 ≡ third = ap (λ n. n / 65536) (omega arith) ∙ shr_high third 16 ((d * 10 + e) * 2 ^ 8 + (c * 10 + d)) (omega (arith, lc, ld, le)) in
    let three : third / 65536 ≡ fourth = ap (λ n. n / 65536) (omega arith) ∙ shr_high fourth 16 ((f * 10 + g) * 2 ^ 8 + (e * 10 + f)) (omega (arith, le, lf, lg)) in
    let to_two : first / 4294967296 ≡ third = sym (shr-shr first 16 16) ∙ ap (λ n. n / 65536) one ∙ two in
    let to_three : first / 281474976710656 ≡ fourth = sym (shr-shr first 32 16) ∙ ap (λ n. n / 65536) to_two ∙ three in
    let p = low_byte second (b * 10 + c) (a * 10 + b) (omega (arith, la, lb)) in
    let q = low_byte third (d * 10 + e) (c * 10 + d) (omega (arith, lc, ld)) in
    let r = low_byte fourth (f * 10 + g) (e * 10 + f) (omega (arith, le, lf)) in
    let s = low_byte 0 (h * 10) (g * 10 + h) (omega (arith, lg, lh)) in
    let t : bit_and fourth 255 ≡ g * 10 + h = ap (λ n. bit_and n 255) (omega arith) ∙ s in
    rw (all, one, to_two, to_three) (omega (arith, p, q, r, t))

-- what is read at once of eight bytes that are digits
pub record AtOnce (bs : List ℕ) (word : ℕ) : Type 0 where
  pub digits : list_all is_digit bs ≡ true
  pub above : 3472328296227680304 ≤ word
  pub few : (word - 3472328296227680304) * 10 + (word - 3472328296227680304) / 256 < 2 ^ 64
  pub value : pairs_value (pairs_of (word - 3472328296227680304)) ≡ digits_value bs
  pub below : digits_value bs < 10 ^ 8

few_pairs : (a b c d e f g h : ℕ) → a ≤ 9 → b ≤ 9 → c ≤ 9 → d ≤ 9 → e ≤ 9 → f ≤ 9 → g ≤ 9 → h ≤ 9 → pairs_of (word_of (a ∷ b ∷ c ∷ d ∷ e ∷ f ∷ g ∷ h ∷ [])) < 2 ^ 64
few_pairs a b c d e f g h la lb lc ld le lf lg lh =
    let behind : word_of (a ∷ b ∷ c ∷ d ∷ e ∷ f ∷ g ∷ h ∷ []) / 256 ≡ word_of (b ∷ c ∷ d ∷ e ∷ f ∷ g ∷ h ∷ []) = shr_high (word_of (b ∷ c ∷ d ∷ e ∷ f ∷ g ∷ h ∷ [])) 8 a (omega (arith, la)) in
    rw behind (omega (arith, la, lb, lc, ld, le, lf, lg, lh))

below_pairs : (a b c d e f g h : ℕ) → a ≤ 9 → b ≤ 9 → c ≤ 9 → d ≤ 9 → e ≤ 9 → f ≤ 9 → g ≤ 9 → h ≤ 9
    → a * 10 ^ 7 + (b * 10 ^ 6 + (c * 10 ^ 5 + (d * 10 ^ 4 + (e * 10 ^ 3 + (f * 10 ^ 2 + (g * 10 ^ 1 + (h * 10 ^ 0 + 0))))))) < 10 ^ 8
below_pairs a b c d e f g h la lb lc ld le lf lg lh = omega (arith, la, lb, lc, ld, le, lf, lg, lh)

shifted : (m n z b d : ℕ) → m ≡ n + z → b ≡ d + 48 → m * 2 ^ 8 + b ≡ n * 2 ^ 8 + d + (z * 2 ^ 8 + 48)
shifted m n z b d e f = omega (arith, e, f)

without : (m n z : ℕ) → m ≡ n + z → m - z ≡ n
without m n z e = omega (arith, e)

at_least : (m n z : ℕ) → m ≡ n + z → z ≤ m
at_least m n z e = omega (arith, e)

-- a word of digits is what they stand for by themselves, and a zero in each byte
less_zeros : (bs : List ℕ) → AreUpper 0 bs → word_of bs ≡ word_of (map (λ b. b - 48) bs) + in_each (length bs) 48
less_zeros [] low = refl
less_zeros (b ∷ bs) low =
    let rest = less_zeros bs low.1 in
    let byte : b ≡ b - 48 + 48 = omega (arith, low.0.0) in
    shifted (word_of bs) _ _ b (b - 48) rest byte

nine : (b : ℕ) → b + 6 < 64 → b - 48 ≤ 9
nine b h = omega (arith, h)

at_once_of : (a b c d e f g h : ℕ) → AreUpper 0 (a ∷ b ∷ c ∷ d ∷ e ∷ f ∷ g ∷ h ∷ []) → AreUpper 6 (a ∷ b ∷ c ∷ d ∷ e ∷ f ∷ g ∷ h ∷ [])
    → AtOnce (a ∷ b ∷ c ∷ d ∷ e ∷ f ∷ g ∷ h ∷ []) (word_of (a ∷ b ∷ c ∷ d ∷ e ∷ f ∷ g ∷ h ∷ []))
at_once_of a b c d e f g h low high =
    let (ha, (hb, (hc, (hd, (he, (hf, (hg, (hh, _)))))))) = high in
    let bs = a ∷ b ∷ c ∷ d ∷ e ∷ f ∷ g ∷ h ∷ [] in
    let digits = word_of (map (λ b. b - 48) bs) in
    let zeros = less_zeros bs low in
    let same : word_of bs - 3472328296227680304 ≡ digits = without (word_of bs) digits 3472328296227680304 zeros in
    record {
      digits = all_digits bs low high;
      above = at_least (word_of bs) digits 3472328296227680304 zeros;
      few = rw same (few_pairs (a - 48) (b - 48) (c - 48) (d - 48) (e - 48) (f - 48) (g - 48) (h - 48) (nine a ha.1) (nine b hb.1) (nine c hc.1) (nine d hd.1) (nine e he.1) (nine f hf.1) (nine g hg.1) (nine h hh.1));
      value = rw same (by_pairs (a - 48) (b - 48) (c - 48) (d - 48) (e - 48) (f - 48) (g - 48) (h - 48) (nine a ha.1) (nine b hb.1) (nine c hc.1) (nine d hd.1) (nine e he.1) (nine f hf.1) (nine g hg.1) (nine h hh.1));
      below = below_pairs (a - 48) (b - 48) (c - 48) (d - 48) (e - 48) (f - 48) (g - 48) (h - 48) (nine a ha.1) (nine b hb.1) (nine c hc.1) (nine d hd.1) (nine e he.1) (nine f hf.1) (nine g hg.1) (nine h hh.1);
    }

pub at_once : (bs : List ℕ) (word : ℕ) → length bs ≡ 8 → ((i : ℕ) → get_or bs i 0 < 256) → word ≡ from_le_bytes w64 bs
    → bit_and word 17361641481138401520 ≡ 3472328296227680304
    → (word + 434041037028460038 < 2 ^ 64) × (bit_and (word + 434041037028460038) 17361641481138401520 ≡ 3472328296227680304 → AtOnce bs word)
at_once (a ∷ b ∷ c ∷ d ∷ e ∷ f ∷ g ∷ h ∷ []) word len bytes is upper =
    let bs = a ∷ b ∷ c ∷ d ∷ e ∷ f ∷ g ∷ h ∷ [] in
    let same : word ≡ word_of bs = omega (arith, is) in
    let plain : word_of bs + 0 ≡ word = omega (arith, same) in
    let low = are_upper 0 bs (omega (arith, bytes 0), (omega (arith, bytes 1), (omega (arith, bytes 2), (omega (arith, bytes 3), (omega (arith, bytes 4), (omega (arith, bytes 5), (omega (arith, bytes 6), (omega (arith, bytes 7), tt)))))))) (ap (λ n. bit_and n 17361641481138401520) plain ∙ upper) in
    let (la, (lb, (lc, (ld, (le, (lf, (lg, (lh, _)))))))) = low in (
      omega (arith, same, la.1, lb.1, lc.1, ld.1, le.1, lf.1, lg.1, lh.1),
      λ past.
          let high = are_upper 6 bs (omega (arith, la.1), (omega (arith, lb.1), (omega (arith, lc.1), (omega (arith, ld.1), (omega (arith, le.1), (omega (arith, lf.1), (omega (arith, lg.1), (omega (arith, lh.1), tt)))))))) (rw same at past) in
          rw same (at_once_of a b c d e f g h low high),
    )
at_once [] word len bytes is upper = absurd (omega (arith, len))
at_once (_ ∷ []) word len bytes is upper = absurd (omega (arith, len))
at_once (_ ∷ _ ∷ []) word len bytes is upper = absurd (omega (arith, len))
at_once (_ ∷ _ ∷ _ ∷ []) word len bytes is upper = absurd (omega (arith, len))
at_once (_ ∷ _ ∷ _ ∷ _ ∷ []) word len bytes is upper = absurd (omega (arith, len))
at_once (_ ∷ _ ∷ _ ∷ _ ∷ _ ∷ []) word len bytes is upper = absurd (omega (arith, len))
at_once (_ ∷ _ ∷ _ ∷ _ ∷ _ ∷ _ ∷ []) word len bytes is upper = absurd (omega (arith, len))
at_once (_ ∷ _ ∷ _ ∷ _ ∷ _ ∷ _ ∷ _ ∷ []) word len bytes is upper = absurd (omega (arith, len))
at_once (_ ∷ _ ∷ _ ∷ _ ∷ _ ∷ _ ∷ _ ∷ _ ∷ _ ∷ _) word len bytes is upper = absurd (omega (arith, len))

-- a list begins with eight of its elements
pub first_eight : (xs : List ℕ) → 8 ≤ length xs
    → xs ≡ (slice_index xs 0 ∷ slice_index xs 1 ∷ slice_index xs 2 ∷ slice_index xs 3 ∷ slice_index xs 4 ∷ slice_index xs 5 ∷ slice_index xs 6 ∷ slice_index xs 7 ∷ []) ++ take (length xs - 8) (drop 8 xs)
first_eight (a ∷ b ∷ c ∷ d ∷ e ∷ f ∷ g ∷ h ∷ rest) len =
    ap (λ ys. a ∷ b ∷ c ∷ d ∷ e ∷ f ∷ g ∷ h ∷ ys) (sym (take_all (length (a ∷ b ∷ c ∷ d ∷ e ∷ f ∷ g ∷ h ∷ rest) - 8) rest (omega arith)))
first_eight [] len = absurd (omega (arith, len))
first_eight (_ ∷ []) len = absurd (omega (arith, len))
first_eight (_ ∷ _ ∷ []) len = absurd (omega (arith, len))
first_eight (_ ∷ _ ∷ _ ∷ []) len = absurd (omega (arith, len))
first_eight (_ ∷ _ ∷ _ ∷ _ ∷ []) len = absurd (omega (arith, len))
first_eight (_ ∷ _ ∷ _ ∷ _ ∷ _ ∷ []) len = absurd (omega (arith, len))
first_eight (_ ∷ _ ∷ _ ∷ _ ∷ _ ∷ _ ∷ []) len = absurd (omega (arith, len))
first_eight (_ ∷ _ ∷ _ ∷ _ ∷ _ ∷ _ ∷ _ ∷ []) len = absurd (omega (arith, len))

-- ---- words of eight bytes

word_same : (xs ys : List ℕ) → length xs ≡ length ys → ((i : ℕ) → get_or xs i 0 < 256) → ((i : ℕ) → get_or ys i 0 < 256) → word_of xs ≡ word_of ys → xs ≡ ys
word_same [] [] len few fewer same = refl
word_same [] (y ∷ ys) len few fewer same = absurd (omega (arith, len))
word_same (x ∷ xs) [] len few fewer same = absurd (omega (arith, len))
word_same (x ∷ xs) (y ∷ ys) len few fewer same =
    let byte : x ≡ y = omega (arith, same, few 0, fewer 0) in
    let rest : xs ≡ ys = word_same xs ys (omega (arith, len)) (λ i. few (suc i)) (λ i. fewer (suc i)) (omega (arith, same, byte)) in
    λ i. byte i ∷ rest i

word_read : (bs : List ℕ) (word : ℕ) → length bs ≡ 8 → word ≡ from_le_bytes w64 bs → word ≡ word_of bs
word_read (a ∷ b ∷ c ∷ d ∷ e ∷ f ∷ g ∷ h ∷ []) word len is = omega (arith, is)
word_read [] word len is = absurd (omega (arith, len))
word_read (_ ∷ []) word len is = absurd (omega (arith, len))
word_read (_ ∷ _ ∷ []) word len is = absurd (omega (arith, len))
word_read (_ ∷ _ ∷ _ ∷ []) word len is = absurd (omega (arith, len))
word_read (_ ∷ _ ∷ _ ∷ _ ∷ []) word len is = absurd (omega (arith, len))
word_read (_ ∷ _ ∷ _ ∷ _ ∷ _ ∷ []) word len is = absurd (omega (arith, len))
word_read (_ ∷ _ ∷ _ ∷ _ ∷ _ ∷ _ ∷ []) word len is = absurd (omega (arith, len))
word_read (_ ∷ _ ∷ _ ∷ _ ∷ _ ∷ _ ∷ _ ∷ []) word len is = absurd (omega (arith, len))
word_read (_ ∷ _ ∷ _ ∷ _ ∷ _ ∷ _ ∷ _ ∷ _ ∷ _ ∷ _) word len is = absurd (omega (arith, len))

digit_few : (b : ℕ) → is_digit b ≡ true → b < 256
digit_few b is = let most = (and_parts (nat_le 48 b) (nat_le b 57) is).1 in grind (arith, nat_tests, most)

digits_few : (bs : List ℕ) → list_all is_digit bs ≡ true → (i : ℕ) → get_or bs i 0 < 256
digits_few [] all i = omega arith
digits_few (b ∷ bs) all zero = digit_few b (and_parts (is_digit b) (list_all is_digit bs) all).0
digits_few (b ∷ bs) all (suc i) = digits_few bs (and_parts (is_digit b) (list_all is_digit bs) all).1 i

-- bytes whose word is that of digits are these digits
pub same_digits : (xs ys : List ℕ) (word other : ℕ) → length xs ≡ 8 → length ys ≡ 8 → ((i : ℕ) → get_or xs i 0 < 256) → list_all is_digit ys ≡ true
    → word ≡ from_le_bytes w64 xs → other ≡ from_le_bytes w64 ys → word ≡ other → xs ≡ ys
same_digits xs ys word other len size few digits is it same =
    word_same xs ys (len ∙ sym size) few (digits_few ys digits) (sym (word_read xs word len is) ∙ same ∙ word_read ys other size it)

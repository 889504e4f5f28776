-- What a search for a line's end, or for a line that begins with `at,`, finds.
use Rattle.std.proofs.Common.{◌≡◌, ◌∙◌, ℕ, zero, suc, ◌+◌, ◌-◌, ◌<◌, ◌==◌, ◌&&◌, not, nat_eq, List, [], ◌∷◌, length, Bool, true, false, cond, Option, Some, None, option_map, is_none, is_some, slice_get, slice_index, refl, sym, ap, arith, add-zero}
use Rattle.std.specs.Option.{option_map_or}
use Rattle.std.proofs.lemmas.Bool.{and_parts, and_from, eq-eqb, eqb-true}
use Rattle.memchr.specs.Find.{IsFirstByte, FindsNeedle, OccursAt, is_byte}
use Rattle.wsm_journal.specs.Text.{is_mark, are_rows_from, ends_line_from, has_no_line_feed}
use Rattle.wsm_journal.specs.Reading.{mark_from, line_end_from}

end_step : (i byte : ℕ) (text : List ℕ) (r : Option ℕ) (t : Bool) → (byte == 10) ≡ t → IsFirstByte (is_byte 10) (byte ∷ text) r
    → ((s : Option ℕ) → IsFirstByte (is_byte 10) text s → line_end_from (i + 1) text ≡ option_map (λ k. (i + 1) + k) s)
    → line_end_from i (byte ∷ text) ≡ option_map (λ k. i + k) r
end_step i byte text None true is first rest = absurd (first 0 (omega arith) (omega arith) is)
end_step i byte text (Some zero) true is first rest = ap (λ b. cond b (Some i) (line_end_from (i + 1) text)) is ∙ ap Some (sym (add-zero i))
end_step i byte text (Some (suc k)) true is first rest = absurd (first.0.before 0 (omega arith) (omega arith) is)
end_step i byte text None false is first rest =
    ap (λ b. cond b (Some i) (line_end_from (i + 1) text)) is ∙ rest None (λ k low high here. first (suc k) (omega arith) (omega arith) here)
end_step i byte text (Some zero) false is first rest = absurd (cc (first.1, is))
end_step i byte text (Some (suc k)) false is first rest =
    ap (λ b. cond b (Some i) (line_end_from (i + 1) text)) is
    ∙ rest (Some k) (record { low = omega arith; high = omega (arith, first.0.high); before = λ j low small here. first.0.before (suc j) (omega arith) (omega arith) here }, first.1)
    ∙ ap Some (omega arith)

pub end_found : (i : ℕ) (text : List ℕ) (r : Option ℕ) → IsFirstByte (is_byte 10) text r → line_end_from i text ≡ option_map (λ k. i + k) r
end_found i [] None first = refl
end_found i [] (Some k) first = absurd (omega (arith, first.0.high))
end_found i (byte ∷ text) r first = end_step i byte text r (byte == 10) refl first (end_found (i + 1) text)

-- bytes have no line feed where no line ends among them
pub no_end : (i : ℕ) (bytes : List ℕ) → is_none (line_end_from i bytes) ≡ has_no_line_feed bytes
no_end i [] = refl
no_end i (byte ∷ bytes) = by_byte (byte == 10) (no_end (i + 1) bytes)
  where
    by_byte : (t : Bool) → is_none (line_end_from (i + 1) bytes) ≡ has_no_line_feed bytes → is_none {T = ℕ} (cond t (Some i) (line_end_from (i + 1) bytes)) ≡ (not t && has_no_line_feed bytes)
    by_byte true behind = refl
    by_byte false behind = behind

-- from the front on
pub end_found_first : (text : List ℕ) (r : Option ℕ) → IsFirstByte (is_byte 10) text r → r ≡ line_end_from 0 text
end_found_first text None first = sym (end_found 0 text None first)
end_found_first text (Some k) first =
    let from_zero : k ≡ 0 + k = omega arith in
    ap Some from_zero ∙ sym (end_found 0 text (Some k) first)

-- ---- a line that begins with `at,`

abbrev mark_needle : List ℕ
mark_needle = 10 ∷ 97 ∷ 116 ∷ 44 ∷ []

abbrev is_here : ℕ → List ℕ → Bool
is_here byte text = byte == 10 && is_mark text

occurs_here : (byte : ℕ) (text : List ℕ) → OccursAt (byte ∷ text) mark_needle 0 → is_here byte text ≡ true
occurs_here byte [] o = absurd (omega (arith, o.fits))
occurs_here byte (a ∷ []) o = absurd (omega (arith, o.fits))
occurs_here byte (a ∷ b ∷ []) o = absurd (omega (arith, o.fits))
occurs_here byte (a ∷ b ∷ c ∷ text) o =
    and_from _ _ (eq-eqb byte 10 (o.reads 0 (omega arith)))
    (and_from _ _ (eq-eqb 97 a (sym (o.reads 1 (omega arith)))) (and_from _ _ (eq-eqb 116 b (sym (o.reads 2 (omega arith)))) (and_from _ _ (eq-eqb 44 c (sym (o.reads 3 (omega arith)))) refl)))

here_reads : (byte a b c : ℕ) (text : List ℕ) → byte ≡ 10 → a ≡ 97 → b ≡ 116 → c ≡ 44 → OccursAt (byte ∷ a ∷ b ∷ c ∷ text) mark_needle 0
here_reads byte a b c text is0 is1 is2 is3 = record { fits = omega arith; reads = at_each }
  where
    at_each : (j : ℕ) → j < 4 → slice_index (byte ∷ a ∷ b ∷ c ∷ text) (0 + j) ≡ slice_index mark_needle j
    at_each zero small = is0
    at_each (suc zero) small = is1
    at_each (suc (suc zero)) small = is2
    at_each (suc (suc (suc zero))) small = is3
    at_each (suc (suc (suc (suc j)))) small = absurd (omega arith)

here_occurs : (byte : ℕ) (text : List ℕ) → is_here byte text ≡ true → OccursAt (byte ∷ text) mark_needle 0
here_occurs byte [] here = absurd (cc (and_parts (byte == 10) false here).1)
here_occurs byte (a ∷ []) here = absurd (cc (and_parts (nat_eq 97 a) false (and_parts (byte == 10) (nat_eq 97 a && false) here).1).1)
here_occurs byte (a ∷ b ∷ []) here = absurd (cc (and_parts (nat_eq 116 b) false (and_parts (nat_eq 97 a) (nat_eq 116 b && false) (and_parts (byte == 10) (nat_eq 97 a && (nat_eq 116 b && false)) here).1).1).1)
here_occurs byte (a ∷ b ∷ c ∷ text) here =
    let one = and_parts _ _ here in
    let two = and_parts _ _ one.1 in
    let three = and_parts _ _ two.1 in
    let four = and_parts _ _ three.1 in
    here_reads byte a b c text (eqb-true byte 10 one.0) (sym (eqb-true 97 a two.0)) (sym (eqb-true 116 b three.0)) (sym (eqb-true 44 c four.0))

one_further : (k j : ℕ) → suc k + j ≡ suc (k + j)
one_further k j = omega arith

occurs_later : (byte : ℕ) (text : List ℕ) (k : ℕ) → OccursAt text mark_needle k → OccursAt (byte ∷ text) mark_needle (suc k)
occurs_later byte text k o = record { fits = omega (arith, o.fits); reads = λ j small. ap (λ n. slice_index (byte ∷ text) n) (one_further k j) ∙ o.reads j small }

later_occurs : (byte : ℕ) (text : List ℕ) (k : ℕ) → OccursAt (byte ∷ text) mark_needle (suc k) → OccursAt text mark_needle k
later_occurs byte text k o = record { fits = omega (arith, o.fits); reads = λ j small. sym (ap (λ n. slice_index (byte ∷ text) n) (one_further k j)) ∙ o.reads j small }

-- where no line that begins so stands at the front, it is all one whether a line begins there
pub not_here : (i : ℕ) (begins : Bool) (text : List ℕ) → (begins && is_mark text) ≡ false → mark_from i begins text ≡ mark_from i false text
not_here i begins [] none = refl
not_here i begins (byte ∷ text) none = ap (λ b. cond b (Some i) (mark_from (i + 1) (byte == 10) text)) none

pub is_at_front : (i : ℕ) (text : List ℕ) → is_mark text ≡ true → mark_from i true text ≡ Some i
is_at_front i [] mark = cc
is_at_front i (byte ∷ text) mark = ap (λ b. cond b (Some i) (mark_from (i + 1) (byte == 10) text)) mark

mark_step : (i byte : ℕ) (text : List ℕ) (r : Option ℕ) (t : Bool) → is_here byte text ≡ t → FindsNeedle (byte ∷ text) mark_needle 0 r
    → ((s : Option ℕ) → FindsNeedle text mark_needle 0 s → mark_from (i + 1) false text ≡ option_map (λ k. (i + 1) + suc k) s)
    → mark_from (i + 1) (byte == 10) text ≡ option_map (λ k. i + suc k) r
mark_step i byte text None true is first rest = absurd (first 0 (omega arith) (omega arith) (here_occurs byte text is))
mark_step i byte text (Some zero) true is first rest =
    let parts = and_parts (byte == 10) (is_mark text) is in
    let place : i + 1 ≡ i + suc zero = omega arith in
    ap (λ b. mark_from (i + 1) b text) parts.0 ∙ is_at_front (i + 1) text parts.1 ∙ ap Some place
mark_step i byte text (Some (suc k)) true is first rest = absurd (first.0.before 0 (omega arith) (omega arith) (here_occurs byte text is))
mark_step i byte text None false is first rest =
    not_here (i + 1) (byte == 10) text is ∙ rest None (λ k low high here. first (suc k) (omega arith) (omega arith) (occurs_later byte text k here))
mark_step i byte text (Some zero) false is first rest = absurd (cc (occurs_here byte text first.1, is))
mark_step i byte text (Some (suc k)) false is first rest =
    not_here (i + 1) (byte == 10) text is
    ∙ rest (Some k) (record { low = omega arith; high = omega (arith, first.0.high); before = λ j low small here. first.0.before (suc j) (omega arith) (omega arith) (occurs_later byte text j here) }, later_occurs byte text k first.1)
    ∙ ap Some (omega arith)

pub mark_found_by : (i : ℕ) (text : List ℕ) (r : Option ℕ) → FindsNeedle text mark_needle 0 r → mark_from i false text ≡ option_map (λ k. i + suc k) r
mark_found_by i [] None first = refl
mark_found_by i [] (Some k) first = absurd (omega (arith, first.1.fits))
mark_found_by i (byte ∷ text) r first = mark_step i byte text r (is_here byte text) refl first (mark_found_by (i + 1) text)

-- ---- rows

-- the last byte of some tells whether they end a line
pub last_ends : (begins : Bool) (byte : ℕ) (rows : List ℕ) → option_map_or (λ b. b == 10) (slice_get (byte ∷ rows) (length rows)) begins ≡ ends_line_from (byte == 10) rows
last_ends begins byte [] = refl
last_ends begins byte (second ∷ rows) = last_ends begins second rows

-- rows are whole lines where no line of them begins so and the last one ends
pub rows_by_marks : (i : ℕ) (begins : Bool) (rows : List ℕ) → (is_none (mark_from i begins rows) && ends_line_from begins rows) ≡ are_rows_from begins rows
rows_by_marks i begins [] = refl
rows_by_marks i begins (byte ∷ rows) = by_mark (begins && is_mark (byte ∷ rows)) (rows_by_marks (i + 1) (byte == 10) rows)
  where
    by_mark : (t : Bool) → (is_none (mark_from (i + 1) (byte == 10) rows) && ends_line_from (byte == 10) rows) ≡ are_rows_from (byte == 10) rows
        → (is_none (cond t (Some i) (mark_from (i + 1) (byte == 10) rows)) && ends_line_from (byte == 10) rows) ≡ (not t && are_rows_from (byte == 10) rows)
    by_mark true behind = refl
    by_mark false behind = behind

pub ends_by_last : (bytes : List ℕ) → option_map_or (λ b. b == 10) (slice_get bytes (length bytes - 1)) true ≡ ends_line_from true bytes
ends_by_last [] = refl
ends_by_last (byte ∷ bytes) =
    let last : length (byte ∷ bytes) - 1 ≡ length bytes = omega arith in
    ap (λ n. option_map_or (λ b. b == 10) (slice_get (byte ∷ bytes) n) true) last ∙ last_ends true byte bytes

pub rows_none : (rows : List ℕ) → None ≡ mark_from 0 true rows → ends_line_from true rows ≡ are_rows_from true rows
rows_none rows none = ap (λ (o : Option ℕ). is_none o && ends_line_from true rows) none ∙ rows_by_marks 0 true rows

pub rows_some : (rows : List ℕ) (i : ℕ) → Some i ≡ mark_from 0 true rows → false ≡ are_rows_from true rows
rows_some rows i some = ap (λ (o : Option ℕ). is_none o && ends_line_from true rows) some ∙ rows_by_marks 0 true rows

-- a test whether there is none
pub none_is : (r : Bool) (o : Option ℕ) → is_some o ≡ not r → r ≡ is_none o
none_is true None h = refl
none_is true (Some x) h = h
none_is false None h = h
none_is false (Some x) h = refl

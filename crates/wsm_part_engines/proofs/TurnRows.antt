-- The rows of several engines by their places stand in the order of a turn.
use Rattle.std.proofs.Common.{◌≡◌, ◌⊎◌, inl, inr, ℕ, suc, ◌+◌, ◌*◌, ◌<◌, ◌≤◌, Bool, true, false, cond, List, [], ◌∷◌, ◌++◌, length, map, get_or, pos, Option, nat_lt, refl, sym, ap, subst, ◌∙◌, arith}
use Rattle.std.proofs.lemmas.Bool.{true≢false}
use Rattle.std.proofs.lemmas.Bool.Decides.{nat_tests}
use Rattle.std.proofs.Math.Nat.{mul-le-mul_right}
use Rattle.std.specs.Prelude.{flat_map}
use Rattle.std.specs.List.{AllByRecursion, range_with_len}
use Rattle.std.specs.Ordering.{nat_cmp, int_cmp, ordering_then, is_gt}
use Rattle.std.specs.declared.cmp.Ordering.{Ordering}
use Rattle.std.specs.declared.cmp.Ordering.TheVariants.{Less, Equal, Greater}
use Rattle.wsm_semantics.specs.declared.out_row.OutRow.{OutRow}
use Rattle.wsm_semantics.specs.declared.out_row.OutRow.TheVariants.{Pane, Retract, Istream, Dstream, Rstream}
use Rattle.wsm_semantics.specs.ByNumber.{row_by}
use Rattle.wsm_semantics.proofs.Lists.{all-each}
use Rattle.wsm_semantics.proofs.Each.{all-append}
use Rattle.wsm_engine.specs.State.{State as EngineState}
use Rattle.wsm_key_parts.specs.Merged.{turn_cmp, with_row, in_order}
use Rattle.wsm_part_engines.specs.declared.row_place.RowPlace.{RowPlace}
use Rattle.wsm_part_engines.specs.Fits.{engine_at, number_of}
use Rattle.wsm_part_engines.specs.Slots.{rows_of}
use Rattle.wsm_part_engines.specs.Ordered.{place_in, places_from, all_places, row_at, row_cmp, with_place, in_row_order}
use Rattle.wsm_part_engines.proofs.RowPlaces.{all_ordered}

-- ---- rows whose numbers keep their order

number_cmp : (c x y : ℕ) → nat_cmp (c + x) (c + y) ≡ nat_cmp x y
number_cmp c x y = grind (arith, nat_tests)

keeps_order : (block part : ℕ) (a b : OutRow) → turn_cmp (row_by (number_of block part) a) (row_by (number_of block part) b) ≡ turn_cmp a b
keeps_order block part (Pane k key w cs) (Pane k' key' w' cs') = ap (λ (o : Ordering). ordering_then (int_cmp w.end w'.end) (ordering_then (int_cmp w.start w'.start) o)) (number_cmp (part * block) key key')
keeps_order block part (Retract key w cs) (Retract key' w' cs') = ap (λ (o : Ordering). ordering_then (int_cmp w.end w'.end) (ordering_then (int_cmp w.start w'.start) o)) (number_cmp (part * block) key key')
keeps_order block part (Pane k key w cs) (Retract key' w' cs') = refl
keeps_order block part (Pane k key w cs) (Istream m' cs') = refl
keeps_order block part (Pane k key w cs) (Dstream m' cs') = refl
keeps_order block part (Pane k key w cs) (Rstream m' cs') = refl
keeps_order block part (Retract key w cs) (Pane k' key' w' cs') = refl
keeps_order block part (Retract key w cs) (Istream m' cs') = refl
keeps_order block part (Retract key w cs) (Dstream m' cs') = refl
keeps_order block part (Retract key w cs) (Rstream m' cs') = refl
keeps_order block part (Istream m cs) (Pane k' key' w' cs') = refl
keeps_order block part (Istream m cs) (Retract key' w' cs') = refl
keeps_order block part (Istream m cs) (Istream m' cs') = refl
keeps_order block part (Istream m cs) (Dstream m' cs') = refl
keeps_order block part (Istream m cs) (Rstream m' cs') = refl
keeps_order block part (Dstream m cs) (Pane k' key' w' cs') = refl
keeps_order block part (Dstream m cs) (Retract key' w' cs') = refl
keeps_order block part (Dstream m cs) (Istream m' cs') = refl
keeps_order block part (Dstream m cs) (Dstream m' cs') = refl
keeps_order block part (Dstream m cs) (Rstream m' cs') = refl
keeps_order block part (Rstream m cs) (Pane k' key' w' cs') = refl
keeps_order block part (Rstream m cs) (Retract key' w' cs') = refl
keeps_order block part (Rstream m cs) (Istream m' cs') = refl
keeps_order block part (Rstream m cs) (Dstream m' cs') = refl
keeps_order block part (Rstream m cs) (Rstream m' cs') = refl

with_number : (block part : ℕ) (r : OutRow) (rows : List OutRow) → with_row (row_by (number_of block part) r) (map (row_by (number_of block part)) rows) ≡ map (row_by (number_of block part)) (with_row r rows)
with_number block part r [] = refl
with_number block part r (x ∷ xs) =
    let f : OutRow → OutRow = row_by (number_of block part) in
    ap (λ (o : Ordering). cond (is_gt o) (f x ∷ with_row (f r) (map f xs)) (f r ∷ f x ∷ map f xs)) (keeps_order block part r x)
    ∙ elim (is_gt (turn_cmp r x)) as (λ b. cond b (f x ∷ with_row (f r) (map f xs)) (f r ∷ f x ∷ map f xs) ≡ map f (cond b (x ∷ with_row r xs) (r ∷ x ∷ xs))) [
      | true ↦ ap (λ (rows : List OutRow). f x ∷ rows) (with_number block part r xs)
      | false ↦ refl
    ]

-- rows of one part stand in order by their numbers as they do by their places
pub numbered_order : (block part : ℕ) (rows : List OutRow) → in_order (map (row_by (number_of block part)) rows) ≡ map (row_by (number_of block part)) (in_order rows)
numbered_order block part [] = refl
numbered_order block part (r ∷ rows) = ap (with_row (row_by (number_of block part) r)) (numbered_order block part rows) ∙ with_number block part r (in_order rows)

-- ---- places and rows agree

-- the row is of a key that is a place of a part
abbrev pub is_own : ℕ → OutRow → Bool
is_own block (Pane kind key window columns) = nat_lt key block
is_own block (Retract key window columns) = nat_lt key block
is_own block _ = false

same_tail : (o x y : Ordering) → is_gt x ≡ is_gt y → is_gt (ordering_then o x) ≡ is_gt (ordering_then o y)
same_tail Less x y h = refl
same_tail Equal x y h = h
same_tail Greater x y h = refl

-- one place of a row comes before another
abbrev Before : RowPlace → RowPlace → Type 0
Before p x = (p.part < x.part) ⊎ ((p.part ≡ x.part) × (p.row < x.row))

less_is : (x y : ℕ) → x < y → nat_cmp x y ≡ Less
less_is x y h = grind (arith, nat_tests)

same_is : (x y : ℕ) → x ≡ y → nat_cmp x y ≡ Equal
same_is x y h = grind (arith, nat_tests)

then_less : (o r : Ordering) → r ≡ Less → is_gt (ordering_then o r) ≡ is_gt o
then_less Less r h = refl
then_less Equal r h = ap is_gt h
then_less Greater r h = refl

by_part : (block p q k l i j : ℕ) → k < block → (p < q) ⊎ ((p ≡ q) × (i < j))
    → is_gt (ordering_then (nat_cmp p q) (ordering_then (nat_cmp k l) (nat_cmp i j))) ≡ is_gt (nat_cmp (p * block + k) (q * block + l))
by_part block p q k l i j own (inl h) =
    let more : (p + 1) * block ≤ q * block = mul-le-mul_right block (let le : p + 1 ≤ q = omega (arith, h) in le) in
    let low : p * block + k < q * block + l = omega (arith, more, own) in
    ap (λ (o : Ordering). is_gt (ordering_then o (ordering_then (nat_cmp k l) (nat_cmp i j)))) (less_is p q h) ∙ sym (ap is_gt (less_is (p * block + k) (q * block + l) low))
by_part block p q k l i j own (inr h) =
    ap (λ (o : Ordering). is_gt (ordering_then o (ordering_then (nat_cmp k l) (nat_cmp i j)))) (same_is p q h.0)
    ∙ then_less (nat_cmp k l) (nat_cmp i j) (less_is i j h.1)
    ∙ sym (ap is_gt (number_cmp (p * block) k l))
    ∙ ap (λ (n : ℕ). is_gt (nat_cmp (p * block + k) (n * block + l))) h.0

known : (n m : ℕ) → nat_lt n m ≡ true → n < m
known n m h = grind (arith, nat_tests)

agreeing : (block p q i j : ℕ) (a b : OutRow) → is_own block a ≡ true → is_own block b ≡ true → (p < q) ⊎ ((p ≡ q) × (i < j))
    → is_gt (row_cmp (place_in p i a) (place_in q j b)) ≡ is_gt (turn_cmp (row_by (number_of block p) a) (row_by (number_of block q) b))
agreeing block p q i j (Pane kind key w cs) (Pane kind' key' w' cs') own own' before =
    same_tail (int_cmp w.end w'.end) _ _ (same_tail (int_cmp w.start w'.start) _ _ (by_part block p q key key' i j (known key block own) before))
agreeing block p q i j (Retract key w cs) (Retract key' w' cs') own own' before =
    same_tail (int_cmp w.end w'.end) _ _ (same_tail (int_cmp w.start w'.start) _ _ (by_part block p q key key' i j (known key block own) before))
agreeing block p q i j (Pane kind key w cs) (Retract key' w' cs') own own' before = refl
agreeing block p q i j (Retract key w cs) (Pane kind' key' w' cs') own own' before = refl
agreeing block p q i j (Pane kind key w cs) b own own' before = absurd (true≢false (sym own'))
agreeing block p q i j (Retract key w cs) b own own' before = absurd (true≢false (sym own'))
agreeing block p q i j a b own own' before = absurd (true≢false (sym own))

-- ---- what is told of a list of places

abbrev Pairs : (RowPlace → RowPlace → Type 0) → List RowPlace → Type 0
Pairs R [] = Unit {0}
Pairs R (p ∷ ps) = AllByRecursion (R p) ps × Pairs R ps

pairs-append : (R : RowPlace → RowPlace → Type 0) (ps qs : List RowPlace) → Pairs R ps → Pairs R qs → AllByRecursion (λ p. AllByRecursion (R p) qs) ps → Pairs R (ps ++ qs)
pairs-append R [] qs a b each = b
pairs-append R (p ∷ ps) qs a b each = (all-append (R p) ps qs a.0 each.0, pairs-append R ps qs a.1 b each.1)

from_row : (part i : ℕ) (rows : List OutRow) → AllByRecursion (λ p. (p.part ≡ part) × (i ≤ p.row)) (places_from part i rows)
from_row part i [] = tt
from_row part i (row ∷ rows) =
    ((refl, omega arith), all-each (λ p. (p.part ≡ part) × (i + 1 ≤ p.row)) (λ p. (p.part ≡ part) × (i ≤ p.row)) (places_from part (i + 1) rows) (λ p h. (h.0, let k = h.1 in omega (arith, k))) (from_row part (i + 1) rows))

rows_before : (part i : ℕ) (rows : List OutRow) → Pairs Before (places_from part i rows)
rows_before part i [] = tt
rows_before part i (row ∷ rows) = (
  all-each (λ p. (p.part ≡ part) × (i + 1 ≤ p.row)) (Before (place_in part i row)) (places_from part (i + 1) rows) (λ p h. inr (sym h.0, let k = h.1 in omega (arith, k))) (from_row part (i + 1) rows),
  rows_before part (i + 1) rows,
)

from_part : (part : ℕ) (slots : List (Option EngineState)) → AllByRecursion (λ p. part ≤ p.part) (all_places part slots)
from_part part [] = tt
from_part part (slot ∷ slots) =
    all-append (λ p. part ≤ p.part) (places_from part 0 (rows_of slot)) (all_places (part + 1) slots)
    (all-each (λ p. (p.part ≡ part) × (0 ≤ p.row)) (λ p. part ≤ p.part) (places_from part 0 (rows_of slot)) (λ p h. let k = h.0 in omega (arith, k)) (from_row part 0 (rows_of slot)))
    (all-each (λ p. part + 1 ≤ p.part) (λ p. part ≤ p.part) (all_places (part + 1) slots) (λ p h. omega (arith, h)) (from_part (part + 1) slots))

all_before : (part : ℕ) (slots : List (Option EngineState)) → Pairs Before (all_places part slots)
all_before part [] = tt
all_before part (slot ∷ slots) =
    pairs-append Before (places_from part 0 (rows_of slot)) (all_places (part + 1) slots) (rows_before part 0 (rows_of slot)) (all_before (part + 1) slots)
    (all-each (λ p. (p.part ≡ part) × (0 ≤ p.row)) (λ p. AllByRecursion (Before p) (all_places (part + 1) slots)) (places_from part 0 (rows_of slot))
    (λ p h. all-each (λ x. part + 1 ≤ x.part) (Before p) (all_places (part + 1) slots) (λ x k. inl (let e = h.0 in omega (arith, e, k))) (from_part (part + 1) slots)) (from_row part 0 (rows_of slot)))

-- ---- the rows of places

abbrev no_row : OutRow
no_row = Rstream (pos 0) []

module _ (block : ℕ) (slots : List (Option EngineState)) where
  abbrev at : RowPlace → OutRow
  at p = row_at block slots p

  -- a place is that of a row, which is of a key of the part
  record Told (p : RowPlace) : Type 0 where
    row : OutRow
    part : ℕ
    number : ℕ
    place : p ≡ place_in part number row
    shown : at p ≡ row_by (number_of block part) row
    own : is_own block row ≡ true

  told_from : (part i : ℕ) (all rows : List OutRow) → rows_of (engine_at slots part) ≡ all → ((k : ℕ) → get_or all (i + k) no_row ≡ get_or rows k no_row) → AllByRecursion (λ r. is_own block r ≡ true) rows
      → AllByRecursion Told (places_from part i rows) × (map at (places_from part i rows) ≡ map (row_by (number_of block part)) rows)
  told_from part i all [] is same own = (tt, refl)
  told_from part i all (row ∷ rows) is same own =
      let here : get_or (rows_of (engine_at slots part)) i no_row ≡ row = (λ j. get_or (is j) (let e : i ≡ i + 0 = omega arith in e j) no_row) ∙ same 0 in
      let shown : at (place_in part i row) ≡ row_by (number_of block part) row = ap (row_by (number_of block part)) here in
      let more = told_from part (i + 1) all rows is (λ k. (let e : i + 1 + k ≡ i + suc k = omega arith in ap (λ (n : ℕ). get_or all n no_row) e) ∙ same (suc k)) own.1 in
      ((record { row = row; part = part; number = i; place = refl; shown = shown; own = own.0 }, more.0), λ j. shown j ∷ more.1 j)

  abbrev numbered : ℕ → List OutRow
  numbered part = map (row_by (number_of block part)) (rows_of (engine_at slots part))

  map-append : (ps qs : List RowPlace) → map at (ps ++ qs) ≡ map at ps ++ map at qs
  map-append [] qs = refl
  map-append (p ∷ ps) qs = ap (λ (rows : List OutRow). at p ∷ rows) (map-append ps qs)

  told_all : (part : ℕ) (some : List (Option EngineState)) → ((k : ℕ) → engine_at slots (part + k) ≡ engine_at some k) → ((n : ℕ) → AllByRecursion (λ r. is_own block r ≡ true) (rows_of (engine_at slots n)))
      → AllByRecursion Told (all_places part some) × (map at (all_places part some) ≡ flat_map numbered (range_with_len part (length some)))
  told_all part [] same own = (tt, refl)
  told_all part (slot ∷ some) same own =
      let is : engine_at slots part ≡ slot = (let e : part ≡ part + 0 = omega arith in ap (engine_at slots) e) ∙ same 0 in
      let rows : rows_of (engine_at slots part) ≡ rows_of slot = ap rows_of is in
      let here = told_from part 0 (rows_of slot) (rows_of slot) rows (λ k. (let e : 0 + k ≡ k = omega arith in ap (λ (n : ℕ). get_or (rows_of slot) n no_row) e)) (subst (AllByRecursion (λ r. is_own block r ≡ true)) rows (own part)) in
      let more = told_all (part + 1) some (λ k. (let e : part + 1 + k ≡ part + suc k = omega arith in ap (engine_at slots) e) ∙ same (suc k)) own in (
        all-append Told (places_from part 0 (rows_of slot)) (all_places (part + 1) some) here.0 more.0,
        map-append (places_from part 0 (rows_of slot)) (all_places (part + 1) some) ∙ (λ j. (here.1 ∙ ap (map (row_by (number_of block part))) (sym rows)) j ++ more.1 j),
      )

  abbrev Agree : RowPlace → RowPlace → Type 0
  Agree p x = is_gt (row_cmp p x) ≡ is_gt (turn_cmp (at p) (at x))

  agree_of : (p x : RowPlace) → Told p → Told x → Before p x → Agree p x
  agree_of p x a b before =
      let same : (p.part ≡ a.part) × (p.row ≡ a.number) = (ap (λ (y : RowPlace). y.part) a.place, ap (λ (y : RowPlace). y.row) a.place) in
      let other : (x.part ≡ b.part) × (x.row ≡ b.number) = (ap (λ (y : RowPlace). y.part) b.place, ap (λ (y : RowPlace). y.row) b.place) in
      (λ j. is_gt (row_cmp (a.place j) (b.place j)))
      ∙ agreeing block a.part b.part a.number b.number a.row b.row a.own b.own
      (elim before [
        | inl less ↦ inl (let s = same.0 in let o = other.0 in omega (arith, s, o, less))
        | inr tied ↦ inr (sym same.0 ∙ tied.0 ∙ other.0, let s = same.1 in let o = other.1 in let h = tied.1 in omega (arith, s, o, h))
      ])
      ∙ (λ j. is_gt (turn_cmp (sym a.shown j) (sym b.shown j)))

  pairs_agree : (ps : List RowPlace) → AllByRecursion Told ps → Pairs Before ps → Pairs Agree ps
  pairs_agree [] told before = tt
  pairs_agree (p ∷ ps) told before = (each p told.0 ps told.1 before.0, pairs_agree ps told.1 before.1) where
    each : (p : RowPlace) → Told p → (ps : List RowPlace) → AllByRecursion Told ps → AllByRecursion (Before p) ps → AllByRecursion (Agree p) ps
    each p here [] told before = tt
    each p here (x ∷ xs) told before = (agree_of p x here told.0 before.0, each p here xs told.1 before.1)

  with_agree : (p : RowPlace) (ps : List RowPlace) → AllByRecursion (Agree p) ps → map at (with_place p ps) ≡ with_row (at p) (map at ps)
  with_agree p [] agree = refl
  with_agree p (x ∷ xs) agree =
      elim (is_gt (row_cmp p x)) as (λ b. map at (cond b (x ∷ with_place p xs) (p ∷ x ∷ xs)) ≡ cond b (at x ∷ with_row (at p) (map at xs)) (at p ∷ at x ∷ map at xs)) [
        | true ↦ ap (λ (rows : List OutRow). at x ∷ rows) (with_agree p xs agree.1)
        | false ↦ refl
      ]
      ∙ ap (λ (b : Bool). cond b (at x ∷ with_row (at p) (map at xs)) (at p ∷ at x ∷ map at xs)) agree.0

  in_agree : (ps : List RowPlace) → Pairs Agree ps → map at (in_row_order ps) ≡ in_order (map at ps)
  in_agree [] agree = refl
  in_agree (p ∷ ps) agree = with_agree p (in_row_order ps) (all_ordered (Agree p) ps agree.0) ∙ ap (with_row (at p)) (in_agree ps agree.1)

  module _ (own : (part : ℕ) → AllByRecursion (λ r. is_own block r ≡ true) (rows_of (engine_at slots part))) where
    told_here : AllByRecursion Told (all_places 0 slots) × (map at (all_places 0 slots) ≡ flat_map numbered (range_with_len 0 (length slots)))
    told_here = told_all 0 slots (λ k. let e : 0 + k ≡ k = omega arith in ap (engine_at slots) e) own

    -- the rows of all parts by their places, one part after the other
    pub all_rows : map at (all_places 0 slots) ≡ flat_map numbered (range_with_len 0 (length slots))
    all_rows = told_here.1

    -- the rows of all parts by their places in order are in the order of a turn
    pub rows_in_order : map at (in_row_order (all_places 0 slots)) ≡ in_order (flat_map numbered (range_with_len 0 (length slots)))
    rows_in_order = in_agree (all_places 0 slots) (pairs_agree (all_places 0 slots) told_here.0 (all_before 0 slots)) ∙ ap in_order told_here.1

  -- those of one part stand as they are
  pub rows_of_one : (part : ℕ) → AllByRecursion (λ r. is_own block r ≡ true) (rows_of (engine_at slots part)) → map at (places_from part 0 (rows_of (engine_at slots part))) ≡ numbered part
  rows_of_one part own =
      (told_from part 0 (rows_of (engine_at slots part)) (rows_of (engine_at slots part)) refl (λ k. let e : 0 + k ≡ k = omega arith in ap (λ (n : ℕ). get_or (rows_of (engine_at slots part)) n no_row) e) own).1

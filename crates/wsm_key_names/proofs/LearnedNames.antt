-- Names that are learned as rows come.
use Rattle.std.proofs.Common.{◌≡◌, ◌∙◌, ◌&&◌, ◌||◌, ◌+◌, ℕ, suc, Bool, true, false, cond, not, List, [], ◌∷◌, ◌++◌, length, position, bytes_eq, Option, Some, None, Result, Ok, Err, refl, sym, ap, subst, inl, inr, arith}
use Rattle.std.specs.Prelude.{if◌then◌else◌, is_ok, nat_lt, IsSome}
use Rattle.std.specs.List.{list_any, prefix_len}
use Rattle.std.proofs.lemmas.Bool.{cases_Bool, ltb-true, true≢false}
use Rattle.std.proofs.lemmas.List.Folds.{list_any-append}
use Rattle.std.proofs.lemmas.Slice.Eq.{bytes_eq-Decides}
use Rattle.wsm_record.specs.declared.event.RowFault.{RowFault}
use Rattle.wsm_record.specs.Event.{Event}
use Rattle.wsm_record.specs.Schema.{Declared}
use Rattle.wsm_csv.specs.Cells.{event_of_cells}
use Rattle.wsm_csv.specs.KeyedRows.{said_as}
use Rattle.wsm_key_parts.specs.Names.{with_name, with_names}
use Rattle.wsm_key_parts.proofs.Names.{numbers_stay}
use Rattle.wsm_key_names.specs.Names.{is_key_name, learned}
use Rattle.wsm_key_names.specs.Reading.{by_names, key_cell, learned_of, names_after, names_after_rows, read_in_turn, ReadsByAll, StaysRead}
use Rattle.wsm_key_names.proofs.ByNames.{by_names_is, place_in}

-- ---- what isn't there has no number

none_passes : (t : List ℕ → Bool) (xs : List (List ℕ)) → list_any t xs ≡ false → prefix_len (λ x. not (t x)) xs ≡ length xs
none_passes t [] h = refl
none_passes t (x ∷ xs) h =
    elim (t x) as (λ b. (b || list_any t xs) ≡ false → cond (not b) (1 + prefix_len (λ y. not (t y)) xs) 0 ≡ suc (length xs)) [
      | true ↦ λ k. absurd (true≢false k)
      | false ↦ λ k. let rest = none_passes t xs k in omega (arith, rest)
    ] h

no_more : (n : ℕ) → nat_lt n n ≡ false
no_more n = elim (cases_Bool (nat_lt n n)) [
  | inl less ↦ let below = ltb-true n n less in absurd (omega (arith, below))
  | inr not_less ↦ not_less
]

pub no_number : (text : List ℕ) (names : List (List ℕ)) → list_any (bytes_eq text) names ≡ false → position (bytes_eq text) names ≡ None
no_number text names h = rw (none_passes (bytes_eq text) names h, no_more (length names)) refl

not_some : IsSome {T = ℕ} None → ⊥
not_some e = cc e

-- what has no number isn't there
pub unknown : (names : List (List ℕ)) (text : List ℕ) → position (bytes_eq text) names ≡ None → list_any (bytes_eq text) names ≡ false
unknown names text none = elim (cases_Bool (list_any (bytes_eq text) names)) [
  | inl known ↦
      let same : with_name names text ≡ names = rw known refl in
      let some = subst (λ (ns : List (List ℕ)). IsSome (position (bytes_eq text) ns)) same (numbers_stay.known names text) in
      absurd (not_some (subst (λ (o : Option ℕ). IsSome o) none some))
  | inr new ↦ new
]

not_both_ways : (n : ℕ) → None ≡ Some n → ⊥
not_both_ways n e = cc e

-- what has one is
known : (names : List (List ℕ)) (text : List ℕ) (n : ℕ) → position (bytes_eq text) names ≡ Some n → list_any (bytes_eq text) names ≡ true
known names text n some = elim (cases_Bool (list_any (bytes_eq text) names)) [
  | inl is ↦ is
  | inr new ↦ absurd (not_both_ways n (sym (no_number text names new) ∙ some))
]

-- so it teaches nothing
pub teaches_nothing : (most : ℕ) (names : List (List ℕ)) (text : List ℕ) (n : ℕ) → position (bytes_eq text) names ≡ Some n → learned most names text ≡ names
teaches_nothing most names text n some =
    let is = known names text n some in
    elim (is_key_name text && nat_lt (length names) most) as (λ b. cond b (with_name names text) names ≡ names) [
      | true ↦ rw is refl
      | false ↦ refl
    ]

-- a new one that stands behind the others has the next number
pub next_number : (names new : List (List ℕ)) (text : List ℕ) (is_new : Bool) → position (bytes_eq text) names ≡ None → is_new ≡ not (list_any (bytes_eq text) names)
    → new ≡ (if is_new then names ++ text ∷ [] else names) → position (bytes_eq text) new ≡ Some (length names)
next_number names new text is_new none e grown =
    let absent = unknown names text none in
    let behind : with_name names text ≡ names ++ text ∷ [] = rw absent refl in
    let added : new ≡ names ++ text ∷ [] = grown ∙ ap (λ (b : Bool). if b then names ++ text ∷ [] else names) (e ∙ ap not absent) in
    ap (position (bytes_eq text)) (added ∙ sym behind) ∙ numbers_stay.next names text absent

-- ---- names that are learned are names that come

-- the names that came on rows, in the order in which they were learned
abbrev Comes : List (List ℕ) → List (List ℕ) → Type 0
Comes names all = (later : List (List ℕ)) × (all ≡ with_names names later)

learned_comes : (most : ℕ) (names : List (List ℕ)) (text : List ℕ) → Comes names (learned most names text)
learned_comes most names text =
    elim (is_key_name text && nat_lt (length names) most) as (λ b. Comes names (cond b (with_name names text) names)) [
      | true ↦ (text ∷ [], refl)
      | false ↦ ([], refl)
    ]

of_cell_comes : (most : ℕ) (names : List (List ℕ)) (cell : Option (List ℕ)) → Comes names (learned_of most names cell)
of_cell_comes most names None = ([], refl)
of_cell_comes most names (Some text) = learned_comes most names text

row_comes : (most : ℕ) (d : Declared) (names cells : List (List ℕ)) → Comes names (names_after most d names cells)
row_comes most d names cells =
    elim (is_ok (event_of_cells d cells)) as (λ b. Comes names (cond b (learned_of most names (key_cell cells)) names)) [
      | true ↦ of_cell_comes most names (key_cell cells)
      | false ↦ ([], refl)
    ]

more_come : (names early late : List (List ℕ)) → with_names (with_names names early) late ≡ with_names names (early ++ late)
more_come names [] late = refl
more_come names (name ∷ early) late = more_come (with_name names name) early late

rows_come : (most : ℕ) (d : Declared) (names : List (List ℕ)) (rows : List (List (List ℕ))) → Comes names (names_after_rows most d names rows)
rows_come most d names [] = ([], refl)
rows_come most d names (cells ∷ rows) =
    let first = row_comes most d names cells in
    let rest = rows_come most d (names_after most d names cells) rows in
    (first.0 ++ rest.0, rest.1 ∙ ap (λ (ns : List (List ℕ)). with_names ns rest.0) first.1 ∙ more_come names first.0 rest.0)

-- ---- what isn't learned isn't learned later

-- whether a text would be learned
abbrev may_be : ℕ → List (List ℕ) → List ℕ → Bool
may_be most names text = is_key_name text && nat_lt (length names) most

record IsOut (most : ℕ) (text : List ℕ) (names : List (List ℕ)) : Type 0 where
  none : list_any (bytes_eq text) names ≡ false
  never : may_be most names text ≡ false

not_both : (a b : Bool) → (a && b) ≡ false → b ≡ true → a ≡ false
not_both true b e h = absurd (true≢false (sym h ∙ e))
not_both false b e h = refl

left_of : (a b : Bool) → (a && b) ≡ true → a ≡ true
left_of true b e = refl
left_of false b e = e

right_of : (a b : Bool) → (a && b) ≡ true → b ≡ true
right_of true b e = e
right_of false b e = absurd (true≢false (sym e))

differ : (text other : List ℕ) → is_key_name text ≡ false → is_key_name other ≡ true → bytes_eq text other ≡ false
differ text other isnt is = elim (cases_Bool (bytes_eq text other)) [
  | inl same ↦ absurd (true≢false (sym is ∙ ap is_key_name (sym ((bytes_eq-Decides text other).0 same)) ∙ isnt))
  | inr differs ↦ differs
]

neither : (a b : Bool) → a ≡ false → b ≡ false → (a || (b || false)) ≡ false
neither a b e h = rw (e, h) refl

still_out : (most : ℕ) (text : List ℕ) (names : List (List ℕ)) (other : List ℕ) → IsOut most text names → may_be most names other ≡ true → IsOut most text (with_name names other)
still_out most text names other out learns =
    let isnt : is_key_name text ≡ false = not_both (is_key_name text) (nat_lt (length names) most) out.never (right_of (is_key_name other) (nat_lt (length names) most) learns) in
    let differs = differ text other isnt (left_of (is_key_name other) (nat_lt (length names) most) learns) in
    elim (list_any (bytes_eq other) names) as (λ b. IsOut most text (cond b names (names ++ other ∷ []))) [
      | true ↦ out
      | false ↦ record {
        none = list_any-append (bytes_eq text) names (other ∷ []) ∙ neither (list_any (bytes_eq text) names) (bytes_eq text other) out.none differs;
        never = ap (λ (b : Bool). b && nat_lt (length (names ++ other ∷ [])) most) isnt;
      }
    ]

learned_out : (most : ℕ) (text : List ℕ) (names : List (List ℕ)) (other : List ℕ) → IsOut most text names → IsOut most text (learned most names other)
learned_out most text names other out = elim (cases_Bool (may_be most names other)) [
  | inl learns ↦ rw learns (still_out most text names other out learns)
  | inr not_learned ↦ rw not_learned out
]

of_cell_out : (most : ℕ) (text : List ℕ) (names : List (List ℕ)) (cell : Option (List ℕ)) → IsOut most text names → IsOut most text (learned_of most names cell)
of_cell_out most text names None out = out
of_cell_out most text names (Some other) out = learned_out most text names other out

row_out : (most : ℕ) (text : List ℕ) (d : Declared) (names cells : List (List ℕ)) → IsOut most text names → IsOut most text (names_after most d names cells)
row_out most text d names cells out =
    elim (is_ok (event_of_cells d cells)) as (λ b. IsOut most text (cond b (learned_of most names (key_cell cells)) names)) [
      | true ↦ of_cell_out most text names (key_cell cells) out
      | false ↦ out
    ]

rows_out : (most : ℕ) (text : List ℕ) (d : Declared) (names : List (List ℕ)) (rows : List (List (List ℕ))) → IsOut most text names → IsOut most text (names_after_rows most d names rows)
rows_out most text d names [] out = out
rows_out most text d names (cells ∷ rows) out = rows_out most text d (names_after most d names cells) rows (row_out most text d names cells out)

-- ---- so a text keeps its number, or has none

-- a name that is known is learned by a row as ever
known_stays : (most : ℕ) (names : List (List ℕ)) (text : List ℕ) → list_any (bytes_eq text) names ≡ true → learned most names text ≡ with_name names text
known_stays most names text known =
    elim (may_be most names text) as (λ b. cond b (with_name names text) names ≡ with_name names text) [
      | true ↦ refl
      | false ↦ rw known refl
    ]

came : (most : ℕ) (d : Declared) (names : List (List ℕ)) (text : List ℕ) (rows : List (List (List ℕ))) → learned most names text ≡ with_name names text
    → position (bytes_eq text) (names_after_rows most d (learned most names text) rows) ≡ position (bytes_eq text) (learned most names text)
came most d names text rows is =
    let more = rows_come most d (learned most names text) rows in
    ap (position (bytes_eq text)) more.1
    ∙ ap (λ (ns : List (List ℕ)). position (bytes_eq text) (with_names ns more.0)) is
    ∙ numbers_stay.stays names text more.0
    ∙ ap (position (bytes_eq text)) (sym is)

never_came : (most : ℕ) (d : Declared) (names : List (List ℕ)) (text : List ℕ) (rows : List (List (List ℕ))) → list_any (bytes_eq text) names ≡ false → may_be most names text ≡ false
    → position (bytes_eq text) (names_after_rows most d (learned most names text) rows) ≡ position (bytes_eq text) (learned most names text)
never_came most d names text rows none never =
    let is : learned most names text ≡ names = rw never refl in
    let out = rows_out most text d names rows (record { none = none; never = never }) in
    ap (λ (ns : List (List ℕ)). position (bytes_eq text) (names_after_rows most d ns rows)) is
    ∙ no_number text (names_after_rows most d names rows) out.none
    ∙ sym (no_number text names none)
    ∙ ap (position (bytes_eq text)) (sym is)

keeps_number : (most : ℕ) (d : Declared) (names : List (List ℕ)) (text : List ℕ) (rows : List (List (List ℕ)))
    → position (bytes_eq text) (names_after_rows most d (learned most names text) rows) ≡ position (bytes_eq text) (learned most names text)
keeps_number most d names text rows = elim (cases_Bool (list_any (bytes_eq text) names)) [
  | inl known ↦ came most d names text rows (known_stays most names text known)
  | inr none ↦ elim (cases_Bool (may_be most names text)) [
    | inl learns ↦ came most d names text rows (rw learns refl)
    | inr never ↦ never_came most d names text rows none never
  ]
]

cell_keeps : (most : ℕ) (d : Declared) (names : List (List ℕ)) (cell : Option (List ℕ)) (rows : List (List (List ℕ)))
    → place_in (names_after_rows most d (learned_of most names cell) rows) cell ≡ place_in (learned_of most names cell) cell
cell_keeps most d names None rows = refl
cell_keeps most d names (Some text) rows = keeps_number most d names text rows

-- ---- and a row says what it says

said_alike : (most : ℕ) (d : Declared) (names cells : List (List ℕ)) (rows : List (List (List ℕ))) (said : Result Event RowFault) → event_of_cells d cells ≡ said
    → said_as (place_in (names_after_rows most d (names_after most d names cells) rows) (key_cell cells)) said ≡ said_as (place_in (names_after most d names cells) (key_cell cells)) said
said_alike most d names cells rows (Err f) is = refl
said_alike most d names cells rows (Ok e) is =
    let after : names_after most d names cells ≡ learned_of most names (key_cell cells) = rw is refl in
    let keeps = cell_keeps most d names (key_cell cells) rows in
    ap (λ (key : Option ℕ). said_as key (Ok e))
    (subst (λ (ns : List (List ℕ)). place_in (names_after_rows most d ns rows) (key_cell cells) ≡ place_in ns (key_cell cells)) (sym after) keeps)

pub stays_read : StaysRead
stays_read most d names cells rows =
    by_names_is d (names_after_rows most d (names_after most d names cells) rows) cells
    ∙ said_alike most d names cells rows (event_of_cells d cells) refl
    ∙ sym (by_names_is d (names_after most d names cells) cells)

pub reads_by_all : ReadsByAll
reads_by_all most d names [] = refl
reads_by_all most d names (cells ∷ rows) =
    let all = names_after_rows most d (names_after most d names cells) rows in
    ap (λ (r : Result Event RowFault). r ∷ read_in_turn most d (names_after most d names cells) rows) (sym (stays_read most d names cells rows))
    ∙ ap (λ (rs : List (Result Event RowFault)). event_of_cells (by_names all d) cells ∷ rs) (reads_by_all most d (names_after most d names cells) rows)

-- ---- a row of a name that is known

pub known_row : (most : ℕ) (d : Declared) (names cells : List (List ℕ)) (text : List ℕ) (n : ℕ) → key_cell cells ≡ Some text → position (bytes_eq text) names ≡ Some n → names_after most d names cells ≡ names
known_row most d names cells text n key some =
    elim (is_ok (event_of_cells d cells)) as (λ b. cond b (learned_of most names (key_cell cells)) names ≡ names) [
      | true ↦ ap (learned_of most names) key ∙ teaches_nothing most names text n some
      | false ↦ refl
    ]

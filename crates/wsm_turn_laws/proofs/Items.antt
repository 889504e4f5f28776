-- What is handed on at a line: watermarks, and records that waited.
use Rattle.std.proofs.Common.{◌≡◌, ◌≤◌, ℕ, Bool, true, false, cond, List, [], ◌∷◌, ◌++◌, map, ℤ, pos, ◌≤ℤ◌, refl, ◌∙◌, arith}
use Rattle.std.proofs.lemmas.Int.{ints}
use Rattle.std.proofs.lemmas.List.{append-nil}
use Rattle.std.proofs.lemmas.List.Sorted.{IsPermutation-refl}
use Rattle.std.specs.Prelude.{nat_lt}
use Rattle.std.specs.List.{AllByRecursion}
use Rattle.wsm_windows.specs.Windows.{IsShape}
use Rattle.wsm_watermarks.specs.declared.held.Timed.{Timed}
use Rattle.wsm_watermarks.specs.Held.{Item, Mark, Passed, all_passed, last_mark, mark_item, rows_of}
use Rattle.wsm_watermarks.proofs.KeptRows.{rows_append}
use Rattle.wsm_semantics.specs.Query.{Query}
use Rattle.wsm_doubles.specs.Passing.{SentText, TextDelivery, TextPassing, passing_texts}
use Rattle.wsm_turns.specs.Numbered.{Numbered}
use Rattle.wsm_turns.specs.Turns.{mark_at, numbered}
use Rattle.wsm_turn_laws.proofs.Passing.{goes_with_doubles, tells}
use Rattle.wsm_turn_laws.proofs.Standing.{GoesOn, Stands, goes_then, in_order}

abbrev Row : Type 0
Row = Timed Numbered

-- watermarks rise, and none is past the time of a record behind it
abbrev pub AreBehind : ℕ → List (Item Numbered) → Type 0
AreBehind told [] = Unit {0}
AreBehind told (Mark m ∷ is) = (told ≤ m) × AreBehind m is
AreBehind told (Passed r ∷ is) = (told ≤ r.time) × AreBehind told is

behind-append : (told : ℕ) (is js : List (Item Numbered)) → AreBehind told is → AreBehind (last_mark told is) js → AreBehind told (is ++ js)
behind-append told [] js h k = k
behind-append told (Mark m ∷ is) js h k = (h.0, behind-append m is js h.1 k)
behind-append told (Passed r ∷ is) js h k = (h.0, behind-append told is js h.1 k)

last_mark-append : (told : ℕ) (is js : List (Item Numbered)) → last_mark told (is ++ js) ≡ last_mark (last_mark told is) js
last_mark-append told [] js = refl
last_mark-append told (Mark m ∷ is) js = last_mark-append m is js
last_mark-append told (Passed r ∷ is) js = last_mark-append told is js

-- behind what goes stands the watermark, where it rises
pub with_mark : (told top : ℕ) (is : List (Item Numbered)) → AreBehind told is → last_mark told is ≤ top → AreBehind told (is ++ mark_item (last_mark told is) top)
with_mark told top is h le = behind-append told is (mark_item (last_mark told is) top) h (one (nat_lt (last_mark told is) top))
  where
    one : (b : Bool) → AreBehind (last_mark told is) (cond b (Mark top ∷ []) [])
    one true = (le, tt)
    one false = tt

pub last_with_mark : (told top : ℕ) (is : List (Item Numbered)) → last_mark told is ≤ top → last_mark told (is ++ mark_item (last_mark told is) top) ≤ top
last_with_mark told top is le = let h = last_mark-append told is (mark_item (last_mark told is) top) in let n = one (nat_lt (last_mark told is) top) in omega (arith, h, n)
  where
    one : (b : Bool) → last_mark {T = Numbered} (last_mark told is) (cond b (Mark top ∷ []) []) ≤ top
    one true = omega arith
    one false = le

pub rows_with_mark : (old new : ℕ) (is : List (Item Numbered)) → rows_of (is ++ mark_item old new) ≡ rows_of is
rows_with_mark old new is = rows_append is (mark_item old new) ∙ one (nat_lt old new)
  where
    one : (b : Bool) → rows_of is ++ rows_of (cond b (Mark new ∷ []) []) ≡ rows_of is
    one true = append-nil (rows_of is)
    one false = append-nil (rows_of is)

-- records that all are ahead of the watermark
pub behind_all : (told : ℕ) (rows : List Row) → AllByRecursion (λ r. told ≤ r.time) rows → AreBehind told (all_passed rows)
behind_all told [] all = tt
behind_all told (r ∷ rows) all = (all.0, behind_all told rows all.1)

pub last_all : (told : ℕ) (rows : List Row) → last_mark told (all_passed rows) ≡ told
last_all told [] = refl
last_all told (r ∷ rows) = last_all told rows

module _ (q : Query) (name : ℕ → List ℕ) where
  later : (o : TextPassing) (doubles : List SentText) (rows : List Row) (told last : ℕ) → told ≤ last → Stands q name o doubles rows told → Stands q name o doubles rows last
  later o doubles rows told last le k = record { once = k.once; theirs = k.theirs; low = still _ told last k.low le; of_time = k.of_time; prompt = k.prompt }
    where
      still : (m : ℤ) (told last : ℕ) → m ≤ℤ pos told → told ≤ last → m ≤ℤ pos last
      still m told last h k = omega (arith, ints)

  module _ (shape : IsShape q.shape) (lateness : pos 0 ≤ℤ q.clock.lateness) where
    pub items_go : (is : List (Item Numbered)) (number : ℕ) (rest : List Row) (ds : List TextDelivery) (o : TextPassing) (doubles : List SentText) (told last : ℕ)
        → passing_texts q ds ≡ o → Stands q name o doubles (rows_of is ++ rest) told → AreBehind told is → last_mark told is ≤ last → GoesOn q name [] ds o doubles (rows_of is ++ rest) rest last (map (numbered number) is)
    items_go [] number rest ds o doubles told last same k behind le = in_order q name ds o doubles rest rest last same (later o doubles rest told last le k) (IsPermutation-refl rest)
    items_go (Mark m ∷ is) number rest ds o doubles told last same k behind le =
        let rows : List Row = rows_of is ++ rest in
        let one = tells q name ds o doubles rows told number m same k behind.0 in
        goes_then q name [] [] ds o doubles rows rows rest m last (record { number = number; event = mark_at m } ∷ []) (map (numbered number) is) one
        (items_go is number rest one.deliveries one.passing one.left m last one.is one.stands behind.1 le)
    items_go (Passed r ∷ is) number rest ds o doubles told last same k behind le =
        let rows : List Row = rows_of is ++ rest in
        let one = goes_with_doubles q name shape lateness r r.row ds o doubles rows told same k behind.0 refl in
        goes_then q name [] [] ds o doubles (r ∷ rows) rows rest told last (r.row ∷ []) (map (numbered number) is) one
        (items_go is number rest one.deliveries one.passing one.left told last one.is one.stands behind.1 le)

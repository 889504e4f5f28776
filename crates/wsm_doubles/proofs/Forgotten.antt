-- What can't count at a watermark can't count at a later one: what is kept of it is of no account.
use Rattle.std.proofs.Common.{◌≡◌, ℕ, Bool, true, false, ◌&&◌, ◌||◌, cond, not, List, [], ◌∷◌, ◌++◌, ℤ, ◌≤ℤ◌, refl, sym, ap, ◌∙◌, arith}
use Rattle.std.proofs.Math.Bool.{and-false}
use Rattle.std.proofs.lemmas.Bool.{true≢false}
use Rattle.std.proofs.lemmas.Int.{ints}
use Rattle.std.specs.Prelude.{bytes_eq, filter}
use Rattle.wsm_windows.specs.declared.window.Shape.{Shape}
use Rattle.wsm_admission.specs.declared.clock.Clock.{Clock}
use Rattle.wsm_admission.specs.Clock.{is_late}
use Rattle.wsm_semantics.proofs.Deliveries.{prompt_sooner}
use Rattle.wsm_semantics.proofs.Each.{all-any, and_of, each_fails, filter-append, filter-each, filter-filter, list_any-append, list_any-filter, list_any-none}
use Rattle.wsm_semantics.proofs.Lists.{all-each}
use Rattle.wsm_doubles.specs.Memory.{Kept, Memory, Recalls, is_known, knows, least_room, live, may_count, remembered}

not_so : (b : Bool) → not b ≡ true → b ≡ false
not_so true h = absurd (true≢false (sym h))
not_so false h = refl

or_turned : (a b : Bool) → (a || (b || false)) ≡ (b || a)
or_turned true true = refl
or_turned true false = refl
or_turned false true = refl
or_turned false false = refl

or_nothing : (a : Bool) → (a || false) ≡ a
or_nothing true = refl
or_nothing false = refl

at_most : (w : ℤ) → w ≤ℤ w
at_most w = omega (arith, ints)

in_turn : (u v w : ℤ) → u ≤ℤ v → v ≤ℤ w → u ≤ℤ w
in_turn u v w h k = omega (arith, ints)

from_then : (w mark later : ℤ) → w ≡ mark → mark ≤ℤ later → w ≤ℤ later
from_then w mark later same rises = omega (arith, ints)

-- behind the others an entry counts as in front of them
put_last : (p : List ℕ × ℤ → Bool) (j : List ℕ) (k : List ℕ × ℤ) (xs : Memory) → knows j (filter p (xs ++ k ∷ [])) ≡ knows j (filter p (k ∷ xs))
put_last p j k xs =
    ap (knows j) (filter-append p xs (k ∷ []))
    ∙ list_any-append (λ e. bytes_eq j e.0) (filter p xs) (filter p (k ∷ []))
    ∙ (elim (p k) as (λ b. (knows j (filter p xs) || knows j (cond b (k ∷ []) [])) ≡ knows j (cond b (k ∷ filter p xs) (filter p xs))) [
      | true ↦ or_turned (knows j (filter p xs)) (bytes_eq j k.0)
      | false ↦ or_nothing (knows j (filter p xs))
    ])

module _ (c : Clock) (shape : Shape) where
  counts_before : (v w : ℤ) → v ≤ℤ w → (k : List ℕ × ℤ) → may_count c shape w k ≡ true → may_count c shape v k ≡ true
  counts_before v w rises k counts = ap not (prompt_sooner c.from_window shape c.lateness k.1 v w rises (not_so (is_late c shape w k.1) counts))

  pub live-live : (v w : ℤ) → v ≤ℤ w → (memory : Memory) → live c shape w (live c shape v memory) ≡ live c shape w memory
  live-live v w rises memory =
      filter-filter (may_count c shape w) (may_count c shape v) memory
      ∙ filter-each (λ k. may_count c shape v k && may_count c shape w k) (may_count c shape w) memory
      (all-any (λ k. (may_count c shape v k && may_count c shape w k) ≡ may_count c shape w k) (λ k. and_of (may_count c shape v k) (may_count c shape w k) (counts_before v w rises k)) memory)

  -- what isn't known isn't known later
  unknown_later : (v w : ℤ) → v ≤ℤ w → (i : List ℕ) (memory : Memory) → knows i (live c shape v memory) ≡ false → knows i (live c shape w memory) ≡ false
  unknown_later v w rises i memory unknown =
      ap (knows i) (sym (live-live v w rises memory))
      ∙ list_any-filter (λ k. bytes_eq i k.0) (may_count c shape w) (live c shape v memory)
      ∙ list_any-none (λ k. may_count c shape w k && bytes_eq i k.0) (live c shape v memory)
      (all-each (λ k. bytes_eq i k.0 ≡ false) (λ k. (may_count c shape w k && bytes_eq i k.0) ≡ false) (live c shape v memory)
      (λ k off. ap (λ (b : Bool). may_count c shape w k && b) off ∙ and-false (may_count c shape w k)) (each_fails (λ k. bytes_eq i k.0) (live c shape v memory) unknown))

  pub stays_unknown : (mark later : ℤ) (i : List ℕ) (kept : Kept) → mark ≤ℤ later → is_known c shape mark i kept ≡ false → is_known c shape later i kept ≡ false
  stays_unknown mark later i kept rises unknown = unknown_later mark later rises i kept.entries unknown

  -- ---- what is recalled

  pub nothing_yet : (mark : ℤ) → Recalls c shape mark (record { entries = []; room = least_room }) []
  nothing_yet mark = record { alike = λ later rises i. refl; prompt = refl }

  pub recalls_on : (mark later : ℤ) (kept : Kept) (memory : Memory) → mark ≤ℤ later → Recalls c shape mark kept memory → Recalls c shape later kept (live c shape later memory)
  recalls_on mark later kept memory rises r = record {
    alike = λ last on i. r.alike last (in_turn mark later last rises on) i ∙ ap (knows i) (sym (live-live later last on memory));
    prompt = live-live later later (at_most later) memory;
  }

  in_front : (i : List ℕ) (b : Bool) (k : List ℕ × ℤ) (xs ys : Memory) → knows i xs ≡ knows i ys → knows i (cond b (k ∷ xs) xs) ≡ knows i (cond b (k ∷ ys) ys)
  in_front i true k xs ys same = ap (λ (b : Bool). bytes_eq i k.0 || b) same
  in_front i false k xs ys same = same

  -- a record that passes is taken note of, behind a call that drops what can't count
  pub noted : (mark w : ℤ) (old new : Kept) (mid : Memory) (memory : Memory) (i : List ℕ) (time u : ℤ) → w ≡ mark → u ≡ time → Recalls c shape mark old memory
      → ((later : ℤ) → w ≤ℤ later → live c shape later mid ≡ live c shape later old.entries)
      → new.entries ≡ mid ++ (i, u) ∷ []
      → Recalls c shape mark new (remembered c shape mark i time memory)
  noted mark w old new mid memory i time u then at r stays added =
      let same : (later : ℤ) → mark ≤ℤ later → live c shape later mid ≡ live c shape later old.entries = λ later rises. stays later (from_then w mark later then rises) in
      record {
        alike = λ later rises j.
            ap (λ (m : Memory). knows j (live c shape later m)) added
            ∙ put_last (may_count c shape later) j (i, u) mid
            ∙ ap (λ (t : ℤ). knows j (live c shape later ((i, t) ∷ mid))) at
            ∙ in_front j (may_count c shape later (i, time)) (i, time) (live c shape later mid) (live c shape later memory) (ap (knows j) (same later rises) ∙ r.alike later rises j)
            ∙ ap (knows j) (sym (live-live mark later rises ((i, time) ∷ memory)));
        prompt = live-live mark mark (at_most mark) ((i, time) ∷ memory);
      }

-- Identifiers that come to be remembered, or are forgotten as a record of their time is late: what can count at a watermark stays.
use Rattle.std.proofs.Common.{◌≡◌, ◌≤◌, ◌+◌, ℕ, Bool, ◌&&◌, List, ◌∷◌, ◌++◌, ℤ, ◌≤ℤ◌, refl, sym, ap, ◌∙◌, arith}
use Rattle.std.proofs.lemmas.Int.{ints}
use Rattle.std.proofs.lemmas.List.Elements.{filter-append}
use Rattle.std.proofs.lemmas.List.Sorted.{IsPermutation-sym, IsPermutation-middle}
use Rattle.std.specs.Prelude.{IsPermutation}
use Rattle.std.specs.List.{count_by}
use Rattle.wsm_windows.specs.declared.window.Shape.{Shape}
use Rattle.wsm_admission.specs.declared.clock.Clock.{Clock}
use Rattle.wsm_doubles.specs.Memory.{Memory, live, may_count}
use Rattle.wsm_doubles.proofs.Forgotten.{live-live}
use Rattle.wsm_turn_laws.proofs.Counts.{count-append, count-filter, count-permuted, filter-fewer}

abbrev pub Entry : Type 0
Entry = List ℕ × ℤ

pub in_turn : (u v w : ℤ) → u ≤ℤ v → v ≤ℤ w → u ≤ℤ w
in_turn u v w h k = omega (arith, ints)

pub at_most : (mark : ℤ) → mark ≤ℤ mark
at_most mark = omega (arith, ints)

module _ (c : Clock) (shape : Shape) where
  -- what can count at a mark, or later, is the same, and nothing was added
  pub record Moves (mark : ℤ) (old new : Memory) : Type 0 where
    pub same : (later : ℤ) → mark ≤ℤ later → (p : Entry → Bool) → count_by p (live c shape later new) ≡ count_by p (live c shape later old)
    pub less : (p : Entry → Bool) → count_by p new ≤ count_by p old

  pub moves_not : (mark : ℤ) (memory : Memory) → Moves mark memory memory
  moves_not mark memory = record { same = λ later rises p. refl; less = λ p. omega arith }

  pub moves_then : (mark last : ℤ) (a b d : Memory) → mark ≤ℤ last → Moves mark a b → Moves last b d → Moves last a d
  moves_then mark last a b d rises one two = record {
    same = λ later on p. two.same later on p ∙ one.same later (in_turn mark last later rises on) p;
    less = λ p. let h = one.less p in let k = two.less p in omega (arith, h, k);
  }

  pub count-live-append : (mark : ℤ) (p : Entry → Bool) (xs ys : Memory) → count_by p (live c shape mark (xs ++ ys)) ≡ count_by p (live c shape mark xs) + count_by p (live c shape mark ys)
  count-live-append mark p xs ys =
      ap (λ (m : Memory). count_by p m) (filter-append (may_count c shape mark) xs ys) ∙ count-append p (live c shape mark xs) (live c shape mark ys)

  pub moves_behind : (mark : ℤ) (front a b : Memory) → Moves mark a b → Moves mark (front ++ a) (front ++ b)
  moves_behind mark front a b one = record {
    same = λ later on p.
        let h = one.same later on p in
        count-live-append later p front b ∙ ap (λ (n : ℕ). count_by p (live c shape later front) + n) h ∙ sym (count-live-append later p front a);
    less = λ p. let h = one.less p in let k = count-append p front a in let l = count-append p front b in omega (arith, h, k, l);
  }

  pub moves_live : (mark : ℤ) (memory : Memory) → Moves mark memory (live c shape mark memory)
  moves_live mark memory = record {
    same = λ later on p. ap (λ (m : Memory). count_by p m) (live-live c shape mark later on memory);
    less = λ p. filter-fewer p (may_count c shape mark) memory;
  }

  pub moves_order : (mark : ℤ) (a b : Memory) → IsPermutation a b → Moves mark a b
  moves_order mark a b permuted = record {
    same = λ later on p. count-filter p (may_count c shape later) b ∙ count-permuted (λ k. may_count c shape later k && p k) a b permuted ∙ sym (count-filter p (may_count c shape later) a);
    less = λ p. let h = count-permuted p a b permuted in omega (arith, h);
  }

  -- one that waited is remembered, and what can't count any more is forgotten
  pub moves_over : (mark : ℤ) (held memory : Memory) (k : Entry) → Moves mark ((k ∷ held) ++ memory) (held ++ live c shape mark (k ∷ memory))
  moves_over mark held memory k =
      moves_then mark mark ((k ∷ held) ++ memory) (held ++ k ∷ memory) (held ++ live c shape mark (k ∷ memory)) (at_most mark)
      (moves_order mark ((k ∷ held) ++ memory) (held ++ k ∷ memory) (IsPermutation-sym (held ++ k ∷ memory) (k ∷ (held ++ memory)) (IsPermutation-middle held k memory)))
      (moves_behind mark held (k ∷ memory) (live c shape mark (k ∷ memory)) (moves_live mark (k ∷ memory)))

  -- those that wait in another order
  pub moves_held : (mark : ℤ) (a b memory : Memory) → Moves mark a b → Moves mark (a ++ memory) (b ++ memory)
  moves_held mark a b memory one = record {
    same = λ later on p.
        let h = one.same later on p in
        count-live-append later p b memory ∙ ap (λ (n : ℕ). n + count_by p (live c shape later memory)) h ∙ sym (count-live-append later p a memory);
    less = λ p. let h = one.less p in let k = count-append p a memory in let l = count-append p b memory in omega (arith, h, k, l);
  }

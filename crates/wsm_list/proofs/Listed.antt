-- Slots that have an entry are those of the row, once each.
use Rattle.std.proofs.Common.{◌≡◌, ◌≢◌, ◌<◌, ◌≤◌, ◌+◌, ℕ, zero, suc, true, Option, Some, None, List, [], ◌∷◌, length, set, take, refl, sym, ap, ◌∙◌, inl, inr, arith}
use Rattle.std.proofs.lemmas.Bool.{true≢false, cases_eq}
use Rattle.std.proofs.lemmas.Bool.Decides.{nat_tests}
use Rattle.std.proofs.lemmas.List.{get_or-set_other, get_or-set_same, length-set}
use Rattle.std.specs.Prelude.{insert, slice_get}
use Rattle.std.specs.List.{remove}
use Rattle.std.specs.Option.{is_some}
use Rattle.wsm_windows.specs.declared.place.Place.{Place}
use Rattle.wsm_slots.specs.Slots.{AreFree, slot_at}
use Rattle.wsm_list.specs.Stored.{AreFreed, AreIn, AreListed, listed, same, shown, with_entry}
use Rattle.wsm_list.proofs.SlotRows.{apart_same, listed_less, listed_more, same_self}
use Rattle.wsm_list.proofs.Stored.{in_row}

pub same_apart : (r s : ℕ) → s ≢ r → same r s ≡ 0
same_apart r s other = grind (arith, nat_tests)

-- where a slot stands that is in the row
pub listed_index : (s : ℕ) (row : List ℕ) → 1 ≤ listed s row → (i : ℕ) × ((i < length row) × (slice_get row i ≡ Some s))
listed_index s [] h = absurd (omega (arith, h))
listed_index s (r ∷ row) h = elim (cases_eq s r) [
  | inl is ↦ (0, (omega arith, ap Some (sym is)))
  | inr other ↦
      let none = same_apart r s other in
      let rest = listed_index s row (omega (arith, h, none)) in
      (suc rest.0, (let within = rest.1.0 in omega (arith, within), rest.1.1))
]

-- a slot comes to the first ones
listed_next : (s i k : ℕ) (row : List ℕ) → slice_get row i ≡ Some k → listed s (take (suc i) row) ≡ listed s (take i row) + same k s
listed_next s i k [] at = absurd (true≢false (sym (ap is_some at)))
listed_next s zero k (r ∷ row) at = let is : r ≡ k = cc in let one : same r s ≡ same k s = ap (λ n. same n s) is in omega (arith, one)
listed_next s (suc i) k (r ∷ row) at = let rest = listed_next s i k row at in omega (arith, rest)

module _ {X : Type 0} (os : List (Option X)) where
  -- the slots of a row have other entries
  pub shown_same : (ns : List (Option X)) (row : List ℕ) → ((s : ℕ) → 1 ≤ listed s row → slot_at ns s ≡ slot_at os s) → shown ns row ≡ shown os row
  shown_same ns [] h = refl
  shown_same ns (s ∷ row) h =
      let one = same_self s in
      λ i. with_entry (h s (omega (arith, one)) i) (shown_same ns row (λ r inside. h r (omega (arith, inside))) i)

  in_same : (ns : List (Option X)) (row : List ℕ) → ((s : ℕ) → 1 ≤ listed s row → slot_at ns s ≡ slot_at os s) → AreIn os row → AreIn ns row
  in_same ns [] h there = tt
  in_same ns (s ∷ row) h there =
      let one = same_self s in
      (ap is_some (h s (omega (arith, one))) ∙ there.0, in_same ns row (λ r inside. h r (omega (arith, inside))) there.1)

  -- ---- a slot of the row is written

  pub written_listed : (row left : List ℕ) (k : ℕ) (x : X) → ((s : ℕ) → s ≢ k → listed s left ≡ listed s row) → listed k left ≡ 1 → AreListed os row → AreListed (set os k (Some x)) left
  written_listed row left k x others one all s some = elim (cases_eq s k) [
    | inl is ↦ rw is one
    | inr other ↦ others s other ∙ all s (ap is_some (sym (get_or-set_other os k s (Some x) None other)) ∙ some)
  ]

  pub set_listed : (row : List ℕ) (k : ℕ) (x : X) → listed k row ≡ 1 → AreListed os row → AreListed (set os k (Some x)) row
  set_listed row k x one all = written_listed row row k x (λ s other. refl) one all

  pub added_listed : (row : List ℕ) (i k : ℕ) (x : X) → i ≤ length row → listed k row ≡ 0 → AreListed os row → AreListed (set os k (Some x)) (insert row i k)
  added_listed row i k x fits fresh all =
      let one = same_self k in
      let here = listed_more k i k row fits in
      written_listed row (insert row i k) k x (λ s other. let more = listed_more s i k row fits in let none = same_apart k s other in omega (arith, more, none)) (omega (arith, here, one, fresh)) all

  pub shifted_listed : (row : List ℕ) (from to k : ℕ) (x : X) → slice_get row from ≡ Some k → to ≤ length (remove row from) → listed k (remove row from) ≡ 0 → AreListed os row → AreListed (set os k (Some x)) (insert (remove row from) to k)
  shifted_listed row from to k x at fits fresh all =
      let one = same_self k in
      let here = listed_more k to k (remove row from) fits in
      written_listed row (insert (remove row from) to k) k x (λ s other. let less = listed_less s from k row at in let more = listed_more s to k (remove row from) fits in omega (arith, less, more)) (omega (arith, here, one, fresh)) all

  -- ---- slots are freed

  pub freed_none : AreFreed [] os os
  freed_none = record { gone = λ s h. absurd (omega (arith, h)); others = λ s h. refl; count = refl }

  pub freed_next : (ns : List (Option X)) (row : List ℕ) (i k : ℕ) → slice_get row i ≡ Some k → k < length ns → AreFreed (take i row) os ns → AreFreed (take (suc i) row) os (set ns k None)
  freed_next ns row i k at within f = record {
    gone = λ s h. elim (cases_eq s k) [
      | inl is ↦ rw is (get_or-set_same ns k None None within)
      | inr other ↦
          let next = listed_next s i k row at in
          let none = same_apart k s other in
          get_or-set_other ns k s None None other ∙ f.gone s (omega (arith, h, next, none))
    ];
    others = λ s none.
        let next = listed_next s i k row at in
        let apart : same k s ≡ 0 = omega (arith, next, none) in
        get_or-set_other ns k s None None (λ is. apart_same k s apart (sym is)) ∙ f.others s (omega (arith, next, none));
    count = length-set ns k None ∙ f.count;
  }

  pub freed_one : (row : List ℕ) (k : ℕ) → k < length os → AreFreed (k ∷ []) os (set os k None)
  freed_one row k within = freed_next os (k ∷ []) 0 k refl within freed_none

  -- those of a row go, and the others stand in it as they did
  module _ (ns : List (Option X)) (row left freed : List ℕ) (f : AreFreed freed os ns) (parts : (s : ℕ) → listed s freed + listed s left ≡ listed s row) (there : AreIn os row) (all : AreListed os row) where
    once_in : (s : ℕ) → 1 ≤ listed s row → listed s row ≡ 1
    once_in s h = let at = listed_index s row h in all s (in_row os row at.0 s there at.1.1)

    stays : (s : ℕ) → 1 ≤ listed s left → slot_at ns s ≡ slot_at os s
    stays s h =
        let sum = parts s in
        let one = once_in s (omega (arith, h, sum)) in
        f.others s (omega (arith, h, sum, one))

    pub freed_shows : shown ns left ≡ shown os left
    freed_shows = shown_same ns left stays

    pub freed_in : AreIn os left → AreIn ns left
    freed_in there_left = in_same ns left stays there_left

    pub freed_listed : AreListed ns left
    freed_listed s some = elim (cases_eq (listed s freed) 0) [
      | inl none ↦
          let sum = parts s in
          let one = all s (ap is_some (sym (f.others s none)) ∙ some) in
          omega (arith, sum, none, one)
      | inr more ↦ absurd (true≢false (sym some ∙ ap is_some (f.gone s (omega (arith, more)))))
    ]

-- no slot has an entry
no_entry : {X : Type 0} (o : Option X) → ((x : X) → o ≡ Some x → ⊥) → is_some o ≡ true → ⊥
no_entry None none some = true≢false (sym some)
no_entry (Some x) none some = none x refl

pub none_listed : {P : Type 0} (os : List (Option (Place × P))) → AreFree os → (row : List ℕ) → AreListed os row
none_listed os free row s some = absurd (no_entry (slot_at os s) (λ e at. free s e at) some)

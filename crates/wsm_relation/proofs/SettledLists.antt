-- The lists, once what is told is summed up with what stands.
use Rattle.std.proofs.Common.{◌≡◌, ◌≤◌, ◌<◌, [], List, length, vec_len, vec_capacity, refl, sym, ap, subst, ◌∙◌, arith}
use Rattle.std.specs.Global.{Vec}
use Rattle.std.specs.Prelude.{IsPermutation, reverse}
use Rattle.std.proofs.lemmas.List.{length-reverse, reverse-reverse}
use Rattle.std.proofs.lemmas.List.Sorted.{IsPermutation-map, IsPermutation-reverse, All-permutation}
use Rattle.wsm_record.specs.declared.cell.Cell.{Cell}
use Rattle.wsm_semantics.specs.RowCounts.{IsInOrder}
use Rattle.wsm_relation.specs.declared.lists.Lists.TheInside.{Inside}
use Rattle.wsm_relation.specs.declared.lists.Lists.TheView.{view}
use Rattle.wsm_relation.specs.declared.steps.Step.{Step}
use Rattle.wsm_relation.specs.Delta.{AllFit, AreKept, ArePlaces, AreSteps, CanAdd, CanSum, IsDelta, added_in, netted, netted_onto, row_at, rows_of, step_in, steps_in, summed}
use Rattle.wsm_relation.specs.Kept.{HasNumbers, Kept, numbers_in}
use Rattle.wsm_relation.specs.Memory.{HasItems, HasSteps}
use Rattle.wsm_relation.specs.Reserved.{AreReserved}
use Rattle.wsm_relation.specs.Words.{HasWords}
use Rattle.wsm_relation.proofs.Entries.{length-steps_in, no_steps, reverse-steps_in}
use Rattle.wsm_relation.proofs.Merging.{added-netted}
use Rattle.wsm_relation.proofs.Netted.{netted-delta, netted-permuted, ones-fit, ones-steps, steps-permuted}
use Rattle.wsm_relation.proofs.Numbers.{Entry}
use Rattle.wsm_relation.proofs.Settled.{kept-delta, kept_of, summed-none}

abbrev after : Inside → Vec Step → Vec Step → Vec Step → Inside
after a told standing spare = record a { told = told; standing = standing; spare = spare }

-- these are told, stand and are aside afterwards
pub record Settles (a : Inside) (told standing spare : Vec Step) : Type 0 where
  pub reserved : AreReserved (after a told standing spare)
  pub numbers : HasNumbers (view (after a told standing spare)) (numbers_in (view a)) a.room

pub numbers_as : (a : Inside) (told standing spare : Vec Step) (k : Kept) → view a ≡ k → Settles a told standing spare → HasNumbers (view (after a told standing spare)) (numbers_in k) k.room
numbers_as a told standing spare k is s = subst (λ (l : Kept). HasNumbers (view (after a told standing spare)) (numbers_in l) l.room) is s.numbers

-- the rows as they are read, and what is told in row order
module _ (a : Inside) (read : List (List Cell)) (sorted : Vec Step) (is : read ≡ a.rows.items) (h : AreReserved a) (same : IsPermutation a.told.items sorted.items) where
  read-kept : AreKept read a.told.items a.standing.items
  read-kept = subst (λ (l : List (List Cell)). AreKept l a.told.items a.standing.items) (sym is) h.kept

  steps : AreSteps (steps_in read a.told.items)
  steps = ones-steps (steps_in read a.told.items) read-kept.ones

  all_netted : netted (steps_in read sorted.items) ≡ netted (steps_in read a.told.items)
  all_netted = netted-permuted (steps_in read a.told.items) (steps_in read sorted.items) (IsPermutation-map (step_in read) a.told.items sorted.items same) steps

  pub can_sum : IsInOrder (rows_of (steps_in read sorted.items)) → CanSum read sorted.items
  can_sum order = record {
    places = All-permutation (λ (s : Step). s.place < length read) a.told.items sorted.items same read-kept.told_places;
    words = All-permutation (λ (s : Step). HasWords (row_at read s.place) s) a.told.items sorted.items same read-kept.words;
    order = order;
    steps = steps-permuted (steps_in read a.told.items) (steps_in read sorted.items) (IsPermutation-map (step_in read) a.told.items sorted.items same) steps;
    fits = subst AllFit (sym all_netted) (ones-fit (steps_in read a.told.items) read-kept.ones (omega (arith, length-steps_in read a.told.items, a.told.ok.0, h.few_told, h.within, h.small)));
  }

  -- what is left of it, and what is aside, once it is summed up
  module _ (told spare : Vec Step) (room : vec_capacity sorted ≡ vec_capacity a.told) (aside : HasSteps read a.spare spare (reverse (netted (steps_in read sorted.items)))) (none : HasItems sorted told []) where
    told-room : vec_capacity told ≡ a.places
    told-room = none.capacity ∙ room ∙ h.told_room

    summed_up : reverse (steps_in read spare.items) ≡ netted (steps_in read a.told.items)
    summed_up = ap reverse aside.numbers ∙ reverse-reverse (netted (steps_in read sorted.items)) ∙ all_netted

    settles : (rest stands left : Vec Step) → steps_in read stands.items ≡ summed read a.told.items a.standing.items → ArePlaces (length read) stands.items → vec_capacity stands ≡ a.places → HasItems spare left [] → rest.items ≡ [] → vec_capacity rest ≡ a.places → Settles a rest stands left
    settles rest stands left numbers places stands-room emptied nothing rest-room =
        let own : steps_in a.rows.items stands.items ≡ summed a.rows.items a.told.items a.standing.items = subst (λ (l : List (List Cell)). steps_in l stands.items ≡ summed l a.told.items a.standing.items) is numbers in
        let there : ArePlaces (length a.rows.items) stands.items = subst (λ (l : List (List Cell)). ArePlaces (length l) stands.items) is places in
        let delta = kept-delta a.rows.items a.told.items a.standing.items h.kept in
        let all : summed a.rows.items rest.items stands.items ≡ summed a.rows.items a.told.items a.standing.items = summed-none a.rows.items rest.items stands.items (ap length nothing) ∙ own in
        record {
          numbers = record { numbers = all; room = refl; delta = delta };
          reserved = record {
            kept = kept_of a.rows.items rest.items stands.items (summed a.rows.items a.told.items a.standing.items) (ap length nothing) own delta h.kept.fits there;
            few = omega (arith, ap length all, h.few);
            fixed = h.fixed;
            small = h.small;
            within = h.within;
            few_told = omega (arith, rest.ok.0, ap length nothing);
            no_others = h.no_others;
            none_aside = omega (arith, left.ok.0, ap length emptied.items);
            rows_room = h.rows_room;
            others_room = h.others_room;
            told_room = rest-room;
            standing_room = stands-room;
            spare_room = emptied.capacity ∙ aside.capacity ∙ h.spare_room;
          };
        }

    -- where nothing stands
    module _ (empty : vec_len a.standing ≡ 0) where
      all_aside : reverse (steps_in read spare.items) ≡ summed read a.told.items a.standing.items
      all_aside = summed_up ∙ ap (netted_onto (steps_in read a.told.items)) (sym (no_steps read a.standing.items (omega (arith, empty, a.standing.ok.0))))

      pub aside-few : vec_len spare ≤ vec_capacity a.standing
      aside-few = omega (arith, spare.ok.0, length-steps_in read spare.items, length-reverse (steps_in read spare.items), ap length all_aside, ap (λ (l : List (List Cell)). length (summed l a.told.items a.standing.items)) is, h.few, h.fixed, h.standing_room)

      pub took_over : (stands left : Vec Step) → HasItems a.standing stands (reverse spare.items) → HasItems spare left [] → Settles a told stands left
      took_over stands left over emptied =
          settles told stands left
          (ap (steps_in read) over.items ∙ reverse-steps_in read spare.items ∙ all_aside)
          (subst (ArePlaces (length read)) (sym over.items) (All-permutation (λ (s : Step). s.place < length read) spare.items (reverse spare.items) (IsPermutation-reverse spare.items) aside.places))
          (over.capacity ∙ h.standing_room) emptied none.items told-room

    -- where it is added to what stands, as that is read
    module _ (stand : List Step) (stand-is : stand ≡ a.standing.items) where
      sums : added_in read spare.items stand ≡ summed read a.told.items a.standing.items
      sums = ap (added_in read spare.items) stand-is ∙ added-netted (steps_in read a.told.items) (reverse (steps_in read spare.items)) (steps_in read a.standing.items) steps summed_up read-kept.delta

      pub aside-can : CanAdd read spare.items stand
      aside-can = record {
        aside_places = aside.places;
        places = subst (ArePlaces (length read)) (sym stand-is) read-kept.places;
        aside = subst IsDelta (sym summed_up) (netted-delta (steps_in read a.told.items) steps);
        delta = subst (λ l. IsDelta (steps_in read l)) (sym stand-is) read-kept.delta;
        fits = subst AllFit (sym sums) read-kept.fits;
      }

      pub merged-few : length (added_in read spare.items stand) < vec_capacity told
      merged-few = omega (arith, ap length sums, ap (λ (l : List (List Cell)). length (summed l a.told.items a.standing.items)) is, h.few, h.fixed, told-room)

      pub added_up : (over rest stands left : Vec Step) → vec_capacity over ≡ a.places → HasSteps read over stands (added_in read spare.items stand) → HasItems spare left [] → rest.items ≡ [] → vec_capacity rest ≡ a.places → Settles a rest stands left
      added_up over rest stands left over-room added emptied nothing rest-room = settles rest stands left (added.numbers ∙ sums) added.places (added.capacity ∙ over-room) emptied nothing rest-room

-- what stands is then all
pub settled-steps : (k : Kept) (rows : List (List Cell)) (stand : List Step) (es : List Entry) → k.told ≡ [] → rows ≡ k.rows → stand ≡ k.standing → numbers_in k ≡ es → steps_in rows stand ≡ es
settled-steps k rows stand es none are same is = (λ i. steps_in (are i) (same i)) ∙ ap (λ l. summed k.rows l k.standing) (sym none) ∙ is

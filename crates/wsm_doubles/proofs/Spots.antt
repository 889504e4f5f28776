-- Bytes behind the others change no identifier in front of them.
use Rattle.std.proofs.Common.{◌≡◌, ℕ, ◌≤◌, List, [], ◌∷◌, ◌++◌, length, Result, Ok, Err, sym, ap, ◌∙◌, arith}
use Rattle.std.proofs.lemmas.List.{drop_at, map-append, take-append-le}
use Rattle.std.proofs.lemmas.List.Elements.{All-weaker, recursion_from_All}
use Rattle.std.proofs.lemmas.Slice.{between_is, between_to_end}
use Rattle.std.specs.Prelude.{OnErr, drop, slice_range}
use Rattle.std.specs.List.{All}
use Rattle.wsm_semantics.proofs.Each.{map-each}
use Rattle.wsm_doubles.specs.declared.entries.Spot.{Spot}
use Rattle.wsm_doubles.specs.Entries.{Lies, entries_of, entry_at}

-- what holds in any case, where an error came
pub on_error : {A E : Type 0} (r : Result A E) (P : Type 0) → P → OnErr r P
on_error (Ok a) P h = tt
on_error (Err e) P h = h

module _ (texts more : List ℕ) where
  range_stays : (a b : ℕ) → b ≤ length texts → slice_range (texts ++ more) a b ≡ slice_range texts a b
  range_stays a b within =
      between_is (texts ++ more) a b
      ∙ ap (drop a) (take-append-le b texts more within)
      ∙ sym (between_is texts a b)

  entry_stays : (s : Spot) → Lies texts s → entry_at (texts ++ more) s ≡ entry_at texts s
  entry_stays s lies = λ i. (range_stays s.start s.end lies.1 i, s.time)

  pub entries_stay : (spots : List Spot) → All (Lies texts) spots → entries_of (texts ++ more) spots ≡ entries_of texts spots
  entries_stay spots lie =
      map-each (entry_at (texts ++ more)) (entry_at texts) spots
      (recursion_from_All (λ s. entry_at (texts ++ more) s ≡ entry_at texts s) spots (All-weaker (Lies texts) (λ s. entry_at (texts ++ more) s ≡ entry_at texts s) entry_stays spots lie))

-- a text behind the others, at its spot
module _ (texts text : List ℕ) (spots : List Spot) (lie : All (Lies texts) spots) (spot : Spot) (from : spot.start ≡ length texts) (to : spot.end ≡ length (texts ++ text)) where
  text_there : slice_range (texts ++ text) spot.start spot.end ≡ text
  text_there =
      between_to_end (texts ++ text) spot.start spot.end (omega (arith, to))
      ∙ drop_at texts text spot.start (sym from)

  pub entry_added : entries_of (texts ++ text) (spots ++ spot ∷ []) ≡ entries_of texts spots ++ (text, spot.time) ∷ []
  entry_added =
      map-append (entry_at (texts ++ text)) spots (spot ∷ [])
      ∙ (λ i. entries_stay texts text spots lie i ++ (text_there i, spot.time) ∷ [])

-- Texts behind the others change none in front of them.
use Rattle.std.proofs.Common.{◌≡◌, ℕ, ◌+◌, ◌≤◌, List, [], ◌∷◌, ◌++◌, length, map, reverse, take, refl, sym, ap, ◌∙◌, arith}
use Rattle.std.proofs.lemmas.List.{drop_at, map-append, reverse-append, take-append-le}
use Rattle.std.proofs.lemmas.List.Elements.{All-weaker, recursion_from_All}
use Rattle.std.proofs.lemmas.Slice.{between_is, between_to_end}
use Rattle.std.proofs.Math.Seq.{drop-append-add, take-append-add}
use Rattle.std.specs.Prelude.{drop, slice_range}
use Rattle.std.specs.List.{All}
use Rattle.wsm_semantics.proofs.Each.{map-each}
use Rattle.wsm_keep.specs.declared.queue.Item.{Item}
use Rattle.wsm_keep.specs.Items.{Lies, behind, item_of, queue_of}
use Rattle.wsm_keep.proofs.Items.{queue_of-more}

module _ (texts more : List ℕ) where
  range_stays : (a b : ℕ) → b ≤ length texts → slice_range (texts ++ more) a b ≡ slice_range texts a b
  range_stays a b within =
      between_is (texts ++ more) a b
      ∙ ap (drop a) (take-append-le b texts more within)
      ∙ sym (between_is texts a b)

  item_stays : (i : Item) → Lies texts i → item_of (texts ++ more) i ≡ item_of texts i
  item_stays i lies = λ at. (i.what, range_stays i.start i.end lies.1 at)

  pub queue_stays : (items : List Item) → All (Lies texts) items → queue_of (texts ++ more) items ≡ queue_of texts items
  queue_stays items lie =
      ap reverse
      (map-each (item_of (texts ++ more)) (item_of texts) items
      (recursion_from_All (λ i. item_of (texts ++ more) i ≡ item_of texts i) items (All-weaker (Lies texts) (λ i. item_of (texts ++ more) i ≡ item_of texts i) item_stays items lie)))

  -- of texts behind the others
  range_behind : (a b : ℕ) → slice_range (texts ++ more) (length texts + a) (length texts + b) ≡ slice_range more a b
  range_behind a b =
      between_is (texts ++ more) (length texts + a) (length texts + b)
      ∙ ap (drop (length texts + a)) (take-append-add texts more b)
      ∙ drop-append-add texts (take b more) a
      ∙ sym (between_is more a b)

  items_behind : (items : List Item) → map (item_of (texts ++ more)) (map (behind (length texts)) items) ≡ map (item_of more) items
  items_behind [] = refl
  items_behind (i ∷ items) = λ at. (i.what, range_behind i.start i.end at) ∷ items_behind items at

  pub all_added : (items : List Item) → All (Lies texts) items → (newer : List Item) → queue_of (texts ++ more) (items ++ map (behind (length texts)) newer) ≡ queue_of more newer ++ queue_of texts items
  all_added items lie newer =
      ap reverse (map-append (item_of (texts ++ more)) items (map (behind (length texts)) newer))
      ∙ reverse-append (map (item_of (texts ++ more)) items) (map (item_of (texts ++ more)) (map (behind (length texts)) newer))
      ∙ (λ at. reverse (items_behind newer at) ++ queue_stays items lie at)

-- a text behind the others, at its item
module _ (texts text : List ℕ) (items : List Item) (lie : All (Lies texts) items) (item : Item) (from : item.start ≡ length texts) (to : item.end ≡ length (texts ++ text)) where
  text_there : slice_range (texts ++ text) item.start item.end ≡ text
  text_there =
      between_to_end (texts ++ text) item.start item.end (omega (arith, to))
      ∙ drop_at texts text item.start (sym from)

  pub item_added : queue_of (texts ++ text) (items ++ item ∷ []) ≡ (item.what, text) ∷ queue_of texts items
  item_added =
      queue_of-more (texts ++ text) items item
      ∙ (λ i. (item.what, text_there i) ∷ queue_stays texts text items lie i)

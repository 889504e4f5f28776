-- One row more in a queue, and one less.
use Rattle.std.proofs.Common.{◌≡◌, ℕ, ◌+◌, ◌<◌, true, false, Bool, cond, List, [], ◌∷◌, ◌++◌, get_or, length, map, pos, reverse, take, refl, sym, ap, ◌∙◌, append_assoc, append-nil, length-append, arith}
use Rattle.std.specs.Prelude.{filter}
use Rattle.std.specs.List.{count_by}
use Rattle.std.proofs.lemmas.List.Sums.{length-filter}
use Rattle.std.proofs.lemmas.List.{length-map, length-reverse, map-append, reverse-append, reverse-reverse, take_more}
use Rattle.wsm_semantics.specs.FromWatermark.{Times}
use Rattle.wsm_keep.specs.declared.queue.Item.{Item}
use Rattle.wsm_keep.specs.declared.what.What.TheVariants.{Selected}
use Rattle.wsm_semantics.proofs.Each.{filter-append}
use Rattle.wsm_keep.specs.Holds.{Queued, is_selected, selected_in}
use Rattle.wsm_keep.specs.Items.{item_of, joined, queue_of}
use Rattle.wsm_keep.specs.Staying.{stays, told_after, thinned, done_by, row_of}

-- texts behind others
pub joined-append : (newer older : List (List ℕ)) → joined (newer ++ older) ≡ joined older ++ joined newer
unfolding joined
joined-append [] older = sym (append-nil (joined older))
joined-append (text ∷ newer) older = ap (λ (t : List ℕ). t ++ text) (joined-append newer older) ∙ append_assoc (joined older) (joined newer) text

map-reverse : {A B : Type 0} (f : A → B) (xs : List A) → map f (reverse xs) ≡ reverse (map f xs)
map-reverse f [] = refl
map-reverse f (x ∷ xs) =
    ap (map f) (reverse-append (x ∷ []) xs) ∙ map-append f (reverse xs) (x ∷ []) ∙ ap (λ l. l ++ f x ∷ []) (map-reverse f xs) ∙ sym (reverse-append (f x ∷ []) (map f xs))

-- what stands for an item where there is none
abbrev pub no_item : Item
no_item = record { what = Selected 0 (pos 0); start = 0; end = 0 }

module _ (texts : List ℕ) where
  pub queue_of-length : (items : List Item) → length (queue_of texts items) ≡ length items
  queue_of-length items = length-reverse (map (item_of texts) items) ∙ length-map items (item_of texts)

  pub queue_of-more : (items : List Item) (i : Item) → queue_of texts (items ++ i ∷ []) ≡ item_of texts i ∷ queue_of texts items
  queue_of-more items i = ap reverse (map-append (item_of texts) items (i ∷ [])) ∙ reverse-append (map (item_of texts) items) (item_of texts i ∷ [])

  pub queue_of-next : (items : List Item) (n : ℕ) (i : Item) → n < length items → queue_of texts (take (n + 1) items) ≡ item_of texts (get_or items n i) ∷ queue_of texts (take n items)
  queue_of-next items n i within = ap (queue_of texts) (take_more items n i within) ∙ queue_of-more (take n items) (get_or items n i)

  pub joined-next : (items : List Item) (n : ℕ) (i : Item) → n < length items →
      joined (map row_of (queue_of texts (take (n + 1) items))) ≡ joined (map row_of (queue_of texts (take n items))) ++ (item_of texts (get_or items n i)).1
  unfolding joined
  joined-next items n i within = ap (λ (ds : List Queued). joined (map row_of ds)) (queue_of-next items n i within)

  pub queue_of-reverse : (items : List Item) → queue_of texts (reverse items) ≡ map (item_of texts) items
  queue_of-reverse items = ap reverse (map-reverse (item_of texts) items) ∙ reverse-reverse (map (item_of texts) items)

-- what stays so far, and what of the rest will
module _ (texts : List ℕ) (x : Times) where
  abbrev pub left_of : List Item → List ℕ → List Item → List Queued
  left_of kept told items = map (item_of texts) kept ++ thinned done_by x told (queue_of texts items)

  pub one_stays : (kept items : List Item) (told : List ℕ) (i : Item) → stays x told i.what ≡ true → left_of (kept ++ i ∷ []) (told_after told i.what) items ≡ left_of kept told (items ++ i ∷ [])
  one_stays kept items told i h =
      ap (λ (ds : List Queued). ds ++ thinned done_by x (told_after told i.what) (queue_of texts items)) (map-append (item_of texts) kept (i ∷ []))
      ∙ append_assoc (map (item_of texts) kept) (item_of texts i ∷ []) (thinned done_by x (told_after told i.what) (queue_of texts items))
      ∙ sym (ap (λ (ds : List Queued). map (item_of texts) kept ++ thinned done_by x told ds) (queue_of-more texts items i)
      ∙ ap (λ (b : Bool). map (item_of texts) kept ++ cond b (item_of texts i ∷ thinned done_by x (told_after told i.what) (queue_of texts items)) (thinned done_by x told (queue_of texts items))) h)

  pub one_goes : (kept items : List Item) (told : List ℕ) (i : Item) → stays x told i.what ≡ false → left_of kept told items ≡ left_of kept told (items ++ i ∷ [])
  one_goes kept items told i h =
      sym (ap (λ (ds : List Queued). map (item_of texts) kept ++ thinned done_by x told ds) (queue_of-more texts items i)
      ∙ ap (λ (b : Bool). map (item_of texts) kept ++ cond b (item_of texts i ∷ thinned done_by x (told_after told i.what) (queue_of texts items)) (thinned done_by x told (queue_of texts items))) h)

-- ---- how many select a record

selected-append : (newer older : List Queued) → selected_in (newer ++ older) ≡ selected_in newer + selected_in older
selected-append newer older = ap length (filter-append (λ d. is_selected d.0) newer older) ∙ length-append (filter (λ d. is_selected d.0) newer) (filter (λ d. is_selected d.0) older)

one_more : (items : List Item) (i : Item) (m : ℕ) (d : Queued) (b : Bool) → length items ≡ m → length (cond b (i ∷ items) items) ≡ m + length (cond b (d ∷ []) [])
one_more items i m d true h = omega (arith, h)
one_more items i m d false h = omega (arith, h)

of_items : (texts : List ℕ) (items : List Item) → length (filter (λ i. is_selected i.what) items) ≡ selected_in (queue_of texts items)
of_items texts [] = refl
of_items texts (i ∷ items) =
    one_more (filter (λ i. is_selected i.what) items) i (selected_in (queue_of texts items)) (item_of texts i) (is_selected i.what) (of_items texts items)
    ∙ sym (ap selected_in (reverse-append (item_of texts i ∷ []) (map (item_of texts) items)) ∙ selected-append (queue_of texts items) (item_of texts i ∷ []))

pub selected_of : (texts : List ℕ) (items : List Item) → count_by (λ i. is_selected i.what) items ≡ selected_in (queue_of texts items)
selected_of texts items = sym (length-filter (λ i. is_selected i.what) items) ∙ of_items texts items

-- What the items of a queue come to, and first times.
use Rattle.std.specs.Prelude.{ℕ, ◌+◌, ◌≤◌, List, [], ◌∷◌, ◌++◌, length, map, reverse, unwrap_or, slice_get, slice_range, ℤ, pos, ◌-ℤ◌}
use Rattle.wsm_semantics.specs.FromWatermark.{Times}
use Rattle.wsm_keep.specs.declared.queue.Item.{Item}
use Rattle.wsm_keep.specs.declared.firsts.Firsts.{Firsts}
use Rattle.wsm_keep.specs.Holds.{Queued}

-- what a row does, and its text, which stands among all texts
abbrev pub item_of : List ℕ → Item → Queued
item_of texts i = (i.what, slice_range texts i.start i.end)

-- the newest first
abbrev pub queue_of : List ℕ → List Item → List Queued
queue_of texts items = reverse (map (item_of texts) items)

-- the text of an item lies within the texts
abbrev pub Lies : List ℕ → Item → Type 0
Lies texts i = (i.start ≤ i.end) × (i.end ≤ length texts)

-- an item whose text stands behind so many bytes more, where a place can be told
abbrev pub behind : ℕ → Item → Item
behind front i = record { what = i.what; start = front + i.start; end = front + i.end }

abbrev pub MayStand : ℕ → Item → Type 0
MayStand front i = (i.start ≤ i.end) × (front + i.end ≤ 18446744073709551615)

-- texts of which the newest stands first, in their order
unfoldable pub joined : List (List ℕ) → List ℕ
joined [] = []
joined (text ∷ before) = joined before ++ text

-- the first time of a key
abbrev pub first_of : Firsts → ℕ → ℤ
first_of f key = unwrap_or (slice_get f.each.items key) f.others

-- the times up to which records go
abbrev pub times_of : Firsts → Times
times_of f key = first_of f key -ℤ pos 1

-- Which file a log that was read goes on in.
use Rattle.std.specs.Prelude.{ℕ, ◌+◌, ◌&&◌, not, nat_lt, List, [], ◌∷◌, length, map, Bool, true, false, if◌then◌else◌, Option, Some, None}
use Rattle.std.specs.List.{filter_map}
use Rattle.std.specs.Option.{option_map_or}
use Rattle.wsm_follow.specs.Logs.{is_same}
use Rattle.wsm_follow.specs.Names.{Listing, in_order, listing_of}
use Rattle.wsm_follow.specs.Position.{Place, fits}
use Rattle.wsm_follow.specs.declared.file.FileId.{FileId}
use Rattle.wsm_follow.specs.declared.choice.Loss.{Loss}
use Rattle.wsm_follow.specs.declared.choice.Loss.TheVariants.{Gone, Other, Shorter}
use Rattle.wsm_follow.specs.declared.choice.Choice.{Choice}
use Rattle.wsm_follow.specs.declared.choice.Choice.TheVariants.{Copy, Lost, Own, Packed}

-- a file that is listed, and whether it has the bytes that were read, as far as their sums tell it
pub record Judged : Type 0 where
  pub listed : Listing
  pub fits : Bool

-- the file of the position
abbrev pub is_own : Place → Listing → Bool
is_own p file = not file.is_packed && is_same file.file p.file

-- the file of the position has the bytes that were read
abbrev pub is_kept : Place → Judged → Bool
is_kept p file = is_own p file.listed && file.fits

-- another one has them; of a file of which nothing was read each would have
abbrev pub is_copy : Place → Judged → Bool
is_copy p file = nat_lt 0 p.offset && (not file.listed.is_packed && file.fits)

-- where the last file stands that passes a test
abbrev pub last_of : (Judged → Bool) → List Judged → Option ℕ
last_of test [] = None
last_of test (f ∷ fs) = option_map_or (λ i. Some (i + 1)) (last_of test fs) (if test f then Some 0 else None)

abbrev pub any : (Judged → Bool) → List Judged → Bool
any test [] = false
any test (f ∷ fs) = if test f then true else any test fs

-- why the bytes that were read aren't there
abbrev pub loss_of : Place → List Judged → Loss
loss_of p [] = Gone
loss_of p (f ∷ fs) = if is_own p f.listed then (if nat_lt f.listed.size p.offset then Shorter else Other) else loss_of p fs

-- the file of the position; else the newest that has the bytes that were read; else the newest that is packed is needed; else they are lost
abbrev pub chosen : Place → List Judged → Choice
chosen p files = if any (is_kept p) files then Own else
    option_map_or Copy (last_of (is_copy p) files) (option_map_or Packed (last_of (λ f. f.listed.is_packed) files) (Lost (loss_of p files)))

-- a folder: names, which files they are, what those have and when they were changed
pub record Named : Type 0 where
  pub name : List ℕ
  pub file : FileId
  pub bytes : List ℕ
  pub changed : ℕ

-- the files of a log in a folder, the oldest first
abbrev pub files_in : List ℕ → List Named → List Listing
files_in log folder = in_order (filter_map (λ n. listing_of log n.name n.file (length n.bytes) n.changed) folder)

abbrev pub bytes_named : FileId → List Named → List ℕ
bytes_named file [] = []
bytes_named file (n ∷ ns) = if is_same n.file file then n.bytes else bytes_named file ns

abbrev pub judged_in : Place → List Named → Listing → Judged
judged_in p folder file = record { listed = file; fits = fits p (bytes_named file.file folder) }

-- where a log goes on in a folder
abbrev pub chosen_in : List ℕ → Place → List Named → Choice
chosen_in log p folder = chosen p (map (judged_in p folder) (files_in log folder))

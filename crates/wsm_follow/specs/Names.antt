-- Which files a log was before, by their names, and in which order.
use Rattle.std.specs.Prelude.{ℕ, ◌+◌, ◌-◌, ◌*◌, ◌==◌, ◌&&◌, ◌||◌, nat_eq, nat_le, nat_lt, List, [], ◌∷◌, length, Bool, true, false, if◌then◌else◌, Option, Some, None, is_some, option_and_then, option_map, codes}
use Rattle.std.specs.List.{starts_with}
use Rattle.wsm_follow.specs.declared.file.FileId.{FileId}

abbrev pub is_digit : ℕ → Bool
is_digit byte = nat_le 48 byte && nat_le byte 57

-- `.` or `-`
abbrev pub is_mark : ℕ → Bool
is_mark byte = (byte == 46) || (byte == 45)

abbrev pub is_digit_or_mark : ℕ → Bool
is_digit_or_mark byte = is_digit byte || is_mark byte

-- one of `.gz`, `.xz`, `.zst`
abbrev pub is_packing : List ℕ → Bool
is_packing end = starts_with nat_eq end (codes ".gz") && nat_eq (length end) 3
    || (starts_with nat_eq end (codes ".xz") && nat_eq (length end) 3 || starts_with nat_eq end (codes ".zst") && nat_eq (length end) 4)

-- what stands behind the log's name: nothing more, or how it was packed
abbrev pub is_end : List ℕ → Bool
is_end [] = true
is_end (byte ∷ bytes) = is_digit_or_mark byte && is_end bytes || is_packing (byte ∷ bytes)

-- a mark, a digit, and more digits and marks, as `.1`, `-20261128` or `.2026-11-28.gz`; or nothing
abbrev pub is_ending : List ℕ → Bool
is_ending [] = true
is_ending (mark ∷ []) = false
is_ending (mark ∷ digit ∷ bytes) = is_mark mark && (is_digit digit && is_end bytes)

-- what stands behind the log's name
abbrev pub behind_name : List ℕ → List ℕ → Option (List ℕ)
behind_name [] name = Some name
behind_name (l ∷ ls) [] = None
behind_name (l ∷ ls) (n ∷ ns) = if l == n then behind_name ls ns else None

-- what stands behind the log's name in that of a file that the log is or was
abbrev pub ending_of : List ℕ → List ℕ → Option (List ℕ)
ending_of log name = option_and_then (λ ending. if is_ending ending then Some ending else None) (behind_name log name)

-- the ending says that the file was packed
abbrev pub is_packed_end : List ℕ → Bool
is_packed_end [] = false
is_packed_end (byte ∷ bytes) = is_packing (byte ∷ bytes) || is_packed_end bytes

-- digits that go on from a number, up to the end or to how the file was packed: less than 10,000, else it is a date
abbrev pub number_from : ℕ → List ℕ → Option ℕ
number_from value [] = Some value
number_from value (byte ∷ bytes) = if is_packing (byte ∷ bytes) then Some value else
    if is_digit byte && nat_lt value 1000 then number_from (value * 10 + (byte - 48)) bytes else None

-- the number behind a mark
abbrev pub number_behind : List ℕ → Option ℕ
number_behind [] = None
number_behind (mark ∷ bytes) = number_from 0 bytes

-- a file as a folder lists it
pub record Listing : Type 0 where
  pub name : List ℕ
  pub is_log : Bool
  pub number : Option ℕ
  pub is_packed : Bool
  pub file : FileId
  pub size : ℕ
  -- when it was changed last
  pub changed : ℕ

abbrev pub is_nothing : List ℕ → Bool
is_nothing [] = true
is_nothing (byte ∷ bytes) = false

abbrev pub listing_with : List ℕ → FileId → (size changed : ℕ) → List ℕ → Listing
listing_with name file size changed ending = record {
  name = name;
  is_log = is_nothing ending;
  number = number_behind ending;
  is_packed = is_packed_end ending;
  file = file;
  size = size;
  changed = changed;
}

-- a file of this name, if the log is or was it
abbrev pub listing_of : List ℕ → List ℕ → FileId → (size changed : ℕ) → Option Listing
listing_of log name file size changed = option_map (listing_with name file size changed) (ending_of log name)

-- the order of texts, byte by byte
abbrev pub is_text_before : List ℕ → List ℕ → Bool
is_text_before [] [] = false
is_text_before [] (y ∷ ys) = true
is_text_before (x ∷ xs) [] = false
is_text_before (x ∷ xs) (y ∷ ys) = if x == y then is_text_before xs ys else nat_lt x y

-- by the time of the last change, and then by the name
abbrev pub is_changed_before : Listing → Listing → Bool
is_changed_before a b = if a.changed == b.changed then is_text_before a.name b.name else nat_lt a.changed b.changed

-- the greater number is older; equal ones, and where there is none, by the time
abbrev pub is_numbered_before : Option ℕ → Option ℕ → Bool → Bool
is_numbered_before (Some a) (Some b) otherwise = if a == b then otherwise else nat_lt b a
is_numbered_before (Some a) None otherwise = otherwise
is_numbered_before None b otherwise = otherwise

-- one file is older than another; the log itself is the newest
abbrev pub is_before : Bool → Listing → Listing → Bool
is_before by_number a b = if a.is_log then false else if b.is_log then true else
    if by_number then is_numbered_before a.number b.number (is_changed_before a b) else is_changed_before a b

-- each file but the log itself has a number
abbrev pub are_numbered : List Listing → Bool
are_numbered [] = true
are_numbered (f ∷ fs) = (f.is_log || is_some f.number) && are_numbered fs

abbrev pub with_file : Bool → Listing → List Listing → List Listing
with_file by_number file [] = file ∷ []
with_file by_number file (f ∷ fs) = if is_before by_number file f then file ∷ f ∷ fs else f ∷ with_file by_number file fs

abbrev pub with_files : Bool → List Listing → List Listing → List Listing
with_files by_number sorted [] = sorted
with_files by_number sorted (f ∷ fs) = with_file by_number f (with_files by_number sorted fs)

-- the files of a log, the oldest first: by their numbers where each has one, else by the times of their changes
abbrev pub in_order : List Listing → List Listing
in_order files = with_files (are_numbered files) [] files

-- one of the files is packed
abbrev pub has_packed : List Listing → Bool
has_packed [] = false
has_packed (f ∷ fs) = f.is_packed || has_packed fs

-- the oldest file behind which none is packed
abbrev pub first_readable : List Listing → Option Listing
first_readable [] = None
first_readable (f ∷ fs) = if has_packed (f ∷ fs) then first_readable fs else Some f

-- Where in a log it was read to, and the text of that.
use Rattle.std.specs.Prelude.{◌≡◌, ◌<◌, ℕ, ◌-◌, ◌*◌, ◌+◌, ◌^◌, ◌==◌, ◌&&◌, nat_le, nat_lt, min, List, [], ◌∷◌, ◌++◌, drop, length, take, Bool, true, if◌then◌else◌, Option, Some, None, option_and_then}
use Rattle.std.specs.Fmt.{decimal}
use Rattle.wsm_sums.specs.Crc.{sum_of}
use Rattle.wsm_journal.specs.Text.{is_position}
use Rattle.wsm_follow.specs.Names.{is_digit}
use Rattle.wsm_follow.specs.declared.file.FileId.{FileId}

-- a place of a log: its file, how many bytes were read, the sums of its first bytes and of the last that were read, and what its name was
pub record Place : Type 0 where
  pub file : FileId
  pub offset : ℕ
  pub head : ℕ
  pub tail : ℕ
  pub name : List ℕ

-- the sum of a file's first 256 bytes, as far as they were read
abbrev pub head_sum : ℕ → List ℕ → ℕ
head_sum offset bytes = sum_of (take (min 256 offset) bytes)

-- the sum of the last 4,096 bytes that were read
abbrev pub tail_sum : ℕ → List ℕ → ℕ
tail_sum offset bytes = sum_of (take (min 4096 offset) (drop (offset - 4096) bytes))

-- a file has the bytes that were read up to the place, as far as their sums tell it
abbrev pub fits : Place → List ℕ → Bool
fits p bytes = nat_le p.offset (length bytes) && ((head_sum p.offset bytes == p.head) && (tail_sum p.offset bytes == p.tail))

-- a number and a colon
abbrev pub field : ℕ → List ℕ → List ℕ
field n more = decimal n ++ (58 ∷ more)

-- DEVICE:INODE:OFFSET:HEAD:TAIL:NAME
abbrev pub place_text : Place → List ℕ
place_text p = field p.file.device (field p.file.inode (field p.offset (field p.head (field p.tail p.name))))

-- a number with one digit more: none goes behind a zero that begins, nor past 64 bits
abbrev pub with_digit : ℕ → ℕ → Option ℕ
with_digit value byte = if is_digit byte && (nat_lt 0 value && nat_lt (value * 10 + (byte - 48)) (2 ^ 64)) then Some (value * 10 + (byte - 48)) else None

-- a number of which digits were read, and the text behind its colon
abbrev pub number_from : ℕ → List ℕ → Option (ℕ × List ℕ)
number_from value [] = None
number_from value (byte ∷ text) = if byte == 58 then Some (value, text) else option_and_then (λ more. number_from more text) (with_digit value byte)

-- the number that a text begins with, and the text behind its colon
abbrev pub number_of : List ℕ → Option (ℕ × List ℕ)
number_of [] = None
number_of (byte ∷ text) = if is_digit byte then number_from (byte - 48) text else None

abbrev pub is_name : List ℕ → Bool
is_name name = nat_le (length name) 255 && is_position name

abbrev pub place_with : (device inode offset head tail : ℕ) → List ℕ → Place
place_with device inode offset head tail name = record { file = record { device = device; inode = inode }; offset = offset; head = head; tail = tail; name = name }

abbrev pub place_if : (device inode offset : ℕ) → (head tail : ℕ × List ℕ) → Option Place
place_if device inode offset head tail = if nat_lt head.0 (2 ^ 32) && (nat_lt tail.0 (2 ^ 32) && is_name tail.1) then Some (place_with device inode offset head.0 tail.0 tail.1) else None

-- the place that a text says
unfoldable pub place_of : List ℕ → Option Place
place_of text = option_and_then (λ device. option_and_then (λ inode. option_and_then (λ offset. option_and_then (λ head. option_and_then (λ tail.
    place_if device.0 inode.0 offset.0 head tail)
    (number_of head.1)) (number_of offset.1)) (number_of inode.1)) (number_of device.1)) (number_of text)

-- a place that has a text
pub record IsPlace (p : Place) : Type 0 where
  pub device : p.file.device < 2 ^ 64
  pub inode : p.file.inode < 2 ^ 64
  pub offset : p.offset < 2 ^ 64
  pub head : p.head < 2 ^ 32
  pub tail : p.tail < 2 ^ 32
  pub name : is_name p.name ≡ true

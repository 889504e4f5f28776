-- What a turn of a follower comes to.
use Rattle.std.specs.Prelude.{◌≡◌, ◌≤◌, ℕ, ◌-◌, List, [], Option, Some, option_map, unwrap_or, true, length, ⊤}
use Rattle.wsm_follow.specs.Follows.{GoesOn, Stand, stand}
use Rattle.wsm_follow.specs.Logs.{AreInTurn, IsAmong, Log, are_distinct, files_of, next_in}
use Rattle.wsm_follow.specs.Names.{Listing, first_readable}
use Rattle.wsm_follow.specs.Position.{head_sum, tail_sum}
use Rattle.wsm_follow.specs.Reads.{most_of, text_of}
use Rattle.wsm_follow.specs.declared.file.FileId.{FileId}
use Rattle.wsm_follow.specs.declared.position.Position.{Position}
use Rattle.wsm_follow.specs.declared.follower.Followed.{Followed}
use Rattle.wsm_follow.specs.declared.follower.Follower.{Follower}
use Rattle.wsm_follow.specs.declared.follower.Front.{Front}
use Rattle.wsm_follow.specs.declared.follower.Front.TheVariants as front
use Rattle.wsm_follow.specs.declared.follower.Went.{Went}
use Rattle.wsm_follow.specs.declared.follower.Turn.{Turn}
use Rattle.wsm_follow.specs.declared.follower.Turn.TheVariants.{Elsewhere, Lines, Lost, Next, Nothing, Packed}

abbrev pub at : Position → Stand
at p = stand p.file p.offset

abbrev pub position_of : Follower → Position
position_of f = f.followed.position

-- where a turn goes on
abbrev pub to_of : Followed → Went → Stand
to_of f went = at (unwrap_or went.to f.position)

abbrev pub longest_of : Follower → ℕ
longest_of f = most_of f.reading - 2

abbrev pub lines_of : Follower → List ℕ
lines_of f = text_of f.reading

-- the text has the lines from one place to another, and the log of the other is one of those that are known
pub record GoesTo (longest : ℕ) (known : List Log) (from : Stand) (text : List ℕ) (to : Stand) : Type 0 where
  pub lines : GoesOn longest known from text to
  pub among : IsAmong to.file known

-- what a turn says of what was read, where the logs are known
abbrev pub Goes : ℕ → List Log → Stand → List ℕ → Stand → Turn → Type 0
Goes longest known from text to Lines = GoesTo longest known from text to
Goes longest known from text to Nothing = to ≡ from
Goes longest known from text to (Next left) = GoesTo longest known from [] to
Goes longest known from text to Elsewhere = ⊤
Goes longest known from text to (Packed name) = to ≡ from
Goes longest known from text to (Lost lost) = to ≡ from

-- of files in turn a position is at the beginning of the oldest behind which none is packed
pub record IsFront (known : List Log) (files : List Listing) (p : Position) : Type 0 where
  pub in_turn : AreInTurn known files
  pub first : option_map (λ f. f.file) (first_readable files) ≡ Some p.file
  pub begins : p.offset ≡ 0

-- a file's front is its beginning
abbrev pub IsFrontOf : FileId → Front → Type 0
IsFrontOf file (front.At p) = at p ≡ stand file 0
IsFrontOf file (front.Packed name) = ⊤

-- lines up to an offset were taken, or the file was cut meanwhile
abbrev pub Takes : Stand → Stand → ℕ → Turn → Type 0
Takes from to end Lines = to ≡ stand from.file end
Takes from to end Nothing = to ≡ from
Takes from to end (Next left) = ⊥
Takes from to end Elsewhere = ⊥
Takes from to end (Packed name) = ⊥
Takes from to end (Lost lost) = ⊥

-- of a log that ended its next one is begun
abbrev pub Begins : Option FileId → ℕ → Stand → Stand → Turn → Type 0
Begins next left from to Lines = ⊥
Begins next left from to Nothing = to ≡ from
Begins next left from to (Next count) = (next ≡ Some to.file) × (to.offset ≡ 0) × (count ≡ left)
Begins next left from to Elsewhere = ⊤
Begins next left from to (Packed name) = to ≡ from
Begins next left from to (Lost lost) = ⊥

-- the log was read to its end, and the next one is begun
pub record Moves (known : List Log) (bytes : List ℕ) (end : ℕ) (from to : Stand) (left : ℕ) : Type 0 where
  pub ended : length bytes ≤ end
  pub next : next_in from.file (files_of known) ≡ Some to.file
  pub begun : to.offset ≡ 0
  pub distinct : are_distinct (files_of known) ≡ true
  -- what stands behind the last line feed
  pub left_out : left ≡ end - from.offset

abbrev pub MovesOn : List Log → List ℕ → ℕ → Stand → Stand → Turn → Type 0
MovesOn known bytes end from to Lines = ⊥
MovesOn known bytes end from to Nothing = to ≡ from
MovesOn known bytes end from to (Next left) = Moves known bytes end from to left
MovesOn known bytes end from to Elsewhere = ⊤
MovesOn known bytes end from to (Packed name) = to ≡ from
MovesOn known bytes end from to (Lost lost) = ⊥

-- the bytes that were read were looked for elsewhere
abbrev pub Searches : Stand → Stand → Turn → Type 0
Searches from to Lines = ⊥
Searches from to Nothing = to ≡ from
Searches from to (Next left) = ⊥
Searches from to Elsewhere = ⊤
Searches from to (Packed name) = to ≡ from
Searches from to (Lost lost) = (to ≡ from) × (lost.read ≡ from.offset)

-- the position's sums are those of its log
pub record HasSums (bytes : List ℕ) (p : Position) : Type 0 where
  pub head : p.head ≡ head_sum p.offset bytes
  pub tail : p.tail ≡ tail_sum p.offset bytes

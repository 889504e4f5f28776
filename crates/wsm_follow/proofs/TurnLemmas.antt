-- What the parts of a turn come to together.
use Rattle.std.proofs.Common.{◌≡◌, ◌≤◌, ◌∙◌, ◌-◌, ◌+◌, ◌++◌, ℕ, List, [], Result, Ok, Err, IfOk, Some, ap, arith, drop, length, map, subst, sym, take}
use Rattle.wsm_follow.specs.Ended.{ended_lines, kept_lines}
use Rattle.wsm_follow.specs.Follower.{Begins, Goes, GoesTo, MovesOn, Searches, Takes, at}
use Rattle.wsm_follow.specs.Follows.{GoesOn, Stand, stand}
use Rattle.wsm_follow.specs.Logs.{AreInTurn, IsAmong, Log, bytes_in, lines_behind, next_in}
use Rattle.wsm_follow.specs.Names.{Listing}
use Rattle.wsm_follow.specs.Reads.{Reads}
use Rattle.wsm_follow.specs.declared.file.FileId.{FileId}
use Rattle.wsm_follow.specs.declared.position.Position.{Position}
use Rattle.wsm_follow.specs.declared.reading.Found.TheVariants as found
use Rattle.wsm_follow.specs.declared.follower.Turn.{Turn}
use Rattle.wsm_follow.specs.declared.follower.Turn.TheVariants.{Elsewhere, Lines, Lost, Next, Nothing, Packed}
use Rattle.wsm_follow.proofs.LogLemmas.{goes-lines, goes-next, next-lines}

-- what holds of a value, where there is one, leads to something else
pub if_ok : {A E : Type 0} (P Q : A → Type 0) (r : Result A E) → IfOk r P → ((v : A) → P v → Q v) → IfOk r Q
if_ok P Q (Ok v) p f = f v p
if_ok P Q (Err e) p f = tt

pub takes-go : (longest : ℕ) (known : List Log) (from to : Stand) (end : ℕ) (text : List ℕ) (turn : Turn) → GoesOn longest known from text (stand from.file end) → IsAmong from.file known → Takes from to end turn → Goes longest known from text to turn
takes-go longest known from to end text Lines goes among is = subst (λ (s : Stand). GoesTo longest known from text s) (sym is) (record { lines = goes; among = among })
takes-go longest known from to end text Nothing goes among is = is
takes-go longest known from to end text (Next left) goes among is = absurd is
takes-go longest known from to end text Elsewhere goes among is = tt
takes-go longest known from to end text (Packed name) goes among is = absurd is
takes-go longest known from to end text (Lost lost) goes among is = absurd is

pub moves-go : (longest : ℕ) (known : List Log) (from to : Stand) (end : ℕ) (text bytes : List ℕ) (turn : Turn) → bytes_in from.file known ≡ Some bytes → (length bytes ≤ end → ended_lines (drop from.offset bytes) ≡ [])
    → MovesOn known bytes end from to turn → Goes longest known from text to turn
moves-go longest known from to end text bytes Lines is none moves = absurd moves
moves-go longest known from to end text bytes Nothing is none moves = moves
moves-go longest known from to end text bytes (Next left) is none moves = record {
  lines = ap (λ (n : ℕ). kept_lines longest (lines_behind to.file n known)) moves.begun ∙ goes-next longest known from.file to.file from.offset bytes is (none moves.ended) moves.next moves.distinct;
  among = (next-lines from.file to.file known moves.next moves.distinct).1;
}
moves-go longest known from to end text bytes Elsewhere is none moves = tt
moves-go longest known from to end text bytes (Packed name) is none moves = moves
moves-go longest known from to end text bytes (Lost lost) is none moves = absurd moves

pub searches-go : (longest : ℕ) (known : List Log) (from to : Stand) (text : List ℕ) (turn : Turn) → Searches from to turn → Goes longest known from text to turn
searches-go longest known from to text Lines is = absurd is
searches-go longest known from to text Nothing is = is
searches-go longest known from to text (Next left) is = absurd is
searches-go longest known from to text Elsewhere is = tt
searches-go longest known from to text (Packed name) is = is
searches-go longest known from to text (Lost lost) is = is.0

-- behind the end of a log the one that is listed next is the one that came next
pub begins-move : (known : List Log) (bytes : List ℕ) (end left : ℕ) (from to : Stand) (files : List Listing) (turn : Turn) → length bytes ≤ end → AreInTurn known files → left ≡ end - from.offset
    → Begins (next_in from.file (map (λ f. f.file) files)) left from to turn → MovesOn known bytes end from to turn
begins-move known bytes end left from to files Lines over order is begins = absurd begins
begins-move known bytes end left from to files Nothing over order is begins = begins
begins-move known bytes end left from to files (Next count) over order is begins = record {
  ended = over;
  next = order.next from.file to.file begins.0;
  begun = begins.1;
  distinct = order.distinct;
  left_out = begins.2 ∙ is;
}
begins-move known bytes end left from to files Elsewhere over order is begins = tt
begins-move known bytes end left from to files (Packed name) over order is begins = begins
begins-move known bytes end left from to files (Lost lost) over order is begins = absurd begins

-- a turn goes on where it says
pub went-goes : (longest : ℕ) (known : List Log) (from : Stand) (text : List ℕ) (went turn : Turn) (to p : Position) → turn ≡ went → p ≡ to → Goes longest known from text (at to) went → Goes longest known from text (at p) turn
went-goes longest known from text went turn to p told stands goes =
    subst (λ (t : Turn). Goes longest known from text (at p) t) (sym told) (subst (λ (q : Position). Goes longest known from text (at q) went) (sym stands) goes)

-- where no lines were told none are answered
pub no-lines : {E : Type 0} (went : Turn) (r : Result Turn E) → IfOk r (λ (turn : Turn). turn ≡ went) → (went ≡ Lines → ⊥) → r ≡ Ok Lines → ⊥
no-lines {E} went r told none is = none (sym (subst (λ (x : Result Turn E). IfOk x (λ (turn : Turn). turn ≡ went)) is told))

-- lines that were read are the next ones
pub read-goes : (most start end : ℕ) (known : List Log) (file : FileId) (bytes text : List ℕ) → 2 ≤ most → bytes_in file known ≡ Some bytes → Reads most bytes start text (found.Lines end)
    → GoesOn (most - 2) known (stand file start) text (stand file end)
read-goes most start end known file bytes text some is reads =
    let same : (most - 2) + 2 ≡ most = omega (arith, some) in
    goes-lines (most - 2) known file start end bytes text is
    (subst (λ (n : ℕ). map (take n) (ended_lines text) ++ map (take n) (ended_lines (drop end bytes)) ≡ map (take n) (ended_lines (drop start bytes))) (sym same) reads)

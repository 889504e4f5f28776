-- The last line feed of some bytes.
use Rattle.std.proofs.Common.{ℕ, List, Option, Some, None, arith}
use Rattle.memchr.specs.Find.{IsLastByte, is_byte}
use Rattle.wsm_log.proofs.LinesLemmas.{HasNoFeed-none}
use Rattle.wsm_follow.specs.Reads.{EndsAt}

pub ends_at : (bytes : List ℕ) (found : Option ℕ) → IsLastByte (is_byte 10) bytes found → EndsAt bytes found
ends_at bytes None none = HasNoFeed-none bytes (λ k h is. none k (omega arith) h is)
ends_at bytes (Some place) (range, is) = (range.high, is)

use Rattle.std.proofs.Common.{◌≡◌, ◌<◌, ◌+◌, ◌++◌, ◌∷◌, MatchOption, None, Option, Some, ℕ, List, drop, length, take}
use Rattle.wsm_log.specs.LinesOf.{HasNoFeed}
use Rattle.wsm_fed.proofs.FedLemmas.{Parts, feed_parts}
use Rattle.wsm_fed.proofs.fed.line_end.Goals as goal

with_part : (text : List ℕ) (P : ℕ → Type 0) (found : Option ℕ) → ((end : ℕ) → Parts text end → P end) → MatchOption found (HasNoFeed text) (Parts text) → MatchOption found (HasNoFeed text) P
with_part text P None part found = found
with_part text P (Some end) part found = part end found

pub returns : goal.returns
returns c =
    let text = c.args.text.now in
    let found = feed_parts text c.memchr.result c.memchr.ensures in
    record {
      within = with_part text (λ end. end < length text) c.memchr.result (λ end p. p.within) found;
      line = with_part text (λ end. HasNoFeed (take end text)) c.memchr.result (λ end p. p.plain) found;
      parts = with_part text (λ end. text ≡ take end text ++ 10 ∷ drop (end + 1) text) c.memchr.result (λ end p. p.parts) found;
    }

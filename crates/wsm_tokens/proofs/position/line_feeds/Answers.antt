use Rattle.std.proofs.Common.{◌∙◌}
use Rattle.memchr.specs.Find.{is_byte}
use Rattle.memchr.proofs.lemmas.CallerLemmas.{length-places}
use Rattle.wsm_tokens.proofs.position.line_feeds.Goals as goal

pub returns : goal.returns
returns c = rw c.new.ensures at c.count.ensures ∙ length-places (is_byte 10) c.args.text.now

use Rattle.wsm_tokens.proofs.Text.{word_found, word_lost}
use Rattle.wsm_tokens.proofs.scan.first_word.Goals as goal

pub returns-then-more-le-MAX_MORE : goal.returns-then-more-le-MAX_MORE
returns-then-more-le-MAX_MORE c =
    let e = rw c.split_at.ensures.back at c.word_len-more.ensures in
    word_found c.args.text.now c.word_len-more.result c.requires e c.if-more-le-MAX_MORE.true

pub returns-else-more-le-MAX_MORE : goal.returns-else-more-le-MAX_MORE
returns-else-more-le-MAX_MORE c =
    let e = rw c.split_at.ensures.back at c.word_len-more.ensures in
    word_lost c.args.text.now c.word_len-more.result c.requires e c.if-more-le-MAX_MORE.false

use Rattle.std.proofs.Common.{◌≡◌, ◌∙◌, ◌-◌, ap, arith, drop, length, sym, take}
use Rattle.std.proofs.lemmas.List.{length-drop, take_all}
use Rattle.wsm_record.specs.Guesses.{spelled}
use Rattle.wsm_deal.proofs.KeyGuesses.{spelled_long}
use Rattle.wsm_deal.proofs.words.long_words_of.Goals as goal

pub returns-in_ok-tail-in-len8-up : goal.returns-in_ok-tail-in-len8-up
returns-in_ok-tail-in-len8-up c =
    let text = c.args.text.now in
    let all = spelled_long text c.in-len8-up.len_at_least in
    let rest : take (length text - 8) (drop 8 text) ≡ drop 8 text = take_all (length text - 8) (drop 8 text) (omega (arith, length-drop 8 text)) in
    let tail : spelled (drop 8 text) ≡ c.in_ok-tail-in-len8-up.tail = ap spelled (sym rest) ∙ c.in_ok-tail-in-len8-up.ensures in
    omega (arith, all, c.from_le_bytes-head.ensures, tail)

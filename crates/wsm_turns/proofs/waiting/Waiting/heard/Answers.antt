use Rattle.std.proofs.Common.{◌≡◌, ◌∙◌, List, ap, length}
use Rattle.wsm_watermarks.specs.Agreement.{tellers, voices}
use Rattle.wsm_watermarks.specs.declared.held.Timed.{Timed}
use Rattle.wsm_watermarks.specs.declared.rule.Rule.{Rule}
use Rattle.wsm_turns.specs.Numbered.{Numbered}
use Rattle.wsm_turns.proofs.waiting.Waiting.heard.Goals as goal

pub returns : goal.returns
returns c = λ by count k hears.
    let agree : c.agree.result ≡ by.rule.agree = c.agree.ensures ∙ ap (λ (r : Rule). r.agree) hears.by in
    let voices : c.voices.result ≡ tellers 0 (voices by.rule.forget k.stamps) = c.voices.ensures k.stamps hears.fits ∙ ap (λ (r : Rule). tellers 0 (voices r.forget k.stamps)) hears.by in
    let stamps : c.heard.result ≡ length k.stamps = c.heard.ensures ∙ hears.fits.table.heard in
    let waiting : length c.rows.result.now ≡ length k.waits = ap (λ (rows : List (Timed Numbered)). length rows) (c.rows.ensures.rows ∙ hears.rows) in
    λ i. record { agree = agree i; voices = voices i; stamps = stamps i; waiting = waiting i }

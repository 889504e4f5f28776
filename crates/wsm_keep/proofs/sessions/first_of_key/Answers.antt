use Rattle.std.proofs.Common.{rules, ◌≡◌, ◌-ℤ◌, ℤ, pos, true, false, SFits, w64, to_z-of_z, sym, ap, ◌∙◌}
use Rattle.wsm_keep.proofs.OfKeys.{parted_at, beside_at}
use Rattle.wsm_keep.proofs.sessions.first_of_key.Goals as goal

pub returns-then-not-is_beside : goal.returns-then-not-is_beside
returns-then-not-is_beside c =
    let p = c.args.parting in
    let start : SFits w64 c.at-window.result.start = search rules in
    let no : c.is_beside.result ≡ false = search rules in
    ap (λ (n : ℤ). n -ℤ pos 1) (to_z-of_z start)
    ∙ sym (parted_at p.gap p.time c.args.sessions.now.windows c.loop-place.place c.at-window.result c.at-window.ensures.session (sym c.is_beside.ensures ∙ no))
    ∙ c.loop-place.invariant

pub loop-place-preserved : goal.loop-place-preserved
loop-place-preserved c =
    let p = c.args.parting in
    let yes : c.is_beside.result ≡ true = search rules in
    sym (beside_at p.gap p.time c.args.sessions.now.windows c.loop-place.place c.at-window.result c.at-window.ensures.session (sym c.is_beside.ensures ∙ yes))
    ∙ c.loop-place.invariant

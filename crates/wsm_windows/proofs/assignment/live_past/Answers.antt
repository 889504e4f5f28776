use Rattle.std.proofs.Common.{rules, ap, filter, ◌∙◌, ◌≡◌, ℤ, SFits, to_z, of_z, w64}
use Rattle.std.proofs.lemmas.Int.{to_z-of_z}
use Rattle.std.specs.Prelude.{int_lt}
use Rattle.std.specs.Int.{int_max}
use Rattle.wsm_windows.specs.Windows.{windows_of}
use Rattle.wsm_windows.specs.Life.{is_live}
use Rattle.wsm_windows.proofs.LiveWindows.{live_grid, is_past}
use Rattle.wsm_windows.proofs.assignment.live_past.Goals as goal

past_is : (time expired past : ℤ) → SFits w64 time → SFits w64 expired → past ≡ int_max (to_z w64 (of_z w64 time)) (to_z w64 (of_z w64 expired)) → past ≡ int_max time expired
past_is time expired past t e is = is ∙ (λ i. int_max (to_z-of_z w64 time t i) (to_z-of_z w64 expired e i))

pub returns-clause-time : goal.returns-clause-time
returns-clause-time c =
    let fits : SFits w64 c.max.result = search rules in
    rw (to_z-of_z w64 c.max.result fits)
    (is_past c.args.time c.last_expired_at.result c.args.mark c.max.result c.requires.time c.requires.mark (rw (to_z-of_z w64 c.args.mark c.ranges.mark) at c.last_expired_at.ensures.by)
    (past_is c.args.time c.last_expired_at.result c.max.result c.ranges.time (search rules) c.max.ensures.value))

pub returns-clause-live : goal.returns-clause-live
returns-clause-live c size period low high =
    let fits : SFits w64 c.max.result = search rules in
    ap (λ (m : ℤ). filter (λ w. int_lt m w.end) (windows_of size period c.args.time)) (to_z-of_z w64 c.max.result fits)
    ∙ live_grid size period c.args.time c.args.lateness c.args.mark c.max.result c.last_expired_at.result low high c.requires.time
    (past_is c.args.time c.last_expired_at.result c.max.result c.ranges.time (search rules) c.max.ensures.value)
    (λ w placed. c.last_expired_at.ensures.live w ∙ (λ i. is_live w (to_z-of_z w64 c.args.lateness c.ranges.lateness i) (to_z-of_z w64 c.args.mark c.ranges.mark i)))

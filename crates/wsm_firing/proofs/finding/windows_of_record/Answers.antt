use Rattle.std.proofs.Common.{◌≡◌, ℤ, sym, ap, subst, ◌∙◌, SFits, w64, to_z-of_z, arith}
use Rattle.std.proofs.lemmas.Int.{ints, fits_signed_from_abs}
use Rattle.wsm_windows.specs.Windows.{IsShape, IsSpan}
use Rattle.wsm_windows.specs.Life.{live_windows_of}
use Rattle.wsm_program.specs.Program.{Program, Header}
use Rattle.wsm_program.specs.View.{header_of}
use Rattle.wsm_rules.proofs.Lawful as lawful_programs
use Rattle.wsm_firing.proofs.InOrder.{windows_in_order}
use Rattle.wsm_firing.proofs.finding.windows_of_record.Goals as goal
use Rattle.wsm_firing.proofs.finding.windows_of_record.Goals.{After-header-header, After-live_windows_of}

late_fits : (n : ℤ) → IsSpan n → SFits w64 n
late_fits n span = fits_signed_from_abs w64 n (omega (arith, ints, span.low, span.high))

lateness : (c : After-header-header) → IsSpan c.header-header.result.now.clock.lateness
lateness c = subst (λ (h : Header). IsSpan h.clock.lateness) (sym c.header-header.ensures.header) (lawful_programs.lawful c.program.result.now c.header-header.ensures.lawful).lateness

listed : (c : After-live_windows_of) → IsSpan c.header-header.result.now.clock.lateness → c.live_windows_of.result ≡ live_windows_of c.args.verified.now.header.shape c.args.time c.args.verified.now.header.clock.lateness c.args.mark
listed c span =
    let time_fits : SFits w64 c.args.time = c.ranges.time in
    let mark_fits : SFits w64 c.args.mark = c.ranges.mark in
    let wait_fits : SFits w64 c.header-header.result.now.clock.lateness = late_fits c.header-header.result.now.clock.lateness span in
    let header : header_of c.header-header.result.now ≡ c.args.verified.now.header = c.header-header.ensures.header ∙ ap (λ (p : Program). p.header) c.program.ensures.program in
    simp to_z-of_z at c.live_windows_of.ensures.list ∙ ap (λ (h : Header). live_windows_of h.shape c.args.time h.clock.lateness c.args.mark) header

pub live_windows_of-requires-clause-shape : goal.live_windows_of-requires-clause-shape
live_windows_of-requires-clause-shape c = subst (λ (h : Header). IsShape h.shape) (sym c.header-header.ensures.header) (lawful_programs.lawful c.program.result.now c.header-header.ensures.lawful).shape

pub live_windows_of-requires-clause-lateness : goal.live_windows_of-requires-clause-lateness
live_windows_of-requires-clause-lateness c =
    let span = lateness (goal.at.live_windows_of-requires-clause-lateness c).After-header-header in
    let wait : SFits w64 c.header-header.result.now.clock.lateness = late_fits c.header-header.result.now.clock.lateness span in
    simp to_z-of_z span

pub returns-clause-list : goal.returns-clause-list
returns-clause-list c = listed (goal.at.returns-clause-list c).After-live_windows_of (lateness (goal.at.returns-clause-list c).After-header-header)

pub returns-clause-order : goal.returns-clause-order
returns-clause-order c = λ key.
    windows_in_order key c.args.verified.now.header.shape c.args.time c.args.verified.now.header.clock.lateness c.args.mark c.live_windows_of.result
    (listed (goal.at.returns-clause-order c).After-live_windows_of (lateness (goal.at.returns-clause-order c).After-header-header)) c.live_windows_of.ensures.rising

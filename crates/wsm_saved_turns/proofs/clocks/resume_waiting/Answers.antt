use Rattle.std.proofs.Common.{◌≡◌, ◌∙◌, ◌≤◌, List, ap, arith, length, map, subst, sym}
use Rattle.std.proofs.lemmas.List.{length-map}
use Rattle.wsm_watermarks.specs.declared.held.Timed.{Timed}
use Rattle.wsm_watermarks.specs.Held.{AreByTime}
use Rattle.wsm_turns.specs.Numbered.{Numbered}
use Rattle.wsm_saved_turns.specs.Turns.{Stand, row_of}
use Rattle.wsm_saved_turns.proofs.Resuming.{hears_so, marks_fit}
use Rattle.wsm_saved_turns.proofs.clocks.resume_waiting.Goals as goal

pub returns-clause-restored : goal.returns-clause-restored
returns-clause-restored c = λ was stamps told waits hears fits is.
    let s = c.args.standing in
    let clocks = c.args.clocks in
    let rows : List (Timed Numbered) = map row_of c.deref.result.now in
    let same_rows : rows ≡ was.held.rows = ap (map row_of) c.deref.ensures.value ∙ ap (λ (t : Stand). t.rows) is in
    let same_said : s.said.items ≡ was.marks.table.said = ap (λ (t : Stand). t.said) is in
    let marks = c.in_ok-marks.ensures.fits stamps
    (marks_fit was.marks s.said.items s.heard s.mark clocks.rule stamps same_said (ap (λ (t : Stand). t.heard) is) (ap (λ (t : Stand). t.mark) is) hears.by hears.fits) in
    let count : length c.in_ok-marks.marks.table.said ≡ c.args.count = c.in_ok-marks.ensures.clocks ∙ ap length same_said ∙ hears.clocks in
    let resumed = c.in_ok-waiting.ensures c.args.count stamps c.in_ok-marks.ensures.rule count marks in
    let by_time : AreByTime rows = subst AreByTime (sym same_rows) fits.by_time in
    let few : length c.deref.result.now ≤ clocks.room = omega (arith, fits.few, hears.room, ap length same_rows, length-map c.deref.result.now row_of) in
    let all = c.in_ok-wait_all.ensures clocks c.args.count s.told stamps by_time few resumed in
    hears_so clocks c.args.count c.wait_all.new.waiting stamps s.told told rows waits (ap (λ (t : Stand). t.told) is ∙ hears.last) (same_rows ∙ hears.rows) all

use Rattle.std.specs.Prelude.{Result, Ok, Err, IfErr, IfOk, List, ℕ}
use Rattle.wsm_log_text.specs.declared.totals.LogTotals.{LogTotals}
use Rattle.wsm_machine.specs.Meaning.{query_of}
use Rattle.wsm_log_rows.specs.declared.end.LogEnd.{LogEnd}
use Rattle.wsm_intake.specs.Run.{Completes, EndsEarly}
use Rattle.wsm_intake.proofs.run.take_log.Goals as goal

-- what is told of some lines is told of lines
lines_of_end : (P : LogEnd → List (List ℕ) → Type 0) (r : Result LogTotals LogEnd) (read : List (List ℕ)) → IfErr r (λ end. P end read) → IfErr r (λ end. (x : List (List ℕ)) × P end x)
lines_of_end P (Ok totals) read h = h
lines_of_end P (Err end) read h = (read, h)

lines_of_totals : (P : LogTotals → List (List ℕ) → Type 0) (r : Result LogTotals LogEnd) (read : List (List ℕ)) → IfOk r (λ totals. P totals read) → IfOk r (λ totals. (x : List (List ℕ)) × P totals x)
lines_of_totals P (Ok totals) read h = (read, h)
lines_of_totals P (Err end) read h = h

pub returns-clause-completes : goal.returns-clause-completes
returns-clause-completes g c = λ known s clocks p start fits.
    let t = c.in_ok-take_lines.ensures.taken known s clocks p start fits in
    let old = g.D.Device.taken c.args.out.now in
    lines_of_totals (λ end read. Completes known s clocks (query_of p) read old (g.D.Device.taken c.finish.new.out) end.totals) c.finish.result t.0
    (c.finish.ensures.completes known s clocks p t.0 old t.1 t.2)

pub returns-clause-ends_early : goal.returns-clause-ends_early
returns-clause-ends_early g c = λ known s clocks p start fits.
    let t = c.in_ok-take_lines.ensures.taken known s clocks p start fits in
    let old = g.D.Device.taken c.args.out.now in
    lines_of_end (λ end read. EndsEarly known s clocks (query_of p) read old (g.D.Device.taken c.finish.new.out) end) c.finish.result t.0
    (c.finish.ensures.ends_early known s clocks p t.0 old t.1 t.2)

pub returns-clause-counts : goal.returns-clause-counts
returns-clause-counts g c = λ known s clocks p start fits.
    let t = c.in_ok-take_lines.ensures.taken known s clocks p start fits in
    c.finish.ensures.counts known s clocks p t.0 (g.D.Device.taken c.args.out.now) t.1 t.2

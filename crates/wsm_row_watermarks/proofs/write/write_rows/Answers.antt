use Rattle.std.specs.Prelude.{Result, Ok, Err, IfErr, IfOk, List, ℕ}
use Rattle.wsm_log_rows.specs.declared.end.LogEnd.{LogEnd}
use Rattle.wsm_row_watermarks.specs.declared.counts.Totals.{Totals}
use Rattle.wsm_row_watermarks.specs.Run.{Completes, EndsEarly}
use Rattle.wsm_row_watermarks.proofs.write.write_rows.Goals as goal

-- what is told of some lines is told of lines
lines_of_end : (P : LogEnd → List (List ℕ) → Type 0) (r : Result Totals LogEnd) (read : List (List ℕ)) → IfErr r (λ end. P end read) → IfErr r (λ end. (x : List (List ℕ)) × P end x)
lines_of_end P (Ok totals) read h = h
lines_of_end P (Err end) read h = (read, h)

lines_of_totals : (P : Totals → List (List ℕ) → Type 0) (r : Result Totals LogEnd) (read : List (List ℕ)) → IfOk r (λ totals. P totals read) → IfOk r (λ totals. (x : List (List ℕ)) × P totals x)
lines_of_totals P (Ok totals) read h = (read, h)
lines_of_totals P (Err end) read h = h

pub returns-clause-written : goal.returns-clause-written
returns-clause-written g c = λ known w once start fits.
    let t = c.in_ok-take_lines.ensures.taken known w once start fits in
    let old = g.D.Device.taken c.args.out.now in
    lines_of_totals (λ totals read. Completes known w once c.args.last read old (g.D.Device.taken c.finish.new.out) totals) c.finish.result t.0
    (c.finish.ensures.completes known w once t.0 old t.1 t.2)

pub returns-clause-broken : goal.returns-clause-broken
returns-clause-broken g c = λ known w once start fits.
    let t = c.in_ok-take_lines.ensures.taken known w once start fits in
    let old = g.D.Device.taken c.args.out.now in
    lines_of_end (λ end read. EndsEarly known w once c.args.last read old (g.D.Device.taken c.finish.new.out) end) c.finish.result t.0
    (c.finish.ensures.ends_early known w once t.0 old t.1 t.2)

use Rattle.std.proofs.Common.{◌≡◌, ◌++◌, length, arith, length-append}
use Rattle.std.specs.Io.KnownBytes.{Appends}
use Rattle.std.specs.Io.Iter.{u64_saturate}
use Rattle.std.proofs.KnownBytes.{Appends-trans, Consumes-trans, Consumes-whole}
use Rattle.wsm_replace.proofs.lines.copied.Goals as goal

pub loop-preserved : goal.loop-preserved
loop-preserved g c =
    let (moved, count, read, written) = c.loop.invariant in
    let (more, long, read', written') = c.in_ok-count.ensures.moved in
    (moved ++ more, omega (arith, length-append moved more, c.saturating_add-total.ensures), Consumes-trans _ _ _ _ _ read read', Appends-trans _ _ _ _ _ written written')

pub returns-then-count-eq0 : goal.returns-then-count-eq0
returns-then-count-eq0 g c =
    let (moved, count, read, written) = c.loop.invariant in
    let (more, long, read', written') = c.in_ok-count.ensures.moved in
    let none = c.if-count-eq0.true in
    let end = c.in_ok-count.ensures.end none in
    let all_read = Consumes-trans _ _ _ _ _ read read' in
    let all_written = Appends-trans _ _ _ _ _ written written' in
    let all_counted : c.loop.total ≡ u64_saturate (length (moved ++ more)) = omega (arith, length-append moved more) in
    record {
      bytes = Consumes-whole _ _ _ (Appends (g.W.Write.contents c.args.out.now) (g.W.Write.contents c.copy_some.new.out)) all_read end all_written;
      count = Consumes-whole _ _ _ (λ xs. c.loop.total ≡ u64_saturate (length xs)) all_read end all_counted;
    }

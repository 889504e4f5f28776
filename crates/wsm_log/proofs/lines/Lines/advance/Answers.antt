use Rattle.std.proofs.Common.{◌≡◌, ◌+◌, ◌∙◌, Ok, ap, arith, subst, sym, true, refl}
use Rattle.std.proofs.lemmas.Result.{err_from_is_err_and}
use Rattle.wsm_log.specs.Lines.{bytes_left}
use Rattle.wsm_log.specs.LineBuffer.{most_of}
use Rattle.std.proofs.lemmas.Bool.{true≢false}
use Rattle.wsm_log.proofs.Following.{ReadsPart, HasRest-end, HasRest-line, ReadsLine-of, ReadsPart-more}
use Rattle.wsm_log.proofs.lines.Lines.advance.Goals as goal

-- a line was read up to its line feed
pub returns-then-take_line-clause-advances : goal.returns-then-take_line-clause-advances
returns-then-take_line-clause-advances g c longest known lines follows =
    let before = c.loop-left.self in
    let kept = c.loop-left.invariant in
    let most : most_of before.buffer ≡ longest + 2 = kept.most ∙ follows.most in
    let read = ReadsLine-of (bytes_left g.R.Read.remaining c.args.self.now) (g.R.Read.remaining before.reader) before.buffer c.take_line.new.self kept.reads c.if-take_line.ensures.found in
    record {
      most = c.if-take_line.ensures.most ∙ most;
      rest = HasRest-line longest g.R.Read.remaining (most_of before.buffer) most known lines c.args.self.now _ _ follows.rest read (λ over. let is : before.over ≡ true = over in true≢false (sym is ∙ kept.unended));
    }

-- nothing more came
pub returns-then-not-branch-clause-advances : goal.returns-then-not-branch-clause-advances
returns-then-not-branch-clause-advances g c longest known lines follows =
    let before = c.loop-left.self in
    let kept = c.loop-left.invariant in
    let done = c.in_ok-read_on.ensures in
    let over = done.end (ap Ok c.if-not-branch.true) in
    let old = bytes_left g.R.Read.remaining c.args.self.now in
    let new = bytes_left g.R.Read.remaining c.read_on.new.self in
    let read = ReadsPart-more old (g.R.Read.remaining before.reader) new before.buffer c.take_line.new.self kept.reads c.if-take_line.ensures.part done.bytes in
    HasRest-end longest g.R.Read.remaining (most_of before.buffer) (kept.most ∙ follows.most) known lines c.args.self.now c.read_on.new.self c.has_part.result c.has_part.ensures
    (done.most ∙ c.if-take_line.ensures.most) follows.rest (subst (ReadsPart old new (most_of before.buffer)) (sym done.part) read) over.0

-- more came, or may come
pub loop-left-preserved : goal.loop-left-preserved
loop-left-preserved g c =
    let before = c.loop-left.self in
    let kept = c.loop-left.invariant in
    let done = c.in_ok-read_on.ensures in
    let old = bytes_left g.R.Read.remaining c.args.self.now in
    let new = bytes_left g.R.Read.remaining c.read_on.new.self in
    let most : most_of c.read_on.new.self.buffer ≡ most_of before.buffer = done.most ∙ c.if-take_line.ensures.most in
    let read = ReadsPart-more old (g.R.Read.remaining before.reader) new before.buffer c.take_line.new.self kept.reads c.if-take_line.ensures.part done.bytes in
    record {
      most = most ∙ kept.most;
      turns = omega (arith, done.turns, c.in-Some.ensures.1, kept.turns);
      unended = done.more (ap Ok c.if-not-branch.false) ∙ kept.unended;
      reads = rw (most, done.part) read;
    }

-- a read failed
pub returns-in_err-read_on-clause-ends : goal.returns-in_err-read_on-clause-ends
returns-in_err-read_on-clause-ends g c failed =
    let p = err_from_is_err_and c.from_residual.result c.from_residual.ensures.1 in
    let (none, same) = c.in_err-read_on.ensures.failed in
    rw (p.1, same ∙ c.loop-left.invariant.unended, none) refl

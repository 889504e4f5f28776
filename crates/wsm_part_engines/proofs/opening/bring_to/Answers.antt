use Rattle.std.proofs.Common.{rules, ◌≡◌, ◌+◌, ◌-◌, ◌<◌, true, false, length, get_or, ◌∷◌, refl, ap, sym, subst, ◌∙◌, SFits, to_z, of_z, w64, arith}
use Rattle.std.proofs.lemmas.Int.{to_z-of_z}
use Rattle.std.specs.Prelude.{Some, int_lt, pos}
use Rattle.wsm_record.specs.Event.{Watermark}
use Rattle.wsm_program.specs.Program.{Header, Program}
use Rattle.wsm_engine.specs.Meaning.{Fits}
use Rattle.wsm_part_engines.proofs.Openers.{from_source, none_behind, time_fits, told, untold}
use Rattle.wsm_part_engines.proofs.opening.bring_to.Goals as goal

pub loop-source-init : goal.loop-source-init
loop-source-init c =
    let header = c.header.ensures.header ∙ ap (λ (p : Program). p.header) c.program.ensures in
    let fits : SFits w64 c.header.result.now.clock.start = search rules in
    record {
      program = refl;
      start = to_z-of_z w64 c.header.result.now.clock.start fits ∙ ap (λ (h : Header). h.clock.start) header;
      fits = subst (Fits c.args.engine.now) (sym (none_behind c.args.engine.now.program.header.clock.start c.args.marks.now (length c.args.marks.now) (omega arith))) c.requires.opened;
    }

pub loop-source-preserved-then-start-time-2 : goal.loop-source-preserved-then-start-time-2
loop-source-preserved-then-start-time-2 c =
    let marks = c.args.marks.now in
    let start = c.args.engine.now.program.header.clock.start in
    let source = c.loop-source.source - 1 in
    let mark = get_or marks source (pos 0) in
    let few : source < length marks = omega (arith, c.loop-source-test.true, c.loop-source.auto.source) in
    let same : to_z w64 (of_z w64 mark) ≡ mark = to_z-of_z w64 mark (time_fits mark (c.requires.times source (pos 0) few)) in
    let past : int_lt start mark ≡ true = (λ j. int_lt (sym c.loop-source.invariant.start j) (sym same j)) ∙ c.if-start-time.true in
    let next : c.loop-source.source ≡ source + 1 = omega (arith, c.loop-source-test.true) in
    record {
      program = c.feed.ensures.program ∙ c.loop-source.invariant.program;
      start = c.loop-source.invariant.start;
      fits = subst (Fits c.feed.new.self)
          ((λ j. Watermark (Some source) (same j) ∷ from_source start marks (next j)) ∙ told start marks source few mark refl past)
          (c.feed.ensures.fits (from_source start marks c.loop-source.source) c.loop-source.invariant.fits);
    }

pub loop-source-preserved : goal.loop-source-preserved
loop-source-preserved c =
    let marks = c.args.marks.now in
    let start = c.args.engine.now.program.header.clock.start in
    let source = c.loop-source.source - 1 in
    let mark = get_or marks source (pos 0) in
    let few : source < length marks = omega (arith, c.loop-source-test.true, c.loop-source.auto.source) in
    let same : to_z w64 (of_z w64 mark) ≡ mark = to_z-of_z w64 mark (time_fits mark (c.requires.times source (pos 0) few)) in
    let low : int_lt start mark ≡ false = (λ j. int_lt (sym c.loop-source.invariant.start j) (sym same j)) ∙ c.if-start-time.false in
    let next : c.loop-source.source ≡ source + 1 = omega (arith, c.loop-source-test.true) in
    record {
      program = c.loop-source.invariant.program;
      start = c.loop-source.invariant.start;
      fits = subst (Fits c.loop-source.engine) (ap (from_source start marks) next ∙ untold start marks source few mark refl low) c.loop-source.invariant.fits;
    }

pub returns-clause-fits : goal.returns-clause-fits
returns-clause-fits c =
    let none : c.loop-source.source ≡ 0 = omega (arith, c.loop-source-test.false) in
    subst (λ n. Fits c.loop-source.engine (from_source c.args.engine.now.program.header.clock.start c.args.marks.now n)) none c.loop-source.invariant.fits

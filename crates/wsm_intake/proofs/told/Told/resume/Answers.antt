use Rattle.std.proofs.Common.{rules, ◌≡◌, ◌∙◌, ◌≤◌, ◌+◌, ℕ, ℤ, [], map, SFits, to_z, of_z, to_z-of_z, w64, ap, subst}
use Rattle.std.specs.Prelude.{pos, unsigned_abs}
use Rattle.wsm_record.specs.Event.{event_of}
use Rattle.wsm_program.specs.Program.{Program}
use Rattle.wsm_machine.specs.Meaning.{query_of}
use Rattle.wsm_head.specs.StandsFor.{program_with, taken}
use Rattle.wsm_log_text.specs.Needed.{fed_all}
use Rattle.wsm_intake.specs.Tells.{Serves}
use Rattle.wsm_intake.proofs.told.Told.resume.Goals as goal

pub returns : goal.returns
returns c =
    let records = c.args.records in
    let p = program_with records c.args.self.engine.program in
    let past = fed_all [] (map event_of c.args.events.now) in
    let fits : SFits w64 records = c.ranges.records in
    let back : to_z w64 (of_z w64 records) ≡ records = to_z-of_z fits in
    let own : c.into_program-verified.result ≡ c.args.self.engine.program = c.into_program-verified.ensures ∙ ap (λ e. e.program) c.into_engine.ensures in
    let whole : c.in-Some.whole ≡ p = rw c.in-Some.is at c.in_ok-whole.ensures ∙ (λ i. program_with (back i) (own i)) in
    let engine : c.feed_all.new.engine.program ≡ p = c.feed_all.ensures.program ∙ c.in_ok-engine.ensures.program ∙ whole in
    let admitted : c.totals.result.admitted ≡ taken (query_of p) past =
    ap (λ t. t.admitted) (c.totals.ensures past (c.feed_all.ensures.fits [] c.in_ok-engine.ensures.fits)) ∙ ap (λ (m : Program). taken (query_of m) past) engine in
    let fewer = c.in-Some-fewer_records.fewer in
    let few = c.in-Some-fewer_records.ensures in
    let fewer_fits : SFits w64 fewer = search rules in
    let as_many : fewer ≡ pos (c.args.left + taken (query_of p) past) = few.0 ∙ ap (λ (n : ℕ). pos (c.args.left + n)) admitted in
    let lesser : c.in-Some-2.lesser ≡ program_with (pos (c.args.left + taken (query_of p) past)) p =
    rw c.in-Some-2.is at c.in_ok-lesser.ensures ∙ (λ i. program_with ((to_z-of_z fewer_fits ∙ as_many) i) ((c.into_program.ensures ∙ engine) i)) in
    let serves : Serves c.in-Some-2.lesser c.take_all.new.self past = c.in_ok-take_all.ensures c.in-Some-2.lesser [] c.in_ok-told.ensures.serves in
    record {
      fewer = subst (λ (n : ℕ). c.args.left + n ≤ unsigned_abs records) admitted (subst (λ (z : ℤ). c.args.left + c.totals.result.admitted ≤ unsigned_abs z) back few.1);
      serves = subst (λ (m : Program). Serves m c.take_all.new.self past) lesser serves;
    }

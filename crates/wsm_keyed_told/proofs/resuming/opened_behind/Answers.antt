use Rattle.std.proofs.Common.{rules, ◌≡◌, ◌∙◌, ◌≤◌, ◌+◌, ℕ, ℤ, List, [], map, SFits, to_z, of_z, to_z-of_z, w64, ap, subst, sym}
use Rattle.std.specs.Prelude.{unsigned_abs}
use Rattle.wsm_record.specs.Event.{event_of}
use Rattle.wsm_program.specs.Program.{Program}
use Rattle.wsm_head.specs.StandsFor.{program_with, taken}
use Rattle.wsm_part_programs.specs.Names.{of_names}
use Rattle.wsm_part_engines.specs.Fits as parts
use Rattle.wsm_log_text.specs.Needed.{fed_all}
use Rattle.wsm_keyed_told.proofs.ByNames.{fits_any}
use Rattle.wsm_keyed_told.proofs.resuming.opened_behind.Goals as goal

pub returns : goal.returns
returns c =
    let records = c.args.records in
    let p = program_with records c.args.program in
    let names : List (List ℕ) = c.args.names.now in
    let past = fed_all [] (map event_of c.args.events.now) in
    let fits : SFits w64 records = c.ranges.records in
    let back : to_z w64 (of_z w64 records) ≡ records = to_z-of_z fits in
    let fresh = c.in-Some.fresh in
    let first : fresh.program ≡ p = rw c.in-Some.is at c.in_ok-fresh.ensures.program ∙ ap (λ (z : ℤ). program_with z c.args.program) back in
    let opened : parts.Fits p names fresh [] = subst (λ (m : Program). parts.Fits m names fresh []) first (rw c.in-Some.is at c.in_ok-fresh.ensures.fits names) in
    let parts_now = c.in-Some-2.parts in
    let fed : parts.Fits p names parts_now past = rw c.in-Some-2.is at c.in_ok-parts.ensures.fits p names [] (sym c.len.ensures.len) opened in
    let many : (all : List (List ℕ)) → parts.AreNamed all past → c.totals.result.admitted ≡ taken (of_names p all) past = λ all named.
    ap (λ t. t.admitted) (c.totals.ensures p all past (fits_any p names parts_now past fed all named)) in
    let fewer = c.in-Some-fewer_records.fewer in
    let few = c.in-Some-fewer_records.ensures in
    let fewer_fits : SFits w64 fewer = search rules in
    record {
      admitted = c.totals.result.admitted;
      many = many;
      fewer = subst (λ (z : ℤ). c.args.left + c.totals.result.admitted ≤ unsigned_abs z) back few.1;
      program = rw c.in-Some-3.is at c.in_ok-lesser.ensures.program ∙ (λ i. program_with ((to_z-of_z fewer_fits ∙ few.0) i) ((c.into_program.ensures ∙ fed.program) i));
      lawful = rw c.in-Some-3.is at c.in_ok-lesser.ensures.lawful;
      panes = rw c.in-Some-3.is at c.in_ok-lesser.ensures.panes;
      fits = rw c.in-Some-3.is at c.in_ok-lesser.ensures.fits;
    }

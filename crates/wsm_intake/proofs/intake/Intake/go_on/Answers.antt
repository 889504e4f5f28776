use Rattle.std.proofs.Common.{rules, ◌≡◌, ◌∙◌, ℕ, List, [], ◌∷◌, SFits, to_z, of_z, to_z-of_z, w64, sym, ap, subst}
use Rattle.wsm_record.specs.Event.{Event}
use Rattle.wsm_semantics.specs.Needed.{needed}
use Rattle.wsm_program.specs.Program.{Program}
use Rattle.wsm_machine.specs.Meaning.{query_of}
use Rattle.wsm_lines.specs.Reader.{Follows}
use Rattle.wsm_doubles.specs.Memory.{Recalls}
use Rattle.wsm_turns.specs.Known.{Remembers}
use Rattle.wsm_turns.specs.Turns.{watermark}
use Rattle.wsm_head.specs.StandsFor.{program_with, records_left}
use Rattle.wsm_intake.specs.declared.told.Told.{Told}
use Rattle.wsm_intake.specs.Tells.{Serves}
use Rattle.wsm_intake.specs.Turns.{setting_by}
use Rattle.wsm_intake.specs.Resuming.{GoesOnFrom}
use Rattle.wsm_log_text.specs.Needed.{left_behind, needed_in_order}
use Rattle.wsm_intake.proofs.Resumed.{few_records, goes_on, reads_on, recalls_on, serves_again}
use Rattle.wsm_intake.proofs.intake.Intake.go_on.Goals as goal

pub returns : goal.returns
returns c = λ s clocks p before text saved on read.
    let q = query_of (program_with saved.records p) in
    let fed = saved.other.fed in
    let events = needed_in_order q fed in
    let fewer = records_left q fed in
    let memory = saved.other.memory in
    let f = c.args.standing in
    let parts = c.into_parts-told.result in
    let told = c.in-Some.told in
    let fits : SFits w64 parts.2 = search rules in
    let records : to_z w64 (of_z w64 parts.2) ≡ p.header.clock.records = to_z-of_z fits ∙ c.into_parts-told.ensures.records ∙ on.fits.records in
    let program : parts.0.engine.program ≡ program_with on.records p = ap (λ (t : Told). t.engine.program) c.into_parts-told.ensures.told ∙ on.fits.holds.told.program in
    let first : GoesOnFrom (program_with (to_z w64 (of_z w64 parts.2)) parts.0.engine.program) f.left events told =
    subst (λ (es : List Event). GoesOnFrom (program_with (to_z w64 (of_z w64 parts.2)) parts.0.engine.program) f.left es told) read.needs (rw c.in-Some.is at c.in_ok-told.ensures) in
    let from : GoesOnFrom p (left_behind q fed) events told =
    subst (λ (n : ℕ). GoesOnFrom p n events told) read.says.left (subst (λ (m : Program). GoesOnFrom m f.left events told) (λ i. program_with (records i) (program i)) first) in
    let less = few_records s clocks p on.lawful before text saved told from in
    let serves = serves_again s clocks p on.lawful before text saved told from in
    let made = c.standing_behind.ensures in
    let intake = c.standing_behind.result in
    let start : Follows s [] parts.1 = subst (Follows s []) (sym c.into_parts-told.ensures.reader) on.fits.reader in
    let heading = subst (λ (l : List ℕ). Follows s (l ∷ []) c.read_first.new.reader) (c.deref.ensures.value ∙ read.says.first) (c.in_ok-read_first.ensures s start) in
    let reads = reads_on s clocks p before c.read_first.new.reader saved.some heading in
    let recalls = subst (λ (m : Program). let w = setting_by clocks m in Recalls w.clock w.shape (watermark w (needed q fed)) f.known memory) (sym serves.program)
    (recalls_on s clocks p on.lawful before text saved f.known read.says.known) in
    let remembers = made.identifiers clocks (watermark (setting_by clocks told.engine.program) (needed q fed)) memory recalls in
    goes_on s clocks p on.lawful before text saved intake f less
    (subst (λ (t : Told). Serves (program_with fewer p) t (needed q fed)) (sym made.told) (record { program = serves.program; fits = serves.fits; staying = serves.staying }))
    read.says
    (subst (Follows s before) (sym made.reader) reads)
    made.waiting made.names made.first made.taken (made.records ∙ records)
    (subst (λ (m : Program). let w = setting_by clocks m in Remembers w (watermark w (needed q fed)) intake.identifiers memory) serves.program remembers)

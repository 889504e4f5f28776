use Rattle.std.proofs.Common.{rules, ◌≡◌, ◌∙◌, ◌++◌, ◌+◌, ℕ, ℤ, List, [], ◌∷◌, map, SFits, to_z, of_z, to_z-of_z, w64, sym, ap, subst}
use Rattle.std.specs.Prelude.{pos}
use Rattle.wsm_record.specs.Event.{Event, event_of}
use Rattle.wsm_semantics.specs.Needed.{needed}
use Rattle.wsm_program.specs.Program.{Program}
use Rattle.wsm_lines.specs.Reader.{Follows}
use Rattle.wsm_doubles.specs.Memory.{Recalls}
use Rattle.wsm_turns.specs.Known.{Remembers}
use Rattle.wsm_turns.specs.Turns.{watermark}
use Rattle.wsm_head.specs.StandsFor.{program_with, records_left, taken}
use Rattle.wsm_part_programs.specs.Names.{of_names}
use Rattle.wsm_part_engines.specs.Fits as parts
use Rattle.wsm_keyed_told.specs.declared.told.KeyedTold.{KeyedTold}
use Rattle.wsm_keyed_told.specs.Tells.{Serves}
use Rattle.wsm_keyed_told.specs.Resuming.{GoesOnFrom}
use Rattle.wsm_log_text.specs.Needed.{fed_all}
use Rattle.wsm_log_text.proofs.NeededEvents.{needed_fed}
use Rattle.wsm_keyed_intake.specs.KeyedLog.{names_of, setting_by}
use Rattle.wsm_keyed_intake.specs.Turns.{Grows}
use Rattle.wsm_keyed_intake.specs.GoesOn.{GoesOnBy}
use Rattle.wsm_keyed_intake.specs.Saved.{query_with}
use Rattle.wsm_keyed_intake.proofs.GoingOn.{named_by}
use Rattle.wsm_keyed_intake.proofs.Names.{lines_grow}
use Rattle.wsm_keyed_intake.proofs.Resumed.{goes_on, is_fewer, reads_on, recalls_on}
use Rattle.wsm_keyed_intake.proofs.intake.KeyedIntake.go_on.Goals as goal

pub returns : goal.returns
returns c = λ g before text saved on read.
    let p = g.program in
    let f = c.args.standing in
    let ev : List Event = map event_of c.args.events.now in
    let split = c.into_parts-told.result in
    let told = c.in-Some.told in
    let fits : SFits w64 split.2 = search rules in
    let records : to_z w64 (of_z w64 split.2) ≡ p.header.clock.records = to_z-of_z fits ∙ c.into_parts-told.ensures.records ∙ on.whole in
    let program : split.0.parts.program ≡ program_with on.records p = ap (λ (t : KeyedTold). t.parts.program) c.into_parts-told.ensures.told ∙ (on.by []).holds.told.parts.program in
    let from : GoesOnFrom p f.left c.args.names ev told =
    subst (λ (m : Program). GoesOnFrom m f.left c.args.names ev told) (λ i. program_with (records i) (program i)) (rw c.in-Some.is at c.in_ok-told.ensures) in
    let fewer : ℤ = pos (f.left + from.admitted) in
    let made = c.standing_behind.ensures in
    let intake = c.standing_behind.result in
    let names : intake.told.names ≡ names_of g before = ap (λ (t : KeyedTold). t.names) made.told ∙ from.names ∙ read.names in
    let start : Follows g.source [] split.1.reader = subst (λ r. Follows g.source [] r.reader) (sym c.into_parts-told.ensures.reader) on.reads.reader in
    let heading = subst (λ (l : List ℕ). Follows g.source (l ∷ []) c.read_first.new.self.reader) (c.deref.ensures.value ∙ (read.by []).says.first) (c.in_ok-read_first.ensures.follows g.source start) in
    let reads = reads_on g (names_of g before) before c.read_first.new.self.reader (saved.by []).some heading in
    let by : (later : List (List ℕ)) → GoesOnBy g fewer (names_of g (later ++ before)) intake before = λ later.
    let all = names_of g (later ++ before) in
    let s = saved.by later in
    let r = read.by later in
    let q = query_with g saved.records all in
    let fed = s.other.fed in
    let needs : fed_all [] ev ≡ needed q fed = ap (fed_all []) r.needs ∙ needed_fed q fed in
    let grows : Grows intake.told.names all = subst (λ (ns : List (List ℕ)). Grows ns all) (sym names) (lines_grow g later before) in
    let told_grows : Grows told.names all = subst (λ (t : KeyedTold). Grows t.names all) made.told grows in
    let named : parts.AreNamed all (fed_all [] ev) = named_by (program_with fewer p) told (fed_all [] ev) from.serves all told_grows in
    let many : from.admitted ≡ taken (of_names p all) (needed q fed) = from.many all named ∙ ap (taken (of_names p all)) needs in
    let is : fewer ≡ records_left q fed = is_fewer g saved.records saved.lesser saved.fewer all before text s f.left from.admitted r.says.left many in
    let serves : Serves (program_with fewer p) told (needed q fed) = subst (λ (es : List Event). Serves (program_with fewer p) told es) needs from.serves in
    let recalls = subst (λ (m : Program). let w = setting_by g.clocks m all in Recalls w.clock w.shape (watermark w (needed q fed)) f.known s.other.memory) (sym serves.parts.program)
    (recalls_on g saved.records saved.lesser saved.fewer all before text s fewer is f.known r.says.known) in
    let remembers = made.identifiers g.clocks all (watermark (setting_by g.clocks told.parts.program all) (needed q fed)) s.other.memory recalls in
    goes_on g saved.records saved.lesser saved.fewer all before text s fewer is intake f
    (subst (λ (t : KeyedTold). Serves (program_with fewer p) t (needed q fed)) (sym made.told) (record { lawful = serves.lawful; panes = serves.panes; parts = serves.parts; staying = serves.staying }))
    grows r.says made.waiting made.voices made.taken
    (subst (λ (m : Program). let w = setting_by g.clocks m all in Remembers w (watermark w (needed q fed)) intake.identifiers s.other.memory) serves.parts.program remembers) in
    record {
      records = fewer;
      lawful = on.lawful;
      fewer = from.fewer;
      whole = made.records ∙ records;
      first = made.first ∙ (read.by []).says.first;
      reads = record {
        reader = subst (λ t. Follows g.source before t.reader) (sym made.reader) reads;
        most = ap (λ t. t.most) made.reader ∙ c.read_first.ensures.most ∙ ap (λ t. t.most) c.into_parts-told.ensures.reader ∙ on.reads.most;
        known = names;
      };
      by = by;
    }

use Rattle.std.proofs.Common.{◌≡◌, ◌+◌, ℕ, Bool, true, List, rules, Option, length, refl, sym, subst}
use Rattle.std.proofs.lemmas.Result.{on_ok_weaker}
use Rattle.wsm_record.specs.Event.{Event}
use Rattle.wsm_admission.specs.Admission.{counter}
use Rattle.wsm_turns.specs.Known.{Passes}
use Rattle.wsm_turns.specs.Turns.{watermark}
use Rattle.wsm_turns.specs.Waits.{Takes}
use Rattle.wsm_turns.proofs.Stamps.{clock_known}
use Rattle.wsm_row_watermarks.specs.Fits.{CountsIf, spoken_read}
use Rattle.wsm_row_watermarks.specs.Handed.{Took}
use Rattle.wsm_row_watermarks.proofs.Counting.{one_more}
use Rattle.wsm_row_watermarks.proofs.Turning.{record_left, record_passes}
use Rattle.wsm_row_watermarks.proofs.turns.RowTurns.serve_stamped.Goals as goal

-- a double is left out
pub returns-then-not-is_new : goal.returns-then-not-is_new
returns-then-not-is_new c = λ w s line is begins.
    let old = c.args.self.now in
    let x = spoken_read old in
    let mark = watermark w s.kept.fed in
    let passes : Passes w mark c.passes.new.identifiers x.identifier c.args.stamp.time s.kept.memory c.in_ok-is_new.is_new =
    subst (λ (i : Option (List ℕ)). Passes w mark c.passes.new.identifiers i c.args.stamp.time s.kept.memory c.in_ok-is_new.is_new) c.identifier.ensures (c.in_ok-is_new.ensures w s.kept.fed s.kept.memory begins.holds.told begins.holds.remembers) in
    let sum : c.saturating_add-self.result ≡ counter (old.counts.doubles + 1) = search rules in
    record_left w s line old begins c.passes.new.identifiers (record old.counts { doubles = c.saturating_add-self.result }) c.args.stamp x.event x.identifier is
    (subst (λ (b : Bool). Passes w mark c.passes.new.identifiers x.identifier c.args.stamp.time s.kept.memory b) c.if-not-is_new.true passes) refl refl
    (subst (λ (m : ℕ). CountsIf true old.counts.doubles m) (sym sum) (one_more old.counts.doubles))

pub returns : goal.returns
returns c = λ w s line is begins.
    let old = c.args.self.now in
    let x = spoken_read old in
    let mark = watermark w s.kept.fed in
    let passes : Passes w mark c.passes.new.identifiers x.identifier c.args.stamp.time s.kept.memory c.in_ok-is_new.is_new =
    subst (λ (i : Option (List ℕ)). Passes w mark c.passes.new.identifiers i c.args.stamp.time s.kept.memory c.in_ok-is_new.is_new) c.identifier.ensures (c.in_ok-is_new.ensures w s.kept.fed s.kept.memory begins.holds.told begins.holds.remembers) in
    on_ok_weaker c.take_record.result (λ taken.
    record_passes w s line old begins c.take_record.new.taker c.take_record.new.waiting c.passes.new.identifiers c.args.stamp x.event x.identifier is
    (subst (λ (b : Bool). Passes w mark c.passes.new.identifiers x.identifier c.args.stamp.time s.kept.memory b) c.if-not-is_new.false passes)
    (subst (λ (e : Event). Takes s.clocks (length w.declared.keys) s.kept c.take_record.new.waiting (Took old.handed c.take_record.new.taker) c.args.stamp old.counts.lines e) c.event.ensures taken))
    (c.take_record.ensures s.clocks (length w.declared.keys) s.kept begins.holds.waiting (clock_known w.declared x.event c.args.stamp is) begins.few)

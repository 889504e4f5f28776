use Rattle.std.proofs.Common.{◌≡◌, ◌∙◌, ◌<◌, ◌∷◌, ℕ, Bool, not, List, [], Option, Some, None, length, refl, sym, ap, subst, append-nil}
use Rattle.std.proofs.lemmas.Result.{on_ok_weaker}
use Rattle.std.specs.Prelude.{IfSome, if◌then◌else◌}
use Rattle.wsm_record.specs.Event.{Event}
use Rattle.wsm_watermarks.specs.declared.stamp.Stamp.{Stamp}
use Rattle.wsm_turns.specs.Clocks.{count_in}
use Rattle.wsm_turns.specs.Turns.{fed_with, passing_by, stamped, unstamped, watermark}
use Rattle.wsm_turns.specs.Voices.{stamp_by}
use Rattle.wsm_turns.specs.Waits.{Takes}
use Rattle.wsm_turns.specs.Known.{Passes}
use Rattle.wsm_turns.proofs.Remembering.{mark_rises}
use Rattle.wsm_turns.proofs.Stamps.{told_time}
use Rattle.wsm_keyed_told.specs.Tells.{Tells, Took}
use Rattle.wsm_keyed_intake.specs.KeyedLog.{setting_by}
use Rattle.wsm_keyed_intake.specs.Turns.{Goes, spoken_read}
use Rattle.wsm_keyed_intake.proofs.Telling.{told_grows, told_text}
use Rattle.wsm_log_text.proofs.Counts.{no_more, one_more_fault}
use Rattle.wsm_keyed_intake.proofs.intake.KeyedIntake.serve_voiced.Goals as goal

-- a double is left out
pub returns-then-not-is_new : goal.returns-then-not-is_new
returns-then-not-is_new c = λ clocks p all k holds few clock.
    let old = c.args.self.now in
    let w = setting_by clocks p all in
    let x = spoken_read old.reader c.args.voice in
    let passes : Passes w (watermark w k.fed) c.passes.new.identifiers x.identifier c.args.stamp.time k.memory c.in_ok-is_new.is_new =
    subst (λ (i : Option (List ℕ)). Passes w (watermark w k.fed) c.passes.new.identifiers i c.args.stamp.time k.memory c.in_ok-is_new.is_new) c.identifier.ensures (c.in_ok-is_new.ensures clocks p all k holds.told holds.remembers) in
    subst (λ (b : Bool). Goes clocks p all old (record old { identifiers = c.passes.new.identifiers; doubles = c.saturating_add-self.result }) k (if b then record { goes = []; kept = k } else passing_by w k old.taken (stamp_by c.args.voice c.args.stamp) c.args.stamp.time x) (if b then 1 else 0)) (sym (passes.answer ∙ ap not c.if-not-is_new.true)) (record {
      holds = record {
        told = record { lawful = holds.told.lawful; panes = holds.told.panes; parts = holds.told.parts; staying = holds.told.staying };
        grows = holds.grows;
        waiting = holds.waiting;
        remembers = passes.double c.if-not-is_new.true;
      };
      text = sym (append-nil old.told.lines.items);
      names = refl;
      doubles = λ n h. c.saturating_add-self.ensures ∙ one_more_fault old.doubles n h;
      others = refl;
    })

pub returns-in-Some : goal.returns-in-Some
returns-in-Some c = λ clocks p all k holds few clock.
    let old = c.args.self.now in
    let w = setting_by clocks p all in
    let x = spoken_read old.reader c.args.voice in
    let count = count_in clocks (length all) in
    let mark = watermark w k.fed in
    let told = c.in-Some.stamp in
    let is : stamp_by c.args.voice c.args.stamp ≡ Some told = sym c.stamp_by.ensures ∙ c.in-Some.is in
    let time : c.args.stamp.time ≡ told.time = sym (told_time c.args.voice c.args.stamp told is) in
    let passes : Passes w mark c.passes.new.identifiers x.identifier told.time k.memory c.in_ok-is_new.is_new =
    subst (λ (t : ℕ). Passes w mark c.passes.new.identifiers x.identifier t k.memory c.in_ok-is_new.is_new) time
    (subst (λ (i : Option (List ℕ)). Passes w mark c.passes.new.identifiers i c.args.stamp.time k.memory c.in_ok-is_new.is_new) c.identifier.ensures (c.in_ok-is_new.ensures clocks p all k holds.told holds.remembers)) in
    let none = passes.answer ∙ ap not c.if-not-is_new.false in
    let Went = Took old.told c.take_record.new.taker in
    on_ok_weaker c.take_record.result (λ taken.
    let takes = subst (λ (e : Event). Takes clocks count k c.take_record.new.waiting Went told old.taken e) c.event.ensures taken in
    let tells = takes.took p k.fed holds.told in
    let turn = stamped w k old.taken told x in
    let new = record old { told = c.take_record.new.taker; waiting = c.take_record.new.waiting; identifiers = c.passes.new.identifiers } in
    subst (λ (b : Bool). Goes clocks p all old new k (if b then record { goes = []; kept = k } else passing_by w k old.taken (stamp_by c.args.voice c.args.stamp) c.args.stamp.time x) (if b then 1 else 0)) (sym none)
    (subst (λ (o : Option Stamp). Goes clocks p all old new k (passing_by w k old.taken o c.args.stamp.time x) 0) (sym is) (record {
      holds = record {
        told = record { lawful = tells.serves.lawful; panes = tells.serves.panes; parts = tells.serves.parts; staying = tells.serves.staying };
        grows = told_grows p old.told new.told k.fed turn.goes all holds.grows tells;
        waiting = takes.hears;
        remembers = passes.noted c.if-not-is_new.false (watermark w (fed_with k.fed turn.goes)) (mark_rises w k.fed turn.goes);
      };
      text = told_text p old.told new.told k.fed turn.goes all holds.grows tells;
      names = tells.names;
      doubles = no_more old.doubles;
      others = refl;
    }))) (c.take_record.ensures clocks count k holds.waiting (subst (λ (o : Option Stamp). IfSome o (λ s. s.clock < count)) is clock) few)

-- what has no voice goes on
pub returns-in-None : goal.returns-in-None
returns-in-None c = λ clocks p all k holds few clock.
    let old = c.args.self.now in
    let w = setting_by clocks p all in
    let x = spoken_read old.reader c.args.voice in
    let mark = watermark w k.fed in
    let time = c.args.stamp.time in
    let is : stamp_by c.args.voice c.args.stamp ≡ None = sym c.stamp_by.ensures ∙ c.in-None.is in
    let passes : Passes w mark c.passes.new.identifiers x.identifier time k.memory c.in_ok-is_new.is_new =
    subst (λ (i : Option (List ℕ)). Passes w mark c.passes.new.identifiers i time k.memory c.in_ok-is_new.is_new) c.identifier.ensures (c.in_ok-is_new.ensures clocks p all k holds.told holds.remembers) in
    let none = passes.answer ∙ ap not c.if-not-is_new.false in
    on_ok_weaker c.take.result (λ took.
    let tells = subst (λ (y : Event). Tells p old.told c.take.new.self k.fed (record { number = old.taken; event = y } ∷ [])) c.event-in-None.ensures (took p k.fed holds.told) in
    let turn = unstamped w k old.taken time x in
    let new = record old { told = c.take.new.self; identifiers = c.passes.new.identifiers } in
    subst (λ (b : Bool). Goes clocks p all old new k (if b then record { goes = []; kept = k } else passing_by w k old.taken (stamp_by c.args.voice c.args.stamp) time x) (if b then 1 else 0)) (sym none)
    (subst (λ (o : Option Stamp). Goes clocks p all old new k (passing_by w k old.taken o time x) 0) (sym is) (record {
      holds = record {
        told = record { lawful = tells.serves.lawful; panes = tells.serves.panes; parts = tells.serves.parts; staying = tells.serves.staying };
        grows = told_grows p old.told new.told k.fed turn.goes all holds.grows tells;
        waiting = holds.waiting;
        remembers = passes.noted c.if-not-is_new.false (watermark w (fed_with k.fed turn.goes)) (mark_rises w k.fed turn.goes);
      };
      text = told_text p old.told new.told k.fed turn.goes all holds.grows tells;
      names = tells.names;
      doubles = no_more old.doubles;
      others = refl;
    }))) c.take.ensures

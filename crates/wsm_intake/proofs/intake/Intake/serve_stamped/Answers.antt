use Rattle.std.proofs.Common.{◌≡◌, ◌∙◌, ◌+◌, ℕ, List, Option, Some, length, sym, ap, subst}
use Rattle.std.proofs.lemmas.Result.{on_ok_weaker}
use Rattle.wsm_admission.specs.Admission.{counter}
use Rattle.wsm_lines.specs.Reader.{clock_read}
use Rattle.wsm_turns.specs.declared.voice.Voice.{Voice}
use Rattle.wsm_turns.specs.Clocks.{named_in}
use Rattle.wsm_turns.specs.Heard.{left_by, silent_in}
use Rattle.wsm_turns.specs.Named.{Knows}
use Rattle.wsm_turns.specs.Turns.{turn_by}
use Rattle.wsm_turns.specs.Voices.{voiced}
use Rattle.wsm_intake.specs.declared.intake.Intake.{Intake}
use Rattle.wsm_intake.specs.Turns.{Goes, setting_by, spoken_read}
use Rattle.wsm_log_text.proofs.Counts.{some_more}
use Rattle.wsm_intake.proofs.intake.Intake.serve_stamped.Goals as goal

pub returns : goal.returns
returns c = λ clocks p k names holds knows few clock.
    let old = c.args.self.now in
    let r = old.reader in
    let w = setting_by clocks p in
    let named = named_in clocks in
    let stamp = c.args.stamp in
    let voice = c.in_ok-voice.voice in
    let v = voiced named names (clock_read r) in
    let name = c.clock.ensures in
    let is : voice ≡ v.voice = c.in_ok-voice.ensures.voice named names knows ∙ ap (λ (n : Option (List ℕ)). (voiced named names n).voice) name in
    let known : Knows named c.voice_of.new.names v.names =
    subst (λ (n : Option (List ℕ)). Knows named c.voice_of.new.names (voiced named names n).names) name (c.in_ok-voice.ensures.names named names knows) in
    let new = c.serve_voiced.new.self in
    on_ok_weaker c.serve_voiced.result (λ goes.
    let at : Goes clocks p (record old { names = new.names; silent = new.silent }) new k (turn_by w k old.taken (Some stamp) (spoken_read r voice)) (left_by (Some stamp) (spoken_read r voice).identifier k.memory) =
    subst (λ (t : Intake). Goes clocks p (record old { names = t.names; silent = t.silent }) new k (turn_by w k old.taken (Some stamp) (spoken_read r voice)) (left_by (Some stamp) (spoken_read r voice).identifier k.memory)) (sym goes.others) goes in
    record {
      goes = subst (λ (u : Voice). Goes clocks p (record old { names = new.names; silent = new.silent }) new k (turn_by w k old.taken (Some stamp) (spoken_read r u)) (left_by (Some stamp) (spoken_read r u).identifier k.memory)) is at;
      names = subst (λ (t : Intake). Knows named t.names v.names) (sym goes.others) known;
      silent = λ n h.
          ap (λ (t : Intake). t.silent) goes.others ∙ c.saturating_add-self.ensures
          ∙ ap (λ (m : ℕ). counter (old.silent + m)) (c.silent_in.ensures ∙ ap silent_in is) ∙ some_more old.silent n (silent_in v.voice) h;
    })
    (c.serve_voiced.ensures clocks p k (record { told = holds.told; waiting = holds.waiting; remembers = holds.remembers }) few
    (c.in_ok-voice.ensures.within named names (length p.header.schema.keys) stamp knows clock))

use Rattle.std.proofs.Common.{◌≡◌, ◌∙◌, ℕ, Option, Some, None, position, bytes_eq, sym, ap, subst}
use Rattle.std.specs.Prelude.{IfOk}
use Rattle.wsm_record.proofs.Lists.{list_any-map, position-map}
use Rattle.wsm_record.specs.Name.{is_among}
use Rattle.wsm_turns.specs.Named.{Named}
use Rattle.wsm_turns.specs.Voices.{numbered_by}
use Rattle.wsm_turns.proofs.clock_names.ClockNames.numbered.Goals as goal

pub returns-in-Some-clause-voice : goal.returns-in-Some-clause-voice
returns-in-Some-clause-voice c =
    let x = c.args.name.now in
    let keys = c.self.inside.names.keys in
    let found : Some c.in-Some.number ≡ position (bytes_eq x) c.args.self.now.names = c.in-Some.ensures.index ∙ sym (position-map (bytes_eq x) (λ v. v.items) keys) ∙ ap (λ (n : Named). position (bytes_eq x) n.names) c.self.view_is in
    ap (numbered_by c.args.self.now.most c.args.self.now.names x) found

pub add-requires : goal.add-requires
add-requires c =
    let x = c.args.name.now in
    let keys = c.self.inside.names.keys in
    ap (λ (n : Named). is_among x n.names) (sym c.self.view_is) ∙ list_any-map (bytes_eq x) (λ v. v.items) keys ∙ sym c.in-None.ensures.found

pub returns-in-None-clause-voice : goal.returns-in-None-clause-voice
returns-in-None-clause-voice c =
    let x = c.args.name.now in
    let keys = c.self.inside.names.keys in
    let none : None ≡ position (bytes_eq x) c.args.self.now.names = c.in-None.ensures.index ∙ sym (position-map (bytes_eq x) (λ v. v.items) keys) ∙ ap (λ (n : Named). position (bytes_eq x) n.names) c.self.view_is in
    subst (λ (o : Option ℕ). IfOk c.add.result (λ v. record { voice = v; names = c.add.new.self.names } ≡ numbered_by c.args.self.now.most c.args.self.now.names x o)) none c.add.ensures.voice

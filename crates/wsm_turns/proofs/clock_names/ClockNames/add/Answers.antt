use Rattle.std.proofs.Common.{◌≡◌, ◌∙◌, ◌++◌, ◌∷◌, ◌<◌, ℕ, Bool, true, List, [], length, map, nat_lt, sym, ap, arith}
use Rattle.std.proofs.lemmas.Bool.Decides.{nat_tests}
use Rattle.std.proofs.lemmas.List.{length-map}
use Rattle.std.specs.Prelude.{if◌then◌else◌}
use Rattle.wsm_record.proofs.AddedNames.{among, grows}
use Rattle.wsm_record.specs.Name.{is_among}
use Rattle.wsm_turns.specs.declared.voice.Voice.TheVariants.{Named as NamedBy, Silent}
use Rattle.wsm_turns.specs.Named.{Named}
use Rattle.wsm_turns.proofs.clock_names.ClockNames.add.Goals as goal

has_room : (n most : ℕ) → n < most → nat_lt n most ≡ true
has_room n most h = grind (arith, nat_tests)

pub returns-clause-voice : goal.returns-clause-voice
returns-clause-voice c =
    let x = c.args.name.now in
    let now = c.args.self.now in
    let keys = c.self.inside.names.keys in
    let v = c.in_ok-to_vec.field-0 in
    let is : v.items ≡ x = c.in_ok-to_vec.ensures.items_if_clones_equal (λ _ _ e. e) in
    let seen : map (λ v. v.items) keys ≡ now.names = ap (λ (n : Named). n.names) c.self.view_is in
    let absent = sym (among (λ v. v.items) keys v x is) ∙ ap (is_among x) seen ∙ c.requires in
    let grown : map (λ v. v.items) c.insert.new.self.keys ≡ map (λ v. v.items) keys ++ x ∷ [] = grows (λ v. v.items) keys c.insert.new.self.keys v x _ is absent c.in_ok-insert.ensures.keys in
    let number : c.len-number.result ≡ length now.names = c.len-number.ensures.len ∙ sym (length-map keys (λ v. v.items)) ∙ ap (λ (ns : List (List ℕ)). length ns) seen in
    let most : c.self.inside.most ≡ now.most = ap (λ (n : Named). n.most) c.self.view_is in
    let room : length now.names < now.most = let f = c.if-number-self.false in omega (arith, f, number, most) in
    (λ i. record { voice = NamedBy (number i); names = (grown ∙ ap (λ (ns : List (List ℕ)). ns ++ x ∷ []) seen) i })
    ∙ ap (λ (b : Bool). if b then record { voice = NamedBy (length now.names); names = now.names ++ x ∷ [] } else record { voice = Silent; names = now.names }) (sym (has_room (length now.names) now.most room))

use Rattle.std.proofs.Common.{◌≡◌, ◌∙◌, ◌<◌, ℕ, List, Option, Some, None, Result, Ok, refl, sym, ap, subst}
use Rattle.std.proofs.lemmas.Result.{IfOk-weaker}
use Rattle.std.specs.Prelude.{IfOk, IfSome, option_map, unwrap_or}
use Rattle.wsm_watermarks.specs.declared.stamp.Stamp.{Stamp}
use Rattle.wsm_turns.specs.declared.voice.Voice.{Voice}
use Rattle.wsm_turns.specs.declared.voice.Voice.TheVariants as voice
use Rattle.wsm_turns.specs.Named.{IsWithin, Knows, Named}
use Rattle.wsm_turns.specs.Voices.{Voiced, stamp_by, voiced, voiced_by}
use Rattle.wsm_turns.proofs.clock_names.voice_of.Goals as goal

-- whose clock it is, the names then, and that it is one of those that there may be
record Heard {E : Type 0} (named : Option ℕ) (before : List (List ℕ)) (new : Option Named) (n : Option (List ℕ)) (r : Result Voice E) : Type 0 where
  voice : IfOk r (λ v. v ≡ (voiced named before n).voice)
  names : IfOk r (λ _. Knows named new (voiced named before n).names)
  within : (keys : ℕ) (stamp : Stamp) → stamp.clock < keys → IfOk r (λ v. IfSome (stamp_by v stamp) (λ s. s.clock < unwrap_or named keys))

told_within : (most : ℕ) (stamp : Stamp) (v : Voice) → IsWithin most v → IfSome (stamp_by v stamp) (λ s. s.clock < most)
told_within most stamp voice.Key within = absurd within
told_within most stamp (voice.Named clock) within = within
told_within most stamp voice.Silent within = tt

kept : {E : Type 0} (named : Option ℕ) (before : List (List ℕ)) (old new : Named) (n : Option (List ℕ)) (r : Result Voice E) → Knows named (Some old) before → new.most ≡ old.most
    → IfOk r (λ v. record { voice = v; names = new.names } ≡ voiced_by old.most old.names n) → IfOk r (IsWithin old.most) → Heard named before (Some new) n r
kept None before old new n r knows same is within = absurd knows
kept (Some most) before old new n r knows same is within =
    let by_most : new.most ≡ most = same ∙ ap (λ (k : Named). k.most) knows in
    let by : IfOk r (λ v. record { voice = v; names = new.names } ≡ voiced_by most before n) = subst (λ (k : Named). IfOk r (λ v. record { voice = v; names = new.names } ≡ voiced_by k.most k.names n)) knows is in
    record {
      voice = IfOk-weaker r (λ v. record { voice = v; names = new.names } ≡ voiced_by most before n) (λ v. v ≡ (voiced_by most before n).voice) (λ v h. ap (λ (u : Voiced). u.voice) h) by;
      names = IfOk-weaker r (λ v. record { voice = v; names = new.names } ≡ voiced_by most before n) (λ v. new ≡ record { most = most; names = (voiced_by most before n).names })
          (λ v h. λ i. record { most = by_most i; names = (h i).names }) by;
      within = λ keys stamp clock.
          IfOk-weaker r (IsWithin most) (λ v. IfSome (stamp_by v stamp) (λ s. s.clock < most)) (told_within most stamp) (subst (λ (k : Named). IfOk r (IsWithin k.most)) knows within);
    }

none : {E : Type 0} (named : Option ℕ) (before : List (List ℕ)) (n : Option (List ℕ)) → Knows named None before → Heard {E = E} named before None n (Ok voice.Key)
none None before n knows = record { voice = refl; names = knows; within = λ keys stamp clock. clock }
none (Some most) before n knows = absurd knows

pub returns-in-Some-clause-voice : goal.returns-in-Some-clause-voice
returns-in-Some-clause-voice c = λ named before knows.
    (kept named before c.in-Some.names c.voice.new.self (option_map (λ t. t.now) c.args.name) c.voice.result (subst (λ o. Knows named o before) c.in-Some.is knows) c.voice.ensures.most c.voice.ensures.voice c.voice.ensures.within).voice

pub returns-in-Some-clause-names : goal.returns-in-Some-clause-names
returns-in-Some-clause-names c = λ named before knows.
    (kept named before c.in-Some.names c.voice.new.self (option_map (λ t. t.now) c.args.name) c.voice.result (subst (λ o. Knows named o before) c.in-Some.is knows) c.voice.ensures.most c.voice.ensures.voice c.voice.ensures.within).names

pub returns-in-Some-clause-within : goal.returns-in-Some-clause-within
returns-in-Some-clause-within c = λ named before keys stamp knows clock.
    (kept named before c.in-Some.names c.voice.new.self (option_map (λ t. t.now) c.args.name) c.voice.result (subst (λ o. Knows named o before) c.in-Some.is knows) c.voice.ensures.most c.voice.ensures.voice c.voice.ensures.within).within keys stamp clock

pub returns-in-None-clause-voice : goal.returns-in-None-clause-voice
returns-in-None-clause-voice c = λ named before knows.
    (none {E = Unit {0}} named before (option_map (λ t. t.now) c.args.name) (subst (λ o. Knows named o before) c.in-None.is knows)).voice

pub returns-in-None-clause-within : goal.returns-in-None-clause-within
returns-in-None-clause-within c = λ named before keys stamp knows clock.
    (none {E = Unit {0}} named before (option_map (λ t. t.now) c.args.name) (subst (λ o. Knows named o before) c.in-None.is knows)).within keys stamp clock

pub returns-in-None-clause-names : goal.returns-in-None-clause-names
returns-in-None-clause-names c = λ named before knows.
    subst (λ o. Knows named o (voiced named before (option_map (λ t. t.now) c.args.name)).names) (sym c.in-None.is)
    (none {E = Unit {0}} named before (option_map (λ t. t.now) c.args.name) (subst (λ o. Knows named o before) c.in-None.is knows)).names

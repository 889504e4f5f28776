use Rattle.std.proofs.Common.{◌≡◌, ◌∙◌, ℕ, map, ap}
use Rattle.wsm_saved_turns.proofs.Named.{as_bytes}
use Rattle.wsm_saved_turns.proofs.Reading.{and_so, both}
use Rattle.wsm_keyed_intake.proofs.key_names.restore_key_names.Goals as goal

pub returns : goal.returns
returns c = λ list rest fits is.
    let restored = rw c.in-Some.is at c.in_ok-names.ensures.back list rest fits is in
    let names = c.in-Some.names in
    let same = both (map (λ v. map (λ (n : ℕ). n) v.items) names.items) list c.restore_all.new.from rest restored in
    let plain : map (λ v. v.items) c.deref.result.now ≡ list = ap (map (λ v. v.items)) c.deref.ensures.value ∙ as_bytes (λ v. v.items) names.items ∙ same.0 in
    and_so _ _ (λ new is_so. (is_so ∙ plain, same.1)) c.resume.result c.resume.ensures

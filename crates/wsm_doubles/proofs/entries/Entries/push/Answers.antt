use Rattle.std.proofs.Common.{◌≡◌, ◌∙◌, ◌∷◌, ◌++◌, [], ℤ, ap, length, of_z, rules, to_z, w64}
use Rattle.std.proofs.lemmas.Int.{to_z-of_z}
use Rattle.wsm_doubles.specs.Entries.{entries_of}
use Rattle.wsm_doubles.specs.Memory.{Memory}
use Rattle.wsm_doubles.proofs.Spots.{entries_stay, entry_added, on_error}
use Rattle.wsm_doubles.proofs.entries.Entries.push.Goals as goal

pub returns-in_err-push-clause-unchanged : goal.returns-in_err-push-clause-unchanged
returns-in_err-push-clause-unchanged c =
    on_error c.from_residual-in_err-push.result _
    ((λ i. entries_of (c.in_ok-extend_from_slice.ensures.items i) (c.in_err-push.ensures.items i))
    ∙ entries_stay c.self.inside.texts.items c.args.text.now c.self.inside.spots.items c.self.invariant
    ∙ c.self.view_is)

pub returns-clause-added : goal.returns-clause-added
returns-clause-added c =
    let from : c.len-start.result ≡ length c.self.inside.texts.items = search rules in
    let to : c.len-end.result ≡ length (c.self.inside.texts.items ++ c.args.text.now) = search rules in
    (λ i. entries_of (c.in_ok-extend_from_slice.ensures.items i) (c.in_ok-push.ensures.items i))
    ∙ entry_added c.self.inside.texts.items c.args.text.now c.self.inside.spots.items c.self.invariant (record { start = c.len-start.result; end = c.len-end.result; time = to_z w64 (of_z w64 c.args.time) }) from to
    ∙ ap (λ (m : Memory). m ++ (c.args.text.now, to_z w64 (of_z w64 c.args.time)) ∷ []) c.self.view_is
    ∙ ap (λ (t : ℤ). c.args.self.now ++ (c.args.text.now, t) ∷ []) (to_z-of_z w64 c.args.time c.ranges.time)

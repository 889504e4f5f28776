use Rattle.std.proofs.Common.{rules, ◌≡◌, ◌-ℤ◌, ◌+ℤ◌, ℤ, pos, List, map, SFits, w64, to_z, of_z, to_z-of_z, ap, subst, ◌∙◌}
use Rattle.wsm_sessions.specs.Live.{Live}
use Rattle.wsm_semantics.specs.FromWatermark.{unparted_time}
use Rattle.wsm_keep.specs.declared.firsts.Firsts.{Firsts}
use Rattle.wsm_keep.specs.Holds.{Queued}
use Rattle.wsm_keep.specs.Items.{queue_of}
use Rattle.wsm_keep.specs.OfKeys.{AreOfKeys}
use Rattle.wsm_keep.proofs.OfKeys.{firsts_are}
use Rattle.wsm_keep.proofs.sessions.firsts_of_sessions.Goals as goal

pub returns : goal.returns
returns c =
    let p = c.args.parting in
    let time : SFits w64 p.time = search rules in
    let next : SFits w64 (p.time +ℤ pos 1) = search rules in
    let keys = c.in_ok-keys.keys.items in
    let f : Firsts = record { each = c.in_ok-each.each; others = to_z w64 (of_z w64 (to_z w64 (of_z w64 p.time) +ℤ pos 1)) } in
    let (texts, is) = c.items.ensures in
    let are : AreOfKeys p.gap keys c.args.queue.now = subst (λ (queue : List Queued). AreOfKeys p.gap keys queue) is (c.in_ok-keys.ensures texts) in
    let firsts : map (λ first. first -ℤ pos 1) f.each.items ≡ map (λ (s : Live). unparted_time p.gap p.time s.windows) keys =
    c.in_ok-each.ensures ∙ ap (map (λ (s : Live). unparted_time p.gap p.time s.windows)) c.deref.ensures.value in
    firsts_are p.gap p.time f keys c.args.queue.now are firsts (ap (λ (t : ℤ). to_z w64 (of_z w64 (t +ℤ pos 1))) (to_z-of_z time) ∙ to_z-of_z next)

use Rattle.std.proofs.Common.{rules, ◌≡◌, ◌++◌, ◌∷◌, [], List, SFits, w64, to_z-of_z, sym, ap, subst, ◌∙◌}
use Rattle.wsm_sessions.specs.Live.{Live}
use Rattle.wsm_keep.specs.OfKeys.{AreNone}
use Rattle.wsm_keep.proofs.OfKeys.{none_more}
use Rattle.wsm_keep.proofs.sessions.none_of_keys.Goals as goal

pub loop-count-preserved : goal.loop-count-preserved
loop-count-preserved c =
    let p = c.args.parting in
    let gap : SFits w64 p.gap = search rules in
    let keys = c.loop-count.keys.items in
    let s = c.in_ok-open.field-0 in
    let is : s.gap ≡ p.gap = ap (λ (l : Live). l.gap) c.in_ok-open.ensures.empty ∙ to_z-of_z gap in
    let all : AreNone p.gap (keys ++ s ∷ []) = none_more p.gap keys s c.loop-count.invariant is c.in_ok-open.ensures.fits in
    subst (λ (ls : List Live). AreNone p.gap ls) (sym c.in_ok-push.ensures.items) all

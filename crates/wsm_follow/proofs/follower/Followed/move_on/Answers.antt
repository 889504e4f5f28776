use Rattle.std.proofs.Common.{◌≡◌, ◌≤◌, ◌∙◌, List, arith, ap, length, map, subst, sym}
use Rattle.wsm_follow.specs.Follower.{Begins, MovesOn, at, to_of}
use Rattle.wsm_follow.specs.Listed.{listing}
use Rattle.wsm_follow.specs.Logs.{AreInTurn, bytes_of, next_in}
use Rattle.wsm_follow.specs.declared.follower.Turn.{Turn}
use Rattle.wsm_follow.specs.declared.follower.Turn.TheVariants.{Lines}
use Rattle.wsm_follow.specs.declared.follower.Went.{Went}
use Rattle.wsm_follow.specs.declared.order.Listed.{Listed}
use Rattle.wsm_follow.proofs.TurnLemmas.{begins-move, if_ok}
use Rattle.wsm_follow.proofs.follower.Followed.move_on.Goals as goal

pub returns-clause-goes : goal.returns-clause-goes
returns-clause-goes g c known bytes logs among =
    let p = c.args.self.now in
    let from = at p.position in
    let files = c.as_slice.result.now in
    let left = c.saturating_sub.result in
    let told = c.in_ok-ended.ensures.ended bytes (ap (bytes_of from.file) logs ∙ among) in
    let size = rw c.in-Some.is at told in
    let over : length bytes ≤ c.args.end = omega (arith, size, c.if-end-ended.false) in
    let order : AreInTurn known (map listing files) = subst (λ (fs : List Listed). AreInTurn known (map listing fs)) (sym c.as_slice.ensures.value) (c.in_ok-files.ensures.listed known (c.in_ok-ended.ensures.logs ∙ logs)) in
    if_ok (λ (went : Went). Begins (next_in from.file (map (λ f. f.file) (map listing files))) left from (to_of p went) went.turn)
    (λ (went : Went). MovesOn known bytes c.args.end from (to_of p went) went.turn)
    c.begin_next.result c.begin_next.ensures (λ went begins. begins-move known bytes c.args.end left from (to_of p went) (map listing files) went.turn over order c.saturating_sub.ensures begins)

pub returns-clause-moves : goal.returns-clause-moves
returns-clause-moves g c =
    let p = c.args.self.now in
    let files = c.as_slice.result.now in
    let left = c.saturating_sub.result in
    let next = next_in p.position.file (map (λ f. f.file) (map listing files)) in
    if_ok (λ (went : Went). Begins next left (at p.position) (to_of p went) went.turn) (λ (went : Went). went.turn ≡ Lines → ⊥)
    c.begin_next.result c.begin_next.ensures (λ went begins is. subst (λ (turn : Turn). Begins next left (at p.position) (to_of p went) turn) is begins)

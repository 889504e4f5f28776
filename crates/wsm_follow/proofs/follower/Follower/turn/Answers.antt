use Rattle.std.proofs.Common.{◌∙◌, ◌-◌, ℕ, IfOk, Ok, ap, subst, unwrap_or}
use Rattle.wsm_follow.specs.Follower.{Goes, Searches, Takes, at, longest_of, to_of}
use Rattle.wsm_follow.specs.Follows.{GoesOn, stand}
use Rattle.wsm_follow.specs.Logs.{bytes_of}
use Rattle.wsm_follow.specs.Reads.{most_of, text_of}
use Rattle.wsm_follow.specs.declared.follower.Turn.{Turn}
use Rattle.wsm_follow.proofs.TurnLemmas.{if_ok, moves-go, no-lines, read-goes, searches-go, takes-go, went-goes}
use Rattle.wsm_follow.proofs.follower.Follower.turn.Goals as goal

pub returns-then-not-branch-clause-goes : goal.returns-then-not-branch-clause-goes
returns-then-not-branch-clause-goes g c known logs among =
    let old = c.args.self.now in
    let p = old.followed.position in
    let longest = longest_of old in
    let text = text_of old.reading in
    let went = c.in_ok-went.went in
    went-goes longest known (at p) text went.turn c.go.result (unwrap_or went.to p) c.go.new.self.position c.go.ensures.turn c.go.ensures.position
    (searches-go longest known (at p) (to_of old.followed went) text went.turn c.in_ok-went.ensures)

pub returns-then-not-branch-clause-sums : goal.returns-then-not-branch-clause-sums
returns-then-not-branch-clause-sums g c known _ is =
    let followed = c.args.self.now.followed in
    let went = c.in_ok-went.went in
    absurd (no-lines went.turn (Ok c.go.result) c.go.ensures.turn (λ lines. subst (λ (t : Turn). Searches (at followed.position) (to_of followed went) t) lines c.in_ok-went.ensures) is)

pub returns-then-not-branch-clause-synced : goal.returns-then-not-branch-clause-synced
returns-then-not-branch-clause-synced g c is =
    let followed = c.args.self.now.followed in
    let went = c.in_ok-went.went in
    absurd (no-lines went.turn (Ok c.go.result) c.go.ensures.turn (λ lines. subst (λ (t : Turn). Searches (at followed.position) (to_of followed went) t) lines c.in_ok-went.ensures) is)

-- lines were read, and are the next ones
pub returns-in-Lines-clause-goes : goal.returns-in-Lines-clause-goes
returns-in-Lines-clause-goes g c known logs among =
    let done = c.in_ok-end.ensures in
    let p = c.args.self.now.followed.position in
    let end = c.in-Lines.end in
    let most = most_of c.read.new.self in
    let text = text_of c.read.new.self in
    let from = at p in
    let to = at c.take_lines.new.self.position in
    let came = c.take_lines.result in
    let told = done.read among.0 (ap (bytes_of p.file) (c.in_ok-is_there.ensures ∙ logs) ∙ among.1) in
    let reads = rw c.in-Lines.is at told in
    let goes : GoesOn (most - 2) known from text (stand p.file end) = read-goes most p.offset end known p.file among.0 text c.read.new.self.kept_some among.1 reads in
    subst (λ (n : ℕ). IfOk came (λ (turn : Turn). Goes n known from text to turn)) (ap (λ (n : ℕ). n - 2) done.most)
    (if_ok (λ (turn : Turn). Takes from to end turn) (λ (turn : Turn). Goes (most - 2) known from text to turn) came c.take_lines.ensures.takes (λ turn takes. takes-go (most - 2) known from to end text turn goes among takes))

-- none has ended
pub returns-in_ok-went-in-Part-clause-goes : goal.returns-in_ok-went-in-Part-clause-goes
returns-in_ok-went-in-Part-clause-goes g c known logs among =
    let there = c.in_ok-is_there.ensures in
    let done = c.in_ok-end.ensures in
    let old = c.args.self.now in
    let p = old.followed.position in
    let end = c.in-Part.end in
    let text = text_of c.read.new.self in
    let longest = longest_of old in
    let went = c.in_ok-went-in-Part.went in
    let told = done.read among.0 (ap (bytes_of p.file) (there ∙ logs) ∙ among.1) in
    let none = rw c.in-Part.is at told in
    went-goes longest known (at p) text went.turn c.go-in-Part.result (unwrap_or went.to p) c.go-in-Part.new.self.position c.go-in-Part.ensures.turn c.go-in-Part.ensures.position
    (moves-go longest known (at p) (to_of old.followed went) end text among.0 went.turn among.1 none (c.in_ok-went-in-Part.ensures.goes known among.0 (done.logs ∙ there ∙ logs) among.1))

pub returns-in_ok-went-in-Part-clause-sums : goal.returns-in_ok-went-in-Part-clause-sums
returns-in_ok-went-in-Part-clause-sums g c known _ is = absurd (no-lines c.in_ok-went-in-Part.went.turn (Ok c.go-in-Part.result) c.go-in-Part.ensures.turn c.in_ok-went-in-Part.ensures.moves is)

pub returns-in_ok-went-in-Part-clause-synced : goal.returns-in_ok-went-in-Part-clause-synced
returns-in_ok-went-in-Part-clause-synced g c is = absurd (no-lines c.in_ok-went-in-Part.went.turn (Ok c.go-in-Part.result) c.go-in-Part.ensures.turn c.in_ok-went-in-Part.ensures.moves is)

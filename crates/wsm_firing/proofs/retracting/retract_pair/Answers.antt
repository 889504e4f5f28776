use Rattle.std.proofs.Common.{◌≡◌, ◌++◌, [], Bool, true, ◌&&◌, cond, List, Option, Some, None, pos, refl, sym, ap, subst, ◌∙◌, arith}
use Rattle.std.specs.List.{cons_option}
use Rattle.wsm_record.specs.declared.cell.Cell.{Cell}
use Rattle.wsm_windows.specs.declared.place.Place.{Place}
use Rattle.wsm_semantics.specs.Summaries.{written_by}
use Rattle.wsm_slots.specs.Panes.{has_fired}
use Rattle.wsm_firing.specs.Retracting.{AreWithdrawn}
use Rattle.wsm_firing.proofs.RetractWalk.{Written, withdrawn_on}
use Rattle.wsm_firing.proofs.retracting.retract_pair.Goals as goal
use Rattle.wsm_firing.proofs.retracting.retract_pair.Goals.{After-retract}

-- a place of the key
abbrev some_place : (c : After-retract) → Place
some_place c = record { end = pos 0; start = pos 0; key = c.args.key }

first : (c : After-retract) → (p : Place) → p.key ≡ c.args.key → AreWithdrawn c.args.rows.now.written c.retract.new.rows.written (cons_option (written_by p c.args.pair.now.0.stands) []) 1
first c p key = c.retract.ensures.rows p key

both : (o u : Option (Place × List Cell)) → cons_option o [] ++ cons_option u [] ≡ cons_option o (cons_option u [])
both None u = refl
both (Some w) u = refl

pub retract-requires-then-has_fired-2 : goal.retract-requires-then-has_fired-2
retract-requires-then-has_fired-2 c =
    let one = first (goal.at.retract-requires-then-has_fired-2 c).After-retract (some_place (goal.at.retract-requires-then-has_fired-2 c).After-retract) refl in
    record { room = omega (arith, one.few, c.requires, c.retract.ensures.room) }

pub returns-then-has_fired-2-clause-rows : goal.returns-then-has_fired-2-clause-rows
returns-then-has_fired-2-clause-rows c = λ p r p_key r_key.
    let v = c.args.pair.now.0 in let w = c.args.pair.now.1 in let before = c.args.rows.now.written in let after = c.retract-then-has_fired-2.new.rows.written in
    let one = first (goal.at.returns-then-has_fired-2-clause-rows c).After-retract p p_key in
    let other : AreWithdrawn c.retract.new.rows.written after (cons_option (written_by r w.stands) []) 1 = c.retract-then-has_fired-2.ensures.rows r r_key in
    let all : Written = cons_option (written_by p v.stands) (cons_option (written_by r w.stands) []) in
    let fired : has_fired v.stands && has_fired w.stands ≡ true = λ i. (sym c.has_fired.ensures ∙ c.if-has_fired.true) i && (sym c.has_fired-then-has_fired.ensures ∙ c.if-has_fired-2.true) i in
    subst (λ (xs : Written). AreWithdrawn before after xs 2)
    (both (written_by p v.stands) (written_by r w.stands) ∙ sym (ap (λ (b : Bool). cond b all []) fired))
    (withdrawn_on before c.retract.new.rows.written after (cons_option (written_by p v.stands) []) (cons_option (written_by r w.stands) []) 1 1 one other)

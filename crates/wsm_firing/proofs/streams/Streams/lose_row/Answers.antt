use Rattle.std.proofs.Common.{◌∷◌, sym, subst}
use Rattle.wsm_firing.specs.declared.streams.Streams.TheInside.{Inside}
use Rattle.wsm_firing.specs.Streams.{Told, IsTold, CanLose}
use Rattle.wsm_firing.proofs.StreamRows.{IsToldBy, room_less, fits_less, changed_by, changes_lost, nothing_told, enough_of, room_of_changes}
use Rattle.wsm_firing.proofs.streams.Streams.lose_row.Goals as goal
use Rattle.wsm_firing.proofs.streams.Streams.lose_row.Goals.{in-Nothing, in-Changed}

pub minus-requires-clause-room : goal.minus-requires-clause-room
minus-requires-clause-room c =
    let a = c.self.inside in let k = c.in-Changed in let can : CanLose _ _ = rw (← c.self.view_is) at c.requires in
    room_less c.args.row.now k.changes.numbers can.before can.rest a.room k.changes.room can.within (enough_of a.kept k.field-0 k.changes k.is a.room can.before (c.args.row.now ∷ can.rest) c.self.invariant can.told can.within.few_before)
    (changed_by a.kept k.field-0 k.changes k.is can.before (c.args.row.now ∷ can.rest) can.told)

pub minus-requires-clause-fits : goal.minus-requires-clause-fits
minus-requires-clause-fits c =
    let a = c.self.inside in let k = c.in-Changed in let can : CanLose _ _ = rw (← c.self.view_is) at c.requires in
    let has = room_of_changes a.kept k.field-0 k.changes k.is a.room c.self.invariant in
    fits_less c.args.row.now k.changes.numbers can.before can.rest a.room k.changes.room can.within (enough_of a.kept k.field-0 k.changes k.is a.room can.before (c.args.row.now ∷ can.rest) c.self.invariant can.told can.within.few_before) has.most
    (changed_by a.kept k.field-0 k.changes k.is can.before (c.args.row.now ∷ can.rest) can.told)

pub returns-clause-told : goal.returns-clause-told
returns-clause-told c = λ before now told.
    let a = c.self.inside in let row = c.args.row.now in
    let was : IsToldBy a.kept before (row ∷ now) = subst (λ (s : Told). IsTold s before (row ∷ now)) (sym c.self.view_is) told in
    elim c.match-self.branch [
      | in-Nothing w ↦ subst (λ (x : Inside). IsToldBy x.kept before now) (sym w.self-inside-is) (nothing_told a.kept w.in-Nothing.is before (row ∷ now) now was)
      | in-Changed w ↦
          let k = w.in-Changed in
          subst (λ (x : Inside). IsToldBy x.kept before now) (sym w.self-inside-is) (changes_lost a.kept k.field-0 k.changes k.is row w.minus.new.self w.minus.ensures.others before now was)
    ]

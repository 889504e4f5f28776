use Rattle.std.proofs.Common.{◌∷◌, sym, subst}
use Rattle.wsm_firing.specs.declared.streams.Streams.TheInside.{Inside}
use Rattle.wsm_firing.specs.Streams.{Told, IsTold, CanGain}
use Rattle.wsm_firing.proofs.StreamRows.{IsToldBy, room_more, fits_more, changed_by, changes_gained, nothing_told, enough_of, room_of_changes}
use Rattle.wsm_firing.proofs.streams.Streams.gain_row.Goals as goal
use Rattle.wsm_firing.proofs.streams.Streams.gain_row.Goals.{in-Nothing, in-Changed}

pub plus-requires-clause-room : goal.plus-requires-clause-room
plus-requires-clause-room c =
    let a = c.self.inside in let k = c.in-Changed in let can : CanGain _ _ = rw (← c.self.view_is) at c.requires in
    room_more c.args.row.now k.changes.numbers can.before can.now a.room k.changes.room can.within (enough_of a.kept k.field-0 k.changes k.is a.room can.before can.now c.self.invariant can.told can.within.few_before)
    (changed_by a.kept k.field-0 k.changes k.is can.before can.now can.told)

pub plus-requires-clause-fits : goal.plus-requires-clause-fits
plus-requires-clause-fits c =
    let a = c.self.inside in let k = c.in-Changed in let can : CanGain _ _ = rw (← c.self.view_is) at c.requires in
    let has = room_of_changes a.kept k.field-0 k.changes k.is a.room c.self.invariant in
    fits_more c.args.row.now k.changes.numbers can.before can.now a.room k.changes.room can.within (enough_of a.kept k.field-0 k.changes k.is a.room can.before can.now c.self.invariant can.told can.within.few_before) has.most
    (changed_by a.kept k.field-0 k.changes k.is can.before can.now can.told)

pub returns-clause-told : goal.returns-clause-told
returns-clause-told c = λ before now told.
    let a = c.self.inside in let row = c.args.row.now in
    let was : IsToldBy a.kept before now = subst (λ (s : Told). IsTold s before now) (sym c.self.view_is) told in
    elim c.match-self.branch [
      | in-Nothing w ↦ subst (λ (x : Inside). IsToldBy x.kept before (row ∷ now)) (sym w.self-inside-is) (nothing_told a.kept w.in-Nothing.is before now (row ∷ now) was)
      | in-Changed w ↦
          let k = w.in-Changed in
          subst (λ (x : Inside). IsToldBy x.kept before (row ∷ now)) (sym w.self-inside-is) (changes_gained a.kept k.field-0 k.changes k.is row w.plus.new.self w.plus.ensures.others before now was)
    ]

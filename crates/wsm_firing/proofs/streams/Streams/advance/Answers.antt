use Rattle.std.proofs.Common.{◌≡◌, ◌++◌, List, sym, ap, subst, ◌∙◌, append-nil, arith, to_z-of_z, SFits, w64, length}
use Rattle.wsm_record.specs.declared.words.Form.{Form}
use Rattle.wsm_semantics.specs.declared.out_row.OutRow.{OutRow}
use Rattle.wsm_semantics.specs.Relation.{sorted_rows, stream_rows}
use Rattle.wsm_firing.specs.declared.streams.Streams.TheInside.{Inside}
use Rattle.wsm_firing.specs.Streams.{Told, IsTold, CanAdvance, HasRoomFor, relation_kept}
use Rattle.wsm_relation.specs.Delta.{Delta}
use Rattle.wsm_firing.specs.StreamsKept.{form_kept, numbers_after}
use Rattle.wsm_firing.proofs.StreamRows.{IsToldBy, changes_few, changed_by, changes_on, nothing_on, changes_rows, nothing_written, room_for_changes}
use Rattle.wsm_firing.proofs.streams.Streams.advance.Goals as goal
use Rattle.wsm_firing.proofs.streams.Streams.advance.Goals.{in-Nothing, in-Changed}

pub write_changes-requires : goal.write_changes-requires
write_changes-requires c =
    let a = c.self.inside in let k = c.in-Changed in let can : CanAdvance _ = rw (← c.self.view_is) at c.requires.told in
    let few = changes_few k.side k.changes.numbers can.before can.now a.room (changed_by a.kept k.side k.changes k.is can.before can.now can.told) can.within in
    let room = room_for_changes a.kept k.side k.changes k.is a.room (length c.args.rows.now.written) c.args.rows.now.room (subst (λ (s : Told). HasRoomFor s.form s.room (length c.args.rows.now.written) c.args.rows.now.room) (sym c.self.view_is) c.requires.rows) in
    omega (arith, few, room)

pub returns-clause-told : goal.returns-clause-told
returns-clause-told c = λ before now told.
    let a = c.self.inside in
    let form : form_kept a.kept ≡ c.args.self.now.form = ap (λ (s : Told). s.form) c.self.view_is in
    let was : IsToldBy a.kept before now = subst (λ (s : Told). IsTold s before now) (sym c.self.view_is) told in
    elim c.match-self.branch [
      | in-Nothing w ↦ subst (λ (x : Inside × Form). IsToldBy x.0.kept (relation_kept x.1 before (sorted_rows now)) now) (λ i. (sym w.self-inside-is i, form i)) (nothing_on a.kept w.in-Nothing.is before now was)
      | in-Changed w ↦
          let k = w.in-Changed in
          subst (λ (x : Inside × Form). IsToldBy x.0.kept (relation_kept x.1 before (sorted_rows now)) now) (λ i. (sym w.self-inside-is i, form i)) (changes_on a.kept k.side k.changes k.is w.go_on.new.changes (w.go_on.ensures ∙ ap (λ (d : Delta). record d { numbers = numbers_after k.side d.numbers }) w.write_changes.ensures.unchanged) before now was)
    ]

pub returns-clause-rows : goal.returns-clause-rows
returns-clause-rows c = λ before now told.
    let a = c.self.inside in let old : List OutRow = c.args.rows.now.written in
    let mark : SFits w64 c.args.mark = c.ranges.mark in
    let form : stream_rows (form_kept a.kept) c.args.mark before (sorted_rows now) ≡ stream_rows c.args.self.now.form c.args.mark before (sorted_rows now) = ap (λ (s : Told). stream_rows s.form c.args.mark before (sorted_rows now)) c.self.view_is in
    let was : IsToldBy a.kept before now = subst (λ (s : Told). IsTold s before now) (sym c.self.view_is) told in
    elim c.match-self.branch [
      | in-Nothing w ↦ (λ i. (w.rows-is i).written) ∙ sym (append-nil old) ∙ ap (λ rs. old ++ rs) (nothing_written a.kept w.in-Nothing.is before now c.args.mark ∙ form)
      | in-Changed w ↦
          let k = w.in-Changed in
          (λ i. (w.rows-is i).written) ∙ (simp to_z-of_z at w.write_changes.ensures.written) ∙ ap (λ rs. old ++ rs) (changes_rows a.kept k.side k.changes k.is before now c.args.mark was ∙ form)
    ]

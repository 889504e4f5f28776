use Rattle.std.proofs.Common.{◌≡◌, true, ltb, length, ◌≤◌, refl, ap, sym, ◌∙◌, inl, inr, arith}
use Rattle.std.proofs.lemmas.Bool.Decides.{nat_tests}
use Rattle.std.specs.Option.{is_some}
use Rattle.std.specs.FinMap as map
use Rattle.wsm_list.specs.Stored.{shown}
use Rattle.wsm_list.proofs.StoredEdits.{length_is, some_mapped}
use Rattle.wsm_list.proofs.Tables.{len_is}
use Rattle.wsm_list.proofs.list.ListTablePaneTablePane.admits.Goals as goal

pub returns-then-len-room : goal.returns-then-len-room
returns-then-len-room c =
    let test : ltb c.len.result c.room.result ≡ true = grind (arith, nat_tests) in
    let es = shown c.self.inside.slots.slots c.self.inside.row.row in
    let count = len_is es c.self.invariant.stored.sorted in
    rw (← c.self.view_is) (λ _. inr (omega (arith, count, length_is _ _ c.self.invariant.stored, c.len.ensures, c.room.ensures)), λ _. test)

pub returns-else-len-room : goal.returns-else-len-room
returns-else-len-room c =
    let there : c.is_some.result ≡ map.contains_key c.args.self.now.panes c.args.place = c.is_some.ensures ∙ sym (some_mapped _ c.find.result) ∙ ap is_some c.find.ensures.place ∙ some_mapped _ _ in
    let es = shown c.self.inside.slots.slots c.self.inside.row.row in
    let count : map.len c.args.self.now.panes ≡ length c.self.inside.row.row = rw (← c.self.view_is) (len_is es c.self.invariant.stored.sorted ∙ length_is _ _ c.self.invariant.stored) in
    let room : c.args.self.now.room ≡ c.self.inside.row.room = rw (← c.self.view_is) refl in
    let most : c.room.result ≤ c.len.result = c.if-len-room.false in
    (λ is. inl (sym there ∙ is), λ h. elim h [ inl is ↦ there ∙ is | inr less ↦ absurd (omega (arith, less, count, room, most, c.len.ensures, c.room.ensures)) ])

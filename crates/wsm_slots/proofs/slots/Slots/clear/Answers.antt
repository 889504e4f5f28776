use Rattle.std.proofs.Common.{◌<◌, length, arith}
use Rattle.wsm_slots.specs.declared.head.Holds.TheVariants.{Nothing}
use Rattle.wsm_slots.proofs.Laid.{length-entries, set_head}
use Rattle.wsm_slots.proofs.slots.Slots.clear.Goals as goal

pub index_mut-requires : goal.index_mut-requires
index_mut-requires c =
    let a = c.self.inside in
    omega (arith, rw (← c.self.view_is) at c.requires, a.heads.items.ok.0, length-entries a.widths.accumulators a.widths.columns a.heads.items.items a.folds.items.items a.words.items.items a.windows.items.items)

pub returns : goal.returns
returns c =
    let a = c.self.inside in
    let within : c.args.slot < length a.heads.items.items = omega (arith, rw (← c.self.view_is) at c.requires, length-entries a.widths.accumulators a.widths.columns a.heads.items.items a.folds.items.items a.words.items.items a.windows.items.items) in
    let set = set_head a.widths a.heads.items.items a.folds.items.items a.words.items.items a.windows.items.items c.self.invariant c.args.slot within (record c.index_mut.result.now { holds = Nothing }) in
    rw (← c.self.view_is) (λ i. record { widths = a.widths; slots = set i })

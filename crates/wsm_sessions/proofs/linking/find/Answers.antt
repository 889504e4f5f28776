use Rattle.std.proofs.Common.{◌≡◌, ◌+◌, ◌+ℤ◌, ◌∙◌, sym, ap, true, false, Bool, ℕ, length, rules, SFits, w64, to_z-of_z, arith}
use Rattle.std.specs.Prelude.{filter}
use Rattle.wsm_semantics.specs.Sessions.{ends_by}
use Rattle.wsm_sessions.specs.declared.placed.Placed.TheVariants.{New, Extends, Joins}
use Rattle.wsm_sessions.specs.Placing.{starts_before}
use Rattle.wsm_sessions.proofs.SessionEdits.{before_within, parted, apart_of, found_new, found_extends, found_joins}
use Rattle.wsm_sessions.proofs.linking.find.Goals as goal

pub ended_by-i-requires : goal.ended_by-i-requires
ended_by-i-requires c =
    let fits : SFits w64 c.args.time = c.ranges.time in
    simp to_z-of_z (parted c.args.gap c.args.time c.requires.gap_low c.args.windows.now.items (apart_of c.args.gap c.requires.gap_low c.args.windows.now.items c.requires.sessions))

pub returns-then-not-starts_before : goal.returns-then-not-starts_before
returns-then-not-starts_before c =
    let time : SFits w64 c.args.time = c.ranges.time in
    let gap : SFits w64 c.args.gap = c.ranges.gap in
    let reach : SFits w64 (c.args.time +ℤ c.args.gap) = search rules in
    let apart = apart_of c.args.gap c.requires.gap_low c.args.windows.now.items c.requires.sessions in
    let i : c.ended_by-i.result ≡ length (filter (ends_by c.args.time) c.args.windows.now.items) = simp to_z-of_z at c.ended_by-i.ensures.count in
    let first : starts_before (c.args.time +ℤ c.args.gap) c.args.windows.now.items c.ended_by-i.result ≡ false = sym (simp to_z-of_z at c.starts_before.ensures) ∙ c.if-not-starts_before.true in
    record { found = ap New i ∙ found_new c.args.gap c.requires.gap_low c.args.time c.args.windows.now.items apart (ap (starts_before (c.args.time +ℤ c.args.gap) c.args.windows.now.items) (sym i) ∙ first); countable = c.ended_by-i.ensures.countable }

pub returns-then-not-starts_before-2 : goal.returns-then-not-starts_before-2
returns-then-not-starts_before-2 c =
    let time : SFits w64 c.args.time = c.ranges.time in
    let gap : SFits w64 c.args.gap = c.ranges.gap in
    let reach : SFits w64 (c.args.time +ℤ c.args.gap) = search rules in
    let apart = apart_of c.args.gap c.requires.gap_low c.args.windows.now.items c.requires.sessions in
    let i : c.ended_by-i.result ≡ length (filter (ends_by c.args.time) c.args.windows.now.items) = simp to_z-of_z at c.ended_by-i.ensures.count in
    let first : starts_before (c.args.time +ℤ c.args.gap) c.args.windows.now.items c.ended_by-i.result ≡ true = sym (simp to_z-of_z at c.starts_before.ensures) ∙ c.if-not-starts_before.false in
    let second : starts_before (c.args.time +ℤ c.args.gap) c.args.windows.now.items (c.ended_by-i.result + 1) ≡ false = sym (simp to_z-of_z at c.starts_before-else-not-starts_before.ensures) ∙ c.if-not-starts_before-2.true in
    let at : ℕ → Bool = starts_before (c.args.time +ℤ c.args.gap) c.args.windows.now.items in
    record { found = ap Extends i ∙ found_extends c.args.gap c.requires.gap_low c.args.time c.args.windows.now.items apart (ap at (sym i) ∙ first) (ap (λ (k : ℕ). at (k + 1)) (sym i) ∙ second); countable = c.ended_by-i.ensures.countable }

pub returns-else-not-starts_before-2 : goal.returns-else-not-starts_before-2
returns-else-not-starts_before-2 c =
    let time : SFits w64 c.args.time = c.ranges.time in
    let gap : SFits w64 c.args.gap = c.ranges.gap in
    let reach : SFits w64 (c.args.time +ℤ c.args.gap) = search rules in
    let apart = apart_of c.args.gap c.requires.gap_low c.args.windows.now.items c.requires.sessions in
    let i : c.ended_by-i.result ≡ length (filter (ends_by c.args.time) c.args.windows.now.items) = simp to_z-of_z at c.ended_by-i.ensures.count in
    let first : starts_before (c.args.time +ℤ c.args.gap) c.args.windows.now.items c.ended_by-i.result ≡ true = sym (simp to_z-of_z at c.starts_before.ensures) ∙ c.if-not-starts_before.false in
    let second : starts_before (c.args.time +ℤ c.args.gap) c.args.windows.now.items (c.ended_by-i.result + 1) ≡ true = sym (simp to_z-of_z at c.starts_before-else-not-starts_before.ensures) ∙ c.if-not-starts_before-2.false in
    let at : ℕ → Bool = starts_before (c.args.time +ℤ c.args.gap) c.args.windows.now.items in
    record { found = ap Joins i ∙ found_joins c.args.gap c.requires.gap_low c.args.time c.args.windows.now.items apart (ap at (sym i) ∙ first) (ap (λ (k : ℕ). at (k + 1)) (sym i) ∙ second); countable = c.ended_by-i.ensures.countable }

pub overflow_add-i : goal.overflow_add-i
overflow_add-i c =
    let time : SFits w64 c.args.time = c.ranges.time in
    let gap : SFits w64 c.args.gap = c.ranges.gap in
    let reach : SFits w64 (c.args.time +ℤ c.args.gap) = search rules in
    let first : starts_before (c.args.time +ℤ c.args.gap) c.args.windows.now.items c.ended_by-i.result ≡ true = sym (simp to_z-of_z at c.starts_before.ensures) ∙ c.if-not-starts_before.false in
    omega (arith, before_within (c.args.time +ℤ c.args.gap) c.args.windows.now.items c.ended_by-i.result first, c.ended_by-i.ensures.countable)

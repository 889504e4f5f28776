use Rattle.std.proofs.Common.{rules, ◌≡◌, ◌≤◌, ◌*◌, [], IsTrue, SFits, w64, to_z-of_z, ap, subst, ◌∙◌, arith}
use Rattle.std.proofs.lemmas.Int.{ints, fits_signed_from_abs}
use Rattle.wsm_program.specs.Program.{Program, is_program}
use Rattle.wsm_program.specs.View.{header_of}
use Rattle.wsm_rules.proofs.Lawful.{IsLawful, lawful_seen, span_seen}
use Rattle.wsm_slots.specs.declared.widths.Widths.{Widths}
use Rattle.wsm_panes.specs.Held.{entries_of}
use Rattle.wsm_firing.proofs.Headers.{lawful_firing}
use Rattle.wsm_list.proofs.Tables.{entries_none}
use Rattle.wsm_engine.proofs.Limits.{room_few}
use Rattle.wsm_engine.proofs.Told.{last_is, are_told, open_is}
use Rattle.wsm_engine.proofs.opening.open_operator.Goals as goal
use Rattle.wsm_engine.proofs.opening.open_operator.Goals.{After-header-header, After-live_bound-live}

declared : (c : After-header-header) → IsLawful (header_of c.header-header.result.now)
declared c = lawful_seen c.program.result.now (header_of c.header-header.result.now) c.header-header.ensures.header c.header-header.ensures.lawful

-- the panes that there can be
few : (c : After-live_bound-live) → c.key_count-keys.result * c.live_bound-live.result ≤ 100000
few c =
    let p = c.args.verified.now in
    let h = header_of c.header-header.result.now in
    let same = c.header-header.ensures.header ∙ ap (λ (q : Program). q.header) c.program.ensures.program in
    let is = lawful_seen c.program.result.now h c.header-header.ensures.header c.header-header.ensures.lawful in
    let skew : SFits w64 h.clock.skew = fits_signed_from_abs w64 h.clock.skew (omega (arith, ints, is.skew.low, is.skew.high)) in
    let lateness : SFits w64 h.clock.lateness = fits_signed_from_abs w64 h.clock.lateness (omega (arith, ints, is.lateness.low, is.lateness.high)) in
    room_few p c.program.ensures.accepted (subst (λ (q : Program). IsTrue (is_program q)) c.program.ensures.program c.header-header.ensures.lawful) h same c.key_count-keys.result c.live_bound-live.result c.key_count-keys.ensures.count (simp to_z-of_z at c.live_bound-live.ensures.bound)

pub live_bound-live-requires-clause-shape : goal.live_bound-live-requires-clause-shape
live_bound-live-requires-clause-shape c = (declared (goal.at.live_bound-live-requires-clause-shape c).After-header-header).shape

pub live_bound-live-requires-clause-skew : goal.live_bound-live-requires-clause-skew
live_bound-live-requires-clause-skew c = span_seen c.header-header.result.now.clock.skew (declared (goal.at.live_bound-live-requires-clause-skew c).After-header-header).skew

pub live_bound-live-requires-clause-lateness : goal.live_bound-live-requires-clause-lateness
live_bound-live-requires-clause-lateness c = span_seen c.header-header.result.now.clock.lateness (declared (goal.at.live_bound-live-requires-clause-lateness c).After-header-header).lateness

pub open-requires : goal.open-requires
open-requires c =
    let g = goal.at.open-requires c in
    let few = few g.After-live_bound-live in
    let header = declared g.After-header-header in
    let columns = (lawful_firing c.program.result.now (header_of c.header-header.result.now) c.header-header.ensures.header c.header-header.ensures.lawful).columns in
    record {
      possible = header.shape;
      room = omega (arith, few);
      accumulators = omega (arith, ap (λ (w : Widths). w.accumulators) c.widths.ensures, header.kinds);
      columns = omega (arith, ap (λ (w : Widths). w.columns) c.widths.ensures, columns);
    }

pub overflow_mul-room : goal.overflow_mul-room
overflow_mul-room c =
    let few = few (goal.at.overflow_mul-room c).After-live_bound-live in
    omega (arith, few)

pub open-requires-2 : goal.open-requires-2
open-requires-2 c =
    let few = few (goal.at.open-requires-2 c).After-live_bound-live in
    omega (arith, few)

pub open-requires-3 : goal.open-requires-3
open-requires-3 c =
    let few = few (goal.at.open-requires-3 c).After-live_bound-live in
    omega (arith, few)

pub returns-clause-panes : goal.returns-clause-panes
returns-clause-panes c = ap entries_of c.in_ok-open.ensures ∙ entries_none

pub returns-clause-relation : goal.returns-clause-relation
returns-clause-relation c =
    let es = entries_of c.in_ok-open.field-0 in
    let none : es ≡ [] = ap entries_of c.in_ok-open.ensures ∙ entries_none in
    last_is c.in_ok-open-2.field-0 es [] (open_is c.in_ok-open-2.field-0 es _ _ c.in_ok-open-2.ensures none)

pub returns-clause-program : goal.returns-clause-program
returns-clause-program c = record {
  judged = search rules;
  lawful = search rules;
  keys = search rules;
  shape = search rules;
  live = search rules;
  widths = search rules;
  form = search rules;
  room = search rules;
  rows = search rules;
  streams = are_told _ c.in_ok-open-2.field-0 (entries_of c.in_ok-open.field-0) [] (open_is c.in_ok-open-2.field-0 (entries_of c.in_ok-open.field-0) _ _ c.in_ok-open-2.ensures (ap entries_of c.in_ok-open.ensures ∙ entries_none)) (omega arith);
}

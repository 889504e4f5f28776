use Rattle.std.proofs.Common.{◌≡◌, drop, List}
use Rattle.std.specs.Prelude.{IfSome, slice_get}
use Rattle.wsm_record.specs.declared.cell.Cell.{Cell}
use Rattle.wsm_panes.specs.Held.{IsSpot, entries_of}
use Rattle.wsm_slots.specs.Walk.{place_due, place_found}
use Rattle.wsm_firing.specs.Streams.{AreAlike, IsTold, standing_rows}
use Rattle.wsm_firing.proofs.Past.{left}
use Rattle.wsm_firing.proofs.dropping.lose_due.Given as goal

-- so many are past, and the streams were told of them
abbrev pub invariant-loop : goal.invariant-loop
invariant-loop l = record {
  told : (relation : List (List Cell)) → IsTold l.fn.streams relation (standing_rows (entries_of l.held)) → IsTold l.streams relation (standing_rows (drop l.counter (entries_of l.held)));
  alike : AreAlike l.fn.streams l.streams;
  past : left l.fn.limit (entries_of l.held) ≡ left l.fn.limit (drop l.counter (entries_of l.held));
  spot : IfSome l.next (IsSpot l.held);
  next : place_found l.next ≡ place_due l.fn.limit (slice_get (entries_of l.held) l.counter);
}

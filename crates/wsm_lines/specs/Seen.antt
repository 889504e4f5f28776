-- What the types of the code that borrow from a line stand for.
use Rattle.wsm_lines.specs.Scalar.{Scalar, Taken, absent, odd, text, number, json, cells}
use Rattle.json.specs.Value.{value_view}
use Rattle.wsm_parts.specs.Seen.{access_seen}
use Rattle.wsm_lines.specs.Heading.{Heading, unread, broken, known}
use Rattle.wsm_lines.specs.declared.heading.Header.{Header}
use Rattle.wsm_lines.specs.declared.heading.Heading.{Heading as HeldHeading}
use Rattle.wsm_lines.specs.declared.heading.Heading.TheVariants as heading
use Rattle.wsm_lines.specs.declared.scalar.Scalar.{Scalar as Held}
use Rattle.wsm_lines.specs.declared.scalar.Scalar.TheVariants as held
use Rattle.wsm_lines.specs.declared.scalar.Taken.{Taken as HeldTaken}
use Rattle.wsm_lines.specs.declared.scalar.Taken.TheVariants as taken

abbrev pub scalar_seen : Held → Scalar
scalar_seen held.Absent = absent
scalar_seen held.Odd = odd
scalar_seen (held.Text s) = text s.now
scalar_seen (held.Number s) = number s.now

abbrev pub taken_seen : HeldTaken → Taken
taken_seen (taken.Json v) = json (value_view v)
taken_seen (taken.Access a) = cells (access_seen a)
taken_seen (taken.Csv t) = cells t.now

abbrev pub header_seen : Header → Heading
header_seen h = known h.text.items h.columns.items h.count

abbrev pub heading_seen : HeldHeading → Heading
heading_seen heading.Unread = unread
heading_seen heading.Broken = broken
heading_seen (heading.Known h) = header_seen h

use Rattle.std.proofs.Common.{◌∙◌, ap}
use Rattle.wsm_lines.specs.Fault.{on_ok}
use Rattle.wsm_lines.specs.Heading.{is_unread}
use Rattle.wsm_lines.specs.Key.{declared_by}
use Rattle.wsm_lines.specs.Said.{event_by, taken_below}
use Rattle.wsm_lines.specs.Seen.{heading_seen}
use Rattle.wsm_lines.specs.Text.{text_in}
use Rattle.wsm_lines.specs.declared.heading.Heading.{Heading}
use Rattle.wsm_lines.proofs.rows.read_csv.Goals as goal

pub returns-in_ok-fault-in-Unread-clause-fault : goal.returns-in_ok-fault-in-Unread-clause-fault
returns-in_ok-fault-in-Unread-clause-fault c =
    let source = c.args.source.now in
    ap (λ (h : Heading). event_by source (declared_by c.args.lookup) (on_ok (text_in (is_unread (heading_seen h)) source.longest c.args.line.now) (taken_below c.args.form.now (heading_seen h)))) c.in-Unread.is
    ∙ c.in_ok-fault-in-Unread.ensures.fault source (declared_by c.args.lookup)

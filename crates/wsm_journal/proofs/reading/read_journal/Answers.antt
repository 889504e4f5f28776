use Rattle.std.proofs.Common.{◌≡◌, ◌∙◌, ◌+◌, ◌≤◌, ◌∷◌, [], None, Some, drop, length, map, ap, subst, sym, arith}
use Rattle.std.proofs.lemmas.List.{length-drop, map-append, take_rest}
use Rattle.wsm_journal.specs.Reading.{Reading, behind_of, next_whole, read_from, read_journal, reading_with}
use Rattle.wsm_journal.specs.Seen.{entry_seen, whole_seen}
use Rattle.wsm_journal.specs.Text.{AreRecords}
use Rattle.wsm_journal.proofs.ReadRecords.{read_are}
use Rattle.wsm_journal.proofs.ReadLemmas.{joined, read_all, read_more}
use Rattle.wsm_journal.proofs.reading.read_journal.Goals as goal

pub loop-found-preserved : goal.loop-found-preserved
loop-found-preserved c =
    let items = c.loop-found.records.items in
    let size = c.loop-found.size in
    let last = c.loop-found.last in
    let text = c.args.text.now in
    let f = c.in-Some.found in
    let left = take_rest text size in
    let next : next_whole last (drop size text) ≡ Some (whole_seen f) = ap (λ t. next_whole last t) (sym left) ∙ sym c.in-Some.ensures.value in
    let inside : f.end ≤ length (drop size text) = omega (arith, c.in-Some.ensures.within.1, ap length left) in
    record {
      read = read_more (read_journal text) (map entry_seen items) size last text (whole_seen f) c.loop-found.invariant.read next c.in-Some.ensures.within.0 inside
          ∙ ap (λ es. joined es (size + f.end) (read_from (Some f.record.number) 0 (drop (size + f.end) text)))
          (sym (map-append entry_seen items (f.record ∷ [])) ∙ ap (λ rs. map entry_seen rs) (sym c.in_ok-push.ensures.items));
      within = omega (arith, inside, c.loop-found.invariant.within, length-drop size text);
    }

pub returns-clause-value : goal.returns-clause-value
returns-clause-value c =
    let items = c.loop-found.records.items in
    let size = c.loop-found.size in
    let last = c.loop-found.last in
    let text = c.args.text.now in
    let left = take_rest text size in
    let next : next_whole last (drop size text) ≡ None = ap (λ t. next_whole last t) (sym left) ∙ sym c.in_default.ensures.value in
    ap (λ b. reading_with (map entry_seen items) size b) (c.behind_of-behind.ensures ∙ ap (λ t. behind_of last t) left)
    ∙ read_all (read_journal text) (map entry_seen items) size last text c.loop-found.invariant.read next

pub returns-clause-records : goal.returns-clause-records
returns-clause-records c =
    let read : map entry_seen c.loop-found.records.items ≡ (read_journal c.args.text.now).entries = ap (λ (r : Reading). r.entries) (returns-clause-value c) in
    subst (λ es. AreRecords None es) (sym read) (read_are None 0 c.args.text.now (omega arith))

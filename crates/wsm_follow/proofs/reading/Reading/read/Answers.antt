use Rattle.std.proofs.Common.{◌≡◌, ◌≤◌, ◌+◌, ◌-◌, ◌∙◌, ◌++◌, ℕ, List, ap, arith, length, min, refl, rules, subst, sym, take, vec_len}
use Rattle.std.proofs.lemmas.List.{take-take}
use Rattle.wsm_follow.specs.Logs.{bytes_of}
use Rattle.wsm_follow.specs.Reads.{Reads}
use Rattle.wsm_follow.specs.declared.reading.Found.TheVariants.{Lines}
use Rattle.wsm_follow.proofs.LinesRead.{ReadsPart, added_short, part_of-nothing, reads_kept, reads_lines, reads_none, reads_whole}
use Rattle.wsm_follow.proofs.reading.Reading.read.Goals as goal

pub bytes-init : goal.bytes-init
bytes-init g c =
    let none : length c.clear.new.self.items ≡ 0 = ap length c.clear.ensures.items in
    record {
      same_logs = refl;
      most = refl;
      begun = omega arith;
      short = omega (arith, none);
      part = λ known is. subst (λ (part : List ℕ). ReadsPart c.args.self.now.most known c.args.start c.args.start part) (sym c.clear.ensures.items) (part_of-nothing c.args.self.now.most known c.args.start);
    }

pub bytes-preserved : goal.bytes-preserved
bytes-preserved g c =
    let kept = c.bytes.invariant in
    let before = c.bytes.self in
    let after = c.add-in-None.new.self in
    let room = c.read_over.new.room in
    let count = c.in_ok-count.count in
    let done = c.in_ok-add-in-None.ensures in
    let part_len : length before.text.items ≡ vec_len before.text = search rules in
    let room_len : length room.items ≡ vec_len room = search rules in
    let more = min count (before.most - vec_len before.text) in
    let wanted : c.min.result ≡ more = omega (arith, c.min.ensures, c.saturating_sub-wanted.ensures, c.len.ensures) in
    let text : after.text.items ≡ before.text.items ++ take more room.items = done.text ∙ ap (λ (n : ℕ). before.text.items ++ take n room.items) wanted in
    let grown : length after.text.items ≤ length before.text.items + more = added_short more before.text.items room.items after.text.items text in
    record {
      same_logs = c.in_ok-count.ensures.logs ∙ kept.same_logs;
      most = done.most ∙ kept.most;
      begun = omega (arith, kept.begun);
      short = omega (arith, grown, kept.short, part_len, done.most);
      part = λ known is. subst (λ (most : ℕ). ReadsPart most known c.args.start (c.bytes.at + count) after.text.items) (sym done.most)
          (reads_kept before.most known c.args.start c.bytes.at count (vec_len before.text) before.text.items room.items after.text.items (kept.part known is)
          (c.in_ok-count.ensures.bytes known (ap (bytes_of c.args.file) kept.same_logs ∙ is)) c.in-None.ensures.ends (omega (arith, c.in_ok-count.ensures.within, room_len)) part_len kept.short text);
    }

pub returns-then-count-eq0-clause-read : goal.returns-then-count-eq0-clause-read
returns-then-count-eq0-clause-read g c known is over = reads_none c.bytes.self.most known c.args.start c.bytes.at c.bytes.self.text.items (c.bytes.invariant.part known is) over

pub returns-in-Some-clause-read : goal.returns-in-Some-clause-read
returns-in-Some-clause-read g c known is =
    let kept = c.bytes.invariant in
    let before = c.bytes.self in
    let after = c.add.new.self in
    let room = c.read_over.new.room in
    let count = c.in_ok-count.count in
    let place = c.in-Some.place in
    let within : place + 1 ≤ count = omega (arith, c.in-Some.ensures.within) in
    let added = c.in_ok-add-in-Some.ensures.text ∙ ap (λ (xs : List ℕ). before.text.items ++ xs) (sym (take-take (place + 1) count room.items within)) in
    subst (λ (most : ℕ). Reads most known c.args.start after.text.items (Lines (c.bytes.at + (place + 1)))) (sym c.in_ok-add-in-Some.ensures.most)
    (reads_lines before.most known c.args.start c.bytes.at place before.text.items (take count room.items) after.text.items (kept.part known is)
    (c.in_ok-count.ensures.bytes known (ap (bytes_of c.args.file) kept.same_logs ∙ is)) c.in-Some.ensures.ends.0 c.in-Some.ensures.ends.1 added)

pub returns-in-Some-clause-whole : goal.returns-in-Some-clause-whole
returns-in-Some-clause-whole g c =
    let before = c.bytes.self in
    let room = c.read_over.new.room in
    let count = c.in_ok-count.count in
    let place = c.in-Some.place in
    let within : place + 1 ≤ count = omega (arith, c.in-Some.ensures.within) in
    let added = c.in_ok-add-in-Some.ensures.text ∙ ap (λ (xs : List ℕ). before.text.items ++ xs) (sym (take-take (place + 1) count room.items within)) in (
      omega (arith, c.bytes.invariant.begun),
      reads_whole place before.text.items (take count room.items) c.add.new.self.text.items c.in-Some.ensures.ends.0 c.in-Some.ensures.ends.1 added,
    )

pub returns-in-Some-clause-short : goal.returns-in-Some-clause-short
returns-in-Some-clause-short g c =
    let before = c.bytes.self in
    let room = c.read_over.new.room in
    let grown = added_short (c.in-Some.place + 1) before.text.items room.items c.add.new.self.text.items c.in_ok-add-in-Some.ensures.text in
    omega (arith, grown, c.bytes.invariant.short, c.in-Some.ensures.within, c.in_ok-count.ensures.within, c.in_ok-count.ensures.len, before.room_size, c.in_ok-add-in-Some.ensures.most)

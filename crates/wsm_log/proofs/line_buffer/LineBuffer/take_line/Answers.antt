use Rattle.std.proofs.Common.{◌≡◌, ◌≤◌, ◌+◌, ◌-◌, ◌∙◌, ◌++◌, ◌∷◌, ℕ, List, ap, arith, drop, length, refl, rules, slice_range, take, vec_len}
use Rattle.std.proofs.lemmas.List.{take_all}
use Rattle.wsm_log.specs.LineBuffer.{ahead_of, part_of}
use Rattle.wsm_log.proofs.BufferLemmas.{drop-slice_range, length-slice_range, split_at_feed}
use Rattle.wsm_log.proofs.LinesLemmas.{HasNoFeed-before, HasNoFeed-none}
use Rattle.wsm_log.proofs.line_buffer.LineBuffer.take_line.Goals as goal

pub returns-in-Some-clause-found : goal.returns-in-Some-clause-found
returns-in-Some-clause-found c =
    let now = c.args.self.now in
    let ahead : List ℕ = ahead_of now in
    let place = c.in-Some.place in
    let (range, is) = rw c.ahead.ensures at c.in-Some.ensures in
    let bytes_len : length now.bytes.items ≡ vec_len now.bytes = search rules in
    let within : now.start + (place + 1) ≤ now.end = omega (arith, range.high, length-slice_range now.start now.end now.bytes.items (omega (arith, bytes_len, now.in_bytes))) in
    let rest : drop (place + 1) ahead ≡ slice_range now.bytes.items (now.start + (place + 1)) now.end = drop-slice_range (place + 1) now.start now.end now.bytes.items within in
    record {
      piece = take place ahead;
      plain = HasNoFeed-before ahead place (omega (arith, range.high)) (λ k h. range.before k (omega arith) h);
      splits = split_at_feed place ahead range.high is ∙ ap (λ (xs : List ℕ). take place ahead ++ 10 ∷ xs) (rest ∙ rw (c.end_line.ensures.bytes, c.end_line.ensures.start, c.end_line.ensures.end) refl);
      line = c.end_line.ensures.line;
    }

pub returns-in-None-clause-part : goal.returns-in-None-clause-part
returns-in-None-clause-part c =
    let now = c.args.self.now in
    let ahead : List ℕ = ahead_of now in
    let none = rw c.ahead.ensures at c.in-None.ensures in
    let bytes_len : length now.bytes.items ≡ vec_len now.bytes = search rules in
    let whole : take (now.end - now.start) ahead ≡ ahead = take_all (now.end - now.start) ahead (omega (arith, length-slice_range now.start now.end now.bytes.items (omega (arith, bytes_len, now.in_bytes)))) in
    let over : c.keep.new.self.end - c.keep.new.self.end ≡ 0 = omega arith in
    record {
      plain = HasNoFeed-none ahead (λ k h. none k (omega arith) h);
      rest = rw over refl;
      part = c.keep.ensures.part ∙ ap (λ (xs : List ℕ). take now.most (part_of now ++ xs)) whole;
    }

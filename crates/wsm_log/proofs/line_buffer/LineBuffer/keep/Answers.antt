use Rattle.std.proofs.Common.{◌≡◌, ◌+◌, ◌-◌, ◌++◌, arith, length, min, rules, slice_range, vec_len}
use Rattle.wsm_log.proofs.BufferLemmas.{take-part}
use Rattle.wsm_log.proofs.line_buffer.LineBuffer.keep.Goals as goal

pub returns-clause-part : goal.returns-clause-part
returns-clause-part c =
    let now = c.args.self.now in
    let part_len : length now.part.items ≡ vec_len now.part = search rules in
    let bytes_len : length now.bytes.items ≡ vec_len now.bytes = search rules in
    let given : c.min-count.result ≡ min c.args.count (now.most - length now.part.items) = search rules in
    let added : c.extend_from_slice.new.self.items ≡ now.part.items ++ slice_range now.bytes.items now.start (now.start + c.min-count.result) = search rules in
    take-part now.most now.start now.end c.args.count c.min-count.result now.bytes.items now.part.items c.extend_from_slice.new.self.items (omega (arith, part_len, now.part_short)) (omega (arith, bytes_len, now.in_bytes)) c.requires given added

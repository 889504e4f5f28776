use Rattle.std.proofs.Common.{◌≡◌, length, true, false, Some, None, refl, sym, ap, ◌∙◌, arith}
use Rattle.json.specs.Json.{members, parse_map, read_key, value}
use Rattle.json.proofs.Grammar.{left_none, members_end, members_no_key}
use Rattle.json.proofs.Trees.{members_before, members_before-no_members, none_before}
use Rattle.wsm_lines.specs.Members.{passes, passing}
use Rattle.wsm_lines.proofs.PassingLemmas.{failed_turn, kept_turn, passed_turn, unmapped}
use Rattle.wsm_lines.proofs.members.read_members.Goals as goal

pub loop-found-init : goal.loop-found-init
loop-found-init c =
    let r = c.args.reader.now in
    let read = parse_map (passing c.args.filter.now.buckets) (members (value c.args.depth) (length r) r) in
    (length r, omega arith, none_before read ∙ ap (λ vs. parse_map (members_before vs) read) (sym c.in_ok-found.ensures.items))

pub returns-in_err-key-clause-invalid : goal.returns-in_err-key-clause-invalid
returns-in_err-key-clause-invalid c invalid =
    let p = value c.args.depth in
    let l = c.loop-found in
    let n = l.invariant.0 in
    let b = c.args.filter.now.buckets in
    unmapped (passing b) _ (l.invariant.2 ∙ ap (λ x. parse_map (members_before l.found.items) (parse_map (passing b) x)) (members_no_key p n l.reader c.in_err-key.ensures.value))

pub returns-clause-ok : goal.returns-clause-ok
returns-clause-ok c =
    let p = value c.args.depth in
    let l = c.loop-found in
    let n = l.invariant.0 in
    let r = c.next_key.new.self in
    let b = c.args.filter.now.buckets in
    l.invariant.2
    ∙ ap (λ x. parse_map (members_before l.found.items) (parse_map (passing b) x)) (members_end p n l.reader r l.invariant.1 (grind arith))
    ∙ ap (λ ms. Some (ms, r)) (members_before-no_members l.found.items)

pub returns-in_err-member-clause-invalid : goal.returns-in_err-member-clause-invalid
returns-in_err-member-clause-invalid c invalid =
    let p = value c.args.depth in
    let l = c.loop-found in
    let s = c.next_key.new.self in
    let b = c.args.filter.now.buckets in
    let key : read_key l.reader ≡ Some (Some c.in-Some.key.now, s) = grind arith in
    let failed : p s ≡ None = grind arith in
    unmapped (passing b) _ (failed_turn b p l.invariant.0 _ l.found.items l.reader l.invariant.1 l.invariant.2 c.in-Some.key.now s key failed)

pub loop-found-preserved-in-Continue-branch-5 : goal.loop-found-preserved-in-Continue-branch-5
loop-found-preserved-in-Continue-branch-5 c =
    let p = value c.args.depth in
    let l = c.loop-found in
    let s = c.next_key.new.self in
    let b = c.args.filter.now.buckets in
    let key : read_key l.reader ≡ Some (Some c.in-Some.key.now, s) = grind arith in
    let passed : passes b c.in-Some.key.now ≡ true = ap (passes b) (sym c.as_bytes.ensures.value) ∙ sym c.passes.ensures ∙ c.if-passes.true in
    let done = c.in_ok-member.ensures in
    kept_turn b p l.invariant.0 _ l.found.items l.reader l.invariant.1 l.invariant.2 c.in-Some.key c.in_ok-member.member s c.read.new.reader key done.ok done.shorter passed c.add.new.found.items c.read.new.reader c.in_ok-add.ensures.ok refl

pub loop-found-preserved : goal.loop-found-preserved
loop-found-preserved c =
    let p = value c.args.depth in
    let l = c.loop-found in
    let s = c.next_key.new.self in
    let b = c.args.filter.now.buckets in
    let key : read_key l.reader ≡ Some (Some c.in-Some.key.now, s) = grind arith in
    let passed : passes b c.in-Some.key.now ≡ false = ap (passes b) (sym c.as_bytes.ensures.value) ∙ sym c.passes.ensures ∙ c.if-passes.false in
    let done = c.in_ok-skip_value.ensures in
    passed_turn b p l.invariant.0 _ l.found.items l.reader l.invariant.1 l.invariant.2 c.in-Some.key.now s c.skip_value.new.self key done.value done.shorter passed l.found.items c.skip_value.new.self refl refl

pub returns-in_err-skip_value-clause-invalid : goal.returns-in_err-skip_value-clause-invalid
returns-in_err-skip_value-clause-invalid c invalid =
    let p = value c.args.depth in
    let l = c.loop-found in
    let s = c.next_key.new.self in
    let b = c.args.filter.now.buckets in
    let key : read_key l.reader ≡ Some (Some c.in-Some.key.now, s) = grind arith in
    unmapped (passing b) _ (failed_turn b p l.invariant.0 _ l.found.items l.reader l.invariant.1 l.invariant.2 c.in-Some.key.now s key (left_none _ c.in_err-skip_value.ensures.value))

use Rattle.std.proofs.Common.{rules, arith, ◌≡◌, ◌-◌, ◌+◌, ◌<◌, ◌≤◌, length, drop, set, length-set, IfSome, ap, ◌∙◌, subst, sym}
use Rattle.std.proofs.lemmas.List.Elements.{All-set}
use Rattle.std.proofs.lemmas.Grind.{common_steps}
use Rattle.wsm_rules.specs.Costs.{longest_path, way_along, IsLongestPath}
use Rattle.wsm_rules.proofs.Longest.{longest_path_is}
use Rattle.wsm_verifier.proofs.Ways.{longest_path-short, ways_next, short_next}
use Rattle.wsm_verifier.proofs.paths.longest_path.Goals as goal

pub loop-place-preserved : goal.loop-place-preserved
loop-place-preserved c =
    let more : 0 < c.loop-place.place = c.loop-place-test.true in
    let long : length (set c.loop-place.ways.items (c.loop-place.place - 1) c.way_along.result) ≡ length c.args.code.now = search (rules, length-set) in
    let is = c.way_along.ensures ∙ ap (λ e. way_along (c.loop-place.place - 1) e (drop (c.loop-place.place - 1 + 1) c.deref.result.now)) c.edges.ensures in
    let later = ways_next c.args.code.now c.loop-place.ways.items c.deref.result.now (c.loop-place.place - 1) c.loop-place.place _ c.way_along.result (omega arith) (omega arith) (omega arith) c.deref.ensures.value c.loop-place.invariant.later is in
    record {
      long = long;
      later = later;
      short = All-set (λ way. IfSome way (λ n. n ≤ 1000)) c.loop-place.ways.items (c.loop-place.place - 1) c.way_along.result (short_next c.args.code.now (c.loop-place.place - 1) c.loop-place.ways.items c.way_along.result (omega arith) c.requires later) c.loop-place.invariant.short;
    }

pub returns-clause-longest : goal.returns-clause-longest
returns-clause-longest c =
    let path : c.unwrap_or.result ≡ longest_path c.args.code.now = grind (arith, common_steps) in
    subst (IsLongestPath c.args.code.now) (sym path) (longest_path_is c.args.code.now)

pub returns-clause-short : goal.returns-clause-short
returns-clause-short c =
    let path : c.unwrap_or.result ≡ longest_path c.args.code.now = grind (arith, common_steps) in
    omega (arith, path, longest_path-short c.args.code.now, c.requires)

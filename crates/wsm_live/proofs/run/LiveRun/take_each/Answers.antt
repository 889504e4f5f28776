use Rattle.std.proofs.Common.{◌∙◌, ap, length, map, refl, arith}
use Rattle.std.proofs.lemmas.List.{length-drop}
use Rattle.std.proofs.Math.Seq.{take-length}
use Rattle.wsm_journal.specs.Seen.{entry_seen}
use Rattle.wsm_live.specs.Kept.{read_lines}
use Rattle.wsm_live.specs.Live.{chunk_lines}
use Rattle.wsm_live.proofs.RunLemmas.{TakenTo-all, TakenTo-more, TakenTo-none, first_chunk, front_front, no_chunk, some_chunk}
use Rattle.wsm_live.proofs.run.LiveRun.take_each.Goals as goal

pub rest_of-left-requires : goal.rest_of-left-requires
rest_of-left-requires g c = some_chunk c.loop-chunk.left.now _ c.in-Some.ensures.value

pub loop-chunk-smaller : goal.loop-chunk-smaller
loop-chunk-smaller g c =
    let some = some_chunk c.loop-chunk.left.now _ c.in-Some.ensures.value in
    omega (arith, some, ap length c.rest_of-left.ensures, length-drop 1 c.loop-chunk.left.now)

pub loop-chunk-init : goal.loop-chunk-init
loop-chunk-init g c =
    let old = c.args.self.now in
    record {
      taken = TakenTo-none g.T.LineTaker.turn g.T.LineTaker.stands (chunk_lines old.longest (map entry_seen c.args.chunks.now)) old c.args.out.now.items;
      longest = refl;
      grows = take-length c.args.out.now.items;
    }

pub returns-clause-takes : goal.returns-clause-takes
returns-clause-takes g c =
    let old = c.args.self.now in
    let left = c.loop-chunk.left.now in
    TakenTo-all g.T.LineTaker.turn g.T.LineTaker.stands (chunk_lines old.longest (map entry_seen c.args.chunks.now)) (chunk_lines old.longest (map entry_seen left)) old c.loop-chunk.self c.args.out.now.items c.loop-chunk.out.items
    c.loop-chunk.invariant.taken (no_chunk old.longest left c.in_default.ensures.value)

pub loop-chunk-preserved : goal.loop-chunk-preserved
loop-chunk-preserved g c =
    let old = c.args.self.now in
    let mid = c.loop-chunk.self in
    let new = c.take.new.self in
    let left = c.loop-chunk.left.now in
    let chunk = c.in-Some.chunk.now in
    let rest = c.rest_of-left.result.now in
    record {
      taken = TakenTo-more g.T.LineTaker.turn g.T.LineTaker.stands (chunk_lines old.longest (map entry_seen c.args.chunks.now)) (chunk_lines old.longest (map entry_seen left)) (read_lines mid.longest chunk.rows.now) (chunk_lines old.longest (map entry_seen rest))
          old mid new c.args.out.now.items c.loop-chunk.out.items c.take.new.out.items
          c.loop-chunk.invariant.taken (first_chunk old.longest mid.longest left rest chunk c.in-Some.ensures.value c.rest_of-left.ensures c.loop-chunk.invariant.longest) c.in_ok-take.ensures.takes;
      longest = c.take.ensures.longest ∙ c.loop-chunk.invariant.longest;
      grows = front_front c.args.out.now.items c.loop-chunk.out.items c.take.new.out.items c.loop-chunk.invariant.grows c.take.ensures.grows;
    }

use Rattle.std.proofs.Common.{◌≡◌, ℕ, [], length, refl, subst}
use Rattle.wsm_turns.specs.Turns.{Setting, start_of}
use Rattle.wsm_turns.specs.Waits.{Hear}
use Rattle.wsm_row_watermarks.proofs.turns.RowTurns.open.Goals as goal

pub returns : goal.returns
returns c =
    let w : Setting = record { clocks = c.args.clocks; declared = c.args.schema; clock = c.args.times.clock; shape = c.args.times.shape } in
    let count : c.key_count.result ≡ length c.args.schema.keys = c.key_count.ensures.count in
    record {
      holds = record {
        told = c.new.ensures.serves w refl refl refl;
        waiting = subst (λ (n : ℕ). Hear c.args.clocks n c.in_ok-waiting.waiting [] (start_of c.args.clocks) []) count c.in_ok-waiting.ensures;
        remembers = c.new-4.ensures w _ refl refl;
      };
      once = refl;
      counts = refl;
    }

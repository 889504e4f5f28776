use Rattle.std.proofs.Common.{◌≡◌, ℕ, ◌+◌, ◌-◌, List, ◌++◌, length, take, drop, arith, rules, Option, Some, None}
use Rattle.std.proofs.Math.Seq.{take-add}
use Rattle.std.proofs.lemmas.Grind.{common_steps}
use Rattle.std.specs.Io.KnownBytes.{Appends}
use Rattle.wsm_csv.proofs.device.write_out.Goals as goal

-- the bytes taken next are those that come next in the whole
next_part : (d n : ℕ) (bytes old mid new : List ℕ) → mid ≡ old ++ take d bytes → new ≡ mid ++ take n (take (length bytes - d) (drop d bytes)) → new ≡ old ++ take (d + n) bytes
next_part d n bytes old mid new e f = grind (arith, common_steps, take-add)

appends_on : (d n : ℕ) (bytes : List ℕ) (old mid new : Option (List ℕ)) → Appends old mid (take d bytes) → Appends mid new (take n (take (length bytes - d) (drop d bytes))) → Appends old new (take (d + n) bytes)
appends_on d n bytes None mid new h k = tt
appends_on d n bytes (Some xs) None new h k = absurd h
appends_on d n bytes (Some xs) (Some ys) None h k = absurd k
appends_on d n bytes (Some xs) (Some ys) (Some zs) h k = next_part d n bytes xs ys zs h k

pub loop-done-preserved : goal.loop-done-preserved
loop-done-preserved g c = record {
  within = search rules;
  taken = appends_on c.loop-done.done c.in_ok-done.field-0 c.args.bytes.now _ _ _ c.loop-done.invariant.taken c.in_ok-done.ensures.taken;
  works = search rules;
}

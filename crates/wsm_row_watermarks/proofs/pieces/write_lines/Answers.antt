use Rattle.std.proofs.Common.{◌≡◌, ◌∙◌, ◌++◌, ◌+◌, ◌-◌, ℕ, List, Ok, Err, Result, ap, append_assoc, arith, drop, rules, subst, sym, take}
use Rattle.std.proofs.Math.Seq.{take-add}
use Rattle.std.proofs.lemmas.Grind.{common_steps}
use Rattle.std.proofs.lemmas.List.{take-append-drop}
use Rattle.std.specs.Io.KnownBytes.{Appends}
use Rattle.std.specs.Prelude.{OnErr}
use Rattle.wsm_csv.specs.Device.{TakesPart}
use Rattle.wsm_csv.proofs.Written.{Appends-join, TakesPart-join}
use Rattle.wsm_row_watermarks.proofs.pieces.write_lines.Goals as goal

-- the next lines stand behind those before them
next : (d n : ℕ) (rows : List ℕ) → take d rows ++ take (d + n - d) (drop d rows) ≡ take (d + n) rows
next d n rows = grind (arith, common_steps, take-add)

-- and the others behind these
whole : (d n : ℕ) (rows : List ℕ) → take d rows ++ (take (d + n - d) (drop d rows) ++ drop (d + n) rows) ≡ rows
whole d n rows =
    sym (append_assoc (take d rows) (take (d + n - d) (drop d rows)) (drop (d + n) rows))
    ∙ ap (λ (l : List ℕ). l ++ drop (d + n) rows) (next d n rows)
    ∙ take-append-drop (d + n) rows

on_any : {A E : Type 0} (r : Result A E) (P : Type 0) → P → OnErr r P
on_any (Ok a) P h = tt
on_any (Err e) P h = h

pub loop-done-preserved : goal.loop-done-preserved
loop-done-preserved g c =
    let d = c.loop-done.done in
    let n = c.end_of_lines-end.result in
    let rows = c.args.rows.now in
    let old = g.D.Device.taken c.args.device.now in
    let mid = g.D.Device.taken c.loop-done.device in
    let new = g.D.Device.taken c.write_out.new.device in
    record {
      within = search rules;
      taken = subst (Appends old new) (next d n rows) (Appends-join old mid new (take d rows) (take (d + n - d) (drop d rows)) c.loop-done.invariant.taken c.in_ok-write_out.ensures.all);
      works = c.in_ok-write_out.ensures.works;
    }

pub returns-in_err-write_out-clause-part : goal.returns-in_err-write_out-clause-part
returns-in_err-write_out-clause-part g c =
    let d = c.loop-done.done in
    let n = c.end_of_lines-end.result in
    let rows = c.args.rows.now in
    let old = g.D.Device.taken c.args.device.now in
    let mid = g.D.Device.taken c.loop-done.device in
    let new = g.D.Device.taken c.write_out.new.device in
    on_any _ _ (subst (TakesPart old new) (whole d n rows)
    (TakesPart-join old mid new (take d rows) (take (d + n - d) (drop d rows)) (drop (d + n) rows) c.loop-done.invariant.taken c.in_err-write_out.ensures.part))

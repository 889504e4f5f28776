use Rattle.std.proofs.Common.{◌≡◌, ◌≤◌, ◌<◌, ◌∙◌, ◌+◌, ◌*◌, ◌/◌, ◌-◌, ◌∷◌, ℕ, None, Some, ap, arith, length, subst, sym}
use Rattle.wsm_watermarks.specs.Agreement.{agreed, behind, raised_by, voices}
use Rattle.wsm_watermarks.specs.Table.{Sayings, speaking}
use Rattle.wsm_watermarks.specs.Watermarks.{FitsMarks, Marking}
use Rattle.wsm_watermarks.proofs.LastStamps.{fits_put, same_voices}
use Rattle.wsm_watermarks.proofs.Tables.{behind_low, fits_alike, looked_high, looked_low, mark_goes, mark_stays, none_raised, one_raised}
use Rattle.wsm_watermarks.proofs.watermarks.Watermarks.tell.Goals as goal

pub returns-then-ahead-self-clause-fits : goal.returns-then-ahead-self-clause-fits
returns-then-ahead-self-clause-fits c past fits =
    let a = c.self.inside in
    let s = c.args.stamp in
    let old : FitsMarks (record { table = a.table; rule = a.rule; mark = a.mark }) past = subst (λ (m : Marking). FitsMarks m past) (sym c.self.view_is) fits in
    let within : s.clock < length a.table.said = subst (λ (m : Marking). s.clock < length m.table.said) (sym c.self.view_is) c.requires.clock in
    let k = c.put.new.self in
    let heard = ap (λ (k : Sayings). k.heard) c.put.ensures in
    let table = fits_put a.table k s past within (ap (λ (k : Sayings). k.said) c.put.ensures) heard old.table in
    let low = ap (λ (k : Sayings). k.since) c.put.ensures in
    let need = ap (λ (k : Sayings). k.need) c.put.ensures in
    let raise = behind_low a.rule a.mark k (s ∷ past) c.self.invariant.2 table (omega (arith, low, heard, c.self.invariant.3)) (omega (arith, need, c.self.invariant.4)) (omega (arith, c.ahead.ensures, c.if-ahead-self.true)) in
    let mark = mark_stays a.rule past s a.mark old.mark raise in
    record { table = table; mark = mark }

pub returns-then-ahead-self-clause-raised : goal.returns-then-ahead-self-clause-raised
returns-then-ahead-self-clause-raised c past fits =
    let a = c.self.inside in
    let s = c.args.stamp in
    let old : FitsMarks (record { table = a.table; rule = a.rule; mark = a.mark }) past = subst (λ (m : Marking). FitsMarks m past) (sym c.self.view_is) fits in
    let within : s.clock < length a.table.said = subst (λ (m : Marking). s.clock < length m.table.said) (sym c.self.view_is) c.requires.clock in
    let k = c.put.new.self in
    let heard = ap (λ (k : Sayings). k.heard) c.put.ensures in
    let table = fits_put a.table k s past within (ap (λ (k : Sayings). k.said) c.put.ensures) heard old.table in
    let low = ap (λ (k : Sayings). k.since) c.put.ensures in
    let need = ap (λ (k : Sayings). k.need) c.put.ensures in
    let raise = behind_low a.rule a.mark k (s ∷ past) c.self.invariant.2 table (omega (arith, low, heard, c.self.invariant.3)) (omega (arith, need, c.self.invariant.4)) (omega (arith, c.ahead.ensures, c.if-ahead-self.true)) in
    let mark = mark_stays a.rule past s a.mark old.mark raise in
    subst (λ (m : Marking). None ≡ raised_by m.rule past s) c.self.view_is (none_raised a.rule past s (sym old.mark ∙ mark))

pub returns-then-mark-self-clause-fits : goal.returns-then-mark-self-clause-fits
returns-then-mark-self-clause-fits c past fits =
    let a = c.self.inside in
    let s = c.args.stamp in
    let old : FitsMarks (record { table = a.table; rule = a.rule; mark = a.mark }) past = subst (λ (m : Marking). FitsMarks m past) (sym c.self.view_is) fits in
    let within : s.clock < length a.table.said = subst (λ (m : Marking). s.clock < length m.table.said) (sym c.self.view_is) c.requires.clock in
    let k = c.put.new.self in
    let heard = ap (λ (k : Sayings). k.heard) c.put.ensures in
    let table = fits_put a.table k s past within (ap (λ (k : Sayings). k.said) c.put.ensures) heard old.table in
    let speak = voices a.rule.forget (s ∷ past) in
    let ahead = speaking (k.heard - a.rule.forget) k.need k.said (length k.said) in
    let is : c.look_at_all-mark.result ≡ behind a.rule (agreed a.rule.agree ahead) = c.look_at_all-mark.ensures.mark ∙ ap (λ (n : ℕ). behind a.rule (agreed n ahead)) c.self.invariant.0 in
    let need = ap (λ (k : Sayings). k.need) c.put.ensures in
    let low : k.need ≤ (a.mark / a.rule.step * a.rule.step + a.rule.step + a.rule.bound) = omega (arith, need, c.self.invariant.4) in
    let alike = λ (d t : ℕ). same_voices k (s ∷ past) a.rule.forget d t table in
    let counted = fits_alike k c.look_at_all-mark.new.table (s ∷ past) (ap (λ (k : Sayings). k.said) c.look_at_all-mark.ensures.table) (ap (λ (k : Sayings). k.heard) c.look_at_all-mark.ensures.table) table in
    let mark = mark_stays a.rule past s a.mark old.mark (looked_low a.rule c.self.invariant.1 c.self.invariant.2 a.mark k.need low ahead speak alike (omega (arith, is, c.if-mark-self.true))) in
    record { table = counted; mark = mark }

pub returns-then-mark-self-clause-raised : goal.returns-then-mark-self-clause-raised
returns-then-mark-self-clause-raised c past fits =
    let a = c.self.inside in
    let s = c.args.stamp in
    let old : FitsMarks (record { table = a.table; rule = a.rule; mark = a.mark }) past = subst (λ (m : Marking). FitsMarks m past) (sym c.self.view_is) fits in
    let within : s.clock < length a.table.said = subst (λ (m : Marking). s.clock < length m.table.said) (sym c.self.view_is) c.requires.clock in
    let k = c.put.new.self in
    let heard = ap (λ (k : Sayings). k.heard) c.put.ensures in
    let table = fits_put a.table k s past within (ap (λ (k : Sayings). k.said) c.put.ensures) heard old.table in
    let speak = voices a.rule.forget (s ∷ past) in
    let ahead = speaking (k.heard - a.rule.forget) k.need k.said (length k.said) in
    let is : c.look_at_all-mark.result ≡ behind a.rule (agreed a.rule.agree ahead) = c.look_at_all-mark.ensures.mark ∙ ap (λ (n : ℕ). behind a.rule (agreed n ahead)) c.self.invariant.0 in
    let need = ap (λ (k : Sayings). k.need) c.put.ensures in
    let low : k.need ≤ (a.mark / a.rule.step * a.rule.step + a.rule.step + a.rule.bound) = omega (arith, need, c.self.invariant.4) in
    let alike = λ (d t : ℕ). same_voices k (s ∷ past) a.rule.forget d t table in
    let counted = fits_alike k c.look_at_all-mark.new.table (s ∷ past) (ap (λ (k : Sayings). k.said) c.look_at_all-mark.ensures.table) (ap (λ (k : Sayings). k.heard) c.look_at_all-mark.ensures.table) table in
    let mark = mark_stays a.rule past s a.mark old.mark (looked_low a.rule c.self.invariant.1 c.self.invariant.2 a.mark k.need low ahead speak alike (omega (arith, is, c.if-mark-self.true))) in
    subst (λ (m : Marking). None ≡ raised_by m.rule past s) c.self.view_is (none_raised a.rule past s (sym old.mark ∙ mark))

pub returns-clause-fits : goal.returns-clause-fits
returns-clause-fits c past fits =
    let a = c.self.inside in
    let s = c.args.stamp in
    let old : FitsMarks (record { table = a.table; rule = a.rule; mark = a.mark }) past = subst (λ (m : Marking). FitsMarks m past) (sym c.self.view_is) fits in
    let within : s.clock < length a.table.said = subst (λ (m : Marking). s.clock < length m.table.said) (sym c.self.view_is) c.requires.clock in
    let k = c.put.new.self in
    let heard = ap (λ (k : Sayings). k.heard) c.put.ensures in
    let table = fits_put a.table k s past within (ap (λ (k : Sayings). k.said) c.put.ensures) heard old.table in
    let speak = voices a.rule.forget (s ∷ past) in
    let ahead = speaking (k.heard - a.rule.forget) k.need k.said (length k.said) in
    let is : c.look_at_all-mark.result ≡ behind a.rule (agreed a.rule.agree ahead) = c.look_at_all-mark.ensures.mark ∙ ap (λ (n : ℕ). behind a.rule (agreed n ahead)) c.self.invariant.0 in
    let need = ap (λ (k : Sayings). k.need) c.put.ensures in
    let low : k.need ≤ (a.mark / a.rule.step * a.rule.step + a.rule.step + a.rule.bound) = omega (arith, need, c.self.invariant.4) in
    let alike = λ (d t : ℕ). same_voices k (s ∷ past) a.rule.forget d t table in
    let counted = fits_alike k c.look_at_all-mark.new.table (s ∷ past) (ap (λ (k : Sayings). k.said) c.look_at_all-mark.ensures.table) (ap (λ (k : Sayings). k.heard) c.look_at_all-mark.ensures.table) table in
    let high = looked_high a.rule c.self.invariant.1 c.self.invariant.2 a.mark k.need low ahead speak alike (omega (arith, is, c.if-mark-self.false)) in
    let mark = is ∙ high ∙ mark_goes a.rule past s a.mark old.mark (omega (arith, is, high, c.if-mark-self.false)) in
    record { table = counted; mark = mark }

pub returns-clause-raised : goal.returns-clause-raised
returns-clause-raised c past fits =
    let a = c.self.inside in
    let s = c.args.stamp in
    let old : FitsMarks (record { table = a.table; rule = a.rule; mark = a.mark }) past = subst (λ (m : Marking). FitsMarks m past) (sym c.self.view_is) fits in
    let within : s.clock < length a.table.said = subst (λ (m : Marking). s.clock < length m.table.said) (sym c.self.view_is) c.requires.clock in
    let k = c.put.new.self in
    let heard = ap (λ (k : Sayings). k.heard) c.put.ensures in
    let table = fits_put a.table k s past within (ap (λ (k : Sayings). k.said) c.put.ensures) heard old.table in
    let speak = voices a.rule.forget (s ∷ past) in
    let ahead = speaking (k.heard - a.rule.forget) k.need k.said (length k.said) in
    let is : c.look_at_all-mark.result ≡ behind a.rule (agreed a.rule.agree ahead) = c.look_at_all-mark.ensures.mark ∙ ap (λ (n : ℕ). behind a.rule (agreed n ahead)) c.self.invariant.0 in
    let need = ap (λ (k : Sayings). k.need) c.put.ensures in
    let low : k.need ≤ (a.mark / a.rule.step * a.rule.step + a.rule.step + a.rule.bound) = omega (arith, need, c.self.invariant.4) in
    let alike = λ (d t : ℕ). same_voices k (s ∷ past) a.rule.forget d t table in
    let counted = fits_alike k c.look_at_all-mark.new.table (s ∷ past) (ap (λ (k : Sayings). k.said) c.look_at_all-mark.ensures.table) (ap (λ (k : Sayings). k.heard) c.look_at_all-mark.ensures.table) table in
    let high = looked_high a.rule c.self.invariant.1 c.self.invariant.2 a.mark k.need low ahead speak alike (omega (arith, is, c.if-mark-self.false)) in
    let mark = is ∙ high ∙ mark_goes a.rule past s a.mark old.mark (omega (arith, is, high, c.if-mark-self.false)) in
    subst (λ (m : Marking). Some c.look_at_all-mark.result ≡ raised_by m.rule past s) c.self.view_is (one_raised a.rule past s c.look_at_all-mark.result (omega (arith, old.mark, c.if-mark-self.false)) mark)

-- What was asked of a cut is so.
use Rattle.std.proofs.Common.{◌≡◌, ℕ, ◌+◌, ◌-◌, ◌≤◌, ◌<◌, List, [], ◌∷◌, ◌++◌, Bool, true, false, Option, Some, None, Ok, Err, refl, sym, ap, subst, ◌∙◌, arith}
use Rattle.std.specs.Prelude.{Result, IfOk}
use Rattle.std.specs.Bool.{MatchBool}
use Rattle.wsm_admission.specs.Admission.{counter}
use Rattle.wsm_semantics.specs.Query.{Query}
use Rattle.wsm_program.specs.Program.{Program}
use Rattle.wsm_machine.specs.Meaning.{query_of}
use Rattle.wsm_csv.specs.Rows.{cells_of}
use Rattle.wsm_csv.specs.declared.rows.Rows.{Rows}
use Rattle.wsm_kept.specs.declared.asked.Asked.{Asked}
use Rattle.wsm_kept.specs.declared.counts.Counts.{Counts}
use Rattle.wsm_kept.specs.declared.cut.Cut.{Cut}
use Rattle.wsm_kept.specs.declared.end.KeepEnd.{KeepEnd}
use Rattle.wsm_kept.specs.declared.head.Head.{Head}
use Rattle.wsm_kept.specs.declared.pass.Pass.{Pass}
use Rattle.wsm_kept.specs.Cut.{AreRead}
use Rattle.wsm_kept.specs.Kept.{Cells}
use Rattle.wsm_kept.specs.Pass.{AreWritten, Cuts, IsAskedCut, IsCutAs, IsLimit, IsOf, IsUpTo, Passes, Stops, line_count}

taken_lines : (t l own c m : ℕ) → l ≤ t → m ≡ counter ((t - l) + own) → c ≤ m → counter (l + (c - own)) ≤ t
taken_lines t l own c m h e within = omega (arith, h, e, within)

pub taken_beyond : (t l own m n : ℕ) → l ≤ t → m ≡ counter ((t - l) + own) → m < counter n → t < l + (n - own)
taken_beyond t l own m n h e beyond = omega (arith, h, e, beyond)

pub none_beyond : (m n : ℕ) → m ≡ 18446744073709551615 → m < counter n → ⊥
none_beyond m n e beyond = omega (arith, e, beyond)

upto : (taken : Option ℕ) (q : Query) (old : Head) (past : List Cells) (next : Cells) (most : ℕ) (head : Head) (at_end ended : Bool) → ended ≡ at_end
    → head.lines ≡ counter (old.lines + (counter (line_count q past) - old.own)) → IsLimit taken old most → counter (line_count q past) ≤ most
    → (at_end ≡ false → most < counter (line_count q (past ++ next ∷ []))) → IsUpTo taken q old past next head ended
upto None q old past next most head true ended e lines limit within beyond = e
upto None q old past next most head false ended e lines limit within beyond = absurd (none_beyond most (line_count q (past ++ next ∷ [])) limit (beyond refl))
upto (Some t) q old past next most head at_end ended e lines limit within beyond = (
  subst (λ (n : ℕ). n ≤ t) (sym lines) (taken_lines t old.lines old.own (counter (line_count q past)) most limit.0 limit.1 within),
  λ stopped. taken_beyond t old.lines old.own most (line_count q (past ++ next ∷ [])) limit.0 limit.1 (beyond (sym e ∙ stopped)),
)

pub cuts_of : (p : Program) (pass : Pass) (past : List Cells) (next : Cells) (at_end : Bool) → MatchBool at_end (Cuts p pass past past) (Stops p pass past next) → Cuts p pass past past
cuts_of p pass past next true h = h
cuts_of p pass past next false h = h.cuts

no_end : true ≡ false → ⊥
no_end e = cc e

beyond_of : (p : Program) (pass : Pass) (past : List Cells) (next : Cells) (at_end : Bool) → MatchBool at_end (Cuts p pass past past) (Stops p pass past next)
    → at_end ≡ false → pass.most < counter (line_count (query_of p) (past ++ next ∷ []))
beyond_of p pass past next true h e = absurd (no_end e)
beyond_of p pass past next false h e = h.beyond

pub asked_cut : {R : Type 0} (remaining : R → Option (List ℕ)) (known : Option (List ℕ)) (p : Program) (asked : Asked) (pass : Pass) (rows : Rows R) (at_end : Bool) (r : Result Cut KeepEnd)
    → pass.asked ≡ asked → Passes remaining known p pass rows at_end
    → ((past all : List Cells) → Cuts p pass past all → IfOk r (IsCutAs (query_of p) pass.asked pass.head past at_end))
    → IfOk r (IsAskedCut remaining known (query_of p) asked rows)
asked_cut remaining known p asked pass rows at_end (Err end) same passes is = tt
asked_cut remaining known p asked pass rows at_end (Ok made) same (past, read, all) is =
    let q : Query = query_of p in
    let cuts : Cuts p pass past past = cuts_of p pass past (cells_of rows) at_end all in
    let of : IsCutAs q asked pass.head past at_end made = subst (λ (a : Asked). IsCutAs q a pass.head past at_end made) same (is past past cuts) in
    let count : pass.counts.lines ≡ counter (line_count q past) = ap (λ (c : Counts). c.lines) cuts.counts in
    record {
      cut = record { past = past; old = pass.head; head = cuts.head; text = of.text; read = subst (AreRead remaining known past rows) (sym of.ends) read };
      head = of.head;
      of = subst (λ (a : Asked). IsOf a.sum pass.head) same cuts.of;
      there = of.there;
      meets = cuts.meets;
      upto = upto asked.taken q pass.head past (cells_of rows) pass.most made.head at_end made.at_end of.ends (ap (λ (h : Head). h.lines) of.head)
          (subst (λ (a : Asked). IsLimit a.taken pass.head pass.most) same cuts.limit) (subst (λ (n : ℕ). n ≤ pass.most) count cuts.within) (beyond_of p pass past (cells_of rows) at_end all);
      are_written = subst (λ (b : Bool). AreWritten asked b made.head) (sym of.ends) of.are_written;
    }

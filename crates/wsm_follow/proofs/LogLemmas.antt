-- Lines behind a place of logs.
use Rattle.std.proofs.Common.{◌≡◌, ◌∙◌, ◌==◌, not, ℕ, List, [], ◌∷◌, ◌++◌, Bool, true, false, Option, Some, None, refl, sym, ap, arith, drop, inl, inr, append_assoc, subst, if◌then◌else◌}
use Rattle.std.specs.List.{list_all}
use Rattle.std.proofs.lemmas.Bool.{and_from, and_parts, cases_Bool}
use Rattle.std.proofs.lemmas.Bool.Decides.{nat_tests}
use Rattle.std.proofs.lemmas.List.{map-append}
use Rattle.wsm_log.specs.LinesOf.{kept}
use Rattle.wsm_follow.specs.Ended.{ended_lines, kept_lines}
use Rattle.wsm_follow.specs.Follows.{Follows, GoesOn, Stand, lines_at, lines_in, stand}
use Rattle.wsm_follow.specs.Logs.{IsAmong, Log, are_distinct, bytes_in, files_of, is_same, lines_behind, lines_of_logs, next_in}
use Rattle.wsm_follow.specs.declared.file.FileId.{FileId}

-- the lines of the logs behind a file
abbrev pub lines_after : FileId → List Log → List (List ℕ)
lines_after file [] = []
lines_after file (log ∷ logs) = if is_same log.file file then lines_of_logs logs else lines_after file logs

-- a value, or another where there is none
abbrev value_or : {X : Type 0} → X → Option X → X
value_or x None = x
value_or x (Some y) = y

some-is : {X : Type 0} (x y : X) → Some x ≡ Some y → x ≡ y
some-is x y is = ap (value_or x) is

pub behind-known : (file : FileId) (offset : ℕ) (logs : List Log) (bytes : List ℕ) → bytes_in file logs ≡ Some bytes → lines_behind file offset logs ≡ ended_lines (drop offset bytes) ++ lines_after file logs
behind-known file offset [] bytes is = absurd (cc)
behind-known file offset (log ∷ logs) bytes is =
    elim (cases_Bool (is_same log.file file)) [
      | inl same ↦ let here = rw same at is in rw same (ap (λ (xs : List ℕ). ended_lines (drop offset xs) ++ lines_of_logs logs) (some-is log.bytes bytes here))
      | inr other ↦ let there = rw other at is in rw other (behind-known file offset logs bytes there)
    ]

-- what holds of each file holds of the one behind another
next-holds : (test : FileId → Bool) (file behind : FileId) (files : List FileId) → next_in file files ≡ Some behind → list_all test files ≡ true → test behind ≡ true
next-holds test file behind [] is all = absurd (cc)
next-holds test file behind (f ∷ []) is all = absurd (cc)
next-holds test file behind (f ∷ g ∷ fs) is all =
    let later = (and_parts (test f) (list_all test (g ∷ fs)) all).1 in
    elim (cases_Bool (is_same f file)) [
      | inl same ↦ let here = rw same at is in ap test (sym (some-is g behind here)) ∙ (and_parts (test g) (list_all test fs) later).0
      | inr other ↦ let there = rw other at is in next-holds test file behind (g ∷ fs) there later
    ]

same-itself : (f : FileId) → is_same f f ≡ true
same-itself f = and_from (f.device == f.device) (f.inode == f.inode) (grind (arith, nat_tests)) (grind (arith, nat_tests))

not-same : (b : Bool) → not b ≡ true → b ≡ false
not-same true is = absurd (cc)
not-same false is = refl

-- the log that came next has the lines behind those of this one
pub next-lines : (file behind : FileId) (logs : List Log) → next_in file (files_of logs) ≡ Some behind → are_distinct (files_of logs) ≡ true
    → (lines_behind behind 0 logs ≡ lines_after file logs) × IsAmong behind logs
next-lines file behind [] is distinct = absurd (cc)
next-lines file behind (a ∷ []) is distinct = absurd (cc)
next-lines file behind (a ∷ b ∷ logs) is distinct =
    let parts = and_parts (list_all (λ g. not (is_same a.file g)) (files_of (b ∷ logs))) (are_distinct (files_of (b ∷ logs))) distinct in
    elim (cases_Bool (is_same a.file file)) [
      | inl same ↦
          let here = some-is b.file behind (rw same at is) in
          let apart : is_same a.file b.file ≡ false = not-same (is_same a.file b.file) (and_parts (not (is_same a.file b.file)) (list_all (λ g. not (is_same a.file g)) (files_of logs)) parts.0).0 in
          subst (λ (f : FileId). (lines_behind f 0 (a ∷ b ∷ logs) ≡ lines_after file (a ∷ b ∷ logs)) × IsAmong f (a ∷ b ∷ logs)) here
          (rw (same, apart, same-itself b.file) (refl, (b.bytes, refl)))
      | inr other ↦
          let there = rw other at is in
          let later = next-lines file behind (b ∷ logs) there parts.1 in
          let apart : is_same a.file behind ≡ false = not-same (is_same a.file behind) (next-holds (λ g. not (is_same a.file g)) file behind (files_of (b ∷ logs)) there parts.0) in
          rw (other, apart) later
    ]

-- of a log that was read to its end the next one's lines are those behind
pub goes-next : (longest : ℕ) (logs : List Log) (file behind : FileId) (offset : ℕ) (bytes : List ℕ) → bytes_in file logs ≡ Some bytes → ended_lines (drop offset bytes) ≡ []
    → next_in file (files_of logs) ≡ Some behind → are_distinct (files_of logs) ≡ true → GoesOn longest logs (stand file offset) [] (stand behind 0)
goes-next longest logs file behind offset bytes known none is distinct =
    ap (kept_lines longest) ((next-lines file behind logs is distinct).0 ∙ sym (behind-known file offset logs bytes known ∙ ap (λ (ls : List (List ℕ)). ls ++ lines_after file logs) none))

-- the lines of a text are those up to the offset behind it
pub goes-lines : (longest : ℕ) (logs : List Log) (file : FileId) (offset end : ℕ) (bytes text : List ℕ) → bytes_in file logs ≡ Some bytes
    → kept_lines longest (ended_lines text) ++ kept_lines longest (ended_lines (drop end bytes)) ≡ kept_lines longest (ended_lines (drop offset bytes))
    → GoesOn longest logs (stand file offset) text (stand file end)
goes-lines longest logs file offset end bytes text known read =
    let lines = kept_lines longest (ended_lines text) in
    let after = kept_lines longest (lines_after file logs) in
    let at_end = kept_lines longest (ended_lines (drop end bytes)) in
    let parted : (n : ℕ) → kept_lines longest (lines_behind file n logs) ≡ kept_lines longest (ended_lines (drop n bytes)) ++ after =
    λ n. ap (kept_lines longest) (behind-known file n logs bytes known) ∙ map-append (kept longest) (ended_lines (drop n bytes)) (lines_after file logs) in
    ap (λ (ls : List (List ℕ)). lines ++ ls) (parted end) ∙ sym (append_assoc lines at_end after) ∙ ap (λ (ls : List (List ℕ)). ls ++ after) read ∙ sym (parted offset)

pub each_once : (longest : ℕ) (known : List Log) (from to : Stand) (texts : List (List ℕ)) → Follows longest known from texts to → lines_in longest texts ++ lines_at longest known to ≡ lines_at longest known from
each_once longest known from to [] same = ap (lines_at longest known) (sym same)
each_once longest known from to (text ∷ texts) (next, (goes, later)) =
    append_assoc (kept_lines longest (ended_lines text)) (lines_in longest texts) (lines_at longest known to)
    ∙ ap (λ (ls : List (List ℕ)). kept_lines longest (ended_lines text) ++ ls) (each_once longest known next to texts later) ∙ goes

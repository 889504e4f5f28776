-- What power cuts leave of a journal to which a record is added, and of one that is replaced.
use Rattle.std.proofs.Common.{◌≡◌, ◌∙◌, ℕ, ◌≤◌, List, [], ◌∷◌, ◌++◌, take, drop, length, Bool, true, false, ◌||◌, Option, Some, None, refl, sym, ap, arith, inl, inr, ◌⊎◌, length-append}
use Rattle.std.proofs.lemmas.List.{take-append-drop, take_all, drop_at}
use Rattle.std.proofs.lemmas.Bool.{and_parts, leb-true}
use lib.Pointwise.{bytes_decides}
use Rattle.wsm_journal.specs.Text.{Entry, AreRecords, journal_text, record_text}
use Rattle.wsm_journal.specs.Reading.{read_journal}
use Rattle.wsm_journal.specs.Laws.{IsBeforeOrAfter}
use Rattle.wsm_journal.specs.Folder.{may_be_left, file_with, settled, append_calls, replace_calls, EachMoment, LeavesOnly}
use Rattle.wsm_journal.proofs.Journals.{more_read, torn_read}

pub first_only : (b : Bool) → (b || false) ≡ true → b ≡ true
first_only true h = refl
first_only false h = h

-- what is on the disk stands in front
front_left : (synced unsynced left : List ℕ) → may_be_left (file_with synced unsynced) left ≡ true → left ≡ synced ++ drop (length synced) left
front_left synced unsynced left may =
    let front : synced ≡ take (length synced) left = (bytes_decides synced (take (length synced) left)).0 (and_parts _ _ may).0 in
    sym (take-append-drop (length synced) left) ∙ ap (λ t. t ++ drop (length synced) left) (sym front)

-- where all is on the disk, nothing else is left
pub all_left : (synced left : List ℕ) → may_be_left (file_with synced []) left ≡ true → left ≡ synced
all_left synced left may =
    let parts = and_parts _ _ may in
    let front : synced ≡ take (length synced) left = (bytes_decides synced (take (length synced) left)).0 parts.0 in
    let long : length left ≤ length (synced ++ []) = leb-true _ _ parts.1 in
    let inside : length left ≤ length synced = omega (arith, long, length-append synced []) in
    sym (front ∙ take_all (length synced) left inside)

-- bytes that begin with the records read so, where what is behind is the new one or fits no sum
begun_read : (es : List Entry) (e : Entry) (left : List ℕ) → AreRecords None es → AreRecords None (es ++ e ∷ []) → left ≡ journal_text es ++ drop (length (journal_text es)) left → IsBeforeOrAfter es e left
begun_read es e left good more is (inl whole) =
    inl (ap read_journal (is ∙ ap (λ t. journal_text es ++ t) whole) ∙ more_read es e more)
begun_read es e left good more is (inr none) =
    inr (ap read_journal is ∙ torn_read es (drop (length (journal_text es)) left) good none)

front_of : (es : List Entry) (e : Entry) (last : Option ℕ) → AreRecords last (es ++ e ∷ []) → AreRecords last es
front_of [] e last good = tt
front_of (x ∷ es) e last good = (good.0, good.1, front_of es e (Some x.number) good.2)

pub cut_append : (es : List Entry) (e : Entry) → AreRecords None (es ++ e ∷ []) → EachMoment (LeavesOnly (IsBeforeOrAfter es e)) (settled (journal_text es)) (append_calls (record_text e))
cut_append es e more =
    let old = journal_text es in
    let good = front_of es e None more in (
      λ left may. begun_read es e left good more (front_left old [] left (first_only _ may)),
      (
        λ left may. begun_read es e left good more (front_left old (record_text e) left (first_only _ may)),
        λ left may.
            let all : left ≡ old ++ record_text e = all_left (old ++ record_text e) left (first_only _ may) in
            let rest : drop (length old) left ≡ record_text e = ap (λ t. drop (length old) t) all ∙ drop_at old (record_text e) (length old) refl in
            begun_read es e left good more (all ∙ ap (λ t. old ++ t) (sym rest)),
      ),
    )

either_left : (a b : Bool) (left old new : List ℕ) → (a || b) ≡ true → (a ≡ true → left ≡ new) → (b ≡ true → left ≡ old) → (left ≡ old) ⊎ (left ≡ new)
either_left true b left old new may f g = inr (f refl)
either_left false b left old new may f g = inl (g may)

pub cut_replace : (old new : List ℕ) → EachMoment (LeavesOnly (λ left. (left ≡ old) ⊎ (left ≡ new))) (settled old) (replace_calls new)
cut_replace old new =
    let kept : (left : List ℕ) → (may_be_left (file_with old []) left || false) ≡ true → (left ≡ old) ⊎ (left ≡ new) = λ left may. inl (all_left old left (first_only _ may)) in
    let renamed : (left : List ℕ) → (may_be_left (file_with new []) left || (may_be_left (file_with old []) left || false)) ≡ true → (left ≡ old) ⊎ (left ≡ new) =
    λ left may. either_left _ _ left old new may (all_left new left) (λ one. all_left old left (first_only _ one)) in
    (kept, (kept, (kept, (kept, (renamed, λ left may. inr (all_left new left (first_only _ may)))))))

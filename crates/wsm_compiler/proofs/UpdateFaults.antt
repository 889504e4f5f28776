-- UPDATE has a fault exactly where the range of an aggregate doesn't fit.
use Rattle.std.proofs.Common.{◌≡◌, ℕ, zero, suc, ◌+◌, ◌≤◌, ◌<◌, Bool, true, false, ◌&&◌, ◌||◌, not, cond, List, [], ◌∷◌, ◌++◌, length, map, replicate, Option, Some, None, Ok, refl, sym, ap, subst, ◌∙◌, arith, append_assoc, length-append}
use Rattle.std.specs.Prelude.{ℤ, is_some, is_none, slice_index_or, slice_set}
use Rattle.std.specs.List.{list_all}
use Rattle.std.proofs.lemmas.Option.{same_Some}
use Rattle.wsm_record.specs.declared.words.Kind.{Kind}
use Rattle.wsm_program.specs.declared.instr.Instr.TheVariants.{Fold}
use Rattle.wsm_program.specs.Instructions.{kind_of}
use Rattle.wsm_program.specs.declared.SectionId.TheVariants.{Update}
use Rattle.wsm_program.specs.declared.program.Costs.{Costs}
use Rattle.wsm_query.specs.Tree.{Query}
use Rattle.wsm_record.specs.Types.{kind_type}
use Rattle.wsm_check.specs.Types.{typed}
use Rattle.wsm_check.specs.declared.types.Around.TheVariants.{InAggregate}
use Rattle.wsm_check.specs.Aggregates.{Acc, accumulators, accumulators_of}
use Rattle.wsm_rules.specs.declared.known.Known.{Known}
use Rattle.wsm_rules.specs.Labels.{State}
use Rattle.wsm_rules.specs.Rules.{Setting, setting, entry, known_fields, ranges_of_record, has_type, sum_leaves, fault_in}
use Rattle.wsm_compiler.specs.Code.{code, size, need, folds, update_section}
use Rattle.wsm_compiler.specs.Ranges.{Range, of_aggregate, range, fits}
use Rattle.wsm_compiler.specs.Program.{program_stating}
use Rattle.wsm_machine.proofs.FittingStacks.{no}
use Rattle.wsm_compiler.proofs.Parts.{Labelled, one}
use Rattle.wsm_compiler.proofs.Tests.{tested, not_last, with_known}
use Rattle.wsm_compiler.proofs.QueryTerms.{kinds_of, folds_size, folds_need}
use Rattle.wsm_compiler.proofs.Sizes.{length-code, length-folds, some_code, some_folds, some_folds_size}
use Rattle.wsm_compiler.proofs.Found.{found}
use Rattle.wsm_compiler.proofs.FoundRanges.{suits, known_of}
use Rattle.wsm_compiler.proofs.ExpressionRanges.{AccsIn, range_suits, found_here}
use Rattle.wsm_compiler.proofs.CodeLabels.{labelled}
use Rattle.wsm_compiler.proofs.SectionEnds.{Ends, or_behind, sequence_ends, follow_ends, return_ends, whole_section}
use Rattle.wsm_compiler.proofs.KnownFields.{in_column, reads_update}
use Rattle.wsm_compiler.proofs.Choices.{room_at_test, has_one}
use Rattle.wsm_compiler.proofs.Rooms.{sole_room, next_room}

-- ---- which accumulators are folded: the first, and none of the others

abbrev pub flags : ℕ → ℕ → List Bool
flags a n = replicate a true ++ replicate n false

pub unset : (a n : ℕ) → slice_index_or (flags a (suc n)) a false ≡ false
unset zero n = refl
unset (suc a) n = unset a n

pub set_next : (a n : ℕ) → slice_set (flags a (suc n)) a true ≡ flags (suc a) n
set_next zero n = refl
set_next (suc a) n = ap (λ fs. true ∷ fs) (set_next a n)

all_set : (a : ℕ) → list_all (λ b. b) (flags a 0) ≡ true
all_set zero = refl
all_set (suc a) = all_set a

-- nothing on the stack, the first a of a + n accumulators folded, and the fields as they are declared
abbrev pub folded_so : Query → ℕ → ℕ → State
folded_so q a n = record { stack = []; folded = flags a n; fields = known_fields 0 q.fields }

-- ---- one fold

-- the value has the accumulator's type, and all records together stay in 64 bits
abbrev pub takes : ℤ → Kind → Known → Bool
takes n kind x = has_type (kind_type kind) x && not (sum_leaves n kind x)

abbrev pub if_takes : Bool → State → Option State
if_takes b s = cond b (Some s) None

fold_verdict : (f l : Bool) (s : State) →
    (false || (false || (not f || (false || (false || (false || (l || (false || (false || (false || (false || false))))))))))) ≡ is_none (if_takes (f && not l) s)
fold_verdict f l s = grind arith

taken_is : (b : Bool) (s t : State) → if_takes b s ≡ Some t → Some s ≡ Some t
taken_is b s t h = grind arith

module _ (q : Query) (b : Costs) where
  abbrev pub updating : Setting
  updating = setting (program_stating q b) Update (ranges_of_record (program_stating q b))

  -- the state behind a fold
  abbrev pub behind_fold : ℕ → State → State
  behind_fold a s = record s { folded = slice_set s.folded a true }

  pub fold_one : (e : State) (k a : ℕ) (x : Known) (s : State) (kind : Kind) → kind_of updating.kinds a ≡ kind → slice_index_or s.folded a false ≡ false → length s.stack < 32 → suc k < updating.n →
      Labelled e updating k (Fold a ∷ []) (with_known x s) (if_takes (takes q.clock.records kind x) (behind_fold a s))
  fold_one e k a x s kind is once room more = grind (arith, one, with_known, tested, has_one, room_at_test, not_last, fold_verdict, taken_is)

  -- ---- all of them

  abbrev pub acc_fits : Acc → Bool
  acc_fits acc = fits (of_aggregate q.clock.records acc.kind (range q acc.operand))

  abbrev pub accs_fit : List Acc → Bool
  accs_fit accs = list_all acc_fits accs

  abbrev pub AccsTyped : List Acc → Type 0
  AccsTyped [] = Unit {0}
  AccsTyped (acc ∷ accs) = (typed q InAggregate acc.operand ≡ Ok (kind_type acc.kind)) × AccsTyped accs

  -- the accumulators from the a-th on have their kinds
  abbrev pub KindsAt : ℕ → List Acc → Type 0
  KindsAt a [] = Unit {0}
  KindsAt a (acc ∷ accs) = (kind_of updating.kinds a ≡ acc.kind) × KindsAt (suc a) accs

  -- a fault in the operand, in its fold, or behind it
  fold_fits : (kind : Kind) (r : Range) (s : State) (w : Bool) → suits (kind_type kind) r ≡ true →
      or_behind (known_of (kind_type kind) r) (λ x. or_behind (if_takes (takes q.clock.records kind x) s) (λ t. not w)) ≡ not (fits (of_aggregate q.clock.records kind r) && w)
  fold_fits kind r s w h = grind (arith, or_behind)

  pub no_accs : (a : ℕ) (accs : List Acc) → AccsIn updating q InAggregate a accs
  no_accs a accs h = no (ap in_column h)

  pub folds_ends : (e : State) (k a : ℕ) (accs : List Acc) → AccsTyped accs → KindsAt a accs → folds_need q accs ≤ 32 → k + folds_size q accs ≤ updating.n →
      Ends e updating k (folds q k a accs) (folded_so q a (length accs)) (not (accs_fit accs))
  folds_ends e k a [] h kinds room more = return_ends e updating k (folded_so q a 0) refl (ap not (all_set a)) (omega arith)
  folds_ends e k a (acc ∷ accs) h kinds room more =
      let n = length accs in
      let s = folded_so q a (suc n) in
      let x = acc.operand in
      let j = k + size q 0 x in
      let rest = folds q (j + 1) (suc a) accs in
      let w = accs_fit accs in
      let goal = λ (z : Known). or_behind (if_takes (takes q.clock.records acc.kind z) (behind_fold a s)) (λ t. not w) in
      let behind : Ends e updating (j + 1) rest (behind_fold a s) (not w) =
      subst (λ fs. Ends e updating (j + 1) rest (record { stack = []; folded = fs; fields = known_fields 0 q.fields }) (not w)) (sym (set_next a n))
      (folds_ends e (j + 1) (suc a) accs h.1 kinds.1 (next_room (need q 0 x) _ room) (omega (arith, more))) in
      subst (λ v. Ends e updating k (code q k 0 x ++ Fold a ∷ rest) s v)
      (ap (λ o. or_behind o goal) (found_here updating q InAggregate (reads_update q b) s.fields refl 0 x (kind_type acc.kind) h.0 (no_accs 0 (accumulators_of x))) ∙ fold_fits acc.kind (range q x) (behind_fold a s) w (range_suits updating q InAggregate x (kind_type acc.kind) h.0))
      (follow_ends e updating k (size q 0 x) (code q k 0 x) (Fold a ∷ rest) s (found updating q s.fields 0 x) goal (length-code q k 0 x) (some_code q k 0 x) (omega arith)
      (labelled e updating q InAggregate (reads_update q b) k 0 x (kind_type acc.kind) s refl h.0 (no_accs 0 (accumulators_of x)) (sole_room (need q 0 x) _ room) (omega (arith, more, some_folds_size q accs)))
      (λ z ez. sequence_ends e updating j (Fold a ∷ []) rest (with_known z s) (if_takes (takes q.clock.records acc.kind z) (behind_fold a s)) (λ t. not w) (omega arith) (some_folds q (j + 1) (suc a) accs)
      (fold_one e j a z s acc.kind kinds.0 (unset a n) (omega arith) (omega (arith, more, some_folds_size q accs)))
      (λ t ht. subst (λ u. Ends e updating (j + 1) rest u (not w)) (same_Some (behind_fold a s) t (taken_is (takes q.clock.records acc.kind z) (behind_fold a s) t ht)) behind)))

  entry_flags : (accs : List Acc) → map (λ k. false) (kinds_of q accs) ≡ replicate (length accs) false
  entry_flags [] = refl
  entry_flags (acc ∷ accs) = ap (λ fs. false ∷ fs) (entry_flags accs)

  pub entry_is : folded_so q 0 (length (accumulators q)) ≡ entry (program_stating q b)
  entry_is = ap (λ fs. record { stack = []; folded = fs; fields = known_fields 0 q.fields }) (sym (entry_flags (accumulators q)))

  kinds_from : (before accs : List Acc) → (j : ℕ) → kind_of (kinds_of q (before ++ accs)) (length before + j) ≡ kind_of (kinds_of q accs) j
  kinds_from [] accs j = let e : 0 + j ≡ j = omega arith in ap (kind_of (kinds_of q accs)) e
  kinds_from (acc ∷ before) accs j =
      let e : suc (length before) + j ≡ suc (length before + j) = omega arith in
      ap (kind_of (kinds_of q (acc ∷ (before ++ accs)))) e ∙ kinds_from before accs j

  kinds_at : (before accs : List Acc) → before ++ accs ≡ accumulators q → KindsAt (length before) accs
  kinds_at before [] e = tt
  kinds_at before (acc ∷ accs) e =
      let here : length before + 0 ≡ length before = omega arith in
      let l = length-append before (acc ∷ []) in
      let next : length (before ++ acc ∷ []) ≡ suc (length before) = omega (arith, l) in (
        ap (λ xs. kind_of (kinds_of q xs) (length before)) (sym e) ∙ ap (kind_of (kinds_of q (before ++ acc ∷ accs))) (sym here) ∙ kinds_from before (acc ∷ accs) 0,
        subst (λ n. KindsAt n accs) next (kinds_at (before ++ acc ∷ []) accs (append_assoc before (acc ∷ []) accs ∙ e)),
      )

  pub all_kinds : KindsAt 0 (accumulators q)
  all_kinds = kinds_at [] (accumulators q) refl

  -- UPDATE
  pub update_faults : AccsTyped (accumulators q) → folds_need q (accumulators q) ≤ 32 → is_some (fault_in (program_stating q b) Update (ranges_of_record (program_stating q b))) ≡ not (accs_fit (accumulators q))
  update_faults h room =
      let e = entry (program_stating q b) in
      let l = length-folds q 0 0 (accumulators q) in
      whole_section (program_stating q b) Update (ranges_of_record (program_stating q b)) (not (accs_fit (accumulators q))) (some_folds q 0 0 (accumulators q))
      (subst (λ s. Ends e updating 0 (update_section q) s (not (accs_fit (accumulators q)))) entry_is (folds_ends e 0 0 (accumulators q) h all_kinds room (omega (arith, l))))

-- Lines that a run took, one piece behind another.
use Rattle.std.proofs.Common.{◌≡◌, ◌∙◌, ◌+◌, ◌<◌, ◌≤◌, ℕ, List, [], ◌∷◌, ◌++◌, Some, None, take, drop, slice_get, length, map, refl, sym, ap, subst, arith, append_assoc, append-nil}
use Rattle.std.proofs.Math.ListN.{length-append}
use Rattle.std.proofs.lemmas.List.{length-take, take-take}
use Rattle.wsm_log.specs.LinesOf.{kept}
use Rattle.wsm_follow.specs.Ended.{ended_lines}
use Rattle.wsm_numbered.specs.Numbered.{lines_in, numbered, sum_over}
use Rattle.wsm_numbered.specs.Seen.{count_of, sum_in}
use Rattle.wsm_numbered.proofs.Lines.{sum_over-append}
use Rattle.wsm_journal.specs.Text.{Entry}
use Rattle.wsm_journal.specs.Seen.{entry_seen}
use Rattle.wsm_journal.specs.declared.records.Record.{Record}
use Rattle.wsm_live.specs.declared.run.LiveRun.{LiveRun}
use Rattle.wsm_live.specs.Kept.{read_lines}
use Rattle.wsm_live.specs.Told.{Turn, handed_out, told, with_lines}
use Rattle.wsm_live.specs.Live.{IsBehind, Takes, Took, chunk_lines}
use Rattle.wsm_live.proofs.ToldLemmas.{handed-append, with-append}

pub Took-none : {T B : Type 0} (turn : B → Turn) (stands : T → B → List (List ℕ) → Type 0) (r : LiveRun T) (out : List ℕ) → Took turn stands [] r r out out
Took-none turn stands r out by before behind = record { behind = behind; out = sym (append-nil out) }

pub Took-join : {T B : Type 0} (turn : B → Turn) (stands : T → B → List (List ℕ) → Type 0) (first second : List (List ℕ)) (a b c : LiveRun T) (x y z : List ℕ)
    → Took turn stands first a b x y → Took turn stands second b c y z → Took turn stands (first ++ second) a c x z
Took-join turn stands first second a b c x y z one two by before behind =
    let here = one by before behind in
    let there = two by (with_lines before first) here.behind in
    record {
      behind = subst (IsBehind turn stands c by) (sym (with-append before first second)) there.behind;
      out = there.out
          ∙ ap (λ (l : List ℕ). l ++ handed_out (turn by) (with_lines before first) second) here.out
          ∙ append_assoc x (handed_out (turn by) before first) (handed_out (turn by) (with_lines before first) second)
          ∙ ap (λ (l : List ℕ). x ++ l) (sym (handed-append (turn by) before first second));
    }

-- what was told is handed out behind a text
pub Took-out : {T B : Type 0} (turn : B → Turn) (stands : T → B → List (List ℕ) → Type 0) (lines : List (List ℕ)) (a b : LiveRun T) (text from to : List ℕ)
    → Took turn stands lines a b [] text → to ≡ from ++ text → Took turn stands lines a b from to
Took-out turn stands lines a b text from to took is by before behind =
    let here = took by before behind in
    record { behind = here.behind; out = is ∙ ap (λ (l : List ℕ). from ++ l) here.out }

-- a line was taken, and what was written for it is numbered
pub line_taken : {T B : Type 0} (turn : B → Turn) (stands : T → B → List (List ℕ) → Type 0) (old new : LiveRun T) (by : B) (before : List (List ℕ)) (line text from to : List ℕ)
    → IsBehind turn stands old by before → stands new.taker by (line ∷ before) → text ≡ turn by before line
    → count_of new.numbering ≡ count_of old.numbering + length (lines_in text)
    → sum_in new.numbering ≡ sum_over (sum_in old.numbering) (lines_in text)
    → to ≡ from ++ numbered (count_of old.numbering) (sum_in old.numbering) (lines_in text)
    → Takes turn stands by before (line ∷ []) new from to
line_taken turn stands old new by before line text from to behind stood is count sum out =
    let was : List (List ℕ) = told (turn by) before in
    let more : List (List ℕ) = lines_in (turn by before line) in
    let lines : lines_in text ≡ more = ap lines_in is in
    record {
      behind = record {
        taken = stood;
        count = count ∙ ap (λ (n : ℕ). n + length (lines_in text)) behind.count ∙ ap (λ (ls : List (List ℕ)). length was + length ls) lines ∙ sym (length-append was more);
        sum = sum ∙ ap (λ (n : ℕ). sum_over n (lines_in text)) behind.sum ∙ ap (sum_over (sum_over 0 was)) lines ∙ sym (sum_over-append 0 was more);
      };
      out = out
          ∙ ap (λ (n : ℕ). from ++ numbered n (sum_in old.numbering) (lines_in text)) behind.count
          ∙ ap (λ (n : ℕ). from ++ numbered (length was) n (lines_in text)) behind.sum
          ∙ ap (λ (ls : List (List ℕ)). from ++ numbered (length was) (sum_over 0 was) ls) (lines ∙ sym (append-nil more));
    }

-- ---- lines that are taken one by one

-- of all lines these are left, and the others were taken
pub record TakenTo {T B : Type 0} (turn : B → Turn) (stands : T → B → List (List ℕ) → Type 0) (all left : List (List ℕ)) (old new : LiveRun T) (from to : List ℕ) : Type 0 where
  pub done : List (List ℕ)
  pub parts : done ++ left ≡ all
  pub took : Took turn stands done old new from to

pub TakenTo-none : {T B : Type 0} (turn : B → Turn) (stands : T → B → List (List ℕ) → Type 0) (all : List (List ℕ)) (r : LiveRun T) (out : List ℕ) → TakenTo turn stands all all r r out out
TakenTo-none turn stands all r out = record { done = []; parts = refl; took = Took-none turn stands r out }

pub TakenTo-more : {T B : Type 0} (turn : B → Turn) (stands : T → B → List (List ℕ) → Type 0) (all left more rest : List (List ℕ)) (a b c : LiveRun T) (x y z : List ℕ)
    → TakenTo turn stands all left a b x y → left ≡ more ++ rest → Took turn stands more b c y z → TakenTo turn stands all rest a c x z
TakenTo-more turn stands all left more rest a b c x y z so_far is took = record {
  done = so_far.done ++ more;
  parts = append_assoc so_far.done more rest ∙ ap (λ (ls : List (List ℕ)). so_far.done ++ ls) (sym is) ∙ so_far.parts;
  took = Took-join turn stands so_far.done more a b c x y z so_far.took took;
}

pub TakenTo-all : {T B : Type 0} (turn : B → Turn) (stands : T → B → List (List ℕ) → Type 0) (all left : List (List ℕ)) (a b : LiveRun T) (x y : List ℕ)
    → TakenTo turn stands all left a b x y → left ≡ [] → Took turn stands all a b x y
TakenTo-all turn stands all left a b x y so_far none =
    let whole : so_far.done ≡ all = sym (append-nil so_far.done) ∙ ap (λ (ls : List (List ℕ)). so_far.done ++ ls) (sym none) ∙ so_far.parts in
    subst (λ (ls : List (List ℕ)). Took turn stands ls a b x y) whole so_far.took

-- the first of rows
pub first_row : (longest : ℕ) (rest : List ℕ) (end : ℕ) (line behind : List ℕ) → ended_lines rest ≡ take end rest ∷ ended_lines (drop (end + 1) rest)
    → line ≡ kept longest (drop 1 (take end rest)) → behind ≡ drop (end + 1) rest → read_lines longest rest ≡ (line ∷ []) ++ read_lines longest behind
first_row longest rest end line behind first is at =
    ap (λ (ls : List (List ℕ)). map (kept longest) (map (drop 1) ls)) first
    ∙ ap (λ (l : List ℕ). l ∷ read_lines longest (drop (end + 1) rest)) (sym is)
    ∙ ap (λ (b : List ℕ). line ∷ read_lines longest b) (sym at)

pub no_row : (longest : ℕ) (rest : List ℕ) → ended_lines rest ≡ [] → read_lines longest rest ≡ []
no_row longest rest none = ap (λ (ls : List (List ℕ)). map (kept longest) (map (drop 1) ls)) none

-- ---- chunks

pub chunks-append : (longest : ℕ) (first second : List Entry) → chunk_lines longest (first ++ second) ≡ chunk_lines longest first ++ chunk_lines longest second
chunks-append longest [] second = refl
chunks-append longest (chunk ∷ first) second =
    ap (λ (ls : List (List ℕ)). read_lines longest chunk.rows ++ ls) (chunks-append longest first second)
    ∙ sym (append_assoc (read_lines longest chunk.rows) (chunk_lines longest first) (chunk_lines longest second))

pub chunks_more : (longest : ℕ) (chunks : List Entry) (more : Entry) → chunk_lines longest (chunks ++ more ∷ []) ≡ chunk_lines longest chunks ++ read_lines longest more.rows
chunks_more longest chunks more =
    chunks-append longest chunks (more ∷ []) ∙ ap (λ (ls : List (List ℕ)). chunk_lines longest chunks ++ ls) (append-nil (read_lines longest more.rows))

-- the first of some records
pub first_chunk : (longest n : ℕ) (rs left : List Record) (x : Record) → Some x ≡ slice_get rs 0 → left ≡ drop 1 rs → n ≡ longest
    → chunk_lines longest (map entry_seen rs) ≡ read_lines n x.rows.now ++ chunk_lines longest (map entry_seen left)
first_chunk longest n [] left x is at same = cc
first_chunk longest n (r ∷ rs) left x is at same =
    let first : r ≡ x = cc in
    ap (λ (y : Record). read_lines longest y.rows.now ++ chunk_lines longest (map entry_seen rs)) first
    ∙ ap (λ (m : ℕ). read_lines m x.rows.now ++ chunk_lines longest (map entry_seen rs)) (sym same)
    ∙ ap (λ (l : List Record). read_lines n x.rows.now ++ chunk_lines longest (map entry_seen l)) (sym at)

pub no_chunk : (longest : ℕ) (rs : List Record) → None ≡ slice_get rs 0 → chunk_lines longest (map entry_seen rs) ≡ []
no_chunk longest [] none = refl
no_chunk longest (r ∷ rs) none = cc

pub some_chunk : (rs : List Record) (x : Record) → Some x ≡ slice_get rs 0 → 0 < length rs
some_chunk [] x is = cc
some_chunk (r ∷ rs) x is = omega arith

-- what else a run has doesn't matter
pub Took-from : {T B : Type 0} (turn : B → Turn) (stands : T → B → List (List ℕ) → Type 0) (lines : List (List ℕ)) (old mid new : LiveRun T) (from to : List ℕ)
    → mid.taker ≡ old.taker → mid.numbering ≡ old.numbering → Took turn stands lines mid new from to → Took turn stands lines old new from to
Took-from turn stands lines old mid new from to taker numbering took by before behind =
    took by before (record {
      taken = subst (λ t. stands t by before) (sym taker) behind.taken;
      count = ap count_of numbering ∙ behind.count;
      sum = ap sum_in numbering ∙ behind.sum;
    })

-- ---- what stands in front of what is added

pub front_front : (a b c : List ℕ) → take (length a) b ≡ a → take (length b) c ≡ b → take (length a) c ≡ a
front_front a b c one two =
    let within : length a ≤ length b = omega (arith, ap length one, length-take (length a) b) in
    sym (take-take (length a) (length b) c within) ∙ ap (take (length a)) two ∙ one

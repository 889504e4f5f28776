-- What a head says of lines that were cut is read back, and stands for them.
use Rattle.std.proofs.Common.{◌≡◌, ◌∙◌, ◌+◌, ◌-◌, ◌^◌, ◌<◌, ◌≤◌, ℕ, List, [], ◌∷◌, ◌++◌, Bool, true, false, cond, Option, Some, None, option_and_then, take, drop, length, nat_lt, nat_eq, refl, sym, ap, subst, arith, append_assoc}
use Rattle.std.specs.Prelude.{IfSome}
use Rattle.std.specs.Fmt.{decimal}
use Rattle.std.specs.List.{starts_with}
use Rattle.std.specs.Option.{option_map_or}
use Rattle.std.proofs.lemmas.Bool.{and_from, and_parts, eqb-true, lt-ltb}
use Rattle.std.proofs.lemmas.List.{drop-append-le, drop_at, length-drop, length-take, take-append-drop, take-append-le, take-take, take_at}
use lib.Pointwise.{bytes_decides}
use Rattle.std.proofs.Math.ListN.{length-append}
use Rattle.wsm_numbered.specs.Seen.{count_of, sum_in}
use Rattle.wsm_journal.specs.Reading.{number_of}
use Rattle.wsm_journal.proofs.Decimals.{decimal_read}
use Rattle.wsm_live.specs.declared.run.LiveRun.{LiveRun}
use Rattle.wsm_live.specs.Told.{Turn}
use Rattle.wsm_live.specs.Head.{Cut, CutStates, IfCut, StandsFor, behind_row, cut_front, cut_if, cut_of, cut_row, cut_with, is_headed, is_readable, name_in, own_row, without_last}
use Rattle.wsm_live.specs.Live.{AddsCut}

-- ---- a row is read back

last_off : (text : List ℕ) → without_last (text ++ 10 ∷ []) ≡ text
last_off text =
    let one : length (text ++ 10 ∷ []) ≡ length text + 1 = length-append text (10 ∷ []) in
    let at : length text ≡ length (text ++ 10 ∷ []) - 1 = omega (arith, one) in
    take_at text (10 ∷ []) (length (text ++ 10 ∷ []) - 1) at

front_parts : (count sum : ℕ) (rest : List ℕ) → (decimal count ++ (44 ∷ (decimal sum ++ (44 ∷ [])))) ++ rest ≡ decimal count ++ (44 ∷ (decimal sum ++ (44 ∷ rest)))
front_parts count sum rest =
    append_assoc (decimal count) (44 ∷ (decimal sum ++ (44 ∷ []))) rest
    ∙ ap (λ (l : List ℕ). decimal count ++ (44 ∷ l)) (append_assoc (decimal sum) (44 ∷ []) rest)

if_small : (count sum : ℕ) (rest : List ℕ) → sum < 2 ^ 32 → cut_if count (sum, rest) ≡ Some (cut_with count sum (without_last rest))
if_small count sum rest small =
    let fits : nat_lt sum (2 ^ 32) ≡ true = lt-ltb sum (2 ^ 32) small in
    ap (λ (b : Bool). cond b (Some (cut_with count sum (without_last rest))) None) fits

behind_number : (count sum : ℕ) (rest : List ℕ) → count < 2 ^ 64 → sum < 2 ^ 32
    → option_and_then (λ (n : ℕ × List ℕ). option_and_then (cut_if n.0) (number_of n.1)) (number_of (decimal count ++ (44 ∷ (decimal sum ++ (44 ∷ rest))))) ≡ Some (cut_with count sum (without_last rest))
behind_number count sum rest fits small =
    let wide : sum < 2 ^ 64 = omega (arith, small) in
    ap (λ (o : Option (ℕ × List ℕ)). option_and_then (λ (n : ℕ × List ℕ). option_and_then (cut_if n.0) (number_of n.1)) o) (decimal_read count (decimal sum ++ (44 ∷ rest)) fits)
    ∙ ap (λ (o : Option (ℕ × List ℕ)). option_and_then (cut_if count) o) (decimal_read sum rest wide)
    ∙ if_small count sum rest small

pub cut_read : (count sum : ℕ) (text : List ℕ) → count < 2 ^ 64 → sum < 2 ^ 32 → cut_of (cut_row count sum text) ≡ Some (cut_with count sum text)
cut_read count sum text fits small =
    ap (λ (l : List ℕ). option_and_then (λ (n : ℕ × List ℕ). option_and_then (cut_if n.0) (number_of n.1)) (number_of l)) (front_parts count sum (text ++ 10 ∷ []))
    ∙ behind_number count sum (text ++ 10 ∷ []) fits small
    ∙ ap (λ (t : List ℕ). Some (cut_with count sum t)) (last_off text)

pub row_says : {B : Type 0} (turn : B → Turn) (states : List ℕ → B → List (List ℕ) → Type 0) (by : B) (before : List (List ℕ)) (count sum : ℕ) (text : List ℕ) → count < 2 ^ 64 → sum < 2 ^ 32
    → CutStates turn states by before (cut_with count sum text) → StandsFor turn states by before (cut_row count sum text)
row_says turn states by before count sum text fits small says = subst (IfCut (CutStates turn states by before)) (sym (cut_read count sum text fits small)) says

-- ---- what stands behind a head's row

pub some_then : {A : Type 0} (o : Option A) (x : A) (P : A → Type 0) → o ≡ Some x → IfSome o P → P x
some_then {A} o x P is all = subst (λ (q : Option A). IfSome q P) is all

pub no_bytes : (row : List ℕ) → nat_eq (length row) 0 ≡ true → row ≡ []
no_bytes [] none = refl
no_bytes (byte ∷ row) none = absurd (omega (arith, eqb-true (length (byte ∷ row)) 0 none))

pub stands_cut : {B : Type 0} (turn : B → Turn) (states : List ℕ → B → List (List ℕ) → Type 0) (by : B) (before : List (List ℕ)) (row : List ℕ) (cut : Cut) → StandsFor turn states by before row → Some cut ≡ cut_of row → CutStates turn states by before cut
stands_cut turn states by before [] cut says is = cc
stands_cut turn states by before (byte ∷ row) cut says is = subst (IfCut (CutStates turn states by before)) (sym is) says

pub stands_none : {B : Type 0} (turn : B → Turn) (states : List ℕ → B → List (List ℕ) → Type 0) (by : B) (before : List (List ℕ)) (row : List ℕ) → row ≡ [] → StandsFor turn states by before row → before ≡ []
stands_none turn states by before row none says = subst (StandsFor turn states by before) none says

pub readable_none : (row : List ℕ) → row ≡ [] → is_readable row ≡ true
readable_none row none = ap is_readable none

pub readable_cut : (row : List ℕ) (cut : Cut) → Some cut ≡ cut_of row → is_readable row ≡ true
readable_cut [] cut is = refl
readable_cut (byte ∷ row) cut is = ap (λ (o : Option Cut). option_map_or (λ _. true) o false) (sym is)

-- ---- a row is added

pub adds_cut : {T B : Type 0} (turn : B → Turn) (stands : T → B → List (List ℕ) → Type 0) (states : List ℕ → B → List (List ℕ) → Type 0) (r : LiveRun T) (old front mid new : List ℕ) (count sum : ℕ)
    → count ≡ count_of r.numbering → sum ≡ sum_in r.numbering → count < 2 ^ 64 → sum < 2 ^ 32 → front ≡ old ++ cut_front count sum → take (length front) mid ≡ front → new ≡ mid ++ 10 ∷ []
    → ((by : B) (before : List (List ℕ)) → stands r.taker by before → states (drop (length front) mid) by before) → AddsCut turn stands states r old new
adds_cut turn stands states r old front mid new count sum is_count is_sum fits small is_front grows is_new says =
    let text : List ℕ = drop (length front) mid in
    let parts : mid ≡ front ++ text = sym (take-append-drop (length front) mid) ∙ ap (λ (l : List ℕ). l ++ text) grows in
    let row : new ≡ old ++ cut_row count sum text =
    is_new ∙ ap (λ (l : List ℕ). l ++ 10 ∷ []) parts ∙ append_assoc front text (10 ∷ []) ∙ ap (λ (l : List ℕ). l ++ (text ++ 10 ∷ [])) is_front ∙ append_assoc old (cut_front count sum) (text ++ 10 ∷ []) in
    let same : cut_row count sum text ≡ cut_row (count_of r.numbering) (sum_in r.numbering) text =
    ap (λ (n : ℕ). cut_row n sum text) is_count ∙ ap (λ (n : ℕ). cut_row (count_of r.numbering) n text) is_sum in
    record {
      text = text;
      row = row ∙ ap (λ (l : List ℕ). old ++ l) same;
      says = λ by before behind. subst (StandsFor turn states by before) same
          (row_says turn states by before count sum text fits small (record { text = says by before behind.taken; count = is_count ∙ behind.count; sum = is_sum ∙ behind.sum }));
    }

-- ---- a head with another row behind its own is headed as it was

its_start : (text front : List ℕ) → starts_with nat_eq text front ≡ true → front ≡ take (length front) text
its_start text front is = (bytes_decides front (take (length front) text)).0 is

starts : (text front : List ℕ) → front ≡ take (length front) text → starts_with nat_eq text front ≡ true
starts text front is = (bytes_decides front (take (length front) text)).1 is

starts_long : (text front : List ℕ) → starts_with nat_eq text front ≡ true → length front ≤ length text
starts_long text front is = omega (arith, ap length (its_start text front is), length-take (length front) text)

starts_more : (text front more : List ℕ) → starts_with nat_eq text front ≡ true → starts_with nat_eq (text ++ more) front ≡ true
starts_more text front more is = starts (text ++ more) front (its_start text front is ∙ sym (take-append-le (length front) text more (starts_long text front is)))

starts_take : (n : ℕ) (text front : List ℕ) → length front ≤ n → starts_with nat_eq text front ≡ true → starts_with nat_eq (take n text) front ≡ true
starts_take n text front within is = starts (take n text) front (its_start text front is ∙ sym (take-take (length front) n text within))

-- such rows are long enough
own_long : (head rows : List ℕ) → 23 < length head → is_headed head rows ≡ true → length (own_row head rows) ≡ length head
own_long head rows long headed =
    let parts = and_parts (starts_with nat_eq rows (take 7 head)) (starts_with nat_eq (drop 23 rows) (drop 23 head)) headed in
    let within = starts_long (drop 23 rows) (drop 23 head) parts.1 in
    omega (arith, long, within, length-drop 23 rows, length-drop 23 head, length-take (length head) rows)

its_front : (head rows more : List ℕ) → 23 < length head → is_headed head rows ≡ true → (n : ℕ) → n ≤ 23 → drop n (own_row head rows ++ more) ≡ drop n (own_row head rows) ++ more
its_front head rows more long headed n small =
    let own = own_long head rows long headed in
    drop-append-le n (own_row head rows) more (omega (arith, long, own, small))

pub its_own : (head rows more : List ℕ) → 23 < length head → is_headed head rows ≡ true → own_row head (own_row head rows ++ more) ≡ own_row head rows
its_own head rows more long headed = take_at (own_row head rows) more (length head) (own_long head rows long headed)

pub its_rest : (head rows more : List ℕ) → 23 < length head → is_headed head rows ≡ true → behind_row head (own_row head rows ++ more) ≡ more
its_rest head rows more long headed = drop_at (own_row head rows) more (length head) (own_long head rows long headed)

name_more : (head rows more : List ℕ) → 23 < length head → is_headed head rows ≡ true → name_in (own_row head rows ++ more) ≡ name_in (own_row head rows)
name_more head rows more long headed =
    let own = own_long head rows long headed in
    let enough : 16 ≤ length (drop 7 (own_row head rows)) = omega (arith, long, own, length-drop 7 (own_row head rows)) in
    ap (take 16) (its_front head rows more long headed 7 (omega arith)) ∙ take-append-le 16 (drop 7 (own_row head rows)) more enough

pub its_name : (head rows more : List ℕ) → 23 < length head → is_headed head rows ≡ true → name_in (own_row head rows ++ more) ≡ name_in rows
its_name head rows more long headed =
    name_more head rows more long headed
    ∙ sym (name_more head rows (behind_row head rows) long headed)
    ∙ ap name_in (take-append-drop (length head) rows)

pub stays_headed : (head rows more : List ℕ) → 23 < length head → is_headed head rows ≡ true → is_headed head (own_row head rows ++ more) ≡ true
stays_headed head rows more long headed =
    let row : List ℕ = own_row head rows in
    let tail : List ℕ = drop 23 head in
    let own = own_long head rows long headed in
    let parts = and_parts (starts_with nat_eq rows (take 7 head)) (starts_with nat_eq (drop 23 rows) tail) headed in
    let first = starts_take (length head) rows (take 7 head) (omega (arith, length-take 7 head)) parts.0 in
    let split : drop 23 rows ≡ drop 23 row ++ behind_row head rows = ap (drop 23) (sym (take-append-drop (length head) rows)) ∙ its_front head rows (behind_row head rows) long headed 23 (omega arith) in
    let whole : starts_with nat_eq (drop 23 row ++ behind_row head rows) tail ≡ true = ap (λ (l : List ℕ). starts_with nat_eq l tail) (sym split) ∙ parts.1 in
    let short : length tail ≤ length (drop 23 row) = omega (arith, own, length-drop 23 head, length-drop 23 row) in
    let second : starts_with nat_eq (drop 23 row) tail ≡ true =
    ap (λ (l : List ℕ). starts_with nat_eq l tail) (sym (take_at (drop 23 row) (behind_row head rows) (length (drop 23 row)) refl))
    ∙ starts_take (length (drop 23 row)) (drop 23 row ++ behind_row head rows) tail short whole in
    and_from (starts_with nat_eq (row ++ more) (take 7 head)) (starts_with nat_eq (drop 23 (row ++ more)) tail) (starts_more row (take 7 head) more first)
    (ap (λ (l : List ℕ). starts_with nat_eq l tail) (its_front head rows more long headed 23 (omega arith)) ∙ starts_more (drop 23 row) tail more second)

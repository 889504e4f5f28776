-- The invoice: what is written is what the selected records of what passes come to, which are the first deliveries, each of
-- which is a record's.
use Rattle.std.proofs.Common.{◌≡◌, ℕ, zero, suc, Bool, true, false, ◌&&◌, ◌||◌, cond, List, [], ◌∷◌, ◌++◌, map, length, ℤ, pos, ◌+ℤ◌, Option, Some, None, is_none, refl, sym, ap, subst, ◌∙◌, arith}
use Rattle.std.proofs.lemmas.Int.{ints}
use Rattle.std.proofs.lemmas.Bool.{true≢false}
use Rattle.std.specs.Prelude.{Contains, filter, int_le, int_lt, nat_eq}
use Rattle.std.specs.List.{AllByRecursion}
use Rattle.std.proofs.Math.Bool.{and-false}
use Rattle.wsm_record.specs.declared.event.Value.{Value}
use Rattle.wsm_record.specs.declared.words.Mode.TheVariants.{Discarding}
use Rattle.wsm_record.specs.declared.words.Form.TheVariants.{Panes}
use Rattle.wsm_record.specs.Event.{Event, Record}
use Rattle.wsm_windows.specs.Windows.{IsShape}
use Rattle.wsm_admission.specs.declared.verdict.Refusal.{Refusal}
use Rattle.wsm_semantics.specs.Query.{Query, Datum, SessionsByEvent, datum, Selects, Nothing, mark, verdict_on, selection, selection_of, selected}
use Rattle.wsm_semantics.specs.Amounts.{sum_of, Amount, amount_of, AddsAmounts, comes_in, amount_owed}
use Rattle.wsm_semantics.specs.Deliveries.{Sent, Delivery, Comes, Told, event_of, came, firsts, once_all, once_live, AreTimed}
use Rattle.wsm_semantics.specs.Invoice.{AreApart, IsOneOf, Delivers, ComeInTime, is_billed, amount_billed, Invoices}
use Rattle.wsm_semantics.proofs.Lists.{all-each}
use Rattle.wsm_semantics.proofs.Each.{itself, same_key, all-any, filter-append, filter-map}
use Rattle.wsm_semantics.proofs.Effects.{selects_none}
use Rattle.wsm_semantics.proofs.Sums.{none_more, one_alone, sum_of-append, sum_of-plus, sum_of-each, sum_of-none, sum_of-filter}
use Rattle.wsm_semantics.proofs.AmountWindows.{of_each}
use Rattle.wsm_semantics.proofs.AmountLaw.{amounts_add_up}
use Rattle.wsm_semantics.proofs.Deliveries.{flat, passes_alike}

-- ---- identifiers that are apart

-- the time of an identifier
abbrev pub time_in : List Sent → ℕ → ℤ
time_in [] i = pos 0
time_in (s ∷ ss) i = cond (nat_eq s.identifier i) s.time (time_in ss i)

timed_one : (records : List Sent) → AreApart records → (s : Sent) → Contains records s → s.time ≡ time_in records s.identifier
timed_one [] apart s (i, less, is) = absurd (omega arith)
timed_one (x ∷ xs) apart s (zero, less, is) =
    sym (ap (λ (b : Bool). cond b x.time (time_in xs s.identifier)) (ap (λ (y : Sent). nat_eq y.identifier s.identifier) is ∙ itself s.identifier) ∙ ap (λ (y : Sent). y.time) is)
timed_one (x ∷ xs) apart s (suc i, less, is) =
    let there : Contains xs s = (i, omega arith, is) in
    timed_one xs apart.1 s there ∙ sym (ap (λ (b : Bool). cond b x.time (time_in xs s.identifier)) (of_each (λ r. nat_eq x.identifier r.identifier ≡ false) xs s apart.0 there))

all_timed : (records : List Sent) → AreApart records → (ds : List Delivery) → AllByRecursion (IsOneOf records) ds → AreTimed (time_in records) ds
all_timed records apart [] alone = tt
all_timed records apart (Comes s ∷ ds) alone = let is : s.time ≡ time_in records s.identifier = timed_one records apart s alone.0 in (omega (arith, ints, is), (λ _. is), all_timed records apart ds alone.1)
all_timed records apart (Told source t ∷ ds) alone = all_timed records apart ds alone.1

module _ (g : Sent → ℤ) where
  -- of records that are apart one has an identifier
  one_of_them : (records : List Sent) → AreApart records → (s : Sent) → Contains records s → sum_of (λ x. cond (nat_eq s.identifier x.identifier) (g x) (pos 0)) records ≡ g s
  one_of_them [] apart s (i, less, is) = absurd (omega arith)
  one_of_them (x ∷ xs) apart s (zero, less, is) =
      let same : nat_eq s.identifier x.identifier ≡ true = ap (λ (y : Sent). nat_eq s.identifier y.identifier) is ∙ itself s.identifier in
      let none : AllByRecursion (λ r. nat_eq s.identifier r.identifier ≡ false) xs = subst (λ (y : Sent). AllByRecursion (λ r. nat_eq y.identifier r.identifier ≡ false) xs) is apart.0 in
      (λ i. cond (same i) (g x) (pos 0) +ℤ sum_of-each (λ r. cond (nat_eq s.identifier r.identifier) (g r) (pos 0)) (λ r. pos 0) xs (all-each (λ r. nat_eq s.identifier r.identifier ≡ false) (λ r. cond (nat_eq s.identifier r.identifier) (g r) (pos 0) ≡ pos 0) xs (λ r h. ap (λ (b : Bool). cond b (g r) (pos 0)) h) none) i)
      ∙ ap (λ (z : ℤ). g x +ℤ z) (sum_of-none xs) ∙ one_alone (g x) ∙ ap g is
  one_of_them (x ∷ xs) apart s (suc i, less, is) =
      let there : Contains xs s = (i, omega arith, is) in
      let other : nat_eq s.identifier x.identifier ≡ false = unlike x.identifier s.identifier (of_each (λ r. nat_eq x.identifier r.identifier ≡ false) xs s apart.0 there) in
      ap (λ (b : Bool). cond b (g x) (pos 0) +ℤ sum_of (λ y. cond (nat_eq s.identifier y.identifier) (g y) (pos 0)) xs) other
      ∙ none_more (sum_of (λ y. cond (nat_eq s.identifier y.identifier) (g y) (pos 0)) xs)
      ∙ one_of_them xs apart.1 s there
    where
      unlike : (m n : ℕ) → nat_eq m n ≡ false → nat_eq n m ≡ false
      unlike m n h = elim (nat_eq n m) as (λ b. nat_eq n m ≡ b → b ≡ false) [
        | true ↦ λ k. absurd (true≢false (sym (ap (nat_eq m) (same_key n m k) ∙ itself m) ∙ h))
        | false ↦ λ _. refl
      ] refl

  known_before : (e c : Bool) → (e ≡ true → c ≡ true) → c ≡ (e || c)
  known_before true c f = f refl
  known_before false c f = refl

  one_more : (e c : Bool) (x : ℤ) → (e ≡ true → c ≡ false) → (cond e x (pos 0) +ℤ cond c x (pos 0)) ≡ cond (e || c) x (pos 0)
  one_more true c x f = ap (λ (b : Bool). x +ℤ cond b x (pos 0)) (f refl) ∙ one_alone x
  one_more false c x f = none_more (cond c x (pos 0))

  -- the first deliveries are the records that came
  of_those_that_came : (records : List Sent) → AreApart records → (ds : List Delivery) → AllByRecursion (IsOneOf records) ds → sum_of g (firsts ds) ≡ sum_of (λ s. cond (came s.identifier ds) (g s) (pos 0)) records
  of_those_that_came records apart [] alone = sym (sum_of-none records)
  of_those_that_came records apart (Told source t ∷ ds) alone = of_those_that_came records apart ds alone.1
  of_those_that_came records apart (Comes s ∷ ds) alone =
      let before : sum_of g (firsts ds) ≡ sum_of (λ x. cond (came x.identifier ds) (g x) (pos 0)) records = of_those_that_came records apart ds alone.1 in
      elim (came s.identifier ds) as (λ b. came s.identifier ds ≡ b → sum_of g (cond b (firsts ds) (s ∷ firsts ds)) ≡ sum_of (λ x. cond (nat_eq s.identifier x.identifier || came x.identifier ds) (g x) (pos 0)) records) [
        | true ↦ λ there.
            before
            ∙ sum_of-each (λ x. cond (came x.identifier ds) (g x) (pos 0)) (λ x. cond (nat_eq s.identifier x.identifier || came x.identifier ds) (g x) (pos 0)) records
            (all-any (λ x. cond (came x.identifier ds) (g x) (pos 0) ≡ cond (nat_eq s.identifier x.identifier || came x.identifier ds) (g x) (pos 0))
            (λ x. ap (λ (b : Bool). cond b (g x) (pos 0)) (known_before (nat_eq s.identifier x.identifier) (came x.identifier ds) (λ same. ap (λ (i : ℕ). came i ds) (sym (same_key s.identifier x.identifier same)) ∙ there))) records)
        | false ↦ λ first.
            (λ i. sym (one_of_them records apart s alone.0) i +ℤ before i)
            ∙ sym (sum_of-plus (λ x. cond (nat_eq s.identifier x.identifier) (g x) (pos 0)) (λ x. cond (came x.identifier ds) (g x) (pos 0)) records)
            ∙ sum_of-each (λ x. cond (nat_eq s.identifier x.identifier) (g x) (pos 0) +ℤ cond (came x.identifier ds) (g x) (pos 0)) (λ x. cond (nat_eq s.identifier x.identifier || came x.identifier ds) (g x) (pos 0)) records
            (all-any (λ x. (cond (nat_eq s.identifier x.identifier) (g x) (pos 0) +ℤ cond (came x.identifier ds) (g x) (pos 0)) ≡ cond (nat_eq s.identifier x.identifier || came x.identifier ds) (g x) (pos 0))
            (λ x. one_more (nat_eq s.identifier x.identifier) (came x.identifier ds) (g x) (λ same. ap (λ (i : ℕ). came i ds) (sym (same_key s.identifier x.identifier same)) ∙ first)) records)
      ] refl

  -- and once all came, the records
  pub of_records : (records : List Sent) (ds : List Delivery) → Delivers records ds → sum_of g (firsts ds) ≡ sum_of g records
  of_records records ds h =
      of_those_that_came records h.apart ds h.alone
      ∙ sum_of-each (λ s. cond (came s.identifier ds) (g s) (pos 0)) g records (all-each (λ s. came s.identifier ds ≡ true) (λ s. cond (came s.identifier ds) (g s) (pos 0) ≡ g s) records (λ s there. ap (λ (b : Bool). cond b (g s) (pos 0)) there) h.each)

-- ---- the selected records

sum_of-map : {A B : Type 0} (f : B → ℤ) (h : A → B) (xs : List A) → sum_of f (map h xs) ≡ sum_of (λ x. f (h x)) xs
sum_of-map f h [] = refl
sum_of-map f h (x ∷ xs) = ap (λ (s : ℤ). f (h x) +ℤ s) (sum_of-map f h xs)

module _ (q : Query) (ok : IsShape q.shape) (amount : Amount) (key : ℕ) (from until : ℤ) where
  abbrev owed : List Datum → ℤ
  owed ds = sum_of (amount_of amount) (filter (comes_in key from until) ds)

  -- turns are of no account
  by_flat : (ds : List Datum) → owed (map flat ds) ≡ owed ds
  by_flat ds = ap (sum_of (amount_of amount)) (filter-map flat (comes_in key from until) ds) ∙ sum_of-map (amount_of amount) flat (filter (comes_in key from until) ds)

  owed-append : (xs ys : List Datum) → owed (xs ++ ys) ≡ owed xs +ℤ owed ys
  owed-append xs ys = ap (sum_of (amount_of amount)) (filter-append (comes_in key from until) xs ys) ∙ sum_of-append (amount_of amount) (filter (comes_in key from until) xs) (filter (comes_in key from until) ys)

  abbrev billed : Sent → ℤ
  billed s = cond (is_billed q key from until s) (amount key s.values) (pos 0)

  one_first : (past : List Event) (i : ℕ) (k : Option ℕ) (t : ℤ) (vs : List Value) → verdict_on q past (Record k t vs) ≡ None → owed (selection_of q past (Record k t vs)) ≡ billed (record { identifier = i; key = k; time = t; values = vs })
  one_first past i None t vs taken = refl
  one_first past i (Some k) t vs taken =
      ap (λ (v : Option Refusal). owed (selection (cond (is_none v && q.selects k vs) (Selects (datum (length past) (mark q past) k t vs)) Nothing))) taken
      ∙ where_selected (q.selects k vs)
      ∙ ap (λ (b : Bool). cond b (amount key vs) (pos 0)) same_test
    where
      where_selected : (b : Bool) → owed (selection (cond b (Selects (datum (length past) (mark q past) k t vs)) Nothing)) ≡ cond (nat_eq k key && ((int_le from t && int_lt t until) && b)) (amount key vs) (pos 0)
      where_selected true =
          elim (nat_eq k key) as (λ b. nat_eq k key ≡ b → sum_of (amount_of amount) (cond (b && (int_le from t && int_lt t until)) (datum (length past) (mark q past) k t vs ∷ []) []) ≡ cond (b && ((int_le from t && int_lt t until) && true)) (amount key vs) (pos 0)) [
            | true ↦ λ same. elim (int_le from t && int_lt t until) as (λ b. sum_of (amount_of amount) (cond b (datum (length past) (mark q past) k t vs ∷ []) []) ≡ cond (b && true) (amount key vs) (pos 0)) [
              | true ↦ one_alone (amount k vs) ∙ ap (λ (j : ℕ). amount j vs) (same_key k key same)
              | false ↦ refl
            ]
            | false ↦ λ _. refl
          ] refl
      where_selected false = sym (ap (λ (b : Bool). cond (nat_eq k key && b) (amount key vs) (pos 0)) (and-false (int_le from t && int_lt t until)) ∙ ap (λ (b : Bool). cond b (amount key vs) (pos 0)) (and-false (nat_eq k key)))

      same_test : (nat_eq k key && ((int_le from t && int_lt t until) && q.selects k vs)) ≡ (nat_eq k key && ((int_le from t && int_lt t until) && q.selects key vs))
      same_test = elim (nat_eq k key) as (λ b. nat_eq k key ≡ b → (b && ((int_le from t && int_lt t until) && q.selects k vs)) ≡ (b && ((int_le from t && int_lt t until) && q.selects key vs))) [
        | true ↦ λ same. ap (λ (j : ℕ). (int_le from t && int_lt t until) && q.selects j vs) (same_key k key same)
        | false ↦ λ _. refl
      ] refl

  -- what the selected records come to is what the first deliveries do
  of_firsts : (ds : List Delivery) → ComeInTime q ds → owed (selected q (once_all ds)) ≡ sum_of billed (firsts ds)
  of_firsts [] prompt = refl
  of_firsts (Told source t ∷ ds) prompt = ap (λ (xs : List Datum). owed (xs ++ selected q (once_all ds))) (selects_none q (once_all ds) source t) ∙ of_firsts ds prompt
  of_firsts (Comes s ∷ ds) prompt =
      elim (came s.identifier ds) as (λ b. (b ≡ false → verdict_on q (once_all ds) (event_of s) ≡ None) → owed (selected q (cond b (once_all ds) (event_of s ∷ once_all ds))) ≡ sum_of billed (cond b (firsts ds) (s ∷ firsts ds))) [
        | true ↦ λ _. of_firsts ds prompt.1
        | false ↦ λ taken.
            owed-append (selection_of q (once_all ds) (event_of s)) (selected q (once_all ds))
            ∙ (λ i. one_first (once_all ds) s.identifier s.key s.time s.values (taken refl) i +ℤ of_firsts ds prompt.1 i)
      ] prompt.0

  -- what the selected records of what passes come to is what the records do
  pub owed_is_billed : (records : List Sent) (ds : List Delivery) → Delivers records ds → ComeInTime q ds → amount_owed q (once_live q ds) amount key from until ≡ amount_billed q amount key from until records
  owed_is_billed records ds h prompt =
      let passed = passes_alike q ok (time_in records) ds (all_timed records h.apart ds h.alone) in
      sym (by_flat (selected q (once_live q ds)))
      ∙ ap owed passed.selected
      ∙ by_flat (selected q (once_all ds))
      ∙ of_firsts ds prompt
      ∙ of_records billed records ds h
      ∙ sym (sum_of-filter (λ s. amount key s.values) (is_billed q key from until) records)

pub invoices : (q : Query) → IsShape q.shape → SessionsByEvent q → q.mode ≡ Discarding → q.form ≡ Panes → (c : ℕ) (amount : Amount) → AddsAmounts q c amount → Invoices q c amount
invoices q ok timely discarding panes c amount adds =
    let law = amounts_add_up q ok timely discarding panes c amount adds in
    record {
      spans = λ size is records ds delivered prompt key i j gone. law.spans size is (once_live q ds) key i j gone ∙ owed_is_billed q ok amount key _ _ records ds delivered prompt;
      sessions = λ gap is records ds delivered prompt key from until cut_from cut_until gone. law.sessions gap is (once_live q ds) key from until cut_from cut_until gone ∙ owed_is_billed q ok amount key from until records ds delivered prompt;
    }

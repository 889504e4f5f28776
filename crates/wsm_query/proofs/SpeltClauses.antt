-- What each clause took is the tokens of its tree.
use Rattle.std.proofs.Common.{◌≡◌, ℕ, zero, suc, true, false, List, [], ◌∷◌, ◌++◌, map, refl, ap, append_assoc, append-nil, arith}
use Rattle.std.specs.Prelude.{Option, Some, None, codes}
use Rattle.std.specs.List.{flat_map}
use Rattle.wsm_record.specs.declared.words.Mode.TheVariants.{Discarding, Accumulating, Retracting}
use Rattle.wsm_record.specs.declared.words.Form.TheVariants.{Panes, Istream, Dstream, Rstream}
use Rattle.wsm_windows.specs.declared.window.Shape.TheVariants.{Fixed, Sliding, Session}
use Rattle.wsm_tokens.specs.declared.token.Sign.{Sign}
use Rattle.wsm_tokens.specs.declared.token.Sign.TheVariants as signs
use Rattle.wsm_tokens.specs.Tokens.{Token, Word, Mark, Tokens, sign_text}
use Rattle.wsm_tokens.specs.Read.{Read, Rule, Took, ◌>>=◌, give, and_then, count, behind, ask, name}
use Rattle.wsm_query.specs.declared.query.Budget.{Budget}
use Rattle.wsm_query.specs.Tree.{Name, Selection}
use Rattle.wsm_query.specs.Grammar.{one_of, until, clause, optional, turns, brace, list_of, expr, names, sources, from_window, budget, clock, selection, output, shape, mode, form, every}
use Rattle.wsm_query.specs.Print.{figures, expr_tokens, with_commas, clause_tokens, sources_tokens, from_window_tokens, budget_tokens, condition_tokens, shape_tokens, mode_word, every_tokens, form_word, clock_tokens, output_tokens}
use Rattle.wsm_query.proofs.Spelt.{Says, word_says, sign_says, Spelt, spelt, step, done, alike_goes, behind_opens, lost_goes, either_goes, Entry, Entries, listed_goes}
use Rattle.wsm_query.proofs.SpeltRules.{word_spelt, sign_spelt, after_spelt, number_spelt, name_spelt, expr_spelt}

pub clause_spelt : {A : Type 0} {rule : Rule A} {toks : A → List Token} (s : List ℕ) → Says s (Word s) → Spelt rule toks → Spelt (clause s rule) (λ x. clause_tokens s (toks x))
clause_spelt s k r = spelt (λ b. step (word_spelt s k) (λ _. step r (λ x. step (sign_spelt signs.Semicolon) (λ _. done x refl))))

pub optional_spelt : {A : Type 0} {rule : Rule A} {toks : A → List Token} (s : List ℕ) → Says s (Word s) → (final : Option A → List Token) → [] ≡ final None
    → ((x : A) → Word s ∷ toks x ≡ final (Some x)) → Spelt rule toks → Spelt (optional s rule) final
optional_spelt s k final e f r = spelt (λ b. either_goes s (Word s) k (step r (λ x. done (Some x) (f x))) (done None e))

turns_spelt : {A : Type 0} {rule : Rule A} {toks : A → List Token} (n : ℕ) (s : List ℕ) (t : Token) → Says s t → Spelt rule toks → Spelt (turns n s rule) (flat_map (λ x. t ∷ toks x))
turns_spelt zero s t k r = spelt (λ b. done [] refl)
turns_spelt (suc n) s t k r =
    spelt (λ b. either_goes s t k (step r (λ x. step (turns_spelt n s t k r) (λ xs. done (x ∷ xs) refl))) (done [] refl))

brace_spelt : {A : Type 0} {rule : Rule A} {toks : A → List Token} (s : List ℕ) (t : Token) → Says s t → Spelt rule toks → Spelt (brace s rule) (flat_map (λ x. t ∷ toks x))
unfolding brace
brace_spelt s t k r = record { law = λ ts p. (turns_spelt (count ts) s t k r).law ts p }

pub commas : {A : Type 0} (toks : A → List Token) (x : A) (xs : List A) → toks x ++ flat_map (λ y. Mark signs.Comma ∷ toks y) xs ≡ with_commas (map toks (x ∷ xs))
commas toks x [] = append-nil (toks x)
commas toks x (y ∷ ys) = ap (λ us. toks x ++ Mark signs.Comma ∷ us) (commas toks y ys)

pub list_of_spelt : {A : Type 0} {rule : Rule A} {toks : A → List Token} → Spelt rule toks → Spelt (list_of rule) (λ xs. with_commas (map toks xs))
unfolding list_of
list_of_spelt {toks = toks} r =
    spelt (λ b. step r (λ x. step (brace_spelt (codes ",") (Mark signs.Comma) (sign_says signs.Comma) r) (λ xs. done (x ∷ xs) (commas toks x xs))))

-- a part and a sign behind it
until_sign_spelt : {A : Type 0} {rule : Rule A} {toks : A → List Token} (g : Sign) → Spelt rule toks → Spelt (until (sign_text g) rule) (λ x. toks x ++ Mark g ∷ [])
until_sign_spelt g r = spelt (λ b. step r (λ x. step (sign_spelt g) (λ _. done x refl)))

-- names and a semicolon, of which the list is made at its end
named : Name → Rule (List Name)
named x = brace (codes ",") name >>= λ xs. ask (codes ";") >>= λ _. give (x ∷ xs)

made : (read : Read Name) → and_then (and_then read (λ x. brace (codes ",") name >>= λ xs. give (x ∷ xs))) (λ xs. ask (codes ";") >>= λ _. give xs) ≡ and_then read named
unfolding named
made read = grind arith

names_ended : (ts : Tokens) → until (codes ";") names ts ≡ (name >>= named) ts
unfolding names list_of
names_ended ts = made (name ts)

named_tokens : (x : Name) (xs : List Name) → Word (codes "SOURCES") ∷ Word x ∷ flat_map (λ y. Mark signs.Comma ∷ Word y ∷ []) xs ++ Mark signs.Semicolon ∷ [] ≡ sources_tokens (x ∷ xs)
named_tokens x xs = ap (λ us. Word (codes "SOURCES") ∷ us ++ Mark signs.Semicolon ∷ []) (commas (λ y. Word y ∷ []) x xs)

pub sources_spelt : Spelt sources sources_tokens
unfolding sources named
sources_spelt =
    spelt (λ b.
    either_goes (codes "SOURCES") (Word (codes "SOURCES")) (word_says _ refl)
    (alike_goes (name >>= named) names_ended
    (step name_spelt (λ x.
    step (brace_spelt (codes ",") (Mark signs.Comma) (sign_says signs.Comma) name_spelt) (λ xs.
    step (sign_spelt signs.Semicolon) (λ _. done (x ∷ xs) (named_tokens x xs))))))
    (done [] refl))

budget_body : Budget → List Token
budget_body b = (Word (codes "RECORD") ∷ figures b.per_record ++ Word (codes "PANE") ∷ figures b.per_pane ++ Word (codes "HELD") ∷ figures b.held) ++ Mark signs.Semicolon ∷ []

budget_body_spelt : Spelt budget budget_body
unfolding budget budget_body
budget_body_spelt =
    spelt (λ b.
    step (after_spelt (codes "RECORD") (word_says _ refl) number_spelt) (λ r.
    step (after_spelt (codes "PANE") (word_says _ refl) number_spelt) (λ p.
    step (after_spelt (codes "HELD") (word_says _ refl) number_spelt) (λ h.
    step (sign_spelt signs.Semicolon) (λ _. done (record { per_record = r; per_pane = p; held = h }) (simp append_assoc))))))

pub budget_spelt : Spelt (optional (codes "BUDGET") budget) budget_tokens
unfolding budget_body
budget_spelt = optional_spelt (codes "BUDGET") (word_says _ refl) budget_tokens refl (λ x. refl) budget_body_spelt

pub condition_spelt : (s : List ℕ) → Says s (Word s) → Spelt (optional s expr) (condition_tokens s)
condition_spelt s k = optional_spelt s k (condition_tokens s) refl (λ x. refl) expr_spelt

every_spelt : Spelt every (λ n. Word (codes "EVERY") ∷ figures n)
unfolding every
every_spelt = after_spelt (codes "EVERY") (word_says _ refl) number_spelt

pub interval_spelt : (s : List ℕ) → Says s (Word s) → Spelt (optional s every) (every_tokens s)
interval_spelt s k = optional_spelt s k (every_tokens s) refl (λ x. refl) every_spelt

from_window_spelt : Spelt from_window from_window_tokens
unfolding from_window
from_window_spelt =
    spelt (λ b.
    either_goes (codes "FROM") (Word (codes "FROM")) (word_says _ refl)
    (step (word_spelt (codes "WINDOW") (word_says _ refl)) (λ _. done true refl))
    (done false refl))

-- the clauses of a clock, with LATENESS in two parts
clock_apart : (s k n w e r : List Token) → s ++ k ++ n ++ (w ++ e) ++ r ≡ s ++ k ++ (n ++ w ++ e) ++ r
clock_apart s k n w e r = simp append_assoc

pub clock_spelt : Spelt clock clock_tokens
unfolding clock
clock_spelt =
    spelt (λ b.
    step (clause_spelt (codes "START") (word_says _ refl) number_spelt) (λ start.
    step (clause_spelt (codes "SKEW") (word_says _ refl) number_spelt) (λ skew.
    step (after_spelt (codes "LATENESS") (word_says _ refl) number_spelt) (λ lateness.
    step (until_sign_spelt signs.Semicolon from_window_spelt) (λ from_window.
    step (clause_spelt (codes "RECORDS") (word_says _ refl) number_spelt) (λ records.
    done (record { start = start; skew = skew; lateness = lateness; from_window = from_window; records = records }) (search clock_apart)))))))

pub shape_spelt : Spelt shape shape_tokens
unfolding shape
shape_spelt =
    spelt (λ b.
    either_goes (codes "FIXED") (Word (codes "FIXED")) (word_says _ refl) (step number_spelt (λ s. done (Fixed s) refl))
    (either_goes (codes "SLIDING") (Word (codes "SLIDING")) (word_says _ refl)
    (step number_spelt (λ s. step (after_spelt (codes "EVERY") (word_says _ refl) number_spelt) (λ d. done (Sliding s d) refl)))
    (step (word_spelt (codes "SESSION") (word_says _ refl)) (λ _. step number_spelt (λ g. done (Session g) refl)))))

-- the word is that of the entry
abbrev IsWord : {A : Type 0} → (A → List ℕ) → Token → A → Type 0
IsWord word t x = t ≡ Word (word x)

entry : {A : Type 0} (word : A → List ℕ) (x : A) → Says (word x) (Word (word x)) → Entry (IsWord word) (word x, x)
entry word x k = record { token = Word (word x); says = k; meaning = refl }

one_of_spelt : {A : Type 0} (word : A → List ℕ) (table : List (List ℕ × A)) → Entries (IsWord word) table → Spelt (one_of table) (λ x. Word (word x) ∷ [])
one_of_spelt word table n =
    spelt (λ b. listed_goes (IsWord word) table n {found = λ x ts. Took x (behind ts)} (λ x t e. behind_opens (done x (ap (λ u. u ∷ []) e))) lost_goes)

pub mode_spelt : Spelt mode (λ m. Word (mode_word m) ∷ [])
unfolding mode
mode_spelt =
    one_of_spelt mode_word ((codes "ACCUMULATING", Accumulating) ∷ (codes "DISCARDING", Discarding) ∷ (codes "RETRACTING", Retracting) ∷ [])
    (entry mode_word Accumulating (word_says _ refl), (entry mode_word Discarding (word_says _ refl), (entry mode_word Retracting (word_says _ refl), tt)))

pub form_spelt : Spelt form (λ f. Word (form_word f) ∷ [])
unfolding form
form_spelt =
    one_of_spelt form_word ((codes "PANES", Panes) ∷ (codes "ISTREAM", Istream) ∷ (codes "DSTREAM", Dstream) ∷ (codes "RSTREAM", Rstream) ∷ [])
    (entry form_word Panes (word_says _ refl), (entry form_word Istream (word_says _ refl), (entry form_word Dstream (word_says _ refl), (entry form_word Rstream (word_says _ refl), tt))))

-- what is selected, as it is printed
abbrev pub selection_tokens : Selection → List Token
selection_tokens s =
    Word (codes "SELECT") ∷ with_commas (map expr_tokens s.columns) ++ condition_tokens (codes "WHERE") s.condition ++ condition_tokens (codes "HAVING") s.having

pub selection_spelt : Spelt selection selection_tokens
unfolding selection
selection_spelt =
    spelt (λ b.
    step (after_spelt (codes "SELECT") (word_says _ refl) (list_of_spelt expr_spelt)) (λ columns.
    step (condition_spelt (codes "WHERE") (word_says _ refl)) (λ condition.
    step (condition_spelt (codes "HAVING") (word_says _ refl)) (λ having.
    done (record { columns = columns; condition = condition; having = having }) refl))))

pub output_spelt : Spelt output output_tokens
unfolding output
output_spelt =
    spelt (λ b.
    step (after_spelt (codes "WINDOW") (word_says _ refl) shape_spelt) (λ shape.
    step mode_spelt (λ mode.
    step (interval_spelt (codes "EARLY") (word_says _ refl)) (λ early.
    step (interval_spelt (codes "LATE") (word_says _ refl)) (λ late.
    step (clause_spelt (codes "EMIT") (word_says _ refl) form_spelt) (λ form.
    done (record { shape = shape; mode = mode; early = early; late = late; form = form }) (simp append_assoc)))))))

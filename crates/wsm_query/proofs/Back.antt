-- Rules that read the tokens of what they took again, whatever stands behind these.
use Rattle.std.proofs.Common.{◌≡◌, ℕ, zero, suc, ◌≤◌, Bool, true, false, List, [], ◌∷◌, ◌++◌, length, refl, sym, ap, subst, ◌∙◌, arith}
use Rattle.std.specs.Prelude.{bytes_eq}
use Rattle.std.specs.List.{flat_map}
use Rattle.std.specs.Cmp.Derive.{both_true}
use Rattle.std.proofs.lemmas.List.Folds.{list_all-append}
use Rattle.wsm_tokens.specs.Tokens.{Token, Tokens, Then}
use Rattle.wsm_tokens.specs.Proper.{is_proper, are_proper}
use Rattle.wsm_tokens.specs.Read.{Read, Rule, Took, Stopped, ◌>>=◌, give, and_then, unexpected, begins, behind, count, spelling, ask}
use Rattle.wsm_tokens.specs.Written.{put}
use Rattle.wsm_query.specs.Grammar.{either, turns, brace}
use Rattle.wsm_query.proofs.Spelt.{Proper, put_append, Says, First, begun}

-- the rule reads the tokens of x again
abbrev pub Again : {A : Type 0} → Rule A → (A → List Token) → A → Type 0
Again rule toks x = (k : Tokens) → rule (put (toks x) k) ≡ Took x k

pub record Back {A : Type 0} (rule : Rule A) (toks : A → List Token) (x : A) (rest : Tokens) : Type 0 where
  pub again : Again rule toks x
  pub proper : are_proper (toks x) ≡ true
  pub rest_proper : Proper rest

abbrev pub Backs : {A : Type 0} → Rule A → (A → List Token) → Read A → Type 0
Backs rule toks (Took x rest) = Back rule toks x rest
Backs rule toks (Stopped f) = Unit {0}

pub record ReadsBack {A : Type 0} (rule : Rule A) (toks : A → List Token) : Type 0 where
  pub law : (ts : Tokens) → Proper ts → Backs rule toks (rule ts)

-- a rule that the whole one is, behind the tokens in front
pub record Carries {A : Type 0} (whole : Rule A) (front : List Token) (rule : Rule A) (final : A → List Token) : Type 0 where
  pub law : are_proper front ≡ true → ((k : Tokens) → whole (put front k) ≡ rule k) → (ts : Tokens) → Proper ts → Backs whole final (rule ts)

pub more_proper : (us vs : List Token) → are_proper us ≡ true → are_proper vs ≡ true → are_proper (us ++ vs) ≡ true
more_proper us vs p q = list_all-append is_proper us vs ∙ both_true p q

pub carried : {A : Type 0} {whole : Rule A} {final : A → List Token} → Carries whole [] whole final → ReadsBack whole final
carried c = record { law = λ ts p. c.law refl (λ k. refl) ts p }

then_backs : {A B : Type 0} (whole : Rule B) (front : List Token) (rule : Rule A) (go : A → Rule B) (toks : A → List Token) (final : B → List Token) (read : Read A)
    → are_proper front ≡ true → ((k : Tokens) → whole (put front k) ≡ and_then (rule k) go) → ((x : A) → Carries whole (front ++ toks x) (go x) final)
    → Backs rule toks read → Backs whole final (and_then read go)
then_backs whole front rule go toks final (Took x rest) p e c b =
    (c x).law (more_proper front (toks x) p b.proper)
    (λ k. ap whole (put_append front (toks x) k) ∙ e (put (toks x) k) ∙ ap (λ r. and_then r go) (b.again k)) rest b.rest_proper
then_backs whole front rule go toks final (Stopped f) p e c b = tt

pub carry : {A B : Type 0} {whole : Rule B} {front : List Token} {rule : Rule A} {go : A → Rule B} {toks : A → List Token} {final : B → List Token}
    → ReadsBack rule toks → ((x : A) → Carries whole (front ++ toks x) (go x) final) → Carries whole front (rule >>= go) final
carry {whole = whole} {front = front} {rule = rule} {go = go} {toks = toks} {final = final} r c =
    record { law = λ p e ts q. then_backs whole front rule go toks final (rule ts) p e c (r.law ts q) }

pub carry_end : {A : Type 0} {whole : Rule A} {front : List Token} {final : A → List Token} (x : A) → front ≡ final x → Carries whole front (give x) final
carry_end {whole = whole} x same =
    record { law = λ p e ts q. record { again = λ k. ap (λ us. whole (put us k)) (sym same) ∙ e k; proper = ap are_proper (sym same) ∙ p; rest_proper = q } }

last_backs : {A : Type 0} (whole : Rule A) (front : List Token) (rule : Rule A) (toks final : A → List Token) (read : Read A)
    → are_proper front ≡ true → ((k : Tokens) → whole (put front k) ≡ rule k) → ((x : A) → front ++ toks x ≡ final x)
    → Backs rule toks read → Backs whole final read
last_backs whole front rule toks final (Took x rest) p e same b =
    record {
      again = λ k. ap (λ us. whole (put us k)) (sym (same x)) ∙ ap whole (put_append front (toks x) k) ∙ e (put (toks x) k) ∙ b.again k;
      proper = ap are_proper (sym (same x)) ∙ more_proper front (toks x) p b.proper;
      rest_proper = b.rest_proper;
    }
last_backs whole front rule toks final (Stopped f) p e same b = tt

-- a last rule behind the tokens in front
pub carry_last : {A : Type 0} {whole : Rule A} {front : List Token} {rule : Rule A} {toks final : A → List Token}
    → ReadsBack rule toks → ((x : A) → front ++ toks x ≡ final x) → Carries whole front rule final
carry_last {whole = whole} {front = front} {rule = rule} {toks = toks} {final = final} r same =
    record { law = λ p e ts q. last_backs whole front rule toks final (rule ts) p e same (r.law ts q) }

pub alike : {A : Type 0} {whole : Rule A} {front : List Token} {rule : Rule A} {final : A → List Token} (other : Rule A) → ((ts : Tokens) → rule ts ≡ other ts)
    → Carries whole front other final → Carries whole front rule final
alike {whole = whole} {final = final} other same c =
    record { law = λ p e ts q. subst (λ r. Backs whole final r) (sym (same ts)) (c.law p (λ k. e k ∙ same k) ts q) }

-- a rule behind a first token
pub carries_behind : {A : Type 0} {whole rule : Rule A} {final : A → List Token} (t : Token) (ts : Tokens) → First t ts → ((k : Tokens) → whole (Then t 0 k) ≡ rule k)
    → Carries whole (t ∷ []) rule final → Backs whole final (rule (behind ts))
carries_behind t ts f e c = c.law (both_true f.itself refl) e (behind ts) f.proper

pub asked_again : (s : List ℕ) (t : Token) → bytes_eq s (spelling t) ≡ true → (k : Tokens) → ask s (Then t 0 k) ≡ Took tt k
unfolding ask begins behind
asked_again s t e k = ap (λ (b : Bool). elim b [ true ↦ Took tt k | false ↦ Stopped (unexpected (Then t 0 k)) ]) e

ask_backs : (s : List ℕ) (t : Token) → Says s t → bytes_eq s (spelling t) ≡ true → (ts : Tokens) → Proper ts → (c : Bool) → begins s ts ≡ c
    → Backs (ask s) (λ (u : Unit {0}). t ∷ []) (elim c [ true ↦ Took tt (behind ts) | false ↦ Stopped (unexpected ts) ])
ask_backs s t k e ts p true h =
    let n = begun s t k ts p h in
    record { again = λ us. asked_again s t e us; proper = both_true n.itself refl; rest_proper = n.proper }
ask_backs s t k e ts p false h = tt

pub ask_back : (s : List ℕ) (t : Token) → Says s t → bytes_eq s (spelling t) ≡ true → ReadsBack (ask s) (λ _. t ∷ [])
unfolding ask
ask_back s t k e = record { law = λ ts p. ask_backs s t k e ts p (begins s ts) refl }

-- each of a list is read again
abbrev pub AllAgain : {A : Type 0} → Rule A → (A → List Token) → List A → Type 0
AllAgain rule toks [] = Unit {0}
AllAgain rule toks (x ∷ xs) = Again rule toks x × AllAgain rule toks xs

pub record Lasts {A : Type 0} (rule : Rule A) (toks : A → List Token) (t : Token) (xs : List A) (rest : Tokens) : Type 0 where
  pub all : AllAgain rule toks xs
  pub proper : are_proper (flat_map (λ x. t ∷ toks x) xs) ≡ true
  pub rest_proper : Proper rest

abbrev pub AllBack : {A : Type 0} → Rule A → (A → List Token) → Token → Read (List A) → Type 0
AllBack rule toks t (Took xs rest) = Lasts rule toks t xs rest
AllBack rule toks t (Stopped f) = Unit {0}

more_back : {A : Type 0} (rule : Rule A) (toks : A → List Token) (t : Token) → is_proper t ≡ true → (x : A) (rest : Tokens) → Back rule toks x rest
    → (read : Read (List A)) → AllBack rule toks t read → AllBack rule toks t (and_then read (λ xs. give (x ∷ xs)))
more_back rule toks t p x rest b (Took xs end) l =
    record { all = (b.again, l.all); proper = more_proper (t ∷ toks x) (flat_map (λ y. t ∷ toks y) xs) (both_true p b.proper) l.proper; rest_proper = l.rest_proper }
more_back rule toks t p x rest b (Stopped f) l = tt

then_back : {A : Type 0} (n : ℕ) (s : List ℕ) (rule : Rule A) (toks : A → List Token) (t : Token) → is_proper t ≡ true
    → ((ts : Tokens) → Proper ts → AllBack rule toks t (turns n s rule ts))
    → (read : Read A) → Backs rule toks read → AllBack rule toks t (and_then read (λ x. turns n s rule >>= λ xs. give (x ∷ xs)))
then_back n s rule toks t p ih (Took x rest) b = more_back rule toks t p x rest b (turns n s rule rest) (ih rest b.rest_proper)
then_back n s rule toks t p ih (Stopped f) b = tt

turn_back : {A : Type 0} (n : ℕ) (s : List ℕ) (rule : Rule A) (toks : A → List Token) (t : Token) → Says s t → ReadsBack rule toks
    → ((ts : Tokens) → Proper ts → AllBack rule toks t (turns n s rule ts)) → (ts : Tokens) → Proper ts → (c : Bool) → begins s ts ≡ c
    → AllBack rule toks t (elim c [ true ↦ and_then (rule (behind ts)) (λ x. turns n s rule >>= λ xs. give (x ∷ xs)) | false ↦ Took [] ts ])
turn_back n s rule toks t k r ih ts p true h =
    let f = begun s t k ts p h in
    then_back n s rule toks t f.itself ih (rule (behind ts)) (r.law (behind ts) f.proper)
turn_back n s rule toks t k r ih ts p false h = record { all = tt; proper = refl; rest_proper = p }

turns_back : {A : Type 0} (n : ℕ) (s : List ℕ) (rule : Rule A) (toks : A → List Token) (t : Token) → Says s t → ReadsBack rule toks → (ts : Tokens) → Proper ts → AllBack rule toks t (turns n s rule ts)
turns_back zero s rule toks t k r ts p = record { all = tt; proper = refl; rest_proper = p }
turns_back (suc n) s rule toks t k r ts p = turn_back n s rule toks t k r (turns_back n s rule toks t k r) ts p (begins s ts) refl

pub brace_back : {A : Type 0} (s : List ℕ) (rule : Rule A) (toks : A → List Token) (t : Token) → Says s t → ReadsBack rule toks → (ts : Tokens) → Proper ts → AllBack rule toks t (brace s rule ts)
unfolding brace
brace_back s rule toks t k r ts p = turns_back (count ts) s rule toks t k r ts p

begins_it : (s : List ℕ) (t : Token) (k : Tokens) → bytes_eq s (spelling t) ≡ true → begins s (Then t 0 k) ≡ true
unfolding begins
begins_it s t k e = e

behind_it : (t : Token) (k : Tokens) → behind (Then t 0 k) ≡ k
unfolding behind
behind_it t k = refl

either_true : {A : Type 0} (s : List ℕ) (first second : Rule A) (ts : Tokens) → begins s ts ≡ true → either s first second ts ≡ first (behind ts)
either_true s first second ts e = ap (λ (b : Bool). elim b [ true ↦ first (behind ts) | false ↦ second ts ]) e

either_false : {A : Type 0} (s : List ℕ) (first second : Rule A) (ts : Tokens) → begins s ts ≡ false → either s first second ts ≡ second ts
either_false s first second ts e = ap (λ (b : Bool). elim b [ true ↦ first (behind ts) | false ↦ second ts ]) e

turns_again : {A : Type 0} (s : List ℕ) (rule : Rule A) (toks : A → List Token) (t : Token) → bytes_eq s (spelling t) ≡ true → (xs : List A) → AllAgain rule toks xs
    → (n : ℕ) → length xs ≤ n → (k : Tokens) → begins s k ≡ false → turns n s rule (put (flat_map (λ x. t ∷ toks x) xs) k) ≡ Took xs k
turns_again s rule toks t e [] a zero h k none = refl
turns_again s rule toks t e [] a (suc n) h k none = either_false s (rule >>= λ x. turns n s rule >>= λ xs. give (x ∷ xs)) (give []) k none
turns_again s rule toks t e (x ∷ xs) a zero h k none = absurd (omega arith)
turns_again {A = A} s rule toks t e (x ∷ xs) a (suc n) h k none =
    let go : A → Rule (List A) = λ x. turns n s rule >>= λ xs. give (x ∷ xs) in
    let us = flat_map (λ x. t ∷ toks x) xs in
    let short : length xs ≤ n = omega arith in
    either_true s (rule >>= go) (give []) (Then t 0 (put (toks x ++ us) k)) (begins_it s t _ e)
    ∙ ap (λ ts. and_then (rule ts) go) (behind_it t (put (toks x ++ us) k) ∙ put_append (toks x) us k)
    ∙ ap (λ r. and_then r go) (a.0 (put us k))
    ∙ ap (λ r. and_then r (λ xs. give (x ∷ xs))) (turns_again s rule toks t e xs a.1 n short k none)

count_put : (us : List Token) (k : Tokens) → count k ≤ count (put us k)
unfolding count
count_put [] k = omega arith
count_put (u ∷ us) k = omega (arith, count_put us k)

enough : {A : Type 0} (toks : A → List Token) (t : Token) (xs : List A) (k : Tokens) → length xs ≤ count (put (flat_map (λ x. t ∷ toks x) xs) k)
unfolding count
enough toks t [] k = omega arith
enough toks t (x ∷ xs) k =
    let us = flat_map (λ x. t ∷ toks x) xs in
    let same : count (put (toks x ++ us) k) ≡ count (put (toks x) (put us k)) = ap count (put_append (toks x) us k) in
    omega (arith, same, count_put (toks x) (put us k), enough toks t xs k)

pub brace_again : {A : Type 0} (s : List ℕ) (rule : Rule A) (toks : A → List Token) (t : Token) → bytes_eq s (spelling t) ≡ true → (xs : List A) → AllAgain rule toks xs
    → (k : Tokens) → begins s k ≡ false → brace s rule (put (flat_map (λ x. t ∷ toks x) xs) k) ≡ Took xs k
unfolding brace
brace_again s rule toks t e xs a k none = turns_again s rule toks t e xs a (count (put (flat_map (λ x. t ∷ toks x) xs) k)) (enough toks t xs k) k none

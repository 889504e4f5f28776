-- What a rule took is the tokens of its tree, but for a bound `-0`: both have the same plain form.
use Rattle.std.proofs.Common.{◌≡◌, ℕ, zero, suc, Bool, true, false, ◌&&◌, List, [], ◌∷◌, ◌++◌, ℤ, pos, negsuc, neg_ℤ, refl, sym, ap, subst, ◌∙◌, append_assoc}
use Rattle.std.specs.Prelude.{codes}
use Rattle.std.proofs.lemmas.Bool.{and_parts}
use Rattle.wsm_tokens.specs.declared.token.Sign.TheVariants as signs
use Rattle.wsm_tokens.specs.Tokens.{Token, Word, Mark, Number, Tokens, Then, End, Bad}
use Rattle.wsm_tokens.specs.Proper.{is_proper, has_proper}
use Rattle.wsm_tokens.specs.Read.{Read, Rule, Took, Stopped, ◌>>=◌, give, and_then, begins, behind, number}
use Rattle.wsm_tokens.specs.Written.{bare, put}
use Rattle.wsm_query.specs.Grammar.{either, int}
use Rattle.wsm_query.specs.Print.{figures}
use Rattle.wsm_query.proofs.Spelt.{Proper, Says, sign_says, begun, put_append, Ends, Spelt, Goes, last_goes}
use Rattle.wsm_query.proofs.SpeltRules.{number_spelt}
use Rattle.wsm_inputs.specs.TextOf.{is_minus, zero_next, begins_bound, plain}

-- ---- the plain form

zero_bare : (ts : Tokens) → zero_next (bare ts) ≡ zero_next ts
unfolding bare
zero_bare (Then t at rest) = refl
zero_bare (End at) = refl
zero_bare (Bad fault at) = refl

plain_bare : (b : Bool) (ts : Tokens) → plain b (bare ts) ≡ plain b ts
unfolding plain bare
plain_bare b (Then t at rest) =
    λ i. elim (b && (is_minus t && zero_bare rest i)) [ true ↦ plain_bare false rest i | false ↦ Then t 0 (plain_bare (begins_bound t) rest i) ]
plain_bare b (End at) = refl
plain_bare b (Bad fault at) = refl

zero_put_bare : (us : List Token) (ts : Tokens) → zero_next (put us (bare ts)) ≡ zero_next (put us ts)
zero_put_bare [] ts = zero_bare ts
zero_put_bare (u ∷ us) ts = refl

pub plain_put_bare : (b : Bool) (us : List Token) (ts : Tokens) → plain b (put us (bare ts)) ≡ plain b (put us ts)
unfolding plain
plain_put_bare b [] ts = plain_bare b ts
plain_put_bare b (u ∷ us) ts =
    λ i. elim (b && (is_minus u && zero_put_bare us ts i)) [ true ↦ plain_put_bare false us ts i | false ↦ Then u 0 (plain_put_bare (begins_bound u) us ts i) ]

-- what is the same behind a token is so behind tokens that end with it
record Swaps (t : Token) (x y : Tokens) : Type 0 where
  no_minus : is_minus t ≡ false
  same : plain (begins_bound t) x ≡ plain (begins_bound t) y

zero_swaps : (us : List Token) (t : Token) (x y : Tokens) → zero_next (put (us ++ t ∷ []) x) ≡ zero_next (put (us ++ t ∷ []) y)
zero_swaps [] t x y = refl
zero_swaps (u ∷ us) t x y = refl

kept : (b : Bool) (t : Token) (x : Tokens) → is_minus t ≡ false → plain b (Then t 0 x) ≡ Then t 0 (plain (begins_bound t) x)
unfolding plain
kept true t x e = ap (λ m. elim (m && zero_next x) [ true ↦ plain false x | false ↦ Then t 0 (plain (begins_bound t) x) ]) e
kept false t x e = refl

swapped : (b : Bool) (us : List Token) (t : Token) (x y : Tokens) → Swaps t x y → plain b (put (us ++ t ∷ []) x) ≡ plain b (put (us ++ t ∷ []) y)
unfolding plain
swapped b [] t x y s = kept b t x s.no_minus ∙ ap (Then t 0) s.same ∙ sym (kept b t y s.no_minus)
swapped b (u ∷ us) t x y s =
    λ i. elim (b && (is_minus u && zero_swaps us t x y i)) [ true ↦ swapped false us t x y s i | false ↦ Then u 0 (swapped (begins_bound u) us t x y s i) ]

-- behind such a token stands a bound
pub record Bounds (t : Token) : Type 0 where
  pub no_minus : is_minus t ≡ false
  pub begins : begins_bound t ≡ true

minus_nought : (k : Tokens) → plain true (Then (Mark signs.Minus) 0 (Then (Number (pos zero)) 0 k)) ≡ plain true (Then (Number (pos zero)) 0 k)
unfolding plain
minus_nought k = refl

nought_swaps : (t : Token) → Bounds t → (k : Tokens) → Swaps t (Then (Mark signs.Minus) 0 (Then (Number (pos zero)) 0 k)) (Then (Number (pos zero)) 0 k)
nought_swaps t s k = record {
  no_minus = s.no_minus;
  same =
      ap (λ b. plain b (Then (Mark signs.Minus) 0 (Then (Number (pos zero)) 0 k))) s.begins
      ∙ minus_nought k
      ∙ sym (ap (λ b. plain b (Then (Number (pos zero)) 0 k)) s.begins);
}

-- ---- rules

-- what a rule leaves of tokens whose plain form is b
abbrev pub Leaves : {A : Type 0} → Tokens → (A → List Token) → Read A → Type 0
Leaves b toks (Took x rest) = (b ≡ plain false (put (toks x) rest)) × Proper rest
Leaves b toks (Stopped f) = Unit {0}

-- a rule that goes on behind the tokens in front
pub record Passes {A : Type 0} (b : Tokens) (front : List Token) (rule : Rule A) (toks : A → List Token) : Type 0 where
  pub law : (ts : Tokens) → Proper ts → b ≡ plain false (put front ts) → Leaves b toks (rule ts)

ends_leave : {A : Type 0} (b : Tokens) (front : List Token) (toks : A → List Token) (ts : Tokens) (read : Read A) → b ≡ plain false (put front ts) → Ends (put front (bare ts)) toks read → Leaves b toks read
ends_leave b front toks ts (Took x rest) e h = (e ∙ sym (plain_put_bare false front ts) ∙ ap (plain false) h.0 ∙ plain_put_bare false (toks x) rest, h.1)
ends_leave b front toks ts (Stopped f) e h = tt

-- a rule of which the tokens are exact
pub exact : {A : Type 0} {b : Tokens} {front : List Token} {rule : Rule A} {toks : A → List Token} → ((c : Tokens) → Goes c front rule toks) → Passes b front rule toks
exact {b = b} {front = front} {rule = rule} {toks = toks} g =
    record { law = λ ts p e. ends_leave b front toks ts (rule ts) e ((g (put front (bare ts))).law ts p refl) }

pub spelt_passes : {A : Type 0} {b : Tokens} {front : List Token} {rule : Rule A} {toks : A → List Token} → Spelt rule toks → Passes b front rule (λ x. front ++ toks x)
spelt_passes s = exact (λ c. last_goes s (λ x. refl))

then_leaves : {A B : Type 0} (b : Tokens) (mid : A → List Token) (final : B → List Token) (read : Read A) (go : A → Rule B)
    → ((x : A) → Passes b (mid x) (go x) final) → Leaves b mid read → Leaves b final (and_then read go)
then_leaves b mid final (Took x rest) go k h = (k x).law rest h.1 h.0
then_leaves b mid final (Stopped f) go k h = tt

pub passes_on : {A B : Type 0} {b : Tokens} {front : List Token} {rule : Rule A} {go : A → Rule B} {mid : A → List Token} {final : B → List Token}
    → Passes b front rule mid → ((x : A) → Passes b (mid x) (go x) final) → Passes b front (rule >>= go) final
passes_on {b = b} {rule = rule} {go = go} {mid = mid} {final = final} r k =
    record { law = λ ts p e. then_leaves b mid final (rule ts) go k (r.law ts p e) }

pub past : {A B : Type 0} {b : Tokens} {front : List Token} {rule : Rule A} {go : A → Rule B} {toks : A → List Token} {final : B → List Token}
    → Spelt rule toks → ((x : A) → Passes b (front ++ toks x) (go x) final) → Passes b front (rule >>= go) final
past s k = passes_on (spelt_passes s) k

pub passed : {A : Type 0} {b : Tokens} {front : List Token} {final : A → List Token} (x : A) → front ≡ final x → Passes b front (give x) final
passed x same = record { law = λ ts p e. (e ∙ ap (λ us. plain false (put us ts)) same, p) }

pub passes_alike : {A : Type 0} {b : Tokens} {front : List Token} {rule : Rule A} {final : A → List Token} (other : Rule A) → ((ts : Tokens) → rule ts ≡ other ts)
    → Passes b front other final → Passes b front rule final
passes_alike {b = b} {final = final} other same g = record { law = λ ts p e. subst (λ r. Leaves b final r) (sym (same ts)) (g.law ts p e) }

either_leaves : {A : Type 0} (b : Tokens) (front : List Token) (final : A → List Token) (first second : Rule A) (s : List ℕ) (t : Token) → Says s t
    → Passes b (front ++ t ∷ []) first final → Passes b front second final → (ts : Tokens) → Proper ts → b ≡ plain false (put front ts)
    → (c : Bool) → begins s ts ≡ c → Leaves b final (elim c [ true ↦ first (behind ts) | false ↦ second ts ])
either_leaves b front final first second s t k f g ts p e true h =
    let n = begun s t k ts p h in
    f.law (behind ts) n.proper
    (e ∙ sym (plain_put_bare false front ts)
    ∙ ap (λ us. plain false (put front us)) n.same
    ∙ ap (plain false) (sym (put_append front (t ∷ []) (bare (behind ts))))
    ∙ plain_put_bare false (front ++ t ∷ []) (behind ts))
either_leaves b front final first second s t k f g ts p e false h = g.law ts p e

pub passes_either : {A : Type 0} {b : Tokens} {front : List Token} {final : A → List Token} (s : List ℕ) (t : Token) → Says s t → {first second : Rule A}
    → Passes b (front ++ t ∷ []) first final → Passes b front second final → Passes b front (either s first second) final
passes_either {b = b} {front = front} {final = final} s t k {first = first} {second = second} f g =
    record { law = λ ts p e. either_leaves b front final first second s t k f g ts p e (begins s ts) refl }

-- ---- a bound

behind_proper : (u : Token) (at : ℕ) (rest : Tokens) → Proper (Then u at rest) → Proper rest
unfolding has_proper
behind_proper u at rest p = (and_parts (is_proper u) (has_proper rest) p).1

-- the tokens so far, with a number behind them
behind_number : (front : List Token) (n : ℤ) (at : ℕ) (rest : Tokens) → plain false (put front (Then (Number n) at rest)) ≡ plain false (put (front ++ Number n ∷ []) rest)
unfolding bare
behind_number front n at rest =
    sym (plain_put_bare false front (Then (Number n) at rest))
    ∙ ap (plain false) (bare_number front n at rest)
    ∙ plain_put_bare false (front ++ Number n ∷ []) rest
  where
    bare_number : (front : List Token) (n : ℤ) (at : ℕ) (rest : Tokens) → put front (bare (Then (Number n) at rest)) ≡ put (front ++ Number n ∷ []) (bare rest)
    bare_number front n at rest = sym (put_append front (Number n ∷ []) (bare rest))

no_nought : (front : List Token) (t : Token) → Bounds t → (k : Tokens) → plain false (put ((front ++ t ∷ []) ++ Mark signs.Minus ∷ Number (pos zero) ∷ []) k) ≡ plain false (put ((front ++ t ∷ []) ++ Number (pos zero) ∷ []) k)
no_nought front t s k =
    sym (plain_put_bare false ((front ++ t ∷ []) ++ Mark signs.Minus ∷ Number (pos zero) ∷ []) k)
    ∙ ap (plain false) (put_append (front ++ t ∷ []) (Mark signs.Minus ∷ Number (pos zero) ∷ []) (bare k))
    ∙ swapped false front t _ _ (nought_swaps t s (bare k))
    ∙ ap (plain false) (sym (put_append (front ++ t ∷ []) (Number (pos zero) ∷ []) (bare k)))
    ∙ plain_put_bare false ((front ++ t ∷ []) ++ Number (pos zero) ∷ []) k

-- a number behind the minus sign of a bound
negative : (b : Tokens) (front : List Token) (t : Token) → Bounds t → (ts : Tokens) → Proper ts → b ≡ plain false (put ((front ++ t ∷ []) ++ Mark signs.Minus ∷ []) ts)
    → Leaves b (λ n. (front ++ t ∷ []) ++ figures n) (and_then (number ts) (λ n. give (neg_ℤ n)))
unfolding number has_proper
negative b front t s (Then (Number (pos zero)) at rest) p e = (
  e
      ∙ behind_number ((front ++ t ∷ []) ++ Mark signs.Minus ∷ []) (pos zero) at rest
      ∙ ap (λ us. plain false (put us rest)) (append_assoc (front ++ t ∷ []) (Mark signs.Minus ∷ []) (Number (pos zero) ∷ []))
      ∙ no_nought front t s rest,
  behind_proper (Number (pos zero)) at rest p,
)
negative b front t s (Then (Number (pos (suc n))) at rest) p e = (
  e
      ∙ behind_number ((front ++ t ∷ []) ++ Mark signs.Minus ∷ []) (pos (suc n)) at rest
      ∙ ap (λ us. plain false (put us rest)) (append_assoc (front ++ t ∷ []) (Mark signs.Minus ∷ []) (Number (pos (suc n)) ∷ [])),
  behind_proper (Number (pos (suc n))) at rest p,
)
negative b front t s (Then (Number (negsuc n)) at rest) p e = absurd (cc)
negative b front t s (Then (Word w) at rest) p e = tt
negative b front t s (Then (Mark g) at rest) p e = tt
negative b front t s (End at) p e = tt
negative b front t s (Bad fault at) p e = tt

-- a bound behind what begins one
pub bound_passes : {b : Tokens} (front : List Token) (t : Token) → Bounds t → Passes b (front ++ t ∷ []) int (λ n. (front ++ t ∷ []) ++ figures n)
unfolding int
bound_passes {b = b} front t s =
    passes_either (codes "-") (Mark signs.Minus) (sign_says signs.Minus) (record { law = λ ts p e. negative b front t s ts p e }) (spelt_passes number_spelt)

-- What a rule took is the tokens of its tree: with what it read and the tokens behind that, the tokens where it began are put together again.
use Rattle.std.proofs.Common.{◌≡◌, ℕ, Bool, true, false, List, [], ◌∷◌, ◌++◌, refl, sym, ap, subst, ◌∙◌, arith}
use Rattle.std.specs.Prelude.{Option, Some, None, bytes_eq, nat_le}
use Rattle.std.proofs.lemmas.Slice.Eq.{bytes_eq-Decides}
use Rattle.wsm_tokens.specs.declared.token.Sign.{Sign}
use Rattle.wsm_tokens.specs.Tokens.{Token, Word, Mark, Number, Tokens, Then, sign_text, sign_of}
use Rattle.wsm_tokens.specs.Proper.{is_proper, has_proper}
use Rattle.wsm_tokens.specs.Read.{Read, Rule, Took, Stopped, ◌>>=◌, give, and_then, unexpected, too_deep, begins, begins_number, behind, spelling}
use Rattle.wsm_tokens.specs.Written.{bare, put}
use Rattle.wsm_query.specs.Grammar.{looked_up, either, at}

abbrev pub Proper : Tokens → Type 0
Proper ts = has_proper ts ≡ true

pub put_append : (us vs : List Token) (rest : Tokens) → put (us ++ vs) rest ≡ put us (put vs rest)
put_append [] vs rest = refl
put_append (u ∷ us) vs rest = ap (Then u 0) (put_append us vs rest)

-- the only token that is spelled so
pub record Says (s : List ℕ) (t : Token) : Type 0 where
  pub only : (u : Token) → is_proper u ≡ true → bytes_eq s (spelling u) ≡ true → u ≡ t

same_bytes : (xs ys : List ℕ) → bytes_eq xs ys ≡ true → xs ≡ ys
same_bytes xs ys e = (bytes_eq-Decides xs ys).0 e

abbrev pub is_worded : List ℕ → Bool
is_worded [] = false
is_worded (c ∷ cs) = nat_le 65 c

no_worded_sign : (s : Sign) → is_worded (sign_text s) ≡ false
no_worded_sign s = grind arith

sign_back : (s : Sign) → sign_of (sign_text s) ≡ Some s
unfolding sign_of
sign_back s = grind arith

pub differ : {A : Type 0} (b : Bool) → b ≡ true → b ≡ false → A
differ b e f = cc

word_only : (s : List ℕ) → is_worded s ≡ true → (u : Token) → is_proper u ≡ true → bytes_eq s (spelling u) ≡ true → u ≡ Word s
word_only s h (Word w) p e = ap Word (sym (same_bytes s w e))
word_only s h (Mark g) p e =
    let same : s ≡ sign_text g = same_bytes s (sign_text g) e in
    differ (is_worded s) h (ap is_worded same ∙ no_worded_sign g)
word_only s h (Number n) p e =
    let same : s ≡ [] = same_bytes s [] e in
    differ (is_worded s) h (ap is_worded same)

pub word_says : (s : List ℕ) → is_worded s ≡ true → Says s (Word s)
word_says s h = record { only = word_only s h }

sign_only : (g : Sign) (u : Token) → is_proper u ≡ true → bytes_eq (sign_text g) (spelling u) ≡ true → u ≡ Mark g
sign_only g u p e = grind arith

pub sign_says : (g : Sign) → Says (sign_text g) (Mark g)
sign_says g = record { only = sign_only g }

-- the next token is this one
pub record First (t : Token) (ts : Tokens) : Type 0 where
  pub same : bare ts ≡ Then t 0 (bare (behind ts))
  pub proper : Proper (behind ts)
  pub itself : is_proper t ≡ true

pub begun : (s : List ℕ) (t : Token) → Says s t → (ts : Tokens) → Proper ts → begins s ts ≡ true → First t ts
unfolding begins behind bare has_proper
begun s t k ts p e = grind arith

-- what a rule leaves of tokens that began as b
abbrev pub Ends : {A : Type 0} → Tokens → (A → List Token) → Read A → Type 0
Ends b toks (Took x rest) = (b ≡ put (toks x) (bare rest)) × Proper rest
Ends b toks (Stopped f) = Unit {0}

pub record Spelt {A : Type 0} (rule : Rule A) (toks : A → List Token) : Type 0 where
  pub law : (ts : Tokens) → Proper ts → Ends (bare ts) toks (rule ts)

-- a rule that goes on behind the tokens in front
pub record Goes {A : Type 0} (b : Tokens) (front : List Token) (rule : Rule A) (toks : A → List Token) : Type 0 where
  pub law : (ts : Tokens) → Proper ts → b ≡ put front (bare ts) → Ends b toks (rule ts)

-- a rule that takes the last of the tokens in front unseen
pub record Opens {A : Type 0} (b : Tokens) (front : List Token) (rule : Rule A) (toks : A → List Token) : Type 0 where
  pub law : (ts : Tokens) → Proper (behind ts) → b ≡ put front (bare (behind ts)) → Ends b toks (rule ts)

pub spelt : {A : Type 0} {rule : Rule A} {toks : A → List Token} → ((b : Tokens) → Goes b [] rule toks) → Spelt rule toks
spelt g = record { law = λ ts p. (g (bare ts)).law ts p refl }

ends_behind : {A : Type 0} (b : Tokens) (front : List Token) (toks final : A → List Token) (ts : Tokens) (read : Read A) → b ≡ put front (bare ts)
    → ((x : A) → front ++ toks x ≡ final x) → Ends (bare ts) toks read → Ends b final read
ends_behind b front toks final ts (Took x rest) e same h = (e ∙ ap (put front) h.0 ∙ sym (put_append front (toks x) (bare rest)) ∙ ap (λ us. put us (bare rest)) (same x), h.1)
ends_behind b front toks final ts (Stopped f) e same h = tt

-- a last rule behind the tokens in front
pub last_goes : {A : Type 0} {b : Tokens} {front : List Token} {rule : Rule A} {toks final : A → List Token} → Spelt rule toks
    → ((x : A) → front ++ toks x ≡ final x) → Goes b front rule final
last_goes {b = b} {front = front} {rule = rule} {toks = toks} {final = final} s same =
    record { law = λ ts p e. ends_behind b front toks final ts (rule ts) e same (s.law ts p) }

pub goes : {A : Type 0} {b : Tokens} {rule : Rule A} {toks : A → List Token} → Spelt rule toks → Goes b [] rule toks
goes s = last_goes s (λ x. refl)

then_ends : {A B : Type 0} (b : Tokens) (front : List Token) (toks : A → List Token) (final : B → List Token) (ts : Tokens) (read : Read A) (go : A → Rule B)
    → b ≡ put front (bare ts) → ((x : A) → Goes b (front ++ toks x) (go x) final) → Ends (bare ts) toks read → Ends b final (and_then read go)
then_ends b front toks final ts (Took x rest) go e k h = (k x).law rest h.1 (e ∙ ap (put front) h.0 ∙ sym (put_append front (toks x) (bare rest)))
then_ends b front toks final ts (Stopped f) go e k h = tt

pub step : {A B : Type 0} {b : Tokens} {front : List Token} {rule : Rule A} {go : A → Rule B} {toks : A → List Token} {final : B → List Token}
    → Spelt rule toks → ((x : A) → Goes b (front ++ toks x) (go x) final) → Goes b front (rule >>= go) final
step {b = b} {front = front} {rule = rule} {go = go} {toks = toks} {final = final} s k =
    record { law = λ ts p e. then_ends b front toks final ts (rule ts) go e k (s.law ts p) }

pub done : {A : Type 0} {b : Tokens} {front : List Token} {final : A → List Token} (x : A) → front ≡ final x → Goes b front (give x) final
done x same = record { law = λ ts p e. (e ∙ ap (λ us. put us (bare ts)) same, p) }

-- a rule that reads as another does
pub alike_goes : {A : Type 0} {b : Tokens} {front : List Token} {rule : Rule A} {final : A → List Token} (other : Rule A) → ((ts : Tokens) → rule ts ≡ other ts)
    → Goes b front other final → Goes b front rule final
alike_goes {b = b} {final = final} other same g = record { law = λ ts p e. subst (λ r. Ends b final r) (sym (same ts)) (g.law ts p e) }

pub moved : {A : Type 0} {b : Tokens} {front : List Token} {rule : Rule A} {final : A → List Token} (other : List Token) → front ≡ other → Goes b other rule final → Goes b front rule final
moved other same g = record { law = λ ts p e. g.law ts p (e ∙ ap (λ us. put us (bare ts)) same) }

pub behind_opens : {A : Type 0} {b : Tokens} {front : List Token} {rule : Rule A} {final : A → List Token} → Goes b front rule final → Opens b front (λ ts. rule (behind ts)) final
behind_opens g = record { law = λ ts p e. g.law (behind ts) p e }

pub deep_opens : {A : Type 0} {b : Tokens} {front : List Token} {final : A → List Token} → Opens b front (λ ts. Stopped (too_deep ts)) final
deep_opens = record { law = λ ts p e. tt }

pub lost_goes : {A : Type 0} {b : Tokens} {front : List Token} {final : A → List Token} → Goes b front (λ ts. Stopped (unexpected ts)) final
lost_goes = record { law = λ ts p e. tt }

first_behind : (b : Tokens) (front : List Token) (t : Token) (ts : Tokens) → b ≡ put front (bare ts) → First t ts → b ≡ put (front ++ t ∷ []) (bare (behind ts))
first_behind b front t ts e f = e ∙ ap (put front) f.same ∙ sym (put_append front (t ∷ []) (bare (behind ts)))

at_ends : {A : Type 0} (b : Tokens) (front : List Token) (final : A → List Token) (first second : Rule A) (s : List ℕ) (t : Token) → Says s t
    → Opens b (front ++ t ∷ []) first final → Goes b front second final → (ts : Tokens) → Proper ts → b ≡ put front (bare ts)
    → (c : Bool) → begins s ts ≡ c → Ends b final (elim c [ true ↦ first ts | false ↦ second ts ])
at_ends b front final first second s t k f g ts p e true h =
    let n = begun s t k ts p h in
    f.law ts n.proper (first_behind b front t ts e n)
at_ends b front final first second s t k f g ts p e false h = g.law ts p e

pub at_goes : {A : Type 0} {b : Tokens} {front : List Token} {final : A → List Token} (s : List ℕ) (t : Token) → Says s t → {first second : Rule A}
    → Opens b (front ++ t ∷ []) first final → Goes b front second final → Goes b front (at s first second) final
at_goes {b = b} {front = front} {final = final} s t k {first = first} {second = second} f g =
    record { law = λ ts p e. at_ends b front final first second s t k f g ts p e (begins s ts) refl }

pub either_goes : {A : Type 0} {b : Tokens} {front : List Token} {final : A → List Token} (s : List ℕ) (t : Token) → Says s t → {first second : Rule A}
    → Goes b (front ++ t ∷ []) first final → Goes b front second final → Goes b front (either s first second) final
either_goes s t k {first = first} {second = second} f g = at_goes s t k {first = λ ts. first (behind ts)} {second = second} (behind_opens f) g

pub numbered_goes : {A : Type 0} {b : Tokens} {front : List Token} {final : A → List Token} {first second : Rule A}
    → Goes b front first final → Goes b front second final → Goes b front (λ ts. elim (begins_number ts) [ true ↦ first ts | false ↦ second ts ]) final
numbered_goes {b = b} {final = final} {first = first} {second = second} f g =
    record { law = λ ts p e. elim (begins_number ts) as (λ c. Ends b final (elim c [ true ↦ first ts | false ↦ second ts ])) [ true ↦ f.law ts p e | false ↦ g.law ts p e ] }

-- an entry of a table: the one token that it is found by, and what that means
pub record Entry {A : Type 0} (means : Token → A → Type 0) (p : List ℕ × A) : Type 0 where
  pub token : Token
  pub says : Says p.0 token
  pub meaning : means token p.1

abbrev pub Entries : {A : Type 0} → (Token → A → Type 0) → List (List ℕ × A) → Type 0
Entries means [] = Unit {0}
Entries means (p ∷ ps) = Entry means p × Entries means ps

pub record Found {A : Type 0} (means : Token → A → Type 0) (ts : Tokens) (x : A) : Type 0 where
  pub token : Token
  pub first : First token ts
  pub meaning : means token x

abbrev pub Looked : {A : Type 0} → (Token → A → Type 0) → Tokens → Option A → Type 0
Looked means ts (Some x) = Found means ts x
Looked means ts None = Unit {0}

looked_case : {A : Type 0} (means : Token → A → Type 0) (p : List ℕ × A) → Entry means p → (ts : Tokens) → Proper ts → (o : Option A) → Looked means ts o
    → (c : Bool) → begins p.0 ts ≡ c → Looked means ts (elim c [ true ↦ Some p.1 | false ↦ o ])
looked_case means p n ts q o l true h = record { token = n.token; first = begun p.0 n.token n.says ts q h; meaning = n.meaning }
looked_case means p n ts q o l false h = l

pub looked : {A : Type 0} (means : Token → A → Type 0) (table : List (List ℕ × A)) → Entries means table → (ts : Tokens) → Proper ts → Looked means ts (looked_up table ts)
looked means [] n ts q = tt
looked means (p ∷ ps) n ts q = looked_case means p n.0 ts q (looked_up ps ts) (looked means ps n.1 ts q) (begins p.0 ts) refl

listed_ends : {A B : Type 0} (means : Token → A → Type 0) (b : Tokens) (front : List Token) (final : B → List Token) (found : A → Rule B) (second : Rule B)
    → ((x : A) (t : Token) → means t x → Opens b (front ++ t ∷ []) (found x) final) → Goes b front second final → (ts : Tokens) → Proper ts → b ≡ put front (bare ts)
    → (o : Option A) → Looked means ts o → Ends b final (elim o [ Some x ↦ found x ts | None ↦ second ts ])
listed_ends means b front final found second f g ts p e (Some x) l = (f x l.token l.meaning).law ts l.first.proper (first_behind b front l.token ts e l.first)
listed_ends means b front final found second f g ts p e None l = g.law ts p e

pub listed_goes : {A B : Type 0} (means : Token → A → Type 0) {b : Tokens} {front : List Token} {final : B → List Token} (table : List (List ℕ × A)) → Entries means table
    → {found : A → Rule B} {second : Rule B} → ((x : A) (t : Token) → means t x → Opens b (front ++ t ∷ []) (found x) final) → Goes b front second final
    → Goes b front (λ ts. elim (looked_up table ts) [ Some x ↦ found x ts | None ↦ second ts ]) final
listed_goes means {b = b} {front = front} {final = final} table n {found = found} {second = second} f g =
    record { law = λ ts p e. listed_ends means b front final found second f g ts p e (looked_up table ts) (looked means table n ts p) }

-- What holds of whatever a grammar rule takes.
use Rattle.std.proofs.Common.{◌≡◌, ℕ, zero, suc, Bool, true, false, List, [], ◌∷◌, refl}
use Rattle.std.specs.List.{AllByRecursion}
use Rattle.wsm_record.specs.Name.{is_name}
use Rattle.wsm_tokens.specs.Tokens.{Word, Tokens, Then}
use Rattle.wsm_tokens.specs.Read.{Read, Rule, Took, Stopped, ◌>>=◌, give, and_then, begins, behind, count, ask, name}
use Rattle.wsm_query.specs.Grammar.{either, after, until, turns, brace, list_of}

abbrev pub Sound : {A : Type 0} → (A → Type 0) → Read A → Type 0
Sound P (Took x rest) = P x
Sound P (Stopped f) = Unit {0}

pub record Gives {A : Type 0} (P : A → Type 0) (rule : Rule A) : Type 0 where
  pub law : (ts : Tokens) → Sound P (rule ts)

abbrev pub Anything : {A : Type 0} → A → Type 0
Anything x = Unit {0}

-- ---- rules put together

pub gives : {A : Type 0} (P : A → Type 0) (x : A) → P x → Gives P (give x)
gives P x h = record { law = λ ts. h }

pub anything : {A : Type 0} (rule : Rule A) → Gives Anything rule
anything {A} rule = record { law = λ ts. by_read (rule ts) }
  where
    by_read : (r : Read A) → Sound Anything r
    by_read (Took x rest) = tt
    by_read (Stopped f) = tt

pub goes_on : {A B : Type 0} {P : A → Type 0} {Q : B → Type 0} {rule : Rule A} {go : A → Rule B} → Gives P rule → ((x : A) → P x → Gives Q (go x)) → Gives Q (rule >>= go)
goes_on {A} {B} {P} {Q} {rule} {go} r g = record { law = λ ts. by_read (rule ts) (r.law ts) }
  where
    by_read : (r : Read A) → Sound P r → Sound Q (and_then r go)
    by_read (Took x rest) h = (g x h).law rest
    by_read (Stopped f) h = tt

pub eithers : {A : Type 0} {P : A → Type 0} {first second : Rule A} (s : List ℕ) → Gives P first → Gives P second → Gives P (either s first second)
eithers {A} {P} {first} {second} s f g = record { law = λ ts. by_test (begins s ts) ts }
  where
    by_test : (b : Bool) (ts : Tokens) → Sound P (elim b as (λ x. Read A) [ true ↦ first (behind ts) | false ↦ second ts ])
    by_test true ts = f.law (behind ts)
    by_test false ts = g.law ts

pub afters : {A : Type 0} {P : A → Type 0} {rule : Rule A} (s : List ℕ) → Gives P rule → Gives P (after s rule)
afters s r = goes_on (anything (ask s)) (λ _ _. r)

pub untils : {A : Type 0} {P : A → Type 0} {rule : Rule A} (s : List ℕ) → Gives P rule → Gives P (until s rule)
untils {A} {P} s r = goes_on r (λ x h. goes_on (anything (ask s)) (λ _ _. gives P x h))

turns_are : {A : Type 0} {P : A → Type 0} {rule : Rule A} (n : ℕ) (s : List ℕ) → Gives P rule → Gives (AllByRecursion P) (turns n s rule)
turns_are {A} {P} zero s r = gives (AllByRecursion P) [] tt
turns_are {A} {P} (suc n) s r = eithers s (goes_on r (λ x h. goes_on (turns_are n s r) (λ xs l. gives (AllByRecursion P) (x ∷ xs) (h, l)))) (gives (AllByRecursion P) [] tt)

pub braces : {A : Type 0} {P : A → Type 0} {rule : Rule A} (s : List ℕ) → Gives P rule → Gives (AllByRecursion P) (brace s rule)
unfolding brace
braces s r = record { law = λ ts. (turns_are (count ts) s r).law ts }

pub lists : {A : Type 0} {P : A → Type 0} {rule : Rule A} → Gives P rule → Gives (AllByRecursion P) (list_of rule)
unfolding list_of
lists {A} {P} r = goes_on r (λ x h. goes_on (braces _ r) (λ xs l. gives (AllByRecursion P) (x ∷ xs) (h, l)))

abbrev pub IsName : List ℕ → Type 0
IsName x = is_name x ≡ true

pub names_are : Gives IsName name
unfolding name
names_are = record { law = by_token }
  where
    by_test : (b : Bool) (w : List ℕ) (f : _) (rest : Tokens) → is_name w ≡ b → Sound IsName (elim b as (λ x. Read (List ℕ)) [ true ↦ Took w rest | false ↦ Stopped f ])
    by_test true w f rest e = e
    by_test false w f rest e = tt

    by_token : (ts : Tokens) → Sound IsName (name ts)
    by_token (Then (Word w) at rest) = by_test (is_name w) w _ rest refl
    by_token ts = tt

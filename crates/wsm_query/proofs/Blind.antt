-- A rule looks at no place of a token: it reads the same of tokens whose places are all 0.
use Rattle.std.proofs.Common.{◌≡◌, ℕ, zero, suc, Bool, true, false, List, [], ◌∷◌, refl, sym, ap, ap₂, subst, ◌∙◌, arith}
use Rattle.std.specs.Prelude.{Option, Some, None}
use Rattle.wsm_tokens.specs.declared.fault.TextFault.{TextFault}
use Rattle.wsm_tokens.specs.Tokens.{Tokens, Then, End, Bad, Word, Mark, Number}
use Rattle.wsm_tokens.specs.Read.{Read, Rule, Took, Stopped, ◌>>=◌, give, and_then, unexpected, too_deep, begins, begins_number, behind, count, ask, number, name, is_end, ended}
use Rattle.wsm_tokens.specs.Written.{bare}
use Rattle.wsm_query.specs.Grammar.{looked_up, one_of, either, after, until, optional, turns, brace, list_of, Deeper, opened, at}

abbrev pub bare_fault : TextFault → TextFault
bare_fault f = record f { offset = 0 }

abbrev pub bare_read : {A : Type 0} → Read A → Read A
bare_read (Took x rest) = Took x (bare rest)
bare_read (Stopped f) = Stopped (bare_fault f)

pub record Blind {A : Type 0} (rule : Rule A) : Type 0 where
  pub law : (ts : Tokens) → rule (bare ts) ≡ bare_read (rule ts)

unexpected_bare : (ts : Tokens) → unexpected (bare ts) ≡ bare_fault (unexpected ts)
unfolding unexpected bare
unexpected_bare ts = grind arith

too_deep_bare : (ts : Tokens) → too_deep (bare ts) ≡ bare_fault (too_deep ts)
unfolding too_deep bare
too_deep_bare ts = grind arith

pub begins_bare : (s : List ℕ) (ts : Tokens) → begins s (bare ts) ≡ begins s ts
unfolding begins bare
begins_bare s ts = grind arith

begins_number_bare : (ts : Tokens) → begins_number (bare ts) ≡ begins_number ts
unfolding begins_number bare
begins_number_bare ts = grind arith

is_end_bare : (ts : Tokens) → is_end (bare ts) ≡ is_end ts
unfolding is_end bare
is_end_bare ts = grind arith

behind_bare : (ts : Tokens) → behind (bare ts) ≡ bare (behind ts)
unfolding behind bare
behind_bare ts = grind arith

count_bare : (ts : Tokens) → count (bare ts) ≡ count ts
unfolding count bare
count_bare (Then t at rest) = ap suc (count_bare rest)
count_bare ts = refl

looked_up_bare : {A : Type 0} (table : List (List ℕ × A)) (ts : Tokens) → looked_up table (bare ts) ≡ looked_up table ts
looked_up_bare [] ts = refl
looked_up_bare (p ∷ ps) ts = ap₂ (λ b o. elim b [ true ↦ Some p.1 | false ↦ o ]) (begins_bare p.0 ts) (looked_up_bare ps ts)

pub give_blind : {A : Type 0} (x : A) → Blind (give x)
give_blind x = record { law = λ ts. refl }

then_blind : {A B : Type 0} (read : Read A) (go : A → Rule B) → ((x : A) → Blind (go x)) → and_then (bare_read read) go ≡ bare_read (and_then read go)
then_blind read go k = grind arith

pub bind_blind : {A B : Type 0} {rule : Rule A} {go : A → Rule B} → Blind rule → ((x : A) → Blind (go x)) → Blind (rule >>= go)
bind_blind {rule = rule} {go = go} r k = record { law = λ ts. rw (r.law ts) (then_blind (rule ts) go k) }

-- a rule behind the next token
pub behind_blind : {A : Type 0} {rule : Rule A} → Blind rule → Blind (λ ts. rule (behind ts))
behind_blind r = record { law = λ ts. rw (behind_bare ts) (r.law (behind ts)) }

pub deep_blind : {A : Type 0} → Blind {A = A} (λ ts. Stopped (too_deep ts))
deep_blind = record { law = λ ts. rw (too_deep_bare ts) refl }

pub lost_blind : {A : Type 0} → Blind {A = A} (λ ts. Stopped (unexpected ts))
lost_blind = record { law = λ ts. rw (unexpected_bare ts) refl }

by_same_test : {A : Type 0} (b : Bool) (first second : Rule A) → Blind first → Blind second → (ts : Tokens)
    → elim b [ true ↦ first (bare ts) | false ↦ second (bare ts) ] ≡ bare_read (elim b [ true ↦ first ts | false ↦ second ts ])
by_same_test b first second f g ts = grind arith

by_test : {A : Type 0} (c b : Bool) → c ≡ b → (first second : Rule A) → Blind first → Blind second → (ts : Tokens)
    → elim c [ true ↦ first (bare ts) | false ↦ second (bare ts) ] ≡ bare_read (elim b [ true ↦ first ts | false ↦ second ts ])
by_test c b e first second f g ts =
    subst (λ d. elim d [ true ↦ first (bare ts) | false ↦ second (bare ts) ] ≡ bare_read (elim b [ true ↦ first ts | false ↦ second ts ])) (sym e)
    (by_same_test b first second f g ts)

pub at_blind : {A : Type 0} (s : List ℕ) {first second : Rule A} → Blind first → Blind second → Blind (at s first second)
at_blind s {first = first} {second = second} f g = record { law = λ ts. by_test (begins s (bare ts)) (begins s ts) (begins_bare s ts) first second f g ts }

pub either_blind : {A : Type 0} (s : List ℕ) {first second : Rule A} → Blind first → Blind second → Blind (either s first second)
either_blind s {first = first} {second = second} f g = at_blind s {first = λ ts. first (behind ts)} {second = second} (behind_blind f) g

pub numbered_blind : {A : Type 0} {first second : Rule A} → Blind first → Blind second
    → Blind (λ ts. elim (begins_number ts) [ true ↦ first ts | false ↦ second ts ])
numbered_blind {first = first} {second = second} f g = record { law = λ ts. by_test (begins_number (bare ts)) (begins_number ts) (begins_number_bare ts) first second f g ts }

by_same_entry : {A B : Type 0} (o : Option A) (found : A → Rule B) (second : Rule B) → ((x : A) → Blind (found x)) → Blind second → (ts : Tokens)
    → elim o [ Some x ↦ found x (bare ts) | None ↦ second (bare ts) ] ≡ bare_read (elim o [ Some x ↦ found x ts | None ↦ second ts ])
by_same_entry o found second f g ts = grind arith

by_entry : {A B : Type 0} (p o : Option A) → p ≡ o → (found : A → Rule B) (second : Rule B) → ((x : A) → Blind (found x)) → Blind second → (ts : Tokens)
    → elim p [ Some x ↦ found x (bare ts) | None ↦ second (bare ts) ] ≡ bare_read (elim o [ Some x ↦ found x ts | None ↦ second ts ])
by_entry p o e found second f g ts =
    subst (λ q. elim q [ Some x ↦ found x (bare ts) | None ↦ second (bare ts) ] ≡ bare_read (elim o [ Some x ↦ found x ts | None ↦ second ts ])) (sym e)
    (by_same_entry o found second f g ts)

pub listed_blind : {A B : Type 0} (table : List (List ℕ × A)) {found : A → Rule B} {second : Rule B} → ((x : A) → Blind (found x)) → Blind second
    → Blind (λ ts. elim (looked_up table ts) [ Some x ↦ found x ts | None ↦ second ts ])
listed_blind table {found = found} {second = second} f g =
    record { law = λ ts. by_entry (looked_up table (bare ts)) (looked_up table ts) (looked_up_bare table ts) found second f g ts }

pub one_of_blind : {A : Type 0} (table : List (List ℕ × A)) → Blind (one_of table)
one_of_blind table = listed_blind table {found = λ x ts. Took x (behind ts)} {second = λ ts. Stopped (unexpected ts)} (λ x. behind_blind (give_blind x)) lost_blind

pub ask_blind : (s : List ℕ) → Blind (ask s)
unfolding ask
ask_blind s = at_blind s {first = λ ts. Took tt (behind ts)} {second = λ ts. Stopped (unexpected ts)} (behind_blind (give_blind tt)) lost_blind

pub ended_blind : Blind ended
unfolding ended
ended_blind = record { law = λ ts. by_test (is_end (bare ts)) (is_end ts) (is_end_bare ts) (λ us. Took tt us) (λ us. Stopped (unexpected us)) (give_blind tt) lost_blind ts }

pub number_blind : Blind number
unfolding number bare unexpected
number_blind = record {
  law = λ ts. elim ts as (λ ts. number (bare ts) ≡ bare_read (number ts)) [
    | Then (Number n) at rest ↦ refl
    | Then (Word w) at rest ↦ refl
    | Then (Mark s) at rest ↦ refl
    | End at ↦ refl
    | Bad f at ↦ refl
  ];
}

name_read : (ts : Tokens) → name (bare ts) ≡ bare_read (name ts)
unfolding name bare unexpected
name_read ts = grind arith

pub name_blind : Blind name
name_blind = record { law = name_read }

pub after_blind : {A : Type 0} (s : List ℕ) {rule : Rule A} → Blind rule → Blind (after s rule)
after_blind s r = bind_blind (ask_blind s) (λ x. r)

pub until_blind : {A : Type 0} (s : List ℕ) {rule : Rule A} → Blind rule → Blind (until s rule)
until_blind s r = bind_blind r (λ x. bind_blind (ask_blind s) (λ y. give_blind x))

pub optional_blind : {A : Type 0} (s : List ℕ) {rule : Rule A} → Blind rule → Blind (optional s rule)
optional_blind s r = either_blind s (bind_blind r (λ x. give_blind (Some x))) (give_blind None)

turns_blind : {A : Type 0} (n : ℕ) (s : List ℕ) {rule : Rule A} → Blind rule → Blind (turns n s rule)
turns_blind zero s r = give_blind []
turns_blind (suc n) s r = either_blind s (bind_blind r (λ x. bind_blind (turns_blind n s r) (λ xs. give_blind (x ∷ xs)))) (give_blind [])

pub brace_blind : {A : Type 0} (s : List ℕ) {rule : Rule A} → Blind rule → Blind (brace s rule)
unfolding brace
brace_blind s {rule = rule} r = record { law = λ ts. ap (λ n. turns n s rule (bare ts)) (count_bare ts) ∙ (turns_blind (count ts) s r).law ts }

pub list_of_blind : {A : Type 0} {rule : Rule A} → Blind rule → Blind (list_of rule)
unfolding list_of
list_of_blind r = bind_blind r (λ x. bind_blind (brace_blind _ r) (λ xs. give_blind (x ∷ xs)))

-- the rules one level deeper
pub record BlindAt (d : Deeper) : Type 0 where
  pub expr : Blind d.expr
  pub neg : Blind d.neg
  pub unary : Blind d.unary

abbrev pub BlindIn : Option Deeper → Type 0
BlindIn None = Unit {0}
BlindIn (Some d) = BlindAt d

pub opened_blind : {B : Type 0} (d : Option Deeper) → BlindIn d → {go : Deeper → Rule B} → ((e : Deeper) → BlindAt e → Blind (go e)) → Blind (opened d >>= go)
opened_blind None k g = deep_blind
opened_blind (Some e) k g = behind_blind (g e k)

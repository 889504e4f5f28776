-- A query that was read from tokens is read from its own tokens again.
use Rattle.std.proofs.Common.{◌≡◌, Bool, true, false, List, [], ◌∷◌, refl, sym, ap, subst, ◌∙◌, arith}
use Rattle.std.specs.Prelude.{codes}
use Rattle.std.specs.List.{flat_map}
use Rattle.std.specs.Cmp.Derive.{both_true}
use Rattle.std.proofs.lemmas.Bool.{and_parts}
use Rattle.wsm_tokens.specs.Tokens.{Token, Word, Tokens, Then, End}
use Rattle.wsm_tokens.specs.Proper.{is_proper, are_proper, has_proper}
use Rattle.wsm_tokens.specs.Read.{Read, Rule, Took, Stopped, ◌>>=◌, give, and_then, unexpected, begins, behind, number, is_end, ask, ended}
use Rattle.wsm_tokens.specs.Written.{bare, put}
use Rattle.wsm_record.specs.Schema.{DeclaredField}
use Rattle.wsm_query.specs.Tree.{Name, Query}
use Rattle.wsm_query.specs.Grammar.{clause, until, brace, sources, clock, names, field, query}
use Rattle.wsm_query.specs.Parse.{query_text}
use Rattle.wsm_query.specs.Print.{name_tokens, clause_tokens, field_tokens, query_tokens}
use Rattle.wsm_query.proofs.Blind.{bare_read}
use Rattle.wsm_query.proofs.Spelt.{Proper, put_append, word_says, First, begun, Ends}
use Rattle.wsm_query.proofs.Back.{Again, Backs, AllAgain, AllBack, more_proper, brace_back, brace_again}
use Rattle.wsm_query.proofs.BackRules.{keys_back, field_body, field_back}
use Rattle.wsm_query.proofs.Tail.{behind_sources, behind_fields, tail_blind, head_tokens, tail_goes}

bare_proper : (ts : Tokens) → Proper ts → Proper (bare ts)
unfolding bare has_proper
bare_proper (Then t at rest) p = let q = and_parts (is_proper t) (has_proper rest) p in both_true q.0 (bare_proper rest q.1)
bare_proper ts p = refl

put_proper : (us : List Token) (k : Tokens) → are_proper us ≡ true → Proper k → Proper (put us k)
unfolding has_proper
put_proper [] k p q = q
put_proper (u ∷ us) k p q = let r = and_parts (is_proper u) (are_proper us) p in both_true r.0 (put_proper us k r.1 q)

proper_front : (us : List Token) (k : Tokens) → Proper (put us k) → are_proper us ≡ true
unfolding has_proper
proper_front [] k p = refl
proper_front (u ∷ us) k p = let q = and_parts (is_proper u) (has_proper (put us k)) p in both_true q.0 (proper_front us k q.1)

-- the first word of what was taken
start_case : {A B C : Type 0} (go : Unit {0} → Rule A) (next : A → Rule B) (last : B → Rule C) (x : C) (rest ts : Tokens) → Proper ts → (c : Bool) → begins (codes "START") ts ≡ c
    → and_then (and_then (and_then (elim c [ true ↦ Took tt (behind ts) | false ↦ Stopped (unexpected ts) ]) go) next) last ≡ Took x rest → First (Word (codes "START")) ts
start_case go next last x rest ts p true h e = begun (codes "START") (Word (codes "START")) (word_says _ refl) ts p h
start_case go next last x rest ts p false h e = cc

starts : {A B C : Type 0} (go : Unit {0} → Rule A) (next : A → Rule B) (last : B → Rule C) (x : C) (rest ts : Tokens) → Proper ts
    → and_then (and_then (and_then (ask (codes "START") ts) go) next) last ≡ Took x rest → First (Word (codes "START")) ts
unfolding ask
starts go next last x rest ts p e = start_case go next last x rest ts p (begins (codes "START") ts) refl e

no_field_at_start : (ts : Tokens) → First (Word (codes "START")) ts → begins (codes "FIELD") (bare ts) ≡ false
unfolding begins
no_field_at_start ts f = ap (begins (codes "FIELD")) f.same

no_field_at_sources : (ts : Tokens) → First (Word (codes "SOURCES")) ts → begins (codes "FIELD") (bare ts) ≡ false
unfolding begins
no_field_at_sources ts f = ap (begins (codes "FIELD")) f.same

clock_starts : (keys : List Name) (fields : List DeclaredField) (named : List Name) (ts : Tokens) → Proper ts → (q : Query) (rest : Tokens) → behind_sources keys fields named ts ≡ Took q rest
    → First (Word (codes "START")) ts
unfolding clock
clock_starts keys fields named ts p q rest e = starts (λ _. until (codes ";") number) _ _ q rest ts p e

-- what was taken behind the fields begins with SOURCES or with START
sources_case : (keys : List Name) (fields : List DeclaredField) (ts : Tokens) → Proper ts → (q : Query) (rest : Tokens) → (c : Bool) → begins (codes "SOURCES") ts ≡ c
    → and_then (elim c [ true ↦ until (codes ";") names (behind ts) | false ↦ Took [] ts ]) (behind_sources keys fields) ≡ Took q rest → begins (codes "FIELD") (bare ts) ≡ false
sources_case keys fields ts p q rest true h e = no_field_at_sources ts (begun (codes "SOURCES") (Word (codes "SOURCES")) (word_says _ refl) ts p h)
sources_case keys fields ts p q rest false h e = no_field_at_start ts (clock_starts keys fields [] ts p q rest e)

no_field : (keys : List Name) (fields : List DeclaredField) (ts : Tokens) → Proper ts → (q : Query) (rest : Tokens) → behind_fields keys fields ts ≡ Took q rest
    → begins (codes "FIELD") (bare ts) ≡ false
unfolding sources
no_field keys fields ts p q rest e = sources_case keys fields ts p q rest (begins (codes "SOURCES") ts) refl e

pub record Round (q : Query) (rest : Tokens) : Type 0 where
  pub again : query (put (query_tokens q) (bare rest)) ≡ Took q (bare rest)
  pub proper : are_proper (query_tokens q) ≡ true

abbrev Rounds : Read Query → Type 0
Rounds (Took q rest) = Round q rest
Rounds (Stopped f) = Unit {0}

abbrev keys_tokens : List Name → List Token
keys_tokens keys = clause_tokens (codes "KEYS") (name_tokens keys)

query_head : (keys : List Name) (fields : List DeclaredField) (k : Tokens) → Again (clause (codes "KEYS") names) keys_tokens keys → AllAgain field field_body fields
    → begins (codes "FIELD") k ≡ false → query (put (head_tokens keys fields) k) ≡ behind_fields keys fields k
unfolding query
query_head keys fields k a l none =
    let us = flat_map field_tokens fields in
    ap query (put_append (keys_tokens keys) us k)
    ∙ ap (λ r. and_then r (λ keys. brace (codes "FIELD") field >>= λ fields. behind_fields keys fields)) (a (put us k))
    ∙ ap (λ r. and_then r (λ fields. behind_fields keys fields)) (brace_again (codes "FIELD") field field_body (Word (codes "FIELD")) refl fields l k none)

tail_rounds : (keys : List Name) (fields : List DeclaredField) (mid : Tokens) → Again (clause (codes "KEYS") names) keys_tokens keys → AllAgain field field_body fields
    → are_proper (head_tokens keys fields) ≡ true → Proper mid → (read : Read Query) → behind_fields keys fields mid ≡ read
    → Ends (put (head_tokens keys fields) (bare mid)) query_tokens read → Rounds read
tail_rounds keys fields mid a l hp p (Took q rest) e h =
    let none = no_field keys fields mid p q rest e in
    record {
      again = ap query (sym h.0) ∙ query_head keys fields (bare mid) a l none ∙ (tail_blind keys fields).law mid ∙ ap bare_read e;
      proper = proper_front (query_tokens q) (bare rest) (subst (λ ts. Proper ts) h.0 (put_proper (head_tokens keys fields) (bare mid) hp (bare_proper mid p)));
    }
tail_rounds keys fields mid a l hp p (Stopped f) e h = tt

fields_rounds : (keys : List Name) → Again (clause (codes "KEYS") names) keys_tokens keys → are_proper (keys_tokens keys) ≡ true
    → (read : Read (List DeclaredField)) → AllBack field field_body (Word (codes "FIELD")) read → Rounds (and_then read (λ fields. behind_fields keys fields))
fields_rounds keys a kp (Took fields mid) l =
    tail_rounds keys fields mid a l.all (more_proper (keys_tokens keys) (flat_map field_tokens fields) kp l.proper) l.rest_proper (behind_fields keys fields mid) refl
    ((tail_goes {b = put (head_tokens keys fields) (bare mid)} keys fields).law mid l.rest_proper refl)
fields_rounds keys a kp (Stopped f) l = tt

keys_rounds : (read : Read (List Name)) → Backs (clause (codes "KEYS") names) keys_tokens read
    → Rounds (and_then read (λ keys. brace (codes "FIELD") field >>= λ fields. behind_fields keys fields))
keys_rounds (Took keys mid) b =
    fields_rounds keys b.again b.proper (brace (codes "FIELD") field mid)
    (brace_back (codes "FIELD") field field_body (Word (codes "FIELD")) (word_says _ refl) field_back mid b.rest_proper)
keys_rounds (Stopped f) b = tt

query_rounds : (ts : Tokens) → Proper ts → Rounds (query ts)
unfolding query
query_rounds ts p = keys_rounds (clause (codes "KEYS") names ts) (keys_back.law ts p)

end_bare : (rest : Tokens) → is_end rest ≡ true → bare rest ≡ End 0
unfolding is_end bare
end_bare rest e = grind arith

-- all of the tokens of the query are read as that query, and a text can have them
pub record Whole (q : Query) : Type 0 where
  pub again : query_text (put (query_tokens q) (End 0)) ≡ Took q (End 0)
  pub proper : are_proper (query_tokens q) ≡ true

whole : (q : Query) (rest : Tokens) → Round q rest → is_end rest ≡ true → Whole q
unfolding query_text ended is_end
whole q rest r e =
    let again : query (put (query_tokens q) (End 0)) ≡ Took q (End 0) = subst (λ k. query (put (query_tokens q) k) ≡ Took q k) (end_bare rest e) r.again in
    record { again = ap (λ r. and_then r (λ q. ended >>= λ _. give q)) again; proper = r.proper }

end_case : (given : Query) (mid : Tokens) → Round given mid → (q : Query) (rest : Tokens) → (c : Bool) → is_end mid ≡ c
    → and_then (elim c [ true ↦ Took tt mid | false ↦ Stopped (unexpected mid) ]) (λ (u : Unit {0}). give given) ≡ Took q rest → Whole q
end_case given mid r q rest true h e = let same : given ≡ q = cc in subst (λ q. Whole q) same (whole given mid r h)
end_case given mid r q rest false h e = cc

text_case : (read : Read Query) → Rounds read → (q : Query) (rest : Tokens) → and_then read (λ q. ended >>= λ _. give q) ≡ Took q rest → Whole q
unfolding ended
text_case (Took given mid) r q rest e = end_case given mid r q rest (is_end mid) refl e
text_case (Stopped f) r q rest e = cc

pub text_again : (ts : Tokens) → Proper ts → (q : Query) (rest : Tokens) → query_text ts ≡ Took q rest → Whole q
unfolding query_text
text_again ts p q rest e = text_case (query ts) (query_rounds ts p) q rest e

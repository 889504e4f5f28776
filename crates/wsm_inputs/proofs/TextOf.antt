-- A text that is read says the query that it is read as.
use Rattle.std.proofs.Common.{◌≡◌, ℕ, Bool, true, false, List, Ok, refl, sym, ap, subst, ◌∙◌, arith}
use Rattle.wsm_tokens.specs.Tokens.{Tokens, End, tokens}
use Rattle.wsm_tokens.specs.Read.{Read, Took, Stopped, ◌>>=◌, give, and_then, unexpected, is_end, ended}
use Rattle.wsm_tokens.specs.Written.{bare, put}
use Rattle.wsm_tokens.proofs.Proper.{tokens_are_proper}
use Rattle.wsm_query.specs.Tree.{Query}
use Rattle.wsm_query.specs.Grammar.{query}
use Rattle.wsm_query.specs.Parse.{query_text, outcome, parse}
use Rattle.wsm_query.specs.Print.{query_tokens}
use Rattle.wsm_query.proofs.Spelt.{Proper}
use Rattle.wsm_inputs.specs.TextOf.{plain, are_told, IsTextOf}
use Rattle.wsm_inputs.proofs.PlainTokens.{Leaves, plain_put_bare}
use Rattle.wsm_inputs.proofs.PlainFields.{query_passes}
use Rattle.wsm_inputs.proofs.Told.{told_query}

-- what is behind a whole query
end_bare : (rest : Tokens) → is_end rest ≡ true → bare rest ≡ End 0
unfolding is_end bare
end_bare rest e = grind arith

to_the_end : (b : Tokens) (q : Query) (rest : Tokens) → is_end rest ≡ true → b ≡ plain false (put (query_tokens q) rest) → b ≡ plain false (put (query_tokens q) (End 0))
to_the_end b q rest h e = e ∙ sym (plain_put_bare false (query_tokens q) rest) ∙ ap (λ ts. plain false (put (query_tokens q) ts)) (end_bare rest h)

record Says (b : Tokens) (q : Query) : Type 0 where
  tokens : b ≡ plain false (put (query_tokens q) (End 0))
  told : are_told q ≡ true

end_case : (b : Tokens) (given : Query) (mid : Tokens) → b ≡ plain false (put (query_tokens given) mid) → are_told given ≡ true → (q : Query) (rest : Tokens) → (c : Bool) → is_end mid ≡ c
    → and_then (elim c [ true ↦ Took tt mid | false ↦ Stopped (unexpected mid) ]) (λ (u : Unit {0}). give given) ≡ Took q rest → Says b q
end_case b given mid l g q rest true h e =
    let same : given ≡ q = cc in
    subst (Says b) same (record { tokens = to_the_end b given mid h l; told = g })
end_case b given mid l g q rest false h e = cc

text_case : (b : Tokens) (read : Read Query) → Leaves b query_tokens read → ((x : Query) (mid : Tokens) → read ≡ Took x mid → are_told x ≡ true) → (q : Query) (rest : Tokens)
    → and_then read (λ q. ended >>= λ _. give q) ≡ Took q rest → Says b q
unfolding ended
text_case b (Took given mid) l g q rest e = end_case b given mid l.0 (g given mid refl) q rest (is_end mid) refl e
text_case b (Stopped f) l g q rest e = cc

said : (ts : Tokens) → Proper ts → (q : Query) (rest : Tokens) → query_text ts ≡ Took q rest → Says (plain false ts) q
unfolding query_text
said ts p q rest e = text_case (plain false ts) (query ts) (query_passes.law ts p refl) (λ x mid is. told_query ts p x mid is) q rest e

pub parsed_is_text : (text : List ℕ) (q : Query) → parse text ≡ Ok q → IsTextOf text q
unfolding parse
parsed_is_text text q h = by_read (query_text (tokens text)) refl h
  where
    by_read : (r : Read Query) → query_text (tokens text) ≡ r → outcome text r ≡ Ok q → IsTextOf text q
    by_read (Took x rest) is e =
        let same : x ≡ q = cc in
        let s = said (tokens text) (tokens_are_proper text) x rest is in
        subst (IsTextOf text) same (record { tokens = s.tokens; told = s.told })
    by_read (Stopped f) is e = cc

-- A query that a text was read as is read again from the text that it is printed as.
use Rattle.std.proofs.Common.{◌≡◌, ℕ, List, sym, ap, subst, ◌∙◌, arith}
use Rattle.std.specs.Prelude.{Ok, codes}
use Rattle.wsm_tokens.specs.Tokens.{Tokens, End, tokens}
use Rattle.wsm_tokens.specs.Read.{Read, Took}
use Rattle.wsm_tokens.specs.Written.{written}
use Rattle.wsm_tokens.proofs.Proper.{tokens_are_proper}
use Rattle.wsm_tokens.proofs.ReadBack.{read_back}
use Rattle.wsm_query.specs.Tree.{Query}
use Rattle.wsm_query.specs.Grammar.{query}
use Rattle.wsm_query.specs.Parse.{query_text, outcome, parse}
use Rattle.wsm_query.specs.Print.{query_tokens, print}
use Rattle.wsm_query.proofs.Blind.{Blind, bare_read, give_blind, bind_blind, brace_blind, ended_blind}
use Rattle.wsm_query.proofs.BlindRules.{names_blind, clause_blind, field_blind}
use Rattle.wsm_query.proofs.Spelt.{Proper}
use Rattle.wsm_query.proofs.Tail.{tail_blind}
use Rattle.wsm_query.proofs.QueryAgain.{Whole, text_again}

query_blind : Blind query
unfolding query
query_blind = bind_blind (clause_blind (codes "KEYS") names_blind) (λ keys. bind_blind (brace_blind (codes "FIELD") field_blind) (λ fields. tail_blind keys fields))

text_blind : Blind query_text
unfolding query_text
text_blind = bind_blind query_blind (λ q. bind_blind ended_blind (λ _. give_blind q))

-- where the reading is of these tokens but for their places, its outcome is the query
outcome_of : (text : List ℕ) (read : Read Query) (q : Query) (k : Tokens) → bare_read read ≡ Took q k → outcome text read ≡ Ok q
outcome_of text read q k e = grind arith

printed : (q : Query) → Whole q → parse (print q) ≡ Ok q
unfolding parse print
printed q w =
    let text = written (query_tokens q) in
    outcome_of text (query_text (tokens text)) q (End 0)
    (sym (text_blind.law (tokens text)) ∙ ap query_text (read_back (query_tokens q) w.proper) ∙ w.again)

-- a query that was read whole from the tokens of a text
pub printed_again : (text : List ℕ) (ts : Tokens) (q : Query) (rest : Tokens) → ts ≡ tokens text → query_text ts ≡ Took q rest → parse (print q) ≡ Ok q
printed_again text ts q rest same e = printed q (text_again ts (subst (λ us. Proper us) (sym same) (tokens_are_proper text)) q rest e)

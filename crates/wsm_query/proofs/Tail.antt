-- What a query has behind its fields.
use Rattle.std.proofs.Common.{◌≡◌, List, ◌++◌, append_assoc}
use Rattle.std.specs.Prelude.{codes}
use Rattle.std.specs.List.{flat_map}
use Rattle.wsm_tokens.specs.Tokens.{Token, Tokens}
use Rattle.wsm_tokens.specs.Read.{Rule, ◌>>=◌, give}
use Rattle.wsm_record.specs.Schema.{DeclaredField}
use Rattle.wsm_query.specs.Tree.{Name, Query}
use Rattle.wsm_query.specs.Grammar.{optional, sources, budget, clock, selection, output}
use Rattle.wsm_query.specs.Print.{name_tokens, clause_tokens, field_tokens, query_tokens}
use Rattle.wsm_query.proofs.Blind.{Blind, give_blind, bind_blind, optional_blind}
use Rattle.wsm_query.proofs.BlindRules.{sources_blind, budget_blind, clock_blind, selection_blind, output_blind}
use Rattle.wsm_query.proofs.Spelt.{Goes, step, done}
use Rattle.wsm_query.proofs.SpeltClauses.{sources_spelt, budget_spelt, clock_spelt, selection_spelt, output_spelt}

abbrev pub behind_sources : List Name → List DeclaredField → List Name → Rule Query
behind_sources keys fields sources = do
  clock ← clock
  budget ← optional (codes "BUDGET") budget
  selection ← selection
  output ← output
  give (record {
    keys = keys;
    fields = fields;
    sources = sources;
    clock = clock;
    budget = budget;
    columns = selection.columns;
    condition = selection.condition;
    having = selection.having;
    output = output;
  })

abbrev pub behind_fields : List Name → List DeclaredField → Rule Query
behind_fields keys fields = do
  sources ← sources
  behind_sources keys fields sources

pub tail_blind : (keys : List Name) (fields : List DeclaredField) → Blind (behind_fields keys fields)
tail_blind keys fields =
    bind_blind sources_blind (λ sources.
    bind_blind clock_blind (λ clock.
    bind_blind (optional_blind (codes "BUDGET") budget_blind) (λ budget.
    bind_blind selection_blind (λ selection.
    bind_blind output_blind (λ output. give_blind _)))))

-- the tokens of the keys and the fields
abbrev pub head_tokens : List Name → List DeclaredField → List Token
head_tokens keys fields = clause_tokens (codes "KEYS") (name_tokens keys) ++ flat_map field_tokens fields

-- the clauses of what is selected, one by one
apart : (h o k b c w v x : List Token) → h ++ o ++ k ++ b ++ (c ++ w ++ v) ++ x ≡ h ++ o ++ k ++ b ++ c ++ w ++ v ++ x
apart h o k b c w v x = simp append_assoc

pub tail_goes : {b : Tokens} (keys : List Name) (fields : List DeclaredField) → Goes b (head_tokens keys fields) (behind_fields keys fields) query_tokens
tail_goes keys fields =
    step sources_spelt (λ sources.
    step clock_spelt (λ clock.
    step budget_spelt (λ budget.
    step selection_spelt (λ selection.
    step output_spelt (λ output.
    done
    (record {
      keys = keys;
      fields = fields;
      sources = sources;
      clock = clock;
      budget = budget;
      columns = selection.columns;
      condition = selection.condition;
      having = selection.having;
      output = output;
    })
    (search apart))))))

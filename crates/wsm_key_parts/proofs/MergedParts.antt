-- What the parts of a history by keys write on a turn is merged into what the whole writes. What each part runs where no key is
-- gone by is one query.
use Rattle.std.proofs.Common.{◌≡◌, ◌⊎◌, inl, inr, ℕ, ℤ, List, length, Some, sym, ap, ◌∙◌, arith}
use Rattle.std.specs.Prelude.{flat_map}
use Rattle.wsm_record.specs.declared.words.Form.TheVariants.{Panes}
use Rattle.wsm_record.specs.Event.{Event}
use Rattle.wsm_semantics.specs.declared.out_row.OutRow.{OutRow}
use Rattle.wsm_semantics.specs.declared.out_row.OutRow.TheVariants.{Pane, Retract, Istream, Dstream, Rstream}
use Rattle.wsm_semantics.specs.Query.{Query}
use Rattle.wsm_semantics.specs.Relation.{turn_rows}
use Rattle.wsm_semantics.specs.ByKey.{Keys, IgnoresTurns, EachOnce}
use Rattle.wsm_semantics.specs.ByNumber.{Numbers}
use Rattle.wsm_semantics.proofs.Lists.{all-each}
use Rattle.wsm_semantics.proofs.KeyRows.{rows_by_key}
use Rattle.wsm_key_parts.specs.Merged.{rank, in_order, MergesParts}
use Rattle.wsm_key_parts.specs.Parts.{IgnoresKeys, number_in, over, query_in}
use Rattle.wsm_key_parts.proofs.Merged.{merged_is, still, IsOfOne}
use Rattle.wsm_key_parts.proofs.TurnOrder.{turn_in_order, each_of_panes}

of_one : (parts : List Keys) → EachOnce parts → (r : OutRow) → (rank r ≡ 0) ⊎ (rank r ≡ 1) → IsOfOne (λ (keys : Keys). keys) parts r
of_one parts once (Pane kind key window columns) h = once (Some key)
of_one parts once (Retract key window columns) h = once (Some key)
of_one parts once (Istream mark columns) (inl h) = absurd (omega (arith, h))
of_one parts once (Istream mark columns) (inr h) = absurd (omega (arith, h))
of_one parts once (Dstream mark columns) (inl h) = absurd (omega (arith, h))
of_one parts once (Dstream mark columns) (inr h) = absurd (omega (arith, h))
of_one parts once (Rstream mark columns) (inl h) = absurd (omega (arith, h))
of_one parts once (Rstream mark columns) (inr h) = absurd (omega (arith, h))

pub merges_parts : (q : Query) → IgnoresTurns q → q.form ≡ Panes → (parts : List Keys) → EachOnce parts → MergesParts q parts
merges_parts q ignores form parts once past e room =
    ap in_order (ap (λ (rows : Keys → List OutRow). flat_map rows parts) (λ i keys. sym (rows_by_key q ignores form keys past e room) i))
    ∙ merged_is (λ (keys : Keys). keys) parts (turn_rows q past e) (turn_in_order q past e form)
    (all-each (λ r. (rank r ≡ 0) ⊎ (rank r ≡ 1)) (IsOfOne (λ (keys : Keys). keys) parts) (turn_rows q past e) (of_one parts once) (each_of_panes q past e form))

pub stays_in_order : (q : Query) → q.form ≡ Panes → (past : List Event) (e : Event) → in_order (turn_rows q past e) ≡ turn_rows q past e
stays_in_order q form past e = still (turn_rows q past e) (turn_in_order q past e form)

-- the query of each part
pub one_query : (places : List (List ℕ)) (records : ℤ) (q : Query) → IgnoresKeys q → (part : ℕ) → query_in places records q part ≡ over places records q
one_query places records q ignores part =
    let number : Numbers = number_in (length places) (length q.declared.keys) part in
    λ i. record (over places records q) { selects = λ key values. ignores.selects (number key) key values i; row = λ key ds. ignores.row number (number key) key ds i }

-- Columns that add up: what a record comes to in one that is COUNT(*) or a SUM. So the laws of amounts and of the invoice
-- (`amounts_add_up` and `invoice` of `wsm_semantics`) speak of a query's text.
use Rattle.std.specs.Prelude.{◌≡◌, ℕ, true, List, [], ◌∷◌, ℤ, pos, Option, Some, None, Ok, option_map, refl, slice_get}
use Rattle.wsm_record.specs.declared.event.Value.{Value}
use Rattle.wsm_record.specs.declared.event.Value.TheVariants as value
use Rattle.wsm_record.specs.declared.words.Kind.TheVariants.{Sum, Max}
use Rattle.wsm_record.specs.declared.words.Mode.TheVariants.{Discarding}
use Rattle.wsm_fold.specs.Fold.{number_of}
use Rattle.wsm_interval.specs.declared.Comparison.TheVariants.{Gt}
use Rattle.wsm_semantics.specs.Amounts.{Amount, AddsAmounts, AmountsAddUp}
use Rattle.wsm_semantics.specs.Invoice.{Invoices}
use Rattle.wsm_machine.specs.Meaning.{query_of}
use Rattle.wsm_query.specs.declared.expr.Op.TheVariants.{Compare}
use Rattle.wsm_query.specs.Parse.{parse}
use Rattle.wsm_query.specs.Tree.{Query, Expr, Number, Count, Aggregate, Binary, If, Brackets}
use Rattle.wsm_check.specs.Checks.{IsChecked}
use Rattle.wsm_compiler.specs.Accepted.{states_enough}
use Rattle.wsm_compiler.specs.Meaning.{meaning, on_record}
use Rattle.wsm_compiler.specs.Program.{program_of}
use Rattle.wsm_compiler.specs.Ranges.{ranges_fit}
use Rattle.wsm_compiler.specs.SameMeaning.{IsAccepted}
use Rattle.wsm_compiler.specs.Vectors.{base, n}

-- the number of a value; none comes to nothing
abbrev pub number_in : Option Value → ℤ
number_in None = pos 0
number_in (Some v) = number_of v

-- what a record comes to in a column that is a count or a sum, in brackets or not: one, or what the sum is taken of
abbrev pub amount_by : Query → Expr → Option Amount
amount_by q Count = Some (λ key values. pos 1)
amount_by q (Aggregate Sum e) = Some (λ key values. number_in (meaning q (on_record key values) e))
amount_by q (Brackets e) = amount_by q e
amount_by q e = None

-- a column of a query that has this amount of each record
pub record IsAmount (q : Query) (c : ℕ) (amount : Amount) : Type 0 where
  pub column : Expr
  pub stands : slice_get q.columns c ≡ Some column
  pub is : amount_by q column ≡ Some amount

-- without HAVING it adds up by the program, however panes show what they showed
abbrev pub ColumnsAddUp : Query → Type 0
ColumnsAddUp q = IsAccepted q → q.having ≡ None → (c : ℕ) (amount : Amount) → IsAmount q c amount → AddsAmounts (query_of (program_of q)) c amount

-- so where a text's panes discard what they showed, what is written comes to what the records do, and to the invoice
pub record TextAddsUp (q : Query) (c : ℕ) (amount : Amount) : Type 0 where
  pub amounts : AmountsAddUp (query_of (program_of q)) c amount
  pub invoice : Invoices (query_of (program_of q)) c amount

abbrev pub TextsAddUp : List ℕ → Query → Type 0
TextsAddUp text q = parse text ≡ Ok q → IsChecked q → ranges_fit q ≡ true → states_enough (program_of q) ≡ true → q.output.mode ≡ Discarding → q.having ≡ None →
    (c : ℕ) (amount : Amount) → IsAmount q c amount → TextAddsUp q c amount

-- ---- worked

abbrev comes_to : Expr → List Value → Option ℤ
comes_to e values = option_map (λ amount. amount 0 values) (amount_by base e)

-- SUM(IF n > 5 THEN n ELSE 0 END)
abbrev above_five : Expr
above_five = Aggregate Sum (If (Binary (Compare Gt) n (Number (pos 5))) n (Number (pos 0)))

a_record_counts_once : comes_to (Brackets Count) (value.Int (pos 7) ∷ []) ≡ Some (pos 1)
a_record_counts_once = refl

a_sum_has_its_number : comes_to above_five (value.Int (pos 7) ∷ []) ≡ Some (pos 7)
a_sum_has_its_number = refl

or_none_of_it : comes_to above_five (value.Int (pos 3) ∷ []) ≡ Some (pos 0)
or_none_of_it = refl

-- neither a greatest value adds up, nor what is made of a count
a_greatest_value_is_none : comes_to (Aggregate Max n) (value.Int (pos 7) ∷ []) ≡ None
a_greatest_value_is_none = refl

a_chosen_count_is_none : comes_to (If (Binary (Compare Gt) Count (Number (pos 5))) Count (Number (pos 0))) (value.Int (pos 7) ∷ []) ≡ None
a_chosen_count_is_none = refl

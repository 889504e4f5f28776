use Rattle.std.proofs.Common.{ℕ, List, [], Option}
use Rattle.wsm_csv.specs.Rows.{Follows, turns_left}
use Rattle.wsm_deal.specs.Parts.{Befores, EachHas, NoneFailed, bytes_of, hands_of}
use Rattle.wsm_deal.proofs.dealing.deal_rows.Given as goal

-- these rows were read, and dealt, and each device works
abbrev pub invariant-loop-text : goal.invariant-loop-text
invariant-loop-text g l = record {
  dealt : (known : Option (List ℕ)) (olds : Befores) → Follows (bytes_of g.R.Read.remaining) known [] l.fn.rows → EachHas g.D.Device.taken olds (hands_of l.shares []) l.fn.parts
      → (cells : List (List (List ℕ))) × Follows (bytes_of g.R.Read.remaining) known cells l.rows × EachHas g.D.Device.taken olds (hands_of l.shares cells) l.parts;
  works : NoneFailed g.D.Device.has_failed l.parts;
}

abbrev pub decreases-loop-text : goal.decreases-loop-text
decreases-loop-text g l = turns_left l.rows

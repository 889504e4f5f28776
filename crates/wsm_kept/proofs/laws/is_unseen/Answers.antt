use Rattle.std.proofs.Common.{[]}
use Rattle.wsm_semantics.specs.Query.{Query}
use Rattle.wsm_machine.specs.Meaning.{query_of}
use Rattle.wsm_kept.specs.Unseen.{cut_cells}
use Rattle.wsm_kept.proofs.Back.{read_behind, written_behind}
use Rattle.wsm_kept.proofs.Unseen.{goes_behind, none_stay, same_counts, same_own}
use Rattle.wsm_kept.proofs.laws.is_unseen.Goals as goal

pub returns : goal.returns
returns c = λ p whole sum most old past.
    let q : Query = query_of p in
    record {
      read = record {
        written = written_behind q sum old past most;
        bytes = read_behind q sum old past most;
      };
      goes_on = λ records. goes_behind q records past (cut_cells q sum old past) (c.goes_on.ensures p whole records past _);
      kept = same_counts q sum old past;
      own = λ records. same_own q records _ _ (λ r. none_stay q r (c.goes_on.ensures p whole r [] []));
    }

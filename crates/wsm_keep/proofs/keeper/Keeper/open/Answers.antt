use Rattle.std.proofs.Common.{[], SFits, w64, to_z-of_z, refl, sym, subst, ◌∙◌}
use Rattle.wsm_keep.specs.Holds.{Holds}
use Rattle.wsm_keep.proofs.Queues.{holds_none}
use Rattle.wsm_keep.proofs.Cuts.{none_stay}
use Rattle.wsm_keep.proofs.keeper.Keeper.open.Goals as goal

pub returns-clause-fits : goal.returns-clause-fits
returns-clause-fits c = λ q lawful shape lateness form start.
    let late : SFits w64 c.args.lateness = c.ranges.lateness in
    let first : SFits w64 c.args.start = c.ranges.start in
    record {
      of = record { shape = shape; lateness = to_z-of_z late ∙ lateness; form = form };
      queues = record {
        newer = [];
        older = [];
        split = refl;
        since = c.new-2.ensures;
        holds = subst (Holds q []) (sym c.new.ensures) (holds_none q lawful.shape);
        before = to_z-of_z first ∙ start;
        stays = none_stay q q.form;
        alone = λ _. c.new-2.ensures;
      };
    }

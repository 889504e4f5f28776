use Rattle.wsm_keyed_told.proofs.ByNames.{fits_any}
use Rattle.std.proofs.Common.{[]}
use Rattle.wsm_keyed_told.proofs.told.KeyedTold.keep.Goals as goal

pub returns-clause-serves : goal.returns-clause-serves
returns-clause-serves c = λ p serves. record {
  lawful = serves.lawful;
  panes = serves.panes;
  parts = serves.parts;
  staying = λ all named. c.open.ensures p all (fits_any p c.args.self.now.names c.args.self.now.parts [] serves.parts all named);
}

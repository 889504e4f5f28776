use Rattle.std.proofs.Common.{List, ℕ, refl, rules, subst}
use Rattle.std.proofs.lemmas.Result.{err_from_is_err_and}
use Rattle.std.specs.Io.KnownBytes.{Appends}
use Rattle.wsm_csv.specs.Device.{TakesPart}
use Rattle.wsm_deal.proofs.PartTexts.{Has-broken, Has-handed}
use Rattle.wsm_deal.proofs.part.Part.hand_on.Goals as goal

pub returns-in_err-write_out-clause-gives : goal.returns-in_err-write_out-clause-gives
returns-in_err-write_out-clause-gives g c =
    let e = err_from_is_err_and c.from_residual.result c.from_residual.ensures.1 in
    let mid = g.D.Device.taken c.args.self.now.out in
    let new = g.D.Device.taken c.write_out.new.device in
    let part = subst (λ (t : List ℕ). TakesPart mid new t) c.deref.ensures.value c.in_err-write_out.ensures.part in
    rw (e.1, e.2) (record {
      gives = λ before rows has. tt;
      part = λ before rows has. Has-broken g.D.Device.taken before rows c.args.self.now new has part;
      works = tt;
      fails = c.in_err-write_out.ensures.fails;
    })

pub returns-clause-gives : goal.returns-clause-gives
returns-clause-gives g c =
    let mid = g.D.Device.taken c.args.self.now.out in
    let new = g.D.Device.taken c.write_out.new.device in
    let all = subst (λ (t : List ℕ). Appends mid new t) c.deref.ensures.value c.in_ok-write_out.ensures.all in
    record {
      gives = λ before rows has. Has-handed g.D.Device.taken before rows c.args.self.now _ has all c.clear.ensures.items refl;
      part = λ before rows has. tt;
      works = c.in_ok-write_out.ensures.works;
      fails = tt;
    }

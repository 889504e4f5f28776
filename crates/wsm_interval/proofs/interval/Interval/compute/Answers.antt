use Rattle.std.proofs.Common.{◌≡◌, ℤ, Option, sym, subst}
use Rattle.std.specs.Prelude.{IfSome}
use Rattle.wsm_interval.specs.declared.arithmetic.Arithmetic.{Arithmetic}
use Rattle.wsm_interval.specs.declared.interval.Interval.{Interval}
use Rattle.wsm_interval.specs.Arithmetic.{result_of}
use Rattle.wsm_interval.specs.Interval.{Holds}
use Rattle.wsm_interval.proofs.interval.Interval.compute.Goals as goal

named : (a b : Arithmetic) (o : Option Interval) (m n : ℤ) → a ≡ b → IfSome o (λ z. Holds z (result_of b m n)) → IfSome o (λ z. Holds z (result_of a m n))
named a b o m n e h = subst (λ x. IfSome o (λ z. Holds z (result_of x m n))) (sym e) h

pub returns-in-Add-clause-results : goal.returns-in-Add-clause-results
returns-in-Add-clause-results c m n h k = named _ _ c.add.result m n c.in-Add.is (c.add.ensures.sums m n h k)

pub returns-in-Sub-clause-results : goal.returns-in-Sub-clause-results
returns-in-Sub-clause-results c m n h k = named _ _ c.sub.result m n c.in-Sub.is (c.sub.ensures.differences m n h k)

pub returns-in-Mul-clause-results : goal.returns-in-Mul-clause-results
returns-in-Mul-clause-results c m n h k = named _ _ c.mul.result m n c.in-Mul.is (c.mul.ensures.products m n h k)

pub returns-in-Div-clause-results : goal.returns-in-Div-clause-results
returns-in-Div-clause-results c m n h k = named _ _ c.div.result m n c.in-Div.is (c.div.ensures.quotients m n h k)

pub returns-in-Rem-clause-results : goal.returns-in-Rem-clause-results
returns-in-Rem-clause-results c m n h k = named _ _ c.rem.result m n c.in-Rem.is (c.rem.ensures.remainders m n h k)

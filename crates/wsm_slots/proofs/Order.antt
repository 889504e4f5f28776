-- Places and other keys in their order.
use Rattle.std.proofs.Common.{◌≡◌, Bool, ap, true, false, T, refl}
use Rattle.std.specs.Prelude.{◌&&◌, nat_eq}
use Rattle.std.specs.Bool.{Decides}
use Rattle.std.specs.Ordering.{int_eq, is_lt}
use Rattle.std.proofs.lemmas.Bool.Decides.{Decides-int_eq, Decides-eqb, Decides-and, Decides-like}
use Rattle.wsm_windows.specs.declared.place.Place.{Place}
use Rattle.std.specs.declared.cmp.Ordering.{Ordering}
use Rattle.std.specs.declared.cmp.Ordering.TheVariants.{Less, Equal, Greater}

-- the test whether two places are one
abbrev pub eq_place : Place → Place → Bool
eq_place p q = int_eq p.end q.end && (int_eq p.start q.start && nat_eq p.key q.key)

pub Decides-eq_place : (p q : Place) → Decides (eq_place p q) (p ≡ q)
Decides-eq_place p q =
    Decides-like (eq_place p q)
    (λ h i. record { end = h.0 i; start = h.1.0 i; key = h.1.1 i })
    (λ same. (ap (λ x. x.end) same, (ap (λ x. x.start) same, ap (λ x. x.key) same)))
    (Decides-and _ _ (Decides-int_eq p.end q.end) (Decides-and _ _ (Decides-int_eq p.start q.start) (Decides-eqb p.key q.key)))

pub lesser : (r : Ordering) → T (is_lt r) → r ≡ Less
lesser Less t = refl
lesser Equal t = absurd t
lesser Greater t = absurd t

pub first_of_and : (a b : Bool) → T (a && b) → T a
first_of_and true b t = tt
first_of_and false b t = absurd t

pub second_of_and : (a b : Bool) → T (a && b) → T b
second_of_and true b t = t
second_of_and false b t = absurd t

pub to_T : (b : Bool) → b ≡ true → T b
to_T b e = rw e tt

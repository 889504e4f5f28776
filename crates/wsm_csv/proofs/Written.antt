-- How what a device took joins.
use Rattle.std.proofs.Common.{ℕ, ◌+◌, ◌≤◌, List, [], ◌++◌, subst, length, take, arith, append_assoc, length-append, append-nil, sym, Option, Some, None}
use Rattle.std.proofs.lemmas.List.{take-append-le}
use Rattle.std.proofs.Math.Seq.{take-append-add, take-length}
use Rattle.std.specs.Io.KnownBytes.{Appends, Keeps}
use Rattle.wsm_csv.specs.Device.{TakesPart}

pub Appends-start : (known : Option (List ℕ)) → Appends known known []
Appends-start None = tt
Appends-start (Some a) = sym (append-nil a)

pub Appends-join : (old mid new : Option (List ℕ)) (xs ys : List ℕ) → Appends old mid xs → Appends mid new ys → Appends old new (xs ++ ys)
Appends-join None mid new xs ys h k = tt
Appends-join (Some a) None new xs ys h k = absurd h
Appends-join (Some a) (Some b) None xs ys h k = absurd k
Appends-join (Some a) (Some b) (Some c) xs ys h k = rw (k, h) (append_assoc a xs ys)

pub Keeps-Appends : (old mid new : Option (List ℕ)) (xs : List ℕ) → Appends old mid xs → Keeps mid new → Appends old new xs
Keeps-Appends None mid new xs h k = tt
Keeps-Appends (Some a) None new xs h k = absurd h
Keeps-Appends (Some a) (Some b) None xs h k = absurd k
Keeps-Appends (Some a) (Some b) (Some c) xs h k = rw k h

-- a part of what comes next is a part of the whole, whatever follows
pub TakesPart-join : (old mid new : Option (List ℕ)) (xs ys zs : List ℕ) → Appends old mid xs → TakesPart mid new ys → TakesPart old new (xs ++ (ys ++ zs))
TakesPart-join old mid new xs ys zs h (n, within, part) =
    let le : n ≤ length ys = within in (
      length xs + n,
      simp (length-append) (omega arith),
      rw (take-append-add xs (ys ++ zs) n, take-append-le n ys zs le) (Appends-join old mid new xs (take n ys) h part),
    )

pub TakesPart-last : (old mid new : Option (List ℕ)) (xs ys : List ℕ) → Appends old mid xs → TakesPart mid new ys → TakesPart old new (xs ++ ys)
TakesPart-last old mid new xs ys h k = subst (λ t. TakesPart old new (xs ++ t)) (append-nil ys) (TakesPart-join old mid new xs ys [] h k)

-- the whole is a beginning of itself
pub TakesPart-all : (old new : Option (List ℕ)) (xs : List ℕ) → Appends old new xs → TakesPart old new xs
TakesPart-all old new xs h = (length xs, omega arith, rw (take-length xs) h)

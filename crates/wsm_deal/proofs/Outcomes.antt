-- What holds however a call ended.
use Rattle.std.proofs.Common.{IfErr, Result, Ok, Err, OnOk, OnErr}

pub on_err : {T E : Type 0} {P : Type 0} (r : Result T E) → P → OnErr r P
on_err (Ok v) p = tt
on_err (Err e) p = p

pub on_ok : {T E : Type 0} {P : Type 0} (r : Result T E) → P → OnOk r P
on_ok (Ok v) p = p
on_ok (Err e) p = tt

pub on_ok_map : {T E : Type 0} {P Q : Type 0} (r : Result T E) → (P → Q) → OnOk r P → OnOk r Q
on_ok_map (Ok v) f p = f p
on_ok_map (Err e) f p = tt

pub on_err_map : {T E : Type 0} {P Q : Type 0} (r : Result T E) → (P → Q) → OnErr r P → OnErr r Q
on_err_map (Ok v) f p = tt
on_err_map (Err e) f p = f p

pub if_err : {T E : Type 0} {P : Type 0} (r : Result T E) → P → IfErr r (λ _. P)
if_err (Ok v) p = tt
if_err (Err e) p = p

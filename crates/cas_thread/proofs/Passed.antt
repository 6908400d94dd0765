-- What is said of a result, passed on.
use Rattle.std.proofs.Common.{Result, Ok, Err}
use Rattle.std.specs.Prelude.{IfOk, OnErr}

pub ok_so : {X E : Type 0} (o : Result X E) (P Q : X → Type 0) → ((x : X) → P x → Q x) → IfOk o P → IfOk o Q
ok_so (Ok x) P Q so is = so x is
ok_so (Err e) P Q so is = tt

pub err_so : {X E : Type 0} (o : Result X E) (P Q : Type 0) → (P → Q) → OnErr o P → OnErr o Q
err_so (Ok x) P Q so is = tt
err_so (Err e) P Q so is = so is

pub on_err : {X E : Type 0} (o : Result X E) (P : Type 0) → P → OnErr o P
on_err (Ok x) P is = tt
on_err (Err e) P is = is

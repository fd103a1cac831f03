-- From what one variant says to another fact.
use Rattle.std.specs.Prelude.{Result, Ok, Err, OnOk, OnErr}

pub on_ok : {X E : Type 0} (P Q : Type 0) (r : Result X E) → OnOk r P → (P → Q) → OnOk r Q
on_ok P Q (Ok x) h f = f h
on_ok P Q (Err e) h f = tt

pub on_err : {X E : Type 0} (P Q : Type 0) (r : Result X E) → OnErr r P → (P → Q) → OnErr r Q
on_err P Q (Ok x) h f = tt
on_err P Q (Err e) h f = f h

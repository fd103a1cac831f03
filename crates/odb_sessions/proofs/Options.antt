-- What holds of a value that may be absent.
use Rattle.std.proofs.Common.{None, Option, Some}
use Rattle.std.specs.Prelude.{IfSome}

pub if_some_weaker : {A : Type 0} (o : Option A) (P Q : A → Type 0) → ((a : A) → P a → Q a) → IfSome o P → IfSome o Q
if_some_weaker None P Q f h = tt
if_some_weaker (Some a) P Q f h = f a h

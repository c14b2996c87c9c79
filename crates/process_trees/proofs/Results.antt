-- What holds of a result where it is an answer.
use Rattle.std.proofs.Common.{Result, Ok, Err, IfOk}

pub if_ok : {A E : Type 0} {P Q : A → Type 0} (r : Result A E) → IfOk r P → ((x : A) → P x → Q x) → IfOk r Q
if_ok (Ok x) h f = f x h
if_ok (Err e) h f = tt

-- What follows of an answer that may be an error.
use Rattle.std.proofs.Common.{Result, Ok, Err, IfOk}

pub if-ok : {A E : Type 0} {P Q : A → Type 0} (r : Result A E) → IfOk r P → ((x : A) → P x → Q x) → IfOk r Q
if-ok (Ok x) p f = f x p
if-ok (Err e) p f = tt

-- What follows of a value that a call answers.
use Rattle.std.proofs.Common.{Result, Ok, Err, IfOk}

pub ok_map : {T E : Type 0} (P Q : T → Type 0) → ((x : T) → P x → Q x) → (r : Result T E) → IfOk r P → IfOk r Q
ok_map P Q f (Ok x) h = f x h
ok_map P Q f (Err e) h = tt

-- A call that changed no known byte, and one more call.
use Rattle.std.specs.Prelude.{ℕ, List, Option, Some, None, Result, Ok, Err, refl}
use Rattle.std.proofs.Common.{◌∙◌, subst}
use Rattle.std.specs.Io.KnownBytes.{Keeps, ReadConsumes, WriteAppends}

pub keeps_all : (known : Option (List ℕ)) → Keeps known known
keeps_all None = tt
keeps_all (Some xs) = refl

pub keeps_more : (old mid new : Option (List ℕ)) → Keeps old mid → Keeps mid new → Keeps old new
keeps_more None mid new k h = tt
keeps_more (Some xs) None new k h = absurd k
keeps_more (Some xs) (Some ys) None k h = absurd h
keeps_more (Some xs) (Some ys) (Some zs) k h = h ∙ k

pub then_read : {E : Type 0} (old mid new : Option (List ℕ)) (r : Result ℕ E) (buf : List ℕ) → Keeps old mid → ReadConsumes mid new r buf → ReadConsumes old new r buf
then_read None mid new (Ok n) buf k h = (tt, h.1)
then_read None mid new (Err e) buf k h = tt
then_read (Some xs) None new r buf k h = absurd k
then_read (Some xs) (Some ys) new r buf k h = subst (λ zs. ReadConsumes (Some zs) new r buf) k h

pub then_write : {E : Type 0} (old mid new : Option (List ℕ)) (r : Result ℕ E) (bytes : List ℕ) → Keeps old mid → WriteAppends mid new r bytes → WriteAppends old new r bytes
then_write None mid new (Ok n) bytes k h = tt
then_write None mid new (Err e) bytes k h = tt
then_write (Some xs) None new r bytes k h = absurd k
then_write (Some xs) (Some ys) new r bytes k h = subst (λ zs. WriteAppends (Some zs) new r bytes) k h

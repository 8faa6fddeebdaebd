-- Why nothing is made of a text, at a `?` behind which a part of the program refuses it.
use Rattle.std.proofs.Common.{inl, inr, sym, subst}
use Rattle.std.specs.Prelude.{◌≢◌, Result, Ok, Err, IfErr}
use Rattle.std.specs.Result.{IsErrAnd}
use Rattle.serve_faults.specs.declared.status.Fault.{Fault}
use Rattle.serve_reading.specs.declared.load_error.LoadError.{LoadError}
use Rattle.serve_reading.specs.declared.load_error.LoadError.TheVariants.{Refused, NoMemory}
use Rattle.serve_reading.specs.Reasons.{IsNamedAs}

-- what holds where memory runs out, and of the fault of a broken rule, holds of what is made of the
-- refusal
named_as : {E : Type 0} (none : E) (name : E → Fault) (P : LoadError → Type 0) (e : E) (u : LoadError) → IsNamedAs none name e u → P NoMemory → (e ≢ none → P (Refused (name e))) → P u
named_as none name P e u (inl h) out broken = subst P (sym h.1) out
named_as none name P e u (inr h) out broken = subst P (sym h.1) (broken h.0)

pub exit_named : {T E : Type 0} (none : E) (name : E → Fault) (P : LoadError → Type 0) (e : E) (r : Result T LoadError) → IsErrAnd r (IsNamedAs none name e) → P NoMemory → (e ≢ none → P (Refused (name e))) → IfErr r P
exit_named none name P e (Ok x) a out broken = absurd a
exit_named none name P e (Err u) a out broken = named_as none name P e u a out broken

-- A hall as it is opened, and what a caller is at once it has asked for the next ticket. Only this
-- crate's own functions cite it.
use Rattle.std.specs.Prelude.{◌≡◌, ℕ, ◌<◌, List, [], Option, Some, None, length, slice_get}
use Rattle.session_journal.specs.Script.{Meaning}
use Rattle.session_hall.specs.declared.caller.Caller.{Caller}
use Rattle.session_hall.specs.declared.hall.Hall.{Hall}
use Rattle.session_hall.specs.declared.stage.Stage.TheVariants.{Out, Serving}
use Rattle.session_hall.specs.Callers.{entries_of, foresight_of}
use Rattle.session_hall.specs.Closings.{Opens}
use Rattle.session_hall.specs.Names.{script_of}

-- it serves the ticket, which has done nothing yet and declares what it declares at its beginning
pub record IsFresh {S : Type 0} (m : Meaning) (c : Caller S) (t : ℕ) : Type 0 where
  pub stage : c.stage ≡ Serving t
  pub within : t < m.requests
  pub fresh : entries_of c t ≡ []
  pub entry : foresight_of c ≡ m.entry t

-- it serves the ticket that it got, or is out
abbrev pub GoesOn : {S : Type 0} → Meaning → Caller S → Option ℕ → Type 0
GoesOn m c (Some t) = IsFresh m c t
GoesOn m c None = c.stage ≡ Out

-- a hall over a script as it is opened, with so many callers
pub record HasCallers {S : Type 0} (meaning : S → Meaning) (n : ℕ) (s : S) (h : Hall S)
    (cs : List (Caller S)) : Type 0 where
  pub script : script_of h ≡ s
  pub count : length cs ≡ n
  pub callers_are : h.sizes.callers ≡ n
  pub opens : (i : ℕ) (c : Caller S) → slice_get cs i ≡ Some c → Opens meaning h i c

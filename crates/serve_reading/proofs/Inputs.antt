-- Session files: their parts, and why one isn't read.
use Rattle.std.proofs.Common.{◌≡◌, ℕ, List, ap, ◌∙◌, subst}
use Rattle.request_files.specs.Divide.{Divides}
use Rattle.serve_faults.specs.declared.status.Fault.TheVariants as fault
use Rattle.serve_faults.specs.Input.{Parts, parts_by, parts_of}
use Rattle.serve_reading.specs.declared.load_error.LoadError.{LoadError}
use Rattle.serve_reading.specs.declared.load_error.LoadError.TheVariants.{Refused, NoMemory}
use Rattle.serve_reading.specs.Reasons.{IsInputReason, IsSessionReason}
use Rattle.serve_reading.specs.Sessions.{IsSessionInput}

-- the parts of a text are those of its bytes
parts_with : (p q : Parts) → p.handlers ≡ q.handlers → p.tables ≡ q.tables → p.requests ≡ q.requests → p.first_table ≡ q.first_table → p.first ≡ q.first → p ≡ q
parts_with p q a b c d e = λ i. record { handlers = a i; tables = b i; requests = c i; first_table = d i; first = e i }

pub parts_same : (text bytes handlers tables requests : List ℕ) (first_table first : ℕ) → Divides text handlers tables requests first_table first → text ≡ bytes → parts_by handlers tables requests first_table first ≡ parts_of bytes
parts_same text bytes handlers tables requests first_table first d e =
    parts_with (parts_by handlers tables requests first_table first) (parts_of text) d.handlers_are d.tables_are d.requests_are d.first_table_is d.first_is ∙ ap parts_of e

-- ---- reasons
pub session_reason : (input : List ℕ) (parts : Parts) (e : LoadError) → IsSessionInput input → parts ≡ parts_of input → IsSessionReason parts e → IsInputReason input e
session_reason input parts NoMemory i is h = tt
session_reason input parts (Refused (fault.Syntax e)) i is h = (i, subst (λ (p : Parts). IsSessionReason p (Refused (fault.Syntax e))) is h)
session_reason input parts (Refused (fault.Check e)) i is h = (i, subst (λ (p : Parts). IsSessionReason p (Refused (fault.Check e))) is h)
session_reason input parts (Refused (fault.Analysis e)) i is h = (i, subst (λ (p : Parts). IsSessionReason p (Refused (fault.Analysis e))) is h)
session_reason input parts (Refused (fault.Tables e)) i is h = (i, subst (λ (p : Parts). IsSessionReason p (Refused (fault.Tables e))) is h)
session_reason input parts (Refused (fault.Request e)) i is h = (i, subst (λ (p : Parts). IsSessionReason p (Refused (fault.Request e))) is h)
session_reason input parts (Refused (fault.Trace e)) i is h = absurd h
session_reason input parts (Refused (fault.Ranges e)) i is h = absurd h
session_reason input parts (Refused fault.TooLarge) i is h = absurd h
session_reason input parts (Refused fault.NotText) i is h = absurd h
session_reason input parts (Refused fault.NoRequests) i is h = absurd h
session_reason input parts (Refused fault.HasRequests) i is h = absurd h
session_reason input parts (Refused fault.NoTrace) i is h = absurd h
session_reason input parts (Refused fault.TooManyClients) i is h = absurd h

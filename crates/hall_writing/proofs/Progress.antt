-- How far writing is, over the steps of one call.
use Rattle.std.proofs.Common.{◌≡◌, ℕ, List, Option, Bool, subst}
use Rattle.session_values.specs.declared.reply.Reply.{Reply}
use Rattle.hall_writing.specs.Sheets.{GoesOn, Progress}

-- where the next ticket is the same one, it goes on from the same
pub goes_from : (replies : List Reply) (names : List (List ℕ)) (held : Option (List ℕ)) (faults n m : ℕ) (failed : Bool) (q : Progress) → n ≡ m
    → GoesOn replies names (record { held = held; faults = faults; next = n; failed = failed }) q → GoesOn replies names (record { held = held; faults = faults; next = m; failed = failed }) q
goes_from replies names held faults n m failed q same on = subst (λ (k : ℕ). GoesOn replies names (record { held = held; faults = faults; next = k; failed = failed }) q) same on

-- The entries of one of the tables.
use Rattle.std.proofs.Common.{◌≡◌, ℕ, zero, suc, ◌<◌, List, [], ◌∷◌, length, get_or, refl, arith}
use Rattle.session_journal.specs.Opening.{entries_of}
use Rattle.shard_tables.specs.declared.part.Part.{Part}
use Rattle.shard_tables.specs.Either.{entries_in}
use Rattle.serve_single.specs.Tables.{lists_in}

pub listed_at : (ps : List Part) (i : ℕ) (p : Part) → i < length (lists_in ps) → entries_of (lists_in ps) i ≡ entries_in (get_or ps i p)
listed_at [] i p l = absurd (omega (arith, l))
listed_at (x ∷ ps) zero p l = refl
listed_at (x ∷ ps) (suc i) p l = listed_at ps i p (omega (arith, l))

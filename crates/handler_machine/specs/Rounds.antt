-- A block that is done some times over. Only this crate's own functions cite it.
use Rattle.std.specs.Prelude.{ℕ, zero, suc, ◌+◌, pos, Option}
use Rattle.session_values.specs.declared.value.Value.TheVariants.{Num}
use Rattle.check_meaning.specs.Ahead.{Ahead}
use Rattle.check_meaning.specs.Dialogue.{Env, with_reply}

-- The block n times, and then the rest. Where a variable is named, it has the number of the time,
-- that of the first being i.
abbrev pub rounds_then : ((Env → Ahead) → Env → Ahead) → Option ℕ → ℕ → ℕ → (Env → Ahead) → Env
    → Ahead
rounds_then body x zero i k env = k env
rounds_then body x (suc n) i k env = body (rounds_then body x n (i + 1) k)
    (with_reply x (Num (pos i)) env)

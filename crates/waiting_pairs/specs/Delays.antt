-- When one handler makes another wait: a symbol of what may still come delays an operation.
use Rattle.std.specs.Prelude.{ℕ}
use Rattle.session_values.specs.declared.op.Op.{Op}
use Rattle.session_values.specs.Commuting.{Commute}
use Rattle.session_values.specs.Values.{IsValue}
use Rattle.symbolic_ops.specs.declared.symbol.Symbol.{Symbol}
use Rattle.symbolic_ops.specs.Matching.{StandsFor}
use Rattle.check_meaning.specs.Dialogue.{Env}
use Rattle.serve_reading.specs.Promises.{symbol_at}

-- with some values of its variables that a program can hold, a symbol stands for this operation
pub record MayBe (s : Symbol) (op : Op) : Type 0 where
  pub env : Env
  pub held : (x : ℕ) → IsValue (env x)
  pub stands : StandsFor (symbol_at env s) op

-- For some values of the variables of both, which are two handlers', they stand for operations that
-- don't commute. An operation of a handler's text is a symbol whose arguments are literals and
-- variables, and stands for itself alone.
pub record Delays (s o : Symbol) : Type 0 where
  pub later : Op
  pub called : Op
  pub may_come : MayBe s later
  pub may_call : MayBe o called
  pub differ : Commute later called → ⊥

-- The same sets of symbols, made from the end of a block to its start. Only this crate's own
-- functions cite it.
use Rattle.std.specs.Prelude.{◌≡◌, ℕ, zero, suc, Option, Some, None, ◌⊎◌}
use Rattle.check_meaning.specs.declared.tree.CheckedCall.{CheckedCall}
use Rattle.check_meaning.specs.declared.tree.CheckedStmt.{CheckedStmt}
use Rattle.check_meaning.specs.Code.{Code, Finish, Move, Ask, Fork, Loop, Quit, stmt_code}
use Rattle.may_use_analysis.specs.Steps.{Other, store_step, symbol_of}
use Rattle.may_use_analysis.specs.Trails.{Symbols, Back}

-- the store of a reply
abbrev pub RepliedBack : Option ℕ → Symbols → Symbols
RepliedBack None after = after
RepliedBack (Some x) after = Back (Other x) after

-- this many turns of a loop
abbrev pub Turned : ℕ → (Symbols → Symbols) → ℕ → Symbols → Symbols
Turned x body zero after = after
Turned x body (suc n) after = Back (Other x) (body (Turned x body n after))

-- the symbols at the start of a block, from those after its end
abbrev pub Flow : Code → Symbols → Symbols
Flow Finish after = after
Flow (Move x e rest) after = Back (store_step x e) (Flow rest after)
Flow (Ask at p x c rest) after = λ s. (s ≡ symbol_of c) ⊎ RepliedBack x (Flow rest after) s
Flow (Fork at p q test a b rest) after = λ s. Flow a (Flow rest after) s
    ⊎ Flow b (Flow rest after) s
Flow (Loop at p n x body rest) after = λ s. (k : ℕ) × Turned x (Flow body) k (Flow rest after) s
Flow (Quit es rest) after = λ s. ⊥

-- the symbols at the start of a loop, at the head of its turns, and after its body alike
abbrev pub Head : ℕ → Code → Symbols → Symbols
Head x body after s = (k : ℕ) × Turned x (Flow body) k after s

-- the symbols at the points of this number in a block
abbrev pub FlowPoint : Code → ℕ → Symbols → Symbols
FlowPoint Finish i after s = ⊥
FlowPoint (Move x e rest) i after s = FlowPoint rest i after s
FlowPoint (Ask at p x c rest) i after s = ((i ≡ p) × Flow rest after s) ⊎ FlowPoint rest i after s
FlowPoint (Fork at p q test a b rest) i after s =
    ((i ≡ p) × Flow a (Flow rest after) s) ⊎ (((i ≡ q) × Flow b (Flow rest after) s)
    ⊎ (FlowPoint a i (Flow rest after) s ⊎ (FlowPoint b i (Flow rest after) s
    ⊎ FlowPoint rest i after s)))
FlowPoint (Loop at p n x body rest) i after s =
    ((i ≡ p) × Flow rest after s) ⊎ (FlowPoint body i (Head x body (Flow rest after)) s
    ⊎ FlowPoint rest i after s)
FlowPoint (Quit es rest) i after s = FlowPoint rest i after s

-- the symbols at a point of a handler
abbrev pub FlowHandler : Code → ℕ → Symbols
FlowHandler code i s = ((i ≡ 0) × Flow code (λ z. ⊥) s) ⊎ FlowPoint code i (λ z. ⊥) s

-- the symbols before an operation
abbrev pub AskFlow : Option ℕ → CheckedCall → Symbols → Symbols
AskFlow x c after s = (s ≡ symbol_of c) ⊎ RepliedBack x after s

-- the symbols before a statement
abbrev pub StmtFlow : CheckedStmt → Symbols → Symbols
StmtFlow stmt = Flow (stmt_code stmt Finish)

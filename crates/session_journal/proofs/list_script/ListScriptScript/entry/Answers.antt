use Rattle.std.proofs.Common.{◌≡◌, ℕ, ◌+◌, ◌-◌, ◌≤◌, List, length, take, drop, sym, ◌∙◌, ap, subst, arith}
use Rattle.std.specs.List.{AllByRecursion}
use Rattle.symbolic_ops.specs.declared.symbol.Symbol.{Symbol}
use Rattle.symbolic_ops.specs.Matching.{HasNoVar}
use Rattle.session_journal.proofs.ListKeeps.{entry_is, entry_row, entry_within}
use Rattle.session_journal.proofs.list_script.ListScriptScript.entry.Goals as goal

-- the piece of a list from a place on, as a slice of it is
piece : (ys xs : List Symbol) (first n : ℕ) → ys ≡ xs → take (first + n - first) (drop first ys) ≡ take n (drop first xs)
piece ys xs first n e = let k : first + n - first ≡ n = omega arith in λ i. take (k i) (drop first (e i))

pub slice_bounds-copy_from-end : goal.slice_bounds-copy_from-end
slice_bounds-copy_from-end c =
    let h : c.index-row.result.now.first_symbol + c.index-row.result.now.symbols ≤ length c.self.inside.symbols.items = entry_within c.self.inside.shape.items c.self.inside.rows.items c.self.inside.ops.items c.self.inside.symbols.items _ _ _ c.self.invariant c.args.self.now c.self.view_is c.args.t c.index-row.result.now c.requires.ticket c.index-row.ensures in
    omega (arith, h, c.deref.ensures.len)

pub copy_from-requires-clause-known : goal.copy_from-requires-clause-known
copy_from-requires-clause-known c =
    subst (AllByRecursion HasNoVar) (sym (piece c.deref.result.now c.self.inside.symbols.items c.index-row.result.now.first_symbol c.index-row.result.now.symbols c.deref.ensures.value)) (entry_row c.self.inside.shape.items c.self.inside.rows.items c.self.inside.ops.items c.self.inside.symbols.items _ _ _ c.self.invariant c.args.self.now c.self.view_is c.args.t c.index-row.result.now c.requires.ticket c.index-row.ensures).known

pub copy_from-requires-clause-room : goal.copy_from-requires-clause-room
copy_from-requires-clause-room c =
    let h : length (take c.index-row.result.now.symbols (drop c.index-row.result.now.first_symbol c.self.inside.symbols.items)) ≤ 256 = (entry_row c.self.inside.shape.items c.self.inside.rows.items c.self.inside.ops.items c.self.inside.symbols.items _ _ _ c.self.invariant c.args.self.now c.self.view_is c.args.t c.index-row.result.now c.requires.ticket c.index-row.ensures).few in
    omega (arith, h, ap length (piece c.deref.result.now c.self.inside.symbols.items c.index-row.result.now.first_symbol c.index-row.result.now.symbols c.deref.ensures.value), c.requires.room)

pub returns : goal.returns
returns c =
    c.copy_from.ensures ∙ ap (λ (l : List Symbol). record { symbols = l; room = c.args.out.now.room }) (piece c.deref.result.now c.self.inside.symbols.items c.index-row.result.now.first_symbol c.index-row.result.now.symbols c.deref.ensures.value ∙ entry_is c.self.inside.shape.items c.self.inside.rows.items c.self.inside.ops.items c.self.inside.symbols.items _ _ _ c.self.invariant c.args.self.now c.self.view_is c.args.t c.index-row.result.now c.requires.ticket c.index-row.ensures)

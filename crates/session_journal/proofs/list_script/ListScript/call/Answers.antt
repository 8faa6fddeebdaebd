use Rattle.std.proofs.Common.{◌+◌, ◌^◌, ◌<◌, ◌++◌, ◌∷◌, [], length, ap, ◌∙◌, arith}
use Rattle.session_values.specs.Dialogue.{Calls}
use Rattle.symbolic_ops.specs.declared.symbol.Symbol.{Symbol}
use Rattle.session_journal.specs.Script.{HasValues}
use Rattle.session_journal.proofs.ListKeeps.{some_rows, counts_fit, call_keeps, call_gives}
use Rattle.session_journal.proofs.list_script.ListScript.call.Goals as goal

pub overflow_add-row : goal.overflow_add-row
overflow_add-row c =
    let some : 0 < length c.self.inside.rows.items = some_rows c.self.inside.shape.items c.self.inside.rows.items c.self.inside.ops.items c.self.inside.symbols.items _ _ _ c.self.invariant c.args.self.now c.self.view_is c.requires.place in
    let fit : (c.index-row.result.now.ops + 1 < 2 ^ 32) × (c.index-row.result.now.symbols + 1 < 2 ^ 32) = counts_fit c.self.inside.shape.items c.self.inside.rows.items c.self.inside.ops.items c.self.inside.symbols.items _ _ _ c.self.invariant c.args.self.now c.self.view_is _ c.index-row.result.now (omega (arith, some, c.len-last.ensures, c.self.inside.rows.ok)) c.index-row.ensures in
    omega (arith, fit.0)

pub overflow_add-row-2 : goal.overflow_add-row-2
overflow_add-row-2 c =
    let some : 0 < length c.self.inside.rows.items = some_rows c.self.inside.shape.items c.self.inside.rows.items c.self.inside.ops.items c.self.inside.symbols.items _ _ _ c.self.invariant c.args.self.now c.self.view_is c.requires.place in
    let fit : (c.index-row.result.now.ops + 1 < 2 ^ 32) × (c.index-row.result.now.symbols + 1 < 2 ^ 32) = counts_fit c.self.inside.shape.items c.self.inside.rows.items c.self.inside.ops.items c.self.inside.symbols.items _ _ _ c.self.invariant c.args.self.now c.self.view_is _ c.index-row.result.now (omega (arith, some, c.len-last.ensures, c.self.inside.rows.ok)) c.index-row.ensures in
    omega (arith, fit.1)

pub invariant_of-self : goal.invariant_of-self
invariant_of-self c =
    let some : 0 < length c.self.inside.rows.items = some_rows c.self.inside.shape.items c.self.inside.rows.items c.self.inside.ops.items c.self.inside.symbols.items _ _ _ c.self.invariant c.args.self.now c.self.view_is c.requires.place in
    let values : HasValues (Calls c.args.op) = c.bounds.ensures in
    call_keeps c.self.inside.shape.items c.self.inside.rows.items c.self.inside.ops.items c.self.inside.symbols.items _ _ _ c.self.invariant c.args.self.now c.self.view_is _ c.index-row.result.now (omega (arith, some, c.len-last.ensures, c.self.inside.rows.ok)) c.index-row.ensures c.args.op c.push_reserved.new.self.items c.push_reserved-2.new.self.items _ _ c.push_reserved.ensures.capacity c.push_reserved-2.ensures.capacity c.requires.fits values c.requires.place c.requires.calls c.requires.symbols c.push_reserved.ensures.items (c.push_reserved-2.ensures.items ∙ ap (λ (s : Symbol). c.self.inside.symbols.items ++ s ∷ []) c.exact.ensures)

pub returns : goal.returns
returns c =
    let some : 0 < length c.self.inside.rows.items = some_rows c.self.inside.shape.items c.self.inside.rows.items c.self.inside.ops.items c.self.inside.symbols.items _ _ _ c.self.invariant c.args.self.now c.self.view_is c.requires.place in
    call_gives c.self.inside.shape.items c.self.inside.rows.items c.self.inside.ops.items c.self.inside.symbols.items _ _ _ c.self.invariant c.args.self.now c.self.view_is _ c.index-row.result.now (omega (arith, some, c.len-last.ensures, c.self.inside.rows.ok)) c.index-row.ensures c.args.op c.push_reserved.new.self.items c.push_reserved-2.new.self.items _ _ c.push_reserved.ensures.capacity c.push_reserved-2.ensures.capacity c.push_reserved.ensures.items (c.push_reserved-2.ensures.items ∙ ap (λ (s : Symbol). c.self.inside.symbols.items ++ s ∷ []) c.exact.ensures)

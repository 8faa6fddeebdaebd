use Rattle.std.proofs.Common.{◌+◌, ◌^◌, ◌<◌, length, arith}
use Rattle.session_journal.proofs.ListKeeps.{some_rows, counts_fit, allow_keeps, allow_gives}
use Rattle.session_journal.proofs.list_script.ListScript.allow.Goals as goal

pub overflow_add-row : goal.overflow_add-row
overflow_add-row c =
    let some : 0 < length c.self.inside.rows.items = some_rows c.self.inside.shape.items c.self.inside.rows.items c.self.inside.ops.items c.self.inside.symbols.items _ _ _ c.self.invariant c.args.self.now c.self.view_is c.requires.place in
    let fit : (c.index-row.result.now.ops + 1 < 2 ^ 32) × (c.index-row.result.now.symbols + 1 < 2 ^ 32) = counts_fit c.self.inside.shape.items c.self.inside.rows.items c.self.inside.ops.items c.self.inside.symbols.items _ _ _ c.self.invariant c.args.self.now c.self.view_is _ c.index-row.result.now (omega (arith, some, c.len-last.ensures, c.self.inside.rows.ok)) c.index-row.ensures in
    omega (arith, fit.1)

pub invariant_of-self : goal.invariant_of-self
invariant_of-self c =
    let some : 0 < length c.self.inside.rows.items = some_rows c.self.inside.shape.items c.self.inside.rows.items c.self.inside.ops.items c.self.inside.symbols.items _ _ _ c.self.invariant c.args.self.now c.self.view_is c.requires.place in
    allow_keeps c.self.inside.shape.items c.self.inside.rows.items c.self.inside.ops.items c.self.inside.symbols.items _ _ _ c.self.invariant c.args.self.now c.self.view_is _ c.index-row.result.now (omega (arith, some, c.len-last.ensures, c.self.inside.rows.ok)) c.index-row.ensures c.args.s c.push_reserved.new.self.items _ c.push_reserved.ensures.capacity c.requires.known c.requires.place c.requires.symbols c.push_reserved.ensures.items

pub returns : goal.returns
returns c =
    let some : 0 < length c.self.inside.rows.items = some_rows c.self.inside.shape.items c.self.inside.rows.items c.self.inside.ops.items c.self.inside.symbols.items _ _ _ c.self.invariant c.args.self.now c.self.view_is c.requires.place in
    allow_gives c.self.inside.shape.items c.self.inside.rows.items c.self.inside.ops.items c.self.inside.symbols.items _ _ _ c.self.invariant c.args.self.now c.self.view_is _ c.index-row.result.now (omega (arith, some, c.len-last.ensures, c.self.inside.rows.ok)) c.index-row.ensures c.args.s c.push_reserved.new.self.items _ c.push_reserved.ensures.capacity c.push_reserved.ensures.items

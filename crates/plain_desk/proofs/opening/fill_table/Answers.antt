use Rattle.std.proofs.Common.{◌≡◌, ℕ, ◌+◌, ◌-◌, List, Some, map, slice_get, sym, ap, ◌∙◌, arith}
use Rattle.session_values.specs.declared.kind.TableKind.{TableKind}
use Rattle.session_journal.specs.Opening.{Pair, entries_of}
use Rattle.session_journal.proofs.Filling.{one_more, none_yet, holding}
use Rattle.session_values.specs.Tables.{kind_of}
use Rattle.plain_desk.proofs.opening.fill_table.Goals as goal

pub loop-done-init : goal.loop-done-init
loop-done-init g c =
    let es : List Pair = entries_of (g.S.Script.meaning c.args.script.now).opened c.args.table in
    record {
      kinds = c.requires.kind;
      held = none_yet c.args.tables.now c.args.table c.args.kind es (c.opening_len-len.result - 0) c.requires.empty (omega (arith, c.opening_len-len.ensures));
    }

pub apply-requires : goal.apply-requires
apply-requires g c = record { fits = ap (slice_get (map kind_of c.loop-done.tables)) c.opening_op.ensures.table ∙ c.loop-done.invariant.kinds ∙ ap (λ (k : TableKind). Some k) (sym c.opening_op.ensures.kind) }

pub loop-done-preserved : goal.loop-done-preserved
loop-done-preserved g c =
    let es : List Pair = entries_of (g.S.Script.meaning c.args.script.now).opened c.args.table in
    let n : ℕ = c.opening_len-len.result - (c.loop-done.done + 1) in
    let before : c.opening_len-len.result - c.loop-done.done ≡ n + 1 = omega (arith, c.loop-done-test.true) in
    let here : n ≡ c.opening_len-len.result - 1 - c.loop-done.done = omega arith in
    record {
      kinds = ap (λ (ks : List TableKind). slice_get ks c.args.table) c.in_ok-apply.ensures.kinds ∙ c.loop-done.invariant.kinds;
      held = one_more c.args.tables.now c.loop-done.tables c.apply.new.self c.args.table c.args.kind es n c.opening_entry-key.result c.opening_op.result c.requires.empty
          (c.loop-done.invariant.held ∙ ap (holding c.args.tables.now c.args.table c.args.kind es) before) (ap (slice_get es) here ∙ c.opening_entry-key.ensures) c.opening_op.ensures.table c.opening_op.ensures.enters c.in_ok-apply.ensures.tables;
    }

pub returns : goal.returns
returns g c =
    let es : List Pair = entries_of (g.S.Script.meaning c.args.script.now).opened c.args.table in
    let none : c.opening_len-len.result - c.loop-done.done ≡ 0 = omega (arith, c.loop-done-test.false) in
    c.loop-done.invariant.held ∙ ap (holding c.args.tables.now c.args.table c.args.kind es) none

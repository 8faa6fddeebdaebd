use Rattle.std.proofs.Common.{◌≡◌, sym, ap, subst, IfOk}
use Rattle.std.proofs.lemmas.Result.{on_ok_weaker, on_err_weaker}
use Rattle.session_values.specs.declared.op.Op.{Op}
use Rattle.session_values.specs.declared.value.Value.{Value}
use Rattle.session_values.proofs.KindLemmas.{kinds_kept}
use Rattle.plain_tables.proofs.TableLemmas.{reply_kept, written_step, written_same}
use Rattle.plain_tables.proofs.tables.PlainTables.apply.Goals as goal

pub returns-clause-reply : goal.returns-clause-reply
returns-clause-reply c =
    let at = ap (λ (o : Op). o.table) c.op.view_is in
    let is = reply_kept c.self.inside.tables.items c.args.self.now c.op.inside.table c.args.op c.self.view_is at c.requires.fits c.index_mut.result.now (sym c.index_mut.ensures.value) in
    subst (λ (v : Value). IfOk c.apply.result (λ value. value ≡ v)) is c.apply.ensures.reply

pub returns-clause-tables : goal.returns-clause-tables
returns-clause-tables c =
    let at = ap (λ (o : Op). o.table) c.op.view_is in
    on_ok_weaker c.apply.result (written_step c.self.inside.tables.items c.args.self.now c.op.inside.table c.args.op c.self.view_is at c.requires.fits c.index_mut.result.now (sym c.index_mut.ensures.value) c.apply.new.self) c.apply.ensures.after

pub returns-clause-err : goal.returns-clause-err
returns-clause-err c =
    let at = ap (λ (o : Op). o.table) c.op.view_is in
    on_err_weaker c.apply.result (written_same c.self.inside.tables.items c.args.self.now c.op.inside.table c.args.op c.self.view_is at c.requires.fits c.index_mut.result.now (sym c.index_mut.ensures.value) c.apply.new.self) c.apply.ensures.err

pub returns-clause-kinds : goal.returns-clause-kinds
returns-clause-kinds c = kinds_kept c.apply.result c.args.self.now _ c.args.op (returns-clause-tables c) (returns-clause-err c)

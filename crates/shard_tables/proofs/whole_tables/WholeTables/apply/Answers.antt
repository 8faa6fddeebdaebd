use Rattle.std.proofs.Common.{◌≡◌, sym, ap, subst, IfOk}
use Rattle.std.proofs.lemmas.Result.{on_ok_weaker, on_err_weaker}
use Rattle.std.proofs.lemmas.Bool.{both_ways}
use Rattle.session_values.specs.declared.op.Op.{Op}
use Rattle.session_values.specs.Kinds.{is_adding}
use Rattle.session_values.specs.declared.value.Value.{Value}
use Rattle.shard_tables.specs.Shards.{ShardView}
use Rattle.shard_tables.specs.Whole.{container_in}
use Rattle.session_values.proofs.KindLemmas.{kinds_kept}
use Rattle.shard_tables.proofs.Whole.{kind_kept, ok_unless, reply_kept, written_step, written_same}
use Rattle.shard_tables.proofs.whole_tables.WholeTables.apply.Goals as goal

pub returns-clause-reply : goal.returns-clause-reply
returns-clause-reply c =
    let at = ap (λ (o : Op). o.table) c.op.view_is in
    let is = reply_kept c.self.inside.parts.items c.args.self.now c.op.inside.table c.args.op c.self.view_is at c.requires.fits c.index_mut.result.now (sym c.index_mut.ensures.value) in
    subst (λ (v : Value). IfOk c.try_apply.result (λ value. value ≡ v)) is c.try_apply.ensures.reply

pub returns-clause-tables : goal.returns-clause-tables
returns-clause-tables c =
    let at = ap (λ (o : Op). o.table) c.op.view_is in
    on_ok_weaker c.try_apply.result (λ after. written_step c.self.inside.parts.items c.args.self.now c.op.inside.table c.args.op c.self.view_is at c.requires.fits c.index_mut.result.now (sym c.index_mut.ensures.value) c.try_apply.new.self (ap (λ (s : ShardView). s.container) after)) c.try_apply.ensures.after

pub returns-clause-err : goal.returns-clause-err
returns-clause-err c =
    let at = ap (λ (o : Op). o.table) c.op.view_is in
    on_err_weaker c.try_apply.result (λ same. written_same c.self.inside.parts.items c.args.self.now c.op.inside.table c.args.op c.self.view_is at c.requires.fits c.index_mut.result.now (sym c.index_mut.ensures.value) c.try_apply.new.self (ap container_in same)) c.try_apply.ensures.err

pub returns-clause-sure : goal.returns-clause-sure
returns-clause-sure c none = ok_unless c.try_apply.result (λ full. both_ways (is_adding c.args.op.kind) none full.0) c.try_apply.ensures.full

pub returns-clause-kinds : goal.returns-clause-kinds
returns-clause-kinds c = kinds_kept c.try_apply.result c.args.self.now _ c.args.op (returns-clause-tables c) (returns-clause-err c)

pub try_apply-requires : goal.try_apply-requires
try_apply-requires c =
    let at = ap (λ (o : Op). o.table) c.op.view_is in
    record { kind = kind_kept c.self.inside.parts.items c.args.self.now c.op.inside.table c.args.op c.self.view_is at c.requires.fits c.index_mut.result.now (sym c.index_mut.ensures.value) }

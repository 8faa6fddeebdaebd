use Rattle.std.proofs.Common.{ap, ◌∙◌, map}
use Rattle.std.proofs.lemmas.List.{take_all}
use Rattle.session_values.specs.declared.kind.TableKind.TheVariants.{Map}
use Rattle.plain_tables.specs.Containers.{tables_of}
use Rattle.session_values.specs.Tables.{start, kind_of}
use Rattle.plain_tables.proofs.TableLemmas.{one_more}
use Rattle.session_values.proofs.Starts.{kinds_of_start}
use Rattle.plain_tables.proofs.tables.PlainTables.new.Goals as goal

pub loop-kind-preserved : goal.loop-kind-preserved
loop-kind-preserved c =
    let shape = c.args.shape.now in
    let i = c.loop-kind.kind-index in
    ap tables_of c.in_ok-push.ensures.items
    ∙ one_more c.loop-kind.tables.items c.new.result shape i Map c.loop-kind-test.true c.loop-kind.invariant c.new.ensures

pub returns-clause-kinds : goal.returns-clause-kinds
returns-clause-kinds c =
    let shape = c.args.shape.now in
    ap (map kind_of) (c.loop-kind.invariant ∙ ap start (take_all c.loop-kind.kind-index shape c.loop-kind-test.false)) ∙ kinds_of_start shape

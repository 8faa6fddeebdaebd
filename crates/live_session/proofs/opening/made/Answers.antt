use Rattle.std.proofs.Common.{refl, vec_capacity, arith}
use Rattle.handler_check.proofs.FewTables.{few_kinds}
use Rattle.handler_check.specs.Resolved.{shape_of}
use Rattle.live_session.specs.Held.{factors_in, held}
use Rattle.live_session.proofs.OpenLemmas.{kept, lists_long, live_made}
use Rattle.live_session.proofs.opening.made.Goals as goal

pub tables_and_adds-requires-clause-long : goal.tables_and_adds-requires-clause-long
tables_and_adds-requires-clause-long c = lists_long c.args.loaded c.args.most_names c.requires.can

pub tables_and_adds-requires-clause-few : goal.tables_and_adds-requires-clause-few
tables_and_adds-requires-clause-few c = few_kinds c.args.loaded.program.file (shape_of c.args.loaded.program.file) c.requires.can.accepted refl

pub invariant_of-result : goal.invariant_of-result
invariant_of-result c = (
  live_made c.args.loaded c.args.seed c.args.most_names c.tables_and_adds.ensures.program c.requires.can c.in_ok-names.names (held c.in_ok-tables.tables.parts.items) (factors_in c.in_ok-tables.tables.parts.items) c.new-tickets.result c.opened-history.result c.in_ok-names.ensures c.in_ok-tables.ensures.held c.in_ok-tables.ensures.factors c.new-tickets.ensures c.opened-history.ensures,
  kept c.args.loaded c.args.most_names c.requires.can c.in_ok-tables.adds.items c.in_ok-tables.tables.parts.items (vec_capacity c.in_ok-values.values) c.in_ok-tables.ensures.adds c.in_ok-tables.ensures.held (omega (arith, c.in_ok-values.ensures.capacity)) c.requires.bound,
)

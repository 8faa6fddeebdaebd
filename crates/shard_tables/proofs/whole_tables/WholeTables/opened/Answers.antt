use Rattle.std.proofs.Common.{◌<◌, ◌≤◌, ◌++◌, ◌∷◌, [], List, length, take, ap, ◌∙◌, arith}
use Rattle.std.proofs.lemmas.List.{take_all}
use Rattle.session_values.specs.Tables.{Container, Tables}
use Rattle.session_values.specs.declared.kind.TableKind.{TableKind}
use Rattle.session_values.specs.Opening.{tables_of}
use Rattle.shard_tables.specs.Whole.{container_in}
use Rattle.shard_tables.proofs.Whole.{filled_more}
use Rattle.shard_tables.proofs.whole_tables.WholeTables.opened.Goals as goal

pub loop-table-preserved : goal.loop-table-preserved
loop-table-preserved g c =
    let shape : List TableKind = c.args.shape.now in
    let lists = g.T.TellsOpening.opened c.args.told.now in
    let low : c.loop-table.table < length shape = omega (arith, c.loop-table-test.true, c.in-Ok.ensures.1) in
    let first : Tables = tables_of (take c.loop-table.table shape) lists in
    c.in_ok-push.ensures.tables
    ∙ ap (λ (cs : Tables). cs ++ container_in c.in_ok-part.part ∷ []) c.loop-table.invariant
    ∙ ap (λ (x : Container). first ++ x ∷ []) c.in_ok-part.ensures
    ∙ filled_more shape lists c.loop-table.table low

pub returns : goal.returns
returns g c =
    let lists = g.T.TellsOpening.opened c.args.told.now in
    let all : length c.args.shape.now ≤ c.loop-table.table = omega (arith, c.loop-table-test.false, c.in-Ok.ensures.1) in
    c.loop-table.invariant ∙ ap (λ (ks : List TableKind). tables_of ks lists) (take_all c.loop-table.table c.args.shape.now all ∙ c.requires)

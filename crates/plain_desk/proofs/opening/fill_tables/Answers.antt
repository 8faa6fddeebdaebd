use Rattle.std.proofs.Common.{◌≡◌, ◌<◌, ◌≤◌, length, List, map, slice_get, sym, ap, ◌∙◌, arith}
use Rattle.std.proofs.lemmas.Option.{slice_get-get_or}
use Rattle.std.specs.Prelude.{slice_index_or, slice_set}
use Rattle.session_values.specs.declared.kind.TableKind.{TableKind}
use Rattle.session_values.specs.declared.kind.TableKind.TheVariants.{Map}
use Rattle.session_journal.specs.Opening.{Pair, container_of, entries_of, tables_of}
use Rattle.session_values.specs.Tables.{Tables, kind_of}
use Rattle.session_journal.proofs.Openings.{opening_kinds}
use Rattle.session_journal.proofs.Filling.{all_filled, entries_length, next_filled, next_empty, none_filled}
use Rattle.plain_desk.proofs.opening.fill_tables.Goals as goal

pub loop-table-init : goal.loop-table-init
loop-table-init g c = c.requires.empty ∙ none_filled c.args.shape.now (g.S.Script.meaning c.args.script.now).opened

pub fill_table-requires-clause-kind : goal.fill_table-requires-clause-kind
fill_table-requires-clause-kind g c =
    let low : c.loop-table.table < length c.args.shape.now = omega (arith, c.loop-table-test.true, c.in-Ok.ensures.1) in
    ap (λ (ts : Tables). slice_get (map kind_of ts) c.loop-table.table) c.loop-table.invariant
    ∙ ap (λ (ks : List TableKind). slice_get ks c.loop-table.table) (opening_kinds c.args.shape.now _)
    ∙ slice_get-get_or c.args.shape.now c.loop-table.table Map low

pub fill_table-requires-clause-empty : goal.fill_table-requires-clause-empty
fill_table-requires-clause-empty g c =
    let low : c.loop-table.table < length c.args.shape.now = omega (arith, c.loop-table-test.true, c.in-Ok.ensures.1) in
    ap (λ (ts : Tables). slice_get ts c.loop-table.table) c.loop-table.invariant
    ∙ next_empty c.args.shape.now (g.S.Script.meaning c.args.script.now).opened c.loop-table.table _ (slice_get-get_or c.args.shape.now c.loop-table.table Map low)

pub loop-table-preserved : goal.loop-table-preserved
loop-table-preserved g c =
    let shape : List TableKind = c.args.shape.now in
    let lists : List (List Pair) = (g.S.Script.meaning c.args.script.now).opened in
    let low : c.loop-table.table < length c.args.shape.now = omega (arith, c.loop-table-test.true, c.in-Ok.ensures.1) in
    let many : length lists ≡ length (g.S.Script.meaning c.args.script.now).shape = entries_length (g.S.Script.meaning c.args.script.now).shape lists c.requires.script.opened.entries in
    let same : length shape ≡ length (g.S.Script.meaning c.args.script.now).shape = ap (λ (ks : List TableKind). length ks) c.requires.shape in
    let near : c.loop-table.table < length lists = omega (arith, low, many, same) in
    c.in_ok-fill_table.ensures
    ∙ ap (λ (ts : Tables). slice_set ts c.loop-table.table (container_of (slice_index_or shape c.loop-table.table Map) (entries_of lists c.loop-table.table))) c.loop-table.invariant
    ∙ next_filled shape lists c.loop-table.table _ (slice_get-get_or shape c.loop-table.table Map low) near

pub returns : goal.returns
returns g c =
    let lists : List (List Pair) = (g.S.Script.meaning c.args.script.now).opened in
    let many : length lists ≡ length (g.S.Script.meaning c.args.script.now).shape = entries_length (g.S.Script.meaning c.args.script.now).shape lists c.requires.script.opened.entries in
    let same : length c.args.shape.now ≡ length (g.S.Script.meaning c.args.script.now).shape = ap (λ (ks : List TableKind). length ks) c.requires.shape in
    let all : length lists ≤ c.loop-table.table = omega (arith, c.loop-table-test.false, c.in-Ok.ensures.1, many, same) in
    c.loop-table.invariant ∙ all_filled c.args.shape.now lists c.loop-table.table all ∙ ap (λ (ks : List TableKind). tables_of ks lists) c.requires.shape ∙ sym c.requires.script.opening

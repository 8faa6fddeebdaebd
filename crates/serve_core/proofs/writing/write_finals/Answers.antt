use Rattle.std.proofs.Common.{◌≡◌, List, length, rules, ap, ◌∙◌, subst, arith}
use Rattle.syntax_trees.specs.declared.file.TableDecl.{TableDecl}
use Rattle.handler_check.proofs.Fine.{few_tables}
use Rattle.serve_core.specs.Serving.{AreFinal}
use Rattle.serve_core.proofs.FinalLemmas.{can_dump, have_room}
use Rattle.serve_core.proofs.writing.write_finals.Goals as goal

pub overflow_cast-decls : goal.overflow_cast-decls
overflow_cast-decls g c =
    let is : c.as_slice-decls.result.now ≡ c.args.loaded.now.program.file.tables = search rules in
    let few = few_tables c.args.loaded.now.program.file c.checked.ensures.program.accepted.keeps in
    omega (arith, few, ap (λ (ts : List TableDecl). length ts) is)

pub of-tables-requires-clause-few : goal.of-tables-requires-clause-few
of-tables-requires-clause-few g c =
    let is : c.as_slice-decls.result.now ≡ c.args.loaded.now.program.file.tables = search rules in
    let few = few_tables c.args.loaded.now.program.file c.checked.ensures.program.accepted.keeps in
    omega (arith, few, ap (λ (ts : List TableDecl). length ts) is)

pub write_tables-requires-clause-tables : goal.write_tables-requires-clause-tables
write_tables-requires-clause-tables g c =
    let f = c.args.loaded.now.program.file in
    let is : c.as_slice-decls.result.now ≡ f.tables = search rules in
    let long = c.of-tables.ensures.count ∙ ap (λ (ts : List TableDecl). length ts) is in
    can_dump c.args.loaded.now.names f.tables c.as_slice-decls.result.now c.args.closed.now c.of-tables.result.closed.now c.of-tables.result.count is c.of-tables.ensures.closed long
    (c.requires.print.tables (subst (AreFinal c.args.closed.now) (ap (λ (ts : List TableDecl). length ts) is) c.of-tables.ensures.left))

pub write_tables-requires-clause-room : goal.write_tables-requires-clause-room
write_tables-requires-clause-room g c =
    let f = c.args.loaded.now.program.file in
    let is : c.as_slice-decls.result.now ≡ f.tables = search rules in
    let long = c.of-tables.ensures.count ∙ ap (λ (ts : List TableDecl). length ts) is in
    have_room c.args.loaded.now.names f.tables c.as_slice-decls.result.now c.args.closed.now c.of-tables.result.closed.now c.of-tables.result.count is c.of-tables.ensures.closed long _
    (c.requires.room (subst (AreFinal c.args.closed.now) (ap (λ (ts : List TableDecl). length ts) is) c.of-tables.ensures.left))

pub returns-then-write_tables-clause-left : goal.returns-then-write_tables-clause-left
returns-then-write_tables-clause-left g c =
    let is : c.as_slice-decls.result.now ≡ c.args.loaded.now.program.file.tables = search rules in
    subst (AreFinal c.args.closed.now) (ap (λ (ts : List TableDecl). length ts) is) c.of-tables.ensures.left

pub returns-else-write_tables-clause-left : goal.returns-else-write_tables-clause-left
returns-else-write_tables-clause-left g c =
    let is : c.as_slice-decls.result.now ≡ c.args.loaded.now.program.file.tables = search rules in
    subst (AreFinal c.args.closed.now) (ap (λ (ts : List TableDecl). length ts) is) c.of-tables.ensures.left

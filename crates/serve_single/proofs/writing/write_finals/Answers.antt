use Rattle.std.proofs.Common.{◌≡◌, List, rules, sym, ap, ◌∙◌, subst, arith, true}
use Rattle.shard_tables.specs.declared.part.Part.{Part}
use Rattle.request_files.specs.TableDecl.{TableDecl}
use Rattle.session_journal.specs.Script.{session_of}
use Rattle.handler_machine.specs.Scripts.{meaning}
use Rattle.table_lines.specs.Dumped.{CanDumpAll, dump_text}
use Rattle.byte_ends.specs.Changes.{change}
use Rattle.serve_single.specs.Serving.{asked_text, script_of_loaded}
use Rattle.serve_single.specs.Tables.{lists_in}
use Rattle.serve_single.proofs.Answering.{wrote, wrote_front}
use Rattle.serve_single.proofs.Dumping.{can_write, dumped_is, more_room}
use Rattle.serve_single.proofs.writing.write_finals.Goals as goal

pub write_tables-requires-clause-tables : goal.write_tables-requires-clause-tables
write_tables-requires-clause-tables g c =
    let l = c.args.loaded.now in
    let ps : List Part = c.parts-parts.result.now in
    let is : c.as_slice-decls.result.now ≡ l.program.file.tables = search rules in
    subst (λ (ts : List TableDecl). CanDumpAll l.names ts (lists_in ps)) (sym is) (can_write l c.requires.can ps c.args.served.now.replies.items c.args.served.now.tables c.parts-parts.ensures c.requires.served c.most_entries-most.ensures.apart)

pub write_tables-requires-clause-room : goal.write_tables-requires-clause-room
write_tables-requires-clause-room g c =
    let ps : List Part = c.parts-parts.result.now in
    more_room (lists_in ps) c.most_entries-most.result _ (omega (arith, c.in-Ok-with_capacity.ensures.capacity)) c.most_entries-most.ensures.room

pub returns-then-write_tables : goal.returns-then-write_tables
returns-then-write_tables g c =
    let l = c.args.loaded.now in
    let ps : List Part = c.parts-parts.result.now in
    let is : c.as_slice-decls.result.now ≡ l.program.file.tables = search rules in
    wrote (dump_text l.names c.as_slice-decls.result.now (lists_in ps)) (asked_text true l.names l.program.file (session_of (meaning (script_of_loaded l)))) (change g.O.Sink.held g.O.Sink.faults c.args.out.now c.write_tables.new.out)
    (ap (λ (ts : List TableDecl). dump_text l.names ts (lists_in ps)) is ∙ dumped_is l c.requires.can ps c.args.served.now.replies.items c.args.served.now.tables c.parts-parts.ensures c.requires.served)
    (c.write_tables.ensures.faults.0 c.if-write_tables.true, c.write_tables.ensures.all c.if-write_tables.true)

pub returns : goal.returns
returns g c =
    let l = c.args.loaded.now in
    let ps : List Part = c.parts-parts.result.now in
    let is : c.as_slice-decls.result.now ≡ l.program.file.tables = search rules in
    wrote_front (dump_text l.names c.as_slice-decls.result.now (lists_in ps)) (asked_text true l.names l.program.file (session_of (meaning (script_of_loaded l)))) (change g.O.Sink.held g.O.Sink.faults c.args.out.now c.write_tables.new.out)
    (ap (λ (ts : List TableDecl). dump_text l.names ts (lists_in ps)) is ∙ dumped_is l c.requires.can ps c.args.served.now.replies.items c.args.served.now.tables c.parts-parts.ensures c.requires.served)
    (c.write_tables.ensures.faults.1 c.if-write_tables.false) (c.write_tables.ensures.front c.if-write_tables.false)

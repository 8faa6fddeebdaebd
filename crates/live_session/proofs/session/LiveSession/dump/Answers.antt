use Rattle.std.proofs.Common.{◌≡◌, List, rules, refl, sym, ap, ◌∙◌, subst, arith}
use Rattle.std.specs.List.{AllByRecursion}
use Rattle.session_values.specs.Opening.{AreApart}
use Rattle.shard_tables.specs.declared.part.Part.{Part}
use Rattle.handler_check.specs.TableDecl.{TableDecl}
use Rattle.table_lines.specs.Dumped.{CanDumpAll, HaveRoom, dump_text}
use Rattle.text_lines.specs.Text.{Text}
use Rattle.byte_ends.specs.Changes.{WroteAll, WrotePrefix, change}
use Rattle.live_session.specs.Held.{lists_in}
use Rattle.live_session.specs.Live.{LiveView, dump_of}
use Rattle.live_session.specs.contracts.session.LiveSession.{the_view}
use Rattle.live_session.proofs.DumpLemmas.{can_write, dumped_is, more_room}
use Rattle.live_session.proofs.session.LiveSession.dump.Goals as goal

pub write_tables-requires-clause-tables : goal.write_tables-requires-clause-tables
write_tables-requires-clause-tables g c =
    let v : LiveView = the_view c.self.inside in
    let ps : List Part = c.self.inside.tables.parts.items in
    let decls : c.as_slice-decls.result.now ≡ v.file.tables = search rules in
    let apart : AllByRecursion AreApart (lists_in ps) = subst (λ (qs : List Part). AllByRecursion AreApart (lists_in qs)) c.as_slice.ensures.value c.most_entries-most.ensures.apart in
    subst (λ (ts : List TableDecl). CanDumpAll v.names ts (lists_in ps)) (sym decls) (can_write v c.self.invariant.0 ps refl c.self.invariant.1.kinds apart)

pub write_tables-requires-clause-room : goal.write_tables-requires-clause-room
write_tables-requires-clause-room g c =
    let ps : List Part = c.self.inside.tables.parts.items in
    let room = subst (λ (qs : List Part). HaveRoom c.most_entries-most.result (lists_in qs)) c.as_slice.ensures.value c.most_entries-most.ensures.room in
    more_room (lists_in ps) c.most_entries-most.result _ (omega (arith, c.in-Ok-with_capacity.ensures.capacity)) room

pub returns-then-write_tables : goal.returns-then-write_tables
returns-then-write_tables g c =
    let v : LiveView = the_view c.self.inside in
    let ps : List Part = c.self.inside.tables.parts.items in
    let decls : c.as_slice-decls.result.now ≡ v.file.tables = search rules in
    let is : dump_text v.names c.as_slice-decls.result.now (lists_in ps) ≡ dump_of c.args.self.now =
    ap (λ (ts : List TableDecl). dump_text v.names ts (lists_in ps)) decls ∙ dumped_is v c.self.invariant.0 ps refl c.self.invariant.1.kinds ∙ ap dump_of c.self.view_is in
    let P : Text → Type 0 = λ t. WroteAll (change g.O.Sink.held g.O.Sink.faults c.args.out.now c.write_tables.new.out) t in
    subst P is (c.write_tables.ensures.faults.0 c.if-write_tables.true, c.write_tables.ensures.all c.if-write_tables.true)

pub returns : goal.returns
returns g c =
    let v : LiveView = the_view c.self.inside in
    let ps : List Part = c.self.inside.tables.parts.items in
    let decls : c.as_slice-decls.result.now ≡ v.file.tables = search rules in
    let is : dump_text v.names c.as_slice-decls.result.now (lists_in ps) ≡ dump_of c.args.self.now =
    ap (λ (ts : List TableDecl). dump_text v.names ts (lists_in ps)) decls ∙ dumped_is v c.self.invariant.0 ps refl c.self.invariant.1.kinds ∙ ap dump_of c.self.view_is in
    let P : Text → Type 0 = λ t. WrotePrefix (change g.O.Sink.held g.O.Sink.faults c.args.out.now c.write_tables.new.out) t in
    (c.write_tables.ensures.faults.1 c.if-write_tables.false, subst P is (c.write_tables.ensures.front c.if-write_tables.false))

use Rattle.std.proofs.Common.{List, length, sym, ap, subst, arith}
use Rattle.session_values.specs.Names.{Begins}
use Rattle.session_values.specs.declared.value.Value.{Value}
use Rattle.handler_check.specs.File.{File}
use Rattle.handler_check.specs.Checked.{HandlerWithin}
use Rattle.handler_check.proofs.Codes.{all_within}
use Rattle.text_lines.specs.Rows.{Row, row_of}
use Rattle.text_lines.specs.Text.{Text, words}
use Rattle.text_lines.proofs.ValueLemmas.{placed_all_begins}
use Rattle.request_files.specs.Requests.{AreKnown}
use Rattle.declaration_insertion.specs.Program.{ProgramView}
use Rattle.live_session.specs.Accepting.{IsAccepted}
use Rattle.live_session.specs.Entries.{IsHeldBack}
use Rattle.live_session.proofs.Reading.{back, held_away}
use Rattle.live_session.proofs.accepting.accept.Goals as goal

pub read_line-requires-clause-known : goal.read_line-requires-clause-known
read_line-requires-clause-known c = subst (AreKnown c.args.names.now) (sym c.checked.ensures.file) c.requires.known

pub admit-requires-clause-args : goal.admit-requires-clause-args
admit-requires-clause-args c =
    let p : ProgramView = c.args.by.program.now in
    let within : HandlerWithin p.file c.in-Ok.h = all_within p.file c.checked.ensures.program.accepted c.checked.ensures.program.bounds c.in-Ok.h in
    let r : Row = row_of 0 c.args.words.name.now (words c.args.words.arguments.rest.now) in
    let ok = subst (λ (f : File). IsAccepted f c.args.names.now c.args.by.most_names r c.read_line.new.names c.read_line.new.args.items c.in-Ok.h) c.checked.ensures.file c.in-Ok.ensures.accepted in
    let long = ap (λ (vs : List Value). length vs) c.as_slice.ensures.value in
    omega (arith, ok.params, within.params, long)

pub returns-in-Err-admit-clause-turned_away : goal.returns-in-Err-admit-clause-turned_away
returns-in-Err-admit-clause-turned_away c =
    let p : ProgramView = c.args.by.program.now in
    let r : Row = row_of 0 c.args.words.name.now (words c.args.words.arguments.rest.now) in
    let ok = subst (λ (f : File). IsAccepted f c.args.names.now c.args.by.most_names r c.read_line.new.names c.read_line.new.args.items c.in-Ok.h) c.checked.ensures.file c.in-Ok.ensures.accepted in
    let why = subst (λ (vs : List Value). IsHeldBack p c.args.by.tickets.now c.in-Ok.h vs c.in-Err-admit.why) c.as_slice.ensures.value c.in-Err-admit.ensures.held_back in
    held_away p c.args.by.tickets.now c.args.names.now c.args.by.most_names r c.read_line.new.names c.read_line.new.args.items c.in-Ok.h ok c.in-Err-admit.why why

pub returns-in-Err-admit-clause-same : goal.returns-in-Err-admit-clause-same
returns-in-Err-admit-clause-same c =
    let old : List Text = c.args.names.now in
    let begins = subst (Begins old) (sym c.in-Ok.ensures.accepted.names_are) (placed_all_begins old (words c.args.words.arguments.rest.now)) in
    back old c.read_line.new.names c.forget.new.names c.len-before.result begins c.len-before.ensures.len c.forget.ensures

use Rattle.std.proofs.Common.{List, length, sym, ap, subst, arith}
use Rattle.session_values.specs.Names.{Begins}
use Rattle.session_values.specs.declared.value.Value.{Value}
use Rattle.handler_check.specs.Checked.{HandlerWithin}
use Rattle.handler_check.specs.File.{File}
use Rattle.handler_check.proofs.Codes.{all_within}
use Rattle.text_lines.specs.Text.{Text}
use Rattle.text_lines.proofs.ValueLemmas.{placed_all_begins}
use Rattle.declaration_insertion.specs.Program.{ProgramView}
use Rattle.live_session.specs.declared.answers.InvokeError.{InvokeError}
use Rattle.live_session.specs.Accepting.{IsAccepted}
use Rattle.live_session.specs.ArgumentWords.{words_of}
use Rattle.live_session.specs.Entries.{IsHeldBack}
use Rattle.live_session.specs.Invoking.{CanBeSaid, IsNotGiven, IsNotReceived, row_given}
use Rattle.live_session.proofs.Reading.{back}
use Rattle.live_session.proofs.Received.{not_received, not_run}
use Rattle.live_session.proofs.receiving.accept_given.Goals as goal

pub returns-in-Err-clause-away : goal.returns-in-Err-clause-away
returns-in-Err-clause-away c =
    let p : ProgramView = c.args.by.program.now in
    let why = subst (λ (f : File). IsNotGiven f c.args.names.now c.args.by.most_names c.args.h c.args.arguments.now c.in-Err.why) c.checked.ensures.file c.in-Err.ensures.unread in
    not_received p c.args.by.tickets.now c.args.names.now c.args.by.most_names c.args.h c.args.arguments.now c.len-before.ensures.distinct c.requires.known c.checked.ensures.program.accepted.keeps c.in-Err.why why

pub admit-requires-clause-args : goal.admit-requires-clause-args
admit-requires-clause-args c =
    let p : ProgramView = c.args.by.program.now in
    let names : List Text = c.args.names.now in
    let within : HandlerWithin p.file c.args.h = all_within p.file c.checked.ensures.program.accepted c.checked.ensures.program.bounds c.args.h in
    let ok = subst (λ (f : File). IsAccepted f names c.args.by.most_names (row_given names f c.args.h c.args.arguments.now) c.read_given.new.names c.read_given.new.args.items c.args.h) c.checked.ensures.file c.in-Ok.ensures.accepted in
    let long = ap (λ (vs : List Value). length vs) c.as_slice.ensures.value in
    omega (arith, ok.params, within.params, long)

pub returns-in-Err-admit-clause-away : goal.returns-in-Err-admit-clause-away
returns-in-Err-admit-clause-away c =
    let p : ProgramView = c.args.by.program.now in
    let names : List Text = c.args.names.now in
    let args = c.args.arguments.now in
    let ok = subst (λ (f : File). IsAccepted f names c.args.by.most_names (row_given names f c.args.h args) c.read_given.new.names c.read_given.new.args.items c.args.h) c.checked.ensures.file c.in-Ok.ensures.accepted in
    let said = subst (λ (f : File). CanBeSaid names f c.args.h args) c.checked.ensures.file c.in-Ok.ensures.said in
    let why = subst (λ (vs : List Value). IsHeldBack p c.args.by.tickets.now c.args.h vs c.in-Err-admit.why) c.as_slice.ensures.value c.in-Err-admit.ensures.held_back in
    subst (λ (e : InvokeError). IsNotReceived p c.args.by.tickets.now names c.args.by.most_names c.args.h args e) (sym c.not_admitted.ensures) (not_run p c.args.by.tickets.now names c.args.by.most_names c.args.h args c.read_given.new.names c.read_given.new.args.items said c.in-Ok.ensures.held ok c.in-Err-admit.why why)

pub returns-in-Err-admit-clause-same : goal.returns-in-Err-admit-clause-same
returns-in-Err-admit-clause-same c =
    let old : List Text = c.args.names.now in
    let begins = subst (Begins old) (sym c.in-Ok.ensures.accepted.names_are) (placed_all_begins old (words_of old c.args.arguments.now)) in
    back old c.read_given.new.names c.forget.new.names c.len-before.result begins c.len-before.ensures.len c.forget.ensures

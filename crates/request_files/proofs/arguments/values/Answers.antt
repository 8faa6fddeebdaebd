use Rattle.std.proofs.Common.{Some, None, subst, sym}
use Rattle.text_lines.specs.Text.{words}
use Rattle.text_lines.proofs.ValueLemmas.{Behind, behind_values, left_names}
use Rattle.text_lines.proofs.TakenLemmas.{found_taken}
use Rattle.request_files.proofs.ArgumentLemmas.{says_none, taken_bad, taken_kept, taken_room, taken_turn}
use Rattle.request_files.proofs.arguments.values.Goals as goal

pub words-preserved : goal.words-preserved
words-preserved c =
    let turn = taken_turn c.args.names.now (words c.args.words.rest.now) c.words.names c.next_value.new.names c.words.words.rest.now c.next_value.new.self.rest.now c.args.list.now.items c.words.list.items c.in-Some-found.v c.words.invariant
    (found_taken c.words.words c.next_value.new.self c.words.names c.next_value.new.names c.in_ok-found.field-0 c.in-Some.found (Some c.in-Some-found.v) c.in_ok-found.ensures.steps c.in-Some.is c.in-Some-found.is) in
    subst (Behind c.args.names.now (words c.args.words.rest.now) c.next_value.new.names (words c.next_value.new.self.rest.now) c.args.list.now.items) (sym c.in_ok-push-in-Some-found.ensures.items) turn

pub returns-in_err-push-in-Some-found-clause-kept : goal.returns-in_err-push-in-Some-found-clause-kept
returns-in_err-push-in-Some-found-clause-kept c =
    taken_kept c.args.names.now (words c.args.words.rest.now) c.words.names c.next_value.new.names c.words.words.rest.now c.next_value.new.self.rest.now c.args.list.now.items c.words.list.items (Some c.in-Some-found.v) c.words.invariant
    (found_taken c.words.words c.next_value.new.self c.words.names c.next_value.new.names c.in_ok-found.field-0 c.in-Some.found (Some c.in-Some-found.v) c.in_ok-found.ensures.steps c.in-Some.is c.in-Some-found.is)

pub returns-in_err-push-in-Some-found-clause-room : goal.returns-in_err-push-in-Some-found-clause-room
returns-in_err-push-in-Some-found-clause-room c =
    taken_room c.args.names.now (words c.args.words.rest.now) c.words.names c.next_value.new.names c.words.words.rest.now c.next_value.new.self.rest.now c.args.list.now.items c.words.list.items (Some c.in-Some-found.v) c.words.invariant
    (found_taken c.words.words c.next_value.new.self c.words.names c.next_value.new.names c.in_ok-found.field-0 c.in-Some.found (Some c.in-Some-found.v) c.in_ok-found.ensures.steps c.in-Some.is c.in-Some-found.is)

pub returns-in-None-clause-tests : goal.returns-in-None-clause-tests
returns-in-None-clause-tests c =
    sym (taken_bad c.args.names.now (words c.args.words.rest.now) c.words.names c.next_value.new.names c.words.words.rest.now c.next_value.new.self.rest.now c.args.list.now.items c.words.list.items c.words.invariant
    (found_taken c.words.words c.next_value.new.self c.words.names c.next_value.new.names c.in_ok-found.field-0 c.in-Some.found None c.in_ok-found.ensures.steps c.in-Some.is c.in-None.is))

pub returns-in-None-clause-kept : goal.returns-in-None-clause-kept
returns-in-None-clause-kept c =
    taken_kept c.args.names.now (words c.args.words.rest.now) c.words.names c.next_value.new.names c.words.words.rest.now c.next_value.new.self.rest.now c.args.list.now.items c.words.list.items None c.words.invariant
    (found_taken c.words.words c.next_value.new.self c.words.names c.next_value.new.names c.in_ok-found.field-0 c.in-Some.found None c.in_ok-found.ensures.steps c.in-Some.is c.in-None.is)

pub returns-in-None-clause-room : goal.returns-in-None-clause-room
returns-in-None-clause-room c =
    taken_room c.args.names.now (words c.args.words.rest.now) c.words.names c.next_value.new.names c.words.words.rest.now c.next_value.new.self.rest.now c.args.list.now.items c.words.list.items None c.words.invariant
    (found_taken c.words.words c.next_value.new.self c.words.names c.next_value.new.names c.in_ok-found.field-0 c.in-Some.found None c.in_ok-found.ensures.steps c.in-Some.is c.in-None.is)

pub returns-clause-values : goal.returns-clause-values
returns-clause-values c = λ _.
    behind_values c.args.names.now (words c.args.words.rest.now) c.next_value.new.names c.args.list.now.items c.words.list.items
    (says_none c.args.names.now (words c.args.words.rest.now) c.words.names c.next_value.new.names c.words.words c.next_value.new.self c.args.list.now.items c.words.list.items c.in_ok-found.field-0 c.in_ok-found.ensures.steps c.in_default.is c.words.invariant)

pub returns-clause-names : goal.returns-clause-names
returns-clause-names c = λ _.
    let last = says_none c.args.names.now (words c.args.words.rest.now) c.words.names c.next_value.new.names c.words.words c.next_value.new.self c.args.list.now.items c.words.list.items c.in_ok-found.field-0 c.in_ok-found.ensures.steps c.in_default.is c.words.invariant in
    left_names c.args.names.now (words c.args.words.rest.now) c.next_value.new.names last.found last.left

use Rattle.std.proofs.Common.{◌∷◌, [], List, length, Some, None, refl, sym, ap, ◌∙◌, subst, arith, length-append}
use Rattle.session_values.specs.declared.value.Value.{Value}
use Rattle.text_lines.specs.Text.{Text, words}
use Rattle.text_lines.proofs.ValueLemmas.{Behind, behind_start, behind_values, left_names}
use Rattle.text_lines.proofs.TakenLemmas.{found_taken}
use Rattle.request_files.proofs.ArgumentLemmas.{says_none, taken_bad, taken_kept, taken_turn}
use Rattle.live_session.proofs.arguments.placed_values.Goals as goal

pub words-init : goal.words-init
words-init c = record { behind = behind_start c.args.names.now (words c.args.words.rest.now) c.args.list.now.items; room = c.requires.room; capacity = refl }

pub words-preserved : goal.words-preserved
words-preserved c =
    let taken = found_taken c.words.words c.next_value.new.self c.words.names c.next_value.new.names c.in_ok-found.field-0 c.in-Some.found (Some c.in-Some-found.v) c.in_ok-found.ensures.steps c.in-Some.is c.in-Some-found.is in
    let turn = taken_turn c.args.names.now (words c.args.words.rest.now) c.words.names c.next_value.new.names c.words.words.rest.now c.next_value.new.self.rest.now c.args.list.now.items c.words.list.items c.in-Some-found.v c.words.invariant.behind taken in
    record {
      behind = subst (Behind c.args.names.now (words c.args.words.rest.now) c.next_value.new.names (words c.next_value.new.self.rest.now) c.args.list.now.items) (sym c.push_reserved.ensures.items) turn;
      room = (let next = ap (λ (ws : List Text). length ws) taken.1.0 in let one = ap (λ (vs : List Value). length vs) c.push_reserved.ensures.items in let more = length-append c.words.list.items (c.in-Some-found.v ∷ []) in omega (arith, c.words.invariant.room, next, one, more, c.push_reserved.ensures.capacity));
      capacity = c.push_reserved.ensures.capacity ∙ c.words.invariant.capacity;
    }

pub push_reserved-requires : goal.push_reserved-requires
push_reserved-requires c =
    let taken = found_taken c.words.words c.next_value.new.self c.words.names c.next_value.new.names c.in_ok-found.field-0 c.in-Some.found (Some c.in-Some-found.v) c.in_ok-found.ensures.steps c.in-Some.is c.in-Some-found.is in
    let next = ap (λ (ws : List Text). length ws) taken.1.0 in
    omega (arith, c.words.invariant.room, next, c.words.list.ok)

pub returns-in-None-clause-tests : goal.returns-in-None-clause-tests
returns-in-None-clause-tests c =
    sym (taken_bad c.args.names.now (words c.args.words.rest.now) c.words.names c.next_value.new.names c.words.words.rest.now c.next_value.new.self.rest.now c.args.list.now.items c.words.list.items c.words.invariant.behind
    (found_taken c.words.words c.next_value.new.self c.words.names c.next_value.new.names c.in_ok-found.field-0 c.in-Some.found None c.in_ok-found.ensures.steps c.in-Some.is c.in-None.is))

pub returns-in-None-clause-kept : goal.returns-in-None-clause-kept
returns-in-None-clause-kept c =
    taken_kept c.args.names.now (words c.args.words.rest.now) c.words.names c.next_value.new.names c.words.words.rest.now c.next_value.new.self.rest.now c.args.list.now.items c.words.list.items None c.words.invariant.behind
    (found_taken c.words.words c.next_value.new.self c.words.names c.next_value.new.names c.in_ok-found.field-0 c.in-Some.found None c.in_ok-found.ensures.steps c.in-Some.is c.in-None.is)

pub returns-clause-values : goal.returns-clause-values
returns-clause-values c = λ _.
    behind_values c.args.names.now (words c.args.words.rest.now) c.next_value.new.names c.args.list.now.items c.words.list.items
    (says_none c.args.names.now (words c.args.words.rest.now) c.words.names c.next_value.new.names c.words.words c.next_value.new.self c.args.list.now.items c.words.list.items c.in_ok-found.field-0 c.in_ok-found.ensures.steps c.in_default.is c.words.invariant.behind)

pub returns-clause-names : goal.returns-clause-names
returns-clause-names c = λ _.
    let last = says_none c.args.names.now (words c.args.words.rest.now) c.words.names c.next_value.new.names c.words.words c.next_value.new.self c.args.list.now.items c.words.list.items c.in_ok-found.field-0 c.in_ok-found.ensures.steps c.in_default.is c.words.invariant.behind in
    left_names c.args.names.now (words c.args.words.rest.now) c.next_value.new.names last.found last.left

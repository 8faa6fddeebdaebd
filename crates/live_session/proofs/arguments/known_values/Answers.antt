use Rattle.std.proofs.Common.{◌∷◌, [], List, length, refl, sym, ap, ◌∙◌, subst, arith, length-append}
use Rattle.session_values.specs.declared.value.Value.{Value}
use Rattle.text_lines.specs.Text.{Text, words}
use Rattle.text_lines.specs.Values.{placed, value_of}
use Rattle.text_lines.proofs.ValueLemmas.{Behind, behind_start, behind_turn, behind_values, left_names}
use Rattle.live_session.proofs.Words.{not_known}
use Rattle.live_session.proofs.arguments.known_values.Goals as goal

pub words-init : goal.words-init
words-init c = record {
  next = tt;
  finite = tt;
  behind = behind_start c.args.names.now (words c.args.words.rest.now) c.args.list.now.items;
  room = c.requires.room;
  capacity = refl;
}

pub push_reserved-requires : goal.push_reserved-requires
push_reserved-requires c =
    let next = ap (λ (ws : List Text). length ws) c.in-Some.ensures.steps.0 in
    omega (arith, c.words.invariant.room, next, c.words.list.ok)

pub words-preserved : goal.words-preserved
words-preserved c =
    let ns : List Text = c.args.names.now in
    let ws0 : List Text = words c.args.words.rest.now in
    let B : List Text → Type 0 = λ ws. Behind ns ws0 ns ws c.args.list.now.items c.words.list.items in
    let before = subst B c.in-Some.ensures.steps.0 c.words.invariant.behind in
    let still = c.in-Some-known_value.ensures.1 in
    let turn = behind_turn ns ws0 ns c.in-Some.word.now (words c.next.new.self.rest.now) c.args.list.now.items c.words.list.items c.in-Some-known_value.v before (ap (λ (l : List Text). value_of l c.in-Some.word.now) still ∙ c.in-Some-known_value.ensures.0) in
    let C : List Text → Type 0 = λ l. Behind ns ws0 l (words c.next.new.self.rest.now) c.args.list.now.items c.push_reserved.new.self.items in
    record {
      next = tt;
      finite = tt;
      behind = subst C still (subst (Behind ns ws0 (placed ns c.in-Some.word.now) (words c.next.new.self.rest.now) c.args.list.now.items) (sym c.push_reserved.ensures.items) turn);
      room = (let next = ap (λ (ws : List Text). length ws) c.in-Some.ensures.steps.0 in let one = ap (λ (vs : List Value). length vs) c.push_reserved.ensures.items in let more = length-append c.words.list.items (c.in-Some-known_value.v ∷ []) in omega (arith, c.words.invariant.room, next, one, more, c.push_reserved.ensures.capacity));
      capacity = c.push_reserved.ensures.capacity ∙ c.words.invariant.capacity;
    }

pub returns-in-None-clause-other : goal.returns-in-None-clause-other
returns-in-None-clause-other c = λ _.
    let ns : List Text = c.args.names.now in
    let B : List Text → Type 0 = λ ws. Behind ns (words c.args.words.rest.now) ns ws c.args.list.now.items c.words.list.items in
    let before = subst B c.in-Some.ensures.steps.0 c.words.invariant.behind in
    not_known ns (words c.args.words.rest.now) ns c.in-Some.word.now (words c.next.new.self.rest.now) c.args.list.now.items c.words.list.items refl before c.in-None.ensures

pub returns-clause-values : goal.returns-clause-values
returns-clause-values c = λ _.
    let ns : List Text = c.args.names.now in
    let B : List Text → Type 0 = λ ws. Behind ns (words c.args.words.rest.now) ns ws c.args.list.now.items c.words.list.items in
    behind_values ns (words c.args.words.rest.now) ns c.args.list.now.items c.words.list.items (subst B c.in_default.ensures.steps.0 c.words.invariant.behind)

pub returns-clause-tests : goal.returns-clause-tests
returns-clause-tests c = λ _.
    let ns : List Text = c.args.names.now in
    let B : List Text → Type 0 = λ ws. Behind ns (words c.args.words.rest.now) ns ws c.args.list.now.items c.words.list.items in
    let last = subst B c.in_default.ensures.steps.0 c.words.invariant.behind in
    sym last.left.tests

pub returns-clause-names : goal.returns-clause-names
returns-clause-names c = λ _.
    let ns : List Text = c.args.names.now in
    let B : List Text → Type 0 = λ ws. Behind ns (words c.args.words.rest.now) ns ws c.args.list.now.items c.words.list.items in
    let last = subst B c.in_default.ensures.steps.0 c.words.invariant.behind in
    sym (left_names ns (words c.args.words.rest.now) ns last.found last.left)

use Rattle.std.proofs.Common.{◌+◌, ◌∷◌, [], List, length, drop, slice_index_or, sym, ◌∙◌, ap, subst, arith, length-append, ℕ}
use Rattle.std.proofs.lemmas.Option.{slice_get-get_or}
use Rattle.session_values.specs.declared.value.Value.{Value}
use Rattle.text_lines.specs.Text.{Text}
use Rattle.text_lines.specs.Values.{placed, value_of}
use Rattle.text_lines.proofs.ValueLemmas.{Behind, behind_turn, behind_values, left_names}
use Rattle.live_session.specs.declared.argument.Argument.{Argument}
use Rattle.live_session.specs.declared.argument.Argument.TheVariants as argument
use Rattle.live_session.specs.ArgumentWords.{word_of, words_of}
use Rattle.live_session.proofs.ArgumentLemmas.{fine_at, held_at, made_new, no_words, words_step}
use Rattle.live_session.proofs.argument.known_arguments.Goals as goal

pub known_argument-requires-clause-fine : goal.known_argument-requires-clause-fine
known_argument-requires-clause-fine c =
    let args = c.args.arguments.now in
    fine_at c.args.names.now args c.loop-argument.argument-index _ c.requires.fine (slice_get-get_or args c.loop-argument.argument-index argument.Nil c.loop-argument-test.true)

pub known_argument-requires-clause-held : goal.known_argument-requires-clause-held
known_argument-requires-clause-held c =
    let args = c.args.arguments.now in
    held_at args c.loop-argument.argument-index _ c.requires.held (slice_get-get_or args c.loop-argument.argument-index argument.Nil c.loop-argument-test.true)

pub returns-in-None-clause-other : goal.returns-in-None-clause-other
returns-in-None-clause-other c = λ _.
    let args = c.args.arguments.now in
    let ns : List Text = c.args.names.now in
    let i : ℕ = c.loop-argument.argument-index in
    let a : Argument = slice_index_or args i argument.Nil in
    let at = slice_get-get_or args i argument.Nil c.loop-argument-test.true in
    let B : List Text → Type 0 = λ ws. Behind ns (words_of ns args) ns ws c.args.list.now.items c.loop-argument.list.items in
    let before = subst B (words_step ns args i a at) c.loop-argument.invariant.behind in
    made_new ns (words_of ns args) (word_of ns a) (words_of ns (drop (i + 1) args)) c.args.list.now.items c.loop-argument.list.items before c.in-None.ensures

pub loop-argument-preserved : goal.loop-argument-preserved
loop-argument-preserved c =
    let args = c.args.arguments.now in
    let ns : List Text = c.args.names.now in
    let i : ℕ = c.loop-argument.argument-index in
    let a : Argument = slice_index_or args i argument.Nil in
    let w : Text = word_of ns a in
    let ws : List Text = words_of ns (drop (i + 1) args) in
    let at = slice_get-get_or args i argument.Nil c.loop-argument-test.true in
    let B : List Text → Type 0 = λ ws. Behind ns (words_of ns args) ns ws c.args.list.now.items c.loop-argument.list.items in
    let before = subst B (words_step ns args i a at) c.loop-argument.invariant.behind in
    let still = c.in-Some.ensures.1 in
    let turn = behind_turn ns (words_of ns args) ns w ws c.args.list.now.items c.loop-argument.list.items c.in-Some.value before (ap (λ (l : List Text). value_of l w) still ∙ c.in-Some.ensures.0) in
    let C : List Text → Type 0 = λ l. Behind ns (words_of ns args) l ws c.args.list.now.items c.push_reserved.new.self.items in
    record {
      behind = subst C still (subst (Behind ns (words_of ns args) (placed ns w) ws c.args.list.now.items) (sym c.push_reserved.ensures.items) turn);
      count = (let one = ap (λ (vs : List Value). length vs) c.push_reserved.ensures.items in let more = length-append c.loop-argument.list.items (c.in-Some.value ∷ []) in omega (arith, c.loop-argument.invariant.count, one, more));
      capacity = c.push_reserved.ensures.capacity ∙ c.loop-argument.invariant.capacity;
    }

pub returns-clause-values : goal.returns-clause-values
returns-clause-values c = λ _.
    let args = c.args.arguments.now in
    let ns : List Text = c.args.names.now in
    let B : List Text → Type 0 = λ ws. Behind ns (words_of ns args) ns ws c.args.list.now.items c.loop-argument.list.items in
    behind_values ns (words_of ns args) ns c.args.list.now.items c.loop-argument.list.items (subst B (no_words ns args c.loop-argument.argument-index c.loop-argument-test.false) c.loop-argument.invariant.behind)

pub returns-clause-names : goal.returns-clause-names
returns-clause-names c = λ _.
    let args = c.args.arguments.now in
    let ns : List Text = c.args.names.now in
    let B : List Text → Type 0 = λ ws. Behind ns (words_of ns args) ns ws c.args.list.now.items c.loop-argument.list.items in
    let last = subst B (no_words ns args c.loop-argument.argument-index c.loop-argument-test.false) c.loop-argument.invariant.behind in
    sym (left_names ns (words_of ns args) ns last.found last.left)

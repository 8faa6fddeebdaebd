use Rattle.std.proofs.Common.{◌≡◌, ◌+◌, ◌∷◌, [], List, length, drop, slice_index_or, Some, sym, ◌∙◌, ap, subst, arith, length-append, ℕ}
use Rattle.std.proofs.lemmas.Option.{slice_get-get_or}
use Rattle.session_values.specs.declared.value.Value.{Value}
use Rattle.text_lines.specs.Text.{Text}
use Rattle.text_lines.specs.Values.{placed, value_of}
use Rattle.text_lines.proofs.ValueLemmas.{Behind, behind_turn, behind_values, left_names}
use Rattle.live_session.specs.declared.argument.Argument.{Argument}
use Rattle.live_session.specs.declared.argument.Argument.TheVariants as argument
use Rattle.live_session.specs.ArgumentWords.{word_of, words_of}
use Rattle.live_session.proofs.ArgumentLemmas.{fault_kept, fine_at, held_at, no_words, word_kept, words_step}
use Rattle.live_session.proofs.argument.placed_arguments.Goals as goal

pub placed_argument-requires-clause-fine : goal.placed_argument-requires-clause-fine
placed_argument-requires-clause-fine c =
    let args = c.args.arguments.now in
    let i : ℕ = c.loop-argument.argument-index in
    fault_kept c.args.names.now c.loop-argument.names _ c.loop-argument.invariant.behind.left.kept (fine_at c.args.names.now args i _ c.requires.fine (slice_get-get_or args i argument.Nil c.loop-argument-test.true))

pub placed_argument-requires-clause-held : goal.placed_argument-requires-clause-held
placed_argument-requires-clause-held c =
    let args = c.args.arguments.now in
    held_at args c.loop-argument.argument-index _ c.requires.held (slice_get-get_or args c.loop-argument.argument-index argument.Nil c.loop-argument-test.true)

pub loop-argument-preserved : goal.loop-argument-preserved
loop-argument-preserved c =
    let args = c.args.arguments.now in
    let ns : List Text = c.args.names.now in
    let cur : List Text = c.loop-argument.names in
    let i : ℕ = c.loop-argument.argument-index in
    let a : Argument = slice_index_or args i argument.Nil in
    let w : Text = word_of ns a in
    let ws : List Text = words_of ns (drop (i + 1) args) in
    let at = slice_get-get_or args i argument.Nil c.loop-argument-test.true in
    let B : List Text → Type 0 = λ ws. Behind ns (words_of ns args) cur ws c.args.list.now.items c.loop-argument.list.items in
    let before = subst B (words_step ns args i a at) c.loop-argument.invariant.behind in
    let new : List Text = c.placed_argument.new.names in
    let e : word_of cur a ≡ w = word_kept ns cur a c.loop-argument.invariant.behind.left.kept (fine_at ns args i a c.requires.fine at) in
    let names_are : new ≡ placed cur w = c.in_ok-value.ensures.names ∙ ap (placed cur) e in
    let value : value_of (placed cur w) w ≡ Some c.in_ok-value.value = ap (λ (l : List Text). value_of l w) (sym names_are) ∙ ap (λ (t : Text). value_of new t) (sym e) ∙ c.in_ok-value.ensures.value in
    let turn = behind_turn ns (words_of ns args) cur w ws c.args.list.now.items c.loop-argument.list.items c.in_ok-value.value before value in
    let C : List Text → Type 0 = λ l. Behind ns (words_of ns args) l ws c.args.list.now.items c.push_reserved.new.self.items in
    record {
      behind = subst C (sym names_are) (subst (Behind ns (words_of ns args) (placed cur w) ws c.args.list.now.items) (sym c.push_reserved.ensures.items) turn);
      count = (let one = ap (λ (vs : List Value). length vs) c.push_reserved.ensures.items in let more = length-append c.loop-argument.list.items (c.in_ok-value.value ∷ []) in omega (arith, c.loop-argument.invariant.count, one, more));
      capacity = c.push_reserved.ensures.capacity ∙ c.loop-argument.invariant.capacity;
    }

pub returns-clause-values : goal.returns-clause-values
returns-clause-values c =
    let args = c.args.arguments.now in
    let ns : List Text = c.args.names.now in
    let B : List Text → Type 0 = λ ws. Behind ns (words_of ns args) c.loop-argument.names ws c.args.list.now.items c.loop-argument.list.items in
    behind_values ns (words_of ns args) c.loop-argument.names c.args.list.now.items c.loop-argument.list.items (subst B (no_words ns args c.loop-argument.argument-index c.loop-argument-test.false) c.loop-argument.invariant.behind)

pub returns-clause-names : goal.returns-clause-names
returns-clause-names c =
    let args = c.args.arguments.now in
    let ns : List Text = c.args.names.now in
    let B : List Text → Type 0 = λ ws. Behind ns (words_of ns args) c.loop-argument.names ws c.args.list.now.items c.loop-argument.list.items in
    let last = subst B (no_words ns args c.loop-argument.argument-index c.loop-argument-test.false) c.loop-argument.invariant.behind in
    left_names ns (words_of ns args) c.loop-argument.names last.found last.left

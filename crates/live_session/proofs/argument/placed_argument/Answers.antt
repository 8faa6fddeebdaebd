use Rattle.std.proofs.Common.{◌≡◌, ◌∙◌, Some, None, true, sym, ap, subst, rules, w64, to_z, of_z, FitsSigned, ℕ}
use Rattle.std.proofs.lemmas.Int.{to_z-of_z}
use Rattle.session_values.specs.declared.value.Value.TheVariants.{Sym}
use Rattle.text_lines.specs.Values.{is_symbol, placed, value_of}
use Rattle.text_lines.proofs.ValueLemmas.{placed_by, value_by}
use Rattle.live_session.specs.declared.argument.Argument.{Argument}
use Rattle.live_session.specs.ArgumentWords.{argument_fault, word_of}
use Rattle.live_session.proofs.ArgumentLemmas.{known_at_name, known_at_nil, known_at_number, passed_test}
use Rattle.live_session.proofs.argument.placed_argument.Goals as goal

pub returns-in-Nil-clause-value : goal.returns-in-Nil-clause-value
returns-in-Nil-clause-value c = (known_at_nil c.args.names.now c.args.argument c.in-Nil.is).0

pub returns-in-Nil-clause-names : goal.returns-in-Nil-clause-names
returns-in-Nil-clause-names c = sym (known_at_nil c.args.names.now c.args.argument c.in-Nil.is).1

pub returns-in-Number-clause-value : goal.returns-in-Number-clause-value
returns-in-Number-clause-value c =
    let fits : FitsSigned w64 c.in-Number.n = search rules in
    (known_at_number c.args.names.now c.args.argument c.in-Number.n (to_z w64 (of_z w64 c.in-Number.n)) c.in-Number.is (to_z-of_z w64 c.in-Number.n fits) c.requires.held).0

pub returns-in-Number-clause-names : goal.returns-in-Number-clause-names
returns-in-Number-clause-names c =
    let fits : FitsSigned w64 c.in-Number.n = search rules in
    sym (known_at_number c.args.names.now c.args.argument c.in-Number.n (to_z w64 (of_z w64 c.in-Number.n)) c.in-Number.is (to_z-of_z w64 c.in-Number.n fits) c.requires.held).1

pub returns-in_ok-place-in-Symbol-clause-value : goal.returns-in_ok-place-in-Symbol-clause-value
returns-in_ok-place-in-Symbol-clause-value c =
    let names = c.args.names.now in
    let new = c.place.new.self in
    let yes : is_symbol c.in-Symbol.text.now ≡ true = passed_test _ _ (subst (λ (a : Argument). argument_fault names a ≡ None) c.in-Symbol.is c.requires.fine) in
    ap (λ (a : Argument). value_of new (word_of names a)) c.in-Symbol.is ∙ value_by new c.in-Symbol.text.now true yes ∙ ap (λ (p : ℕ). Some (Sym p)) (sym c.in_ok-place-in-Symbol.ensures.place)

pub returns-in_ok-place-in-Symbol-clause-names : goal.returns-in_ok-place-in-Symbol-clause-names
returns-in_ok-place-in-Symbol-clause-names c =
    let names = c.args.names.now in
    let yes : is_symbol c.in-Symbol.text.now ≡ true = passed_test _ _ (subst (λ (a : Argument). argument_fault names a ≡ None) c.in-Symbol.is c.requires.fine) in
    c.in_ok-place-in-Symbol.ensures.list ∙ sym (placed_by names c.in-Symbol.text.now true yes) ∙ ap (λ (a : Argument). placed names (word_of names a)) (sym c.in-Symbol.is)

pub returns-in-Name-clause-value : goal.returns-in-Name-clause-value
returns-in-Name-clause-value c = (known_at_name c.args.names.now c.args.argument c.in-Name.place c.in-Name.is c.len-names.ensures.distinct c.requires.fine).0

pub returns-in-Name-clause-names : goal.returns-in-Name-clause-names
returns-in-Name-clause-names c = sym (known_at_name c.args.names.now c.args.argument c.in-Name.place c.in-Name.is c.len-names.ensures.distinct c.requires.fine).1

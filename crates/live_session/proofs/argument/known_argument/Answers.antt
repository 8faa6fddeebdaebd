use Rattle.std.proofs.Common.{◌≡◌, Some, None, true, sym, subst, rules, w64, to_z, of_z, FitsSigned}
use Rattle.std.proofs.lemmas.Int.{to_z-of_z}
use Rattle.session_values.specs.declared.value.Value.TheVariants.{Sym}
use Rattle.text_lines.specs.Values.{is_symbol}
use Rattle.live_session.specs.declared.argument.Argument.{Argument}
use Rattle.live_session.specs.ArgumentWords.{Known, argument_fault, word_of}
use Rattle.live_session.proofs.ArgumentLemmas.{known_at_name, known_at_nil, known_at_number, known_new, passed_test}
use Rattle.live_session.proofs.Words.{symbol_found}
use Rattle.live_session.proofs.argument.known_argument.Goals as goal

pub returns-in-Nil : goal.returns-in-Nil
returns-in-Nil c = known_at_nil c.args.names.now c.args.argument c.in-Nil.is

pub returns-in-Number : goal.returns-in-Number
returns-in-Number c =
    let fits : FitsSigned w64 c.in-Number.n = search rules in
    known_at_number c.args.names.now c.args.argument c.in-Number.n (to_z w64 (of_z w64 c.in-Number.n)) c.in-Number.is (to_z-of_z w64 c.in-Number.n fits) c.requires.held

pub returns-in-Some : goal.returns-in-Some
returns-in-Some c =
    let names = c.args.names.now in
    let yes : is_symbol c.in-Symbol.text.now ≡ true = passed_test _ _ (subst (λ (a : Argument). argument_fault names a ≡ None) c.in-Symbol.is c.requires.fine) in
    subst (λ (a : Argument). Known names (word_of names a) (Some (Sym c.in-Some.place))) (sym c.in-Symbol.is) (symbol_found names c.in-Symbol.text.now c.in-Some.place yes (sym c.in-Some.ensures.index) c.in-Some.ensures.found)

pub returns-in-None : goal.returns-in-None
returns-in-None c =
    let names = c.args.names.now in
    let yes : is_symbol c.in-Symbol.text.now ≡ true = passed_test _ _ (subst (λ (a : Argument). argument_fault names a ≡ None) c.in-Symbol.is c.requires.fine) in
    subst (λ (a : Argument). Known names (word_of names a) None) (sym c.in-Symbol.is) (known_new names c.in-Symbol.text.now yes (sym c.in-None.ensures.index))

pub returns-in-Name : goal.returns-in-Name
returns-in-Name c = known_at_name c.args.names.now c.args.argument c.in-Name.place c.in-Name.is c.len-names.ensures.distinct c.requires.fine

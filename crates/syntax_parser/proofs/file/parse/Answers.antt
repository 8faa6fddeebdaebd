use Rattle.std.proofs.Common.{◌≡◌, ◌≤◌, ℕ, List, length, None, Some, sym, ap, ◌∙◌, subst, arith}
use Rattle.std.proofs.lemmas.Result.{on_ok_weaker}
use Rattle.std.specs.Prelude.{◌≢◌, IfOk, IfErr, OnOk}
use Rattle.session_values.specs.Names.{Begins}
use Rattle.syntax_grammar.specs.declared.word.Word.{Word}
use Rattle.syntax_grammar.specs.Words.{names_of}
use Rattle.syntax_grammar.proofs.NamesGrow.{names_begin, begins_length, names_few, two_fronts}
use Rattle.syntax_grammar.specs.declared.refusals.SyntaxRefusal.TheVariants.{NoMemory}
use Rattle.syntax_grammar.specs.FirstFault.{IsFile}
use Rattle.syntax_grammar.specs.Next.{fault, whole_file}
use Rattle.syntax_grammar.specs.Parsed.{Parsed}
use Rattle.syntax_grammar.proofs.Whole.{parsed, words_few}
use Rattle.syntax_parser.proofs.file.parse.Goals as goal

pub whole-found-requires-clause-few : goal.whole-found-requires-clause-few
whole-found-requires-clause-few c =
    omega (arith, ap length c.over.ensures.words, words_few c.args.names.now c.args.source.now, c.requires.short)

pub returns : goal.returns
returns c =
    let old = c.args.names.now in
    let source = c.args.source.now in
    let r = c.whole-found.result in
    let new = c.into_names-names.result.now in
    let left = c.into_names-names.ensures in
    let over = c.over.ensures in
    let read = c.whole-found.ensures in
    let all = read.kept.same ∙ over.names in
    let front = subst (Begins new) all left.front in
    let grown : length old ≤ length new = omega (arith, left.count, read.kept.no_fewer, over.count) in
    -- the reader gave back the list that it was over
    let own = c.names-1.given.1 (sym (left.home ∙ read.kept.home ∙ over.home)) in
    subst (λ (all : List (List ℕ)). Parsed old source r all) (sym own) (
    parsed old source r new
    (subst (λ (ws : List Word). IfOk r (λ file. IsFile ws file)) over.words read.ok)
    (subst (λ (ws : List Word). OnOk r (fault (length source) whole_file 0 ws ≡ None)) over.words (subst (λ (n : ℕ). OnOk r (fault n whole_file 0 c.over.result.words ≡ None)) over.end read.within))
    (subst (λ (ws : List Word). IfErr r (λ e. e ≢ NoMemory → fault (length source) whole_file 0 ws ≡ Some e)) over.words (subst (λ (n : ℕ). IfErr r (λ e. e ≢ NoMemory → fault n whole_file 0 c.over.result.words ≡ Some e)) over.end read.exact))
    (on_ok_weaker r (λ none. left.all none ∙ all) read.finished)
    (two_fronts old new (names_of old source) (names_begin old source) front grown)
    (omega (arith, begins_length new (names_of old source) front, names_few old source)))

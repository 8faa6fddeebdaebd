-- A text has one tree at most and one first fault at most, and not both.
use Rattle.std.proofs.Common.{◌≡◌, ℕ, List, length, None, Some, sym, ap, ◌∙◌}
use Rattle.syntax_grammar.specs.Words.{words_of}
use Rattle.syntax_trees.specs.declared.file.File.{File}
use Rattle.syntax_grammar.specs.Parsed.{IsSourceOf, HasFault}
use Rattle.syntax_grammar.specs.Next.{fault, whole_file}
use Rattle.syntax_grammar.specs.declared.refusals.SyntaxRefusal.{SyntaxRefusal}
use Rattle.syntax_grammar.proofs.FitsFile.{passed_whole}
use Rattle.syntax_grammar.proofs.Found as found
use Rattle.syntax_grammar.proofs.Said as said
use Rattle.syntax_trees.specs.Mentions.{a_name, a_symbol}
use Rattle.syntax_grammar.specs.Texts.{HasText}
use Rattle.session_values.specs.Names.{IsNamed}
pub use Rattle.session_values.proofs.Lists.{all_join}
pub use Rattle.syntax_trees.proofs.Mentions.{mentions_leaf, mentions_binary, mentions_let, mentions_assign, mentions_perform, mentions_choose, mentions_repeat, mentions_answer, all_first}
pub use Rattle.syntax_grammar.proofs.SomeFile.{file_or_fault, fault_certain}
use Rattle.syntax_grammar.proofs.UniqueFile.{same_file}

pub one_tree : (names : List (List ℕ)) (source : List ℕ) (f g : File) → IsSourceOf names source f → IsSourceOf names source g → f ≡ g
one_tree names source f g h k = h.2 ∙ same_file h.0 k.0 (sym h.1 ∙ k.1) ∙ sym k.2

pub one_fault : (names : List (List ℕ)) (source : List ℕ) (d e : SyntaxRefusal) → HasFault names source d → HasFault names source e → d ≡ e
one_fault names source = found.one_first_fault (length source) (words_of names source)

pub no_fault : (names : List (List ℕ)) (source : List ℕ) (file : File) (e : SyntaxRefusal) → IsSourceOf names source file → HasFault names source e → ⊥
no_fault names source file e f g =
    let end = length source in
    let ws = words_of names source in
    let none : fault end whole_file 0 ws ≡ None = ap (fault end whole_file 0) f.1 ∙ passed_whole end f.0 f.3 in
    let some : fault end whole_file 0 ws ≡ Some e = found.first_found end e ws g in
    cc

-- the place of a text that the language can write is one of the list
pub name_named : (names : List (List ℕ)) (place : ℕ) → HasText names (a_name place) → IsNamed names place
name_named = said.name_named

pub symbol_named : (names : List (List ℕ)) (place : ℕ) → HasText names (a_symbol place) → IsNamed names place
symbol_named = said.symbol_named

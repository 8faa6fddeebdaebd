-- What the parser's answers say of a whole source.
use Rattle.std.proofs.Common.{◌≡◌, ◌≤◌, ℕ, suc, List, [], ◌∷◌, Some, None, length, ◌⊎◌, inl, inr, refl, sym, ap, ◌∙◌, subst, arith}
use Rattle.std.specs.Prelude.{◌≢◌, ◌+◌, Result, Ok, Err, IfOk, OnOk, IfErr, MatchResult}
use Rattle.syntax_grammar.specs.declared.word.Word.{Word}
use Rattle.syntax_grammar.specs.Tokens.{Piece, pieces}
use Rattle.syntax_grammar.specs.Words.{words, words_of, names_of, names_after}
use Rattle.syntax_grammar.proofs.Pieces.{pieces_few}
use Rattle.session_values.specs.Names.{Begins}
use Rattle.syntax_trees.specs.declared.file.File.{File}
use Rattle.syntax_trees.specs.Mentions.{AreNamed, file_mentions}
use Rattle.syntax_grammar.specs.Texts.{IsNamedFile}
use Rattle.syntax_grammar.specs.declared.refusals.SyntaxRefusal.{SyntaxRefusal}
use Rattle.syntax_grammar.specs.declared.refusals.SyntaxRefusal.TheVariants.{BadByte, Unexpected, NumberTooLarge, NameTooLong, TooDeep, NoMemory}
use Rattle.syntax_grammar.specs.FirstFault.{IsFile, IsFirstFault}
use Rattle.syntax_grammar.specs.Limits.{IsFileWithin}
use Rattle.syntax_grammar.specs.Parsed.{Parsed}
use Rattle.syntax_grammar.specs.Next.{fault, whole_file}
use Rattle.syntax_grammar.proofs.Said.{source_readable, have_texts, texts_below}
use Rattle.syntax_grammar.proofs.UniqueFile.{same_file}
use Rattle.syntax_grammar.proofs.Law.{first_fault}
use Rattle.syntax_grammar.proofs.Found.{first_found}
use Rattle.syntax_grammar.proofs.FitsFile.{fits, passed_whole}

words_length : (names : List (List ℕ)) (ps : List Piece) → length (words names ps) ≡ length ps
words_length names [] = refl
words_length names (p ∷ ps) = ap (λ n. suc n) (words_length (names_after names p) ps)

-- there are no more words than bytes
pub words_few : (names : List (List ℕ)) (source : List ℕ) → length (words_of names source) ≤ length source
unfolding words_of
words_few names source = omega (arith, words_length names (pieces 0 0 source), pieces_few 0 0 source)

only_memory : (e : SyntaxRefusal) → ((e ≡ NoMemory → ⊥) → ⊥) → e ≡ NoMemory
only_memory NoMemory h = refl
only_memory _ h = absurd (h (λ q. cc))

-- a refusal of the walk is the first fault
pub refused_first : (end : ℕ) (ws : List Word) (r : Result File SyntaxRefusal) → IfErr r (λ e. e ≢ NoMemory → fault end whole_file 0 ws ≡ Some e) → IfErr r (λ e. e ≢ NoMemory → IsFirstFault end ws e)
refused_first end ws (Ok v) h = h
refused_first end ws (Err e) h = λ some. first_fault end e ws (h some)

-- a text within the limits has no fault
no_fault : (end : ℕ) (ws : List Word) (file : File) → IsFileWithin ws file → fault end whole_file 0 ws ≡ None
no_fault end ws file f = ap (fault end whole_file 0) f.1 ∙ passed_whole end f.0 f.3

-- words of the grammar, within its limits, are read with their one tree
pub read_only : (end : ℕ) (ws : List Word) (r : Result File SyntaxRefusal) → IfOk r (IsFile ws) → IfErr r (λ e. e ≢ NoMemory → fault end whole_file 0 ws ≡ Some e) → (file : File) → IsFileWithin ws file → MatchResult r (λ read. read ≡ file) (λ e. e ≡ NoMemory)
read_only end ws (Ok read) ok exact file f = ok.2 ∙ same_file ok.0 f.0 (sym ok.1 ∙ f.1) ∙ sym f.2
read_only end ws (Err e) ok exact file f = only_memory e (λ some. let h = exact some in let k = no_fault end ws file f in cc)

-- what was read with no fault is within the limits
pub read_within : (end : ℕ) (ws : List Word) (r : Result File SyntaxRefusal) → IfOk r (IsFile ws) → OnOk r (fault end whole_file 0 ws ≡ None) → IfOk r (IsFileWithin ws)
read_within end ws (Ok file) ok within = (ok.0, ok.1, ok.2, fits end ok.0 (ap (fault end whole_file 0) (sym ok.1) ∙ within))
read_within end ws (Err e) ok within = tt

-- a source with a first fault is refused for it
pub read_fault : (end : ℕ) (ws : List Word) (r : Result File SyntaxRefusal) → OnOk r (fault end whole_file 0 ws ≡ None) → IfErr r (λ e. e ≢ NoMemory → fault end whole_file 0 ws ≡ Some e) → (e : SyntaxRefusal) → IsFirstFault end ws e → MatchResult r (λ file. ⊥) (λ d. (d ≡ e) ⊎ (d ≡ NoMemory))
read_fault end ws (Ok file) within exact e f = let h = first_found end e ws f in cc
read_fault end ws (Err d) within exact e f = by d exact
  where
    other : (d : SyntaxRefusal) → fault end whole_file 0 ws ≡ Some d → d ≡ e
    other d h = let k = first_found end e ws f in cc

    by : (d : SyntaxRefusal) → (d ≢ NoMemory → fault end whole_file 0 ws ≡ Some d) → (d ≡ e) ⊎ (d ≡ NoMemory)
    by NoMemory h = inr refl
    by (BadByte at) h = inl (other (BadByte at) (h (λ q. cc)))
    by (Unexpected at found) h = inl (other (Unexpected at found) (h (λ q. cc)))
    by (NumberTooLarge at) h = inl (other (NumberTooLarge at) (h (λ q. cc)))
    by (NameTooLong at) h = inl (other (NameTooLong at) (h (λ q. cc)))
    by (TooDeep at) h = inl (other (TooDeep at) (h (λ q. cc)))

-- each name and each symbol of what was read has a text
named_tree : (names : List (List ℕ)) (source : List ℕ) (r : Result File SyntaxRefusal) (all : List (List ℕ)) → IfOk r (IsFileWithin (words_of names source)) → OnOk r (all ≡ names_of names source) → IfOk r (IsNamedFile all)
named_tree names source (Ok file) all ok same = subst (λ ns. IsNamedFile ns file) (sym same) (have_texts (names_of names source) (file_mentions file) (source_readable names source file ok))
named_tree names source (Err e) all ok same = tt

printable_tree : (r : Result File SyntaxRefusal) (all : List (List ℕ)) → IfOk r (IsNamedFile all) → IfOk r (λ file. AreNamed all (file_mentions file))
printable_tree (Ok file) all named = texts_below all (file_mentions file) named
printable_tree (Err e) all named = tt

-- what is known of a source that was read, or refused
pub parsed : (old : List (List ℕ)) (source : List ℕ) (r : Result File SyntaxRefusal) (new : List (List ℕ)) → IfOk r (IsFile (words_of old source)) → OnOk r (fault (length source) whole_file 0 (words_of old source) ≡ None)
    → IfErr r (λ e. e ≢ NoMemory → fault (length source) whole_file 0 (words_of old source) ≡ Some e) → OnOk r (new ≡ names_of old source) → Begins old new → length new ≤ length old + length source → Parsed old source r new
parsed old source r new ok within exact names kept few =
    let form = read_within (length source) (words_of old source) r ok within in
    let named = named_tree old source r new form names in
    record {
      ok = form;
      only = read_only (length source) (words_of old source) r ok exact;
      refused = refused_first (length source) (words_of old source) r exact;
      fault = read_fault (length source) (words_of old source) r within exact;
      names = names;
      kept = kept;
      few = few;
      named = named;
      printable = printable_tree r new named;
    }

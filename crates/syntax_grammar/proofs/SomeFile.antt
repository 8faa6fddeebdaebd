-- Words without a fault are a file within the limits, and what is found is never want of memory.
use Rattle.std.proofs.Common.{◌≡◌, ℕ, ◌⊎◌, inl, inr, Bool, true, false, if◌then◌else◌, List, [], ◌∷◌, ◌++◌, length, Option, Some, None, refl, sym, ap, ◌∙◌}
use Rattle.syntax_trees.specs.declared.file.File.{File}
use Rattle.syntax_grammar.specs.declared.word.Word.{Word}
use Rattle.syntax_grammar.specs.declared.word.Sort.{Sort}
use Rattle.syntax_grammar.specs.declared.word.Sort.TheVariants as sort
use Rattle.syntax_grammar.specs.Words.{words_of}
use Rattle.syntax_grammar.specs.declared.refusals.SyntaxRefusal.{SyntaxRefusal}
use Rattle.syntax_grammar.specs.declared.refusals.SyntaxRefusal.TheVariants.{NoMemory}
use Rattle.syntax_grammar.specs.Bounds.{Limit, number_size, block_depth, open_parentheses, operator_signs, limit_refusal}
use Rattle.syntax_grammar.specs.Refusal.{refusal_of}
use Rattle.syntax_grammar.specs.Next.{Part, Taken, taking, may_be_empty, may_end, at_end, broken, signs_after, go_on, after_taking, fault, whole_file}
use Rattle.syntax_grammar.specs.Phrase.{a_file, tables_words, handlers_words, FilePhrase, file_words}
use Rattle.syntax_grammar.specs.Tree.{file_tree}
use Rattle.syntax_grammar.specs.FirstFault.{IsUnexpected, IsOverLimit, IsFirstFault}
use Rattle.syntax_grammar.specs.Limits.{IsFileWithin}
use Rattle.syntax_grammar.specs.Parsed.{IsSourceOf, HasFault}
use Rattle.syntax_grammar.proofs.Completed.{MayBeEmpty, empty, Back, back}
use Rattle.syntax_grammar.proofs.Spells.{Spells}
use Rattle.syntax_grammar.proofs.FitsFile.{fits}
use Rattle.syntax_grammar.proofs.Law.{first_fault}

-- where the words end, all parts are empty
spelled_end : (end : ℕ) (ps : List Part) → at_end end (may_end ps) ≡ None → Spells ps []
spelled_end end [] e = refl
spelled_end end (p ∷ ps) e = by (may_be_empty p) (empty p) e (λ h. spelled_end end ps h)
  where
    by : (b : Bool) → MayBeEmpty p b → at_end end (if b then may_end ps else false) ≡ None → (at_end end (may_end ps) ≡ None → Spells ps []) → Spells (p ∷ ps) []
    by true h e rest = ([], h [], rest e)
    by false h e rest = absurd (cc)

spelled : (end : ℕ) (ws : List Word) (ps : List Part) (n : ℕ) → fault end ps n ws ≡ None → Spells ps ws
spelled end [] ps n e = spelled_end end ps e
spelled end (w ∷ ws) ps n e = by (taking ps w.sort) (back ps w.sort) e (λ qs m h. spelled end ws qs m h)
  where
    within : (l : Option Limit) (after : Option SyntaxRefusal) → go_on w l after ≡ None → after ≡ None
    within None after e = e
    within (Some l) after e = absurd (cc)

    by : (o : Option Taken) → Back ps w.sort o → after_taking w n (λ qs m. fault end qs m ws) o ≡ None → ((qs : List Part) (m : ℕ) → fault end qs m ws ≡ None → Spells qs ws) → Spells ps (w ∷ ws)
    by None b e rest = absurd (cc)
    by (Some t) b e rest = b w.at ws (rest (t.left ++ t.under) (signs_after t.part n) (within (broken t.part t.under n w.sort) _ e))

-- words without a fault are a file within the limits
has_file : (end : ℕ) (ws : List Word) → fault end whole_file 0 ws ≡ None → (file : File) × IsFileWithin ws file
has_file end ws e =
    let h = spelled end ws whole_file 0 e in
    let p : FilePhrase = a_file h.1.0 h.2.1.0 in
    let is : ws ≡ file_words p [] = h.1.1 ∙ ap (tables_words h.1.0) (h.2.1.1 ∙ ap (handlers_words h.2.1.0) h.2.2) in
    (file_tree p, (p, is, refl, fits end p (ap (fault end whole_file 0) (sym is) ∙ e)))

-- ---- what is found is never want of memory
word_refusal : (s : Sort) (at : ℕ) → refusal_of s at ≡ NoMemory → ⊥
word_refusal sort.Bad at e = cc
word_refusal sort.Long at e = cc
word_refusal _ at e = cc

limit_certain : (l : Limit) (at : ℕ) → limit_refusal l at ≡ NoMemory → ⊥
limit_certain number_size at e = cc
limit_certain block_depth at e = cc
limit_certain open_parentheses at e = cc
limit_certain operator_signs at e = cc

at_word : (before : List Word) (w : Word) (e : SyntaxRefusal) → IsUnexpected before w e ⊎ IsOverLimit before w e → e ≡ NoMemory → ⊥
at_word before w e (inl u) m = word_refusal w.sort w.at (sym u.refusal_is ∙ m)
at_word before w e (inr o) m = limit_certain o.limit w.at (sym o.refusal_is ∙ m)

pub fault_certain : (end : ℕ) (ws : List Word) (e : SyntaxRefusal) → IsFirstFault end ws e → e ≡ NoMemory → ⊥
fault_certain end ws e (inl f) m = at_word f.before f.at e f.fault m
fault_certain end ws e (inr f) m = word_refusal sort.End end (sym f.fault ∙ m)

-- a source is a file within the limits, or has a first fault
pub file_or_fault : (names : List (List ℕ)) (source : List ℕ) → ((file : File) × IsSourceOf names source file) ⊎ ((e : SyntaxRefusal) × HasFault names source e)
file_or_fault names source = by (fault (length source) whole_file 0 (words_of names source)) refl
  where
    by : (o : Option SyntaxRefusal) → fault (length source) whole_file 0 (words_of names source) ≡ o → ((file : File) × IsSourceOf names source file) ⊎ ((e : SyntaxRefusal) × HasFault names source e)
    by None e = inl (has_file (length source) (words_of names source) e)
    by (Some r) e = inr (r, first_fault (length source) r (words_of names source) e)

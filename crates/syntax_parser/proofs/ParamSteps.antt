-- How parameters begin.
use Rattle.std.proofs.Common.{◌≡◌, ℕ, List, [], ◌∷◌, refl, sym, ap, ◌∙◌, arith}
use Rattle.syntax_grammar.specs.declared.word.Word.{Word}
use Rattle.syntax_grammar.specs.declared.word.Sort.TheVariants as sort
use Rattle.syntax_grammar.specs.Words.{first_word}
use Rattle.syntax_parser.specs.declared.input.Input.{Input}
use Rattle.syntax_grammar.specs.Next.{Part, Anywhere, first_param, more_params, a_name, first_param_row, name_row, fault}
use Rattle.syntax_parser.specs.Reads.{Passed}
use Rattle.syntax_grammar.proofs.Taken.{taken}
use Rattle.syntax_parser.proofs.Steps.{passed_then, passed_still}

-- a first parameter is a name, and more of them may follow
first_as : (end n : ℕ) (ws : List Word) (under : List Part) (w : Word) (name : ℕ) → w ≡ first_word end ws → w.sort ≡ sort.Name name → fault end (first_param ∷ under) n ws ≡ fault end (a_name ∷ more_params ∷ under) n ws
first_as end n [] under w name e q = let h : sort.End ≡ sort.Name name = ap (λ x. x.sort) (sym e) ∙ q in cc
first_as end n (x ∷ xs) under w name e q =
    let s : x.sort ≡ sort.Name name = ap (λ y. y.sort) (sym e) ∙ q in
    taken end first_param (more_params ∷ []) under n x xs (ap first_param_row s) refl
    ∙ sym (taken end a_name [] (more_params ∷ under) n x xs (ap name_row s) refl)

pub passed_first : (a b : Input) (w : Word) (name : ℕ) → w ≡ first_word a.reader.end a.reader.words → b.reader.words ≡ a.reader.words → b.reader.end ≡ a.reader.end → b.signs ≡ a.signs → w.sort ≡ sort.Name name → Passed Anywhere (first_param ∷ []) (a_name ∷ more_params ∷ []) a b
passed_first a b w name e k f n q =
    passed_then {b = a} (record { end_same = refl; no_longer = omega arith; no_end = λ h. h; fault_same = λ under h. first_as a.reader.end a.signs a.reader.words under w name e q }) (passed_still k f n)

-- What the walk takes is what the grammar allows.
use Rattle.std.proofs.Common.{◌≡◌, ◌↔◌, Bool, true, false, if◌then◌else◌, List, [], ◌∷◌, ◌++◌, Option, Some, None, is_some, refl, sym, ap, ◌∙◌, subst}
use Rattle.std.proofs.lemmas.List.{append-nil}
use Rattle.std.specs.List.{filter}
use Rattle.syntax_grammar.specs.declared.word.Sort.{Sort}
use Rattle.syntax_grammar.specs.declared.word.Word.{Word}
use Rattle.syntax_grammar.specs.Next.{Part, Taken, taking, may_be_empty, may_end, whole_file}
use Rattle.syntax_grammar.specs.Phrase.{word}
use Rattle.syntax_grammar.specs.FirstFault.{IsText, BeginsText}
use Rattle.syntax_grammar.proofs.Spells.{Spells, still, go_on_still}
use Rattle.syntax_grammar.proofs.Completed.{MayBeEmpty, empty, still_back, StillBack}
use Rattle.syntax_grammar.proofs.Law.{text_spelled, begins, text_taken, one_more}
use Rattle.refusal_advice.specs.Classes.{classes}
use Rattle.refusal_advice.specs.Following.{CanFollow, AreWanted}
use Rattle.refusal_advice.specs.Walk.{allows}
use Rattle.refusal_advice.proofs.ClassWords.{ClassLaw, class_law}

abbrev pub Goes : Option (List Part) → List Word → Option (List Part)
Goes None ws = None
Goes (Some qs) ws = still qs ws

pub still_append : (vs ws : List Word) (ps : List Part) → still ps (vs ++ ws) ≡ Goes (still ps vs) ws
still_append [] ws ps = refl
still_append (v ∷ vs) ws ps = by (taking ps v.sort) (λ qs. still_append vs ws qs)
  where
    by : (o : Option Taken) → ((qs : List Part) → still qs (vs ++ ws) ≡ Goes (still qs vs) ws) → go_on_still (λ qs. still qs (vs ++ ws)) o ≡ Goes (go_on_still (λ qs. still qs vs) o) ws
    by None h = refl
    by (Some t) h = h (t.left ++ t.under)

-- words that begin a text are all taken
pub begun_taken : (ws : List Word) → BeginsText ws → still whole_file ws ≡ None → ⊥
begun_taken ws b e =
    let t = (text_taken _ b.1).taken in
    let h = still_append ws b.0 whole_file ∙ ap (λ o. Goes o b.0) e in
    cc

-- ---- the next word

untaken : (before : List Word) (w : Word) (qs : List Part) → still whole_file before ≡ Some qs → taking qs w.sort ≡ None → BeginsText (before ++ w ∷ []) → ⊥
untaken before w qs e n b = begun_taken (before ++ w ∷ []) b (still_append before (w ∷ []) whole_file ∙ ap (λ o. Goes o (w ∷ [])) e ∙ ap (go_on_still (λ ps. still ps [])) n)

follows : (before : List Word) (s : Sort) (qs : List Part) → still whole_file before ≡ Some qs → (is_some (taking qs s) ≡ true) ↔ CanFollow before s
follows before s qs e = (to (taking qs s) refl, from (taking qs s) refl)
  where
    to : (o : Option Taken) → taking qs s ≡ o → is_some o ≡ true → CanFollow before s
    to None k h = absurd (let q : false ≡ true = h in cc)
    to (Some t) k h = (0, begins _ _ (one_more before (word s 0) qs t e k))

    from : (o : Option Taken) → taking qs s ≡ o → CanFollow before s → is_some o ≡ true
    from None k f = absurd (untaken before (word s f.0) qs e k f.1)
    from (Some t) k f = refl

-- ---- the end

ends_empty : (ps : List Part) → may_end ps ≡ true → Spells ps []
ends_empty [] e = refl
ends_empty (p ∷ ps) e = by (may_be_empty p) refl (empty p) (ends_empty ps)
  where
    by : (b : Bool) → may_be_empty p ≡ b → MayBeEmpty p (may_be_empty p) → (may_end ps ≡ true → Spells ps []) → Spells (p ∷ ps) []
    by true k m h = ([], subst (MayBeEmpty p) k m [], h (sym (ap (λ b. if b then may_end ps else false) k) ∙ e))
    by false k m h = absurd (let q = sym (ap (λ b. if b then may_end ps else false) k) ∙ e in cc)

ends : (before : List Word) (qs : List Part) → still whole_file before ≡ Some qs → (may_end qs ≡ true) ↔ IsText before
ends before qs e = (to, from)
  where
    to : may_end qs ≡ true → IsText before
    to m = subst IsText (append-nil before) (text_spelled (before ++ []) (subst (StillBack whole_file before) e (still_back before whole_file) [] (ends_empty qs m)))

    from : IsText before → may_end qs ≡ true
    from t =
        let k = text_taken before t in
        let same : k.parts ≡ qs = (let x = k.taken in let y = e in cc) in
        sym (ap may_end same) ∙ k.empty

-- ---- the classes

pub are_wanted : (before : List Word) (qs : List Part) → still whole_file before ≡ Some qs → AreWanted before (filter (allows qs) classes)
are_wanted before qs e = record {
  test = allows qs;
  listed = refl;
  words = λ s c k. let same : allows qs c ≡ is_some (taking qs s) = subst (ClassLaw qs s) k (class_law qs s) in let f = follows before s qs e in ((λ h. f.0 (sym same ∙ h)), (λ h. same ∙ f.1 h));
  others = λ s k f. let none : taking qs s ≡ None = subst (ClassLaw qs s) k (class_law qs s) in untaken before (word s f.0) qs e none f.1;
  end = ends before qs e;
}

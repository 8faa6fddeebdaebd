-- The walk finds the first fault of words, and so there is one first fault at most.
use Rattle.std.proofs.Common.{◌≡◌, ℕ, Bool, true, false, if◌then◌else◌, List, [], ◌∷◌, ◌++◌, ◌⊎◌, Option, Some, None, inl, inr, refl, sym, ap, ◌∙◌, subst}
use Rattle.std.proofs.lemmas.List.{append-nil}
use Rattle.syntax_grammar.specs.declared.word.Word.{Word}
use Rattle.syntax_grammar.specs.declared.word.Sort.TheVariants as sort
use Rattle.syntax_grammar.specs.declared.refusals.SyntaxRefusal.{SyntaxRefusal}
use Rattle.syntax_grammar.specs.Refusal.{refusal}
use Rattle.syntax_grammar.specs.Bounds.{Limit, limit_refusal}
use Rattle.syntax_grammar.specs.Marked.{Marked, all_fine, file_marked}
use Rattle.syntax_grammar.specs.Next.{Part, Taken, taking, broken, signs_after, go_on, after_taking, fault, may_be_empty, may_end, at_end, whole_file}
use Rattle.syntax_grammar.specs.Phrase.{word, FilePhrase, file_words}
use Rattle.syntax_grammar.specs.Limits.{FileFits}
use Rattle.syntax_grammar.specs.FirstFault.{IsText, GoesOn, IsWithinLimits, IsUnexpected, IsOverLimit, IsFirstFault}
use Rattle.syntax_grammar.proofs.Spells.{Spells, still}
use Rattle.syntax_grammar.proofs.Completed.{MayBeEmpty, empty, still_back, StillBack}
use Rattle.syntax_grammar.proofs.Law.{text_spelled, begins, text_taken, one_more}
use Rattle.syntax_grammar.proofs.FitsFile.{fits, passed_whole}
use Rattle.syntax_grammar.proofs.Marks.{marks, file_marks}
use Rattle.syntax_grammar.proofs.Walk.{State, state, if_within, walk_on, state_after, fault_after, still_after, passed_marks, Reached, marks_passed, Breaking, marks_broken}

-- the walk passes words that break no limit
reached : (before : List Word) (more : List Marked) (g : GoesOn before more) → Reached whole_file 0 (file_words g.phrase []) before more
reached before more g = marks_passed before (file_words g.phrase []) whole_file 0 more (file_marks g.phrase ∙ g.marked)

-- what may be empty is written with no words
ends_empty : (ps : List Part) → may_end ps ≡ true → Spells ps []
ends_empty [] e = refl
ends_empty (p ∷ ps) e = by (may_be_empty p) refl (empty p) (ends_empty ps)
  where
    by : (b : Bool) → may_be_empty p ≡ b → MayBeEmpty p (may_be_empty p) → (may_end ps ≡ true → Spells ps []) → Spells (p ∷ ps) []
    by true k m h = ([], subst (MayBeEmpty p) k m [], h (sym (ap (λ b. if b then may_end ps else false) k) ∙ e))
    by false k m h = absurd (let q = sym (ap (λ b. if b then may_end ps else false) k) ∙ e in cc)

-- words behind which all may be empty are a text
ends_text : (ws : List Word) (qs : List Part) → still whole_file ws ≡ Some qs → may_end qs ≡ true → IsText ws
ends_text ws qs e m = subst IsText (append-nil ws) (text_spelled (ws ++ []) (subst (StillBack whole_file ws) e (still_back ws whole_file) [] (ends_empty qs m)))

module _ (end : ℕ) (e : SyntaxRefusal) where
  -- the walk behind the words that break no limit
  at_unexpected : (before after : List Word) (w : Word) (s : State) → state_after whole_file 0 before ≡ Some s → IsUnexpected before w e → fault end s.parts s.signs (w ∷ after) ≡ Some e
  at_unexpected before after w s r u = by (taking s.parts w.sort) refl
    where
      by : (o : Option Taken) → taking s.parts w.sort ≡ o → after_taking w s.signs (λ qs m. fault end qs m after) o ≡ Some e
      by None k = ap Some (sym u.refusal_is)
      by (Some t) k = absurd (u.none (begins _ _ (one_more before w s.parts t (still_after before whole_file 0 s r) k)))

  at_limit : (before after : List Word) (w : Word) (s : State) (l : Limit) → Breaking s w l → e ≡ limit_refusal l w.at → fault end s.parts s.signs (w ∷ after) ≡ Some e
  at_limit before after w s l b k =
      ap (after_taking w s.signs (λ qs m. fault end qs m after)) b.takes
      ∙ ap (λ o. go_on w o (fault end (b.taker.left ++ b.taker.under) (signs_after b.taker.part s.signs) after)) b.over
      ∙ ap Some (sym k)

  at_word : (before after : List Word) (w : Word) → IsWithinLimits before → IsUnexpected before w e ⊎ IsOverLimit before w e → fault end whole_file 0 (before ++ w ∷ after) ≡ Some e
  at_word before after w i (inl u) =
      let r = reached before i.more i.text in
      fault_after end before (w ∷ after) whole_file 0 r.state r.passed ∙ at_unexpected before after w r.state r.passed u
  at_word before after w i (inr o) =
      let r = reached before _ o.breaks.text in
      let b = marks_broken r.state w r.rest o.limit o.breaks.more r.marked in
      fault_after end before (w ∷ after) whole_file 0 r.state r.passed ∙ at_limit before after w r.state o.limit b o.refusal_is

  behind_all : (ws : List Word) (s : State) → state_after whole_file 0 ws ≡ Some s → (IsText ws → ⊥) → e ≡ refusal (word sort.End end) → fault end s.parts s.signs [] ≡ Some e
  behind_all ws s r u f = by (may_end s.parts) refl
    where
      by : (b : Bool) → may_end s.parts ≡ b → at_end end b ≡ Some e
      by true k = absurd (u (ends_text ws s.parts (still_after ws whole_file 0 s r) k))
      by false k = ap Some (sym f)

  -- the walk finds the first fault
  pub first_found : (ws : List Word) → IsFirstFault end ws e → fault end whole_file 0 ws ≡ Some e
  first_found ws (inl f) = ap (fault end whole_file 0) f.words_are ∙ at_word f.before f.after f.at f.within f.fault
  first_found ws (inr f) =
      let r = reached ws f.within.more f.within.text in
      ap (fault end whole_file 0) (sym (append-nil ws)) ∙ fault_after end ws [] whole_file 0 r.state r.passed ∙ behind_all ws r.state r.passed f.unfinished f.fault

-- words have one first fault at most
pub one_first_fault : (end : ℕ) (ws : List Word) (d e : SyntaxRefusal) → IsFirstFault end ws d → IsFirstFault end ws e → d ≡ e
one_first_fault end ws d e f g = let h = sym (first_found end d ws f) ∙ first_found end e ws g in cc

-- ---- a file is within the limits exactly where no word of it breaks one

-- the walk passes words in which it finds no fault
passed_all : (end : ℕ) (ws : List Word) (ps : List Part) (n : ℕ) → fault end ps n ws ≡ None → (s : State) × (state_after ps n ws ≡ Some s)
passed_all end [] ps n e = (state ps n, refl)
passed_all end (w ∷ ws) ps n e = by (taking ps w.sort) e (λ qs m. passed_all end ws qs m)
  where
    within : (t : Taken) (l : Option Limit) → go_on w l (fault end (t.left ++ t.under) (signs_after t.part n) ws) ≡ None → (fault end (t.left ++ t.under) (signs_after t.part n) ws ≡ None → (s : State) × (state_after (t.left ++ t.under) (signs_after t.part n) ws ≡ Some s)) → (s : State) × (if_within l (state_after (t.left ++ t.under) (signs_after t.part n) ws) ≡ Some s)
    within t None h ih = ih h
    within t (Some l) h ih = absurd (cc)

    by : (o : Option Taken) → after_taking w n (λ qs m. fault end qs m ws) o ≡ None → ((qs : List Part) (m : ℕ) → fault end qs m ws ≡ None → (s : State) × (state_after qs m ws ≡ Some s)) → (s : State) × (walk_on n w (λ qs m. state_after qs m ws) o ≡ Some s)
    by None h ih = absurd (cc)
    by (Some t) h ih = within t (broken t.part t.under n w.sort) h (ih (t.left ++ t.under) (signs_after t.part n))

pub fits_fine : (p : FilePhrase) → FileFits p → file_marked p ≡ all_fine (file_words p []) []
fits_fine p h =
    let ws = file_words p [] in
    let s = passed_all 0 ws whole_file 0 (passed_whole 0 p h) in
    sym (file_marks p) ∙ ap (marks whole_file 0) (sym (append-nil ws)) ∙ passed_marks ws [] whole_file 0 s.0 s.1

pub fine_fits : (p : FilePhrase) → file_marked p ≡ all_fine (file_words p []) [] → FileFits p
fine_fits p e =
    let ws = file_words p [] in
    let r = marks_passed ws ws whole_file 0 [] (file_marks p ∙ e) in
    let t = text_taken ws (p, refl) in
    let same : r.state.parts ≡ t.parts = (let x = still_after ws whole_file 0 r.state r.passed in let y = t.taken in cc) in
    let last : at_end 0 (may_end r.state.parts) ≡ None = ap (λ qs. at_end 0 (may_end qs)) same ∙ ap (at_end 0) t.empty in
    fits 0 p (ap (fault 0 whole_file 0) (sym (append-nil ws)) ∙ fault_after 0 ws [] whole_file 0 r.state r.passed ∙ last)

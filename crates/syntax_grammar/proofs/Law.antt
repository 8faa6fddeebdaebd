-- The fault that the walk finds is the first fault of the grammar or of its limits.
use Rattle.std.proofs.Common.{◌≡◌, ℕ, Bool, true, false, List, [], ◌∷◌, ◌++◌, Option, Some, None, inl, inr, refl, sym, ap, ◌∙◌, subst, append_assoc}
use Rattle.std.proofs.lemmas.List.{append-nil}
use Rattle.syntax_grammar.specs.declared.word.Word.{Word}
use Rattle.syntax_grammar.specs.declared.word.Sort.TheVariants as sort
use Rattle.syntax_grammar.specs.declared.refusals.SyntaxRefusal.{SyntaxRefusal}
use Rattle.syntax_grammar.specs.Refusal.{refusal}
use Rattle.syntax_grammar.specs.Bounds.{Limit, limit_refusal}
use Rattle.syntax_grammar.specs.Marked.{all_fine}
use Rattle.syntax_grammar.specs.Next.{Part, Taken, taking, broken, signs_after, go_on, after_taking, fault, may_end, at_end, whole_file}
use Rattle.syntax_grammar.specs.Phrase.{word, a_file, tables_words, handlers_words}
use Rattle.syntax_grammar.specs.FirstFault.{IsText, BeginsText, BeginsFileWithin, IsWithinLimits, Breaks, IsFirstFault}
use Rattle.syntax_grammar.proofs.Spells.{Spells, still, go_on_still}
use Rattle.syntax_grammar.proofs.Completed.{can_end}
use Rattle.syntax_grammar.proofs.TakesFile.{Ended, file_taken}
use Rattle.syntax_grammar.proofs.FitsFile.{passed_whole}
use Rattle.syntax_grammar.proofs.Marks.{marks, file_marks}
use Rattle.syntax_grammar.proofs.Walk.{State, state, state_after, one_further, fault_after, still_after, passed_marks, Breaking, marked_breaking}

pub text_spelled : (ws : List Word) → Spells whole_file ws → IsText ws
text_spelled ws h = (a_file h.1.0 h.2.1.0, h.1.1 ∙ ap (tables_words h.1.0) (h.2.1.1 ∙ ap (handlers_words h.2.1.0) h.2.2))

-- words that are all taken begin a text
pub begins : (ws : List Word) (qs : List Part) → still whole_file ws ≡ Some qs → BeginsText ws
begins ws qs e = let c = can_end whole_file ws qs e in (c.0, text_spelled (ws ++ c.0) c.1)

abbrev Goes : Option (List Part) → List Word → Option (List Part)
Goes None ws = None
Goes (Some qs) ws = still qs ws

still_append : (vs ws : List Word) (ps : List Part) → still ps (vs ++ ws) ≡ Goes (still ps vs) ws
still_append [] ws ps = refl
still_append (v ∷ vs) ws ps = by (taking ps v.sort) (λ qs. still_append vs ws qs)
  where
    by : (o : Option Taken) → ((qs : List Part) → still qs (vs ++ ws) ≡ Goes (still qs vs) ws) → go_on_still (λ qs. still qs (vs ++ ws)) o ≡ Goes (go_on_still (λ qs. still qs vs) o) ws
    by None h = refl
    by (Some t) h = h (t.left ++ t.under)

-- a text is taken
pub text_taken : (ws : List Word) → IsText ws → Ended ws
text_taken ws t = subst Ended (sym t.1) (file_taken t.0)

-- a word that isn't taken begins no text
pub none_begins : (before : List Word) (w : Word) (qs : List Part) → still whole_file before ≡ Some qs → taking qs w.sort ≡ None → BeginsText (before ++ w ∷ []) → ⊥
none_begins before w qs e n b =
    let t = (text_taken _ b.1).taken in
    let h = still_append before (w ∷ b.0) whole_file ∙ ap (λ o. Goes o (w ∷ b.0)) e ∙ ap (go_on_still (λ ps. still ps b.0)) n in
    let g = ap (still whole_file) (append_assoc before (w ∷ []) b.0) in
    cc

pub one_more : (before : List Word) (w : Word) (qs : List Part) (t : Taken) → still whole_file before ≡ Some qs → taking qs w.sort ≡ Some t → still whole_file (before ++ w ∷ []) ≡ Some (t.left ++ t.under)
one_more before w qs t e n = still_append before (w ∷ []) whole_file ∙ ap (λ o. Goes o (w ∷ [])) e ∙ ap (go_on_still (λ ps. still ps [])) n

-- ---- limits

-- words that the walk passes break no limit
passed_within : (before : List Word) (s : State) → state_after whole_file 0 before ≡ Some s → BeginsText before → IsWithinLimits before
passed_within before s e b = record {
  more = marks s.parts s.signs b.0;
  text = record {
    phrase = b.1.0;
    marked = sym (file_marks b.1.0) ∙ ap (marks whole_file 0) (sym b.1.1) ∙ passed_marks before b.0 whole_file 0 s e;
  };
}

-- and a word behind them that the walk refuses for a limit breaks it
breaks_limit : (before : List Word) (w : Word) (l : Limit) (s : State) → state_after whole_file 0 before ≡ Some s → Breaking s w l → BeginsText (before ++ w ∷ []) → Breaks before w l
breaks_limit before w l s e k b = record {
  more = marks (k.taker.left ++ k.taker.under) (signs_after k.taker.part s.signs) b.0;
  text = record {
    phrase = b.1.0;
    marked =
        sym (file_marks b.1.0)
        ∙ ap (marks whole_file 0) (sym b.1.1 ∙ append_assoc before (w ∷ []) b.0)
        ∙ passed_marks before (w ∷ b.0) whole_file 0 s e
        ∙ ap (all_fine before) (marked_breaking s w b.0 l k);
  };
}

-- a word that breaks a limit stands in no file within the limits
none_within : (before : List Word) (w : Word) (limit : Limit) (s : State) → state_after whole_file 0 before ≡ Some s → Breaking s w limit → BeginsFileWithin (before ++ w ∷ []) → ⊥
none_within before w limit s e b f =
    let text = append_assoc before (w ∷ []) f.1 in
    let none = ap (fault 0 whole_file 0) (sym text ∙ f.2) ∙ passed_whole 0 f.0 f.3 in
    let here = fault_after 0 before (w ∷ f.1) whole_file 0 s e in
    let at = ap (after_taking w s.signs (λ qs m. fault 0 qs m f.1)) b.takes ∙ ap (λ l. go_on w l (fault 0 (b.taker.left ++ b.taker.under) (signs_after b.taker.part s.signs) f.1)) b.over in
    cc

-- ---- the first fault

module _ (end : ℕ) (e : SyntaxRefusal) where
  first_from : (ws before : List Word) (qs : List Part) (n : ℕ) → state_after whole_file 0 before ≡ Some (state qs n) → fault end qs n ws ≡ Some e → IsFirstFault end (before ++ ws) e
  first_from [] before qs n s f = at_last (may_end qs) refl f
    where
      at_last : (b : Bool) → may_end qs ≡ b → at_end end b ≡ Some e → IsFirstFault end (before ++ []) e
      at_last true m g = cc
      at_last false m g =
          let h = append-nil before in
          inr (record {
            begun = subst BeginsText (sym h) (begins before qs (still_after before whole_file 0 (state qs n) s));
            unfinished = λ t. let k = text_taken before (subst IsText h t) in let q : k.parts ≡ qs = (let x = k.taken in let y = (still_after before whole_file 0 (state qs n) s) in cc) in let j : may_end qs ≡ true = ap may_end (sym q) ∙ k.empty in cc;
            within = subst IsWithinLimits (sym h) (passed_within before (state qs n) s (begins before qs (still_after before whole_file 0 (state qs n) s)));
            fault = let q : e ≡ refusal (word sort.End end) = cc in q;
          })
  first_from (w ∷ ws) before qs n s f = at_taken (taking qs w.sort) refl f (λ ps m so. first_from ws (before ++ w ∷ []) ps m so)
    where
      at_go : (t : Taken) (l : Option Limit) → taking qs w.sort ≡ Some t → broken t.part t.under n w.sort ≡ l → go_on w l (fault end (t.left ++ t.under) (signs_after t.part n) ws) ≡ Some e → ((ps : List Part) (m : ℕ) → state_after whole_file 0 (before ++ w ∷ []) ≡ Some (state ps m) → fault end ps m ws ≡ Some e → IsFirstFault end ((before ++ w ∷ []) ++ ws) e) → IsFirstFault end (before ++ w ∷ ws) e
      at_go t (Some l) k b g ih =
          inl (record {
            before = before;
            at = w;
            after = ws;
            words_are = refl;
            begun = begins before qs (still_after before whole_file 0 (state qs n) s);
            within = passed_within before (state qs n) s (begins before qs (still_after before whole_file 0 (state qs n) s));
            fault =
                let breaking : Breaking (state qs n) w l = record { taker = t; takes = k; over = b } in
                let begun : BeginsText (before ++ w ∷ []) = begins _ _ (one_more before w qs t (still_after before whole_file 0 (state qs n) s) k) in
                inr (record {
                  begun = begun;
                  none_within = none_within before w l (state qs n) s breaking;
                  limit = l;
                  breaks = breaks_limit before w l (state qs n) s breaking begun;
                  refusal_is = (let q : e ≡ limit_refusal l w.at = cc in q);
                });
          })
      at_go t None k b g ih =
          subst (λ v. IsFirstFault end v e) (append_assoc before (w ∷ []) ws)
          (ih (t.left ++ t.under) (signs_after t.part n) (one_further before w whole_file qs 0 n t s k b) g)

      at_taken : (o : Option Taken) → taking qs w.sort ≡ o → after_taking w n (λ ps m. fault end ps m ws) o ≡ Some e → ((ps : List Part) (m : ℕ) → state_after whole_file 0 (before ++ w ∷ []) ≡ Some (state ps m) → fault end ps m ws ≡ Some e → IsFirstFault end ((before ++ w ∷ []) ++ ws) e) → IsFirstFault end (before ++ w ∷ ws) e
      at_taken None k g ih =
          inl (record {
            before = before;
            at = w;
            after = ws;
            words_are = refl;
            begun = begins before qs (still_after before whole_file 0 (state qs n) s);
            within = passed_within before (state qs n) s (begins before qs (still_after before whole_file 0 (state qs n) s));
            fault = inl (record { none = none_begins before w qs (still_after before whole_file 0 (state qs n) s) k; refusal_is = (let q : e ≡ refusal w = cc in q) });
          })
      at_taken (Some t) k g ih = at_go t (broken t.part t.under n w.sort) k refl g ih

  -- the fault of the walk over a whole text is its first fault
  pub first_fault : (ws : List Word) → fault end whole_file 0 ws ≡ Some e → IsFirstFault end ws e
  first_fault ws f = first_from ws [] whole_file 0 refl f

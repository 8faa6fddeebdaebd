-- What the walk finds stands at the place, and what it doesn't find doesn't.
use Rattle.std.proofs.Common.{◌≡◌, ℕ, Bool, true, false, if◌then◌else◌, ◌==◌, List, [], ◌∷◌, ◌++◌, Option, Some, None, Result, Ok, Err, IfOk, IsErrAnd, length, refl, sym, ap, ◌∙◌, subst, append_assoc, eq-eqb, arith}
use Rattle.std.proofs.lemmas.Bool.Decides.{nat_tests}
use Rattle.syntax_grammar.specs.declared.word.Sort.{Sort}
use Rattle.syntax_grammar.specs.Words.{words_of}
use Rattle.syntax_grammar.specs.declared.word.Sort.TheVariants as sort
use Rattle.syntax_grammar.specs.declared.word.Word.{Word}
use Rattle.syntax_grammar.specs.Phrase.{word}
use Rattle.syntax_grammar.specs.Next.{Part, Taken, taking, whole_file}
use Rattle.syntax_grammar.proofs.Spells.{still, go_on_still}
use Rattle.syntax_grammar.proofs.Law.{begins, one_more}
use Rattle.refusal_advice.specs.Following.{AreWanted, IsStopAt, all_words, last_of}
use Rattle.refusal_advice.specs.Walk.{IsFound, IsStopIn, Place, place_of, whole, behind_taken, found_in}
use Rattle.refusal_advice.proofs.Following.{are_wanted, begun_taken}
use Rattle.refusal_advice.specs.declared.stop.Stop.{Stop}

equal : (a b : ℕ) → (a == b) ≡ true → a ≡ b
equal a b h = grind (arith, nat_tests, h)

last_more : (before : List Word) (w : Word) → last_of (before ++ w ∷ []) ≡ Some w.sort
last_more [] w = refl
last_more (v ∷ []) w = refl
last_more (v ∷ u ∷ ws) w = last_more (u ∷ ws) w

-- the words before what was found, all taken
pub record Reached (at : ℕ) (ws : List Word) (p : Place) : Type 0 where
  pub before : List Word
  pub after : List Word
  pub whole : ws ≡ before ++ p.word ∷ after
  pub place : p.word.at ≡ at
  pub taken : still whole_file before ≡ Some p.parts
  pub last : p.last ≡ last_of before

pub reached : (at : ℕ) (before ws : List Word) (ps : List Part) (p : Place) → still whole_file before ≡ Some ps → found_in at (last_of before) ps ws ≡ Some p → Reached at (before ++ ws) p
reached at before [] ps p e f = absurd (cc)
reached at before (w ∷ ws) ps p e f = by (w.at == at) refl f (λ qs k g. reached at (before ++ w ∷ []) ws qs p k g)
  where
    on : (o : Option Taken) → taking ps w.sort ≡ o → behind_taken (λ qs. found_in at (Some w.sort) qs ws) o ≡ Some p → ((qs : List Part) → still whole_file (before ++ w ∷ []) ≡ Some qs → found_in at (last_of (before ++ w ∷ [])) qs ws ≡ Some p → Reached at ((before ++ w ∷ []) ++ ws) p) → Reached at (before ++ w ∷ ws) p
    on None k g ih = absurd (cc)
    on (Some t) k g ih = subst (λ l. Reached at l p) (append_assoc before (w ∷ []) ws) (ih (t.left ++ t.under) (one_more before w ps t e k) (ap (λ l. found_in at l (t.left ++ t.under) ws) (last_more before w) ∙ g))

    by : (b : Bool) → (w.at == at) ≡ b → (if b then Some (place_of w (last_of before) ps) else behind_taken (λ qs. found_in at (Some w.sort) qs ws) (taking ps w.sort)) ≡ Some p → ((qs : List Part) → still whole_file (before ++ w ∷ []) ≡ Some qs → found_in at (last_of (before ++ w ∷ [])) qs ws ≡ Some p → Reached at ((before ++ w ∷ []) ++ ws) p) → Reached at (before ++ w ∷ ws) p
    by true k g ih =
        let same : p ≡ place_of w (last_of before) ps = cc in
        record {
          before = before;
          after = ws;
          whole = ap (λ (q : Place). before ++ q.word ∷ ws) (sym same);
          place = ap (λ (q : Place). q.word.at) same ∙ equal w.at at k;
          taken = e ∙ ap (λ (q : Place). Some q.parts) (sym same);
          last = ap (λ (q : Place). q.last) same;
        }
    by false k g ih = on (taking ps w.sort) refl g ih

-- where nothing is found, no word stands at the place behind words that are taken
pub missed : (at : ℕ) (b : List Word) (w : Word) (after : List Word) (last : Option Sort) (ps : List Part) → w.at ≡ at → (still ps b ≡ None → ⊥) → found_in at last ps (b ++ w ∷ after) ≡ None → ⊥
missed at [] w after last ps h s f = by (w.at == at) (eq-eqb w.at at h) f
  where
    by : (c : Bool) → c ≡ true → (if c then Some (place_of w last ps) else behind_taken (λ qs. found_in at (Some w.sort) qs after) (taking ps w.sort)) ≡ None → ⊥
    by true k g = cc
    by false k g = absurd (cc)
missed at (x ∷ b) w after last ps h s f = by (x.at == at) f (λ qs k g. missed at b w after (Some x.sort) qs h k g)
  where
    on : (o : Option Taken) → (go_on_still (λ qs. still qs b) o ≡ None → ⊥) → behind_taken (λ qs. found_in at (Some x.sort) qs (b ++ w ∷ after)) o ≡ None → ((qs : List Part) → (still qs b ≡ None → ⊥) → found_in at (Some x.sort) qs (b ++ w ∷ after) ≡ None → ⊥) → ⊥
    on None k g ih = k refl
    on (Some t) k g ih = ih (t.left ++ t.under) k g

    by : (c : Bool) → (if c then Some (place_of x last ps) else behind_taken (λ qs. found_in at (Some x.sort) qs (b ++ w ∷ after)) (taking ps x.sort)) ≡ None → ((qs : List Part) → (still qs b ≡ None → ⊥) → found_in at (Some x.sort) qs (b ++ w ∷ after) ≡ None → ⊥) → ⊥
    by true g ih = cc
    by false g ih = on (taking ps x.sort) s g ih

-- ---- what the walk tells

last_front : last_of [] ≡ None
last_front = refl

pub told : (source : List ℕ) (at : ℕ) (r : Option Stop) → IsStopIn (found_in at None whole (all_words source)) r → IsStopAt source at r
told source at None e = λ before w s. missed at before w s.after None whole_file s.place (begun_taken before s.begun) (ap (found_in at None whole_file) (sym s.whole) ∙ e)
told source at (Some s) e =
    let r = reached at [] (all_words source) whole_file (place_of s.word s.last e.0) refl e.1 in
    record {
      before = r.before;
      stands = record { after = r.after; whole = r.whole; place = r.place; begun = begins r.before e.0 r.taken };
      last = r.last;
      wanted = subst (AreWanted r.before) (sym e.2) (are_wanted r.before e.0 r.taken);
    }

pub told_ok : {E : Type 0} (source : List ℕ) (at : ℕ) (r : Result (Option Stop) E) → IfOk r (IsStopIn (found_in at None whole (all_words source))) → IfOk r (IsStopAt source at)
told_ok source at (Ok s) e = told source at s e
told_ok source at (Err x) e = tt

-- what the reader has before its first word
pub read : (at : ℕ) (source : List ℕ) (names : List (List ℕ)) (ws : List Word) (end : ℕ) (ps : List Part) → ws ≡ words_of names source → names ≡ [] → end ≡ length source → ps ≡ whole
    → found_in at None whole (all_words source) ≡ found_in at None ps (ws ++ word sort.End end ∷ [])
read at source names ws end ps w n e p =
    ap (λ qs. found_in at None qs (all_words source)) (sym p)
    ∙ ap (λ ms. found_in at None ps (words_of ms source ++ word sort.End (length source) ∷ [])) (sym n)
    ∙ ap (λ k. found_in at None ps (words_of names source ++ word sort.End k ∷ [])) (sym e)
    ∙ ap (λ vs. found_in at None ps (vs ++ word sort.End end ∷ [])) (sym w)

-- what holds of a success holds where there is none
pub failed : {T E : Type 0} (P : T → Type 0) (Q : E → Type 0) (r : Result T E) → IsErrAnd r Q → IfOk r P
failed P Q (Ok v) h = absurd h
failed P Q (Err x) h = tt

pub found_some : (o : Option Place) (ps : List Part) (f : Option (Word × Option Sort)) (w : Word) (last : Option Sort) → IsFound o ps f → f ≡ Some (w, last) → o ≡ Some (place_of w last ps)
found_some o ps f w last h e = subst (IsFound o ps) e h

pub found_none : (o : Option Place) (ps : List Part) (f : Option (Word × Option Sort)) → IsFound o ps f → f ≡ None → o ≡ None
found_none o ps f h e = subst (IsFound o ps) e h

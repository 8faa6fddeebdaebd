-- One word of the parser against the definition of what may come next, and how steps follow each other.
use Rattle.std.specs.Prelude.{if◌then◌else◌}
use Rattle.std.proofs.Common.{◌≡◌, ℕ, true, false, List, [], ◌∷◌, ◌++◌, Some, None, length, drop, refl, sym, ap, ◌∙◌, subst, arith, append_assoc}
use Rattle.syntax_grammar.specs.declared.word.Word.{Word}
use Rattle.syntax_grammar.specs.declared.word.Sort.{Sort}
use Rattle.syntax_grammar.specs.declared.word.Sort.TheVariants as sort
use Rattle.syntax_grammar.specs.Words.{first_word}
use Rattle.syntax_grammar.specs.Phrase.{word}
use Rattle.syntax_parser.specs.declared.input.Input.{Input}
use Rattle.syntax_grammar.specs.declared.refusals.SyntaxRefusal.{SyntaxRefusal}
use Rattle.syntax_grammar.specs.Refusal.{refusal}
use Rattle.syntax_grammar.specs.Bounds.{Limit, limit_refusal}
use Rattle.syntax_grammar.specs.Next.{Part, row, taking, at_top, or_below, broken, signs_after, go_on, after_taking, fault, may_be_empty, may_end, at_end}
use Rattle.syntax_grammar.proofs.Taken.{taken}
use Rattle.syntax_parser.specs.Reads.{HasNoEnd, fault_at, Refused, Passed}

-- ---- one word against the walk

-- a word that breaks a limit
pub limited : (end : ℕ) (p : Part) (left under : List Part) (signs : ℕ) (w : Word) (ws : List Word) (l : Limit) → row p w.sort ≡ Some left → broken p under signs w.sort ≡ Some l → fault end (p ∷ under) signs (w ∷ ws) ≡ Some (limit_refusal l w.at)
limited end p left under signs w ws l r b =
    ap (λ o. after_taking w signs (λ ps n. fault end ps n ws) (at_top p under o (taking under w.sort))) r
    ∙ ap (λ x. go_on w x (fault end (left ++ under) (signs_after p signs) ws)) b

-- a word that a part doesn't take
untaken : (end : ℕ) (p : Part) (under : List Part) (signs : ℕ) (w : Word) (ws : List Word) → row p w.sort ≡ None → may_be_empty p ≡ false → fault end (p ∷ under) signs (w ∷ ws) ≡ Some (refusal w)
untaken end p under signs w ws r m =
    ap (λ o. after_taking w signs (λ ps n. fault end ps n ws) (at_top p under o (taking under w.sort))) r
    ∙ ap (λ x. after_taking w signs (λ ps n. fault end ps n ws) (or_below x (taking under w.sort))) m

-- a part that may be empty, where no row of it has the word in hand
pub skipped : (end : ℕ) (p : Part) (under : List Part) (signs : ℕ) (ws : List Word) → may_be_empty p ≡ true → row p (first_word end ws).sort ≡ None → fault end (p ∷ under) signs ws ≡ fault end under signs ws
skipped end p under signs [] m r = ap (λ b. at_end end (if b then may_end under else false)) m
skipped end p under signs (w ∷ ws) m r =
    ap (λ o. after_taking w signs (λ ps n. fault end ps n ws) (at_top p under o (taking under w.sort))) r
    ∙ ap (λ x. after_taking w signs (λ ps n. fault end ps n ws) (or_below x (taking under w.sort))) m

-- ---- what a call that takes one word does

-- the word in hand, which isn't the end, was taken
pub took : (end : ℕ) (ws new : List Word) (w : Word) (s : Sort) → w ≡ first_word end ws → w.sort ≡ s → (s ≡ sort.End → ⊥) → new ≡ drop 1 ws → ws ≡ word s w.at ∷ new
took end [] new w s p q n d = absurd (n (sym q ∙ ap (λ x. x.sort) p))
took end (x ∷ xs) new w s p q n d =
    ap (λ l. x ∷ l) (sym d) ∙ ap (λ y. y ∷ new) (sym p) ∙ ap (λ y. word y w.at ∷ new) q

pub passed_one : (U : List Part → Type 0) (old new : Input) (p : Part) (left : List Part) (w : Word) → old.reader.words ≡ w ∷ new.reader.words → new.reader.end ≡ old.reader.end → new.signs ≡ signs_after p old.signs → row p w.sort ≡ Some left → ((under : List Part) → U under → broken p under old.signs w.sort ≡ None) → Passed U (p ∷ []) left old new
passed_one U old new p left w ws e n r b = record {
  end_same = e;
  no_longer = omega (arith, ap length ws);
  no_end = λ h. (subst HasNoEnd ws h).1;
  fault_same = λ under h.
      ap (λ l. fault old.reader.end (p ∷ under) old.signs l) ws
      ∙ taken old.reader.end p left under old.signs w new.reader.words r (b under h)
      ∙ ap (λ k. fault k (left ++ under) (signs_after p old.signs) new.reader.words) (sym e)
      ∙ ap (λ k. fault new.reader.end (left ++ under) k new.reader.words) (sym n);
}

-- the word in hand, of a sort that the part takes, was taken
pub passed_word : (U : List Part → Type 0) (old new : Input) (p : Part) (left : List Part) (w : Word) (s : Sort) → w ≡ first_word old.reader.end old.reader.words → w.sort ≡ s → (s ≡ sort.End → ⊥) → new.reader.words ≡ drop 1 old.reader.words → new.reader.end ≡ old.reader.end → new.signs ≡ signs_after p old.signs → row p s ≡ Some left → ((under : List Part) → U under → broken p under old.signs s ≡ None) → Passed U (p ∷ []) left old new
passed_word U old new p left w s f q n d e g r b = passed_one U old new p left (word s w.at) (took _ _ _ w s f q n d) e g r b

-- no part takes the word in hand, or none is left
pub refused_none : (U : List Part → Type 0) (p : Part) (ps : List Part) (old : Input) (w : Word) → w ≡ first_word old.reader.end old.reader.words → may_be_empty p ≡ false → row p w.sort ≡ None → Refused U (p ∷ ps) old (refusal w)
refused_none U p ps old w e m r = record {
  fault_is = λ under h. at_none old.reader.end p (ps ++ under) old.signs old.reader.words m (ap (λ x. row p x.sort) (sym e) ∙ r) ∙ ap (λ x. Some (refusal x)) (sym e);
}
  where
    at_none : (end : ℕ) (p : Part) (under : List Part) (signs : ℕ) (ws : List Word) → may_be_empty p ≡ false → row p (first_word end ws).sort ≡ None → fault end (p ∷ under) signs ws ≡ Some (refusal (first_word end ws))
    at_none end p under signs [] m r = ap (λ b. at_end end (if b then may_end under else false)) m
    at_none end p under signs (w ∷ ws) m r = untaken end p under signs w ws r m

-- a word that breaks a limit
pub refused_limit : (U : List Part → Type 0) (p : Part) (ps left : List Part) (old : Input) (w : Word) (ws : List Word) (l : Limit) → old.reader.words ≡ w ∷ ws → row p w.sort ≡ Some left → ((under : List Part) → U under → broken p (ps ++ under) old.signs w.sort ≡ Some l) → Refused U (p ∷ ps) old (limit_refusal l w.at)
refused_limit U p ps left old w ws l e r b = record {
  fault_is = λ under h. ap (λ k. fault old.reader.end (p ∷ (ps ++ under)) old.signs k) e ∙ limited old.reader.end p left (ps ++ under) old.signs w ws l r (b under h);
}

-- a word of a sort other than the end stands at the front of the words
pub in_front : (end : ℕ) (ws : List Word) (w : Word) (s : Sort) → w ≡ first_word end ws → w.sort ≡ s → (s ≡ sort.End → ⊥) → ws ≡ word s w.at ∷ drop 1 ws
in_front end ws w s e q n = took end ws (drop 1 ws) w s e q n refl

pub passed_empty : (U : List Part → Type 0) (p : Part) (ps : List Part) (a : Input) (w : Word) → w ≡ first_word a.reader.end a.reader.words → may_be_empty p ≡ true → row p w.sort ≡ None → Passed U (p ∷ ps) ps a a
passed_empty U p ps a w e m r = record {
  end_same = refl;
  no_longer = omega arith;
  no_end = λ h. h;
  fault_same = λ under h. skipped a.reader.end p (ps ++ under) a.signs a.reader.words m (ap (λ x. row p x.sort) (sym e) ∙ r);
}

-- ---- joining

pub passed_same : {U : List Part → Type 0} {ps : List Part} {a : Input} → Passed U ps ps a a
passed_same = record { end_same = refl; no_longer = omega arith; no_end = λ h. h; fault_same = λ under h. refl }

pub passed_then : {U : List Part → Type 0} {ps qs rs : List Part} {a b d : Input} → Passed U ps qs a b → Passed U qs rs b d → Passed U ps rs a d
passed_then f g = record {
  end_same = g.end_same ∙ f.end_same;
  no_longer = omega (arith, f.no_longer, g.no_longer);
  no_end = λ h. g.no_end (f.no_end h);
  fault_same = λ under h. f.fault_same under h ∙ g.fault_same under h;
}

pub refused_after : {U : List Part → Type 0} {ps qs : List Part} {a b : Input} {e : SyntaxRefusal} → Passed U ps qs a b → Refused U qs b e → Refused U ps a e
refused_after f g = record { fault_is = λ under h. f.fault_same under h ∙ g.fault_is under h }

-- more parts behind
pub passed_framed : {U U' : List Part → Type 0} {ps qs : List Part} {a b : Input} (rs : List Part) → ((under : List Part) → U under → U' (rs ++ under)) → Passed U' ps qs a b → Passed U (ps ++ rs) (qs ++ rs) a b
passed_framed {ps = ps} {qs} {a} {b} rs k f = record {
  end_same = f.end_same;
  no_longer = f.no_longer;
  no_end = f.no_end;
  fault_same = λ under h.
      ap (fault_at a) (append_assoc ps rs under)
      ∙ f.fault_same (rs ++ under) (k under h)
      ∙ ap (fault_at b) (sym (append_assoc qs rs under));
}

pub refused_framed : {U U' : List Part → Type 0} {ps : List Part} {a : Input} {e : SyntaxRefusal} (rs : List Part) → ((under : List Part) → U under → U' (rs ++ under)) → Refused U' ps a e → Refused U (ps ++ rs) a e
refused_framed {ps = ps} {a = a} rs k f = record {
  fault_is = λ under h. ap (fault_at a) (append_assoc ps rs under) ∙ f.fault_is (rs ++ under) (k under h);
}

pub refused_is : {U : List Part → Type 0} {ps : List Part} {a : Input} {e f : SyntaxRefusal} → e ≡ f → Refused U ps a f → Refused U ps a e
refused_is q r = record { fault_is = λ under h. r.fault_is under h ∙ ap Some (sym q) }

-- a look at the next word changes nothing
pub passed_still : {U : List Part → Type 0} {ps : List Part} {a b : Input} → b.reader.words ≡ a.reader.words → b.reader.end ≡ a.reader.end → b.signs ≡ a.signs → Passed U ps ps a b
passed_still {ps = ps} {a} {b} w e n = record {
  end_same = e;
  no_longer = omega (arith, ap length w);
  no_end = λ h. subst HasNoEnd (sym w) h;
  fault_same = λ under h.
      ap (λ k. fault k (ps ++ under) a.signs a.reader.words) (sym e)
      ∙ ap (λ l. fault b.reader.end (ps ++ under) a.signs l) (sym w)
      ∙ ap (λ k. fault b.reader.end (ps ++ under) k b.reader.words) (sym n);
}

-- a part that may be empty, where the word that was looked at doesn't begin it
pub passed_over : (U : List Part → Type 0) (p : Part) (ps : List Part) (a b : Input) (w : Word) → w ≡ first_word a.reader.end a.reader.words → b.reader.words ≡ a.reader.words → b.reader.end ≡ a.reader.end → b.signs ≡ a.signs → may_be_empty p ≡ true → row p w.sort ≡ None → Passed U (p ∷ ps) ps a b
passed_over U p ps a b w f s e n m r = passed_then (passed_empty U p ps a w f m r) (passed_still s e n)

-- a word that was looked at is then taken
pub took_seen : (a b d : Input) (w : Word) (s : Sort) → w ≡ first_word a.reader.end a.reader.words → b.reader.words ≡ a.reader.words → w.sort ≡ s → (s ≡ sort.End → ⊥) → d.reader.words ≡ drop 1 b.reader.words → a.reader.words ≡ word s w.at ∷ d.reader.words
took_seen a b d w s e k q n h = took a.reader.end a.reader.words d.reader.words w s e q n (h ∙ ap (drop 1) k)

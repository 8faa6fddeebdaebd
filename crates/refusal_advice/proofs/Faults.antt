-- A first fault stands at its place.
use Rattle.std.proofs.Common.{◌≡◌, ℕ, List, [], ◌∷◌, ◌++◌, ◌⊎◌, inl, inr, length, refl, sym, ap, ◌∙◌, append_assoc}
use Rattle.syntax_grammar.specs.Words.{words_of}
use Rattle.syntax_grammar.specs.declared.word.Sort.{Sort}
use Rattle.syntax_grammar.specs.declared.word.Sort.TheVariants as sort
use Rattle.syntax_grammar.specs.declared.word.Word.{Word}
use Rattle.syntax_grammar.specs.Bounds.{Limit, limit_refusal, number_size, block_depth, open_parentheses, operator_signs}
use Rattle.syntax_grammar.specs.FirstFault.{IsUnexpected, IsOverLimit}
use Rattle.syntax_grammar.specs.Parsed.{HasFault}
use Rattle.syntax_grammar.specs.Phrase.{word}
use Rattle.syntax_grammar.specs.Refusal.{refusal_of}
use Rattle.syntax_grammar.specs.declared.refusals.SyntaxRefusal.{SyntaxRefusal}
use Rattle.refusal_advice.specs.Advice.{NoneStands, fault_place}

refused_there : (s : Sort) (at : ℕ) → fault_place (refusal_of s at) ≡ at
refused_there sort.Bad at = refl
refused_there sort.Long at = refl
refused_there _ at = refl

over_there : (l : Limit) (at : ℕ) → fault_place (limit_refusal l at) ≡ at
over_there number_size at = refl
over_there block_depth at = refl
over_there open_parentheses at = refl
over_there operator_signs at = refl

at_word : (before : List Word) (w : Word) (e : SyntaxRefusal) → IsUnexpected before w e ⊎ IsOverLimit before w e → w.at ≡ fault_place e
at_word before w e (inl u) = sym (ap fault_place u.refusal_is ∙ refused_there w.sort w.at)
at_word before w e (inr o) = sym (ap fault_place o.refusal_is ∙ over_there o.limit w.at)

pub fault_stands : (source : List ℕ) (e : SyntaxRefusal) → HasFault [] source e → NoneStands source (fault_place e) → ⊥
fault_stands source e (inl f) none = none f.before f.at (record {
  after = f.after ++ word sort.End (length source) ∷ [];
  whole = ap (λ l. l ++ word sort.End (length source) ∷ []) f.words_are ∙ append_assoc f.before (f.at ∷ f.after) (word sort.End (length source) ∷ []);
  place = at_word f.before f.at e f.fault;
  begun = f.begun;
})
fault_stands source e (inr f) none = none (words_of [] source) (word sort.End (length source)) (record {
  after = [];
  whole = refl;
  place = sym (ap fault_place f.fault ∙ refused_there sort.End (length source));
  begun = f.begun;
})

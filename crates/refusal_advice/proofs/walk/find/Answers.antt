use Rattle.std.proofs.Common.{◌≡◌, ◌<◌, ℕ, Bool, true, false, List, [], ◌∷◌, drop, length, Some, None, sym, ap, ◌∙◌, arith}
use Rattle.syntax_grammar.specs.Words.{first_word}
use Rattle.syntax_grammar.specs.declared.word.Sort.TheVariants as sort
use Rattle.syntax_grammar.specs.declared.word.Word.{Word}
use Rattle.syntax_grammar.specs.Next.{Part, taking}
use Rattle.refusal_advice.specs.Parts.{behind, parts_of, Takes}
use Rattle.refusal_advice.proofs.ClassWords.{end_untaken}
use Rattle.refusal_advice.proofs.walk.find.Goals as goal

-- the end is taken by no part, so a word that was taken was left
shorter : (ws : List Word) (end : ℕ) (w : Word) (ps qs : List Part) (b : Bool) → w ≡ first_word end ws → Takes ps w.sort b qs → b ≡ true → length (drop 1 ws) < length ws
shorter [] end w ps qs true e t h =
    let is_end : w.sort ≡ sort.End = ap (λ (v : Word). v.sort) e in
    let none = ap (λ s. behind (taking ps s)) is_end ∙ ap behind (end_untaken ps) in
    absurd (let q : Some qs ≡ None = sym t ∙ none in cc)
shorter [] end w ps qs false e t h = absurd (cc)
shorter (v ∷ ws) end w ps qs b e t h = omega arith

pub words-smaller : goal.words-smaller
words-smaller c =
    let less = shorter c.words.reader.words c.words.reader.end c.in_ok-word.word (parts_of c.words.parts.items) (parts_of c.take-in-words.new.parts.items) c.in_ok-take.field-0 c.in_ok-word.ensures.word c.in_ok-take.ensures c.if-not-branch.false in
    omega (arith, less, ap length c.in_ok-word.ensures.words)

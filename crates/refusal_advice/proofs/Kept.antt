-- Parts that are kept in a list, the last one first.
use Rattle.std.proofs.Common.{◌≡◌, true, false, List, [], ◌∷◌, ◌++◌, Some, None, refl, sym, ap, ◌∙◌}
use Rattle.std.specs.Prelude.{if◌then◌else◌}
use Rattle.syntax_grammar.specs.declared.word.Sort.{Sort}
use Rattle.syntax_grammar.specs.Next.{Part, row, taking, at_top, or_below, may_be_empty, may_end}
use Rattle.refusal_advice.specs.Parts.{over, part_of, parts_of, behind}
use Rattle.refusal_advice.specs.declared.part.Part.{Part as Kept}

pub over_append : (xs ys : List Kept) (under : List Part) → over (xs ++ ys) under ≡ over ys (over xs under)
over_append [] ys under = refl
over_append (x ∷ xs) ys under = over_append xs ys (part_of x ∷ under)

pub over_under : (xs : List Kept) (us vs : List Part) → over xs (us ++ vs) ≡ over xs us ++ vs
over_under [] us vs = refl
over_under (x ∷ xs) us vs = over_under xs (part_of x ∷ us) vs

-- kept behind others
pub parts_append : (xs ys : List Kept) → parts_of (xs ++ ys) ≡ parts_of ys ++ parts_of xs
parts_append xs ys = over_append xs ys [] ∙ over_under ys [] (over xs [])

-- the last one is the part that comes next
pub kept_last : (items rest : List Kept) (p : Kept) → items ≡ rest ++ p ∷ [] → parts_of items ≡ part_of p ∷ parts_of rest
kept_last items rest p e = ap parts_of e ∙ parts_append rest (p ∷ [])

pub ends_not : (p : Part) (ps : List Part) → may_be_empty p ≡ false → may_end (p ∷ ps) ≡ false
ends_not p ps e = ap (λ b. if b then may_end ps else false) e

pub ends_behind : (p : Part) (ps : List Part) → may_be_empty p ≡ true → may_end (p ∷ ps) ≡ may_end ps
ends_behind p ps e = ap (λ b. if b then may_end ps else false) e

pub took : (p : Part) (rest left : List Kept) (s : Sort) → row p s ≡ Some (parts_of left) → behind (taking (p ∷ parts_of rest) s) ≡ Some (parts_of (rest ++ left))
took p rest left s e = ap (λ o. behind (at_top p (parts_of rest) o (taking (parts_of rest) s))) e ∙ ap Some (sym (parts_append rest left))

pub refused : (p : Part) (ps : List Part) (s : Sort) → row p s ≡ None → may_be_empty p ≡ false → taking (p ∷ ps) s ≡ None
refused p ps s e n = ap (λ o. at_top p ps o (taking ps s)) e ∙ ap (λ b. or_below b (taking ps s)) n

pub passed : (p : Part) (ps : List Part) (s : Sort) → row p s ≡ None → may_be_empty p ≡ true → taking (p ∷ ps) s ≡ taking ps s
passed p ps s e n = ap (λ o. at_top p ps o (taking ps s)) e ∙ ap (λ b. or_below b (taking ps s)) n

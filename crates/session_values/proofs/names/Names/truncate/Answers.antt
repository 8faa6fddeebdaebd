use Rattle.std.proofs.Common.{◌≡◌, ℕ, zero, suc, ◌<◌, List, [], ◌∷◌, length, take, Some, slice_get, sym, ap, ◌∙◌, subst, arith}
use Rattle.std.proofs.lemmas.List.{length-take, take-map}
use Rattle.std.specs.String.{string_bytes}
use Rattle.session_values.specs.Names.{AreDistinct}
use Rattle.session_values.proofs.NamesLemmas.{texts}
use Rattle.session_values.proofs.names.Names.truncate.Goals as goal

-- what stands among the first names stands in the list
kept : (names : List (List ℕ)) (n i : ℕ) (text : List ℕ) → slice_get (take n names) i ≡ Some text → slice_get names i ≡ Some text
kept names zero i text h = absurd (cc)
kept [] (suc n) i text h = absurd (cc)
kept (x ∷ xs) (suc n) zero text h = h
kept (x ∷ xs) (suc n) (suc i) text h = kept xs n i text h

first_distinct : (names : List (List ℕ)) (n : ℕ) → AreDistinct names → AreDistinct (take n names)
first_distinct names n d i j text a b = d i j text (kept names n i text a) (kept names n j text b)

pub invariant_of-self : goal.invariant_of-self
invariant_of-self c =
    let all : List (List ℕ) = texts c.self.inside.texts.keys in
    let is : texts c.truncate.new.self.keys ≡ take c.args.len all = ap texts c.truncate.ensures.keys ∙ sym (take-map string_bytes c.args.len c.self.inside.texts.keys) in
    let few : length all < 4294967296 = c.self.invariant.1 in
    (subst AreDistinct (sym is) (first_distinct all c.args.len c.self.invariant.0), subst (λ (xs : List (List ℕ)). length xs < 4294967296) (sym is) (omega (arith, few, length-take c.args.len all)))

pub returns : goal.returns
returns c =
    let all : List (List ℕ) = texts c.self.inside.texts.keys in
    let is : texts c.truncate.new.self.keys ≡ take c.args.len all = ap texts c.truncate.ensures.keys ∙ sym (take-map string_bytes c.args.len c.self.inside.texts.keys) in
    is ∙ ap (take c.args.len) c.self.view_is

-- The lines of the first of some waits, one more.
use Rattle.std.proofs.Common.{◌≡◌, ℕ, ◌+◌, ◌<◌, ◌≤◌, List, [], ◌∷◌, ◌++◌, length, take, get_or, append_assoc, append-nil, sym, ap, ◌∙◌, arith}
use Rattle.std.proofs.lemmas.List.{take_more, take_all}
use Rattle.std.proofs.lemmas.List.Concat.{flat_map-append}
use Rattle.std.specs.List.{flat_map}
use Rattle.waiting_pairs.specs.declared.waiting.Wait.{Wait}

pub lines_more : (f : Wait → List ℕ) (xs : List Wait) (i : ℕ) (x : Wait) (front old new : List ℕ) → i < length xs → x ≡ get_or xs i x → new ≡ old ++ f x
    → old ≡ front ++ flat_map f (take i xs) → new ≡ front ++ flat_map f (take (i + 1) xs)
lines_more f xs i x front old new lt is e so_far =
    e ∙ ap (λ (z : List ℕ). z ++ f x) so_far ∙ append_assoc front (flat_map f (take i xs)) (f x)
    ∙ ap (λ (z : List ℕ). front ++ (flat_map f (take i xs) ++ z)) (ap f is ∙ sym (append-nil (f (get_or xs i x))))
    ∙ ap (λ (z : List ℕ). front ++ z) (sym (flat_map-append f (take i xs) (get_or xs i x ∷ [])))
    ∙ ap (λ (z : List Wait). front ++ flat_map f z) (sym (take_more xs i x lt))

pub lines_all : (f : Wait → List ℕ) (xs : List Wait) (i : ℕ) (front new : List ℕ) → length xs ≤ i → new ≡ front ++ flat_map f (take i xs) → new ≡ front ++ flat_map f xs
lines_all f xs i front new le e = e ∙ ap (λ (z : List Wait). front ++ flat_map f z) (take_all i xs le)

-- Numbers that stop at a largest one.
use Rattle.std.proofs.Common.{◌≡◌, ℕ, ◌+◌, ◌-◌, ◌*◌, ◌≤◌, ◌<◌, min, List, [], ◌∷◌, length, drop, get_or, inl, inr, ap, arith}
use Rattle.std.proofs.lemmas.List.{drop_more, at_drop_all}
use Rattle.std.proofs.lemmas.Bool.{cases_lt}
use Rattle.syntax_grammar.specs.Words.{number_from}

-- more digits make no smaller number
pub number_from-le : (n : ℕ) (bs : List ℕ) → n ≤ number_from n bs
number_from-le n [] = omega arith
number_from-le n (b ∷ bs) = omega (arith, number_from-le (n * 10 + (b - 48)) bs)

pub number_from-mono : (m n : ℕ) (bs : List ℕ) → m ≤ n → number_from m bs ≤ number_from n bs
number_from-mono m n [] h = h
number_from-mono m n (b ∷ bs) h = number_from-mono (m * 10 + (b - 48)) (n * 10 + (b - 48)) bs (omega arith)

-- a number may be cut to the largest one at any digit
pub number_from-min : (top m n : ℕ) (bs : List ℕ) → m ≡ min n top → min (number_from m bs) top ≡ min (number_from n bs) top
number_from-min top m n bs e =
    elim (cases_lt top n) [
      | inl above ↦ omega (arith, number_from-le m bs, number_from-le n bs)
      | inr below ↦ let same : m ≡ n = omega arith in ap (λ x. min (number_from x bs) top) same
    ]

-- one digit more
pub number_from-turn : (top m n i : ℕ) (bs : List ℕ) → i < length bs → m ≡ min (n * 10 + (get_or bs i 0 - 48)) top → min (number_from m (drop (i + 1) bs)) top ≡ min (number_from n (drop i bs)) top
number_from-turn top m n i bs h e = rw (drop_more bs i 0 h) (number_from-min top m (n * 10 + (get_or bs i 0 - 48)) (drop (i + 1) bs) e)

pub number_from-end : (top n i : ℕ) (bs : List ℕ) → length bs ≤ i → number_from n (drop i bs) ≡ n
number_from-end top n i bs h = at_drop_all (number_from n) bs i h

-- The lines of advice, one line on.
use Rattle.std.proofs.Common.{◌≡◌, ℕ, zero, suc, ◌+◌, ◌<◌, ◌≤◌, String, Global, string_bytes, List, [], ◌∷◌, ◌++◌, length, get_or, take, map, sym, ap, ◌∙◌, arith}
use Rattle.std.proofs.lemmas.List.{append-nil, append_assoc, take_all}
use Rattle.std.specs.List.{flat_map}
use Rattle.refusal_advice.specs.Told.{advice_line}

pub advice_more : (ls : List (String Global)) (i : ℕ) (d : String Global) → i < length ls
    → flat_map advice_line (map string_bytes (take (i + 1) ls)) ≡ flat_map advice_line (map string_bytes (take i ls)) ++ advice_line (string_bytes (get_or ls i d))
advice_more [] i d h = absurd (omega (arith, h))
advice_more (l ∷ ls) zero d h = append-nil (advice_line (string_bytes l))
advice_more (l ∷ ls) (suc i) d h =
    let e : suc i + 1 ≡ suc (i + 1) = omega arith in
    ap (λ n. flat_map advice_line (map string_bytes (take n (l ∷ ls)))) e
    ∙ ap (λ t. advice_line (string_bytes l) ++ t) (advice_more ls i d (omega (arith, h)))
    ∙ sym (append_assoc (advice_line (string_bytes l)) (flat_map advice_line (map string_bytes (take i ls))) (advice_line (string_bytes (get_or ls i d))))

pub advice_all : (ls : List (String Global)) (i : ℕ) → length ls ≤ i → flat_map advice_line (map string_bytes (take i ls)) ≡ flat_map advice_line (map string_bytes ls)
advice_all ls i h = ap (λ (z : List (String Global)). flat_map advice_line (map string_bytes z)) (take_all i ls h)

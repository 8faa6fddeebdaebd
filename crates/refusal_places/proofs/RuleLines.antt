-- The lines of the first rules, one rule on.
use Rattle.std.proofs.Common.{◌≡◌, ℕ, zero, suc, ◌+◌, ◌<◌, ◌≤◌, List, [], ◌∷◌, ◌++◌, length, get_or, take, map, sym, ap, ◌∙◌, arith}
use Rattle.std.proofs.lemmas.List.{append-nil, append_assoc, take_all}
use Rattle.std.specs.List.{flat_map}
use Rattle.refusal_places.specs.declared.rule.Rule.{Rule}
use Rattle.refusal_places.specs.RuleTable.{row_line, row_of}

pub lines_more : (rs : List Rule) (i : ℕ) (d : Rule) → i < length rs
    → flat_map row_line (map row_of (take (i + 1) rs)) ≡ flat_map row_line (map row_of (take i rs)) ++ row_line (row_of (get_or rs i d))
lines_more [] i d h = absurd (omega (arith, h))
lines_more (r ∷ rs) zero d h = append-nil (row_line (row_of r))
lines_more (r ∷ rs) (suc i) d h =
    let e : suc i + 1 ≡ suc (i + 1) = omega arith in
    ap (λ n. flat_map row_line (map row_of (take n (r ∷ rs)))) e
    ∙ ap (λ t. row_line (row_of r) ++ t) (lines_more rs i d (omega (arith, h)))
    ∙ sym (append_assoc (row_line (row_of r)) (flat_map row_line (map row_of (take i rs))) (row_line (row_of (get_or rs i d))))

pub lines_all : (rs : List Rule) (i : ℕ) → length rs ≤ i → flat_map row_line (map row_of (take i rs)) ≡ flat_map row_line (map row_of rs)
lines_all rs i h = ap (λ l. flat_map row_line (map row_of l)) (take_all i rs h)

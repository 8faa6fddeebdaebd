-- The first row with a word, one row on.
use Rattle.std.proofs.Common.{◌≡◌, ℕ, zero, suc, ◌+◌, ◌<◌, ◌≤◌, true, false, List, [], ◌∷◌, length, get_or, drop, map, Some, refl, sym, ap, ◌∙◌, arith}
use Rattle.std.specs.Prelude.{if◌then◌else◌}
use Rattle.std.specs.Str.{bytes_eq}
use Rattle.refusal_places.specs.declared.rule.Rule.{Rule}
use Rattle.refusal_places.specs.RuleTable.{row_in, row_of}

-- a rule that has another word
pub missed : (rs : List Rule) (i : ℕ) (word : List ℕ) (d : Rule) → i < length rs → bytes_eq word (get_or rs i d).word.now ≡ false
    → row_in (map row_of (drop i rs)) word ≡ row_in (map row_of (drop (i + 1) rs)) word
missed [] i word d h e = absurd (omega (arith, h))
missed (r ∷ rs) zero word d h e = ap (λ b. if b then Some (row_of r) else row_in (map row_of rs) word) e
missed (r ∷ rs) (suc i) word d h e =
    let more : i + 1 ≡ suc i = omega arith in
    let most : suc i + 1 ≡ suc (i + 1) = omega arith in
    missed rs i word d (omega (arith, h)) e ∙ ap (λ n. row_in (map row_of (drop n (r ∷ rs))) word) (sym most)

-- a rule that has this one
pub hit : (rs : List Rule) (i : ℕ) (word : List ℕ) (d : Rule) → i < length rs → bytes_eq word (get_or rs i d).word.now ≡ true
    → row_in (map row_of (drop i rs)) word ≡ Some (row_of (get_or rs i d))
hit [] i word d h e = absurd (omega (arith, h))
hit (r ∷ rs) zero word d h e = ap (λ b. if b then Some (row_of r) else row_in (map row_of rs) word) e
hit (r ∷ rs) (suc i) word d h e = hit rs i word d (omega (arith, h)) e

pub all_seen : (rs : List Rule) (i : ℕ) → length rs ≤ i → drop i rs ≡ []
all_seen [] zero h = refl
all_seen [] (suc i) h = refl
all_seen (r ∷ rs) zero h = absurd (omega (arith, h))
all_seen (r ∷ rs) (suc i) h = all_seen rs i (omega (arith, h))

-- Rows of entries.
use Rattle.std.proofs.Common.{◌≡◌, ℕ, zero, suc, ◌+◌, ◌<◌, List, [], ◌∷◌, ◌++◌, map, length, take, get_or, Option, Some, None, refl, sym, ap, ◌∙◌, arith}
use Rattle.std.specs.Prelude.{unwrap_or}
use Rattle.std.specs.Option.{option_map}
use Rattle.std.proofs.lemmas.List.{map_more}
use Rattle.std.proofs.lemmas.Option.{slice_get-get_or}
use Rattle.waiting_pairs.specs.declared.cause.Cause.{Cause}
use Rattle.waiting_pairs.specs.declared.counting.Row.{Row}
use Rattle.waiting_pairs.specs.Rows.{counted, firsts, row_at, row_in, row_of, tally}

pub rows_more : (es : List (Cause × ℕ)) (i : ℕ) (r : Row) (old new : List Row) → i < length es → Some r ≡ row_at es i → new ≡ old ++ r ∷ [] → old ≡ map row_in (take i es) → new ≡ map row_in (take (i + 1) es)
rows_more es i r old new lt is pushed so_far =
    let d : Cause × ℕ = (r.cause, r.count) in
    let there : Some r ≡ Some (row_in (get_or es i d)) = is ∙ ap (option_map row_in) (slice_get-get_or es i d lt) in
    let same : r ≡ row_in (get_or es i d) = ap (λ (o : Option Row). unwrap_or o r) there in
    pushed ∙ ap (λ (z : List Row). z ++ r ∷ []) so_far ∙ ap (λ (z : Row). map row_in (take i es) ++ z ∷ []) same ∙ sym (map_more row_in es i d lt)

pub no_row : (es : List (Cause × ℕ)) (i : ℕ) → i < length es → None ≡ row_at es i → ⊥
no_row [] i lt h = omega (arith, lt)
no_row (e ∷ es) zero lt h = cc
no_row (e ∷ es) (suc i) lt h = no_row es i (omega (arith, lt)) h

rows_same : (causes cs : List Cause) → map row_in (map (λ c. (c, (row_of causes c).count)) cs) ≡ map (row_of causes) cs
rows_same causes [] = refl
rows_same causes (c ∷ cs) = ap (λ (z : List Row). row_of causes c ∷ z) (rows_same causes cs)

pub rows_told : (causes : List Cause) (es : List (Cause × ℕ)) (rows : List Row) → es ≡ counted causes → rows ≡ map row_in es → rows ≡ tally causes
rows_told causes es rows is told = told ∙ ap (map row_in) is ∙ rows_same causes (firsts causes)

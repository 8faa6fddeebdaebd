-- Some words in parts, and what is read of them.
use Rattle.std.proofs.Common.{◌≡◌, ℕ, ◌+◌, ◌<◌, Bool, true, false, cond, List, [], ◌∷◌, ◌++◌, length, Option, Some, None, Result, Ok, Err, refl, ap, ◌∙◌, arith, append_assoc}
use Rattle.std.proofs.lemmas.List.Sums.{sum_by-cons}
use Rattle.std.specs.List.{count_by}
use Rattle.range_tables.specs.declared.range_symbol.RangeSymbol.{RangeSymbol}
use Rattle.range_tables.specs.declared.step.Flaw.{Flaw}
use Rattle.range_tables.specs.declared.step.Flaw.TheVariants.{UnknownWord, Arity, BadWord}
use Rattle.range_tables.specs.declared.word.Word.{Word}
use Rattle.range_tables.specs.Joined.{flaw_with, joined}
use Rattle.range_tables.specs.Steps.{beside, parts, parts_behind, sooner}

counted : (w : Word) (front ws : List Word) (b : Bool) → w.is_mark ≡ b → length (parts_behind [] ws) ≡ count_by (λ w. w.is_mark) ws + 1 → length (parts_behind (front ++ w ∷ []) ws) ≡ count_by (λ w. w.is_mark) ws + 1
    → length (parts_behind front (w ∷ ws)) ≡ count_by (λ w. w.is_mark) (w ∷ ws) + 1
counted w front ws true e p q =
    let total : ◌≡◌ {A = ℕ} (count_by (λ (x : Word). x.is_mark) (w ∷ ws)) (cond w.is_mark 1 0 + count_by (λ (x : Word). x.is_mark) ws) = sum_by-cons (λ (x : Word). cond x.is_mark 1 0) w ws in
    let one : ◌≡◌ {A = ℕ} (cond w.is_mark 1 0) 1 = ap (λ (b : Bool). cond b 1 0) e in
    ap (λ (b : Bool). length (cond b (front ∷ parts_behind [] ws) (parts_behind (front ++ w ∷ []) ws))) e ∙ omega (arith, total, one, p)
counted w front ws false e p q =
    let total : ◌≡◌ {A = ℕ} (count_by (λ (x : Word). x.is_mark) (w ∷ ws)) (cond w.is_mark 1 0 + count_by (λ (x : Word). x.is_mark) ws) = sum_by-cons (λ (x : Word). cond x.is_mark 1 0) w ws in
    let none : ◌≡◌ {A = ℕ} (cond w.is_mark 1 0) 0 = ap (λ (b : Bool). cond b 1 0) e in
    ap (λ (b : Bool). length (cond b (front ∷ parts_behind [] ws) (parts_behind (front ++ w ∷ []) ws))) e ∙ omega (arith, total, none, q)

pub parts_length : (front ws : List Word) → length (parts_behind front ws) ≡ count_by (λ w. w.is_mark) ws + 1
parts_length front [] = refl
parts_length front (w ∷ ws) = counted w front ws w.is_mark refl (parts_length [] ws) (parts_length (front ++ w ∷ []) ws)

pub parts_count : (ws : List Word) → 0 < length ws → length (parts ws) ≡ count_by (λ w. w.is_mark) ws + 1
parts_count [] l = absurd (omega (arith, l))
parts_count (w ∷ ws) l = parts_length [] (w ∷ ws)

-- ---- flaws
sooner_twice : (f g h : Flaw) → sooner (sooner f g) h ≡ sooner f (sooner g h)
sooner_twice UnknownWord g h = refl
sooner_twice Arity UnknownWord h = refl
sooner_twice Arity Arity UnknownWord = refl
sooner_twice Arity Arity Arity = refl
sooner_twice Arity Arity BadWord = refl
sooner_twice Arity BadWord h = refl
sooner_twice BadWord g h = refl

pub with_symbol : (front : List RangeSymbol) (s : RangeSymbol) (flaw : Option Flaw) (rest : Result (List RangeSymbol) Flaw) → joined (front ++ s ∷ []) flaw rest ≡ joined front flaw (beside (Ok s) rest)
with_symbol front s None (Ok more) = ap (λ (xs : List RangeSymbol). Ok xs) (append_assoc front (s ∷ []) more)
with_symbol front s None (Err g) = refl
with_symbol front s (Some f) (Ok more) = refl
with_symbol front s (Some f) (Err g) = refl

pub with_flaw : (front : List RangeSymbol) (g : Flaw) (flaw : Option Flaw) (rest : Result (List RangeSymbol) Flaw) → joined front (Some (flaw_with flaw g)) rest ≡ joined front flaw (beside (Err g) rest)
with_flaw front g None (Ok more) = refl
with_flaw front g None (Err h) = refl
with_flaw front g (Some f) (Ok more) = refl
with_flaw front g (Some f) (Err h) = ap (λ (x : Flaw). Err x) (sooner_twice f g h)

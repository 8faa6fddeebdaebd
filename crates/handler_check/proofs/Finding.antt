-- The first handler with a name.
use Rattle.std.proofs.Common.{◌≡◌, ℕ, zero, suc, ◌+◌, ◌<◌, Bool, true, false, not, ◌==◌, cond, ltb, List, [], ◌∷◌, length, slice_get, Some, None, refl, sym, ap, ◌∙◌, arith}
use Rattle.std.proofs.lemmas.Bool.Decides.{nat_tests}
use Rattle.std.proofs.lemmas.Bool.{ne_eqb, eq-eqb}
use Rattle.std.specs.List.{position, position_or_len}
use Rattle.syntax_trees.specs.declared.file.Handler.{Handler}

abbrev named : ℕ → Handler → Bool
named name h = h.name == name

passes : (x : Handler) (hs : List Handler) (name : ℕ) → named name x ≡ true → position_or_len (named name) (x ∷ hs) ≡ 0
passes x hs name e = ap (λ (b : Bool). cond (not b) (1 + position_or_len (named name) hs) 0) e

fails : (x : Handler) (hs : List Handler) (name : ℕ) → named name x ≡ false → position_or_len (named name) (x ∷ hs) ≡ 1 + position_or_len (named name) hs
fails x hs name e = ap (λ (b : Bool). cond (not b) (1 + position_or_len (named name) hs) 0) e

first_at : (hs : List Handler) (name i : ℕ) (h : Handler) → ((k : ℕ) (source : Handler) → k < i → slice_get hs k ≡ Some source → source.name ≡ name → ⊥) → slice_get hs i ≡ Some h → h.name ≡ name
    → position_or_len (named name) hs ≡ i
first_at [] name i h before e is = cc
first_at (x ∷ hs) name zero h before e is = (let same : x ≡ h = cc in passes x hs name (eq-eqb x.name name (ap (λ (z : Handler). z.name) same ∙ is)))
first_at (x ∷ hs) name (suc i) h before e is =
    let rest = first_at hs name i h (λ k source l. before (suc k) source (omega (arith, l))) e is in
    let one = fails x hs name (ne_eqb x.name name (before 0 x (omega arith) refl)) in
    omega (arith, rest, one)

never_at : (hs : List Handler) (name : ℕ) → ((k : ℕ) (source : Handler) → slice_get hs k ≡ Some source → source.name ≡ name → ⊥) → position_or_len (named name) hs ≡ length hs
never_at [] name never = refl
never_at (x ∷ hs) name never =
    let rest = never_at hs name (λ k source. never (suc k) source) in
    let one = fails x hs name (ne_eqb x.name name (never 0 x refl)) in
    omega (arith, rest, one)

pub found_first : (hs : List Handler) (name i : ℕ) (h : Handler) → i < length hs → ((k : ℕ) (source : Handler) → k < i → slice_get hs k ≡ Some source → source.name ≡ name → ⊥) → slice_get hs i ≡ Some h → h.name ≡ name
    → Some i ≡ position (λ (x : Handler). x.name == name) hs
found_first hs name i h l before e is =
    let at : position_or_len (named name) hs ≡ i = first_at hs name i h before e is in
    let inside : ltb i (length hs) ≡ true = grind (arith, nat_tests, l) in
    sym (ap (λ (n : ℕ). cond (ltb n (length hs)) (Some n) None) at ∙ ap (λ (b : Bool). cond b (Some i) None) inside)

pub found_none : (hs : List Handler) (name : ℕ) → ((k : ℕ) (source : Handler) → slice_get hs k ≡ Some source → source.name ≡ name → ⊥) → None ≡ position (λ (x : Handler). x.name == name) hs
found_none hs name never =
    let at : position_or_len (named name) hs ≡ length hs = never_at hs name never in
    let outside : ltb (length hs) (length hs) ≡ false = grind (arith, nat_tests) in
    sym (ap (λ (n : ℕ). cond (ltb n (length hs)) (Some n) None) at ∙ ap (λ (b : Bool). cond b (Some (length hs)) None) outside)

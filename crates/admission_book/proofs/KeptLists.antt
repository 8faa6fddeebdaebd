-- Lists of kept replies.
use Rattle.std.proofs.Common.{◌≡◌, ℕ, zero, suc, ◌<◌, ◌≤◌, List, [], ◌∷◌, Option, Some, None, Bool, true, false, cond, length, get_or, replicate, refl, sym, ◌∙◌, ap, arith}
use Rattle.std.proofs.Math.ListN.{set}
use mathlib.Core.List.{map}
use Rattle.std.specs.Option.{IsSome}
use Rattle.std.specs.List.{AllByRecursion}
use Rattle.session_values.specs.declared.reply.Reply.{Reply}
use Rattle.admission_book.specs.KeptReplies.{kept_list}

pub kept_length : (bs : List Bool) (rs : List Reply) → length (kept_list bs rs) ≡ length bs
kept_length [] rs = refl
kept_length (b ∷ bs) [] = ap suc (kept_length bs [])
kept_length (b ∷ bs) (r ∷ rs) = ap suc (kept_length bs rs)

-- no ticket has ended
pub kept_none : (n : ℕ) (rs : List Reply) → kept_list (replicate n false) rs ≡ replicate n None
kept_none zero rs = refl
kept_none (suc n) [] = ap (λ (os : List (Option Reply)). None ∷ os) (kept_none n [])
kept_none (suc n) (r ∷ rs) = ap (λ (os : List (Option Reply)). None ∷ os) (kept_none n rs)

-- a ticket ends
pub kept_set : (bs : List Bool) (rs : List Reply) (t : ℕ) (r : Reply) → t < length bs → t < length rs → kept_list (set bs t true) (set rs t r) ≡ set (kept_list bs rs) t (Some r)
kept_set [] rs t r l k = absurd (omega arith)
kept_set (b ∷ bs) [] t r l k = absurd (omega arith)
kept_set (b ∷ bs) (x ∷ rs) zero r l k = refl
kept_set (b ∷ bs) (x ∷ rs) (suc t) r l k = ap (λ (os : List (Option Reply)). cond b (Some x) None ∷ os) (kept_set bs rs t r (omega arith) (omega arith))

-- ---- one ticket's
pub kept_past : (bs : List Bool) (rs : List Reply) (t : ℕ) → length bs ≤ t → None ≡ get_or (kept_list bs rs) t None
kept_past [] rs t l = refl
kept_past (b ∷ bs) rs zero l = absurd (omega arith)
kept_past (b ∷ bs) [] (suc t) l = kept_past bs [] t (omega arith)
kept_past (b ∷ bs) (r ∷ rs) (suc t) l = kept_past bs rs t (omega arith)

pub kept_open : (bs : List Bool) (rs : List Reply) (t : ℕ) (b : Bool) → t < length bs → b ≡ get_or bs t b → b ≡ false → None ≡ get_or (kept_list bs rs) t None
kept_open [] rs t b l is none = absurd (omega arith)
kept_open (x ∷ bs) [] zero b l is none = refl
kept_open (x ∷ bs) (r ∷ rs) zero b l is none = ap (λ (c : Bool). cond c (Some r) None) (sym none ∙ is)
kept_open (x ∷ bs) [] (suc t) b l is none = kept_open bs [] t b (omega arith) is none
kept_open (x ∷ bs) (r ∷ rs) (suc t) b l is none = kept_open bs rs t b (omega arith) is none

pub kept_ended : (bs : List Bool) (rs : List Reply) (t : ℕ) (b : Bool) (r : Reply) → t < length bs → length bs ≡ length rs → b ≡ get_or bs t b → b ≡ true → r ≡ get_or rs t r → Some r ≡ get_or (kept_list bs rs) t None
kept_ended [] rs t b r l same is over at = absurd (omega arith)
kept_ended (x ∷ bs) [] t b r l same is over at = absurd (omega arith)
kept_ended (x ∷ bs) (y ∷ rs) zero b r l same is over at = ap (λ (z : Reply). Some z) at ∙ ap (λ (c : Bool). cond c (Some y) None) (sym over ∙ is)
kept_ended (x ∷ bs) (y ∷ rs) (suc t) b r l same is over at = kept_ended bs rs t b r (omega arith) (omega arith) is over at

-- ---- each ticket has ended
pub kept_all : (bs : List Bool) (rs : List Reply) → length bs ≡ length rs → AllByRecursion (λ (o : Option Reply). IsSome o) (kept_list bs rs) → map (λ (r : Reply). Some r) rs ≡ kept_list bs rs
kept_all [] [] same a = refl
kept_all [] (r ∷ rs) same a = absurd (omega arith)
kept_all (b ∷ bs) [] same a = absurd (omega arith)
kept_all (true ∷ bs) (r ∷ rs) same a = ap (λ (os : List (Option Reply)). Some r ∷ os) (kept_all bs rs (omega arith) a.1)
kept_all (false ∷ bs) (r ∷ rs) same a = absurd (none_some a.0)
  where
    none_some : IsSome {T = Reply} None → ⊥
    none_some h = cc

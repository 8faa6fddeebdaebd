-- At most one fault is first.
use Rattle.std.proofs.Common.{◌≡◌, ℕ, ◌<◌, ◌≤◌, ◌==◌, ◌⊎◌, inl, inr, if◌then◌else◌, refl, sym, ap, ◌∙◌, arith}
use Rattle.handler_check.specs.declared.refusal.CheckRefusal.{CheckRefusal}
use Rattle.handler_check.specs.declared.refusal.CheckRefusal.TheVariants.{Twice, Unknown, Arity, WrongTable, RepeatBound, TooManyTables, TooManyHandlers, TooManyVariables, TooManyCalls, TooMuchWork, NoMemory}
use Rattle.handler_check.specs.FirstFault.{place, number, IsFirst}

-- the refusal of this number at this place
abbrev refusal_of : ℕ → ℕ → CheckRefusal
refusal_of n at =
    if n == 1 then Twice at else (if n == 2 then Unknown at else (if n == 3 then Arity at else (if n == 4 then WrongTable at else (if n == 5 then RepeatBound at else (if n == 6 then TooManyTables at else (if n == 7 then TooManyHandlers at else (if n == 8 then TooManyVariables at else (if n == 9 then TooManyCalls at else (if n == 10 then TooMuchWork at else NoMemory)))))))))

is_refusal : (e : CheckRefusal) → refusal_of (number e) (place e) ≡ e
is_refusal (Twice at) = refl
is_refusal (Unknown at) = refl
is_refusal (Arity at) = refl
is_refusal (WrongTable at) = refl
is_refusal (RepeatBound at) = refl
is_refusal (TooManyTables at) = refl
is_refusal (TooManyHandlers at) = refl
is_refusal (TooManyVariables at) = refl
is_refusal (TooManyCalls at) = refl
is_refusal (TooMuchWork at) = refl
is_refusal NoMemory = refl

same_place : (a b n m : ℕ) → (a < b) ⊎ ((a ≡ b) × (n ≤ m)) → (b < a) ⊎ ((b ≡ a) × (m ≤ n)) → (a ≡ b) × (n ≡ m)
same_place a b n m h k = elim h [
  | inl l ↦ elim k [ inl j ↦ absurd (omega arith) | inr j ↦ (let e = j.0 in absurd (omega arith)) ]
  | inr l ↦ elim k [ inl j ↦ (let e = l.0 in absurd (omega arith)) | inr j ↦ (let p = l.1 in let q = j.1 in (l.0, omega arith)) ]
]

pub one_first : (broken : CheckRefusal → Type 0) (e g : CheckRefusal) → IsFirst broken e → IsFirst broken g → e ≡ g
one_first broken e g h k =
    let s = same_place (place e) (place g) (number e) (number g) (h.least g k.is_broken) (k.least e h.is_broken) in
    sym (is_refusal e) ∙ ap (λ (n : ℕ). refusal_of n (place e)) s.1 ∙ ap (λ (a : ℕ). refusal_of (number g) a) s.0 ∙ is_refusal g

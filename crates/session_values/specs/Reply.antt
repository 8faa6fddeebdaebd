-- Replies as contracts see them: plain records, of which the type keeps a fact.
use Rattle.std.specs.Prelude.{◌≡◌, ℕ, ◌<◌, ◌≤◌, ◌==◌, Bool, List, [], ◌∷◌, take}
use Rattle.std.specs.Ordering.{eq_by_cmp, eq_of_both, on}
use Rattle.std.specs.Cmp.{IsEquivalence, and_equiv, eq_by_cmp_equiv, nat_eq_equiv, on_equiv}
use Rattle.session_values.specs.declared.value.Value.{Value}
use Rattle.session_values.specs.declared.value.Value.TheVariants.{Nil}
use Rattle.session_values.specs.Values.{IsValue, value_cmp, value_cmp_total}

-- how many values it has, and the first to the fourth of them
pub record ReplyView : Type 0 where
  pub count : ℕ
  pub a : Value
  pub b : Value
  pub c : Value
  pub d : Value

-- whether two replies are the same: by the number of their values, and these
abbrev pub reply_eq : ReplyView → ReplyView → Bool
reply_eq = eq_of_both (eq_of_both (on (λ r. r.count) ◌==◌) (on (λ r. r.a) (eq_by_cmp value_cmp)))
    (eq_of_both (on (λ r. r.b) (eq_by_cmp value_cmp))
    (eq_of_both (on (λ r. r.c) (eq_by_cmp value_cmp)) (on (λ r. r.d) (eq_by_cmp value_cmp))))

-- each is the same as itself, it doesn't matter which of two is named first, and where two are the
-- same, a third is the same as both or as neither
pub reply_eq_equiv : IsEquivalence reply_eq
reply_eq_equiv = and_equiv (and_equiv (on_equiv (λ r. r.count) nat_eq_equiv)
    (on_equiv (λ r. r.a) (eq_by_cmp_equiv value_cmp_total)))
    (and_equiv (on_equiv (λ r. r.b) (eq_by_cmp_equiv value_cmp_total))
    (and_equiv (on_equiv (λ r. r.c) (eq_by_cmp_equiv value_cmp_total))
    (on_equiv (λ r. r.d) (eq_by_cmp_equiv value_cmp_total))))

-- it has 1 to 4 values, and the others are nil
abbrev pub IsReply : ℕ → Value → Value → Value → Type 0
IsReply count b c d = (0 < count) × (count ≤ 4) × (count < 2 → b ≡ Nil) × (count < 3 → c ≡ Nil)
    × (count < 4 → d ≡ Nil)

-- a program can hold it: its values are such values, and it has 1 to 4 of them
pub record IsHeldReply (r : ReplyView) : Type 0 where
  pub a : IsValue r.a
  pub b : IsValue r.b
  pub c : IsValue r.c
  pub d : IsValue r.d
  pub count : IsReply r.count r.b r.c r.d

-- its values, in order
abbrev pub values_of : ReplyView → List Value
values_of r = take r.count (r.a ∷ r.b ∷ r.c ∷ r.d ∷ [])

-- The reply of these values: nil alone where there are none, and the first four where there are
-- more.
abbrev pub reply_of : List Value → ReplyView
reply_of [] = record { count = 1; a = Nil; b = Nil; c = Nil; d = Nil }
reply_of (a ∷ []) = record { count = 1; a = a; b = Nil; c = Nil; d = Nil }
reply_of (a ∷ b ∷ []) = record { count = 2; a = a; b = b; c = Nil; d = Nil }
reply_of (a ∷ b ∷ c ∷ []) = record { count = 3; a = a; b = b; c = c; d = Nil }
reply_of (a ∷ b ∷ c ∷ d ∷ more) = record { count = 4; a = a; b = b; c = c; d = d }

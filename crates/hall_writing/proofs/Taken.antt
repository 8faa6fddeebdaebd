-- What was taken out of a lane, and kept.
use Rattle.std.proofs.Common.{◌≡◌, ℕ, ◌+◌, ◌<◌, Bool, true, false, cond, eqb, List, [], ◌∷◌, ◌++◌, length, Some, slice_get, refl, sym, ◌∙◌, ap, subst, arith}
use Rattle.std.proofs.lemmas.Bool.{eqb-true}
use Rattle.session_values.specs.declared.reply.Reply.{Reply}
use Rattle.reply_sheet.specs.Pending.{PendingView, with_kept}
use Rattle.hall_writing.specs.declared.rule.Spoken.{Spoken}
use Rattle.hall_writing.specs.declared.rule.EndState.{EndState}
use Rattle.hall_writing.specs.Lanes.{Found, IsMoment, total, times}
use Rattle.hall_writing.specs.Sheets.{IsKept, Keeps}
use Rattle.hall_writing.proofs.Sheets.{keeps_more}

total_snoc : (f : Spoken → ℕ) (xs : List Spoken) (x : Spoken) → total f (xs ++ x ∷ []) ≡ total f xs + f x
total_snoc f [] x = omega arith
total_snoc f (y ∷ xs) x = let rest = total_snoc f xs x in omega (arith, rest)

-- one more message was taken, and its reply is kept
pub taken_more : (old xs : List Spoken) (m : Spoken) (p q : PendingView) → ((t : ℕ) → times t old < times t xs → IsKept p t) → ((t : ℕ) → IsKept p t → IsKept q t) → IsKept q m.ticket → (t : ℕ) → times t old < times t (xs ++ m ∷ []) → IsKept q t
taken_more old xs m p q was still own t more = by (eqb m.ticket t) refl
  where
    by : (b : Bool) → eqb m.ticket t ≡ b → IsKept q t
    by true e = subst (IsKept q) (eqb-true m.ticket t e) own
    by false e =
        let one : times t (xs ++ m ∷ []) ≡ times t xs + cond (eqb m.ticket t) 1 0 = total_snoc (λ (x : Spoken). cond (eqb x.ticket t) 1 0) xs m in
        let none : ◌≡◌ {A = ℕ} (cond (eqb m.ticket t) 1 0) 0 = ap (λ (b : Bool). cond b 1 0) e in
        still t (was t (omega (arith, more, one, none)))

-- what was found empty
pub found_empty : (v w : EndState) → Found 0 v w → IsMoment w []
found_empty v w f = subst (λ (u : EndState). IsMoment u []) (sym f.same) (none f.items f.many f.moment)
  where
    none : (xs : List Spoken) → length xs ≡ 0 → IsMoment v xs → IsMoment v []
    none [] e h = h
    none (x ∷ xs) e h = absurd (omega (arith, e))

-- the reply of a ticket is kept, whichever list the end is said to know
pub keeps_given : (rs ss known : List Reply) (p q : PendingView) (t : ℕ) (r : Reply) → known ≡ rs → known ≡ ss → slice_get rs t ≡ Some r → Keeps ss p → q ≡ with_kept p t r → length q.waiting ≡ length p.waiting → Keeps ss q
keeps_given rs ss known p q t r one other there keeps kept long =
    let same : rs ≡ ss = sym one ∙ other in
    keeps_more ss p q t r keeps (subst (λ (l : List Reply). slice_get l t ≡ Some r) same there) kept long

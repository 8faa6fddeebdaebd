-- A caller of a hall is one of each hall with the same script and name, and has its number and the
-- tickets that it has begun.
use Rattle.std.proofs.Common.{◌≡◌, ◌∙◌, ℕ, List, [], ◌∷◌, ◌++◌, length, refl, ap, subst, sym, arith}
use Rattle.session_journal.specs.Script.{Meaning}
use Rattle.session_hall.specs.declared.hall.Hall.{Hall}
use Rattle.session_hall.specs.declared.caller.Caller.{Caller}
use Rattle.session_hall.specs.Begun.{begun_by}
use Rattle.session_hall.specs.Callers.{IsCallerAt, IsCallerOf, StaysCaller}
use Rattle.session_hall.specs.Names.{hall_name, script_of}
use Rattle.hall_serving.specs.Jobs.{HasBegunNone}

-- two lists of one length, each before another list, are one
pub same_front : (xs ys us vs : List ℕ) → length xs ≡ length ys → xs ++ us ≡ ys ++ vs → (xs ≡ ys) × (us ≡ vs)
same_front [] [] us vs l e = (refl, e)
same_front [] (y ∷ ys) us vs l e = absurd (omega (arith, l))
same_front (x ∷ xs) [] us vs l e = absurd (omega (arith, l))
same_front (x ∷ xs) (y ∷ ys) us vs l e =
    let head : x ≡ y = cc in
    let tail : xs ++ us ≡ ys ++ vs = cc in
    let long : length xs ≡ length ys = omega (arith, l) in
    let rest = same_front xs ys us vs long tail in
    ((λ i. head i ∷ rest.0 i), rest.1)

-- ---- what names a home, taken apart
module _ {S : Type 0} (g h : Hall S) (c o : Caller S) (p q : ℕ) where
  abbrev pub Same : Type 0
  Same = ◌≡◌ {A = List ℕ} (p ∷ c.number ∷ length (begun_by c) ∷ begun_by c ++ hall_name g) (q ∷ o.number ∷ length (begun_by o) ∷ begun_by o ++ hall_name h)

  fronts : Same → (begun_by c ≡ begun_by o) × (hall_name g ≡ hall_name h)
  fronts home =
      let long : length (begun_by c) ≡ length (begun_by o) = cc in
      let rest : begun_by c ++ hall_name g ≡ begun_by o ++ hall_name h = cc in
      same_front (begun_by c) (begun_by o) (hall_name g) (hall_name h) long rest

  number_of : Same → c.number ≡ o.number
  number_of home = cc

pub begun_home : {S : Type 0} (g h : Hall S) (c d o : Caller S) (p q : ℕ) → Same g h c o p q → c ≡ d → HasBegunNone o d
begun_home g h c d o p q home same = record { begun_still = ap (λ (x : Caller _). begun_by x) (sym same) ∙ (fronts g h c o p q home).0 }

same_home : {S : Type 0} (meaning : S → Meaning) (g h : Hall S) (c d : Caller S) → script_of g ≡ script_of h → hall_name g ≡ hall_name h → c ≡ d → IsCallerOf meaning g c → IsCallerOf meaning h d
same_home meaning g h c d script e same k =
    let P : _ → Type 0 = λ l. IsCallerAt meaning l (script_of g) c in
    let Q : _ → Type 0 = λ s. IsCallerAt meaning (hall_name h) s c in
    let R : _ → Type 0 = λ x. IsCallerOf meaning h x in
    subst R same (subst Q script (subst P e k))

pub stays_home : {S : Type 0} (meaning : S → Meaning) (g h : Hall S) (c d o : Caller S) (p q : ℕ) → script_of g ≡ script_of h → Same g h c o p q → c ≡ d → IsCallerOf meaning g c → StaysCaller meaning h o d
stays_home meaning g h c d o p q script home same k =
    (same_home meaning g h c d script (fronts g h c o p q home).1 same k, ap (λ (x : Caller _). x.number) (sym same) ∙ number_of g h c o p q home)

-- Blockers.
use Rattle.std.proofs.Common.{◌≡◌, ℕ, ◌<◌, List, [], ◌∷◌, ◌++◌, ◌⊎◌, inl, inr, Some, sym, ◌∙◌, ap, subst, arith}
use Rattle.std.specs.List.{AllByRecursion}
use Rattle.session_values.specs.declared.op.Op.{Op}
use Rattle.symbolic_ops.specs.declared.symbol.Symbol.{Symbol}
use Rattle.symbolic_ops.specs.Commuting.{CommutesWith}
use Rattle.session_journal.specs.Script.{Meaning}
use Rattle.admission_book.specs.Book.{Book, Serving, IsFree, IsBlocker}
use Rattle.admission_book.specs.Lawful.{Lawful}
use Rattle.admission_book.specs.Methods.{IsOldestOpen}
use Rattle.admission_book.proofs.Shown.{one}

-- a list with a symbol against the operation isn't one without
against_some : (op : Op) (front back f : List Symbol) (y : Symbol) → f ≡ front ++ y ∷ back → (CommutesWith op y → ⊥) → AllByRecursion (λ x. CommutesWith op x) f → ⊥
against_some op front back f y is h a = go front (let P : List Symbol → Type 0 = λ l. AllByRecursion (λ x. CommutesWith op x) l in subst P is a)
  where
    go : (xs : List Symbol) → AllByRecursion (λ x. CommutesWith op x) (xs ++ y ∷ back) → ⊥
    go [] k = h k.0
    go (x ∷ xs) k = go xs k.1

-- a book with a blocker isn't free
pub not_free : (b : Book) (t : ℕ) (op : Op) (older : ℕ) (y : Symbol) → IsBlocker b t op older y → IsFree b t op → ⊥
not_free b t op older y x f = against_some op x.symbol.front x.symbol.back x.serving.foresight y x.symbol.is x.symbol.against (f x.caller x.serving x.is (omega (arith, x.ticket, x.is_older)))

-- the first symbol of a list that is against the operation
first_one : (op : Op) (xs ys cs bs : List Symbol) (x y : Symbol) → xs ++ x ∷ cs ≡ ys ++ y ∷ bs → AllByRecursion (λ z. CommutesWith op z) xs → AllByRecursion (λ z. CommutesWith op z) ys → (CommutesWith op x → ⊥) → (CommutesWith op y → ⊥) → x ≡ y
first_one op [] [] cs bs x y e p q h k = heads x y cs bs e
  where
    heads : (x y : Symbol) (cs bs : List Symbol) → ◌≡◌ {A = List Symbol} (x ∷ cs) (y ∷ bs) → x ≡ y
    heads x y cs bs e = cc
first_one op [] (z ∷ ys) cs bs x y e p q h k = absurd (h (let P : Symbol → Type 0 = λ s. CommutesWith op s in subst P (sym (heads x z cs (ys ++ y ∷ bs) e)) q.0))
  where
    heads : (x y : Symbol) (cs bs : List Symbol) → ◌≡◌ {A = List Symbol} (x ∷ cs) (y ∷ bs) → x ≡ y
    heads x y cs bs e = cc
first_one op (z ∷ xs) [] cs bs x y e p q h k = absurd (k (let P : Symbol → Type 0 = λ s. CommutesWith op s in subst P (heads z y (xs ++ x ∷ cs) bs e) p.0))
  where
    heads : (x y : Symbol) (cs bs : List Symbol) → ◌≡◌ {A = List Symbol} (x ∷ cs) (y ∷ bs) → x ≡ y
    heads x y cs bs e = cc
first_one op (z ∷ xs) (w ∷ ys) cs bs x y e p q h k = first_one op xs ys cs bs x y (tails z w (xs ++ x ∷ cs) (ys ++ y ∷ bs) e) p.1 q.1 h k
  where
    tails : (x y : Symbol) (cs bs : List Symbol) → ◌≡◌ {A = List Symbol} (x ∷ cs) (y ∷ bs) → cs ≡ bs
    tails x y cs bs e = cc

-- two blockers of one operation are one
pub one_blocker : (m : Meaning) (b : Book) (t : ℕ) (op : Op) (u v : ℕ) (y z : Symbol) → Lawful m b → IsBlocker b t op u y → IsBlocker b t op v z → (u ≡ v) × (y ≡ z)
one_blocker m b t op u v y z L p q = (same, first_one op p.symbol.front q.symbol.front p.symbol.back q.symbol.back y z (sym p.symbol.is ∙ ap (λ (s : Serving). s.foresight) serving ∙ q.symbol.is) p.symbol.before q.symbol.before p.symbol.against q.symbol.against)
  where
    order : (i j : ℕ) → (i < j) ⊎ ((i ≡ j) ⊎ (j < i))
    order i j = grind arith

    below : (i j : ℕ) (x w : Symbol) → IsBlocker b t op i x → IsBlocker b t op j w → i < j → ⊥
    below i j x w h k l = against_some op h.symbol.front h.symbol.back h.serving.foresight x h.symbol.is h.symbol.against (k.least h.caller h.serving h.is (omega (arith, h.ticket, l)))

    same : u ≡ v
    same = elim (order u v) [
      | inl l ↦ absurd (below u v y z p q l)
      | inr h ↦ elim h [ inl e ↦ e | inr l ↦ absurd (below v u z y q p l) ]
    ]

    serving : p.serving ≡ q.serving
    serving = (one m b L p.caller q.caller p.serving q.serving p.is q.is (p.ticket ∙ same ∙ sym q.ticket)).1

-- no older open ticket is against an operation of the oldest one
pub oldest_free : (m : Meaning) (b : Book) (t : ℕ) (op : Op) → Lawful m b → IsOldestOpen (Some t) b.journal → IsFree b t op
oldest_free m b t op L o c s at l = absurd (omega (arith, l, o.1 s.ticket (L.records c s at).is_open))

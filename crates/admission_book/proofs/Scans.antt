-- The search for the least older open ticket that is against an operation.
use Rattle.std.proofs.Common.{◌≡◌, ℕ, suc, ◌+◌, ◌<◌, ◌≤◌, List, [], ◌∷◌, ◌⊎◌, inl, inr, Option, Some, None, length, get_or, refl, sym, ◌∙◌, ap, subst, arith}
use mathlib.Core.List.{map}
use Rattle.std.proofs.lemmas.List.{get_or_past}
use Rattle.std.proofs.lemmas.Bool.{cases_lt}
use Rattle.std.proofs.lemmas.Option.{none-some}
use Rattle.std.specs.List.{AllByRecursion}
use Rattle.session_values.specs.declared.op.Op.{Op}
use Rattle.symbolic_ops.specs.Commuting.{CommutesWith}
use Rattle.session_journal.specs.Script.{Meaning}
use Rattle.admission_book.specs.Book.{Serving, IsFree}
use Rattle.admission_book.specs.declared.blocker.Blocker.{Blocker}
use Rattle.admission_book.specs.declared.caller_record.CallerRecord.{CallerRecord}
use Rattle.admission_book.specs.CallerRecord.{serving_of}
use Rattle.admission_book.specs.Found.{bound, IsPast, NextFound, book_with, Found, Scanned}

lower : (low high : ℕ) (op : Op) (s : Option Serving) → low ≤ high → IsPast high op s → IsPast low op s
lower low high op None l h = tt
lower low high op (Some s) l h = λ k. h (omega arith)

-- one record more
pub scan_more : (rs : List (Option Serving)) (t : ℕ) (op : Op) (i : ℕ) (found r : Option Blocker) (x : Option Serving) → get_or rs i None ≡ x → Scanned rs t op i found → NextFound t op found x r → Scanned rs t op (i + 1) r
scan_more rs t op i found r x is s (inl h) =
    let P : Option Blocker → Type 0 = λ o. Scanned rs t op (i + 1) o in
    subst P (sym h.0) (record { past = λ c l. next c l; at = s.at; older = s.older })
  where
    last : (c : ℕ) → c < i + 1 → (c < i) ⊎ (i ≡ c)
    last c l = grind arith

    next : (c : ℕ) → c < i + 1 → IsPast (bound t found) op (get_or rs c None)
    next c l = elim (last c l) [
      | inl k ↦ s.past c k
      | inr e ↦ let Q : ℕ → Type 0 = λ j. IsPast (bound t found) op (get_or rs j None) in let R : Option Serving → Type 0 = λ o. IsPast (bound t found) op o in subst Q e (subst R (sym is) h.1)
    ]
scan_more rs t op i found None None is s (inr h) = absurd h.1
scan_more rs t op i found (Some b) None is s (inr h) = absurd h.1
scan_more rs t op i found None (Some x) is s (inr h) = absurd h.1
scan_more rs t op i found (Some b) (Some x) is s (inr h) = record {
  past = next;
  at = record { caller = i; serving = x; is = is; ticket = h.1.0; is_older = omega (arith, h.0, s.older); symbol = h.1.1 };
  older = omega (arith, h.0, s.older);
}
  where
    last : (c : ℕ) → c < i + 1 → (c < i) ⊎ (i ≡ c)
    last c l = grind arith

    itself : IsPast b.older op (Some x)
    itself = λ k. absurd (omega (arith, k, h.1.0))

    next : (c : ℕ) → c < i + 1 → IsPast b.older op (get_or rs c None)
    next c l = elim (last c l) [
      | inl k ↦ lower b.older (bound t found) op (get_or rs c None) (omega (arith, h.0)) (s.past c k)
      | inr e ↦ let Q : ℕ → Type 0 = λ j. IsPast b.older op (get_or rs j None) in let R : Option Serving → Type 0 = λ o. IsPast b.older op o in subst Q e (subst R (sym is) itself)
    ]

all_free : (rs : List (Option Serving)) (limit : ℕ) (op : Op) → ((c : ℕ) → c < length rs → IsPast limit op (get_or rs c None)) → IsFree (book_with rs) limit op
all_free rs limit op h c s at less = by_place (cases_lt c (length rs))
  where
    by_place : (c < length rs) ⊎ (length rs ≤ c) → AllByRecursion (λ y. CommutesWith op y) s.foresight
    by_place (inl l) = let P : Option Serving → Type 0 = λ o. IsPast limit op o in subst P at (h c l) less
    by_place (inr g) = absurd (none-some s (sym (get_or_past rs c None g) ∙ at))

-- all records
pub scan_all : (rs : List (Option Serving)) (t : ℕ) (op : Op) (i : ℕ) (found : Option Blocker) → length rs ≤ i → Scanned rs t op i found → Found rs t op found
scan_all rs t op i None l s = all_free rs t op (λ c h. s.past c (omega arith))
scan_all rs t op i (Some b) l s = record {
  caller = s.at.caller;
  serving = s.at.serving;
  is = s.at.is;
  ticket = s.at.ticket;
  is_older = s.at.is_older;
  symbol = s.at.symbol;
  least = all_free rs b.older op (λ c h. s.past c (omega arith));
}

-- the record of a line
pub record_is : (m : Meaning) (ls : List CallerRecord) (i : ℕ) (x : CallerRecord) → i < length ls → x ≡ get_or ls i x → get_or (map (λ (l : CallerRecord). serving_of m l) ls) i None ≡ serving_of m x
record_is m [] i x h e = absurd (omega arith)
record_is m (l ∷ ls) ℕ.zero x h e = ap (λ (y : CallerRecord). serving_of m y) (sym e)
record_is m (l ∷ ls) (suc i) x h e = record_is m ls i x (omega arith) e

pub records_length : (m : Meaning) (ls : List CallerRecord) → length (map (λ (l : CallerRecord). serving_of m l) ls) ≡ length ls
records_length m [] = refl
records_length m (l ∷ ls) = ap suc (records_length m ls)

-- Rows in the order of their counts.
use Rattle.std.proofs.Common.{◌≡◌, ℕ, List, subst}
use Rattle.std.specs.List.Sorted.{IsPermutation, IsSortedByKeyClosure, IsStableByKey, IsStableByKeyClosure}
use Rattle.std.specs.Ordering.{nat_cmp}
use Rattle.std.specs.Fn.{Called}
use Rattle.std.specs.declared.cmp.Reverse.{Reverse}
use Rattle.std.proofs.lemmas.Fn.{always_returns_same}
use denote.Param.Members.{Mut}
use denote.Ref.{Bor}
use Rattle.waiting_pairs.specs.declared.cause.Cause.{Cause}
use Rattle.waiting_pairs.specs.declared.counting.Row.{Row}
use Rattle.waiting_pairs.specs.Rows.{AreRows, larger_first, tally}

pub rows_sorted : {F : Type 0} {g : Mut F (Bor Row × Unit {0}) (Reverse ℕ)} {f : F} (causes : List Cause) (before rows : List Row) → before ≡ tally causes → IsPermutation before rows
    → IsSortedByKeyClosure g (λ x y. nat_cmp y.0 x.0) f rows → IsStableByKeyClosure g (λ x y. nat_cmp y.0 x.0) f before rows
    → ((a : Bor Row × Unit {0}) (r : Reverse ℕ) (f' : F) → Called g f a r f' → (r ≡ record { 0 = a.0.now.count }) × (f' ≡ f)) → AreRows causes rows
rows_sorted {F} {g} {f} causes before rows is permutation sorted stable calls = record {
  same = subst (λ (rs : List Row). IsPermutation rs rows) is permutation;
  sorted = sorted (λ (r : Row). record { 0 = r.count }) (always_returns_same g (λ a r. r ≡ record { 0 = a.0.now.count }) f calls);
  stable = subst (λ (rs : List Row). IsStableByKey (λ (r : Row). r.count) larger_first rs rows) is
      (stable (λ (r : Row). record { 0 = r.count }) (always_returns_same g (λ a r. r ≡ record { 0 = a.0.now.count }) f calls));
}

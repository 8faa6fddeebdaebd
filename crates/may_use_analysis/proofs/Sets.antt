-- Sets of the same symbols.
use Rattle.std.proofs.Common.{◌≡◌, ℕ, ◌≤◌, List, length, ◌↔◌, sym, subst}
use Rattle.std.specs.List.Sorted.{IsStrictlySortedBy}
use Rattle.symbolic_ops.specs.Order.{symbol_cmp}
use Rattle.symbolic_ops.specs.declared.symbol.Symbol.{Symbol}
use Rattle.check_meaning.specs.Code.{Code}
use Rattle.may_use_analysis.specs.Trails.{Symbols}
use Rattle.may_use_analysis.specs.Flow.{Flow, Head}
use Rattle.may_use_analysis.specs.Ordered.{Are, Lists}
use Rattle.may_use_analysis.specs.PointList.{PointList, Listed, Unlisted, Counted, IsPointList, IsPointListOf}
use Rattle.may_use_analysis.proofs.FlowLemmas.{flow_within, turned_within}

-- two sets of the same symbols
abbrev pub Same : Symbols → Symbols → Type 0
Same A B = (s : Symbol) → A s ↔ B s

pub flow_same : (code : Code) (A B : Symbols) → Same A B → Same (Flow code A) (Flow code B)
flow_same code A B h s = (flow_within code A B (λ z m. (h z).0 m) s, flow_within code B A (λ z m. (h z).1 m) s)

pub head_same : (x : ℕ) (body : Code) (A B : Symbols) → Same A B → Same (Head x body A) (Head x body B)
head_same x body A B h s =
    (λ m. (m.0, turned_within x m.0 (Flow body) (flow_within body) A B (λ z k. (h z).0 k) s m.1), λ m. (m.0, turned_within x m.0 (Flow body) (flow_within body) B A (λ z k. (h z).1 k) s m.1))

pub are_same : (list : List Symbol) (A B : Symbols) → Same A B → Are list A → Are list B
are_same list A B h r s = (λ m. (h s).0 ((r s).0 m), λ m. (r s).1 ((h s).1 m))

pub lists_same : (list : List Symbol) (A B : Symbols) → Same A B → Lists list A → Lists list B
lists_same list A B h r = (r.0, are_same list A B h r.1)

pub stored_same : (stored : PointList) (A B : Symbols) → Same A B → IsPointList stored A → IsPointList stored B
stored_same (Listed list) A B h r = (lists_same list A B h r.0, r.1)
stored_same Unlisted A B h r = (r.0, lists_same r.0 A B h r.1, r.2)
stored_same (Counted n) A B h r = (r.0, lists_same r.0 A B h r.1, r.2, r.3)

-- what is kept of a list that has the symbols of a set
pub stored_lists : (list : List Symbol) (stored : PointList) (A : Symbols) → IsPointListOf list stored → Lists list A → IsPointList stored A
stored_lists list (Listed kept) A k h = (subst (λ (z : List Symbol). Lists z A) (sym k.0) h, subst (λ (z : List Symbol). length z ≤ 256) (sym k.0) k.1)
stored_lists list Unlisted A k h = (list, h, k)
stored_lists list (Counted n) A k h = (list, h, k.0, k.1)

-- the same, where the list was lent
pub stored_lent : (lent list : List Symbol) (stored : PointList) (A : Symbols) → lent ≡ list → IsPointListOf lent stored → IsStrictlySortedBy symbol_cmp list → Are list A → IsPointList stored A
stored_lent lent list stored A e k order is = stored_lists list stored A (subst (λ (z : List Symbol). IsPointListOf z stored) e k) (order, is)

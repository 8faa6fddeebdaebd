-- The variables that symbols mention, as bits.
use Rattle.std.proofs.Common.{◌≡◌, ℕ, ◌+◌, ◌*◌, ◌^◌, ◌%◌, ◌<◌, List, take, length, get_or, bit_or, sym, ap, ◌∙◌, subst, inl, inr, ◌⊎◌, Contains, arith}
use Rattle.std.specs.Int.{bit_at}
use Rattle.std.specs.List.{insert}
use Rattle.std.proofs.lemmas.Nat.{one_shl}
use Rattle.std.proofs.lemmas.Nat.Bits.{bit_at_or, bit_at-pow_same, bit_at-lt}
use Rattle.symbolic_ops.specs.declared.arg.Arg.{Arg}
use Rattle.symbolic_ops.specs.declared.arg.Arg.TheVariants.{Known, Var, Any}
use Rattle.symbolic_ops.specs.declared.symbol.Symbol.{Symbol}
use Rattle.may_use_analysis.specs.Vars.{IsMarked, IsArgMarked, Covers, AllCovered}
use Rattle.may_use_analysis.proofs.Members.{contains_more}
use Rattle.may_use_analysis.proofs.Sorting.{inserted_members}

pub set_here : (bits x : ℕ) → x < 64 → IsMarked (bit_or bits ((1 * 2 ^ x) % 2 ^ 64)) x
set_here bits x lt =
    let bit = (1 * 2 ^ x) % 2 ^ 64 in
    let one : bit_at bit x ≡ 1 = ap (λ (n : ℕ). bit_at n x) (one_shl x 64 lt) ∙ bit_at-pow_same x in
    let few = bit_at-lt bits x in
    inr (bit_at_or bits bit x ∙ omega arith)

pub set_still : (bits x y : ℕ) → IsMarked bits y → IsMarked (bit_or bits ((1 * 2 ^ x) % 2 ^ 64)) y
set_still bits x y (inl le) = inl le
set_still bits x y (inr e) =
    let bit = (1 * 2 ^ x) % 2 ^ 64 in
    let few = bit_at-lt bit y in
    inr (bit_at_or bits bit y ∙ omega arith)

arg_still : (bits more : ℕ) → ((x : ℕ) → IsMarked bits x → IsMarked more x) → (a : Arg) → IsArgMarked bits a → IsArgMarked more a
arg_still bits more still (Known v) m = m
arg_still bits more still (Var x) m = still x m
arg_still bits more still Any m = m

covers_still : (bits more : ℕ) → ((x : ℕ) → IsMarked bits x → IsMarked more x) → (s : Symbol) → Covers bits s → Covers more s
covers_still bits more still s c = (arg_still bits more still s.key c.0, arg_still bits more still s.value c.1)

one_more : (P : Symbol → Type 0) (A : Symbol → Type 0) (s : Symbol) → ((q : Symbol) → A q → P q) → P s → (q : Symbol) → A q ⊎ (q ≡ s) → P q
one_more P A s h here q (inl m) = h q m
one_more P A s h here q (inr e) = subst P (sym e) here

pub inserted_covered : (xs : List Symbol) (i : ℕ) (s : Symbol) (bits more : ℕ) → AllCovered bits xs → ((x : ℕ) → IsMarked bits x → IsMarked more x) → Covers more s → AllCovered more (insert xs i s)
inserted_covered xs i s bits more all still here q m =
    one_more (Covers more) (Contains xs) s (λ z k. covers_still bits more still z (all z k)) here q ((inserted_members xs i s q).0 m)

-- one more symbol of a list
pub covered_more : (xs : List Symbol) (i : ℕ) (s : Symbol) (bits more : ℕ) → i < length xs → s ≡ get_or xs i s → AllCovered bits (take i xs) → ((x : ℕ) → IsMarked bits x → IsMarked more x) → Covers more s → AllCovered more (take (i + 1) xs)
covered_more xs i s bits more lt is all still here q m =
    one_more (Covers more) (Contains (take i xs)) s (λ z k. covers_still bits more still z (all z k)) here q ((contains_more xs i s s lt is q).0 m)

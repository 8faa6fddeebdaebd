-- Where the same is declared as before, each kind on a table once, the values of the variables tell
-- nothing new.
use Rattle.std.proofs.Common.{◌≡◌, ◌∙◌, List, [], ◌∷◌, inl, inr, map, refl, sym, ap, subst}
use Rattle.std.specs.List.{AllByRecursion}
use Rattle.symbolic_ops.specs.declared.arg.Arg.{Arg}
use Rattle.symbolic_ops.specs.declared.arg.Arg.TheVariants.{Known, Var, Any}
use Rattle.symbolic_ops.specs.declared.symbol.Symbol.{Symbol}
use Rattle.symbolic_ops.specs.Matching.{ArgBelow, Below, Covered, IsBelowSome}
use Rattle.session_journal.specs.Desks.{DeskView}
use Rattle.check_meaning.specs.Dialogue.{Env}
use Rattle.declaration_insertion.specs.Facts.{IsOther, NamesEachOnce}
use Rattle.declaration_insertion.specs.Promises.{arg_at, symbol_at}
use Rattle.handler_machine.specs.Serving.{HasListOf}

module _ (before env : Env) where
  same_arg : (a : Arg) → ArgBelow (arg_at env a) (arg_at before a) → arg_at env a ≡ arg_at before a
  same_arg (Known v) h = refl
  same_arg (Var x) h = ap Known h
  same_arg Any h = refl

  same_symbol : (s : Symbol) → Below (symbol_at env s) (symbol_at before s) → symbol_at env s ≡ symbol_at before s
  same_symbol s h =
      let key = same_arg s.key h.key in
      let value = same_arg s.value h.value in
      λ i. record { kind = s.kind; table = s.table; key = key i; value = value i }

  none_below : (s : Symbol) (list : List Symbol) → AllByRecursion (IsOther s) list → IsBelowSome (symbol_at env s) (map (symbol_at before) list) → ⊥
  none_below s [] o h = h
  none_below s (t ∷ list) o (inl h) = o.0 h.kind h.table
  none_below s (t ∷ list) o (inr h) = none_below s list o.1 h

  first_same : (s : Symbol) (list : List Symbol) → AllByRecursion (IsOther s) list → IsBelowSome (symbol_at env s) (symbol_at before s ∷ map (symbol_at before) list) → symbol_at env s ≡ symbol_at before s
  first_same s list o (inl h) = same_symbol s h
  first_same s list o (inr h) = absurd (none_below s list o h)

  other_below : (s t : Symbol) (list : List Symbol) → IsOther s t → IsBelowSome (symbol_at env t) (symbol_at before s ∷ map (symbol_at before) list) → IsBelowSome (symbol_at env t) (map (symbol_at before) list)
  other_below s t list o (inl h) = absurd (o (sym h.kind) (sym h.table))
  other_below s t list o (inr h) = h

  rest_covered : (s : Symbol) (some list : List Symbol) → AllByRecursion (IsOther s) some → Covered (map (symbol_at env) some) (symbol_at before s ∷ map (symbol_at before) list) → Covered (map (symbol_at env) some) (map (symbol_at before) list)
  rest_covered s [] list o h = tt
  rest_covered s (t ∷ some) list o h = (other_below s t list o.0 h.0, rest_covered s some list o.1 h.1)

  -- a list that names each kind once is covered by itself with other values only where these are the
  -- same
  pub same_values : (list : List Symbol) → NamesEachOnce list → Covered (map (symbol_at env) list) (map (symbol_at before) list) → map (symbol_at env) list ≡ map (symbol_at before) list
  same_values [] n h = refl
  same_values (s ∷ list) n h =
      let first = first_same s list n.0 h.0 in
      let rest = same_values list n.1 (rest_covered s list list n.0 h.1) in
      λ i. first i ∷ rest i

-- so the desk has it already
pub still_has : (was list : List Symbol) (env : Env) (d : DeskView) → HasListOf was d → was ≡ list → NamesEachOnce list → Covered (map (symbol_at env) list) d.present → d.present ≡ map (symbol_at env) list
still_has was list env d has same once covered =
    let had : d.present ≡ map (symbol_at has.0) list = has.1 ∙ ap (map (symbol_at has.0)) same in
    had ∙ sym (same_values has.0 env list once (subst (Covered (map (symbol_at env) list)) had covered))

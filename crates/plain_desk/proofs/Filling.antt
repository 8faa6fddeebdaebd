-- The tables of a new desk.
use Rattle.std.proofs.Common.{◌≡◌, ℕ, ◌+◌, List, Option, Bool, false, cond, nat_lt, sym, ◌∙◌, ap, arith}
use Rattle.std.proofs.lemmas.Bool.Decides.{nat_tests}
use Rattle.session_values.specs.Dialogue.{Entry}
use Rattle.session_values.specs.Serial.{tables_before}
use Rattle.symbolic_ops.specs.declared.symbol.Symbol.{Symbol}
use Rattle.session_journal.specs.Script.{Meaning, session_of}
use Rattle.plain_desk.specs.PlainDesks.{desk_of, ended_count}
use Rattle.session_values.specs.Tables.{Tables}

-- its tables are those before the first ticket
pub first_tables : (m : Meaning) (t : ℕ) (es : List Entry) (f : List Symbol) (w : Option Entry) (e : Bool) (ts : Tables) → t ≡ m.requests → ts ≡ m.opening → ts ≡ tables_before (session_of m) (ended_count m (desk_of t es f w e))
first_tables m t es f w e ts is held = held ∙ ap (tables_before (session_of m)) (sym none)
  where
    none : ended_count m (desk_of t es f w e) ≡ 0
    none = ap (λ (b : Bool). cond b (t + cond e 1 0) 0) (not_below t m.requests is)
      where
        not_below : (a b : ℕ) → a ≡ b → nat_lt a b ≡ false
        not_below a b h = grind (arith, nat_tests)

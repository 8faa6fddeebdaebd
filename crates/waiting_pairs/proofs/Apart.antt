-- Symbols of two tables, or with two known keys, don't delay one another.
use Rattle.std.proofs.Common.{◌≡◌, ◌≢◌, Bool, true, false, sym, ap, ◌∙◌}
use Rattle.std.specs.Bool.{Decides}
use Rattle.session_values.specs.Kinds.{is_keyed}
use Rattle.session_values.specs.declared.value.Value.{Value}
use Rattle.symbolic_ops.specs.declared.arg.Arg.{Arg}
use Rattle.symbolic_ops.specs.declared.arg.Arg.TheVariants.{Known, Var, Any}
use Rattle.symbolic_ops.specs.declared.symbol.Symbol.{Symbol}
use Rattle.symbolic_ops.specs.Matching.{Agrees}
use Rattle.check_meaning.specs.Dialogue.{Env}
use Rattle.commute_tables.specs.Pairs.{AreOnOneKey}
use Rattle.serve_reading.specs.Promises.{arg_at}
use Rattle.waiting_pairs.specs.Delays.{Delays}
use Rattle.waiting_pairs.specs.Opened.{AreOthers, HaveOtherKeys}
use Rattle.waiting_pairs.proofs.Deciding.{on_one_key}

on_one : (s o : Symbol) (d : Delays s o) → AreOnOneKey d.later d.called
on_one s o d = on_one_key d.later d.called d.may_come.stands.held d.may_call.stands.held d.differ

apart_tables : (s o : Symbol) → s.table ≢ o.table → Delays s o → ⊥
apart_tables s o n d = n (d.may_come.stands.table ∙ (on_one s o d).table ∙ sym d.may_call.stands.table)

others : (a b : Arg) (e f : Env) (k l : Value) → AreOthers a b → Agrees (arg_at e a) k → Agrees (arg_at f b) l → k ≡ l → ⊥
others (Known v) (Known w) e f k l n p q r = n (p ∙ r ∙ sym q)
others (Known v) (Var y) e f k l n p q r = n
others (Known v) Any e f k l n p q r = n
others (Var x) b e f k l n p q r = n
others Any b e f k l n p q r = n

apart_keys : (s o : Symbol) → HaveOtherKeys s o → Delays s o → ⊥
apart_keys s o (p, q, n) d =
    others s.key o.key d.may_come.env d.may_call.env d.later.key d.called.key n d.may_come.stands.key d.may_call.stands.key
    ((on_one s o d).key (ap is_keyed (sym d.may_come.stands.kind) ∙ p) (ap is_keyed (sym d.may_call.stands.kind) ∙ q))

never : {P : Type 0} → (P → ⊥) → Decides false P
never n = (λ e. cc, λ p. absurd (n p))

pub of_two_tables : (s o : Symbol) → s.table ≢ o.table → Decides false (Delays s o)
of_two_tables s o n = never (apart_tables s o n)

pub of_two_keys : (s o : Symbol) → HaveOtherKeys s o → Decides false (Delays s o)
of_two_keys s o h = never (apart_keys s o h)

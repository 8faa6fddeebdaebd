-- Symbols whose variables may hold any value, against what they stand for with some values.
use Rattle.std.proofs.Common.{◌≡◌, ◌≢◌, ℕ, ◌<◌, pos, ◌⊎◌, inl, inr, Bool, true, false, if◌then◌else◌, eqb, refl, sym, ap, subst, ◌∙◌, arith}
use Rattle.std.proofs.lemmas.Bool.{eqb-true, eq-eqb, ltb-false}
use Rattle.std.specs.Prelude.{nat_lt}
use Rattle.session_values.specs.declared.value.Value.{Value}
use Rattle.session_values.specs.declared.value.Value.TheVariants.{Nil, Num, Sym}
use Rattle.session_values.specs.declared.op.Op.{Op}
use Rattle.session_values.specs.Kinds.{arguments}
use Rattle.session_values.specs.Op.{IsHeld}
use Rattle.session_values.specs.Values.{IsValue}
use Rattle.symbolic_ops.specs.declared.arg.Arg.{Arg}
use Rattle.symbolic_ops.specs.declared.arg.Arg.TheVariants.{Known, Var, Any}
use Rattle.symbolic_ops.specs.declared.symbol.Symbol.{Symbol}
use Rattle.symbolic_ops.specs.Matching.{Agrees, HasNoVar, IsNoVar, StandsFor}
use Rattle.symbolic_ops.specs.Symbol.{IsHeldSymbol}
use Rattle.check_meaning.specs.Dialogue.{Env}
use Rattle.serve_reading.specs.Promises.{arg_at, symbol_at}
use Rattle.waiting_pairs.specs.Delays.{MayBe}
use Rattle.waiting_pairs.specs.Opened.{are_tied, is_tied, opened, opened_arg}
use Rattle.waiting_pairs.proofs.TiedPairs.{has_two}

-- ---- the values of variables for one operation
abbrev is_var : Arg → ℕ → Bool
is_var (Var y) x = eqb y x
is_var (Known w) x = false
is_var Any x = false

abbrev picked : Bool → Bool → Value → Value → Value
picked true c k v = k
picked false true k v = v
picked false false k v = Nil

picked_held : (b c : Bool) (k v : Value) → IsValue k → IsValue v → IsValue (picked b c k v)
picked_held true c k v p q = p
picked_held false true k v p q = q
picked_held false false k v p q = tt

-- a variable that is the key has the first value, another one that is the value the second
abbrev env_for : Arg → Value → Arg → Value → Env
env_for key k value v = λ x. picked (is_var key x) (is_var value x) k v

key_agrees : (key value : Arg) (k v : Value) → Agrees (opened_arg key) k → Agrees (arg_at (env_for key k value v) key) k
key_agrees (Known w) value k v h = h
key_agrees (Var x) value k v h = ap (λ (b : Bool). picked b (is_var value x) k v) (eq-eqb x x refl)
key_agrees Any value k v h = tt

value_agrees : (key value : Arg) (k v : Value) → are_tied key value ≡ false → Agrees (opened_arg value) v → Agrees (arg_at (env_for key k value v) value) v
value_agrees key (Known w) k v n h = h
value_agrees key Any k v n h = tt
value_agrees (Known u) (Var x) k v n h = ap (λ (b : Bool). picked false b k v) (eq-eqb x x refl)
value_agrees Any (Var x) k v n h = ap (λ (b : Bool). picked false b k v) (eq-eqb x x refl)
value_agrees (Var y) (Var x) k v n h = ap (λ (b : Bool). picked b (eqb x x) k v) n ∙ ap (λ (b : Bool). picked false b k v) (eq-eqb x x refl)

tied_agree : (key value : Arg) (u k v : Value) → are_tied key value ≡ true → u ≡ k → u ≡ v → Agrees (arg_at (λ x. u) key) k × Agrees (arg_at (λ x. u) value) v
tied_agree (Var x) (Var y) u k v t p q = (p, q)
tied_agree (Var x) (Known w) u k v t p q = cc
tied_agree (Var x) Any u k v t p q = cc
tied_agree (Known w) value u k v t p q = cc
tied_agree Any value u k v t p q = cc

from_parts : (b : Bool) (s : Symbol) (u : Value) (op : Op) → is_tied s ≡ b → IsHeld op → s.kind ≡ op.kind → s.table ≡ op.table
    → Agrees (if b then Known u else opened_arg s.key) op.key → Agrees (if b then Known u else opened_arg s.value) op.value → MayBe s op
from_parts true s u op t held kind table k v =
    let both = tied_agree s.key s.value u op.key op.value t k v in
    record {
      env = λ x. u;
      held = λ x. subst IsValue (sym k) held.key;
      stands = record { held = held; kind = kind; table = table; key = both.0; value = both.1 };
    }
from_parts false s u op t held kind table k v = record {
  env = env_for s.key op.key s.value op.value;
  held = λ x. picked_held (is_var s.key x) (is_var s.value x) op.key op.value held.key held.value;
  stands = record {
    held = held;
    kind = kind;
    table = table;
    key = key_agrees s.key s.value op.key op.value k;
    value = value_agrees s.key s.value op.key op.value t v;
  };
}

-- what an opened symbol stands for, the symbol may stand for
pub from_opened : (s : Symbol) (u : Value) (op : Op) → StandsFor (opened s u) op → MayBe s op
from_opened s u op h = from_parts (is_tied s) s u op refl h.held h.kind h.table h.key h.value

-- ---- and back
opened_agrees : (env : Env) (a : Arg) (v : Value) → Agrees (arg_at env a) v → Agrees (opened_arg a) v
opened_agrees env (Known w) v h = h
opened_agrees env (Var x) v h = tt
opened_agrees env Any v h = tt

pub free_parts : (s : Symbol) (u : Value) (op : Op) → is_tied s ≡ false → IsHeld op → s.kind ≡ op.kind → s.table ≡ op.table
    → Agrees (opened_arg s.key) op.key → Agrees (opened_arg s.value) op.value → StandsFor (opened s u) op
free_parts s u op t held kind table k v = record {
  held = held;
  kind = kind;
  table = table;
  key = subst (λ (b : Bool). Agrees (if b then Known u else opened_arg s.key) op.key) (sym t) k;
  value = subst (λ (b : Bool). Agrees (if b then Known u else opened_arg s.value) op.value) (sym t) v;
}

-- where key and value aren't one variable, the opened symbol stands for all that it may stand for
pub to_opened : (s : Symbol) (u : Value) (op : Op) → is_tied s ≡ false → MayBe s op → StandsFor (opened s u) op
to_opened s u op t m = free_parts s u op t m.stands.held m.stands.kind m.stands.table (opened_agrees m.env s.key op.key m.stands.key) (opened_agrees m.env s.value op.value m.stands.value)

pub key_opened : (s : Symbol) (op : Op) → MayBe s op → Agrees (opened_arg s.key) op.key
key_opened s op m = opened_agrees m.env s.key op.key m.stands.key

pub value_opened : (s : Symbol) (op : Op) → MayBe s op → Agrees (opened_arg s.value) op.value
value_opened s op m = opened_agrees m.env s.value op.value m.stands.value

-- where they are one, it stands for the operations with this value as both
pub tied_opened : (s : Symbol) (u : Value) (op : Op) → is_tied s ≡ true → IsHeld op → s.kind ≡ op.kind → s.table ≡ op.table → u ≡ op.key → u ≡ op.value → StandsFor (opened s u) op
tied_opened s u op t held kind table k v = record {
  held = held;
  kind = kind;
  table = table;
  key = subst (λ (b : Bool). Agrees (if b then Known u else opened_arg s.key) op.key) (sym t) k;
  value = subst (λ (b : Bool). Agrees (if b then Known u else opened_arg s.value) op.value) (sym t) v;
}

same_both : (env : Env) (a b : Arg) (k v : Value) → are_tied a b ≡ true → Agrees (arg_at env a) k → Agrees (arg_at env b) v → k ≡ v
same_both env (Var x) (Var y) k v t p q = sym p ∙ ap env (eqb-true x y t) ∙ q
same_both env (Var x) (Known w) k v t p q = cc
same_both env (Var x) Any k v t p q = cc
same_both env (Known w) b k v t p q = cc
same_both env Any b k v t p q = cc

-- then the operation's key is its value
pub tied_same : (s : Symbol) (op : Op) → is_tied s ≡ true → MayBe s op → op.key ≡ op.value
tied_same s op t m = same_both m.env s.key s.value op.key op.value t m.stands.key m.stands.value

not_known : (a b : Arg) → are_tied a b ≡ true → b ≡ Known Nil → ⊥
not_known (Var x) (Var y) t e = cc
not_known (Var x) (Known w) t e = cc
not_known (Var x) Any t e = cc
not_known (Known w) b t e = cc
not_known Any b t e = cc

-- and its kind has both
pub tied_two : (s : Symbol) → IsHeldSymbol s → is_tied s ≡ true → has_two s.kind ≡ true
tied_two s h t = go (has_two s.kind) refl
  where
    go : (b : Bool) → has_two s.kind ≡ b → has_two s.kind ≡ true
    go true e = e
    go false e = absurd (not_known s.key s.value t (h.unused.1 (omega (arith, ltb-false 1 (arguments s.kind) e))))

-- ---- the opened symbol
opened_no_var : (a : Arg) → IsNoVar (opened_arg a)
opened_no_var (Known v) = tt
opened_no_var (Var x) = tt
opened_no_var Any = tt

pub opened_known : (s : Symbol) (u : Value) → HasNoVar (opened s u)
opened_known s u = (go (is_tied s) s.key, go (is_tied s) s.value)
  where
    go : (b : Bool) (a : Arg) → IsNoVar (if b then Known u else opened_arg a)
    go true a = tt
    go false a = opened_no_var a

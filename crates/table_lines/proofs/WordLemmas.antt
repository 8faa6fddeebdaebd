-- Words that were taken one after another, with their values.
use Rattle.std.proofs.Common.{◌≡◌, ℕ, ◌+◌, ◌≤◌, Bool, true, false, not, ◌&&◌, cond, List, [], ◌∷◌, length, Option, Some, None, Result, Err, refl, sym, ◌∙◌, ap, subst, arith}
use Rattle.std.specs.Option.{is_some, unwrap_or}
use Rattle.std.specs.Prelude.{MatchOption}
use Rattle.session_values.specs.Names.{Begins}
use Rattle.session_values.specs.declared.kind.TableKind.TheVariants.{Map, Set}
use Rattle.session_values.specs.declared.value.Value.{Value}
use Rattle.session_values.specs.declared.value.Value.TheVariants.{Nil}
use Rattle.session_values.proofs.Named.{begins_same}
use Rattle.session_values.specs.Opening.{Pair}
use Rattle.text_lines.specs.Steps.{FindsValue, IsTaken}
use Rattle.text_lines.specs.Text.{Text, words}
use Rattle.text_lines.specs.Values.{is_value, placed, value_of}
use Rattle.text_lines.specs.declared.line.Line.{Line}
use Rattle.text_lines.proofs.ValueLemmas.{is_value_is, placed_all_nil, placed_all_step, placed_begins, placed_length, value_kept}
use Rattle.table_lines.specs.Accepting.{Reads}
use Rattle.table_lines.specs.TableRows.{word_fault}
use Rattle.table_lines.specs.declared.refusal.TableRefusal.{TableRefusal}
use Rattle.table_lines.specs.declared.refusal.TableRefusal.TheVariants.{BadWord}

-- ---- one word

pub says_kept : (old new : Line) (names after : List Text) (found : Option (Option Value)) → FindsValue old names found new after → Begins names after
says_kept old new names after None s = subst (Begins names) (sym s.1) (begins_same names)
says_kept old new names after (Some v) s = subst (Begins names) (sym s.2.1) (placed_begins names s.0)

-- whether it is a value
taken_is : (names : List Text) (line rest : Text) (v : Option Value) (after : List Text) (t : IsTaken names line v rest after) → is_value t.0 ≡ is_some v
taken_is names line rest v after t = is_value_is after t.0 ∙ ap is_some (sym t.2.0)

-- ---- a key and a value

is_one : (names : List Text) (w : Text) (v : Value) → value_of names w ≡ Some v → is_value w ≡ true
is_one names w v e = is_value_is names w ∙ ap is_some e

reads_both : (old mid new : List Text) (a b : Text) (k v : Value) → value_of mid a ≡ Some k → mid ≡ placed old a → value_of new b ≡ Some v → new ≡ placed mid b → Reads old new Map (a ∷ b ∷ []) (k, v)
reads_both old mid new a b k v ka m vb n =
    let end : new ≡ placed (placed old a) b = n ∙ ap (λ (ns : List Text). placed ns b) m in
    let front : Begins (placed old a) new = subst (Begins (placed old a)) (sym end) (placed_begins (placed old a) b) in
    let key : value_of new a ≡ Some k = value_kept old new a front ∙ ap (λ (ns : List Text). value_of ns a) (sym m) ∙ ka in
    record {
      many = refl;
      values = ap (λ (x : Bool). x && (is_value b && true)) (is_one mid a k ka) ∙ ap (λ (x : Bool). x && true) (is_one new b v vb);
      pair_is = let P : Option Value → Option Value → Pair = λ o q. (unwrap_or o Nil, unwrap_or q Nil) in sym (ap (λ (o : Option Value). P o (value_of new b)) key ∙ ap (P (Some k)) vb);
      names = end ∙ sym (placed_all_step old a (b ∷ []) ∙ placed_all_step (placed old a) b [] ∙ placed_all_nil (placed (placed old a) b));
    }

pub map_reads : (old mid new : List Text) (line behind last : Text) (k v : Value) → IsTaken old line (Some k) behind mid → IsTaken mid behind (Some v) last new → words last ≡ [] → Reads old new Map (words line) (k, v)
map_reads old mid new line behind last k v t u e =
    let are : words line ≡ t.0 ∷ u.0 ∷ [] = t.1.0 ∙ ap (λ (ws : List Text). t.0 ∷ ws) (u.1.0 ∙ ap (λ (ws : List Text). u.0 ∷ ws) e) in
    subst (λ (ws : List Text). Reads old new Map ws (k, v)) (sym are) (reads_both old mid new t.0 u.0 k v (sym t.2.0) t.2.1 (sym u.2.0) u.2.1)

pub map_bad : (old mid new : List Text) (line behind last : Text) (o q : Option Value) (n : ℕ) → (is_some o && (is_some q && true)) ≡ false → IsTaken old line o behind mid → IsTaken mid behind q last new → words last ≡ [] → word_fault Map n (words line) ≡ Some (BadWord n)
map_bad old mid new line behind last o q n bad t u e =
    let are : words line ≡ t.0 ∷ u.0 ∷ [] = t.1.0 ∙ ap (λ (ws : List Text). t.0 ∷ ws) (u.1.0 ∙ ap (λ (ws : List Text). u.0 ∷ ws) e) in
    let none : (is_value t.0 && (is_value u.0 && true)) ≡ false = ap (λ (x : Bool). x && (is_value u.0 && true)) (taken_is old line behind o mid t) ∙ ap (λ (x : Bool). is_some o && (x && true)) (taken_is mid behind last q new u) ∙ bad in
    ap (word_fault Map n) are ∙ ap (λ (x : Bool). cond (not x) (Some (BadWord n)) None) none

-- ---- a member

reads_one : (old new : List Text) (a : Text) (k : Value) → value_of new a ≡ Some k → new ≡ placed old a → Reads old new Set (a ∷ []) (k, Nil)
reads_one old new a k ka n = record {
  many = refl;
  values = ap (λ (x : Bool). x && true) (is_one new a k ka);
  pair_is = let P : Option Value → Pair = λ o. (unwrap_or o Nil, Nil) in sym (ap P ka);
  names = n ∙ sym (placed_all_step old a [] ∙ placed_all_nil (placed old a));
}

pub set_reads : (old new : List Text) (line last : Text) (k : Value) → IsTaken old line (Some k) last new → words last ≡ [] → Reads old new Set (words line) (k, Nil)
set_reads old new line last k t e =
    subst (λ (ws : List Text). Reads old new Set ws (k, Nil)) (sym (t.1.0 ∙ ap (λ (ws : List Text). t.0 ∷ ws) e)) (reads_one old new t.0 k (sym t.2.0) t.2.1)

pub set_bad : (old new : List Text) (line last : Text) (n : ℕ) → IsTaken old line None last new → words last ≡ [] → word_fault Set n (words line) ≡ Some (BadWord n)
set_bad old new line last n t e =
    ap (word_fault Set n) (t.1.0 ∙ ap (λ (ws : List Text). t.0 ∷ ws) e) ∙ ap (λ (x : Bool). cond (not (x && true)) (Some (BadWord n)) None) (taken_is old line last None new t)

-- ---- what is refused

pub same_refusal : (x e : TableRefusal) → ◌≡◌ {A = Result Pair TableRefusal} (Err x) (Err e) → x ≡ e
same_refusal x e h = cc

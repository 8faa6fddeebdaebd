-- The fault of one row, and its request where it has none.
use Rattle.std.proofs.Common.{◌≡◌, ◌≢◌, ℕ, suc, ◌+◌, ◌<◌, ◌≤◌, Bool, true, false, not, ◌==◌, cond, nat_le, nat_lt, List, [], ◌∷◌, length, Option, Some, None, refl, sym, ap, ◌∙◌, subst, arith, Result, Err}
use Rattle.std.proofs.lemmas.Bool.Decides.{nat_tests}
use Rattle.std.proofs.lemmas.Bool.{ltb-false}
use Rattle.std.specs.List.{list_all, AllByRecursion}
use Rattle.session_values.specs.Names.{Begins}
use Rattle.session_values.specs.Values.{IsValue}
use Rattle.session_values.specs.declared.value.Value.{Value}
use Rattle.syntax_trees.specs.declared.file.File.{File}
use Rattle.handler_check.specs.Resolved.{params_at}
use Rattle.request_files.specs.declared.tally.Tally.{Tally}
use Rattle.request_files.specs.declared.refusal.RequestRefusal.{RequestRefusal}
use Rattle.request_files.specs.declared.refusal.RequestRefusal.TheVariants.{TooManyRequests, UnknownHandler, Arity, BadWord, TooManyCalls, TooMuchWork, NoMemory}
use Rattle.text_lines.specs.Text.{Text}
use Rattle.text_lines.specs.Values.{is_value, values_of, placed_all}
use Rattle.request_files.specs.Requests.{AreKnown, handler_of, handler_fault, sum_fault, fault_of, with_request, request_of, IsWithin, Accepted}
use Rattle.text_lines.specs.Rows.{Row}
use Rattle.request_files.proofs.HandlerLemmas.{handler_kept}

module _ (names : List Text) (f : File) (t : Tally) (r : Row) where
  abbrev by_count : Bool → Option RequestRefusal
  by_count b = cond b (Some (TooManyRequests r.line)) (handler_fault f t r (handler_of names f r.name))

  fault_is : (b : Bool) → nat_le 20000 t.requests ≡ b → fault_of names f t r ≡ by_count b
  unfolding fault_of
  fault_is b e = ap by_count e

  pub fault_many : 20000 ≤ t.requests → fault_of names f t r ≡ Some (TooManyRequests r.line)
  fault_many h = fault_is true (grind (arith, nat_tests))

  few : t.requests < 20000 → fault_of names f t r ≡ handler_fault f t r (handler_of names f r.name)
  few h = fault_is false (grind (arith, nat_tests))

  -- the later tests, where the handler has this number
  module _ (i : ℕ) (is : i ≡ handler_of names f r.name) where
    abbrev by_words : Bool → Option RequestRefusal
    by_words b = cond (not b) (Some (BadWord r.line)) (sum_fault (with_request f i t) r.line)

    abbrev by_arity : Bool → Option RequestRefusal
    by_arity b = cond (not b) (Some (Arity r.line)) (by_words (list_all is_value r.args))

    abbrev by_handler : Bool → Option RequestRefusal
    by_handler b = cond b (Some (UnknownHandler r.line)) (by_arity (params_at f i == length r.args))

    here : t.requests < 20000 → fault_of names f t r ≡ handler_fault f t r i
    here h = few h ∙ ap (handler_fault f t r) (sym is)

    unknown : t.requests < 20000 → length f.handlers ≤ i → fault_of names f t r ≡ Some (UnknownHandler r.line)
    unknown h l = here h ∙ ap by_handler (let e : nat_le (length f.handlers) i ≡ true = grind (arith, nat_tests) in e)

    present : t.requests < 20000 → i < length f.handlers → fault_of names f t r ≡ by_arity (params_at f i == length r.args)
    present h l = here h ∙ ap by_handler (let e : nat_le (length f.handlers) i ≡ false = grind (arith, nat_tests) in e)

    pub fault_arity : t.requests < 20000 → i < length f.handlers → params_at f i ≢ length r.args → fault_of names f t r ≡ Some (Arity r.line)
    fault_arity h l e = present h l ∙ ap by_arity (let g : (params_at f i == length r.args) ≡ false = grind (arith, nat_tests) in g)

    same_arity : t.requests < 20000 → i < length f.handlers → params_at f i ≡ length r.args → fault_of names f t r ≡ by_words (list_all is_value r.args)
    same_arity h l e = present h l ∙ ap by_arity (let g : (params_at f i == length r.args) ≡ true = grind (arith, nat_tests) in g)

    -- a word that is no value, whatever the number of words
    pub fault_bad : t.requests < 20000 → i < length f.handlers → list_all is_value r.args ≡ false → fault_of names f t r ≡ Some (cond (params_at f i == length r.args) (BadWord r.line) (Arity r.line))
    fault_bad h l w = present h l ∙ go (params_at f i == length r.args)
      where
        go : (b : Bool) → by_arity b ≡ Some (cond b (BadWord r.line) (Arity r.line))
        go true = ap by_words w
        go false = refl

    pub fault_sums : t.requests < 20000 → i < length f.handlers → params_at f i ≡ length r.args → list_all is_value r.args ≡ true → fault_of names f t r ≡ sum_fault (with_request f i t) r.line
    fault_sums h l e w = same_arity h l e ∙ ap by_words w

  pub fault_unknown : t.requests < 20000 → length f.handlers ≤ handler_of names f r.name → fault_of names f t r ≡ Some (UnknownHandler r.line)
  fault_unknown h l = unknown (handler_of names f r.name) refl h l

-- among more names a row has the same fault
pub fault_kept : (old now : List Text) (f : File) (t : Tally) (r : Row) → Begins old now → AreKnown old f → fault_of now f t r ≡ fault_of old f t r
unfolding fault_of
fault_kept old now f t r p k = ap (λ i. cond (nat_le 20000 t.requests) (Some (TooManyRequests r.line)) (handler_fault f t r i)) (handler_kept old now f r.name p k)

-- sums without a fault are within their limits
sums_within : (t : Tally) (line : ℕ) → t.requests ≤ 20000 → sum_fault t line ≡ None → IsWithin t
sums_within t line few none = record { requests = few; calls = calls (nat_lt 200000 t.calls) refl none; work = work (nat_lt 200000 t.calls) (nat_lt 10000000 t.work) refl none }
  where
    calls : (b : Bool) → nat_lt 200000 t.calls ≡ b → cond b (Some (TooManyCalls line)) (cond (nat_lt 10000000 t.work) (Some (TooMuchWork line)) None) ≡ None → t.calls ≤ 200000
    calls true e h = absurd (cc)
    calls false e h = ltb-false 200000 t.calls e

    work : (b c : Bool) → nat_lt 10000000 t.work ≡ c → cond b (Some (TooManyCalls line)) (cond c (Some (TooMuchWork line)) None) ≡ None → t.work ≤ 10000000
    work true c e h = absurd (cc)
    work false true e h = absurd (cc)
    work false false e h = ltb-false 10000000 t.work e

pub values_long : (names ws : List Text) → length (values_of names ws) ≡ length ws
values_long names [] = refl
values_long names (w ∷ ws) = ap suc (values_long names ws)

pub accepted : (old new : List Text) (f : File) (t next : Tally) (r : Row) (i : ℕ) (vs : List Value)
    → i ≡ handler_of old f r.name → i < length f.handlers → t.requests < 20000 → params_at f i ≡ length r.args
    → (list_all is_value r.args ≡ true) × (vs ≡ values_of new r.args) → AllByRecursion IsValue (values_of new r.args) → new ≡ placed_all old r.args → next ≡ with_request f i t → sum_fault next r.line ≡ None
    → Accepted old new f t r (record { handler = i; args = vs }) next
unfolding request_of
accepted old new f t next r i vs at there few arity values held names sums none =
    let count : next.requests ≡ t.requests + 1 = ap (λ (x : Tally). x.requests) sums in
    record {
      fine = fault_sums old f t r i at few there arity values.0 ∙ ap (λ (x : Tally). sum_fault x r.line) (sym sums) ∙ none;
      made = ap (λ n. record { handler = n; args = vs }) at ∙ ap (λ vs. record { handler = handler_of old f r.name; args = vs }) values.1;
      sums = sums;
      names = names;
      within = sums_within next r.line (omega (arith, count, few)) none;
      asked = record { handler = there; args = ap length values.1 ∙ values_long new r.args ∙ sym arity; values = subst (AllByRecursion IsValue) (sym values.1) held };
    }

-- the refusal that is answered is the fault
pub told : {A : Type 0} (f : Option RequestRefusal) (x : RequestRefusal) → f ≡ Some x → (e : RequestRefusal) → (let r : Result A RequestRefusal = Err x in r ≡ Err e) → e ≢ NoMemory → f ≡ Some e
told f x h e is n = let k : x ≡ e = cc in h ∙ ap Some k

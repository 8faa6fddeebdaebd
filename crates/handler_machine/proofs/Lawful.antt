-- The script of a program's requests is lawful.
use Rattle.std.proofs.Common.{◌≡◌, ℕ, zero, suc, ◌+◌, ◌<◌, ◌≤◌, ◌==◌, arith, Bool, true, false, ◌&&◌, if◌then◌else◌, cond, List, [], ◌∷◌, length, nat_lt, Option, None, slice_get, refl, sym, ap, subst}
use Rattle.std.specs.Prelude.{slice_index_or}
use Rattle.std.specs.List.{AllByRecursion}
use Rattle.std.proofs.lemmas.Bool.Decides.{nat_tests}
use Rattle.std.proofs.lemmas.List.{get_or_past}
use Rattle.std.proofs.lemmas.Option.{slice_get_past}
use Rattle.session_values.specs.declared.value.Value.{Value}
use Rattle.session_values.specs.Dialogue.{Next, Calls, Answers, Entry, rest}
use Rattle.session_values.specs.Kinds.{is_adding}
use Rattle.session_values.specs.Sums.{sum_below}
use Rattle.session_values.specs.Values.{IsValue}
use Rattle.session_values.proofs.Sums.{sum_below_le}
use Rattle.symbolic_ops.specs.declared.symbol.Symbol.{Symbol}
use Rattle.session_journal.specs.Script.{HasValues, IsForesight, IsScript, adds_on, calls, room}
use Rattle.check_meaning.specs.Bounds.{adding, adds_bound, calls_bound, weight_of}
use Rattle.check_meaning.specs.Code.{Code, Finish}
use Rattle.check_meaning.specs.Dialogue.{Env, Place, entry, env_of, next, run, told_place, due_place}
use Rattle.check_meaning.specs.Keeps.{IsHeldNext}
use Rattle.check_meaning.proofs.Bounded.{counted, ends_by}
use Rattle.check_meaning.proofs.Held.{calls_fit, keeps_values}
use Rattle.handler_check.specs.Checked.{HandlerWithin}
use Rattle.handler_check.specs.Resolved.{code_at, code_in, shape_of}
use Rattle.handler_check.proofs.Codes.{all_within}
use Rattle.handler_check.proofs.Within.{adds_fewer}
use Rattle.syntax_trees.specs.declared.file.File.{File}
use Rattle.syntax_trees.specs.declared.file.Handler.{Handler}
use Rattle.request_files.specs.declared.request.Request.{Request}
use Rattle.request_files.specs.Servable.{IsRequestOf}
use Rattle.request_files.specs.Session.{request_at}
use Rattle.request_files.proofs.PickedLemmas.{sum_all}
use Rattle.declaration_insertion.specs.Promises.{ArePromised, CoversRest, listed, list_at}
use Rattle.declaration_insertion.specs.Program.{IsProgram, ProgramView, declared_at}
use Rattle.declaration_insertion.proofs.Programs.{program_promised}
use Rattle.handler_machine.specs.Scripts.{KeepsScripts, ScriptsView, meaning}
use Rattle.handler_machine.specs.Serving.{Gives}

-- ---- sums over tickets
pub sum_more : (n : ℕ) (f : ℕ → ℕ) → sum_below (n + 1) f ≡ sum_below n f + f n
sum_more n f = (let e : n + 1 ≡ suc n = omega arith in ap (λ (k : ℕ). sum_below k f) e)

-- ---- the requests
values_at : (f : File) (rs : List Request) (t : ℕ) → AllByRecursion (IsRequestOf f) rs → AllByRecursion IsValue (request_at rs t).args
values_at f [] t h = tt
values_at f (r ∷ rs) zero h = h.0.values
values_at f (r ∷ rs) (suc t) h = values_at f rs t h.1

pub request_is : (f : File) (rs : List Request) (t : ℕ) → t < length rs → AllByRecursion (IsRequestOf f) rs → IsRequestOf f (request_at rs t)
request_is f [] t l h = absurd (omega arith)
request_is f (r ∷ rs) zero l h = h.0
request_is f (r ∷ rs) (suc t) l h = request_is f rs t (omega arith) h.1

-- ---- bounds
same_bit : (b : Bool) → cond {A = ℕ} b 1 0 ≡ (if b then 1 else 0)
same_bit true = refl
same_bit false = refl

adds_same : (i : ℕ) (es : List Entry) → adds_on i es ≡ weight_of (adding i) es
adds_same i [] = refl
adds_same i (e ∷ es) = (let h = adds_same i es in let k = same_bit (is_adding e.op.kind && (e.op.table == i)) in omega arith)

held_next : (n : Next) → IsHeldNext n → HasValues n
held_next (Calls op) h = h
held_next (Answers r) h = h

-- ---- declarations, also of numbers that are no handler's
nothing_promised : (env : Env) → ArePromised Finish (listed []) env
nothing_promised env = record {
  few = λ at. omega arith;
  known = λ at. tt;
  covered = λ rs. tt;
  matched = λ rs ps op held is. cc;
  covers = λ rs front past held is more op k h. cc;
  opening = λ more op k h. cc;
  told = λ rs held more op k h. cc;
  due = λ rs held more op k h. cc;
}

every_handler : (p : ProgramView) → IsProgram p → (h : ℕ) (args : List Value) → AllByRecursion IsValue args → ArePromised (code_at p.file h) (declared_at p h) (env_of args)
every_handler p is h args held = go (nat_lt h (length p.file.handlers)) refl
  where
    lower : nat_lt h (length p.file.handlers) ≡ true → h < length p.file.handlers
    lower e = grind (arith, nat_tests)

    past : nat_lt h (length p.file.handlers) ≡ false → length p.file.handlers ≤ h
    past e = grind (arith, nat_tests)

    go : (b : Bool) → nat_lt h (length p.file.handlers) ≡ b → ArePromised (code_at p.file h) (declared_at p h) (env_of args)
    go true e = program_promised p is h (lower e) args held
    go false e =
        let far : length p.file.handlers ≤ h = past e in
        let same : length p.lists ≡ length p.file.handlers = is.later.count in
        let none : slice_get p.file.handlers h ≡ None = slice_get_past p.file.handlers h far in
        let lists : slice_index_or p.lists h [] ≡ [] = get_or_past p.lists h [] (omega arith) in
        subst (λ (o : Option Handler). ArePromised (code_in p.file o) (declared_at p h) (env_of args)) (sym none)
        (subst (λ (l : List (List Symbol)). ArePromised Finish (listed l) (env_of args)) (sym lists) (nothing_promised (env_of args)))

-- ---- the script
module _ (s : ScriptsView) (k : KeepsScripts s) where
  abbrev file : File
  file = s.program.file

  within : (h : ℕ) → HandlerWithin file h
  within = all_within file k.program.accepted k.program.bounds

  abbrev code : ℕ → Code
  code t = code_at file (request_at s.requests t).handler

  abbrev env : ℕ → Env
  env t = env_of (request_at s.requests t).args

  abbrev declared : ℕ → ℕ → List Symbol
  declared t = declared_at s.program (request_at s.requests t).handler

  promised : (t : ℕ) → ArePromised (code t) (declared t) (env t)
  promised t = every_handler s.program k.program (request_at s.requests t).handler (request_at s.requests t).args (values_at file s.requests t k.servable.each)

  foresight : (t : ℕ) (replies : List Value) (at : Place) → CoversRest (code t) (env t) replies (list_at (declared t) at) → IsForesight (rest (next (code t) (env t)) replies) (list_at (declared t) at)
  foresight t replies at h = record {
    few = (promised t).few at;
    known = (promised t).known at;
    covers = record { each = λ more op held is. h more op held is };
  }

  -- the bounds on all tickets
  few_calls : calls (meaning s) ≤ 200000
  few_calls = (let h = k.servable.calls in let e = sum_all (λ (r : Request). calls_bound (code_at file r.handler)) s.requests in omega arith)

  few_adds : (i : ℕ) → room (meaning s) i ≤ 200000
  few_adds i =
      let h : room (meaning s) i ≤ calls (meaning s) = sum_below_le (length s.requests) (λ t. adds_bound i (code t)) (λ t. calls_bound (code t)) (λ t. adds_fewer i (code t)) in
      let l = few_calls in
      omega arith

  pub is_script : IsScript (meaning s)
  is_script = record {
    opening = refl;
    opened = k.opening;
    fits = λ t replies op is. calls_fit (shape_of file) 32 (code t) (env t) (within (request_at s.requests t).handler).within replies op is;
    values = λ t replies held. held_next (next (code t) (env t) replies) (keeps_values (shape_of file) 32 (code t) (request_at s.requests t).args (within (request_at s.requests t).handler).within (values_at file s.requests t k.servable.each) replies held);
    ends = λ t. ends_by (code t) (env t);
    adds = λ t i es follows. subst (λ (n : ℕ). n ≤ adds_bound i (code t)) (sym (adds_same i es)) (counted (adding i) (code t) (env t) es follows);
    entry = λ t. foresight t [] (entry (env t)) (promised t).opening;
    told = λ t replies held. foresight t replies (told_place (code t) (env t) replies) ((promised t).told replies held);
    due = λ t replies held. foresight t replies (due_place (code t) (env t) replies) ((promised t).due replies held);
    few_requests = k.servable.few;
    few_calls = few_calls;
    few_adds = few_adds;
  }

-- ---- one ticket
-- the script gives its ticket the request's handler
pub gives_ticket : (s : ScriptsView) (t : ℕ) → Gives (meaning s) t (declared_at s.program (request_at s.requests t).handler) (entry (env_of (request_at s.requests t).args)) (run (code_at s.program.file (request_at s.requests t).handler) (env_of (request_at s.requests t).args))
gives_ticket s t = record { next = λ rs. refl; told = λ rs. refl; due = λ rs. refl }

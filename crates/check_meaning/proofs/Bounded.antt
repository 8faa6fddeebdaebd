-- Runs stay within the bounds of their text.
use Rattle.std.proofs.Common.{◌≡◌, ℕ, zero, suc, ◌+◌, ◌*◌, ◌≤◌, Bool, true, false, if◌then◌else◌, List, [], ◌∷◌, length, refl, sym, ap, ◌∙◌, subst, arith}
use Rattle.std.specs.Prelude.{pos}
use Rattle.session_values.specs.declared.value.Value.{Value}
use Rattle.session_values.specs.declared.value.Value.TheVariants.{Num}
use Rattle.session_values.specs.declared.op.Op.{Op}
use Rattle.session_values.specs.declared.reply.Reply.{Reply}
use Rattle.session_values.specs.Dialogue.{Calls as NextCalls, Answers as NextAnswers, Dialogue, Entry, Follows, rest, EndsBy}
use Rattle.session_values.specs.Reply.{reply_of}
use Rattle.check_meaning.specs.Code.{Code, Finish, Move, Ask, Fork, Loop, Quit}
use Rattle.check_meaning.specs.Dialogue.{Env, with_value, value_of, holds, op_of, with_reply, ended, next}
use Rattle.check_meaning.specs.Ahead.{Ahead, asked, passing, answering, goes, turns_then, run_then}
use Rattle.check_meaning.specs.Bounds.{Weight, bound, every, calls_bound, weight_of}
use Rattle.check_meaning.specs.Keeps.{CountsAtMost}
use Rattle.check_meaning.proofs.Runs.{next_whole, ended_passing}

-- ---- what holds of a run by the bound of its text, where it holds of each step
pub record Steps (w : Weight) (P : ℕ → Ahead → Type 0) : Type 0 where
  pub more : (n m : ℕ) (o : Ahead) → n ≤ m → P n o → P m o
  pub passed : (n p : ℕ) (env : Env) (replied : Bool) (o : Ahead) → P n o → P n (passing p env replied o)
  pub called : (op : Op) (n : ℕ) (to : Value → Ahead) → ((v : Value) → P n (to v)) → P (w op.kind op.table + n) (asked op to)
  pub answered : (n : ℕ) (values : List Value) → P n (answering values)

module _ (w : Weight) (P : ℕ → Ahead → Type 0) (s : Steps w P) where
  turns_within : (body : (Env → Ahead) → Env → Ahead) (b x : ℕ) → ((k : Env → Ahead) (m : ℕ) → ((e : Env) → P m (k e)) → (e : Env) → P (b + m) (body k e))
      → (n i : ℕ) (k : Env → Ahead) (m : ℕ) → ((e : Env) → P m (k e)) → (env : Env) → P (n * b + m) (turns_then body x n i k env)
  turns_within body b x h zero i k m t env = s.more m (zero * b + m) (k env) (omega arith) (t env)
  turns_within body b x h (suc n) i k m t env =
      s.more (b + (n * b + m)) (suc n * b + m) (turns_then body x (suc n) i k env) (omega arith)
      (h (turns_then body x n (i + 1) k) (n * b + m) (λ e. turns_within body b x h n (i + 1) k m t e) (with_value env x (Num (pos i))))

  side_within : (r : Bool) (n m : ℕ) (o u : Ahead) → P n o → P m u → (l : ℕ) → n ≤ l → m ≤ l → P l (if r then o else u)
  side_within true n m o u h j l nl ml = s.more n l o nl h
  side_within false n m o u h j l nl ml = s.more m l u ml j

  pub run_within : (code : Code) (k : Env → Ahead) (m : ℕ) → ((e : Env) → P m (k e)) → (env : Env) → P (bound w code + m) (run_then code k env)
  run_within Finish k m t env = s.more m (0 + m) (k env) (omega arith) (t env)
  run_within (Move x e rest) k m t env = run_within rest k m t (with_value env x (value_of e env))
  run_within (Ask at p x c rest) k m t env =
      s.more (w c.kind c.table + (bound w rest + m)) (bound w (Ask at p x c rest) + m) (run_then (Ask at p x c rest) k env) (omega arith)
      (s.called (op_of c env) (bound w rest + m) (λ v. passing p (with_reply x v env) true (run_then rest k (with_reply x v env)))
      (λ v. s.passed (bound w rest + m) p (with_reply x v env) true (run_then rest k (with_reply x v env)) (run_within rest k m t (with_reply x v env))))
  run_within (Fork at p q test a b rest) k m t env =
      let then_rest : (e : Env) → P (bound w rest + m) (run_then rest k e) = λ e. run_within rest k m t e in
      side_within (holds test env) (bound w a + (bound w rest + m)) (bound w b + (bound w rest + m)) (passing p env false (run_then a (run_then rest k) env)) (passing q env false (run_then b (run_then rest k) env))
      (s.passed (bound w a + (bound w rest + m)) p env false (run_then a (run_then rest k) env) (run_within a (run_then rest k) (bound w rest + m) then_rest env))
      (s.passed (bound w b + (bound w rest + m)) q env false (run_then b (run_then rest k) env) (run_within b (run_then rest k) (bound w rest + m) then_rest env))
      (bound w (Fork at p q test a b rest) + m) (omega arith) (omega arith)
  run_within (Loop at p n x body rest) k m t env =
      s.more (n * bound w body + (bound w rest + m)) (bound w (Loop at p n x body rest) + m) (run_then (Loop at p n x body rest) k env) (omega arith)
      (turns_within (run_then body) (bound w body) x (λ j l u e. run_within body j l u e) n 0 (λ e. passing p e false (run_then rest k e)) (bound w rest + m)
      (λ e. s.passed (bound w rest + m) p e false (run_then rest k e) (run_within rest k m t e)) env)
  run_within (Quit es rest) k m t env = s.answered (bound w (Quit es rest) + m) _

-- ---- the operations that are called count no more
abbrev Counts : Weight → ℕ → Ahead → Type 0
Counts w n o = CountsAtMost w n (λ rs. ended (o rs))

counts_called : (w : Weight) (op : Op) (n : ℕ) (to : Value → Ahead) → ((v : Value) → Counts w n (to v)) → Counts w (w op.kind op.table + n) (asked op to)
counts_called w op n to h [] f = omega arith
counts_called w op n to h (e ∷ es) f =
    let calls : NextCalls op ≡ NextCalls e.op = f.0 in
    let is : op ≡ e.op = cc in
    let less : weight_of w es ≤ n = h e.reply es f.1 in
    subst (λ (o : Op). w o.kind o.table + weight_of w es ≤ w op.kind op.table + n) is (omega arith)

counts_answered : (w : Weight) (n : ℕ) (values : List Value) → Counts w n (answering values)
counts_answered w n values [] f = omega arith
counts_answered w n values (e ∷ es) f = (let no : NextAnswers (reply_of values) ≡ NextCalls e.op = f.0 in cc)

counts_goes : (w : Weight) (n : ℕ) (env : Env) → Counts w n (goes env)
counts_goes w n env [] f = omega arith
counts_goes w n env (e ∷ es) f = (let no : NextAnswers (reply_of []) ≡ NextCalls e.op = f.0 in cc)

counts : (w : Weight) → Steps w (Counts w)
counts w = record {
  more = λ n m o le h es f. (let l : weight_of w es ≤ n = h es f in omega arith);
  passed = λ n p env replied o h es f. h es (subst (λ (d : Dialogue). Follows d es) (ended_passing p env replied o) f);
  called = counts_called w;
  answered = counts_answered w;
}

pub counted : (w : Weight) (code : Code) (env : Env) → CountsAtMost w (bound w code) (next code env)
counted w code env es f =
    let g : Follows (λ (rs : List Value). ended (run_then code goes env rs)) es = subst (λ (d : Dialogue). Follows d es) (sym (next_whole code env)) f in
    let l : weight_of w es ≤ bound w code + 0 = run_within w (Counts w) (counts w) code goes 0 (counts_goes w 0) env es g in
    omega arith

pub weight_every : (es : List Entry) → weight_of every es ≡ length es
weight_every [] = refl
weight_every (e ∷ es) = (let h = weight_every es in omega arith)

-- ---- after so many replies it has answered
abbrev Ends : ℕ → Ahead → Type 0
Ends n o = (left : List Value) → n ≤ length left → (r : Reply) × (ended (o left) ≡ NextAnswers r)

ends_called : (op : Op) (n : ℕ) (to : Value → Ahead) → ((v : Value) → Ends n (to v)) → Ends (1 + n) (asked op to)
ends_called op n to h [] le = absurd (omega arith)
ends_called op n to h (v ∷ left) le = h v left (omega arith)

ends : Steps every Ends
ends = record {
  more = λ n m o le h left l. h left (omega arith);
  passed = λ n p env replied o h left l. (let e = h left l in (e.0, ap (λ (d : Dialogue). d left) (ended_passing p env replied o) ∙ e.1));
  called = ends_called;
  answered = λ n values left l. (reply_of values, refl);
}

pub ends_by : (code : Code) (env : Env) → EndsBy (calls_bound code) (next code env)
ends_by code env = record {
  answers = λ rs l.
      (let e = run_within every Ends ends code goes 0 (λ env left k. (reply_of [], refl)) env rs (omega arith) in
      (e.0, sym (ap (λ (d : Dialogue). d rs) (next_whole code env)) ∙ e.1));
}

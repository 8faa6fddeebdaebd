-- Where the literals of a session's handlers, the entries with which its tables open and the arguments of its requests can be printed, so can all replies and tables.
use Rattle.std.proofs.Common.{◌≡◌, ℕ, zero, suc, ◌+◌, Bool, true, false, if◌then◌else◌, List, [], ◌∷◌, ◌++◌, map, Option, Some, None, refl, sym, ap, subst}
use Rattle.std.specs.Prelude.{ℤ, pos, ◌+ℤ◌, ◌-ℤ◌, ◌*ℤ◌, ◌==◌, ◌&&◌, negsuc, int_le}
use Rattle.std.specs.List.{AllByRecursion}
use Rattle.session_values.specs.declared.value.Value.{Value}
use Rattle.session_values.specs.declared.value.Value.TheVariants.{Nil, Num, Sym}
use Rattle.session_values.specs.declared.op.Op.{Op}
use Rattle.session_values.specs.declared.reply.Reply.{Reply}
use Rattle.session_values.specs.Dialogue.{Next, Calls as NextCalls, Answers as NextAnswers, Dialogue, rest}
use Rattle.session_values.specs.Reply.{values_of, reply_of}
use Rattle.session_values.specs.ReplyText.{IsPrintable}
use Rattle.session_values.specs.Serial.{Session, Served, serve, serial, serial_replies, tables_before, answered}
use Rattle.session_values.specs.Tables.{Tables, reply, step}
use Rattle.session_journal.proofs.Serial.{serve-calls, serve-answers}
use Rattle.handler_check.specs.Calc.{Calc}
use Rattle.handler_check.specs.Calc.TheVariants.{Plus, Minus, Times}
use Rattle.handler_check.specs.File.{File}
use Rattle.handler_syntax.specs.Language.{IsNamedFile}
use Rattle.handler_check.specs.CheckedAtom.{CheckedAtom}
use Rattle.handler_check.specs.CheckedAtom.TheVariants.{Lit, Var}
use Rattle.handler_check.specs.Code.{Term, Atom, Calculate, Code, Finish, Move, Ask, Fork, Loop, Quit}
use Rattle.handler_check.specs.Dialogue.{Env, env_of, with_value, in_range, calculated, atom_value, value_of, holds, Place, Outcome, Calls, Answers, Goes, after, then_do, pass, with_reply, turns, run, ended, next}
use Rattle.handler_check.specs.Resolved.{code_at}
use Rattle.request_files.specs.declared.request.Request.{Request}
use Rattle.request_files.specs.Requests.{ArePrintable}
use Rattle.reply_sheet.specs.Printable.{ArePrintableReplies}
use Rattle.session_journal.specs.Opening.{Pair}
use Rattle.table_lines.specs.TableRows.{ArePrintable as ArePrintableEntries}
use Rattle.request_files.specs.Session.{session, request_at}
use Rattle.serve_faults.proofs.PrintableCode.{AtomPrints, TermPrints, CodePrints, file_prints}
use Rattle.serve_faults.proofs.PrintableTables.{Holds as TableHolds, opening_holds, reply_printable, step_holds}

module _ (names : List (List ℕ)) where
  abbrev V : Value → Type 0
  V v = IsPrintable names v

  abbrev All : List Value → Type 0
  All vs = AllByRecursion (IsPrintable names) vs

  -- ---- runs
  abbrev Vars : Env → Type 0
  Vars env = (y : ℕ) → V (env y)

  picked : (b : Bool) (z : ℤ) → V (if b then Num z else Nil)
  picked true z = tt
  picked false z = tt

  number : (z : ℤ) → V (in_range z)
  number z = picked (int_le (negsuc 9223372036854775807) z && int_le z (pos 9223372036854775807)) z

  calculation : (calc : Calc) (v w : Value) → V (calculated calc v w)
  calculation Plus (Num a) (Num b) = number (a +ℤ b)
  calculation Minus (Num a) (Num b) = number (a -ℤ b)
  calculation Times (Num a) (Num b) = number (a *ℤ b)
  calculation Plus Nil w = tt
  calculation Plus (Sym p) w = tt
  calculation Plus (Num a) Nil = tt
  calculation Plus (Num a) (Sym p) = tt
  calculation Minus Nil w = tt
  calculation Minus (Sym p) w = tt
  calculation Minus (Num a) Nil = tt
  calculation Minus (Num a) (Sym p) = tt
  calculation Times Nil w = tt
  calculation Times (Sym p) w = tt
  calculation Times (Num a) Nil = tt
  calculation Times (Num a) (Sym p) = tt

  vars_with : (env : Env) (x : ℕ) (v : Value) → V v → Vars env → Vars (with_value env x v)
  vars_with env x v h k y = pick (y == x)
    where
      pick : (b : Bool) → V (if b then v else env y)
      pick true = h
      pick false = k y

  vars_reply : (x : Option ℕ) (v : Value) (env : Env) → V v → Vars env → Vars (with_reply x v env)
  vars_reply None v env h k = k
  vars_reply (Some x) v env h k = vars_with env x v h k

  atom_said : (a : CheckedAtom) (env : Env) → AtomPrints names a → Vars env → V (atom_value a env)
  atom_said (Lit v) env w k = w
  atom_said (Var x) env w k = k x

  term_said : (e : Term) (env : Env) → TermPrints names e → Vars env → V (value_of e env)
  term_said (Atom a) env w k = atom_said a env w k
  term_said (Calculate calc l r) env w k = calculation calc (value_of l env) (value_of r env)

  terms_said : (es : List Term) (env : Env) → AllByRecursion (TermPrints names) es → Vars env → All (map (λ e. value_of e env) es)
  terms_said [] env w k = tt
  terms_said (e ∷ es) env w k = (term_said e env w.0 k, terms_said es env w.1 k)

  -- what is said by an outcome
  abbrev Said : Outcome → Type 0
  Said (Calls passed op) = V op.key × V op.value
  Said (Answers passed values) = All values
  Said (Goes passed env left) = Vars env × All left

  abbrev Goal : (Env → List Value → Outcome) → Type 0
  Goal f = (env : Env) (left : List Value) → Vars env → All left → Said (f env left)

  said_after : (ps : List Place) (o : Outcome) → Said o → Said (after ps o)
  said_after ps (Calls qs op) h = h
  said_after ps (Answers qs vs) h = h
  said_after ps (Goes qs env left) h = h

  abbrev at : ℕ → Env → Bool → List Place
  at p env replied = record { point = p; env = env; replied = replied } ∷ []

  said_then : (o : Outcome) (f : Env → List Value → Outcome) → Said o → Goal f → Said (then_do o f)
  said_then (Calls qs op) f h k = h
  said_then (Answers qs vs) f h k = h
  said_then (Goes qs env left) f h k = said_after qs (f env left) (k env left h.0 h.1)

  said_turns : (body : Env → List Value → Outcome) (x : ℕ) → Goal body → (m i : ℕ) → Goal (turns body x m i)
  said_turns body x h zero i env left e l = (e, l)
  said_turns body x h (suc m) i env left e l =
      said_then (body (with_value env x (Num (pos i))) left) (turns body x m (i + 1)) (h (with_value env x (Num (pos i))) left (vars_with env x (Num (pos i)) tt e) l) (said_turns body x h m (i + 1))

  said_side : (r : Bool) (p q : ℕ) (env : Env) (o u : Outcome) → Said o → Said u → Said (if r then pass p env false o else pass q env false u)
  said_side true p q env o u h k = said_after (at p env false) o h
  said_side false p q env o u h k = said_after (at q env false) u k

  said_run : (code : Code) → CodePrints names code → Goal (run code)
  said_run Finish w env left e l = (e, l)
  said_run (Move x t rest) w env left e l = said_run rest w.1 (with_value env x (value_of t env)) left (vars_with env x (value_of t env) (term_said t env w.0 e) e) l
  said_run (Ask place p x c rest) w env [] e l = (atom_said c.key env w.0.0 e, atom_said c.value env w.0.1 e)
  said_run (Ask place p x c rest) w env (v ∷ left) e l = said_after (at p (with_reply x v env) true) (run rest (with_reply x v env) left) (said_run rest w.1 (with_reply x v env) left (vars_reply x v env l.0 e) l.1)
  said_run (Fork place p q test a b rest) w env left e l =
      said_then (if holds test env then pass p env false (run a env left) else pass q env false (run b env left)) (run rest)
      (said_side (holds test env) p q env (run a env left) (run b env left) (said_run a w.0 env left e l) (said_run b w.1 env left e l)) (said_run rest w.2)
  said_run (Loop place p m x body rest) w env left e l =
      said_then (turns (run body) x m 0 env left) (λ f k. pass p f false (run rest f k)) (said_turns (run body) x (said_run body w.0) m 0 env left e l)
      (λ f k ef lk. said_after (at p f false) (run rest f k) (said_run rest w.1 f k ef lk))
  said_run (Quit es rest) w env left e l = terms_said es env w.0 e

  -- ---- dialogues
  -- the values of a reply are those that it was made of
  reply_values : (vs : List Value) → All vs → All (values_of (reply_of vs))
  reply_values [] h = (tt, tt)
  reply_values (a ∷ []) h = (h.0, tt)
  reply_values (a ∷ b ∷ []) h = (h.0, (h.1.0, tt))
  reply_values (a ∷ b ∷ c ∷ []) h = (h.0, (h.1.0, (h.1.1.0, tt)))
  reply_values (a ∷ b ∷ c ∷ d ∷ more) h = (h.0, (h.1.0, (h.1.1.0, (h.1.1.1.0, tt))))

  abbrev pub NextSaid : Next → Type 0
  NextSaid (NextCalls op) = V op.key × V op.value
  NextSaid (NextAnswers r) = All (values_of r)

  -- where replies can be printed, so can what comes next
  abbrev pub Prints : Dialogue → Type 0
  Prints f = (replies : List Value) → All replies → NextSaid (f replies)

  ended_said : (o : Outcome) → Said o → NextSaid (ended o)
  ended_said (Calls passed op) h = h
  ended_said (Answers passed values) h = reply_values values h
  ended_said (Goes passed env left) h = reply_values [] tt

  handler_prints : (code : Code) (env : Env) → CodePrints names code → Vars env → Prints (next code env)
  handler_prints code env w e replies l = ended_said (run code env replies) (said_run code w env replies e l)

  -- ---- serving
  pub record ServedSaid (s : Served) : Type 0 where
    pub answer : ArePrintableReplies names (answered s.answer)
    pub after : AllByRecursion (TableHolds names) s.after

  answers_said : (n : ℕ) (f : Dialogue) (ts : Tables) (r : Reply) → f [] ≡ NextAnswers r → NextSaid (f []) → AllByRecursion (TableHolds names) ts → ServedSaid (serve n f ts)
  answers_said n f ts r e h k = subst ServedSaid (sym (serve-answers n f ts r e)) (record { answer = (subst NextSaid e h, tt); after = k })

  serve_said : (n : ℕ) (f : Dialogue) (ts : Tables) → Prints f → AllByRecursion (TableHolds names) ts → ServedSaid (serve n f ts)
  serve_said zero f ts h k = elim (f []) as (λ x. f [] ≡ x → ServedSaid (serve zero f ts)) [
    | NextCalls op ↦ λ e. subst ServedSaid (sym (stopped op e)) (record { answer = tt; after = k })
    | NextAnswers r ↦ λ e. answers_said zero f ts r e (h [] tt) k
  ] refl
    where
      stopped : (op : Op) → f [] ≡ NextCalls op → serve zero f ts ≡ record { entries = []; answer = None; after = ts }
      stopped op e = ap (λ (x : Next). elim x as (λ _. Served) [ NextCalls op ↦ record { entries = []; answer = None; after = ts } | NextAnswers s ↦ record { entries = []; answer = Some s; after = ts } ]) e
  serve_said (suc n) f ts h k = elim (f []) as (λ x. f [] ≡ x → ServedSaid (serve (suc n) f ts)) [
    | NextCalls op ↦ λ e.
        (let v : Value = reply ts op in
        let said : V v = reply_printable names ts op k in
        let stored : V op.key × V op.value = subst NextSaid e (h [] tt) in
        let more = serve_said n (rest f (v ∷ [])) (step ts op) (λ replies l. h (v ∷ replies) (said, l)) (step_holds names ts op k stored.0 stored.1) in
        subst ServedSaid (sym (serve-calls n f ts op e)) (record { answer = more.answer; after = more.after }))
    | NextAnswers r ↦ λ e. answers_said (suc n) f ts r e (h [] tt) k
  ] refl

  -- ---- sessions
  replies_more : (rs ss : List Reply) → ArePrintableReplies names rs → ArePrintableReplies names ss → ArePrintableReplies names (rs ++ ss)
  replies_more [] ss h k = k
  replies_more (r ∷ rs) ss h k = (h.0, replies_more rs ss h.1 k)

  args_said : (args : List Value) → All args → Vars (env_of args)
  args_said [] h x = tt
  args_said (v ∷ vs) h zero = h.0
  args_said (v ∷ vs) h (suc x) = args_said vs h.1 x

  request_said : (rs : List Request) (t : ℕ) → ArePrintable names rs → All (request_at rs t).args
  request_said [] t h = tt
  request_said (r ∷ rs) zero h = h.0
  request_said (r ∷ rs) (suc t) h = request_said rs t h.1

  module _ (file : File) (opened : List (List Pair)) (rs : List Request) (named : IsNamedFile names file) (opens : ArePrintableEntries names opened) (requests : ArePrintable names rs) where
    abbrev this : Session
    this = session file opened rs

    pub ticket_prints : (t : ℕ) → Prints (this.next t)
    ticket_prints t = handler_prints (code_at file (request_at rs t).handler) (env_of (request_at rs t).args) (file_prints names file (request_at rs t).handler named) (args_said (request_at rs t).args (request_said rs t requests))

    pub tables_hold : (t : ℕ) → AllByRecursion (TableHolds names) (tables_before this t)
    tables_hold zero = opening_holds names this.shape opened opens
    tables_hold (suc t) = (serve_said (this.length t) (this.next t) (tables_before this t) (ticket_prints t) (tables_hold t)).after

    pub replies_said : (n : ℕ) → ArePrintableReplies names (serial_replies this n)
    replies_said zero = tt
    replies_said (suc t) =
        replies_more (serial_replies this t) (answered (serial this t).answer) (replies_said t) (serve_said (this.length t) (this.next t) (tables_before this t) (ticket_prints t) (tables_hold t)).answer
